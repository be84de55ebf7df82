-- What a table of dials gives.
use Rattle.std.proofs.Common.{◌≡◌, ℕ, zero, suc, ◌-◌, ◌<◌, ◌≢◌, List, length, get_or, set, replicate, ℤ, refl, ap, ◌∙◌, ⊎_elim, sub-one}
use Rattle.std.proofs.lemmas.Bool.{eq-eqb, ne_eqb, cases_eq}
use Rattle.std.proofs.lemmas.List.{get_or-set_other, get_or-set_same}
use Rattle.bank.specs.declared.dial.Dial.{Dial}
use Rattle.bank.specs.Ports.{rest, less_at}
use Rattle.bank.specs.Dials.{still, still_at, setting_of, setting_at, spent, given}

pub still_copies : (d : Dial) → setting_of d ≡ still_at 0 → (n k : ℕ) → setting_of (get_or (replicate n d) k still) ≡ still_at k
still_copies d e zero k = refl
still_copies d e (suc n) zero = e
still_copies d e (suc n) (suc k) = still_copies d e n k

rest_copies : (n : ℕ) (d : ℤ) → replicate (n - 1) d ≡ rest (replicate n d)
rest_copies zero d = refl
rest_copies (suc n) d = rw sub-one

-- the digits given after one conversion of the dial of port p
pub given_turned : (ds : List Dial) (q p : ℕ) (d : Dial) → q ≡ p → p < length ds → setting_of d ≡ spent (setting_at ds p) → given (setting_at (set ds q d)) ≡ less_at (given (setting_at ds)) p
given_turned ds q p d o l e = λ i. λ k. (ap (λ (m : ℕ). given (setting_at (set ds m d)) k) o ∙ at k) i where
  at : (k : ℕ) → given (setting_at (set ds p d)) k ≡ less_at (given (setting_at ds)) p k
  at k = ⊎_elim
      (λ (c : k ≡ p).
      let b = eq-eqb k p c in
      let s : setting_of (get_or (set ds p d) p still) ≡ spent (setting_at ds p) = ap setting_of (get_or-set_same ds p d still l) ∙ e in
      rw (b, c) ((λ i. replicate (s i).conversions (s i).digits) ∙ rest_copies (setting_at ds p).conversions (setting_at ds p).digits))
      (λ (c : k ≢ p).
      let b = ne_eqb k p c in
      let s : setting_of (get_or (set ds p d) k still) ≡ setting_at ds k = ap setting_of (get_or-set_other ds p k d still c) in
      rw b (λ i. replicate (s i).conversions (s i).digits))
      (cases_eq k p)
