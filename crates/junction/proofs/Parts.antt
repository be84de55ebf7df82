-- What one more feeding port adds: to the counts, to the search for a dry port.
use Rattle.std.proofs.Common.{◌≡◌, ℕ, zero, suc, ◌+◌, ◌-◌, ◌*◌, ◌<◌, ◌≤◌, Bool, true, false, cond, ◌≢◌, length, Some, None, sym, ap, ◌∙◌, subst, ⊎_elim, add-one, arith}
use Rattle.std.proofs.lemmas.Bool.Decides.{nat_tests}
use Rattle.std.proofs.lemmas.Grind.{common_steps}
use Rattle.std.proofs.lemmas.Bool.{and_parts, cases_Bool, cases_eq, ltb-true, eqb-true}
use Rattle.bank.specs.Ports.{Port, Sound}
use Rattle.junction.specs.Gather.{join, part, gather, shorter, dry, dry_from}
use Rattle.junction.specs.Limits.{length_lines, part_few}
use Rattle.junction.specs.declared.as_one.Tally.{Tally}
use Rattle.junction.specs.Counting.{tally_of, joined, dried}

tally_join : (a b : Port) → joined (tally_of a) (tally_of b) ≡ tally_of (join a b)
tally_join a b = λ i. record { gauges = a.gauges + b.gauges; waiting = sym (length_lines a.gauges b.gauges a.waiting b.waiting) i }

-- ---- dry ports
-- a port has a gauge and no reading
abbrev pub Dry : Port → Type 0
Dry a = (0 < a.gauges) × (length a.waiting ≡ 0)

dry_is : (a : Port) → dry a ≡ true → Dry a
dry_is a e = let t = and_parts _ _ e in (ltb-true _ _ t.0, eqb-true _ _ t.1)

-- counted, a port is dry or not
pub told_dry : (a : Port) (c : Tally) (r t : Bool) → c ≡ tally_of a → r ≡ dried c → r ≡ t → dry a ≡ t
told_dry a c r t e d k = sym (ap dried e) ∙ sym d ∙ k

-- a port with a gauge has a reading
abbrev pub Wet : Port → Type 0
Wet a = 0 < a.gauges → 0 < length a.waiting

wet_is : (a : Port) → dry a ≡ false → Wet a
wet_is a e h = grind (arith, common_steps, nat_tests)

wet_shorter : (m n a b : ℕ) → (0 < m → 0 < a) → (0 < n → 0 < b) → 0 < m + n → 0 < shorter m a n b
wet_shorter zero n a b h k e = k (omega arith)
wet_shorter (suc m) zero a b h k e = h (omega arith)
wet_shorter (suc m) (suc n) a b h k e = let x = h (omega arith) in let y = k (omega arith) in omega arith

wet_join : (a b : Port) → Wet a → Wet b → Wet (join a b)
wet_join a b h k e = rw (length_lines a.gauges b.gauges a.waiting b.waiting) (wet_shorter a.gauges b.gauges _ _ h k e)

dry_first : (m a n b : ℕ) → 0 < m → a ≡ 0 → shorter m a n b ≡ 0
dry_first m a n b h e = grind arith

dry_second : (m a n b : ℕ) → 0 < n → b ≡ 0 → shorter m a n b ≡ 0
dry_second m a n b h e = grind arith

module _ (f : ℕ → ℕ) (m : ℕ → Port) (p : ℕ) where
  -- ---- one turn of a loop that counts
  pub gather_next : (n : ℕ) → gather f m p (n + 1) ≡ join (gather f m p n) (part f m p n)
  unfolding gather
  gather_next n = ap (gather f m p) (add-one n)

  -- no more than eight gauges come from each port
  pub gather_few : ((q : ℕ) → Sound (m q)) → (n : ℕ) → (gather f m p n).gauges ≤ 8 * n
  unfolding gather
  gather_few ok zero = omega arith
  gather_few ok (suc n) = omega (arith, gather_few ok n, part_few f m p ok n)

  pub tally_next : (n : ℕ) (s c : Tally) → s ≡ tally_of (gather f m p n) → c ≡ tally_of (part f m p n) → joined s c ≡ tally_of (gather f m p (n + 1))
  tally_next n s c es ec = (λ i. joined (es i) (ec i)) ∙ tally_join (gather f m p n) (part f m p n) ∙ sym (ap tally_of (gather_next n))

  -- ---- one turn of the search
  pub dry_turn : (q : ℕ) → q ≤ 31 → dry_from f m p q (32 - q) ≡ cond (dry (part f m p q)) (Some q) (dry_from f m p (q + 1) (32 - (q + 1)))
  unfolding dry_from
  dry_turn q h =
      let n : 32 - q ≡ suc (31 - q) = omega arith in
      let k : 31 - q ≡ 32 - (q + 1) = omega arith in
      ap (dry_from f m p q) n ∙ (λ i. cond (dry (part f m p q)) (Some q) (dry_from f m p (sym (add-one q) i) (k i)))

  pub dry_found : (q : ℕ) → q ≤ 31 → dry (part f m p q) ≡ true → dry_from f m p q (32 - q) ≡ Some q
  dry_found q h e = dry_turn q h ∙ ap (λ (b : Bool). cond b (Some q) (dry_from f m p (q + 1) (32 - (q + 1)))) e

  pub dry_passed : (q : ℕ) → q ≤ 31 → dry (part f m p q) ≡ false → dry_from f m p q (32 - q) ≡ dry_from f m p (q + 1) (32 - (q + 1))
  dry_passed q h e = dry_turn q h ∙ ap (λ (b : Bool). cond b (Some q) (dry_from f m p (q + 1) (32 - (q + 1)))) e

  pub dry_ended : (q : ℕ) → 31 < q → dry_from f m p q (32 - q) ≡ None
  unfolding dry_from
  dry_ended q h = let z : 32 - q ≡ 0 = omega arith in ap (dry_from f m p q) z

  -- ---- what the search tells of the gathered port
  dry_gather : (n q : ℕ) → q < n → Dry (part f m p q) → Dry (gather f m p n)
  unfolding gather
  dry_gather zero q h d = absurd (omega arith)
  dry_gather (suc n) q h d =
      let a = gather f m p n in
      let b = part f m p n in
      ⊎_elim
      (λ (e : q ≡ n). let k : Dry b = subst (λ (x : ℕ). Dry (part f m p x)) e d in
      (omega (arith, k.0), length_lines a.gauges b.gauges a.waiting b.waiting ∙ dry_second a.gauges _ b.gauges _ k.0 k.1))
      (λ (e : q ≢ n). let k = dry_gather n q (omega arith) d in
      (omega (arith, k.0), length_lines a.gauges b.gauges a.waiting b.waiting ∙ dry_first a.gauges _ b.gauges _ k.0 k.1))
      (cases_eq q n)

  pub some_dry : (n q l x : ℕ) → q + n ≤ l → dry_from f m p q n ≡ Some x → Dry (gather f m p l)
  unfolding dry_from
  some_dry zero q l x h e = let z : ◌≡◌ {A = ℕ} 0 1 = cc in absurd (omega arith)
  some_dry (suc n) q l x h e =
      ⊎_elim
      (λ (d : dry (part f m p q) ≡ true). dry_gather l q (omega arith) (dry_is (part f m p q) d))
      (λ (d : dry (part f m p q) ≡ false). some_dry n (suc q) l x (omega arith) (sym (ap (λ (b : Bool). cond b (Some q) (dry_from f m p (suc q) n)) d) ∙ e))
      (cases_Bool (dry (part f m p q)))

  pub none_dry : (n q : ℕ) → dry_from f m p q n ≡ None → (k : ℕ) → q ≤ k → k < q + n → Wet (part f m p k)
  unfolding dry_from
  none_dry zero q e k h l = absurd (omega arith)
  none_dry (suc n) q e k h l =
      ⊎_elim
      (λ (d : dry (part f m p q) ≡ true). let s : Some q ≡ None = sym (ap (λ (b : Bool). cond b (Some q) (dry_from f m p (suc q) n)) d) ∙ e in let z : ◌≡◌ {A = ℕ} 0 1 = cc in absurd (omega arith))
      (λ (d : dry (part f m p q) ≡ false).
      let r : dry_from f m p (suc q) n ≡ None = sym (ap (λ (b : Bool). cond b (Some q) (dry_from f m p (suc q) n)) d) ∙ e in
      ⊎_elim
      (λ (x : k ≡ q). subst (λ (j : ℕ). Wet (part f m p j)) (sym x) (wet_is (part f m p q) d))
      (λ (x : k ≢ q). none_dry n (suc q) r k (omega arith) (omega arith))
      (cases_eq k q))
      (cases_Bool (dry (part f m p q)))

  pub wet_gather : (n : ℕ) → ((q : ℕ) → q < n → Wet (part f m p q)) → Wet (gather f m p n)
  unfolding gather
  wet_gather zero h = λ e. absurd (omega arith)
  wet_gather (suc n) h = wet_join (gather f m p n) (part f m p n) (wet_gather n (λ q k. h q (omega arith))) (h n (omega arith))
