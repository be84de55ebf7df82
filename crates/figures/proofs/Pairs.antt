-- The table of pairs of figures. Assumes nothing.
use Rattle.std.proofs.Common.{◌≡◌, ℕ, zero, suc, ◌+◌, ◌-◌, ◌*◌, ◌/◌, ◌%◌, ◌<◌, Bool, true, ◌&&◌, T, eqb, List, [], ◌∷◌, length, get_or, take, drop, ap, ◌∙◌, inl, inr, arith, eq-zero-or-pos, eqb→eq, drop-cons}
use lib.Ieee.Fits.{and_l, and_r}
use Rattle.figures.specs.declared.TheConstants.{PAIRS}

-- whether the first n pairs are those of 0, 1, 2 ..
abbrev are_pairs : ℕ → Bool
are_pairs zero = true
are_pairs (suc p) = (eqb (get_or PAIRS (2 * p) 0) (48 + p / 10) && eqb (get_or PAIRS (2 * p + 1) 0) (48 + p % 10)) && are_pairs p

below : (n p : ℕ) → T (are_pairs n) → p < n → (get_or PAIRS (2 * p) 0 ≡ 48 + p / 10) × (get_or PAIRS (2 * p + 1) 0 ≡ 48 + p % 10)
below zero p t h = absurd (omega arith)
below (suc n) p t h =
    elim (eq-zero-or-pos (n - p)) [
      | inl z ↦ let e : p ≡ n = omega arith in let a = and_l _ (are_pairs n) t in rw e (eqb→eq _ _ (and_l _ _ a), eqb→eq _ _ (and_r _ _ a))
      | inr g ↦ below n p (and_r _ (are_pairs n) t) (omega arith)
    ]

pair_at : (p : ℕ) → p < 100 → (get_or PAIRS (2 * p) 0 ≡ 48 + p / 10) × (get_or PAIRS (2 * p + 1) 0 ≡ 48 + p % 10)
pair_at p h = below 100 p tt h

-- the two elements at a place
two_at : (xs : List ℕ) (a : ℕ) → a + 1 < length xs → take 2 (drop a xs) ≡ get_or xs a 0 ∷ get_or xs (a + 1) 0 ∷ []
two_at xs a h =
    let up : suc a ≡ a + 1 = omega arith in
    ap (take 2) (drop-cons xs a 0 (omega arith) ∙ (λ i. get_or xs a 0 ∷ drop (up i) xs) ∙ ap (λ l. get_or xs a 0 ∷ l) (drop-cons xs (a + 1) 0 h))

pub pair_text : (p : ℕ) → p < 100 → take (2 * p + 2 - 2 * p) (drop (2 * p) PAIRS) ≡ (48 + p / 10) ∷ (48 + p % 10) ∷ []
pair_text p h =
    let two : 2 * p + 2 - 2 * p ≡ 2 = omega arith in
    let e = pair_at p h in
    ap (λ k. take k (drop (2 * p) PAIRS)) two ∙ two_at PAIRS (2 * p) (omega arith) ∙ (λ i. e.0 i ∷ e.1 i ∷ [])
