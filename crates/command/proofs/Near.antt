-- The first of sixteen bytes that is one of two, by the lanes of a vector. Assumes nothing.
use Rattle.std.proofs.Common.{◌≡◌, ℕ, suc, ◌+◌, ◌*◌, ◌%◌, ◌^◌, ◌<◌, ◌≤◌, Bool, true, false, cond, not, ◌||◌, eqb, List, [], ◌∷◌, length, take, drop, map, replicate, bit_or, Some, sym, refl, ap, ◌∙◌, arith}
use Rattle.std.specs.List.{prefix_len}
use Rattle.std.specs.Int.Count.{count_trailing_zeros}
use Rattle.std.specs.Simd.Lanes.{mask_l, zip2, top}
use Rattle.std.proofs.lemmas.List.{take-append-drop, length-take-le, length-map}
use Rattle.std.proofs.lemmas.List.Folds.{prefix_len-append}
use Rattle.std.proofs.lemmas.Bool.{cond-true, cond-false, lt-ltb, ne_eqb}
use Rattle.std.proofs.lemmas.Simd.{zip2_splat, zip2-map, map-map, mask_l-mod, trailing_mask_l}
use Rattle.command.specs.Cuts.{other, first_of}

-- a lane is set where a byte is x or y
abbrev pub either : ℕ → ℕ → ℕ → Bool
either x y b = eqb b x || eqb b y

abbrev lane : ℕ → ℕ → ℕ
lane x b = cond (eqb b x) 255 0

joined : (p q : Bool) → top 7 (bit_or (cond p 255 0) (cond q 255 0)) ≡ (p || q)
joined true true = refl
joined true false = refl
joined false true = refl
joined false false = refl

pub lanes_are : (x y : ℕ) (bs : List ℕ) (n : ℕ) → length bs ≡ n → n ≤ 64
    → mask_l (map (top 7) (zip2 bit_or (zip2 (λ a b. cond (eqb a b) 255 0) bs (replicate n x)) (zip2 (λ a b. cond (eqb a b) 255 0) bs (replicate n y)))) % 2 ^ 64 ≡ mask_l (map (either x y) bs)
lanes_are x y bs n e l =
    let f : ℕ → ℕ → ℕ = λ a b. cond (eqb a b) 255 0 in
    let lanes = (λ i. map (top 7) (zip2 bit_or (zip2_splat f bs n x e i) (zip2_splat f bs n y e i)))
    ∙ ap (map (top 7)) (zip2-map bit_or (lane x) (lane y) bs) ∙ map-map (top 7) (λ b. bit_or (lane x b) (lane y b)) bs
    ∙ (λ i. map (λ b. joined (eqb b x) (eqb b y) i) bs) in
    ap (λ ms. mask_l ms % 2 ^ 64) lanes ∙ mask_l-mod (map (either x y) bs) 64 (omega (arith, length-map bs (either x y)))

-- where a lane is set, one byte passes
some_set : (p : ℕ → Bool) (bs : List ℕ) → 0 < mask_l (map p bs) → prefix_len (λ b. not (p b)) bs < length bs
some_set p [] h = absurd (omega arith)
some_set p (b ∷ bs) h = step (p b) h (λ k. some_set p bs k)
  where
    step : (q : Bool) → 0 < cond q 1 0 + 2 * mask_l (map p bs) → (0 < mask_l (map p bs) → prefix_len (λ x. not (p x)) bs < length bs)
        → cond (not q) (1 + prefix_len (λ x. not (p x)) bs) 0 < suc (length bs)
    step true k f = omega arith
    step false k f = let r = f (omega arith) in omega arith

-- the first of the bytes that are looked at is the first of all
module _ (x y : ℕ) (bs : List ℕ) (n : ℕ) (within : n ≤ length bs) (h : 0 < mask_l (map (either x y) (take n bs))) where
  front_stops : prefix_len (other x y) (take n bs) < length (take n bs)
  front_stops = some_set (either x y) (take n bs) h

  whole_is : prefix_len (other x y) bs ≡ prefix_len (other x y) (take n bs)
  whole_is =
      let k = prefix_len (other x y) (take n bs) in
      ap (prefix_len (other x y)) (sym (take-append-drop n bs)) ∙ prefix_len-append (other x y) (take n bs) (drop n bs)
      ∙ cond-false (eqb k (length (take n bs))) _ _ (ne_eqb k (length (take n bs)) (λ e. omega (arith, front_stops)))

  pub place_is : n ≤ 64 → count_trailing_zeros 64 (mask_l (map (either x y) (take n bs))) ≡ prefix_len (other x y) bs
  place_is l = trailing_mask_l (either x y) 64 (take n bs) (omega (arith, length-take-le n bs within)) h ∙ sym whole_is

  pub place_within : prefix_len (other x y) bs < length bs
  place_within = omega (arith, front_stops, whole_is, length-take-le n bs within)

  pub first_is : first_of x y bs ≡ Some (prefix_len (other x y) bs)
  unfolding first_of
  first_is = cond-true _ _ _ (lt-ltb (prefix_len (other x y) bs) (length bs) place_within)
