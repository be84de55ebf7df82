-- The longest front of a list whose elements pass a test. Assumes nothing.
use Rattle.std.proofs.Common.{◌≡◌, ℕ, suc, ◌+◌, Bool, true, false, cond, ◌&&◌, eqb, List, [], ◌∷◌, length, take, refl, ap, ◌∙◌, one-add, arith}
use Rattle.std.specs.List.{prefix_len, list_all, AllByRecursion}
use Rattle.std.proofs.lemmas.Bool.Decides.{nat_tests}

module _ {X : Type 0} (p : X → Bool) where
  abbrev pub Passes : List X → Type 0
  Passes xs = AllByRecursion (λ x. p x ≡ true) xs

  passes_step : (x : X) (xs : List X) (b : Bool) → p x ≡ b → Passes (take (prefix_len p xs) xs) → Passes (take (cond b (1 + prefix_len p xs) 0) (x ∷ xs))
  passes_step x xs true e h = rw one-add (e, h)
  passes_step x xs false e h = tt

  -- each element of the front passes
  pub front_passes : (xs : List X) → Passes (take (prefix_len p xs) xs)
  front_passes [] = tt
  front_passes (x ∷ xs) = passes_step x xs (p x) refl (front_passes xs)

  whole_step : (b : Bool) (m n : ℕ) (c : Bool) → c ≡ eqb m n → (b && c) ≡ eqb (cond b (1 + m) 0) (suc n)
  whole_step true m n c e = grind (arith, nat_tests)
  whole_step false m n c e = grind (arith, nat_tests)

  -- a test of each element asks whether the front is the whole list
  pub all_front : (xs : List X) → list_all p xs ≡ eqb (prefix_len p xs) (length xs)
  all_front [] = refl
  all_front (x ∷ xs) = whole_step (p x) (prefix_len p xs) (length xs) (list_all p xs) (all_front xs)

  -- where each element passes, the front is the whole list
  pub front_all : (xs : List X) → Passes xs → prefix_len p xs ≡ length xs
  front_all [] h = refl
  front_all (x ∷ xs) h = ap (λ b. cond b (1 + prefix_len p xs) 0) h.0 ∙ one-add (prefix_len p xs) ∙ ap suc (front_all xs h.1)
