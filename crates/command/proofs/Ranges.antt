-- One of some values, and numbers past every limit. Assumes nothing.
use Rattle.std.proofs.Common.{◌≡◌, Bool, true, false, ◌&&◌, ◌||◌, List, [], ◌∷◌, ℤ, refl, subst, ⊎_elim, arith, lit<, w32, SFits}
use lib.Signed.{le_z}
use Rattle.std.specs.List.{list_any, AllByRecursion}
use Rattle.std.specs.Ordering.{int_cmp, int_eq, is_le}
use Rattle.std.proofs.lemmas.Int.{ints}
use Rattle.std.proofs.lemmas.Bool.{or_cases, both_ways}
use Rattle.command.specs.Arguments.{formats, steps, among}

abbrev level : ℤ → ℤ → Bool
level v n = le_z v n && le_z n v

pub le_is : (m n : ℤ) → is_le (int_cmp m n) ≡ le_z m n
le_is m n = grind (arith, ints)

level_is : (v n : ℤ) → int_eq v n ≡ level v n
level_is v n = grind (arith, ints)

level_same : (v n : ℤ) → level v n ≡ true → v ≡ n
level_same v n e = grind (arith, ints)

pub among_is : (vs : List ℤ) (n : ℤ) → list_any (λ v. int_eq v n) vs ≡ among vs n
unfolding among
among_is [] n = refl
among_is (v ∷ vs) n = λ i. level_is v n i || among_is vs n i

pub among_fits : (vs : List ℤ) → AllByRecursion (SFits w32) vs → (n : ℤ) → among vs n ≡ true → SFits w32 n
unfolding among
among_fits [] f n e = absurd (both_ways false refl e)
among_fits (v ∷ vs) f n e =
    ⊎_elim (λ y. subst (SFits w32) (level_same v n y) f.0) (λ z. among_fits vs f.1 n z) (or_cases (level v n) (among vs n) e)

pub formats_fit : AllByRecursion (SFits w32) formats
formats_fit = (record { sfits = lit< tt }, (record { sfits = lit< tt }, (record { sfits = lit< tt }, (record { sfits = lit< tt }, (record { sfits = lit< tt }, (record { sfits = lit< tt }, (record { sfits = lit< tt }, (record { sfits = lit< tt }, (record { sfits = lit< tt }, (record { sfits = lit< tt }, (record { sfits = lit< tt }, (record { sfits = lit< tt }, (record { sfits = lit< tt }, (record { sfits = lit< tt }, (record { sfits = lit< tt }, (record { sfits = lit< tt }, tt))))))))))))))))

pub steps_fit : AllByRecursion (SFits w32) steps
steps_fit = (record { sfits = lit< tt }, (record { sfits = lit< tt }, (record { sfits = lit< tt }, (record { sfits = lit< tt }, (record { sfits = lit< tt }, (record { sfits = lit< tt }, (record { sfits = lit< tt }, tt)))))))
