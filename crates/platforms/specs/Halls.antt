-- The hall of the platform: five dials, of which the first four are joined.
use Rattle.std.specs.Prelude.{ℕ, ◌-◌, cond, ◌&&◌, List, [], ◌∷◌, length, ℤ, pos, Some, None, nat_le, slice_index_or}
use Rattle.bank.specs.Dials.{dialled}
use Rattle.bank.specs.Ports.{Port}
use Rattle.junction.specs.Piles.{pile}
use Rattle.junction.specs.declared.joins.Join.{Join}

-- the digits of the dials at ports 1 to 5
abbrev pub digits : List ℤ
digits = pos 250125 ∷ pos 250124 ∷ pos 250126 ∷ pos 250125 ∷ pos 500000 ∷ []

-- a dial for each of these digits, at port 1 and those after it, with a hundred conversions, and a gauge of corner factor 1,000 there
abbrev pub dials_at : List ℤ → ℕ → Port
dials_at ds = dialled (λ p. cond (nat_le 1 p && nat_le p (length ds)) (Some 1000) None) (λ p. record { digits = slice_index_or ds (p - 1) (pos 0); conversions = 100 })

-- the gauges at ports 2, 3 and 4 join that at port 1
abbrev pub joins : List Join
joins = record { below = 2; above = 1 } ∷ record { below = 3; above = 1 } ∷ record { below = 4; above = 1 } ∷ []

-- the platform over dials at these digits
abbrev pub platform_at : List ℤ → ℕ → Port
platform_at ds = pile (dials_at ds) (joins ∷ [])

abbrev pub platform : ℕ → Port
platform = platform_at digits
