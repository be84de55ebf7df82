-- Marks are joined in any order and grouping: all that the regrouping law asks of them.
use Rattle.std.proofs.Common.{◌≡◌}
use Rattle.std.proofs.Math.Bool.{or_comm, or_assoc}
use Rattle.bank.specs.declared.reading.Mark.{Mark}
use Rattle.bank.specs.Readings.{either}

pub either_comm : (x y : Mark) → either x y ≡ either y x
either_comm x y = λ i. record { overdriven = or_comm x.overdriven y.overdriven i }

pub either_assoc : (x y z : Mark) → either (either x y) z ≡ either x (either y z)
either_assoc x y z = λ i. record { overdriven = or_assoc x.overdriven y.overdriven z.overdriven i }
