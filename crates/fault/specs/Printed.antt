-- A refusal as it is printed.
use Rattle.std.specs.Prelude.{ℕ, ◌-◌, List, ◌∷◌, ◌++◌, length, replicate}
use Rattle.std.specs.Fmt.{decimal}
use Rattle.fault.specs.declared.faults.Fault.{Fault}
use Rattle.fault.specs.Causes.{described, letter_of}

-- a number in three digits, or in all that it has
abbrev pub at_least_three : ℕ → List ℕ
at_least_three n = replicate (3 - length (decimal n)) 48 ++ decimal n

-- number, layer and place parted by commas (44), as in a fault memory, with all digits of the place
abbrev pub printed : Fault → List ℕ
printed f = at_least_three (described f.cause).number ++ (44 ∷ letter_of (described f.cause).layer ∷ 44 ∷ at_least_three f.place)
