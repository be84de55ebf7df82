-- The text of a fault memory.
use Rattle.std.specs.Prelude.{◌≡◌, ℕ, ◌<◌, List, ◌∷◌, ◌++◌, Some, None, codes, Option}
use Rattle.figures.specs.Figures.{digits}
use Rattle.fault.specs.declared.faults.Fault.{Fault}
use Rattle.fault.specs.Causes.{described, letter_of}

-- number, layer and place parted by commas (44), or `000,-,000` for no fault
abbrev pub memory_text : Option Fault → List ℕ
memory_text None = codes "000,-,000"
memory_text (Some f) = digits 3 (described f.cause).number ++ (44 ∷ letter_of (described f.cause).layer ∷ 44 ∷ digits 3 f.place)

-- the place has at most three digits, as that of every remembered fault has
abbrev pub Short : Option Fault → Type 0
Short None = Unit {0}
Short (Some f) = f.place < 1000

-- a text tells which fault it stands for, or that there is none
abbrev pub Legible : Type 0
Legible = (a b : Option Fault) → Short a → Short b → memory_text a ≡ memory_text b → a ≡ b
