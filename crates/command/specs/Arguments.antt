-- What stands in a parameter, by the kind that the table gives. Assumes nothing.
use Rattle.std.specs.Prelude.{ℕ, Bool, false, cond, ◌&&◌, ◌||◌, List, [], ◌∷◌, length, ℤ, pos, Some, None, Ok, Err, Option, Result, ◌==◌, int_le}
use Rattle.fault.specs.declared.causes.Cause.{Cause}
use Rattle.fault.specs.declared.causes.Cause.TheVariants.{Malformed, ParameterCount, OutOfRange}
use Rattle.command.specs.declared.orders.Argument.{Argument}
use Rattle.command.specs.declared.orders.Argument.TheVariants.{Absent, Number as a_number, Text as a_text}
use Rattle.command.specs.declared.table.Kind.{Kind}
use Rattle.command.specs.declared.table.Kind.TheVariants.{Nothing, Number, OptionalNumber, Text}
use Rattle.command.specs.declared.table.Limits.{Limits}
use Rattle.command.specs.declared.table.Limits.TheVariants.{Between, Formats, Steps}
use Rattle.command.specs.declared.texts.Text.{Text as TheText}
use Rattle.command.specs.Numbers.{number_of}
use Rattle.command.specs.Texts.{text_of}

-- the output formats, each with 32 added too, and the display steps
abbrev pub formats : List ℤ
formats =
    pos 0 ∷ pos 2 ∷ pos 3 ∷ pos 4 ∷ pos 6 ∷ pos 8 ∷ pos 9 ∷ pos 12
    ∷ pos 32 ∷ pos 34 ∷ pos 35 ∷ pos 36 ∷ pos 38 ∷ pos 40 ∷ pos 41 ∷ pos 44 ∷ []

abbrev pub steps : List ℤ
steps = pos 1 ∷ pos 2 ∷ pos 5 ∷ pos 10 ∷ pos 20 ∷ pos 50 ∷ pos 100 ∷ []

-- n is one of the values
unfoldable pub among : List ℤ → ℤ → Bool
among [] n = false
among (v ∷ vs) n = (int_le v n && int_le n v) || among vs n

-- the limits admit n
abbrev pub admits : Limits → ℤ → Bool
admits (Between lowest highest) n = int_le lowest n && int_le n highest
admits Formats n = among formats n
admits Steps n = among steps n

-- a parameter of this kind may be the number n
abbrev pub number_for : Option Kind → ℤ → Bool
number_for None n = false
number_for (Some Nothing) n = false
number_for (Some (Number l)) n = admits l n
number_for (Some (OptionalNumber l)) n = admits l n
number_for (Some Text) n = false

-- a number within the limits
abbrev pub ranged : Limits → ℤ → Result Argument Cause
ranged l n = cond (admits l n) (Ok (a_number n)) (Err OutOfRange)

abbrev pub ranged_of : Limits → Option ℤ → Result Argument Cause
ranged_of l None = Err Malformed
ranged_of l (Some n) = ranged l n

abbrev pub worded : Option TheText → Result Argument Cause
worded None = Err Malformed
worded (Some t) = Ok (a_text t)

-- a kind that finds no parameter
abbrev pub missing : Kind → Result Argument Cause
missing Nothing = Ok Absent
missing (Number l) = Err ParameterCount
missing (OptionalNumber l) = Ok Absent
missing Text = Err ParameterCount

-- a kind that finds one: unwanted, then malformed or not whole, then outside the limits
abbrev pub given : Kind → List ℕ → Result Argument Cause
given Nothing p = Err ParameterCount
given (Number l) p = ranged_of l (number_of p)
given (OptionalNumber l) p = ranged_of l (number_of p)
given Text p = worded (text_of p)

unfoldable pub argument_of : Kind → List ℕ → Result Argument Cause
argument_of k p = cond (length p == 0) (missing k) (given k p)
