-- The settings that are one of a few, by their numbers.
use Rattle.std.specs.Prelude.{ℕ, cond, ℤ, pos, Some, None, Option, ◌==◌}
use Rattle.scale.specs.declared.averaging.Averaging.{Averaging}
use Rattle.scale.specs.declared.averaging.Averaging.TheVariants.{One, Two, Four, Eight, Sixteen}
use Rattle.scale.specs.declared.step.Step.{Step}
use Rattle.scale.specs.declared.step.Step.TheVariants.{One as by_one, Two as by_two, Five, Ten, Twenty, Fifty, Hundred}
use Rattle.scale.specs.declared.display.Display.{Display}
use Rattle.scale.specs.declared.display.Display.TheVariants.{Net, Gross}

-- the power of two
abbrev pub averaging_number : Averaging → ℕ
averaging_number One = 0
averaging_number Two = 1
averaging_number Four = 2
averaging_number Eight = 3
averaging_number Sixteen = 4

abbrev pub averaging_numbered : ℕ → Option Averaging
averaging_numbered n =
    cond (n == 0) (Some One) (cond (n == 1) (Some Two) (cond (n == 2) (Some Four) (cond (n == 3) (Some Eight) (cond (n == 4) (Some Sixteen) None))))

-- how many readings a measurement takes
abbrev pub readings_of : Averaging → ℕ
readings_of One = 1
readings_of Two = 2
readings_of Four = 4
readings_of Eight = 8
readings_of Sixteen = 16

-- 16 over the number of readings
abbrev pub weight_of : Averaging → ℤ
weight_of One = pos 16
weight_of Two = pos 8
weight_of Four = pos 4
weight_of Eight = pos 2
weight_of Sixteen = pos 1

abbrev pub step_value : Step → ℕ
step_value by_one = 1
step_value by_two = 2
step_value Five = 5
step_value Ten = 10
step_value Twenty = 20
step_value Fifty = 50
step_value Hundred = 100

abbrev pub step_valued : ℕ → Option Step
step_valued n =
    cond (n == 1) (Some by_one) (cond (n == 2) (Some by_two) (cond (n == 5) (Some Five) (cond (n == 10) (Some Ten)
    (cond (n == 20) (Some Twenty) (cond (n == 50) (Some Fifty) (cond (n == 100) (Some Hundred) None))))))

abbrev pub display_number : Display → ℕ
display_number Net = 0
display_number Gross = 1

abbrev pub display_numbered : ℕ → Option Display
display_numbered n = cond (n == 0) (Some Net) (cond (n == 1) (Some Gross) None)
