-- The order of a script's stages.
use Rattle.std.specs.Prelude.{ℕ, cond, Some, None, Option, ◌==◌}
use Rattle.halls.specs.declared.stages.Stage.{Stage}
use Rattle.halls.specs.declared.stages.Stage.TheVariants.{Opening, Fitting, FirstBox, SecondBox, ThirdBox, FourthBox, Asking, Talking}

abbrev pub rank : Stage → ℕ
rank Opening = 0
rank Fitting = 1
rank FirstBox = 2
rank SecondBox = 3
rank ThirdBox = 4
rank FourthBox = 5
rank Asking = 6
rank Talking = 7

-- the stage in which the box of a level is joined, 1 the lowest
abbrev pub box_stage : ℕ → Option Stage
box_stage n = cond (n == 1) (Some FirstBox) (cond (n == 2) (Some SecondBox) (cond (n == 3) (Some ThirdBox) (cond (n == 4) (Some FourthBox) None)))
