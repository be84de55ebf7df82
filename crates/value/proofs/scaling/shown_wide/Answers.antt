use Rattle.std.proofs.Common.{pos, ◌*ℤ◌, ap, ◌∙◌, SFits}
use mir.Syntax.{w128}
use Rattle.std.proofs.lemmas.Int.{to_z-of_z}
use Rattle.value.specs.Scaled.{scaled}
use Rattle.value.proofs.scaling.shown_wide.Goals as goal

pub returns : goal.returns
unfolding scaled
returns c =
    let step = c.args.step in
    let n = c.ranges.num in
    let s = c.ranges.span in
    let t : SFits w128 c.steps.result = record { sfits = c.steps.type_inv } in
    let v : SFits w128 c.times.result = record { sfits = c.times.type_inv } in
    simp to_z-of_z ((simp to_z-of_z at c.times.ensures) ∙ ap (λ z. z *ℤ pos step) (simp to_z-of_z at c.steps.ensures.value))
