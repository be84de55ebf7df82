use Rattle.std.proofs.Common.{◌^◌, ◌≤◌, pos, ◌*ℤ◌, nat_abs, sym, ◌∙◌, subst, arith, SFits}
use lib.Signed.{nat_abs-le}
use mir.Syntax.{w128}
use Rattle.std.proofs.lemmas.Int.{to_z-of_z}
use Rattle.value.specs.Rounding.{nearest}
use Rattle.value.proofs.Products.{steps_small}
use Rattle.value.proofs.scaling.steps.Goals as goal

pub returns-clause-size : goal.returns-clause-size
returns-clause-size c =
    let num = c.args.num in
    let span = c.args.span in
    let n = c.ranges.num in
    let s = c.ranges.span in
    let n' : SFits w128 num = record { sfits = omega (arith, n.sfits) } in
    let s' : SFits w128 span = record { sfits = omega (arith, s.sfits) } in
    let t : SFits w128 c.times.result = record { sfits = c.times.type_inv } in
    let u : SFits w128 c.times-2.result = record { sfits = c.times-2.type_inv } in
    let q : SFits w128 c.nearest.result = record { sfits = c.nearest.type_inv } in
    let a = simp to_z-of_z at c.times.ensures in
    let b = simp to_z-of_z at c.times-2.ensures in
    let e = (simp to_z-of_z at c.nearest.ensures.value) ∙ (λ i. nearest (a i) (b i)) in
    simp to_z-of_z (subst (λ z. nat_abs z ≤ 2 ^ 95) (sym e) (steps_small num c.args.full (span *ℤ pos c.args.step) (nat_abs-le num n.sfits) (omega arith)))
