use Rattle.std.proofs.Common.{◌≡◌, pos, ◌*ℤ◌, sym, ap, ◌∙◌, subst, arith, w64, SFits}
use mir.Syntax.{w128}
use Rattle.std.proofs.lemmas.Int.{to_z-of_z}
use Rattle.value.specs.Rounding.{nearest}
use Rattle.value.specs.Scaled.{scaled, Shown}
use Rattle.value.proofs.Products.{shown_law}
use Rattle.value.proofs.scaling.shown.Goals as goal

pub returns-in-Some-Some : goal.returns-in-Some-Some
unfolding scaled
returns-in-Some-Some c =
    let num = c.args.num in
    let full = c.args.full in
    let span = c.args.span in
    let step = c.args.step in
    let n = c.ranges.num in
    let s = c.ranges.span in
    let q : SFits w64 c.nearest_narrow.result = record { sfits = c.nearest_narrow.type_inv } in
    let q' : SFits w128 c.nearest_narrow.result = record { sfits = omega (arith, q.sfits) } in
    let v : SFits w128 c.times.result = record { sfits = c.times.type_inv } in
    let f : SFits w64 c.from.result = record { sfits = c.from.type_inv } in
    let g : SFits w64 c.from-2.result = record { sfits = c.from-2.type_inv } in
    let a = simp to_z-of_z at (rw c.in-Some-Some.is-0 at c.checked_mul-product.ensures) in
    let b = simp to_z-of_z at (rw c.in-Some-Some.is-1 at c.checked_mul-divisor.ensures) in
    let p : SFits w64 c.in-Some-Some.product = subst (SFits w64) (sym a.1) a.0 in
    let d : SFits w64 c.in-Some-Some.divisor = subst (SFits w64) (sym b.1) b.0 in
    let product : c.in-Some-Some.product ≡ num *ℤ pos full = a.1 ∙ ap (λ z. num *ℤ z) c.from.ensures in
    let divisor : c.in-Some-Some.divisor ≡ span *ℤ pos step = b.1 ∙ ap (λ z. span *ℤ z) c.from-2.ensures in
    let nearest_is = (simp to_z-of_z at c.nearest_narrow.ensures) ∙ (λ i. nearest (product i) (divisor i)) in
    let e = (simp to_z-of_z at c.times.ensures) ∙ ap (λ z. z *ℤ pos step) nearest_is in
    record { value = simp to_z-of_z e; close = λ h k. simp to_z-of_z (subst (Shown num full span step) (sym e) (shown_law num full span step h k)) }

pub returns-in_default : goal.returns-in_default
returns-in_default c =
    let num = c.args.num in
    let full = c.args.full in
    let span = c.args.span in
    let step = c.args.step in
    let n = c.ranges.num in
    let s = c.ranges.span in
    let v : SFits w128 c.shown_wide.result = record { sfits = c.shown_wide.type_inv } in
    let e = simp to_z-of_z at c.shown_wide.ensures in
    record { value = simp to_z-of_z e; close = λ h k. simp to_z-of_z (subst (Shown num full span step) (sym e) (shown_law num full span step h k)) }
