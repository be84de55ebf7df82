use Rattle.std.proofs.Common.{◌<◌, ◌≤◌, length, take, map, Some, sym, ap, ◌∙◌, subst, arith}
use Rattle.std.specs.Int.Count.{count_trailing_zeros}
use Rattle.std.specs.Simd.Lanes.{mask_l}
use Rattle.std.proofs.lemmas.List.{length-take-le}
use Rattle.command.proofs.Near.{either, lanes_are, place_is, place_within, first_is}
use Rattle.command.proofs.cut.near.Goals as goal

pub returns-in_default : goal.returns-in_default
returns-in_default c =
    let bs = c.args.bytes.now in
    let x = c.args.x in
    let y = c.args.y in
    let long : 16 ≤ length bs = omega (arith, c.if-bytes-lt-NEAR.false) in
    let lanes = lanes_are x y (take 16 bs) 16 (length-take-le 16 bs long) (omega arith) in
    let some : 0 < mask_l (map (either x y) (take 16 bs)) = omega (arith, c.in_default, lanes) in
    let place = ap (count_trailing_zeros 64) lanes ∙ place_is x y bs 16 long some (omega arith) in
    (first_is x y bs 16 long some ∙ ap Some (sym place), subst (λ k. k < length bs) (sym place) (place_within x y bs 16 long some))
