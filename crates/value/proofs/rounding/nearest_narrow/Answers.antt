use Rattle.std.proofs.Common.{pos, ◌+ℤ◌, ◌<ℤ◌, sym, subst, arith, w64, SFits}
use lib.Signed.{quot_z}
use Rattle.std.specs.Int.{int_signum}
use Rattle.std.proofs.lemmas.Int.{ints, to_z-of_z, rem_below}
use Rattle.value.proofs.Quotient.{nearest_none, nearest_fits, quot_fits, rem_fits, whole, one_away}
use Rattle.value.proofs.rounding.nearest_narrow.Goals as goal

pub returns-then-den-le0 : goal.returns-then-den-le0
returns-then-den-le0 c = nearest_none c.args.num c.args.den (omega (arith, ints))

pub overflow_sub-missing : goal.overflow_sub-missing
overflow_sub-missing c =
    let num = c.args.num in
    let den = c.args.den in
    let n = c.ranges.num in
    let d = c.ranges.den in
    let m = rem_fits w64 num den n in
    let a = simp to_z-of_z at c.unsigned_abs.ensures.value in
    let b = simp to_z-of_z at c.unsigned_abs-rest.ensures.value in
    omega (arith, ints, a, b, rem_below num den (omega (arith, ints)))

pub returns-then-missing-rest : goal.returns-then-missing-rest
returns-then-missing-rest c =
    let num = c.args.num in
    let den = c.args.den in
    let n = c.ranges.num in
    let d = c.ranges.den in
    let p : pos 0 <ℤ den = omega (arith, ints) in
    let q = quot_fits w64 num den p n in
    let m = rem_fits w64 num den n in
    let a = simp to_z-of_z at c.unsigned_abs.ensures.value in
    let b = simp to_z-of_z at c.unsigned_abs-rest.ensures.value in
    let e = one_away num den p (omega (arith, a, b)) in
    let sum : SFits w64 (quot_z num den +ℤ int_signum num) = subst (SFits w64) (sym e) (nearest_fits w64 num den n) in
    let g : SFits w64 c.signum.result = record { sfits = c.signum.type_inv } in
    let s = simp to_z-of_z at c.signum.ensures.value in
    let i : SFits w64 (int_signum num) = subst (SFits w64) s g in
    simp (to_z-of_z, s) e

pub returns-else-missing-rest : goal.returns-else-missing-rest
returns-else-missing-rest c =
    let num = c.args.num in
    let den = c.args.den in
    let n = c.ranges.num in
    let d = c.ranges.den in
    let p : pos 0 <ℤ den = omega (arith, ints) in
    let q = quot_fits w64 num den p n in
    let m = rem_fits w64 num den n in
    let a = simp to_z-of_z at c.unsigned_abs.ensures.value in
    let b = simp to_z-of_z at c.unsigned_abs-rest.ensures.value in
    simp to_z-of_z (whole num den p (omega (arith, a, b)))
