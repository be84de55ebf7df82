use Rattle.std.proofs.Common.{◌≡◌, ◌≤◌, ℤ, pos, ◌+ℤ◌, nat_abs, ◌≤ℤ◌, ◌<ℤ◌, sym, subst, arith, SFits}
use lib.Signed.{quot_z, clash_ℤ}
use mir.Syntax.{w128}
use Rattle.std.specs.Int.{int_signum}
use Rattle.std.proofs.lemmas.Int.{ints, to_z-of_z, rem_below}
use Rattle.value.specs.Rounding.{nearest, Rounded}
use Rattle.value.proofs.Quotient.{rounded, nearest_none, nearest_fits, nearest_le, quot_fits, rem_fits, whole, one_away}
use Rattle.value.proofs.rounding.nearest.Goals as goal

-- what is equal to the nearest number is one that rounds, and no larger than the dividend
record Found (num den q : ℤ) : Type 0 where
  value : q ≡ nearest num den
  close : pos 0 <ℤ den → Rounded num den q
  size : nat_abs q ≤ nat_abs num

found : (num den q : ℤ) → pos 0 <ℤ den → q ≡ nearest num den → Found num den q
found num den q p e = record { value = e; close = λ h. subst (Rounded num den) (sym e) (rounded num den p); size = subst (λ z. nat_abs z ≤ nat_abs num) (sym e) (nearest_le num den) }

pub returns-then-den-le0 : goal.returns-then-den-le0
returns-then-den-le0 c =
    let none : c.args.den ≤ℤ pos 0 = omega (arith, ints) in
    record { value = nearest_none c.args.num c.args.den none; close = λ h. clash_ℤ h none; size = omega arith }

pub overflow_sub-missing : goal.overflow_sub-missing
overflow_sub-missing c =
    let num = c.args.num in
    let den = c.args.den in
    let n = c.ranges.num in
    let d = c.ranges.den in
    let m = rem_fits w128 num den n in
    let a = simp to_z-of_z at c.unsigned_abs.ensures.value in
    let b = simp to_z-of_z at c.unsigned_abs-rest.ensures.value in
    omega (arith, ints, a, b, rem_below num den (omega (arith, ints)))

pub returns-then-missing-rest : goal.returns-then-missing-rest
returns-then-missing-rest c =
    let num = c.args.num in
    let den = c.args.den in
    let n = c.ranges.num in
    let d = c.ranges.den in
    let p : pos 0 <ℤ den = omega (arith, ints) in
    let q = quot_fits w128 num den p n in
    let m = rem_fits w128 num den n in
    let a = simp to_z-of_z at c.unsigned_abs.ensures.value in
    let b = simp to_z-of_z at c.unsigned_abs-rest.ensures.value in
    let e = one_away num den p (omega (arith, a, b)) in
    let sum : SFits w128 (quot_z num den +ℤ int_signum num) = subst (SFits w128) (sym e) (nearest_fits w128 num den n) in
    let g : SFits w128 c.signum.result = record { sfits = c.signum.type_inv } in
    let s = simp to_z-of_z at c.signum.ensures.value in
    let i : SFits w128 (int_signum num) = subst (SFits w128) s g in
    let f = found num den (quot_z num den +ℤ int_signum num) p e in
    record { value = simp (to_z-of_z, s) f.value; close = simp (to_z-of_z, s) f.close; size = simp (to_z-of_z, s) f.size }

pub returns-else-missing-rest : goal.returns-else-missing-rest
returns-else-missing-rest c =
    let num = c.args.num in
    let den = c.args.den in
    let n = c.ranges.num in
    let d = c.ranges.den in
    let p : pos 0 <ℤ den = omega (arith, ints) in
    let q = quot_fits w128 num den p n in
    let m = rem_fits w128 num den n in
    let a = simp to_z-of_z at c.unsigned_abs.ensures.value in
    let b = simp to_z-of_z at c.unsigned_abs-rest.ensures.value in
    let f = found num den (quot_z num den) p (whole num den p (omega (arith, a, b))) in
    record { value = simp to_z-of_z f.value; close = simp to_z-of_z f.close; size = simp to_z-of_z f.size }
