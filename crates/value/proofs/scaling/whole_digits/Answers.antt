use Rattle.std.proofs.Common.{pos, ◌<ℤ◌, sym, subst, arith, w64, SFits}
use Rattle.std.proofs.lemmas.Int.{ints, to_z-of_z}
use Rattle.value.specs.Rounding.{Rounded}
use Rattle.value.specs.Scaled.{in_digits}
use Rattle.value.proofs.Quotient.{rounded}
use Rattle.value.proofs.scaling.whole_digits.Goals as goal

pub returns : goal.returns
unfolding in_digits
returns c =
    let l = c.ranges.load in
    let q : SFits w64 c.nearest_narrow.result = record { sfits = c.nearest_narrow.type_inv } in
    let e = simp to_z-of_z at c.nearest_narrow.ensures in
    let some : pos 0 <ℤ pos 16000 = omega (arith, ints) in
    record {
      value = simp to_z-of_z e;
      close = simp to_z-of_z (subst (Rounded c.args.load (pos 16000)) (sym e) (rounded c.args.load (pos 16000) some));
    }
