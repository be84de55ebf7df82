use Rattle.std.proofs.Common.{◌+◌, ℕ, take, set, ap, ◌∙◌, refl, arith, length-set}
use Rattle.linked.proofs.Lines.{row_more}
use Rattle.linked.proofs.setting_up.joined.Goals as goal

pub loop-port-init : goal.loop-port-init
loop-port-init g c = record { so_far = refl; many = refl }

pub loop-port-preserved : goal.loop-port-preserved
loop-port-preserved g c =
    let js = c.loop-port.joins in
    let n = c.loop-port.port in
    record {
      so_far =
          ap (λ (j : ℕ). take (n + 1) (set js j (record { below = n + 1; above = 1 }))) c.from.ensures
          ∙ row_more js n (omega (arith, c.loop-port-test.true, c.ranges.ports.fits, c.loop-port.invariant.many)) c.loop-port.invariant.so_far;
      many = length-set js c.from.result _ ∙ c.loop-port.invariant.many;
    }
