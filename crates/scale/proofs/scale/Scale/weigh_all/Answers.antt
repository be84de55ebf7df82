use Rattle.std.proofs.Common.{ℕ, ◌≤◌, length, sym, ◌∙◌, subst, arith}
use Rattle.scale.specs.Blocks.{readings_for}
use Rattle.scale.proofs.Weighings.{weighed_none, enough_here, weighed_more}
use Rattle.scale.proofs.scale.Scale.weigh_all.Goals as goal

pub loop-place-init : goal.loop-place-init
loop-place-init g c = weighed_none c.args.self.now.state.force (g.B.GaugeBank.shows c.args.bank.now) c.args.address.number c.args.values.now

pub weigh-requires : goal.weigh-requires
weigh-requires g c =
    let s = c.args.self.now.state.force in
    let m = g.B.GaugeBank.shows c.args.bank.now in
    let there = subst (λ (k : ℕ). readings_for s k ≤ length (m c.args.address.number).waiting) (sym c.loop-place.auto.values) c.requires in
    enough_here s m (g.B.GaugeBank.shows c.loop-place.bank) c.args.address.number c.loop-place.place-index c.loop-place.values (omega (arith, c.loop-place-test.true, c.loop-place.auto.values)) there c.loop-place.invariant

pub loop-place-preserved : goal.loop-place-preserved
loop-place-preserved g c =
    let s = c.args.self.now.state.force in
    let m = g.B.GaugeBank.shows c.args.bank.now in
    let f = g.B.GaugeBank.shows c.loop-place.bank in
    let p = c.args.address.number in
    let there = subst (λ (k : ℕ). readings_for s k ≤ length (m p).waiting) (sym c.loop-place.auto.values) c.requires in
    weighed_more s m f p c.loop-place.place-index c.loop-place.values (omega (arith, c.loop-place-test.true, c.loop-place.auto.values)) there c.loop-place.invariant c.in_ok-place.field-0 (g.B.GaugeBank.shows c.weigh.new.bank) (sym c.in_ok-place.was ∙ c.weigh.ensures.answer) c.weigh.ensures.after
