use Rattle.std.proofs.Common.{ℕ, sym, ap, ◌∙◌, arith}
use Rattle.bank.specs.Ports.{Port}
use Rattle.junction.specs.Feeding.{fed}
use Rattle.junction.specs.Gather.{gather}
use Rattle.junction.proofs.Parts.{gather_few}
use Rattle.junction.proofs.Walks.{first_stands, first_gather, stands_at, stop_at, next_stands, next_ahead, next_gauges}
use Rattle.junction.proofs.junction_box.gathering.fed_gauges.Goals as goal

pub loop-at-init : goal.loop-at-init
loop-at-init g c =
    let f = fed c.args.feeds.now in
    let p = c.args.port.number in
    record {
      here = first_stands f p _ c.first-at.ensures;
      so_far = sym (ap (λ (a : Port). a.gauges) (first_gather f p _ c.first-at.ensures (g.B.GaugeBank.shows c.args.below.now) (g.B.GaugeBank.sound c.args.below.now)));
    }

pub loop-at-preserved : goal.loop-at-preserved
loop-at-preserved g c =
    let f = fed c.args.feeds.now in
    let p = c.args.port.number in
    let m = g.B.GaugeBank.shows c.args.below.now in
    let ok = g.B.GaugeBank.sound c.args.below.now in
    let q = c.in-Some.q in
    let i = c.loop-at.invariant in
    let here = stands_at f p _ q c.in-Some.is i.here in
    let so_far = i.so_far ∙ ap (λ (n : ℕ). (gather f m p n).gauges) (stop_at _ q c.in-Some.is) in
    record {
      here = next_stands f p q.number q.low here _ c.next-at.ensures;
      so_far = next_gauges f p q.number q.low here _ c.next-at.ensures m ok _ _ so_far c.gauges_at-gauges.ensures;
    }

pub loop-at-smaller : goal.loop-at-smaller
loop-at-smaller g c =
    let f = fed c.args.feeds.now in
    let p = c.args.port.number in
    let q = c.in-Some.q in
    let here = stands_at f p _ q c.in-Some.is c.loop-at.invariant.here in
    omega (arith, q.low, stop_at _ q c.in-Some.is, next_ahead f p q.number q.low here _ c.next-at.ensures)

pub overflow_add-gauges : goal.overflow_add-gauges
overflow_add-gauges g c =
    let f = fed c.args.feeds.now in
    let p = c.args.port.number in
    let m = g.B.GaugeBank.shows c.args.below.now in
    let ok = g.B.GaugeBank.sound c.args.below.now in
    let q = c.in-Some.q in
    let sum = c.loop-at.invariant.so_far ∙ ap (λ (n : ℕ). (gather f m p n).gauges) (stop_at _ q c.in-Some.is) in
    omega (arith, q.low, sum, c.gauges_at-gauges.ensures, gather_few f m p ok q.number, (ok q.number).few)
