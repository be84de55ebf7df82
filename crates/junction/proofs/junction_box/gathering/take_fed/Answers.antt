use Rattle.std.proofs.Common.{ℕ, Some, None, sym, ap, ◌∙◌, arith}
use Rattle.bank.specs.Ports.{Port}
use Rattle.junction.specs.Feeding.{fed}
use Rattle.junction.specs.Gather.{gather, drawn}
use Rattle.junction.proofs.Walks.{first_stands, first_gather, first_drawn, stands_at, stop_at, next_stands, next_ahead}
use Rattle.junction.proofs.Drawing.{top, first_some, first_none, light_sum, light_part, drawn_none, part_told, step_top, step_drawn}
use Rattle.junction.proofs.junction_box.gathering.take_fed.Goals as goal
use Rattle.junction.proofs.junction_box.gathering.take_fed.Goals.{in-Ok, in_default-take}

pub loop-at-init : goal.loop-at-init
loop-at-init g c =
    let f = fed c.args.feeds.now in
    let p = c.args.port.number in
    let m = g.B.GaugeBank.shows c.args.below.now in
    record {
      here = first_stands f p _ c.first-at.ensures;
      so_far = sym (ap (λ (a : Port). top a.waiting) (first_gather f p _ c.first-at.ensures m (g.B.GaugeBank.sound c.args.below.now)));
      left = drawn_none f m p ∙ sym (first_drawn f p _ c.first-at.ensures m);
    }

pub add_reading-requires : goal.add_reading-requires
add_reading-requires g c =
    let f = fed c.args.feeds.now in
    let p = c.args.port.number in
    let m = g.B.GaugeBank.shows c.args.below.now in
    let ok = g.B.GaugeBank.sound c.args.below.now in
    let q = c.in-Some.q in
    let n = q.number in
    let i = c.loop-at.invariant in
    let here = stands_at f p _ q c.in-Some.is i.here in
    let sum = i.so_far ∙ ap (λ (k : ℕ). top (gather f m p k).waiting) (stop_at _ q c.in-Some.is) in
    let left = i.left ∙ ap (drawn f m p) (stop_at _ q c.in-Some.is) in
    let one = part_told f m p (g.B.GaugeBank.shows c.loop-at.below) n _ here left (first_some (g.B.GaugeBank.shows c.loop-at.below) n _ q.low (sym c.in-Ok.is ∙ c.take.ensures.answer)) in
    (light_sum f m p ok n (omega (arith, q.low)) _ sum, light_part f m p ok n (omega (arith, q.low)) _ one)

pub loop-at-preserved : goal.loop-at-preserved
loop-at-preserved g c =
    let f = fed c.args.feeds.now in
    let p = c.args.port.number in
    let m = g.B.GaugeBank.shows c.args.below.now in
    let ok = g.B.GaugeBank.sound c.args.below.now in
    let q = c.in-Some.q in
    let n = q.number in
    let i = c.loop-at.invariant in
    let here = stands_at f p _ q c.in-Some.is i.here in
    let sum = i.so_far ∙ ap (λ (k : ℕ). top (gather f m p k).waiting) (stop_at _ q c.in-Some.is) in
    let left = i.left ∙ ap (drawn f m p) (stop_at _ q c.in-Some.is) in
    let step = step_top f m p ok n q.low here _ c.next-at.ensures c.requires _ in
    record {
      here = next_stands f p n q.low here _ c.next-at.ensures;
      so_far = elim c.match-take.branch [
        | in-Ok w ↦ w.sum-is ∙ w.add_reading.ensures ∙ step (Some w.in-Ok.one) sum (part_told f m p (g.B.GaugeBank.shows c.loop-at.below) n _ here left (first_some (g.B.GaugeBank.shows c.loop-at.below) n _ q.low (sym w.in-Ok.is ∙ c.take.ensures.answer)))
        | in_default-take w ↦ w.sum-is ∙ step None sum (part_told f m p (g.B.GaugeBank.shows c.loop-at.below) n _ here left (first_none (g.B.GaugeBank.shows c.loop-at.below) n _ q.low (sym w.in_default-take.is ∙ c.take.ensures.answer)))
      ];
      left = step_drawn f m p ok n q.low here _ c.next-at.ensures _ _ left c.take.ensures.after;
    }

pub loop-at-smaller : goal.loop-at-smaller
loop-at-smaller g c =
    let f = fed c.args.feeds.now in
    let p = c.args.port.number in
    let q = c.in-Some.q in
    let here = stands_at f p _ q c.in-Some.is c.loop-at.invariant.here in
    omega (arith, q.low, stop_at _ q c.in-Some.is, next_ahead f p q.number q.low here _ c.next-at.ensures)
