use Rattle.std.proofs.Common.{◌≡◌, ◌-◌, ℕ, Option, Some, None, sym, ap, ◌∙◌, arith}
use Rattle.bank.specs.Ports.{Port}
use Rattle.junction.specs.declared.as_one.Tally.{Tally}
use Rattle.junction.specs.Feeding.{fed}
use Rattle.junction.specs.Gather.{gather, dry, dry_from}
use Rattle.junction.proofs.Parts.{told_dry, dry_found, dry_passed, gather_few}
use Rattle.junction.proofs.Walks.{first_stands, first_gather, first_dry, stands_at, stop_at, part_here, next_stands, next_ahead, next_gauges, next_dry, search_ended}
use Rattle.junction.proofs.Taking.{dry_gives, some_gives}
use Rattle.junction.proofs.junction_box.gathering.gives.Goals as goal
use Rattle.junction.proofs.junction_box.gathering.gives.Goals.{in-Some+then-is_dry, in_default}

pub loop-asked-init : goal.loop-asked-init
loop-asked-init g c =
    let f = fed c.args.feeds.now in
    let p = c.args.port.number in
    let m = g.B.GaugeBank.shows c.args.below.now in
    record {
      here = first_stands f p _ c.first-asked.ensures;
      so_far = sym (ap (λ (a : Port). a.gauges) (first_gather f p _ c.first-asked.ensures m (g.B.GaugeBank.sound c.args.below.now)));
      left = first_dry f p _ c.first-asked.ensures m;
    }

pub loop-asked-preserved : goal.loop-asked-preserved
loop-asked-preserved g c =
    let f = fed c.args.feeds.now in
    let p = c.args.port.number in
    let m = g.B.GaugeBank.shows c.args.below.now in
    let ok = g.B.GaugeBank.sound c.args.below.now in
    let q = c.in-Some.q in
    let i = c.loop-asked.invariant in
    let here = stands_at f p _ q c.in-Some.is i.here in
    let wet = ap dry (part_here f p m q.number here) ∙ told_dry (m q.number) _ _ _ c.tally_at-one.ensures c.is_dry.ensures c.if-is_dry.false in
    let sum = i.so_far ∙ ap (λ (n : ℕ). (gather f m p n).gauges) (stop_at _ q c.in-Some.is) in
    let left = sym (ap (λ (n : ℕ). dry_from f m p n (32 - n)) (stop_at _ q c.in-Some.is)) ∙ i.left in
    record {
      here = next_stands f p q.number q.low here _ c.next-asked.ensures;
      so_far = next_gauges f p q.number q.low here _ c.next-asked.ensures m ok _ _ sum (ap (λ (t : Tally). t.gauges) c.tally_at-one.ensures);
      left = next_dry f p q.number q.low here _ c.next-asked.ensures m ∙ sym (dry_passed f m p q.number q.low wet) ∙ left;
    }

pub loop-asked-smaller : goal.loop-asked-smaller
loop-asked-smaller g c =
    let f = fed c.args.feeds.now in
    let p = c.args.port.number in
    let q = c.in-Some.q in
    let here = stands_at f p _ q c.in-Some.is c.loop-asked.invariant.here in
    omega (arith, q.low, stop_at _ q c.in-Some.is, next_ahead f p q.number q.low here _ c.next-asked.ensures)

pub overflow_add-gauges : goal.overflow_add-gauges
overflow_add-gauges g c =
    let f = fed c.args.feeds.now in
    let p = c.args.port.number in
    let m = g.B.GaugeBank.shows c.args.below.now in
    let ok = g.B.GaugeBank.sound c.args.below.now in
    let q = c.in-Some.q in
    let sum = c.loop-asked.invariant.so_far ∙ ap (λ (n : ℕ). (gather f m p n).gauges) (stop_at _ q c.in-Some.is) in
    omega (arith, q.low, sum, ap (λ (t : Tally). t.gauges) c.tally_at-one.ensures, gather_few f m p ok q.number, (ok q.number).few)

-- two ends of the search are not one
not_both : {A : Type 0} (o : Option ℕ) (n : ℕ) → o ≡ Some n → o ≡ None → A
not_both o n e d = let z : ◌≡◌ {A = ℕ} 0 1 = cc in absurd (omega arith)

pub returns-in-None : goal.returns-in-None
returns-in-None g c =
    let f = fed c.args.feeds.now in
    let p = c.args.port.number in
    let m = g.B.GaugeBank.shows c.args.below.now in
    let i = c.loop-asked.invariant in
    elim c.match-asked.branch [
      | in-Some+then-is_dry w ↦
          let q = w.in-Some.q in
          let here = stands_at f p _ q w.in-Some.is i.here in
          let dried = ap dry (part_here f p m q.number here) ∙ told_dry (m q.number) _ _ _ w.tally_at-one.ensures w.is_dry.ensures w.if-is_dry.true in
          dry_gives c.args.feeds.now m p q.number (sym i.left ∙ ap (λ (n : ℕ). dry_from f m p n (32 - n)) (stop_at _ q w.in-Some.is) ∙ dry_found f m p q.number q.low dried)
      | in_default w ↦ not_both _ _ w.found-is c.in-None.is
    ]

pub returns-then-gauges-gt0 : goal.returns-then-gauges-gt0
returns-then-gauges-gt0 g c =
    let p = c.args.port.number in
    let m = g.B.GaugeBank.shows c.args.below.now in
    let i = c.loop-asked.invariant in
    elim c.match-asked.branch [
      | in-Some+then-is_dry w ↦ not_both _ _ c.in-Some-found.is w.found-is
      | in_default w ↦
          let n = c.in-Some-found.gauges in
          let same : n ≡ c.loop-asked.gauges = cc in
          let t = search_ended (fed c.args.feeds.now) m p _ _ w.in_default.is i.so_far i.left in
          some_gives c.args.feeds.now m p n t.1 (same ∙ t.0) c.if-gauges-gt0.true
    ]
