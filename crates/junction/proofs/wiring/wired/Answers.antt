use Rattle.std.proofs.Common.{ap, ◌∙◌, arith}
use Rattle.junction.specs.Gather.{boxed}
use Rattle.junction.proofs.Turns.{at_most_one, done_feeds, done_refused, turn_feeds, turn_refusals}
use Rattle.junction.proofs.Once.{counted_once, free}
use Rattle.junction.proofs.Counted.{counts_alone, restands}
use Rattle.junction.proofs.Drained.{taken_piles}
use Rattle.junction.proofs.Rejoined.{eight}
use Rattle.junction.proofs.Piles.{gathers, same_gauges}
use Rattle.junction.proofs.wiring.wired.Goals as goal

pub loop-join-preserved : goal.loop-join-preserved
loop-join-preserved g c =
    let shows = g.B.GaugeBank.shows in
    let js = c.args.joins.now in
    let i = c.loop-join.join-index in
    let m = shows c.new-junction.result.below in
    let k = shows c.loop-join.junction.below in
    let fs = c.loop-join.junction.feeds in
    let next = c.join.new.self.feeds in
    let h = c.loop-join-test.true in
    let was = c.loop-join.invariant in
    let same = ap shows was.below in
    let after = c.join.ensures.feeds in
    let one = c.refusal_count-refused.ensures in
    record {
      below = c.join.ensures.bank ∙ was.below;
      feeds = turn_feeds m k js i h fs next same after _ was.feeds;
      count = turn_refusals m k js i h fs next same after _ c.loop-join.refused _ c.join.result c.join.ensures.answer one was.count;
      few = omega (arith, one, at_most_one c.join.result);
    }

pub returns : goal.returns
returns g c =
    let shows = g.B.GaugeBank.shows in
    let js = c.args.joins.now in
    let i = c.loop-join.join-index in
    let h = c.loop-join-test.false in
    let m = shows c.args.bank in
    let k = shows c.new-junction.result.below in
    let first = c.new-junction.result.feeds in
    let fs = c.loop-join.junction.feeds in
    let same = ap shows c.new-junction.ensures.bank in
    let bank = c.loop-join.invariant.below ∙ c.new-junction.ensures.bank in
    let feeds = done_feeds m k js i h first fs c.new-junction.ensures.feeds same c.loop-join.invariant.feeds in
    record {
      bank = bank;
      feeds = feeds;
      refused = done_refused m k js i h first fs c.new-junction.ensures.feeds same c.loop-join.refused c.loop-join.invariant.count;
      meaning = λ t. boxed (feeds t) (shows (bank t));
      counts = counts_alone;
      once = counted_once;
      free = free;
      eight = eight;
      gathers = gathers;
      regroups = same_gauges;
      restands = restands;
      taken = taken_piles;
    }
