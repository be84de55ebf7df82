use Rattle.std.proofs.Common.{◌≡◌, ◌+◌, ◌≤◌, drop}
use Rattle.junction.specs.Joins.{after_joins, refusals}
use Rattle.junction.proofs.wiring.wired.Given as goal

-- the joins that are left give the map and the count
abbrev pub invariant-loop-join : goal.invariant-loop-join
invariant-loop-join g l =
    let m = g.B.GaugeBank.shows l.initial.junction.below in
    let own = l.initial.junction.feeds in
    let left = drop l.join-index l.joins in
    record {
      below : l.junction.below ≡ l.initial.junction.below;
      feeds : after_joins m l.junction.feeds left ≡ after_joins m own l.joins;
      count : l.refused + refusals m l.junction.feeds left ≡ refusals m own l.joins;
      few : l.refused ≤ l.join-index;
    }
