use Rattle.std.proofs.Common.{◌-◌, ◌≤◌}
use Rattle.std.specs.Option.{option_map}
use Rattle.bank.specs.Addresses.{number_of}
use Rattle.junction.specs.Feeding.{fed}
use Rattle.junction.specs.Chains.{LastBefore}
use Rattle.junction.proofs.Walks.{stop, Stands}
use Rattle.junction.proofs.feeds.Feeds.last_before.Given as goal

-- where the walk stands at the port below or past it, the last port that it left is the one
abbrev pub invariant-loop-at : goal.invariant-loop-at
invariant-loop-at l =
    let f = fed l.self in
    let p = l.fn.above.number in
    let b = l.below.number in
    let o = option_map number_of l.at in
    record {
      here : Stands f p o;
      so_far : b ≤ stop o → LastBefore f p b (option_map number_of l.last);
    }

abbrev pub decreases-loop-at : goal.decreases-loop-at
decreases-loop-at l = 32 - stop (option_map number_of l.at)
