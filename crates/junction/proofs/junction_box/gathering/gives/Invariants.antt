use Rattle.std.proofs.Common.{◌≡◌, ◌-◌}
use Rattle.std.specs.Option.{option_map}
use Rattle.bank.specs.Addresses.{number_of}
use Rattle.junction.specs.Feeding.{fed}
use Rattle.junction.specs.Gather.{gather, dry_from}
use Rattle.junction.proofs.Walks.{stop, Stands}
use Rattle.junction.proofs.junction_box.gathering.gives.Given as goal

-- the gauges below the port where the search stands are counted, and what is left to search decides
abbrev pub invariant-loop-asked : goal.invariant-loop-asked
invariant-loop-asked g l =
    let f = fed l.feeds in
    let m = g.B.GaugeBank.shows l.below in
    let p = l.fn.port.number in
    let o = option_map number_of l.asked in
    record {
      here : Stands f p o;
      so_far : l.gauges ≡ (gather f m p (stop o)).gauges;
      left : dry_from f m p (stop o) (32 - stop o) ≡ dry_from f m p 0 32;
    }

abbrev pub decreases-loop-asked : goal.decreases-loop-asked
decreases-loop-asked g l = 32 - stop (option_map number_of l.asked)
