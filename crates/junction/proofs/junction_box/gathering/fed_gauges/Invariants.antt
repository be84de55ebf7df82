use Rattle.std.proofs.Common.{◌≡◌, ◌-◌}
use Rattle.std.specs.Option.{option_map}
use Rattle.bank.specs.Addresses.{number_of}
use Rattle.junction.specs.Feeding.{fed}
use Rattle.junction.specs.Gather.{gather}
use Rattle.junction.proofs.Walks.{stop, Stands}
use Rattle.junction.proofs.junction_box.gathering.fed_gauges.Given as goal

-- the gauges below the port where the walk stands are counted
abbrev pub invariant-loop-at : goal.invariant-loop-at
invariant-loop-at g l =
    let f = fed l.feeds in
    let p = l.fn.port.number in
    let o = option_map number_of l.at in
    record {
      here : Stands f p o;
      so_far : l.gauges ≡ (gather f (g.B.GaugeBank.shows l.below) p (stop o)).gauges;
    }

abbrev pub decreases-loop-at : goal.decreases-loop-at
decreases-loop-at g l = 32 - stop (option_map number_of l.at)
