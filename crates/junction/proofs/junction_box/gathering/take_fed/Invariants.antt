use Rattle.std.proofs.Common.{◌≡◌, ◌-◌}
use Rattle.std.specs.Option.{option_map}
use Rattle.bank.specs.Addresses.{number_of}
use Rattle.junction.specs.Feeding.{fed}
use Rattle.junction.specs.Gather.{gather, drawn}
use Rattle.junction.proofs.Drawing.{top}
use Rattle.junction.proofs.Walks.{stop, Stands}
use Rattle.junction.proofs.junction_box.gathering.take_fed.Given as goal

-- a reading is taken of the ports below the one where the walk stands
abbrev pub invariant-loop-at : goal.invariant-loop-at
invariant-loop-at g l =
    let f = fed l.feeds in
    let m = g.B.GaugeBank.shows l.fn.below in
    let p = l.fn.port.number in
    let o = option_map number_of l.at in
    record {
      here : Stands f p o;
      so_far : l.sum ≡ top (gather f m p (stop o)).waiting;
      left : g.B.GaugeBank.shows l.below ≡ drawn f m p (stop o);
    }

abbrev pub decreases-loop-at : goal.decreases-loop-at
decreases-loop-at g l = 32 - stop (option_map number_of l.at)
