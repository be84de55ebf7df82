use Rattle.scale.proofs.Weighings.{Weighed}
use Rattle.scale.proofs.scale.Scale.weigh_all.Given as goal

abbrev pub invariant-loop-place : goal.invariant-loop-place
invariant-loop-place g l = Weighed l.self.state.force (g.B.GaugeBank.shows l.initial.bank) (g.B.GaugeBank.shows l.bank) l.address.number l.place-index l.values
