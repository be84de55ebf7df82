use Rattle.scale.proofs.Totals.{Totalled}
use Rattle.scale.proofs.measuring.total.Given as goal

abbrev pub invariant-loop : goal.invariant-loop
invariant-loop g l = Totalled (g.B.GaugeBank.shows l.initial.bank) (g.B.GaugeBank.shows l.bank) l.address.number l.readings l.counter l.sum.load l.sum.mark
