use Rattle.std.proofs.Common.{◌≡◌}
use Rattle.bank.specs.Dials.{setting_at}
use Rattle.bank.specs.Fitting.{factor_at}
use Rattle.linked.specs.Halls.{gauges_to, dials_to}
use Rattle.linked.proofs.setting_up.dials.Given as goal

-- the ports before this one are fitted and set
abbrev pub invariant-loop-port : goal.invariant-loop-port
invariant-loop-port l = record {
  fitted : factor_at l.dials.fitting.factors ≡ gauges_to l.port;
  set : setting_at l.dials.source.dials ≡ dials_to l.digits l.port;
}
