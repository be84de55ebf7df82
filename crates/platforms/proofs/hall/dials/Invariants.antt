use Rattle.std.proofs.Common.{◌≡◌}
use Rattle.bank.specs.Dials.{setting_at}
use Rattle.bank.specs.Fitting.{factor_at}
use Rattle.platforms.proofs.Setting.{gauges_to, settings_to}
use Rattle.platforms.proofs.hall.dials.Given as goal

-- the dials before this one are fitted and set
abbrev pub invariant-loop-i : goal.invariant-loop-i
invariant-loop-i l = record {
  fitted : factor_at l.dials.fitting.factors ≡ gauges_to l.i;
  set : setting_at l.dials.source.dials ≡ settings_to l.i;
}
