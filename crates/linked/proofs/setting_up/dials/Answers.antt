use Rattle.std.proofs.Common.{◌<◌, ap, ◌∙◌, ℕ, Option, ℤ, pos, get_or, SFits, w32, rules, arith}
use Rattle.std.proofs.lemmas.Int.{to_z-of_z}
use Rattle.bank.specs.Dials.{Setting, setting_at, set_at}
use Rattle.bank.specs.Gauges.{fit_at}
use Rattle.bank.specs.declared.dials.DialTable.{DialTable}
use Rattle.linked.specs.Halls.{dials_to}
use Rattle.linked.proofs.Lines.{none_fitted, one_fitted, none_set, one_set}
use Rattle.linked.proofs.setting_up.dials.Goals as goal

pub loop-port-init : goal.loop-port-init
loop-port-init c = record {
  fitted = c.new-dials.ensures.factors ∙ none_fitted;
  set = c.new-dials.ensures.settings ∙ none_set c.args.digits.now;
}

pub loop-port-preserved : goal.loop-port-preserved
loop-port-preserved c =
    let few : c.loop-port.port < 32 = omega (arith, c.loop-port-test.true, c.requires) in
    let ds = c.args.digits.now in
    let n = c.loop-port.port in
    let fits : SFits w32 (get_or ds c.from.result (pos 0)) = search rules in
    record {
      fitted = c.set.ensures.factors ∙ c.fit.ensures.factors ∙ ap (λ (f : ℕ → Option ℕ). fit_at f n 1000) c.loop-port.invariant.fitted ∙ one_fitted n few;
      set =
          c.set.ensures.settings
          ∙ ap (λ (d : ℤ). set_at (setting_at c.fit.new.self.source.dials) n (record { digits = d; conversions = 65535 })) (to_z-of_z w32 _ fits)
          ∙ ap (λ (s : ℕ → Setting). set_at s n (record { digits = get_or ds c.from.result (pos 0); conversions = 65535 })) (ap (λ (s : DialTable). setting_at s.dials) c.fit.ensures.source ∙ c.loop-port.invariant.set)
          ∙ ap (λ (j : ℕ). set_at (dials_to ds n) n (record { digits = get_or ds j (pos 0); conversions = 65535 })) c.from.ensures
          ∙ one_set ds n few;
    }
