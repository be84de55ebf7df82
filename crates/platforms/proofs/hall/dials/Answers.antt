use Rattle.std.proofs.Common.{◌≡◌, get_or, w32, ◌+◌, ◌<◌, ap, ◌∙◌, ℕ, Option, ℤ, pos, arith}
use Rattle.std.proofs.lemmas.Int.{to_z-of_z}
use Rattle.bank.specs.Dials.{Setting, setting_at, set_at, given}
use Rattle.bank.specs.Gauges.{fit_at, fitted}
use Rattle.bank.specs.declared.dials.DialTable.{DialTable}
use Rattle.platforms.specs.Halls.{digits}
use Rattle.platforms.proofs.Setting.{gauges_to, settings_to, none_fitted, one_fitted, none_set, one_set, digits_fit, whole_set}
use Rattle.platforms.proofs.hall.dials.Goals as goal

pub loop-i-init : goal.loop-i-init
loop-i-init c = record {
  fitted = c.new-dials.ensures.factors ∙ none_fitted;
  set = c.new-dials.ensures.settings ∙ none_set;
}

pub loop-i-preserved : goal.loop-i-preserved
loop-i-preserved c =
    let n = c.loop-i.i in
    let few : n < 31 = omega (arith, c.loop-i-test.true) in
    record {
      fitted = c.set.ensures.factors ∙ c.fit.ensures.factors ∙ ap (λ (f : ℕ → Option ℕ). fit_at f (n + 1) 1000) c.loop-i.invariant.fitted ∙ one_fitted n few;
      set =
          c.set.ensures.settings
          ∙ ap (λ (d : ℤ). set_at (setting_at c.fit.new.self.source.dials) (n + 1) (record { digits = d; conversions = 100 })) (to_z-of_z w32 _ (digits_fit n))
          ∙ ap (λ (s : ℕ → Setting). set_at s (n + 1) (record { digits = get_or digits n (pos 0); conversions = 100 })) (ap (λ (s : DialTable). setting_at s.dials) c.fit.ensures.source ∙ c.loop-i.invariant.set)
          ∙ one_set n few;
    }

pub returns : goal.returns
returns c =
    let done : c.loop-i.i ≡ 5 = omega (arith, c.loop-i-test.false, c.loop-i.auto.i-end) in
    ap (λ (f : ℕ → Option ℕ). fitted f (given (setting_at c.loop-i.dials.source.dials))) (c.loop-i.invariant.fitted ∙ ap gauges_to done)
    ∙ ap (λ (s : ℕ → Setting). fitted (gauges_to 5) (given s)) (c.loop-i.invariant.set ∙ ap settings_to done)
    ∙ whole_set
