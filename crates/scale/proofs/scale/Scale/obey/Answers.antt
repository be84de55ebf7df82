use Rattle.std.proofs.Common.{sym, refl, ap, ◌∙◌}
use Rattle.bank.specs.Fitting.{mapped_ok}
use Rattle.scale.specs.declared.modes.Mode.TheVariants.{Selected}
use Rattle.scale.proofs.Responses.{answers_is}
use Rattle.scale.proofs.scale.Scale.obey.Goals as goal

pub returns-clause-answer : goal.returns-clause-answer
returns-clause-answer g c =
    let may = c.permit.ensures ∙ ap (mapped_ok (λ (_ : Unit {0}). c.args.order)) c.in_ok-permit.was in
    let e = answers_is Selected c.args.address.number c.args.order c.args.order c.args.self.now.state (g.B.GaugeBank.shows c.args.bank.now c.args.address.number) refl may (sym c.asks_values.ensures ∙ c.if-asks_values.false) in
    rw e c.answer.ensures.answer

pub returns-clause-buffer : goal.returns-clause-buffer
returns-clause-buffer g c =
    let may = c.permit.ensures ∙ ap (mapped_ok (λ (_ : Unit {0}). c.args.order)) c.in_ok-permit.was in
    let e = answers_is Selected c.args.address.number c.args.order c.args.order c.args.self.now.state (g.B.GaugeBank.shows c.args.bank.now c.args.address.number) refl may (sym c.asks_values.ensures ∙ c.if-asks_values.false) in
    rw e c.answer.ensures.buffer
