use Rattle.std.proofs.Common.{sym, ap, ◌∙◌}
use Rattle.bank.specs.Fitting.{mapped_ok}
use Rattle.scale.specs.declared.modes.Mode.TheVariants.{Broadcast}
use Rattle.scale.proofs.Responses.{answers_is}
use Rattle.scale.proofs.scale.Scale.obey_unheard.Goals as goal

pub returns-clause-answer : goal.returns-clause-answer
returns-clause-answer g c =
    let heard = sym c.in_broadcast.ensures ∙ c.in_ok-order.was in
    let may = c.permit.ensures ∙ ap (mapped_ok (λ (_ : Unit {0}). c.in_ok-order.order)) c.in_ok-permit.was in
    let e = answers_is Broadcast c.args.address.number c.args.order c.in_ok-order.order c.args.self.now.state (g.B.GaugeBank.shows c.args.bank.now c.args.address.number) heard may (sym c.asks_values.ensures ∙ c.if-asks_values.false) in
    rw e c.act_unheard.ensures.answer
