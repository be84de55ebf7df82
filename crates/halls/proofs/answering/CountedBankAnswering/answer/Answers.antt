use Rattle.std.proofs.Common.{sym, ap, ◌∙◌}
use Rattle.halls.specs.Lines.{asked}
use Rattle.halls.specs.Stands.{OfTop, left_by}
use Rattle.halls.proofs.answering.CountedBankAnswering.answer.Goals as goal

pub returns-in-Take-clause-after : goal.returns-in-Take-clause-after
returns-in-Take-clause-after g c =
    ap OfTop c.take.ensures.after ∙ ap (λ r. left_by (OfTop (λ p. g.B.GaugeBank.shows c.args.self.now.below p)) (asked r)) (sym c.in-Take.is)
