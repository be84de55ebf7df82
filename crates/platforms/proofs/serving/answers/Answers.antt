use Rattle.std.proofs.Common.{ℕ, length, refl, ap, sym, ◌∙◌, vec_items}
use Rattle.bank.specs.Ports.{Port}
use Rattle.platforms.specs.Answers.{answered_in}
use Rattle.terminal.specs.Buses.{silent}
use Rattle.terminal.specs.Serves.{answered, served}
use Rattle.platforms.proofs.Answering.{served_says, whole}
use Rattle.platforms.proofs.serving.answers.Goals as goal

pub returns-clause-answers : goal.returns-clause-answers
returns-clause-answers c =
    let n = length (vec_items c.args.buffer) in
    c.truncate.ensures.items
    ∙ served_says _ c.args.bytes _ _ _ _ _ c.written-written.result (vec_items c.replace-answers.result) refl c.run.ensures.laws c.written-written.ensures (ap vec_items c.replace-answers.ensures.value)
    ∙ ap (λ (m : ℕ → Port). answered (silent m) (served n (silent m) c.args.bytes.now)) c.platform.ensures
    ∙ ap (λ k. answered_in k c.args.bytes.now) (sym c.args.buffer.ok.0)

pub returns-clause-law : goal.returns-clause-law
returns-clause-law c = whole _ c.args.bytes.now
