use Rattle.std.proofs.Common.{◌≡◌, ◌≤◌, ℕ, List, Option, length, take, Ok, ap, ◌∙◌, arith}
use Rattle.std.proofs.lemmas.Bool.Decides.{nat_tests}
use Rattle.bank.specs.Gauges.{fits, fit_at, fitted}
use Rattle.bank.specs.Fitting.{factor_at}
use Rattle.bank.specs.Records.{due_at, due_of}
use Rattle.bank.specs.declared.record.Record.{Record}
use Rattle.bank.specs.declared.recording.Records.{Records}
use Rattle.linked.specs.Halls.{on_tape, taped}
use Rattle.linked.proofs.Lines.{recorded_all, tape_is, in_hall}
use Rattle.linked.proofs.serving.serve_recording.Goals as goal

pub returns : goal.returns
returns c =
    let ds = c.args.digits.now in
    let few : length ds ≤ 65535 = omega (arith, c.if-digits-gt-MOST_RECORDS.false) in
    let there : taped ds ≡ Ok (on_tape ds) = grind (arith, nat_tests) in
    let factors : factor_at c.fit.new.self.fitting.factors ≡ fit_at fits 1 1000 = c.fit.ensures.factors ∙ ap (λ (f : ℕ → Option ℕ). fit_at f 1 1000) c.new-recording.ensures.factors in
    let digits =
    ap (λ (s : Records). due_at s.records.now s.cursors) c.fit.ensures.source
    ∙ c.new-recording.ensures.records
    ∙ ap (λ (rs : List Record). due_of (take 65535 rs)) c.write_down-count.ensures.records
    ∙ ap due_of (recorded_all ds few) in
    let e = (λ i. fitted (factors i) (digits i)) ∙ tape_is ds in
    let heard = in_hall (taped ds) _ (on_tape ds) c.args.run.now c.args.answers.now c.answer.new.answers c.answer.result e there c.answer.ensures.count c.answer.ensures.buffer in
    record { answer = heard.answer; buffer = heard.buffer; within = c.answer.ensures.within }
