use Rattle.std.proofs.Common.{◌≡◌, length, ltb, eqb, false, None, ◌∙◌, sym, rules}
use Rattle.std.proofs.lemmas.Bool.{cond-false}
use Rattle.command.specs.Cuts.{first_of}
use Rattle.command.specs.Readings.{select_of}
use Rattle.command.specs.Understood.{past, closed, answered, understood}
use Rattle.command.proofs.Flows.{reading_is}
use Rattle.command.proofs.reader.read.Goals as goal

pub returns-clause-value : goal.returns-clause-value
unfolding understood
returns-clause-value c =
    let t = c.args.command.now in
    let short : ltb 64 (length t) ≡ false = search rules in
    let some : eqb (length (closed (past t))) 0 ≡ false = search rules in
    let other : select_of (closed (past t)) ≡ None = search rules in
    let told : c.order_in.result ≡ answered (first_of 17 19 t) (understood t) = search rules in
    told ∙ sym (reading_is t ∙ cond-false (ltb 64 (length t)) _ _ short)
