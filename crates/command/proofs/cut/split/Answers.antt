use Rattle.std.proofs.Common.{sym, subst, rules}
use Rattle.command.specs.Cuts.{Cuts}
use Rattle.command.proofs.Splits.{cuts}
use Rattle.command.proofs.cut.split.Goals as goal

pub returns-in_err-n-clause-value : goal.returns-in_err-n-clause-value
returns-in_err-n-clause-value c = search rules

pub returns-in_err-n-clause-law : goal.returns-in_err-n-clause-law
returns-in_err-n-clause-law c = subst (Cuts c.args.bytes.now) (sym (returns-in_err-n-clause-value c)) (cuts c.args.bytes.now)

pub returns-clause-value : goal.returns-clause-value
returns-clause-value c = search rules

pub returns-clause-law : goal.returns-clause-law
returns-clause-law c = subst (Cuts c.args.bytes.now) (sym (returns-clause-value c)) (cuts c.args.bytes.now)
