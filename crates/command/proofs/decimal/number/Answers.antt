use Rattle.command.proofs.Meant.{exact_value}
use Rattle.command.proofs.decimal.number.Goals as goal

pub returns-in_err-n-clause-exact : goal.returns-in_err-n-clause-exact
returns-in_err-n-clause-exact c = exact_value c.args.text.now

pub returns-in_err-size-clause-exact : goal.returns-in_err-size-clause-exact
returns-in_err-size-clause-exact c = exact_value c.args.text.now

pub returns-clause-exact : goal.returns-clause-exact
returns-clause-exact c = exact_value c.args.text.now
