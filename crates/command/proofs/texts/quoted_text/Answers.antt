use Rattle.command.proofs.Quoted.{exact_text}
use Rattle.command.proofs.texts.quoted_text.Goals as goal

pub returns-in-34-clause-exact : goal.returns-in-34-clause-exact
returns-in-34-clause-exact c = exact_text c.args.bytes.now
