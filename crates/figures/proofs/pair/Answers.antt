use Rattle.figures.proofs.Pairs.{pair_text}
use Rattle.figures.proofs.pair.Goals as goal

pub returns : goal.returns
returns c = pair_text c.args.n c.requires
