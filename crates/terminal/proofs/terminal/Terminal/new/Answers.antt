use Rattle.std.proofs.Common.{refl}
use Rattle.terminal.proofs.Same.{same_bus, all_fresh}
use Rattle.terminal.proofs.terminal.Terminal.new.Goals as goal

pub returns : goal.returns
returns g c = same_bus _ _ (all_fresh c.new.result c.new.ensures 32) (λ _. refl) refl
