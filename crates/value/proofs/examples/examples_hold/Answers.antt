use Rattle.std.proofs.Common.{refl}
use Rattle.value.specs.Output.{numbered_format, format_block}
use Rattle.value.specs.Rounding.{nearest}
use Rattle.value.specs.Scaled.{scaled, in_digits}
use Rattle.value.proofs.examples.examples_hold.Goals as goal

pub returns : goal.returns
unfolding nearest scaled in_digits numbered_format format_block
returns c = (
  (refl, refl, refl, refl, refl, refl, refl, refl, refl, refl, refl),
  (
    (refl, refl, refl, refl, refl, refl, refl, refl, refl, refl, refl, refl),
    ((refl, refl, refl, refl, refl, refl, refl, refl, refl, refl, refl, refl, refl), (refl, refl, refl, refl, refl, refl, refl, refl, refl, refl, refl, refl, refl, refl, refl)),
  ),
)
