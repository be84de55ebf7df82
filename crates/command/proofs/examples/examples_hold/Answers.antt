use Rattle.std.proofs.Common.{refl}
use Rattle.command.specs.Arguments.{among, argument_of}
use Rattle.command.specs.Conditions.{needs_password, broadcast_of}
use Rattle.command.specs.Cuts.{first_of}
use Rattle.command.specs.Numbers.{unsigned}
use Rattle.command.specs.Readings.{reading, order_of, sense_of}
use Rattle.command.specs.Table.{lookup}
use Rattle.command.specs.Texts.{text_of}
use Rattle.command.proofs.examples.examples_hold.Goals as goal

pub returns : goal.returns
unfolding reading needs_password broadcast_of order_of sense_of lookup argument_of among unsigned text_of first_of
returns c = ((refl, refl, refl, refl, refl, refl, refl, refl, refl, refl, refl, refl, refl, refl, refl, refl, refl, refl, refl, refl, refl, refl, refl, refl, refl, refl), (refl, refl, refl, refl, refl, refl, refl, refl, refl), (refl, refl, refl, refl, refl, refl, refl, refl))
