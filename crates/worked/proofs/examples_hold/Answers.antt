use Rattle.std.proofs.Common.{refl}
use Rattle.command.specs.Numbers.{unsigned}
use Rattle.command.specs.Arguments.{among, argument_of}
use Rattle.command.specs.Cuts.{first_of}
use Rattle.command.specs.Table.{lookup}
use Rattle.command.specs.Readings.{sense_of, order_of, reading}
use Rattle.command.specs.Conditions.{needs_password, broadcast_of}
use Rattle.command.specs.Texts.{text_of}
use Rattle.junction.specs.Joins.{after_joins}
use Rattle.junction.specs.Gather.{gather}
use Rattle.scale.specs.Hearing.{obeys, hears}
use Rattle.scale.specs.Blocks.{weighings}
use Rattle.scale.specs.Measuring.{summed, marks}
use Rattle.terminal.specs.Buses.{after, reply}
use Rattle.terminal.specs.Serves.{cut, taken}
use Rattle.value.specs.Output.{numbered_format, format_number, format_block}
use Rattle.value.specs.Scaled.{scaled, in_digits}
use Rattle.value.specs.Rounding.{nearest}
use Rattle.worked.proofs.examples_hold.Goals as goal

pub returns : goal.returns
unfolding unsigned among argument_of first_of lookup sense_of order_of reading needs_password broadcast_of text_of after_joins gather obeys hears weighings summed marks numbered_format format_number format_block scaled in_digits nearest after reply cut taken
returns c = (refl, refl, refl, refl, refl, refl, refl, refl, refl, refl, refl, refl, refl)
