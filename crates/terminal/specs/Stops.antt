-- Why serving stops, by number.
use Rattle.std.specs.Prelude.{ℕ}
use Rattle.terminal.specs.declared.answers.Stop.{Stop}
use Rattle.terminal.specs.declared.answers.Stop.TheVariants.{End, NoEnd, ShortBuffer}

abbrev pub stop_number : Stop → ℕ
stop_number End = 0
stop_number NoEnd = 1
stop_number ShortBuffer = 2
