-- What the table asks of an order besides its reading. Assumes nothing.
use Rattle.std.specs.Prelude.{Bool, true, false, cond, ◌&&◌, ℤ, pos, Some, None, Ok, Err, Option, Result, int_le, int_lt}
use Rattle.fault.specs.declared.causes.Cause.TheVariants.{OutOfRange}
use Rattle.fault.specs.declared.faults.Fault.{Fault}
use Rattle.fault.specs.Faults.{refusal}
use Rattle.command.specs.declared.orders.Argument.{Argument}
use Rattle.command.specs.declared.orders.Argument.TheVariants.{Absent, Number, Text}
use Rattle.command.specs.declared.orders.Form.{Form}
use Rattle.command.specs.declared.orders.Form.TheVariants.{Entry, Query}
use Rattle.command.specs.declared.orders.Mnemonic.{Mnemonic}
use Rattle.command.specs.declared.orders.Order.{Order}
use Rattle.command.specs.declared.table.Need.{Need}
use Rattle.command.specs.declared.table.Need.TheVariants.{Never, Always, ForZero}
use Rattle.command.specs.Arguments.{number_for}
use Rattle.command.specs.Table.{row_of}

-- the argument is the number 0
abbrev pub zero_given : Argument → Bool
zero_given Absent = false
zero_given (Number n) = int_le n (pos 0) && int_le (pos 0) n
zero_given (Text t) = false

abbrev pub needed : Need → Argument → Bool
needed Never a = false
needed Always a = true
needed ForZero a = zero_given a

-- a query never needs the password
abbrev pub needs_by : Form → Need → Argument → Bool
needs_by Query n a = false
needs_by Entry n a = needed n a

unfoldable pub needs_password : Order → Bool
needs_password o = needs_by o.form (row_of o.name).password o.argument

-- the argument is a number above the highest, if there is one
abbrev pub above : Option ℤ → Argument → Bool
above None a = false
above (Some most) Absent = false
above (Some most) (Number n) = int_lt most n
above (Some most) (Text t) = false

-- an order as a broadcast hears it: a number above the highest in a broadcast is outside the range
unfoldable pub broadcast_of : Order → Result Order Fault
broadcast_of o = cond (above (row_of o.name).broadcast o.argument) (Err (refusal OutOfRange o.place)) (Ok o)

-- the table admits the number n in the query of a command
abbrev pub query_admits : Mnemonic → ℤ → Bool
query_admits name n = number_for (row_of name).query n
