-- What the bytes of one command say, or why it is refused. Assumes nothing.
use Rattle.std.specs.Prelude.{ℕ, ◌+◌, ◌-◌, ◌*◌, Bool, cond, ◌&&◌, List, length, take, drop, Some, None, Ok, Err, Option, Result, ◌==◌, nat_lt, slice_index}
use Rattle.std.specs.Char.{is_ascii_digit, to_ascii_uppercase}
use Rattle.fault.specs.declared.causes.Cause.{Cause}
use Rattle.fault.specs.declared.causes.Cause.TheVariants.{LongCommand, UnknownCommand}
use Rattle.fault.specs.declared.faults.Fault.{Fault}
use Rattle.fault.specs.Faults.{refusal}
use Rattle.command.specs.declared.orders.Argument.{Argument}
use Rattle.command.specs.declared.orders.Form.{Form}
use Rattle.command.specs.declared.orders.Form.TheVariants.{Entry, Query}
use Rattle.command.specs.declared.orders.Heard.{Heard}
use Rattle.command.specs.declared.orders.Heard.TheVariants.{Blank, Select, Command}
use Rattle.command.specs.declared.orders.Mnemonic.{Mnemonic}
use Rattle.command.specs.declared.orders.Order.{Order}
use Rattle.command.specs.declared.table.Kind.{Kind}
use Rattle.command.specs.declared.table.Row.{Row}
use Rattle.command.specs.Arguments.{argument_of}
use Rattle.command.specs.Blanks.{skipped, chopped, trimmed}
use Rattle.command.specs.Cuts.{first_of}
use Rattle.command.specs.Table.{rows, lookup, kind_of}

-- three bytes from the first that is no blank
abbrev pub initials_of : List ℕ → List ℕ
initials_of c = take 3 (skipped c)

-- what follows the initials, from its first byte that is no blank
abbrev pub behind_of : List ℕ → List ℕ
behind_of c = skipped (drop 3 (skipped c))

-- a question mark stands first
abbrev pub asks : List ℕ → Bool
asks t = slice_index t 0 == 63

abbrev pub form_of : List ℕ → Form
form_of c = cond (asks (behind_of c)) Query Entry

-- from the parameter's first byte to the end of the command; nothing where there is no parameter
abbrev pub rest_of : List ℕ → List ℕ
rest_of c = cond (asks (behind_of c)) (skipped (drop 1 (behind_of c))) (behind_of c)

-- the parameter, up to its last byte that is no blank
abbrev pub parameter_of : List ℕ → List ℕ
parameter_of c = chopped (rest_of c)

-- the first byte of the initials, and of the parameter: without one the command's length
abbrev pub start_of : List ℕ → ℕ
start_of c = length c - length (skipped c)

abbrev pub place_of : List ℕ → ℕ
place_of c = length c - length (rest_of c)

-- a command by its initials and what its form takes, if both are known
abbrev pub formed : Form → Row → Option Kind → Option (Mnemonic × Kind)
formed f r None = None
formed f r (Some k) = Some (r.name, k)

abbrev pub sensed : Form → Option Row → Option (Mnemonic × Kind)
sensed f None = None
sensed f (Some r) = formed f r (kind_of r f)

unfoldable pub sense_of : List ℕ → Form → Option (Mnemonic × Kind)
sense_of q f = sensed f (lookup rows q)

-- the argument in its place
abbrev pub filled : Mnemonic → Form → ℕ → Result Argument Cause → Result Order Fault
filled n f place (Err why) = Err (refusal why place)
filled n f place (Ok a) = Ok (record { name = n; form = f; argument = a; place = place })

-- unknown initials or a wrong question mark come before the parameter
abbrev pub ordered : List ℕ → Option (Mnemonic × Kind) → Result Order Fault
ordered c None = Err (refusal UnknownCommand (start_of c))
ordered c (Some p) = filled p.0 (form_of c) (place_of c) (argument_of p.1 (parameter_of c))

unfoldable pub order_of : List ℕ → Result Order Fault
order_of c = ordered c (sense_of (initials_of c) (form_of c))

-- S or s and two digits
abbrev pub selects : List ℕ → Bool
selects t = length t == 3 && (to_ascii_uppercase (slice_index t 0) == 83 && (is_ascii_digit (slice_index t 1) && is_ascii_digit (slice_index t 2)))

abbrev pub select_of : List ℕ → Option ℕ
select_of t = cond (selects t) (Some (10 * (slice_index t 1 - 48) + (slice_index t 2 - 48))) None

abbrev pub commanded : Result Order Fault → Result Heard Fault
commanded (Err f) = Err f
commanded (Ok o) = Ok (Command o)

-- a select, or else another command
abbrev pub selected : List ℕ → Option ℕ → Result Heard Fault
selected c (Some pair) = Ok (Select pair)
selected c None = commanded (order_of c)

-- no byte that holds or resumes the flow of the line, 11h or 13h, stands in a command
abbrev pub allowed : List ℕ → Option ℕ → Result Heard Fault
allowed c (Some place) = Err (refusal UnknownCommand place)
allowed c None = cond (length (trimmed c) == 0) (Ok Blank) (selected c (select_of (trimmed c)))

-- the checks in their order: the length, the flow bytes, blank, select, and then the command's own
abbrev pub checked : List ℕ → Result Heard Fault
checked c = cond (nat_lt 64 (length c)) (Err (refusal LongCommand 64)) (allowed c (first_of 17 19 c))

-- what is read of a command; shut, so that what stands above need not look into it
unfoldable pub reading : List ℕ → Result Heard Fault
reading c = checked c
