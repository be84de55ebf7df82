-- What is understood of a command where a byte that holds or resumes the flow counts as no blank. Assumes nothing.
use Rattle.std.specs.Prelude.{ℕ, ◌-◌, Bool, cond, ◌&&◌, List, length, take, drop, Some, None, Ok, Err, Option, Result, ◌==◌}
use Rattle.std.specs.List.{prefix_len, suffix_len, list_all}
use Rattle.fault.specs.declared.causes.Cause.TheVariants.{UnknownCommand}
use Rattle.fault.specs.declared.faults.Fault.{Fault}
use Rattle.fault.specs.Faults.{refusal}
use Rattle.command.specs.declared.orders.Form.{Form}
use Rattle.command.specs.declared.orders.Form.TheVariants.{Entry, Query}
use Rattle.command.specs.declared.orders.Heard.{Heard}
use Rattle.command.specs.declared.orders.Heard.TheVariants.{Blank, Select}
use Rattle.command.specs.declared.orders.Mnemonic.{Mnemonic}
use Rattle.command.specs.declared.orders.Order.{Order}
use Rattle.command.specs.declared.table.Kind.{Kind}
use Rattle.command.specs.Arguments.{argument_of}
use Rattle.command.specs.Blanks.{blank}
use Rattle.command.specs.Cuts.{other}
use Rattle.command.specs.Readings.{asks, sense_of, filled, commanded, select_of}

-- a blank that may stand in a command
abbrev pub gap : ℕ → Bool
gap b = blank b && other 17 19 b

-- no byte holds or resumes the flow
abbrev pub clean : List ℕ → Bool
clean t = list_all (other 17 19) t

-- from the first byte that is no gap on, and up to the last one
abbrev pub past : List ℕ → List ℕ
past t = drop (prefix_len gap t) t

abbrev pub closed : List ℕ → List ℕ
closed t = take (length t - suffix_len gap t) t

-- a question mark stands first behind the initials; from the parameter on
abbrev pub form_at : List ℕ → Form
form_at b = cond (asks b) Query Entry

abbrev pub rest_at : List ℕ → List ℕ
rest_at b = cond (asks b) (past (drop 1 b)) b

-- a command of n bytes that begins with s behind its blanks, and has b behind its initials and blanks
abbrev pub placed : ℕ → List ℕ → List ℕ → Option (Mnemonic × Kind) → Result Order Fault
placed n s b None = Err (refusal UnknownCommand (n - length s))
placed n s b (Some p) = filled p.0 (form_at b) (n - length (rest_at b)) (argument_of p.1 (closed (rest_at b)))

abbrev pub order_behind : ℕ → List ℕ → List ℕ → Result Order Fault
order_behind n s b = placed n s b (sense_of (take 3 s) (form_at b))

unfoldable pub order_at : ℕ → List ℕ → Result Order Fault
order_at n s = order_behind n s (past (drop 3 s))

-- a select, or else another command
abbrev pub picked : ℕ → List ℕ → Option ℕ → Result Heard Fault
picked n s (Some pair) = Ok (Select pair)
picked n s None = commanded (order_at n s)

abbrev pub understood_at : ℕ → List ℕ → Result Heard Fault
understood_at n s = cond (length (closed s) == 0) (Ok Blank) (picked n s (select_of (closed s)))

unfoldable pub understood : List ℕ → Result Heard Fault
understood c = understood_at (length c) (past c)

-- why a command is refused: a byte that holds or resumes the flow, if one stands in it, or else what it was refused for
abbrev pub blamed : Option ℕ → Fault → Fault
blamed (Some place) f = refusal UnknownCommand place
blamed None f = f

abbrev pub answered : Option ℕ → Result Heard Fault → Result Heard Fault
answered o (Ok h) = Ok h
answered o (Err f) = Err (blamed o f)
