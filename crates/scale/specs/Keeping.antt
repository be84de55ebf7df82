-- What commands leave of a scale as it was: the laws of refusals, queries, restarting and the held value.
use Rattle.std.specs.Prelude.{◌≡◌, ℕ, Bool, false, cond, ◌||◌, List, [], ◌∷◌, None, Some, Ok, Err, Result, Option, ◌==◌}
use Rattle.fault.specs.declared.faults.Fault.{Fault}
use Rattle.fault.specs.Causes.{described}
use Rattle.bank.specs.Ports.{Port}
use Rattle.command.specs.declared.orders.Argument.{Argument}
use Rattle.command.specs.declared.orders.Argument.TheVariants.{Absent}
use Rattle.command.specs.declared.orders.Form.{Form}
use Rattle.command.specs.declared.orders.Form.TheVariants.{Entry, Query}
use Rattle.command.specs.declared.orders.Heard.{Heard}
use Rattle.command.specs.declared.orders.Heard.TheVariants.{Blank, Select, Command}
use Rattle.command.specs.declared.orders.Mnemonic.{Mnemonic}
use Rattle.command.specs.declared.orders.Mnemonic.TheVariants.{Cof, Icr, Nov, Rsn, Ldw, Lwt, Tar, Tas, Tav, Msv, Spw, Dpw, Tdd, Res, Esr}
use Rattle.command.specs.declared.orders.Order.{Order}
use Rattle.value.specs.Plain.{plain_text, line}
use Rattle.value.specs.declared.plain.Plain.TheVariants.{Refused}
use Rattle.scale.specs.declared.modes.Mode.{Mode}
use Rattle.scale.specs.declared.modes.Mode.TheVariants.{Selected, Broadcast}
use Rattle.scale.specs.declared.state.State.{State}
use Rattle.scale.specs.declared.state.Ticket.{Ticket}
use Rattle.scale.specs.Answers.{answer_bytes}
use Rattle.scale.specs.Calibrating.{given_port}
use Rattle.scale.specs.Hearing.{Outcome, in_mode, held_answer, obeys, hears}
use Rattle.scale.specs.Orders.{task_of, for_values}
use Rattle.scale.specs.States.{restarted}

-- a fault of this number
abbrev pub numbered : ℕ → Fault → Bool
numbered n f = (described f.cause).number == n

-- another text for the password (9) closes the scale; no other refusal opens or closes it
abbrev pub opened_left : Fault → State → Bool
opened_left f s = cond (numbered 9 f) false s.opened

-- a full load refused for its span (12) has used up its readings, if it was measured and not entered; no other refusal takes one
abbrev pub port_left : Fault → Order → State → Port → Port
port_left f o s p = cond (numbered 12 f) (given_port s.force.averaging o.argument p) p

-- a refusal of what a scale hears alters the fault memory only: settings in force and stored (tare and password among them), waiting dead load and held value stay.
-- The selected scale says `?`, and its fault is returned; in a broadcast neither.
pub record OnlyRemembered (m : Mode) (f : Fault) (s : State) (x : Outcome) : Type 0 where
  pub force : x.state.force ≡ s.force
  pub stored : x.state.stored ≡ s.stored
  pub pending : x.state.pending ≡ s.pending
  pub held : x.state.held ≡ s.held
  pub memory : x.state.memory ≡ Some f
  pub says : x.says ≡ in_mode m (line (plain_text Refused)) []
  pub fault : x.fault ≡ in_mode m (Some f) None

-- a command that was refused while it was read
pub record UnreadKept (m : Mode) (f : Fault) (s : State) (p : Port) (x : Outcome) : Type 0 where
  pub kept : OnlyRemembered m f s x
  pub opened : x.state.opened ≡ s.opened
  pub port : x.port ≡ p

-- an order that was refused
pub record OrderKept (m : Mode) (f : Fault) (o : Order) (s : State) (p : Port) (x : Outcome) : Type 0 where
  pub kept : OnlyRemembered m f s x
  pub opened : x.state.opened ≡ opened_left f s
  pub port : x.port ≡ port_left f o s p

pub record RefusalsKeep : Type 0 where
  pub unread : (m : Mode) (a : ℕ) (f : Fault) (s : State) (p : Port) → UnreadKept m f s p (hears m a (Err f) s p)
  pub orders : (m : Mode) (a : ℕ) (o : Order) (s : State) (p : Port) (f : Fault) → (obeys m a o s p).reply ≡ Err f → OrderKept m f o s p (hears m a (Ok (Command o)) s p)

abbrev pub asks_values : Result Heard Fault → Bool
asks_values (Err f) = false
asks_values (Ok Blank) = false
asks_values (Ok (Select n)) = false
asks_values (Ok (Command o)) = for_values (task_of o.form o.name)

-- measured values are asked of all in a broadcast: this alone gives a scale a value to be handed out
abbrev pub fills : Mode → Result Heard Fault → Bool
fills Selected h = false
fills Broadcast h = asks_values h

-- what an obeyed order does to what a scale remembers beside its settings: most leave it, ESR? tells the fault and clears it, RES forgets all
pub data Effect : Type 0 where
  Leaves : Effect
  Tells : Effect
  Forgets : Effect

abbrev pub entry_effect : Mnemonic → Effect
entry_effect Cof = Leaves
entry_effect Icr = Leaves
entry_effect Nov = Leaves
entry_effect Rsn = Leaves
entry_effect Ldw = Leaves
entry_effect Lwt = Leaves
entry_effect Tar = Leaves
entry_effect Tas = Leaves
entry_effect Tav = Leaves
entry_effect Msv = Leaves
entry_effect Spw = Leaves
entry_effect Dpw = Leaves
entry_effect Tdd = Leaves
entry_effect Res = Forgets
entry_effect Esr = Leaves

abbrev pub query_effect : Mnemonic → Effect
query_effect Cof = Leaves
query_effect Icr = Leaves
query_effect Nov = Leaves
query_effect Rsn = Leaves
query_effect Ldw = Leaves
query_effect Lwt = Leaves
query_effect Tar = Leaves
query_effect Tas = Leaves
query_effect Tav = Leaves
query_effect Msv = Leaves
query_effect Spw = Leaves
query_effect Dpw = Leaves
query_effect Tdd = Leaves
query_effect Res = Leaves
query_effect Esr = Tells

abbrev pub effect_of : Form → Mnemonic → Effect
effect_of Entry n = entry_effect n
effect_of Query n = query_effect n

abbrev pub memory_left : Effect → State → Option Fault
memory_left Leaves s = s.memory
memory_left Tells s = None
memory_left Forgets s = None

abbrev pub held_left : Effect → State → Option Ticket
held_left Leaves s = s.held
held_left Tells s = s.held
held_left Forgets s = None

-- an order that is obeyed returns no fault and puts none into the memory; it leaves the held value, unless it fills it
pub record ObeyedLeft (m : Mode) (o : Order) (s : State) (x : Outcome) : Type 0 where
  pub fault : x.fault ≡ None
  pub memory : x.state.memory ≡ memory_left (effect_of o.form o.name) s
  pub held : fills m (Ok (Command o)) ≡ false → x.state.held ≡ held_left (effect_of o.form o.name) s

abbrev pub ObeyedLeave : Type 0
ObeyedLeave = (m : Mode) (a : ℕ) (o : Order) (s : State) (p : Port) (bytes : List ℕ) → (obeys m a o s p).reply ≡ Ok bytes → ObeyedLeft m o s (hears m a (Ok (Command o)) s p)

-- a query, answered or refused, alters no setting in force or stored and no waiting dead load, and does not open or close
pub record SettingsKept (s t : State) : Type 0 where
  pub force : t.force ≡ s.force
  pub stored : t.stored ≡ s.stored
  pub pending : t.pending ≡ s.pending
  pub opened : t.opened ≡ s.opened

abbrev pub query : Mnemonic → Argument → ℕ → Order
query n x place = record { name = n; form = Query; argument = x; place = place }

abbrev pub QueriesKeep : Type 0
QueriesKeep = (m : Mode) (a : ℕ) (n : Mnemonic) (x : Argument) (place : ℕ) (s : State) (p : Port) → SettingsKept s (hears m a (Ok (Command (query n x place))) s p).state

-- a restart puts the stored settings in force, forgets the rest, takes no reading and has no answer
abbrev pub restart_order : ℕ → Order
restart_order place = record { name = Res; form = Entry; argument = Absent; place = place }

abbrev pub RestartsRestore : Type 0
RestartsRestore =
    (m : Mode) (a place : ℕ) (s : State) (p : Port) → hears m a (Ok (Command (restart_order place))) s p ≡ record { state = restarted s; port = p; says = []; fault = None }

-- what a scale is sent, with the port that it finds
pub record Sent : Type 0 where
  pub mode : Mode
  pub heard : Result Heard Fault
  pub port : Port

-- a scale after all that it is sent
unfoldable pub after_all : ℕ → List Sent → State → State
after_all a [] s = s
after_all a (x ∷ xs) s = after_all a xs (hears x.mode a x.heard s x.port).state

abbrev pub any_fills : List Sent → Bool
any_fills [] = false
any_fills (x ∷ xs) = fills x.mode x.heard || any_fills xs

-- a held value is handed out once: the first select says it and leaves none; whatever comes then, until a broadcast asks for measured values again,
-- there is none, and a select says nothing
pub record HeldOnce : Type 0 where
  pub said : (a n : ℕ) (s : State) (p : Port) → (hears Selected a (Ok (Select n)) s p).says ≡ answer_bytes a (held_answer s.held)
  pub gone : (a n : ℕ) (s : State) (p : Port) → (hears Selected a (Ok (Select n)) s p).state.held ≡ None
  pub stays : (a : ℕ) (xs : List Sent) (s : State) → any_fills xs ≡ false → s.held ≡ None → (after_all a xs s).held ≡ None
  pub once : (a n k : ℕ) (xs : List Sent) (s : State) (p q : Port) → any_fills xs ≡ false →
      (hears Selected a (Ok (Select k)) (after_all a xs (hears Selected a (Ok (Select n)) s p).state) q).says ≡ []
