-- A query alters no setting.
use Rattle.std.proofs.Common.{ℕ, Bool, true, false, cond, List, Some, None, Ok, Err, Option, Result, refl}
use Rattle.fault.specs.declared.faults.Fault.{Fault}
use Rattle.bank.specs.Ports.{Port}
use Rattle.command.specs.Conditions.{broadcast_of}
use Rattle.command.specs.declared.orders.Argument.{Argument}
use Rattle.command.specs.declared.orders.Form.TheVariants.{Query}
use Rattle.command.specs.declared.orders.Mnemonic.{Mnemonic}
use Rattle.command.specs.declared.orders.Mnemonic.TheVariants.{Cof, Icr, Nov, Rsn, Ldw, Lwt, Tar, Tas, Tav, Msv, Spw, Dpw, Tdd, Res, Esr}
use Rattle.scale.specs.declared.answers.Answer.{Answer}
use Rattle.scale.specs.declared.answers.Answer.TheVariants.{Silence, Line, Memory, Value}
use Rattle.scale.specs.declared.measuring.Measurement.{Measurement}
use Rattle.scale.specs.declared.modes.Mode.{Mode}
use Rattle.scale.specs.declared.modes.Mode.TheVariants.{Selected, Broadcast}
use Rattle.scale.specs.declared.state.State.{State}
use Rattle.scale.specs.Blocks.{holding}
use Rattle.scale.specs.Hearing.{weighs, by_task, permitted_by, obeys_by, obeys, settled, hears}
use Rattle.scale.specs.Keeping.{SettingsKept, query, QueriesKeep}
use Rattle.scale.specs.Measuring.{measures}
use Rattle.scale.specs.Orders.{block_size, task_of}
use Rattle.scale.specs.Queries.{tells, clears, asked_for}

kept_all : (s : State) → SettingsKept s s
kept_all s = record { force = refl; stored = refl; pending = refl; opened = refl }

cleared : (s : State) (x : Answer) → SettingsKept s (clears s x)
cleared s Silence = kept_all s
cleared s (Line x) = kept_all s
cleared s (Memory m) = record { force = refl; stored = refl; pending = refl; opened = refl }
cleared s (Value t) = kept_all s

asked_kept : (place : ℕ) (s : State) (x : Option Answer) → SettingsKept s (asked_for place s x).state
asked_kept place s None = kept_all s
asked_kept place s (Some x) = cleared s x

holding_kept : (s : State) (r : Result Measurement Fault) → SettingsKept s (holding s r)
holding_kept s (Ok m) = record { force = refl; stored = refl; pending = refl; opened = refl }
holding_kept s (Err f) = kept_all s

weighs_kept : (m : Mode) (a : ℕ) (s : State) (p : Port) (r : Result ℕ Fault) → SettingsKept s (weighs m a s p r).state
weighs_kept m a s p (Err f) = kept_all s
weighs_kept Selected a s p (Ok k) = kept_all s
weighs_kept Broadcast a s p (Ok k) = holding_kept s (measures a s.force.averaging p)

task_kept : (m : Mode) (a : ℕ) (n : Mnemonic) (x : Argument) (place : ℕ) (s : State) (p : Port) → SettingsKept s (by_task (task_of Query n) m a (query n x place) s p).state
task_kept m a Msv x place s p = weighs_kept m a s p (block_size x place)
task_kept m a Cof x place s p = asked_kept place s (tells Cof s)
task_kept m a Icr x place s p = asked_kept place s (tells Icr s)
task_kept m a Nov x place s p = asked_kept place s (tells Nov s)
task_kept m a Rsn x place s p = asked_kept place s (tells Rsn s)
task_kept m a Ldw x place s p = asked_kept place s (tells Ldw s)
task_kept m a Lwt x place s p = asked_kept place s (tells Lwt s)
task_kept m a Tar x place s p = asked_kept place s (tells Tar s)
task_kept m a Tas x place s p = asked_kept place s (tells Tas s)
task_kept m a Tav x place s p = asked_kept place s (tells Tav s)
task_kept m a Spw x place s p = asked_kept place s (tells Spw s)
task_kept m a Dpw x place s p = asked_kept place s (tells Dpw s)
task_kept m a Tdd x place s p = asked_kept place s (tells Tdd s)
task_kept m a Res x place s p = asked_kept place s (tells Res s)
task_kept m a Esr x place s p = asked_kept place s (tells Esr s)

permitted_kept : (b : Bool) (m : Mode) (a : ℕ) (n : Mnemonic) (x : Argument) (place : ℕ) (s : State) (p : Port) (f : Fault) → SettingsKept s (obeys_by m a s p (cond b (Err f) (Ok (query n x place)))).state
permitted_kept true m a n x place s p f = kept_all s
permitted_kept false m a n x place s p f = task_kept m a n x place s p

broadcast_kept : (b : Bool) (a : ℕ) (n : Mnemonic) (x : Argument) (place : ℕ) (s : State) (p : Port) (f : Fault) → SettingsKept s (obeys_by Broadcast a s p (permitted_by a s (cond b (Err f) (Ok (query n x place))))).state
broadcast_kept true a n x place s p f = kept_all s
broadcast_kept false a n x place s p f = permitted_kept _ Broadcast a n x place s p _

obeyed_kept : (m : Mode) (a : ℕ) (n : Mnemonic) (x : Argument) (place : ℕ) (s : State) (p : Port) → SettingsKept s (obeys m a (query n x place) s p).state
unfolding obeys broadcast_of
obeyed_kept Selected a n x place s p = permitted_kept _ Selected a n x place s p _
obeyed_kept Broadcast a n x place s p = broadcast_kept _ a n x place s p _

-- what is refused is remembered, and no setting is altered by that
settled_kept : (m : Mode) (s t : State) (q : Port) (r : Result (List ℕ) Fault) → SettingsKept s t → SettingsKept s (settled m t q r).state
settled_kept m s t q (Ok bytes) h = h
settled_kept m s t q (Err f) h = record { force = h.force; stored = h.stored; pending = h.pending; opened = h.opened }

pub queries_keep : QueriesKeep
unfolding hears
queries_keep m a n x place s p = settled_kept m s _ _ _ (obeyed_kept m a n x place s p)
