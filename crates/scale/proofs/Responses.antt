-- What a scale hears, by what it does.
use Rattle.std.proofs.Common.{◌≡◌, ℕ, false, None, Ok, Err, Result, refl, ap, ◌∙◌, arith}
use Rattle.fault.specs.declared.faults.Fault.{Fault}
use Rattle.bank.specs.Ports.{Port}
use Rattle.command.specs.declared.orders.Heard.{Heard}
use Rattle.command.specs.declared.orders.Heard.TheVariants.{Blank, Select, Command}
use Rattle.command.specs.declared.orders.Order.{Order}
use Rattle.scale.specs.declared.modes.Mode.{Mode}
use Rattle.scale.specs.declared.modes.Mode.TheVariants.{Selected, Broadcast}
use Rattle.scale.specs.declared.state.State.{State}
use Rattle.scale.specs.Hearing.{Outcome, Step, spoken, by_task, in_order, permitted, permitted_by, obeys_by, obeys, ordered_by, hears}
use Rattle.scale.specs.Orders.{Task, KeepDead, SetFull, Tare, Weigh, Plain, task_of, for_values}
use Rattle.scale.specs.Responding.{acts, responds}

-- a refusal is remembered, and only the selected scale tells of it
pub hears_is : (m : Mode) (a : ℕ) (h : Result Heard Fault) (s : State) (p : Port) → hears m a h s p ≡ ordered_by m (responds m a h s p)
unfolding hears
hears_is m a (Err f) s p = refl
hears_is m a (Ok Blank) s p = refl
hears_is Selected a (Ok (Select n)) s p = refl
hears_is Broadcast a (Ok (Select n)) s p = refl
hears_is m a (Ok (Command o)) s p = refl

-- what is no measuring of values is done and answered
acts_is : (t : Task) (m : Mode) (a : ℕ) (o : Order) (s : State) (p : Port) → for_values t ≡ false → by_task t m a o s p ≡ spoken m a (acts t a o s p)
acts_is KeepDead m a o s p h = refl
acts_is SetFull m a o s p h = refl
acts_is Tare m a o s p h = refl
acts_is Weigh m a o s p h = absurd (grind arith)
acts_is Plain m a o s p h = refl

pub answers_is : (m : Mode) (a : ℕ) (o x : Order) (s : State) (p : Port) → in_order m o ≡ Ok x → permitted a s x ≡ Ok x → for_values (task_of x.form x.name) ≡ false
    → obeys m a o s p ≡ spoken m a (acts (task_of x.form x.name) a x s p)
unfolding obeys
answers_is m a o x s p heard may h = ap (λ (r : Result Order Fault). obeys_by m a s p (permitted_by a s r)) heard ∙ ap (obeys_by m a s p) may ∙ acts_is (task_of x.form x.name) m a x s p h

-- in a broadcast nobody tells of a refusal
settled_unheard : (x : Step) → (ordered_by Broadcast x).fault ≡ None
settled_unheard x = grind arith

pub unheard : (a : ℕ) (h : Result Heard Fault) (s : State) (p : Port) → (hears Broadcast a h s p).fault ≡ None
unheard a h s p = ap (λ (o : Outcome). o.fault) (hears_is Broadcast a h s p) ∙ settled_unheard (responds Broadcast a h s p)
