-- What an order that needs no gauge, or any order, leaves of a scale and its port.
use Rattle.std.proofs.Common.{◌≡◌, ◌∙◌, ℕ, Bool, true, false, cond, eqb, leb, List, length, ℤ, pos, negsuc, ◌<ℤ◌, Some, None, Ok, Err, Option, Result, refl, sym, subst, arith}
use Rattle.std.proofs.lemmas.Bool.{cond_both}
use Rattle.std.proofs.lemmas.Int.{ints}
use Rattle.std.specs.Option.{option_map}
use Rattle.fault.specs.declared.faults.Fault.{Fault}
use Rattle.bank.specs.Ports.{Port}
use Rattle.bank.specs.Fitting.{mapped_ok}
use Rattle.command.specs.Conditions.{broadcast_of}
use Rattle.command.specs.Texts.{same_text}
use Rattle.command.specs.declared.orders.Argument.{Argument}
use Rattle.command.specs.declared.orders.Form.{Form}
use Rattle.command.specs.declared.orders.Form.TheVariants.{Entry, Query}
use Rattle.command.specs.declared.orders.Mnemonic.{Mnemonic}
use Rattle.command.specs.declared.orders.Mnemonic.TheVariants.{Cof, Icr, Nov, Rsn, Ldw, Lwt, Tar, Tas, Tav, Msv, Spw, Dpw, Tdd, Res, Esr}
use Rattle.command.specs.declared.orders.Order.{Order}
use Rattle.command.specs.declared.texts.Text.{Text as a_text}
use Rattle.value.specs.Output.{numbered_format}
use Rattle.scale.specs.declared.answers.Answer.{Answer}
use Rattle.scale.specs.declared.measuring.Measurement.{Measurement}
use Rattle.scale.specs.declared.modes.Mode.{Mode}
use Rattle.scale.specs.declared.modes.Mode.TheVariants.{Selected, Broadcast}
use Rattle.scale.specs.declared.settings.Settings.{Settings}
use Rattle.scale.specs.declared.state.State.{State}
use Rattle.scale.specs.Blocks.{readings_for, holding, refused_or}
use Rattle.scale.specs.Choices.{readings_of, averaging_numbered, step_valued, display_numbered}
use Rattle.scale.specs.Entering.{byte_of, by_byte, renominal, entered}
use Rattle.scale.specs.Entries.{Said, put_in_force, set_by, opens, unlock_by, relock_by, default_at, default_by, enters_by}
use Rattle.scale.proofs.Left.{Left, Tame, AllTame, unmoved, as_before, number_tame, text_tame, size_tame, dead_left, fulls_left, tares_left}
use Rattle.scale.specs.Hearing.{Step, voiced, weighs, by_form, by_task, permitted_by, obeys_by, obeys}
use Rattle.scale.specs.Keeping.{Effect, Leaves, entry_effect, query_effect, effect_of}
use Rattle.scale.specs.Orders.{Task, KeepDead, SetFull, Tare, Weigh, Plain, block_size, number_in, text_in, entry_task, query_task, task_of, for_values}
use Rattle.scale.specs.Queries.{tells, asked_for}
use Rattle.scale.specs.Settings.{with_format, with_averaging, with_step, with_display}

-- ---- orders that leave the port alone
abbrev LeftS : Order → State → Port → Said → Type 0
LeftS o s p x = Left false Leaves o s p x.state p x.reply

-- of any effect
abbrev LeftE : Effect → Order → State → Port → Said → Type 0
LeftE e o s p x = Left false e o s p x.state p x.reply

-- a setting that is entered leaves dead load and full load
abbrev both_loads : Settings → ℤ × ℤ
both_loads s = (s.dead, s.full)

abbrev SameLoads : Settings → Option Settings → Type 0
SameLoads s None = Unit {0}
SameLoads s (Some x) = both_loads x ≡ both_loads s

map_same : {A : Type 0} (s : Settings) (g : A → Settings) → ((x : A) → both_loads (g x) ≡ both_loads s) → (o : Option A) → SameLoads s (option_map g o)
map_same s g h None = tt
map_same s g h (Some x) = h x

byte_same : (s : Settings) (f : ℕ → Option Settings) → ((b : ℕ) → SameLoads s (f b)) → (b : Option ℕ) → SameLoads s (by_byte f b)
byte_same s f h None = tt
byte_same s f h (Some b) = h b

nominal_same : (s : Settings) (n : ℤ) → SameLoads s (renominal s n)
nominal_same s (pos n) = refl
nominal_same s (negsuc n) = tt

entered_same : (s : Settings) (c : Mnemonic) (n : ℤ) → SameLoads s (entered s c n)
entered_same s Cof n = byte_same s _ (λ b. map_same s (with_format s) (λ x. refl) (numbered_format b)) (byte_of n)
entered_same s Icr n = byte_same s _ (λ b. map_same s (with_averaging s) (λ x. refl) (averaging_numbered b)) (byte_of n)
entered_same s Nov n = nominal_same s n
entered_same s Rsn n = byte_same s _ (λ b. map_same s (with_step s) (λ x. refl) (step_valued b)) (byte_of n)
entered_same s Tas n = byte_same s _ (λ b. map_same s (with_display s) (λ x. refl) (display_numbered b)) (byte_of n)
entered_same s Ldw n = tt
entered_same s Lwt n = tt
entered_same s Tar n = tt
entered_same s Tav n = tt
entered_same s Msv n = tt
entered_same s Spw n = tt
entered_same s Dpw n = tt
entered_same s Tdd n = tt
entered_same s Res n = tt
entered_same s Esr n = tt

put_left : (o : Order) (s : State) (p : Port) (place : ℕ) (x : Option Settings) → SameLoads s.force x → LeftS o s p (put_in_force s place x)
put_left o s p place None h = unmoved _ o s p (refl, refl)
put_left o s p place (Some x) h = as_before false s _ refl refl (λ k. (subst (λ (l : ℤ × ℤ). l.0 <ℤ l.1) (sym h) k.0, k.1))

set_left : (o : Order) (s : State) (p : Port) (r : Result ℤ Fault) → AllTame r → LeftS o s p (set_by o s r)
set_left o s p (Err f) h = unmoved f o s p h
set_left o s p (Ok n) h = put_left o s p o.place (entered s.force o.name n) (entered_same s.force o.name n)

opens_left : (a : ℕ) (o : Order) (s : State) (p : Port) (b : Bool) → LeftS o s p (opens a s b)
opens_left a o s p true = as_before false s _ refl refl (λ x. x)
opens_left a o s p false = record { force = refl; stored = refl; pending = refl; held = refl; memory = refl; opened = refl; port = refl }

unlock_left : (a : ℕ) (o : Order) (s : State) (p : Port) (r : Result a_text Fault) → AllTame r → LeftS o s p (unlock_by a s r)
unlock_left a o s p (Err f) h = unmoved f o s p h
unlock_left a o s p (Ok t) h = opens_left a o s p (same_text t s.force.password)

relock_left : (o : Order) (s : State) (p : Port) (r : Result a_text Fault) → AllTame r → LeftS o s p (relock_by s r)
relock_left o s p (Err f) h = unmoved f o s p h
relock_left o s p (Ok t) h = as_before false s _ refl refl (λ x. x)

default_left : (o : Order) (place : ℕ) (s : State) (p : Port) (n : ℤ) → LeftS o s p (default_at place s n)
default_left o place s p (pos n) =
    cond_both (eqb n 0) _ _ (LeftS o s p) (λ _. as_before false s _ refl refl (λ x. (omega (arith, ints), omega (arith, ints))))
    (λ _. cond_both (eqb n 1) _ _ (LeftS o s p) (λ _. as_before false s _ refl refl (λ x. (x.0, x.0))) (λ _. unmoved _ o s p (refl, refl)))
default_left o place s p (negsuc n) = unmoved _ o s p (refl, refl)

defaults_left : (o : Order) (place : ℕ) (s : State) (p : Port) (r : Result ℤ Fault) → AllTame r → LeftS o s p (default_by place s r)
defaults_left o place s p (Err f) h = unmoved f o s p h
defaults_left o place s p (Ok n) h = default_left o place s p n

enters_left : (n : Mnemonic) (a : ℕ) (o : Order) (s : State) (p : Port) → LeftE (entry_effect n) o s p (enters_by n a o s)
enters_left Cof a o s p = set_left o s p (number_in o.argument o.place) (number_tame o.argument o.place)
enters_left Icr a o s p = set_left o s p (number_in o.argument o.place) (number_tame o.argument o.place)
enters_left Nov a o s p = set_left o s p (number_in o.argument o.place) (number_tame o.argument o.place)
enters_left Rsn a o s p = set_left o s p (number_in o.argument o.place) (number_tame o.argument o.place)
enters_left Tas a o s p = set_left o s p (number_in o.argument o.place) (number_tame o.argument o.place)
enters_left Spw a o s p = unlock_left a o s p (text_in o.argument o.place) (text_tame o.argument o.place)
enters_left Dpw a o s p = relock_left o s p (text_in o.argument o.place) (text_tame o.argument o.place)
enters_left Tdd a o s p = defaults_left o o.place s p (number_in o.argument o.place) (number_tame o.argument o.place)
enters_left Res a o s p = record { memory = refl; held = λ _. refl; spans = λ x. (x.1, x.1) }
enters_left Ldw a o s p = unmoved _ o s p (refl, refl)
enters_left Lwt a o s p = unmoved _ o s p (refl, refl)
enters_left Tar a o s p = unmoved _ o s p (refl, refl)
enters_left Tav a o s p = unmoved _ o s p (refl, refl)
enters_left Msv a o s p = unmoved _ o s p (refl, refl)
enters_left Esr a o s p = unmoved _ o s p (refl, refl)

asks_left : (n : Mnemonic) (o : Order) (s : State) (p : Port) → LeftE (query_effect n) o s p (asked_for o.place s (tells n s))
asks_left Cof o s p = as_before false s s refl refl (λ x. x)
asks_left Icr o s p = as_before false s s refl refl (λ x. x)
asks_left Nov o s p = as_before false s s refl refl (λ x. x)
asks_left Rsn o s p = as_before false s s refl refl (λ x. x)
asks_left Ldw o s p = as_before false s s refl refl (λ x. x)
asks_left Lwt o s p = as_before false s s refl refl (λ x. x)
asks_left Tar o s p = unmoved _ o s p (refl, refl)
asks_left Tas o s p = as_before false s s refl refl (λ x. x)
asks_left Tav o s p = as_before false s s refl refl (λ x. x)
asks_left Msv o s p = unmoved _ o s p (refl, refl)
asks_left Spw o s p = unmoved _ o s p (refl, refl)
asks_left Dpw o s p = unmoved _ o s p (refl, refl)
asks_left Tdd o s p = unmoved _ o s p (refl, refl)
asks_left Res o s p = unmoved _ o s p (refl, refl)
asks_left Esr o s p = record { memory = refl; held = λ _. refl; spans = λ x. x }

form_left : (f : Form) (a : ℕ) (o : Order) (s : State) (p : Port) → LeftE (effect_of f o.name) o s p (by_form f a o s)
form_left Entry a o s p = enters_left o.name a o s p
form_left Query a o s p = asks_left o.name o s p

-- ---- weighing
abbrev LeftW : Bool → Effect → Order → State → Port → Step → Type 0
LeftW b e o s p x = Left b e o s p x.state x.port x.reply

block_left : (o : Order) (s : State) (p q : Port) (b : Bool) (bytes : List ℕ) (f : Fault) → Tame f → Left false Leaves o s p s (cond b q p) (cond b (Ok bytes) (Err f))
block_left o s p q true bytes f h = as_before false s s refl refl (λ x. x)
block_left o s p q false bytes f h = unmoved f o s p h

hold_left : (o : Order) (s : State) (p q : Port) (b : Bool) (x : Measurement) (f : Fault) → Tame f → Left true Leaves o s p (holding s (cond b (Ok x) (Err f))) (cond b q p) (refused_or (cond b (Ok x) (Err f)))
hold_left o s p q true x f h = record { memory = refl; held = λ e. absurd (grind arith); spans = λ k. k }
hold_left o s p q false x f h = unmoved f o s p h

-- whether an order of a task may leave a value to hand out
abbrev pub gives : Mode → Task → Bool
gives Selected t = false
gives Broadcast t = for_values t

weighs_left : (m : Mode) (a : ℕ) (o : Order) (s : State) (p : Port) (r : Result ℕ Fault) → AllTame r → LeftW (gives m Weigh) Leaves o s p (weighs m a s p r)
weighs_left Selected a o s p (Err f) h = unmoved f o s p h
weighs_left Broadcast a o s p (Err f) h = unmoved f o s p h
weighs_left Selected a o s p (Ok k) h = block_left o s p _ (leb (readings_for s.force k) (length p.waiting)) _ _ (refl, refl)
weighs_left Broadcast a o s p (Ok k) h = hold_left o s p _ (leb (readings_of s.force.averaging) (length p.waiting)) _ _ (refl, refl)

-- ---- every order
-- what leaves no value to hand out, in either mode
any_mode : (m : Mode) (b c : Bool) (e : Effect) (o : Order) (s : State) (p : Port) (t : State) (q : Port) (a : ℕ) (r : Result Answer Fault) → Left b e o s p t q r → c ≡ b → Left c e o s p t q (mapped_ok (voiced m a) r)
any_mode m b c e o s p t q a (Ok x) h z = record { memory = h.memory; held = λ k. h.held (sym z ∙ k); spans = h.spans }
any_mode m b c e o s p t q a (Err f) h z = h

quiet : (m : Mode) (t : Task) → for_values t ≡ false → gives m t ≡ false
quiet Selected t h = refl
quiet Broadcast t h = h

-- the effect of an order by its task: only those that leave the port alone may have one
abbrev pub task_effect : Task → Order → Effect
task_effect KeepDead o = Leaves
task_effect SetFull o = Leaves
task_effect Tare o = Leaves
task_effect Weigh o = Leaves
task_effect Plain o = effect_of o.form o.name

task_left : (t : Task) (m : Mode) (a : ℕ) (o : Order) (s : State) (p : Port) → LeftW (gives m t) (task_effect t o) o s p (by_task t m a o s p)
task_left KeepDead m a o s p = any_mode m false _ _ o s p _ _ a _ (dead_left a o s p) (quiet m KeepDead refl)
task_left SetFull m a o s p = any_mode m false _ _ o s p _ _ a _ (fulls_left a o s p) (quiet m SetFull refl)
task_left Tare m a o s p = any_mode m false _ _ o s p _ _ a _ (tares_left a o s p) (quiet m Tare refl)
task_left Weigh m a o s p = weighs_left m a o s p (block_size o.argument o.place) (size_tame o.argument o.place)
task_left Plain m a o s p = any_mode m false _ _ o s p _ _ a _ (form_left o.form a o s p) (quiet m Plain refl)

permitted_left : (b : Bool) (m : Mode) (a : ℕ) (o : Order) (s : State) (p : Port) (f : Fault) → Tame f → LeftW (gives m (task_of o.form o.name)) (task_effect (task_of o.form o.name) o) o s p (obeys_by m a s p (cond b (Err f) (Ok o)))
permitted_left true m a o s p f h = unmoved f o s p h
permitted_left false m a o s p f h = task_left (task_of o.form o.name) m a o s p

broadcast_left : (b : Bool) (a : ℕ) (o : Order) (s : State) (p : Port) (f : Fault) → Tame f → LeftW (for_values (task_of o.form o.name)) (task_effect (task_of o.form o.name) o) o s p (obeys_by Broadcast a s p (permitted_by a s (cond b (Err f) (Ok o))))
broadcast_left true a o s p f h = unmoved f o s p h
broadcast_left false a o s p f h = permitted_left _ Broadcast a o s p _ (refl, refl)

pub obeys_left : (m : Mode) (a : ℕ) (o : Order) (s : State) (p : Port) → LeftW (gives m (task_of o.form o.name)) (task_effect (task_of o.form o.name) o) o s p (obeys m a o s p)
unfolding obeys broadcast_of
obeys_left Selected a o s p = permitted_left _ Selected a o s p _ (refl, refl)
obeys_left Broadcast a o s p = broadcast_left _ a o s p _ (refl, refl)

-- the effect by the task is that by the name
entry_same : (n : Mnemonic) (x : Argument) (k : ℕ) → task_effect (entry_task n) (record { name = n; form = Entry; argument = x; place = k }) ≡ entry_effect n
entry_same Cof x k = refl
entry_same Icr x k = refl
entry_same Nov x k = refl
entry_same Rsn x k = refl
entry_same Ldw x k = refl
entry_same Lwt x k = refl
entry_same Tar x k = refl
entry_same Tas x k = refl
entry_same Tav x k = refl
entry_same Msv x k = refl
entry_same Spw x k = refl
entry_same Dpw x k = refl
entry_same Tdd x k = refl
entry_same Res x k = refl
entry_same Esr x k = refl

query_same : (n : Mnemonic) (x : Argument) (k : ℕ) → task_effect (query_task n) (record { name = n; form = Query; argument = x; place = k }) ≡ query_effect n
query_same Cof x k = refl
query_same Icr x k = refl
query_same Nov x k = refl
query_same Rsn x k = refl
query_same Ldw x k = refl
query_same Lwt x k = refl
query_same Tar x k = refl
query_same Tas x k = refl
query_same Tav x k = refl
query_same Msv x k = refl
query_same Spw x k = refl
query_same Dpw x k = refl
query_same Tdd x k = refl
query_same Res x k = refl
query_same Esr x k = refl

form_same : (f : Form) (n : Mnemonic) (x : Argument) (k : ℕ) → task_effect (task_of f n) (record { name = n; form = f; argument = x; place = k }) ≡ effect_of f n
form_same Entry n x k = entry_same n x k
form_same Query n x k = query_same n x k

pub effect_same : (o : Order) → task_effect (task_of o.form o.name) o ≡ effect_of o.form o.name
effect_same o = form_same o.form o.name o.argument o.place
