-- How long an answer is, and that nobody answers in a broadcast.
use Rattle.std.proofs.Common.{◌≡◌, ℕ, zero, suc, ◌≤◌, leb, List, [], ◌∷◌, length, drop, ℤ, Ok, Err, Option, Result, refl, ap, arith}
use Rattle.std.proofs.lemmas.Bool.{cond_both}
use Rattle.std.proofs.lemmas.Bool.Decides.{nat_tests}
use Rattle.fault.specs.declared.faults.Fault.{Fault}
use Rattle.fault.specs.declared.causes.Cause.TheVariants.{TooFewReadings}
use Rattle.fault.specs.Faults.{refusal}
use Rattle.fault.specs.Memory.{memory_text}
use Rattle.bank.specs.declared.reading.Reading.{Reading}
use Rattle.bank.specs.Ports.{Port}
use Rattle.bank.specs.Fitting.{mapped_ok}
use Rattle.command.specs.declared.orders.Argument.{Argument}
use Rattle.command.specs.declared.orders.Heard.TheVariants.{Blank, Select, Command}
use Rattle.command.specs.declared.orders.Order.{Order}
use Rattle.value.specs.Output.{format_block}
use Rattle.value.specs.Plain.{plain_text, line}
use Rattle.value.specs.declared.plain.Plain.{Plain as ALine}
use Rattle.value.specs.declared.plain.Plain.TheVariants.{Refused}
use Rattle.value.proofs.Laws.{blocks_have_room}
use Rattle.scale.specs.declared.answers.Answer.{Answer}
use Rattle.scale.specs.declared.answers.Answer.TheVariants.{Silence, Line, Memory, Value}
use Rattle.scale.specs.declared.measuring.Measurement.{Measurement}
use Rattle.scale.specs.declared.modes.Mode.{Mode}
use Rattle.scale.specs.declared.modes.Mode.TheVariants.{Selected, Broadcast}
use Rattle.scale.specs.declared.settings.Settings.{Settings}
use Rattle.scale.specs.declared.state.State.{State}
use Rattle.scale.specs.Answers.{answer_bytes}
use Rattle.scale.specs.Blocks.{weighings, readings_for, blocks, refused_or}
use Rattle.scale.specs.Choices.{readings_of}
use Rattle.scale.specs.Hearing.{in_mode, voiced, held_answer, weighs, by_task, obeys_by, obeys, admitted, settled, selected, hears, Brief, Silent}
use Rattle.scale.specs.Measuring.{measures}
use Rattle.scale.specs.Orders.{Task, KeepDead, SetFull, Tare, Weigh, Plain, few, block_size, task_of}

pub length_weighings : (s : Settings) (k : ℕ) (xs : List Reading) → length (weighings s k xs) ≡ k
unfolding weighings
length_weighings s zero xs = refl
length_weighings s (suc k) xs = ap suc (length_weighings s k (drop (readings_of s.averaging) xs))

line_brief : (x : ALine) → length (line (plain_text x)) ≤ 1088
line_brief x = grind arith

memory_brief : (m : Option Fault) → length (line (memory_text m)) ≤ 1088
memory_brief m = grind arith

answer_brief : (a : ℕ) (x : Answer) → length (answer_bytes a x) ≤ 1088
answer_brief a Silence = omega arith
answer_brief a (Line x) = line_brief x
answer_brief a (Memory m) = memory_brief m
answer_brief a (Value t) = blocks_have_room t.format t.nominal a (t.measured ∷ []) (omega arith)

voiced_brief : (m : Mode) (a : ℕ) (x : Answer) → length (voiced m a x) ≤ 1088
voiced_brief Selected a x = answer_brief a x
voiced_brief Broadcast a x = omega arith

-- a reply, if it is one, is short; in a broadcast it is empty
abbrev Fits : Result (List ℕ) Fault → Type 0
Fits (Ok bytes) = length bytes ≤ 1088
Fits (Err f) = Unit {0}

abbrev Mute : Result (List ℕ) Fault → Type 0
Mute (Ok bytes) = bytes ≡ []
Mute (Err f) = Unit {0}

spoken_fits : (m : Mode) (a : ℕ) (r : Result Answer Fault) → Fits (mapped_ok (voiced m a) r)
spoken_fits m a (Ok x) = voiced_brief m a x
spoken_fits m a (Err f) = tt

spoken_mute : (a : ℕ) (r : Result Answer Fault) → Mute (mapped_ok (voiced Broadcast a) r)
spoken_mute a (Ok x) = refl
spoken_mute a (Err f) = tt

-- a block has at most 64 values
abbrev Few : Result ℕ Fault → Type 0
Few (Ok k) = k ≤ 64
Few (Err f) = Unit {0}

few_few : (n : ℤ) (place : ℕ) → Few (few n place)
few_few n place = grind (arith, nat_tests)

block_few : (x : Argument) (place : ℕ) → Few (block_size x place)
block_few x place = grind (arith, few_few)

block_fits : (a k : ℕ) (s : Settings) (p : Port) → k ≤ 64 → Fits (blocks a k s p)
block_fits a k s p h =
    cond_both (leb (readings_for s k) (length p.waiting)) (Ok (format_block s.format s.nominal a (weighings s k p.waiting))) (Err (refusal TooFewReadings a)) Fits
    (λ _. blocks_have_room s.format s.nominal a (weighings s k p.waiting) (omega (arith, length_weighings s k p.waiting)))
    (λ _. tt)

held_fits : (r : Result Measurement Fault) → Fits (refused_or r)
held_fits (Ok x) = omega arith
held_fits (Err f) = tt

held_mute : (r : Result Measurement Fault) → Mute (refused_or r)
held_mute (Ok x) = refl
held_mute (Err f) = tt

weighs_fits : (m : Mode) (a : ℕ) (s : State) (p : Port) (r : Result ℕ Fault) → Few r → Fits (weighs m a s p r).reply
weighs_fits m a s p (Err f) h = tt
weighs_fits Selected a s p (Ok k) h = block_fits a k s.force p h
weighs_fits Broadcast a s p (Ok k) h = held_fits (measures a s.force.averaging p)

weighs_mute : (a : ℕ) (s : State) (p : Port) (r : Result ℕ Fault) → Mute (weighs Broadcast a s p r).reply
weighs_mute a s p (Err f) = tt
weighs_mute a s p (Ok k) = held_mute (measures a s.force.averaging p)

task_fits : (t : Task) (m : Mode) (a : ℕ) (o : Order) (s : State) (p : Port) → Fits (by_task t m a o s p).reply
task_fits KeepDead m a o s p = spoken_fits m a _
task_fits SetFull m a o s p = spoken_fits m a _
task_fits Tare m a o s p = spoken_fits m a _
task_fits Weigh m a o s p = weighs_fits m a s p (block_size o.argument o.place) (block_few o.argument o.place)
task_fits Plain m a o s p = spoken_fits m a _

task_mute : (t : Task) (a : ℕ) (o : Order) (s : State) (p : Port) → Mute (by_task t Broadcast a o s p).reply
task_mute KeepDead a o s p = spoken_mute a _
task_mute SetFull a o s p = spoken_mute a _
task_mute Tare a o s p = spoken_mute a _
task_mute Weigh a o s p = weighs_mute a s p (block_size o.argument o.place)
task_mute Plain a o s p = spoken_mute a _

obeys_fits : (m : Mode) (a : ℕ) (s : State) (p : Port) (r : Result Order Fault) → Fits (obeys_by m a s p r).reply
obeys_fits m a s p (Err f) = tt
obeys_fits m a s p (Ok o) = task_fits (task_of o.form o.name) m a o s p

obeys_mute : (a : ℕ) (s : State) (p : Port) (r : Result Order Fault) → Mute (obeys_by Broadcast a s p r).reply
obeys_mute a s p (Err f) = tt
obeys_mute a s p (Ok o) = task_mute (task_of o.form o.name) a o s p

refused_brief : (m : Mode) → length (in_mode m (line (plain_text Refused)) []) ≤ 1088
refused_brief m = grind arith

settled_brief : (m : Mode) (s : State) (p : Port) (r : Result (List ℕ) Fault) → Fits r → length (settled m s p r).says ≤ 1088
settled_brief m s p (Ok bytes) h = h
settled_brief m s p (Err f) h = refused_brief m

settled_mute : (s : State) (p : Port) (r : Result (List ℕ) Fault) → Mute r → (settled Broadcast s p r).says ≡ []
settled_mute s p (Ok bytes) h = h
settled_mute s p (Err f) h = refl

selected_brief : (m : Mode) (a : ℕ) (s : State) (p : Port) → length (selected m a s p).says ≤ 1088
selected_brief Selected a s p = answer_brief a (held_answer s.held)
selected_brief Broadcast a s p = omega arith

pub brief : Brief
unfolding hears obeys
brief m a (Err f) s p = refused_brief m
brief m a (Ok Blank) s p = omega arith
brief m a (Ok (Select n)) s p = selected_brief m a s p
brief m a (Ok (Command o)) s p = settled_brief m _ _ _ (obeys_fits m a s p (admitted m a s o))

pub silent : Silent
unfolding hears obeys
silent a (Err f) s p = refl
silent a (Ok Blank) s p = refl
silent a (Ok (Select n)) s p = refl
silent a (Ok (Command o)) s p = settled_mute _ _ _ (obeys_mute a s p (admitted Broadcast a s o))
