-- What one order leaves of a scale and its port: all but a few parts where it is refused, and what a good one may alter.
use Rattle.std.proofs.Common.{◌≡◌, ◌∙◌, ℕ, Bool, true, false, cond, ltb, leb, length, ℤ, pos, negsuc, ◌<ℤ◌, Some, None, Ok, Err, Option, Result, refl, sym, ap, arith}
use Rattle.std.proofs.lemmas.Bool.{cond_both}
use Rattle.std.proofs.lemmas.Int.{ints}
use lib.Signed.{lt_z}
use Rattle.fault.specs.declared.faults.Fault.{Fault}
use Rattle.bank.specs.Ports.{Port}
use Rattle.bank.specs.Fitting.{mapped_ok}
use Rattle.command.specs.declared.orders.Argument.{Argument}
use Rattle.command.specs.declared.orders.Argument.TheVariants.{Absent, Number, Text}
use Rattle.command.specs.declared.orders.Order.{Order}
use Rattle.scale.specs.declared.averaging.Averaging.{Averaging}
use Rattle.scale.specs.declared.measuring.Measurement.{Measurement}
use Rattle.scale.specs.declared.state.State.{State}
use Rattle.scale.specs.Calibrating.{Acted, load_given, given_port, load_of, keeps, calibrates, full_over, tared, dead_loads, full_loads, tares}
use Rattle.scale.specs.Choices.{readings_of}
use Rattle.scale.specs.Bounds.{Spanned}
use Rattle.scale.specs.Keeping.{numbered, opened_left, port_left, Effect, Leaves, memory_left, held_left}
use Rattle.scale.specs.Measuring.{dropped, measurement, measures, measured_port}
use Rattle.scale.specs.Orders.{few, block_size, number_in, text_in}

-- ---- what is left
-- of a scale and its port after a refusal, before it is remembered
pub record Kept (f : Fault) (o : Order) (s : State) (p : Port) (t : State) (q : Port) : Type 0 where
  pub force : t.force ≡ s.force
  pub stored : t.stored ≡ s.stored
  pub pending : t.pending ≡ s.pending
  pub held : t.held ≡ s.held
  pub memory : t.memory ≡ s.memory
  pub opened : t.opened ≡ opened_left f s
  pub port : q ≡ port_left f o s p

-- of a scale after a good order of an effect; b where the order may leave it a value to hand out
pub record Went (b : Bool) (e : Effect) (s t : State) : Type 0 where
  pub memory : t.memory ≡ memory_left e s
  pub held : b ≡ false → t.held ≡ held_left e s
  pub spans : Spanned s → Spanned t

abbrev pub Left : {A : Type 0} → Bool → Effect → Order → State → Port → State → Port → Result A Fault → Type 0
Left b e o s p t q (Ok x) = Went b e s t
Left b e o s p t q (Err f) = Kept f o s p t q

-- a refusal that neither closes a scale nor uses readings up
abbrev pub Tame : Fault → Type 0
Tame f = (numbered 9 f ≡ false) × (numbered 12 f ≡ false)

abbrev pub AllTame : {A : Type 0} → Result A Fault → Type 0
AllTame (Ok x) = Unit {0}
AllTame (Err f) = Tame f

pub moved : (f : Fault) (o : Order) (s : State) (p q : Port) → Tame f → q ≡ p → Kept f o s p s q
moved f o s p q h e = record {
  force = refl;
  stored = refl;
  pending = refl;
  held = refl;
  memory = refl;
  opened = sym (ap (λ (b : Bool). cond b false s.opened) h.0);
  port = e ∙ sym (ap (λ (b : Bool). cond b (given_port s.force.averaging o.argument p) p) h.1);
}

pub unmoved : (f : Fault) (o : Order) (s : State) (p : Port) → Tame f → Kept f o s p s p
unmoved f o s p h = moved f o s p p h refl

-- all but the spans as before
pub as_before : (b : Bool) (s t : State) → t.memory ≡ s.memory → t.held ≡ s.held → (Spanned s → Spanned t) → Went b Leaves s t
as_before b s t m h x = record { memory = m; held = λ _. h; spans = x }

-- ---- which refusals are tame
tame_map : {A B : Type 0} (g : A → B) (r : Result A Fault) → AllTame r → AllTame (mapped_ok g r)
tame_map g (Ok x) h = tt
tame_map g (Err f) h = h

pub tame_unless : {A : Type 0} (b : Bool) (x : A) (f : Fault) → Tame f → AllTame (cond b (Ok x) (Err f))
tame_unless true x f h = tt
tame_unless false x f h = h

pub number_tame : (x : Argument) (place : ℕ) → AllTame (number_in x place)
number_tame Absent place = (refl, refl)
number_tame (Number n) place = tt
number_tame (Text t) place = (refl, refl)

pub text_tame : (x : Argument) (place : ℕ) → AllTame (text_in x place)
text_tame Absent place = (refl, refl)
text_tame (Number n) place = (refl, refl)
text_tame (Text t) place = tt

few_tame : (n : ℤ) (place : ℕ) → AllTame (few n place)
few_tame (pos n) place = tame_unless _ n _ (refl, refl)
few_tame (negsuc n) place = (refl, refl)

pub size_tame : (x : Argument) (place : ℕ) → AllTame (block_size x place)
size_tame Absent place = tt
size_tame (Number n) place = few_tame n place
size_tame (Text t) place = (refl, refl)

pub measures_tame : (a : ℕ) (v : Averaging) (p : Port) → AllTame (measures a v p)
measures_tame a v p = tame_unless (leb (readings_of v) (length p.waiting)) (measurement v p.waiting) _ (refl, refl)

given_tame : (a : ℕ) (v : Averaging) (x : Argument) (place : ℕ) (p : Port) → AllTame (load_given a v x place p)
given_tame a v Absent place p = tame_map load_of (measures a v p) (measures_tame a v p)
given_tame a v (Number n) place p = tt
given_tame a v (Text t) place p = (refl, refl)

-- ---- a port is back where it was if the reply is a refusal
abbrev Back : {A : Type 0} → Port → Port → Result A Fault → Type 0
Back p q (Ok x) = Unit {0}
Back p q (Err f) = q ≡ p

back_map : {A B : Type 0} (g : A → B) (p q : Port) (r : Result A Fault) → Back p q r → Back p q (mapped_ok g r)
back_map g p q (Ok x) h = tt
back_map g p q (Err f) h = h

back_cond : {A : Type 0} (b : Bool) (p q : Port) (x : A) (f : Fault) → Back p (cond b q p) (cond b (Ok x) (Err f))
back_cond true p q x f = tt
back_cond false p q x f = refl

measured_back : (a : ℕ) (v : Averaging) (p : Port) → Back p (measured_port v p) (measures a v p)
measured_back a v p = back_cond (leb (readings_of v) (length p.waiting)) p (dropped (readings_of v) p) (measurement v p.waiting) _

given_back : (a : ℕ) (v : Averaging) (x : Argument) (place : ℕ) (p : Port) → Back p (given_port v x p) (load_given a v x place p)
given_back a v Absent place p = back_map load_of p (measured_port v p) (measures a v p) (measured_back a v p)
given_back a v (Number n) place p = tt
given_back a v (Text t) place p = refl

-- ---- orders that need the gauges
abbrev LeftA : Order → State → Port → Acted → Type 0
LeftA o s p x = Left false Leaves o s p x.state x.port x.reply

keeps_left : (o : Order) (s : State) (p q : Port) (r : Result ℤ Fault) → AllTame r → Back p q r → LeftA o s p (keeps s q r)
keeps_left o s p q (Ok z) h k = as_before false s _ refl refl (λ x. x)
keeps_left o s p q (Err f) h k = moved f o s p q h k

pub dead_left : (a : ℕ) (o : Order) (s : State) (p : Port) → LeftA o s p (dead_loads a o s p)
dead_left a o s p =
    cond_both (ltb 0 s.force.nominal) _ _ (LeftA o s p) (λ _. unmoved _ o s p (refl, refl))
    (λ _. keeps_left o s p _ _ (given_tame a s.force.averaging o.argument o.place p) (given_back a s.force.averaging o.argument o.place p))

calibrates_left : (a : ℕ) (o : Order) (s : State) (p : Port) (d : ℤ) (r : Result ℤ Fault) → AllTame r → Back p (given_port s.force.averaging o.argument p) r → LeftA o s p (calibrates a s (given_port s.force.averaging o.argument p) d r)
calibrates_left a o s p d (Err f) h k = moved f o s p _ h k
calibrates_left a o s p d (Ok z) h k =
    cond_both (lt_z d z) _ _ (LeftA o s p) (λ e. as_before false s _ refl refl (λ x. let w : d <ℤ z = omega (arith, ints, e) in (w, w)))
    (λ _. record { force = refl; stored = refl; pending = refl; held = refl; memory = refl; opened = refl; port = refl })

full_left : (a : ℕ) (o : Order) (s : State) (p : Port) (x : Option ℤ) → LeftA o s p (full_over a o s p x)
full_left a o s p None = unmoved _ o s p (refl, refl)
full_left a o s p (Some d) = calibrates_left a o s p d _ (given_tame a s.force.averaging o.argument o.place p) (given_back a s.force.averaging o.argument o.place p)

pub fulls_left : (a : ℕ) (o : Order) (s : State) (p : Port) → LeftA o s p (full_loads a o s p)
fulls_left a o s p = cond_both (ltb 0 s.force.nominal) _ _ (LeftA o s p) (λ _. unmoved _ o s p (refl, refl)) (λ _. full_left a o s p s.pending)

tared_left : (o : Order) (s : State) (p q : Port) (r : Result Measurement Fault) → AllTame r → Back p q r → LeftA o s p (tared s q r)
tared_left o s p q (Ok m) h k = as_before false s _ refl refl (λ x. x)
tared_left o s p q (Err f) h k = moved f o s p q h k

pub tares_left : (a : ℕ) (o : Order) (s : State) (p : Port) → LeftA o s p (tares a s p)
tares_left a o s p = tared_left o s p _ _ (measures_tame a s.force.averaging p) (measured_back a s.force.averaging p)
