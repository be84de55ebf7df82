-- A measured value is exact.
use Rattle.std.proofs.Common.{◌≡◌, ℕ, zero, suc, ◌<◌, ◌≤◌, Bool, true, false, cond, leb, List, length, drop, pos, negsuc, ◌-ℤ◌, ◌<ℤ◌, Ok, Err, Result, refl, subst, arith}
use Rattle.std.proofs.lemmas.Bool.{le-leb}
use Rattle.std.proofs.lemmas.Int.{ints}
use Rattle.fault.specs.declared.faults.Fault.{Fault}
use Rattle.bank.specs.declared.reading.Reading.{Reading}
use Rattle.bank.specs.Ports.{Port}
use Rattle.command.specs.Conditions.{needs_password, broadcast_of}
use Rattle.command.specs.declared.orders.Argument.{Argument}
use Rattle.command.specs.declared.orders.Argument.TheVariants.{Absent, Number, Text}
use Rattle.command.specs.declared.orders.Heard.TheVariants.{Command}
use Rattle.command.specs.declared.orders.Mnemonic.TheVariants.{Msv}
use Rattle.value.proofs.Products.{shown_law}
use Rattle.value.specs.Output.{full_shown, format_block}
use Rattle.scale.specs.declared.modes.Mode.TheVariants.{Selected, Broadcast}
use Rattle.scale.specs.declared.settings.Settings.{Settings}
use Rattle.scale.specs.declared.state.State.{State}
use Rattle.scale.specs.declared.step.Step.{Step as the_step}
use Rattle.scale.specs.Blocks.{weighings, readings_for, ticket_of, holding, refused_or}
use Rattle.scale.specs.Bounds.{Spanned}
use Rattle.scale.specs.Choices.{readings_of, step_value}
use Rattle.scale.specs.Exact.{span, exact_load, Weighs, WeighsAll, Answered, HeldExact, WeighingsExact}
use Rattle.scale.specs.Hearing.{obeys, weighs, ordered_by, settled, hears}
use Rattle.scale.specs.Keeping.{query}
use Rattle.scale.specs.Measuring.{measurement, dropped}
use Rattle.scale.specs.Orders.{block_size}
use Rattle.scale.specs.Weighing.{weighed, net_shown, gross_shown}
use Rattle.scale.proofs.Sayings.{length_weighings}

step_some : (x : the_step) → 0 < step_value x
step_some x = grind arith

-- a full load above the dead load makes a span above 0
wide : (s : Settings) → s.dead <ℤ s.full → pos 0 <ℤ span s
wide s h = omega (arith, ints)

weighed_exact : (s : Settings) (xs : List Reading) → s.dead <ℤ s.full → Weighs s xs (weighed s (measurement s.averaging xs))
weighed_exact s xs h = record {
  net = net_shown s (measurement s.averaging xs).load;
  gross = gross_shown s (measurement s.averaging xs).load;
  net_exact = shown_law ((exact_load s xs -ℤ s.dead) -ℤ s.tare) (full_shown s.format s.nominal) (s.full -ℤ s.dead) (step_value s.step) (wide s h) (step_some s.step);
  gross_exact = shown_law (exact_load s xs -ℤ s.dead) (full_shown s.format s.nominal) (s.full -ℤ s.dead) (step_value s.step) (wide s h) (step_some s.step);
  value = refl;
  status = refl;
}

weighings_all : (s : Settings) (k : ℕ) (xs : List Reading) → s.dead <ℤ s.full → WeighsAll s xs (weighings s k xs)
unfolding weighings WeighsAll
weighings_all s zero xs h = tt
weighings_all s (suc k) xs h = (weighed_exact s xs h, weighings_all s k (drop (readings_of s.averaging) xs) h)

-- a block for which readings enough wait
block_answered : (a k : ℕ) (s : State) (p : Port) (b : Bool) (f : Fault) → Spanned s → b ≡ true →
    Answered a k s p (settled Selected s (cond b (dropped (readings_for s.force k) p) p) (cond b (Ok (format_block s.force.format s.force.nominal a (weighings s.force k p.waiting))) (Err f)))
block_answered a k s p true f h e = record {
  values = weighings s.force k p.waiting;
  many = length_weighings s.force k p.waiting;
  exact = weighings_all s.force k p.waiting h.0;
  says = refl;
  state = refl;
  port = refl;
  fault = refl;
}
block_answered a k s p false f h e = absurd (grind arith)

sized : (a k : ℕ) (s : State) (p : Port) (r : Result ℕ Fault) → Spanned s → r ≡ Ok k → readings_for s.force k ≤ length p.waiting → Answered a k s p (ordered_by Selected (weighs Selected a s p r))
sized a k s p (Ok j) h e w =
    let same : k ≡ j = cc in
    subst (λ (x : ℕ). Answered a k s p (ordered_by Selected (weighs Selected a s p (Ok x)))) same
    (block_answered a k s p (leb (readings_for s.force k) (length p.waiting)) _ h (le-leb (readings_for s.force k) (length p.waiting) w))
sized a k s p (Err f) h e w = absurd (grind arith)

answered : (a k place : ℕ) (x : Argument) (s : State) (p : Port) → Spanned s → block_size x place ≡ Ok k → readings_for s.force k ≤ length p.waiting →
    Answered a k s p (hears Selected a (Ok (Command (query Msv x place))) s p)
unfolding hears obeys needs_password
answered a k place x s p h e w = sized a k s p (block_size x place) h e w

-- a value that is held
value_held : (s : State) (p : Port) (b : Bool) (f : Fault) → Spanned s → b ≡ true →
    HeldExact s p (settled Broadcast (holding s (cond b (Ok (measurement s.force.averaging p.waiting)) (Err f))) (cond b (dropped (readings_of s.force.averaging) p) p) (refused_or (cond b (Ok (measurement s.force.averaging p.waiting)) (Err f))))
value_held s p true f h e = record {
  ticket = ticket_of s.force (measurement s.force.averaging p.waiting);
  state = refl;
  exact = weighed_exact s.force p.waiting h.0;
  format = refl;
  nominal = refl;
  port = refl;
}
value_held s p false f h e = absurd (grind arith)

held_one : (a place : ℕ) (s : State) (p : Port) → Spanned s → readings_of s.force.averaging ≤ length p.waiting → HeldExact s p (hears Broadcast a (Ok (Command (query Msv Absent place))) s p)
unfolding hears obeys needs_password broadcast_of
held_one a place s p h w = value_held s p (leb (readings_of s.force.averaging) (length p.waiting)) _ h (le-leb (readings_of s.force.averaging) (length p.waiting) w)

held_numbered : (a place : ℕ) (s : State) (p : Port) → Spanned s → readings_of s.force.averaging ≤ length p.waiting → HeldExact s p (hears Broadcast a (Ok (Command (query Msv (Number (pos 1)) place))) s p)
unfolding hears obeys needs_password broadcast_of
held_numbered a place s p h w = value_held s p (leb (readings_of s.force.averaging) (length p.waiting)) _ h (le-leb (readings_of s.force.averaging) (length p.waiting) w)

-- a number that asks for one value
one_asked : (b : Bool) (n : ℕ) (f : Fault) → cond b (Ok n) (Err f) ≡ Ok 1 → 1 ≡ n
one_asked true n f e = cc
one_asked false n f e = absurd (grind arith)

held_exact : (a place : ℕ) (x : Argument) (s : State) (p : Port) → Spanned s → block_size x place ≡ Ok 1 → readings_of s.force.averaging ≤ length p.waiting → HeldExact s p (hears Broadcast a (Ok (Command (query Msv x place))) s p)
held_exact a place Absent s p h e w = held_one a place s p h w
held_exact a place (Number (pos n)) s p h e w =
    subst (λ (k : ℕ). HeldExact s p (hears Broadcast a (Ok (Command (query Msv (Number (pos k)) place))) s p)) (one_asked _ n _ e) (held_numbered a place s p h w)
held_exact a place (Number (negsuc n)) s p h e w = absurd (grind arith)
held_exact a place (Text t) s p h e w = absurd (grind arith)

pub weighings_exact : WeighingsExact
weighings_exact = record { answered = answered; held = held_exact; weighed = weighed_exact }
