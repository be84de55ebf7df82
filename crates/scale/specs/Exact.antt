-- The exact weight: the span that stays above 0, and what a measured value shows.
use Rattle.std.specs.Prelude.{◌≡◌, ℕ, ◌≤◌, List, [], ◌∷◌, length, drop, None, Some, Ok, Result, ℤ, ◌-ℤ◌, ◌*ℤ◌, ◌<ℤ◌}
use Rattle.fault.specs.declared.faults.Fault.{Fault}
use Rattle.bank.specs.declared.reading.Reading.{Reading}
use Rattle.bank.specs.Ports.{Port}
use Rattle.command.specs.declared.orders.Argument.{Argument}
use Rattle.command.specs.declared.orders.Heard.{Heard}
use Rattle.command.specs.declared.orders.Heard.TheVariants.{Command}
use Rattle.command.specs.declared.orders.Mnemonic.TheVariants.{Msv}
use Rattle.value.specs.Output.{full_shown, format_block}
use Rattle.value.specs.Scaled.{Shown}
use Rattle.value.specs.Status.{status_byte}
use Rattle.value.specs.declared.block.Measured.{Measured}
use Rattle.scale.specs.declared.modes.Mode.{Mode}
use Rattle.scale.specs.declared.modes.Mode.TheVariants.{Selected, Broadcast}
use Rattle.scale.specs.declared.settings.Settings.{Settings}
use Rattle.scale.specs.declared.state.State.{State}
use Rattle.scale.specs.declared.state.Ticket.{Ticket}
use Rattle.scale.specs.Blocks.{readings_for}
use Rattle.scale.specs.Bounds.{Spanned}
use Rattle.scale.specs.Choices.{readings_of, weight_of, step_value}
use Rattle.scale.specs.Hearing.{Outcome, hears}
use Rattle.scale.specs.Keeping.{query}
use Rattle.scale.specs.Measuring.{summed, marks, dropped, measurement}
use Rattle.scale.specs.Orders.{block_size}
use Rattle.scale.specs.States.{fresh, with_held}
use Rattle.scale.specs.Weighing.{of_both, fits_in, weighed}

-- the span, full load less dead load
abbrev pub span : Settings → ℤ
span s = s.full -ℤ s.dead

-- the spans in force and stored are above 0 in a new scale, and stay so whatever it hears
pub record SpansStay : Type 0 where
  pub first : Spanned fresh
  pub later : (m : Mode) (a : ℕ) (h : Result Heard Fault) (s : State) (p : Port) → Spanned s → Spanned (hears m a h s p).state

-- the exact load of the first readings of a measurement, in 1/16,000 digit: their sum times 16 over their number
abbrev pub exact_load : Settings → List Reading → ℤ
exact_load s xs = summed (readings_of s.averaging) xs *ℤ weight_of s.averaging

-- v is a load scaled by nominal value (or full scale) over span, and rounded once to the display step, halves away from zero
abbrev pub RoundedOnce : Settings → ℤ → ℤ → Type 0
RoundedOnce s load v = Shown load (full_shown s.format s.nominal) (span s) (step_value s.step) v

-- a measured value of the first readings: the gross weight is their exact load less the dead load, the net weight is less the tare too, each rounded once;
-- one of them is on display, and the status tells whether both fit and whether a gauge was overdriven
pub record Weighs (s : Settings) (xs : List Reading) (v : Measured) : Type 0 where
  pub net : ℤ
  pub gross : ℤ
  pub net_exact : RoundedOnce s ((exact_load s xs -ℤ s.dead) -ℤ s.tare) net
  pub gross_exact : RoundedOnce s (exact_load s xs -ℤ s.dead) gross
  pub value : v.value ≡ of_both s.display net gross
  pub status : v.status ≡ status_byte (fits_in s net) (fits_in s gross) (marks (readings_of s.averaging) xs).overdriven

-- measured values one after another, each of the readings that the one before has left
unfoldable pub WeighsAll : Settings → List Reading → List Measured → Type 0
WeighsAll s xs [] = Unit {0}
WeighsAll s xs (v ∷ vs) = Weighs s xs v × WeighsAll s (drop (readings_of s.averaging) xs) vs

-- k values, written in the format in force; their readings are used up, and the scale remembers all as before
pub record Answered (a k : ℕ) (s : State) (p : Port) (x : Outcome) : Type 0 where
  pub values : List Measured
  pub many : length values ≡ k
  pub exact : WeighsAll s.force p.waiting values
  pub says : x.says ≡ format_block s.force.format s.force.nominal a values
  pub state : x.state ≡ s
  pub port : x.port ≡ dropped (readings_for s.force k) p
  pub fault : x.fault ≡ None

-- one value, held with the format and the nominal value of the moment, by which it will be handed out; nothing else is altered
pub record HeldExact (s : State) (p : Port) (x : Outcome) : Type 0 where
  pub ticket : Ticket
  pub state : x.state ≡ with_held s (Some ticket)
  pub exact : Weighs s.force p.waiting ticket.measured
  pub format : ticket.format ≡ s.force.format
  pub nominal : ticket.nominal ≡ s.force.nominal
  pub port : x.port ≡ dropped (readings_of s.force.averaging) p

-- where readings enough wait, the selected scale answers as many exact values as it is asked for; in a broadcast each holds one.
-- A weighing is exact under any settings whose full load is above the dead load.
pub record WeighingsExact : Type 0 where
  pub answered : (a k place : ℕ) (x : Argument) (s : State) (p : Port) → Spanned s → block_size x place ≡ Ok k → readings_for s.force k ≤ length p.waiting →
      Answered a k s p (hears Selected a (Ok (Command (query Msv x place))) s p)
  pub held : (a place : ℕ) (x : Argument) (s : State) (p : Port) → Spanned s → block_size x place ≡ Ok 1 → readings_of s.force.averaging ≤ length p.waiting →
      HeldExact s p (hears Broadcast a (Ok (Command (query Msv x place))) s p)
  pub weighed : (s : Settings) (xs : List Reading) → s.dead <ℤ s.full → Weighs s xs (weighed s (measurement s.averaging xs))
