-- The bounds of the loads that a scale remembers, in 1/16,000 digit: no sum or difference of them leaves 64 bits, and a span is above 0.
use Rattle.std.specs.Prelude.{◌^◌, ◌≤◌, ℤ, pos, Some, None, Option, ◌<ℤ◌, unsigned_abs}
use Rattle.scale.specs.declared.settings.Settings.{Settings}
use Rattle.scale.specs.declared.state.State.{State}

-- a dead or a full load, measured or entered
abbrev pub Light : ℤ → Type 0
Light z = unsigned_abs z ≤ 2 ^ 45

-- dead load, full load and tare
abbrev pub Small : Settings → Type 0
Small s = Light s.dead × Light s.full × (unsigned_abs s.tare ≤ 2 ^ 46)

-- a dead load that waits, or 0
abbrev pub load_waiting : Option ℤ → ℤ
load_waiting None = pos 0
load_waiting (Some z) = z

abbrev pub Bounded : State → Type 0
Bounded s = Small s.force × Small s.stored × Light (load_waiting s.pending)

-- the full load is above the dead load, in force and stored
abbrev pub Spanned : State → Type 0
Spanned s = (s.force.dead <ℤ s.force.full) × (s.stored.dead <ℤ s.stored.full)
