-- What the bank beneath the boxes means: dials or a recording.
use Rattle.std.specs.Prelude.{◌≡◌, ℕ, List, take, ℤ, Some, None, Option, Result}
use Rattle.fault.specs.declared.faults.Fault.{Fault}
use Rattle.bank.specs.declared.record.Record.{Record}
use Rattle.bank.specs.Ports.{Port, Sound}
use Rattle.bank.specs.Gauges.{fits, fit_at, fitted}
use Rattle.bank.specs.Dials.{Setting, still_at, set_at, placed, dialled}
use Rattle.bank.specs.Records.{due_of}
use Rattle.halls.specs.declared.beneath.Beneath.{Beneath}
use Rattle.halls.specs.declared.beneath.Beneath.TheVariants.{Dialled, Recorded}
use Rattle.halls.specs.declared.requests.Kind.{Kind}
use Rattle.halls.specs.declared.requests.Kind.TheVariants.{Dials, Recording}

-- the corner factor of each port that has a gauge, and what its dial is set to, or the digits due there
pub data Base : Type 0 where
  OfDials : (factors : ℕ → Option ℕ) (settings : ℕ → Setting) → Base
  OfRecords : (factors : ℕ → Option ℕ) (due : ℕ → List ℤ) → Base

-- what each port shows
abbrev pub base_ports : Base → ℕ → Port
base_ports (OfDials f s) = dialled f s
base_ports (OfRecords f d) = fitted f d

-- a bank of a kind before anything is fitted; records after the 65,535th are passed over
abbrev pub new_base : Kind → List Record → Base
new_base Dials rs = OfDials fits still_at
new_base Recording rs = OfRecords fits (due_of (take 65535 rs))

-- after a fit
abbrev pub refit : Base → ℕ → ℕ → Base
refit (OfDials f s) p t = OfDials (fit_at f p t) s
refit (OfRecords f d) p t = OfRecords (fit_at f p t) d

-- what a set answers, where the bank has dials, and what it leaves
abbrev pub setting_told : Base → ℕ → Option (Result (Unit {0}) Fault)
setting_told (OfDials f s) p = Some (placed p)
setting_told (OfRecords f d) p = None

abbrev pub reset : Base → ℕ → Setting → Base
reset (OfDials f s) p t = OfDials f (set_at s p t)
reset (OfRecords f d) p t = OfRecords f d

-- ---- the bank of a script, of one kind or the other
-- the one of two banks that is of a kind
abbrev pub chosen : {D R : Type 0} → Kind → D → R → Beneath D R
chosen Dials d r = Dialled d
chosen Recording d r = Recorded r

abbrev pub base_of : {D R : Type 0} → (D → Base) → (R → Base) → Beneath D R → Base
base_of f g (Dialled d) = f d
base_of f g (Recorded r) = g r

abbrev pub shown_by : {D R : Type 0} → (D → ℕ → Port) → (R → ℕ → Port) → Beneath D R → ℕ → Port
shown_by f g (Dialled d) p = f d p
shown_by f g (Recorded r) p = g r p

-- every port keeps the limits
pub sound_of : {D R : Type 0} (f : D → ℕ → Port) (g : R → ℕ → Port) → ((d : D) (p : ℕ) → Sound (f d p)) → ((r : R) (p : ℕ) → Sound (g r p)) → (b : Beneath D R) (p : ℕ) → Sound (shown_by f g b p)
sound_of f g x y (Dialled d) p = x d p
sound_of f g x y (Recorded r) p = y r p

-- it shows what its gauges and digits make
pub shows_base : {D R : Type 0} (f : D → ℕ → Port) (g : R → ℕ → Port) (m : D → Base) (n : R → Base) → ((d : D) → f d ≡ base_ports (m d)) → ((r : R) → g r ≡ base_ports (n r)) → (b : Beneath D R) → shown_by f g b ≡ base_ports (base_of m n b)
shows_base f g m n x y (Dialled d) = x d
shows_base f g m n x y (Recorded r) = y r
