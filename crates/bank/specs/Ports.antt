-- What a port of a bank is, its limits, and what the bank calls answer and leave.
use Rattle.std.specs.Prelude.{◌≡◌, ℕ, ◌*◌, ◌≤◌, cond, ◌&&◌, List, [], ◌∷◌, length, Some, None, Ok, Err, Option, Result, ◌==◌, nat_le, unsigned_abs}
use Rattle.fault.specs.declared.faults.Fault.{Fault}
use Rattle.fault.specs.declared.causes.Cause.TheVariants.{TooFewReadings, PortRange}
use Rattle.fault.specs.Faults.{refusal}
use Rattle.bank.specs.declared.reading.Reading.{Reading}

-- a port: its gauge count, and the readings that wait, the first to be taken first
pub record Port : Type 0 where
  pub gauges : ℕ
  pub waiting : List Reading

-- a port without a gauge
abbrev pub none : Port
none = record { gauges = 0; waiting = [] }

-- the size of the largest load that one gauge gives
abbrev pub most : ℕ
most = 2457598500

-- no load is larger than n gauges give
abbrev pub Small : ℕ → List Reading → Type 0
Small n [] = Unit {0}
Small n (x ∷ xs) = (unsigned_abs x.load ≤ n * most) × Small n xs

-- the limits of a port
pub record Sound (p : Port) : Type 0 where
  pub few : p.gauges ≤ 8
  pub short : length p.waiting ≤ 65535
  pub small : Small p.gauges p.waiting
  pub bare : p.gauges ≡ 0 → p.waiting ≡ []

-- the answer of a call at port p, where there is such a port
abbrev pub ranged : {A : Type 0} → ℕ → Result A Fault → Result A Fault
ranged p r = cond (nat_le p 31) r (Err (refusal PortRange p))

-- the first of the readings that wait at port p
abbrev pub first : ℕ → List Reading → Result Reading Fault
first p [] = Err (refusal TooFewReadings p)
first p (x ∷ xs) = Ok x

abbrev pub rest : {A : Type 0} → List A → List A
rest [] = []
rest (x ∷ xs) = xs

-- a port without its first reading
abbrev pub popped : Port → Port
popped a = record { gauges = a.gauges; waiting = rest a.waiting }

-- the first of a list, if there is one
abbrev pub front : {A : Type 0} → List A → Option A
front [] = None
front (x ∷ xs) = Some x

-- what counting gauges, counting readings and taking answer
abbrev pub gauges_at : (ℕ → Port) → ℕ → Result ℕ Fault
gauges_at m p = ranged p (Ok (m p).gauges)

abbrev pub waiting_at : (ℕ → Port) → ℕ → Result ℕ Fault
waiting_at m p = ranged p (Ok (length (m p).waiting))

abbrev pub first_at : (ℕ → Port) → ℕ → Result Reading Fault
first_at m p = ranged p (first p (m p).waiting)

-- the lists of the ports, less the first of that of port p
abbrev pub less_at : {A : Type 0} → (ℕ → List A) → ℕ → ℕ → List A
less_at ds p k = cond (k == p) (rest (ds k)) (ds k)

-- the ports after taking at port p
abbrev pub rest_at : (ℕ → Port) → ℕ → ℕ → Port
rest_at m p k = cond (nat_le p 31 && k == p) (popped (m k)) (m k)
