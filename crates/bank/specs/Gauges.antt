-- One gauge: its corner factor, and what it reads.
use Rattle.std.specs.Prelude.{ℕ, cond, ◌&&◌, List, map, ℤ, pos, negsuc, ◌*ℤ◌, is_ok, is_some, Some, None, Ok, Err, Option, Result, ◌==◌, int_lt, nat_le}
use Rattle.fault.specs.declared.faults.Fault.{Fault}
use Rattle.fault.specs.declared.causes.Cause.TheVariants.{FactorRange}
use Rattle.fault.specs.Faults.{refusal}
use Rattle.bank.specs.declared.reading.Reading.{Reading}
use Rattle.bank.specs.Readings.{marked}
use Rattle.bank.specs.Ports.{Port, none, ranged, rest}

-- digits held to ±1,638,399
abbrev pub held : ℤ → ℤ
held d = cond (int_lt (pos 1638399) d) (pos 1638399) (cond (int_lt d (negsuc 1638398)) (negsuc 1638398) d)

-- what a gauge with the corner factor f, in thousandths, reads at the digits d: the mark looks at the digits as given
abbrev pub reading : ℕ → ℤ → Reading
reading f d = record { load = held d *ℤ pos f; mark = marked d }

-- a port with one gauge of this factor, or none, at which these digits wait
abbrev pub gauged : Option ℕ → List ℤ → Port
gauged None ds = none
gauged (Some f) ds = record { gauges = 1; waiting = map (reading f) ds }

-- the digits that are due wait, where a gauge is fitted
abbrev pub fitted : (ℕ → Option ℕ) → (ℕ → List ℤ) → ℕ → Port
fitted f ds p = gauged (f p) (ds p)

-- the digits that are due after a reading is taken at port p: only a fitted gauge takes one, and that of its own port
abbrev pub due_after : (ℕ → Option ℕ) → (ℕ → List ℤ) → ℕ → ℕ → List ℤ
due_after f ds p k = cond (nat_le p 31 && is_some (f p) && k == p) (rest (ds k)) (ds k)

-- a corner factor lies within 500 to 1,500 thousandths
abbrev pub tuned_to : ℕ → Option ℕ
tuned_to f = cond (nat_le 500 f && nat_le f 1500) (Some f) None

-- the factors of a new bank: no port has a gauge
abbrev pub fits : ℕ → Option ℕ
fits p = None

-- what fitting answers
abbrev pub refitted : ℕ → ℕ → Result (Unit {0}) Fault
refitted p f = ranged p (cond (nat_le 500 f && nat_le f 1500) (Ok tt) (Err (refusal FactorRange p)))

-- the factors after fitting
abbrev pub fit_at : (ℕ → Option ℕ) → ℕ → ℕ → ℕ → Option ℕ
fit_at fs p f k = cond (is_ok (refitted p f) && k == p) (Some f) (fs k)
