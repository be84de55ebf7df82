-- What a box works out of the ports that feed one port: counts, and readings taken.
use Rattle.std.specs.Prelude.{◌+◌, ◌*◌, ◌≤◌, Bool, false, ◌&&◌, length, pos, Some, None, Option, ◌==◌, nat_lt, unsigned_abs}
use Rattle.bank.specs.declared.reading.Reading.{Reading}
use Rattle.bank.specs.Ports.{Port, most}
use Rattle.junction.specs.declared.as_one.Tally.{Tally}
use Rattle.junction.specs.Gather.{shorter}

-- a port's gauge count and how many readings wait there
abbrev pub tally_of : Port → Tally
tally_of a = record { gauges = a.gauges; waiting = length a.waiting }

-- the counts of two ports as one
abbrev pub joined : Tally → Tally → Tally
joined a b = record { gauges = a.gauges + b.gauges; waiting = shorter a.gauges a.waiting b.gauges b.waiting }

-- whether a port so counted is dry
abbrev pub dried : Tally → Bool
dried a = nat_lt 0 a.gauges && a.waiting == 0

-- no load, not overdriven
abbrev pub nothing : Reading
nothing = record { load = pos 0; mark = record { overdriven = false } }

-- a reading, or nothing where there is none
abbrev pub reading_or_nothing : Option Reading → Reading
reading_or_nothing None = nothing
reading_or_nothing (Some x) = x

-- a reading whose load is no larger than that of all the gauges that 32 ports can have
abbrev pub Carried : Reading → Type 0
Carried x = unsigned_abs x.load ≤ 256 * most
