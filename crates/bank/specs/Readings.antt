-- The mark of a reading.
use Rattle.std.specs.Prelude.{◌||◌, ℤ, pos, negsuc, int_lt}
use Rattle.bank.specs.declared.reading.Mark.{Mark}

-- a gauge is overdriven beyond ±1,250,000 digits
abbrev pub marked : ℤ → Mark
marked d = record { overdriven = int_lt (pos 1250000) d || int_lt d (negsuc 1249999) }

-- the mark of two readings as one: overdriven if either is
abbrev pub either : Mark → Mark → Mark
either a b = record { overdriven = a.overdriven || b.overdriven }
