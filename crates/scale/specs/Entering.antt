-- Entering a setting.
use Rattle.std.specs.Prelude.{◌≡◌, ℕ, cond, ℤ, pos, negsuc, Some, None, Option, Result, nat_le}
use Rattle.std.specs.Option.{option_map}
use Rattle.std.specs.Result.{result_ok}
use Rattle.value.specs.declared.unknown.UnknownNumber.{UnknownNumber}
use Rattle.command.specs.declared.orders.Mnemonic.{Mnemonic}
use Rattle.command.specs.declared.orders.Mnemonic.TheVariants.{Cof, Icr, Nov, Rsn, Ldw, Lwt, Tar, Tas, Tav, Msv, Spw, Dpw, Tdd, Res, Esr}
use Rattle.value.specs.Output.{numbered_format}
use Rattle.scale.specs.declared.settings.Settings.{Settings}
use Rattle.scale.specs.Choices.{averaging_numbered, step_valued, display_numbered}
use Rattle.scale.specs.Settings.{with_format, with_averaging, with_nominal, with_step, with_display}

-- a number that is a byte
abbrev pub byte_of : ℤ → Option ℕ
byte_of (pos n) = cond (nat_le n 255) (Some n) None
byte_of (negsuc n) = None

-- what a type gives for a byte, without its error
abbrev pub ByByte : {T : Type 0} → (ℕ → Result T UnknownNumber → Type 0) → Option ℕ → Option T → Type 0
ByByte {T = T} gives None x = x ≡ None
ByByte {T = T} gives (Some b) x = (r : Result T UnknownNumber) × gives b r × (x ≡ result_ok r)

-- dead load, full load and tare, which no such entry alters
abbrev pub loads_of : Settings → ℤ × ℤ × ℤ
loads_of s = (s.dead, s.full, s.tare)

abbrev pub renominal : Settings → ℤ → Option Settings
renominal s (pos n) = Some (with_nominal s n)
renominal s (negsuc n) = None

abbrev pub by_byte : (ℕ → Option Settings) → Option ℕ → Option Settings
by_byte f None = None
by_byte f (Some b) = f b

-- output format, averaging, nominal value, display step, and net or gross, by their numbers
abbrev pub entered : Settings → Mnemonic → ℤ → Option Settings
entered s Cof n = by_byte (λ b. option_map (with_format s) (numbered_format b)) (byte_of n)
entered s Icr n = by_byte (λ b. option_map (with_averaging s) (averaging_numbered b)) (byte_of n)
entered s Nov n = renominal s n
entered s Rsn n = by_byte (λ b. option_map (with_step s) (step_valued b)) (byte_of n)
entered s Tas n = by_byte (λ b. option_map (with_display s) (display_numbered b)) (byte_of n)
entered s Ldw n = None
entered s Lwt n = None
entered s Tar n = None
entered s Tav n = None
entered s Msv n = None
entered s Spw n = None
entered s Dpw n = None
entered s Tdd n = None
entered s Res n = None
entered s Esr n = None

-- these settings, or those that stood before where nothing was entered
abbrev pub entered_or : Settings → Option Settings → Settings
entered_or s None = s
entered_or s (Some x) = x
