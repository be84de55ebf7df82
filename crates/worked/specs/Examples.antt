-- The worked examples, one to a line.
use Rattle.std.specs.Prelude.{◌≡◌, ℕ, true, List, [], ◌∷◌, ◌++◌, map, ℤ, pos, neg_ℤ, Some, Ok, Err, codes}
use Rattle.fault.specs.declared.causes.Cause.TheVariants.{Malformed, OutOfRange}
use Rattle.fault.specs.Faults.{refusal}
use Rattle.bank.specs.Gauges.{gauged}
use Rattle.bank.specs.Ports.{Port}
use Rattle.command.specs.Readings.{reading}
use Rattle.command.specs.declared.orders.Argument.TheVariants.{Number}
use Rattle.command.specs.declared.orders.Form.TheVariants.{Entry}
use Rattle.command.specs.declared.orders.Heard.TheVariants.{Command}
use Rattle.command.specs.declared.orders.Mnemonic.TheVariants.{Nov}
use Rattle.platforms.specs.Halls.{digits, platform, platform_at}
use Rattle.platforms.specs.Answers.{answered_in, room}
use Rattle.scale.specs.Hearing.{hears}
use Rattle.scale.specs.Settings.{factory, with_averaging, with_format, with_nominal, with_step}
use Rattle.scale.specs.States.{fresh, with_force}
use Rattle.scale.specs.declared.averaging.Averaging.TheVariants.{Two as of_two}
use Rattle.scale.specs.declared.modes.Mode.TheVariants.{Selected}
use Rattle.scale.specs.declared.settings.Settings.{Settings}
use Rattle.scale.specs.declared.step.Step.TheVariants.{Five}
use Rattle.value.specs.Written.{crlf}
use Rattle.value.specs.declared.layout.Layout.{Layout}
use Rattle.value.specs.declared.layout.Layout.TheVariants.{ThreeBytesStatus, ThreeBytesStatusReversed, TwoBytes, Decimal}

-- one gauge, factor 1,000, at which these digits wait
abbrev pub gauge : List ℤ → Port
gauge ds = gauged (Some 1000) ds

-- port 1 of the platform, and the same with the digits of all dials negated
abbrev pub loaded : Port
loaded = platform 1

abbrev pub lifted : Port
lifted = platform_at (map neg_ℤ digits) 1

-- factory settings in a format with CR LF
abbrev pub in_format : Layout → Settings
in_format l = with_format factory (record { layout = l; ended = true })

-- what the scale at address 1, so set, answers to a command over a port
abbrev pub answer : Settings → Port → List ℕ → List ℕ
answer s p command = (hears Selected 1 (reading command) (with_force fresh s) p).says

abbrev pub ask : List ℕ
ask = codes "MSV?"

abbrev pub Examples : Type 0
Examples =
    (answer (in_format Decimal) loaded ask ≡ codes "+1000500" ++ crlf)
    × (answer (with_nominal (in_format Decimal) 3000) loaded ask ≡ codes "+0003002" ++ crlf)
    × (answer (with_step (with_nominal (in_format Decimal) 3000) Five) loaded ask ≡ codes "+0003000" ++ crlf)
    × (answer (with_nominal (in_format Decimal) 3000) lifted ask ≡ codes "-0003002" ++ crlf)
    × (answer (with_averaging (in_format Decimal) of_two) (gauge (pos 100001 ∷ pos 100002 ∷ [])) ask ≡ codes "+0100002" ++ crlf)
    × (answer (in_format ThreeBytesStatus) (gauge (pos 1000000 ∷ [])) ask ≡ 0x4E ∷ 0x20 ∷ 0x00 ∷ 0x08 ∷ crlf)
    × (answer (in_format ThreeBytesStatusReversed) (gauge (pos 1000000 ∷ [])) ask ≡ 0x08 ∷ 0x00 ∷ 0x20 ∷ 0x4E ∷ crlf)
    × (answer (with_nominal (in_format TwoBytes) 40000) (gauge (pos 0 ∷ [])) ask ≡ 0x7F ∷ 0xFF ∷ crlf)
    × (answered_in room (codes "S01;COF3;MSV?;S05;MSV?;S98;MSV?;S05;") ≡ codes "0" ++ crlf ++ codes "+1000500" ++ crlf ++ codes "+0500000,05,008" ++ crlf ++ codes "+0500000,05,008" ++ crlf)
    × (reading (codes "NOV1.25e1") ≡ Err (refusal Malformed 3))
    × (reading (codes "NOV9e99") ≡ Err (refusal OutOfRange 3))
    × (reading (codes "NOV0000012000") ≡ Ok (Command (record { name = Nov; form = Entry; argument = Number (pos 12000); place = 3 })))
    × (reading (codes "NOV00000012000") ≡ Err (refusal Malformed 3))
