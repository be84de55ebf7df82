-- Worked examples of whole commands. Assumes nothing.
use Rattle.std.specs.Prelude.{◌≡◌, ℕ, true, false, [], ◌∷◌, ◌++◌, pos, neg_ℤ, Some, None, Ok, Err, codes, Result}
use Rattle.fault.specs.declared.causes.Cause.{Cause}
use Rattle.fault.specs.declared.causes.Cause.TheVariants.{NoEnd, UnknownCommand, Malformed, ParameterCount, OutOfRange}
use Rattle.fault.specs.declared.faults.Fault.{Fault}
use Rattle.fault.specs.Faults.{refusal}
use Rattle.command.specs.declared.orders.Argument.{Argument}
use Rattle.command.specs.declared.orders.Argument.TheVariants.{Absent, Number, Text}
use Rattle.command.specs.declared.orders.Form.{Form}
use Rattle.command.specs.declared.orders.Form.TheVariants.{Entry, Query}
use Rattle.command.specs.declared.orders.Heard.{Heard}
use Rattle.command.specs.declared.orders.Heard.TheVariants.{Blank, Select, Command}
use Rattle.command.specs.declared.orders.Mnemonic.{Mnemonic}
use Rattle.command.specs.declared.orders.Mnemonic.TheVariants.{Cof, Nov, Ldw, Lwt, Msv, Spw, Tdd}
use Rattle.command.specs.declared.orders.Order.{Order}
use Rattle.command.specs.Conditions.{needs_password, broadcast_of}
use Rattle.command.specs.Cuts.{cut_of}
use Rattle.command.specs.Numbers.{number_of}
use Rattle.command.specs.Readings.{reading}
use Rattle.command.specs.Texts.{word}

abbrev pub order : Mnemonic → Form → Argument → ℕ → Order
order n f a place = record { name = n; form = f; argument = a; place = place }

abbrev pub refused : Cause → ℕ → Result Heard Fault
refused why place = Err (refusal why place)

-- the bytes of a command and what is read
abbrev pub ReadExamples : Type 0
ReadExamples =
    (reading (codes "NOV1.2e4") ≡ Ok (Command (order Nov Entry (Number (pos 12000)) 3)))
    × (reading (codes "NOV1.25e1") ≡ refused Malformed 3)
    × (reading (codes "NOV9e99") ≡ refused OutOfRange 3)
    × (reading (codes "NOV000001599e3") ≡ refused Malformed 3)
    × (reading (codes "NOV00001599e3") ≡ Ok (Command (order Nov Entry (Number (pos 1599000)) 3)))
    × (reading (codes "NOV1599999") ≡ Ok (Command (order Nov Entry (Number (pos 1599999)) 3)))
    × (reading (codes "NOV1600000") ≡ refused OutOfRange 3)
    × (reading (codes "LDW-1599999") ≡ Ok (Command (order Ldw Entry (Number (neg_ℤ (pos 1599999))) 3)))
    × (reading (codes "LWT-0") ≡ Ok (Command (order Lwt Entry (Number (pos 0)) 3)))
    × (reading (codes "MSV?64") ≡ Ok (Command (order Msv Query (Number (pos 64)) 4)))
    × (reading (codes "MSV?65") ≡ refused OutOfRange 4)
    × (reading (codes "MSV?0") ≡ refused OutOfRange 4)
    × (reading (codes "COF44") ≡ Ok (Command (order Cof Entry (Number (pos 44)) 3)))
    × (reading (codes "COF5") ≡ refused OutOfRange 3)
    × (reading (codes "S05") ≡ Ok (Select 5))
    × (reading (codes " s98 ") ≡ Ok (Select 98))
    × (reading (codes "") ≡ Ok Blank)
    × (reading (codes "TAV") ≡ refused UnknownCommand 0)
    × (reading (codes "COF") ≡ refused ParameterCount 3)
    × (reading (codes "TAR1") ≡ refused ParameterCount 3)
    × (reading (codes " cof ? ") ≡ Ok (Command (order Cof Query Absent 7)))
    × (reading (codes "SPW\"AED\"") ≡ Ok (Command (order Spw Entry (Text (word (codes "AED"))) 3)))
    × (reading (codes "SPW\"\"") ≡ refused Malformed 3)
    × (reading (codes "MSV?1 0") ≡ refused Malformed 4)
    × (reading (codes "XYZ?") ≡ refused UnknownCommand 0)
    -- 11h, inside quotes too, is unknown at its place
    × (reading (codes "SPW" ++ 34 ∷ 65 ∷ 17 ∷ 34 ∷ []) ≡ refused UnknownCommand 5)

-- numbers by themselves, the empty text among them
abbrev pub NumberExamples : Type 0
NumberExamples =
    (number_of (codes "1.50e1") ≡ Some (pos 15)) × (number_of (codes "0.1e1") ≡ Some (pos 1)) × (number_of (codes "-2.0") ≡ Some (neg_ℤ (pos 2)))
    × (number_of (codes "+7") ≡ Some (pos 7)) × (number_of (codes "1.") ≡ None) × (number_of (codes ".5e1") ≡ None) × (number_of (codes "1e123") ≡ None)
    × (number_of (codes "+") ≡ None) × (number_of [] ≡ None)

-- splitting, the password and the block in a broadcast
abbrev pub OtherExamples : Type 0
OtherExamples =
    (cut_of (codes "S01;COF3;") ≡ Ok (codes "S01", 4)) × (cut_of (codes "COF3") ≡ Err (refusal NoEnd 4))
    × (needs_password (order Tdd Entry (Number (pos 0)) 3) ≡ true) × (needs_password (order Tdd Entry (Number (pos 1)) 3) ≡ false)
    × (needs_password (order Nov Entry (Number (pos 1)) 3) ≡ true) × (needs_password (order Nov Query Absent 4) ≡ false)
    × (broadcast_of (order Msv Query (Number (pos 2)) 4) ≡ Err (refusal OutOfRange 4))
    × (broadcast_of (order Msv Query (Number (pos 1)) 4) ≡ Ok (order Msv Query (Number (pos 1)) 4))

abbrev pub Examples : Type 0
Examples = ReadExamples × NumberExamples × OtherExamples
