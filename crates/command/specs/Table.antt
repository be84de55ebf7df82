-- The table of commands. Assumes nothing.
use Rattle.std.specs.Prelude.{◌≡◌, ℕ, Bool, cond, ◌&&◌, List, [], ◌∷◌, length, ℤ, pos, neg_ℤ, Some, None, codes, Option, ◌==◌, slice_index}
use Rattle.std.specs.Char.{to_ascii_uppercase}
use Rattle.command.specs.declared.orders.Form.{Form}
use Rattle.command.specs.declared.orders.Form.TheVariants.{Entry, Query}
use Rattle.command.specs.declared.orders.Mnemonic.{Mnemonic}
use Rattle.command.specs.declared.orders.Mnemonic.TheVariants.{Cof, Icr, Nov, Rsn, Ldw, Lwt, Tar, Tas, Tav, Msv, Spw, Dpw, Tdd, Res, Esr}
use Rattle.command.specs.declared.table.Kind.{Kind}
use Rattle.command.specs.declared.table.Kind.TheVariants.{Nothing, Number, OptionalNumber, Text}
use Rattle.command.specs.declared.table.Limits.TheVariants.{Between, Formats, Steps}
use Rattle.command.specs.declared.table.Need.{Need}
use Rattle.command.specs.declared.table.Need.TheVariants.{Never, Always, ForZero}
use Rattle.command.specs.declared.table.Row.{Row}

abbrev pub row : List ℕ → Mnemonic → Option Kind → Option Kind → Need → Option ℤ → Row
row initials name entry query need most = record { initials = initials; name = name; entry = entry; query = query; password = need; broadcast = most }

-- the most values that one command asks for
abbrev pub most_values : ℕ
most_values = 64

-- each command: its initials, what an entry takes, what a query takes, whether an entry needs the password, and the
-- highest number in a broadcast where that is another
abbrev pub row_of : Mnemonic → Row
row_of Cof = row (codes "COF") Cof (Some (Number Formats)) (Some Nothing) Never None
row_of Icr = row (codes "ICR") Icr (Some (Number (Between (pos 0) (pos 4)))) (Some Nothing) Never None
row_of Nov = row (codes "NOV") Nov (Some (Number (Between (pos 0) (pos 1599999)))) (Some Nothing) Always None
row_of Rsn = row (codes "RSN") Rsn (Some (Number Steps)) (Some Nothing) Never None
row_of Ldw = row (codes "LDW") Ldw (Some (OptionalNumber (Between (neg_ℤ (pos 1599999)) (pos 1599999)))) (Some Nothing) Always None
row_of Lwt = row (codes "LWT") Lwt (Some (OptionalNumber (Between (neg_ℤ (pos 1599999)) (pos 1599999)))) (Some Nothing) Always None
row_of Tar = row (codes "TAR") Tar (Some Nothing) None Never None
row_of Tas = row (codes "TAS") Tas (Some (Number (Between (pos 0) (pos 1)))) (Some Nothing) Never None
row_of Tav = row (codes "TAV") Tav None (Some Nothing) Never None
row_of Msv = row (codes "MSV") Msv None (Some (OptionalNumber (Between (pos 1) (pos most_values)))) Never (Some (pos 1))
row_of Spw = row (codes "SPW") Spw (Some Text) None Never None
row_of Dpw = row (codes "DPW") Dpw (Some Text) None Never None
row_of Tdd = row (codes "TDD") Tdd (Some (Number (Between (pos 0) (pos 1)))) None ForZero None
row_of Res = row (codes "RES") Res (Some Nothing) None Never None
row_of Esr = row (codes "ESR") Esr None (Some Nothing) Never None

abbrev pub names : List Mnemonic
names = Cof ∷ Icr ∷ Nov ∷ Rsn ∷ Ldw ∷ Lwt ∷ Tar ∷ Tas ∷ Tav ∷ Msv ∷ Spw ∷ Dpw ∷ Tdd ∷ Res ∷ Esr ∷ []

-- the place of a command among them
abbrev pub place_of : Mnemonic → ℕ
place_of Cof = 0
place_of Icr = 1
place_of Nov = 2
place_of Rsn = 3
place_of Ldw = 4
place_of Lwt = 5
place_of Tar = 6
place_of Tas = 7
place_of Tav = 8
place_of Msv = 9
place_of Spw = 10
place_of Dpw = 11
place_of Tdd = 12
place_of Res = 13
place_of Esr = 14

abbrev pub rows_of : List Mnemonic → List Row
rows_of [] = []
rows_of (n ∷ ns) = row_of n ∷ rows_of ns

abbrev pub rows : List Row
rows = rows_of names

-- bytes are three initials, in either case
abbrev pub alike : List ℕ → List ℕ → Bool
alike a b =
    (length b == 3)
    && (slice_index a 0 == to_ascii_uppercase (slice_index b 0) && (slice_index a 1 == to_ascii_uppercase (slice_index b 1) && slice_index a 2 == to_ascii_uppercase (slice_index b 2)))

-- three initials in capitals
abbrev pub in_capitals : List ℕ → List ℕ
in_capitals q = to_ascii_uppercase (slice_index q 0) ∷ to_ascii_uppercase (slice_index q 1) ∷ to_ascii_uppercase (slice_index q 2) ∷ []

-- initials are those of a row, in capitals
abbrev pub capitals_of : List ℕ → List ℕ → Bool
capitals_of a q = slice_index a 0 == slice_index q 0 && (slice_index a 1 == slice_index q 1 && slice_index a 2 == slice_index q 2)

-- the first row with these initials
unfoldable pub lookup : List Row → List ℕ → Option Row
lookup [] q = None
lookup (r ∷ rs) q = cond (alike r.initials q) (Some r) (lookup rs q)

-- what a form takes, if the command has it
abbrev pub kind_of : Row → Form → Option Kind
kind_of r Entry = r.entry
kind_of r Query = r.query

-- The table has a row for each of fifteen commands, and the initials of a row find it.
abbrev pub WholeTable : Type 0
WholeTable = (length rows ≡ 15) × ((n : Mnemonic) → ((row_of n).name ≡ n) × (lookup rows (row_of n).initials ≡ Some (row_of n)))
