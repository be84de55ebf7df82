-- A command by its parts, and the law that blanks around them and the case of the initials do not matter. Assumes nothing.
use Rattle.std.specs.Prelude.{◌≡◌, ℕ, ◌≤◌, true, false, List, [], ◌∷◌, ◌++◌, length, Ok, Err, Result}
use Rattle.std.specs.Char.{to_ascii_uppercase}
use Rattle.std.specs.List.{prefix_len, suffix_len, AllByRecursion}
use Rattle.fault.specs.declared.causes.Cause.{Cause}
use Rattle.fault.specs.declared.faults.Fault.{Fault}
use Rattle.command.specs.declared.orders.Form.{Form}
use Rattle.command.specs.declared.orders.Form.TheVariants.{Entry, Query}
use Rattle.command.specs.declared.orders.Heard.{Heard}
use Rattle.command.specs.declared.orders.Heard.TheVariants.{Blank, Select, Command}
use Rattle.command.specs.Blanks.{blank}
use Rattle.command.specs.Cuts.{other}
use Rattle.command.specs.Readings.{asks, reading}

-- three initials, perhaps a question mark, a parameter, and what stands before, between and after them
pub record Spelling : Type 0 where
  pub first : ℕ
  pub second : ℕ
  pub third : ℕ
  pub form : Form
  pub parameter : List ℕ
  pub before : List ℕ
  pub behind : List ℕ
  pub inner : List ℕ
  pub after : List ℕ

abbrev pub mark : Form → List ℕ
mark Query = 63 ∷ []
mark Entry = []

-- the bytes of the command
abbrev pub spelled : Spelling → List ℕ
spelled s =
    s.before ++ (s.first ∷ s.second ∷ s.third ∷ (s.behind ++ (mark s.form ++ (s.inner ++ (s.parameter ++ s.after)))))

-- blanks that may stand there: bytes up to 20h, but not 11h or 13h
abbrev pub Gap : List ℕ → Type 0
Gap g = AllByRecursion (λ b. (blank b ≡ true) × (other 17 19 b ≡ true)) g

-- a parameter begins with no question mark where none stands before it
abbrev pub Unasked : Form → List ℕ → Type 0
Unasked Query p = Unit {0}
Unasked Entry p = asks p ≡ false

-- between blanks stand initials without a blank, and a parameter that neither begins nor ends with one; 64 bytes at most
pub record Sound (s : Spelling) : Type 0 where
  pub no_blank : (blank s.first ≡ false) × (blank s.second ≡ false) × (blank s.third ≡ false)
  pub begins : prefix_len blank s.parameter ≡ 0
  pub ends : suffix_len blank s.parameter ≡ 0
  pub unasked : Unasked s.form s.parameter
  pub gaps : Gap s.before × Gap s.behind × Gap s.inner × Gap s.after
  pub short : length (spelled s) ≤ 64

-- the same initials in either case, the same question mark and the same parameter
pub record Alike (s t : Spelling) : Type 0 where
  pub initials : (to_ascii_uppercase s.first ≡ to_ascii_uppercase t.first) × (to_ascii_uppercase s.second ≡ to_ascii_uppercase t.second) × (to_ascii_uppercase s.third ≡ to_ascii_uppercase t.third)
  pub form : s.form ≡ t.form
  pub parameter : s.parameter ≡ t.parameter

-- what is read, apart from the place
abbrev pub unplaced : Result Heard Fault → Result Heard Cause
unplaced (Err f) = Err f.cause
unplaced (Ok Blank) = Ok Blank
unplaced (Ok (Select pair)) = Ok (Select pair)
unplaced (Ok (Command o)) = Ok (Command (record { name = o.name; form = o.form; argument = o.argument; place = 0 }))

-- The law: such commands are read alike.
abbrev pub ReadsAlike : Type 0
ReadsAlike = (s t : Spelling) → Sound s → Sound t → Alike s t → unplaced (reading (spelled s)) ≡ unplaced (reading (spelled t))
