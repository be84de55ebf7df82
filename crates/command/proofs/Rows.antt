-- The table as a whole, and bytes too few for initials. Assumes nothing.
use Rattle.std.proofs.Common.{◌≡◌, ℕ, ◌<◌, cond, List, [], ◌∷◌, length, take, Some, None, Option, refl, ap, ◌∙◌, arith}
use Rattle.std.specs.List.{find}
use Rattle.command.specs.declared.table.Row.{Row}
use Rattle.command.specs.declared.orders.Mnemonic.{Mnemonic}
use Rattle.command.specs.declared.orders.Mnemonic.TheVariants.{Cof, Icr, Nov, Rsn, Ldw, Lwt, Tar, Tas, Tav, Msv, Spw, Dpw, Tdd, Res, Esr}
use Rattle.command.specs.declared.orders.Form.{Form}
use Rattle.command.specs.Readings.{sense_of}
use Rattle.command.specs.Table.{rows, row_of, lookup, in_capitals, capitals_of, WholeTable}

-- what is looked for row by row in capitals is the first row that is found
pub find_is : (rs : List Row) (q k : List ℕ) → length q ≡ 3 → k ≡ in_capitals q → find (λ (r : Row). capitals_of r.initials k) rs ≡ lookup rs q
unfolding lookup
find_is [] q k h e = refl
find_is (r ∷ rs) [] k h e = absurd (omega arith)
find_is (r ∷ rs) (a ∷ []) k h e = absurd (omega arith)
find_is (r ∷ rs) (a ∷ b ∷ []) k h e = absurd (omega arith)
find_is (r ∷ rs) (a ∷ b ∷ c ∷ []) k h e =
    ap (λ (x : List ℕ). cond (capitals_of r.initials x) (Some r) (find (λ (s : Row). capitals_of s.initials k) rs)) e
    ∙ ap (λ (o : Option Row). cond (capitals_of r.initials (in_capitals (a ∷ b ∷ c ∷ []))) (Some r) o) (find_is rs (a ∷ b ∷ c ∷ []) k h e)
find_is (r ∷ rs) (a ∷ b ∷ c ∷ d ∷ q) k h e = absurd (omega arith)

found : (n : Mnemonic) → ((row_of n).name ≡ n) × (lookup rows (row_of n).initials ≡ Some (row_of n))
unfolding lookup
found Cof = (refl, refl)
found Icr = (refl, refl)
found Nov = (refl, refl)
found Rsn = (refl, refl)
found Ldw = (refl, refl)
found Lwt = (refl, refl)
found Tar = (refl, refl)
found Tas = (refl, refl)
found Tav = (refl, refl)
found Msv = (refl, refl)
found Spw = (refl, refl)
found Dpw = (refl, refl)
found Tdd = (refl, refl)
found Res = (refl, refl)
found Esr = (refl, refl)

pub whole_table : WholeTable
whole_table = (refl, found)

-- fewer than three bytes are no initials
pub short_sense : (s : List ℕ) (f : Form) → length s < 3 → sense_of (take 3 s) f ≡ None
unfolding lookup sense_of
short_sense [] f h = refl
short_sense (a ∷ []) f h = refl
short_sense (a ∷ b ∷ []) f h = refl
short_sense (a ∷ b ∷ c ∷ s) f h = absurd (omega arith)
