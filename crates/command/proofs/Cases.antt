-- The case of the initials does not matter. Assumes nothing.
use Rattle.std.proofs.Common.{◌≡◌, ℕ, ◌+◌, ◌-◌, ◌*◌, true, cond, ◌&&◌, eqb, List, [], ◌∷◌, get_or, Some, None, Err, sym, refl, ap, ◌∙◌, ⊎_elim, arith}
use Rattle.std.specs.Char.{to_ascii_uppercase, is_ascii_digit}
use Rattle.std.proofs.lemmas.Bool.{cond-true, cond-false, cases_Bool, and_parts}
use Rattle.std.proofs.lemmas.Bool.Decides.{nat_tests}
use Rattle.fault.specs.declared.causes.Cause.TheVariants.{UnknownCommand}
use Rattle.command.specs.declared.orders.Form.{Form}
use Rattle.command.specs.declared.table.Row.{Row}
use Rattle.command.specs.Cuts.{other}
use Rattle.command.specs.Readings.{sense_of, sensed, selects, select_of}
use Rattle.command.specs.Spellings.{ReadsAlike}
use Rattle.command.specs.Table.{rows, lookup}
use Rattle.command.specs.Understood.{clean}
use Rattle.command.proofs.Spelled.{bare, chosen, orderly, summary, spelled_is}

upper_twice : (b : ℕ) → to_ascii_uppercase b ≡ to_ascii_uppercase (to_ascii_uppercase b)
upper_twice b = grind (arith, nat_tests)

flow_upper : (b : ℕ) → other 17 19 b ≡ other 17 19 (to_ascii_uppercase b)
flow_upper b = grind (arith, nat_tests)

digit_upper : (b : ℕ) → is_ascii_digit b ≡ is_ascii_digit (to_ascii_uppercase b)
digit_upper b = grind (arith, nat_tests)

digit_same : (b : ℕ) → is_ascii_digit b ≡ true → b ≡ to_ascii_uppercase b
digit_same b h = grind (arith, nat_tests)

lookup_upper : (rs : List Row) (a b c : ℕ) → lookup rs (a ∷ b ∷ c ∷ []) ≡ lookup rs (to_ascii_uppercase a ∷ to_ascii_uppercase b ∷ to_ascii_uppercase c ∷ [])
unfolding lookup
lookup_upper [] a b c = refl
lookup_upper (r ∷ rs) a b c =
    let q = r.initials in
    λ i.
    cond (eqb (get_or q 0 0) (upper_twice a i) && (eqb (get_or q 1 0) (upper_twice b i) && eqb (get_or q 2 0) (upper_twice c i)))
    (Some r) (lookup_upper rs a b c i)

sense_upper : (a b c : ℕ) (f : Form) → sense_of (a ∷ b ∷ c ∷ []) f ≡ sense_of (to_ascii_uppercase a ∷ to_ascii_uppercase b ∷ to_ascii_uppercase c ∷ []) f
unfolding sense_of
sense_upper a b c f = ap (sensed f) (lookup_upper rows a b c)

selects_upper : (a b c : ℕ) → selects (a ∷ b ∷ c ∷ []) ≡ selects (to_ascii_uppercase a ∷ to_ascii_uppercase b ∷ to_ascii_uppercase c ∷ [])
selects_upper a b c = λ i. eqb (upper_twice a i) 83 && (digit_upper b i && digit_upper c i)

select_upper : (a b c : ℕ) → select_of (a ∷ b ∷ c ∷ []) ≡ select_of (to_ascii_uppercase a ∷ to_ascii_uppercase b ∷ to_ascii_uppercase c ∷ [])
select_upper a b c =
    let t = a ∷ b ∷ c ∷ [] in
    let u = to_ascii_uppercase a ∷ to_ascii_uppercase b ∷ to_ascii_uppercase c ∷ [] in
    let pair = λ (x y : ℕ). 10 * (x - 48) + (y - 48) in
    ⊎_elim
    (λ y. let d = (and_parts (eqb (to_ascii_uppercase a) 83) (is_ascii_digit b && is_ascii_digit c) y).1 in
    let e = and_parts (is_ascii_digit b) (is_ascii_digit c) d in
    cond-true (selects t) (Some (pair b c)) None y ∙ (λ i. Some (pair (digit_same b e.0 i) (digit_same c e.1 i)))
    ∙ sym (cond-true (selects u) (Some (pair (to_ascii_uppercase b) (to_ascii_uppercase c))) None (sym (selects_upper a b c) ∙ y)))
    (λ n. cond-false (selects t) (Some (pair b c)) None n ∙ sym (cond-false (selects u) (Some (pair (to_ascii_uppercase b) (to_ascii_uppercase c))) None (sym (selects_upper a b c) ∙ n)))
    (cases_Bool (selects t))

summary_upper : (a b c : ℕ) (f : Form) (p : List ℕ) → summary a b c f p ≡ summary (to_ascii_uppercase a) (to_ascii_uppercase b) (to_ascii_uppercase c) f p
summary_upper a b c f p =
    λ i.
    cond ((flow_upper a i && (flow_upper b i && (flow_upper c i && true))) && clean p)
    (chosen (cond (bare f p) (select_upper a b c i) None) (orderly (sense_upper a b c f i) f p)) (Err UnknownCommand)

pub reads_alike : ReadsAlike
reads_alike s t hs ht e =
    spelled_is s hs ∙ summary_upper s.first s.second s.third s.form s.parameter
    ∙ (λ i. summary (e.initials.0 i) (e.initials.1 i) (e.initials.2 i) (e.form i) (e.parameter i))
    ∙ sym (summary_upper t.first t.second t.third t.form t.parameter) ∙ sym (spelled_is t ht)
