-- A byte that holds or resumes the flow stands in nothing that is understood. Assumes nothing.
use Rattle.std.proofs.Common.{◌≡◌, ℕ, ◌-◌, Bool, true, false, cond, not, eqb, ltb, List, length, take, drop, is_some, Some, None, Ok, Err, Option, Result, sym, refl, ap, ◌∙◌}
use Rattle.std.proofs.lemmas.List.{nil_from_length}
use Rattle.std.proofs.lemmas.Bool.{eqb-true, and_parts, and_from, both_ways}
use Rattle.fault.specs.declared.faults.Fault.{Fault}
use Rattle.fault.specs.Faults.{refusal}
use Rattle.fault.specs.declared.causes.Cause.{Cause}
use Rattle.fault.specs.declared.causes.Cause.TheVariants.{UnknownCommand, LongCommand}
use Rattle.command.specs.declared.orders.Argument.{Argument}
use Rattle.command.specs.declared.orders.Form.{Form}
use Rattle.command.specs.declared.orders.Heard.{Heard}
use Rattle.command.specs.declared.orders.Mnemonic.{Mnemonic}
use Rattle.command.specs.declared.orders.Order.{Order}
use Rattle.command.specs.declared.table.Kind.{Kind}
use Rattle.command.specs.Arguments.{argument_of}
use Rattle.command.specs.Blanks.{skipped, chopped, trimmed}
use Rattle.command.specs.Cuts.{first_of}
use Rattle.command.specs.Readings.{asks, behind_of, rest_of, parameter_of, sense_of, filled, ordered, order_of, select_of, commanded, selected, allowed, reading}
use Rattle.command.specs.Understood.{clean, past, closed, form_at, rest_at, placed, order_at, picked, understood, answered}
use Rattle.command.proofs.Clean.{clean_cut, clean_past, clean_closed, clean_parts, past_is, closed_chops}
use Rattle.command.proofs.Gaps.{flow_of}
use Rattle.command.proofs.Tidy.{refused, either, sense_clean, select_clean, argument_clean}

-- in a clean command each gap is a blank
module _ (c : List ℕ) (h : clean c ≡ true) where
  start_is : past c ≡ skipped c
  start_is = past_is c h

  start_clean : clean (past c) ≡ true
  start_clean = clean_past c ∙ h

  tail_clean : clean (drop 3 (past c)) ≡ true
  tail_clean = (and_parts (clean (take 3 (past c))) (clean (drop 3 (past c))) (sym (clean_cut 3 (past c)) ∙ start_clean)).1

  abbrev behind : List ℕ
  behind = past (drop 3 (past c))

  behind_clean : clean behind ≡ true
  behind_clean = clean_past (drop 3 (past c)) ∙ tail_clean

  behind_is : behind ≡ behind_of c
  behind_is = past_is (drop 3 (past c)) tail_clean ∙ ap (λ s. skipped (drop 3 s)) start_is

  rest_is : rest_at behind ≡ rest_of c
  rest_is =
      let k = (and_parts (clean (take 1 behind)) (clean (drop 1 behind)) (sym (clean_cut 1 behind) ∙ behind_clean)).1 in
      ap (λ t. cond (asks behind) t behind) (past_is (drop 1 behind) k) ∙ ap (λ b. cond (asks b) (skipped (drop 1 b)) b) behind_is

  parameter_is : closed (rest_at behind) ≡ parameter_of c
  parameter_is =
      let parts = and_parts _ _ (sym (clean_parts (past c)) ∙ start_clean) in
      closed_chops (rest_at behind) (sym (clean_closed (rest_at behind)) ∙ parts.1) ∙ ap chopped rest_is

  trim_is : closed (past c) ≡ trimmed c
  trim_is = closed_chops (past c) start_clean ∙ ap chopped start_is

  placed_is : (o : Option (Mnemonic × Kind)) → placed (length c) (past c) behind o ≡ ordered c o
  placed_is None = ap (λ (s : List ℕ). Err (refusal UnknownCommand (length c - length s))) start_is
  placed_is (Some p) = λ i. filled p.0 (form_at (behind_is i)) (length c - length (rest_is i)) (argument_of p.1 (parameter_is i))

  order_is : order_at (length c) (past c) ≡ order_of c
  unfolding order_at order_of
  order_is = placed_is (sense_of (take 3 (past c)) (form_at behind)) ∙ (λ i. ordered c (sense_of (take 3 (start_is i)) (form_at (behind_is i))))

  picked_is : (o : Option ℕ) → picked (length c) (past c) o ≡ selected c o
  picked_is (Some pair) = refl
  picked_is None = ap commanded order_is

  clean_is : understood c ≡ allowed c None
  unfolding understood
  clean_is =
      (λ i. cond (eqb (length (trim_is i)) 0) (Ok Heard.Blank) (picked (length c) (past c) (select_of (trim_is i))))
      ∙ ap (λ r. cond (eqb (length (trimmed c)) 0) (Ok Heard.Blank) r) (picked_is (select_of (trimmed c)))

-- what is understood is clean
filled_clean : (n : Mnemonic) (f : Form) (place : ℕ) (k : Kind) (t : List ℕ) (r : Result Argument Cause) (o : Order)
    → argument_of k t ≡ r → filled n f place r ≡ Ok o → clean t ≡ true
filled_clean n f place k t (Err why) o h e = refused e
filled_clean n f place k t (Ok a) o h e = argument_clean k t a h

placed_clean : (n : ℕ) (s : List ℕ) (q : Option (Mnemonic × Kind)) (o : Order) → let b = past (drop 3 s) in sense_of (take 3 s) (form_at b) ≡ q → placed n s b q ≡ Ok o → clean s ≡ true
placed_clean n s None o h e = refused e
placed_clean n s (Some p) o h e =
    let b = past (drop 3 s) in
    let t = closed (rest_at b) in
    clean_parts s
    ∙ and_from (clean (take 3 s)) (clean t) (sense_clean (take 3 s) (form_at b) p h)
    (filled_clean p.0 (form_at b) (n - length (rest_at b)) p.1 t (argument_of p.1 t) o refl e)

order_clean : (n : ℕ) (s : List ℕ) (r : Result Order Fault) (h : Heard) → order_at n s ≡ r → commanded r ≡ Ok h → clean s ≡ true
unfolding order_at
order_clean n s (Err f) h k e = refused e
order_clean n s (Ok o) h k e = placed_clean n s (sense_of (take 3 s) (form_at (past (drop 3 s)))) o refl k

picked_clean : (n : ℕ) (s : List ℕ) (o : Option ℕ) (h : Heard) → select_of (closed s) ≡ o → picked n s o ≡ Ok h → clean s ≡ true
picked_clean n s (Some pair) h k e = sym (clean_closed s) ∙ select_clean (closed s) pair k
picked_clean n s None h k e = order_clean n s (order_at n s) h refl e

understood_clean : (c : List ℕ) (h : Heard) → understood c ≡ Ok h → clean c ≡ true
unfolding understood
understood_clean c h e =
    let s = past c in
    sym (clean_past c)
    ∙ either (eqb (length (closed s)) 0) _ _ _ e (λ y k. sym (clean_closed s) ∙ ap clean (nil_from_length (closed s) (eqb-true (length (closed s)) 0 y)))
    (λ z k. picked_clean (length c) s (select_of (closed s)) h refl k)

kept : (r : Result Heard Fault) → answered None r ≡ r
kept (Ok h) = refl
kept (Err f) = refl

answered_is : (c : List ℕ) (o : Option ℕ) (r : Result Heard Fault) → understood c ≡ r → is_some o ≡ not (clean c) → answered o r ≡ allowed c o
answered_is c None r h e = kept r ∙ sym h ∙ clean_is c (cleared (clean c) e)
  where
    cleared : (x : Bool) → false ≡ not x → x ≡ true
    cleared true e = refl
    cleared false e = e
answered_is c (Some place) (Err f) h e = refl
answered_is c (Some place) (Ok x) h e = absurd (both_ways true (e ∙ ap not (understood_clean c x h)) refl)

pub reading_is : (c : List ℕ) → reading c ≡ cond (ltb 64 (length c)) (Err (refusal LongCommand 64)) (answered (first_of 17 19 c) (understood c))
unfolding reading
reading_is c = ap (λ r. cond (ltb 64 (length c)) (Err (refusal LongCommand 64)) r) (sym (answered_is c (first_of 17 19 c) (understood c) refl (flow_of c)))
