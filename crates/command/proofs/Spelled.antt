-- What is read of a command depends on its parts alone, and on its initials but for their case. Assumes nothing.
use Rattle.std.proofs.Common.{◌≡◌, ℕ, ◌+◌, ◌<◌, Bool, true, false, cond, not, ◌&&◌, eqb, List, [], ◌∷◌, ◌++◌, length, take, drop, is_some, Some, None, Ok, Err, Option, Result, sym, refl, ap, ◌∙◌, arith}
use Rattle.std.specs.List.{prefix_len, suffix_len}
use Rattle.std.proofs.lemmas.List.{append_assoc, append-nil, length-append}
use Rattle.std.proofs.lemmas.List.Folds.{list_all-append}
use Rattle.std.proofs.Math.Bool.{and-true}
use Rattle.std.proofs.lemmas.Bool.{cond-false, ne_eqb, le-ltb, and_left, both_ways}
use Rattle.std.proofs.ByRecursion.{All-append}
use Rattle.fault.specs.declared.causes.Cause.{Cause}
use Rattle.fault.specs.declared.causes.Cause.TheVariants.{UnknownCommand}
use Rattle.command.specs.declared.orders.Argument.{Argument}
use Rattle.command.specs.declared.orders.Form.{Form}
use Rattle.command.specs.declared.orders.Form.TheVariants.{Entry, Query}
use Rattle.command.specs.declared.orders.Heard.{Heard}
use Rattle.command.specs.declared.orders.Heard.TheVariants.{Select, Command}
use Rattle.command.specs.declared.orders.Mnemonic.{Mnemonic}
use Rattle.command.specs.declared.table.Kind.{Kind}
use Rattle.command.specs.Arguments.{argument_of}
use Rattle.command.specs.Blanks.{blank, skipped, chopped, trimmed}
use Rattle.command.specs.Cuts.{other, first_of}
use Rattle.command.specs.Readings.{initials_of, behind_of, asks, form_of, parameter_of, place_of, sense_of, filled, ordered, order_of, selects, select_of, commanded, selected, allowed, reading}
use Rattle.command.specs.Understood.{clean}
use Rattle.command.specs.Spellings.{Spelling, mark, spelled, Gap, Unasked, Sound, unplaced}
use Rattle.command.proofs.Gaps.{skip_gap, skip_none, skip_all, chop_closed, chop_gap, closed_push, closed_append, clean_gap, flow_of}

-- a byte at the front is no blank
head_none : (b : ℕ) (t : List ℕ) → prefix_len blank (b ∷ t) ≡ 0 → blank b ≡ false
head_none b t h = step (blank b) (prefix_len blank t) h
  where
    step : (x : Bool) (n : ℕ) → cond x (1 + n) 0 ≡ 0 → x ≡ false
    step true n e = absurd (omega arith)
    step false n e = refl

-- a parameter with blanks behind it, from its first byte
abbrev tailed : List ℕ → List ℕ → List ℕ
tailed [] g = []
tailed (b ∷ p) g = b ∷ (p ++ g)

skip_tail : (p g : List ℕ) → prefix_len blank p ≡ 0 → Gap g → skipped (p ++ g) ≡ tailed p g
skip_tail [] g h k = skip_all g k
skip_tail (b ∷ p) g h k = skip_none b (p ++ g) (head_none b p h)

chop_tail : (p g : List ℕ) → suffix_len blank p ≡ 0 → Gap g → chopped (tailed p g) ≡ p
chop_tail [] g h k = refl
chop_tail (b ∷ p) g h k = chop_gap (b ∷ p) g k ∙ chop_closed (b ∷ p) h

asks_tail : (p g : List ℕ) → asks (tailed p g) ≡ asks p
asks_tail [] g = refl
asks_tail (b ∷ p) g = refl

gap_append : (g h : List ℕ) → Gap g → Gap h → Gap (g ++ h)
gap_append g h k l = All-append (λ b. (blank b ≡ true) × (other 17 19 b ≡ true)) g h k l

-- what stands behind the initials up to the last byte that is no blank
abbrev body : Form → List ℕ → List ℕ → List ℕ → List ℕ
body Entry [] h j = []
body Query [] h j = h ++ 63 ∷ []
body f (q ∷ p) h j = h ++ (mark f ++ (j ++ (q ∷ p)))

module _ (a b c : ℕ) (h j k : List ℕ) (last : blank c ≡ false) (gh : Gap h) (gj : Gap j) (gk : Gap k) where
  chop_long : (f : Form) (p : List ℕ) → 0 < length p → suffix_len blank p ≡ 0
      → chopped (a ∷ b ∷ c ∷ (h ++ (mark f ++ (j ++ (p ++ k))))) ≡ a ∷ b ∷ c ∷ (h ++ (mark f ++ (j ++ p)))
  chop_long f p l e =
      let m = mark f in
      let u = a ∷ b ∷ c ∷ h in
      let joined : u ++ (m ++ (j ++ (p ++ k))) ≡ (u ++ (m ++ (j ++ p))) ++ k = simp append_assoc in
      let parted : u ++ (m ++ (j ++ p)) ≡ (u ++ (m ++ j)) ++ p = simp append_assoc in
      ap chopped joined ∙ chop_gap (u ++ (m ++ (j ++ p))) k gk
      ∙ chop_closed (u ++ (m ++ (j ++ p))) (ap (suffix_len blank) parted ∙ closed_append (u ++ (m ++ j)) p l e)

  chop_body : (f : Form) (p : List ℕ) → suffix_len blank p ≡ 0 → chopped (a ∷ b ∷ c ∷ (h ++ (mark f ++ (j ++ (p ++ k))))) ≡ a ∷ b ∷ c ∷ body f p h j
  chop_body Entry [] e =
      chop_gap (a ∷ b ∷ c ∷ []) (h ++ (j ++ k)) (gap_append h (j ++ k) gh (gap_append j k gj gk)) ∙ chop_closed (a ∷ b ∷ c ∷ []) (closed_push (a ∷ b ∷ []) c last)
  chop_body Query [] e =
      ap chopped (sym (append_assoc (a ∷ b ∷ c ∷ h) (63 ∷ []) (j ++ k))) ∙ chop_gap (a ∷ b ∷ c ∷ (h ++ 63 ∷ [])) (j ++ k) (gap_append j k gj gk)
      ∙ chop_closed (a ∷ b ∷ c ∷ (h ++ 63 ∷ [])) (closed_push (a ∷ b ∷ c ∷ h) 63 refl)
  chop_body Entry (q ∷ p) e = chop_long Entry (q ∷ p) (omega arith) e
  chop_body Query (q ∷ p) e = chop_long Query (q ∷ p) (omega arith) e

-- nothing but initials: the bytes may be a select
abbrev pub bare : Form → List ℕ → Bool
bare Entry [] = true
bare Entry (q ∷ p) = false
bare Query p = false

abbrev pub picked : Form → List ℕ → List ℕ → Option ℕ
picked f p i = cond (bare f p) (select_of i) None

select_long : (a b c : ℕ) (x : List ℕ) → 0 < length x → select_of (a ∷ b ∷ c ∷ x) ≡ None
select_long a b c x l = cond-false (selects (a ∷ b ∷ c ∷ x)) _ _ (and_left _ _ (ne_eqb (length (a ∷ b ∷ c ∷ x)) 3 (λ e. omega arith)))

select_body : (a b c : ℕ) (f : Form) (p h j : List ℕ) → select_of (a ∷ b ∷ c ∷ body f p h j) ≡ picked f p (a ∷ b ∷ c ∷ [])
select_body a b c Entry [] h j = refl
select_body a b c Query [] h j = select_long a b c (h ++ 63 ∷ []) (omega (arith, length-append h (63 ∷ [])))
select_body a b c Entry (q ∷ p) h j = select_long a b c (h ++ (j ++ (q ∷ p))) (omega (arith, length-append h (j ++ (q ∷ p)), length-append j (q ∷ p)))
select_body a b c Query (q ∷ p) h j = select_long a b c (h ++ (63 ∷ (j ++ (q ∷ p)))) (omega (arith, length-append h (63 ∷ (j ++ (q ∷ p)))))

-- an order without its place
abbrev pub filling : Mnemonic → Form → Result Argument Cause → Result Heard Cause
filling n f (Err why) = Err why
filling n f (Ok x) = Ok (Command (record { name = n; form = f; argument = x; place = 0 }))

abbrev pub orderly : Option (Mnemonic × Kind) → Form → List ℕ → Result Heard Cause
orderly None f p = Err UnknownCommand
orderly (Some q) f p = filling q.0 f (argument_of q.1 p)

filled_is : (n : Mnemonic) (f : Form) (place : ℕ) (r : Result Argument Cause) → unplaced (commanded (filled n f place r)) ≡ filling n f r
filled_is n f place (Err why) = refl
filled_is n f place (Ok x) = refl

ordered_is : (t : List ℕ) (o : Option (Mnemonic × Kind)) → unplaced (commanded (ordered t o)) ≡ orderly o (form_of t) (parameter_of t)
ordered_is t None = refl
ordered_is t (Some q) = filled_is q.0 (form_of t) (place_of t) (argument_of q.1 (parameter_of t))

abbrev pub chosen : Option ℕ → Result Heard Cause → Result Heard Cause
chosen (Some pair) r = Ok (Select pair)
chosen None r = r

selected_is : (t : List ℕ) (o : Option ℕ) → unplaced (selected t o) ≡ chosen o (unplaced (commanded (order_of t)))
selected_is t (Some pair) = refl
selected_is t None = refl

allowed_is : (t : List ℕ) (o : Option ℕ) (x : Bool) → is_some o ≡ not x → eqb (length (trimmed t)) 0 ≡ false
    → unplaced (allowed t o) ≡ cond x (unplaced (selected t (select_of (trimmed t)))) (Err UnknownCommand)
allowed_is t (Some place) true e n = absurd (both_ways false refl (sym e))
allowed_is t (Some place) false e n = refl
allowed_is t None true e n = ap unplaced (cond-false _ _ _ n)
allowed_is t None false e n = absurd (both_ways false refl e)

-- what the parts of a command say
abbrev pub summary : ℕ → ℕ → ℕ → Form → List ℕ → Result Heard Cause
summary a b c f p =
    cond (clean (a ∷ b ∷ c ∷ []) && clean p) (chosen (picked f p (a ∷ b ∷ c ∷ [])) (orderly (sense_of (a ∷ b ∷ c ∷ []) f) f p)) (Err UnknownCommand)

module _ (s : Spelling) (sound : Sound s) where
  starts : skipped (spelled s) ≡ s.first ∷ s.second ∷ s.third ∷ (s.behind ++ (mark s.form ++ (s.inner ++ (s.parameter ++ s.after))))
  starts = skip_gap s.before _ sound.gaps.0 ∙ skip_none s.first _ sound.no_blank.0

  ends : skipped (s.inner ++ (s.parameter ++ s.after)) ≡ tailed s.parameter s.after
  ends = skip_gap s.inner _ sound.gaps.2 ∙ skip_tail s.parameter s.after sound.begins sound.gaps.3

  abbrev behind : Form → List ℕ
  behind Query = 63 ∷ (s.inner ++ (s.parameter ++ s.after))
  behind Entry = tailed s.parameter s.after

  marked : (f : Form) → skipped (mark f ++ (s.inner ++ (s.parameter ++ s.after))) ≡ behind f
  marked Query = skip_none 63 (s.inner ++ (s.parameter ++ s.after)) refl
  marked Entry = ends

  behind_is : behind_of (spelled s) ≡ behind s.form
  behind_is = ap (λ t. skipped (drop 3 t)) starts ∙ skip_gap s.behind _ sound.gaps.1 ∙ marked s.form

  form_at : (f : Form) → Unasked f s.parameter → cond (asks (behind f)) Query Entry ≡ f
  form_at Query u = refl
  form_at Entry u = cond-false _ _ _ (asks_tail s.parameter s.after ∙ u)

  form_is : form_of (spelled s) ≡ s.form
  form_is = ap (λ t. cond (asks t) Query Entry) behind_is ∙ form_at s.form sound.unasked

  rest_at : (f : Form) → Unasked f s.parameter → cond (asks (behind f)) (skipped (drop 1 (behind f))) (behind f) ≡ tailed s.parameter s.after
  rest_at Query u = ends
  rest_at Entry u = cond-false _ _ _ (asks_tail s.parameter s.after ∙ u)

  parameter_is : parameter_of (spelled s) ≡ s.parameter
  parameter_is =
      ap chopped (ap (λ t. cond (asks t) (skipped (drop 1 t)) t) behind_is ∙ rest_at s.form sound.unasked)
      ∙ chop_tail s.parameter s.after sound.ends sound.gaps.3

  initials_is : initials_of (spelled s) ≡ s.first ∷ s.second ∷ s.third ∷ []
  initials_is = ap (take 3) starts

  trim_is : trimmed (spelled s) ≡ s.first ∷ s.second ∷ s.third ∷ body s.form s.parameter s.behind s.inner
  trim_is =
      ap chopped starts
      ∙ chop_body s.first s.second s.third s.behind s.inner s.after sound.no_blank.2 sound.gaps.1 sound.gaps.2 sound.gaps.3 s.form s.parameter sound.ends

  clean_mark : (f : Form) (t : List ℕ) → clean (mark f ++ t) ≡ clean t
  clean_mark Query t = refl
  clean_mark Entry t = refl

  clean_is : clean (spelled s) ≡ (clean (s.first ∷ s.second ∷ s.third ∷ []) && clean s.parameter)
  clean_is =
      let i = s.first ∷ s.second ∷ s.third ∷ [] in
      let after = ap clean (sym (append-nil s.after)) ∙ clean_gap s.after [] sound.gaps.3 in
      let end = list_all-append (other 17 19) s.parameter s.after ∙ ap (λ x. clean s.parameter && x) after ∙ and-true (clean s.parameter) in
      let last = s.parameter ++ s.after in
      let tail = mark s.form ++ (s.inner ++ last) in
      clean_gap s.before (i ++ (s.behind ++ tail)) sound.gaps.0 ∙ list_all-append (other 17 19) i (s.behind ++ tail)
      ∙ ap (λ x. clean i && x) (clean_gap s.behind tail sound.gaps.1 ∙ clean_mark s.form (s.inner ++ last) ∙ clean_gap s.inner last sound.gaps.2 ∙ end)

  order_is : unplaced (commanded (order_of (spelled s))) ≡ orderly (sense_of (s.first ∷ s.second ∷ s.third ∷ []) s.form) s.form s.parameter
  unfolding order_of
  order_is =
      ordered_is (spelled s) (sense_of (initials_of (spelled s)) (form_of (spelled s)))
      ∙ (λ i. orderly (sense_of (initials_is i) (form_is i)) (form_is i) (parameter_is i))

  pub spelled_is : unplaced (reading (spelled s)) ≡ summary s.first s.second s.third s.form s.parameter
  unfolding reading
  spelled_is =
      let t = spelled s in
      let i = s.first ∷ s.second ∷ s.third ∷ [] in
      let some = ap (λ u. eqb (length u) 0) trim_is ∙ ne_eqb (length (s.first ∷ s.second ∷ s.third ∷ body s.form s.parameter s.behind s.inner)) 0 (λ e. omega arith) in
      let select = ap select_of trim_is ∙ select_body s.first s.second s.third s.form s.parameter s.behind s.inner in
      ap unplaced (cond-false _ _ _ (le-ltb 64 (length t) sound.short)) ∙ allowed_is t (first_of 17 19 t) (clean t) (flow_of t) some
      ∙ ap (λ r. cond (clean t) r (Err UnknownCommand)) (selected_is t (select_of (trimmed t)) ∙ (λ k. chosen (select k) (order_is k)))
      ∙ ap (λ x. cond x (chosen (picked s.form s.parameter i) (orderly (sense_of i s.form) s.form s.parameter)) (Err UnknownCommand)) clean_is
