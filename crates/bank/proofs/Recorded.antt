-- The next record of a port, and the loop that finds and counts the records of all.
use Rattle.std.proofs.Common.{◌≡◌, ℕ, suc, true, false, not, ltb, None, ◌+◌, ◌<◌, ◌≤◌, Bool, cond, List, [], ◌∷◌, length, get_or, drop, replicate, pos, ◌==◌, Some, Option, sym, refl, ap, ◌∙◌, subst, ⊎_elim, ◌-◌, length-drop, arith}
use Rattle.std.proofs.lemmas.Bool.{eq-eqb, cases_lt, lt-ltb, ltb-true}
use Rattle.std.proofs.lemmas.Option.{cond_some, none-some}
use Rattle.std.specs.List.{position, position_or_len, slice_range}
use Rattle.std.proofs.lemmas.List.{drop_more, drop-drop, take_all}
use Rattle.bank.specs.declared.record.Record.{Record}
use Rattle.bank.specs.declared.record.Cursor.{Cursor}
use Rattle.bank.specs.Records.{due, origin}
use Rattle.bank.specs.RecordLaws.{due_length}
use Rattle.bank.proofs.Lists.{get_d_same}

-- what is read past the end
abbrev pub blank : Record
blank = record { port = 0; digits = pos 0 }

-- ---- one place on
module _ (p : ℕ) (rs : List Record) (i : ℕ) (d : Record) (h : i < length rs) where
  pub due_yes : (get_or rs i d).port ≡ p → due p (drop i rs) ≡ (get_or rs i d).digits ∷ due p (drop (i + 1) rs)
  due_yes e =
      let b = eq-eqb (get_or rs i d).port p e in
      ap (due p) (drop_more rs i d h) ∙ ap (λ (t : Bool). cond t ((get_or rs i d).digits ∷ due p (drop (i + 1) rs)) (due p (drop (i + 1) rs))) b

-- ---- the first record of a port
abbrev pub of_port : ℕ → Record → Bool
of_port p r = r.port == p

here_or_on : (b : Bool) (p : ℕ) (x : Record) (xs : List Record) (n : ℕ) (d : Record) → (n < length xs → due p xs ≡ (get_or xs n d).digits ∷ due p (drop (suc n) xs)) → cond (not b) (1 + n) 0 < suc (length xs) → cond b (x.digits ∷ due p xs) (due p xs) ≡ (get_or (x ∷ xs) (cond (not b) (1 + n) 0) d).digits ∷ due p (drop (suc (cond (not b) (1 + n) 0)) (x ∷ xs))
here_or_on true p x xs n d on h = refl
here_or_on false p x xs n d on h =
    let e : suc n ≡ 1 + n = omega arith in
    subst (λ (m : ℕ). due p xs ≡ (get_or (x ∷ xs) m d).digits ∷ due p (drop (suc m) (x ∷ xs))) e (on (omega arith))

due_first : (p : ℕ) (rs : List Record) (d : Record) → position_or_len (of_port p) rs < length rs → due p rs ≡ (get_or rs (position_or_len (of_port p) rs) d).digits ∷ due p (drop (suc (position_or_len (of_port p) rs)) rs)
due_first p [] d h = absurd (omega arith)
due_first p (x ∷ xs) d h = here_or_on (of_port p x) p x xs (position_or_len (of_port p) xs) d (due_first p xs d) h

none_on : (b : Bool) (p : ℕ) (x : Record) (xs : List Record) (n : ℕ) → (length xs ≤ n → due p xs ≡ []) → suc (length xs) ≤ cond (not b) (1 + n) 0 → cond b (x.digits ∷ due p xs) (due p xs) ≡ []
none_on true p x xs n on h = absurd (omega arith)
none_on false p x xs n on h = on (omega arith)

due_none : (p : ℕ) (rs : List Record) → length rs ≤ position_or_len (of_port p) rs → due p rs ≡ []
due_none p [] h = refl
due_none p (x ∷ xs) h = none_on (of_port p x) p x xs (position_or_len (of_port p) xs) (due_none p xs) h

module _ (p n : ℕ) (rs ahead : List Record) (r : Option ℕ) (cut : ahead ≡ slice_range rs n (length rs)) (e : r ≡ position (of_port p) ahead) where
  ahead_is : ahead ≡ drop n rs
  ahead_is = cut ∙ take_all (length rs - n) (drop n rs) (omega (arith, length-drop n rs))

  pub next_some : (i : ℕ) → r ≡ Some i → due p (drop n rs) ≡ (get_or ahead i blank).digits ∷ due p (drop (n + i + 1) rs)
  next_some i f =
      let at = position_or_len (of_port p) ahead in
      let s = cond_some (ltb at (length ahead)) at i (sym e ∙ f) in
      let here : due p ahead ≡ (get_or ahead i blank).digits ∷ due p (drop (suc i) ahead) =
      subst (λ (k : ℕ). due p ahead ≡ (get_or ahead k blank).digits ∷ due p (drop (suc k) ahead)) s.1 (due_first p ahead blank (ltb-true at (length ahead) s.0)) in
      let after : drop (suc i) ahead ≡ drop (n + i + 1) rs = ap (drop (suc i)) ahead_is ∙ drop-drop (suc i) n rs ∙ ap (λ (k : ℕ). drop k rs) (omega arith) in
      ap (due p) (sym ahead_is) ∙ here ∙ ap (λ (t : List Record). (get_or ahead i blank).digits ∷ due p t) after

  pub next_none : r ≡ None → due p (drop n rs) ≡ []
  next_none f =
      let at = position_or_len (of_port p) ahead in
      ap (due p) (sym ahead_is)
      ∙ ⊎_elim
      (λ (h : at < length ahead). let a = lt-ltb at (length ahead) h in let z : Some at ≡ None = sym (ap (λ (b : Bool). cond b (Some at) None) a) ∙ sym e ∙ f in absurd (none-some at (sym z)))
      (λ (h : length ahead ≤ at). due_none p ahead h)
      (cases_lt at (length ahead))

-- ---- the loop that finds the first record of each port and counts them, at place i
pub record Scanned (rs : List Record) (c : Cursor) (i k : ℕ) : Type 0 where
  pub count : c.left + length (due k (drop i rs)) ≡ length (due k rs)
  pub start : due k (drop c.next rs) ≡ due k rs
  pub fresh : c.left ≡ 0 → due k (drop i rs) ≡ due k rs

abbrev pub Counted : List Record → List Cursor → ℕ → Type 0
Counted rs cs i = (k : ℕ) → k < 32 → Scanned rs (get_or cs k origin) i k

pub counted_none : (rs : List Record) → Counted rs (replicate 32 origin) 0
counted_none rs k h =
    subst (λ (c : Cursor). Scanned rs c 0 k) (sym (get_d_same {A = Cursor} 32 k origin)) (record { count = omega arith; start = refl; fresh = λ _. refl })

module _ (rs : List Record) (cs : List Cursor) (i : ℕ) (d : Record) (h : i < length rs) (so : Counted rs cs i) where
  pub counted_fit : length rs ≤ 65535 → (get_or rs i d).port < 32 → (get_or cs (get_or rs i d).port origin).left < 65535
  counted_fit s l =
      let p = (get_or rs i d).port in
      omega (arith, (so p l).count, ap length (due_yes p rs i d h refl), due_length p rs)
