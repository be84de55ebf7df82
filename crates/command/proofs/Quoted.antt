-- A text is read exactly where it stands in double quotes. Assumes nothing.
use Rattle.std.proofs.Common.{◌≡◌, ℕ, suc, ◌+◌, ◌-◌, ◌<◌, true, false, ◌&&◌, eqb, leb, List, [], ◌∷◌, ◌++◌, length, get_or, take, drop, Some, sym, refl, ap, ◌∙◌, subst, arith}
use Rattle.std.specs.Char.{is_ascii_alphanumeric}
use Rattle.std.specs.List.{prefix_len, AllByRecursion}
use Rattle.std.proofs.lemmas.List.{take-append-drop, take_all, take_at, drop_more, drop_all, get_or_push, length-append}
use Rattle.std.proofs.lemmas.Bool.{cond-true, eq-eqb, eqb-true, le-leb, leb-true, and_parts, and_from, both_ways}
use Rattle.command.specs.declared.texts.Text.{Text}
use Rattle.command.specs.Texts.{alnum, word_of, quoted, text_of, Quotes, ExactText}
use Rattle.command.proofs.Fronts.{front_passes, front_all}
use Rattle.std.proofs.lemmas.Option.{same_Some}
use Rattle.command.proofs.Options.{nothing, either_way}

alnum_back : (s : List ℕ) → alnum s ≡ true → AllByRecursion (λ b. is_ascii_alphanumeric b ≡ true) s
alnum_back s h =
    let n = eqb-true (prefix_len is_ascii_alphanumeric s) (length s) h in
    let P : List ℕ → Type 0 = λ t. AllByRecursion (λ b. is_ascii_alphanumeric b ≡ true) t in
    subst P (take_all (prefix_len is_ascii_alphanumeric s) s (omega arith)) (front_passes is_ascii_alphanumeric s)

-- bytes between a first and a last one
closed : (b : ℕ) (r : List ℕ) (x : ℕ) → 0 < length r → get_or (b ∷ r) (length (b ∷ r) - 1) 0 ≡ x → b ∷ r ≡ b ∷ (take (length (b ∷ r) - 2) r ++ x ∷ [])
closed b r x h e =
    let k = length r - 1 in
    let two : length (b ∷ r) - 2 ≡ k = omega arith in
    let one : length (b ∷ r) - 1 ≡ suc k = omega arith in
    let last = ap (λ n. get_or (b ∷ r) n 0) (sym one) ∙ e in
    let end = drop_more r k 0 (omega arith) ∙ (λ i. last i ∷ drop_all (k + 1) r (omega arith) i) in
    ap (λ t. b ∷ t) (sym (take-append-drop k r) ∙ ap (λ t. take k r ++ t) end) ∙ ap (λ n. b ∷ (take n r ++ x ∷ [])) (sym two)

word_back : (t : List ℕ) (x : Text) (s : List ℕ) → t ≡ 34 ∷ (s ++ 34 ∷ []) → word_of s ≡ Some x → Quotes t x
word_back t x s same e =
    either_way (leb 1 (length s) && (leb (length s) 7 && alnum s)) _ _ x e
    (λ y k. let p = and_parts (leb 1 (length s)) (leb (length s) 7 && alnum s) y in
    let q = and_parts (leb (length s) 7) (alnum s) p.1 in
    (s, alnum_back s q.1, leb-true 1 (length s) p.0, leb-true (length s) 7 q.0, same, sym (same_Some _ _ k)))
    (λ z k. nothing k)

quotes_back : (t : List ℕ) (x : Text) → quoted t ≡ true → word_of (take (length t - 2) (drop 1 t)) ≡ Some x → Quotes t x
quotes_back [] x y e = absurd (both_ways false refl y)
quotes_back (b ∷ r) x y e =
    let p = and_parts (leb 2 (length (b ∷ r))) (eqb b 34 && eqb (get_or (b ∷ r) (length (b ∷ r) - 1) 0) 34) y in
    let q = and_parts (eqb b 34) (eqb (get_or (b ∷ r) (length (b ∷ r) - 1) 0) 34) p.1 in
    let long = leb-true 2 (length (b ∷ r)) p.0 in
    let s = take (length (b ∷ r) - 2) r in
    let same = closed b r 34 (omega arith) (eqb-true _ 34 q.1) ∙ ap (λ c. c ∷ (s ++ 34 ∷ [])) (eqb-true b 34 q.0) in
    word_back (b ∷ r) x s same e

text_back : (t : List ℕ) (x : Text) → text_of t ≡ Some x → Quotes t x
unfolding text_of
text_back t x e = either_way (quoted t) _ _ x e (λ y k. quotes_back t x y k) (λ z k. nothing k)

quotes_read : (t : List ℕ) (x : Text) → Quotes t x → text_of t ≡ Some x
unfolding text_of
quotes_read t x h =
    let s = h.0 in
    let u = 34 ∷ (s ++ 34 ∷ []) in
    let long = length-append s (34 ∷ []) in
    let one : length u - 1 ≡ suc (length s) = omega arith in
    let two : length u - 2 ≡ length s = omega arith in
    let last = ap (λ n. get_or u n 0) one ∙ get_or_push s 34 0 (length s) refl in
    let q = and_from (leb 2 (length u)) _ (le-leb 2 (length u) (omega arith)) (eq-eqb (get_or u (length u - 1) 0) 34 last) in
    let letters = ap (λ n. take n (s ++ 34 ∷ [])) two ∙ take_at s (34 ∷ []) (length s) refl in
    let all = eq-eqb (prefix_len is_ascii_alphanumeric s) (length s) (front_all is_ascii_alphanumeric s h.1) in
    let w = and_from _ _ (le-leb 1 (length s) h.2) (and_from _ _ (le-leb (length s) 7 h.3) all) in
    ap text_of h.4 ∙ cond-true _ _ _ q ∙ ap word_of letters ∙ cond-true _ _ _ w ∙ ap Some (sym h.5)

pub exact_text : (t : List ℕ) → ExactText t
exact_text t x = (text_back t x, quotes_read t x)
