-- Bytes that hold or resume the flow stand in no gap. Assumes nothing.
use Rattle.std.proofs.Common.{◌≡◌, ℕ, ◌+◌, ◌-◌, Bool, true, false, cond, ◌&&◌, eqb, List, [], ◌∷◌, ◌++◌, reverse, length, take, drop, sym, refl, ap, ◌∙◌, one-add, arith}
use Rattle.std.specs.List.{prefix_len, suffix_len}
use Rattle.std.proofs.lemmas.List.{take-append-drop, take_at, reverse-append, reverse-reverse, length-append, length-reverse, length-take-le}
use Rattle.std.proofs.lemmas.List.Folds.{list_all-append}
use Rattle.std.proofs.lemmas.List.Sums.{prefix_len-le-length}
use Rattle.std.proofs.lemmas.Bool.{eqb-true, and_parts, and_from}
use Rattle.std.proofs.Math.Bool.{and-true, and_comm}
use Rattle.command.specs.Blanks.{blank}
use Rattle.command.specs.Cuts.{other}
use Rattle.command.specs.Understood.{gap, clean, past, closed, rest_at}

pub clean_append : (x y : List ℕ) → clean x ≡ true → clean y ≡ true → clean (x ++ y) ≡ true
clean_append x y h k = list_all-append (other 17 19) x y ∙ and_from (clean x) (clean y) h k

pub clean_cut : (n : ℕ) (t : List ℕ) → clean t ≡ (clean (take n t) && clean (drop n t))
clean_cut n t = ap clean (sym (take-append-drop n t)) ∙ list_all-append (other 17 19) (take n t) (drop n t)

clean_reverse : (t : List ℕ) → clean (reverse t) ≡ clean t
clean_reverse [] = refl
clean_reverse (b ∷ t) =
    ap clean (reverse-append (b ∷ []) t) ∙ list_all-append (other 17 19) (reverse t) (b ∷ [])
    ∙ (λ i. clean_reverse t i && and-true (other 17 19 b) i) ∙ and_comm (clean t) (other 17 19 b)

-- what is left behind gaps is as clean as the whole
pub clean_past : (t : List ℕ) → clean (past t) ≡ clean t
clean_past [] = refl
clean_past (b ∷ t) = step (gap b) (clean_past t) refl
  where
    step : (g : Bool) → clean (past t) ≡ clean t → gap b ≡ g → clean (drop (cond g (1 + prefix_len gap t) 0) (b ∷ t)) ≡ clean (b ∷ t)
    step true h e =
        let p = and_parts (blank b) (other 17 19 b) e in
        ap (λ n. clean (drop n (b ∷ t))) (one-add (prefix_len gap t)) ∙ h ∙ sym (ap (λ x. x && clean t) p.1)
    step false h e = refl

-- what is left before gaps is left behind them, the other way round
closed_is : (t : List ℕ) → closed t ≡ reverse (past (reverse t))
closed_is t =
    let r = reverse t in
    let n = prefix_len gap r in
    let x = reverse (drop n r) in
    let y = reverse (take n r) in
    let whole : t ≡ x ++ y = sym (reverse-reverse t) ∙ ap reverse (sym (take-append-drop n r)) ∙ reverse-append (take n r) (drop n r) in
    let within = prefix_len-le-length gap r in
    let long : length y ≡ n = length-reverse (take n r) ∙ length-take-le n r within in
    let sum : length t ≡ length x + length y = ap length whole ∙ length-append x y in
    let left : length t - n ≡ length x = omega arith in
    (λ i. take (left i) (whole i)) ∙ take_at x y (length x) refl

pub clean_closed : (t : List ℕ) → clean (closed t) ≡ clean t
clean_closed t = ap clean (closed_is t) ∙ clean_reverse (past (reverse t)) ∙ clean_past (reverse t) ∙ clean_reverse t

clean_rest : (b : List ℕ) → clean (rest_at b) ≡ clean b
clean_rest [] = refl
clean_rest (x ∷ t) = step (eqb x 63) refl
  where
    step : (q : Bool) → eqb x 63 ≡ q → clean (cond q (past t) (x ∷ t)) ≡ clean (x ∷ t)
    step true e = clean_past t ∙ sym (ap (λ y. other 17 19 y && clean t) (eqb-true x 63 e))
    step false e = refl

-- a command is as clean as its initials and its parameter together
pub clean_parts : (s : List ℕ) → clean s ≡ (clean (take 3 s) && clean (closed (rest_at (past (drop 3 s)))))
clean_parts s =
    let b = past (drop 3 s) in
    clean_cut 3 s ∙ ap (λ x. clean (take 3 s) && x) (sym (clean_past (drop 3 s)) ∙ sym (clean_rest b) ∙ sym (clean_closed (rest_at b)))

-- where all is clean, a gap is a blank
same_len : (t : List ℕ) → clean t ≡ true → prefix_len gap t ≡ prefix_len blank t
same_len [] h = refl
same_len (b ∷ t) h =
    let p = and_parts (other 17 19 b) (clean t) h in
    λ i. cond ((ap (λ x. blank b && x) p.0 ∙ and-true (blank b)) i) (1 + same_len t p.1 i) 0

pub past_is : (t : List ℕ) → clean t ≡ true → past t ≡ drop (prefix_len blank t) t
past_is t h = ap (λ n. drop n t) (same_len t h)

pub closed_chops : (t : List ℕ) → clean t ≡ true → closed t ≡ take (length t - suffix_len blank t) t
closed_chops t h = ap (λ n. take (length t - n) t) (same_len (reverse t) (clean_reverse t ∙ h))
