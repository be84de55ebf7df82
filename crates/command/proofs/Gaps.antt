-- Blanks at the ends of bytes. Assumes nothing.
use Rattle.std.proofs.Common.{◌≡◌, ℕ, ◌+◌, ◌-◌, ◌<◌, Bool, true, false, cond, not, ◌&&◌, ltb, List, [], ◌∷◌, ◌++◌, reverse, length, take, drop, is_some, Some, None, sym, refl, ap, ◌∙◌, one-add, arith}
use Rattle.std.specs.List.{prefix_len, suffix_len}
use Rattle.std.proofs.lemmas.List.{append-nil, append_assoc, reverse-append, length-append, length-reverse, take-append-le, take_all}
use Rattle.std.proofs.lemmas.List.Sums.{prefix_len-le-length}
use Rattle.std.proofs.lemmas.Bool.{cond-true, cond-false}
use Rattle.std.proofs.lemmas.Bool.Decides.{nat_tests}
use Rattle.command.specs.Blanks.{blank, skipped, chopped}
use Rattle.command.specs.Cuts.{other, first_of}
use Rattle.command.specs.Spellings.{Gap}
use Rattle.command.specs.Understood.{clean}
use Rattle.command.proofs.Fronts.{all_front}

-- leading blanks are skipped
pub skip_gap : (g t : List ℕ) → Gap g → skipped (g ++ t) ≡ skipped t
skip_gap [] t h = refl
skip_gap (b ∷ g) t h =
    ap (λ n. drop n (b ∷ (g ++ t))) (cond-true (blank b) (1 + prefix_len blank (g ++ t)) 0 h.0.0 ∙ one-add (prefix_len blank (g ++ t)))
    ∙ skip_gap g t h.1

pub skip_none : (b : ℕ) (t : List ℕ) → blank b ≡ false → skipped (b ∷ t) ≡ b ∷ t
skip_none b t h = ap (λ n. drop n (b ∷ t)) (cond-false (blank b) (1 + prefix_len blank t) 0 h)

pub skip_all : (g : List ℕ) → Gap g → skipped g ≡ []
skip_all g h = ap skipped (sym (append-nil g)) ∙ skip_gap g [] h

-- blanks at the end are left out
ending_push : (x : List ℕ) (b : ℕ) → suffix_len blank (x ++ b ∷ []) ≡ cond (blank b) (1 + suffix_len blank x) 0
ending_push x b = ap (prefix_len blank) (reverse-append x (b ∷ []))

pub chop_closed : (x : List ℕ) → suffix_len blank x ≡ 0 → chopped x ≡ x
chop_closed x h = take_all (length x - suffix_len blank x) x (omega arith)

chop_one : (x : List ℕ) (b : ℕ) → blank b ≡ true → chopped (x ++ b ∷ []) ≡ chopped x
chop_one x b h =
    let e = ending_push x b ∙ cond-true (blank b) (1 + suffix_len blank x) 0 h in
    let l = length-append x (b ∷ []) in
    let n : length (x ++ b ∷ []) - suffix_len blank (x ++ b ∷ []) ≡ length x - suffix_len blank x = omega arith in
    ap (λ k. take k (x ++ b ∷ [])) n ∙ take-append-le (length x - suffix_len blank x) x (b ∷ []) (omega arith)

pub chop_gap : (x g : List ℕ) → Gap g → chopped (x ++ g) ≡ chopped x
chop_gap x [] h = ap chopped (append-nil x)
chop_gap x (b ∷ g) h = ap chopped (sym (append_assoc x (b ∷ []) g)) ∙ chop_gap (x ++ b ∷ []) g h.1 ∙ chop_one x b h.0.0

pub closed_push : (x : List ℕ) (b : ℕ) → blank b ≡ false → suffix_len blank (x ++ b ∷ []) ≡ 0
closed_push x b h = ending_push x b ∙ cond-false (blank b) (1 + suffix_len blank x) 0 h

front_none : (xs ys : List ℕ) → 0 < length xs → prefix_len blank xs ≡ 0 → prefix_len blank (xs ++ ys) ≡ 0
front_none [] ys h e = absurd (omega arith)
front_none (b ∷ xs) ys h e = none (blank b) (prefix_len blank xs) (prefix_len blank (xs ++ ys)) e
  where
    none : (t : Bool) (m n : ℕ) → cond t (1 + m) 0 ≡ 0 → cond t (1 + n) 0 ≡ 0
    none true m n e = absurd (omega arith)
    none false m n e = refl

pub closed_append : (x y : List ℕ) → 0 < length y → suffix_len blank y ≡ 0 → suffix_len blank (x ++ y) ≡ 0
closed_append x y h e = ap (prefix_len blank) (reverse-append x y) ∙ front_none (reverse y) (reverse x) (omega (arith, length-reverse y)) e

-- a gap changes nothing of whether a byte that holds or resumes the flow stands there
pub clean_gap : (g t : List ℕ) → Gap g → clean (g ++ t) ≡ clean t
clean_gap [] t h = refl
clean_gap (b ∷ g) t h = ap (λ x. x && clean (g ++ t)) h.0.1 ∙ clean_gap g t h.1

short_of : (t : List ℕ) → ltb (prefix_len (other 17 19) t) (length t) ≡ not (clean t)
short_of t =
    let whole = all_front (other 17 19) t in
    let within = prefix_len-le-length (other 17 19) t in
    grind (arith, nat_tests)

some_if : (b : Bool) (n : ℕ) → is_some (cond b (Some n) None) ≡ b
some_if true n = refl
some_if false n = refl

pub flow_of : (t : List ℕ) → is_some (first_of 17 19 t) ≡ not (clean t)
unfolding first_of
flow_of t = some_if (ltb (prefix_len (other 17 19) t) (length t)) (prefix_len (other 17 19) t) ∙ short_of t
