-- One line of a script after another.
use Rattle.std.proofs.Common.{◌≡◌, ℕ, ◌+◌, ◌<◌, ◌≤◌, List, ◌∷◌, length, get_or, drop, ◌==◌, sym, ap, ◌∙◌, arith}
use Rattle.std.specs.List.{slice_split}
use Rattle.std.proofs.lemmas.List.{at_drop_more}
use Rattle.std.proofs.lemmas.List.FromFn.{length-enumerate_from, get_or-enumerate_from}
use Rattle.std.proofs.lemmas.List.Splits.{length-slice_split}
use Rattle.std.proofs.lemmas.List.Sums.{count_by-le-length}
use Rattle.halls.specs.Scripts.{Course, line_added, lines_added, lines_of}

-- one turn
pub goes : (s u : Course) (all : List (ℕ × List ℕ)) (n m a : ℕ) (l : List ℕ) → n < length all → (a, l) ≡ get_or all n (a, l) → m ≡ a + 1 → u ≡ line_added s m l → lines_added u (drop (n + 1) all) ≡ lines_added s (drop n all)
goes s u all n m a l h e k w =
    ap (λ v. lines_added v (drop (n + 1) all)) (w ∙ ap (λ j. line_added s j l) k) ∙ ap (λ p. lines_added s (p ∷ drop (n + 1) all)) e
    ∙ sym (at_drop_more (lines_added s) all n (a, l) h)

-- no text has more lines than bytes and one
pub few : (t : List ℕ) (n a : ℕ) (l : List ℕ) → n < length (lines_of t) → (a, l) ≡ get_or (lines_of t) n (a, l) → a ≤ length t
few t n a l h e =
    let parts = slice_split (λ b. b == 10) t in
    let k : length (lines_of t) ≡ length parts = length-enumerate_from 0 parts in
    let p : a ≡ 0 + n = ap (λ x. x.0) (e ∙ get_or-enumerate_from 0 parts n (a, l) (omega (arith, k, h))) in
    omega (arith, length-slice_split (λ b. b == 10) t, count_by-le-length (λ b. b == 10) t, k, h, p)
