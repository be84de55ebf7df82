use Rattle.std.proofs.Common.{◌≡◌, ℕ, suc, ◌+◌, ◌-◌, ◌/◌, ◌%◌, ◌^◌, ◌≤◌, List, [], ◌∷◌, ◌++◌, length, take, drop, sym, ap, ◌∙◌, arith, length-take}
use borrow.Rule.Slice.PartMut.{put_mid}
use Rattle.std.proofs.Math.Nat.{pow-suc, div-div-eq-div-mul}
use Rattle.std.proofs.lemmas.List.{drop_at, drop-drop}
use Rattle.figures.specs.Figures.{digits}
use Rattle.figures.proofs.digits.Goals as goal

-- one figure less is left
less : (n k rest : ℕ) → rest ≡ n / 10 ^ k → rest / 10 ≡ n / 10 ^ suc k
less n k rest e = ap (λ m. m / 10) e ∙ div-div-eq-div-mul n (10 ^ k) 10 ∙ ap (λ m. n / m) (sym (pow-suc 10 k))

-- two figures less
two_less : (n k rest : ℕ) → rest ≡ n / 10 ^ k → rest / 100 ≡ n / 10 ^ suc (suc k)
two_less n k rest e = let h : rest / 100 ≡ rest / 10 / 10 = omega arith in h ∙ less n (suc k) (rest / 10) (less n k rest e)

-- and they are the next two
two_done : (n k i rest : ℕ) (text pair : List ℕ) → i + 2 ≤ length text → rest ≡ n / 10 ^ k → drop (i + 2) text ≡ digits k n → pair ≡ (48 + rest % 100 / 10) ∷ (48 + rest % 100 % 10) ∷ [] → drop i (put_mid i (i + 2 - i) text pair) ≡ digits (suc (suc k)) n
two_done n k i rest text pair h e d p =
    let ten : rest % 100 / 10 ≡ rest / 10 % 10 = omega arith in
    let one : rest % 100 % 10 ≡ rest % 10 = omega arith in
    let two : i + 2 - i ≡ 2 = omega arith in
    let tens = ten ∙ ap (λ m. m % 10) (less n k rest e) in
    let ones = one ∙ ap (λ m. m % 10) e in
    drop_at (take i text) (pair ++ drop (i + 2 - i) (drop i text)) i (omega (arith, length-take i text))
    ∙ (λ j. p j ++ drop (two j) (drop i text))
    ∙ (λ j. (48 + tens j) ∷ (48 + ones j) ∷ drop-drop 2 i text j)
    ∙ ap (λ l. (48 + n / 10 ^ suc k % 10) ∷ (48 + n / 10 ^ k % 10) ∷ l) d

pub loop-left-preserved : goal.loop-left-preserved
loop-left-preserved g c =
    let n = c.args.n in
    let left = c.loop-left.left in
    let rest = c.loop-left.rest in
    let places = c.loop-left.places in
    let k = g.row.N - left in
    let i = left - 2 in
    let before = c.loop-left.invariant in
    let up : left ≡ i + 2 = omega arith in
    let on : g.row.N - i ≡ suc (suc k) = omega (arith, before.inside) in
    rw on (record {
      inside = omega (arith, before.inside);
      rest = two_less n k rest before.rest;
      done = two_done n k i rest places c.copy_from_slice.new.self (omega arith) before.rest (ap (λ m. drop m places) (sym up) ∙ before.done) (c.copy_from_slice.ensures.after ∙ c.pair.ensures);
    })
