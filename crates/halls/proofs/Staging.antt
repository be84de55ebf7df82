-- One stand of a script after another.
use Rattle.std.proofs.Common.{◌≡◌, ℕ, List, [], ◌∷◌, ◌++◌, ap, ◌∙◌}
use Rattle.std.proofs.lemmas.List.{append_assoc}
use Rattle.bank.specs.Ports.{Port}
use Rattle.halls.specs.declared.stages.Stage.{Stage}
use Rattle.halls.specs.declared.stages.Stage.TheVariants.{Fitting, FirstBox, SecondBox, ThirdBox, FourthBox, Asking}
use Rattle.halls.specs.Bases.{Base}
use Rattle.halls.specs.Scripts.{Met}
use Rattle.halls.specs.Said.{Reply}
use Rattle.halls.specs.Stands.{Stand, OfBase, OfTop, shown, new_box, new_terminal}
use Rattle.halls.specs.Replies.{replies_by, stand_after, upto, beyond, by_stages, replies_over}

-- the replies xs, and ys after the stage t of the stand s; the steps ms, and ns after it; and what the ports m show then
pub record Stood (xs ys : List Reply) (s : Stand) (t : Stage) (ms ns : List Met) (m : ℕ → Port) : Type 0 where
  pub told : ys ≡ xs ++ replies_by s (upto t ms)
  pub on : m ≡ shown (stand_after s (upto t ms))
  pub left : ns ≡ beyond t ms

-- by the steps of the stage as they were parted
pub stood : (xs ys : List Reply) (s : Stand) (t : Stage) (ms us ns : List Met) (m : ℕ → Port) → ys ≡ xs ++ replies_by s us → m ≡ shown (stand_after s us) → us ≡ upto t ms → ns ≡ beyond t ms → Stood xs ys s t ms ns m
stood xs ys s t ms us ns m told on up left = record {
  told = told ∙ ap (λ v. xs ++ replies_by s v) up;
  on = on ∙ ap (λ v. shown (stand_after s v)) up;
  left = left;
}

onward : {xs ys : List Reply} {s : Stand} {t : Stage} {ms ns : List Met} {m : ℕ → Port} (f : (ℕ → Port) → Stand) (ts : List (Stage × ((ℕ → Port) → Stand))) → Stood xs ys s t ms ns m → ys ++ by_stages (f m) ts ns ≡ xs ++ by_stages s ((t, f) ∷ ts) ms
onward {xs} {ys} {s} {t} {ms} {ns} {m} f ts h =
    ap (λ rs. rs ++ by_stages (f m) ts ns) h.told
    ∙ append_assoc xs (replies_by s (upto t ms)) (by_stages (f m) ts ns)
    ∙ ap (λ v. xs ++ (replies_by s (upto t ms) ++ by_stages (f v) ts ns)) h.on
    ∙ ap (λ v. xs ++ (replies_by s (upto t ms) ++ by_stages (f (shown (stand_after s (upto t ms)))) ts v)) h.left

-- all of them
pub whole : {y1 y2 y3 y4 y5 y6 : List Reply} {ms n1 n2 n3 n4 n5 n6 : List Met} {m1 m2 m3 m4 m5 m6 : ℕ → Port} (b : Base) (all : List Reply) → Stood [] y1 (OfBase b) Fitting ms n1 m1 → Stood y1 y2 (new_box m1) FirstBox n1 n2 m2 → Stood y2 y3 (new_box m2) SecondBox n2 n3 m3 → Stood y3 y4 (new_box m3) ThirdBox n3 n4 m4 → Stood y4 y5 (new_box m4) FourthBox n4 n5 m5 → Stood y5 y6 (OfTop m5) Asking n5 n6 m6 → all ≡ y6 ++ replies_by (new_terminal m6) n6 → all ≡ replies_over b ms
whole b all h1 h2 h3 h4 h5 h6 e =
    let t6 = (Asking, new_terminal) ∷ [] in
    let t5 = (FourthBox, OfTop) ∷ t6 in
    let t4 = (ThirdBox, new_box) ∷ t5 in
    let t3 = (SecondBox, new_box) ∷ t4 in
    let t2 = (FirstBox, new_box) ∷ t3 in
    e ∙ onward new_terminal [] h6 ∙ onward OfTop t6 h5 ∙ onward new_box t5 h4 ∙ onward new_box t4 h3 ∙ onward new_box t3 h2 ∙ onward new_box t2 h1
