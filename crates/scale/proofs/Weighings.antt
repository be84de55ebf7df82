-- The loop that weighs one value after another.
use Rattle.std.proofs.Common.{◌≡◌, ℕ, zero, suc, ◌+◌, ◌*◌, ◌<◌, ◌≤◌, List, [], ◌∷◌, ◌++◌, length, take, drop, set, Ok, Result, sym, refl, ap, ◌∙◌, subst, mul-le-mul_right, suc-mul, zero-mul, add-one, arith, take-suc-set}
use Rattle.std.proofs.lemmas.List.{drop-drop, length-drop}
use Rattle.fault.specs.declared.faults.Fault.{Fault}
use Rattle.bank.specs.declared.reading.Reading.{Reading}
use Rattle.bank.specs.Ports.{Port}
use Rattle.value.specs.declared.block.Measured.{Measured}
use Rattle.scale.specs.declared.settings.Settings.{Settings}
use Rattle.scale.specs.Blocks.{weighings, readings_for}
use Rattle.scale.specs.Choices.{readings_of}
use Rattle.scale.specs.Measuring.{put_port, dropped, measurement}
use Rattle.scale.specs.Weighing.{weighed}
use Rattle.scale.proofs.Putting.{put_same, put_here, put_again}

-- the value at place k
abbrev nth : Settings → ℕ → List Reading → Measured
nth s k xs = weighed s (measurement s.averaging (drop (readings_for s k) xs))

weighings_more : (s : Settings) (k : ℕ) (xs : List Reading) → weighings s (suc k) xs ≡ weighings s k xs ++ (nth s k xs ∷ [])
unfolding weighings
weighings_more s zero xs = ap (λ (j : ℕ). weighed s (measurement s.averaging (drop j xs)) ∷ []) (sym (zero-mul (readings_of s.averaging)))
weighings_more s (suc k) xs =
    let n = readings_of s.averaging in
    let e : drop (k * n) (drop n xs) ≡ drop (suc k * n) xs = drop-drop (k * n) n xs ∙ ap (λ (j : ℕ). drop j xs) (omega (arith, suc-mul k n)) in
    ap (λ (t : List Measured). weighed s (measurement s.averaging xs) ∷ t) (weighings_more s k (drop n xs) ∙ ap (λ (ys : List Reading). weighings s k (drop n xs) ++ (weighed s (measurement s.averaging ys) ∷ [])) e)

-- after i of the values: what is written, and the ports as they are now
pub record Weighed (s : Settings) (m f : ℕ → Port) (p i : ℕ) (vs : List Measured) : Type 0 where
  pub so_far : take i vs ≡ weighings s i (m p).waiting
  pub ports : f ≡ put_port m p (dropped (readings_for s i) (m p))

pub weighed_none : (s : Settings) (m : ℕ → Port) (p : ℕ) (vs : List Measured) → Weighed s m m p 0 vs
unfolding weighings
weighed_none s m p vs = record {
  so_far = refl;
  ports = put_same m p ∙ ap (λ (j : ℕ). put_port m p (dropped j (m p))) (sym (zero-mul (readings_of s.averaging)));
}

module _ (s : Settings) (m f : ℕ → Port) (p i : ℕ) (vs : List Measured) (more : i < length vs) (there : readings_for s (length vs) ≤ length (m p).waiting) (so : Weighed s m f p i vs) where
  n : ℕ
  n = readings_of s.averaging

  left : suc i * readings_of s.averaging ≤ length (m p).waiting
  left = let e : suc i ≤ length vs = omega arith in omega (arith, mul-le-mul_right (readings_of s.averaging) e)

  here : f p ≡ dropped (readings_for s i) (m p)
  here = ap (λ (g : ℕ → Port). g p) so.ports ∙ put_here m p (dropped (readings_for s i) (m p))

  -- readings enough wait for this value
  pub enough_here : readings_of s.averaging ≤ length (f p).waiting
  enough_here = subst (λ (a : Port). readings_of s.averaging ≤ length a.waiting) (sym here) (omega (arith, left, suc-mul i (readings_of s.averaging), length-drop (i * readings_of s.averaging) (m p).waiting))

  port_here : dropped (readings_of s.averaging) (f p) ≡ dropped (readings_for s (suc i)) (m p)
  port_here =
      let e : i * readings_of s.averaging + readings_of s.averaging ≡ suc i * readings_of s.averaging = omega (arith, suc-mul i (readings_of s.averaging)) in
      ap (dropped (readings_of s.averaging)) here
      ∙ (λ t. record { gauges = (m p).gauges; waiting = (drop-drop (readings_of s.averaging) (i * readings_of s.averaging) (m p).waiting ∙ ap (λ (j : ℕ). drop j (m p).waiting) e) t })

  pub weighed_more : (w : Measured) (f' : ℕ → Port) → ◌≡◌ {A = Result Measured Fault} (Ok w) (Ok (weighed s (measurement s.averaging (f p).waiting))) → f' ≡ put_port f p (dropped (readings_of s.averaging) (f p)) → Weighed s m f' p (i + 1) (set vs i w)
  weighed_more w f' got at =
      let q : ◌≡◌ {A = Result Measured Fault} (Ok w) (Ok (nth s i (m p).waiting)) = got ∙ ap (λ (a : Port). Ok (weighed s (measurement s.averaging a.waiting))) here in
      let w_is : w ≡ nth s i (m p).waiting = cc in
      record {
        so_far = ap (λ (j : ℕ). take j (set vs i w)) (add-one i) ∙ take-suc-set vs i w more ∙ (λ t. so.so_far t ++ (w_is t ∷ [])) ∙ sym (weighings_more s i (m p).waiting) ∙ ap (λ (j : ℕ). weighings s j (m p).waiting) (sym (add-one i));
        ports = at ∙ ap (λ (g : ℕ → Port). put_port g p (dropped (readings_of s.averaging) (f p))) so.ports ∙ put_again m p (dropped (readings_for s i) (m p)) (dropped (readings_of s.averaging) (f p)) ∙ ap (put_port m p) port_here ∙ ap (λ (j : ℕ). put_port m p (dropped (readings_for s j) (m p))) (sym (add-one i));
      }
