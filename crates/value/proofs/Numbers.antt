-- The formats and their numbers. Assumes nothing.
use Rattle.std.proofs.Common.{◌≡◌, ℕ, ◌+◌, ◌-◌, ◌<◌, ◌≤◌, Bool, true, false, ltb, Some, None, Option, sym, ap, ◌∙◌, ⊎_elim, arith}
use Rattle.std.proofs.lemmas.Bool.{cases_lt, cond-true, cond-false, lt-ltb, le-ltb}
use Rattle.std.proofs.lemmas.Bool.Decides.{nat_tests}
use Rattle.std.specs.Option.{option_map}
use Rattle.value.specs.Output.{shape, layout_numbered, numbered, numbered_format, format_number, Numbered}
use Rattle.value.specs.declared.layout.Layout.{Layout}
use Rattle.value.specs.declared.output.OutputFormat.{OutputFormat}

there : (l : Layout) → layout_numbered (shape l).number ≡ Some l
there l = grind (arith, nat_tests)

small : (l : Layout) → (shape l).number < 32
small l = grind (arith, nat_tests)

back : (n : ℕ) (l : Layout) → layout_numbered n ≡ Some l → (shape l).number ≡ n
back n l e = grind (arith, nat_tests)

of_number : (e : Bool) (l : Layout) → numbered_format (format_number (record { layout = l; ended = e })) ≡ Some (record { layout = l; ended = e })
unfolding numbered_format format_number
of_number true l = let h = small l in let e = there l in grind (arith, nat_tests)
of_number false l = let h = small l in let e = there l in grind (arith, nat_tests)

some_of : (o : Option Layout) (e : Bool) (f : OutputFormat) → option_map (λ l. record { layout = l; ended = e }) o ≡ Some f → (o ≡ Some f.layout) × (f.ended ≡ e)
some_of (Some l) e f h = let same : record { layout = l; ended = e } ≡ f = cc in (ap (λ x. Some x.layout) same, sym (ap (λ x. x.ended) same))
some_of None e f h = let z : ◌≡◌ {A = ℕ} 0 1 = cc in absurd (omega arith)

to_number : (n : ℕ) (f : OutputFormat) → numbered_format n ≡ Some f → format_number f ≡ n
unfolding numbered_format format_number
to_number n f h =
    let own = (shape f.layout).number in
    ⊎_elim
    (λ (p : n < 32).
    let o = some_of (layout_numbered n) true f (sym (cond-true (ltb n 32) (numbered n true) (numbered (n - 32) false) (lt-ltb n 32 p)) ∙ h) in
    cond-true f.ended own (own + 32) o.1 ∙ back n f.layout o.0)
    (λ (p : 32 ≤ n).
    let o = some_of (layout_numbered (n - 32)) false f (sym (cond-false (ltb n 32) (numbered n true) (numbered (n - 32) false) (le-ltb n 32 p)) ∙ h) in
    let e = back (n - 32) f.layout o.0 in
    cond-false f.ended own (own + 32) o.1 ∙ omega arith)
    (cases_lt n 32)

pub number_law : Numbered
number_law = ((λ f. of_number f.ended f.layout), to_number)
