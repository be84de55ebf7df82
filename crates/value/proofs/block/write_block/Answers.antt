use Rattle.std.proofs.Common.{◌≡◌, ℕ, ◌+◌, ◌*◌, ◌<◌, ◌≤◌, List, ◌++◌, length, pos, sym, ap, ◌∙◌, arith, length-append}
use Rattle.std.specs.List.{flat_map}
use Rattle.value.specs.Blocks.{value_bytes, block}
use Rattle.value.specs.Fitting.{indicated}
use Rattle.value.specs.Written.{onto}
use Rattle.value.specs.declared.block.Measured.{Measured}
use Rattle.value.proofs.Filled.{granted_all, granted_none, more, block_all, block_more}
use Rattle.value.proofs.Sizes.{length_values, length_block}
use Rattle.value.proofs.block.write_block.Given as given
use Rattle.value.proofs.block.write_block.Goals as goal

abbrev bytes : given.Over → ℕ → ℕ → Measured → List ℕ
bytes g nominal address = value_bytes g.F.ValueFormat.LIMITS g.F.ValueFormat.bytes nominal address

long : (g : given.Over) (nominal address : ℕ) (m : Measured) → length (bytes g nominal address m) ≡ g.F.ValueFormat.WIDTH
long g nominal address m =
    g.met.F.ValueFormat.long address m.status (indicated g.F.ValueFormat.LIMITS nominal m.value)

pub returns-then-out-size : goal.returns-then-out-size
returns-then-out-size g c =
    let before = c.args.out.now in
    let vs = c.args.values.now in
    let ending = c.args.ending in
    let f = bytes g c.args.nominal c.args.address in
    let wide = c.WIDTH.ensures in
    let e = c.after_each-each.ensures in
    let l = c.after_all-last.ensures in
    let size = c.size.ensures ∙ (λ i. length vs * (wide i + length (e i)) + length (l i)) in
    let whole = length_block f g.F.ValueFormat.WIDTH (long g c.args.nominal c.args.address) ending vs in
    let over : length before < length (block ending f vs) = omega (arith, c.if-out-size.true, size, whole) in
    let none = granted_none before (block ending f vs) over in
    record { count = sym (ap length none); buffer = sym (ap (λ a. onto a before) none) }

pub loop-m-preserved : goal.loop-m-preserved
loop-m-preserved g c =
    let vs = c.args.values.now in
    let each = c.after_each-each.result.now in
    let size = rw c.WIDTH.ensures at c.size.ensures in
    block_more (bytes g c.args.nominal c.args.address) each g.F.ValueFormat.WIDTH (long g c.args.nominal c.args.address) vs c.args.out.now
    c.loop-m.m-index c.loop-m.n c.write_value-n.result c.place_end-n.result c.loop-m.out c.write_value-n.new.out c.place_end-n.new.out
    (record { value = pos 0; status = 0 })
    (omega arith)
    (omega (arith, c.if-out-size.false, size))
    c.loop-m.invariant
    c.write_value-n.ensures.count c.write_value-n.ensures.buffer
    c.place_end-n.ensures.count c.place_end-n.ensures.buffer

pub returns-clause-buffer : goal.returns-clause-buffer
returns-clause-buffer g c =
    let before = c.args.out.now in
    let vs = c.args.values.now in
    let ending = c.args.ending in
    let f = bytes g c.args.nominal c.args.address in
    let each = c.after_each-each.result.now in
    let last = c.after_all-last.result.now in
    let wide = g.F.ValueFormat.WIDTH in
    let front = flat_map (λ m. f m ++ each) vs in
    let size = rw c.WIDTH.ensures at c.size.ensures in
    let fits : length front + length last ≤ length before = omega (arith, c.if-out-size.false, size, length_values f wide (long g c.args.nominal c.args.address) each vs) in
    let done = block_all (λ m. f m ++ each) (wide + length each) vs before c.loop-m.m-index c.loop-m.n c.loop-m.out (omega arith) c.loop-m.invariant in
    let all = more before front last c.loop-m.out c.place_end.new.out c.loop-m.n c.place_end.result done.1 done.0 fits c.place_end.ensures.count c.place_end.ensures.buffer in
    let e = c.after_each-each.ensures in
    let l = c.after_all-last.ensures in
    let same : front ++ last ≡ block ending f vs = (λ i. flat_map (λ m. f m ++ e i) vs ++ l i) in
    let given = granted_all before (block ending f vs) (omega (arith, ap length same, length-append front last)) in
    all.holds ∙ ap (λ a. onto a before) (same ∙ sym given)
