use Rattle.std.proofs.Common.{◌≡◌, ℕ, List, IfSome, take, vec_len, subst, sym, ◌∙◌}
use Rattle.platforms.proofs.Input.{answered_input}
use Rattle.platforms.proofs.serving.serve.Goals as goal

pub returns : goal.returns
returns g c =
    answered_input c.write_all.result (g.R.Read.remaining c.args.input) (g.W.Write.contents c.args.output.now) _ c.as_slice.result.now c.as_slice-2.result.now (vec_len c.in_ok-buffer.buffer) c.in_ok-buffer.ensures
    (subst (λ (run : List ℕ). IfSome (g.R.Read.remaining c.args.input) (λ xs. run ≡ take 4096 xs)) (sym c.as_slice.ensures.value) c.in_ok-bytes.ensures)
    (c.as_slice-2.ensures.value ∙ c.answers.ensures.answers)
    c.answers.ensures.law c.write_all.ensures.bytes
