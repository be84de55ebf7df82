-- One command by its bytes, with room for the answer.
use Rattle.std.proofs.Common.{◌≡◌, ℕ, ◌≤◌, List, ◌++◌, length, take, drop, Result, sym, ap, ◌∙◌, arith, rules}
use Rattle.std.proofs.lemmas.List.{append_assoc, length-take-le, drop-append-le, take-append-drop}
use Rattle.fault.specs.declared.faults.Fault.{Fault}
use Rattle.command.specs.declared.orders.Heard.{Heard}
use Rattle.command.specs.Readings.{reading}
use Rattle.scale.proofs.Sayings.{brief}
use Rattle.scale.specs.declared.hearing.Hearing.{Hearing}
use Rattle.terminal.specs.Buses.{Bus, Word, heeded, worded, after, reply, told, uttered, returned}

pub told_long : (n : ℕ) (b : Bus) (t : List ℕ) → 1088 ≤ n → told n b t ≡ after b t
told_long n b t h = search rules

pub uttered_long : (n : ℕ) (b : Bus) (t : List ℕ) → 1088 ≤ n → uttered n b t ≡ reply b t
uttered_long n b t h = search rules

-- no answer is longer than 1,088 bytes
pub worded_brief : (b : Bus) (h : Result Heard Fault) → length (worded b h).says ≤ 1088
worded_brief b h = search (rules, brief)

-- one command is heeded with the first 1,088 bytes of a buffer for its answer
pub obeyed : (b b' : Bus) (t : List ℕ) (x : Result Heard Fault) (r : Hearing) (out front front' : List ℕ)
    → 1088 ≤ length out → front ≡ take 1088 out
    → x ≡ reading t → b' ≡ heeded b x → r ≡ returned (worded b x) → front' ≡ (worded b x).says ++ drop r.written front
    → (b' ≡ told (length out) b t) × (r ≡ returned (uttered (length out) b t))
    × (front' ++ drop 1088 out ≡ (uttered (length out) b t).says ++ drop r.written out) × (r.written ≤ length out)
unfolding after reply
obeyed b b' t x r out front front' h f e s v o =
    let n = length out in
    let k = r.written in
    let says = (worded b x).says in
    let w : worded b x ≡ uttered n b t = ap (worded b) e ∙ sym (uttered_long n b t h) in
    let kq : k ≡ length says = ap (λ (y : Hearing). y.written) v in
    let fl : length front ≡ 1088 = ap length f ∙ length-take-le 1088 out h in
    let short : k ≤ length front = omega (arith, worded_brief b x, kq, fl) in
    let rest : drop k front ++ drop 1088 out ≡ drop k out =
    sym (drop-append-le k front (drop 1088 out) short) ∙ ap (λ z. drop k (z ++ drop 1088 out)) f ∙ ap (drop k) (take-append-drop 1088 out) in (
      s ∙ ap (heeded b) e ∙ sym (told_long n b t h),
      v ∙ ap returned w,
      ap (λ z. z ++ drop 1088 out) o ∙ append_assoc says (drop k front) (drop 1088 out) ∙ ap (λ z. says ++ z) rest ∙ ap (λ (z : Word). z.says ++ drop k out) w,
      omega (arith, short, fl, h),
    )
