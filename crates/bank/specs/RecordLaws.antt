-- No port of a recording has more records than the list, so that it keeps the limits of a port.
use Rattle.std.specs.Prelude.{◌≡◌, ℕ, suc, ◌<◌, ◌≤◌, Bool, true, false, cond, List, [], ◌∷◌, length, get_or, drop, ℤ, ◌==◌}
use Rattle.std.proofs.Common.{arith}
use Rattle.std.proofs.lemmas.List.{length-drop}
use Rattle.bank.specs.declared.record.Record.{Record}
use Rattle.bank.specs.declared.record.Cursor.{Cursor}
use Rattle.bank.specs.Records.{due, origin, due_at}

-- each cursor knows how many records of its port are due
abbrev pub Tallied : List Record → List Cursor → Type 0
Tallied rs cs = (k : ℕ) → k < 32 → (get_or cs k origin).left ≡ length (due_at rs cs k)

cond_length : (b : Bool) (x : ℤ) (xs : List ℤ) (n : ℕ) → length xs ≤ n → length (cond b (x ∷ xs) xs) ≤ suc n
cond_length true x xs n h = omega arith
cond_length false x xs n h = omega arith

pub due_length : (p : ℕ) (rs : List Record) → length (due p rs) ≤ length rs
due_length p [] = omega arith
due_length p (r ∷ rs) = cond_length (r.port == p) r.digits (due p rs) (length rs) (due_length p rs)

pub due_at_short : (rs : List Record) (cs : List Cursor) (p : ℕ) → length rs ≤ 65535 → length (due_at rs cs p) ≤ 65535
due_at_short rs cs p h =
    let n = (get_or cs p origin).next in omega (arith, due_length p (drop n rs), length-drop n rs)
