-- What a list of records means.
use Rattle.std.specs.Prelude.{◌≡◌, ℕ, ◌+◌, cond, List, [], ◌∷◌, drop, ℤ, Some, None, Option, ◌==◌, slice_index_or}
use Rattle.bank.specs.declared.record.Record.{Record}
use Rattle.bank.specs.declared.record.Cursor.{Cursor}
use Rattle.bank.specs.declared.record.Found.{Found}

-- the digits of the records of port p, in the order of the list
abbrev pub due : ℕ → List Record → List ℤ
due p [] = []
due p (r ∷ rs) = cond (r.port == p) (r.digits ∷ due p rs) (due p rs)

abbrev pub due_of : List Record → ℕ → List ℤ
due_of rs p = due p rs

-- where the reading of a port begins
abbrev pub origin : Cursor
origin = record { next = 0; left = 0 }

-- what is due from the cursor of each port on
abbrev pub due_at : List Record → List Cursor → ℕ → List ℤ
due_at rs cs p = due p (drop (slice_index_or cs p origin).next rs)

-- the first record of port p at place n or later, if there is one
abbrev pub Nexts : ℕ → List Record → ℕ → Option Found → Type 0
Nexts p rs n None = due p (drop n rs) ≡ []
Nexts p rs n (Some x) = due p (drop n rs) ≡ x.digits ∷ due p (drop x.after rs)

-- a cursor after one record more of its port, at place i
abbrev pub noted_at : Cursor → ℕ → Cursor
noted_at c i = record { next = cond (c.left == 0) i c.next; left = c.left + 1 }
