-- An answer in the caller's buffer. Assumes nothing.
use Rattle.std.specs.Prelude.{ℕ, cond, List, [], ◌∷◌, ◌++◌, length, drop, nat_le}

-- the whole answer where the buffer has room for it, else nothing
abbrev pub granted : List ℕ → List ℕ → List ℕ
granted before answer = cond (nat_le (length answer) (length before)) answer []

-- an answer at the front of a buffer, and then the bytes that stood there
abbrev pub onto : List ℕ → List ℕ → List ℕ
onto answer before = answer ++ drop (length answer) before

-- the buffer after
abbrev pub written : List ℕ → List ℕ → List ℕ
written before answer = onto (granted before answer) before

abbrev pub crlf : List ℕ
crlf = 13 ∷ 10 ∷ []
