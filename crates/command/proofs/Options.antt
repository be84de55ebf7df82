-- An outcome that is there. Assumes nothing.
use Rattle.std.proofs.Common.{◌≡◌, Bool, true, false, cond, Some, None, Option, refl}
use Rattle.std.proofs.lemmas.Option.{none-some}

pub nothing : {X : Type 0} {Y : Type 0} {x : X} → ◌≡◌ {A = Option X} None (Some x) → Y
nothing {x = x} e = absurd (none-some x e)

-- an outcome under a test is one of its two
pub either_way : {X : Type 0} {Y : Type 0} (b : Bool) (p q : Option X) (n : X) → cond b p q ≡ Some n → (b ≡ true → p ≡ Some n → Y) → (b ≡ false → q ≡ Some n → Y) → Y
either_way true p q n e f g = f refl e
either_way false p q n e f g = g refl e
