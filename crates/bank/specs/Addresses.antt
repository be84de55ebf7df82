-- The number of an address, and the walk over all addresses.
use Rattle.std.specs.Prelude.{◌≡◌, ◌+◌, ℕ, Option, MatchOption}
use Rattle.bank.specs.declared.address.Address.{Address}
use Rattle.bank.specs.declared.addresses.Addresses.{Addresses}

abbrev pub number_of : Address → ℕ
number_of a = a.number

-- the next of the addresses that are left is the lowest, and one fewer is left; none, where none is left
abbrev pub FromFront : Addresses → Option Address → Addresses → Type 0
FromFront s r t = MatchOption r (s.next ≡ s.end) (λ a. (a.number ≡ s.next) × (t.next ≡ s.next + 1) × (t.end ≡ s.end))

-- the same from the highest down
abbrev pub FromBack : Addresses → Option Address → Addresses → Type 0
FromBack s r t = MatchOption r (s.next ≡ s.end) (λ a. (a.number ≡ t.end) × (t.next ≡ s.next) × (t.end + 1 ≡ s.end))
