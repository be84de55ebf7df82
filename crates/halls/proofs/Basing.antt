-- The bank of a script's kind, new.
use Rattle.std.proofs.Common.{◌≡◌, List, take, Ok, Err, Result, IfOk}
use Rattle.bank.specs.declared.record.Record.{Record}
use Rattle.bank.specs.Gauges.{fits}
use Rattle.bank.specs.Dials.{still_at}
use Rattle.bank.specs.Records.{due_of}
use Rattle.halls.specs.declared.requests.Kind.{Kind}
use Rattle.halls.specs.declared.requests.Kind.TheVariants.{Dials, Recording}
use Rattle.halls.specs.Bases.{Base, OfDials, OfRecords, new_base, chosen, base_of}

pub new_of : {D R : Type 0} (f : D → Base) (g : R → Base) (d : D) (r : R) (rs : List Record) (k : Kind) → f d ≡ OfDials fits still_at → g r ≡ OfRecords fits (due_of (take 65535 rs)) → base_of f g (chosen k d r) ≡ new_base k rs
new_of f g d r rs Dials x y = x
new_of f g d r rs Recording x y = y

-- what follows of each value follows of the value of a result
pub if_ok_map : {A E : Type 0} (r : Result A E) (P Q : A → Type 0) → ((x : A) → P x → Q x) → IfOk r P → IfOk r Q
if_ok_map (Ok x) P Q f h = f x h
if_ok_map (Err e) P Q f h = h
