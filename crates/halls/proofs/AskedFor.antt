-- A request means the same with its bytes seen as lists.
use Rattle.std.proofs.Common.{◌≡◌, refl}
use Rattle.halls.specs.declared.requests.Kind.{Kind}
use Rattle.halls.specs.declared.requests.Request.{Request}
use Rattle.halls.specs.declared.requests.Request.TheVariants.{Bank, Fit, Set, Record, Join, Gauges, Waiting, Take, Obey, Serve, Split}
use Rattle.halls.specs.Order.{stage_of, suited}
use Rattle.halls.specs.Lines.{asked}
use Rattle.halls.specs.Scripts.{belongs, suits}

pub belongs_asked : (r : Request) → belongs (asked r) ≡ stage_of r
belongs_asked (Bank k) = refl
belongs_asked (Fit p f) = refl
belongs_asked (Set p d c) = refl
belongs_asked (Record x) = refl
belongs_asked (Join s j) = refl
belongs_asked (Gauges p) = refl
belongs_asked (Waiting p) = refl
belongs_asked (Take p) = refl
belongs_asked (Obey t) = refl
belongs_asked (Serve t) = refl
belongs_asked (Split bs) = refl

pub suits_asked : (r : Request) (k : Kind) → suits (asked r) k ≡ suited r k
suits_asked (Bank k) kind = refl
suits_asked (Fit p f) kind = refl
suits_asked (Set p d c) kind = refl
suits_asked (Record x) kind = refl
suits_asked (Join s j) kind = refl
suits_asked (Gauges p) kind = refl
suits_asked (Waiting p) kind = refl
suits_asked (Take p) kind = refl
suits_asked (Obey t) kind = refl
suits_asked (Serve t) kind = refl
suits_asked (Split bs) kind = refl
