-- Where each request of a script belongs.
use Rattle.std.specs.Prelude.{Bool, true, false, cond, Some, None, Ok, Err, Option, Result, nat_le}
use Rattle.halls.specs.declared.stages.Stage.{Stage}
use Rattle.halls.specs.declared.stages.Stage.TheVariants.{Opening, Fitting, FirstBox, SecondBox, ThirdBox, FourthBox, Asking, Talking}
use Rattle.halls.specs.declared.requests.Kind.{Kind}
use Rattle.halls.specs.declared.requests.Kind.TheVariants.{Dials, Recording}
use Rattle.halls.specs.declared.requests.Reason.{Reason}
use Rattle.halls.specs.declared.requests.Reason.TheVariants.{OutOfOrder, OtherBank}
use Rattle.halls.specs.declared.requests.Request.{Request}
use Rattle.halls.specs.declared.requests.Request.TheVariants.{Bank, Fit, Set, Record, Join, Gauges, Waiting, Take, Obey, Serve, Split}
use Rattle.halls.specs.Stages.{rank}

-- what the opening request leaves is the fitting
abbrev pub opened : Stage → Stage
opened Opening = Fitting
opened Fitting = Fitting
opened FirstBox = FirstBox
opened SecondBox = SecondBox
opened ThirdBox = ThirdBox
opened FourthBox = FourthBox
opened Asking = Asking
opened Talking = Talking

-- the stage after a request that belongs to the stage t, or to any, and that suits the bank or not; else why it is refused: the order is looked at first
abbrev pub entered : Stage → Option Stage → Bool → Result Stage Reason
entered s None b = Ok s
entered s (Some t) b = cond (nat_le (rank s) (rank t)) (cond b (Ok (opened t)) (Err OtherBank)) (Err OutOfOrder)

-- the stage that a request belongs to; splitting belongs to any
abbrev pub stage_of : Request → Option Stage
stage_of (Bank k) = Some Opening
stage_of (Fit p f) = Some Fitting
stage_of (Set p d c) = Some Fitting
stage_of (Record x) = Some Fitting
stage_of (Join s j) = Some s
stage_of (Gauges p) = Some Asking
stage_of (Waiting p) = Some Asking
stage_of (Take p) = Some Asking
stage_of (Obey t) = Some Talking
stage_of (Serve t) = Some Talking
stage_of (Split bs) = None

abbrev pub is_dials : Kind → Bool
is_dials Dials = true
is_dials Recording = false

abbrev pub is_recording : Kind → Bool
is_recording Dials = false
is_recording Recording = true

-- only dials are set, and only a recording has records
abbrev pub suited : Request → Kind → Bool
suited (Bank k) kind = true
suited (Fit p f) kind = true
suited (Set p d c) kind = is_dials kind
suited (Record x) kind = is_recording kind
suited (Join s j) kind = true
suited (Gauges p) kind = true
suited (Waiting p) kind = true
suited (Take p) kind = true
suited (Obey t) kind = true
suited (Serve t) kind = true
suited (Split bs) kind = true
