-- What the first word of a line names, and the word of a kind of bank.
use Rattle.std.specs.Prelude.{ℕ, cond, List, Ok, Err, Result, codes}
use Rattle.std.specs.Str.{bytes_eq}
use Rattle.halls.specs.declared.parsing.Verb.{Verb}
use Rattle.halls.specs.declared.parsing.Verb.TheVariants.{Bank, Fit, Set, Record, Join, Gauges, Waiting, Take, Obey, Serve, Split}
use Rattle.halls.specs.declared.requests.Kind.{Kind}
use Rattle.halls.specs.declared.requests.Kind.TheVariants.{Dials, Recording}
use Rattle.halls.specs.declared.requests.Reason.{Reason}
use Rattle.halls.specs.declared.requests.Reason.TheVariants.{Unknown, Malformed}

-- the request that a word names
abbrev pub verb_of : List ℕ → Result Verb Reason
verb_of w =
    cond (bytes_eq w (codes "bank")) (Ok Bank)
    (cond (bytes_eq w (codes "fit")) (Ok Fit)
    (cond (bytes_eq w (codes "set")) (Ok Set)
    (cond (bytes_eq w (codes "record")) (Ok Record)
    (cond (bytes_eq w (codes "join")) (Ok Join)
    (cond (bytes_eq w (codes "gauges")) (Ok Gauges)
    (cond (bytes_eq w (codes "waiting")) (Ok Waiting)
    (cond (bytes_eq w (codes "take")) (Ok Take)
    (cond (bytes_eq w (codes "obey")) (Ok Obey)
    (cond (bytes_eq w (codes "serve")) (Ok Serve)
    (cond (bytes_eq w (codes "split")) (Ok Split) (Err Unknown)))))))))))

-- the kind of bank that a word names
abbrev pub kind_of : List ℕ → Result Kind Reason
kind_of w = cond (bytes_eq w (codes "dials")) (Ok Dials) (cond (bytes_eq w (codes "recording")) (Ok Recording) (Err Malformed))
