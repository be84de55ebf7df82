-- What request a line of a script stands for, or why it is refused.
use Rattle.std.specs.Prelude.{ℕ, Bool, false, ◌||◌, ◌==◌, List, [], ◌∷◌, Some, None, Ok, Err, Option, Result, vec_items}
use Rattle.std.specs.Option.{option_map, ok_or}
use Rattle.std.specs.Result.{result_ok, result_and}
use Rattle.std.specs.List.{list_all}
use Rattle.std.specs.Borrow.{Bor}
use Rattle.halls.specs.declared.parsing.Verb.{Verb}
use Rattle.halls.specs.declared.parsing.Verb.TheVariants.{Bank as ToBank, Fit as ToFit, Set as ToSet, Record as ToRecord, Join as ToJoin, Gauges as ToGauges, Waiting as ToWaiting, Take as ToTake, Obey as ToObey, Serve as ToServe, Split as ToSplit}
use Rattle.halls.specs.declared.requests.Reason.{Reason}
use Rattle.halls.specs.declared.requests.Reason.TheVariants.{Malformed}
use Rattle.halls.specs.declared.requests.Talk.{Talk}
use Rattle.halls.specs.declared.requests.Request.{Request}
use Rattle.halls.specs.declared.requests.Request.TheVariants.{Bank, Fit, Set, Record, Join, Gauges, Waiting, Take, Obey, Serve, Split}
use Rattle.halls.specs.declared.escapes.Wanted.TheVariants.{Any}
use Rattle.halls.specs.Stages.{box_stage}
use Rattle.halls.specs.Words.{place_of, parts_at, number_of, limited, signed_of}
use Rattle.halls.specs.Escapes.{decoded}
use Rattle.halls.specs.Verbs.{verb_of, kind_of}

-- ---- requests, their bytes as lists
pub data Asked : Type 0 where
  Plain : Request → Asked
  Obeying : (room : ℕ) (bytes : List ℕ) → Asked
  Serving : (room : ℕ) (bytes : List ℕ) → Asked
  Splitting : (bytes : List ℕ) → Asked

abbrev pub asked : Request → Asked
asked (Bank k) = Plain (Bank k)
asked (Fit p f) = Plain (Fit p f)
asked (Set p d c) = Plain (Set p d c)
asked (Record x) = Plain (Record x)
asked (Join s j) = Plain (Join s j)
asked (Gauges p) = Plain (Gauges p)
asked (Waiting p) = Plain (Waiting p)
asked (Take p) = Plain (Take p)
asked (Obey t) = Obeying t.room (vec_items t.bytes)
asked (Serve t) = Serving t.room (vec_items t.bytes)
asked (Split bs) = Splitting (vec_items bs)

abbrev pub talked : Talk → ℕ × List ℕ
talked t = (t.room, vec_items t.bytes)

-- ---- steps that may fail
-- what k makes of a value, where there is one
abbrev pub given : {A B : Type 0} → Option A → (A → Option B) → Option B
given None k = None
given (Some x) k = k x

abbrev pub passed : {A B E : Type 0} → Result A E → (A → Result B E) → Result B E
passed (Ok x) k = k x
passed (Err e) k = Err e

-- ---- the words behind the verb
-- the text before the first space, and that behind it
abbrev pub halves : List ℕ → Option (List ℕ × List ℕ)
halves t = parts_at t (place_of 32 t)

abbrev pub byte_of : List ℕ → Option ℕ
byte_of w = limited 255 (number_of w)

abbrev pub short_of : List ℕ → Option ℕ
short_of w = limited 65535 (number_of w)

abbrev pub room_of : List ℕ → Option ℕ
room_of w = limited 65536 (number_of w)

-- PORT FACTOR
abbrev pub fit_of : List ℕ → Option Asked
fit_of t = given (halves t) (λ w. given (byte_of w.0) (λ p. given (short_of w.1) (λ f. Some (Plain (Fit p f)))))

-- PORT DIGITS CONVERSIONS
abbrev pub set_of : List ℕ → Option Asked
set_of t =
    given (halves t) (λ w. given (halves w.1) (λ v. given (byte_of w.0) (λ p. given (signed_of v.0) (λ d. given (short_of v.1)
    (λ c. Some (Plain (Set p d c)))))))

-- PORT DIGITS
abbrev pub record_of : List ℕ → Option Asked
record_of t =
    given (halves t) (λ w. given (byte_of w.0) (λ p. given (signed_of w.1)
    (λ d. Some (Plain (Record (record { port = p; digits = d }))))))

-- LEVEL BELOW ABOVE
abbrev pub join_of : List ℕ → Option Asked
join_of t =
    given (halves t) (λ w. given (halves w.1) (λ v. given (byte_of w.0) (λ n. given (box_stage n) (λ s. given (byte_of v.0)
    (λ b. given (byte_of v.1) (λ a. Some (Plain (Join s (record { below = b; above = a })))))))))

-- ROOM BYTES, the bytes as they are written
abbrev pub roomy_of : List ℕ → Option (ℕ × List ℕ)
roomy_of t = given (halves t) (λ w. given (room_of w.0) (λ n. Some (n, w.1)))

abbrev pub roomy_seen : Option (ℕ × Bor (List ℕ)) → Option (ℕ × List ℕ)
roomy_seen None = None
roomy_seen (Some p) = Some (p.0, p.1.now)

-- ROOM BYTES
abbrev pub talk_of : List ℕ → Option (ℕ × List ℕ)
talk_of t = given (roomy_of t) (λ p. option_map (λ bs. (p.0, bs)) (decoded Any p.1))

-- the request of a verb and of what stands behind the space after it
abbrev pub asked_by : Verb → List ℕ → Option Asked
asked_by ToBank t = option_map (λ k. Plain (Bank k)) (result_ok (kind_of t))
asked_by ToFit t = fit_of t
asked_by ToSet t = set_of t
asked_by ToRecord t = record_of t
asked_by ToJoin t = join_of t
asked_by ToGauges t = option_map (λ p. Plain (Gauges p)) (byte_of t)
asked_by ToWaiting t = option_map (λ p. Plain (Waiting p)) (byte_of t)
asked_by ToTake t = option_map (λ p. Plain (Take p)) (byte_of t)
asked_by ToObey t = option_map (λ p. Obeying p.0 p.1) (talk_of t)
asked_by ToServe t = option_map (λ p. Serving p.0 p.1) (talk_of t)
asked_by ToSplit t = option_map Splitting (decoded Any t)

-- ---- a line
-- an unknown verb is refused before a line with nothing behind its first word
abbrev pub begun_with : Option (List ℕ × List ℕ) → List ℕ → Result (Verb × List ℕ) Reason
begun_with None l = result_and (verb_of l) (Err Malformed)
begun_with (Some w) l = passed (verb_of w.0) (λ v. Ok (v, w.1))

-- the verb of a line, and what stands behind the space after it
abbrev pub opening_of : List ℕ → Result (Verb × List ℕ) Reason
opening_of l = begun_with (halves l) l

abbrev pub opening_seen : Result (Verb × Bor (List ℕ)) Reason → Result (Verb × List ℕ) Reason
opening_seen (Ok o) = Ok (o.0, o.1.now)
opening_seen (Err e) = Err e

-- the request of a line, or why it is refused
abbrev pub request_of : List ℕ → Result Asked Reason
request_of l = passed (opening_of l) (λ o. ok_or (asked_by o.0 o.1) Malformed)

abbrev pub request_seen : Result Request Reason → Result Asked Reason
request_seen (Ok r) = Ok (asked r)
request_seen (Err e) = Err e

-- ---- lines that ask for nothing
abbrev pub begins : ℕ → List ℕ → Bool
begins b [] = false
begins b (x ∷ xs) = x == b

-- empty, or nothing but spaces
abbrev pub blank : List ℕ → Bool
blank l = list_all (λ b. b == 32) l

-- a comment, or blank
abbrev pub idle : List ℕ → Bool
idle l = begins 35 l || blank l
