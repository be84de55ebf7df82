-- What a request is answered by, with its bytes as lists, and how that is printed.
use Rattle.std.specs.Prelude.{ℕ, Bool, cond, List, [], ◌∷◌, ◌++◌, Some, None, Option, codes, vec_items}
use Rattle.std.specs.List.{flat_map}
use Rattle.std.specs.Fmt.{decimal, signed_decimal}
use Rattle.fault.specs.declared.faults.Fault.{Fault}
use Rattle.fault.specs.Printed.{printed}
use Rattle.bank.specs.declared.reading.Reading.{Reading}
use Rattle.terminal.specs.declared.answers.Served.{Served}
use Rattle.terminal.specs.Stops.{stop_number}
use Rattle.halls.specs.declared.requests.Reason.{Reason}
use Rattle.halls.specs.declared.requests.Reason.TheVariants.{OutOfOrder, Unknown, Malformed, OtherBank}
use Rattle.halls.specs.declared.answers.Answer.{Answer}
use Rattle.halls.specs.declared.answers.Answer.TheVariants.{Done, Refused, Faulty, Count, Taken, Cut, Obeying, Serving}
use Rattle.halls.specs.declared.printing.Reply.{Reply as PrintedReply}
use Rattle.halls.specs.Escapes.{escaped}

pub data Said : Type 0 where
  Fine : Said
  Declined : Reason → Said
  Faulted : Fault → Said
  Counted : ℕ → Said
  Weighed : Reading → Said
  Parted : (used : ℕ) (bytes : List ℕ) → Said
  Obeyed : (written : ℕ) (fault : Option Fault) (bytes : List ℕ) → Said
  Ran : (served : Served) (bytes : List ℕ) → Said

abbrev pub said : Answer → Said
said Done = Fine
said (Refused r) = Declined r
said (Faulty f) = Faulted f
said (Count n) = Counted n
said (Taken x) = Weighed x
said (Cut n bs) = Parted n bs.now
said (Obeying o bs) = Obeyed o.written o.fault (vec_items bs)
said (Serving s bs) = Ran s (vec_items bs)

-- what is printed for a line of a script: the number of that line, and its answer
pub record Reply : Type 0 where
  pub line : ℕ
  pub says : Said

abbrev pub reply_of : PrintedReply → Reply
reply_of r = record { line = r.line; says = said r.answer }

-- ---- the printed text
abbrev pub reason_text : Reason → List ℕ
reason_text OutOfOrder = codes "out of order"
reason_text Unknown = codes "unknown request"
reason_text Malformed = codes "malformed"
reason_text OtherBank = codes "no such request for this bank"

-- nothing where there are no bytes, else a space (32) and the text that stands for them
abbrev pub tail_text : List ℕ → List ℕ
tail_text [] = []
tail_text (b ∷ bs) = 32 ∷ escaped (b ∷ bs)

abbrev pub mark_text : Bool → List ℕ
mark_text overdriven = cond overdriven (codes "overdriven") (codes "in range")

abbrev pub fault_text : Option Fault → List ℕ
fault_text None = []
fault_text (Some f) = codes " fault " ++ printed f

-- the bytes of an answer stand behind a colon (58)
abbrev pub said_text : Said → List ℕ
said_text Fine = codes "ok"
said_text (Declined r) = reason_text r
said_text (Faulted f) = codes "fault " ++ printed f
said_text (Counted n) = decimal n
said_text (Weighed x) = signed_decimal x.load ++ (32 ∷ mark_text x.mark.overdriven)
said_text (Parted n bs) = codes "used " ++ (decimal n ++ (58 ∷ tail_text bs))
said_text (Obeyed n f bs) = codes "written " ++ (decimal n ++ (fault_text f ++ (58 ∷ tail_text bs)))
said_text (Ran s bs) =
    codes "used " ++ (decimal s.used ++ (codes " written " ++ (decimal s.written ++ (codes " stopped " ++ (decimal (stop_number s.stopped)
    ++ (58 ∷ tail_text bs))))))

-- a refused line is named by its number
abbrev pub line_text : ℕ → Said → List ℕ
line_text n (Declined r) = codes "line " ++ (decimal n ++ (codes ": " ++ reason_text r))
line_text n s = said_text s

abbrev pub reply_text : Reply → List ℕ
reply_text r = line_text r.line r.says

-- each reply stands on a line, which ends with a line feed (10)
abbrev pub lines_text : List Reply → List ℕ
lines_text rs = flat_map (λ r. reply_text r ++ 10 ∷ []) rs
