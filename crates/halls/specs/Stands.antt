-- Who answers the requests of each stage, what each answers, and what it is after: the bank beneath, a box, the topmost bank, the terminal.
use Rattle.std.specs.Prelude.{ℕ, List, length, Some, None, Ok, Err, Option, Result}
use Rattle.std.specs.Option.{unwrap_or}
use Rattle.fault.specs.declared.faults.Fault.{Fault}
use Rattle.bank.specs.declared.reading.Reading.{Reading}
use Rattle.bank.specs.Ports.{Port, gauges_at, waiting_at, first_at, rest_at}
use Rattle.bank.specs.Gauges.{refitted}
use Rattle.command.specs.Cuts.{cut_of}
use Rattle.junction.specs.declared.feeds.Feeds.{Feeds}
use Rattle.junction.specs.Feeding.{own}
use Rattle.junction.specs.Gather.{boxed}
use Rattle.junction.specs.Joins.{joining, rejoined}
use Rattle.terminal.specs.Buses.{Bus, silent, told, uttered, Word}
use Rattle.terminal.specs.Serves.{served, afters, answered, report_of}
use Rattle.halls.specs.declared.requests.Reason.TheVariants.{OutOfOrder, OtherBank}
use Rattle.halls.specs.declared.requests.Request.TheVariants.{Bank, Fit, Set, Record, Join, Gauges, Waiting, Take}
use Rattle.halls.specs.Lines.{Asked, Plain, Obeying, Serving, Splitting}
use Rattle.halls.specs.Said.{Said, Fine, Declined, Faulted, Counted, Weighed, Parted, Obeyed, Ran}
use Rattle.halls.specs.Bases.{Base, base_ports, refit, setting_told, reset}

-- a box is told by the ports of the bank that it stands on, and by its feeding map
pub data Stand : Type 0 where
  OfBase : Base → Stand
  OfBox : (ports : ℕ → Port) (feeds : Feeds) → Stand
  OfTop : (ports : ℕ → Port) → Stand
  OfTerminal : Bus → Stand

-- what its ports show to a bank or a terminal that stands on it
abbrev pub shown : Stand → ℕ → Port
shown (OfBase b) = base_ports b
shown (OfBox m fs) = boxed fs m
shown (OfTop m) = m
shown (OfTerminal b) = b.ports

-- a new box and a new terminal
abbrev pub new_box : (ℕ → Port) → Stand
new_box m = OfBox m own

abbrev pub new_terminal : (ℕ → Port) → Stand
new_terminal m = OfTerminal (silent m)

-- ---- what results are told as
abbrev pub done_said : Result (Unit {0}) Fault → Said
done_said (Ok x) = Fine
done_said (Err f) = Faulted f

abbrev pub count_said : Result ℕ Fault → Said
count_said (Ok n) = Counted n
count_said (Err f) = Faulted f

abbrev pub taken_said : Result Reading Fault → Said
taken_said (Ok x) = Weighed x
taken_said (Err f) = Faulted f

abbrev pub cut_said : Result (List ℕ × ℕ) Fault → Said
cut_said (Ok p) = Parted p.1 p.0
cut_said (Err f) = Faulted f

-- a bank with no dials knows no setting
abbrev pub set_said : Option (Result (Unit {0}) Fault) → Said
set_said None = Declined OtherBank
set_said (Some r) = done_said r

abbrev pub word_said : Word → Said
word_said w = Obeyed (length w.says) w.fault w.says

abbrev pub run_said : Bus → List ℕ → List (List ℕ) → Said
run_said b run ts = Ran (report_of b run ts) (answered b ts)

-- ---- what each stand answers to a request of its own
abbrev pub own_answer : Stand → Asked → Option Said
own_answer (OfBase b) (Plain (Bank k)) = Some Fine
own_answer (OfBase b) (Plain (Record x)) = Some Fine
own_answer (OfBase b) (Plain (Fit p f)) = Some (done_said (refitted p f))
own_answer (OfBase b) (Plain (Set p d c)) = Some (set_said (setting_told b p))
own_answer (OfBox m fs) (Plain (Join s j)) = Some (done_said (joining m fs j.below j.above))
own_answer (OfTop m) (Plain (Gauges p)) = Some (count_said (gauges_at m p))
own_answer (OfTop m) (Plain (Waiting p)) = Some (count_said (waiting_at m p))
own_answer (OfTop m) (Plain (Take p)) = Some (taken_said (first_at m p))
own_answer (OfTerminal b) (Obeying n bs) = Some (word_said (uttered n b bs))
own_answer (OfTerminal b) (Serving n bs) = Some (run_said b bs (served n b bs))
own_answer s a = None

-- a split is answered anywhere; what is not a stand's own is out of order
abbrev pub any_answer : Asked → Said
any_answer (Splitting bs) = cut_said (cut_of bs)
any_answer a = Declined OutOfOrder

abbrev pub answer_of : Stand → Asked → Said
answer_of s a = unwrap_or (own_answer s a) (any_answer a)

-- ---- what it is after it: a count and a split leave every stand as it was
abbrev pub left_by : Stand → Asked → Stand
left_by (OfBase b) (Plain (Fit p f)) = OfBase (refit b p f)
left_by (OfBase b) (Plain (Set p d c)) = OfBase (reset b p (record { digits = d; conversions = c }))
left_by (OfBox m fs) (Plain (Join s j)) = OfBox m (rejoined m fs j.below j.above)
left_by (OfTop m) (Plain (Take p)) = OfTop (rest_at m p)
left_by (OfTerminal b) (Obeying n bs) = OfTerminal (told n b bs)
left_by (OfTerminal b) (Serving n bs) = OfTerminal (afters b (served n b bs))
left_by s a = s
