-- What commands leave as it was: refusals, restarts, the span and the held value.
use Rattle.std.proofs.Common.{◌≡◌, ℕ, Bool, true, false, ◌||◌, List, [], ◌∷◌, ◌<ℤ◌, None, Ok, Err, Option, Result, refl, sym, ap, subst, ◌∙◌, arith}
use Rattle.std.proofs.lemmas.Int.{ints}
use Rattle.fault.specs.declared.faults.Fault.{Fault}
use Rattle.bank.specs.Ports.{Port}
use Rattle.command.specs.Conditions.{needs_password, broadcast_of}
use Rattle.command.specs.declared.orders.Heard.{Heard}
use Rattle.command.specs.declared.orders.Heard.TheVariants.{Blank, Select, Command}
use Rattle.command.specs.declared.orders.Order.{Order}
use Rattle.scale.specs.declared.modes.Mode.{Mode}
use Rattle.scale.specs.declared.modes.Mode.TheVariants.{Selected, Broadcast}
use Rattle.scale.specs.declared.settings.Settings.{Settings}
use Rattle.scale.specs.declared.state.State.{State}
use Rattle.scale.specs.declared.state.Ticket.{Ticket}
use Rattle.scale.specs.Answers.{answer_bytes}
use Rattle.scale.specs.Bounds.{Spanned}
use Rattle.scale.specs.Exact.{SpansStay}
use Rattle.scale.specs.Hearing.{held_answer, obeys, settled, hears}
use Rattle.scale.specs.Keeping.{OrderKept, RefusalsKeep, Effect, Leaves, Tells, Forgets, effect_of, memory_left, held_left, ObeyedLeft, ObeyedLeave, RestartsRestore, Sent, after_all, fills, any_fills, HeldOnce}
use Rattle.scale.specs.Orders.{task_of}
use Rattle.scale.proofs.Left.{Left}
use Rattle.scale.proofs.Obeyed.{gives, obeys_left, effect_same}

-- ---- refusals
order_kept : (b : Bool) (e : Effect) (m : Mode) (f : Fault) (o : Order) (s : State) (p : Port) (t : State) (q : Port) (r : Result (List ℕ) Fault) → Left b e o s p t q r → r ≡ Err f → OrderKept m f o s p (settled m t q r)
order_kept b c m f o s p t q (Ok x) h e = absurd (grind arith)
order_kept b c m f o s p t q (Err g) h e =
    let k : g ≡ f = cc in
    subst (λ (x : Fault). OrderKept m x o s p (settled m t q (Err g))) k
    (record { kept = record { force = h.force; stored = h.stored; pending = h.pending; held = h.held; memory = refl; says = refl; fault = refl }; opened = h.opened; port = h.port })

pub refusals_keep : RefusalsKeep
unfolding hears
refusals_keep = record {
  unread = λ m a f s p. record { kept = record { force = refl; stored = refl; pending = refl; held = refl; memory = refl; says = refl; fault = refl }; opened = refl; port = refl };
  orders = λ m a o s p f e. order_kept (gives m (task_of o.form o.name)) _ m f o s p _ _ _ (obeys_left m a o s p) e;
}

gives_fills : (m : Mode) (o : Order) → fills m (Ok (Command o)) ≡ false → gives m (task_of o.form o.name) ≡ false
gives_fills Selected o h = refl
gives_fills Broadcast o h = h

obeyed_left : (c : Effect) (m : Mode) (o : Order) (s : State) (p : Port) (t : State) (q : Port) (bytes : List ℕ) (r : Result (List ℕ) Fault) → c ≡ effect_of o.form o.name → Left (gives m (task_of o.form o.name)) c o s p t q r → r ≡ Ok bytes → ObeyedLeft m o s (settled m t q r)
obeyed_left c m o s p t q bytes (Ok x) same h e = record {
  fault = refl;
  memory = h.memory ∙ ap (λ (k : Effect). memory_left k s) same;
  held = λ z. h.held (gives_fills m o z) ∙ ap (λ (k : Effect). held_left k s) same;
}
obeyed_left c m o s p t q bytes (Err f) same h e = absurd (grind arith)

pub obeyed_leave : ObeyedLeave
unfolding hears
obeyed_leave m a o s p bytes e = obeyed_left _ m o s p _ _ bytes _ (effect_same o) (obeys_left m a o s p) e

-- ---- restarting
pub restarts_restore : RestartsRestore
unfolding hears obeys needs_password broadcast_of
restarts_restore Selected a place s p = refl
restarts_restore Broadcast a place s p = refl

-- ---- the span
spans_settled : (b : Bool) (c : Effect) (m : Mode) (o : Order) (s : State) (p : Port) (t : State) (q : Port) (r : Result (List ℕ) Fault) → Left b c o s p t q r → Spanned s → Spanned (settled m t q r).state
spans_settled b c m o s p t q (Ok x) h k = h.spans k
spans_settled b c m o s p t q (Err f) h k = (subst (λ (x : Settings). x.dead <ℤ x.full) (sym h.force) k.0, subst (λ (x : Settings). x.dead <ℤ x.full) (sym h.stored) k.1)

spans_later : (m : Mode) (a : ℕ) (h : Result Heard Fault) (s : State) (p : Port) → Spanned s → Spanned (hears m a h s p).state
unfolding hears
spans_later m a (Err f) s p k = k
spans_later m a (Ok Blank) s p k = k
spans_later Selected a (Ok (Select n)) s p k = k
spans_later Broadcast a (Ok (Select n)) s p k = k
spans_later m a (Ok (Command o)) s p k = spans_settled (gives m (task_of o.form o.name)) _ m o s p _ _ _ (obeys_left m a o s p) k

pub spans_stay : SpansStay
spans_stay = record { first = (omega (arith, ints), omega (arith, ints)); later = spans_later }

-- ---- the held value
none_left : (c : Effect) (s : State) → s.held ≡ None → held_left c s ≡ None
none_left Leaves s k = k
none_left Tells s k = k
none_left Forgets s k = refl

held_settled : (b : Bool) (c : Effect) (m : Mode) (o : Order) (s : State) (p : Port) (t : State) (q : Port) (r : Result (List ℕ) Fault) → Left b c o s p t q r → b ≡ false → s.held ≡ None → (settled m t q r).state.held ≡ None
held_settled b c m o s p t q (Ok x) h e k = h.held e ∙ none_left c s k
held_settled b c m o s p t q (Err f) h e k = h.held ∙ k

none_stays : (m : Mode) (a : ℕ) (h : Result Heard Fault) (s : State) (p : Port) → fills m h ≡ false → s.held ≡ None → (hears m a h s p).state.held ≡ None
unfolding hears
none_stays m a (Err f) s p e k = k
none_stays m a (Ok Blank) s p e k = k
none_stays Selected a (Ok (Select n)) s p e k = refl
none_stays Broadcast a (Ok (Select n)) s p e k = k
none_stays m a (Ok (Command o)) s p e k = held_settled (gives m (task_of o.form o.name)) _ m o s p _ _ _ (obeys_left m a o s p) (gives_fills m o e) k

neither : (a b : Bool) → (a || b) ≡ false → (a ≡ false) × (b ≡ false)
neither true b h = absurd (grind arith)
neither false b h = (refl, h)

all_stay : (a : ℕ) (xs : List Sent) (s : State) → any_fills xs ≡ false → s.held ≡ None → (after_all a xs s).held ≡ None
unfolding after_all
all_stay a [] s e k = k
all_stay a (x ∷ xs) s e k =
    let both = neither (fills x.mode x.heard) (any_fills xs) e in
    all_stay a xs (hears x.mode a x.heard s x.port).state both.1 (none_stays x.mode a x.heard s x.port both.0 k)

said_held : (a n : ℕ) (s : State) (p : Port) → (hears Selected a (Ok (Select n)) s p).says ≡ answer_bytes a (held_answer s.held)
unfolding hears
said_held a n s p = refl

gone_held : (a n : ℕ) (s : State) (p : Port) → (hears Selected a (Ok (Select n)) s p).state.held ≡ None
unfolding hears
gone_held a n s p = refl

pub held_once : HeldOnce
held_once = record {
  said = said_held;
  gone = gone_held;
  stays = all_stay;
  once = λ a n k xs s p q e.
      let t = after_all a xs (hears Selected a (Ok (Select n)) s p).state in
      said_held a k t q ∙ ap (λ (x : Option Ticket). answer_bytes a (held_answer x)) (all_stay a xs (hears Selected a (Ok (Select n)) s p).state e (gone_held a n s p));
}
