-- What is printed for what is read of an input.
use Rattle.std.proofs.Common.{◌≡◌, ◌++◌, ◌+◌, ◌<◌, [], ◌∷◌, ℕ, List, length, get_or, map, take, Some, None, Ok, Err, Option, Result, IfSome, OnOk, subst, sym, ap, ◌∙◌}
use Rattle.std.specs.Io.KnownBytes.{Appends, Keeps, append_known}
use Rattle.std.proofs.lemmas.List.{append-nil, append_assoc, map-append, take_more}
use Rattle.std.proofs.lemmas.Grind.{flat_map-append}
use Rattle.halls.specs.declared.printing.Reply.{Reply as PrintedReply}
use Rattle.halls.specs.Scripts.{Course, script_of}
use Rattle.halls.specs.Said.{Reply, reply_of, reply_text, lines_text}
use Rattle.halls.specs.Replies.{replies_of, printed_for}

-- what a writer holds once the replies to all that a reader had are printed
pub printed_input : {E : Type 0} (r : Result (Unit {0}) E) (known old new : Option (List ℕ)) (start items text : List ℕ) (course : Course) (rs : List Reply) → start ≡ []
    → IfSome known (λ xs. items ≡ start ++ xs) → text ≡ items → course ≡ script_of text → rs ≡ replies_of course → OnOk r (Appends old new (lines_text rs))
    → OnOk r (IfSome known (λ xs. Appends old new (printed_for xs)))
printed_input (Err e) known old new start items text course rs p k q s a h = tt
printed_input (Ok u) None old new start items text course rs p k q s a h = tt
printed_input (Ok u) (Some xs) old new start items text course rs p k q s a h =
    subst (Appends old new) (ap lines_text (a ∙ ap replies_of (s ∙ ap script_of (q ∙ k ∙ ap (λ o. o ++ xs) p)))) h

-- what a writer holds, with the block that is not yet written, once a line more stands in it and the block is handed on, or not
pub printed_more : (old cur new : Option (List ℕ)) (block longer left lines line : List ℕ) → Appends old (append_known cur block) lines → longer ≡ block ++ line → Keeps (append_known cur longer) (append_known new left)
    → Appends old (append_known new left) (lines ++ line)
printed_more None cur new block longer left lines line h e k = tt
printed_more (Some o) None new block longer left lines line h e k = absurd h
printed_more (Some o) (Some c) None block longer left lines line h e k = absurd k
printed_more (Some o) (Some c) (Some n) block longer left lines line h e k =
    k ∙ ap (λ xs. c ++ xs) e ∙ sym (append_assoc c block line) ∙ ap (λ xs. xs ++ line) h ∙ append_assoc o lines line

-- the lines of a reply more
pub lines_more : (rs : List PrintedReply) (i : ℕ) (d : PrintedReply) → i < length rs → lines_text (map reply_of (take i rs)) ++ (reply_text (reply_of (get_or rs i d)) ++ 10 ∷ []) ≡ lines_text (map reply_of (take (i + 1) rs))
lines_more rs i d h =
    let line = reply_text (reply_of (get_or rs i d)) ++ 10 ∷ [] in
    let so_far = map reply_of (take i rs) in
    sym
    (ap (λ xs. lines_text (map reply_of xs)) (take_more rs i d h) ∙ ap lines_text (map-append reply_of (take i rs) (get_or rs i d ∷ []))
    ∙ flat_map-append (λ r. reply_text r ++ 10 ∷ []) so_far (reply_of (get_or rs i d) ∷ []) ∙ ap (λ xs. lines_text so_far ++ xs) (append-nil line))
