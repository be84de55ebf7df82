use Rattle.std.proofs.Common.{◌≡◌, ℕ, ◌≤◌, Bool, cond, List, [], ◌++◌, length, drop, sym, ap, ◌∙◌, arith}
use Rattle.std.proofs.lemmas.Bool.{le-ltb, le-leb}
use Rattle.value.specs.Written.{granted}
use Rattle.scale.specs.Hearing.{hears}
use Rattle.scale.proofs.Laws.{scale_laws}
use Rattle.scale.proofs.Sayings.{brief, silent}
use Rattle.scale.proofs.scale.Scale.hear.Goals as goal

pub returns-then-out-lt-ROOM-clause-brief : goal.returns-then-out-lt-ROOM-clause-brief
returns-then-out-lt-ROOM-clause-brief g c = brief

pub returns-then-out-lt-ROOM-clause-silent : goal.returns-then-out-lt-ROOM-clause-silent
returns-then-out-lt-ROOM-clause-silent g c = silent

pub returns-then-out-lt-ROOM-clause-laws : goal.returns-then-out-lt-ROOM-clause-laws
returns-then-out-lt-ROOM-clause-laws g c = scale_laws

-- what is short has room
granted_all : (out bytes : List ℕ) → length bytes ≤ 1088 → 1088 ≤ length out → granted out bytes ≡ bytes
granted_all out bytes h k = ap (λ (b : Bool). cond b bytes []) (le-leb (length bytes) (length out) (omega arith))

pub returns-clause-count : goal.returns-clause-count
returns-clause-count g c =
    let t = le-ltb (length c.args.out.now) 1088 c.if-out-lt-ROOM.false in
    let p = g.B.GaugeBank.shows c.args.bank.now c.args.address.number in
    let o = hears c.args.mode c.args.address.number c.args.heard c.args.self.now.state p in
    rw t (c.respond.ensures.count ∙ ap length (granted_all c.args.out.now o.says (brief c.args.mode c.args.address.number c.args.heard c.args.self.now.state p) c.if-out-lt-ROOM.false))

pub returns-clause-buffer : goal.returns-clause-buffer
returns-clause-buffer g c =
    let t = le-ltb (length c.args.out.now) 1088 c.if-out-lt-ROOM.false in
    let p = g.B.GaugeBank.shows c.args.bank.now c.args.address.number in
    let o = hears c.args.mode c.args.address.number c.args.heard c.args.self.now.state p in
    let all = granted_all c.args.out.now o.says (brief c.args.mode c.args.address.number c.args.heard c.args.self.now.state p) c.if-out-lt-ROOM.false in
    rw t (c.respond.ensures.buffer ∙ (λ i. all i ++ drop (length (granted c.args.out.now o.says)) c.args.out.now) ∙ ap (λ (n : ℕ). o.says ++ drop n c.args.out.now) (sym c.respond.ensures.count))

pub returns-clause-brief : goal.returns-clause-brief
returns-clause-brief g c = brief

pub returns-clause-silent : goal.returns-clause-silent
returns-clause-silent g c = silent

pub returns-clause-laws : goal.returns-clause-laws
returns-clause-laws g c = scale_laws
