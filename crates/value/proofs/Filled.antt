-- One write after another into a buffer. Assumes nothing.
use Rattle.std.proofs.Common.{◌≡◌, ℕ, suc, ◌+◌, ◌-◌, ◌*◌, ◌<◌, ◌≤◌, leb, List, [], ◌∷◌, ◌++◌, length, get_or, take, drop, sym, ap, ◌∙◌, subst, suc-mul, zero-mul, add-one, arith}
use borrow.Rule.Slice.PartMut.{put_mid}
use Rattle.std.specs.List.{flat_map}
use Rattle.std.proofs.lemmas.List.{append-nil, append_assoc, length-append, length-drop, take_at, drop_at, drop-drop, drop_all, take_rest, take_more, take_all, flat_map_more}
use Rattle.std.proofs.lemmas.Nat.{mul-le}
use Rattle.std.proofs.lemmas.Bool.{cond-true, cond-false, le-leb, lt-leb}
use Rattle.value.specs.Written.{granted, onto, written}

-- an answer is granted where it has room, and else nothing is
pub granted_all : (before answer : List ℕ) → length answer ≤ length before → granted before answer ≡ answer
granted_all before answer h = cond-true (leb (length answer) (length before)) answer [] (le-leb (length answer) (length before) h)

pub granted_none : (before answer : List ℕ) → length before < length answer → granted before answer ≡ []
granted_none before answer h = cond-false (leb (length answer) (length before)) answer [] (lt-leb (length answer) (length before) h)

-- out holds an answer, and past it what stood there before
abbrev pub Holds : List ℕ → List ℕ → List ℕ → Type 0
Holds before answer out = out ≡ onto answer before

-- a write right after an answer
holds_more : (before front tail out last : List ℕ) (n : ℕ) → Holds before front out → n ≡ length front → last ≡ onto tail (take (length out - n) (drop n out)) → Holds before (front ++ tail) (put_mid n (length out - n) out last)
holds_more before front tail out last n h e w =
    let past = ap (drop n) h ∙ drop_at front (drop (length front) before) n (sym e) in
    let start = ap (take n) h ∙ take_at front (drop (length front) before) n (sym e) in
    let none = drop_all (length out - n) (drop n out) (omega (arith, length-drop n out)) in
    let body = w ∙ ap (onto tail) (take_rest out n ∙ past) ∙ ap (λ l. tail ++ l) (drop-drop (length tail) (length front) before) in
    (λ i. start i ++ (body i ++ none i))
    ∙ ap (λ l. front ++ l) (append-nil (tail ++ drop (length front + length tail) before))
    ∙ sym (append_assoc front tail (drop (length front + length tail) before))
    ∙ ap (λ m. (front ++ tail) ++ drop m before) (sym (length-append front tail))

pub holds_length : (before answer out : List ℕ) → length answer ≤ length before → Holds before answer out → length out ≡ length before
holds_length before answer out h e = omega (arith, ap length e, length-append answer (drop (length answer) before), length-drop (length answer) before)

-- the same where the write is one that asks for room, and has it
pub record More (before front tail out last : List ℕ) (n k : ℕ) : Type 0 where
  pub holds : Holds before (front ++ tail) (put_mid n (length out - n) out last)
  pub count : n + k ≡ length front + length tail

pub more : (before front tail out last : List ℕ) (n k : ℕ) → Holds before front out → n ≡ length front → length front + length tail ≤ length before → k ≡ length (granted (take (length out - n) (drop n out)) tail) → last ≡ written (take (length out - n) (drop n out)) tail → More before front tail out last n k
more before front tail out last n k h e room c w =
    let part = take (length out - n) (drop n out) in
    let long = holds_length before front out (omega arith) h in
    let wide : length part ≡ length out - n = ap length (take_rest out n) ∙ length-drop n out in
    let all = granted_all part tail (omega arith) in
    record {
      holds = holds_more before front tail out last n h e (w ∙ ap (λ a. onto a part) all);
      count = omega (arith, c ∙ ap length all);
    }

-- the first i of the values vs are written, in n bytes, each in so many
pub record Block {X : Type 0} (f : X → List ℕ) (wide : ℕ) (vs : List X) (before : List ℕ) (i n : ℕ) (out : List ℕ) : Type 0 where
  pub holds : Holds before (flat_map f (take i vs)) out
  pub count : n ≡ length (flat_map f (take i vs))
  pub size : n ≡ i * wide

pub block_all : {X : Type 0} (f : X → List ℕ) (wide : ℕ) (vs : List X) (before : List ℕ) (i n : ℕ) (out : List ℕ) → length vs ≤ i → Block f wide vs before i n out → (n ≡ length (flat_map f vs)) × Holds before (flat_map f vs) out
block_all f wide vs before i n out h b = subst (λ l. (n ≡ length (flat_map f l)) × Holds before (flat_map f l) out) (take_all i vs h) (b.count, b.holds)

-- one value more, and its end
pub block_more : {X : Type 0} (value : X → List ℕ) (end : List ℕ) (wide : ℕ) → ((v : X) → length (value v) ≡ wide) → (vs : List X) (before : List ℕ) (i n k j : ℕ) (out first last : List ℕ) (d : X) → i < length vs → length vs * (wide + length end) ≤ length before → Block (λ v. value v ++ end) (wide + length end) vs before i n out → k ≡ length (granted (take (length out - n) (drop n out)) (value (get_or vs i d))) → first ≡ written (take (length out - n) (drop n out)) (value (get_or vs i d)) → (let mid = put_mid n (length out - n) out first in j ≡ length (granted (take (length mid - (n + k)) (drop (n + k) mid)) end)) → (let mid = put_mid n (length out - n) out first in last ≡ written (take (length mid - (n + k)) (drop (n + k) mid)) end) → (let mid = put_mid n (length out - n) out first in Block (λ v. value v ++ end) (wide + length end) vs before (i + 1) (n + k + j) (put_mid (n + k) (length mid - (n + k)) mid last))
block_more {X} value end wide long vs before i n k j out first last d h room b c w c' w' =
    let f = λ (v : X). value v ++ end in
    let v = get_or vs i d in
    let all = wide + length end in
    let front = flat_map f (take i vs) in
    let mid = put_mid n (length out - n) out first in
    let size = length-append front (value v) in
    let fits : n + all ≤ length before = omega (arith, b.size, mul-le (suc i) all (length vs) all h (omega arith), suc-mul i all) in
    let one = more before front (value v) out first n k b.holds b.count (omega (arith, b.count, long v)) c w in
    let both = more before (front ++ value v) end mid last (n + k) j one.holds (one.count ∙ sym size) (omega (arith, size, b.count, long v)) c' w' in
    let grown = append_assoc front (value v) end ∙ flat_map_more f [] (take i vs) v ∙ ap (flat_map f) (sym (take_more vs i d h)) in
    record {
      holds = subst (λ answer. Holds before answer (put_mid (n + k) (length mid - (n + k)) mid last)) grown both.holds;
      count = both.count ∙ sym (length-append (front ++ value v) end) ∙ ap length grown;
      size = omega (arith, both.count, size, long v, b.count, b.size, suc-mul i all, ap (λ m. m * all) (add-one i));
    }

pub length_joined : {X : Type 0} (f : X → List ℕ) (wide : ℕ) → ((v : X) → length (f v) ≡ wide) → (vs : List X) → length (flat_map f vs) ≡ length vs * wide
length_joined f wide long [] = sym (zero-mul wide)
length_joined f wide long (v ∷ vs) = omega (arith, length-append (f v) (flat_map f vs), long v, length_joined f wide long vs, suc-mul (length vs) wide)
