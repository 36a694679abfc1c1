-- What becomes of the pieces that a receiver holds as one arrives: each is given up, still held, or part of an SDU that is
-- whole.
use Rattle.std.proofs.Common.{◌≡◌, ◌≢◌, ℕ, zero, suc, ◌+◌, ◌<◌, ◌≤◌, List, [], ◌∷◌, ◌++◌, length, append_assoc, Bool, true, false, not, cond, ◌&&◌, ◌||◌, eqb, leb, ltb, Option, Some, None, refl, sym, ◌∙◌, ap, subst, arith, inl, inr, ◌⊎◌}
use Rattle.std.proofs.lemmas.Bool.{and_parts, cases_eq, cases_lt, eqb-true, le-leb, lt-leb}
use Rattle.rina_account.specs.declared.ledger.Off.{Off}
use Rattle.rina_base.specs.declared.cause.Cause.{Cause}
use Rattle.rina_base.specs.declared.cause.Cause.TheVariants as causes
use Rattle.rina_base.specs.declared.pdu.Pdu.{Pdu}
use Rattle.rina_base.specs.declared.pdu.PduKind.TheVariants.{Piece as APiece}
use Rattle.rina_base.specs.Pdus.{number_by}
use Rattle.rina_cube.specs.declared.Kind.{Kind}
use Rattle.rina_cube.specs.declared.Kind.TheVariants.{Datagram, Loose, Reliable}
use Rattle.rina_dif_law.specs.Counting.{joiner_numbers, numbers_from, off_numbers, times, whole_numbers}
use Rattle.rina_dif_law.specs.Incoming.{by_joiner, lines_for, missing_for}
use Rattle.rina_dtp.specs.declared.gap.Lost.{Lost}
use Rattle.rina_dtp.specs.Lost as dtp
use Rattle.rina_dtp.specs.Lost.{given_up, itself, lost_after, lost_held, lost_with, missing_before}
use Rattle.rina_law.specs.Lists.{In, has, highest}
use Rattle.rina_law.specs.Pieces.{Joined, Joiner, Part, Sdu, empty_joiner, finished, goes_on, joined_with, with_part}
use Rattle.rina_law.specs.Receiver as law
use Rattle.rina_law.specs.Receiver.{Piece, Receiver, from_on, joined_after, joined_held, next_of, numbers, part_in, present_verdict, receiver_after, verdict, verdict_by_state, with_held, with_room}
use Rattle.rina_law.proofs.Arrived.{absent_cases, never}
use Rattle.rina_law.proofs.Arriving.{room_accepted}
use Rattle.rina_law.proofs.Lists.{has-in, has-not}
use Rattle.rina_flows.specs.Tied.{HoldsOnce}
use Rattle.rina_flows.proofs.Times.{from_above, from_last, from_none, from_on_times, from_one, from_same, in_times, one, one_other, one_same, times-append, times_none}

-- The numbers of pieces that are given up

abbrev pub lost_numbers : List Lost → List ℕ
lost_numbers [] = []
lost_numbers (l ∷ ls) = l.number ∷ lost_numbers ls

pub lost-append : (ls ms : List Lost) → lost_numbers (ls ++ ms) ≡ lost_numbers ls ++ lost_numbers ms
lost-append [] ms = refl
lost-append (l ∷ ls) ms = ap (λ ns. l.number ∷ ns) (lost-append ls ms)

pub off-append : (xs ys : List Off) → off_numbers (xs ++ ys) ≡ off_numbers xs ++ off_numbers ys
off-append [] ys = refl
off-append (x ∷ xs) ys = ap (λ ns. x.key.seq ∷ ns) (off-append xs ys)

pub lost_with_numbers : (missing : ℕ) (ns : List ℕ) → lost_numbers (lost_with missing ns) ≡ ns
lost_with_numbers missing [] = refl
lost_with_numbers missing (n ∷ ns) = ap (λ xs. n ∷ xs) (lost_with_numbers missing ns)

lost_joiner : (missing : ℕ) (j : Joiner) → lost_numbers (lost_with missing (dtp.numbers_from j.from j.count)) ≡ joiner_numbers j
lost_joiner missing j = lost_with_numbers missing (dtp.numbers_from j.from j.count) ∙ from_same j.from j.count

whole-append : (xs ys : List Sdu) → whole_numbers (xs ++ ys) ≡ whole_numbers xs ++ whole_numbers ys
whole-append [] ys = refl
whole-append (x ∷ xs) ys = ap (λ ns. numbers_from x.first x.pieces ++ ns) (whole-append xs ys) ∙ sym (append_assoc (numbers_from x.first x.pieces) (whole_numbers xs) (whole_numbers ys))

-- One piece more

finished_times : (k : ℕ) (b : Bool) (j : Joiner) (whole : List Sdu) → times k (joiner_numbers (finished b j whole).joiner) + times k (whole_numbers (finished b j whole).whole) ≡ times k (joiner_numbers j) + times k (whole_numbers whole)
finished_times k true j whole =
    let last : List Sdu = record { first = j.from; pieces = j.count; bytes = j.bytes } ∷ [] in
    let e = ap (times k) (whole-append whole last) in
    let f = times-append k (whole_numbers whole) (whole_numbers last) in
    let g = times-append k (joiner_numbers j) [] in
    omega arith
finished_times k false j whole = refl

-- the joiner with the piece, and what is given up for it
part_times : (k n : ℕ) (part : Part) (j : Joiner) → times k (joiner_numbers (with_part n part j)) + times k (lost_numbers (given_up n part j)) + times k (lost_numbers (itself n part j)) ≡ times k (joiner_numbers j) + one k n
part_times k n part j = go part.begins (goes_on n j) refl
  where
    go : (b t : Bool) → goes_on n j ≡ t →
        times k (joiner_numbers (cond b (record { from = n; count = 1; bytes = part.body }) (cond t (record { from = j.from; count = j.count + 1; bytes = j.bytes ++ part.body }) empty_joiner)))
        + times k (lost_numbers (cond (b || not t) (lost_with (missing_before n j) (dtp.numbers_from j.from j.count)) []))
        + times k (lost_numbers (cond (not b && not t) (record { number = n; missing = missing_before n j } ∷ []) [])) ≡ times k (joiner_numbers j) + one k n
    go true t e = (let all = ap (times k) (lost_joiner (missing_before n j) j) in omega arith)
    go false true e =
        let next : j.from + j.count ≡ n = eqb-true (j.from + j.count) n ((and_parts (ltb 0 j.count) (eqb (j.from + j.count) n) e).1) in
        let last = from_last k j.from j.count in
        let same = ap (one k) next in
        omega arith
    go false false e = (let all = ap (times k) (lost_joiner (missing_before n j) j) in omega arith)

joined_times : (k n : ℕ) (part : Part) (j : Joined) → times k (joiner_numbers (joined_with n part j).joiner) + times k (whole_numbers (joined_with n part j).whole) + times k (lost_numbers (given_up n part j.joiner)) + times k (lost_numbers (itself n part j.joiner)) ≡ times k (joiner_numbers j.joiner) + times k (whole_numbers j.whole) + one k n
joined_times k n part j =
    let a = finished_times k (part.ends && ltb 0 (with_part n part j.joiner).count) (with_part n part j.joiner) j.whole in
    let b = part_times k n part j.joiner in
    omega arith

-- The held pieces that follow

-- how many they are
follow_count : ℕ → ℕ → List ℕ → ℕ
follow_count zero n held = 0
follow_count (suc steps) n held = cond (has n held) (suc (follow_count steps (n + 1) held)) 0

held_times : (k steps n : ℕ) (held : List Piece) (j : Joined) → times k (joiner_numbers (joined_held steps n held j).joiner) + times k (whole_numbers (joined_held steps n held j).whole) + times k (lost_numbers (lost_held steps n held j)) ≡ times k (joiner_numbers j.joiner) + times k (whole_numbers j.whole) + times k (numbers_from n (follow_count steps n (numbers held)))
unfolding follow_count
held_times k zero n held j = refl
held_times k (suc steps) n held j =
    let j' : Joined = joined_with n (part_in n held) j in
    let gone : List Lost = given_up n (part_in n held) j.joiner in
    let own : List Lost = itself n (part_in n held) j.joiner in
    let later : List Lost = lost_held steps (n + 1) held j' in
    let step = joined_times k n (part_in n held) j in
    let rest = held_times k steps (n + 1) held j' in
    let all : times k (lost_numbers (gone ++ own ++ later)) ≡ times k (lost_numbers gone) + times k (lost_numbers own) + times k (lost_numbers later) =
    (let a = ap (times k) (lost-append (gone ++ own) later) in
    let b = times-append k (lost_numbers (gone ++ own)) (lost_numbers later) in
    let c = ap (times k) (lost-append gone own) in
    let d = times-append k (lost_numbers gone) (lost_numbers own) in
    omega arith) in
    go (has n (numbers held)) (omega arith)
  where
    go : (b : Bool) →
        times k (joiner_numbers (joined_held steps (n + 1) held (joined_with n (part_in n held) j)).joiner) + times k (whole_numbers (joined_held steps (n + 1) held (joined_with n (part_in n held) j)).whole)
        + times k (lost_numbers (given_up n (part_in n held) j.joiner ++ itself n (part_in n held) j.joiner ++ lost_held steps (n + 1) held (joined_with n (part_in n held) j)))
        ≡ times k (joiner_numbers j.joiner) + times k (whole_numbers j.whole) + (one k n + times k (numbers_from (n + 1) (follow_count steps (n + 1) (numbers held)))) →
        times k (joiner_numbers (cond b (joined_held steps (n + 1) held (joined_with n (part_in n held) j)) j).joiner) + times k (whole_numbers (cond b (joined_held steps (n + 1) held (joined_with n (part_in n held) j)) j).whole)
        + times k (lost_numbers (cond b (given_up n (part_in n held) j.joiner ++ itself n (part_in n held) j.joiner ++ lost_held steps (n + 1) held (joined_with n (part_in n held) j)) []))
        ≡ times k (joiner_numbers j.joiner) + times k (whole_numbers j.whole) + times k (numbers_from n (cond b (suc (follow_count steps (n + 1) (numbers held))) 0))
    go true h = h
    go false h = refl

follow_length : (steps n : ℕ) (held list : List ℕ) → length (with_held steps n held list) ≡ length list + follow_count steps n held
unfolding follow_count
follow_length zero n held list = omega arith
follow_length (suc steps) n held list = go (has n held) (follow_length steps (n + 1) held (n ∷ list))
  where
    go : (b : Bool) → length (with_held steps (n + 1) held (n ∷ list)) ≡ suc (length list) + follow_count steps (n + 1) held → length (cond b (with_held steps (n + 1) held (n ∷ list)) list) ≡ length list + cond b (suc (follow_count steps (n + 1) held)) 0
    go true h = omega arith
    go false h = omega arith

follow_has : (steps n : ℕ) (held : List ℕ) (k : ℕ) → n ≤ k → k < n + follow_count steps n held → In k held
unfolding follow_count
follow_has zero n held k le lt = absurd (omega arith)
follow_has (suc steps) n held k le lt = go (has n held) refl (λ a b. follow_has steps (n + 1) held k a b) lt
  where
    go : (b : Bool) → has n held ≡ b → (n + 1 ≤ k → k < n + 1 + follow_count steps (n + 1) held → In k held) → k < n + cond b (suc (follow_count steps (n + 1) held)) 0 → In k held
    go true e rest lt' = elim (cases_lt n k) [
      | inl more ↦ rest (omega arith) (omega arith)
      | inr less ↦ (let same : n ≡ k = omega arith in has-in k held (sym (ap (λ m. has m held) same) ∙ e))
    ]
    go false e rest lt' = absurd (omega arith)

-- What a receiver holds

-- those that follow are joined, and those behind them stay
split_times : (k n count : ℕ) (held : List Piece) → times k (numbers held) ≤ 1 → ((i : ℕ) → In i (numbers held) → n ≤ i) → ((i : ℕ) → n ≤ i → i < n + count → In i (numbers held)) → times k (numbers held) ≡ times k (numbers_from n count) + times k (numbers (from_on (n + count) held))
split_times k n count held once above there =
    let rest = from_on_times k (n + count) held in
    elim (cases_lt k n) [
      | inl below ↦
          let none = times_none k (numbers held) (λ i. (let le = above k i in omega arith)) in
          let none' = from_none k n count below in
          by_cond (leb (n + count) k) rest (omega arith) (omega arith)
      | inr behind ↦ elim (cases_lt k (n + count)) [
        | inl within ↦
            let some = in_times k (numbers held) (there k behind within) in
            let is_one = from_one k n count behind within in
            let out : leb (n + count) k ≡ false = lt-leb (n + count) k within in
            let zero' : times k (numbers (from_on (n + count) held)) ≡ 0 = rest ∙ ap (λ b. cond b (times k (numbers held)) 0) out in
            omega arith
        | inr above' ↦
            let none = from_above k n count above' in
            let all : times k (numbers (from_on (n + count) held)) ≡ times k (numbers held) = rest ∙ ap (λ b. cond b (times k (numbers held)) 0) (le-leb (n + count) k above') in
            omega arith
      ]
    ]
  where
    by_cond : (b : Bool) → times k (numbers (from_on (n + count) held)) ≡ cond b (times k (numbers held)) 0 → times k (numbers held) ≡ 0 → times k (numbers_from n count) ≡ 0 → times k (numbers held) ≡ times k (numbers_from n count) + times k (numbers (from_on (n + count) held))
    by_cond true e a b = omega arith
    by_cond false e a b = omega arith

-- The row

-- the number of a piece that is written off as it comes, if it is
abbrev pub own_numbers : ℕ → Option Cause → List ℕ
own_numbers n None = []
own_numbers n (Some cause) = n ∷ []

pub own_lines : (pdu : Pdu) (o : Option Cause) → pdu.kind ≡ APiece → off_numbers (lines_for pdu o) ≡ own_numbers pdu.seq o
own_lines pdu None kind = refl
own_lines pdu (Some cause) kind = ap (λ k. number_by k pdu.seq pdu.ack ∷ []) kind

-- by the machine's verdict
abbrev pub written_off_by : law.Verdict → Piece → Joiner → List ℕ
written_off_by law.Accepted p j = own_numbers p.number (by_joiner p j)
written_off_by law.Held p j = []
written_off_by v p j = p.number ∷ []

own_itself : (p : Piece) (j : Joiner) → own_numbers p.number (by_joiner p j) ≡ lost_numbers (itself p.number p.part j)
own_itself p j = go p.part.begins (goes_on p.number j)
  where
    go : (b t : Bool) → own_numbers p.number (cond b None (cond t None (Some (causes.Broken (missing_for p j))))) ≡ lost_numbers (cond (not b && not t) (record { number = p.number; missing = missing_before p.number j } ∷ []) [])
    go true t = refl
    go false true = refl
    go false false = refl

-- a reliable receiver accepts the next number alone
accepts_next : (m : Receiver) (n : ℕ) → present_verdict Reliable m n ≡ law.Accepted → n ≡ next_of m
accepts_next m n v = go (ltb n (next_of m) || has n (numbers m.held)) (eqb n (next_of m)) refl v
  where
    go : (b t : Bool) → eqb n (next_of m) ≡ t → cond b law.Duplicate (cond t law.Accepted law.Held) ≡ law.Accepted → n ≡ next_of m
    go true t e is = absurd cc
    go false true e is = eqb-true n (next_of m) e
    go false false e is = absurd cc

abbrev RowSettles : law.Verdict → Kind → Bool → ℕ → Piece → Receiver → Joiner → ℕ → Type 0
RowSettles v kind present now p m j k =
    one k p.number + (times k (joiner_numbers j) + times k (numbers m.held)) ≡
    times k (lost_numbers (lost_after v kind present p m.held j)) + times k (written_off_by v p j) + (times k (joiner_numbers (joined_after v kind present p m.held j).joiner) + times k (numbers (receiver_after v kind present now p m).held)) + times k (whole_numbers (joined_after v kind present p m.held j).whole)

-- on a flow that holds no pieces beside the joiner
plain_row : (kind : Kind) (now k : ℕ) (p : Piece) (m : Receiver) (j : Joiner) → kind ≢ Reliable → HoldsOnce kind m → RowSettles law.Accepted kind true now p m j k
plain_row Reliable now k p m j ne h = absurd (ne refl)
plain_row Datagram now k p m j ne h =
    let start : Joined = record { joiner = j; whole = [] } in
    let a = joined_times k p.number p.part start in
    let b = ap (times k) (own_itself p j) in
    let c = ap (times k) (lost-append (given_up p.number p.part j) []) in
    let d = times-append k (lost_numbers (given_up p.number p.part j)) [] in
    let e = ap (λ (hs : List Piece). times k (numbers hs)) (h.only ne) in
    let f = ap (λ (hs : List Piece). times k (numbers (from_on (m.base + length (p.number ∷ m.accepted)) hs))) (h.only ne) in
    omega arith
plain_row Loose now k p m j ne h =
    let start : Joined = record { joiner = j; whole = [] } in
    let a = joined_times k p.number p.part start in
    let b = ap (times k) (own_itself p j) in
    let c = ap (times k) (lost-append (given_up p.number p.part j) []) in
    let d = times-append k (lost_numbers (given_up p.number p.part j)) [] in
    let e = ap (λ (hs : List Piece). times k (numbers hs)) (h.only ne) in
    let f = ap (λ (hs : List Piece). times k (numbers (from_on (m.base + length (p.number ∷ m.accepted)) hs))) (h.only ne) in
    omega arith

-- on a reliable flow
reliable_row : (now k : ℕ) (p : Piece) (m : Receiver) (j : Joiner) → p.number ≡ next_of m → HoldsOnce Reliable m → ((i : ℕ) → In i (numbers m.held) → next_of m < i) → RowSettles law.Accepted Reliable true now p m j k
reliable_row now k p m j next h above =
    let n : ℕ = p.number in
    let steps : ℕ = highest (numbers m.held) in
    let j' : Joined = joined_with n p.part (record { joiner = j; whole = [] }) in
    let count : ℕ = follow_count steps (n + 1) (numbers m.held) in
    let a = joined_times k n p.part (record { joiner = j; whole = [] }) in
    let b = ap (times k) (own_itself p j) in
    let c = held_times k steps (n + 1) m.held j' in
    let gone : List Lost = given_up n p.part j in
    let later : List Lost = lost_held steps (n + 1) m.held j' in
    let d = ap (times k) (lost-append gone later) in
    let e = times-append k (lost_numbers gone) (lost_numbers later) in
    let long = follow_length steps (n + 1) (numbers m.held) (n ∷ m.accepted) in
    let reach : m.base + length (with_held steps (n + 1) (numbers m.held) (n ∷ m.accepted)) ≡ n + 1 + count = omega arith in
    let stay = ap (λ (i : ℕ). times k (numbers (from_on i m.held))) reach in
    let split = split_times k (n + 1) count m.held (h.once k) (λ i x. (let lt = above i x in omega arith)) (λ i le lt. follow_has steps (n + 1) (numbers m.held) i le lt) in
    omega arith

-- where a state is new
fresh_row : (kind : Kind) (now k : ℕ) (p : Piece) (m : Receiver) (j : Joiner) → j ≡ empty_joiner → m.held ≡ [] → RowSettles law.Accepted kind false now p m j k
fresh_row kind now k p m j empty none =
    let start : Joined = record { joiner = empty_joiner; whole = [] } in
    let a = joined_times k p.number p.part start in
    let b = ap (times k) (own_itself p empty_joiner) in
    let e = ap (λ (x : Joiner). times k (own_numbers p.number (by_joiner p x))) empty in
    let f = ap (λ (x : Joiner). times k (joiner_numbers x)) empty in
    let g = ap (λ (hs : List Piece). times k (numbers hs)) none in
    let given : times k (lost_numbers (given_up p.number p.part empty_joiner)) ≡ 0 = none_given (p.part.begins || not (goes_on p.number empty_joiner)) in
    omega arith
  where
    none_given : (b : Bool) → times k (lost_numbers (cond b [] [])) ≡ 0
    none_given true = refl
    none_given false = refl

-- what a row may take as given: where no state stands nothing is held, and a reliable state holds what is above its next
-- number
pub record IsReady (kind : Kind) (present : Bool) (m : Receiver) (j : Joiner) : Type 0 where
  pub holds : HoldsOnce kind m
  pub above : present ≡ true → kind ≡ Reliable → (i : ℕ) → In i (numbers m.held) → next_of m < i
  pub empty : present ≡ false → j ≡ empty_joiner
  pub none : present ≡ false → m.held ≡ []

kind_is : (kind : Kind) → (kind ≡ Reliable) ⊎ (kind ≢ Reliable)
kind_is Datagram = inr (λ e. cc)
kind_is Loose = inr (λ e. cc)
kind_is Reliable = inl refl

pub row_settles : (v : law.Verdict) (kind : Kind) (present room : Bool) (now k : ℕ) (p : Piece) (m : Receiver) (j : Joiner) → v ≡ verdict kind present m p room → IsReady kind present m j → RowSettles v kind present now p m j k
row_settles law.Accepted kind true room now k p m j v r = elim (kind_is kind) [
  | inl is ↦
      let V : Kind → Type 0 = λ x. verdict_by_state x true m p ≡ law.Accepted in
      let known : V Reliable = subst V is (room_accepted room _ (sym v)) in
      let P : Kind → Type 0 = λ x. RowSettles law.Accepted x true now p m j k in
      let H : Kind → Type 0 = λ x. HoldsOnce x m in
      subst P (sym is) (reliable_row now k p m j (accepts_next m p.number known) (subst H is r.holds) (r.above refl is))
  | inr ne ↦ plain_row kind now k p m j ne r.holds
]
row_settles law.Accepted kind false room now k p m j v r = fresh_row kind now k p m j (r.empty refl) (r.none refl)
row_settles law.Held kind present room now k p m j v r = omega arith
row_settles law.Duplicate kind present room now k p m j v r = omega arith
row_settles law.Behind kind present room now k p m j v r = omega arith
row_settles law.NoState kind present room now k p m j v r = omega arith
row_settles law.NoRoom kind present room now k p m j v r = omega arith

-- and what is held after it is held once

held_fresh : (kind : Kind) (room : Bool) (m : Receiver) (p : Piece) → law.Held ≡ verdict kind true m p room → (kind ≡ Reliable) × (has p.number (numbers m.held) ≡ false)
held_fresh kind room m p v = by_room room v
  where
    reliable : (b h t : Bool) → cond (b || h) law.Duplicate (cond t law.Accepted law.Held) ≡ law.Held → h ≡ false
    reliable true h t is = absurd cc
    reliable false true t is = absurd cc
    reliable false false t is = refl

    datagram : (b h : Bool) → cond b law.Behind (cond h law.Duplicate law.Accepted) ≡ law.Held → ⊥
    datagram true h is = cc
    datagram false true is = cc
    datagram false false is = cc

    loose : (b : Bool) → cond b law.Accepted law.Behind ≡ law.Held → ⊥
    loose true is = cc
    loose false is = cc

    by_kind : (x : Kind) → present_verdict x m p.number ≡ law.Held → (x ≡ Reliable) × (has p.number (numbers m.held) ≡ false)
    by_kind Datagram is = absurd (datagram (leb (p.number + 4096) (highest m.accepted)) (has p.number m.accepted) is)
    by_kind Loose is = absurd (loose (ltb (highest m.accepted) p.number) is)
    by_kind Reliable is = (refl, reliable (ltb p.number (next_of m)) (has p.number (numbers m.held)) (eqb p.number (next_of m)) is)

    no_room : (x : law.Verdict) → law.Held ≡ with_room false x → ⊥
    no_room law.Accepted is = cc
    no_room law.Held is = cc
    no_room law.Duplicate is = cc
    no_room law.Behind is = cc
    no_room law.NoState is = cc
    no_room law.NoRoom is = cc

    by_room : (r : Bool) → law.Held ≡ verdict kind true m p r → (kind ≡ Reliable) × (has p.number (numbers m.held) ≡ false)
    by_room true is = by_kind kind (sym is)
    by_room false is = absurd (no_room (present_verdict kind m p.number) is)

less_on : (k b : ℕ) (hs : List Piece) → times k (numbers (from_on b hs)) ≤ times k (numbers hs)
less_on k b hs = go (leb b k) (from_on_times k b hs)
  where
    go : (c : Bool) → times k (numbers (from_on b hs)) ≡ cond c (times k (numbers hs)) 0 → times k (numbers (from_on b hs)) ≤ times k (numbers hs)
    go true e = omega arith
    go false e = omega arith

pub once_after : (v : law.Verdict) (kind : Kind) (present room : Bool) (now : ℕ) (p : Piece) (m : Receiver) → v ≡ verdict kind present m p room → HoldsOnce kind m → HoldsOnce kind (receiver_after v kind present now p m)
once_after law.Accepted kind true room now p m v h = record {
  once = λ k. (let le = less_on k (m.base + length (law.with_accepted kind (numbers m.held) p.number m.accepted)) m.held in let once = h.once k in omega arith);
  only = λ ne. ap (from_on (m.base + length (law.with_accepted kind (numbers m.held) p.number m.accepted))) (h.only ne);
}
once_after law.Accepted kind false room now p m v h = record { once = λ k. omega arith; only = λ ne. refl }
once_after law.Held kind true room now p m v h =
    let f = held_fresh kind room m p v in
    record {
      once = λ k. elim (cases_eq k p.number) [
        | inl e ↦
            let o = one_same k p.number e in
            let none = times_none k (numbers m.held) (λ i. has-not k (numbers m.held) (ap (λ x. has x (numbers m.held)) e ∙ f.1) i) in
            omega arith
        | inr ne ↦ (let o = one_other k p.number ne in let once = h.once k in omega arith)
      ];
      only = λ ne. absurd (ne f.0);
    }
once_after law.Held kind false room now p m v h = absurd (never _ _ v (absent_cases kind room p.drf) (inl refl))
once_after law.Duplicate kind present room now p m v h = record { once = h.once; only = h.only }
once_after law.Behind kind present room now p m v h = record { once = h.once; only = h.only }
once_after law.NoState kind present room now p m v h = h
once_after law.NoRoom kind present room now p m v h = h
