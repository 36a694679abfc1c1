-- What a receiver does with a piece is the machine's row.
use Rattle.std.proofs.Common.{◌≡◌, ◌≢◌, ℕ, ◌+◌, ◌*◌, ◌^◌, ◌<◌, ◌≤◌, List, [], ◌∷◌, ◌++◌, length, Bool, true, false, cond, ◌||◌, eqb, leb, ltb, Option, Some, None, refl, sym, ◌∙◌, ap, subst, arith, inl, inr, ◌⊎◌}
use Rattle.std.proofs.lemmas.Bool.{ltb-true, ltb-false, lt-ltb, leb-false, eqb-true, eqb-false, cases_Bool, and_parts, false≢true}
use Rattle.std.proofs.lemmas.List.{append-nil}
use Rattle.rina_base.specs.declared.cause.Cause.{Cause}
use Rattle.rina_base.specs.declared.cause.Cause.TheVariants as cause
use Rattle.rina_base.specs.declared.pdu.Pdu.{Pdu}
use Rattle.rina_cube.specs.declared.Kind.{Kind}
use Rattle.rina_cube.specs.declared.Kind.TheVariants as kinds
use Rattle.rina_dtp.specs.declared.accepted.Accepted.{Accepted}
use Rattle.rina_dtp.specs.declared.accepted.Accepted.TheVariants.{Datagram, Loose, Reliable}
use Rattle.rina_dtp.specs.declared.source.Source.{Source}
use Rattle.rina_dtp.specs.declared.verdict.Verdict.{Verdict}
use Rattle.rina_dtp.specs.declared.verdict.Verdict.TheVariants.{Off}
use Rattle.rina_dtp.specs.Accepted.{kind_of, known_verdict, number_verdict, top_of}
use Rattle.rina_dtp.specs.Joins as joins
use Rattle.rina_dtp.specs.Joins.{Joins}
use Rattle.rina_dtp.specs.Lost.{missing_before, is_broken, joiner_for, told_accepted}
use Rattle.rina_dtp.specs.Receiving.{Receiving, present_at, lost_in, run_numbers, held_numbers, kept_numbers, end_cause, ended_with, broken_with, drops, cleared, start_join, verdict_for, IsAccepted, IsHeldIn, IsStep, Steps}
use Rattle.rina_dtp.specs.Ring.{has_number}
use Rattle.rina_dtp.specs.Shelf.{Shelved, holds, with_piece}
use Rattle.rina_dtp.specs.Source.{source_of}
use Rattle.rina_dtp.specs.Stands.{HasPlacesFor, reach_of, IsOf, IsJoiner, Knows, Stands, IsFetched, IsWelcome, verdict_of, joined_by, Came, IsRow}
use Rattle.rina_dtp.proofs.Placed.{length-with_piece}
use Rattle.rina_dtp.proofs.Recalling.{recalls_number}
use Rattle.rina_dtp.proofs.Settled.{First, first, Settled, IsNext, settle}
use Rattle.rina_dtp.proofs.Shelved.{holds_one_more}
use Rattle.rina_law.specs.Constants.{Constants, delta}
use Rattle.rina_law.specs.Lists.{has, highest}
use Rattle.rina_law.specs.Pdus.{piece_in}
use Rattle.rina_law.specs.Pieces.{Joiner, Sdu, HasRoomFor}
use Rattle.rina_law.specs.Receiver as law
use Rattle.rina_law.specs.Receiver.{Piece, Receiver, is_present, present_verdict, absent_verdict, verdict_by_state, with_room, receiver_after, AllHaveRoom}

-- The verdict

pub present_same : (c : Constants) (now : ℕ) (m : Receiver) (j : Joiner) (r : Receiving) → Stands c now m j r → is_present c now m ≡ present_at now r
present_same c now m j r st = rw (st.made, st.last_in, st.of.rest) refl

known_same : (a : Accepted) (m : Receiver) (n : ℕ) → Knows a m → present_verdict (kind_of a) m n ≡ known_verdict a n
known_same (Datagram r) m n k =
    let top = k.top in
    elim (cases_Bool (leb (n + 4096) r.top)) [
      | inl behind ↦ (rw (top, behind) refl)
      | inr recent ↦ (let lt = leb-false (n + 4096) r.top recent in let seen : has_number r n ≡ has n m.accepted = recalls_number m.accepted r n k lt in rw (top, recent, seen) refl)
    ]
known_same (Loose h) m n k = rw k refl
known_same (Reliable s) m n k = rw (k.0, (k.1).same n) refl

state_same : (a : Accepted) (m : Receiver) (p : Piece) (b : Bool) → (b ≡ true → Knows a m) → verdict_by_state (kind_of a) b m p ≡ number_verdict b a p.number p.drf
state_same a m p true k = known_same a m p.number (k refl)
state_same a m p false k = refl

pub verdict_same : (c : Constants) (now unpassed : ℕ) (m : Receiver) (j : Joiner) (r : Receiving) (p : Piece) → Stands c now m j r → verdict_of c now unpassed m p ≡ with_room (ltb unpassed r.window) (number_verdict (is_present c now m) r.accepted p.number p.drf)
verdict_same c now unpassed m j r p st =
    let room : ltb unpassed c.cube.window ≡ ltb unpassed r.window = ap (ltb unpassed) (sym st.of.window) in
    let state : verdict_by_state c.cube.kind (is_present c now m) m p ≡ number_verdict (is_present c now m) r.accepted p.number p.drf = ap (λ (k : Kind). verdict_by_state k (is_present c now m) m p) st.of.kind ∙ state_same r.accepted m p (is_present c now m) st.known in
    ap (λ b. with_room b (verdict_by_state c.cube.kind (is_present c now m) m p)) room ∙ ap (with_room (ltb unpassed r.window)) state

-- What the verdict tells of the numbers

accepted_next : (a : Accepted) (n : ℕ) (room : Bool) → with_room room (known_verdict a n) ≡ law.Accepted → IsNext a n
accepted_next (Datagram r) n room e = by_tests room (leb (n + 4096) r.top) (has_number r n) refl e
  where
    by_tests : (room late again : Bool) → leb (n + 4096) r.top ≡ late → with_room room (cond late law.Behind (cond again law.Duplicate law.Accepted)) ≡ law.Accepted → r.top < n + 4096
    by_tests true true again t e = absurd cc
    by_tests false true again t e = absurd cc
    by_tests room false again t e = leb-false (n + 4096) r.top t
accepted_next (Loose h) n room e = by_tests room (ltb h n) refl e
  where
    by_tests : (room above : Bool) → ltb h n ≡ above → with_room room (cond above law.Accepted law.Behind) ≡ law.Accepted → h < n
    by_tests room true t e = ltb-true h n t
    by_tests true false t e = absurd cc
    by_tests false false t e = absurd cc
accepted_next (Reliable s) n room e = by_tests room (ltb n s.next || holds s.places n) (eqb n s.next) refl e
  where
    by_tests : (room old now : Bool) → eqb n s.next ≡ now → with_room room (cond old law.Duplicate (cond now law.Accepted law.Held)) ≡ law.Accepted → n ≡ s.next
    by_tests true true now t e = absurd cc
    by_tests false true now t e = absurd cc
    by_tests room false true t e = eqb-true n s.next t
    by_tests true false false t e = absurd cc
    by_tests false false false t e = absurd cc

-- one that is held lies above the next number, and only a reliable receiver holds any
abbrev IsAbove : Accepted → ℕ → Type 0
IsAbove (Datagram r) n = ⊥
IsAbove (Loose h) n = ⊥
IsAbove (Reliable s) n = (s.next < n) × (holds s.places n ≡ false)

held_above : (a : Accepted) (n : ℕ) (room : Bool) → with_room room (known_verdict a n) ≡ law.Held → IsAbove a n
held_above (Datagram r) n room e = by_tests room (leb (n + 4096) r.top) (has_number r n) e
  where
    by_tests : (room late again : Bool) → with_room room (cond late law.Behind (cond again law.Duplicate law.Accepted)) ≡ law.Held → ⊥
    by_tests true true again e = cc
    by_tests false true again e = cc
    by_tests true false true e = cc
    by_tests false false true e = cc
    by_tests true false false e = cc
    by_tests false false false e = cc
held_above (Loose h) n room e = by_tests room (ltb h n) e
  where
    by_tests : (room above : Bool) → with_room room (cond above law.Accepted law.Behind) ≡ law.Held → ⊥
    by_tests true true e = cc
    by_tests false true e = cc
    by_tests true false e = cc
    by_tests false false e = cc
held_above (Reliable s) n room e = by_tests room (ltb n s.next) (holds s.places n) (eqb n s.next) refl refl refl e
  where
    by_tests : (room old again now : Bool) → ltb n s.next ≡ old → holds s.places n ≡ again → eqb n s.next ≡ now → with_room room (cond (old || again) law.Duplicate (cond now law.Accepted law.Held)) ≡ law.Held → (s.next < n) × (holds s.places n ≡ false)
    by_tests true true again now x y z e = absurd cc
    by_tests false true again now x y z e = absurd cc
    by_tests true false true now x y z e = absurd cc
    by_tests false false true now x y z e = absurd cc
    by_tests true false false true x y z e = absurd cc
    by_tests false false false true x y z e = absurd cc
    by_tests false false false false x y z e = absurd cc
    by_tests true false false false x y z e = (let le = ltb-false n s.next x in let ne : n ≢ s.next = eqb-false n s.next z in (omega arith, y))

-- where no state stands, a piece is accepted or refused
absent_only : (kind : Kind) (drf room : Bool) (v : law.Verdict) → with_room room (absent_verdict kind drf) ≡ v → (v ≡ law.Accepted) ⊎ ((v ≡ law.NoState) ⊎ (v ≡ law.NoRoom))
absent_only kinds.Datagram drf true v e = inl (sym e)
absent_only kinds.Datagram drf false v e = inr (inr (sym e))
absent_only kinds.Loose drf true v e = inl (sym e)
absent_only kinds.Loose drf false v e = inr (inr (sym e))
absent_only kinds.Reliable true true v e = inl (sym e)
absent_only kinds.Reliable true false v e = inr (inr (sym e))
absent_only kinds.Reliable false true v e = inr (inl (sym e))
absent_only kinds.Reliable false false v e = inr (inl (sym e))

-- one that is behind is told the greatest number
behind_top : (a : Accepted) (m : Receiver) (n : ℕ) (room : Bool) → Knows a m → with_room room (known_verdict a n) ≡ law.Behind → top_of a ≡ highest m.accepted
behind_top (Datagram r) m n room k e = sym k.top
behind_top (Loose h) m n room k e = sym k
behind_top (Reliable s) m n room k e = absurd (by_tests room (ltb n s.next || holds s.places n) (eqb n s.next) e)
  where
    by_tests : (room old now : Bool) → with_room room (cond old law.Duplicate (cond now law.Accepted law.Held)) ≡ law.Behind → ⊥
    by_tests true true now e = cc
    by_tests false true now e = cc
    by_tests true false true e = cc
    by_tests false false true e = cc
    by_tests true false false e = cc
    by_tests false false false e = cc

-- The pieces that are given up

-- while state stands
pub drops_standing : (now : ℕ) (r : Receiving) → r.closed ≡ false → present_at now r ≡ true → drops now r ≡ broken_with r.source (lost_in r.join.gaps)
drops_standing now r shut stands =
    let none : end_cause now r ≡ None = (let P : end_cause now r ≡ cond false (Some (cause.NoConnection r.source.dcep)) (cond true None (Some (cause.StateGone r.last_in))) = rw (shut, stands) refl in P) in
    ap (λ (x : Option Cause). broken_with r.source (lost_in r.join.gaps) ++ ended_with r.source x (kept_numbers r)) none ∙ append-nil (broken_with r.source (lost_in r.join.gaps))

pub append_right : {X : Type 0} → (xs ys : List X) → xs ++ ys ≡ [] → ys ≡ []
append_right [] ys e = e
append_right (x ∷ xs) ys e = absurd cc

pub append_left : {X : Type 0} → (xs ys : List X) → xs ++ ys ≡ [] → xs ≡ []
append_left [] ys e = refl
append_left (x ∷ xs) ys e = absurd cc

ended_none : (source : Source) (why : Cause) (ns : List ℕ) → ended_with source (Some why) ns ≡ [] → ns ≡ []
ended_none source why [] e = refl
ended_none source why (n ∷ ns) e = absurd cc

pub none_ended : (source : Source) (why : Option Cause) → ended_with source why [] ≡ []
none_ended source None = refl
none_ended source (Some why) = refl

-- where no state stands and all was fetched, nothing is kept
pub kept_none : (now : ℕ) (r : Receiving) → r.closed ≡ false → present_at now r ≡ false → drops now r ≡ [] → kept_numbers r ≡ []
kept_none now r shut gone e =
    let why : end_cause now r ≡ Some (cause.StateGone r.last_in) = (let P : end_cause now r ≡ cond false (Some (cause.NoConnection r.source.dcep)) (cond false None (Some (cause.StateGone r.last_in))) = rw (shut, gone) refl in P) in
    let rest : ended_with r.source (end_cause now r) (kept_numbers r) ≡ [] = append_right (broken_with r.source (lost_in r.join.gaps)) (ended_with r.source (end_cause now r) (kept_numbers r)) e in
    ended_none r.source (cause.StateGone r.last_in) (kept_numbers r) (ap (λ (x : Option Cause). ended_with r.source x (kept_numbers r)) (sym why) ∙ rest)

cleared_none : (r : Receiving) → kept_numbers r ≡ [] → kept_numbers (cleared r) ≡ []
cleared_none r e =
    let g = run_numbers r.going in
    let h = run_numbers r.join.joining.held in
    let k = held_numbers r.accepted in
    let front : g ++ h ≡ [] = append_left (g ++ h) k e in
    let back : k ≡ [] = append_right (g ++ h) k e in
    let mid : h ≡ [] = append_right g h front in
    (let P : [] ++ h ++ k ≡ [] = rw (mid, back) refl in P)

pub drops_cleared : (now : ℕ) (r : Receiving) → r.closed ≡ false → drops now r ≡ [] → (b : Bool) → present_at now r ≡ b → drops now (cleared r) ≡ []
drops_cleared now r shut e true stands = drops_standing now (cleared r) shut stands
drops_cleared now r shut e false gone = ap (ended_with r.source (end_cause now (cleared r))) (cleared_none r (kept_none now r shut gone e)) ∙ none_ended r.source (end_cause now (cleared r))

-- The rows that leave the receiver or move its tick alone

pub stands_cleared : (c : Constants) (now : ℕ) (m : Receiver) (j : Joiner) (r : Receiving) → Stands c now m j r → Stands c now m j (cleared r)
stands_cleared c now m j r st = record {
  of = record { cube = st.of.cube; kind = st.of.kind; window = st.of.window; rest = st.of.rest; largest = st.of.largest; places = st.of.places };
  not_closed = st.not_closed;
  made = st.made;
  last_in = st.last_in;
  known = st.known;
  joiner = λ e. record { run = (st.joiner e).run; bytes = (st.joiner e).bytes };
  reach = st.reach;
}

knows_touched : (a : Accepted) (m : Receiver) (now : ℕ) → Knows a m → Knows a (record m { last_in = now })
knows_touched (Datagram r) m now k = record { top = k.top; bits = k.bits }
knows_touched (Loose h) m now k = k
knows_touched (Reliable s) m now k = (k.0, record { same = (k.1).same; parts = (k.1).parts; within = (k.1).within })

stands_touched : (c : Constants) (now : ℕ) (m : Receiver) (j : Joiner) (r : Receiving) → Stands c now m j r → is_present c now m ≡ true → Stands c now (record m { last_in = now }) j (record (cleared r) { last_in = now })
stands_touched c now m j r st e = record {
  of = record { cube = st.of.cube; kind = st.of.kind; window = st.of.window; rest = st.of.rest; largest = st.of.largest; places = st.of.places };
  not_closed = st.not_closed;
  made = st.made;
  last_in = refl;
  known = λ _. knows_touched r.accepted m now (st.known e);
  joiner = λ _. record { run = (st.joiner e).run; bytes = (st.joiner e).bytes };
  reach = λ _. st.reach e;
}

least_rest : (c : Constants) (r : Receiving) → IsOf c r → 1 ≤ r.rest
least_rest c r of = (let e = of.rest in let m = of.cube.least_mpl in omega arith)

stands_now : (now : ℕ) (r : Receiving) → r.made ≡ true → r.last_in ≡ now → 1 ≤ r.rest → present_at now r ≡ true
stands_now now r made last rest = (let lt : ltb now (now + r.rest) ≡ true = lt-ltb now (now + r.rest) (omega arith) in rw (made, last, lt) refl)

was_made : (c : Constants) (now : ℕ) (m : Receiver) (j : Joiner) (r : Receiving) → Stands c now m j r → is_present c now m ≡ true → r.made ≡ true
was_made c now m j r st e = sym st.made ∙ (and_parts m.made (ltb now (m.last_in + 2 * delta c)) e).0

came_touched : (c : Constants) (now : ℕ) (m : Receiver) (j : Joiner) (r new : Receiving) → Stands c now m j r → is_present c now m ≡ true → new ≡ record (cleared r) { last_in = now } → Stands c now (record m { last_in = now }) j new × (new.join.whole ≡ []) × (drops now new ≡ []) × (new.source ≡ r.source) × (new.going ≡ None)
came_touched c now m j r new st e is =
    let S : Receiving → Type 0 = λ x. Stands c now (record m { last_in = now }) j x × (x.join.whole ≡ []) × (drops now x ≡ []) × (x.source ≡ r.source) × (x.going ≡ None) in
    let x : Receiving = record (cleared r) { last_in = now } in
    subst S (sym is) (stands_touched c now m j r st e, refl, drops_standing now x st.not_closed (stands_now now x (was_made c now m j r st e) refl (least_rest c r st.of)), refl, refl)

came_refused : (c : Constants) (now : ℕ) (m : Receiver) (j : Joiner) (r new : Receiving) → Stands c now m j r → IsFetched now r → new ≡ cleared r → Stands c now m j new × (new.join.whole ≡ []) × (drops now new ≡ []) × (new.source ≡ r.source) × (new.going ≡ None)
came_refused c now m j r new st f is =
    let S : Receiving → Type 0 = λ x. Stands c now m j x × (x.join.whole ≡ []) × (drops now x ≡ []) × (x.source ≡ r.source) × (x.going ≡ None) in
    subst S (sym is) (stands_cleared c now m j r st, refl, drops_cleared now r st.not_closed f.dropped (present_at now r) refl, refl, refl)

-- A piece that is held

came_held : (c : Constants) (now : ℕ) (m : Receiver) (j : Joiner) (pdu : Pdu) (r : Receiving) (result : Verdict) (new : Receiving) (a : Accepted) → r.accepted ≡ a → pdu.seq < 2 ^ 32 → Stands c now m j r → is_present c now m ≡ true → IsAbove a pdu.seq → IsWelcome c true m j law.Held (piece_in pdu) → IsHeldIn a now pdu (cleared r) result new →
    Came c now true m j law.Held pdu r result new
came_held c now m j pdu r result new (Datagram s) is small st e above w held = absurd above
came_held c now m j pdu r result new (Loose h) is small st e above w held = absurd above
came_held c now m j pdu r result new (Reliable s) is small st e above w held =
    let HP : Accepted → Type 0 = λ x. HasPlacesFor c x in
    let places = subst HP is st.of.places in
    let KN : Accepted → Type 0 = λ x. Knows x m in
    let known = subst KN is (st.known e) in
    let kind : c.cube.kind ≡ kinds.Reliable = st.of.kind ∙ ap kind_of is in
    let body = w.body in
    let window = w.window kind refl in
    let next = known.0 in
    let (size, room) = places in
    let told = held (omega arith) (omega arith) in
    let t : Shelved = record s { places = with_piece pdu.seq pdu.first pdu.last pdu.body s.places } in
    let some : 1 ≤ length s.places = (let l = st.of.cube.least_window in omega arith) in
    let x : Receiving = record (cleared r) { last_in = now; source = source_of pdu; accepted = Reliable t } in
    let C : Receiving → Type 0 = λ y. Came c now true m j law.Held pdu r result y in
    subst C (sym told.1) (record {
      told_is = told.0;
      stands = record {
        of = record { cube = st.of.cube; kind = kind; window = st.of.window; rest = st.of.rest; largest = st.of.largest; places = (length-with_piece s.places pdu.seq pdu.first pdu.last pdu.body ∙ places.0, places.1) };
        not_closed = st.not_closed;
        made = st.made;
        last_in = refl;
        known = λ _. (known.0, holds_one_more m.held s (piece_in pdu) t some known.1 above.0 (omega arith) small refl);
        joiner = λ _. record { run = (st.joiner e).run; bytes = (st.joiner e).bytes };
        reach = λ _ has_some. (let R : Accepted → Type 0 = λ y. j.from + j.count ≤ reach_of y in subst R is (st.reach e has_some));
      };
      whole = refl;
      source = refl;
      going = refl;
      dropped = drops_standing now x st.not_closed (stands_now now x (was_made c now m j r st e) refl (least_rest c r st.of));
    })

-- A piece that is accepted

start_joiner : (b : Bool) (j : Joiner) (k : Joins) → (b ≡ true → IsJoiner j k.joining) → IsJoiner (joiner_for b j) (start_join b (joins.cleared k)).joining
start_joiner true j k h = record { run = (h refl).run; bytes = (h refl).bytes }
start_joiner false j k h = record { run = refl; bytes = λ lt. absurd (omega arith) }

start_size : (b : Bool) (k : Joins) → (start_join b (joins.cleared k)).joining.largest ≡ k.joining.largest
start_size true k = refl
start_size false k = refl

start_whole : (b : Bool) (k : Joins) → (start_join b (joins.cleared k)).whole ≡ []
start_whole true k = refl
start_whole false k = refl

start_gaps : (b : Bool) (k : Joins) → (start_join b (joins.cleared k)).gaps ≡ []
start_gaps true k = refl
start_gaps false k = refl

-- number 0 is not accepted behind the greatest number
never_again : (a : Accepted) (n end : ℕ) → IsNext a n → 0 < end → end ≤ reach_of a → n ≡ 0 → end < 2 ^ 32
never_again (Datagram r) n end next some within z = omega arith
never_again (Loose h) n end next some within z = absurd (omega arith)
never_again (Reliable s) n end next some within z = absurd (omega arith)

start_wrap : (b : Bool) (a : Accepted) (n : ℕ) (j : Joiner) → (b ≡ true → IsNext a n) → (b ≡ true → 0 < j.count → j.from + j.count ≤ reach_of a) → n ≡ 0 → 0 < (joiner_for b j).count → (joiner_for b j).from + (joiner_for b j).count < 2 ^ 32
start_wrap true a n j next within z some = never_again a n (j.from + j.count) (next refl) (omega arith) (within refl some) z
start_wrap false a n j next within z some = absurd (omega arith)

first_room : (b : Bool) (kind : Kind) (largest : ℕ) (p : Piece) (held : List Piece) (j : Joiner) → AllHaveRoom largest law.Accepted kind b p held j → HasRoomFor largest p.number p.part (joiner_for b j)
first_room true kind largest p held j h = h.0
first_room false kind largest p held j h = h

verdict_told : (b : Bool) (missing whole : ℕ) → verdict_for (cond b (Some missing) None) whole ≡ told_accepted b missing whole
verdict_told true missing whole = refl
verdict_told false missing whole = refl

after_made : (b : Bool) (kind : Kind) (now : ℕ) (p : Piece) (m : Receiver) → ((receiver_after law.Accepted kind b now p m).made ≡ true) × ((receiver_after law.Accepted kind b now p m).last_in ≡ now)
after_made true kind now p m = (refl, refl)
after_made false kind now p m = (refl, refl)

came_accepted : (c : Constants) (now : ℕ) (b : Bool) (m : Receiver) (j : Joiner) (pdu : Pdu) (r : Receiving) (result : Verdict) (new : Receiving) → pdu.seq < 2 ^ 32 → Stands c now m j r → is_present c now m ≡ b → (b ≡ true → IsNext r.accepted pdu.seq) → IsWelcome c b m j law.Accepted (piece_in pdu) → IsAccepted b now pdu (cleared r) result new →
    Came c now b m j law.Accepted pdu r result new
came_accepted c now b m j pdu r result new small st e next w x =
    let p = piece_in pdu in
    let i = start_join b (joins.cleared r.join) in
    let is_b : b ≡ true → is_present c now m ≡ true = λ t. e ∙ t in
    let f : First c.cube.largest pdu.seq p.part (joiner_for b j) x.missing x.between =
    first c.cube.largest pdu.seq p.part (joiner_for b j) i x.missing x.between (start_joiner b j r.join (λ t. st.joiner (is_b t))) small (start_wrap b r.accepted pdu.seq j next (λ t. st.reach (is_b t))) (start_size b r.join ∙ st.of.largest) (start_whole b r.join) (start_gaps b r.join) (first_room b c.cube.kind c.cube.largest p m.held j w.room) x.joined in
    let A : Kind → Type 0 = λ k. AllHaveRoom c.cube.largest law.Accepted k b p m.held j in
    let S : Kind → Type 0 = λ k. Settled c k b now m j p new.accepted new.join in
    let s : Settled c c.cube.kind b now m j p new.accepted new.join = subst S (sym st.of.kind) (settle c b now m j p r.accepted x.counted new.accepted x.missing x.between new.join st.of.cube.least_window st.of.places (λ t. (st.known (is_b t), next t)) x.count x.follows f (subst A st.of.kind w.room)) in
    let rest : new.rest ≡ r.rest = ap (λ (y : Receiving). y.rest) x.new_is in
    let made : new.made ≡ true = ap (λ (y : Receiving). y.made) x.new_is in
    let last : new.last_in ≡ now = ap (λ (y : Receiving). y.last_in) x.new_is in
    let shut : new.closed ≡ false = ap (λ (y : Receiving). y.closed) x.new_is ∙ st.not_closed in
    let source : new.source ≡ source_of pdu = ap (λ (y : Receiving). y.source) x.new_is in
    let after = after_made b c.cube.kind now p m in
    record {
      told_is = x.result_is ∙ ap (λ (y : Option ℕ). verdict_for y (length new.join.whole)) f.missing_is ∙ verdict_told (is_broken pdu.seq p.part (joiner_for b j)) (missing_before pdu.seq (joiner_for b j)) (length new.join.whole) ∙ ap (λ (ws : List Sdu). told_accepted (is_broken pdu.seq p.part (joiner_for b j)) (missing_before pdu.seq (joiner_for b j)) (length ws)) s.whole;
      stands = record {
        of = record { cube = st.of.cube; kind = s.kind_is; window = ap (λ (y : Receiving). y.window) x.new_is ∙ st.of.window; rest = rest ∙ st.of.rest; largest = s.size; places = s.places };
        not_closed = shut;
        made = after.0 ∙ sym made;
        last_in = after.1 ∙ sym last;
        known = λ _. s.known;
        joiner = λ _. s.joiner;
        reach = λ _. s.reach;
      };
      whole = s.whole;
      source = source;
      going = ap (λ (y : Receiving). y.going) x.new_is;
      dropped = drops_standing now new shut (stands_now now new made last (let one = least_rest c r st.of in omega arith)) ∙ (rw (source, s.gaps) refl);
    }

-- Any piece

came : (c : Constants) (now : ℕ) (v : law.Verdict) (b : Bool) (room : Bool) (m : Receiver) (j : Joiner) (pdu : Pdu) (r : Receiving) (result : Verdict) (new : Receiving) → pdu.seq < 2 ^ 32 → Stands c now m j r → IsFetched now r → is_present c now m ≡ b → with_room room (number_verdict b r.accepted pdu.seq pdu.drf) ≡ v → IsWelcome c b m j v (piece_in pdu) → IsStep v b now pdu (cleared r) result new →
    Came c now b m j v pdu r result new
came c now law.Accepted true room m j pdu r result new small st fetched e is w x = came_accepted c now true m j pdu r result new small st e (λ _. accepted_next r.accepted pdu.seq room is) w x
came c now law.Accepted false room m j pdu r result new small st fetched e is w x = came_accepted c now false m j pdu r result new small st e (λ t. absurd (false≢true t)) w x
came c now law.Held true room m j pdu r result new small st fetched e is w x = came_held c now m j pdu r result new r.accepted refl small st e (held_above r.accepted pdu.seq room is) w x
came c now law.Duplicate true room m j pdu r result new small st fetched e is w x = (let t = came_touched c now m j r new st e x.1 in record { told_is = x.0; stands = t.0; whole = t.1; source = t.3; going = t.4; dropped = t.2 })
came c now law.Behind true room m j pdu r result new small st fetched e is w x =
    (let t = came_touched c now m j r new st e x.1 in record { told_is = x.0 ∙ ap (λ n. Off (cause.Behind n)) (behind_top r.accepted m pdu.seq room (st.known e) is); stands = t.0; whole = t.1; source = t.3; going = t.4; dropped = t.2 })
came c now law.NoState b room m j pdu r result new small st fetched e is w x = (let t = came_refused c now m j r new st fetched x.1 in record { told_is = x.0; stands = t.0; whole = t.1; source = t.3; going = t.4; dropped = t.2 })
came c now law.NoRoom b room m j pdu r result new small st fetched e is w x = (let t = came_refused c now m j r new st fetched x.1 in record { told_is = x.0 ∙ ap (λ n. Off (cause.NoRoom n)) st.of.window; stands = t.0; whole = t.1; source = t.3; going = t.4; dropped = t.2 })
came c now law.Held false room m j pdu r result new small st fetched e is w x = elim (absent_only (kind_of r.accepted) pdu.drf room law.Held is) [ inl f ↦ absurd cc | inr (inl f) ↦ absurd cc | inr (inr f) ↦ absurd cc ]
came c now law.Duplicate false room m j pdu r result new small st fetched e is w x = elim (absent_only (kind_of r.accepted) pdu.drf room law.Duplicate is) [ inl f ↦ absurd cc | inr (inl f) ↦ absurd cc | inr (inr f) ↦ absurd cc ]
came c now law.Behind false room m j pdu r result new small st fetched e is w x = elim (absent_only (kind_of r.accepted) pdu.drf room law.Behind is) [ inl f ↦ absurd cc | inr (inl f) ↦ absurd cc | inr (inr f) ↦ absurd cc ]

-- what becomes whole does not hang on what was fetched
whole_by : (c : Constants) (now : ℕ) (v : law.Verdict) (b : Bool) (room : Bool) (m : Receiver) (j : Joiner) (pdu : Pdu) (r : Receiving) (result : Verdict) (new : Receiving) → pdu.seq < 2 ^ 32 → Stands c now m j r → is_present c now m ≡ b → with_room room (number_verdict b r.accepted pdu.seq pdu.drf) ≡ v → IsWelcome c b m j v (piece_in pdu) → IsStep v b now pdu (cleared r) result new →
    new.join.whole ≡ (joined_by c b m j v (piece_in pdu)).whole
whole_by c now law.Accepted true room m j pdu r result new small st e is w x = (came_accepted c now true m j pdu r result new small st e (λ _. accepted_next r.accepted pdu.seq room is) w x).whole
whole_by c now law.Accepted false room m j pdu r result new small st e is w x = (came_accepted c now false m j pdu r result new small st e (λ t. absurd (false≢true t)) w x).whole
whole_by c now law.Held true room m j pdu r result new small st e is w x = (came_held c now m j pdu r result new r.accepted refl small st e (held_above r.accepted pdu.seq room is) w x).whole
whole_by c now law.Duplicate true room m j pdu r result new small st e is w x = ap (λ (y : Receiving). y.join.whole) x.1
whole_by c now law.Behind true room m j pdu r result new small st e is w x = ap (λ (y : Receiving). y.join.whole) x.1
whole_by c now law.NoState b room m j pdu r result new small st e is w x = ap (λ (y : Receiving). y.join.whole) x.1
whole_by c now law.NoRoom b room m j pdu r result new small st e is w x = ap (λ (y : Receiving). y.join.whole) x.1
whole_by c now law.Held false room m j pdu r result new small st e is w x = elim (absent_only (kind_of r.accepted) pdu.drf room law.Held is) [ inl f ↦ absurd cc | inr (inl f) ↦ absurd cc | inr (inr f) ↦ absurd cc ]
whole_by c now law.Duplicate false room m j pdu r result new small st e is w x = elim (absent_only (kind_of r.accepted) pdu.drf room law.Duplicate is) [ inl f ↦ absurd cc | inr (inl f) ↦ absurd cc | inr (inr f) ↦ absurd cc ]
whole_by c now law.Behind false room m j pdu r result new small st e is w x = elim (absent_only (kind_of r.accepted) pdu.drf room law.Behind is) [ inl f ↦ absurd cc | inr (inl f) ↦ absurd cc | inr (inr f) ↦ absurd cc ]

pub whole_from : (now : ℕ) (pdu : Pdu) (unpassed : ℕ) (old : Receiving) (result : Verdict) (new : Receiving) → pdu.seq < 2 ^ 32 → Steps now pdu unpassed old result new → (c : Constants) (m : Receiver) (j : Joiner) → Stands c now m j old → IsWelcome c (is_present c now m) m j (verdict_of c now unpassed m (piece_in pdu)) (piece_in pdu) →
    new.join.whole ≡ (joined_by c (is_present c now m) m j (verdict_of c now unpassed m (piece_in pdu)) (piece_in pdu)).whole
whole_from now pdu unpassed old result new small x c m j st w =
    let p = piece_in pdu in
    let b = is_present c now m in
    let room = ltb unpassed old.window in
    let same : b ≡ present_at now old = present_same c now m j old st in
    let v : verdict_of c now unpassed m p ≡ with_room room (number_verdict b old.accepted pdu.seq pdu.drf) = verdict_same c now unpassed m j old p st in
    let B : Bool → Type 0 = λ y. IsStep (with_room room (number_verdict y old.accepted pdu.seq pdu.drf)) y now pdu (cleared old) result new in
    let V : law.Verdict → Type 0 = λ y. IsStep y b now pdu (cleared old) result new in
    whole_by c now (verdict_of c now unpassed m p) b room m j pdu old result new small st refl (sym v) w (subst V (sym v) (subst B (sym same) x))

pub row_from : (now : ℕ) (pdu : Pdu) (unpassed : ℕ) (old : Receiving) (result : Verdict) (new : Receiving) → pdu.seq < 2 ^ 32 → Steps now pdu unpassed old result new → IsRow now pdu unpassed old result new
row_from now pdu unpassed old result new small x c m j st fetched w =
    let p = piece_in pdu in
    let b = is_present c now m in
    let room = ltb unpassed old.window in
    let same : b ≡ present_at now old = present_same c now m j old st in
    let v : verdict_of c now unpassed m p ≡ with_room room (number_verdict b old.accepted pdu.seq pdu.drf) = verdict_same c now unpassed m j old p st in
    let B : Bool → Type 0 = λ y. IsStep (with_room room (number_verdict y old.accepted pdu.seq pdu.drf)) y now pdu (cleared old) result new in
    let V : law.Verdict → Type 0 = λ y. IsStep y b now pdu (cleared old) result new in
    came c now (verdict_of c now unpassed m p) b room m j pdu old result new small st fetched refl (sym v) w (subst V (sym v) (subst B (sym same) x))
