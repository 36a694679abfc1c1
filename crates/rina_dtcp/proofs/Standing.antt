-- What is kept follows the machine's sender.
use Rattle.std.proofs.Common.{◌≡◌, ℕ, zero, suc, ◌+◌, ◌-◌, ◌*◌, ◌<◌, ◌≤◌, max, Bool, true, false, cond, ◌&&◌, ◌||◌, ◌==◌, leb, nat_le, List, [], ◌∷◌, ◌++◌, length, drop, map, append_assoc, append-nil, Option, Some, None, refl, sym, ◌∙◌, ap, arith, inl, inr, get_or, slice_get, position, option_map, is_some, ltb, IfSome, OnOk, Result, Ok, Err}
use Rattle.std.specs.List.{position_or_len}
use Rattle.std.proofs.lemmas.Bool.{cases_lt, le-leb, lt-leb, leb-true, ltb-true, ne_eqb, and_parts}
use Rattle.std.proofs.lemmas.List.{drop-drop, drop-append-le, drop_all, get_or-drop, length-drop, length-append}
use Rattle.rina_base.specs.declared.pdu.Pdu.{Pdu}
use Rattle.rina_cube.specs.declared.Kind.{Kind}
use Rattle.rina_cube.specs.declared.Kind.TheVariants.{Datagram, Loose, Reliable}
use Rattle.rina_cube.specs.Cubes.{delta_of, is_reliable}
use Rattle.rina_law.specs.Constants.{Constants, delta}
use Rattle.rina_law.specs.Pieces.{Part}
use Rattle.rina_law.specs.Receiver.{Piece}
use Rattle.rina_law.specs.Sender.{Member, Sender, no_member, is_empty, is_idle, is_absent, started, room_of, drf_for, piece_for, member_for, sender_with, pieces_for, sender_with_all, due_from, late_from, if_reliable, again_due, given_up, sender_again, piece_again, sender_told}
use Rattle.rina_dtcp.specs.declared.sent.Sent.{Sent}
use Rattle.rina_dtcp.specs.declared.sent.GaveUp.{GaveUp}
use Rattle.rina_dtcp.specs.Sents.{is_due, is_late, touched}
use Rattle.rina_dtcp.specs.Senders.{Kept, is_gone, left_in, keeps, with_sent, counted, noted, least_from, flag_of, sents_from, with_all, counted_all, settled, raised, resent_at, IsPduAt, num_in, sent_at, late_of, late_in}
use Rattle.rina_dtcp.specs.Rows.{waiting, sent_of, sent_from, Stands, ready, TellsRoom, TellsIdle, Notes, NotesAll, IsTold, Resends, LendsAgain, TellsAgain, TellsDue, gave_up_of, TellsGivenUp}
use Rattle.rina_law.proofs.Lists.{resent-length}
use Rattle.rina_dtcp.proofs.Scanning.{due_place, late_place}
use Rattle.rina_dtcp.proofs.Touching.{touched_pdu, touched_resent, touched_same}

length-sent_from : (carry : Piece → Pdu) (n : ℕ) (ms : List Member) → length (sent_from carry n ms) ≡ length ms
length-sent_from carry n [] = refl
length-sent_from carry n (m ∷ ms) = ap suc (length-sent_from carry (n + 1) ms)

-- Nothing is unacknowledged

none_left : (acked : ℕ) (run : List Member) (n : ℕ) → n ≡ length run - acked → (n == 0) ≡ nat_le (length run) acked
none_left acked run n e = elim (cases_lt acked (length run)) [
  | inl lt ↦ (let a : leb (length run) acked ≡ false = lt-leb (length run) acked lt in let some : n ≡ 0 → ⊥ = (λ z. absurd (omega arith)) in let no_zero = ne_eqb n 0 some in rw (a, no_zero) refl)
  | inr ge ↦ (let a : leb (length run) acked ≡ true = le-leb (length run) acked ge in let is : n ≡ 0 = omega arith in rw (a, is) refl)
]

idle_by : (kind : Kind) (carry : Piece → Pdu) (m : Sender) → (length (sent_from carry m.acked (waiting kind m)) == 0) ≡ is_idle kind m
idle_by Datagram carry m = refl
idle_by Loose carry m = refl
idle_by Reliable carry m = none_left m.acked m.run _ (length-sent_from carry m.acked (drop m.acked m.run) ∙ length-drop m.acked m.run)

idle_is : (c : Constants) (carry : Piece → Pdu) (m : Sender) (k : Kept) → Stands c carry m k → (length k.unacked == 0) ≡ is_idle c.cube.kind m
idle_is c carry m k st = ap (λ ss. length ss == 0) st.unacked ∙ idle_by c.cube.kind carry m

pub idle_row : (k : Kept) (told : Bool) → told ≡ (length k.unacked == 0) → TellsIdle k told
idle_row k told e c carry m st = e ∙ idle_is c carry m k st

-- No state

empty_is : (run : List Member) → (length run == 0) ≡ is_empty run
empty_is [] = refl
empty_is (m ∷ ms) = ne_eqb (suc (length ms)) 0 (λ z. absurd (omega arith))

gone_is : (c : Constants) (carry : Piece → Pdu) (now : ℕ) (m : Sender) (k : Kept) → Stands c carry m k → is_gone now k ≡ is_absent c now m
gone_is c carry now m k st =
    let idle = idle_is c carry m k st in
    let none : (k.count == 0) ≡ is_empty m.run = ap (λ n. n == 0) st.count ∙ empty_is m.run in
    let time : nat_le (k.last_out + 3 * delta_of k.cube) now ≡ nat_le (m.last_out + 3 * delta c) now = rw (st.last_out, st.cube) refl in
    rw (none, idle, time) refl

room_by : (b : Bool) (c : Constants) (carry : Piece → Pdu) (m : Sender) (k : Kept) → Stands c carry m k → left_in b k ≡ room_of (started b c m)
room_by true c carry m k st = rw st.cube (omega arith)
room_by false c carry m k st = rw (st.right, st.count) refl

pub room_row : (now : ℕ) (k : Kept) (room : ℕ) → room ≡ left_in (is_gone now k) k → TellsRoom now k room
room_row now k room e c carry m st = e ∙ ap (λ b. left_in b k) (gone_is c carry now m k st) ∙ room_by (is_absent c now m) c carry m k st

-- A piece that is made for the first time

sent_push : (carry : Piece → Pdu) (n k : ℕ) (ms : List Member) (x : Member) → k ≡ n + length ms → sent_from carry n ms ++ sent_of carry k x ∷ [] ≡ sent_from carry n (ms ++ x ∷ [])
sent_push carry n k [] x e = (let is : k ≡ n = omega arith in rw is refl)
sent_push carry n k (m ∷ ms) x e = ap (λ ss. sent_of carry n m ∷ ss) (sent_push carry (n + 1) k ms x (omega arith))

push_waiting : (carry : Piece → Pdu) (acked : ℕ) (run : List Member) (x : Member) → acked ≤ length run → sent_from carry acked (drop acked run) ++ sent_of carry (length run) x ∷ [] ≡ sent_from carry acked (drop acked (run ++ x ∷ []))
push_waiting carry acked run x h =
    let split = drop-append-le acked run (x ∷ []) h in
    let long = length-drop acked run in
    sent_push carry acked (length run) (drop acked run) x (omega arith) ∙ ap (λ ms. sent_from carry acked ms) (sym split)

none_waiting : (carry : Piece → Pdu) (acked : ℕ) (run : List Member) (x : Member) → length run < acked → sent_from carry acked (drop acked run) ≡ sent_from carry acked (drop acked (run ++ x ∷ []))
none_waiting carry acked run x h =
    let long : length (run ++ x ∷ []) ≤ acked = (let l = length-append run (x ∷ []) in omega arith) in
    let before = drop_all acked run (omega arith) in
    let after = drop_all acked (run ++ x ∷ []) long in
    rw (before, after) refl

none_when_absent : (kind : Kind) (run : List Member) (acked right last_out : ℕ) (late : Bool) → (is_empty run || (is_idle kind (record { run = run; acked = acked; right = right; last_out = last_out }) && late)) ≡ true → waiting kind (record { run = run; acked = acked; right = right; last_out = last_out }) ≡ []
none_when_absent Datagram run acked right last_out late h = refl
none_when_absent Loose run acked right last_out late h = refl
none_when_absent Reliable [] acked right last_out late h = drop_all acked [] (omega arith)
none_when_absent Reliable (m ∷ ms) acked right last_out late h = (let p = and_parts (leb (length (m ∷ ms)) acked) late h in drop_all acked (m ∷ ms) (leb-true (length (m ∷ ms)) acked p.0))

-- the PDU of a piece that was made now
abbrev new_sent : ℕ → Pdu → Sent
new_sent now pdu = record { first = now; last = now; pdu = pdu }

grown : (kind : Kind) (b : Bool) (c : Constants) (carry : Piece → Pdu) (now seq : ℕ) (part : Part) (m : Sender) (pdu : Pdu) → seq ≡ length (started b c m).run → pdu ≡ carry (piece_for c part (started b c m)) → (b ≡ true → waiting kind m ≡ []) →
    cond (is_reliable kind && (b || leb m.acked seq)) (sent_from carry m.acked (waiting kind m) ++ new_sent now pdu ∷ []) (sent_from carry m.acked (waiting kind m)) ≡ sent_from carry (started b c m).acked (waiting kind (sender_with c now part (started b c m)))
grown Datagram b c carry now seq part m pdu n p none = refl
grown Loose b c carry now seq part m pdu n p none = refl
grown Reliable true c carry now seq part m pdu n p none = (let empty : drop m.acked m.run ≡ [] = none refl in rw (empty, p) refl)
grown Reliable false c carry now seq part m pdu n p none = elim (cases_lt seq m.acked) [
  | inl lt ↦
      (let no_more : leb m.acked seq ≡ false = lt-leb m.acked seq lt in
      rw no_more (none_waiting carry m.acked m.run (member_for c now part m) (omega arith)))
  | inr ge ↦
      (let more : leb m.acked seq ≡ true = le-leb m.acked seq ge in
      rw (more, p) (push_waiting carry m.acked m.run (member_for c now part m) (omega arith)))
]

counted_is : (b keep : Bool) (now seq : ℕ) (pdu : Pdu) (k : Kept) →
    counted b now seq (cond keep (with_sent now pdu k) k) ≡ record { cube = k.cube; count = seq + 1; acked = cond b 0 k.acked; right = cond b (k.cube.window - 1) k.right; last_out = now; unacked = cond keep (k.unacked ++ new_sent now pdu ∷ []) k.unacked }
counted_is b true now seq pdu k = refl
counted_is b false now seq pdu k = refl

acked_is : (b : Bool) (c : Constants) (carry : Piece → Pdu) (m : Sender) (k : Kept) → Stands c carry m k → cond b 0 k.acked ≡ (started b c m).acked
acked_is true c carry m k st = refl
acked_is false c carry m k st = st.acked

right_is : (b : Bool) (c : Constants) (carry : Piece → Pdu) (m : Sender) (k : Kept) → Stands c carry m k → cond b (k.cube.window - 1) k.right ≡ (started b c m).right
right_is true c carry m k st = rw st.cube refl
right_is false c carry m k st = st.right

note_by : (b : Bool) (c : Constants) (carry : Piece → Pdu) (now seq : ℕ) (part : Part) (m : Sender) (pdu : Pdu) (k : Kept) → Stands c carry m k → seq ≡ length (started b c m).run → pdu ≡ carry (piece_for c part (started b c m)) → (b ≡ true → waiting c.cube.kind m ≡ []) → Stands c carry (sender_with c now part (started b c m)) (counted b now seq (cond (keeps b seq k) (with_sent now pdu k) k))
note_by b c carry now seq part m pdu k st n p none =
    let list : cond (keeps b seq k) (k.unacked ++ new_sent now pdu ∷ []) k.unacked ≡ sent_from carry (started b c m).acked (waiting c.cube.kind (sender_with c now part (started b c m))) = rw (st.cube, st.acked, st.unacked) (grown c.cube.kind b c carry now seq part m pdu n p none) in
    let long = length-append (started b c m).run (member_for c now part (started b c m) ∷ []) in
    rw (counted_is b (keeps b seq k) now seq pdu k) (record {
      cube = st.cube;
      count = omega arith;
      acked = acked_is b c carry m k st;
      right = right_is b c carry m k st;
      last_out = refl;
      unacked = list;
    })

pub note_row : (now seq : ℕ) (pdu : Pdu) (old new : Kept) → new ≡ noted now seq pdu old → Notes now seq pdu old new
note_row now seq pdu old new e c carry m part st next =
    let gone = gone_is c carry now m old st in
    let none : is_absent c now m ≡ true → waiting c.cube.kind m ≡ [] = (λ h. none_when_absent c.cube.kind m.run m.acked m.right m.last_out (leb (m.last_out + 3 * delta c) now) h) in
    rw (e, gone) (note_by (is_absent c now m) c carry now seq part m pdu old st next.0 next.1 none)

-- Pieces that are made one after the other

-- what is kept after so many, with these that wait
abbrev kept_as : Kept → Bool → ℕ → ℕ → List Sent → Kept
kept_as k b now count sents = record { cube = k.cube; count = count; acked = cond b 0 k.acked; right = cond b (k.cube.window - 1) k.right; last_out = now; unacked = sents }

all_is : (rel b : Bool) (now seq : ℕ) (more : List Sent) (k : Kept) → counted b now seq (cond rel (record k { unacked = k.unacked ++ more }) k) ≡ kept_as k b now (seq + 1) (cond rel (k.unacked ++ more) k.unacked)
all_is true b now seq more k = refl
all_is false b now seq more k = refl

abbrev after_one : Bool → Bool → ℕ → ℕ → Pdu → Kept → List Sent
after_one rel b now seq x k = cond (rel && (b || leb k.acked seq)) (k.unacked ++ new_sent now x ∷ []) k.unacked

more_sents : (rel b : Bool) (now seq : ℕ) (x : Pdu) (xs : List Pdu) (k : Kept) → cond rel (k.unacked ++ sents_from (cond b 0 k.acked) now seq (x ∷ xs)) k.unacked ≡ cond rel (after_one rel b now seq x k ++ sents_from (cond b 0 k.acked) now (seq + 1) xs) (after_one rel b now seq x k)
more_sents false b now seq x xs k = refl
more_sents true true now seq x xs k = (let low : leb 0 seq ≡ true = le-leb 0 seq (omega arith) in rw low (sym (append_assoc k.unacked (new_sent now x ∷ []) (sents_from 0 now (seq + 1) xs))))
more_sents true false now seq x xs k = go (leb k.acked seq)
  where
    go : (v : Bool) → k.unacked ++ cond v (new_sent now x ∷ sents_from k.acked now (seq + 1) xs) (sents_from k.acked now (seq + 1) xs) ≡ cond v (k.unacked ++ new_sent now x ∷ []) k.unacked ++ sents_from k.acked now (seq + 1) xs
    go true = sym (append_assoc k.unacked (new_sent now x ∷ []) (sents_from k.acked now (seq + 1) xs))
    go false = refl

-- with one piece
abbrev after_step : Bool → ℕ → ℕ → Pdu → Kept → Kept
after_step b now seq x k = counted b now seq (cond (keeps b seq k) (with_sent now x k) k)

one_is : (b : Bool) (now seq : ℕ) (x : Pdu) (k : Kept) → counted_all b now seq (x ∷ []) k ≡ after_step b now seq x k
one_is b now seq x k =
    let list = more_sents (is_reliable k.cube.kind) b now seq x [] k in
    let tail : cond (is_reliable k.cube.kind) (after_one (is_reliable k.cube.kind) b now seq x k ++ []) (after_one (is_reliable k.cube.kind) b now seq x k) ≡ after_one (is_reliable k.cube.kind) b now seq x k = no_more (is_reliable k.cube.kind) (after_one (is_reliable k.cube.kind) b now seq x k) in
    let number : seq + (length (x ∷ []) - 1) ≡ seq = omega arith in
    ap (λ n. counted b now n (with_all b now seq (x ∷ []) k)) number ∙ all_is (is_reliable k.cube.kind) b now seq (sents_from (least_from b k) now seq (x ∷ [])) k ∙ ap (kept_as k b now (seq + 1)) (list ∙ tail) ∙ sym (counted_is b (keeps b seq k) now seq x k)
  where
    no_more : (rel : Bool) (xs : List Sent) → cond rel (xs ++ []) xs ≡ xs
    no_more true xs = append-nil xs
    no_more false xs = refl

-- and then others
more_is : (b : Bool) (now seq : ℕ) (x y : Pdu) (ys : List Pdu) (k : Kept) → counted_all b now seq (x ∷ y ∷ ys) k ≡ counted_all false now (seq + 1) (y ∷ ys) (after_step b now seq x k)
more_is b now seq x y ys k =
    let rel = is_reliable k.cube.kind in
    let list = more_sents rel b now seq x (y ∷ ys) k in
    let number : seq + (length (x ∷ y ∷ ys) - 1) ≡ seq + 1 + (length (y ∷ ys) - 1) = omega arith in
    let first = all_is rel b now (seq + (length (x ∷ y ∷ ys) - 1)) (sents_from (least_from b k) now seq (x ∷ y ∷ ys)) k in
    let step = counted_is b (keeps b seq k) now seq x k in
    let then' = all_is rel false now (seq + 1 + (length (y ∷ ys) - 1)) (sents_from (cond b 0 k.acked) now (seq + 1) (y ∷ ys)) (kept_as k b now (seq + 1) (after_one rel b now seq x k)) in
    first ∙ ap (λ n. kept_as k b now (n + 1) (cond rel (k.unacked ++ sents_from (cond b 0 k.acked) now seq (x ∷ y ∷ ys)) k.unacked)) number ∙ ap (kept_as k b now (seq + 1 + (length (y ∷ ys) - 1) + 1)) list ∙ sym then' ∙ ap (λ j. counted_all false now (seq + 1) (y ∷ ys) j) (sym step)

all_by : (parts : List Part) (b : Bool) (c : Constants) (carry : Piece → Pdu) (now seq : ℕ) (m : Sender) (pdus : List Pdu) (k : Kept) → Stands c carry m k → seq ≡ length (started b c m).run → pdus ≡ map carry (pieces_for c now parts (started b c m)) → (b ≡ true → waiting c.cube.kind m ≡ []) → 1 ≤ length pdus → Stands c carry (sender_with_all c now parts (started b c m)) (counted_all b now seq pdus k)
all_by [] b c carry now seq m pdus k st n e none some = absurd (omega (arith, ap length e))
all_by (p ∷ []) b c carry now seq m pdus k st n e none some =
    let x = carry (piece_for c p (started b c m)) in
    rw (e, one_is b now seq x k) (note_by b c carry now seq p m x k st n refl none)
all_by (p ∷ q ∷ ps) b c carry now seq m pdus k st n e none some =
    let tx = sender_with c now p (started b c m) in
    let x = carry (piece_for c p (started b c m)) in
    let y = carry (piece_for c q tx) in
    let ys = map carry (pieces_for c now ps (sender_with c now q tx)) in
    let long = length-append (started b c m).run (member_for c now p (started b c m) ∷ []) in
    let never : false ≡ true → waiting c.cube.kind tx ≡ [] = (λ h. cc) in
    let rest = all_by (q ∷ ps) false c carry now (seq + 1) tx (y ∷ ys) (after_step b now seq x k) (note_by b c carry now seq p m x k st n refl none) (omega arith) refl never (omega arith) in
    rw (e, more_is b now seq x y ys k) rest

pub all_row : (now seq : ℕ) (pdus : List Pdu) (old new : Kept) → 1 ≤ length pdus → new ≡ counted_all (is_gone now old) now seq pdus old → NotesAll now seq pdus old new
all_row now seq pdus old new some e c carry m parts st n is =
    let gone = gone_is c carry now m old st in
    let none : is_absent c now m ≡ true → waiting c.cube.kind m ≡ [] = (λ h. none_when_absent c.cube.kind m.run m.acked m.right m.last_out (leb (m.last_out + 3 * delta c) now) h) in
    rw (e, gone) (all_by parts (is_absent c now m) c carry now seq m pdus old st n is none some)

-- The data run flag

flag_by : (kind : Kind) (tx : Sender) (acked : ℕ) → tx.acked ≡ acked → cond (is_reliable kind) (leb (length tx.run) acked) (length tx.run == 0) ≡ drf_for kind tx
flag_by Datagram tx acked e = refl
flag_by Loose tx acked e = refl
flag_by Reliable tx acked e = rw e refl

pub flag_is : (c : Constants) (carry : Piece → Pdu) (now : ℕ) (m tx : Sender) (k : Kept) → Stands c carry m k → tx.acked ≡ (ready c now m).acked → flag_of now (length tx.run) k ≡ drf_for c.cube.kind tx
flag_is c carry now m tx k st e =
    let gone = gone_is c carry now m k st in
    let least : least_from (is_gone now k) k ≡ (ready c now m).acked = rw gone (acked_is (is_absent c now m) c carry m k st) in
    rw (least, st.cube) (flag_by c.cube.kind tx (ready c now m).acked e)

-- An acknowledgement

sent_drop : (carry : Piece → Pdu) (d n k : ℕ) (ms : List Member) → k ≡ n + d → drop d (sent_from carry n ms) ≡ sent_from carry k (drop d ms)
sent_drop carry zero n k ms e = (let is : k ≡ n = omega arith in rw is refl)
sent_drop carry (suc d) n k [] e = refl
sent_drop carry (suc d) n k (m ∷ ms) e = sent_drop carry d (n + 1) k ms (omega arith)

told_by : (kind : Kind) (carry : Piece → Pdu) (ack right : ℕ) (m : Sender) → drop (ack + 1 - m.acked) (sent_from carry m.acked (waiting kind m)) ≡ sent_from carry (max m.acked (ack + 1)) (waiting kind (sender_told (record { ack = ack; right = right }) m))
told_by Datagram carry ack right m = drop_all (ack + 1 - m.acked) [] (omega arith)
told_by Loose carry ack right m = drop_all (ack + 1 - m.acked) [] (omega arith)
told_by Reliable carry ack right m =
    let all : m.acked + (ack + 1 - m.acked) ≡ max m.acked (ack + 1) = omega arith in
    let again = drop-drop (ack + 1 - m.acked) m.acked m.run in
    sent_drop carry (ack + 1 - m.acked) m.acked (max m.acked (ack + 1)) (drop m.acked m.run) (omega arith) ∙ ap (λ ms. sent_from carry (max m.acked (ack + 1)) ms) (again ∙ ap (λ n. drop n m.run) all)

pub told_row : (ack right : ℕ) (old new : Kept) → new ≡ raised right (settled ack old) → IsTold ack right old new
told_row ack right old new e c carry m st = rw e (record {
  cube = st.cube;
  count = st.count;
  acked = ap (λ x. max x (ack + 1)) st.acked;
  right = ap (λ x. max x right) st.right;
  last_out = st.last_out;
  unacked = rw (st.acked, st.unacked) (told_by c.cube.kind carry ack right m);
})

-- A piece that is made again

due_by : (kind : Kind) (carry : Piece → Pdu) (c : Constants) (now : ℕ) (m : Sender) → if_reliable kind (due_from c now m.acked 0 m.run) ≡ option_map (λ i. m.acked + i) (position (is_due c.cube now) (sent_from carry m.acked (waiting kind m)))
due_by Datagram carry c now m = refl
due_by Loose carry c now m = refl
due_by Reliable carry c now m = due_place carry c now m.acked m.run

due_is : (c : Constants) (carry : Piece → Pdu) (now : ℕ) (m : Sender) (k : Kept) → Stands c carry m k → again_due c now m ≡ option_map (λ i. m.acked + i) (position (is_due k.cube now) k.unacked)
due_is c carry now m k st = rw (st.cube, st.unacked) (due_by c.cube.kind carry c now m)

again_by : (kind : Kind) (carry : Piece → Pdu) (at now : ℕ) (m : Sender) → touched at now (sent_from carry m.acked (waiting kind m)) ≡ sent_from carry m.acked (waiting kind (sender_again (m.acked + at) now m))
again_by Datagram carry at now m = refl
again_by Loose carry at now m = refl
again_by Reliable carry at now m = touched_resent carry at now m.acked m.acked (m.acked + at) m.run refl

again_pdu : (kind : Kind) (carry : Piece → Pdu) (at now : ℕ) (m : Sender) (s : Sent) → slice_get (touched at now (sent_from carry m.acked (waiting kind m))) at ≡ Some s → s.pdu ≡ carry (piece_again (m.acked + at) m)
again_pdu Datagram carry at now m s e = cc
again_pdu Loose carry at now m s e = cc
again_pdu Reliable carry at now m s e =
    let there = get_or-drop m.acked m.run at no_member in
    rw there at (touched_pdu carry at now m.acked (m.acked + at) (drop m.acked m.run) s refl e)

resend_some : (now at : ℕ) (old new : Kept) (pdu : Pdu) → Some at ≡ position (is_due old.cube now) old.unacked → new ≡ resent_at (Some at) now old → IsPduAt new.unacked at pdu → Resends now old (Some pdu) new
resend_some now at old new pdu place e (s, stands, is) c carry m st =
    let due : again_due c now m ≡ Some (m.acked + at) = due_is c carry now m old st ∙ ap (option_map (λ i. m.acked + i)) (sym place) in
    let list : new.unacked ≡ touched at now (sent_from carry m.acked (waiting c.cube.kind m)) = ap (λ (k : Kept). k.unacked) e ∙ ap (λ ss. touched at now ss) st.unacked in
    let same = again_pdu c.cube.kind carry at now m s (rw list at stands) in
    rw due (
      ap Some (is ∙ same),
      rw e (record {
        cube = st.cube;
        count = st.count ∙ sym (resent-length (m.acked + at) now m.run);
        acked = st.acked;
        right = st.right;
        last_out = refl;
        unacked = rw st.unacked (again_by c.cube.kind carry at now m);
      }),
    )

resend_none : (now : ℕ) (old new : Kept) → None ≡ position (is_due old.cube now) old.unacked → new ≡ old → Resends now old None new
resend_none now old new place e c carry m st =
    let due : again_due c now m ≡ None = due_is c carry now m old st ∙ ap (option_map (λ i. m.acked + i)) (sym place) in
    rw (due, e) (refl, st)

pub lends_some : (now at : ℕ) (old new : Kept) (pdu : Pdu) → Some at ≡ position (is_due old.cube now) old.unacked → new ≡ resent_at (Some at) now old → IsPduAt new.unacked at pdu → LendsAgain now old (Some pdu) new
lends_some now at old new pdu place e is = record { resends = resend_some now at old new pdu place e is; there = ap is_some place; idle = λ none. cc }

pub lends_none : (now : ℕ) (old new : Kept) → None ≡ position (is_due old.cube now) old.unacked → new ≡ old → LendsAgain now old None new
lends_none now old new place e = record { resends = resend_none now old new place e; there = ap is_some place; idle = λ none. e }

-- the PDU that would be lent
pub again_some : (now at : ℕ) (k : Kept) (pdu : Pdu) → Some at ≡ position (is_due k.cube now) k.unacked → IsPduAt k.unacked at pdu → TellsAgain now k (Some pdu)
again_some now at k pdu place (s, stands, is) c carry m st =
    (resend_some now at k (resent_at (Some at) now k) pdu place refl (record { first = s.first; last = now; pdu = s.pdu }, touched_same k.unacked at now s stands, is) c carry m st).0

pub again_none : (now : ℕ) (k : Kept) → None ≡ position (is_due k.cube now) k.unacked → TellsAgain now k None
again_none now k place c carry m st = (resend_none now k k place refl c carry m st).0

some_mapped : (f : ℕ → ℕ) (o : Option ℕ) → is_some (option_map f o) ≡ is_some o
some_mapped f (Some x) = refl
some_mapped f None = refl

pub has_due_row : (now : ℕ) (k : Kept) (told : Bool) → told ≡ is_some (position (is_due k.cube now) k.unacked) → TellsDue now k told
has_due_row now k told e c carry m st = e ∙ sym (ap is_some (due_is c carry now m k st) ∙ some_mapped (λ i. m.acked + i) (position (is_due k.cube now) k.unacked))

-- A piece that is given up

late_by : (kind : Kind) (carry : Piece → Pdu) (c : Constants) (now : ℕ) (m : Sender) → if_reliable kind (late_from c now m.acked 0 m.run) ≡ option_map (λ i. m.acked + i) (position (is_late c.cube now) (sent_from carry m.acked (waiting kind m)))
late_by Datagram carry c now m = refl
late_by Loose carry c now m = refl
late_by Reliable carry c now m = late_place carry c now m.acked m.run

late_is : (c : Constants) (carry : Piece → Pdu) (now : ℕ) (m : Sender) (k : Kept) → Stands c carry m k → given_up c now m ≡ option_map (λ i. m.acked + i) (position (is_late k.cube now) k.unacked)
late_is c carry now m k st = rw (st.cube, st.unacked) (late_by c.cube.kind carry c now m)

pub has_late : (c : Constants) (carry : Piece → Pdu) (now : ℕ) (m : Sender) (k : Kept) → Stands c carry m k → is_some (given_up c now m) ≡ is_some (position (is_late k.cube now) k.unacked)
has_late c carry now m k st = ap is_some (late_is c carry now m k st) ∙ some_mapped (λ i. m.acked + i) (position (is_late k.cube now) k.unacked)

late_get : (carry : Piece → Pdu) (i now n k : ℕ) (ms : List Member) → i < length (sent_from carry n ms) → k ≡ n + i → late_of now (slice_get (sent_from carry n ms) i) ≡ Some (record { num = num_in (carry (record { number = k; drf = (get_or ms i no_member).drf; part = (get_or ms i no_member).part })); first = (get_or ms i no_member).first; now = now })
late_get carry i now n k [] h e = absurd (omega arith)
late_get carry zero now n k (m ∷ ms) h e = (let is : k ≡ n = omega arith in rw is refl)
late_get carry (suc i) now n k (m ∷ ms) h e = late_get carry i now (n + 1) k ms (omega arith) (omega arith)

late_some : (kind : Kind) (carry : Piece → Pdu) (i now : ℕ) (m : Sender) → i < length (sent_from carry m.acked (waiting kind m)) → late_of now (slice_get (sent_from carry m.acked (waiting kind m)) i) ≡ Some (gave_up_of carry now m (m.acked + i))
late_some Datagram carry i now m h = absurd (omega arith)
late_some Loose carry i now m h = absurd (omega arith)
late_some Reliable carry i now m h = (let there = get_or-drop m.acked m.run i no_member in rw there at (late_get carry i now m.acked (m.acked + i) (drop m.acked m.run) h refl))

place_within : (p : Sent → Bool) (xs : List Sent) → IfSome (position p xs) (λ i. i < length xs)
place_within p xs = go (ltb (position_or_len p xs) (length xs)) refl
  where
    go : (b : Bool) → ltb (position_or_len p xs) (length xs) ≡ b → IfSome (cond b (Some (position_or_len p xs)) None) (λ i. i < length xs)
    go true h = ltb-true (position_or_len p xs) (length xs) h
    go false h = tt

late_at : (kind : Kind) (carry : Piece → Pdu) (now : ℕ) (m : Sender) (o : Option ℕ) → IfSome o (λ i. i < length (sent_from carry m.acked (waiting kind m))) → late_of now (sent_at (sent_from carry m.acked (waiting kind m)) o) ≡ option_map (gave_up_of carry now m) (option_map (λ i. m.acked + i) o)
late_at kind carry now m None h = refl
late_at kind carry now m (Some i) h = late_some kind carry i now m h

pub late_row : (now : ℕ) (k : Kept) (told : Option GaveUp) → told ≡ late_in now k → TellsGivenUp now k told
late_row now k told e c carry m st =
    let sents = sent_from carry m.acked (waiting c.cube.kind m) in
    let place = position (is_late c.cube now) sents in
    let is : late_in now k ≡ late_of now (sent_at sents place) = rw (st.cube, st.unacked) refl in
    e ∙ is ∙ late_at c.cube.kind carry now m place (place_within (is_late c.cube now) sents) ∙ ap (option_map (gave_up_of carry now m)) (sym (late_by c.cube.kind carry c now m))

pub on_ok : {A E P Q : Type 0} (r : Result A E) → (P → Q) → OnOk r P → OnOk r Q
on_ok (Ok x) f h = f h
on_ok (Err x) f h = tt
