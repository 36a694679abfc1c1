-- What stands of a run stands of one that goes on with the same pieces; the rows that leave journals and receiver
-- alone.
use Rattle.std.proofs.Common.{◌≡◌, ℕ, zero, suc, ◌+◌, ◌<◌, ◌≤◌, List, length, max, Bool, true, false, ◌&&◌, ltb, leb, refl, sym, ◌∙◌, ap, subst, arith, inl, inr, Option, Some, None}
use Rattle.std.proofs.lemmas.Bool.{and_parts, leb-true, le-ltb, lt-ltb, cases_lt}
use Rattle.rina_cube.specs.declared.Kind.{Kind}
use Rattle.rina_cube.specs.declared.Kind.TheVariants.{Datagram, Loose, Reliable}
use Rattle.rina_cube.specs.Cubes.{IsCube, is_reliable}
use Rattle.rina_law.specs.declared.entry.Entry.{Entry}
use Rattle.rina_law.specs.Constants.{Constants, delta}
use Rattle.rina_law.specs.Direction.{entry, Inbox, Direction, has_come, first_open, right_of, is_ack_due, after_again, after_ack}
use Rattle.rina_law.specs.DirectionHolds.{RunHolds, IsClosed, SentHolds, JoinHolds, GotHolds, ReachHolds, DirectionHolds}
use Rattle.rina_law.specs.Line.{InFlight, Line, IsCovered, told, acknowledge, MayAcknowledge}
use Rattle.rina_law.specs.LineHolds.{below, IsShaped, LineHolds}
use Rattle.rina_law.specs.Lists.{In}
use Rattle.rina_law.specs.Pieces.{Part, IsSized, Joiner}
use Rattle.rina_law.specs.Receiver.{Piece, is_present, next_of, mark_passed}
use Rattle.rina_law.specs.Sender.{Member, Sender, Ack, again_due}
use Rattle.rina_law.proofs.Due.{due_again}
use Rattle.rina_law.proofs.Lists.{numbers_in, resent-length, in-below}
use Rattle.rina_law.proofs.Runs.{Agree, agree_later, place_agree, start_agree, bytes_agree, reached_agree}
use Rattle.rina_law.proofs.Sending.{time_holds, cloud_holds, again_later, again_holds}
use Rattle.rina_law.proofs.Standing.{present_before, IsLater}
use Rattle.rina_law.proofs.Telling.{told_later, told_holds, acknowledge_holds}

run_agree : (c : Constants) (tx new : Sender) → IsLater tx new → length tx.run ≡ length new.run → RunHolds c tx.run → RunHolds c new.run
run_agree c tx new a same h = record {
  begins = λ lt. ap (λ (p : Part). p.begins) (a.part 0 (omega arith)) ∙ h.begins (omega arith);
  goes_on = λ n lt. (let old : suc n < length tx.run = omega arith in ap (λ (p : Part). p.begins) (a.part (suc n) old) ∙ h.goes_on n old ∙ sym (ap (λ (p : Part). p.ends) (a.part n (omega arith))));
  first = λ n lt b. (let old : suc n < length tx.run = omega arith in a.first (suc n) old ∙ h.first n old (sym (ap (λ (p : Part). p.begins) (a.part (suc n) old)) ∙ b) ∙ sym (a.first n (omega arith)));
  drf = λ e n lt set. (let old : n < length tx.run = omega arith in ap (λ (p : Part). p.begins) (a.part n old) ∙ h.drf e n old (sym (a.drf n old) ∙ set));
  sized = λ n lt. (let old : n < length tx.run = omega arith in let P : Part → Type 0 = λ p. IsSized c.piece p in subst P (sym (a.part n old)) (h.sized n old));
  fits = λ n lt. (let old : n < length tx.run = omega arith in let x = h.fits n old in let e = ap (λ (xs : List ℕ). length xs) (bytes_agree tx.run new.run n (agree_later tx new a) old) in omega arith);
  numbers = (let x = h.numbers in omega arith);
}

closed_agree : (run new : List Member) → Agree run new → length run ≡ length new → IsClosed run → IsClosed new
closed_agree run new a same h n e = ap (λ (p : Part). p.ends) (a.part n (omega arith)) ∙ h n (e ∙ sym same)

sent_agree : (c : Constants) (run new : List Member) (base : ℕ) (sent : List Entry) → Agree run new → length run ≡ length new → SentHolds c run base sent → SentHolds c new base sent
sent_agree c run new base sent a same h = record {
  none = λ e. h.none (same ∙ e);
  size = λ n e. (let s = h.size n (e ∙ sym same) in let p = place_agree run new base n a (omega arith) in omega arith);
  num = λ n lt. (let old : n < length run = omega arith in ap (λ j. (entry sent j).num.seq) (place_agree run new base n a old) ∙ h.num n old ∙ sym (start_agree run new n a old));
  tick = λ n lt. (let old : n < length run = omega arith in ap (λ j. (entry sent j).tick) (place_agree run new base n a old) ∙ h.tick n old ∙ sym (a.first n old));
  bytes = λ n lt e. (let old : n < length run = omega arith in ap (λ j. (entry sent j).bytes) (place_agree run new base n a old) ∙ h.bytes n old (sym (ap (λ (p : Part). p.ends) (a.part n old)) ∙ e) ∙ sym (bytes_agree run new n a old));
  cep = h.cep;
  below = λ j b lt. (let x = h.below j b lt in omega arith);
  rising = h.rising;
}

pub join_agree : (run new : List Member) (j : Joiner) → Agree run new → JoinHolds run j → JoinHolds new j
join_agree run new j a h some =
    let (last, x) = h some in
    let more = a.more in
    let within = x.within in (
      last,
      record {
        is = x.is;
        within = omega arith;
        waits = ap (λ (p : Part). p.ends) (a.part last within) ∙ x.waits;
        begins = start_agree run new last a within ∙ x.begins;
        bytes = x.bytes ∙ sym (bytes_agree run new last a within);
      },
    )

pub got_agree : (c : Constants) (run new : List Member) (base since : ℕ) (sent : List Entry) (done : List ℕ) (o : Inbox) → Agree run new → ((k : ℕ) → In k done → k < length run) → GotHolds c run base since sent done o → GotHolds c new base since sent done o
got_agree c run new base since sent done o a numbers h =
    let more = a.more in
    record {
      size = h.size;
      is = h.is;
      age = λ i lt. elim (h.age i lt) [ inl x ↦ inl (omega arith) | inr x ↦ inr x ];
      known = λ i lt. elim (h.known i lt) [
        | inl x ↦ inl x
        | inr x ↦ (let old = numbers x.0 x.1 in inr (x.0, x.1, ap (λ (p : Part). p.ends) (a.part (x.0) old) ∙ x.2, place_agree run new base (x.0) a old ∙ x.3))
      ];
      shape = h.shape;
    }

pub reach_agree : (run new : List Member) (held : List Piece) (m from : ℕ) (o : Inbox) → Agree run new → m ≤ length run → ((q : Piece) → In q held → q.number < length run) → ReachHolds run held m from o → ReachHolds new held m from o
reach_agree run new held m from o a le numbers h = record {
  held_is = λ q i. h.held_is q i ∙ sym (a.part q.number (numbers q i));
  mine = h.mine;
  joined = h.joined;
  waits = λ n is w. h.waits n is (sym (ap (λ (p : Part). p.ends) (a.part n (omega arith))) ∙ w);
}

-- the numbers of a reliable run

pub done_le : (c : Constants) (line : Line) → LineHolds c line → c.cube.kind ≡ Reliable → length line.done ≤ length line.sender.run
done_le c line h e = go (length line.done) refl
  where
    go : (n : ℕ) → n ≡ length line.done → n ≤ length line.sender.run
    go zero is = omega arith
    go (suc n) is =
        let P : Kind → Type 0 = λ k. IsShaped k line.done in
        let s : line.done ≡ below (length line.done) = subst P e h.shape in
        let i : In n line.done = rw s (in-below (length line.done) n (omega arith)) in
        let w = (h.done n i).within in omega arith

pub held_within : (c : Constants) (line : Line) → LineHolds c line → c.cube.kind ≡ Reliable → is_present c line.clock line.receiver ≡ true → (q : Piece) → In q line.receiver.held → q.number < length line.sender.run
held_within c line h e b q i = ((h.gapless e).held b q.number (numbers_in q line.receiver.held i)).0

-- Rows that leave the journals, the receiver and the pieces of the run

same_direction : (c : Constants) (d : Direction) (clock : ℕ) (tx : Sender) (pieces : List (InFlight Piece)) (acks : List (InFlight Ack)) →
    let line : Line = record { clock = clock; sender = tx; receiver = d.line.receiver; done = d.line.done; pieces = pieces; acks = acks } in
    LineHolds c line → d.line.clock ≤ clock → (is_present c clock d.line.receiver ≡ true → is_present c d.line.clock d.line.receiver ≡ true) → IsLater d.line.sender tx → length d.line.sender.run ≡ length tx.run → DirectionHolds c d → DirectionHolds c (record d { line = line })
same_direction c d clock tx pieces acks line later present l same h =
    let a = agree_later d.line.sender tx l in
    let k = h.core in
    let numbers = λ (n : ℕ) (i : In n d.line.done). (k.line.done n i).within in
    record {
      core = record {
        line = line;
        run = run_agree c d.line.sender tx l same k.run;
        sent = sent_agree c d.line.sender.run tx.run d.base d.sent a same k.sent;
        base = k.base;
        since = (let s = k.since in omega arith);
        join = λ b. join_agree d.line.sender.run tx.run d.inbox.joiner a (k.join (present b));
        got = got_agree c d.line.sender.run tx.run d.base d.since d.sent d.line.done d.inbox a numbers k.got;
        ticks = k.ticks;
        count = λ e. k.count e ∙ sym (reached_agree d.line.sender.run tx.run d.base (length d.line.done) a (done_le c d.line k.line e));
        reach = λ e b. reach_agree d.line.sender.run tx.run d.line.receiver.held (length d.line.done) d.state_from d.inbox a (done_le c d.line k.line e) (held_within c d.line k.line e (present b)) (k.reach e (present b));
      };
      closed = closed_agree d.line.sender.run tx.run a same h.closed;
    }

same_sender : (tx : Sender) → IsLater tx tx
same_sender tx = record { more = omega arith; first = λ n h. refl; drf = λ n h. refl; part = λ n h. refl; out = omega arith }

pub direction_time : (c : Constants) (d : Direction) (ticks : ℕ) → DirectionHolds c d → DirectionHolds c (record d { line = record d.line { clock = d.line.clock + ticks } })
direction_time c d ticks h = same_direction c d (d.line.clock + ticks) d.line.sender d.line.pieces d.line.acks (time_holds c d.line ticks h.core.line) (omega arith) (present_before c d.line.clock ticks d.line.receiver) (same_sender d.line.sender) refl h

pub direction_cloud : (c : Constants) (d : Direction) (pieces : List (InFlight Piece)) (acks : List (InFlight Ack)) → DirectionHolds c d → IsCovered d.line.pieces pieces → IsCovered d.line.acks acks → DirectionHolds c (record d { line = record d.line { pieces = pieces; acks = acks } })
direction_cloud c d pieces acks h covers covers_acks = same_direction c d d.line.clock d.line.sender pieces acks (cloud_holds c d.line pieces acks h.core.line covers covers_acks) (omega arith) (λ b. b) (same_sender d.line.sender) refl h

pub direction_again : (c : Constants) (d : Direction) (o : Option ℕ) → again_due c d.line.clock d.line.sender ≡ o → DirectionHolds c d → DirectionHolds c (after_again o c d)
direction_again c d None e h = h
direction_again c d (Some n) e h = same_direction c d d.line.clock _ _ d.line.acks (again_holds c d.line n h.core.line (due_again c d.line n e)) (omega arith) (λ b. b) (again_later d.line.sender n d.line.clock h.core.line.sender.out) (sym (resent-length n d.line.clock d.line.sender.run)) h

pub direction_told : (c : Constants) (d : Direction) (k : InFlight Ack) → DirectionHolds c d → In k d.line.acks → d.line.clock ≤ k.death → DirectionHolds c (record d { line = told k.pdu d.line })
direction_told c d k h i alive = same_direction c d d.line.clock _ d.line.pieces d.line.acks (told_holds c d.line k h.core.line i alive) (omega arith) (λ b. b) (told_later d.line.sender (max d.line.sender.acked (k.pdu.ack + 1)) (max d.line.sender.right k.pdu.right)) refl h

-- `passed` and `mark` are read by acknowledgements alone
aside : (c : Constants) (d : Direction) (passed : ℕ) (mark : Option ℕ) → DirectionHolds c d → DirectionHolds c (record d { passed = passed; mark = mark })
aside c d passed mark h = (let k = h.core in record {
  core = record { line = k.line; run = k.run; sent = k.sent; base = k.base; since = k.since; join = k.join; got = k.got; ticks = k.ticks; count = k.count; reach = k.reach };
  closed = h.closed;
})

pub direction_passed : (c : Constants) (d : Direction) → DirectionHolds c d → DirectionHolds c (record d { passed = d.passed + 1; mark = mark_passed c d.line.clock d.line.receiver d.mark })
direction_passed c d h = aside c d (d.passed + 1) (mark_passed c d.line.clock d.line.receiver d.mark) h

-- Acknowledgements that are made

-- the first open number is at most the next one
open_le : (c : Constants) (d : Direction) → DirectionHolds c d → c.cube.kind ≡ Reliable → is_present c d.line.clock d.line.receiver ≡ true → first_open d ≤ next_of d.line.receiver
open_le c d h e b =
    let k = h.core in
    let next = (k.line.gapless e).next b in
    let reach = k.reach e b in
    elim (cases_lt (max d.passed d.state_from) (length d.inbox.got)) [
      | inl lt ↦
          (let t : ltb (max d.passed d.state_from) (length d.inbox.got) ≡ true = lt-ltb _ _ lt in
          let x : (entry d.inbox.got (max d.passed d.state_from)).num.seq < length d.line.done = reach.mine (max d.passed d.state_from) (omega arith) lt in
          rw t (omega arith))
      | inr ge ↦
          (let t : ltb (max d.passed d.state_from) (length d.inbox.got) ≡ false = le-ltb _ _ ge in
          elim (cases_lt 0 d.inbox.joiner.count) [
            | inl some ↦ (let u : ltb 0 d.inbox.joiner.count ≡ true = lt-ltb _ _ some in let y = reach.joined some in rw (t, u) (omega arith))
            | inr none ↦ (let u : ltb 0 d.inbox.joiner.count ≡ false = le-ltb _ _ none in rw (t, u) (omega arith))
          ])
    ]

reliable_is : (kind : Kind) → is_reliable kind ≡ true → kind ≡ Reliable
reliable_is Datagram e = cc
reliable_is Loose e = cc
reliable_is Reliable e = refl

pub due_ack : (c : Constants) (d : Direction) → IsCube c.cube → DirectionHolds c d → is_ack_due c d ≡ true → MayAcknowledge c d.line (right_of c d)
due_ack c d cube h due =
    let p = and_parts (is_reliable c.cube.kind) (has_come d.mark d.line.clock && (is_present c d.line.clock d.line.receiver && leb d.line.clock (d.line.receiver.last_in + delta c))) due in
    let q = and_parts (has_come d.mark d.line.clock) (is_present c d.line.clock d.line.receiver && leb d.line.clock (d.line.receiver.last_in + delta c)) p.1 in
    let r = and_parts (is_present c d.line.clock d.line.receiver) (leb d.line.clock (d.line.receiver.last_in + delta c)) q.1 in
    let reliable = reliable_is c.cube.kind p.0 in
    let le = open_le c d h reliable r.0 in
    let w = cube.least_window in
    record { reliable = reliable; present = r.0; young = leb-true d.line.clock (d.line.receiver.last_in + delta c) r.1; edge = omega arith; fits = omega arith }

pub direction_ack : (c : Constants) (d : Direction) (b : Bool) → is_ack_due c d ≡ b → IsCube c.cube → DirectionHolds c d → DirectionHolds c (after_ack b c d)
direction_ack c d false due cube h = h
direction_ack c d true due cube h =
    let right = right_of c d in
    let made : DirectionHolds c (record d { line = acknowledge c right d.line }) =
    same_direction c d d.line.clock d.line.sender d.line.pieces _ (acknowledge_holds c d.line right h.core.line (due_ack c d cube h due)) (omega arith) (λ b. b) (same_sender d.line.sender) refl h in
    aside c (record d { line = acknowledge c right d.line }) d.passed None made
