-- After a piece came, the connection stands for the direction that it made.
use Rattle.std.proofs.Common.{◌≡◌, ℕ, ◌+◌, ◌-◌, ◌*◌, ◌≤◌, List, [], ◌∷◌, ◌++◌, length, map, Bool, true, false, cond, ◌&&◌, ltb, refl, sym, ◌∙◌, ap, subst, arith, inl, inr}
use Rattle.std.proofs.lemmas.Bool.{and_from, false≢true, lt-ltb}
use Rattle.std.specs.List.Sorted.{IsStrictlyIncreasing}
use Rattle.rina_account.specs.declared.ledger.Off.{Off}
use Rattle.rina_base.specs.declared.cause.Cause.{Cause}
use Rattle.rina_base.specs.declared.number.Key.{Key}
use Rattle.rina_base.specs.declared.pdu.Pdu.{Pdu}
use Rattle.rina_conn.specs.declared.conn.Conn.{Conn}
use Rattle.rina_conn.specs.Conns.{HasNoLast, Marks}
use Rattle.rina_conn.specs.Standing as standing
use Rattle.rina_conn.specs.Standing.{AreWaiting, IsReceiver}
use Rattle.rina_conn.specs.Waiting.{Waits}
use Rattle.rina_dif_law.specs.Ids.{Ids, IsFrom, flipped}
use Rattle.rina_cube.specs.Cubes.{IsCube}
use Rattle.rina_dif_law.specs.Counting.{held_numbers, joiner_numbers, off_numbers, times, whole_numbers}
use Rattle.rina_dif_law.specs.Incoming.{IsDropped, by_joiner, cause_by, cause_for, joiner_found, landed, lines_for, whole_by}
use Rattle.rina_dtcp.specs.Plans.{IsPlanOf}
use Rattle.rina_dtp.specs.declared.source.Source.{Source}
use Rattle.rina_dtp.specs.declared.verdict.Verdict.{Verdict}
use Rattle.rina_dtp.specs.Lost.{lost_after}
use Rattle.rina_dtp.specs.Receiving.{Receiving, broken_with, drops, end_cause, ended_with, kept_numbers, lost_in, present_at}
use Rattle.rina_dtp.specs.Source.{source_of}
use Rattle.rina_dtp.specs.Stands.{Came, IsFetched, IsRow, Stands}
use Rattle.rina_dtp.proofs.Ahead.{fetched_forward}
use Rattle.rina_dtp.proofs.Came.{append_left, kept_none, present_same}
use Rattle.rina_law.specs.Constants.{Constants, delta}
use Rattle.rina_law.specs.Direction.{Direction, entry_for, has_room}
use Rattle.rina_law.specs.Line.{arrival_verdict}
use Rattle.rina_law.specs.Lists.{In}
use Rattle.rina_law.specs.Pdus.{piece_in}
use Rattle.rina_law.specs.Pieces.{Joiner, Sdu, empty_joiner}
use Rattle.rina_law.specs.Receiver as law
use Rattle.rina_law.specs.Receiver.{Piece, Receiver, is_present, joined_after, mark_after, numbers, receiver_after, verdict}
use Rattle.rina_law.proofs.Arrived.{absent_cases, never}
use Rattle.rina_law.proofs.Standing.{present_made}
use Rattle.rina_flows.specs.Arriving.{IsComing, IsDrained, cause_of, delivered, noted, offs_of}
use Rattle.rina_flows.specs.Tied.{HoldsOnce, IsKeptBy, IsReceiving, source_from}
use Rattle.rina_flows.proofs.Ordered.{kept_rise, rise_none}
use Rattle.rina_flows.proofs.Arrived.{came_cause, came_dropped, came_got, came_of, drops_within, gone_dropped}
use Rattle.rina_flows.proofs.Given.{drained_all, in_append, offs_of-append}
use Rattle.rina_flows.proofs.Kept.{kept_before, kept_number}
use Rattle.rina_flows.proofs.KeptOnce.{broken_numbers, cause_none, held_above, kept_times}
use Rattle.rina_flows.proofs.Settled.{IsReady, lost_numbers, off-append, once_after, own_lines, own_numbers, row_settles, written_off_by}
use Rattle.rina_flows.proofs.Times.{times-append}
use Rattle.rina_flows.proofs.Waiting.{early_after, noted_waiting}
use Rattle.rina_flows.proofs.Welcome.{verdict_is, welcome}

-- Fetching

-- all that came is fetched
pub all_fetched : (now : ℕ) (old : Receiving) (taken : List (Key × Cause)) (new : Receiving) → IsDrained now old taken new → old.join.whole ≡ [] → drops now new ≡ [] → IsFetched now new
all_fetched now old taken new h whole none = record { whole = h.whole ∙ whole; dropped = none }

broken_none : (source : Source) (ls : List _) → broken_with source ls ≡ [] → ls ≡ []
broken_none source [] e = refl
broken_none source (l ∷ ls) e = absurd cc

pub none_broken : (now : ℕ) (r : Receiving) → drops now r ≡ [] → lost_in r.join.gaps ≡ []
none_broken now r none = broken_none r.source (lost_in r.join.gaps) (append_left (broken_with r.source (lost_in r.join.gaps)) (ended_with r.source (end_cause now r) (kept_numbers r)) none)

-- a receiver stands for the same after the SDUs were fetched
pub stands_delivered : (c : Constants) (now : ℕ) (m : Receiver) (j : Joiner) (r : Receiving) → Stands c now m j r → Stands c now m j (delivered r)
stands_delivered c now m j r st = record {
  of = record { cube = st.of.cube; kind = st.of.kind; window = st.of.window; rest = st.of.rest; largest = st.of.largest; places = st.of.places };
  not_closed = st.not_closed;
  made = st.made;
  last_in = st.last_in;
  known = st.known;
  joiner = λ e. record { run = (st.joiner e).run; bytes = (st.joiner e).bytes };
  reach = st.reach;
}

-- some pieces that were given up were fetched
pub kept_drained : (ids : Ids) (line : Direction) (now : ℕ) (old : Receiving) (taken : List (Key × Cause)) (new : Receiving) → IsDrained now old taken new → ((n : ℕ) → In n (kept_numbers old) → IsKeptBy ids line old n) → (n : ℕ) → In n (kept_numbers new) → IsKeptBy ids line new n
kept_drained ids line now old taken new h kept n i =
    let k = kept n (h.kept.kept n i) in
    record { made = k.made; source = h.kept.source ∙ k.source; number = k.number }

-- What is kept after a piece

far_source : (ids : Ids) (pdu : Pdu) → IsFrom (flipped ids) pdu → source_of pdu ≡ source_from ids
far_source ids pdu names = (let a = names.src in let b = names.scep in let d = names.dcep in rw (a, b, d) refl)

-- it comes from the far end
source_is : (c : Constants) (ids : Ids) (now : ℕ) (line : Direction) (pdu : Pdu) (v : law.Verdict) (b room : Bool) (old : Receiving) (result : Verdict) (new : Receiving) (n : ℕ) → v ≡ verdict c.cube.kind b line.line.receiver (piece_in pdu) room → is_present c now line.line.receiver ≡ b → IsFrom (flipped ids) pdu → Stands c now line.line.receiver line.inbox.joiner old →
    Came c now b line.line.receiver line.inbox.joiner v pdu old result new → is_present c now (receiver_after v c.cube.kind b now (piece_in pdu) line.line.receiver) ≡ true → ((k : ℕ) → In k (kept_numbers old) → IsKeptBy ids line old k) → In n (kept_numbers new) → new.source ≡ source_from ids
source_is c ids now line pdu law.Accepted b room old result new n v_is present names st came stands kept i = came.source ∙ far_source ids pdu names
source_is c ids now line pdu law.Held b room old result new n v_is present names st came stands kept i = came.source ∙ far_source ids pdu names
source_is c ids now line pdu law.Duplicate true room old result new n v_is present names st came stands kept i = came.source ∙ (kept n (kept_before c now line.line.receiver (record line.line.receiver { last_in = now }) line.inbox.joiner old new n st came.stands present stands refl came.going i)).source
source_is c ids now line pdu law.Duplicate false room old result new n v_is present names st came stands kept i = absurd (never _ _ v_is (absent_cases c.cube.kind room pdu.drf) (inr (inl refl)))
source_is c ids now line pdu law.Behind true room old result new n v_is present names st came stands kept i = came.source ∙ (kept n (kept_before c now line.line.receiver (record line.line.receiver { last_in = now }) line.inbox.joiner old new n st came.stands present stands refl came.going i)).source
source_is c ids now line pdu law.Behind false room old result new n v_is present names st came stands kept i = absurd (never _ _ v_is (absent_cases c.cube.kind room pdu.drf) (inr (inr refl)))
source_is c ids now line pdu law.NoState b room old result new n v_is present names st came stands kept i = came.source ∙ (kept n (kept_before c now line.line.receiver line.line.receiver line.inbox.joiner old new n st came.stands stands stands refl came.going i)).source
source_is c ids now line pdu law.NoRoom b room old result new n v_is present names st came stands kept i = came.source ∙ (kept n (kept_before c now line.line.receiver line.line.receiver line.inbox.joiner old new n st came.stands stands stands refl came.going i)).source

last_after : (c : Constants) (now : ℕ) (m : Receiver) (p : Piece) (v : law.Verdict) (b room : Bool) → v ≡ verdict c.cube.kind b m p room → is_present c now m ≡ b → HasNoLast m → HasNoLast (receiver_after v c.cube.kind b now p m)
last_after c now m p law.Accepted true room v_is present last = λ made. absurd (false≢true (sym made))
last_after c now m p law.Accepted false room v_is present last = λ made. absurd (false≢true (sym made))
last_after c now m p law.Held true room v_is present last = λ made. absurd (false≢true (sym made ∙ present_made c now m present))
last_after c now m p law.Held false room v_is present last = absurd (never _ _ v_is (absent_cases c.cube.kind room p.drf) (inl refl))
last_after c now m p law.Duplicate true room v_is present last = λ made. absurd (false≢true (sym made ∙ present_made c now m present))
last_after c now m p law.Duplicate false room v_is present last = absurd (never _ _ v_is (absent_cases c.cube.kind room p.drf) (inr (inl refl)))
last_after c now m p law.Behind true room v_is present last = λ made. absurd (false≢true (sym made ∙ present_made c now m present))
last_after c now m p law.Behind false room v_is present last = absurd (never _ _ v_is (absent_cases c.cube.kind room p.drf) (inr (inr refl)))
last_after c now m p law.NoState b room v_is present last = last
last_after c now m p law.NoRoom b room v_is present last = last

-- What is held after a piece

-- a direction has nothing left of a state that is gone
pub record IsClean (c : Constants) (line : Direction) : Type 0 where
  pub joiner : is_present c line.line.clock line.line.receiver ≡ false → line.inbox.joiner ≡ empty_joiner
  pub held : is_present c line.line.clock line.line.receiver ≡ false → line.line.receiver.held ≡ []

stands_now : (c : Constants) (now : ℕ) → IsCube c.cube → (made : Bool) → made ≡ true → (made && ltb now (now + 2 * delta c)) ≡ true
stands_now c now cube made is = (let least = cube.least_mpl in and_from made (ltb now (now + 2 * delta c)) is (lt-ltb now (now + 2 * delta c) (omega arith)))

none_held : (m : Receiver) (j : Joiner) (k : ℕ) → j ≡ empty_joiner → m.held ≡ [] → times k (joiner_numbers j) + times k (numbers m.held) ≡ 0
none_held m j k empty none = (let a = ap (λ (x : Joiner). times k (joiner_numbers x)) empty in let b = ap (λ (hs : List Piece). times k (numbers hs)) none in omega arith)

-- a piece is written off by the verdict of the machine
own_by : (v : law.Verdict) (c : Constants) (p : Piece) (line : Direction) → joiner_found c line ≡ line.inbox.joiner → own_numbers p.number (cause_by v c p line) ≡ written_off_by v p line.inbox.joiner
own_by law.Accepted c p line same = ap (λ (j : Joiner). own_numbers p.number (by_joiner p j)) same
own_by law.Held c p line same = refl
own_by law.Duplicate c p line same = refl
own_by law.Behind c p line same = refl
own_by law.NoState c p line same = refl
own_by law.NoRoom c p line same = refl

clean_joiner : (c : Constants) (line : Direction) → IsClean c line → joiner_found c line ≡ line.inbox.joiner
clean_joiner c line clean = go (is_present c line.line.clock line.line.receiver) clean.joiner
  where
    go : (b : Bool) → (b ≡ false → line.inbox.joiner ≡ empty_joiner) → cond b line.inbox.joiner empty_joiner ≡ line.inbox.joiner
    go true is = refl
    go false is = sym (is refl)

-- where no state stands after it, nothing is held
none_after : (c : Constants) (now : ℕ) (v : law.Verdict) (b room : Bool) (p : Piece) (m : Receiver) (j : Joiner) (k : ℕ) → IsCube c.cube → v ≡ verdict c.cube.kind b m p room → is_present c now m ≡ b → (b ≡ false → j ≡ empty_joiner) → (b ≡ false → m.held ≡ []) → is_present c now (receiver_after v c.cube.kind b now p m) ≡ false →
    times k (joiner_numbers (joined_after v c.cube.kind b p m.held j).joiner) + times k (numbers (receiver_after v c.cube.kind b now p m).held) ≡ 0
none_after c now law.Accepted true room p m j k cube v_is b_is joiner held gone = absurd (false≢true (sym gone ∙ stands_now c now cube true refl))
none_after c now law.Accepted false room p m j k cube v_is b_is joiner held gone = absurd (false≢true (sym gone ∙ stands_now c now cube true refl))
none_after c now law.Held true room p m j k cube v_is b_is joiner held gone = absurd (false≢true (sym gone ∙ stands_now c now cube m.made (present_made c now m b_is)))
none_after c now law.Held false room p m j k cube v_is b_is joiner held gone = absurd (never _ _ v_is (absent_cases c.cube.kind room p.drf) (inl refl))
none_after c now law.Duplicate true room p m j k cube v_is b_is joiner held gone = absurd (false≢true (sym gone ∙ stands_now c now cube m.made (present_made c now m b_is)))
none_after c now law.Duplicate false room p m j k cube v_is b_is joiner held gone = absurd (never _ _ v_is (absent_cases c.cube.kind room p.drf) (inr (inl refl)))
none_after c now law.Behind true room p m j k cube v_is b_is joiner held gone = absurd (false≢true (sym gone ∙ stands_now c now cube m.made (present_made c now m b_is)))
none_after c now law.Behind false room p m j k cube v_is b_is joiner held gone = absurd (never _ _ v_is (absent_cases c.cube.kind room p.drf) (inr (inr refl)))
none_after c now law.NoState b room p m j k cube v_is b_is joiner held gone = none_held m j k (joiner (sym b_is ∙ gone)) (held (sym b_is ∙ gone))
none_after c now law.NoRoom b room p m j k cube v_is b_is joiner held gone = none_held m j k (joiner (sym b_is ∙ gone)) (held (sym b_is ∙ gone))

-- The whole of an arrival

-- what a connection notes of the SDUs that wait to be passed
pub record IsNoting (c : Constants) (now : ℕ) (line : Direction) (pdu : Pdu) (unpassed : ℕ) (first ready heard last : Conn) : Type 0 where
  pub cube : ready.sending.form.cube ≡ c.cube
  pub max : ready.sending.numbers.max ≡ c.max
  pub count : unpassed ≡ length line.inbox.got - line.passed
  pub hears : standing.Arrives now pdu unpassed ready heard
  pub before : ready.waiting ≡ first.waiting
  pub after : last.waiting ≡ noted heard.rx.join.whole heard.waiting

-- each piece that such a direction holds, and the one that came, is written off in these lines, held or delivered once
abbrev pub HasSettled : Constants → Piece → Direction → List Off → Type 0
HasSettled c p line offs = (n : ℕ) → times n (p.number ∷ held_numbers line) ≡ times n (off_numbers offs) + times n (held_numbers (landed c p line)) + times n (whole_numbers (whole_by c p line))

-- what is left of a state that is gone is fetched (`before`), the piece is received, the SDUs that are whole are delivered,
-- and the pieces of broken SDUs are fetched (`after`), in order
pub record Arrives (c : Constants) (ids : Ids) (now : ℕ) (line : Direction) (pdu : Pdu) (result : Verdict) (first : Conn) (came : Receiving) (before after : List (Key × Cause)) (last : Conn) : Type 0 where
  pub cause : cause_of result ≡ cause_for c (piece_in pdu) line
  pub got : (landed c (piece_in pdu) line).inbox.got ≡ line.inbox.got ++ map (entry_for c now) came.join.whole
  pub dropped : (off : Off) → In off (offs_of (before ++ after)) → IsDropped c (piece_in pdu) line ids off
  pub gone : before ≡ drops now first.rx
  pub lost : after ≡ broken_with (source_from ids) (lost_after (arrival_verdict c line.line (piece_in pdu) (has_room c line)) c.cube.kind (is_present c line.line.clock line.line.receiver) (piece_in pdu) line.line.receiver.held line.inbox.joiner)
  pub count : length before + length after ≤ length (kept_numbers first.rx)
  pub settled : HasSettled c (piece_in pdu) line (offs_of after ++ lines_for pdu (cause_of result))
  pub receives : IsReceiving c now ids last (landed c (piece_in pdu) line)

module _ (c : Constants) (ids : Ids) (line : Direction) (pdu : Pdu) (unpassed : ℕ) (coming : IsComing c ids line pdu) (room : ltb unpassed c.cube.window ≡ has_room c line) (first ready : Conn) (before : List (Key × Cause)) (receives : IsReceiving c line.line.clock ids first line) (drained : IsDrained line.line.clock first.rx before ready.rx) (none : drops line.line.clock ready.rx ≡ []) where
  -- before the piece is received
  pub stands_ready : Stands c line.line.clock line.line.receiver line.inbox.joiner ready.rx
  stands_ready = drained.stands c line.line.receiver line.inbox.joiner receives.stands

  pub fetched_ready : IsFetched line.line.clock ready.rx
  fetched_ready = all_fetched line.line.clock first.rx before ready.rx drained receives.whole none

  module _ (result : Verdict) (heard : Conn) (row : IsRow line.line.clock pdu unpassed ready.rx result heard.rx) where
    -- and after it
    pub came_heard : Came c line.line.clock (is_present c line.line.clock line.line.receiver) line.line.receiver line.inbox.joiner (arrival_verdict c line.line (piece_in pdu) (has_room c line)) pdu ready.rx result heard.rx
    came_heard = came_of c ids line pdu unpassed ready.rx result heard.rx coming room stands_ready fetched_ready row

    module _ (last : Conn) (after : List (Key × Cause)) (given : IsDrained line.line.clock (delivered heard.rx) after last.rx) (end : drops line.line.clock last.rx ≡ []) where
      stands_last : Stands c line.line.clock (landed c (piece_in pdu) line).line.receiver (landed c (piece_in pdu) line).inbox.joiner last.rx
      stands_last = given.stands c (landed c (piece_in pdu) line).line.receiver (landed c (piece_in pdu) line).inbox.joiner (stands_delivered c line.line.clock (landed c (piece_in pdu) line).line.receiver (landed c (piece_in pdu) line).inbox.joiner heard.rx came_heard.stands)

      kept_last : (n : ℕ) → In n (kept_numbers last.rx) → IsKeptBy ids (landed c (piece_in pdu) line) last.rx n
      kept_last n i = go (is_present c line.line.clock (landed c (piece_in pdu) line).line.receiver) refl
        where
          go : (b : Bool) → is_present c line.line.clock (landed c (piece_in pdu) line).line.receiver ≡ b → IsKeptBy ids (landed c (piece_in pdu) line) last.rx n
          go true stands =
              let heard_too : In n (kept_numbers heard.rx) = given.kept.kept n i in
              record {
                made = present_made c line.line.clock (landed c (piece_in pdu) line).line.receiver stands;
                source = given.kept.source ∙ source_is c ids line.line.clock line pdu (arrival_verdict c line.line (piece_in pdu) (has_room c line)) (is_present c line.line.clock line.line.receiver) (has_room c line) ready.rx result heard.rx n refl refl coming.names stands_ready came_heard stands (kept_drained ids line line.line.clock first.rx before ready.rx drained receives.kept) heard_too;
                number = kept_number c line.line.clock (landed c (piece_in pdu) line) heard.rx n came_heard.stands stands came_heard.going heard_too;
              }
          go false gone =
              let absent : present_at line.line.clock last.rx ≡ false = sym (present_same c line.line.clock (landed c (piece_in pdu) line).line.receiver (landed c (piece_in pdu) line).inbox.joiner last.rx stands_last) ∙ gone in
              absurd (subst (In n) (kept_none line.line.clock last.rx stands_last.not_closed absent end) i)

      once_last : HoldsOnce c.cube.kind (landed c (piece_in pdu) line).line.receiver
      once_last = once_after (arrival_verdict c line.line (piece_in pdu) (has_room c line)) c.cube.kind (is_present c line.line.clock line.line.receiver) (has_room c line) line.line.clock (piece_in pdu) line.line.receiver refl receives.once

      all_last : IsClean c line → (n : ℕ) → times n (kept_numbers last.rx) ≡ times n (held_numbers (landed c (piece_in pdu) line))
      all_last clean n = go (is_present c line.line.clock (landed c (piece_in pdu) line).line.receiver) refl
        where
          go : (b : Bool) → is_present c line.line.clock (landed c (piece_in pdu) line).line.receiver ≡ b → times n (kept_numbers last.rx) ≡ times n (held_numbers (landed c (piece_in pdu) line))
          go true stands =
              let present : present_at line.line.clock heard.rx ≡ true = sym (present_same c line.line.clock (landed c (piece_in pdu) line).line.receiver (landed c (piece_in pdu) line).inbox.joiner heard.rx came_heard.stands) ∙ stands in
              let same : kept_numbers last.rx ≡ kept_numbers heard.rx = given.kept.all (cause_none line.line.clock (delivered heard.rx) came_heard.stands.not_closed present) in
              ap (times n) same ∙ kept_times c line.line.clock (landed c (piece_in pdu) line) heard.rx n came_heard.stands stands came_heard.going once_last
          go false gone =
              let absent : present_at line.line.clock last.rx ≡ false = sym (present_same c line.line.clock (landed c (piece_in pdu) line).line.receiver (landed c (piece_in pdu) line).inbox.joiner last.rx stands_last) ∙ gone in
              let none = ap (times n) (kept_none line.line.clock last.rx stands_last.not_closed absent end) in
              let sum = times-append n (joiner_numbers (landed c (piece_in pdu) line).inbox.joiner) (numbers (landed c (piece_in pdu) line).line.receiver.held) in
              let nothing = none_after c line.line.clock (arrival_verdict c line.line (piece_in pdu) (has_room c line)) (is_present c line.line.clock line.line.receiver) (has_room c line) (piece_in pdu) line.line.receiver line.inbox.joiner n coming.limits refl refl clean.joiner clean.held gone in
              omega arith

      rising_last : IsStrictlyIncreasing (kept_numbers last.rx)
      rising_last = go (is_present c line.line.clock (landed c (piece_in pdu) line).line.receiver) refl
        where
          go : (b : Bool) → is_present c line.line.clock (landed c (piece_in pdu) line).line.receiver ≡ b → IsStrictlyIncreasing (kept_numbers last.rx)
          go true stands =
              let present : present_at line.line.clock heard.rx ≡ true = sym (present_same c line.line.clock (landed c (piece_in pdu) line).line.receiver (landed c (piece_in pdu) line).inbox.joiner heard.rx came_heard.stands) ∙ stands in
              let same : kept_numbers last.rx ≡ kept_numbers heard.rx = given.kept.all (cause_none line.line.clock (delivered heard.rx) came_heard.stands.not_closed present) in
              subst IsStrictlyIncreasing (sym same) (kept_rise c line.line.clock (landed c (piece_in pdu) line).line.receiver (landed c (piece_in pdu) line).inbox.joiner heard.rx came_heard.stands stands came_heard.going)
          go false gone =
              let absent : present_at line.line.clock last.rx ≡ false = sym (present_same c line.line.clock (landed c (piece_in pdu) line).line.receiver (landed c (piece_in pdu) line).inbox.joiner last.rx stands_last) ∙ gone in
              subst IsStrictlyIncreasing (sym (kept_none line.line.clock last.rx stands_last.not_closed absent end)) rise_none

      is_ready : IsClean c line → IsReady c.cube.kind (is_present c line.line.clock line.line.receiver) line.line.receiver line.inbox.joiner
      is_ready clean = record {
        holds = receives.once;
        above = λ stands kind n i. held_above ready.rx.accepted line.line.receiver n (sym stands_ready.of.kind ∙ kind) (stands_ready.known stands) i;
        empty = clean.joiner;
        none = clean.held;
      }

      settled_last : IsClean c line → HasSettled c (piece_in pdu) line (offs_of after ++ lines_for pdu (cause_of result))
      settled_last clean n =
          let v = arrival_verdict c line.line (piece_in pdu) (has_room c line) in
          let b = is_present c line.line.clock line.line.receiver in
          let m : Receiver = line.line.receiver in
          let j : Joiner = line.inbox.joiner in
          let lost = lost_after v c.cube.kind b (piece_in pdu) m.held j in
          let row = row_settles v c.cube.kind b (has_room c line) line.line.clock n (piece_in pdu) m j refl (is_ready clean) in
          let afters : after ≡ broken_with (source_of pdu) lost = sym (drained_all line.line.clock (delivered heard.rx) after last.rx given end) ∙ came_heard.dropped in
          let lines : off_numbers (offs_of after) ≡ lost_numbers lost = ap (λ (ds : List (Key × Cause)). off_numbers (offs_of ds)) afters ∙ broken_numbers (source_of pdu) lost in
          let own : off_numbers (lines_for pdu (cause_of result)) ≡ written_off_by v (piece_in pdu) j = own_lines pdu (cause_of result) coming.kind ∙ ap (own_numbers pdu.seq) (came_cause c ids line pdu coming ready.rx result heard.rx came_heard) ∙ own_by v c (piece_in pdu) line (clean_joiner c line clean) in
          let both = ap (times n) (off-append (offs_of after) (lines_for pdu (cause_of result))) in
          let split = times-append n (off_numbers (offs_of after)) (off_numbers (lines_for pdu (cause_of result))) in
          let given_up = ap (times n) lines in
          let itself = ap (times n) own in
          let held = times-append n (joiner_numbers j) (numbers m.held) in
          let held' = times-append n (joiner_numbers (landed c (piece_in pdu) line).inbox.joiner) (numbers (landed c (piece_in pdu) line).line.receiver.held) in
          omega arith

      -- what was noted before the piece came, and once it was heard
      receiver_ready : ready.plan ≡ first.plan → IsNoting c line.line.clock line pdu unpassed first ready heard last → IsReceiver c line ready
      receiver_ready plan n =
          let W : List Sdu → Waits → Type 0 = λ ws w. AreWaiting c line ws w in
          record {
            cube = n.cube;
            max = n.max;
            rx = stands_ready;
            last = receives.last;
            plan = plan ∙ receives.plan;
            waiting = subst (λ (ws : List Sdu). W ws ready.waiting) (sym fetched_ready.whole) (subst (W []) (sym n.before) receives.waiting);
          }

      waiting_last : ready.plan ≡ first.plan → IsNoting c line.line.clock line pdu unpassed first ready heard last → AreWaiting c (landed c (piece_in pdu) line) [] last.waiting
      waiting_last plan n =
          let heard_is = n.hears c line refl n.count (receiver_ready plan n) fetched_ready (welcome c ids line pdu unpassed coming room) in
          subst (λ (w : Waits). AreWaiting c (landed c (piece_in pdu) line) [] w) (sym n.after) (noted_waiting c (landed c (piece_in pdu) line) heard.rx.join.whole heard.waiting heard_is.waiting)

      arrives_now : IsClean c line → Marks line.line.clock pdu unpassed ready result heard → ready.plan ≡ first.plan → last.plan ≡ heard.plan → IsNoting c line.line.clock line pdu unpassed first ready heard last → Arrives c ids line.line.clock line pdu result first heard.rx before after last
      arrives_now clean marks plan plan_last noting =
          let P : law.Verdict → Type 0 = λ v. IsPlanOf c (mark_after v c line.line.clock line.line.receiver line.mark) heard.plan in
          let planned = marks c line.line.receiver line.inbox.joiner line.mark stands_ready fetched_ready (welcome c ids line pdu unpassed coming room) receives.last (plan ∙ receives.plan) in
          let befores = drained_all line.line.clock first.rx before ready.rx drained none in
          let afters : drops line.line.clock heard.rx ≡ after = drained_all line.line.clock (delivered heard.rx) after last.rx given end in
          record {
            cause = came_cause c ids line pdu coming ready.rx result heard.rx came_heard;
            got = came_got c ids line pdu coming ready.rx result heard.rx came_heard;
            dropped = λ off i. elim (in_append (offs_of before) (offs_of after) off (subst (In off) (offs_of-append before after) i)) [
              | inl gone ↦ gone_dropped c ids line (piece_in pdu) first.rx receives.stands receives.broken receives.kept off (subst (λ (ds : List (Key × Cause)). In off (offs_of ds)) (sym befores) gone)
              | inr lost ↦ came_dropped c ids line pdu ready.rx result heard.rx coming came_heard off (subst (λ (ds : List (Key × Cause)). In off (offs_of ds)) (sym afters) lost)
            ];
            gone = sym befores;
            lost = sym afters ∙ came_heard.dropped ∙ ap (λ (x : Source). broken_with x (lost_after (arrival_verdict c line.line (piece_in pdu) (has_room c line)) c.cube.kind (is_present c line.line.clock line.line.receiver) (piece_in pdu) line.line.receiver.held line.inbox.joiner)) (far_source ids pdu coming.names);
            count = (let most = drops_within c ids line pdu first.rx ready.rx result heard.rx coming receives.stands receives.broken came_heard in let x = ap (λ (ds : List (Key × Cause)). length ds) befores in let y = ap (λ (ds : List (Key × Cause)). length ds) afters in omega arith);
            settled = settled_last clean;
            receives = record {
              stands = stands_last;
              plan = plan_last ∙ subst P (verdict_is c line (piece_in pdu) unpassed room) planned;
              last = last_after c line.line.clock line.line.receiver (piece_in pdu) (arrival_verdict c line.line (piece_in pdu) (has_room c line)) (is_present c line.line.clock line.line.receiver) (has_room c line) refl refl receives.last;
              whole = given.whole;
              broken = none_broken line.line.clock last.rx end;
              forward = fetched_forward c line.line.clock (landed c (piece_in pdu) line).line.receiver (landed c (piece_in pdu) line).inbox.joiner last.rx stands_last end;
              waiting = waiting_last plan noting;
              early = early_after c line (piece_in pdu) receives.early;
              kept = kept_last;
              once = once_last;
              all = all_last clean;
              rising = rising_last;
            };
          }

-- at a clock
pub arrives : (c : Constants) (ids : Ids) (now : ℕ) (line : Direction) (pdu : Pdu) (unpassed : ℕ) (first ready heard last : Conn) (before after : List (Key × Cause)) (result : Verdict) → line.line.clock ≡ now → IsComing c ids line pdu → ltb unpassed c.cube.window ≡ has_room c line → IsClean c line →
    IsReceiving c now ids first line → IsDrained now first.rx before ready.rx → drops now ready.rx ≡ [] → ready.plan ≡ first.plan →
    IsRow now pdu unpassed ready.rx result heard.rx → Marks now pdu unpassed ready result heard →
    IsDrained now (delivered heard.rx) after last.rx → drops now last.rx ≡ [] → last.plan ≡ heard.plan → IsNoting c now line pdu unpassed first ready heard last →
    Arrives c ids now line pdu result first heard.rx before after last
arrives c ids now line pdu unpassed first ready heard last before after result clock coming room clean =
    let A : ℕ → Type 0 = λ t. IsReceiving c t ids first line → IsDrained t first.rx before ready.rx → drops t ready.rx ≡ [] → ready.plan ≡ first.plan → IsRow t pdu unpassed ready.rx result heard.rx → Marks t pdu unpassed ready result heard → IsDrained t (delivered heard.rx) after last.rx → drops t last.rx ≡ [] → last.plan ≡ heard.plan → IsNoting c t line pdu unpassed first ready heard last → Arrives c ids t line pdu result first heard.rx before after last in
    subst A clock (λ receives drained none plan row marks given end plan_last noting. arrives_now c ids line pdu unpassed coming room first ready before receives drained none result heard row last after given end clean marks plan plan_last noting)
