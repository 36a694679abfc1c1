-- The whole of an arrival, from what the piece finds on.
use Rattle.std.proofs.Common.{◌≡◌, ℕ, ◌+◌, ◌-◌, ◌≤◌, List, [], ◌++◌, append-nil, length, map, length-append, Bool, true, false, cond, ltb, refl, sym, ◌∙◌, ap, subst, arith, inl, inr}
use Rattle.std.proofs.lemmas.Bool.{false≢true}
use Rattle.std.specs.List.Sorted.{IsStrictlyIncreasing}
use Rattle.rina_account.specs.declared.ledger.Off.{Off}
use Rattle.rina_base.specs.declared.cause.Cause.{Cause}
use Rattle.rina_base.specs.declared.number.Key.{Key}
use Rattle.rina_base.specs.declared.pdu.Pdu.{Pdu}
use Rattle.rina_conn.specs.declared.conn.Conn.{Conn}
use Rattle.rina_cube.specs.declared.Kind.{Kind}
use Rattle.rina_dif_law.specs.Counting.{InOrder, held_numbers, off_numbers, times}
use Rattle.rina_dif_law.specs.Ids.{Ids}
use Rattle.rina_dif_law.specs.Incoming.{AllSettled, IsDropped, arrived, by_joiner, cause_by, cause_for, found, lines_for}
use Rattle.rina_dtp.specs.declared.gap.Lost.{Lost}
use Rattle.rina_dtp.specs.declared.verdict.Verdict.{Verdict}
use Rattle.rina_dtp.specs.Lost.{lost_after}
use Rattle.rina_dtp.specs.Receiving.{Receiving, broken_with, drops, kept_numbers, lost_in, present_at}
use Rattle.rina_dtp.proofs.Came.{drops_standing, kept_none, present_same}
use Rattle.rina_dif_law.proofs.Forgot.{found_clock, found_got}
use Rattle.rina_law.specs.declared.entry.Entry.{Entry}
use Rattle.rina_law.specs.Constants.{Constants}
use Rattle.rina_law.specs.Direction.{Direction, Forget, entry_for, happens, has_room}
use Rattle.rina_law.specs.Line.{arrival_verdict}
use Rattle.rina_law.specs.Lists.{In}
use Rattle.rina_law.specs.Pdus.{piece_in}
use Rattle.rina_law.specs.Pieces.{Joiner, Sdu, empty_joiner}
use Rattle.rina_law.specs.Receiver as law
use Rattle.rina_law.specs.Receiver.{Piece, is_present, verdict_by_state, with_room}
use Rattle.rina_law.proofs.Suffices.{row_holds}
use Rattle.rina_flows.specs.Arriving.{IsArrival, IsComing, IsDrained, cause_of, offs_of}
use Rattle.rina_flows.specs.Tied.{IsReceiving, source_from}
use Rattle.rina_flows.proofs.Arrived.{gone_dropped}
use Rattle.rina_flows.proofs.Given.{drained_all, drained_none, in_append, offs_of-append, offs_of-length}
use Rattle.rina_flows.proofs.Kept.{drops_count}
use Rattle.rina_flows.proofs.KeptOnce.{broken_numbers, cause_gone, cause_none, ended_all}
use Rattle.rina_flows.proofs.Ordered.{lost_rise}
use Rattle.rina_flows.proofs.Ready.{by_presence, receiving_found}
use Rattle.rina_flows.proofs.Receives.{IsClean, IsNoting, arrives}
use Rattle.rina_flows.proofs.Settled.{lost_numbers, off-append}
use Rattle.rina_flows.proofs.Times.{times-append}

-- What a piece finds

pub found_sender : (c : Constants) (line : Direction) → (found c line).line.sender ≡ line.line.sender
found_sender c line = by_presence (λ l. l.line.sender ≡ line.line.sender) c line (λ stands. refl) (λ gone. refl)

found_clean : (c : Constants) (line : Direction) → IsClean c (found c line)
found_clean c line = by_presence (IsClean c) c line
    (λ stands. record { joiner = λ gone. absurd (false≢true (sym gone ∙ stands)); held = λ gone. absurd (false≢true (sym gone ∙ stands)) })
    (λ gone. record { joiner = λ e. refl; held = λ e. refl })

found_coming : (c : Constants) (ids : Ids) (line : Direction) (pdu : Pdu) → IsComing c ids line pdu → IsComing c ids (found c line) pdu
found_coming c ids line pdu x = by_presence (λ l. IsComing c ids l pdu) c line (λ stands. x)
    (λ gone. record { limits = x.limits; cep = x.cep; holds = row_holds c line Forget x.limits x.holds gone; copy = x.copy; copy_is = x.copy_is; flies = x.flies; alive = x.alive; kind = x.kind; names = x.names })

-- it writes off the same, for the same cause, as what was there before

gone_cause : (v : law.Verdict) (c : Constants) (p : Piece) (line : Direction) → is_present c line.line.clock line.line.receiver ≡ false → cause_by v c p (happens c line Forget) ≡ cause_by v c p line
gone_cause law.Accepted c p line gone = ap (by_joiner p) (ap (λ (b : Bool). cond b empty_joiner empty_joiner) gone ∙ sym (ap (λ (b : Bool). cond b line.inbox.joiner empty_joiner) gone))
gone_cause law.Held c p line gone = refl
gone_cause law.Duplicate c p line gone = refl
gone_cause law.Behind c p line gone = refl
gone_cause law.NoState c p line gone = refl
gone_cause law.NoRoom c p line gone = refl

found_cause : (c : Constants) (p : Piece) (line : Direction) → cause_for c p (found c line) ≡ cause_for c p line
found_cause c p line = by_presence (λ l. cause_for c p l ≡ cause_for c p line) c line (λ stands. refl) (λ gone.
    let same : arrival_verdict c (happens c line Forget).line p (has_room c line) ≡ arrival_verdict c line.line p (has_room c line) = ap (λ (b : Bool). with_room (has_room c line) (verdict_by_state c.cube.kind b (happens c line Forget).line.receiver p)) gone ∙ sym (ap (λ (b : Bool). with_room (has_room c line) (verdict_by_state c.cube.kind b line.line.receiver p)) gone) in
    ap (λ v. cause_by v c p (happens c line Forget)) same ∙ gone_cause (arrival_verdict c line.line p (has_room c line)) c p line gone)

found_dropped : (c : Constants) (p : Piece) (ids : Ids) (line : Direction) (off : Off) → IsDropped c p (found c line) ids off → IsDropped c p line ids off
found_dropped c p ids line off = by_presence (λ l. IsDropped c p l ids off → IsDropped c p line ids off) c line (λ stands x. x)
    (λ gone x. absurd (elim x.held [ inl joined ↦ (let a = joined.0 in let b = joined.1 in omega arith) | inr held ↦ held ]))

-- What was left is written off whole

nothing_drops : (now : ℕ) (r : Receiving) → r.closed ≡ false → lost_in r.join.gaps ≡ [] → present_at now r ≡ true → drops now r ≡ []
nothing_drops now r shut broken stands = drops_standing now r shut stands ∙ ap (broken_with r.source) broken

module _ (c : Constants) (ids : Ids) (line : Direction) (conn ready : Conn) (before : List (Key × Cause)) (h : IsReceiving c line.line.clock ids conn line) (drained : IsDrained line.line.clock conn.rx before ready.rx) (none : drops line.line.clock ready.rx ≡ []) where
  left_settled : (n : ℕ) → times n (held_numbers line) ≡ times n (off_numbers (offs_of before)) + times n (held_numbers (found c line))
  left_settled n = by_presence (λ l. times n (held_numbers line) ≡ times n (off_numbers (offs_of before)) + times n (held_numbers l)) c line
      (λ stands.
      let now : present_at line.line.clock conn.rx ≡ true = sym (present_same c line.line.clock line.line.receiver line.inbox.joiner conn.rx h.stands) ∙ stands in
      let nothing : before ≡ [] = sym (drained_all line.line.clock conn.rx before ready.rx drained none) ∙ nothing_drops line.line.clock conn.rx h.stands.not_closed h.broken now in
      let zero = ap (λ (ds : List (Key × Cause)). times n (off_numbers (offs_of ds))) nothing in
      omega arith)
      (λ gone.
      let now : present_at line.line.clock conn.rx ≡ false = sym (present_same c line.line.clock line.line.receiver line.inbox.joiner conn.rx h.stands) ∙ gone in
      let why = cause_gone line.line.clock conn.rx h.stands.not_closed now in
      let all = ap (times n) (ended_all line.line.clock conn.rx _ h.broken why) in
      let same = ap (λ (ds : List (Key × Cause)). times n (off_numbers (offs_of ds))) (drained_all line.line.clock conn.rx before ready.rx drained none) in
      let kept = h.all n in
      omega arith)

  -- and so no more is given up in all than was kept
  left_count : (after : ℕ) → after ≤ length (kept_numbers ready.rx) → length before + after ≤ length (kept_numbers conn.rx)
  left_count after le = go (is_present c line.line.clock line.line.receiver) refl
    where
      befores : length (drops line.line.clock conn.rx) ≡ length before
      befores = ap (λ (ds : List (Key × Cause)). length ds) (drained_all line.line.clock conn.rx before ready.rx drained none)

      go : (b : Bool) → is_present c line.line.clock line.line.receiver ≡ b → length before + after ≤ length (kept_numbers conn.rx)
      go true stands =
          let now : present_at line.line.clock conn.rx ≡ true = sym (present_same c line.line.clock line.line.receiver line.inbox.joiner conn.rx h.stands) ∙ stands in
          let same = ap (λ (ns : List ℕ). length ns) (drained.kept.all (cause_none line.line.clock conn.rx h.stands.not_closed now)) in
          let zero = ap (λ (ds : List (Key × Cause)). length ds) (nothing_drops line.line.clock conn.rx h.stands.not_closed h.broken now) in
          let first = befores in
          omega arith
      go false gone =
          let st = drained.stands c line.line.receiver line.inbox.joiner h.stands in
          let now : present_at line.line.clock ready.rx ≡ false = sym (present_same c line.line.clock line.line.receiver line.inbox.joiner ready.rx st) ∙ gone in
          let empty = ap (λ (ns : List ℕ). length ns) (kept_none line.line.clock ready.rx st.not_closed now none) in
          let most = drops_count line.line.clock conn.rx h.broken in
          let first = befores in
          omega arith

-- In the order of the numbers

-- where no state stands, a piece gives nothing up
lost_absent : (v : law.Verdict) (kind : Kind) (b : Bool) (p : Piece) (held : List Piece) (j : Joiner) → b ≡ false → lost_after v kind b p held j ≡ []
lost_absent law.Accepted kind true p held j e = absurd (false≢true (sym e))
lost_absent law.Accepted kind false p held j e = refl
lost_absent law.Held kind b p held j e = refl
lost_absent law.Duplicate kind b p held j e = refl
lost_absent law.Behind kind b p held j e = refl
lost_absent law.NoState kind b p held j e = refl
lost_absent law.NoRoom kind b p held j e = refl

-- what an arrival of this piece gives up of what such a direction holds
abbrev lost_of : Constants → Piece → Direction → List Lost
lost_of c p line = lost_after (arrival_verdict c line.line p (has_room c line)) c.cube.kind (is_present c line.line.clock line.line.receiver) p line.line.receiver.held line.inbox.joiner

-- either what was left of a state that is gone, or what the piece breaks
in_order_found : (c : Constants) (ids : Ids) (line : Direction) (pdu : Pdu) (conn ready : Conn) (before after : List (Key × Cause)) → IsReceiving c line.line.clock ids conn line → IsComing c ids line pdu → IsDrained line.line.clock conn.rx before ready.rx → drops line.line.clock ready.rx ≡ [] → after ≡ broken_with (source_from ids) (lost_of c (piece_in pdu) (found c line)) → InOrder (offs_of (before ++ after))
in_order_found c ids line pdu conn ready before after h coming drained none = by_presence (λ l. after ≡ broken_with (source_from ids) (lost_of c (piece_in pdu) l) → InOrder (offs_of (before ++ after))) c line
    (λ stands lost.
    let now : present_at line.line.clock conn.rx ≡ true = sym (present_same c line.line.clock line.line.receiver line.inbox.joiner conn.rx h.stands) ∙ stands in
    let nothing : before ≡ [] = sym (drained_all line.line.clock conn.rx before ready.rx drained none) ∙ nothing_drops line.line.clock conn.rx h.stands.not_closed h.broken now in
    let ls : List Lost = lost_of c (piece_in pdu) line in
    let is : off_numbers (offs_of (before ++ after)) ≡ lost_numbers ls = ap (λ (ds : List (Key × Cause)). off_numbers (offs_of (ds ++ after))) nothing ∙ ap (λ (ds : List (Key × Cause)). off_numbers (offs_of ds)) lost ∙ broken_numbers (source_from ids) ls in
    subst IsStrictlyIncreasing (sym is) (lost_rise c ids line pdu (arrival_verdict c line.line (piece_in pdu) (has_room c line)) c.cube.kind (is_present c line.line.clock line.line.receiver) coming refl refl refl))
    (λ gone lost.
    let now : present_at line.line.clock conn.rx ≡ false = sym (present_same c line.line.clock line.line.receiver line.inbox.joiner conn.rx h.stands) ∙ gone in
    let l : Direction = happens c line Forget in
    let nothing : after ≡ [] = lost ∙ ap (broken_with (source_from ids)) (lost_absent (arrival_verdict c l.line (piece_in pdu) (has_room c l)) c.cube.kind (is_present c l.line.clock l.line.receiver) (piece_in pdu) l.line.receiver.held l.inbox.joiner gone) in
    let first : before ++ after ≡ drops line.line.clock conn.rx = ap (λ (ds : List (Key × Cause)). before ++ ds) nothing ∙ append-nil before ∙ sym (drained_all line.line.clock conn.rx before ready.rx drained none) in
    let is : off_numbers (offs_of (before ++ after)) ≡ kept_numbers conn.rx = ap (λ (ds : List (Key × Cause)). off_numbers (offs_of ds)) first ∙ ended_all line.line.clock conn.rx _ h.broken (cause_gone line.line.clock conn.rx h.stands.not_closed now) in
    subst IsStrictlyIncreasing (sym is) h.rising)

-- The whole

pub record ArrivesFound (c : Constants) (ids : Ids) (now : ℕ) (line : Direction) (pdu : Pdu) (result : Verdict) (conn : Conn) (offs : List Off) (came : List Sdu) (last : Conn) : Type 0 where
  pub cause : cause_of result ≡ cause_for c (piece_in pdu) line
  pub got : (arrived c (piece_in pdu) line).inbox.got ≡ line.inbox.got ++ map (entry_for c now) came
  pub dropped : (off : Off) → In off offs → IsDropped c (piece_in pdu) line ids off
  pub settled : AllSettled c (piece_in pdu) line (offs ++ lines_for pdu (cause_of result))
  pub in_order : InOrder offs
  pub count : length offs ≤ length (kept_numbers conn.rx)
  pub receives : IsReceiving c now ids last (arrived c (piece_in pdu) line)

-- an arrival, at the tick of the direction
found_now : (c : Constants) (ids : Ids) (line : Direction) (pdu : Pdu) (unpassed : ℕ) (conn last : Conn) (result : Verdict) (offs : List Off) (whole : List Sdu) → IsComing c ids line pdu → ltb unpassed c.cube.window ≡ has_room c line → IsReceiving c line.line.clock ids conn line →
    unpassed ≡ length line.inbox.got - line.passed → (a : IsArrival line.line.clock pdu unpassed conn result offs whole last) → a.ready.sending.form.cube ≡ c.cube → a.ready.sending.numbers.max ≡ c.max → ArrivesFound c ids line.line.clock line pdu result conn offs a.heard.rx.join.whole last
found_now c ids line pdu unpassed conn last result offs whole coming room h count a cube max =
    let line' : Direction = found c line in
    let now : ℕ = line.line.clock in
    let clock : line'.line.clock ≡ now = found_clock c line in
    let found' = receiving_found c ids conn a.ready line a.before h a.drained a.none_before a.plan_before a.waiting_before in
    let room' : ltb unpassed c.cube.window ≡ has_room c line' = by_presence (λ l. ltb unpassed c.cube.window ≡ has_room c l) c line (λ stands. room) (λ gone. room) in
    let count' : unpassed ≡ length line'.inbox.got - line'.passed = by_presence (λ l. unpassed ≡ length l.inbox.got - l.passed) c line (λ stands. count) (λ gone. count) in
    let noting : IsNoting c now line' pdu unpassed a.ready a.ready a.heard last = record { cube = cube; max = max; count = count'; hears = a.hears; before = refl; after = a.waiting_after } in
    let x = arrives c ids now line' pdu unpassed a.ready a.ready a.heard last [] a.after result clock (found_coming c ids line pdu coming) room' (found_clean c line) found' (drained_none now a.ready.rx) a.none_before refl a.row a.marks a.given a.none_after a.plan_after noting in
    let dropped : (off : Off) → In off (offs_of (a.before ++ a.after)) → IsDropped c (piece_in pdu) line ids off = λ off i. elim (in_append (offs_of a.before) (offs_of a.after) off (subst (In off) (offs_of-append a.before a.after) i)) [
      | inl gone ↦ gone_dropped c ids line (piece_in pdu) conn.rx h.stands h.broken h.kept off (subst (λ (ds : List (Key × Cause)). In off (offs_of ds)) (sym (drained_all now conn.rx a.before a.ready.rx a.drained a.none_before)) gone)
      | inr lost ↦ found_dropped c (piece_in pdu) ids line off (x.dropped off lost)
    ] in
    let settled : AllSettled c (piece_in pdu) line (offs_of (a.before ++ a.after) ++ lines_for pdu (cause_of result)) = λ n.
    (let own : List Off = lines_for pdu (cause_of result) in
    let rest = x.settled n in
    let left = left_settled c ids line conn a.ready a.before h a.drained a.none_before n in
    let p = ap (λ (os : List Off). times n (off_numbers (os ++ own))) (offs_of-append a.before a.after) in
    let q = ap (times n) (off-append (offs_of a.before ++ offs_of a.after) own) in
    let r = times-append n (off_numbers (offs_of a.before ++ offs_of a.after)) (off_numbers own) in
    let s = ap (times n) (off-append (offs_of a.before) (offs_of a.after)) in
    let t = times-append n (off_numbers (offs_of a.before)) (off_numbers (offs_of a.after)) in
    let u = ap (times n) (off-append (offs_of a.after) own) in
    let v = times-append n (off_numbers (offs_of a.after)) (off_numbers own) in
    omega arith) in
    let order : InOrder (offs_of (a.before ++ a.after)) = in_order_found c ids line pdu conn a.ready a.before a.after h coming a.drained a.none_before x.lost in
    let D : List Off → Type 0 = λ os. (off : Off) → In off os → IsDropped c (piece_in pdu) line ids off in
    let S : List Off → Type 0 = λ os. AllSettled c (piece_in pdu) line (os ++ lines_for pdu (cause_of result)) in
    record {
      cause = x.cause ∙ found_cause c (piece_in pdu) line;
      got = x.got ∙ ap (λ (es : List Entry). es ++ map (entry_for c now) a.heard.rx.join.whole) (found_got c line);
      dropped = subst D (sym a.offs_are) dropped;
      settled = subst S (sym a.offs_are) settled;
      in_order = subst InOrder (sym a.offs_are) order;
      count = (let most = left_count c ids line conn a.ready a.before h a.drained a.none_before (length a.after) (let le = x.count in omega arith) in let e = ap (λ (os : List Off). length os) a.offs_are in let f = offs_of-length (a.before ++ a.after) in let sum = length-append a.before a.after in omega arith);
      receives = x.receives;
    }

-- at a clock
pub arrives_found : (c : Constants) (ids : Ids) (now : ℕ) (line : Direction) (pdu : Pdu) (unpassed : ℕ) (conn last : Conn) (result : Verdict) (offs : List Off) (whole : List Sdu) → line.line.clock ≡ now → IsComing c ids line pdu → ltb unpassed c.cube.window ≡ has_room c line → IsReceiving c now ids conn line →
    unpassed ≡ length line.inbox.got - line.passed → (a : IsArrival now pdu unpassed conn result offs whole last) → a.ready.sending.form.cube ≡ c.cube → a.ready.sending.numbers.max ≡ c.max → ArrivesFound c ids now line pdu result conn offs a.heard.rx.join.whole last
arrives_found c ids now line pdu unpassed conn last result offs whole clock coming room =
    let A : ℕ → Type 0 = λ t. IsReceiving c t ids conn line → unpassed ≡ length line.inbox.got - line.passed → (a : IsArrival t pdu unpassed conn result offs whole last) → a.ready.sending.form.cube ≡ c.cube → a.ready.sending.numbers.max ≡ c.max → ArrivesFound c ids t line pdu result conn offs a.heard.rx.join.whole last in
    subst A clock (found_now c ids line pdu unpassed conn last result offs whole coming room)
