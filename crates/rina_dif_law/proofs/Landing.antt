-- The account goes on as an IPC process takes what came from below.
use Rattle.std.proofs.Common.{◌≡◌, ◌≢◌, ℕ, ◌+◌, ◌<◌, ◌≤◌, ◌&&◌, not, Bool, true, false, cond, eqb, List, [], ◌∷◌, ◌++◌, length, map, slice_get, slice_set, Some, None, Option, Ok, Err, Result, refl, sym, ◌∙◌, ap, subst, arith, inl, inr}
use Rattle.std.proofs.lemmas.Bool.{eq-eqb}
use Rattle.rina_account.specs.Account.{Counts, key_eq}
use Rattle.rina_account.specs.declared.ledger.Off.{Off}
use Rattle.rina_base.specs.declared.cause.Cause.{Cause}
use Rattle.rina_base.specs.declared.cause.Cause.TheVariants as causes
use Rattle.rina_base.specs.declared.number.Key.{Key}
use Rattle.rina_base.specs.declared.number.Port.{Port}
use Rattle.rina_base.specs.declared.pdu.Pdu.{Pdu}
use Rattle.rina_base.specs.declared.pdu.PduKind.{PduKind}
use Rattle.rina_base.specs.declared.pdu.PduKind.TheVariants.{Piece as APiece}
use Rattle.rina_base.specs.Pdus.{key_of, number_by}
use Rattle.rina_iface.specs.declared.ends.End.{End}
use Rattle.rina_iface.specs.declared.state.PortState.{PortState}
use Rattle.rina_iface.specs.Journal.{AreKept}
use Rattle.rina_iface.specs.Pass.{IsPassed as PassesBelow}
use Rattle.rina_iface.specs.Seen.{Seen, end_of, unpassed}
use Rattle.rina_iface.proofs.Changed.{set_at, slice_get-set_same}
use Rattle.rina_iface.proofs.Found.{end_of_stands}
use Rattle.rina_law.specs.declared.entry.Entry.{Entry}
use Rattle.rina_law.specs.Constants.{Constants}
use Rattle.rina_law.specs.Direction.{Direction, entry_for, has_room}
use Rattle.rina_law.specs.Line.{arrival_verdict, told}
use Rattle.rina_law.specs.Lists.{In}
use Rattle.rina_law.specs.Pdus.{ack_in, piece_in}
use Rattle.rina_law.specs.Pieces.{IsSized, Part, Sdu}
use Rattle.rina_law.specs.Receiver.{Piece, is_present}
use Rattle.rina_queue.specs.declared.queue.Queued.{Queued}
use Rattle.rina_data.specs.declared.link.Link.{Link}
use Rattle.rina_data.specs.declared.step.InStep.{InStep}
use Rattle.rina_data.specs.declared.step.InStep.TheVariants as in_
use Rattle.rina_data.specs.declared.step.StepError.{StepError}
use Rattle.rina_data.specs.declared.step.StepError.TheVariants.{CountSpent, Memory, NoIpc, NoLink}
use Rattle.rina_data.specs.declared.step.Took.{Took}
use Rattle.rina_data.specs.declared.step.Took.TheVariants as took
use Rattle.rina_dif_law.specs.Accounted.{IsAccounted, Resends, bears, bears_on, counts_of, held_by, held_in, inbound_of, journal_numbers, over_ends, pieces_of, sent_with, taken_with}
use Rattle.rina_dif_law.specs.Carried.{AreJoined, HoldsCome, IsCarrying}
use Rattle.rina_dif_law.specs.Cloud.{Cloud, Everywhere, IsMine}
use Rattle.rina_data.specs.Hops.{Hop, opened}
use Rattle.rina_dif_law.specs.Counting.{held_numbers, off_numbers, times, whole_numbers}
use Rattle.rina_data.specs.Configs.{Config, Member, piece_size}
use Rattle.rina_dif_law.specs.Dif.{DifSeen, IsProcess, constants, with_process}
use Rattle.rina_data.specs.Process.{Process, link_by, with_offs}
use Rattle.rina_dif_law.specs.Ids.{Ids, IsFrom, PiecesOf, flipped}
use Rattle.rina_dif_law.specs.Incoming.{Ins, IsArrived, IsInTime, IsRelayed, IsOnLink, IsTold, Settles, SettlesFlow, SettlesOff, arrived, cause_told, found, joined_by, lines_for, written_off}
use Rattle.rina_dif_law.specs.Numbered.{IsNumbered}
use Rattle.rina_data.specs.Queueing.{line_for}
use Rattle.rina_dif_law.specs.Standing.{IsStanding}
use Rattle.rina_dif_law.proofs.Accounting.{left_at, offs_more, one_off, one_process, put_one, renewed}
use Rattle.rina_dif_law.proofs.Arrivals.{arrival}
use Rattle.rina_dif_law.proofs.Balancing.{AreSame, IsMoved, gone, moved_in}
use Rattle.rina_dif_law.proofs.Carrying.{arriving_sized}
use Rattle.rina_dif_law.proofs.Coming.{alive_arrival}
use Rattle.rina_dif_law.proofs.Ends.{same_some}
use Rattle.rina_dif_law.proofs.Forgot.{by_found, found_got}
use Rattle.rina_dif_law.proofs.Joined.{after_known, none_joined}
use Rattle.rina_dif_law.proofs.Keys.{AreOf, IsOneKey, one, one_by_number, one_not, piece_no_ack}
use Rattle.rina_dif_law.proofs.OfLinks.{accounted_but, none_noted, not_bears, not_bears_on, once_if}
use Rattle.rina_dif_law.proofs.Pieces.{cut_pieces, journal_more, whole_journal}
use Rattle.rina_dif_law.proofs.Receiving.{HaveCome, others_addr, received}
use Rattle.rina_dif_law.proofs.Own.{direction_in}
use Rattle.rina_dif_law.proofs.Relaying.{accounted_same, has_taken, link_named, named_at, same_process, within_kept}
use Rattle.rina_dif_law.proofs.Tallies.{end_changed, hold_elsewhere, hold_set, inbound_at, kept_all_same}

-- Nothing is asked of a part but its size
abbrev Any : ℕ → Part → Type 0
Any n part = Unit {0}

-- what a receiver holds is sized
record AreSized (size : ℕ) (line : Direction) : Type 0 where
  joined : AreJoined size Any line.inbox.joiner
  held : (p : Piece) → In p line.line.receiver.held → IsSized size p.part

found_sized : (size : ℕ) (c : Constants) (line : Direction) → AreSized size line → AreSized size (found c line)
found_sized size c line h = by_found (AreSized size) c line h (λ gone. record { joined = none_joined size Any; held = λ p none. absurd none })

holds_sized : (g : Config) (now : ℕ) (below : Seen) (ids : Ids) (line : Direction) → HoldsCome g now below ids line → AreSized (piece_size g) line
holds_sized g now below ids line h = record { joined = record { parts = h.joined.parts; is_open = h.joined.is_open; count = h.joined.count; bytes = h.joined.bytes; each = λ k part x. tt }; held = h.sized }

-- the SDUs that become whole have as many pieces as their bytes say
whole_pieces : (size : ℕ) (c : Constants) (p : Piece) (line : Direction) → 0 < size → IsSized size p.part → AreSized size line → (sdu : Sdu) → In sdu (joined_by c p line) → sdu.pieces ≡ pieces_of size (length sdu.bytes)
whole_pieces size c p line some sized h sdu one =
    let l : Direction = found c line in
    let s = found_sized size c line h in
    let all = after_known size Any (arrival_verdict c l.line p (has_room c l)) c.cube.kind (is_present c l.line.clock l.line.receiver) p l.line.receiver.held l.inbox.joiner sized tt (λ q i. (tt, s.held q i)) s.joined in
    let w = all.whole sdu one in
    sym w.count ∙ cut_pieces size true w.parts some w.cut ∙ ap (λ (bytes : List ℕ). pieces_of size (length bytes)) w.joins

-- what an end got is more by these
got_more : (size : ℕ) (c : Constants) (p : Piece) (line : Direction) (got : List Entry) (n : ℕ) → 0 < size → IsSized size p.part → AreSized size line → line.inbox.got ≡ got → times n (journal_numbers size (arrived c p line).inbox.got) ≡ times n (journal_numbers size got) + times n (whole_numbers (joined_by c p line))
got_more size c p line got n some sized h got_is =
    let l : Direction = found c line in
    let news : List Entry = map (entry_for c l.line.clock) (joined_by c p line) in
    let is : (arrived c p line).inbox.got ≡ got ++ news = ap (λ (xs : List Entry). xs ++ news) (found_got c line ∙ got_is) in
    ap (λ (xs : List Entry). times n (journal_numbers size xs)) is ∙ journal_more size got news n
    ∙ ap (λ (xs : List ℕ). times n (journal_numbers size got) + times n xs) (whole_journal size c l.line.clock (joined_by c p line) (whole_pieces size c p line some sized h))

-- the number of a piece is that of its key
piece_number : (pdu : Pdu) → pdu.kind ≡ APiece → (key_of pdu).seq ≡ pdu.seq
piece_number pdu is = ap (λ (kind : PduKind). number_by kind pdu.seq pdu.ack) is

-- one PDU for another address is one PDU
on_less : (addr : ℕ) (k : Key) (hop : Hop) → cond (bears_on addr k (Some hop)) 1 0 ≤ one k (key_of hop.pdu)
on_less addr k hop = go (key_eq k (key_of hop.pdu))
  where
    go : (b : Bool) → cond (b && not (eqb hop.pdu.dst addr)) 1 0 ≤ cond b 1 0
    go false = omega arith
    go true = small (not (eqb hop.pdu.dst addr))
      where
        small : (c : Bool) → cond c 1 0 ≤ 1
        small true = omega arith
        small false = omega arith

on_none : (addr : ℕ) (k : Key) (hop : Hop) → hop.pdu.dst ≡ addr → once_if (bears_on addr k (Some hop)) ≡ 0
on_none addr k hop dst = go (key_eq k (key_of hop.pdu)) (eqb hop.pdu.dst addr) (eq-eqb hop.pdu.dst addr dst)
  where
    go : (b c : Bool) → c ≡ true → once_if (b && not c) ≡ 0
    go false c is = refl
    go true true is = refl
    go true false is = cc

-- a PDU that was taken from a link
pub record IsTakenFrom (d : DifSeen) (below below' : Seen) (i : ℕ) (process : Process) (hop : Hop) : Type 0 where
  pub member : Member
  pub is_process : IsProcess d i member process
  pub taken : (k : Key) → over_ends member.name (taken_with (bears k) d.config.widths) below' ≡ over_ends member.name (taken_with (bears k) d.config.widths) below + one k (key_of hop.pdu)
  pub relayed : (k : Key) → over_ends member.name (taken_with (bears_on member.addr k) d.config.widths) below' ≡ over_ends member.name (taken_with (bears_on member.addr k) d.config.widths) below + cond (bears_on member.addr k (Some hop)) 1 0
  pub sent : (name : List ℕ) (k : Key) → over_ends name (sent_with (bears k) d.config.widths) below' ≡ over_ends name (sent_with (bears k) d.config.widths) below
  pub others : (j : ℕ) (m : Member) (q : Process) (k : Key) → j ≢ i → IsProcess d j m q → (over_ends m.name (taken_with (bears k) d.config.widths) below' ≡ over_ends m.name (taken_with (bears k) d.config.widths) below) × (over_ends m.name (taken_with (bears_on m.addr k) d.config.widths) below' ≡ over_ends m.name (taken_with (bears_on m.addr k) d.config.widths) below)

taken_from : (d : DifSeen) (lines : List Direction) (below : Seen) (i n : ℕ) (member : Member) (process : Process) (link : Link) (entry : Entry) (hop : Hop) (below' : Seen) → AreKept below → IsStanding d lines below → IsNumbered d below → IsProcess d i member process → link_by n process.links ≡ Some link → unpassed below link.port ≡ Some entry → opened d.config.widths entry.bytes ≡ Some hop → PassesBelow below link.port below' → IsTakenFrom d below below' i process hop
taken_from d lines below i n member process link entry hop below' kept st numbered is is_link oldest opens w =
    let a = arrival d lines below i n member process link entry hop st kept is is_link oldest opens in
    let w_here = end_of_stands below link.port w.facility w.place w.end w.stands in
    let same : w.end ≡ a.end = same_some (end_of below link.port) w.end a.end w_here a.here in
    let at : slice_get w.end.got w.end.taken ≡ Some entry = subst (λ (e : End). slice_get e.got e.taken ≡ Some entry) (sym same) a.oldest in
    let has = has_taken d.config.widths below link.port entry below' w at in
    let named = named_at d lines below i process st numbered is.is_process in
    let named_is : named.member ≡ member = same_some (slice_get d.config.members i) named.member member named.is_process.is_member is.is_member in
    let app = link_named d lines below i n member process link w.end st is is_link w_here in
    record {
      member = member;
      is_process = is;
      taken = λ k. has.own member.name (bears k) app ∙ ap (λ (o : Option Hop). over_ends member.name (taken_with (bears k) d.config.widths) below + cond (bears k o) 1 0) opens;
      relayed = λ k. has.own member.name (bears_on member.addr k) app ∙ ap (λ (o : Option Hop). over_ends member.name (taken_with (bears_on member.addr k) d.config.widths) below + cond (bears_on member.addr k o) 1 0) opens;
      sent = λ name k. has.sent name (bears k);
      others = λ j m q k ne there.
          let other : w.end.app ≡ m.name → ⊥ = λ x. named.others j m q ne there (ap (λ (z : Member). z.name) named_is ∙ sym app ∙ x) in
          (has.others m.name (bears k) other, has.others m.name (bears_on m.addr k) other);
    }

-- the counts of the one IPC process at a place
one_member : (d : DifSeen) (i : ℕ) (a b : Member) (p q : Process) → IsProcess d i a p → IsProcess d i b q → a ≡ b
one_member d i a b p q x y = same_some (slice_get d.config.members i) a b x.is_member y.is_member

-- an acknowledgement of another IPC process is taken in
moved_told : (addr : ℕ) (k : Key) (resends : Type 0) (n n' : Counts) (came : ℕ) → n'.taken ≡ n.taken + came → n'.relayed ≡ n.relayed → gone n' ≡ gone n → n'.made ≡ n.made → n'.kept ≡ n.kept → (k.kind ≡ APiece → came ≡ 0) → (k.src ≡ addr → came ≡ 0) → IsMoved addr k resends n n'
moved_told addr k resends n n' came a b c d e piece own = record {
  foreign = λ kind src. (let z = piece kind in omega arith);
  own = λ kind src. (let z = piece kind in omega arith);
  once = λ kind src none. (let z = piece kind in omega arith);
  relayed = λ kind src. omega arith;
  bounded = λ kind src. omega arith;
  own_ack = λ kind src. (let z = own src in omega arith);
}

-- the lines of an arrival are of the connection that it came to
offs_of_arrival : (ids : Ids) (pdu : Pdu) (dropped : List Off) (cause : Option Cause) → pdu.kind ≡ APiece → IsFrom (flipped ids) pdu → ((off : Off) → In off dropped → (off.key.kind ≡ APiece) × (off.key.src ≡ ids.far) × (off.key.scep ≡ ids.dcep)) → AreOf ids.far ids.dcep (dropped ++ lines_for pdu cause)
offs_of_arrival ids pdu dropped cause kind names each = go dropped each cause
  where
    go : (offs : List Off) → ((off : Off) → In off offs → (off.key.kind ≡ APiece) × (off.key.src ≡ ids.far) × (off.key.scep ≡ ids.dcep)) → (o : Option Cause) → AreOf ids.far ids.dcep (offs ++ lines_for pdu o)
    go [] all None = record { each = λ off none. absurd none }
    go [] all (Some why) = record {
      each = λ off one. elim one [
        | inl is ↦ (ap (λ (z : Off). z.key.kind) is ∙ kind, ap (λ (z : Off). z.key.src) is ∙ names.src, ap (λ (z : Off). z.key.scep) is ∙ names.scep)
        | inr none ↦ absurd none
      ];
    }
    go (o ∷ os) all why =
        let rest = go os (λ off one. all off (inr one)) why in
        record {
          each = λ off one. elim one [
            | inl is ↦ all off (inl is)
            | inr more ↦ rest.each off more
          ];
        }

ledger_balance : (came number held held' offs whole got got' by by' : ℕ) → came ≡ number → by ≡ held → by' ≡ held' → got' ≡ got + whole → number + held ≡ offs + held' + whole → came + (got + by) ≡ offs + (got' + by')
ledger_balance came number held held' offs whole got got' by by' a b c e f = omega arith

module _ (d : DifSeen) (lines : List Direction) (below below' : Seen) (kept' : AreKept below') (st : IsStanding d lines below) (numbered : IsNumbered d below) (carrying : IsCarrying d lines below) (a : IsAccounted d lines below) (i : ℕ) (process : Process) (hop : Hop) (t : IsTakenFrom d below below' i process hop) where
  within : (port : Port) (e : End) → end_of below' port ≡ Some e → IsMine d.config.members e.app → e.taken ≤ length e.got
  within port e h mine = within_kept below' kept' port e h

  -- it waits or was written off
  noted : (new : Process) → ((k : Key) → left_at new k ≡ left_at process k + one k (key_of hop.pdu)) → IsAccounted (with_process d i new) lines below'
  noted new left = one_process d lines lines below below' d.ends i process new a t.is_process.is_process within
      (λ j m q k ne is. (let o = t.others j m q k ne is in let s = t.sent m.name k in record { taken = o.0; relayed = o.1; gone = omega (arith, s); made = refl; kept = refl }))
      (λ m k is.
      let P : Member → Type 0 = λ z. IsMoved z.addr k (Resends d z.addr k.scep) (counts_of d lines below z process k) (counts_of (with_process d i new) lines below' z new k) in
      let s = t.sent t.member.name k in
      let l = left k in
      subst P (one_member d i t.member m process process t.is_process is)
      (moved_in t.member.addr k (Resends d t.member.addr k.scep) (counts_of d lines below t.member process k) (counts_of (with_process d i new) lines below' t.member new k) (one k (key_of hop.pdu)) (cond (bears_on t.member.addr k (Some hop)) 1 0) (on_less t.member.addr k hop) (t.taken k) (t.relayed k) (omega (arith, s, l)) refl refl))

  noted_as : (d' : DifSeen) (lines' : List Direction) (cause : Cause) → d' ≡ written_off d i process hop.pdu cause → lines' ≡ lines → IsAccounted d' lines' below'
  noted_as d' lines' cause is same = subst (λ (z : DifSeen). IsAccounted z lines' below') (sym is) (subst (λ (ls : List Direction). IsAccounted (written_off d i process hop.pdu cause) ls below') (sym same) (noted (with_offs process (line_for hop.pdu cause ∷ [])) (λ k. one_off k process (line_for hop.pdu cause))))

  relayed_as : (at : ℕ) (d' : DifSeen) (lines' : List Direction) → IsRelayed d i process at hop d' → lines' ≡ lines → IsAccounted d' lines' below'
  relayed_as at d' lines' s same =
      let put = s.passed in
      let item : Queued = record { pdu = hop.pdu; left = hop.left; since = at } in
      subst (λ (z : DifSeen). IsAccounted z lines' below') (sym s.new_is) (subst (λ (ls : List Direction). IsAccounted (with_process d i s.process') ls below') (sym same)
      (noted s.process' (λ k. ap (λ (z : Process). left_at z k) put.new_is ∙ put_one k process put.place put.queue item put.is_queue.is_queue)))

  -- it is for a connection here
  come_here : hop.pdu.dst ≡ t.member.addr → HaveCome d below below' i (λ k. one k (key_of hop.pdu))
  come_here dst = record {
    taken = λ m p k is. subst (λ (z : Member). over_ends z.name (taken_with (bears k) d.config.widths) below' ≡ over_ends z.name (taken_with (bears k) d.config.widths) below + one k (key_of hop.pdu)) (one_member d i t.member m process p t.is_process is) (t.taken k);
    relayed = λ m p k is.
        let none = on_none t.member.addr k hop dst in
        let all = t.relayed k in
        subst (λ (z : Member). over_ends z.name (taken_with (bears_on z.addr k) d.config.widths) below' ≡ over_ends z.name (taken_with (bears_on z.addr k) d.config.widths) below) (one_member d i t.member m process p t.is_process is) (omega (arith, none, all));
    sent = t.sent;
    others = t.others;
  }

  arrived_as : (older : ℕ) (cause : Option Cause) (d' : DifSeen) (lines' : List Direction) → hop.pdu.dst ≡ t.member.addr → Cloud Everywhere d.config d.processes below older hop.pdu → d.clock ≤ older → IsArrived d lines i process hop.pdu cause d' lines' → IsAccounted d' lines' below'
  arrived_as older cause d' lines' dst has alive s =
      let pdu = hop.pdu in
      let c : Constants = constants d.config s.cube (flipped s.ids) in
      let p : Piece = piece_in pdu in
      let size : ℕ = piece_size d.config in
      let line' : Direction = arrived c p s.line in
      let lines'' : List Direction = slice_set lines s.from line' in
      let e' : End = record s.end { got = line'.inbox.got } in
      let offs : List Off = s.dropped ++ lines_for pdu cause in
      let conn = s.taker.is_conn in
      let names = s.taker.names in
      let partner = s.inbound.partner in
      let named = st.journal.named s.from s.place partner s.end s.inbound.is_partner conn.end s.inbound.partners in
      let flow = direction_in d.config d.clock (Cloud Everywhere d.config d.processes below) d.ids d.ends d.conns lines st.own s.from s.place partner s.end s.ids s.line s.inbound.is_partner conn s.inbound.is_line s.inbound.partners s.taker.allocated named.cube in
      let piece : PiecesOf (Cloud Everywhere d.config d.processes below) (flipped s.ids) older p = record { pdu = pdu; in_cloud = has; kind = s.piece; from = names; is = refl } in
      let sized = arriving_sized d.config d.clock (Cloud Everywhere d.config d.processes below) partner s.end (flipped s.ids) s.line older p flow piece alive in
      let holds = holds_sized d.config d.clock below s.ids s.line (carrying.holding s.place s.from s.end s.ids s.line conn s.inbound) in
      let some : 0 < size = (let big = st.config.piece in omega (arith, big)) in
      let own : (m : Member) → slice_get d.config.members i ≡ Some m → s.ids.own ≡ m.addr = λ m is. sym names.dst ∙ dst ∙ ap (λ (z : Member). z.addr) (same_some (slice_get d.config.members i) t.member m t.is_process.is_member is) in
      let old : inbound_of d.ends lines s.end ≡ Some s.line = inbound_at d.clock d.ends st.journal s.from partner s.end s.inbound.is_partner s.inbound.partners lines s.line s.inbound.is_line in
      let new : inbound_of d.ends lines'' s.end ≡ Some line' = inbound_at d.clock d.ends st.journal s.from partner s.end s.inbound.is_partner s.inbound.partners lines'' line' (slice_get-set_same lines s.from s.line line' s.inbound.is_line) in
      subst (λ (z : DifSeen). IsAccounted z lines' below') (sym s.new_is) (subst (λ (ls : List Direction). IsAccounted (renewed d (slice_set d.ends s.place e') i (with_offs process offs)) ls below') (sym s.lines_are)
      (received d lines lines'' below below' (slice_set d.ends s.place e') i process s.place s.end e' s.ids offs (λ k. one k (key_of pdu)) (end_changed d.ends s.place s.end e' conn.end refl refl) conn.ids_are refl
      (λ n. hold_elsewhere d.clock d.ends st.journal s.from partner s.end s.inbound.is_partner s.inbound.partners s.place lines line' n conn.end)
      (offs_of_arrival s.ids pdu s.dropped cause s.piece names (λ off one. (let h = s.all_dropped off one in (h.kind, h.src, h.scep))))
      (come_here dst)
      (λ k none. one_not k (key_of pdu) (λ o. none (o.kind ∙ s.piece, sym names.src ∙ sym o.src, sym names.scep ∙ sym o.scep)))
      (λ k h.
      let before : held_by s.end.state (held_in (inbound_of d.ends lines s.end) k.seq) ≡ times k.seq (held_numbers s.line) = ap (λ (z : PortState). held_by z (held_in (inbound_of d.ends lines s.end) k.seq)) s.taker.allocated ∙ ap (λ (o : Option Direction). held_in o k.seq) old in
      let after : held_by s.end.state (held_in (inbound_of d.ends lines'' s.end) k.seq) ≡ times k.seq (held_numbers line') = ap (λ (z : PortState). held_by z (held_in (inbound_of d.ends lines'' s.end) k.seq)) s.taker.allocated ∙ ap (λ (o : Option Direction). held_in o k.seq) new in
      let number : one k (key_of pdu) ≡ cond (eqb k.seq p.number) 1 0 = one_by_number k (key_of pdu) (h.0 ∙ sym s.piece) (sym h.1 ∙ sym names.src) (sym h.2 ∙ sym names.scep) ∙ ap (λ (n : ℕ). cond (eqb k.seq n) 1 0) (piece_number pdu s.piece) in
      let got = got_more size c p s.line s.end.got k.seq some sized holds flow.got in
      let all : cond (eqb k.seq p.number) 1 0 + times k.seq (held_numbers s.line) ≡ times k.seq (off_numbers offs) + times k.seq (held_numbers line') + times k.seq (whole_numbers (joined_by c p s.line)) = s.settled k.seq in
      ledger_balance (one k (key_of pdu)) (cond (eqb k.seq p.number) 1 0) (times k.seq (held_numbers s.line)) (times k.seq (held_numbers line')) (times k.seq (off_numbers offs)) (times k.seq (whole_numbers (joined_by c p s.line))) (times k.seq (journal_numbers size s.end.got)) (times k.seq (journal_numbers size e'.got)) (held_by s.end.state (held_in (inbound_of d.ends lines s.end) k.seq)) (held_by s.end.state (held_in (inbound_of d.ends lines'' s.end) k.seq)) number before after got all)
      a t.is_process.is_process within own (others_addr d below i t.member s.ids numbered t.is_process.is_member (own t.member t.is_process.is_member))))

  told_as : (d' : DifSeen) (lines' : List Direction) → hop.pdu.dst ≡ t.member.addr → IsTold d lines hop.pdu d' lines' → IsAccounted d' lines' below'
  told_as d' lines' dst s =
      let line' : Direction = record s.line { line = told (ack_in hop.pdu) s.line.line } in
      let lines'' : List Direction = slice_set lines s.place line' in
      let key = key_of hop.pdu in
      let kept : (addr : ℕ) (k : Key) → _ = λ addr k. kept_all_same (piece_size d.config) d.conns lines lines'' addr k d.ends (hold_set lines s.place s.line line' k.seq s.is_line refl) in
      let apart = a.apart s.place s.ids s.taker.is_conn.ids_are in
      let not_own : (k : Key) → IsOneKey k key → k.src ≢ t.member.addr = λ k o src. apart (sym s.taker.names.dst ∙ dst ∙ sym src ∙ o.src ∙ s.taker.names.src) in
      subst (λ (z : DifSeen). IsAccounted z lines' below') (sym s.new_is) (subst (λ (ls : List Direction). IsAccounted d ls below') (sym s.lines_are)
      (subst (λ (z : DifSeen). IsAccounted z lines'' below') (same_process d i process process t.is_process.is_process refl)
      (one_process d lines lines'' below below' d.ends i process process a t.is_process.is_process within
      (λ j m q k ne is. (let o = t.others j m q k ne is in let x = t.sent m.name k in record { taken = o.0; relayed = o.1; gone = omega (arith, x); made = refl; kept = kept m.addr k }))
      (λ m k is.
      let P : Member → Type 0 = λ z. IsMoved z.addr k (Resends d z.addr k.scep) (counts_of d lines below z process k) (counts_of (with_process d i process) lines'' below' z process k) in
      let x = t.sent t.member.name k in
      let none = on_none t.member.addr k hop dst in
      let on = t.relayed k in
      let no_piece : k.kind ≡ APiece → one k key ≡ 0 = λ kind. one_not k key (λ o. piece_no_ack k.kind kind (o.kind ∙ s.ack)) in
      let no_own : k.src ≡ t.member.addr → one k key ≡ 0 = λ src. one_not k key (λ o. not_own k o src) in
      subst P (one_member d i t.member m process process t.is_process is)
      (moved_told t.member.addr k (Resends d t.member.addr k.scep) (counts_of d lines below t.member process k) (counts_of (with_process d i process) lines'' below' t.member process k) (one k key) (t.taken k) (omega (arith, none, on)) (omega (arith, x)) refl (kept t.member.addr k) no_piece no_own)))))

  settled_off : (older at : ℕ) (cause : Cause) (d' : DifSeen) (lines' : List Direction) → Cloud Everywhere d.config d.processes below older hop.pdu → (IsInTime d at hop → d.clock ≤ older) → SettlesOff d lines i t.member process at hop cause d' lines' → IsAccounted d' lines' below'
  settled_off older at (causes.Expired left charge) d' lines' has alive s = noted_as d' lines' (causes.Expired left charge) s.3 s.4
  settled_off older at (causes.NoRoute dst) d' lines' has alive s = noted_as d' lines' (causes.NoRoute dst) s.4 s.5
  settled_off older at (causes.QueueFull cap) d' lines' has alive s = noted_as d' lines' (causes.QueueFull cap) s.4 s.5
  settled_off older at (causes.NoConnection cep) d' lines' has alive s = noted_as d' lines' (causes.NoConnection cep) s.4 s.5
  settled_off older at (causes.Duplicate num) d' lines' has alive s = arrived_as older (Some (causes.Duplicate num)) d' lines' s.1 has (alive s.0) s.2
  settled_off older at (causes.Behind highest) d' lines' has alive s = arrived_as older (Some (causes.Behind highest)) d' lines' s.1 has (alive s.0) s.2
  settled_off older at (causes.NoState drf) d' lines' has alive s = arrived_as older (Some (causes.NoState drf)) d' lines' s.1 has (alive s.0) s.2
  settled_off older at (causes.NoRoom cap) d' lines' has alive s = arrived_as older (Some (causes.NoRoom cap)) d' lines' s.1 has (alive s.0) s.2
  settled_off older at (causes.StateGone last_in) d' lines' has alive s = arrived_as older (Some (causes.StateGone last_in)) d' lines' s.1 has (alive s.0) s.2
  settled_off older at (causes.Broken missing) d' lines' has alive s = arrived_as older (Some (causes.Broken missing)) d' lines' s.1 has (alive s.0) s.2
  settled_off older at (causes.LinkDown down) d' lines' has alive s = absurd s

  flow_accounted : (older at : ℕ) (end : Took) (d' : DifSeen) (lines' : List Direction) → Cloud Everywhere d.config d.processes below older hop.pdu → (IsInTime d at hop → d.clock ≤ older) → SettlesFlow d lines i t.member process at hop end d' lines' → IsAccounted d' lines' below'
  flow_accounted older at took.Accepted d' lines' has alive s = elim (s.2) [
    | inl x ↦ arrived_as older None d' lines' s.1 has (alive s.0) x
    | inr x ↦ told_as d' lines' s.1 x
  ]
  flow_accounted older at took.Relayed d' lines' has alive s = relayed_as at d' lines' s.2 s.3
  flow_accounted older at (took.Off cause) d' lines' has alive s = settled_off older at cause d' lines' has alive s

  -- it is of a link, whose PDUs the account does not count
  link_accounted : (at : ℕ) (end : Took) (d' : DifSeen) (lines' : List Direction) → IsOnLink d lines i process at hop end d' lines' → IsAccounted d' lines' below'
  link_accounted at end d' lines' s =
      let offs : List Off = s.dropped ++ lines_for hop.pdu (cause_told end) in
      let new : Process = with_offs process offs in
      let next : DifSeen = with_process d i new in
      let keys : (off : Off) → In off offs → (off.key.src ≡ 0) × (off.key.scep ≡ 0) = λ off one. (let x = s.each off one in (x.src, x.scep)) in
      subst (λ (z : DifSeen). IsAccounted z lines' below') (sym s.new_is) (subst (λ (ls : List Direction). IsAccounted next ls below') (sym s.lines_are)
      (accounted_but d next lines below below' (λ j m is zero. (let least = numbered.members.least j m is in omega (arith, least, zero))) a within a.apart
      (λ addr cep r. record { place = r.place; ids = r.ids; stands = r.stands; own = r.own; scep = r.scep; cube = r.cube; is_cube = r.is_cube; reliable = r.reliable })
      (λ j m q k is other. elim (set_at d.processes i j process new q t.is_process.is_process is.is_process) [
        | inl x ↦
            let m_is : t.member ≡ m = same_some (slice_get d.config.members i) t.member m t.is_process.is_member (subst (λ (z : ℕ). slice_get d.config.members z ≡ Some m) x.0 is.is_member) in
            let there : slice_get d.processes j ≡ Some process = ap (slice_get d.processes) x.0 ∙ t.is_process.is_process in
            let came = t.taken k in
            let none = not_bears k hop other s.of_link in
            let on = t.relayed k in
            let none_on = not_bears_on t.member.addr k hop other s.of_link in
            let sent = t.sent t.member.name k in
            let more = offs_more k process offs in
            let none_more = none_noted k offs other keys in
            let same : AreSame (counts_of d lines below t.member process k) (counts_of next lines below' t.member new k) = record {
              taken = omega (arith, came, none);
              relayed = omega (arith, on, none_on);
              gone = omega (arith, sent, more, none_more);
              made = refl;
              kept = refl;
            } in
            (process, record { is_member = is.is_member; is_process = there }, subst (λ (z : Member). AreSame (counts_of d lines below z process k) (counts_of next lines below' z q k)) m_is (subst (λ (z : Process). AreSame (counts_of d lines below t.member process k) (counts_of next lines below' t.member z k)) (sym x.1) same))
        | inr f ↦
            let there : IsProcess d j m q = record { is_member = is.is_member; is_process = f.1 } in
            let o = t.others j m q k f.0 there in
            let sent = t.sent m.name k in
            (q, there, record { taken = o.0; relayed = o.1; gone = omega (arith, sent); made = refl; kept = refl })
      ])))

  settled_in : (older at : ℕ) (end : Took) (d' : DifSeen) (lines' : List Direction) → Cloud Everywhere d.config d.processes below older hop.pdu → (IsInTime d at hop → d.clock ≤ older) → Settles d lines i t.member process at hop end d' lines' → IsAccounted d' lines' below'
  settled_in older at end d' lines' has alive s = elim s [
    | inl flow ↦ flow_accounted older at end d' lines' has alive flow.1
    | inr link ↦ link_accounted at end d' lines' link
  ]

pub ins_accounted : (d : DifSeen) (lines : List Direction) (below : Seen) (i n : ℕ) (r : Result InStep StepError) (d' : DifSeen) (lines' : List Direction) (below' : Seen) → AreKept below → AreKept below' → IsStanding d lines below → IsNumbered d below → IsCarrying d lines below → IsAccounted d lines below → Ins d lines below i n r d' lines' below' → IsAccounted d' lines' below'
unfolding taken_from
ins_accounted d lines below i n (Ok in_.Idle) d' lines' below' kept kept' st numbered c a s = accounted_same d lines below d' lines' below' s.1 s.2 s.3 a
ins_accounted d lines below i n (Ok (in_.Took key end)) d' lines' below' kept kept' st numbered c a s =
    let t = taken_from d lines below i n s.member s.process s.link s.entry s.hop below' kept st numbered s.is_process s.is_link s.oldest s.opens s.passed in
    let x = arrival d lines below i n s.member s.process s.link s.entry s.hop st kept s.is_process s.is_link s.oldest s.opens in
    settled_in d lines below below' kept' st numbered c a i s.process s.hop t x.older s.entry.tick end d' lines' (inr x.on_way) (λ in_time. alive_arrival d s.entry.tick s.hop.left x.older in_time x.past x.later) s.settled
ins_accounted d lines below i n (Err Memory) d' lines' below' kept kept' st numbered c a s = accounted_same d lines below d' lines' below' s.0 s.1 s.2 a
ins_accounted d lines below i n (Err NoIpc) d' lines' below' kept kept' st numbered c a s = accounted_same d lines below d' lines' below' s.1 s.2 s.3 a
ins_accounted d lines below i n (Err NoLink) d' lines' below' kept kept' st numbered c a s = accounted_same d lines below d' lines' below' s.1 s.2 s.3 a
ins_accounted d lines below i n (Err (CountSpent need left)) d' lines' below' kept kept' st numbered c a s = accounted_same d lines below d' lines' below' s.0 s.1 s.2 a
