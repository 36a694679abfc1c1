-- What the ends of a DIF got has come, after each call.
use Rattle.std.proofs.Common.{◌≡◌, ℕ, zero, suc, ◌+◌, ◌≤◌, List, [], ◌∷◌, ◌++◌, map, slice_get, slice_set, Some, Option, Bool, true, false, refl, sym, ◌∙◌, ap, subst, arith, inl, inr, ◌⊎◌}
use Rattle.rina_base.specs.declared.cause.Cause.{Cause}
use Rattle.rina_base.specs.declared.number.Port.{Port}
use Rattle.rina_base.specs.declared.pdu.Pdu.{Pdu}
use Rattle.rina_cube.specs.declared.Kind.{Kind}
use Rattle.rina_iface.specs.declared.ends.End.{End}
use Rattle.rina_iface.specs.Ends.{with_passed}
use Rattle.rina_iface.specs.Journal.{AreKept, At, IsPartner}
use Rattle.rina_iface.specs.Pass.{IsPassed}
use Rattle.rina_iface.specs.Seen.{Fac, Seen, end_of, with_end, with_fac}
use Rattle.rina_iface.proofs.Changed.{set_at, slice_get-set_same}
use Rattle.rina_iface.proofs.Found.{its_port}
use Rattle.rina_law.specs.declared.entry.Entry.{Entry}
use Rattle.rina_law.specs.Constants.{Constants}
use Rattle.rina_law.specs.Direction.{Direction, entry_for, has_room}
use Rattle.rina_law.specs.Line.{arrival_verdict}
use Rattle.rina_law.specs.Lists.{In}
use Rattle.rina_law.specs.Pdus.{piece_in}
use Rattle.rina_law.specs.Pieces.{Joiner, Part, Sdu, IsSized, empty_joiner}
use Rattle.rina_law.specs.Receiver.{Piece, Receiver, Verdict, Accepted, Held, Duplicate, Behind, NoState, NoRoom, is_present, receiver_after}
use Rattle.rina_law.proofs.Lists.{from_on-in}
use Rattle.rina_dif_law.specs.Carried.{AreJoined, HasCome, HoldsCome, IsCarried, IsCarrying}
use Rattle.rina_dif_law.specs.Cloud.{Cloud, Everywhere, IsMember}
use Rattle.rina_data.specs.Configs.{Config, piece_size}
use Rattle.rina_dif_law.specs.Dif.{DifSeen, constants}
use Rattle.rina_data.specs.Process.{Process, with_offs}
use Rattle.rina_dif_law.specs.Ids.{Ids, PiecesOf, flipped}
use Rattle.rina_dif_law.specs.Incoming.{IsArrived, IsInbound, arrived, found, landed, lines_for, whole_by}
use Rattle.rina_dif_law.specs.Standing.{IsConn, IsDirection, IsJournal, IsStanding}
use Rattle.rina_dif_law.proofs.After.{IsAfter}
use Rattle.rina_dif_law.proofs.Ends.{IsEndAt, at_end}
use Rattle.rina_dif_law.proofs.Forgot.{by_found, found_clock, found_got}
use Rattle.rina_dif_law.proofs.Joined.{IsWholeOf, after_known, none_joined}
use Rattle.rina_dif_law.proofs.Journals.{IsConst, const_refl, partner_was, was_end}
use Rattle.rina_dif_law.proofs.Own.{direction_in, map_at, one_partner, partner_back}

-- what has come stays, as time goes on and more is passed

pub come_later : (g : Config) (more : Port → Entry → Type 0) (below below' : Seen) (ids : Ids) (now later n : ℕ) (part : Part) → IsAfter g more below below' → now ≤ later → HasCome g below ids now n part → HasCome g below' ids later n part
come_later g more below below' ids now later n part after le c =
    let f = after.forth c.port c.end c.here in
    let passed = c.passed in
    let taken = f.2.taken in
    let before = c.before in
    record { port = c.port; end = f.0; here = f.1; member = subst (IsMember g.members ids.own) (sym f.2.app) c.member; at = c.at; passed = omega arith; entry = c.entry; is_entry = f.2.got c.at c.entry c.is_entry; before = omega arith; hop = c.hop; opens = c.opens; kind = c.kind; names = c.names; piece = c.piece }

carried_later : (g : Config) (more : Port → Entry → Type 0) (below below' : Seen) (ids : Ids) (x : Entry) → IsAfter g more below below' → IsCarried g below ids x → IsCarried g below' ids x
carried_later g more below below' ids x after c = record {
  parts = c.parts;
  cut = c.cut;
  joins = c.joins;
  come = λ k part h. come_later g more below below' ids x.tick x.tick (x.num.seq + k) part after (omega arith) (c.come k part h);
}

joined_later : (size : ℕ) (known known' : ℕ → Part → Type 0) (j : Joiner) → ((n : ℕ) (part : Part) → known n part → known' n part) → AreJoined size known j → AreJoined size known' j
joined_later size known known' j more h = record { parts = h.parts; is_open = h.is_open; count = h.count; bytes = h.bytes; each = λ k part x. more (j.from + k) part (h.each k part x) }

holding_later : (g : Config) (more : Port → Entry → Type 0) (below below' : Seen) (ids : Ids) (now later : ℕ) (line line' : Direction) → IsAfter g more below below' → now ≤ later → (line'.inbox.joiner ≡ line.inbox.joiner) ⊎ (line'.inbox.joiner ≡ empty_joiner) → ((q : Piece) → In q line'.line.receiver.held → In q line.line.receiver.held) → HoldsCome g now below ids line → HoldsCome g later below' ids line'
holding_later g more below below' ids now later line line' after le joiner held h =
    let known : ℕ → Part → Type 0 = HasCome g below' ids later in
    record {
      joined = elim joiner [
        | inl is ↦ subst (AreJoined (piece_size g) known) (sym is) (joined_later (piece_size g) (HasCome g below ids now) known line.inbox.joiner (λ n part c. come_later g more below below' ids now later n part after le c) h.joined)
        | inr is ↦ subst (AreJoined (piece_size g) known) (sym is) (none_joined (piece_size g) known)
      ];
      held = λ p i. come_later g more below below' ids now later p.number p.part after le (h.held p (held p i));
      sized = λ p i. h.sized p (held p i);
    }

-- an end and a direction as they were, as far as what came is concerned
pub record WasEnd (ends : List End) (i : ℕ) (e' : End) : Type 0 where
  pub end : End
  pub stood : At ends i end
  pub const : IsConst end e'
  pub got : e'.got ≡ end.got

pub record WasLine (lines : List Direction) (i : ℕ) (line' : Direction) : Type 0 where
  pub line : Direction
  pub stood : slice_get lines i ≡ Some line
  pub joiner : (line'.inbox.joiner ≡ line.inbox.joiner) ⊎ (line'.inbox.joiner ≡ empty_joiner)
  pub held : (q : Piece) → In q line'.line.receiver.held → In q line.line.receiver.held

inbound_was : (d d' : DifSeen) (lines lines' : List Direction) (e e' : End) (from : ℕ) (line line' : Direction) → ((i : ℕ) (a : End) → At d'.ends i a → WasEnd d.ends i a) → IsConst e e' → slice_get lines from ≡ Some line → IsInbound d' lines' e' from line' → IsInbound d lines e from line
inbound_was d d' lines lines' e e' from line line' ends const is_line h =
    let p = ends from h.partner h.is_partner in
    record { partner = p.end; is_partner = p.stood; partners = partner_was p.end e h.partner e' p.const const h.partners; is_line = is_line }

-- a call that delivers nothing
pub carrying_same : (d d' : DifSeen) (lines lines' : List Direction) (more : Port → Entry → Type 0) (below below' : Seen) → IsCarrying d lines below → IsAfter d.config more below below' → d'.config ≡ d.config → d'.conns ≡ d.conns → d.clock ≤ d'.clock → ((i : ℕ) (e' : End) → At d'.ends i e' → WasEnd d.ends i e') → ((i : ℕ) (line' : Direction) → slice_get lines' i ≡ Some line' → WasLine lines i line') → IsCarrying d' lines' below'
carrying_same d d' lines lines' more below below' c after config conns le ends same = record {
  entries = λ i j e' ids x conn h.
      let was = ends i e' conn.end in
      let old = c.entries i j was.end ids x (record { end = was.stood; ids_are = subst (λ (cs : List Ids). slice_get cs i ≡ Some ids) conns conn.ids_are }) (subst (λ (xs : List Entry). slice_get xs j ≡ Some x) was.got h) in
      subst (λ (g : Config). IsCarried g below' ids x) (sym config) (carried_later d.config more below below' ids x after old);
  holding = λ i from e' ids line' conn h.
      let was = ends i e' conn.end in
      let line = same from line' h.is_line in
      let old = c.holding i from was.end ids line.line (record { end = was.stood; ids_are = subst (λ (cs : List Ids). slice_get cs i ≡ Some ids) conns conn.ids_are }) (inbound_was d d' lines lines' was.end e' from line.line line' ends was.const line.stood h) in
      subst (λ (g : Config). HoldsCome g d'.clock below' ids line') (sym config) (holding_later d.config more below below' ids d.clock d'.clock line.line line' after le line.joiner line.held old);
}

pub end_was : (ends : List End) (i : ℕ) (e : End) → At ends i e → WasEnd ends i e
end_was ends i e h = record { end = e; stood = h; const = const_refl e; got = refl }

pub line_was : (lines : List Direction) (i : ℕ) (line : Direction) → slice_get lines i ≡ Some line → WasLine lines i line
line_was lines i line h = record { line = line; stood = h; joiner = inl refl; held = λ q x. x }

pub end_set : (ends : List End) (at : ℕ) (e e' : End) → At ends at e → IsConst e e' → e'.got ≡ e.got → (i : ℕ) (a : End) → At (slice_set ends at e') i a → WasEnd ends i a
end_set ends at e e' is const got i a h = elim (set_at ends at i e e' a is h) [
  | inl t ↦ subst (WasEnd ends i) (sym t.1) (record { end = e; stood = ap (slice_get ends) t.0 ∙ is; const = const; got = got })
  | inr f ↦ end_was ends i a f.1
]

pub line_set : (lines : List Direction) (at : ℕ) (line line' : Direction) → slice_get lines at ≡ Some line → (line'.inbox.joiner ≡ line.inbox.joiner) ⊎ (line'.inbox.joiner ≡ empty_joiner) → ((q : Piece) → In q line'.line.receiver.held → In q line.line.receiver.held) → (i : ℕ) (l : Direction) → slice_get (slice_set lines at line') i ≡ Some l → WasLine lines i l
line_set lines at line line' is joiner held i l h = elim (set_at lines at i line line' l is h) [
  | inl t ↦ subst (WasLine lines i) (sym t.1) (record { line = line; stood = ap (slice_get lines) t.0 ∙ is; joiner = joiner; held = held })
  | inr f ↦ line_was lines i l f.1
]

-- ---- a piece arrives

-- what is held after it was held before, or is the piece
held_after : (v : Verdict) (kind : Kind) (present : Bool) (now : ℕ) (p : Piece) (rx : Receiver) (q : Piece) → In q (receiver_after v kind present now p rx).held → In q rx.held ⊎ (q ≡ p)
held_after Accepted kind true now p rx q i = inl (from_on-in _ q rx.held i)
held_after Accepted kind false now p rx q i = absurd i
held_after Held kind present now p rx q i = elim i [ inl is ↦ inr is | inr old ↦ inl old ]
held_after Duplicate kind present now p rx q i = inl i
held_after Behind kind present now p rx q i = inl i
held_after NoState kind present now p rx q i = inl i
held_after NoRoom kind present now p rx q i = inl i

-- a piece of the cloud is as long as it is to be
pub arriving_sized : (g : Config) (now : ℕ) (cloud : ℕ → Pdu → Type 0) (a b : End) (c : Ids) (line : Direction) (death : ℕ) (p : Piece) → IsDirection g now cloud (Unit {0}) a b c line → PiecesOf cloud c death p → now ≤ death → IsSized (piece_size g) p.part
arriving_sized g now cloud a b c line death p h x alive =
    let there = h.backed.pieces_in death p (tt, x) alive in
    let low = there.3 in
    let clock = h.backed.clock in
    let run = h.backed.holds.core.line.pieces there.0 there.1 (omega arith) in
    let sized = h.backed.holds.core.run.sized there.0.pdu.number run.within in
    subst (λ (z : Piece). IsSized (piece_size g) z.part) there.2 (subst (IsSized (piece_size g)) (sym run.part) sized)

either_at : {X : Type 0} → (xs ys : List X) (i : ℕ) (x : X) → slice_get (xs ++ ys) i ≡ Some x → ((k : ℕ) × (slice_get xs k ≡ Some x)) ⊎ ((k : ℕ) × (slice_get ys k ≡ Some x))
either_at [] ys i x h = inr (i, h)
either_at (z ∷ xs) ys zero x h = inl (zero, h)
either_at (z ∷ xs) ys (suc i) x h = elim (either_at xs ys i x h) [ inl g ↦ inl (suc g.0, g.1) | inr g ↦ inr g ]

in_list : {X : Type 0} → (xs : List X) (i : ℕ) (x : X) → slice_get xs i ≡ Some x → In x xs
in_list [] i x h = cc
in_list (y ∷ ys) zero x h = inl cc
in_list (y ∷ ys) (suc i) x h = inr (in_list ys i x h)

-- what it delivers has come
delivered_carried : (g : Config) (below : Seen) (ids : Ids) (k : Constants) (now : ℕ) (sdu : Sdu) → IsWholeOf (piece_size g) (HasCome g below ids now) sdu → IsCarried g below ids (entry_for k now sdu)
delivered_carried g below ids k now sdu w = record { parts = w.parts; cut = w.cut; joins = w.joins; come = w.each }

-- the end that gets it, by what was known of its direction
record IsDeliveredTo (g : Config) (below' : Seen) (ids : Ids) (now : ℕ) (p : Piece) (line line' : Direction) (got : List Entry) : Type 0 where
  holds : HoldsCome g now below' ids line'
  entries : (j : ℕ) (x : Entry) → slice_get line'.inbox.got j ≡ Some x → ((i : ℕ) × (slice_get got i ≡ Some x)) ⊎ IsCarried g below' ids x

delivered_to : (g : Config) (more : Port → Entry → Type 0) (below below' : Seen) (ids : Ids) (k : Constants) (now : ℕ) (p : Piece) (line : Direction) (got : List Entry) → IsAfter g more below below' → line.line.clock ≡ now → line.inbox.got ≡ got → HasCome g below' ids now p.number p.part → IsSized (piece_size g) p.part → HoldsCome g now below ids line → IsDeliveredTo g below' ids now p line (landed k p line) got
delivered_to g more below below' ids k now p line got after clock got_is come sized h =
    let v : Verdict = arrival_verdict k line.line p (has_room k line) in
    let present : Bool = is_present k line.line.clock line.line.receiver in
    let known : ℕ → Part → Type 0 = HasCome g below' ids now in
    let later = holding_later g more below below' ids now now line line after (omega arith) (inl refl) (λ q x. x) h in
    let all = after_known (piece_size g) known v k.cube.kind present p line.line.receiver.held line.inbox.joiner sized come (λ q i. (later.held q i, later.sized q i)) later.joined in
    record {
      holds = record {
        joined = all.joiner;
        held = λ q i. elim (held_after v k.cube.kind present line.line.clock p line.line.receiver q i) [
          | inl old ↦ later.held q old
          | inr is ↦ subst (λ (z : Piece). known z.number z.part) (sym is) come
        ];
        sized = λ q i. elim (held_after v k.cube.kind present line.line.clock p line.line.receiver q i) [
          | inl old ↦ later.sized q old
          | inr is ↦ subst (λ (z : Piece). IsSized (piece_size g) z.part) (sym is) sized
        ];
      };
      entries = λ j x at. elim (either_at line.inbox.got (map (entry_for k line.line.clock) (whole_by k p line)) j x at) [
        | inl o ↦ inl (o.0, subst (λ (xs : List Entry). slice_get xs o.0 ≡ Some x) got_is o.1)
        | inr n ↦
            let s = map_at (entry_for k line.line.clock) (whole_by k p line) n.0 x n.1 in
            let carried = delivered_carried g below' ids k now s.0 (all.whole s.0 (in_list (whole_by k p line) n.0 s.0 s.1)) in
            let P : ℕ → Type 0 = λ t. IsCarried g below' ids (entry_for k t s.0) in
            inr (subst (IsCarried g below' ids) (sym s.2) (subst P (sym clock) carried))
      ];
    }

-- also where it gives up first what is left of a state that is gone
found_holds : (g : Config) (now : ℕ) (below : Seen) (ids : Ids) (k : Constants) (line : Direction) → HoldsCome g now below ids line → HoldsCome g now below ids (found k line)
found_holds g now below ids k line h = by_found (HoldsCome g now below ids) k line h (λ gone. record {
  joined = none_joined (piece_size g) (HasCome g below ids now);
  held = λ p none. absurd none;
  sized = λ p none. absurd none;
})

end_same : (o : Option End) (a b : End) → o ≡ Some a → o ≡ Some b → a ≡ b
end_same o a b h g = cc

ids_same : (o : Option Ids) (a b : Ids) → o ≡ Some a → o ≡ Some b → a ≡ b
ids_same o a b h g = cc

-- one end got more in the direction to it
carrying_set : (d : DifSeen) (lines : List Direction) (more : Port → Entry → Type 0) (below below' : Seen) (at from : ℕ) (e e' : End) (ids : Ids) (partner : End) (line line' : Direction) (processes : List Process) → IsJournal d.clock d.ends → IsCarrying d lines below → IsAfter d.config more below below' → IsConn d.ends d.conns at e ids → IsConst e e' → At d.ends from partner → IsPartner partner e → slice_get lines from ≡ Some line
    → HoldsCome d.config d.clock below' ids line' → ((j : ℕ) (x : Entry) → slice_get e'.got j ≡ Some x → ((i : ℕ) × (slice_get e.got i ≡ Some x)) ⊎ IsCarried d.config below' ids x) → IsCarrying (record d { ends = slice_set d.ends at e'; processes = processes }) (slice_set lines from line') below'
carrying_set d lines more below below' at from e e' ids partner line line' processes journal c after conn const is_partner partners is_line holds news =
    let same_ids : (i : ℕ) (ids' : Ids) → i ≡ at → slice_get d.conns i ≡ Some ids' → ids' ≡ ids = λ i ids' is h. ids_same (slice_get d.conns at) ids' ids (subst (λ (n : ℕ). slice_get d.conns n ≡ Some ids') is h) conn.ids_are in
    record {
      entries = λ i j a ids' x a_conn h. elim (set_at d.ends at i e e' a conn.end a_conn.end) [
        | inl t ↦
            let is = same_ids i ids' t.0 a_conn.ids_are in
            let carried : IsCarried d.config below' ids x = elim (news j x (subst (λ (z : End). slice_get z.got j ≡ Some x) t.1 h)) [
              | inl o ↦ carried_later d.config more below below' ids x after (c.entries at o.0 e ids x conn o.1)
              | inr n ↦ n
            ] in
            subst (λ (z : Ids). IsCarried d.config below' z x) (sym is) carried
        | inr f ↦ carried_later d.config more below below' ids' x after (c.entries i j a ids' x (record { end = f.1; ids_are = a_conn.ids_are }) h)
      ];
      holding = λ i from' a ids' l a_conn h.
          let p = was_end d.ends at e e' conn.end const from' h.partner h.is_partner in
          let o = was_end d.ends at e e' conn.end const i a a_conn.end in
          let partner' = partner_was p.0 o.0 h.partner a p.2 o.2 h.partners in
          elim (set_at lines from from' line line' l is_line h.is_line) [
            | inl u ↦
                let p_is : p.0 ≡ partner = end_same (slice_get d.ends from) p.0 partner (subst (λ (n : ℕ). At d.ends n p.0) u.0 p.1) is_partner in
                let i_is : i ≡ at = one_partner d.clock d.ends i at o.0 e partner journal o.1 conn.end (partner_back partner o.0 (subst (λ (z : End). IsPartner z o.0) p_is partner')) (partner_back partner e partners) in
                let is = same_ids i ids' i_is a_conn.ids_are in
                subst (λ (z : Ids). HoldsCome d.config d.clock below' z l) (sym is) (subst (HoldsCome d.config d.clock below' ids) (sym u.1) holds)
            | inr u ↦ elim (set_at d.ends at i e e' a conn.end a_conn.end) [
              | inl t ↦
                  let o_is : o.0 ≡ e = end_same (slice_get d.ends at) o.0 e (subst (λ (n : ℕ). At d.ends n o.0) t.0 o.1) conn.end in
                  absurd (u.0 (one_partner d.clock d.ends from' from p.0 partner e journal p.1 is_partner (subst (IsPartner p.0) o_is partner') partners))
              | inr f ↦
                  let o_is : o.0 ≡ a = end_same (slice_get d.ends i) o.0 a o.1 f.1 in
                  let old = c.holding i from' a ids' l (record { end = f.1; ids_are = a_conn.ids_are }) (record { partner = p.0; is_partner = p.1; partners = subst (IsPartner p.0) o_is partner'; is_line = u.1 }) in
                  holding_later d.config more below below' ids' d.clock d.clock l l after (omega arith) (inl refl) (λ q x. x) old
            ]
          ];
    }

pub arrived_carrying : (d : DifSeen) (lines : List Direction) (more : Port → Entry → Type 0) (below below' : Seen) (older i : ℕ) (process : Process) (pdu : Pdu) (cause : Option Cause) (d' : DifSeen) (lines' : List Direction) → IsStanding d lines below → IsCarrying d lines below → IsAfter d.config more below below' → Cloud Everywhere d.config d.processes below older pdu → d.clock ≤ older
    → (s : IsArrived d lines i process pdu cause d' lines') → HasCome d.config below' s.ids d.clock (piece_in pdu).number (piece_in pdu).part → IsCarrying d' lines' below'
arrived_carrying d lines more below below' older i process pdu cause d' lines' st c after has alive s come =
    let g : Config = d.config in
    let k : Constants = constants g s.cube (flipped s.ids) in
    let line' : Direction = arrived k (piece_in pdu) s.line in
    let end' : End = record s.end { got = line'.inbox.got } in
    let partner = s.inbound.partner in
    let named = st.journal.named s.from s.place partner s.end s.inbound.is_partner s.taker.is_conn.end s.inbound.partners in
    let flow = direction_in g d.clock (Cloud Everywhere g d.processes below) d.ids d.ends d.conns lines st.own s.from s.place partner s.end s.ids s.line s.inbound.is_partner s.taker.is_conn s.inbound.is_line s.inbound.partners s.taker.allocated named.cube in
    let piece : PiecesOf (Cloud Everywhere g d.processes below) (flipped s.ids) older (piece_in pdu) = record { pdu = pdu; in_cloud = has; kind = s.piece; from = s.taker.names; is = refl } in
    let sized = arriving_sized g d.clock (Cloud Everywhere g d.processes below) partner s.end (flipped s.ids) s.line older (piece_in pdu) flow piece alive in
    let holding = found_holds g d.clock below s.ids k s.line (c.holding s.place s.from s.end s.ids s.line s.taker.is_conn s.inbound) in
    let new = delivered_to g more below below' s.ids k d.clock (piece_in pdu) (found k s.line) s.end.got after (found_clock k s.line ∙ flow.backed.clock) (found_got k s.line ∙ flow.got) come sized holding in
    let const : IsConst s.end end' = record { flow = refl; role = refl; port = refl; app = refl; peer = refl; cube = refl } in
    let processes' : List Process = slice_set d.processes i (with_offs process (s.dropped ++ lines_for pdu cause)) in
    subst (λ (z : DifSeen). IsCarrying z lines' below') (sym s.new_is) (subst (λ (ls : List Direction). IsCarrying (record d { ends = slice_set d.ends s.place end'; processes = processes' }) ls below') (sym s.lines_are)
    (carrying_set d lines more below below' s.place s.from s.end end' s.ids partner s.line line' processes' st.journal c after s.taker.is_conn const s.inbound.is_partner s.inbound.partners s.inbound.is_line new.holds new.entries))

-- ---- the end below after a pass

pub passed_end : (s : Seen) (port : Port) (s' : Seen) → AreKept s' → (w : IsPassed s port s') → end_of s' port ≡ Some (with_passed w.end)
passed_end s port s' kept w =
    let f' : Fac = with_end w.facility w.place (with_passed w.end) in
    let there : IsEndAt (with_fac s port.fac f') port (with_passed w.end) = record {
      facility = f';
      place = w.place;
      is_facility = slice_get-set_same s.facs port.fac w.facility f' w.stands.facility;
      stands = slice_get-set_same w.facility.ends w.place w.end (with_passed w.end) w.stands.is;
      port_is = its_port s port w.facility w.place w.end w.stands;
    } in
    at_end s' port (with_passed w.end) kept (subst (λ (z : Seen). IsEndAt z port (with_passed w.end)) (sym w.new_is) there)
