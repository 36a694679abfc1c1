-- What each row of a connection makes of the own flows, over any cloud.
use Rattle.std.proofs.Common.{◌≡◌, ◌≢◌, ℕ, ◌+◌, ◌-◌, ◌<◌, ◌≤◌, ◌⊎◌, List, [], ◌∷◌, ◌++◌, length, slice_get, slice_set, Some, None, Bool, true, false, refl, sym, ◌∙◌, ap, subst, arith, inl, inr}
use Rattle.std.proofs.lemmas.Option.{none-some}
use Rattle.rina_base.specs.declared.pdu.Pdu.{Pdu}
use Rattle.rina_base.specs.declared.pdu.PduKind.TheVariants.{Piece as APiece, Ack as AnAck}
use Rattle.rina_cube.specs.declared.Cube.{Cube}
use Rattle.rina_cube.specs.Cubes.{IsCube}
use Rattle.rina_iface.specs.declared.ends.End.{End}
use Rattle.rina_iface.specs.declared.state.PortState.TheVariants.{Allocated}
use Rattle.rina_iface.specs.Ends.{with_passed, with_sent}
use Rattle.rina_iface.specs.Journal.{At, IsPartner}
use Rattle.rina_law.specs.declared.entry.Entry.{Entry}
use Rattle.rina_law.specs.Backed.{Covers, CoversBut}
use Rattle.rina_law.specs.Constants.{Constants}
use Rattle.rina_law.specs.Direction.{Direction, Forget, Inbox, Pass, after_ack, happens, is_ack_due, offer_refusal, right_of}
use Rattle.rina_law.specs.Line.{again, told}
use Rattle.rina_law.specs.Lists.{In}
use Rattle.rina_law.specs.Pdus.{ack_in, piece_in}
use Rattle.rina_law.specs.Pieces.{IsCut, Part}
use Rattle.rina_law.specs.Receiver.{Piece, is_present, next_of}
use Rattle.rina_law.specs.Sender.{Ack, again_due, piece_again}
use Rattle.rina_rest.specs.Flows.{Asker, Endpoint, Far, Flow, GoesFrom, Side}
use Rattle.rina_rest.specs.Ledger.{LedgerHolds, Stands}
use Rattle.rina_rest.specs.Naming.{Naming, four_in}
use Rattle.rina_rest.specs.Still.{rest_of}
use Rattle.rina_data.specs.Configs.{Config, cube_by, piece_size}
use Rattle.rina_ids.specs.Members.{CepIds}
use Rattle.rina_dif_law.specs.Dif.{constants}
use Rattle.rina_dif_law.specs.Ids.{AcksOf, Ids, IsFrom, PiecesOf, flipped, pdu_of_ack, pdu_of_piece}
use Rattle.rina_dif_law.specs.Incoming.{arrived, found}
use Rattle.rina_dif_law.specs.Places.{Knows, Place, ids_from}
use Rattle.rina_dif_law.specs.Sending.{offered, offered_entry, offered_pieces}
use Rattle.rina_dif_law.specs.Standing.{IsConn, IsFlow, IsJournal, IsOfFlow, IsOwn, IsUntold}
use Rattle.rina_dif_law.proofs.Flows.{knows_told, row_acknowledged, row_again, row_arrived, row_forgot, row_offered, row_passed, row_told}
use Rattle.rina_dif_law.proofs.Forgot.{by_found}
use Rattle.rina_dif_law.proofs.Journals.{IsConst}
use Rattle.rina_dif_law.proofs.Own.{Carries, IsPair, carries_covered, carries_made, end_of_flow, far_end_of_flow, has_far, in_ids, in_used, known_ids, ledger_covered, ledger_made, out_ids, out_used, own_line, own_received, own_sent, one_partner, pair, partner_back}
use Rattle.rina_dif_law.proofs.Placed.{goes_back, goes_from, opposite, used_up}

-- a PDU is that of one of these pieces
abbrev pub MadeOf : Ids → List Piece → Pdu → Type 0
MadeOf ids pieces pdu = (p : Piece) × In p pieces × (pdu ≡ pdu_of_piece ids p)

same_cloud : (now : ℕ) (cloud : ℕ → Pdu → Type 0) → Covers now cloud cloud
same_cloud now cloud death pdu x alive = (death, omega arith, x)

piece_from : (ids : Ids) (p : Piece) (pdu : Pdu) → pdu ≡ pdu_of_piece ids p → IsFrom ids pdu
piece_from ids p pdu is = subst (IsFrom ids) (sym is) (record { src = refl; dst = refl; scep = refl; dcep = refl; qos = refl })

ack_from : (ids : Ids) (ack : Ack) (pdu : Pdu) → pdu ≡ pdu_of_ack ids ack → IsFrom ids pdu
ack_from ids ack pdu is = subst (IsFrom ids) (sym is) (record { src = refl; dst = refl; scep = refl; dcep = refl; qos = refl })

-- a PDU that is made lives for less than a rest
mpl_short : (k : Constants) (now rest : ℕ) → IsCube k.cube → rest_of k ≡ rest → now + k.cube.mpl < now + rest
mpl_short k now rest limits is = (let least = limits.least_mpl in omega arith)

-- an end knows the other, or is an asker that was not told
knows_or : (side : Side) (flow : Flow) → Knows (opposite side) flow ⊎ ((side ≡ Far) × (flow.told ≡ false))
knows_or Asker flow = inl tt
knows_or Far flow = told_or flow.told refl
  where
    told_or : (b : Bool) → flow.told ≡ b → (flow.told ≡ true) ⊎ ((Far ≡ Far) × (flow.told ≡ false))
    told_or true is = inl is
    told_or false is = inr (refl, is)

-- which took nothing
untaken_none : (k : Constants) (side : Side) (flow : Flow) (line : Direction) → side ≡ Far → flow.told ≡ false → IsUntold k side flow line → length line.inbox.got ≡ 0
untaken_none k Asker flow line is waiting u = absurd (let clash : Asker ≡ Far = is in cc)
untaken_none k Far flow line is waiting u = ap (λ (z : Inbox). length z.got) (u waiting).inbox

module _ (g : Config) (now : ℕ) (cloud cloud' : ℕ → Pdu → Type 0) (held : List CepIds) (ends : List End) (conns : List Ids) (lines : List Direction) (own : IsOwn g now cloud held ends conns lines) where
  -- the ticks for which a flow's ids rest, by the cube of a direction
  short_life : (flow : Flow) (far : Endpoint) (side : Side) (a b : End) (c : Ids) (line : Direction) (cube : Cube) → cube_by c.qos g.cubes ≡ Some cube → IsFlow g now cloud flow far side a b c line → now + cube.mpl < now + flow.rest
  short_life flow far side a b c line cube is_cube h =
      let same : h.direction.cube ≡ cube = (let is = h.direction.is_cube in cc) in
      subst (λ (x : Cube). now + x.mpl < now + flow.rest) same (mpl_short (constants g h.direction.cube c) now flow.rest h.from.cube h.from.rest)

  -- ---- an end sends in its direction

  module _ (at : ℕ) (e : End) (c : Ids) (cube : Cube) (conn : IsConn ends conns at e c) (allocated : e.state ≡ Allocated) (is_cube : cube_by c.qos g.cubes ≡ Some cube) (limits : IsCube cube) (line : Direction) (is_line : slice_get lines at ≡ Some line) (to : ℕ) (other : End) (is_other : At ends to other) (partners : IsPartner e other) where
    abbrev k : Constants
    k = constants g cube c

    abbrev q : IsPair own.flows own.places at
    q = pair g now cloud held ends conns lines own at to e other conn.end is_other partners

    -- the flow of the direction by the ids of its sender
    by_sender : (b : End) (x : Place) (flow : Flow) (far : Endpoint) → slice_get own.places at ≡ Some x → slice_get own.flows x.flow ≡ Some flow → flow.far ≡ Some far → IsFlow g now cloud flow far x.side e b (ids_from x.side flow far e.cube) line → IsFlow g now cloud flow far x.side e b c line
    by_sender b x flow far is_x stands known h = subst (λ (z : Ids). IsFlow g now cloud flow far x.side e b z line) (out_ids g now cloud held ends conns lines own at e c x flow far conn allocated is_x stands known) h

    back_sender : (b e' : End) (line' : Direction) (x : Place) (flow : Flow) (far : Endpoint) → slice_get own.places at ≡ Some x → slice_get own.flows x.flow ≡ Some flow → flow.far ≡ Some far → IsFlow g now cloud' flow far x.side e' b c line' → IsFlow g now cloud' flow far x.side e' b (ids_from x.side flow far e.cube) line'
    back_sender b e' line' x flow far is_x stands known h = subst (λ (z : Ids). IsFlow g now cloud' flow far x.side e' b z line') (sym (out_ids g now cloud held ends conns lines own at e c x flow far conn allocated is_x stands known)) h

    -- pieces are made
    module _ (made : Pdu → Type 0) (covers : CoversBut now cloud made (now + cube.mpl) cloud') (means : (pdu : Pdu) → made pdu → (pdu.kind ≡ APiece) × IsFrom c pdu) where
      up : Stands q.x.side q.flow q.far
      up = out_used g now cloud held ends conns lines own at e c q.x q.flow q.far conn allocated q.is_x q.stands q.known

      made_goes : (pdu : Pdu) → made pdu → GoesFrom q.x.side q.flow.asker q.far (four_in pdu)
      made_goes pdu m =
          let is = out_ids g now cloud held ends conns lines own at e c q.x q.flow q.far conn allocated q.is_x q.stands q.known in
          goes_from q.x.side q.flow q.far e.cube pdu (subst (λ (z : Ids). IsFrom z pdu) (sym is) (means pdu m).1)

      ledger_pieces : LedgerHolds now own.flows (Naming (IsOfFlow g) cloud')
      ledger_pieces =
          let h = by_sender other q.x q.flow q.far q.is_x q.stands q.known (own.flows_are at to e other q.x q.flow q.far line conn.end is_other partners q.is_x q.stands q.known is_line) in
          let knows = (end_of_flow g now cloud held ends conns lines own at e c q.x q.flow conn q.is_x q.stands).knows allocated in
          ledger_made g now cloud held ends conns lines own cloud' at q.x q.flow q.far q.is_x q.stands q.known q.x.side up made (now + cube.mpl) covers (knows_told q.x.side q.flow knows) (short_life q.flow q.far q.x.side e other c line cube is_cube h) made_goes

      other_pieces : (i : ℕ) → i ≢ at → Carries g now cloud held ends conns lines own cloud' i
      other_pieces i ne = carries_made g now cloud held ends conns lines own cloud' at q.x q.flow q.far q.is_x q.stands q.known q.x.side up made (now + cube.mpl) covers (λ pdu m. inl ((means pdu m).0, made_goes pdu m)) i ne

    -- an SDU is offered
    pub own_offered : (parts : List Part) → IsCut (piece_size g) true parts → offer_refusal k line parts ≡ None → CoversBut now cloud (MadeOf c (offered_pieces k parts line)) (now + cube.mpl) cloud'
        → IsOwn g now cloud' held (slice_set ends at (with_sent e (offered_entry k parts line))) conns (slice_set lines at (offered k parts line))
    own_offered parts cut free covers =
        let e' : End = with_sent e (offered_entry k parts line) in
        let line' : Direction = offered k parts line in
        let pieces : List Piece = offered_pieces k parts line in
        let made : Pdu → Type 0 = MadeOf c pieces in
        let means : (pdu : Pdu) → made pdu → (pdu.kind ≡ APiece) × IsFrom c pdu = λ pdu m. (ap (λ (z : Pdu). z.kind) m.2, piece_from c m.0 pdu m.2) in
        let const : IsConst e e' = record { flow = refl; role = refl; port = refl; app = refl; peer = refl; cube = refl } in
        own_sent g now cloud held ends conns lines own cloud' at e e' conn.end const refl line line' is_line refl refl
        (λ x flow is_x stands none. let far = has_far g now cloud held ends conns lines own at to e other x flow conn.end is_other partners is_x stands in absurd (none-some far.0 (sym none ∙ far.1)))
        (ledger_pieces made covers means)
        (λ j b x flow far is_b p is_x stands known h.
        let z = by_sender b x flow far is_x stands known h in
        let m = end_of_flow g now cloud held ends conns lines own at e c x flow conn is_x stands in
        back_sender b e' line' x flow far is_x stands known (row_offered g now cloud cloud' flow far x.side e b c line cube is_cube limits e' parts made
        (out_used g now cloud held ends conns lines own at e c x flow far conn allocated is_x stands known) (m.knows allocated) cut free covers
        (λ pdu made_of. (ap (λ (v : Pdu). v.kind) made_of.2, subst (λ (v : Pdu). In (piece_in v) pieces) (sym made_of.2) made_of.1))
        (ap (λ (xs : List Entry). xs ++ offered_entry k parts line ∷ []) (sym z.direction.sent)) z))
        (other_pieces made covers means)

    -- a number is sent again
    pub own_again : (n : ℕ) → again_due k line.line.clock line.line.sender ≡ Some n → CoversBut now cloud (λ p. p ≡ pdu_of_piece c (piece_again n line.line.sender)) (now + cube.mpl) cloud'
        → IsOwn g now cloud' held ends conns (slice_set lines at (record line { line = again k n line.line }))
    own_again n due covers =
        let line' : Direction = record line { line = again k n line.line } in
        let piece : Piece = piece_again n line.line.sender in
        let made : Pdu → Type 0 = λ p. p ≡ pdu_of_piece c piece in
        let means : (pdu : Pdu) → made pdu → (pdu.kind ≡ APiece) × IsFrom c pdu = λ pdu m. (ap (λ (z : Pdu). z.kind) m, piece_from c piece pdu m) in
        own_line g now cloud held ends conns lines own cloud' at line line' is_line (ledger_pieces made covers means)
        (λ j a b x flow far is_a is_b p is_x stands known h.
        let a_is : a ≡ e = (let here = conn.end in cc) in
        let m = end_of_flow g now cloud held ends conns lines own at e c x flow conn is_x stands in
        let h' : IsFlow g now cloud flow far x.side e b (ids_from x.side flow far e.cube) line = subst (λ (v : End). IsFlow g now cloud flow far x.side v b (ids_from x.side flow far v.cube) line) a_is h in
        let new = back_sender b e line' x flow far is_x stands known (row_again g now cloud cloud' flow far x.side e b c line cube is_cube limits n made
        (out_used g now cloud held ends conns lines own at e c x flow far conn allocated is_x stands known) (m.knows allocated) due covers (λ pdu v. (ap (λ (z : Pdu). z.kind) v, ap piece_in v)) (by_sender b x flow far is_x stands known h')) in
        subst (λ (v : End). IsFlow g now cloud' flow far x.side v b (ids_from x.side flow far v.cube) line') (sym a_is) new)
        (other_pieces made covers means)

    -- an acknowledgement comes
    pub own_told : (older : ℕ) (pdu : Pdu) → cloud older pdu → now ≤ older → pdu.kind ≡ AnAck → IsFrom (flipped c) pdu → Covers now cloud cloud' → IsOwn g now cloud' held ends conns (slice_set lines at (record line { line = told (ack_in pdu) line.line }))
    own_told older pdu has alive kind names covers =
        let line' : Direction = record line { line = told (ack_in pdu) line.line } in
        own_line g now cloud held ends conns lines own cloud' at line line' is_line (ledger_covered g now cloud held ends conns lines own cloud' covers)
        (λ j a b x flow far is_a is_b p is_x stands known h.
        let a_is : a ≡ e = (let here = conn.end in cc) in
        let m = end_of_flow g now cloud held ends conns lines own at e c x flow conn is_x stands in
        let h' : IsFlow g now cloud flow far x.side e b (ids_from x.side flow far e.cube) line = subst (λ (v : End). IsFlow g now cloud flow far x.side v b (ids_from x.side flow far v.cube) line) a_is h in
        let here = out_used g now cloud held ends conns lines own at e c x flow far conn allocated is_x stands known in
        let ack : AcksOf cloud c older (ack_in pdu) = record { pdu = pdu; in_cloud = has; kind = kind; from = names; is = refl } in
        let new = back_sender b e line' x flow far is_x stands known (row_told g now cloud cloud' flow far x.side e b c line cube is_cube limits older (ack_in pdu) (used_up now x.side flow far known here) here (m.knows allocated) ack alive covers (by_sender b x flow far is_x stands known h')) in
        subst (λ (v : End). IsFlow g now cloud' flow far x.side v b (ids_from x.side flow far v.cube) line') (sym a_is) new)
        (λ i ne. carries_covered g now cloud held ends conns lines own cloud' covers i)

  -- ---- an end receives in the direction of its partner

  module _ (journal : IsJournal now ends) (at : ℕ) (e : End) (c : Ids) (cube : Cube) (conn : IsConn ends conns at e c) (is_cube : cube_by c.qos g.cubes ≡ Some cube) (limits : IsCube cube) (from : ℕ) (partner : End) (is_partner : At ends from partner) (partners : IsPartner partner e) (line : Direction) (is_line : slice_get lines from ≡ Some line) where
    abbrev inward : Constants
    inward = constants g cube (flipped c)

    cube_same : e.cube ≡ partner.cube
    cube_same = (journal.named from at partner e is_partner conn.end partners).cube

    abbrev joined : IsPair own.flows own.places from
    joined = pair g now cloud held ends conns lines own from at partner e is_partner conn.end partners

    ids_are : e.state ≡ Allocated → (x : Place) (flow : Flow) (far : Endpoint) → slice_get own.places from ≡ Some x → slice_get own.flows x.flow ≡ Some flow → flow.far ≡ Some far → ids_from x.side flow far partner.cube ≡ flipped c
    ids_are allocated x flow far is_x stands known = in_ids g now cloud held ends conns lines own from at partner e c x flow far is_partner conn partners allocated cube_same is_x stands known

    here : e.state ≡ Allocated → (x : Place) (flow : Flow) (far : Endpoint) → slice_get own.places from ≡ Some x → slice_get own.flows x.flow ≡ Some flow → flow.far ≡ Some far → Stands (opposite x.side) flow far
    here allocated x flow far is_x stands known = in_used g now cloud held ends conns lines own from at partner e c x flow far is_partner conn partners allocated is_x stands known

    -- whoever stands at its place is the partner, and whoever receives from it is this end
    partner_is : (a : End) → At ends from a → a ≡ partner
    partner_is a is_a = cc

    receiver_is : (j : ℕ) (a b : End) → At ends from a → At ends j b → IsPartner a b → b ≡ e
    receiver_is j a b is_a is_b p =
        let j_is : j ≡ at = one_partner now ends j at b e partner journal is_b conn.end (partner_back partner b (subst (λ (z : End). IsPartner z b) (partner_is a is_a) p)) (partner_back partner e partners) in
        let there : At ends at b = subst (λ (n : ℕ). At ends n b) j_is is_b in
        let is_e = conn.end in
        cc

    -- the end knows its partner
    knows_here : e.state ≡ Allocated → (x : Place) (flow : Flow) → slice_get own.places from ≡ Some x → slice_get own.flows x.flow ≡ Some flow → Knows (opposite x.side) flow
    knows_here allocated x flow is_x stands = (far_end_of_flow g now cloud held ends conns lines own from at partner e c x flow is_partner conn partners is_x stands).knows allocated

    -- what holds of the direction by the ids of its receiver, which is allocated, holds of whoever the two ends are
    by_receiver : e.state ≡ Allocated → (line' : Direction) (x : Place) (flow : Flow) (far : Endpoint) → slice_get own.places from ≡ Some x → slice_get own.flows x.flow ≡ Some flow → flow.far ≡ Some far
        → (IsFlow g now cloud flow far x.side partner e (flipped c) line → IsFlow g now cloud' flow far x.side partner e (flipped c) line')
        → (j : ℕ) (a b : End) → At ends from a → At ends j b → IsPartner a b → IsFlow g now cloud flow far x.side a b (ids_from x.side flow far a.cube) line → IsFlow g now cloud' flow far x.side a b (ids_from x.side flow far a.cube) line'
    by_receiver allocated line' x flow far is_x stands known row j a b is_a is_b p h =
        let a_is = partner_is a is_a in
        let b_is = receiver_is j a b is_a is_b p in
        let F : End → End → Type 0 = λ u v. IsFlow g now cloud flow far x.side u v (ids_from x.side flow far u.cube) line in
        let G : End → End → Type 0 = λ u v. IsFlow g now cloud' flow far x.side u v (ids_from x.side flow far u.cube) line' in
        let same = ids_are allocated x flow far is_x stands known in
        let h' : F partner e = subst (λ (v : End). F partner v) b_is (subst (λ (u : End). F u b) a_is h) in
        let new : G partner e = subst (λ (z : Ids). IsFlow g now cloud' flow far x.side partner e z line') (sym same) (row (subst (λ (z : Ids). IsFlow g now cloud flow far x.side partner e z line) same h')) in
        subst (λ (u : End). G u b) (sym a_is) (subst (λ (v : End). G partner v) (sym b_is) new)

    -- a piece arrives
    pub own_arrived : e.state ≡ Allocated → (older : ℕ) (pdu : Pdu) → cloud older pdu → now ≤ older → pdu.kind ≡ APiece → IsFrom (flipped c) pdu → Covers now cloud cloud'
        → IsOwn g now cloud' held (slice_set ends at (record e { got = (arrived inward (piece_in pdu) line).inbox.got })) conns (slice_set lines from (arrived inward (piece_in pdu) line))
    own_arrived allocated older pdu has alive kind names covers =
        let line' : Direction = arrived inward (piece_in pdu) line in
        let e' : End = record e { got = line'.inbox.got } in
        let const : IsConst e e' = record { flow = refl; role = refl; port = refl; app = refl; peer = refl; cube = refl } in
        own_received g now cloud held ends conns lines own cloud' at e e' conn.end const refl journal from partner is_partner partners line line' is_line refl covers
        (λ x flow far is_x stands known h.
        let is = ids_are allocated x flow far is_x stands known in
        let n = far_end_of_flow g now cloud held ends conns lines own from at partner e c x flow is_partner conn partners is_x stands in
        let knows = n.knows allocated in
        let used = used_up now (opposite x.side) flow far known (here allocated x flow far is_x stands known) in
        let piece : PiecesOf cloud (flipped c) older (piece_in pdu) = record { pdu = pdu; in_cloud = has; kind = kind; from = names; is = refl } in
        let F : Direction → Type 0 = λ l. IsFlow g now cloud flow far x.side partner e (flipped c) l in
        let h' : F line = subst (λ (z : Ids). IsFlow g now cloud flow far x.side partner e z line) is h in
        subst (λ (z : Ids). IsFlow g now cloud' flow far x.side partner e' z line') (sym is)
        (row_arrived g now cloud cloud' flow far x.side partner e (flipped c) (found inward line) cube is_cube limits e' older (piece_in pdu) used knows piece alive covers refl refl
        (by_found F inward line h' (λ gone. row_forgot g now cloud cloud flow far x.side partner e (flipped c) line cube is_cube limits knows gone (same_cloud now cloud) h'))))

    -- the application takes an SDU, whatever became of the end
    pub own_passed : e.taken < length e.got → Covers now cloud cloud' → IsOwn g now cloud' held (slice_set ends at (with_passed e)) conns (slice_set lines from (happens inward line Pass))
    own_passed waits covers =
        let line' : Direction = happens inward line Pass in
        let e' : End = with_passed e in
        let const : IsConst e e' = record { flow = refl; role = refl; port = refl; app = refl; peer = refl; cube = refl } in
        own_received g now cloud held ends conns lines own cloud' at e e' conn.end const refl journal from partner is_partner partners line line' is_line refl covers
        (λ x flow far is_x stands known h.
        let got : length line.inbox.got ≡ length e.got = ap (λ (xs : List Entry). length xs) h.direction.got in
        let passed = h.direction.passed in
        elim (knows_or x.side flow) [
          | inl knows ↦
              (let is = known_ids g now cloud held ends conns lines own from at partner e c x flow far is_partner conn partners knows cube_same is_x stands known in
              subst (λ (z : Ids). IsFlow g now cloud' flow far x.side partner e' z line') (sym is)
              (row_passed g now cloud cloud' flow far x.side partner e (flipped c) line cube is_cube limits e' (omega (arith, waits, got, passed)) covers refl refl (subst (λ (z : Ids). IsFlow g now cloud flow far x.side partner e z line) is h)))
          | inr untold ↦
              (let none : length line.inbox.got ≡ 0 = untaken_none (constants g h.direction.cube (ids_from x.side flow far partner.cube)) x.side flow line untold.0 untold.1 h.untold in
              absurd (omega (arith, waits, got, none)))
        ])

    -- an acknowledgement is made
    pub own_acknowledged : e.state ≡ Allocated → is_ack_due inward line ≡ true → CoversBut now cloud (λ p. p ≡ pdu_of_ack c (record { ack = next_of line.line.receiver - 1; right = right_of inward line })) (now + cube.mpl) cloud' → IsOwn g now cloud' held ends conns (slice_set lines from (after_ack true inward line))
    own_acknowledged allocated due covers =
        let line' : Direction = after_ack true inward line in
        let ack : Ack = record { ack = next_of line.line.receiver - 1; right = right_of inward line } in
        let made : Pdu → Type 0 = λ p. p ≡ pdu_of_ack c ack in
        let is = ids_are allocated joined.x joined.flow joined.far joined.is_x joined.stands joined.known in
        let up = here allocated joined.x joined.flow joined.far joined.is_x joined.stands joined.known in
        let n = far_end_of_flow g now cloud held ends conns lines own from at partner e c joined.x joined.flow is_partner conn partners joined.is_x joined.stands in
        let goes : (pdu : Pdu) → made pdu → GoesFrom (opposite joined.x.side) joined.flow.asker joined.far (four_in pdu) = λ pdu m.
        goes_back joined.x.side joined.flow joined.far partner.cube pdu (subst (λ (z : Ids). IsFrom (flipped z) pdu) (sym is) (ack_from c ack pdu m)) in
        let flow = subst (λ (z : Ids). IsFlow g now cloud joined.flow joined.far joined.x.side partner e z line) is (own.flows_are from at partner e joined.x joined.flow joined.far line is_partner conn.end partners joined.is_x joined.stands joined.known is_line) in
        let ledger = ledger_made g now cloud held ends conns lines own cloud' from joined.x joined.flow joined.far joined.is_x joined.stands joined.known (opposite joined.x.side) up made (now + cube.mpl) covers (knows_told (opposite joined.x.side) joined.flow (n.knows allocated)) (short_life joined.flow joined.far joined.x.side partner e (flipped c) line cube is_cube flow) goes in
        own_line g now cloud held ends conns lines own cloud' from line line' is_line ledger
        (λ j a b x flow far is_a is_b p is_x stands known h.
        by_receiver allocated line' x flow far is_x stands known (row_acknowledged g now cloud cloud' flow far x.side partner e (flipped c) line cube is_cube limits made (knows_here allocated x flow is_x stands) due covers (λ pdu m. (ap (λ (z : Pdu). z.kind) m, ap ack_in m))) j a b is_a is_b p h)
        (λ i ne. carries_made g now cloud held ends conns lines own cloud' from joined.x joined.flow joined.far joined.is_x joined.stands joined.known (opposite joined.x.side) up made (now + cube.mpl) covers (λ pdu m. inr (ap (λ (z : Pdu). z.kind) m, goes pdu m)) i ne)

    -- what is held of a state that is gone is given up
    pub own_forgot : e.state ≡ Allocated → is_present inward line.line.clock line.line.receiver ≡ false → Covers now cloud cloud' → IsOwn g now cloud' held ends conns (slice_set lines from (happens inward line Forget))
    own_forgot allocated gone covers =
        let line' : Direction = happens inward line Forget in
        own_line g now cloud held ends conns lines own cloud' from line line' is_line (ledger_covered g now cloud held ends conns lines own cloud' covers)
        (λ j a b x flow far is_a is_b p is_x stands known h.
        by_receiver allocated line' x flow far is_x stands known (row_forgot g now cloud cloud' flow far x.side partner e (flipped c) line cube is_cube limits (knows_here allocated x flow is_x stands) gone covers) j a b is_a is_b p h)
        (λ i ne. carries_covered g now cloud held ends conns lines own cloud' covers i)
