-- What the rows of a connection, and changes of the cloud, do to one direction of a flow.
use Rattle.std.proofs.Common.{◌≡◌, ℕ, ◌+◌, ◌-◌, ◌≤◌, Bool, List, length, Some, None, true, false, arith, refl, sym, ◌∙◌, ap, subst, inl, inr}
use Rattle.rina_base.specs.declared.pdu.Pdu.{Pdu}
use Rattle.rina_base.specs.declared.pdu.PduKind.TheVariants.{Piece as APiece, Ack as AnAck}
use Rattle.rina_cube.specs.declared.Cube.{Cube}
use Rattle.rina_cube.specs.Cubes.{IsCube}
use Rattle.rina_iface.specs.declared.ends.End.{End}
use Rattle.rina_law.specs.Backed.{Covers, CoversBut}
use Rattle.rina_law.specs.Constants.{Constants}
use Rattle.rina_law.specs.Direction.{Direction, Inbox, Pass, Forget, accepted_offer, after_ack, after_arrival, happens, has_room, is_ack_due, offer_refusal, right_of, May}
use Rattle.rina_law.specs.Line.{again, arrival_verdict, told}
use Rattle.rina_law.specs.Lists.{In}
use Rattle.rina_law.specs.Pdus.{piece_in, ack_in}
use Rattle.rina_law.specs.Pieces.{Part, IsCut}
use Rattle.rina_law.specs.Receiver.{Piece, is_present, next_of}
use Rattle.rina_law.specs.Sender.{Ack, again_due, is_absent, piece_again, pieces_for, started}
use Rattle.rina_law.proofs.Backing.{row_backed}
use Rattle.rina_rest.specs.While.{Guarded, IsBackedIf, IsDirectionFrom}
use Rattle.rina_rest.proofs.While.{ack_if, again_if, arrive_if, forget_if, from_standing, guard_backed, offer_if, pass_if, time_if, told_if}
use Rattle.rina_data.specs.Configs.{Config, cube_by, piece_size}
use Rattle.rina_dif_law.specs.Dif.{constants}
use Rattle.rina_dif_law.specs.Ids.{AcksOf, Ids, IsFrom, PiecesOf, flipped}
use Rattle.rina_dif_law.specs.Lifting.{ticked}
use Rattle.rina_dif_law.specs.Places.{Knows}
use Rattle.rina_dif_law.specs.Standing.{IsDirection, IsFlow, IsUntold}
use Rattle.rina_dif_law.proofs.Placed.{opposite}
use Rattle.rina_rest.specs.Flows.{Asker, Endpoint, Far, Flow, IsInUse, Side}
use Rattle.rina_rest.specs.Ledger.{Stands}
use Rattle.rina_rest.proofs.Still.{again_untaken, offer_untaken}

module _ (now : ℕ) (cloud cloud' : ℕ → Pdu → Type 0) (ids : Ids) where
  pub pieces_covered : Covers now cloud cloud' → Covers now (PiecesOf cloud ids) (PiecesOf cloud' ids)
  pieces_covered covers death p x alive =
      let o = covers death x.pdu x.in_cloud alive in
      (o.0, o.1, record { pdu = x.pdu; in_cloud = o.2; kind = x.kind; from = x.from; is = x.is })

  pub acks_covered : Covers now cloud cloud' → Covers now (AcksOf cloud ids) (AcksOf cloud' ids)
  acks_covered covers death k x alive =
      let o = covers death x.pdu x.in_cloud alive in
      (o.0, o.1, record { pdu = x.pdu; in_cloud = o.2; kind = x.kind; from = x.from; is = x.is })

  -- what was made is no piece of this direction
  pub pieces_apart : (made : Pdu → Type 0) (life : ℕ) → CoversBut now cloud made life cloud' → ((pdu : Pdu) → made pdu → pdu.kind ≡ APiece → IsFrom ids pdu → ⊥) → Covers now (PiecesOf cloud ids) (PiecesOf cloud' ids)
  pieces_apart made life covers apart death p x alive = elim (covers death x.pdu x.in_cloud alive) [
    | inl o ↦ (o.0, o.1, record { pdu = x.pdu; in_cloud = o.2; kind = x.kind; from = x.from; is = x.is })
    | inr n ↦ absurd (apart x.pdu n.0 x.kind x.from)
  ]

  -- nor an acknowledgement of it
  pub acks_apart : (made : Pdu → Type 0) (life : ℕ) → CoversBut now cloud made life cloud' → ((pdu : Pdu) → made pdu → pdu.kind ≡ AnAck → IsFrom (flipped ids) pdu → ⊥) → Covers now (AcksOf cloud ids) (AcksOf cloud' ids)
  acks_apart made life covers apart death k x alive = elim (covers death x.pdu x.in_cloud alive) [
    | inl o ↦ (o.0, o.1, record { pdu = x.pdu; in_cloud = o.2; kind = x.kind; from = x.from; is = x.is })
    | inr n ↦ absurd (apart x.pdu n.0 x.kind x.from)
  ]

  -- what was made are pieces of this direction
  pub pieces_made : (made : Pdu → Type 0) (is_made : Piece → Type 0) (life : ℕ) → CoversBut now cloud made life cloud' → ((pdu : Pdu) → made pdu → is_made (piece_in pdu)) → CoversBut now (PiecesOf cloud ids) is_made life (PiecesOf cloud' ids)
  pieces_made made is_made life covers means death p x alive = elim (covers death x.pdu x.in_cloud alive) [
    | inl o ↦ inl (o.0, o.1, record { pdu = x.pdu; in_cloud = o.2; kind = x.kind; from = x.from; is = x.is })
    | inr n ↦ inr (subst is_made x.is (means x.pdu n.0), n.1)
  ]

  -- or acknowledgements of it
  pub acks_made : (made : Pdu → Type 0) (is_made : Ack → Type 0) (life : ℕ) → CoversBut now cloud made life cloud' → ((pdu : Pdu) → made pdu → is_made (ack_in pdu)) → CoversBut now (AcksOf cloud ids) is_made life (AcksOf cloud' ids)
  acks_made made is_made life covers means death k x alive = elim (covers death x.pdu x.in_cloud alive) [
    | inl o ↦ inl (o.0, o.1, record { pdu = x.pdu; in_cloud = o.2; kind = x.kind; from = x.from; is = x.is })
    | inr n ↦ inr (subst is_made x.is (means x.pdu n.0), n.1)
  ]

-- The direction stays as it is; the journals at its ends do too
pub flow_kept : (g : Config) (now : ℕ) (cloud cloud' : ℕ → Pdu → Type 0) (U V : Type 0) (a b a' b' : End) (c : Ids) (line : Direction) → (V → U) → Covers now (Guarded V (PiecesOf cloud c)) (Guarded V (PiecesOf cloud' c)) → Covers now (Guarded V (AcksOf cloud c)) (Guarded V (AcksOf cloud' c)) → a'.sent ≡ a.sent → b'.got ≡ b.got → b'.taken ≡ b.taken → IsDirection g now cloud U a b c line → IsDirection g now cloud' V a' b' c line
flow_kept g now cloud cloud' U V a b a' b' c line still pieces acks sent got taken h = record {
  cube = h.cube;
  is_cube = h.is_cube;
  backed = row_backed (constants g h.cube c) (Guarded V (PiecesOf cloud c)) (Guarded V (PiecesOf cloud' c)) (Guarded V (AcksOf cloud c)) (Guarded V (AcksOf cloud' c)) line now line h.backed.holds refl refl refl pieces acks (guard_backed U V (constants g h.cube c) now (PiecesOf cloud c) (AcksOf cloud c) line still h.backed);
  sent = h.sent ∙ sym sent;
  got = h.got ∙ sym got;
  passed = h.passed ∙ sym taken;
}

-- what is covered is covered for whoever uses it
pub guarded_covers : {P : Type 0} → (V : Type 0) (now : ℕ) (cloud cloud' : ℕ → P → Type 0) → Covers now cloud cloud' → Covers now (Guarded V cloud) (Guarded V cloud')
guarded_covers V now cloud cloud' covers death p x alive = (let old = covers death p x.1 alive in (old.0, old.1, (x.0, old.2)))

pub flow_covered : (g : Config) (now : ℕ) (cloud cloud' : ℕ → Pdu → Type 0) (U V : Type 0) (a b a' b' : End) (c : Ids) (line : Direction) → (V → U) → Covers now cloud cloud' → a'.sent ≡ a.sent → b'.got ≡ b.got → b'.taken ≡ b.taken → IsDirection g now cloud U a b c line → IsDirection g now cloud' V a' b' c line
flow_covered g now cloud cloud' U V a b a' b' c line still covers sent got taken h =
    flow_kept g now cloud cloud' U V a b a' b' c line still
    (guarded_covers V now (PiecesOf cloud c) (PiecesOf cloud' c) (pieces_covered now cloud cloud' c covers))
    (guarded_covers V now (AcksOf cloud c) (AcksOf cloud' c) (acks_covered now cloud cloud' c covers)) sent got taken h

-- time goes on
pub flow_ticked : (g : Config) (now later : ℕ) (cloud cloud' : ℕ → Pdu → Type 0) (U V : Type 0) (a b : End) (c : Ids) (line : Direction) → (V → U) → now ≤ later → Covers later cloud cloud' → IsDirection g now cloud U a b c line → IsDirection g later cloud' V a b c (record line { line = record line.line { clock = line.line.clock + (later - now) } })
flow_ticked g now later cloud cloud' U V a b c line still le covers h = record {
  cube = h.cube;
  is_cube = h.is_cube;
  backed = time_if U V still (constants g h.cube c) (PiecesOf cloud c) (PiecesOf cloud' c) (AcksOf cloud c) (AcksOf cloud' c) line now later le (pieces_covered later cloud cloud' c covers) (acks_covered later cloud cloud' c covers) h.backed;
  sent = h.sent;
  got = h.got;
  passed = h.passed;
}

-- as a row of a direction is told by the cube that a caller knows
module _ (g : Config) (now : ℕ) (cloud cloud' : ℕ → Pdu → Type 0) (U : Type 0) (a b : End) (c : Ids) (line : Direction) (cube : Cube) (is_cube : cube_by c.qos g.cubes ≡ Some cube) (limits : IsCube cube) where
  some_same : (x y : Cube) → cube_by c.qos g.cubes ≡ Some x → cube_by c.qos g.cubes ≡ Some y → x ≡ y
  some_same x y h k = cc

  pub backed_by : (h : IsDirection g now cloud U a b c line) → IsBackedIf U (constants g cube c) now (PiecesOf cloud c) (AcksOf cloud c) line
  backed_by h = subst (λ (x : Cube). IsBackedIf U (constants g x c) now (PiecesOf cloud c) (AcksOf cloud c) line) (some_same h.cube cube h.is_cube is_cube) h.backed

  same_use : U → U
  same_use u = u

  -- an SDU is offered, and its pieces are made
  pub flow_offered : (a' : End) (parts : List Part) (made : Pdu → Type 0) → IsCut (piece_size g) true parts → offer_refusal (constants g cube c) line parts ≡ None
      → CoversBut now cloud made (now + cube.mpl) cloud' → ((pdu : Pdu) → made pdu → (pdu.kind ≡ APiece) × In (piece_in pdu) (pieces_for (constants g cube c) line.line.clock parts (started (is_absent (constants g cube c) line.line.clock line.line.sender) (constants g cube c) line.line.sender)))
      → a'.sent ≡ (accepted_offer (constants g cube c) (is_absent (constants g cube c) line.line.clock line.line.sender) parts line).sent
      → IsDirection g now cloud U a b c line → IsDirection g now cloud' U a' b c (accepted_offer (constants g cube c) (is_absent (constants g cube c) line.line.clock line.line.sender) parts line)
  flow_offered a' parts made cut free covers means sent h = record {
    cube = cube;
    is_cube = is_cube;
    backed = offer_if U U same_use (constants g cube c) (PiecesOf cloud c) (PiecesOf cloud' c) (AcksOf cloud c) (AcksOf cloud' c) line now parts limits cut free
        (pieces_made now cloud cloud' c made _ (now + cube.mpl) covers (λ pdu m. (means pdu m).1))
        (acks_apart now cloud cloud' c made (now + cube.mpl) covers (λ pdu m kind from. let piece = (means pdu m).0 in cc))
        (backed_by h);
    sent = sym sent;
    got = h.got;
    passed = h.passed;
  }

  -- a piece of the cloud arrives
  pub flow_arrived : (b' : End) (death : ℕ) (p : Piece) → U → PiecesOf cloud c death p → now ≤ death → Covers now cloud cloud'
      → b'.got ≡ (after_arrival (arrival_verdict (constants g cube c) line.line p (has_room (constants g cube c) line)) (is_present (constants g cube c) line.line.clock line.line.receiver) (constants g cube c) p line).inbox.got → b'.taken ≡ b.taken
      → IsDirection g now cloud U a b c line → IsDirection g now cloud' U a b' c (after_arrival (arrival_verdict (constants g cube c) line.line p (has_room (constants g cube c) line)) (is_present (constants g cube c) line.line.clock line.line.receiver) (constants g cube c) p line)
  flow_arrived b' death p used x alive covers got taken h = record {
    cube = cube;
    is_cube = is_cube;
    backed = arrive_if U U same_use (constants g cube c) (PiecesOf cloud c) (PiecesOf cloud' c) (AcksOf cloud c) (AcksOf cloud' c) line now death p used limits x alive (pieces_covered now cloud cloud' c covers) (acks_covered now cloud cloud' c covers) (backed_by h);
    sent = h.sent;
    got = sym got;
    passed = h.passed ∙ sym taken;
  }

  -- an acknowledgement of the cloud arrives
  pub flow_told : (death : ℕ) (k : Ack) → U → AcksOf cloud c death k → now ≤ death → Covers now cloud cloud' → IsDirection g now cloud U a b c line → IsDirection g now cloud' U a b c (record line { line = told k line.line })
  flow_told death k used x alive covers h = record {
    cube = cube;
    is_cube = is_cube;
    backed = told_if U U same_use (constants g cube c) (PiecesOf cloud c) (PiecesOf cloud' c) (AcksOf cloud c) (AcksOf cloud' c) line now death k used x alive (pieces_covered now cloud cloud' c covers) (acks_covered now cloud cloud' c covers) (backed_by h);
    sent = h.sent;
    got = h.got;
    passed = h.passed;
  }

  -- a number that is due is sent again
  pub flow_again : (n : ℕ) (made : Pdu → Type 0) → again_due (constants g cube c) line.line.clock line.line.sender ≡ Some n → CoversBut now cloud made (now + cube.mpl) cloud' → ((pdu : Pdu) → made pdu → (pdu.kind ≡ APiece) × (piece_in pdu ≡ piece_again n line.line.sender))
      → IsDirection g now cloud U a b c line → IsDirection g now cloud' U a b c (record line { line = again (constants g cube c) n line.line })
  flow_again n made due covers means h = record {
    cube = cube;
    is_cube = is_cube;
    backed = again_if U U same_use (constants g cube c) (PiecesOf cloud c) (PiecesOf cloud' c) (AcksOf cloud c) (AcksOf cloud' c) line now n due
        (pieces_made now cloud cloud' c made (λ p. p ≡ piece_again n line.line.sender) (now + cube.mpl) covers (λ pdu m. (means pdu m).1))
        (acks_apart now cloud cloud' c made (now + cube.mpl) covers (λ pdu m kind from. let piece = (means pdu m).0 in cc))
        (backed_by h);
    sent = h.sent;
    got = h.got;
    passed = h.passed;
  }

  -- an acknowledgement that is due is made
  pub flow_acknowledged : (made : Pdu → Type 0) → is_ack_due (constants g cube c) line ≡ true → CoversBut now cloud made (now + cube.mpl) cloud' → ((pdu : Pdu) → made pdu → (pdu.kind ≡ AnAck) × (ack_in pdu ≡ record { ack = next_of line.line.receiver - 1; right = right_of (constants g cube c) line }))
      → IsDirection g now cloud U a b c line → IsDirection g now cloud' U a b c (after_ack true (constants g cube c) line)
  flow_acknowledged made due covers means h = record {
    cube = cube;
    is_cube = is_cube;
    backed = ack_if U U same_use (constants g cube c) (PiecesOf cloud c) (PiecesOf cloud' c) (AcksOf cloud c) (AcksOf cloud' c) line now limits due
        (pieces_apart now cloud cloud' c made (now + cube.mpl) covers (λ pdu m kind from. let ack = (means pdu m).0 in cc))
        (acks_made now cloud cloud' c made (λ k. k ≡ record { ack = next_of line.line.receiver - 1; right = right_of (constants g cube c) line }) (now + cube.mpl) covers (λ pdu m. (means pdu m).1))
        (backed_by h);
    sent = h.sent;
    got = h.got;
    passed = h.passed;
  }

  -- the application takes an SDU
  pub flow_passed : (b' : End) → May (constants g cube c) line Pass → Covers now cloud cloud' → b'.got ≡ b.got → b'.taken ≡ b.taken + 1 → IsDirection g now cloud U a b c line → IsDirection g now cloud' U a b' c (happens (constants g cube c) line Pass)
  flow_passed b' may covers got taken h = record {
    cube = cube;
    is_cube = is_cube;
    backed = pass_if U U same_use (constants g cube c) (PiecesOf cloud c) (PiecesOf cloud' c) (AcksOf cloud c) (AcksOf cloud' c) line now limits may (pieces_covered now cloud cloud' c covers) (acks_covered now cloud cloud' c covers) (backed_by h);
    sent = h.sent;
    got = h.got ∙ sym got;
    passed = ap (λ (n : ℕ). n + 1) h.passed ∙ sym taken;
  }

  -- an absent state gives up what it still holds
  pub flow_forgot : May (constants g cube c) line Forget → Covers now cloud cloud' → IsDirection g now cloud U a b c line → IsDirection g now cloud' U a b c (happens (constants g cube c) line Forget)
  flow_forgot may covers h = record {
    cube = cube;
    is_cube = is_cube;
    backed = forget_if U U same_use (constants g cube c) (PiecesOf cloud c) (PiecesOf cloud' c) (AcksOf cloud c) (AcksOf cloud' c) line now limits may (pieces_covered now cloud cloud' c covers) (acks_covered now cloud cloud' c covers) (backed_by h);
    sent = h.sent;
    got = h.got;
    passed = h.passed;
  }

-- ---- a flow: with what is kept of its ends

false_true : (b : Bool) → b ≡ false → b ≡ true → ⊥
false_true b f t = cc

-- an asker that knows the far end was told
pub knows_told : (side : Side) (flow : Flow) → Knows side flow → side ≡ Asker → flow.told ≡ true
knows_told Asker flow knows is = knows
knows_told Far flow knows is = absurd (let clash : Far ≡ Asker = is in cc)

offered_untold : (side : Side) (k : Constants) (flow : Flow) (line : Direction) (parts : List Part) → Knows side flow → IsUntold k side flow line → IsUntold k side flow (accepted_offer k (is_absent k line.line.clock line.line.sender) parts line)
offered_untold Asker k flow line parts knows u = λ waiting. absurd (false_true flow.told waiting knows)
offered_untold Far k flow line parts knows u = λ waiting. offer_untaken k line parts None (u waiting)

again_untold : (side : Side) (k : Constants) (flow : Flow) (line : Direction) (n : ℕ) → Knows side flow → IsUntold k side flow line → IsUntold k side flow (record line { line = again k n line.line })
again_untold Asker k flow line n knows u = λ waiting. absurd (false_true flow.told waiting knows)
again_untold Far k flow line n knows u = λ waiting. again_untaken k line (Some n) (u waiting)

told_untold : (side : Side) (k : Constants) (flow : Flow) (line : Direction) (ack : Ack) → Knows side flow → IsUntold k side flow line → IsUntold k side flow (record line { line = told ack line.line })
told_untold Asker k flow line ack knows u = λ waiting. absurd (false_true flow.told waiting knows)
told_untold Far k flow line ack knows u = λ waiting. (let v = u waiting in record { receiver = v.receiver; inbox = v.inbox; passed = v.passed; mark = v.mark })

-- the receiving end does something, which knows the other end; the sender's run stays
receiver_untold : (side : Side) (k : Constants) (flow : Flow) (line line' : Direction) → Knows (opposite side) flow → line'.line.sender.run ≡ line.line.sender.run → IsUntold k side flow line → IsUntold k side flow line'
receiver_untold Asker k flow line line' knows same u = λ waiting. same ∙ u waiting
receiver_untold Far k flow line line' knows same u = λ waiting. absurd (false_true flow.told waiting knows)

passed_untold : (side : Side) (k : Constants) (flow : Flow) (line : Direction) → May k line Pass → IsUntold k side flow line → IsUntold k side flow (happens k line Pass)
passed_untold Asker k flow line may u = λ waiting. u waiting
passed_untold Far k flow line may u = λ waiting.
    (let v = u waiting in
    let none : length line.inbox.got ≡ 0 = ap (λ (z : Inbox). length z.got) v.inbox in
    absurd (omega (arith, may, none)))

pub ticked_untold : (side : Side) (k : Constants) (flow : Flow) (line : Direction) (ticks : ℕ) → IsUntold k side flow line → IsUntold k side flow (ticked ticks line)
ticked_untold Asker k flow line ticks u = λ waiting. u waiting
ticked_untold Far k flow line ticks u = λ waiting. (let v = u waiting in record { receiver = v.receiver; inbox = v.inbox; passed = v.passed; mark = v.mark })

-- where its sender's end made no piece
pub from_still : (k : Constants) (side : Side) (flow : Flow) (far : Endpoint) (line line' : Direction) → line'.line.sender.last_out ≡ line.line.sender.last_out → IsDirectionFrom k side flow far line → IsDirectionFrom k side flow far line'
from_still k side flow far line line' same from = record { cube = from.cube; rest = from.rest; ended = λ t e. (let before = from.ended t e in omega arith) }

module _ (g : Config) (now : ℕ) (cloud cloud' : ℕ → Pdu → Type 0) (flow : Flow) (far : Endpoint) (side : Side) (a b : End) (c : Ids) (line : Direction) (cube : Cube) (is_cube : cube_by c.qos g.cubes ≡ Some cube) (limits : IsCube cube) where
  abbrev k : Constants
  k = constants g cube c

  abbrev U : Type 0
  U = IsInUse now flow

  one_cube : (x y : Cube) → cube_by c.qos g.cubes ≡ Some x → cube_by c.qos g.cubes ≡ Some y → x ≡ y
  one_cube x y h e = cc

  from_by : (h : IsFlow g now cloud flow far side a b c line) → IsDirectionFrom k side flow far line
  from_by h = subst (λ (x : Cube). IsDirectionFrom (constants g x c) side flow far line) (one_cube h.direction.cube cube h.direction.is_cube is_cube) h.from

  untold_by : (h : IsFlow g now cloud flow far side a b c line) → IsUntold k side flow line
  untold_by h = subst (λ (x : Cube). IsUntold (constants g x c) side flow line) (one_cube h.direction.cube cube h.direction.is_cube is_cube) h.untold

  flow_with : (a' b' : End) (line' : Direction) → IsDirection g now cloud' U a' b' c line' → IsDirectionFrom k side flow far line' → IsUntold k side flow line' → IsFlow g now cloud' flow far side a' b' c line'
  flow_with a' b' line' d from untold =
      let same : cube ≡ d.cube = one_cube cube d.cube is_cube d.is_cube in record {
        direction = d;
        from = subst (λ (x : Cube). IsDirectionFrom (constants g x c) side flow far line') same from;
        untold = subst (λ (x : Cube). IsUntold (constants g x c) side flow line') same untold;
      }

  -- an SDU is offered by an end that stands
  pub row_offered : (a' : End) (parts : List Part) (made : Pdu → Type 0) → Stands side flow far → Knows side flow → IsCut (piece_size g) true parts → offer_refusal k line parts ≡ None
      → CoversBut now cloud made (now + cube.mpl) cloud' → ((pdu : Pdu) → made pdu → (pdu.kind ≡ APiece) × In (piece_in pdu) (pieces_for k line.line.clock parts (started (is_absent k line.line.clock line.line.sender) k line.line.sender)))
      → a'.sent ≡ (accepted_offer k (is_absent k line.line.clock line.line.sender) parts line).sent
      → IsFlow g now cloud flow far side a b c line → IsFlow g now cloud' flow far side a' b c (accepted_offer k (is_absent k line.line.clock line.line.sender) parts line)
  row_offered a' parts made stands knows cut free covers means sent h =
      let line' : Direction = accepted_offer k (is_absent k line.line.clock line.line.sender) parts line in
      flow_with a' b line' (flow_offered g now cloud cloud' U a b c line cube is_cube limits a' parts made cut free covers means sent h.direction) (from_standing k flow far line' side limits (from_by h).rest stands) (offered_untold side k flow line parts knows (untold_by h))

  -- a piece of the cloud arrives at an end that knows the other
  pub row_arrived : (b' : End) (death : ℕ) (p : Piece) → U → Knows (opposite side) flow → PiecesOf cloud c death p → now ≤ death → Covers now cloud cloud'
      → b'.got ≡ (after_arrival (arrival_verdict k line.line p (has_room k line)) (is_present k line.line.clock line.line.receiver) k p line).inbox.got → b'.taken ≡ b.taken
      → IsFlow g now cloud flow far side a b c line → IsFlow g now cloud' flow far side a b' c (after_arrival (arrival_verdict k line.line p (has_room k line)) (is_present k line.line.clock line.line.receiver) k p line)
  row_arrived b' death p used knows x alive covers got taken h =
      let line' : Direction = after_arrival (arrival_verdict k line.line p (has_room k line)) (is_present k line.line.clock line.line.receiver) k p line in
      flow_with a b' line' (flow_arrived g now cloud cloud' U a b c line cube is_cube limits b' death p used x alive covers got taken h.direction) (from_still k side flow far line line' refl (from_by h)) (receiver_untold side k flow line line' knows refl (untold_by h))

  pub row_told : (death : ℕ) (ack : Ack) → U → Stands side flow far → Knows side flow → AcksOf cloud c death ack → now ≤ death → Covers now cloud cloud' → IsFlow g now cloud flow far side a b c line → IsFlow g now cloud' flow far side a b c (record line { line = told ack line.line })
  row_told death ack used stands knows x alive covers h =
      let line' : Direction = record line { line = told ack line.line } in
      flow_with a b line' (flow_told g now cloud cloud' U a b c line cube is_cube limits death ack used x alive covers h.direction) (from_standing k flow far line' side limits (from_by h).rest stands) (told_untold side k flow line ack knows (untold_by h))

  pub row_again : (n : ℕ) (made : Pdu → Type 0) → Stands side flow far → Knows side flow → again_due k line.line.clock line.line.sender ≡ Some n → CoversBut now cloud made (now + cube.mpl) cloud' → ((pdu : Pdu) → made pdu → (pdu.kind ≡ APiece) × (piece_in pdu ≡ piece_again n line.line.sender))
      → IsFlow g now cloud flow far side a b c line → IsFlow g now cloud' flow far side a b c (record line { line = again k n line.line })
  row_again n made stands knows due covers means h =
      let line' : Direction = record line { line = again k n line.line } in
      flow_with a b line' (flow_again g now cloud cloud' U a b c line cube is_cube limits n made due covers means h.direction) (from_standing k flow far line' side limits (from_by h).rest stands) (again_untold side k flow line n knows (untold_by h))

  pub row_acknowledged : (made : Pdu → Type 0) → Knows (opposite side) flow → is_ack_due k line ≡ true → CoversBut now cloud made (now + cube.mpl) cloud' → ((pdu : Pdu) → made pdu → (pdu.kind ≡ AnAck) × (ack_in pdu ≡ record { ack = next_of line.line.receiver - 1; right = right_of k line }))
      → IsFlow g now cloud flow far side a b c line → IsFlow g now cloud' flow far side a b c (after_ack true k line)
  row_acknowledged made knows due covers means h =
      let line' : Direction = after_ack true k line in
      flow_with a b line' (flow_acknowledged g now cloud cloud' U a b c line cube is_cube limits made due covers means h.direction) (from_still k side flow far line line' refl (from_by h)) (receiver_untold side k flow line line' knows refl (untold_by h))

  pub row_passed : (b' : End) → May k line Pass → Covers now cloud cloud' → b'.got ≡ b.got → b'.taken ≡ b.taken + 1 → IsFlow g now cloud flow far side a b c line → IsFlow g now cloud' flow far side a b' c (happens k line Pass)
  row_passed b' may covers got taken h =
      let line' : Direction = happens k line Pass in
      flow_with a b' line' (flow_passed g now cloud cloud' U a b c line cube is_cube limits b' may covers got taken h.direction) (from_still k side flow far line line' refl (from_by h)) (passed_untold side k flow line may (untold_by h))

  pub row_forgot : Knows (opposite side) flow → May k line Forget → Covers now cloud cloud' → IsFlow g now cloud flow far side a b c line → IsFlow g now cloud' flow far side a b c (happens k line Forget)
  row_forgot knows may covers h =
      let line' : Direction = happens k line Forget in
      flow_with a b line' (flow_forgot g now cloud cloud' U a b c line cube is_cube limits may covers h.direction) (from_still k side flow far line line' refl (from_by h)) (receiver_untold side k flow line line' knows refl (untold_by h))

-- the direction has its like over another cloud, or between ends that are alike
pub flow_redirected : (g : Config) (now : ℕ) (cloud cloud' : ℕ → Pdu → Type 0) (flow : Flow) (far : Endpoint) (side : Side) (a b a' b' : End) (c : Ids) (line : Direction) → IsFlow g now cloud flow far side a b c line → IsDirection g now cloud' (IsInUse now flow) a' b' c line → IsFlow g now cloud' flow far side a' b' c line
flow_redirected g now cloud cloud' flow far side a b a' b' c line h d = flow_with g now cloud cloud' flow far side a b c line h.direction.cube h.direction.is_cube h.from.cube a' b' line d h.from h.untold

pub flow_recovered : (g : Config) (now : ℕ) (cloud cloud' : ℕ → Pdu → Type 0) (flow : Flow) (far : Endpoint) (side : Side) (a b : End) (c : Ids) (line : Direction) → Covers now cloud cloud' → IsFlow g now cloud flow far side a b c line → IsFlow g now cloud' flow far side a b c line
flow_recovered g now cloud cloud' flow far side a b c line covers h =
    let U : Type 0 = IsInUse now flow in
    flow_redirected g now cloud cloud' flow far side a b a b c line h (flow_covered g now cloud cloud' U U a b a b c line (λ u. u) covers refl refl refl h.direction)

pub flow_moved : (g : Config) (now : ℕ) (cloud : ℕ → Pdu → Type 0) (flow : Flow) (far : Endpoint) (side : Side) (a b a' b' : End) (c c' : Ids) (line : Direction) → c ≡ c' → a'.sent ≡ a.sent → b'.got ≡ b.got → b'.taken ≡ b.taken → IsFlow g now cloud flow far side a b c line → IsFlow g now cloud flow far side a' b' c' line
flow_moved g now cloud flow far side a b a' b' c c' line is sent got taken h =
    let d = h.direction in
    subst (λ (z : Ids). IsFlow g now cloud flow far side a' b' z line) is (record {
      direction = record { cube = d.cube; is_cube = d.is_cube; backed = d.backed; sent = d.sent ∙ sym sent; got = d.got ∙ sym got; passed = d.passed ∙ sym taken };
      from = h.from;
      untold = h.untold;
    })
