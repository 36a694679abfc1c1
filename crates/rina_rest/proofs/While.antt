-- How a layer keeps a direction behind its part of the cloud only while the connection is in use.
use Rattle.std.proofs.Common.{◌≡◌, ℕ, ◌+◌, ◌-◌, ◌≤◌, true, Some, None, refl, sym, ◌∙◌, subst, arith, inl, inr, List}
use Rattle.std.proofs.lemmas.Option.{none-some, same_Some}
use Rattle.rina_base.specs.declared.pdu.Pdu.{Pdu}
use Rattle.rina_cube.specs.Cubes.{IsCube}
use Rattle.rina_law.specs.Backed.{IsBacked, Covers, CoversBut}
use Rattle.rina_law.specs.Constants.{Constants}
use Rattle.rina_law.specs.Direction.{Direction, start, Row, Time, Pass, Forget, offer_refusal, accepted_offer, has_room, after_arrival, right_of, is_ack_due, after_ack, happens, May}
use Rattle.rina_law.specs.Line.{arrival_verdict, again, told}
use Rattle.rina_law.specs.Lists.{In}
use Rattle.rina_law.specs.Pieces.{Part, IsCut}
use Rattle.rina_law.specs.Receiver.{Piece, is_present, next_of}
use Rattle.rina_law.specs.Sender.{Ack, is_absent, started, pieces_for, again_due, piece_again}
use Rattle.rina_law.proofs.Backing.{time_backed, row_backed, arrive_backed, told_backed, offer_backed, again_backed, ack_backed, pass_backed, forget_backed, start_backed}
use Rattle.rina_rest.specs.Flows.{Endpoint, Side, Asker, Far, Flow, IsInUse, both_ended, over_at, Four}
use Rattle.rina_rest.specs.Ledger.{told_flow, ended_asker, ended_far, Stands}
use Rattle.rina_rest.specs.Naming.{four_in, Naming}
use Rattle.rina_rest.specs.Still.{rest_of, HasEnded, MakesNone, DiesBy, CloudDiesBy}
use Rattle.rina_rest.specs.While.{Guarded, IsBackedIf, IsBackedWhile, IsDirectionFrom}
use Rattle.rina_rest.proofs.Holding.{unended, not_over, both_later}
use Rattle.rina_rest.proofs.Rows.{used_before}
use Rattle.rina_rest.proofs.Still.{dies_in_use, row_leaves}

-- Guards

pub if_backed : (U : Type 0) (c : Constants) (now : ℕ) (pieces : ℕ → Piece → Type 0) (acks : ℕ → Ack → Type 0) (d : Direction) → IsBacked c now pieces acks d → IsBackedIf U c now pieces acks d
if_backed U c now pieces acks d b = record { holds = b.holds; clock = b.clock; pieces_in = λ death p x alive. b.pieces_in death p (x.1) alive; acks_in = λ death k x alive. b.acks_in death k (x.1) alive }

-- and back, where all that is not dead has the guard
pub full_backed : (U : Type 0) (c : Constants) (now : ℕ) (pieces : ℕ → Piece → Type 0) (acks : ℕ → Ack → Type 0) (d : Direction) → ((death : ℕ) (p : Piece) → pieces death p → now ≤ death → U) → ((death : ℕ) (k : Ack) → acks death k → now ≤ death → U) →
    IsBackedIf U c now pieces acks d → IsBacked c now pieces acks d
full_backed U c now pieces acks d used used_acks b = record { holds = b.holds; clock = b.clock; pieces_in = λ death p x alive. b.pieces_in death p (used death p x alive, x) alive; acks_in = λ death k x alive. b.acks_in death k (used_acks death k x alive, x) alive }

pub guard_backed : (U V : Type 0) (c : Constants) (now : ℕ) (pieces : ℕ → Piece → Type 0) (acks : ℕ → Ack → Type 0) (d : Direction) → (V → U) → IsBackedIf U c now pieces acks d → IsBackedIf V c now pieces acks d
guard_backed U V c now pieces acks d still b = record { holds = b.holds; clock = b.clock; pieces_in = λ death p x alive. b.pieces_in death p (still x.0, x.1) alive; acks_in = λ death k x alive. b.acks_in death k (still x.0, x.1) alive }

covers_if : {P : Type 0} → (U V : Type 0) (now : ℕ) (cloud cloud' : ℕ → P → Type 0) → (V → U) → Covers now cloud cloud' → Covers now (Guarded U cloud) (Guarded V cloud')
covers_if U V now cloud cloud' still covers death p x alive = (let old = covers death p (x.1) alive in (old.0, old.1, (still x.0, old.2)))

covers_but_if : {P : Type 0} → (U V : Type 0) (now : ℕ) (cloud cloud' : ℕ → P → Type 0) (made : P → Type 0) (life : ℕ) → (V → U) → CoversBut now cloud made life cloud' → CoversBut now (Guarded U cloud) made life (Guarded V cloud')
covers_but_if U V now cloud cloud' made life still covers death p x alive = elim (covers death p (x.1) alive) [
  | inl old ↦ inl (old.0, old.1, (still x.0, old.2))
  | inr new ↦ inr new
]

-- what is made for a connection is nothing of another that has the guard
pub others_if : {P : Type 0} → (U V : Type 0) (now : ℕ) (cloud cloud' : ℕ → P → Type 0) (made : P → Type 0) (life : ℕ) → (V → U) → (V → (p : P) → made p → ⊥) → CoversBut now cloud made life cloud' → Covers now (Guarded U cloud) (Guarded V cloud')
others_if U V now cloud cloud' made life still none covers death p x alive = elim (covers death p (x.1) alive) [
  | inl old ↦ (old.0, old.1, (still x.0, old.2))
  | inr new ↦ absurd (none x.0 p new.0)
]

-- Each row, where the guard is the same after it, or says more

module _ (U V : Type 0) (still : V → U) (c : Constants) (pieces pieces' : ℕ → Piece → Type 0) (acks acks' : ℕ → Ack → Type 0) (d : Direction) (now : ℕ) where
  -- losses, hops, and whatever happens to other connections
  pub cloud_if : Covers now pieces pieces' → Covers now acks acks' → IsBackedIf U c now pieces acks d → IsBackedIf V c now pieces' acks' d
  cloud_if covers covers_acks b = row_backed c (Guarded U pieces) (Guarded V pieces') (Guarded U acks) (Guarded V acks') d now d b.holds refl refl refl (covers_if U V now pieces pieces' still covers) (covers_if U V now acks acks' still covers_acks) b

  pub time_if : (later : ℕ) → now ≤ later → Covers later pieces pieces' → Covers later acks acks' → IsBackedIf U c now pieces acks d → IsBackedIf V c later pieces' acks' (happens c d (Time (later - now)))
  time_if later le covers covers_acks b = time_backed c (Guarded U pieces) (Guarded V pieces') (Guarded U acks) (Guarded V acks') d now later le (covers_if U V later pieces pieces' still covers) (covers_if U V later acks acks' still covers_acks) b

  -- what arrives was covered, so that the guard stands
  pub arrive_if : (death : ℕ) (p : Piece) → U → IsCube c.cube → pieces death p → now ≤ death → Covers now pieces pieces' → Covers now acks acks' → IsBackedIf U c now pieces acks d →
      IsBackedIf V c now pieces' acks' (after_arrival (arrival_verdict c d.line p (has_room c d)) (is_present c d.line.clock d.line.receiver) c p d)
  arrive_if death p used cube x alive covers covers_acks b =
      arrive_backed c (Guarded U pieces) (Guarded V pieces') (Guarded U acks) (Guarded V acks') d now death p cube (used, x) alive (covers_if U V now pieces pieces' still covers) (covers_if U V now acks acks' still covers_acks) b

  pub told_if : (death : ℕ) (k : Ack) → U → acks death k → now ≤ death → Covers now pieces pieces' → Covers now acks acks' → IsBackedIf U c now pieces acks d → IsBackedIf V c now pieces' acks' (record d { line = told k d.line })
  told_if death k used x alive covers covers_acks b = told_backed c (Guarded U pieces) (Guarded V pieces') (Guarded U acks) (Guarded V acks') d now death k (used, x) alive (covers_if U V now pieces pieces' still covers) (covers_if U V now acks acks' still covers_acks) b

  pub offer_if : (parts : List Part) → IsCube c.cube → IsCut c.piece true parts → offer_refusal c d parts ≡ None →
      CoversBut now pieces (λ p. In p (pieces_for c d.line.clock parts (started (is_absent c d.line.clock d.line.sender) c d.line.sender))) (now + c.cube.mpl) pieces' → Covers now acks acks' → IsBackedIf U c now pieces acks d →
      IsBackedIf V c now pieces' acks' (accepted_offer c (is_absent c d.line.clock d.line.sender) parts d)
  offer_if parts cube cut ok covers covers_acks b =
      let made : Piece → Type 0 = λ p. In p (pieces_for c d.line.clock parts (started (is_absent c d.line.clock d.line.sender) c d.line.sender)) in
      offer_backed c (Guarded U pieces) (Guarded V pieces') (Guarded U acks) (Guarded V acks') d now parts cube cut ok (covers_but_if U V now pieces pieces' made (now + c.cube.mpl) still covers) (covers_if U V now acks acks' still covers_acks) b

  pub again_if : (n : ℕ) → again_due c d.line.clock d.line.sender ≡ Some n → CoversBut now pieces (λ p. p ≡ piece_again n d.line.sender) (now + c.cube.mpl) pieces' → Covers now acks acks' → IsBackedIf U c now pieces acks d →
      IsBackedIf V c now pieces' acks' (record d { line = again c n d.line })
  again_if n due covers covers_acks b =
      let made : Piece → Type 0 = λ p. p ≡ piece_again n d.line.sender in
      again_backed c (Guarded U pieces) (Guarded V pieces') (Guarded U acks) (Guarded V acks') d now n due (covers_but_if U V now pieces pieces' made (now + c.cube.mpl) still covers) (covers_if U V now acks acks' still covers_acks) b

  pub ack_if : IsCube c.cube → is_ack_due c d ≡ true → Covers now pieces pieces' → CoversBut now acks (λ k. k ≡ record { ack = next_of d.line.receiver - 1; right = right_of c d }) (now + c.cube.mpl) acks' → IsBackedIf U c now pieces acks d →
      IsBackedIf V c now pieces' acks' (after_ack true c d)
  ack_if cube due covers covers_acks b =
      let made : Ack → Type 0 = λ k. k ≡ record { ack = next_of d.line.receiver - 1; right = right_of c d } in
      ack_backed c (Guarded U pieces) (Guarded V pieces') (Guarded U acks) (Guarded V acks') d now cube due (covers_if U V now pieces pieces' still covers) (covers_but_if U V now acks acks' made (now + c.cube.mpl) still covers_acks) b

  pub pass_if : IsCube c.cube → May c d Pass → Covers now pieces pieces' → Covers now acks acks' → IsBackedIf U c now pieces acks d → IsBackedIf V c now pieces' acks' (happens c d Pass)
  pass_if cube may covers covers_acks b = pass_backed c (Guarded U pieces) (Guarded V pieces') (Guarded U acks) (Guarded V acks') d now cube may (covers_if U V now pieces pieces' still covers) (covers_if U V now acks acks' still covers_acks) b

  pub forget_if : IsCube c.cube → May c d Forget → Covers now pieces pieces' → Covers now acks acks' → IsBackedIf U c now pieces acks d → IsBackedIf V c now pieces' acks' (happens c d Forget)
  forget_if cube may covers covers_acks b = forget_backed c (Guarded U pieces) (Guarded V pieces') (Guarded U acks) (Guarded V acks') d now cube may (covers_if U V now pieces pieces' still covers) (covers_if U V now acks acks' still covers_acks) b

-- The guard that the connection is in use

-- it is, while an end stands
abbrev pub stands_in_use : (now : ℕ) (side : Side) (f : Flow) (far : Endpoint) → f.far ≡ Some far → Stands side f far → IsInUse now f
stands_in_use now Asker f far known stands = record { far = far; known = known; unrested = λ r q. unended f.rest now f.asker.ended stands r }
stands_in_use now Far f far known stands = record { far = far; known = known; unrested = λ r q. unended f.rest now far.ended stands q }

-- it starts where nothing that is not dead has its ids
pub start_while : (c : Constants) (now : ℕ) (f : Flow) (pieces : ℕ → Piece → Type 0) (acks : ℕ → Ack → Type 0) → IsCube c.cube → ((death : ℕ) (p : Piece) → pieces death p → now ≤ death → ⊥) → ((death : ℕ) (k : Ack) → acks death k → now ≤ death → ⊥) → IsBackedWhile c now f pieces acks (happens c (start c) (Time now))
start_while c now f pieces acks cube none none_acks = if_backed (IsInUse now f) c now pieces acks (happens c (start c) (Time now)) (start_backed c now pieces acks cube none none_acks)

-- time goes on: once the connection is over nothing is covered, and the direction goes on by its clock
pub time_while : (c : Constants) (now later : ℕ) (f : Flow) (pieces pieces' : ℕ → Piece → Type 0) (acks acks' : ℕ → Ack → Type 0) (d : Direction) → now ≤ later → Covers later pieces pieces' → Covers later acks acks' → IsBackedWhile c now f pieces acks d →
    IsBackedWhile c later f pieces' acks' (happens c d (Time (later - now)))
time_while c now later f pieces pieces' acks acks' d le covers covers_acks b = time_if (IsInUse now f) (IsInUse later f) (λ u. used_before now later f le u) c pieces pieces' acks acks' d now later le covers covers_acks b

module _ (c : Constants) (now : ℕ) (f : Flow) (pieces : ℕ → Piece → Type 0) (acks : ℕ → Ack → Type 0) (d : Direction) where
  -- the answer comes
  pub tell_while : IsBackedWhile c now f pieces acks d → IsBackedWhile c now (told_flow f) pieces acks d
  tell_while b = guard_backed (IsInUse now f) (IsInUse now (told_flow f)) c now pieces acks d (λ u. record { far = u.far; known = u.known; unrested = u.unrested }) b

  -- an end that stood ends
  pub end_asker_while : f.asker.ended ≡ None → IsBackedWhile c now f pieces acks d → IsBackedWhile c now (ended_asker now f) pieces acks d
  end_asker_while stands b = guard_backed (IsInUse now f) (IsInUse now (ended_asker now f)) c now pieces acks d (λ u. record { far = u.far; known = u.known; unrested = λ r q. unended f.rest now f.asker.ended stands r }) b

  pub end_far_while : (far : Endpoint) → f.far ≡ Some far → far.ended ≡ None → IsBackedWhile c now f pieces acks d → IsBackedWhile c now (ended_far now f far) pieces acks d
  end_far_while far known stands b = guard_backed (IsInUse now f) (IsInUse now (ended_far now f far)) c now pieces acks d (λ u. record { far = far; known = known; unrested = λ r q. unended f.rest now far.ended stands q }) b

-- The direction from a side

module _ (c : Constants) (f : Flow) (far : Endpoint) (d : Direction) where
  -- while its end stands it may be any
  pub from_standing : (side : Side) → IsCube c.cube → rest_of c ≡ f.rest → Stands side f far → IsDirectionFrom c side f far d
  from_standing Asker cube rest stands = record { cube = cube; rest = rest; ended = λ t e. absurd (none-some t (sym stands ∙ e)) }
  from_standing Far cube rest stands = record { cube = cube; rest = rest; ended = λ t e. absurd (none-some t (sym stands ∙ e)) }

  -- no row of an end that ended makes a piece
  pub from_row : (side : Side) (row : Row) → MakesNone row → IsDirectionFrom c side f far d → IsDirectionFrom c side f far (happens c d row)
  from_row side row none from =
      let same = row_leaves c d row none in
      record { cube = from.cube; rest = from.rest; ended = λ t e. (let before = from.ended t e in omega arith) }

  -- an end that stood ends
  pub from_ended_asker : (side : Side) (now : ℕ) → HasEnded d now → IsDirectionFrom c side f far d → IsDirectionFrom c side (ended_asker now f) far d
  from_ended_asker Asker now ended from = record { cube = from.cube; rest = from.rest; ended = λ t e. (let is = same_Some now t e in omega arith) }
  from_ended_asker Far now ended from = record { cube = from.cube; rest = from.rest; ended = from.ended }

  pub from_ended_far : (side : Side) (now : ℕ) → HasEnded d now → IsDirectionFrom c side f far d → IsDirectionFrom c side (ended_far now f far) (record far { ended = Some now }) d
  from_ended_far Asker now ended from = record { cube = from.cube; rest = from.rest; ended = from.ended }
  from_ended_far Far now ended from = record { cube = from.cube; rest = from.rest; ended = λ t e. (let is = same_Some now t e in omega arith) }

-- it made no piece later than now
pub ended_now : (c : Constants) (now : ℕ) (pieces : ℕ → Piece → Type 0) (acks : ℕ → Ack → Type 0) (d : Direction) → IsBacked c now pieces acks d → HasEnded d now
ended_now c now pieces acks d b =
    let past = b.holds.core.line.sender.out in
    let clock = b.clock in
    omega arith

-- What is covered dies before the connection is over

dies_from : (c : Constants) (side : Side) (f : Flow) (far : Endpoint) (now : ℕ) (pieces : ℕ → Piece → Type 0) (acks : ℕ → Ack → Type 0) (d : Direction) → IsDirectionFrom c side f far d → IsBacked c now pieces acks d → DiesBy c (both_ended d.line.clock f.asker.ended far.ended + rest_of c) d
dies_from c Asker f far now pieces acks d from b = (dies_in_use c d f.asker.ended far.ended from.cube b.holds from.ended).0
dies_from c Far f far now pieces acks d from b = (dies_in_use c d far.ended f.asker.ended from.cube b.holds from.ended).1

pub cloud_dies : (c : Constants) (side : Side) (f : Flow) (far : Endpoint) (now : ℕ) (pieces : ℕ → Piece → Type 0) (acks : ℕ → Ack → Type 0) (d : Direction) → IsDirectionFrom c side f far d → IsBacked c now pieces acks d → CloudDiesBy now (over_at f.rest now f.asker far) pieces acks
cloud_dies c side f far now pieces acks d from b =
    let dies = dies_from c side f far now pieces acks d from b in
    let clock = b.clock in
    let P : ℕ → Type 0 = λ n. DiesBy c (both_ended n f.asker.ended far.ended + rest_of c) d in
    let at = subst P clock dies in
    let rest = from.rest in
    record {
      pieces_die = λ death p x alive. (let q = b.pieces_in death p x alive in let le = q.3 in let lt = at.pieces q.0 (q.1, omega arith) in omega arith);
      acks_die = λ death k x alive. (let q = b.acks_in death k x alive in let le = q.3 in let lt = at.acks q.0 (q.1, omega arith) in omega arith);
    }

module _ (c : Constants) (side : Side) (f : Flow) (far : Endpoint) (pieces : ℕ → Piece → Type 0) (acks : ℕ → Ack → Type 0) (d : Direction) (now later : ℕ) where
  -- so what is of a connection in use, and is not dead later, shows that the connection is in use then
  pub piece_used_later : f.far ≡ Some far → IsDirectionFrom c side f far d → IsBackedWhile c now f pieces acks d → now ≤ later → IsInUse now f → (death : ℕ) (p : Piece) → pieces death p → later ≤ death → IsInUse later f
  piece_used_later known from b le used death p x alive =
      let dies = cloud_dies c side f far now (Guarded (IsInUse now f) pieces) (Guarded (IsInUse now f) acks) d from b in
      let lt = dies.pieces_die death p (used, x) (omega arith) in
      let more = both_later now later f.asker.ended far.ended le in
      record { far = far; known = known; unrested = not_over f.rest later death f.asker.ended far.ended (omega arith) alive }

  pub ack_used_later : f.far ≡ Some far → IsDirectionFrom c side f far d → IsBackedWhile c now f pieces acks d → now ≤ later → IsInUse now f → (death : ℕ) (k : Ack) → acks death k → later ≤ death → IsInUse later f
  ack_used_later known from b le used death k x alive =
      let dies = cloud_dies c side f far now (Guarded (IsInUse now f) pieces) (Guarded (IsInUse now f) acks) d from b in
      let lt = dies.acks_die death k (used, x) (omega arith) in
      let more = both_later now later f.asker.ended far.ended le in
      record { far = far; known = known; unrested = not_over f.rest later death f.asker.ended far.ended (omega arith) alive }

-- What the PDUs of a cloud say is covered where they are

pub naming_covers : (of_flow : Pdu → Type 0) (now : ℕ) (cloud cloud' : ℕ → Pdu → Type 0) → Covers now cloud cloud' → Covers now (Naming of_flow cloud) (Naming of_flow cloud')
naming_covers of_flow now cloud cloud' covers death four x alive =
    let old = covers death x.pdu x.in_cloud alive in
    (old.0, old.1, record { pdu = x.pdu; in_cloud = old.2; flow = x.flow; is = x.is })

pub naming_covers_but : (of_flow : Pdu → Type 0) (now : ℕ) (cloud cloud' : ℕ → Pdu → Type 0) (made : Pdu → Type 0) (sent : Four → Type 0) (life : ℕ) → ((pdu : Pdu) → of_flow pdu → made pdu → sent (four_in pdu)) → CoversBut now cloud made life cloud' → CoversBut now (Naming of_flow cloud) sent life (Naming of_flow cloud')
naming_covers_but of_flow now cloud cloud' made sent life goes covers death four x alive = elim (covers death x.pdu x.in_cloud alive) [
  | inl old ↦ inl (old.0, old.1, record { pdu = x.pdu; in_cloud = old.2; flow = x.flow; is = x.is })
  | inr new ↦
      (let P : Four → Type 0 = λ z. sent z in
      inr (subst P x.is (goes x.pdu x.flow new.0), new.1))
]
