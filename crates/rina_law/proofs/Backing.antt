-- Each step of a layer is a row of the direction that stands behind its cloud.
use Rattle.std.proofs.Common.{◌≡◌, ℕ, ◌+◌, ◌-◌, ◌≤◌, List, true, refl, sym, ◌∙◌, subst, arith, inl, inr, Some, None}
use Rattle.rina_cube.specs.Cubes.{IsCube}
use Rattle.rina_law.specs.Backed.{IsIn, IsBacked, Covers, CoversBut}
use Rattle.rina_law.specs.Constants.{Constants}
use Rattle.rina_law.specs.Direction.{Direction, start, Time, Pass, Forget, offer_refusal, accepted_offer, has_room, after_arrival, right_of, is_ack_due, after_ack, happens, May}
use Rattle.rina_law.specs.DirectionHolds.{DirectionHolds}
use Rattle.rina_law.specs.Line.{InFlight, arrival_verdict, again, told, acknowledge}
use Rattle.rina_law.specs.Lists.{In}
use Rattle.rina_law.specs.Pieces.{Part, IsCut}
use Rattle.rina_law.specs.Receiver.{Piece, is_present, next_of}
use Rattle.rina_law.specs.Sender.{Ack, is_absent, started, pieces_for, again_due, piece_again}
use Rattle.rina_law.proofs.Agreeing.{direction_time, direction_again, direction_told, direction_ack}
use Rattle.rina_law.proofs.Coming.{direction_arrive}
use Rattle.rina_law.proofs.Making.{offered_clock, offered_acks, offered_still, offered_made}
use Rattle.rina_law.proofs.Offering.{direction_offer}
use Rattle.rina_law.proofs.Suffices.{start_holds, row_holds}

-- what was covered is in the list still, and what was made is in it now
in_after : {P : Type 0} → (now : ℕ) (cloud cloud' : ℕ → P → Type 0) (made : P → Type 0) (life : ℕ) (list list' : List (InFlight P)) → CoversBut now cloud made life cloud' → ((death : ℕ) (p : P) → cloud death p → now ≤ death → IsIn list death p) → ((q : InFlight P) → In q list → In q list') → ((p : P) → made p → In (record { pdu = p; death = life }) list') → (death : ℕ) (p : P) → cloud' death p → now ≤ death → IsIn list' death p
in_after now cloud cloud' made life list list' covers bound still new death p x alive = elim (covers death p x alive) [
  | inl old ↦
      (let le = old.1 in
      let b = bound old.0 p old.2 (omega arith) in
      let low = b.3 in
      (b.0, still b.0 b.1, b.2, omega arith))
  | inr fresh ↦ (record { pdu = p; death = life }, new p fresh.0, refl, fresh.1)
]

nothing : {P : Type 0} → (now : ℕ) (cloud cloud' : ℕ → P → Type 0) (life : ℕ) → Covers now cloud cloud' → CoversBut now cloud (λ p. ⊥) life cloud'
nothing now cloud cloud' life covers death p x alive = inl (covers death p x alive)

bound_covered : {P : Type 0} → (now : ℕ) (cloud cloud' : ℕ → P → Type 0) (list : List (InFlight P)) → Covers now cloud cloud' → ((death : ℕ) (p : P) → cloud death p → now ≤ death → IsIn list death p) → (death : ℕ) (p : P) → cloud' death p → now ≤ death → IsIn list death p
bound_covered now cloud cloud' list covers bound death p x alive =
    let old = covers death p x alive in
    let le = old.1 in
    let b = bound old.0 p old.2 (omega arith) in
    let low = b.3 in
    (b.0, b.1, b.2, omega arith)

module _ (c : Constants) (pieces pieces' : ℕ → Piece → Type 0) (acks acks' : ℕ → Ack → Type 0) (d : Direction) where
  -- time goes on: relaying, a hop, a write-off, a pass below
  pub time_backed : (now later : ℕ) → now ≤ later → Covers later pieces pieces' → Covers later acks acks' → IsBacked c now pieces acks d → IsBacked c later pieces' acks' (happens c d (Time (later - now)))
  time_backed now later le covers covers_acks h = record {
    holds = direction_time c d (later - now) h.holds;
    clock = (let clock = h.clock in omega arith);
    pieces_in = bound_covered later pieces pieces' d.line.pieces covers (λ death p x alive. h.pieces_in death p x (omega arith));
    acks_in = bound_covered later acks acks' d.line.acks covers_acks (λ death p x alive. h.acks_in death p x (omega arith));
  }

  -- a row that leaves what is in flight, and the clock
  pub row_backed : (now : ℕ) (d' : Direction) → DirectionHolds c d' → d'.line.clock ≡ d.line.clock → d'.line.pieces ≡ d.line.pieces → d'.line.acks ≡ d.line.acks → Covers now pieces pieces' → Covers now acks acks' → IsBacked c now pieces acks d → IsBacked c now pieces' acks' d'
  row_backed now d' holds clock same same_acks covers covers_acks h =
      let P : List (InFlight Piece) → Type 0 = λ list. (death : ℕ) (p : Piece) → pieces' death p → now ≤ death → IsIn list death p in
      let Q : List (InFlight Ack) → Type 0 = λ list. (death : ℕ) (k : Ack) → acks' death k → now ≤ death → IsIn list death k in
      record {
        holds = holds;
        clock = clock ∙ h.clock;
        pieces_in = subst P (sym same) (bound_covered now pieces pieces' d.line.pieces covers h.pieces_in);
        acks_in = subst Q (sym same_acks) (bound_covered now acks acks' d.line.acks covers_acks h.acks_in);
      }

  -- a piece of the cloud arrives
  pub arrive_backed : (now death : ℕ) (p : Piece) → IsCube c.cube → pieces death p → now ≤ death → Covers now pieces pieces' → Covers now acks acks' → IsBacked c now pieces acks d →
      IsBacked c now pieces' acks' (after_arrival (arrival_verdict c d.line p (has_room c d)) (is_present c d.line.clock d.line.receiver) c p d)
  arrive_backed now death p cube x alive covers covers_acks h =
      let q = h.pieces_in death p x alive in
      let low = q.3 in
      let clock = h.clock in
      let P : Piece → Type 0 = λ z. DirectionHolds c (after_arrival (arrival_verdict c d.line z (has_room c d)) (is_present c d.line.clock d.line.receiver) c z d) in
      row_backed now (after_arrival (arrival_verdict c d.line p (has_room c d)) (is_present c d.line.clock d.line.receiver) c p d)
      (subst P q.2 (direction_arrive c d q.0 cube h.holds q.1 (omega arith))) refl refl refl covers covers_acks h

  -- an acknowledgement of the cloud arrives
  pub told_backed : (now death : ℕ) (k : Ack) → acks death k → now ≤ death → Covers now pieces pieces' → Covers now acks acks' → IsBacked c now pieces acks d →
      IsBacked c now pieces' acks' (record d { line = told k d.line })
  told_backed now death k x alive covers covers_acks h =
      let q = h.acks_in death k x alive in
      let low = q.3 in
      let clock = h.clock in
      let P : Ack → Type 0 = λ z. DirectionHolds c (record d { line = told z d.line }) in
      row_backed now (record d { line = told k d.line }) (subst P q.2 (direction_told c d q.0 h.holds q.1 (omega arith))) refl refl refl covers covers_acks h

  -- an SDU that is not refused: its pieces are made, and live for `mpl` ticks
  pub offer_backed : (now : ℕ) (parts : List Part) → IsCube c.cube → IsCut c.piece true parts → offer_refusal c d parts ≡ None →
      CoversBut now pieces (λ p. In p (pieces_for c d.line.clock parts (started (is_absent c d.line.clock d.line.sender) c d.line.sender))) (now + c.cube.mpl) pieces' → Covers now acks acks' → IsBacked c now pieces acks d →
      IsBacked c now pieces' acks' (accepted_offer c (is_absent c d.line.clock d.line.sender) parts d)
  offer_backed now parts cube cut ok covers covers_acks h =
      let clock = h.clock in
      let Q : List (InFlight Ack) → Type 0 = λ list. (death : ℕ) (k : Ack) → acks' death k → now ≤ death → IsIn list death k in
      let e : d.line.clock + c.cube.mpl ≡ now + c.cube.mpl = omega arith in
      record {
        holds = direction_offer c d parts None ok cube h.holds cut;
        clock = offered_clock c parts d.line ∙ clock;
        pieces_in = in_after now pieces pieces' _ (now + c.cube.mpl) d.line.pieces _ covers h.pieces_in (λ q i. offered_still c parts d.line q i)
            (λ p made. subst (λ (n : ℕ). In (record { pdu = p; death = n }) ((accepted_offer c (is_absent c d.line.clock d.line.sender) parts d).line.pieces)) e (offered_made c parts d.line p made));
        acks_in = subst Q (sym (offered_acks c parts d.line)) (bound_covered now acks acks' d.line.acks covers_acks h.acks_in);
      }

  -- a number that is due is sent again
  pub again_backed : (now n : ℕ) → again_due c d.line.clock d.line.sender ≡ Some n → CoversBut now pieces (λ p. p ≡ piece_again n d.line.sender) (now + c.cube.mpl) pieces' → Covers now acks acks' → IsBacked c now pieces acks d →
      IsBacked c now pieces' acks' (record d { line = again c n d.line })
  again_backed now n due covers covers_acks h =
      let clock = h.clock in
      let e : d.line.clock + c.cube.mpl ≡ now + c.cube.mpl = omega arith in
      record {
        holds = direction_again c d (Some n) due h.holds;
        clock = clock;
        pieces_in = in_after now pieces pieces' _ (now + c.cube.mpl) d.line.pieces ((again c n d.line).pieces) covers h.pieces_in (λ q i. inr i) (λ p made. inl (rw (made, e) refl));
        acks_in = bound_covered now acks acks' d.line.acks covers_acks h.acks_in;
      }

  -- an acknowledgement that is due is made
  pub ack_backed : (now : ℕ) → IsCube c.cube → is_ack_due c d ≡ true → Covers now pieces pieces' → CoversBut now acks (λ k. k ≡ record { ack = next_of d.line.receiver - 1; right = right_of c d }) (now + c.cube.mpl) acks' → IsBacked c now pieces acks d →
      IsBacked c now pieces' acks' (after_ack true c d)
  ack_backed now cube due covers covers_acks h =
      let clock = h.clock in
      let e : d.line.clock + c.cube.mpl ≡ now + c.cube.mpl = omega arith in
      record {
        holds = direction_ack c d true due cube h.holds;
        clock = clock;
        pieces_in = bound_covered now pieces pieces' d.line.pieces covers h.pieces_in;
        acks_in = in_after now acks acks' _ (now + c.cube.mpl) d.line.acks ((acknowledge c (right_of c d) d.line).acks) covers_acks h.acks_in (λ q i. inr i) (λ k made. inl (rw (made, e) refl));
      }

  -- an SDU is passed to the application; an absent state gives up what it holds
  pub pass_backed : (now : ℕ) → IsCube c.cube → May c d Pass → Covers now pieces pieces' → Covers now acks acks' → IsBacked c now pieces acks d → IsBacked c now pieces' acks' (happens c d Pass)
  pass_backed now cube may covers covers_acks h = row_backed now (happens c d Pass) (row_holds c d Pass cube h.holds may) refl refl refl covers covers_acks h

  pub forget_backed : (now : ℕ) → IsCube c.cube → May c d Forget → Covers now pieces pieces' → Covers now acks acks' → IsBacked c now pieces acks d → IsBacked c now pieces' acks' (happens c d Forget)
  forget_backed now cube may covers covers_acks h = row_backed now (happens c d Forget) (row_holds c d Forget cube h.holds may) refl refl refl covers covers_acks h

-- a direction that starts at any tick stands behind a cloud that has nothing alive
pub start_backed : (c : Constants) (now : ℕ) (pieces : ℕ → Piece → Type 0) (acks : ℕ → Ack → Type 0) → IsCube c.cube → ((death : ℕ) (p : Piece) → pieces death p → now ≤ death → ⊥) → ((death : ℕ) (k : Ack) → acks death k → now ≤ death → ⊥) → IsBacked c now pieces acks (happens c (start c) (Time now))
start_backed c now pieces acks cube none none_acks = record {
  holds = direction_time c (start c) now (start_holds c cube);
  clock = omega arith;
  pieces_in = λ death p x alive. absurd (none death p x alive);
  acks_in = λ death k x alive. absurd (none_acks death k x alive);
}
