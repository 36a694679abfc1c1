-- The laws of whole runs: what holds at the start holds after any rows.
use Rattle.std.proofs.Common.{◌≡◌, ℕ, ◌+◌, ◌-◌, ◌≤◌, List, [], ◌∷◌, refl, sym, subst, arith, Some}
use Rattle.std.proofs.lemmas.Bool.{false≢true}
use Rattle.rina_cube.specs.declared.Kind.{Kind}
use Rattle.rina_cube.specs.declared.Kind.TheVariants.{Datagram, Loose, Reliable}
use Rattle.rina_cube.specs.Cubes.{IsCube, promise_of}
use Rattle.rina_law.specs.Constants.{Constants}
use Rattle.rina_law.specs.Direction.{Direction, start, Row, Time, Offer, Again, Arrive, Acknowledge, Control, Cloud, Pass, Forget, offer_refusal, is_ack_due, happens, May, IsRun, after}
use Rattle.rina_law.specs.DirectionHolds.{ArePlaces, DirectionHolds}
use Rattle.rina_law.specs.Journal.{Keeps}
use Rattle.rina_law.specs.Lawful.{IsAlive, IsLawful, IsWelcome, IsAcknowledged, IsAbsentByClock, IsGivenUp}
use Rattle.rina_law.specs.Laws.{IsReached}
use Rattle.rina_law.specs.Line.{InFlight, IsCovered, opening}
use Rattle.rina_law.specs.LineHolds.{LineHolds}
use Rattle.rina_law.specs.Receiver.{Piece}
use Rattle.rina_law.specs.Sender.{Ack, again_due, given_up}
use Rattle.rina_law.proofs.Agreeing.{direction_time, direction_cloud, direction_again, direction_told, direction_passed, direction_ack}
use Rattle.rina_law.proofs.Coming.{direction_arrive, direction_forget}
use Rattle.rina_law.proofs.Keeping.{keeps_from}
use Rattle.rina_law.proofs.Lawfulness.{lawful_from, welcome_from, acknowledged_from, absent_by_clock, given_up_from}
use Rattle.rina_law.proofs.Offering.{direction_offer}
use Rattle.rina_law.proofs.Quiet.{shape_none}

-- each row

pub row_holds : (c : Constants) (d : Direction) (row : Row) → IsCube c.cube → DirectionHolds c d → May c d row → DirectionHolds c (happens c d row)
row_holds c d (Time ticks) cube h may = direction_time c d ticks h
row_holds c d (Offer parts) cube h may = direction_offer c d parts (offer_refusal c d parts) refl cube h may
row_holds c d Again cube h may = direction_again c d (again_due c d.line.clock d.line.sender) refl h
row_holds c d (Arrive p) cube h may = direction_arrive c d p cube h may.0 may.1
row_holds c d Acknowledge cube h may = direction_ack c d (is_ack_due c d) refl cube h
row_holds c d (Control k) cube h may = direction_told c d k h may.0 may.1
row_holds c d (Cloud pieces acks) cube h may = direction_cloud c d pieces acks h may.0 may.1
row_holds c d Pass cube h may = direction_passed c d h
row_holds c d Forget cube h may = direction_forget c d h may

-- the start

line_start : (c : Constants) → IsCube c.cube → LineHolds c (opening c)
line_start c cube = record {
  sender = record { out = omega arith; firsts = λ n lt. absurd (omega arith); rising = λ i k ik lt. absurd (omega arith) };
  pieces = λ p i alive. absurd i;
  receiver = record { past = omega arith; out = λ made. absurd (false≢true made); empty = λ e. refl };
  done = λ n i. absurd i;
  shape = shape_none c.cube.kind;
  gapless = λ e. record {
    next = λ b. absurd (false≢true b);
    some = λ b. absurd (false≢true b);
    held = λ b. absurd (false≢true b);
    drf = λ n lt. absurd (omega arith);
    acked = omega arith;
    right = (let w = cube.least_window in omega arith);
    window = omega arith;
  };
  acks = λ k i alive. absurd i;
}

places_none : (kind : Kind) → ArePlaces kind []
places_none Datagram = λ i k ik lt. absurd (omega arith)
places_none Loose = λ i k ik lt. absurd (omega arith)
places_none Reliable = λ i lt. absurd (omega arith)

pub start_holds : (c : Constants) → IsCube c.cube → DirectionHolds c (start c)
start_holds c cube = record {
  core = record {
    line = line_start c cube;
    run = record {
      begins = λ lt. absurd (omega arith);
      goes_on = λ n lt. absurd (omega arith);
      first = λ n lt. absurd (omega arith);
      drf = λ e n lt. absurd (omega arith);
      sized = λ n lt. absurd (omega arith);
      fits = λ n lt. absurd (omega arith);
      numbers = omega arith;
    };
    sent = record {
      none = λ e. refl;
      size = λ n e. absurd (omega arith);
      num = λ n lt. absurd (omega arith);
      tick = λ n lt. absurd (omega arith);
      bytes = λ n lt. absurd (omega arith);
      cep = λ j lt. absurd (omega arith);
      below = λ j b lt. absurd (omega arith);
      rising = λ j x b lt lt'. absurd (omega arith);
    };
    base = omega arith;
    since = omega arith;
    join = λ b. absurd (false≢true b);
    got = record { size = refl; is = λ i lt. absurd (omega arith); age = λ i lt. absurd (omega arith); known = λ i lt. absurd (omega arith); shape = places_none c.cube.kind };
    ticks = λ i lt. absurd (omega arith);
    count = λ e. refl;
    reach = λ e b. absurd (false≢true b);
  };
  closed = λ n e. absurd (omega arith);
}

-- and any rows after it

pub run_holds : (c : Constants) (d : Direction) (rows : List Row) → IsCube c.cube → DirectionHolds c d → IsRun c d rows → DirectionHolds c (after c d rows)
run_holds c d [] cube h run = h
run_holds c d (row ∷ rows) cube h run = run_holds c (happens c d row) rows cube (row_holds c d row cube h run.0) run.1

pub reached_holds : (c : Constants) (d : Direction) → IsReached c d → DirectionHolds c d
reached_holds c d r =
    let P : Direction → Type 0 = λ x. DirectionHolds c x in
    subst P (sym r.is) (run_holds c (start c) r.rows r.cube (start_holds c r.cube) r.run)

-- the cloud and the clock

pub cloud_law : (c : Constants) (d : Direction) (clock : ℕ) (pieces : List (InFlight Piece)) (acks : List (InFlight Ack)) → DirectionHolds c d → d.line.clock ≤ clock → IsCovered d.line.pieces pieces → IsCovered d.line.acks acks →
    DirectionHolds c (record d { line = record d.line { clock = clock; pieces = pieces; acks = acks } })
cloud_law c d clock pieces acks h later covers covers_acks =
    let is : d.line.clock + (clock - d.line.clock) ≡ clock = omega arith in
    let P : ℕ → Type 0 = λ n. DirectionHolds c (record d { line = record d.line { clock = n; pieces = pieces; acks = acks } }) in
    subst P is (direction_time c (record d { line = record d.line { pieces = pieces; acks = acks } }) (clock - d.line.clock) (direction_cloud c d pieces acks h covers covers_acks))

-- of what is reached

pub journals_kept : (c : Constants) (d : Direction) → IsReached c d → Keeps c.cube.kind (promise_of c.cube) d.sent d.inbox.got
journals_kept c d r = keeps_from c d r.cube (reached_holds c d r)

pub line_lawful : (c : Constants) (d : Direction) → IsReached c d → IsLawful c d
line_lawful c d r = lawful_from c d r.cube (reached_holds c d r)

pub arrivals_welcome : (c : Constants) (d : Direction) (p : InFlight Piece) → IsReached c d → IsAlive d.line d.line.pieces p → IsWelcome c d p.pdu
arrivals_welcome c d p r alive = welcome_from c d p r.cube (reached_holds c d r) alive

pub acks_mean : (c : Constants) (d : Direction) → IsReached c d → c.cube.kind ≡ Reliable → IsAcknowledged c d
acks_mean c d r e = acknowledged_from c d (reached_holds c d r) e

pub state_ends : (c : Constants) (d : Direction) → IsReached c d → IsAbsentByClock c d
state_ends c d r = absent_by_clock c d r.cube (reached_holds c d r)

pub given_up_late : (c : Constants) (d : Direction) (n : ℕ) → IsReached c d → given_up c d.line.clock d.line.sender ≡ Some n → IsGivenUp c d n
given_up_late c d n r e = given_up_from c d n (reached_holds c d r) e
