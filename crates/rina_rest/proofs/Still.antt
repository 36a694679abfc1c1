-- Once the sender's id has rested, nothing of its direction is in flight.
use Rattle.std.proofs.Common.{◌≡◌, ℕ, ◌+◌, ◌*◌, ◌≤◌, List, [], ◌∷◌, Bool, true, false, refl, sym, ◌∙◌, subst, arith, Option, Some, None}
use Rattle.rina_cube.specs.declared.Cube.{Cube}
use Rattle.rina_cube.specs.declared.Kind.{Kind}
use Rattle.rina_cube.specs.declared.Kind.TheVariants.{Reliable}
use Rattle.rina_cube.specs.Cubes.{IsCube, IsTimed}
use Rattle.rina_law.specs.Backed.{IsBacked}
use Rattle.rina_law.specs.Constants.{Constants, delta}
use Rattle.rina_law.specs.Direction.{Direction, start, Row, Time, Offer, Again, Arrive, Acknowledge, Control, Cloud, Pass, Forget, is_ack_due, after_ack, offer_refusal, after_offer, after_again, happens, IsRun, after}
use Rattle.rina_law.specs.DirectionHolds.{DirectionHolds}
use Rattle.rina_law.specs.Line.{Line, begun, put, put_all}
use Rattle.rina_law.specs.Pieces.{Part}
use Rattle.rina_law.specs.Receiver.{Piece}
use Rattle.rina_law.specs.Sender.{Ack, Refusal, is_absent, again_due}
use Rattle.rina_law.proofs.Backing.{start_backed}
use Rattle.rina_law.proofs.Quiet.{quiet_from}
use Rattle.rina_law.proofs.Standing.{absent_from}
use Rattle.rina_law.proofs.Suffices.{run_holds}
use Rattle.rina_rest.specs.Flows.{RestedBy, both_ended}
use Rattle.rina_rest.specs.Still.{rest_of, IsStill, HasEnded, MakesNone, AllMakeNone, DrawnIsStill, DiesBy, CloudDiesBy, IsUntaken, IsBySender, AllBySender}

-- a reliable cube sends again
resends : (c : Cube) → IsCube c → c.kind ≡ Reliable → 1 ≤ c.r
resends c cube e =
    let P : Kind → Type 0 = λ k. IsTimed k c in
    let x : (1 ≤ c.retry) × (c.retry ≤ c.r) = subst P e cube.times in
    let retry = x.0 in let r = x.1 in omega arith

pub ended_dies : (c : Constants) (d : Direction) (at : ℕ) → IsCube c.cube → DirectionHolds c d → HasEnded d at → DiesBy c (at + rest_of c) d
ended_dies c d at cube h ended =
    let lives = cube.least_mpl in
    record {
      pieces = λ p alive. (let o = (h.core.line.pieces p alive.0 alive.1).out in omega arith);
      acks = λ k alive. (let x = h.core.line.acks k alive.0 alive.1 in let o = x.out in let r = resends c.cube cube x.reliable in omega arith);
    }

pub standing_dies : (c : Constants) (d : Direction) → IsCube c.cube → DirectionHolds c d → DiesBy c (d.line.clock + rest_of c) d
standing_dies c d cube h = ended_dies c d d.line.clock cube h h.core.line.sender.out

pub ended_still : (c : Constants) (d : Direction) (at : ℕ) → IsCube c.cube → DirectionHolds c d → HasEnded d at → at + rest_of c ≤ d.line.clock → IsStill c d
ended_still c d at cube h ended late =
    let dies = ended_dies c d at cube h ended in
    let lives = cube.least_mpl in
    record {
      pieces = λ p alive. (let lt = dies.pieces p alive in let le = alive.1 in absurd (omega arith));
      acks = λ k alive. (let lt = dies.acks k alive in let le = alive.1 in absurd (omega arith));
      receiver = absent_from c d.line.clock d.line.receiver (λ made. (let o = h.core.line.receiver.out made in omega arith));
    }

pub unused_still : (c : Constants) (d : Direction) → IsCube c.cube → DirectionHolds c d → d.line.sender.run ≡ [] → IsStill c d
unused_still c d cube h none =
    let P : List _ → Type 0 = λ run. is_absent c d.line.clock (record d.line.sender { run = run }) ≡ true in
    let quiet = quiet_from c d.line cube h.core.line (subst P (sym none) refl) in
    record { pieces = λ p alive. quiet.pieces p alive.0 alive.1; acks = λ k alive. quiet.acks k alive.0 alive.1; receiver = quiet.absent }

-- an id that is free has rested, so that the end that had it ended as long ago as it rests
ended_by : (rest now : ℕ) (e : Option ℕ) → RestedBy rest now e → (t : ℕ) × (e ≡ Some t) × (t + rest ≤ now)
ended_by rest now None r = absurd r
ended_by rest now (Some t) r = (t, refl, r)

pub drawn_still : DrawnIsStill rest_of
drawn_still c d flows i f side e cube h at is rest ended free =
    let t = ended_by f.rest d.line.clock e.ended (free i f side e at is refl refl) in
    let late = t.2 in
    ended_still c d (t.0) cube h (ended (t.0) (t.1)) (omega arith)

-- no less would do: the receiver's state may stand until `last_in + 2 * delta`, which is at most `last_out + mpl + 2 * delta`
pub least_still : DrawnIsStill (λ c. 2 * delta c + c.cube.mpl)
least_still c d flows i f side e cube h at is rest ended free =
    let t = ended_by f.rest d.line.clock e.ended (free i f side e at is refl refl) in
    let late = t.2 in
    let last = ended (t.0) (t.1) in
    let lives = cube.least_mpl in
    record {
      pieces = λ p alive. (let o = (h.core.line.pieces p alive.0 alive.1).out in let le = alive.1 in absurd (omega arith));
      acks = λ k alive. (let x = h.core.line.acks k alive.0 alive.1 in let o = x.out in let r = resends c.cube cube x.reliable in let le = alive.1 in absurd (omega arith));
      receiver = absent_from c d.line.clock d.line.receiver (λ made. (let o = h.core.line.receiver.out made in omega arith));
    }

-- a row that makes none leaves the tick at which a piece was last made

ack_leaves : (c : Constants) (d : Direction) (due : _) → (after_ack due c d).line.sender.last_out ≡ d.line.sender.last_out
ack_leaves c d true = refl
ack_leaves c d false = refl

pub row_leaves : (c : Constants) (d : Direction) (row : Row) → MakesNone row → (happens c d row).line.sender.last_out ≡ d.line.sender.last_out
row_leaves c d (Time ticks) none = refl
row_leaves c d (Offer parts) none = absurd none
row_leaves c d Again none = absurd none
row_leaves c d (Arrive p) none = refl
row_leaves c d Acknowledge none = ack_leaves c d (is_ack_due c d)
row_leaves c d (Control k) none = refl
row_leaves c d (Cloud pieces acks) none = refl
row_leaves c d Pass none = refl
row_leaves c d Forget none = refl

pub rows_leave : (c : Constants) (d : Direction) (rows : List Row) → AllMakeNone rows → (after c d rows).line.sender.last_out ≡ d.line.sender.last_out
rows_leave c d [] none = refl
rows_leave c d (row ∷ rows) none = rows_leave c (happens c d row) rows none.1 ∙ row_leaves c d row none.0

pub rest_still : (c : Constants) (d : Direction) (rows : List Row) → IsCube c.cube → DirectionHolds c d → IsRun c d rows → AllMakeNone rows → d.line.clock + rest_of c ≤ (after c d rows).line.clock → IsStill c (after c d rows)
rest_still c d rows cube h run none late =
    let same = rows_leave c d rows none in
    let past = h.core.line.sender.out in
    ended_still c (after c d rows) d.line.clock cube (run_holds c d rows cube h run) (omega arith) late

-- Of a layer's part of the cloud

pub backed_dies : (c : Constants) (now : ℕ) (pieces : ℕ → Piece → Type 0) (acks : ℕ → Ack → Type 0) (d : Direction) (at : ℕ) → IsCube c.cube → IsBacked c now pieces acks d → HasEnded d at → CloudDiesBy now (at + rest_of c) pieces acks
backed_dies c now pieces acks d at cube b ended =
    let dies = ended_dies c d at cube b.holds ended in
    let clock = b.clock in
    record {
      pieces_die = λ death p x alive. (let q = b.pieces_in death p x alive in let le = q.3 in let lt = dies.pieces q.0 (q.1, omega arith) in omega arith);
      acks_die = λ death k x alive. (let q = b.acks_in death k x alive in let le = q.3 in let lt = dies.acks q.0 (q.1, omega arith) in omega arith);
    }

pub rest_fresh : (c e : Constants) (now : ℕ) (pieces : ℕ → Piece → Type 0) (acks : ℕ → Ack → Type 0) (d : Direction) (at : ℕ) → IsCube c.cube → IsCube e.cube → IsBacked c now pieces acks d → HasEnded d at → at + rest_of c ≤ now → IsBacked e now pieces acks (happens e (start e) (Time now))
rest_fresh c e now pieces acks d at cube cube' b ended late =
    let dies = backed_dies c now pieces acks d at cube b ended in
    start_backed e now pieces acks cube' (λ death p x alive. (let lt = dies.pieces_die death p x alive in absurd (omega arith))) (λ death k x alive. (let lt = dies.acks_die death k x alive in absurd (omega arith)))

-- With the ticks at which the ends ended

dies_later : (c : Constants) (d : Direction) (until later : ℕ) → until ≤ later → DiesBy c until d → DiesBy c later d
dies_later c d until later le dies = record { pieces = λ p alive. (let lt = dies.pieces p alive in omega arith); acks = λ k alive. (let lt = dies.acks k alive in omega arith) }

-- the sender made its last piece no later than the connection's ends
last_before : (now last : ℕ) (s t : Option ℕ) → last ≤ now → ((at : ℕ) → s ≡ Some at → last ≤ at) → last ≤ both_ended now s t
last_before now last None t le ended = le
last_before now last (Some a) None le ended = le
last_before now last (Some a) (Some b) le ended = (let x = ended a refl in omega arith)

last_before_too : (now last : ℕ) (s t : Option ℕ) → last ≤ now → ((at : ℕ) → s ≡ Some at → last ≤ at) → last ≤ both_ended now t s
last_before_too now last s None le ended = le
last_before_too now last None (Some b) le ended = le
last_before_too now last (Some a) (Some b) le ended = (let x = ended a refl in omega arith)

pub dies_in_use : (c : Constants) (d : Direction) (sender other : Option ℕ) → IsCube c.cube → DirectionHolds c d → ((t : ℕ) → sender ≡ Some t → HasEnded d t) → DiesBy c (both_ended d.line.clock sender other + rest_of c) d × DiesBy c (both_ended d.line.clock other sender + rest_of c) d
dies_in_use c d sender other cube h ended =
    let last = d.line.sender.last_out in
    let past = h.core.line.sender.out in (
      ended_dies c d (both_ended d.line.clock sender other) cube h (last_before d.line.clock last sender other past ended),
      ended_dies c d (both_ended d.line.clock other sender) cube h (last_before_too d.line.clock last sender other past ended),
    )

-- A receiving end that was never made

begun_receiver : (begins : Bool) (c : Constants) (line : Line) → (begun begins c line).receiver ≡ line.receiver
begun_receiver true c line = refl
begun_receiver false c line = refl

put_receiver : (c : Constants) (parts : List Part) (line : Line) → (put_all c parts line).receiver ≡ line.receiver
put_receiver c [] line = refl
put_receiver c (part ∷ parts) line = put_receiver c parts (put c part line)

pub offer_untaken : (c : Constants) (d : Direction) (parts : List Part) (r : Option Refusal) → IsUntaken c d → IsUntaken c (after_offer r c parts d)
offer_untaken c d parts (Some r) u = u
offer_untaken c d parts None u = record { receiver = put_receiver c parts (begun (is_absent c d.line.clock d.line.sender) c d.line) ∙ begun_receiver (is_absent c d.line.clock d.line.sender) c d.line ∙ u.receiver; inbox = u.inbox; passed = u.passed; mark = u.mark }

pub again_untaken : (c : Constants) (d : Direction) (n : Option ℕ) → IsUntaken c d → IsUntaken c (after_again n c d)
again_untaken c d None u = u
again_untaken c d (Some n) u = record { receiver = u.receiver; inbox = u.inbox; passed = u.passed; mark = u.mark }

row_untaken : (c : Constants) (d : Direction) (row : Row) → IsUntaken c d → IsBySender row → IsUntaken c (happens c d row)
row_untaken c d (Time ticks) u by = record { receiver = u.receiver; inbox = u.inbox; passed = u.passed; mark = u.mark }
row_untaken c d (Offer parts) u by = offer_untaken c d parts (offer_refusal c d parts) u
row_untaken c d Again u by = again_untaken c d (again_due c d.line.clock d.line.sender) u
row_untaken c d (Cloud pieces acks) u by = record { receiver = u.receiver; inbox = u.inbox; passed = u.passed; mark = u.mark }
row_untaken c d (Arrive p) u by = absurd by
row_untaken c d Acknowledge u by = absurd by
row_untaken c d (Control k) u by = absurd by
row_untaken c d Pass u by = absurd by
row_untaken c d Forget u by = absurd by

pub untaken_stays : (c : Constants) (d : Direction) (rows : List Row) → IsUntaken c d → AllBySender rows → IsUntaken c (after c d rows)
untaken_stays c d [] u by = u
untaken_stays c d (row ∷ rows) u by = untaken_stays c (happens c d row) rows (row_untaken c d row u by.0) by.1
