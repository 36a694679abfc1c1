-- What becomes of the frames of a run: each that no event touched, and that its wire's storm neither lost nor repeated, arrives once.
use Rattle.std.specs.Prelude.{◌≡◌, ◌≢◌, ◌⊎◌, ℕ, ◌+◌, ◌<◌, ◌≤◌, ◌==◌, List, [], ◌∷◌, filter, take, slice_get, Option, Some, None, Ok}
use Rattle.rina_base.specs.declared.number.Num.{Num}
use Rattle.rina_base.specs.declared.number.Port.{Port}
use Rattle.rina_iface.specs.declared.state.PortState.TheVariants.{Allocated}
use Rattle.rina_draws.specs.declared.storm.Fate.TheVariants.{Sent}
use Rattle.rina_data.specs.declared.step.ClockStep.TheVariants.{GaveUp}
use Rattle.rina_law.specs.declared.entry.Entry.{Entry}
use Rattle.rina_iface.specs.declared.ends.End.{End}
use Rattle.rina_iface.specs.Journal.{At}
use Rattle.rina_policy.specs.Slots.{Slot}
use Rattle.rina_report.specs.declared.note.Note.{Note}
use Rattle.rina_schedule.specs.declared.event.Event.{Event}
use Rattle.rina_schedule.specs.declared.event.Event.TheVariants as events
use Rattle.rina_stack.specs.declared.plan.Plan.{Plan}
use Rattle.rina_wire.specs.Air.{Air, Line, wire_at}
use Rattle.rina_wire.specs.Claim.{ClaimsOn}
use Rattle.rina_wire.specs.Free.{FreesOn}
use Rattle.rina_wire.specs.Send.{mate}
use Rattle.rina_wire.specs.Storm.{fate_at}
use Rattle.rina_wire.specs.declared.flight.Flight.{Flight}
use Rattle.rina_tower.specs.declared.tower.Tower.{Tower, Wires, Rank'}
use Rattle.rina_tower.specs.Ranks.{now_of}
use Rattle.rina_tower.specs.Steps.{ClocksAt}
use Rattle.rina_words.specs.declared.run.Run.{Run}
use Rattle.rina_schedule.specs.Line.{line_at}
use Rattle.rina_notes.specs.Look.{same_num, state_at}
use Rattle.rina_run.specs.Opening.{IsOpening}
use Rattle.rina_run.specs.Run.{Runs}
use Rattle.rina_notes.specs.Sites.{port_in}
use Rattle.rina_words.specs.Step.{Stage, wire_of}
use Rattle.rina_laws.specs.SomeStep.{SomeStep}

-- the entries of this number, in their order
abbrev pub of_number : Num → List Entry → List Entry
of_number num entries = filter (λ (x : Entry). same_num x.num num) entries

-- the copies of this frame, in their order
abbrev pub copies_of : ℕ → List Flight → List Flight
copies_of frame flights = filter (λ (f : Flight). f.frame == frame) flights

-- exactly one of these entries has the number of the frame: it came so many ticks after the frame was sent, with its bytes
abbrev pub CameOnce : ℕ → Entry → List Entry → Type 0
CameOnce after frame got = of_number frame.num got ≡ record { tick = frame.tick + after; num = frame.num; bytes = frame.bytes } ∷ []

-- exactly one copy of the frame is in flight: it goes to the end at this place, arrives so many ticks after the frame was sent, and has its bytes
abbrev pub FliesOnce : ℕ → ℕ → Entry → List Flight → Type 0
FliesOnce after to frame flights = copies_of frame.num.seq flights ≡ record { to = to; frame = frame.num.seq; sent = frame.tick; due = frame.tick + after; bytes = frame.bytes } ∷ []

-- a frame that the end at place i sent, and that arrives so many ticks after: where the clock has reached that tick the other end got it once, and else it is in flight and did not come yet
pub record IsCarried (after now : ℕ) (l : Line) (i : ℕ) (frame : Entry) : Type 0 where
  pub other : End
  pub stands : At l.ends (mate i) other
  pub came : frame.tick + after ≤ now → CameOnce after frame other.got
  pub landed : frame.tick + after ≤ now → copies_of frame.num.seq l.flights ≡ []
  pub flies : now < frame.tick + after → FliesOnce after (mate i) frame l.flights
  pub not_come : now < frame.tick + after → of_number frame.num other.got ≡ []

-- the wires that a tower stands on
abbrev pub wires_of : Tower → Air
wires_of (Wires a) = a
wires_of (Rank' p difs below) = wires_of below

-- a copy of the frame is in flight on this wire
pub record IsInFlight (t : Tower) (fac frame : ℕ) : Type 0 where
  pub line : Line
  pub wire : wire_at (wires_of t) fac ≡ Some line
  pub flies : copies_of frame line.flights ≢ []

-- the port is one of this wire, and allocated; the wires are at rank 0
abbrev pub IsOpenPort : Option (ℕ × Port) → ℕ → Tower → Type 0
IsOpenPort None fac t = ⊥
IsOpenPort (Some p) fac t = (p.0 ≡ 0) × (p.1.fac ≡ fac) × (state_at t 0 p.1 ≡ Some Allocated)

-- what is done in this run touches frame `frame` of wire `fac`: an event of that wire names the frame, or while it is in flight the wire is cut, or the flow that it carries is freed
abbrev pub Touches : Plan → ℕ → ℕ → Run → Event → Type 0
Touches plan fac frame w (events.Lose wire k) = (wire_of plan wire ≡ Some fac) × (k ≡ frame)
Touches plan fac frame w (events.Repeat wire k at) = (wire_of plan wire ≡ Some fac) × (k ≡ frame)
Touches plan fac frame w (events.Hold wire k at) = (wire_of plan wire ≡ Some fac) × (k ≡ frame)
Touches plan fac frame w (events.Cut wire) = (wire_of plan wire ≡ Some fac) × IsInFlight w.tower fac frame
Touches plan fac frame w (events.Free label) = IsOpenPort (port_in w.labels label) fac w.tower × IsInFlight w.tower fac frame
Touches plan fac frame w event = ⊥

-- no line touches the frame in the run to which the lines before it led from the start
abbrev pub IsSpared : Plan → Stage → ℕ → ℕ → List (List ℕ) → Type 0
IsSpared plan start fac frame lines =
    (before : ℕ) (line : List ℕ) (event : Event) (ns : List Note) (s : Stage) → slice_get lines before ≡ Some line → line_at line ≡ Ok (Some event)
    → Runs plan 1 start (take before lines) ns s → Touches plan fac frame s.run event → ⊥

-- wires before they were asked for a flow that came in, and after it: on one of them the oldest far end that waited for an application at a node was claimed, or
-- nothing changed
abbrev pub AreAsked : Air → Air → Type 0
AreAsked a asked = (asked ≡ a) ⊎ ((wire : ℕ) × (node : ℕ) × (app : List ℕ) × (port : Port) × ClaimsOn a wire node app (Some port) asked)

-- a step takes frame `frame` of wire `fac` away: it is the step by the clock of a DIF of rank 1 in which a management connection gives a number up, which
-- is told with the CEP-id 0. The wires may be asked first for a flow that came in; then the step frees the flow that the wire carries while the frame is in flight
pub record GivesUpOn (fac frame : ℕ) (t t' : Tower) : Type 0 where
  pub dif : ℕ
  pub node : ℕ
  pub num : Num
  pub management : num.cep ≡ 0
  pub does : ClocksAt 1 dif node (Ok (GaveUp num)) t t'
  pub port : Port
  pub its_wire : port.fac ≡ fac
  pub allocated : state_at t 0 port ≡ Some Allocated
  pub asked : Air
  pub asks : AreAsked (wires_of t) asked
  pub frees : FreesOn asked port (Ok tt) (wires_of t')
  pub flies : IsInFlight t fac frame

-- in every run of a stack, every frame that any end of any wire sent, be it an application's or a DIF's, and that the wire's storm lets arrive once, is carried, unless a line
-- touched it, or a step took it away in which a management connection gave up: it arrives when the delay of the wire has gone by, and the ticks by which the storm makes it late.
-- Without a storm each frame arrives once, and is not late
abbrev pub FramesArriveOnce : Type 0
FramesArriveOnce =
    (plan : Plan) (shelf : List Slot) (start : Stage) (lines : List (List ℕ)) (ns : List Note) (s : Stage) → IsOpening plan shelf start → (runs : Runs plan 1 start lines ns s)
    → (fac : ℕ) (l : Line) → wire_at (wires_of s.run.tower) fac ≡ Some l → (i j : ℕ) (e : End) (frame : Entry) → At l.ends i e → slice_get e.sent j ≡ Some frame
    → (late : ℕ) → fate_at l.storm frame.num.seq ≡ Sent late None → IsSpared plan start fac frame.num.seq lines → (SomeStep (GivesUpOn fac frame.num.seq) plan 1 start lines ns s runs → ⊥)
    → IsCarried (l.delay + late) (now_of s.run.tower) l i frame

-- the wires before such a step and after it: of the wire no copy is left in flight, and each of its ends sent and got what it had; no other wire changed, but that
-- a far end may have been claimed on one
pub record IsEmptied (fac : ℕ) (a a' : Air) : Type 0 where
  pub before : Line
  pub was : wire_at a fac ≡ Some before
  pub after : Line
  pub is : wire_at a' fac ≡ Some after
  pub none : after.flights ≡ []
  pub ends : (i : ℕ) (e e' : End) → At before.ends i e → At after.ends i e' → (e'.sent ≡ e.sent) × (e'.got ≡ e.got)
  pub asked : Air
  pub asks : AreAsked a asked
  pub others : (other : ℕ) → other ≢ fac → wire_at a' other ≡ wire_at asked other

-- a step in which a management connection gives up takes all frames away that are in flight on the wire of its link, and no other one
abbrev pub GiveUpsEmptyOneWire : Type 0
GiveUpsEmptyOneWire = (fac frame : ℕ) (t t' : Tower) → GivesUpOn fac frame t t' → IsEmptied fac (wires_of t) (wires_of t')
