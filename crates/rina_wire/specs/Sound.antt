-- What holds of wires at every moment.
use Rattle.std.specs.Prelude.{◌≡◌, ◌≢◌, ℕ, ◌+◌, ◌*◌, ◌/◌, ◌%◌, ◌<◌, ◌≤◌, ◌==◌, All, Bool, true, false, List, ◌∷◌, [], length, slice_get, Some, if◌then◌else◌}
use Rattle.rina_law.specs.declared.entry.Entry.{Entry}
use Rattle.rina_law.specs.Journal.{Born}
use Rattle.rina_iface.specs.declared.ends.End.{End}
use Rattle.rina_iface.specs.declared.state.Fail.TheVariants.{Cut}
use Rattle.rina_iface.specs.declared.state.PortState.{PortState}
use Rattle.rina_iface.specs.declared.state.PortState.TheVariants.{Allocated, Closed, Failed}
use Rattle.rina_iface.specs.declared.state.Role.{Role}
use Rattle.rina_iface.specs.declared.state.Role.TheVariants.{Asker, Far}
use Rattle.rina_iface.specs.Ends.{drawn_at}
use Rattle.rina_iface.specs.Journal.{AreKept, At, IsWhole}
use Rattle.rina_iface.specs.Seen.{is_member}
use Rattle.rina_stack.specs.Ranges.{IsRangedStorm}
use Rattle.rina_stack.specs.Rules.{spread_of}
use Rattle.rina_wire.specs.declared.flight.Flight.{Flight}
use Rattle.rina_wire.specs.Air.{Air, Line, seen_of, wire_at}
use Rattle.rina_wire.specs.Send.{frame_number, mate}
use Rattle.rina_wire.specs.Storm.{draws_at}

-- what holds of a wire: no storm delays a frame beyond its life, and its generator has drawn for the frames that were sent, and for nothing else
pub record IsSoundLine (l : Line) : Type 0 where
  pub apart : l.a ≢ l.b
  pub least_delay : 1 ≤ l.delay
  pub arrives : l.delay + spread_of l.storm ≤ l.life
  pub life : l.life ≤ 100000
  pub largest : l.largest ≤ 65535
  pub storm : IsRangedStorm l.storm
  pub draws : l.draws ≡ draws_at l.storm l.frames
  pub cubes : All (λ (e : End). e.cube ≡ 0) l.ends
  pub drawn_a : drawn_at l.a l.ends ≡ l.flows
  pub drawn_b : drawn_at l.b l.ends ≡ l.flows

-- what never changes of a wire: its number, its two nodes, and how long a frame lives
pub record Site : Type 0 where
  pub fac : ℕ
  pub a : ℕ
  pub b : ℕ
  pub life : ℕ

abbrev pub site_of : ℕ → Line → Site
site_of fac l = record { fac = fac; a = l.a; b = l.b; life = l.life }

-- flow k of a wire has its asker at place 2k, and its far end at place 2k + 1
abbrev pub role_at : ℕ → Role
role_at i = if i % 2 == 0 then Asker else Far

-- the numbers of these entries are below the next frame's
abbrev pub AreBelow : ℕ → List Entry → Type 0
AreBelow frames entries = (j : ℕ) (x : Entry) → slice_get entries j ≡ Some x → x.num.seq < frames

-- an end of a wire is allocated from the start, until it is freed, or its wire is cut
abbrev pub IsWireState : ℕ → PortState → Type 0
IsWireState now Allocated = Unit {0}
IsWireState now Closed = Unit {0}
IsWireState now (Failed (Cut at)) = at ≤ now
IsWireState now state = ⊥

-- the end at place i, after so many frames
pub record IsSoundEnd (s : Site) (now frames i : ℕ) (e : End) : Type 0 where
  pub role : e.role ≡ role_at i
  pub flow : e.flow.count ≡ i / 2
  pub facility : e.port.fac ≡ s.fac
  pub number : e.port.n ≡ i / 2 + 1
  pub node : is_member (s.a ∷ s.b ∷ []) e.port.node ≡ true
  pub state : IsWireState now e.state
  pub whole : IsWhole now e
  pub sent : AreBelow frames e.sent
  pub got : AreBelow frames e.got

-- an end and the other end of its flow
pub record AreMates (s : Site) (e other : End) : Type 0 where
  pub flow : other.flow ≡ e.flow
  pub peer : other.peer ≡ e.app
  pub node : other.port.node ≢ e.port.node
  pub state : other.state ≡ e.state
  pub born : Born s.life other.sent e.got

-- no number stands twice in what the ends of a wire sent
abbrev pub HaveNumbers : List End → Type 0
HaveNumbers ends = (i k j m : ℕ) (a b : End) (x y : Entry) → At ends i a → At ends k b → slice_get a.sent j ≡ Some x → slice_get b.sent m ≡ Some y → x.num ≡ y.num → (i ≡ k) × (j ≡ m)

-- the ends of a wire
pub record AreSound (s : Site) (now frames : ℕ) (ends : List End) : Type 0 where
  pub each : (i : ℕ) (e : End) → At ends i e → IsSoundEnd s now frames i e
  pub mates : (i : ℕ) (e other : End) → At ends i e → At ends (mate i) other → AreMates s e other
  pub numbers : HaveNumbers ends

-- a copy in flight is of a frame that the other end of its flow sent, which is allocated still; it will arrive, and in time
pub record IsCopy (life now : ℕ) (ends : List End) (f : Flight) : Type 0 where
  pub sender : End
  pub stands : At ends (mate f.to) sender
  pub allocated : sender.state ≡ Allocated
  pub place : ℕ
  pub source : Entry
  pub is : slice_get sender.sent place ≡ Some source
  pub number : source.num ≡ frame_number f.frame
  pub bytes : f.bytes ≡ source.bytes
  pub since : f.sent ≡ source.tick
  pub sent : source.tick ≤ now
  pub waits : now < f.due
  pub in_time : f.due ≤ source.tick + life

-- the place of a far end, among so many ends
abbrev pub IsFarPlace : ℕ → ℕ → Type 0
IsFarPlace size place = (place % 2 ≡ 1) × (place < size)

-- what wire `fac` keeps of its flows; once an allocation has failed no copy will arrive
pub record KeepsFlows (now : ℕ) (failed : Bool) (fac : ℕ) (l : Line) : Type 0 where
  pub pairs : length l.ends ≡ 2 * l.flows
  pub sound : AreSound (site_of fac l) now l.frames l.ends
  pub waiting : All (IsFarPlace (length l.ends)) l.waiting
  pub copies : failed ≡ false → All (IsCopy l.life now l.ends) l.flights

pub record IsSound (a : Air) : Type 0 where
  pub clock : a.now ≤ 10000000
  pub lines : All IsSoundLine a.wires
  pub flows : (fac : ℕ) (l : Line) → wire_at a fac ≡ Some l → KeepsFlows a.now a.failed fac l
  pub kept : AreKept (seen_of a)
