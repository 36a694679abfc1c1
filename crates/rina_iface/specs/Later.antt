-- How journals go on.
use Rattle.std.specs.Prelude.{◌≡◌, ℕ, ◌≤◌, List, [], ◌++◌, length, slice_get, Some}
use Rattle.rina_law.specs.declared.entry.Entry.{Entry}
use Rattle.rina_iface.specs.declared.ends.End.{End}
use Rattle.rina_iface.specs.declared.state.PortState.{PortState}
use Rattle.rina_iface.specs.declared.state.PortState.TheVariants.{Pending, Allocated, Failed, Closed}
use Rattle.rina_iface.specs.declared.state.Role.TheVariants.{Far}
use Rattle.rina_iface.specs.Journal.{At, IsNamed, IsPartner}
use Rattle.rina_iface.specs.Seen.{Fac, Seen}

-- a port moves from Pending to Allocated or Refused, and from Allocated to Failed or Closed; here it stayed, moved, or moved twice
abbrev pub Moves : PortState → PortState → Type 0
Moves Pending new = Unit {0}
Moves Allocated Allocated = Unit {0}
Moves Allocated (Failed fail) = Unit {0}
Moves Allocated Closed = Unit {0}
Moves old new = new ≡ old

-- a port that moved so was allocated at some time
abbrev pub WasAllocated : PortState → PortState → Type 0
WasAllocated Allocated new = Unit {0}
WasAllocated Pending Allocated = Unit {0}
WasAllocated Pending (Failed fail) = Unit {0}
WasAllocated Pending Closed = Unit {0}
WasAllocated old new = ⊥

-- the new list is the old one and entries behind it with ticks from the old clock to the new one
pub record Grows (before now : ℕ) (old new : List Entry) : Type 0 where
  pub more : List Entry
  pub is : new ≡ old ++ more
  pub dated : (i : ℕ) (e : Entry) → slice_get more i ≡ Some e → (before ≤ e.tick) × (e.tick ≤ now)

-- an end after some time
pub record IsLaterEnd (before now : ℕ) (old new : End) : Type 0 where
  pub flow : new.flow ≡ old.flow
  pub role : new.role ≡ old.role
  pub port : new.port ≡ old.port
  pub app : new.app ≡ old.app
  pub peer : new.peer ≡ old.peer
  pub cube : new.cube ≡ old.cube
  pub sent : Grows before now old.sent new.sent
  pub got : Grows before now old.got new.got
  pub taken : old.taken ≤ new.taken
  pub state : Moves old.state new.state
  pub only_allocated : (WasAllocated old.state new.state → ⊥) → new.got ≡ old.got

-- every old end stands in the same place, later
abbrev pub AreLater : ℕ → ℕ → List End → List End → Type 0
AreLater before now old new = (i : ℕ) (e : End) → At old i e → (e' : End) × At new i e' × IsLaterEnd before now e e'

-- a facility after some time offers what it offered
pub record IsLaterFac (before now : ℕ) (old new : Fac) : Type 0 where
  pub ends : AreLater before now old.ends new.ends
  pub cubes : new.cubes ≡ old.cubes

-- the facilities of a rank after some time: they are as many, each is later, and the clock has not fallen
pub record IsLater (old new : Seen) : Type 0 where
  pub clock : old.now ≤ new.now
  pub number : length new.facs ≡ length old.facs
  pub facs : (n : ℕ) (f : Fac) → slice_get old.facs n ≡ Some f → (f' : Fac) × (slice_get new.facs n ≡ Some f') × IsLaterFac old.now new.now f f'

-- the far end of a flow whose asker stands among these ends
pub record AnswersOne (ends : List End) (e : End) : Type 0 where
  pub place : ℕ
  pub asker : End
  pub stands : At ends place asker
  pub far : e.role ≡ Far
  pub partner : IsPartner e asker
  pub named : IsNamed e asker

-- such an end, at which nothing was sent or passed yet
pub record IsFarOf (ends : List End) (e : End) : Type 0 where
  pub answers : AnswersOne ends e
  pub sent : e.sent ≡ []
  pub taken : e.taken ≡ 0

-- each end that is new is such a far end
abbrev pub AreFarOf : List End → List End → Type 0
AreFarOf old new = (i : ℕ) (e : End) → At new i e → length old ≤ i → IsFarOf old e
