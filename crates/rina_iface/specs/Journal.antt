-- What the flows of a facility keep.
use Rattle.std.specs.Prelude.{◌≡◌, ◌≢◌, ℕ, ◌≤◌, All, List, [], length, slice_get, Option, Some, None}
use Rattle.rina_cube.specs.declared.Kind.{Kind}
use Rattle.rina_law.specs.declared.entry.Entry.{Entry}
use Rattle.rina_law.specs.Journal.{Born, Keeps}
use Rattle.rina_iface.specs.declared.ends.End.{End}
use Rattle.rina_iface.specs.declared.state.Role.TheVariants.{Far}
use Rattle.rina_iface.specs.Ends.{drawn_at}
use Rattle.rina_iface.specs.Seen.{Fac, Offer, Seen, cube_in}

-- this end stands at place i
abbrev pub At : List End → ℕ → End → Type 0
At ends i e = slice_get ends i ≡ Some e

-- the other end of a flow has its name, and the other role
pub record IsPartner (e other : End) : Type 0 where
  pub same_flow : other.flow ≡ e.flow
  pub other_role : other.role ≢ e.role

-- an end whose partner stands among these ends
pub record HasPartner (ends : List End) (e : End) : Type 0 where
  pub place : ℕ
  pub other : End
  pub stands : At ends place other
  pub partner : IsPartner e other

-- what a direction of a flow keeps, by the kind of its cube: on a wire each SDU was sent, and came in time
abbrev pub KeepsBy : Option Kind → ℕ → List Entry → List Entry → Type 0
KeepsBy None promise sent got = Born promise sent got
KeepsBy (Some kind) promise sent got = Keeps kind promise sent got

-- what an end got of its partner is kept as the cube of the flow says, which the facility offers
pub record KeepsCube (f : Fac) (e other : End) : Type 0 where
  pub cube : Offer
  pub offer : cube_in f.cubes e.cube ≡ Some cube
  pub keeps : KeepsBy cube.kind cube.promise other.sent e.got

-- two partners have each other's application as peer, and the same cube
pub record IsNamed (e other : End) : Type 0 where
  pub peer : e.peer ≡ other.app
  pub its_peer : other.peer ≡ e.app
  pub cube : other.cube ≡ e.cube

-- ticks never fall along a list, and are at most the clock
pub record IsDated (now : ℕ) (entries : List Entry) : Type 0 where
  pub rises : (i k : ℕ) (e f : Entry) → i ≤ k → slice_get entries i ≡ Some e → slice_get entries k ≡ Some f → e.tick ≤ f.tick
  pub past : (i : ℕ) (e : Entry) → slice_get entries i ≡ Some e → e.tick ≤ now

-- what one end shows of itself
pub record IsWhole (now : ℕ) (e : End) : Type 0 where
  pub sent : IsDated now e.sent
  pub got : IsDated now e.got
  pub taken : e.taken ≤ length e.got

-- a facility is kept: a flow has one asker and one far end, no far end is alone, what an end got is kept as the flow's cube says, and one that is alone got nothing
pub record IsKept (now : ℕ) (f : Fac) : Type 0 where
  pub distinct : (i k : ℕ) (a b : End) → At f.ends i a → At f.ends k b → a.flow ≡ b.flow → a.role ≡ b.role → i ≡ k
  pub far : (i : ℕ) (e : End) → At f.ends i e → e.role ≡ Far → HasPartner f.ends e
  pub keeps : (i k : ℕ) (e other : End) → At f.ends i e → At f.ends k other → IsPartner e other → KeepsCube f e other
  pub named : (i k : ℕ) (e other : End) → At f.ends i e → At f.ends k other → IsPartner e other → IsNamed e other
  pub alone : (i : ℕ) (e : End) → At f.ends i e → (HasPartner f.ends e → ⊥) → e.got ≡ []
  pub whole : (i : ℕ) (e : End) → At f.ends i e → IsWhole now e

-- the ports of facility n: each is its own, no two ends have one, and at a node they are numbered as they were drawn
pub record HasPorts (n : ℕ) (f : Fac) : Type 0 where
  pub own : (i : ℕ) (e : End) → At f.ends i e → e.port.fac ≡ n
  pub apart : (i k : ℕ) (a b : End) → At f.ends i a → At f.ends k b → a.port ≡ b.port → i ≡ k
  pub drawn : (i : ℕ) (e : End) → At f.ends i e → e.port.n ≤ drawn_at e.port.node f.ends

-- no cube of a facility promises more than 2,000,000 ticks
abbrev pub Promises : Fac → Type 0
Promises f = All (λ (cube : Offer). cube.promise ≤ 2000000) f.cubes

-- what holds of the facilities of a rank at every moment
pub record AreKept (s : Seen) : Type 0 where
  pub kept : (n : ℕ) (f : Fac) → slice_get s.facs n ≡ Some f → IsKept s.now f
  pub ports : (n : ℕ) (f : Fac) → slice_get s.facs n ≡ Some f → HasPorts n f
  pub promises : (n : ℕ) (f : Fac) → slice_get s.facs n ≡ Some f → Promises f
