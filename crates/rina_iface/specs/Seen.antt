-- What a contract sees of the facilities of one rank.
use Rattle.std.specs.Prelude.{◌≡◌, ℕ, ◌==◌, ◌&&◌, ◌||◌, not, nat_le, Bool, false, List, find, position, slice_get, slice_set, Option, Some, None, option_and_then, option_map}
use Rattle.std.specs.List.{list_any}
use Rattle.std.specs.Str.{bytes_eq}
use Rattle.rina_base.specs.declared.number.Port.{Port}
use Rattle.rina_cube.specs.declared.Kind.{Kind}
use Rattle.rina_cube.specs.declared.Want.{Want}
use Rattle.rina_cube.specs.Cubes.{is_ordered, is_reliable}
use Rattle.rina_law.specs.declared.entry.Entry.{Entry}
use Rattle.rina_iface.specs.declared.ask.Registered.{Registered}
use Rattle.rina_iface.specs.declared.ends.End.{End}
use Rattle.rina_iface.specs.declared.state.PortState.{PortState}
use Rattle.rina_iface.specs.Ends.{end_in, place_in}

-- a cube that a facility offers; a wire offers one, which is of none of the kinds
pub record Offer : Type 0 where
  pub id : ℕ
  pub kind : Option Kind
  pub promise : ℕ  -- ticks from acceptance to delivery, at most
  pub largest : ℕ  -- bytes of an SDU, at most

-- one facility: a wire, or a DIF
pub record Fac : Type 0 where
  pub ends : List End  -- its journal
  pub waiting : List ℕ  -- the places of the far ends that nobody has claimed yet, the oldest first
  pub names : List Registered  -- the applications that are registered, each with its node
  pub members : List ℕ  -- the nodes that have a place in it
  pub cubes : List Offer
  pub admits : ℕ  -- how many fixed flows a node may have

-- the facilities of one rank, and the clock
pub record Seen : Type 0 where
  pub now : ℕ
  pub facs : List Fac

-- the end of a port; none where the port was never drawn
abbrev pub end_of : Seen → Port → Option End
end_of s port = option_and_then (λ (f : Fac). end_in port f.ends) (slice_get s.facs port.fac)

abbrev pub state_of : Seen → Port → Option PortState
state_of s port = option_map (λ (e : End). e.state) (end_of s port)

-- the oldest entry that was not passed yet
abbrev pub unpassed : Seen → Port → Option Entry
unpassed s port = option_and_then (λ (e : End). slice_get e.got e.taken) (end_of s port)

-- the cube of this id
abbrev pub cube_in : List Offer → ℕ → Option Offer
cube_in cubes id = find (λ (c : Offer). c.id == id) cubes

-- the cube of a port's end; none where the port was never drawn
abbrev pub cube_at : Seen → Port → Option Offer
cube_at s port = option_and_then (λ (f : Fac). option_and_then (λ (e : End). cube_in f.cubes e.cube) (end_in port f.ends)) (slice_get s.facs port.fac)

abbrev pub promise_at : Seen → Port → Option ℕ
promise_at s port = option_map (λ (c : Offer). c.promise) (cube_at s port)

abbrev pub largest_at : Seen → Port → Option ℕ
largest_at s port = option_map (λ (c : Offer). c.largest) (cube_at s port)

-- a flow of this kind is in order; a wire's is not
abbrev pub orders : Option Kind → Bool
orders None = false
orders (Some kind) = is_ordered kind

-- a flow of this kind has no gap; a wire's may
abbrev pub resends : Option Kind → Bool
resends None = false
resends (Some kind) = is_reliable kind

-- a cube meets a wish
unfoldable pub meets : Want → Offer → Bool
meets want c = (not want.ordered || orders c.kind) && (not want.reliable || resends c.kind) && nat_le c.promise want.within && nat_le want.size c.largest

-- the first cube that meets a wish
abbrev pub offered : List Offer → Want → Option Offer
offered cubes want = find (meets want) cubes

-- the node has a place here
abbrev pub is_member : List ℕ → ℕ → Bool
is_member members node = list_any (λ m. m == node) members

-- the application is registered at that node
abbrev pub is_registered : List Registered → ℕ → List ℕ → Bool
is_registered names node app = list_any (λ (r : Registered). (r.node == node) && bytes_eq r.app app) names

-- the end at that place is one of this application at this node
abbrev pub is_of : ℕ → List ℕ → Option End → Bool
is_of node app None = false
is_of node app (Some e) = (e.port.node == node) && bytes_eq e.app app

-- where among those that wait the oldest far end of an application at a node stands
abbrev pub oldest_in : List End → List ℕ → ℕ → List ℕ → Option ℕ
oldest_in ends waiting node app = position (λ i. is_of node app (slice_get ends i)) waiting

-- the facilities with this one in the place of another
abbrev pub with_fac : Seen → ℕ → Fac → Seen
with_fac s n f = record s { facs = slice_set s.facs n f }

-- the facility with this end in the place of another
abbrev pub with_end : Fac → ℕ → End → Fac
with_end f i e = record f { ends = slice_set f.ends i e }

-- the end of this port stands at place i of facility f
pub record Stands (s : Seen) (port : Port) (f : Fac) (i : ℕ) (e : End) : Type 0 where
  pub facility : slice_get s.facs port.fac ≡ Some f
  pub place : place_in port f.ends ≡ Some i
  pub is : slice_get f.ends i ≡ Some e
