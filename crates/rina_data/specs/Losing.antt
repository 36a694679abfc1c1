-- How an IPC process loses a link.
use Rattle.std.specs.Prelude.{◌≡◌, ℕ, ◌≤◌, ◌==◌, nat_le, true, false, List, [], ◌++◌, map, slice_get, slice_set, Option, Some, None, if◌then◌else◌}
use Rattle.std.specs.List.{flat_map}
use Rattle.rina_account.specs.declared.ledger.Off.{Off}
use Rattle.rina_base.specs.declared.cause.Cause.TheVariants.{LinkDown}
use Rattle.rina_base.specs.declared.number.Port.{Port}
use Rattle.rina_iface.specs.declared.state.PortState.{PortState}
use Rattle.rina_iface.specs.declared.state.PortState.TheVariants.{Closed, Failed, Refused}
use Rattle.rina_iface.specs.Seen.{Seen, state_of}
use Rattle.rina_queue.specs.declared.queue.Queued.{Queued}
use Rattle.rina_data.specs.declared.link.Link.{Link}
use Rattle.rina_data.specs.declared.link.Route.{Route}
use Rattle.rina_data.specs.declared.loss.Lost.{Lost}
use Rattle.rina_data.specs.Process.{Process, Queue}
use Rattle.rina_data.specs.Queueing.{line_for}

-- Which link is lost

-- the flow of a link was refused, has failed, or was closed
abbrev pub IsNoMore : Option PortState → Type 0
IsNoMore (Some (Refused why)) = Unit {0}
IsNoMore (Some (Failed fail)) = Unit {0}
IsNoMore (Some Closed) = Unit {0}
IsNoMore other = ⊥

-- a live link whose flow was refused, has failed, or was closed
pub record IsLost (links : List Link) (below : Seen) (place : ℕ) (link : Link) : Type 0 where
  pub stands : slice_get links place ≡ Some link
  pub live : link.live ≡ true
  pub no_more : IsNoMore (state_of below link.port)

-- there is none
abbrev pub NoneLost : List Link → Seen → Type 0
NoneLost links below = (place : ℕ) (link : Link) → IsLost links below place link → ⊥

-- of those the one of the least number
pub record IsLostFirst (links : List Link) (below : Seen) (place : ℕ) (link : Link) : Type 0 where
  pub lost : IsLost links below place link
  pub least : (other : ℕ) (its : Link) → IsLost links below other its → link.number ≤ its.number

-- it is found, or there is none
abbrev pub FindsLost : List Link → Seen → Option Lost → Type 0
FindsLost links below None = NoneLost links below
FindsLost links below (Some lost) = (link : Link) × IsLostFirst links below lost.place link × (lost.number ≡ link.number)

-- of two links the one of the lesser number
abbrev pub lesser : Option Lost → Lost → Lost
lesser None other = other
lesser (Some first) other = if nat_le first.number other.number then first else other

-- What changes of the IPC process

-- the line of a PDU that waited for the link
abbrev pub line_down : Port → Queued → Off
line_down port item = line_for item.pdu (LinkDown port)

-- the lines of those in a queue, where it is one for the link
abbrev pub lines_down : Link → Queue → List Off
lines_down link q = if q.link == link.number then map (line_down link.port) q.items else []

-- the queue without them
abbrev pub without_items : Link → Queue → Queue
without_items link q = if q.link == link.number then record q { items = [] } else q

-- the link is no longer used, its PDUs are written off queue by queue, the first that came first, and there are these
-- next hops
abbrev pub without_link : ℕ → Link → List Route → Process → Process
without_link place link routes p = record {
  links = slice_set p.links place (record link { live = false });
  routes = routes;
  queues = map (without_items link) p.queues;
  ledger = p.ledger ++ flat_map (lines_down link) p.queues;
}

-- it loses the link at a place
abbrev pub LosesAt : ℕ → List Route → Process → Process → Type 0
LosesAt place routes p p' = (link : Link) → slice_get p.links place ≡ Some link → p' ≡ without_link place link routes p
