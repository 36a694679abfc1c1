-- The laws of flooding, over all runs from a start.
use Rattle.std.specs.Prelude.{◌≡◌, ℕ, ◌<◌, ◌^◌, ◌⊎◌, true, false, List, ◌∷◌, find, Some, None, Contains, MatchOption, Ok, []}
use Rattle.rina_enrol.specs.declared.message.LinkMessage.TheVariants as messages
use Rattle.rina_newest.specs.declared.item.Item.{Item}
use Rattle.rina_newest.specs.Newest.{is_below, is_newer, kept_at, value_at, IsNewest}
use Rattle.rina_agent.specs.declared.agent.Agent.{Agent}
use Rattle.rina_agent.specs.Agenda.{waiting_on}
use Rattle.rina_agent.specs.Enrolled.{IsAtLeast}
use Rattle.rina_agent.specs.Enrolments.{is_numbered}
use Rattle.rina_agent.specs.Items.{took}
use Rattle.rina_agent.specs.Neighbours.{link_key, link_state}
use Rattle.rina_agent.specs.Rows.{handled, was_up}
use Rattle.rina_flood.specs.Network.{Side, Near, Far, other, Network, Row, Make, Know, Lose, joins, has_link, stands, on_way, happens, May, IsRun, after_rows, IsStart}

-- an item of the same key that is at least as new stands in a list
pub record IsComing (items : List Item) (x : Item) : Type 0 where
  pub item : Item
  pub among : Contains items item
  pub same : item.key ≡ x.key
  pub least : is_below item.version x.version ≡ false

-- What a direction owes: of each key that its sender keeps, the other end keeps an item at least as new, or one is on its way there
abbrev pub Owes : Network → ℕ → Side → Type 0
Owes n l d = (key : List ℕ) (x : Item) → kept_at (n.agents (n.ends l d)).items key ≡ Some x → IsAtLeast (n.agents (n.ends l (other d))).items x ⊎ IsComing (on_way n l d) x

abbrev pub DirectionsOwe : Type 0
DirectionsOwe = (n : Network) (told : List Item) (rows : List Row) (l : ℕ) (d : Side) → IsStart n told → IsRun n rows → stands (after_rows n rows) l d ≡ true → Owes (after_rows n rows) l d

-- an item that is on its way was made, and its sender keeps one at least as new
pub record IsTold (n : Network) (l : ℕ) (d : Side) (x : Item) : Type 0 where
  pub made : Contains n.made x
  pub kept : IsAtLeast (n.agents (n.ends l d)).items x

abbrev pub OnlyMadeIsSent : Type 0
OnlyMadeIsSent = (n : Network) (told : List Item) (rows : List Row) (l : ℕ) (d : Side) (x : Item) → IsStart n told → IsRun n rows → Contains (on_way (after_rows n rows) l d) x → IsTold (after_rows n rows) l d x

-- a walk over links that are up at both ends, and on which no item is on its way: from a member, along directions, to a member
abbrev pub IsQuietWalk : Network → ℕ → List (ℕ × Side) → ℕ → Type 0
IsQuietWalk n i [] j = i ≡ j
IsQuietWalk n i (step ∷ steps) j = (n.ends step.0 step.1 ≡ i) × (joins n step.0 ≡ true) × (on_way n step.0 Near ≡ []) × (on_way n step.0 Far ≡ []) × IsQuietWalk n (n.ends step.0 (other step.1)) steps j

-- quiet is equal: what the members at the ends of such a walk keep is the same, key by key
abbrev pub QuietIsEqual : Type 0
QuietIsEqual = (n : Network) (told : List Item) (rows : List Row) (i j : ℕ) (steps : List (ℕ × Side)) (key : List ℕ) → IsStart n told → IsRun n rows → IsQuietWalk (after_rows n rows) i steps j
    → kept_at ((after_rows n rows).agents i).items key ≡ kept_at ((after_rows n rows).agents j).items key

-- each member keeps of each key the newest item of all that it made or was offered, and nothing where there was none
abbrev pub NewestIsKept : Type 0
NewestIsKept = (n : Network) (told : List Item) (rows : List Row) (i : ℕ) (key : List ℕ) → IsStart n told → IsRun n rows
    → MatchOption (kept_at ((after_rows n rows).agents i).items key) ((x : Item) → Contains ((after_rows n rows).offered i) x → x.key ≡ key → ⊥) (IsNewest ((after_rows n rows).offered i) key)

-- so two members that were offered the same items keep the same, in whatever order and however often these came
abbrev pub OrderIsNothing : Type 0
OrderIsNothing = (n : Network) (told : List Item) (rows : List Row) (i j : ℕ) (key : List ℕ) → IsStart n told → IsRun n rows
    → ((x : Item) → Contains ((after_rows n rows).offered i) x → Contains ((after_rows n rows).offered j) x)
    → ((x : Item) → Contains ((after_rows n rows).offered j) x → Contains ((after_rows n rows).offered i) x)
    → kept_at ((after_rows n rows).agents i).items key ≡ kept_at ((after_rows n rows).agents j).items key

-- an item that came, as a flood or in an enrolment, and is not newer than what is kept, changes nothing, so that no flood follows
abbrev pub OlderIsNothing : Type 0
OlderIsNothing = (a : Agent) (now link : ℕ) (x : Item) → is_newer x.version (kept_at a.items x.key) ≡ false → (handled a now link (messages.Flood x) ≡ Ok a) × (handled a now link (messages.Item x) ≡ Ok a)

-- a flood is not sent back to the link that it came on
abbrev pub NotBack : Type 0
NotBack = (a : Agent) (link : ℕ) (x : Item) → waiting_on link (took link a x).agenda ≡ waiting_on link a.agenda

-- nobody makes an item of its own under the key of a member's link state, nor is one known at once: it is made where a link of the member
-- comes up, and where the member loses one that is up
abbrev pub LeavesLinkState : ℕ → Row → Type 0
LeavesLinkState address (Make i key value) = key ≡ link_key address → ⊥
LeavesLinkState address (Know x) = x.key ≡ link_key address → ⊥
LeavesLinkState address other = Unit {0}

abbrev pub AllLeaveLinkState : ℕ → List Row → Type 0
AllLeaveLinkState address [] = Unit {0}
AllLeaveLinkState address (row ∷ rows) = LeavesLinkState address row × AllLeaveLinkState address rows

-- a member keeps its own link state, made by itself, which names its links that are up
pub record TellsLinks (n : Network) (i : ℕ) : Type 0 where
  pub own : value_at (n.agents i).items (link_key i) ≡ Some (link_state None (n.agents i).links)
  pub by_itself : (x : Item) → Contains n.made x → x.key ≡ link_key i → x.version.origin ≡ i

-- no link of a member is up, and nobody made its link state
pub record TellsNone (n : Network) (i : ℕ) : Type 0 where
  pub down : (number : ℕ) → was_up (find (is_numbered number) (n.agents i).links) ≡ false
  pub unmade : (x : Item) → Contains n.made x → x.key ≡ link_key i → ⊥

-- where all is quiet, each member that a walk joins to another keeps that one's link state as its links are now. So nobody there keeps one
-- that names a lost link. A member that told none at the start has told its links once one of them is up, as on a walk that is not empty
abbrev pub QuietTellsLinks : Type 0
QuietTellsLinks = (n : Network) (told : List Item) (rows : List Row) (i j : ℕ) (steps : List (ℕ × Side)) → IsStart n told → IsRun n rows → i < 2 ^ 32 → TellsLinks n i ⊎ (TellsNone n i × (steps ≡ [] → ⊥)) → AllLeaveLinkState i rows
    → IsQuietWalk (after_rows n rows) i steps j → value_at ((after_rows n rows).agents j).items (link_key i) ≡ Some (link_state None ((after_rows n rows).agents i).links)

-- a lost link is no link of its member from then on, whichever numbers other links get
abbrev pub LostIsGone : Type 0
LostIsGone = (n : Network) (told : List Item) (before rows : List Row) (l : ℕ) (d : Side) (number : ℕ) → IsStart n told → IsRun n before → May (after_rows n before) (Lose l d number) → IsRun (happens (after_rows n before) (Lose l d number)) rows
    → has_link (after_rows (happens (after_rows n before) (Lose l d number)) rows) l d ≡ false
