-- Enrolled, over all runs of a network from a start: what a joiner keeps when STOP was handled.
use Rattle.std.specs.Prelude.{◌≡◌, ℕ, true, List, ◌∷◌, ◌++◌, Some, []}
use Rattle.rina_enrol.specs.declared.message.LinkMessage.TheVariants as messages
use Rattle.rina_newest.specs.declared.item.Item.{Item}
use Rattle.rina_newest.specs.Newest.{kept_at}
use Rattle.rina_agent.specs.declared.message.ManagementMessage.{ManagementMessage}
use Rattle.rina_agent.specs.declared.message.ManagementMessage.TheVariants.{ToNeighbour}
use Rattle.rina_agent.specs.Enrolled.{IsAtLeast}
use Rattle.rina_flood.specs.Network.{Side, Near, Far, other, Network, has_link, Row, Handle, Drop, IsRun, after_rows, IsStart}

-- no message that was sent on a link is lost, as some may be once an end has lost the link
abbrev pub LosesNone : ℕ → Row → Type 0
LosesNone l (Drop link side left) = link ≡ l → ⊥
LosesNone l other = Unit {0}

-- so in each of some rows
abbrev pub AllLoseNone : ℕ → List Row → Type 0
AllLoseNone l [] = Unit {0}
AllLoseNone l (row ∷ rows) = LosesNone l row × AllLoseNone l rows

-- the member at the other end of a link from the joiner handles START
abbrev pub start_row : ℕ → Side → ℕ → ℕ → ℕ → List ManagementMessage → Row
start_row l joiner number invoke address rest = Handle l joiner number (ToNeighbour (messages.Start invoke address)) rest

-- the joiner handles STOP, which comes from that end
abbrev pub stop_row : ℕ → Side → ℕ → ℕ → List ManagementMessage → Row
stop_row l joiner number invoke rest = Handle l (other joiner) number (ToNeighbour (messages.Stop invoke)) rest

-- Where a member handles START, and the joiner handles STOP on the same link later, as in the step in which it is enrolled: of each key of
-- which the member kept an item as START came, the joiner keeps that item or a newer one once STOP was handled. That an end refuses START or
-- STOP is no exception. A proviso is on the rows before STOP
abbrev pub EnrolledHasAll : (Network → List Row → ℕ → Type 0) → Type 0
EnrolledHasAll Proviso = (n : Network) (told : List Item) (before between : List Row) (l : ℕ) (joiner : Side)
    (number invoke address : ℕ) (rest : List ManagementMessage) (number' invoke' : ℕ) (rest' : List ManagementMessage) (key : List ℕ) (x : Item)
    → IsStart n told → IsRun n (before ++ start_row l joiner number invoke address rest ∷ between ++ stop_row l joiner number' invoke' rest' ∷ [])
    → Proviso n (before ++ start_row l joiner number invoke address rest ∷ between) l
    → kept_at ((after_rows n before).agents ((after_rows n before).ends l (other joiner))).items key ≡ Some x
    → (let end = after_rows n (before ++ start_row l joiner number invoke address rest ∷ between ++ stop_row l joiner number' invoke' rest' ∷ []) in IsAtLeast (end.agents (end.ends l joiner)).items x)

-- no message of the link was lost
abbrev pub NoneIsLost : Network → List Row → ℕ → Type 0
NoneIsLost n rows l = AllLoseNone l rows

-- both ends have the link as STOP comes
abbrev pub BothHaveLink : Network → List Row → ℕ → Type 0
BothHaveLink n rows l = (has_link (after_rows n rows) l Near ≡ true) × (has_link (after_rows n rows) l Far ≡ true)
