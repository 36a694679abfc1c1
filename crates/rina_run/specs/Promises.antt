-- What holds of each DIF of the tower that a run returns, at every rank.
use Rattle.std.specs.Prelude.{◌≡◌, ℕ, List, slice_get, Some}
use Rattle.rina_cube.specs.Cubes.{promise_of}
use Rattle.rina_iface.specs.declared.ends.End.{End}
use Rattle.rina_iface.specs.Journal.{At, IsPartner}
use Rattle.rina_iface.specs.Seen.{Seen}
use Rattle.rina_law.specs.Direction.{Direction}
use Rattle.rina_dif_law.specs.Accounted.{IsAccounted}
use Rattle.rina_dif_law.specs.Carried.{AreCarried}
use Rattle.rina_dif_law.specs.Caused.{AreCaused}
use Rattle.rina_dif_law.specs.Lawful.{AreLawful, IsLawfulFlow}
use Rattle.rina_dif_law.specs.Standing.{IsStanding}
use Rattle.rina_dif_law.specs.Written.{AreWrittenOff}
use Rattle.rina_data.specs.Configs.{config_of}
use Rattle.rina_flows.specs.Calls.{AreTied}
use Rattle.rina_channel.specs.Laws.{IsFront}
use Rattle.rina_channel.specs.LinkCloud.{LinkCloud}
use Rattle.rina_channel.specs.Names.{link_config, names_at}
use Rattle.rina_dif.specs.declared.dif.Dif.{Dif}
use Rattle.rina_dif.specs.Managing.{AreManaged}
use Rattle.rina_dif.specs.Routing.{HaveRoutes}
use Rattle.rina_dif.specs.Shown.{seen_of as seen_of_dif}
use Rattle.rina_tower.specs.declared.tower.Tower.{Tower, Wires, Rank'}
use Rattle.rina_tower.specs.Ranks.{seen_of}

-- this holds of each DIF of each rank, over what the rank below shows
abbrev pub OfEachDif : (Dif → Seen → Type 0) → Tower → Type 0
OfEachDif Promise (Wires a) = Unit {0}
OfEachDif Promise (Rank' p difs below) = ((n : ℕ) (d : Dif) → slice_get difs n ≡ Some d → Promise d (seen_of below)) × OfEachDif Promise below

-- whatever its ends got has come to their IPC processes from the rank below, piece by piece
abbrev pub IsCarriedBy : Dif → Seen → Type 0
IsCarriedBy d below = AreCarried (seen_of_dif d) below

-- and so at every rank
abbrev pub CarriesAll : Tower → Type 0
CarriesAll = OfEachDif IsCarriedBy

-- each connection of a flow has the state of the direction in which its end sends, and each of these directions is lawful
abbrev pub AreFlowsLawful : Dif → Seen → Type 0
AreFlowsLawful d below = (lines : List Direction) × AreTied (config_of d.settings) d.clock d.flows lines × AreLawful (seen_of_dif d) lines below

-- and so has each management connection of a link, with its messages as SDUs: the direction from an end of a link to the other is lawful for
-- ever, since no id of it ever rests, and what came to the other end are the first messages that this one offered
pub record AreLinksLawful (d : Dif) (below : Seen) : Type 0 where
  pub links : List Direction
  pub tied : AreTied (link_config (config_of d.settings) d.connections.manage) d.clock d.connections.flows links
  pub each : (i k : ℕ) (end partner : End) (line : Direction) → At d.connections.flows.journal.ends i end → At d.connections.flows.journal.ends k partner → IsPartner end partner → slice_get links i ≡ Some line
      → IsLawfulFlow (link_config (config_of d.settings) d.connections.manage) d.clock (LinkCloud (config_of d.settings) d.connections.channels (seen_of_dif d).processes below) (Unit {0}) end partner (names_at i k) line
  pub kept : (i k : ℕ) (end partner : End) → At d.connections.flows.journal.ends i end → At d.connections.flows.journal.ends k partner → IsPartner partner end → IsFront (promise_of d.connections.manage) partner.sent end.got

abbrev pub IsLawfulIn : Dif → Seen → Type 0
IsLawfulIn d below = AreFlowsLawful d below × AreLinksLawful d below

abbrev pub LawfulAll : Tower → Type 0
LawfulAll = OfEachDif IsLawfulIn

-- each IPC process is in account for each key of a PDU, where these are the directions that stand behind its flows
abbrev pub IsInAccount : Dif → Seen → Type 0
IsInAccount d below = (lines : List Direction) × IsStanding (seen_of_dif d) lines below × IsAccounted (seen_of_dif d) lines below

abbrev pub AccountsAll : Tower → Type 0
AccountsAll = OfEachDif IsInAccount

-- each end of a flow that has failed did so for its cause: it gave up a number whose answer was too late to come, or the
-- flow below its IPC process has failed
abbrev pub IsCausedIn : Dif → Seen → Type 0
IsCausedIn d below = AreCaused (seen_of_dif d) below

abbrev pub CausesAll : Tower → Type 0
CausesAll = OfEachDif IsCausedIn

-- each line of each ledger says what is true of it: its cause is one that its own values, the settings of the DIF, its
-- connections, its links and its clock bear out
abbrev pub IsWrittenOffIn : Dif → Seen → Type 0
IsWrittenOffIn d below = AreWrittenOff (seen_of_dif d)

abbrev pub WriteOffsAll : Tower → Type 0
WriteOffsAll = OfEachDif IsWrittenOffIn

-- the next hop of each IPC process to each other member is the least number of a link on a least walk, over its links that are up, with known
-- neighbours, and the edges that both ends claim in the items of its management. In a static DIF those links are its live ones: those of the plan,
-- and behind them those that enrolments made
abbrev pub IsRoutedIn : Dif → Seen → Type 0
IsRoutedIn d below = HaveRoutes d.laid.is_static d.settings.members d.laid.links d.processes d.managements

abbrev pub RoutesAll : Tower → Type 0
RoutesAll = OfEachDif IsRoutedIn

-- the management of each member knows the links of its IPC process: it has one for each that is live, and its items claim from its own
-- address those that are up, with known neighbours, and no others, which in a static DIF are the live ones: those of the plan, and behind them
-- those that enrolments made; and the next hops of the IPC process are over the items that its management holds
abbrev pub IsManagedIn : Dif → Seen → Type 0
IsManagedIn d below = AreManaged d

abbrev pub ItemsAll : Tower → Type 0
ItemsAll = OfEachDif IsManagedIn
