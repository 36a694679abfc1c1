-- What a tower that stands promises of each of its DIFs.
use Rattle.std.proofs.Common.{Option, Some, None, IfSome}
use Rattle.rina_iface.specs.Seen.{Seen}
use Rattle.rina_data.specs.Configs.{config_of}
use Rattle.rina_dif_law.proofs.Lawfully.{are_lawful}
use Rattle.rina_channel.proofs.Kept.{messages_are_kept, messages_are_lawful}
use Rattle.rina_dif.specs.declared.dif.Dif.{Dif}
use Rattle.rina_dif.specs.Shown.{seen_of as seen_of_dif}
use Rattle.rina_dif.specs.Connected.{channels_seen}
use Rattle.rina_dif.specs.Holding.{LinksStand, Stands}
use Rattle.rina_dif.proofs.Managed.{managed_routed}
use Rattle.rina_tower.specs.declared.tower.Tower.{Tower, Rank', Wires}
use Rattle.rina_tower.specs.Stands.{IsTower}
use Rattle.rina_run.specs.Promises.{AccountsAll, AreLinksLawful, CarriesAll, CausesAll, IsCarriedBy, IsCausedIn, IsInAccount, IsLawfulIn, IsManagedIn, IsRoutedIn, IsWrittenOffIn, ItemsAll, LawfulAll, OfEachDif, RoutesAll, WriteOffsAll}

-- what follows of a DIF that stands holds of each
of_each : (Promise : Dif → Seen → Type 0) → ((d : Dif) (below : Seen) → Stands d below → Promise d below) → (t : Tower) → IsTower t → OfEachDif Promise t
of_each Promise follows (Wires a) v = tt
of_each Promise follows (Rank' p difs below) v = (λ n d here. follows d _ (v.0.standing.stand n d here), of_each Promise follows below v.1)

pub of_each_if : (Promise : Dif → Seen → Type 0) → ((d : Dif) (below : Seen) → Stands d below → Promise d below) → (tower : Option Tower) → IfSome tower IsTower → IfSome tower (OfEachDif Promise)
of_each_if Promise follows None v = v
of_each_if Promise follows (Some t) v = of_each Promise follows t v

carried : (d : Dif) (below : Seen) → Stands d below → IsCarriedBy d below
carried d below stands = stands.1.carrying.entries

pub carried_if : (tower : Option Tower) → IfSome tower IsTower → IfSome tower CarriesAll
carried_if = of_each_if IsCarriedBy carried

links_lawful : (d : Dif) (below : Seen) → LinksStand d below → AreLinksLawful d below
links_lawful d below stand =
    let m = channels_seen (config_of d.settings) d.clock d.connections in
    let ps = (seen_of_dif d).processes in
    record {
      links = stand.lines;
      tied = stand.tied;
      each = λ i k end partner line here there partners is_line. messages_are_lawful m stand.lines ps below i k end partner line stand.standing here there partners is_line;
      kept = λ i k end partner here there partners. messages_are_kept m stand.lines ps below i k end partner stand.standing here there partners;
    }

lawful_in : (d : Dif) (below : Seen) → Stands d below → IsLawfulIn d below
lawful_in d below stands = ((stands.0, stands.1.tied, are_lawful (seen_of_dif d) stands.0 below stands.1.standing), links_lawful d below stands.1.connected)

pub lawful_if : (tower : Option Tower) → IfSome tower IsTower → IfSome tower LawfulAll
lawful_if = of_each_if IsLawfulIn lawful_in

in_account : (d : Dif) (below : Seen) → Stands d below → IsInAccount d below
in_account d below stands = (stands.0, stands.1.standing, stands.1.accounted)

pub accounted_if : (tower : Option Tower) → IfSome tower IsTower → IfSome tower AccountsAll
accounted_if = of_each_if IsInAccount in_account

caused_in : (d : Dif) (below : Seen) → Stands d below → IsCausedIn d below
caused_in d below stands = stands.1.caused

pub caused_if : (tower : Option Tower) → IfSome tower IsTower → IfSome tower CausesAll
caused_if = of_each_if IsCausedIn caused_in

written_off_in : (d : Dif) (below : Seen) → Stands d below → IsWrittenOffIn d below
written_off_in d below stands = stands.1.written_off

pub written_off_if : (tower : Option Tower) → IfSome tower IsTower → IfSome tower WriteOffsAll
written_off_if = of_each_if IsWrittenOffIn written_off_in

routed_in : (d : Dif) (below : Seen) → Stands d below → IsRoutedIn d below
routed_in d below stands = managed_routed d.laid.is_static d.settings.members d.laid.links d.clock d.processes d.managements stands.1.managed

pub routed_if : (tower : Option Tower) → IfSome tower IsTower → IfSome tower RoutesAll
routed_if = of_each_if IsRoutedIn routed_in

managed_in : (d : Dif) (below : Seen) → Stands d below → IsManagedIn d below
managed_in d below stands = stands.1.managed

pub managed_if : (tower : Option Tower) → IfSome tower IsTower → IfSome tower ItemsAll
managed_if = of_each_if IsManagedIn managed_in
