-- The clock of a DIF goes on with that of the rank below.
use Rattle.std.proofs.Common.{◌≡◌, ℕ, ◌-◌, ◌≤◌, List, [], map, refl, sym, subst}
use Rattle.rina_iface.specs.Journal.{AreKept}
use Rattle.rina_iface.specs.Seen.{Seen}
use Rattle.rina_law.specs.Direction.{Direction}
use Rattle.rina_data.specs.Configs.{config_of}
use Rattle.rina_dif_law.specs.Lifting.{IsLifted, ticked}
use Rattle.rina_dif_law.specs.Passing.{IsTicked}
use Rattle.rina_dif_law.proofs.Carries.{time_carries}
use Rattle.rina_dif_law.proofs.Lifted.{time_accounted}
use Rattle.rina_dif_law.specs.Upward.{IsSilent}
use Rattle.rina_dif_law.proofs.Numbering.{time_numbered}
use Rattle.rina_dif_law.proofs.Taking.{lifted_stands}
use Rattle.rina_dif_law.proofs.Upper.{ticked_silent}
use Rattle.rina_dif_law.proofs.Warranted.{ticked_written}
use Rattle.rina_flows.proofs.Lasting.{tied_later}
use Rattle.rina_dif.specs.declared.dif.Dif.{Dif}
use Rattle.rina_dif.specs.Holding.{Holds}
use Rattle.rina_dif.specs.Shown.{seen_of}
use Rattle.rina_dif.proofs.Causing.{caused_on, lower_later, none_same}
use Rattle.rina_dif.proofs.Managed.{managed_later}
use Rattle.rina_dif.proofs.Connected.{later_connected}
use Rattle.rina_dif.proofs.Flooding.{time_floods}

pub holds_later : (d : Dif) (now : ℕ) (lines : List Direction) (below below' : Seen) → d.clock ≤ now → AreKept below' → IsLifted (config_of d.settings) below below' → below'.now ≡ now → Holds d lines below → Holds (record d { clock = now }) (map (ticked (now - d.clock)) lines) below'
holds_later d now lines below below' le kept' lifted clock h =
    let d' : Dif = record d { clock = now } in
    let lines' : List Direction = map (ticked (now - d.clock)) lines in
    let ticks : IsTicked (seen_of d) lines now (seen_of d') lines' = record { later = le; lines_are = refl; new_is = refl } in
    let there : IsTicked (seen_of d) lines below'.now (seen_of d') lines' = subst (λ (n : ℕ). IsTicked (seen_of d) lines n (seen_of d') lines') (sym clock) ticks in
    record {
      tied = tied_later (config_of d.settings) d.clock now d.flows.journal.ends d.flows.conns lines le h.tied;
      standing = lifted_stands (seen_of d) lines below below' (seen_of d') lines' kept' h.standing lifted there;
      carrying = time_carries (seen_of d) lines below below' (seen_of d') lines' kept' h.carrying lifted there;
      numbered = time_numbered (seen_of d) lines below below' (seen_of d') lines' kept' h.numbered lifted there;
      accounted = time_accounted (seen_of d) lines below below' (seen_of d') lines' kept' h.accounted lifted there;
      caused = caused_on (seen_of d) (seen_of d') below below' (none_same (seen_of d) (seen_of d') refl refl refl le) (lower_later (config_of d.settings) below below' kept' lifted.later) h.caused;
      written_off = ticked_written (seen_of d) lines now (seen_of d') lines' h.written_off ticks;
      housed = h.housed;
      managed = managed_later d.laid.is_static d.settings.members d.laid.links d.clock now d.processes d.managements le h.managed;
      enrolled = h.enrolled;
      connected = later_connected (config_of d.settings) d.clock now d.connections (seen_of d).processes below below' le kept' lifted clock h.connected;
      flooded = λ alive. time_floods d now le (h.flooded alive);
    }

-- the rank above sees nothing of it
pub later_silent : (d : Dif) (now : ℕ) → d.clock ≤ now → IsSilent (seen_of d) (seen_of (record d { clock = now }))
later_silent d now le = ticked_silent (seen_of d) [] now (seen_of (record d { clock = now })) [] (record { later = le; lines_are = refl; new_is = refl })
