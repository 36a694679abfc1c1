-- What never changes in the DIFs of a tower.
use Rattle.std.specs.Prelude.{◌≡◌, ℕ, List, length, slice_get, Some, refl}
use Rattle.std.proofs.Common.{◌∙◌, sym, subst, arith, get_or}
use Rattle.std.proofs.lemmas.Option.{same_Some, slice_get-get_or, slice_get_within}
use Rattle.rina_dif.specs.declared.dif.Dif.{Dif}

-- a DIF has the settings that it had, and what was laid for it
pub record IsStaying (d d' : Dif) : Type 0 where
  pub settings : d'.settings ≡ d.settings
  pub laid : d'.laid ≡ d.laid

-- and so each of a rank
pub record AreStaying (difs difs' : List Dif) : Type 0 where
  pub number : length difs' ≡ length difs
  pub each : (n : ℕ) (d d' : Dif) → slice_get difs n ≡ Some d → slice_get difs' n ≡ Some d' → IsStaying d d'

-- Parts of a DIF

-- nothing but its flows, the managements and the CEP-ids of its members, the asks that wait, and whether an allocation has failed
abbrev pub ChangesAsks : Dif → Dif → Type 0
ChangesAsks d d' = d' ≡ record d { flows = d'.flows; ids = d'.ids; managements = d'.managements; asks = d'.asks; failed = d'.failed }

-- nothing but its clock, which is this now
abbrev pub ChangesClock : ℕ → Dif → Dif → Type 0
ChangesClock now d d' = d' ≡ record d { clock = now }

-- nothing but its far ends that wait to be claimed
abbrev pub ChangesClaims : Dif → Dif → Type 0
ChangesClaims d d' = d' ≡ record d { waiting = d'.waiting }

-- nothing but its flows
abbrev pub ChangesFlows : Dif → Dif → Type 0
ChangesFlows d d' = d' ≡ record d { flows = d'.flows }

-- nothing but its flows and names, the managements and the CEP-ids of its members, and whether an allocation has failed
abbrev pub ChangesNames : Dif → Dif → Type 0
ChangesNames d d' = d' ≡ record d { flows = d'.flows; ids = d'.ids; names = d'.names; managements = d'.managements; failed = d'.failed }

-- nothing but its names and the managements of its members, and whether an allocation has failed
abbrev pub ChangesEntries : Dif → Dif → Type 0
ChangesEntries d d' = d' ≡ record d { names = d'.names; managements = d'.managements; failed = d'.failed }

-- nothing but its IPC processes, and whether an allocation has failed
abbrev pub ChangesProcesses : Dif → Dif → Type 0
ChangesProcesses d d' = d' ≡ record d { processes = d'.processes; failed = d'.failed }

-- nothing but its IPC processes and flows, and whether an allocation has failed
abbrev pub ChangesTraffic : Dif → Dif → Type 0
ChangesTraffic d d' = d' ≡ record d { processes = d'.processes; flows = d'.flows; failed = d'.failed }

-- nothing but its IPC processes, the managements and the CEP-ids of its members, which of these are enrolled, its flows and those that wait to be
-- claimed, its asks that wait, and the management connections of its links, and whether an allocation has failed
abbrev pub ChangesConnections : Dif → Dif → Type 0
ChangesConnections d d' = d' ≡ record d { processes = d'.processes; flows = d'.flows; connections = d'.connections; managements = d'.managements; enrolled = d'.enrolled; ids = d'.ids; waiting = d'.waiting; asks = d'.asks; failed = d'.failed }

-- nothing but its IPC processes, the managements and the CEP-ids of its members, its flows and the asks that wait, and whether an allocation
-- has failed
abbrev pub ChangesMembers : Dif → Dif → Type 0
ChangesMembers d d' = d' ≡ record d { processes = d'.processes; managements = d'.managements; flows = d'.flows; ids = d'.ids; asks = d'.asks; failed = d'.failed }

-- nothing but its IPC processes, the managements and the CEP-ids of its members, the management connections of its links, its flows and the
-- asks that wait, and whether an allocation has failed
abbrev pub ChangesByClock : Dif → Dif → Type 0
ChangesByClock d d' = d' ≡ record d { processes = d'.processes; connections = d'.connections; managements = d'.managements; flows = d'.flows; ids = d'.ids; asks = d'.asks; failed = d'.failed }

-- nothing but its IPC processes, the managements of its members and the management connections of its links, and whether an allocation has failed
abbrev pub ChangesJoiner : Dif → Dif → Type 0
ChangesJoiner d d' = d' ≡ record d { processes = d'.processes; connections = d'.connections; managements = d'.managements; failed = d'.failed }

-- What follows

pub dif_refl : (d : Dif) → IsStaying d d
dif_refl d = record { settings = refl; laid = refl }

pub dif_trans : (d e f : Dif) → IsStaying d e → IsStaying e f → IsStaying d f
dif_trans d e f h g = record { settings = g.settings ∙ h.settings; laid = g.laid ∙ h.laid }

pub difs_refl : (difs : List Dif) → AreStaying difs difs
difs_refl difs = record { number = refl; each = λ n d d' at at'. subst (IsStaying d) (same_Some d d' (sym at ∙ at')) (dif_refl d) }

pub difs_trans : (difs difs' difs'' : List Dif) → AreStaying difs difs' → AreStaying difs' difs'' → AreStaying difs difs''
difs_trans difs difs' difs'' h g = record {
  number = g.number ∙ h.number;
  each = λ n d d'' at at''.
      let within = slice_get_within difs'' n d'' at'' in
      let number = g.number in
      let mid = get_or difs' n d in
      let there = slice_get-get_or difs' n d (omega (arith, within, number)) in
      dif_trans d mid d'' (h.each n d mid at there) (g.each n mid d'' there at'');
}
