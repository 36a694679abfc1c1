-- A DIF after a CDAP message was answered.
use Rattle.std.proofs.Common.{◌≡◌, ◌≤◌, ℕ, Bool, List, Result, Ok, Err, refl, sym, ap, subst, false}
use Rattle.rina_iface.specs.Seen.{Seen}
use Rattle.rina_law.specs.Direction.{Direction}
use Rattle.rina_dif.specs.declared.cdap.CdapCallError.{CdapCallError}
use Rattle.rina_dif.specs.declared.cdap.CdapCallError.TheVariants.{Memory, NoIpc, Cdap}
use Rattle.rina_dif.specs.declared.dif.Dif.{Dif}
use Rattle.rina_dif.specs.Asking.{Asks, KeepsAll}
use Rattle.rina_dif.specs.Facade.{GoesOn, StaysStanding}
use Rattle.rina_dif.specs.Holding.{Holds}
use Rattle.rina_dif.specs.Shown.{seen_of}
use Rattle.rina_dif.specs.Whole.{IsDif}
use Rattle.rina_dif.proofs.Facing.{same_goes_on}
use Rattle.rina_dif.proofs.Managed.{managed_shown}
use Rattle.rina_dif.proofs.Enrolled.{enrolled_on, states_agents}
use Rattle.rina_dif.proofs.Flooding.{same_agents}

-- it shows what it showed
pub kept_seen : (d d' : Dif) → KeepsAll d d' → seen_of d' ≡ seen_of d
kept_seen d d' k = ap seen_of k.is

pub kept_holds : (d d' : Dif) (lines : List Direction) (below : Seen) → KeepsAll d d' → Holds d lines below → Holds d' lines below
kept_holds d d' lines below k h = subst (λ (x : Dif). Holds x lines below) (sym k.is) (record { tied = h.tied; standing = h.standing; carrying = h.carrying; numbered = h.numbered; accounted = h.accounted; caused = h.caused; written_off = h.written_off; housed = h.housed; managed = managed_shown d.laid.is_static d.settings.members d.laid.links d.clock d.processes d.managements d'.managements k.agents h.managed; enrolled = enrolled_on d.laid.is_static d.settings.members d.settings.admits d.managements d'.managements d.enrolled (states_agents d.managements d'.managements k.agents) h.enrolled; connected = h.connected; flooded = λ still. same_agents d d'.managements k.agents (h.flooded (k.alive still)) })

pub kept_stands : (d d' : Dif) → KeepsAll d d' → StaysStanding d d'
kept_stands d d' k = λ below s. (s.0, kept_holds d d' s.0 below k s.1)

pub kept_valid : (d d' : Dif) → IsDif d → KeepsAll d d' → IsDif d'
kept_valid d d' v k = record {
  below = v.below;
  stands = kept_stands d d' k v.below v.stands;
  clock = subst (λ (n : ℕ). n ≤ 10000000) (sym (ap (λ (x : Dif). x.clock) k.is)) v.clock;
}

pub kept_goes_on : (d d' : Dif) → IsDif d → KeepsAll d d' → GoesOn d d'
kept_goes_on d d' v k = same_goes_on d d' v (kept_seen d d' k)

-- whether an allocation failed is noted beside it
abbrev pub noted : Dif → Bool → Dif
noted d failed = record d { failed = failed }

pub noted_keeps : (d d' : Dif) (failed : Bool) → d.failed ≡ false → KeepsAll d d' → KeepsAll d (noted d' failed)
noted_keeps d d' failed alive k = record { is = ap (λ (x : Dif). noted x failed) k.is; agents = k.agents; alive = λ still. alive }

pub noted_asks : (d d' : Dif) (node : ℕ) (bytes : List ℕ) (result : Result (List ℕ) CdapCallError) (failed : Bool) → Asks d node bytes result d' → Asks d node bytes result (noted d' failed)
noted_asks d d' node bytes (Ok answer) failed a = record {
  place = a.place;
  at_home = a.at_home;
  message = a.message;
  read = a.read;
  is = record { rib = a.is.rib; is_rib = a.is.is_rib; after = a.is.after; response = a.is.response; told = a.is.told; spelled = a.is.spelled; kept = a.is.kept };
}
noted_asks d d' node bytes (Err Memory) failed a = a
noted_asks d d' node bytes (Err NoIpc) failed a = a
noted_asks d d' node bytes (Err (Cdap error)) failed a = a

pub same_keeps : (d : Dif) → KeepsAll d d
same_keeps d = record { is = refl; agents = refl; alive = λ alive. alive }
