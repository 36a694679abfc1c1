-- The far end of a flow of a DIF is claimed.
use Rattle.std.proofs.Common.{◌≡◌, ◌∙◌, ℕ, ◌≤◌, true, List, length, get_or, slice_get, Option, Some, None, refl, sym, ap, arith}
use Rattle.std.specs.Prelude.{remove}
use Rattle.std.specs.Global.{Vec}
use Rattle.std.proofs.lemmas.List.Quantifiers.{position-Some}
use Rattle.std.proofs.lemmas.Option.{slice_get-get_or, slice_get_read, slice_get_within}
use Rattle.rina_iface.specs.declared.ends.End.{End}
use Rattle.rina_iface.specs.Claim.{Claims}
use Rattle.rina_iface.specs.Seen.{Seen, is_of, oldest_in, with_fac}
use Rattle.rina_iface.proofs.Later.{fac_refl}
use Rattle.rina_law.specs.Direction.{Direction}
use Rattle.rina_base.specs.declared.number.Key.{Key}
use Rattle.rina_dif_law.specs.Accounted.{Resends, counts_of}
use Rattle.rina_dif_law.proofs.Accounting.{resends_on, same_refl}
use Rattle.rina_dif_law.proofs.Balancing.{IsBefore, accounted_on, moved_same}
use Rattle.rina_dif_law.specs.Dif.{IsProcess, fac_of}
use Rattle.rina_data.specs.Configs.{Member}
use Rattle.rina_data.specs.Process.{Process}
use Rattle.rina_dif_law.proofs.Keepers.{facility}
use Rattle.rina_dif.specs.declared.dif.Dif.{Dif}
use Rattle.rina_dif.specs.Facade.{GoesOn, IsShownAs, StaysStanding, shown_as}
use Rattle.rina_dif.specs.Holding.{Holds}
use Rattle.rina_dif.specs.Shown.{seen_of}
use Rattle.rina_dif.specs.Whole.{IsDif}
use Rattle.rina_dif.proofs.Enrolled.{stay_same}
use Rattle.rina_dif.proofs.Facing.{unchanged}

-- the end that waits at a place

some_of : (node : ℕ) (app : List ℕ) (o : Option End) → is_of node app o ≡ true → (e : End) × (o ≡ Some e)
some_of node app None h = cc
some_of node app (Some e) h = (e, refl)

pub record Waits (ends : List End) (waiting : List ℕ) (at : ℕ) : Type 0 where
  pub place : ℕ
  pub stands : slice_get waiting at ≡ Some place
  pub end : End
  pub is : slice_get ends place ≡ Some end

pub waits_at : (ends : List End) (waiting : List ℕ) (node : ℕ) (app : List ℕ) (at : ℕ) → oldest_in ends waiting node app ≡ Some at → Waits ends waiting at
waits_at ends waiting node app at h =
    let p = position-Some (λ i. is_of node app (slice_get ends i)) waiting at 0 h in
    let e = some_of node app (slice_get ends (get_or waiting at 0)) p.1 in
    record { place = get_or waiting at 0; stands = slice_get-get_or waiting at 0 p.0; end = e.0; is = e.1 }

-- what the search answered
pub oldest_is : (ends : List End) (ws waiting : List ℕ) (node : ℕ) (app : List ℕ) (r o : Option ℕ) → ws ≡ waiting → r ≡ oldest_in ends ws node app → r ≡ o → oldest_in ends waiting node app ≡ o
oldest_is ends ws waiting node app r o same found is = ap (λ (xs : List ℕ). oldest_in ends xs node app) (sym same) ∙ sym found ∙ is

-- what is taken out of those that wait
pub taken_out : (ends : List End) (waiting : List ℕ) (node : ℕ) (app : List ℕ) (at place : ℕ) → oldest_in ends waiting node app ≡ Some at → place ≡ get_or waiting at place → slice_get waiting at ≡ Some place
taken_out ends waiting node app at place h read = (let w = waits_at ends waiting node app at h in slice_get_read waiting (length waiting) at place refl (slice_get_within waiting at w.place w.stands) read)

pub never_missing : (ends : List End) (waiting : List ℕ) (node : ℕ) (app : List ℕ) (at place : ℕ) → oldest_in ends waiting node app ≡ Some at → place ≡ get_or waiting at place → length ends ≤ place → ⊥
never_missing ends waiting node app at place h read none =
    let w = waits_at ends waiting node app at h in
    let same : Some w.place ≡ Some place = sym w.stands ∙ taken_out ends waiting node app at place h read in
    let is : w.place ≡ place = cc in
    let within = slice_get_within ends w.place w.end w.is in
    omega (arith, within, none, is)

-- the DIF with other ends that wait
abbrev pub with_waiting : Dif → Vec ℕ → Dif
with_waiting d waiting = record d { waiting = waiting }

-- the account counts none of them
still_before : (d : Dif) (waiting : Vec ℕ) (lines : List Direction) (below : Seen) (i : ℕ) (m : Member) (p : Process) (k : Key) → IsProcess (seen_of (with_waiting d waiting)) i m p → IsBefore (seen_of d) (seen_of (with_waiting d waiting)) lines lines below below i m p k
still_before d waiting lines below i m p k is = record {
  process = p;
  is_process = record { is_member = is.is_member; is_process = is.is_process };
  resends = resends_on (seen_of d) (seen_of (with_waiting d waiting)) m.addr k.scep refl (λ n ids x. x);
  moved = moved_same m.addr k (Resends (seen_of (with_waiting d waiting)) m.addr k.scep) (counts_of (seen_of d) lines below m p k) (counts_of (seen_of (with_waiting d waiting)) lines below m p k) (same_refl (counts_of (seen_of d) lines below m p k));
}

pub holds_claimed : (d : Dif) (waiting : Vec ℕ) (lines : List Direction) (below : Seen) → Holds d lines below → Holds (with_waiting d waiting) lines below
holds_claimed d waiting lines below h = (let st = h.standing in record {
  tied = h.tied;
  standing = record {
    config = st.config;
    clock = st.clock;
    aligned = st.aligned;
    linked = st.linked;
    inside = st.inside;
    spelled = st.spelled;
    items = st.items;
    journal = st.journal;
    ports = record { own = st.ports.own; apart = st.ports.apart; drawn = st.ports.drawn };
    own = st.own;
  };
  carrying = record { entries = h.carrying.entries; holding = λ i from e ids line conn inbound. h.carrying.holding i from e ids line conn (record { partner = inbound.partner; is_partner = inbound.is_partner; partners = inbound.partners; is_line = inbound.is_line }) };
  numbered = (let n = h.numbered in record { members = n.members; addressed = n.addressed; counted = n.counted; drawn = n.drawn; named = n.named });
  accounted = accounted_on (seen_of d) (seen_of (with_waiting d waiting)) lines lines below below h.accounted h.accounted.passed h.accounted.apart (λ i m p k is. still_before d waiting lines below i m p k is);
  caused = h.caused;
  written_off = λ i m p off is. h.written_off i m p off (record { is_member = is.is_member; is_process = is.is_process });
  housed = h.housed;
  managed = h.managed;
  enrolled = h.enrolled;
  connected = h.connected;
  flooded = h.flooded;
})

pub claimed_stays : (d : Dif) (waiting : Vec ℕ) → StaysStanding d (with_waiting d waiting)
claimed_stays d waiting below st = (st.0, holds_claimed d waiting st.0 below st.1)

pub claimed_whole : (d : Dif) (waiting : Vec ℕ) → IsDif d → IsDif (with_waiting d waiting)
claimed_whole d waiting is = record { below = is.below; stands = claimed_stays d waiting is.below is.stands; clock = is.clock }

pub claimed_goes_on : (d : Dif) (waiting : Vec ℕ) → IsDif d → GoesOn d (with_waiting d waiting)
claimed_goes_on d waiting is = (let f = fac_refl d.clock d.clock (fac_of (seen_of d)) in record {
  later = record { ends = f.ends; cubes = f.cubes };
  facility = facility (seen_of (with_waiting d waiting)) is.stands.0 is.below (holds_claimed d waiting is.stands.0 is.below is.stands.1).standing;
  clock = refl;
  enrolled = stay_same d.enrolled d.enrolled refl;
})

pub claims_none : (s : Seen) (n : ℕ) (d : Dif) (node : ℕ) (app : List ℕ) → oldest_in d.flows.journal.ends d.waiting.items node app ≡ None → IsShownAs s n d → Claims s n node app None (shown_as s n d)
claims_none s n d node app none h = (rw h.here none, unchanged s n d d h refl)

pub claims_some : (s : Seen) (n : ℕ) (d : Dif) (node : ℕ) (app : List ℕ) (at place : ℕ) (end : End) (waiting : Vec ℕ) → oldest_in d.flows.journal.ends d.waiting.items node app ≡ Some at → slice_get d.waiting.items at ≡ Some place → slice_get d.flows.journal.ends place ≡ Some end → waiting.items ≡ remove d.waiting.items at → IsShownAs s n d → Claims s n node app (Some end.port) (shown_as s n (with_waiting d waiting))
claims_some s n d node app at place end waiting oldest waits is left h = record {
  facility = fac_of (seen_of d);
  stands = h.here;
  at = at;
  oldest = oldest;
  place = place;
  waits = waits;
  end = end;
  is = is;
  its_port = refl;
  new_is = ap (λ (ws : List ℕ). with_fac s n (record (fac_of (seen_of d)) { waiting = ws })) left;
}
