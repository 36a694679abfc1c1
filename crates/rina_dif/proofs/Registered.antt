-- A name is registered at a DIF, or taken back: the member at its node made a directory entry, and the DIF holds on.
use Rattle.std.proofs.Common.{◌≡◌, ◌∙◌, ℕ, ◌<◌, Bool, false, List, length, slice_get, slice_set, Option, Some, None, Ok, option_map, refl, sym, ap, subst, inl, inr}
use Rattle.std.specs.Prelude.{IfSome, remove}
use Rattle.std.specs.Fmt.{decimal}
use Rattle.std.proofs.lemmas.List.{length-set}
use Rattle.std.proofs.lemmas.Option.{slice_get-map}
use Rattle.rina_base.specs.declared.number.Key.{Key}
use Rattle.rina_base.specs.Names.{app_at}
use Rattle.rina_iface.specs.declared.ask.Registered.{Registered}
use Rattle.rina_iface.specs.declared.error.RegisterError.{RegisterError}
use Rattle.rina_iface.specs.declared.error.UnregisterError.{UnregisterError}
use Rattle.rina_iface.specs.Register.{Registers, with_name}
use Rattle.rina_iface.specs.Register as names
use Rattle.rina_iface.specs.Seen.{Fac, Seen, is_registered, with_fac}
use Rattle.rina_iface.specs.Unregister.{Unregisters, name_place, without_at, without_name}
use Rattle.rina_iface.specs.Unregister as left
use Rattle.rina_iface.proofs.Changed.{set_at}
use Rattle.rina_iface.proofs.Later.{fac_refl}
use Rattle.rina_law.specs.Direction.{Direction}
use Rattle.rina_agent.specs.declared.agent.Agent.{Agent}
use Rattle.rina_agent.specs.declared.state.MemberState.TheVariants.{Enrolled}
use Rattle.rina_agent.specs.Counts.{spent}
use Rattle.rina_agent.specs.Items.{made}
use Rattle.rina_data.specs.declared.process.IpcProcess.{IpcProcess}
use Rattle.rina_data.specs.declared.settings.Member.{Member as Kept}
use Rattle.rina_data.specs.Configs.{Member, config_of, member_of}
use Rattle.rina_data.specs.Process.{Process}
use Rattle.rina_dif_law.specs.Accounted.{Resends, counts_of}
use Rattle.rina_dif_law.specs.Dif.{IsProcess, fac_of}
use Rattle.rina_dif_law.proofs.Accounting.{resends_on, same_refl}
use Rattle.rina_dif_law.proofs.Balancing.{IsBefore, accounted_on, moved_same}
use Rattle.rina_dif_law.proofs.Keepers.{facility}
use Rattle.rina_dir.specs.Directory.{key_of}
use Rattle.rina_plan.specs.declared.dif.LinkPlan.{LinkPlan}
use Rattle.rina_member.specs.declared.management.Management.{Management}
use Rattle.rina_member.specs.Knowing.{AreRoutesOf, IsPlanned, Knows}
use Rattle.rina_member.specs.Managements.{MayMakeEntry}
use Rattle.rina_member.proofs.Entering.{made_routes, makes_knowing}
use Rattle.rina_member.proofs.Planned.{planned_links}
use Rattle.rina_dif.specs.declared.dif.Dif.{Dif}
use Rattle.rina_dif.specs.Elsewhere.{enrolled_home}
use Rattle.rina_dif.specs.Facade.{GoesOn, IsShownAs, StaysStanding, shown_as}
use Rattle.rina_dif.specs.Flooding.{AreFlooding}
use Rattle.rina_dif.specs.Holding.{Holds}
use Rattle.rina_dif.specs.Managing.{AreManaged, AreManagedBy, IsManaged, states_of}
use Rattle.rina_dif.specs.Registering.{AnswersEntry, RegistersManaged, UnregistersManaged, no_value, own_address, register_refusal, register_told, unregister_refusal, unregister_told}
use Rattle.rina_dif.specs.Shown.{seen_of}
use Rattle.rina_member.specs.Short.{TellsShort}
use Rattle.rina_dif.specs.Whole.{IsDif}
use Rattle.rina_dif.proofs.Bound.{at_its_node}
use Rattle.rina_dif.proofs.Enrolled.{enrolled_here, enrolled_home_is, enrolled_on, states_set, stay_same}
use Rattle.rina_dif.proofs.Failing.{noted}
use Rattle.rina_dif.proofs.Flooding.{made_floods}
use Rattle.rina_dif.proofs.Naming.{may_register, may_unregister, unregisters_nowhere}
use Rattle.rina_member.proofs.Tells.{makes_short}
use Rattle.rina_dif.proofs.Unlinked.{has_agent}

-- the DIF with other names and managements
abbrev pub with_names : Dif → List Registered → List Management → Dif
with_names d ns ms = record d { names = ns; managements = ms }

-- The members

-- an enrolled member, whose management was g and is g', made the directory entry of an application at a tick: with its own address, or as a deletion
pub record HasMade (now : ℕ) (app : List ℕ) (g g' : Management) : Type 0 where
  pub value : Option (List ℕ)
  pub name : app_at app ≡ Ok app
  pub own : IfSome value (λ text. text ≡ decimal g.agent.address)
  pub may : spent 1 g.agent.last_count ≡ None
  pub makes : g'.agent ≡ made None g.agent now (key_of app) value
  pub enrolled : g.agent.state ≡ Enrolled

-- it is managed as before
made_managed : (is_static : Bool) (members : List Kept) (plans : List LinkPlan) (now : ℕ) (m : Kept) (p : IpcProcess) (app : List ℕ) (g g' : Management) → HasMade now app g g' → IsManaged is_static members plans now m p g → IsManaged is_static members plans now m p g'
made_managed is_static members plans now m p app g g' h one = record {
  knows = subst (λ (z : Agent). Knows now m p.links z) (sym h.makes) (makes_knowing now m p.links g.agent app h.value h.may one.knows);
  planned = λ still. subst (λ (z : Agent). IsPlanned members plans m p.links z) (sym h.makes) (planned_links members plans m p.links g.agent (made None g.agent now (key_of app) h.value) refl (one.planned still));
  bounded = one.bounded;
  routes = subst (λ (z : Agent). AreRoutesOf z members p.routes) (sym h.makes) (made_routes members p.routes g.agent now app h.value one.knows.keys one.routes);
  tells = subst (λ (z : Agent). TellsShort z) (sym h.makes) (makes_short g.agent now app h.value one.tells h.name h.own);
}

-- and so are all
pub managed_made : (is_static : Bool) (members : List Kept) (plans : List LinkPlan) (now : ℕ) (ps : List IpcProcess) (managements : List Management) (at : ℕ) (app : List ℕ) (g g' : Management) → slice_get managements at ≡ Some g → HasMade now app g g' → AreManagedBy is_static members plans now ps managements → AreManagedBy is_static members plans now ps (slice_set managements at g')
managed_made is_static members plans now ps managements at app g g' is_g made h = record {
  laid_out = h.laid_out;
  aligned = length-set managements at g' ∙ h.aligned;
  each = λ k m p y is_m is_p is_y. elim (set_at managements at k g g' y is_g is_y) [
    | inl here ↦ subst (λ (z : Management). IsManaged is_static members plans now m p z) (sym here.1) (made_managed is_static members plans now m p app g g' made (h.each k m p g is_m is_p (ap (slice_get managements) here.0 ∙ is_g)))
    | inr there ↦ h.each k m p y is_m is_p there.1
  ];
}

-- The DIF holds

-- the account counts no names
still_before : (d : Dif) (ns : List Registered) (ms : List Management) (lines : List Direction) (below : Seen) (i : ℕ) (m : Member) (p : Process) (k : Key) → IsProcess (seen_of (with_names d ns ms)) i m p → IsBefore (seen_of d) (seen_of (with_names d ns ms)) lines lines below below i m p k
still_before d ns ms lines below i m p k is = record {
  process = p;
  is_process = record { is_member = is.is_member; is_process = is.is_process };
  resends = resends_on (seen_of d) (seen_of (with_names d ns ms)) m.addr k.scep refl (λ n ids x. x);
  moved = moved_same m.addr k (Resends (seen_of (with_names d ns ms)) m.addr k.scep) (counts_of (seen_of d) lines below m p k) (counts_of (seen_of (with_names d ns ms)) lines below m p k) (same_refl (counts_of (seen_of d) lines below m p k));
}

pub holds_named : (d : Dif) (ns : List Registered) (ms : List Management) (lines : List Direction) (below : Seen) → AreManaged (with_names d ns ms) → states_of ms ≡ states_of d.managements → (AreFlooding d → AreFlooding (record d { managements = ms })) → Holds d lines below → Holds (with_names d ns ms) lines below
holds_named d ns ms lines below managed states floods h = (let st = h.standing in record {
  tied = h.tied;
  standing = record {
    config = st.config;
    clock = st.clock;
    aligned = st.aligned;
    linked = st.linked;
    inside = st.inside;
    spelled = st.spelled;
    items = st.items;
    journal = st.journal;
    ports = record { own = st.ports.own; apart = st.ports.apart; drawn = st.ports.drawn };
    own = st.own;
  };
  carrying = record { entries = h.carrying.entries; holding = λ i from e ids line conn inbound. h.carrying.holding i from e ids line conn (record { partner = inbound.partner; is_partner = inbound.is_partner; partners = inbound.partners; is_line = inbound.is_line }) };
  numbered = (let n = h.numbered in record { members = n.members; addressed = n.addressed; counted = n.counted; drawn = n.drawn; named = n.named });
  accounted = accounted_on (seen_of d) (seen_of (with_names d ns ms)) lines lines below below h.accounted h.accounted.passed h.accounted.apart (λ i m p k is. still_before d ns ms lines below i m p k is);
  caused = h.caused;
  written_off = λ i m p off is. h.written_off i m p off (record { is_member = is.is_member; is_process = is.is_process });
  housed = h.housed;
  managed = managed;
  enrolled = enrolled_on d.laid.is_static d.settings.members d.settings.admits d.managements ms d.enrolled states h.enrolled;
  connected = h.connected;
  flooded = λ alive. floods (h.flooded alive);
})

-- where the member at a place made an entry
pub holds_made : (d : Dif) (ns : List Registered) (at : ℕ) (app : List ℕ) (g g' : Management) (lines : List Direction) (below : Seen) → slice_get d.managements at ≡ Some g → HasMade d.clock app g g' → Holds d lines below → Holds (with_names d ns (slice_set d.managements at g')) lines below
holds_made d ns at app g g' lines below is_g made h = holds_named d ns (slice_set d.managements at g') lines below (managed_made d.laid.is_static d.settings.members d.laid.links d.clock d.processes d.managements at app g g' is_g made h.managed) (states_set d.managements at g g' is_g (ap (λ (z : Agent). z.state) made.makes)) (λ r. made_floods d at g g' app made.value is_g made.may made.makes r) h

-- where none did
pub holds_without : (d : Dif) (ns : List Registered) (lines : List Direction) (below : Seen) → Holds d lines below → Holds (with_names d ns d.managements) lines below
holds_without d ns lines below h = holds_named d ns d.managements lines below h.managed refl (λ r. r) h

-- What a rank needs

abbrev pub HoldsOn : Dif → Dif → Type 0
HoldsOn d d' = (lines : List Direction) (below : Seen) → Holds d lines below → Holds d' lines below

pub named_stays : (d : Dif) (ns : List Registered) (ms : List Management) → HoldsOn d (with_names d ns ms) → StaysStanding d (with_names d ns ms)
named_stays d ns ms on below st = (st.0, on st.0 below st.1)

pub named_whole : (d : Dif) (ns : List Registered) (ms : List Management) → HoldsOn d (with_names d ns ms) → IsDif d → IsDif (with_names d ns ms)
named_whole d ns ms on is = record { below = is.below; stands = named_stays d ns ms on is.below is.stands; clock = is.clock }

pub named_goes_on : (d : Dif) (ns : List Registered) (ms : List Management) → HoldsOn d (with_names d ns ms) → IsDif d → GoesOn d (with_names d ns ms)
named_goes_on d ns ms on is = (let f = fac_refl d.clock d.clock (fac_of (seen_of d)) in record {
  later = record { ends = f.ends; cubes = f.cubes };
  facility = facility (seen_of (with_names d ns ms)) is.stands.0 is.below (on is.stands.0 is.below is.stands.1).standing;
  clock = refl;
  enrolled = stay_same d.enrolled d.enrolled refl;
})

-- What it shows

pub registers_shown : (own : Option RegisterError) (s : Seen) (n : ℕ) (d : Dif) (node : ℕ) (app : List ℕ) (ns : List Registered) (ms : List Management) → names.refused_in (Some (fac_of (seen_of d))) node app own ≡ None → ns ≡ with_name d.names node app → IsShownAs s n d → Registers own s n node app (Ok tt) (shown_as s n (with_names d ns ms))
registers_shown own s n d node app ns ms none are h = (
  ap (λ (f : Option Fac). names.refused_in f node app own) h.here ∙ none,
  record { facility = fac_of (seen_of d); stands = h.here; new_is = ap (λ (xs : List Registered). with_fac s n (record (fac_of (seen_of d)) { names = xs })) are },
)

pub unregisters_shown : (own : Option UnregisterError) (s : Seen) (n : ℕ) (d : Dif) (node : ℕ) (app : List ℕ) (ns : List Registered) (ms : List Management) → left.refused_in (Some (fac_of (seen_of d))) node app own ≡ None → ns ≡ without_name d.names node app → IsShownAs s n d → Unregisters own s n node app (Ok tt) (shown_as s n (with_names d ns ms))
unregisters_shown own s n d node app ns ms none are h = (
  ap (λ (f : Option Fac). left.refused_in f node app own) h.here ∙ none,
  record { facility = fac_of (seen_of d); stands = h.here; new_is = ap (λ (xs : List Registered). with_fac s n (record (fac_of (seen_of d)) { names = xs })) are },
)

-- What is done, in one

-- a name is registered
pub record HasRegistered (d : Dif) (node : ℕ) (app : List ℕ) (d' : Dif) : Type 0 where
  pub valid : IsDif d'
  pub shown : (s : Seen) (n : ℕ) → IsShownAs s n d → Registers (register_refusal d node) s n node app (Ok tt) (shown_as s n d')
  pub manages : RegistersManaged (Ok tt) d node app d'.managements
  pub goes_on : GoesOn d d'
  pub stands : StaysStanding d d'

-- a name is taken back
pub record HasUnregistered (d : Dif) (node : ℕ) (app : List ℕ) (d' : Dif) : Type 0 where
  pub valid : IsDif d'
  pub shown : (s : Seen) (n : ℕ) → IsShownAs s n d → Unregisters (unregister_refusal d node) s n node app (Ok tt) (shown_as s n d')
  pub manages : UnregistersManaged (Ok tt) d node app d'.managements
  pub goes_on : GoesOn d d'
  pub stands : StaysStanding d d'

has_made : (now : ℕ) (app : List ℕ) (value : Option (List ℕ)) (g g' : Management) → g.agent.state ≡ Enrolled → app_at app ≡ Ok app → IfSome value (λ text. text ≡ decimal g.agent.address) → MayMakeEntry now app value g (Ok g') → HasMade now app g g'
has_made now app value g g' enrolled name own made = record { value = value; name = name; own = own; may = made.0; makes = made.1.makes; enrolled = enrolled }

made_on : (d : Dif) (ns : List Registered) (at : ℕ) (app : List ℕ) (g g' : Management) → slice_get d.managements at ≡ Some g → HasMade d.clock app g g' → HoldsOn d (with_names d ns (slice_set d.managements at g'))
made_on d ns at app g g' is_g made lines below h = holds_made d ns at app g g' lines below is_g made h

-- the enrolled member at a node is
state_here : (d : Dif) → IsDif d → (node at : ℕ) (g : Management) → enrolled_home d node ≡ Some at → at < length d.settings.members → slice_get d.managements at ≡ Some g → g.agent.state ≡ Enrolled
state_here d is node at g here lt is_g =
    enrolled_here d is.stands.0 is.below is.stands.1 node at g here
    (λ m is_m. at_its_node (config_of d.settings).members node at (member_of m) (enrolled_home_is d node at here).1 (slice_get-map member_of d.settings.members at ∙ ap (option_map member_of) is_m)) lt is_g

pub name_added : (d : Dif) (node at : ℕ) (app : List ℕ) (g' : Management) (ns : List Registered) (ms : List Management) → IsDif d → is_registered d.names node app ≡ false → enrolled_home d node ≡ Some at → at < length d.settings.members → app_at app ≡ Ok app
    → ((m : Management) → slice_get d.managements at ≡ Some m → AnswersEntry register_told d.clock app (own_address m) m (Ok g')) → ns ≡ with_name d.names node app → ms ≡ slice_set d.managements at g' → HasRegistered d node app (with_names d ns ms)
name_added d node at app g' ns ms is new here lt name answers names_are are =
    let g = has_agent d is.stands.0 is.below at lt is.stands.1 in
    let made = answers g.0 g.1 in
    let new_ms = slice_set d.managements at g' in
    let on : HoldsOn d (with_names d ns new_ms) = made_on d ns at app g.0 g' g.1 (has_made d.clock app (own_address g.0) g.0 g' (state_here d is node at g.0 here lt g.1) name refl made) in
    subst (λ (z : List Management). HasRegistered d node app (with_names d ns z)) (sym are) (record {
      valid = named_whole d ns new_ms on is;
      shown = λ s n h. registers_shown (register_refusal d node) s n d node app ns new_ms (may_register d node at app g.0 new here g.1 made.0) names_are h;
      manages = record { i = at; at_home = here; management = g.0; is_management = g.1; after = g'; makes = made.1; are = refl };
      goes_on = named_goes_on d ns new_ms on is;
      stands = named_stays d ns new_ms on;
    })

pub name_removed : (d : Dif) (node at place : ℕ) (app : List ℕ) (g' : Management) (ns : List Registered) (ms : List Management) → IsDif d → name_place d.names node app ≡ Some place → enrolled_home d node ≡ Some at → at < length d.settings.members → app_at app ≡ Ok app
    → ((m : Management) → slice_get d.managements at ≡ Some m → AnswersEntry unregister_told d.clock app (no_value m) m (Ok g')) → ns ≡ remove d.names place → ms ≡ slice_set d.managements at g' → HasUnregistered d node app (with_names d ns ms)
name_removed d node at place app g' ns ms is there here lt name answers names_are are =
    let g = has_agent d is.stands.0 is.below at lt is.stands.1 in
    let made = answers g.0 g.1 in
    let new_ms = slice_set d.managements at g' in
    let on : HoldsOn d (with_names d ns new_ms) = made_on d ns at app g.0 g' g.1 (has_made d.clock app None g.0 g' (state_here d is node at g.0 here lt g.1) name tt made) in
    subst (λ (z : List Management). HasUnregistered d node app (with_names d ns z)) (sym are) (record {
      valid = named_whole d ns new_ms on is;
      shown = λ s n h. unregisters_shown (unregister_refusal d node) s n d node app ns new_ms (may_unregister d node at place app g.0 there here g.1 made.0) (names_are ∙ ap (without_at d.names) (sym there)) h;
      manages = inl (record { i = at; at_home = here; management = g.0; is_management = g.1; after = g'; makes = made.1; are = refl });
      goes_on = named_goes_on d ns new_ms on is;
      stands = named_stays d ns new_ms on;
    })

-- where no enrolled member stands on the node
pub name_dropped : (d : Dif) (node place : ℕ) (app : List ℕ) (ns : List Registered) → IsDif d → name_place d.names node app ≡ Some place → enrolled_home d node ≡ None → ns ≡ remove d.names place → HasUnregistered d node app (with_names d ns d.managements)
name_dropped d node place app ns is there none names_are =
    let on : HoldsOn d (with_names d ns d.managements) = holds_without d ns in
    record {
      valid = named_whole d ns d.managements on is;
      shown = λ s n h. unregisters_shown (unregister_refusal d node) s n d node app ns d.managements (unregisters_nowhere d node place app there none) (names_are ∙ ap (without_at d.names) (sym there)) h;
      manages = inr (none, refl);
      goes_on = named_goes_on d ns d.managements on is;
      stands = named_stays d ns d.managements on;
    }

-- Whether an allocation failed is noted

pub noted_stays : (d d' : Dif) (failed : Bool) → d'.failed ≡ false → StaysStanding d d' → StaysStanding d (record d' { failed = failed })
noted_stays d d' failed alive on below st = (let s = on below st in (s.0, noted d' s.0 below failed alive s.1))

pub noted_whole : (d : Dif) (failed : Bool) → d.failed ≡ false → IsDif d → IsDif (record d { failed = failed })
noted_whole d failed alive is = record { below = is.below; stands = (is.stands.0, noted d is.stands.0 is.below failed alive is.stands.1); clock = is.clock }

pub noted_goes_on : (d d' : Dif) (failed : Bool) → GoesOn d d' → GoesOn d (record d' { failed = failed })
noted_goes_on d d' failed g = record { later = g.later; facility = g.facility; clock = g.clock; enrolled = g.enrolled }
