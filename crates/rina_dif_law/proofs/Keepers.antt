-- A DIF that stands is a facility: it keeps what its cubes promise.
use Rattle.std.proofs.Common.{◌≡◌, ℕ, ◌≤◌, List, [], ◌∷◌, map, get_or, slice_get, Some, option_map, Bool, true, false, cond, eqb, All, refl, sym, ◌∙◌, ap, subst, arith}
use Rattle.std.proofs.lemmas.List.Elements.{All-map}
use Rattle.std.proofs.lemmas.Option.{slice_get-get_or}
use Rattle.rina_cube.specs.declared.Cube.{Cube}
use Rattle.rina_cube.specs.declared.Kind.{Kind}
use Rattle.rina_cube.specs.declared.Kind.TheVariants.{Datagram, Loose, Reliable}
use Rattle.rina_cube.specs.Cubes.{IsCube, promise_by, promise_of}
use Rattle.rina_iface.specs.declared.ends.End.{End}
use Rattle.rina_iface.specs.Journal.{At, HasPartner, IsPartner, KeepsCube}
use Rattle.rina_iface.specs.Seen.{Offer, Seen, cube_in}
use Rattle.rina_law.specs.declared.entry.Entry.{Entry}
use Rattle.rina_law.specs.Direction.{Direction}
use Rattle.rina_law.specs.Journal.{Keeps}
use Rattle.rina_law.proofs.Keeping.{keeps_from}
use Rattle.rina_base.specs.declared.pdu.Pdu.{Pdu}
use Rattle.rina_dif_law.specs.Cloud.{Cloud, Everywhere}
use Rattle.rina_data.specs.Configs.{Config, cube_by}
use Rattle.rina_dif_law.specs.Dif.{DifSeen, constants, fac_of, offer_of}
use Rattle.rina_dif_law.specs.Ids.{Ids}
use Rattle.rina_dif_law.specs.Standing.{IsConfig, IsDirection, IsStanding}
use Rattle.rina_dif_law.specs.Upward.{IsFacility}
use Rattle.rina_dif_law.proofs.Finding.{beside, cube_limits}
use Rattle.rina_dif_law.proofs.Own.{pair, partner_back}
use Rattle.rina_dif_law.proofs.Placed.{qos_from}
use Rattle.rina_dif_law.specs.Places.{ids_from}
use Rattle.rina_rest.specs.Flows.{IsInUse}

-- what a flow of a cube keeps
flow_keeps : (g : Config) (now : ℕ) (cloud : ℕ → Pdu → Type 0) (used : Type 0) (a b : End) (c : Ids) (line : Direction) → IsConfig g → (h : IsDirection g now cloud used a b c line) → Keeps h.cube.kind (promise_of h.cube) a.sent b.got
flow_keeps g now cloud used a b c line config h =
    let k = keeps_from (constants g h.cube c) line (cube_limits g c.qos h.cube config h.is_cube) h.backed.holds in
    subst (λ (xs : List Entry). Keeps h.cube.kind (promise_of h.cube) xs b.got) h.sent (subst (λ (xs : List Entry). Keeps h.cube.kind (promise_of h.cube) line.sent xs) h.got k)

-- the offer of an id is that of its cube
pub offered_by : (id : ℕ) (cubes : List Cube) → cube_in (map offer_of cubes) id ≡ option_map offer_of (cube_by id cubes)
offered_by id [] = refl
offered_by id (c ∷ cs) = go (eqb c.id id) (offered_by id cs)
  where
    go : (b : Bool) → cube_in (map offer_of cs) id ≡ option_map offer_of (cube_by id cs) → cond b (Some (offer_of c)) (cube_in (map offer_of cs) id) ≡ option_map offer_of (cond b (Some c) (cube_by id cs))
    go true e = refl
    go false e = e

pub none_got : (xs : List Entry) (P : Type 0) → ((j : ℕ) (x : Entry) → slice_get xs j ≡ Some x → P) → (P → ⊥) → xs ≡ []
none_got [] P has none = refl
none_got (x ∷ xs) P has none = absurd (none (has 0 x refl))

pub keeps_cube : (d : DifSeen) (lines : List Direction) (below : Seen) (i k : ℕ) (e other : End) → IsStanding d lines below → At d.ends i e → At d.ends k other → IsPartner e other → KeepsCube (fac_of d) e other
keeps_cube d lines below i k e other st is_e is_other p =
    let line = beside d.ends lines k other st.own.lines_alike is_other in
    let back = partner_back e other p in
    let q = pair d.config d.clock (Cloud Everywhere d.config d.processes below) d.ids d.ends d.conns lines st.own k i other e is_other is_e back in
    let flow = (st.own.flows_are k i other e q.x q.flow q.far line.0 is_other is_e back q.is_x q.stands q.known line.1).direction in
    let cube_is : (ids_from q.x.side q.flow q.far other.cube).qos ≡ e.cube = qos_from q.x.side q.flow q.far other.cube ∙ (st.journal.named i k e other is_e is_other p).cube in
    record {
      cube = offer_of flow.cube;
      offer = ap (cube_in (map offer_of d.config.cubes)) (sym cube_is) ∙ offered_by (ids_from q.x.side q.flow q.far other.cube).qos d.config.cubes ∙ ap (option_map offer_of) flow.is_cube;
      keeps = flow_keeps d.config d.clock (Cloud Everywhere d.config d.processes below) (IsInUse d.clock q.flow) other e (ids_from q.x.side q.flow q.far other.cube) line.0 st.config flow;
    }

promise_least : (c : Cube) (kind : Kind) → IsCube c → promise_by kind c ≤ 2000000
promise_least c Datagram h = (let mpl = h.mpl in omega arith)
promise_least c Loose h = (let mpl = h.mpl in omega arith)
promise_least c Reliable h = (let mpl = h.mpl in let r = h.r in omega arith)

promises : (g : Config) → IsConfig g → All (λ (cube : Offer). cube.promise ≤ 2000000) (map offer_of g.cubes)
promises g config = All-map (λ (cube : Offer). cube.promise ≤ 2000000) offer_of g.cubes (λ k d lt. promise_least (get_or g.cubes k d) ((get_or g.cubes k d).kind) (config.cubes k (get_or g.cubes k d) (slice_get-get_or g.cubes k d lt)))

pub facility : (d : DifSeen) (lines : List Direction) (below : Seen) → IsStanding d lines below → IsFacility d
facility d lines below st = record {
  kept = record {
    distinct = st.journal.distinct;
    far = st.journal.far;
    keeps = λ i k e other x y p. keeps_cube d lines below i k e other st x y p;
    named = st.journal.named;
    alone = λ i e x none. none_got e.got (HasPartner d.ends e) (λ j y h. st.journal.met i j e y x h) none;
    whole = st.journal.whole;
  };
  ports = st.ports;
  promises = promises d.config st.config;
}
