-- What two members that draw CEP-ids for a flow make of the managements.
use Rattle.std.proofs.Common.{◌≡◌, ◌≢◌, ℕ, ◌<◌, List, length, length-set, map, slice_get, Option, Some, None, Result, Ok, Err, OnOk, OnErr, option_map, refl, sym, ◌∙◌, ap, subst, arith}
use Rattle.std.proofs.lemmas.List.{length-map}
use Rattle.std.proofs.lemmas.Option.{same_Some, slice_get-map, slice_get_within}
use Rattle.rina_base.specs.declared.memory.Memory.{Memory}
use Rattle.rina_conn.specs.declared.form.Peer.{Peer}
use Rattle.rina_flows.specs.declared.flows.Flows.{Flows}
use Rattle.rina_ids.specs.declared.members.Draw.{Draw}
use Rattle.rina_ids.specs.Ids.{drawn, free_id}
use Rattle.rina_ids.specs.Members.{AreDrawnAt, CepIds, DrawsAt, with_drawn}
use Rattle.rina_iface.specs.declared.ask.Registered.{Registered}
use Rattle.rina_iface.proofs.Changed.{slice_get-set_other}
use Rattle.rina_iface.specs.declared.ask.Fixed.{Fixed}
use Rattle.rina_data.specs.declared.settings.Member.{Member as Kept}
use Rattle.rina_data.specs.Configs.{Member, member_of}
use Rattle.rina_data.proofs.Finding.{there}
use Rattle.rina_dif_law.specs.Binding.{MayDraw}
use Rattle.rina_member.specs.declared.management.Management.{Management}
use Rattle.rina_member.specs.Managements.{entered, with_flow}
use Rattle.rina_dif.specs.declared.dif.Dif.{Dif}
use Rattle.rina_dif.specs.declared.fixed_flows.NextEnd.{NextEnd}
use Rattle.rina_dif.specs.Binding.{Draws, HaveDrawn, MayBind}
use Rattle.rina_dif.specs.Changing.{ManagesBind, MayHaveEntered, MayHoldFar, changed_at, changed_if, with_flow_at}
use Rattle.rina_dif.specs.Elsewhere.{home_of}
use Rattle.rina_dif.specs.Shown.{seen_of}
use Rattle.rina_dif.specs.Whole.{IsDif}
use Rattle.rina_dif.proofs.Bound.{at_its_node}
use Rattle.rina_dif.proofs.Entered.{far_entered}

-- the member that draws
record IsDrawer (d : Dif) (node : ℕ) (drawn : NextEnd) : Type 0 where
  member : Kept
  stands : slice_get d.settings.members drawn.place ≡ Some member
  addr : drawn.addr ≡ member.addr
  at_home : home_of d node ≡ Some drawn.place

drawer : (d : Dif) (node : ℕ) (drawn : NextEnd) (member : Member) (may : MayDraw (seen_of d) node member) → Draws d node drawn → IsDrawer d node drawn
drawer d node drawn member may draws =
    let next = draws member may in
    let members = d.settings.members in
    let stands : slice_get (map member_of members) drawn.place ≡ Some member = subst (λ (k : ℕ). slice_get (map member_of members) k ≡ Some member) (sym next.place) may.stands in
    let within = slice_get_within (map member_of members) drawn.place member stands in
    let kept = there members drawn.place (omega (arith, within, length-map members member_of)) in
    let same : member_of kept.0 ≡ member = same_Some (member_of kept.0) member (sym (slice_get-map member_of members drawn.place ∙ ap (option_map member_of) kept.1) ∙ stands) in
    record {
      member = kept.0;
      stands = kept.1;
      addr = next.addr ∙ ap (λ (z : Member). z.addr) (sym same);
      at_home = may.at_home ∙ ap Some (sym next.place);
    }

module _ (d : Dif) (fixed : Fixed) (may : MayBind d fixed) (near other : NextEnd) (a_draws : Draws d fixed.a near) (b_draws : Draws d fixed.b other) where
  pub far_took : (new : List Management) → MayHaveEntered fixed.b_app other.addr d.managements new → MayHoldFar d fixed new
  far_took new took =
      let b = drawer d fixed.b other may.of_b may.at_b b_draws in
      far_entered d fixed other.place b.member new b.at_home b.stands (subst (λ (n : ℕ). MayHaveEntered fixed.b_app n d.managements new) b.addr took)

  pub manages_bind : (new : List Management) → new ≡ with_flow_at other.place other.cep (with_flow_at near.place near.cep (map (entered fixed.b_app other.addr) d.managements)) → ManagesBind d fixed new
  manages_bind new is =
      let a = drawer d fixed.a near may.of_a may.at_a a_draws in
      let b = drawer d fixed.b other may.of_b may.at_b b_draws in
      record {
        a = near.place;
        at_a = a.at_home;
        b = other.place;
        at_b = b.at_home;
        far = b.member;
        is_far = b.stands;
        scep = near.cep;
        draws_a = (a_draws may.of_a may.at_a).cep;
        dcep = other.cep;
        draws_b = (b_draws may.of_b may.at_b).cep;
        are = is ∙ ap (λ (n : ℕ). with_flow_at other.place other.cep (with_flow_at near.place near.cep (map (entered fixed.b_app n) d.managements))) b.addr;
      }

  -- both places are of members, and two
  pub near_within : near.place < length d.settings.members
  near_within = (let a = drawer d fixed.a near may.of_a may.at_a a_draws in slice_get_within d.settings.members near.place a.member a.stands)

  pub other_within : other.place < length d.settings.members
  other_within = (let b = drawer d fixed.b other may.of_b may.at_b b_draws in slice_get_within d.settings.members other.place b.member b.stands)

  pub ok_bind : (r : Result (Unit {0}) Memory) (before new : List Management) → before ≡ with_flow_at near.place near.cep (map (entered fixed.b_app other.addr) d.managements) → OnOk r (new ≡ with_flow_at other.place other.cep before) → OnOk r (ManagesBind d fixed new)
  ok_bind (Ok done) before new was is = manages_bind new (is ∙ ap (with_flow_at other.place other.cep) was)
  ok_bind (Err e) before new was is = tt

  pub places_apart : near.place ≢ other.place
  places_apart same =
      let a = drawer d fixed.a near may.of_a may.at_a a_draws in
      let b = drawer d fixed.b other may.of_b may.at_b b_draws in
      let next = a_draws may.of_a may.at_a in
      let next' = b_draws may.of_b may.at_b in
      let ms = map member_of d.settings.members in
      let one : may.of_a ≡ may.of_b = (let x = may.at_a.stands in let y = may.at_b.stands in let p = next.place in let q = next'.place in cc) in
      may.apart (sym (at_its_node ms fixed.a may.at_a.place may.of_a may.at_a.at_home may.at_a.stands) ∙ ap (λ (z : Member). z.node) one ∙ at_its_node ms fixed.b may.at_b.place may.of_b may.at_b.at_home may.at_b.stands)

  pub drawn_a : DrawsAt d.ids d.clock near.place near.cep
  drawn_a = (a_draws may.of_a may.at_a).cep

  pub drawn_b : DrawsAt d.ids d.clock other.place other.cep
  drawn_b = (b_draws may.of_b may.at_b).cep

-- a management for each member, whatever they hold and show
many_managements : (d : Dif) → IsDif d → length d.managements ≡ length d.settings.members
many_managements d is = is.stands.1.managed.aligned

pub entered_within : (d : Dif) → IsDif d → (app : List ℕ) (address at : ℕ) (new : List Management) → new ≡ map (entered app address) d.managements → at < length d.settings.members → at < length new
entered_within d is app address at new new_is lt = (let many = many_managements d is in let long = ap (λ (ms : List Management). length ms) new_is ∙ length-map d.managements (entered app address) in omega (arith, many, long, lt))

pub changed_length : (at : ℕ) (f : Management → Management) (ms : List Management) → length (changed_at at f ms) ≡ length ms
changed_length at f ms = go (slice_get ms at)
  where
    go : (o : Option Management) → length (changed_if o at f ms) ≡ length ms
    go None = refl
    go (Some m) = length-set ms at (f m)

pub shown_within : (d : Dif) → IsDif d → (app : List ℕ) (address at cep other : ℕ) (between new : List Management) → between ≡ map (entered app address) d.managements → new ≡ with_flow_at at cep between → other < length d.settings.members → other < length new
shown_within d is app address at cep other between new between_is new_is lt =
    let within = entered_within d is app address other between between_is lt in
    let long : length new ≡ length between = ap (λ (ms : List Management). length ms) new_is ∙ changed_length at (λ m. with_flow m cep) between in
    omega (arith, within, long)

-- ---- both draw, and the ends are added, or the draws are taken back

pub have_drawn : (held after : List CepIds) (now : ℕ) (places : ℕ × ℕ) (peer : Peer) (draws : Draw × Draw) → DrawsAt held now places.0 peer.scep → DrawsAt held now places.1 peer.dcep → places.0 ≢ places.1 → AreDrawnAt held now places.0 places.1 draws after → HaveDrawn held now places peer after
have_drawn held after now places peer draws a b apart drew =
    let first = drew.first.draws in
    let second = drew.second.draws in
    let ids_a : first.ids ≡ a.ids = same_Some first.ids a.ids (sym first.are_ids ∙ a.are_ids) in
    let cep_a : draws.0.cep ≡ peer.scep = same_Some draws.0.cep peer.scep (sym first.least ∙ ap (λ (z : CepIds). free_id z.0 now z.1) ids_a ∙ a.least) in
    let still : slice_get drew.between places.1 ≡ Some b.ids = ap (λ (hs : List CepIds). slice_get hs places.1) drew.first.after_is ∙ slice_get-set_other held places.0 places.1 (first.ids.0, drawn first.ids.1 draws.0.cep) (λ e. apart (sym e)) ∙ b.are_ids in
    let ids_b : second.ids ≡ b.ids = same_Some second.ids b.ids (sym second.are_ids ∙ still) in
    let cep_b : draws.1.cep ≡ peer.dcep = same_Some draws.1.cep peer.dcep (sym second.least ∙ ap (λ (z : CepIds). free_id z.0 now z.1) ids_b ∙ b.least) in
    record {
      a = a;
      b = b;
      after_is = drew.second.after_is ∙ ap (λ (hs : List CepIds). with_drawn places.1 second.ids draws.1.cep hs) drew.first.after_is ∙ (λ i. with_drawn places.1 (ids_b i) (cep_b i) (with_drawn places.0 (ids_a i) (cep_a i) held));
    }

pub added_ids : (d d1 d2 : Dif) (places : ℕ × ℕ) (peer : Peer) (r : Result (Unit {0}) Memory) (flows : Flows) (names : List Registered) → HaveDrawn d.ids d.clock places peer d1.ids → OnOk r (d2 ≡ record d1 { flows = flows; names = names }) → OnOk r (HaveDrawn d.ids d.clock places peer d2.ids)
added_ids d d1 d2 places peer (Ok done) flows names drew rest = subst (HaveDrawn d.ids d.clock places peer) (sym (ap (λ (z : Dif). z.ids) rest)) drew
added_ids d d1 d2 places peer (Err e) flows names drew rest = tt

pub undone_dif : (d d1 d2 : Dif) (ids : List CepIds) (r : Result (Unit {0}) Memory) → d1 ≡ record d { ids = d1.ids } → ids ≡ d.ids → OnErr r (d2 ≡ d1) → OnErr r (record d2 { ids = ids } ≡ d)
undone_dif d d1 d2 ids (Ok done) whole back same = tt
undone_dif d d1 d2 ids (Err e) whole back same = ap (λ (z : Dif). record z { ids = ids }) (same ∙ whole) ∙ ap (λ (hs : List CepIds). record d { ids = hs }) back

pub undone_added : (d d1 d2 : Dif) (ids : List CepIds) (places : ℕ × ℕ) (draws : Draw × Draw) (r : Result (Unit {0}) Memory) → d1 ≡ record d { ids = d1.ids } → AreDrawnAt d.ids d.clock places.0 places.1 draws d1.ids → ((held : List CepIds) (now : ℕ) → AreDrawnAt held now places.0 places.1 draws d2.ids → ids ≡ held) → OnErr r (d2 ≡ d1) → OnErr r (record d2 { ids = ids } ≡ d)
undone_added d d1 d2 ids places draws (Ok done) whole drew back same = tt
undone_added d d1 d2 ids places draws (Err e) whole drew back same =
    undone_dif d d1 d2 ids (Err e) whole (back d.ids d.clock (subst (AreDrawnAt d.ids d.clock places.0 places.1 draws) (sym (ap (λ (z : Dif). z.ids) same)) drew)) same
