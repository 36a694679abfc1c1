-- A far end is added to the flows of a DIF, once its CEP-id is drawn.
use Rattle.std.proofs.Common.{◌≡◌, ◌∙◌, ℕ, ◌-◌, ◌^◌, ◌<◌, Bool, true, false, cond, nat_lt, List, [], ◌∷◌, ◌++◌, length, slice_get, Option, Some, None, Result, Ok, Err, OnOk, refl, sym, ap, subst, arith}
use Rattle.std.specs.Prelude.{◌≤◌, option_and_then}
use Rattle.std.proofs.lemmas.Bool.{ltb-false, ltb-true}
use Rattle.std.proofs.lemmas.List.{length-map}
use Rattle.std.proofs.lemmas.Option.{same_Some}
use Rattle.rina_base.specs.declared.memory.Memory.{Memory}
use Rattle.rina_conn.specs.declared.form.Peer.{Peer}
use Rattle.rina_cube.specs.declared.Cube.{Cube}
use Rattle.rina_ids.specs.declared.members.Draw.{Draw}
use Rattle.rina_ids.specs.Ids.{free_id}
use Rattle.rina_ids.specs.Members.{CepIds, DrawsAt, IsDrawnAt, with_drawn}
use Rattle.rina_iface.specs.declared.ends.End.{End}
use Rattle.rina_data.specs.declared.settings.Settings.{Settings}
use Rattle.rina_iface.specs.Ends.{drawn_at}
use Rattle.rina_data.specs.Configs.{config_of, cube_by, greatest, member_of, piece_size}
use Rattle.rina_data.proofs.Finding.{there}
use Rattle.rina_flows.specs.declared.flows.Flows.{Flows}
use Rattle.rina_flows.specs.Adding.{AddsFar}
use Rattle.rina_flows.specs.Elsewhere.{SameBut}
use Rattle.rina_dif.specs.declared.dif.Dif.{Dif}
use Rattle.rina_dif.specs.Allocating.{spent_by, spent_ids}
use Rattle.rina_dif.specs.FarMaking.{AddsFarEnd, DrawsFarEnd}
use Rattle.rina_dif.specs.Whole.{IsDif}

pub adds_far : (settings : Settings) (piece max : ℕ) (cube : Cube) (peer : Peer) (end : End) (old new : Flows) (r : Result (Unit {0}) Memory) → cube_by end.cube settings.cubes ≡ Some cube → piece ≡ piece_size (config_of settings) → max ≡ greatest (config_of settings)
    → OnOk r (new.journal.ends ≡ old.journal.ends ++ end ∷ []) → OnOk r (AddsFar cube piece max peer end old new) → OnOk r (SameBut (λ i. length old.conns ≤ i) old.conns new.conns) → OnOk r (AddsFarEnd settings peer end old new)
adds_far settings piece max cube peer end old new (Ok done) is_cube piece_is max_is ends adds keeps =
    let g = config_of settings in
    record {
      cube = cube;
      is_cube = is_cube;
      ends = ends;
      adds = subst (λ (m : ℕ). AddsFar cube (piece_size g) m peer end old new) max_is (subst (λ (p : ℕ). AddsFar cube p max peer end old new) piece_is adds);
      keeps = keeps;
    }
adds_far settings piece max cube peer end old new (Err e) is_cube piece_is max_is ends adds keeps = ends

-- the id that was drawn is the one that was to be drawn
pub draws_far : (d : Dif) (at : ℕ) (peer : Peer) (end : End) (flows : Flows) (held : List CepIds) (draw : Draw) → DrawsAt d.ids d.clock at peer.scep → IsDrawnAt d.ids d.clock at draw held → AddsFarEnd d.settings peer end d.flows flows → DrawsFarEnd at peer end d (record d { flows = flows; ids = held })
draws_far d at peer end flows held draw draws drew adds =
    let ids : drew.draws.ids ≡ draws.ids = same_Some drew.draws.ids draws.ids (sym drew.draws.are_ids ∙ draws.are_ids) in
    let cep : draw.cep ≡ peer.scep = same_Some draw.cep peer.scep (sym drew.draws.least ∙ ap (λ (z : CepIds). free_id z.0 d.clock z.1) ids ∙ draws.least) in
    record {
      adds = adds;
      draws = draws;
      ids = drew.after_is ∙ (λ i. with_drawn at (ids i) (cep i) d.ids);
      whole = refl;
    }

-- What is free where ids and ports are not spent

lt_of : (drawn most used : ℕ) (b : Bool) → nat_lt drawn most ≡ b → cond b None (Some used) ≡ None → drawn < most
lt_of drawn most used true is none = ltb-true drawn most is
lt_of drawn most used false is none = absurd cc

unspent_by : (free : Option ℕ) (greatest drawn : ℕ) → spent_by free greatest drawn ≡ None → (cep : ℕ) × (free ≡ Some cep) × (drawn < 2 ^ 32 - 1) × (cep ≤ greatest)
unspent_by None greatest drawn none = absurd cc
unspent_by (Some cep) greatest drawn none = go (nat_lt greatest cep) refl none
  where
    go : (b : Bool) → nat_lt greatest cep ≡ b → cond b (Some greatest) (cond (nat_lt drawn (2 ^ 32 - 1)) None (Some (2 ^ 32 - 1))) ≡ None → (id : ℕ) × (Some cep ≡ Some id) × (drawn < 2 ^ 32 - 1) × (id ≤ greatest)
    go true is left = absurd cc
    go false is left = (cep, refl, lt_of drawn (2 ^ 32 - 1) (2 ^ 32 - 1) (nat_lt drawn (2 ^ 32 - 1)) refl left, ltb-false greatest cep is)

-- the ids of a member, one of which is free
pub record IsUnspent (d : Dif) (at node : ℕ) : Type 0 where
  pub ids : CepIds
  pub are_ids : slice_get d.ids at ≡ Some ids
  pub cep : ℕ
  pub free : free_id ids.0 d.clock ids.1 ≡ Some cep
  pub few : drawn_at node d.flows.journal.ends < 2 ^ 32 - 1
  pub fits : cep ≤ ids.0

pub unspent : (d : Dif) → IsDif d → (at node : ℕ) → at < length d.settings.members → spent_ids d at node ≡ None → IsUnspent d at node
unspent d is at node lt none =
    let same = is.stands.1.numbered.drawn.aligned in
    let ids = there d.ids at (omega (arith, lt, same, length-map d.settings.members member_of)) in
    let u = unspent_by (free_id ids.0.0 d.clock ids.0.1) ids.0.0 (drawn_at node d.flows.journal.ends) (ap (option_and_then (λ (z : CepIds). spent_by (free_id z.0 d.clock z.1) z.0 (drawn_at node d.flows.journal.ends))) (sym ids.1) ∙ none) in
    record { ids = ids.0; are_ids = ids.1; cep = u.0; free = u.1; few = u.2; fits = u.3 }

pub draws_ok : (d : Dif) (at : ℕ) (peer : Peer) (end : End) (flows : Flows) (held : List CepIds) (draw : Draw) (r : Result (Unit {0}) Memory) → DrawsAt d.ids d.clock at peer.scep → IsDrawnAt d.ids d.clock at draw held → OnOk r (AddsFarEnd d.settings peer end d.flows flows) → OnOk r (DrawsFarEnd at peer end d (record d { flows = flows; ids = held }))
draws_ok d at peer end flows held draw (Ok done) draws drew adds = draws_far d at peer end flows held draw draws drew adds
draws_ok d at peer end flows held draw (Err e) draws drew adds = tt
