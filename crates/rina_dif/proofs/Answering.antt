-- The answer of yes binds the end that asked, where its far end stands.
use Rattle.std.proofs.Common.{◌≡◌, ◌∙◌, ℕ, ◌<◌, List, length, slice_get, Some, Result, Err, refl, sym, ap, subst, arith}
use Rattle.std.proofs.lemmas.Option.{same_Some, slice_get_within}
use Rattle.rina_base.specs.declared.memory.Memory.{Memory}
use Rattle.rina_conn.specs.declared.conn.Conn.{Conn}
use Rattle.rina_iface.specs.declared.ends.End.{End}
use Rattle.rina_iface.specs.declared.state.Role.TheVariants.{Asker, Far}
use Rattle.rina_iface.specs.Journal.{At, IsPartner}
use Rattle.rina_iface.specs.Seen.{Seen}
use Rattle.rina_law.specs.Direction.{Direction}
use Rattle.rina_data.specs.Configs.{Config, config_of}
use Rattle.rina_dif_law.specs.Answering.{IsAnsweredTo}
use Rattle.rina_dif_law.specs.Cloud.{Cloud, Everywhere}
use Rattle.rina_dif_law.specs.Dif.{DifSeen}
use Rattle.rina_dif_law.specs.Ids.{Ids}
use Rattle.rina_dif_law.specs.Standing.{IsConn}
use Rattle.rina_dif_law.proofs.Finding.{beside}
use Rattle.rina_dif_law.proofs.Own.{partner_back}
use Rattle.rina_member.specs.declared.management.Management.{Management}
use Rattle.rina_flows.specs.declared.flows.Flows.{Flows}
use Rattle.rina_flows.specs.Adding.{Binds, CanBind, HasBound}
use Rattle.rina_flows.specs.Tied.{ids_of}
use Rattle.rina_flows.proofs.Framed.{ids_at}
use Rattle.rina_dif.specs.declared.dif.Dif.{Dif}
use Rattle.rina_dif.specs.Changing.{with_flow_at}
use Rattle.rina_dif.specs.FlowAnswers.{BindsEnd, HasBoundEnd, StandsFar, WaitsAtHome}
use Rattle.rina_dif.specs.Freeing.{IsKept}
use Rattle.rina_dif.specs.Holding.{Holds}
use Rattle.rina_dif.specs.Shown.{seen_of}
use Rattle.rina_dif.specs.Whole.{IsDif}
use Rattle.rina_dif.proofs.FarMakes.{kept_same, shown_agents}
use Rattle.rina_dif.proofs.FlowRows.{after, told_holds}
use Rattle.rina_dif.proofs.Showing.{holds_shown}
use Rattle.rina_dif.proofs.Untaken.{untaken_line}

module _ (d : Dif) (lines : List Direction) (below : Seen) (h : Holds d lines below) (at place far_at : ℕ) (w : WaitsAtHome d at place) (f : StandsFar d place far_at) (flows : Flows) where
  abbrev seen : DifSeen
  seen = seen_of d

  abbrev g : Config
  g = config_of d.settings

  abbrev far : End
  far = (f.far w.end w.is_end).end

  abbrev its : Conn
  its = (f.far w.end w.is_end).conn

  is_far : IsConn seen.ends seen.conns far_at far (ids_of its)
  is_far = (let x = f.far w.end w.is_end in record { end = x.is_at.end_is; ids_are = ids_at d.flows.conns far_at its x.is_at.conn_is })

  partners : IsPartner w.end far
  partners =
      let x = f.far w.end w.is_end in
      record { same_flow = x.same; other_role = λ e. (let clash : Far ≡ Asker = sym x.is_far ∙ e ∙ w.asks in cc) }

  can : CanBind d.flows.journal.ends lines place w.end
  can =
      let line = beside d.flows.journal.ends lines far_at far h.tied.lines_alike is_far.end in
      let conn = beside d.flows.journal.ends d.flows.conns place w.end h.tied.alike w.is_end in
      let is_conn : IsConn seen.ends seen.conns place w.end (ids_of conn.0) = record { end = w.is_end; ids_are = ids_at d.flows.conns place conn.0 conn.1 } in
      let u = untaken_line g d.clock (Cloud Everywhere g seen.processes below) d.ids seen.ends seen.conns lines h.standing.own place far_at w.end far (ids_of conn.0) (ids_of its) line.0 is_conn is_far partners w.waits line.1 in
      record {
        is_end = w.is_end;
        waits = w.waits;
        from = far_at;
        line = line.0;
        inbound = record { partner = far; is_partner = is_far.end; partners = partner_back w.end far partners; is_line = line.1 };
        constants = u.0;
        untaken = u.1;
      }

  module _ (binds : Binds place its.sending.form.peer.scep d.flows flows) where
    bound : HasBound g d.clock place its.sending.form.peer.scep w.end d.flows lines flows
    bound = binds g d.clock lines w.end h.standing.journal h.tied can

    pub answered : IsAnsweredTo seen place (seen_of (after d flows d.ids d.waiting lines below h))
    answered = record {
      asker = w.end;
      ids = ids_of bound.conn;
      is_conn = record { end = w.is_end; ids_are = ids_at d.flows.conns place bound.conn bound.is_conn };
      waits = w.waits;
      far_at = far_at;
      far = far;
      far_ids = ids_of its;
      is_far = is_far;
      partners = partners;
      new_is = (let ends = bound.ends in let conns = bound.ids in λ i. record seen { ends = ends i; conns = conns i });
    }

    answered_ids : answered.ids ≡ ids_of bound.conn
    unfolding answered
    answered_ids = refl

    pub bound_holds : Holds (after d flows d.ids d.waiting lines below h) lines below
    bound_holds = told_holds d flows d.ids d.waiting lines below h place bound.tied answered

-- What the call does

abbrev still_waits : (d : Dif) (ms : List Management) (at place : ℕ) → WaitsAtHome d at place → WaitsAtHome (record d { managements = ms }) at place
still_waits d ms at place w = record { end = w.end; is_end = w.is_end; asks = w.asks; waits = w.waits; at_home = w.at_home }

abbrev still_stands : (d : Dif) (ms : List Management) (place far_at : ℕ) → StandsFar d place far_at → StandsFar (record d { managements = ms }) place far_at
still_stands d ms place far_at f = record {
  own = f.own;
  cep = f.cep;
  far = λ end is. (let x = f.far end is in record { end = x.end; conn = x.conn; is_at = x.is_at; is_far = x.is_far; same = x.same; own_is = x.own_is; cep_is = x.cep_is });
}

pub binds_end : (d : Dif) (at place far_at : ℕ) (w : WaitsAtHome d at place) (f : StandsFar d place far_at) (flows : Flows) (ms : List Management) (conn other : Conn) → slice_get d.flows.conns place ≡ Some conn → slice_get d.flows.conns far_at ≡ Some other → ms ≡ with_flow_at at conn.sending.form.peer.scep d.managements → Binds place other.sending.form.peer.scep d.flows flows
    → (lines : List Direction) (below : Seen) → Holds d lines below → HasBoundEnd d lines below at place (record d { flows = flows; managements = ms })
binds_end d at place far_at w f flows ms conn other is_conn is_other shown binds lines below h =
    let dm : Dif = record d { managements = ms } in
    let hm = holds_shown d lines below ms (shown_agents at conn.sending.form.peer.scep d.managements ms shown) h in
    let w' = still_waits d ms at place w in
    let f' = still_stands d ms place far_at f in
    let x = f.far w.end w.is_end in
    let same : other ≡ x.conn = same_Some other x.conn (sym is_other ∙ x.is_at.conn_is) in
    let binds' : Binds place x.conn.sending.form.peer.scep d.flows flows = subst (λ (k : Conn). Binds place k.sending.form.peer.scep d.flows flows) same binds in
    let has = bound dm lines below hm at place far_at w' f' flows binds' in
    let conn_is : conn ≡ has.conn = same_Some conn has.conn (sym is_conn ∙ has.is_conn) in
    record {
      answered = answered dm lines below hm at place far_at w' f' flows binds';
      managed = shown ∙ ap (λ (k : Conn). with_flow_at at k.sending.form.peer.scep d.managements) conn_is ∙ ap (λ (i : Ids). with_flow_at at i.scep d.managements) (sym (answered_ids dm lines below hm at place far_at w' f' flows binds'));
      holds = bound_holds dm lines below hm at place far_at w' f' flows binds';
    }

pub binds_err : (d : Dif) (at place : ℕ) (ms : List Management) (r : Result (Unit {0}) Memory) (e : Memory) → r ≡ Err e → ms ≡ d.managements → (lines : List Direction) (below : Seen) → Holds d lines below → BindsEnd d lines below at place r (record d { managements = ms })
binds_err d at place ms r e is are lines below h =
    subst (λ (z : Result (Unit {0}) Memory). BindsEnd d lines below at place z (record d { managements = ms })) (sym is)
    (subst (λ (zs : List Management). IsKept d lines below (record d { managements = zs })) (sym are) (kept_same d lines below h))

-- the places of its calls
pub within_conns : (d : Dif) → IsDif d → (place : ℕ) (e : End) → At d.flows.journal.ends place e → place < length d.flows.conns
within_conns d is place e here = (let lt = slice_get_within d.flows.journal.ends place e here in let same = is.stands.1.tied.alike in omega (arith, lt, same))
