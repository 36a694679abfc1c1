-- A DIF that stands on the rank below is lawful.
use Rattle.std.proofs.Common.{◌≡◌, ◌∙◌, ℕ, List, Some, slice_get, ap, sym, subst, inl, inr}
use Rattle.std.proofs.lemmas.Option.{same_Some}
use Rattle.rina_cube.specs.declared.Cube.{Cube}
use Rattle.rina_iface.specs.declared.ends.End.{End}
use Rattle.rina_iface.specs.declared.state.PortState.TheVariants.{Allocated}
use Rattle.rina_iface.specs.Journal.{At, IsPartner}
use Rattle.rina_iface.specs.Seen.{Seen}
use Rattle.rina_law.specs.Direction.{Direction}
use Rattle.rina_law.specs.Lawful.{IsAbsentByClock}
use Rattle.rina_law.proofs.Lawfulness.{absent_by_clock, lawful_from}
use Rattle.rina_rest.specs.Flows.{Asker, Endpoint, Far, Flow, IsSameFour as AreSameEnds, Side}
use Rattle.rina_dif_law.specs.Cloud.{Cloud, Everywhere}
use Rattle.rina_dif_law.specs.Dif.{DifSeen, constants}
use Rattle.rina_dif_law.specs.Ids.{Ids, flipped}
use Rattle.rina_dif_law.specs.Lawful.{AreLawful, HaveSameNames, IsEndInUse, IsSameFour}
use Rattle.rina_data.specs.Configs.{cube_by}
use Rattle.rina_dif_law.specs.Places.{Place, ids_from}
use Rattle.rina_dif_law.specs.Standing.{IsConn, IsStanding}
use Rattle.rina_dif_law.proofs.Finding.{cube_limits}
use Rattle.rina_dif_law.proofs.Own.{out_ids, out_used, pair}
use Rattle.rina_dif_law.proofs.Placed.{opposite, qos_from, used_up}

-- the ids of an end, by the other end
turned : (s : Side) (f : Flow) (far : Endpoint) (qos : ℕ) (c : Ids) → HaveSameNames (flipped (ids_from s f far qos)) c → HaveSameNames (ids_from (opposite s) f far qos) c
turned Asker f far qos c h = record { own = h.own; far = h.far; scep = h.scep; dcep = h.dcep }
turned Far f far qos c h = record { own = h.own; far = h.far; scep = h.scep; dcep = h.dcep }

-- two connections of which two ends have the same names have the same ends
same_ends : (s t : Side) (f g : Flow) (x y : Endpoint) (p q : ℕ) → HaveSameNames (ids_from s f x p) (ids_from t g y q) → AreSameEnds f.asker x g.asker y
same_ends Asker Asker f g x y p q h = inl ((h.own, h.scep), (h.far, h.dcep))
same_ends Asker Far f g x y p q h = inr ((h.own, h.scep), (h.far, h.dcep))
same_ends Far Asker f g x y p q h = inr ((h.far, h.dcep), (h.own, h.scep))
same_ends Far Far f g x y p q h = inl ((h.far, h.dcep), (h.own, h.scep))

-- in either order
same_four : (s t : Side) (f g : Flow) (x y : Endpoint) (p q : ℕ) → IsSameFour (ids_from s f x p) (ids_from t g y q) → AreSameEnds f.asker x g.asker y
same_four s t f g x y p q (inl h) = same_ends s t f g x y p q h
same_four s t f g x y p q (inr h) = same_ends (opposite s) t f g x y p q (turned s f x p (ids_from t g y q) h)

module _ (d : DifSeen) (lines : List Direction) (below : Seen) (st : IsStanding d lines below) where
  -- an allocated end is one of a connection in use
  used_now : (i : ℕ) (e : End) (ids : Ids) → IsConn d.ends d.conns i e ids → e.state ≡ Allocated → IsEndInUse d.clock st.own.flows st.own.places i e ids
  used_now i e ids conn allocated =
      let met = st.journal.allocated i e conn.end allocated in
      let cloud = Cloud Everywhere d.config d.processes below in
      let q = pair d.config d.clock cloud d.ids d.ends d.conns lines st.own i met.place e met.other conn.end met.stands met.partner in
      record {
        place = q.x;
        is_place = q.is_x;
        flow = q.flow;
        stands = q.stands;
        used = used_up d.clock q.x.side q.flow q.far q.known (out_used d.config d.clock cloud d.ids d.ends d.conns lines st.own i e ids q.x q.flow q.far conn allocated q.is_x q.stands q.known);
        ids_are = sym (out_ids d.config d.clock cloud d.ids d.ends d.conns lines st.own i e ids q.x q.flow q.far conn allocated q.is_x q.stands q.known);
      }

  -- no two connections in use have the same names, but for the ends of one flow
  apart_now : (i k : ℕ) (a b : End) (c f : Ids) → At d.ends i a → At d.ends k b → IsEndInUse d.clock st.own.flows st.own.places i a c → IsEndInUse d.clock st.own.flows st.own.places k b f → IsSameFour c f → a.flow ≡ b.flow
  apart_now i k a b c f is_a is_b x y same =
      let left : IsSameFour (ids_from x.place.side x.flow x.used.far a.cube) f = subst (λ (z : Ids). IsSameFour z f) x.ids_are same in
      let both : IsSameFour (ids_from x.place.side x.flow x.used.far a.cube) (ids_from y.place.side y.flow y.used.far b.cube) = subst (λ (z : Ids). IsSameFour (ids_from x.place.side x.flow x.used.far a.cube) z) y.ids_are left in
      let one = st.own.ledger.fours x.place.flow y.place.flow x.flow y.flow x.used y.used x.stands y.stands (same_four x.place.side y.place.side x.flow y.flow x.used.far y.used.far a.cube b.cube both) in
      st.own.entered.named i k a b x.place y.place is_a is_b x.is_place y.is_place one

  -- each state ends by the clock
  absent_now : (i k : ℕ) (a b : End) (x : Place) (flow : Flow) (far : Endpoint) (line : Direction) (cube : Cube) → At d.ends i a → At d.ends k b → IsPartner a b → slice_get st.own.places i ≡ Some x → slice_get st.own.flows x.flow ≡ Some flow → flow.far ≡ Some far → slice_get lines i ≡ Some line
      → cube_by a.cube d.config.cubes ≡ Some cube → IsAbsentByClock (constants d.config cube (ids_from x.side flow far a.cube)) line
  absent_now i k a b x flow far line cube is_a is_b p is_x stands known is_line is_cube =
      let c = ids_from x.side flow far a.cube in
      let h = (st.own.flows_are i k a b x flow far line is_a is_b p is_x stands known is_line).direction in
      let same : h.cube ≡ cube = same_Some h.cube cube (sym h.is_cube ∙ ap (λ (q : ℕ). cube_by q d.config.cubes) (qos_from x.side flow far a.cube) ∙ is_cube) in
      subst (λ (z : Cube). IsAbsentByClock (constants d.config z c) line) same (absent_by_clock (constants d.config h.cube c) line (cube_limits d.config c.qos h.cube st.config h.is_cube) h.backed.holds)

pub are_lawful : (d : DifSeen) (lines : List Direction) (below : Seen) → IsStanding d lines below → AreLawful d lines below
are_lawful d lines below st = record {
  flows = st.own.flows;
  places = st.own.places;
  entered = st.own.entered;
  ledger = st.own.ledger;
  each = λ i k a b x flow far line is_a is_b p is_x stands known is_line.
      (let c = ids_from x.side flow far a.cube in
      let h = (st.own.flows_are i k a b x flow far line is_a is_b p is_x stands known is_line).direction in
      record {
        cube = h.cube;
        is_cube = h.is_cube;
        clock = h.backed.clock;
        sent = h.sent;
        got = h.got;
        pieces = λ death p used one alive. h.backed.pieces_in death p (used, one) alive;
        acks = λ death k used one alive. h.backed.acks_in death k (used, one) alive;
        lawful = lawful_from (constants d.config h.cube c) line (cube_limits d.config c.qos h.cube st.config h.is_cube) h.backed.holds;
      });
  used = used_now d lines below st;
  apart = apart_now d lines below st;
  by_clock = absent_now d lines below st;
}
