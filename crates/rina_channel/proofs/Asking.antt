-- A flow below that a member just asked for is new.
use Rattle.std.proofs.Common.{◌≡◌, ℕ, List, slice_get, Some, None, Option, refl, sym, ◌∙◌, ap, subst, inl, inr}
use Rattle.rina_base.specs.declared.number.Port.{Port}
use Rattle.rina_base.specs.declared.pdu.Pdu.{Pdu}
use Rattle.rina_iface.specs.declared.ends.End.{End}
use Rattle.rina_iface.specs.declared.state.Role.{Role}
use Rattle.rina_iface.specs.declared.state.Role.TheVariants.{Asker, Far}
use Rattle.rina_iface.specs.Journal.{AreKept}
use Rattle.rina_iface.specs.Seen.{Fac, Seen, end_of}
use Rattle.rina_iface.proofs.Found.{end_of_stands, found, its_port, stands_later, stands_there}
use Rattle.rina_law.specs.Direction.{Direction}
use Rattle.rina_data.specs.Process.{Process}
use Rattle.rina_dif_law.specs.Lifting.{IsLifted}
use Rattle.rina_channel.specs.declared.channel.Attachment.{Attachment}
use Rattle.rina_channel.specs.declared.channel.Channel.{Channel}
use Rattle.rina_channel.specs.Channels.{AreChannels, ChannelsSeen, HasLive, IsFlowBelow, IsSilent, IsUnclaimed}
use Rattle.rina_channel.specs.LinkCloud.{IsOn}
use Rattle.rina_channel.specs.Making.{IsAskedBelow, IsNewFlow, IsNewLink}
use Rattle.rina_channel.specs.Standing.{IsStanding}
use Rattle.rina_channel.proofs.Below.{end_by, ends_go_on, ends_same, facs_same, links_same, none_in, one_role}

none_of : (o : Option End) → ((e : End) → o ≡ Some e → ⊥) → o ≡ None
none_of None none = refl
none_of (Some e) none = absurd (none e refl)

none_some : (o : Option End) (e : End) → o ≡ None → o ≡ Some e → ⊥
none_some o e h g = cc

module _ (m : ChannelsSeen) (lines : List Direction) (ps : List Process) (old new : Seen) (near far : Channel) (link : Attachment) (kept : AreKept old) (kept' : AreKept new) (st : IsStanding m lines ps old) (lifted : IsLifted m.config old new) (a : IsAskedBelow m.config old new link.port) (link_is : near.link ≡ Some link) (none : far.link ≡ None) where
  channels : AreChannels m ps old
  channels = st.channels

  -- no asker that was there has its flow
  no_asker : (p : Port) (e : End) → end_of old p ≡ Some e → p.fac ≡ link.port.fac → e.flow ≡ a.end.flow → e.role ≡ Asker → ⊥
  no_asker p e h fac flow role =
      let x = found new link.port a.end a.here in
      let f = found old p e h in
      let l = stands_later old new p f.facility f.place e lifted.later kept' f.stands in
      let same : l.facility ≡ x.facility = facs_same (slice_get new.facs link.port.fac) l.facility x.facility (ap (slice_get new.facs) (sym fac) ∙ l.stands.facility) x.stands.facility in
      let there : slice_get x.facility.ends f.place ≡ Some l.end = subst (λ (z : Fac). slice_get z.ends f.place ≡ Some l.end) same l.stands.is in
      let place : f.place ≡ x.place = (kept'.kept link.port.fac x.facility x.stands.facility).distinct f.place x.place l.end a.end there x.stands.is (l.later.flow ∙ flow) (l.later.role ∙ role ∙ sym a.asks) in
      let end : l.end ≡ a.end = ends_same (slice_get x.facility.ends x.place) l.end a.end (ap (slice_get x.facility.ends) (sym place) ∙ there) x.stands.is in
      let port : p ≡ link.port = sym (its_port new p l.facility f.place l.end l.stands) ∙ ap (λ (z : End). z.port) end ∙ its_port new link.port x.facility x.place a.end x.stands in
      none_some (end_of old link.port) e a.fresh (subst (λ (q : Port). end_of old q ≡ Some e) port h)

  -- nor has a far end, which is never alone
  no_far : (p : Port) (e : End) → end_of old p ≡ Some e → p.fac ≡ link.port.fac → e.flow ≡ a.end.flow → e.role ≡ Far → ⊥
  no_far p e h fac flow role =
      let f = found old p e h in
      let ports = kept.ports p.fac f.facility f.stands.facility in
      let q = (kept.kept p.fac f.facility f.stands.facility).far f.place e f.stands.is role in
      let there = stands_there old p.fac f.facility q.place q.other f.stands.facility ports q.stands in
      let asks : q.other.role ≡ Asker = one_role q.other.role Asker Far (λ is. q.partner.other_role (sym is ∙ sym role)) (λ is. cc) in
      no_asker q.other.port q.other (end_of_stands old q.other.port f.facility q.place q.other there) (ports.own q.place q.other q.stands ∙ fac) (q.partner.same_flow ∙ flow) asks

  no_end : (p : Port) (e : End) → end_of old p ≡ Some e → p.fac ≡ link.port.fac → e.flow ≡ a.end.flow → ⊥
  no_end p e h fac flow = elim (e.role) as (λ (r : Role). e.role ≡ r → ⊥) [
    | Asker ↦ λ is. no_asker p e h fac flow is
    | Far ↦ λ is. no_far p e h fac flow is
  ] refl

  -- ---- the link of the asker

  no_live : (i n : ℕ) → HasLive ps i n link.port → ⊥
  no_live i n l = (let e = channels.based i n link.port l in none_some (end_of old link.port) e.0 a.fresh e.1)

  none_on : (death : ℕ) (pdu : Pdu) → IsOn m.config ps new near death pdu → ⊥
  none_on death pdu on =
      let same : on.link ≡ link = links_same near.link on.link link on.link_is link_is in
      elim (on.here) [
        | inl q ↦ no_live near.member on.link.number (subst (λ (z : Attachment). HasLive ps near.member on.link.number z.port) same q.0)
        | inr w ↦
            let port : w.port ≡ link.port = w.within ∙ ap (λ (z : Attachment). z.port) same in
            let end : w.end ≡ a.end = ends_same (end_of new link.port) w.end a.end (subst (λ (p : Port). end_of new p ≡ Some w.end) port w.here) a.here in
            none_in a.end.sent w.at w.entry ((lifted.fresh link.port a.end a.here a.fresh (inl a.mine)).0) (subst (λ (z : End). slice_get z.sent w.at ≡ Some w.entry) end w.is_entry)
      ]

  -- its port is not one that a partner may claim: that is of a flow which was there
  is_free : IsUnclaimed m new link.port → ⊥
  is_free u =
      let e = end_by m old u.place u.channel u.near (channels.joined u.place u.channel u.stands) u.on_port in
      let l = ends_go_on old new lifted.later kept' u.near e.0 e.1 in
      let near_is : u.flow.near_end ≡ l.end = ends_same (end_of new u.near) u.flow.near_end l.end u.flow.is_near l.here in
      let far_is : u.flow.far_end ≡ a.end = ends_same (end_of new link.port) u.flow.far_end a.end u.flow.is_far a.here in
      let flow : e.0.flow ≡ a.end.flow = sym l.flow ∙ ap (λ (z : End). z.flow) (sym near_is) ∙ sym u.flow.partners.same_flow ∙ ap (λ (z : End). z.flow) far_is in
      no_end u.near e.0 e.1 (sym u.flow.facility) flow

  asked_link : IsNewLink m ps new near link
  asked_link = record {
    link_is = link_is;
    others = λ k c h on. (let e = end_by m old k c link.port (channels.joined k c h) on in none_some (end_of old link.port) e.0 a.fresh e.1);
    free = is_free;
    own = λ i n l. absurd (no_live i n l);
    silent = λ death pdu of_link on. none_on death pdu on;
  }

  -- ---- the other end

  -- it was not there
  no_other : (port : Port) → IsFlowBelow m.config new link.port port → (e : End) → end_of old port ≡ Some e → ⊥
  no_other port f e h =
      let l = ends_go_on old new lifted.later kept' port e h in
      let far_is : f.far_end ≡ l.end = ends_same (end_of new port) f.far_end l.end f.is_far l.here in
      let near_is : f.near_end ≡ a.end = ends_same (end_of new link.port) f.near_end a.end f.is_near a.here in
      let flow : e.flow ≡ a.end.flow = sym l.flow ∙ ap (λ (z : End). z.flow) (sym far_is) ∙ f.partners.same_flow ∙ ap (λ (z : End). z.flow) near_is in
      no_end port e h f.facility flow

  other_silent : (port : Port) → IsFlowBelow m.config new link.port port → IsSilent m ps new port
  other_silent port f = record {
    no_channel = λ k c h on. (let e = end_by m old k c port (channels.joined k c h) on in no_other port f e.0 e.1);
    no_link = λ i n l. (let e = channels.based i n port l in no_other port f e.0 e.1);
    unsent = λ e here at entry hop is opens of_link.
        let far_is : f.far_end ≡ e = ends_same (end_of new port) f.far_end e f.is_far here in
        let sent = lifted.fresh port f.far_end f.is_far (none_of (end_of old port) (no_other port f)) (inl f.its_mine) in
        none_in f.far_end.sent at entry sent.0 (subst (λ (z : End). slice_get z.sent at ≡ Some entry) (sym far_is) is);
  }

  pub asked_flows_are_new : IsNewFlow m ps new near far
  asked_flows_are_new =
      let inside = (lifted.fresh link.port a.end a.here a.fresh (inl a.mine)).1 in
      record {
        link = link;
        is_new = asked_link;
        other = inr (record { none = none; between = record { end = a.end; here = a.here; mine = a.mine; its_mine = inside.peer }; silent = other_silent });
      }
