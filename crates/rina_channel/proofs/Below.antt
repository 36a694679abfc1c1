-- The flows below that the links of channels are.
use Rattle.std.proofs.Common.{◌≡◌, ◌≢◌, ℕ, List, [], slice_get, Some, None, Option, refl, sym, ◌∙◌, ap, subst, inl, inr}
use Rattle.rina_base.specs.declared.number.Port.{Port}
use Rattle.rina_iface.specs.declared.ends.End.{End}
use Rattle.rina_iface.specs.declared.state.Role.{Role}
use Rattle.rina_iface.specs.declared.state.Role.TheVariants.{Asker, Far}
use Rattle.rina_iface.specs.Journal.{AreKept}
use Rattle.rina_iface.specs.Later.{IsLater}
use Rattle.rina_iface.specs.Seen.{Fac, Seen, end_of}
use Rattle.rina_iface.proofs.Found.{end_of_stands, found, its_port, stands_later, stands_there}
use Rattle.rina_law.specs.declared.entry.Entry.{Entry}
use Rattle.rina_data.specs.Configs.{Config}
use Rattle.rina_data.specs.Process.{Process}
use Rattle.rina_dif_law.specs.Cloud.{IsMine}
use Rattle.rina_dif_law.proofs.After.{IsAfter, Just, NoMore, after_none, back}
use Rattle.rina_dif_law.proofs.Own.{partner_back}
use Rattle.rina_dif_law.proofs.Partnered.{has_partner}
use Rattle.rina_channel.specs.declared.channel.Attachment.{Attachment}
use Rattle.rina_channel.specs.declared.channel.Channel.{Channel}
use Rattle.rina_channel.specs.Channels.{ChannelsSeen, HasLive, IsFlowBelow, IsJoined, IsOnPort, IsUnsent, RunsBetween}

pub ends_same : (o : Option End) (a b : End) → o ≡ Some a → o ≡ Some b → a ≡ b
ends_same o a b h g = cc

pub facs_same : (o : Option Fac) (a b : Fac) → o ≡ Some a → o ≡ Some b → a ≡ b
facs_same o a b h g = cc

pub channels_same : (o : Option Channel) (a b : Channel) → o ≡ Some a → o ≡ Some b → a ≡ b
channels_same o a b h g = cc

pub none_in : {X : Type 0} (xs : List X) (i : ℕ) (x : X) → xs ≡ [] → slice_get xs i ≡ Some x → ⊥
none_in xs i x e h = cc

-- ---- the port of a channel

pub on_link : (c : Channel) (link : Attachment) → c.link ≡ Some link → IsOnPort c link.port
on_link c link is = record { link = link; link_is = is; port_is = refl }

pub links_same : (o : Option Attachment) (a b : Attachment) → o ≡ Some a → o ≡ Some b → a ≡ b
links_same o a b h g = cc

-- a channel has one port
pub one_port : (c : Channel) (p q : Port) → IsOnPort c p → IsOnPort c q → p ≡ q
one_port c p q x y = sym x.port_is ∙ ap (λ (z : Attachment). z.port) (links_same c.link x.link y.link x.link_is y.link_is) ∙ y.port_is

-- and none where it has no link
pub no_port : (c : Channel) (port : Port) → IsOnPort c port → c.link ≡ None → ⊥
no_port c port x none = (let is = x.link_is in cc)

-- an end below has the port of a channel
pub end_by : (m : ChannelsSeen) (below : Seen) (k : ℕ) (c : Channel) (port : Port) → IsJoined m below k c → IsOnPort c port → (e : End) × (end_of below port ≡ Some e)
end_by m below k c port j on = elim (j.partner.link) as (λ o. j.partner.link ≡ o → (e : End) × (end_of below port ≡ Some e)) [
  | Some far ↦ λ is. (let f = j.flow port far.port on (on_link j.partner far is) in (f.near_end, f.is_near))
  | None ↦ λ none. (let b = j.alone port on none in (b.end, b.here))
] refl

-- ---- the two ends of a flow

pub flow_back : (g : Config) (below : Seen) (near far : Port) → IsFlowBelow g below near far → IsFlowBelow g below far near
flow_back g below near far f = record { facility = sym f.facility; near_end = f.far_end; is_near = f.is_far; far_end = f.near_end; is_far = f.is_near; partners = partner_back f.near_end f.far_end f.partners; mine = f.its_mine; its_mine = f.mine }

-- they have two ports
pub two_ports : (g : Config) (below : Seen) (near far : Port) → IsFlowBelow g below near far → near ≢ far
two_ports g below near far f same =
    let is : f.near_end ≡ f.far_end = ends_same (end_of below near) f.near_end f.far_end f.is_near (ap (end_of below) same ∙ f.is_far) in
    f.partners.other_role (ap (λ (e : End). e.role) (sym is))

-- there are two roles
pub one_role : (a b c : Role) → c ≢ a → c ≢ b → a ≡ b
one_role Asker Asker c x y = refl
one_role Far Far c x y = refl
one_role Asker Far Asker x y = absurd (x refl)
one_role Asker Far Far x y = absurd (y refl)
one_role Far Asker Asker x y = absurd (y refl)
one_role Far Asker Far x y = absurd (x refl)

-- an end has one other end
pub one_other : (g : Config) (s : Seen) (p q far : Port) → AreKept s → IsFlowBelow g s p far → IsFlowBelow g s q far → p ≡ q
one_other g s p q far kept f h =
    let a = found s p f.near_end f.is_near in
    let b = found s q h.near_end h.is_near in
    let far_same : f.far_end ≡ h.far_end = ends_same (end_of s far) f.far_end h.far_end f.is_far h.is_far in
    let fac : q.fac ≡ p.fac = sym h.facility ∙ f.facility in
    let same : b.facility ≡ a.facility = facs_same (slice_get s.facs p.fac) b.facility a.facility (ap (slice_get s.facs) (sym fac) ∙ b.stands.facility) a.stands.facility in
    let there : slice_get a.facility.ends b.place ≡ Some h.near_end = subst (λ (z : Fac). slice_get z.ends b.place ≡ Some h.near_end) same b.stands.is in
    let flow : f.near_end.flow ≡ h.near_end.flow = sym f.partners.same_flow ∙ ap (λ (e : End). e.flow) far_same ∙ h.partners.same_flow in
    let role : f.near_end.role ≡ h.near_end.role = one_role f.near_end.role h.near_end.role f.far_end.role f.partners.other_role (λ is. h.partners.other_role (ap (λ (e : End). e.role) (sym far_same) ∙ is)) in
    let place : a.place ≡ b.place = (kept.kept p.fac a.facility a.stands.facility).distinct a.place b.place f.near_end h.near_end a.stands.is there flow role in
    let end : f.near_end ≡ h.near_end = ends_same (slice_get a.facility.ends b.place) f.near_end h.near_end (ap (slice_get a.facility.ends) (sym place) ∙ a.stands.is) there in
    sym (its_port s p a.facility a.place f.near_end a.stands) ∙ ap (λ (e : End). e.port) end ∙ its_port s q b.facility b.place h.near_end b.stands

-- an end that got something has its other end
pub other_end : (g : Config) (s : Seen) (near : Port) (b : RunsBetween g s near) (i : ℕ) (x : Entry) → AreKept s → slice_get b.end.got i ≡ Some x → (far : Port) × IsFlowBelow g s near far
other_end g s near b i x kept h =
    let a = found s near b.end b.here in
    let k = kept.kept near.fac a.facility a.stands.facility in
    let ports = kept.ports near.fac a.facility a.stands.facility in
    let p = has_partner a.facility.ends b.end i x (k.alone a.place b.end a.stands.is) h in
    let there = stands_there s near.fac a.facility p.place p.other a.stands.facility ports p.stands in
    let named = k.named a.place p.place b.end p.other a.stands.is p.stands p.partner in (
      p.other.port,
      record {
        facility = ports.own p.place p.other p.stands;
        near_end = b.end;
        is_near = b.here;
        far_end = p.other;
        is_far = end_of_stands s p.other.port a.facility p.place p.other there;
        partners = p.partner;
        mine = b.mine;
        its_mine = subst (IsMine g.members) named.peer b.its_mine;
      },
    )

-- ---- as the rank below goes on

-- an end later has the same names
pub record IsLaterAt (new : Seen) (port : Port) (e : End) : Type 0 where
  pub end : End
  pub here : end_of new port ≡ Some end
  pub flow : end.flow ≡ e.flow
  pub role : end.role ≡ e.role
  pub app : end.app ≡ e.app
  pub peer : end.peer ≡ e.peer

abbrev pub EndsGoOn : Seen → Seen → Type 0
EndsGoOn old new = (port : Port) (e : End) → end_of old port ≡ Some e → IsLaterAt new port e

pub ends_go_on : (old new : Seen) → IsLater old new → AreKept new → EndsGoOn old new
ends_go_on old new later kept port e h =
    let f = found old port e h in
    let l = stands_later old new port f.facility f.place e later kept f.stands in
    record { end = l.end; here = end_of_stands new port l.facility f.place l.end l.stands; flow = l.later.flow; role = l.later.role; app = l.later.app; peer = l.later.peer }

pub ends_stay : (s : Seen) → EndsGoOn s s
ends_stay s port e h = record { end = e; here = h; flow = refl; role = refl; app = refl; peer = refl }

pub flow_later : (g : Config) (old new : Seen) (near far : Port) → EndsGoOn old new → IsFlowBelow g old near far → IsFlowBelow g new near far
flow_later g old new near far go f =
    let a = go near f.near_end f.is_near in
    let b = go far f.far_end f.is_far in
    record {
      facility = f.facility;
      near_end = a.end;
      is_near = a.here;
      far_end = b.end;
      is_far = b.here;
      partners = record { same_flow = b.flow ∙ f.partners.same_flow ∙ sym a.flow; other_role = λ e. f.partners.other_role (sym b.role ∙ e ∙ a.role) };
      mine = subst (IsMine g.members) (sym a.app) f.mine;
      its_mine = subst (IsMine g.members) (sym b.app) f.its_mine;
    }

-- a flow of two ends that were there was there
pub flow_before : (g : Config) (old new : Seen) (near far : Port) (e f : End) → EndsGoOn old new → end_of old near ≡ Some e → end_of old far ≡ Some f → IsFlowBelow g new near far → IsFlowBelow g old near far
flow_before g old new near far e f go at_near at_far h =
    let a = go near e at_near in
    let b = go far f at_far in
    let x : h.near_end ≡ a.end = ends_same (end_of new near) h.near_end a.end h.is_near a.here in
    let y : h.far_end ≡ b.end = ends_same (end_of new far) h.far_end b.end h.is_far b.here in
    record {
      facility = h.facility;
      near_end = e;
      is_near = at_near;
      far_end = f;
      is_far = at_far;
      partners = record {
        same_flow = sym b.flow ∙ ap (λ (z : End). z.flow) (sym y) ∙ h.partners.same_flow ∙ ap (λ (z : End). z.flow) x ∙ a.flow;
        other_role = λ is. h.partners.other_role (ap (λ (z : End). z.role) y ∙ b.role ∙ is ∙ sym a.role ∙ ap (λ (z : End). z.role) (sym x));
      };
      mine = subst (IsMine g.members) (ap (λ (z : End). z.app) x ∙ a.app) h.mine;
      its_mine = subst (IsMine g.members) (ap (λ (z : End). z.app) y ∙ b.app) h.its_mine;
    }

pub between_later : (g : Config) (old new : Seen) (port : Port) → EndsGoOn old new → RunsBetween g old port → RunsBetween g new port
between_later g old new port go b =
    let a = go port b.end b.here in
    record { end = a.end; here = a.here; mine = subst (IsMine g.members) (sym a.app) b.mine; its_mine = subst (IsMine g.members) (sym a.peer) b.its_mine }

-- where no PDU of a management connection was sent, and no link is live, there is none later
abbrev pub StayUnsent : Config → List Process → Seen → Seen → Type 0
StayUnsent g ps old new = (port : Port) (e : End) → end_of new port ≡ Some e → IsMine g.members e.app → ((was : End) → end_of old port ≡ Some was → IsUnsent g was) → ((i n : ℕ) → HasLive ps i n port → ⊥) → IsUnsent g e

-- what is sent is sent on live links
abbrev pub IsOnLinks : List Process → (Port → Entry → Type 0) → Type 0
IsOnLinks ps more = (port : Port) (x : Entry) → more port x → (i : ℕ) × (n : ℕ) × HasLive ps i n port

pub stay_unsent : (g : Config) (more : Port → Entry → Type 0) (ps : List Process) (old new : Seen) → IsAfter g more old new → IsOnLinks ps more → StayUnsent g ps old new
stay_unsent g more ps old new after on port e here mine unsent none at entry hop is opens of = elim (back g more old new after port e here) [
  | inl b ↦ elim (after.sent port b.0 e at entry b.1 here mine is) [
    | inl o ↦ unsent b.0 b.1 at entry hop o opens of
    | inr new ↦ (let l = on port entry new in none l.0 l.1 l.2)
  ]
  | inr none_there ↦ none_in e.sent at entry ((after.fresh port e here none_there (inl mine)).0) is
]

pub no_more : (ps : List Process) → IsOnLinks ps NoMore
no_more ps port x none = absurd none

pub just_on : (ps : List Process) (port : Port) (x : Entry) (i n : ℕ) → HasLive ps i n port → IsOnLinks ps (Just port x)
just_on ps port x i n live p y new = (i, n, subst (HasLive ps i n) (sym new.0) live)

-- the rank below goes on so: the ends that were there have their names, and the others are unsent
pub record GoesOn (g : Config) (ps : List Process) (old new : Seen) : Type 0 where
  pub ends : EndsGoOn old new
  pub unsent : StayUnsent g ps old new

pub goes_on : (g : Config) (ps : List Process) (old new : Seen) → EndsGoOn old new → IsAfter g NoMore old new → GoesOn g ps old new
goes_on g ps old new ends after = record { ends = ends; unsent = stay_unsent g NoMore ps old new after (no_more ps) }

pub stays : (g : Config) (ps : List Process) (s : Seen) → GoesOn g ps s s
stays g ps s = goes_on g ps s s (ends_stay s) (after_none g s)
