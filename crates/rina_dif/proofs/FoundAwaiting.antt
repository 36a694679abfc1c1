-- The channel that is found for a flow that was claimed awaits it: its partner's link is the other end of the flow. Where none is found, none does.
use Rattle.std.proofs.Common.{◌≡◌, ◌∙◌, ℕ, ◌≤◌, ◌==◌, ◌&&◌, Bool, true, false, not, List, length, slice_get, Option, Some, None, refl, sym, ap, subst, arith, inl, inr}
use Rattle.std.specs.Prelude.{◌⊎◌, IfSome, IsSome, is_some, option_map, position}
use Rattle.std.proofs.lemmas.Option.{slice_get_within}
use Rattle.std.proofs.lemmas.Bool.{false≢true}
use Rattle.rina_base.specs.declared.number.FlowName.{FlowName}
use Rattle.rina_base.specs.declared.number.Port.{Port}
use Rattle.rina_queue.proofs.Places.{first_passes}
use Rattle.rina_channel.specs.declared.channel.Attachment.{Attachment}
use Rattle.rina_channel.specs.declared.channel.Channel.{Channel}
use Rattle.rina_channel.specs.Channels.{ChannelsSeen, IsOnPort, has_port as has_link}
use Rattle.rina_data.specs.Configs.{config_of}
use Rattle.rina_dif_law.specs.Cloud.{IsMine}
use Rattle.rina_iface.specs.declared.ends.End.{End}
use Rattle.rina_iface.specs.Ends.{end_in, has_port}
use Rattle.rina_iface.specs.Journal.{AreKept, At}
use Rattle.rina_iface.specs.Seen.{Fac, Seen, end_of}
use Rattle.rina_iface.proofs.Changed.{end_has_place}
use Rattle.rina_iface.proofs.Found.{end_of_stands, found, its_port, stands_there}
use Rattle.rina_law.specs.Direction.{Direction}
use Rattle.rina_dif.specs.declared.dif.Dif.{Dif}
use Rattle.rina_dif.specs.Claiming.{FindsAwaiting, IsAwaiting, IsOfChannel, awaiting, channels_of, is_awaiting, is_end_of, is_link_of, is_partner_of, is_same_flow}
use Rattle.rina_dif.specs.Holding.{Holds}
use Rattle.rina_dif.proofs.Linked.{passes_some}
use Rattle.rina_dif.proofs.OnLinks.{channel_port, has_its_port}

same_some : {X : Type 0} (o : Option X) (a b : X) → o ≡ Some a → o ≡ Some b → a ≡ b
same_some o a b h g = cc

some_of : (o : Option ℕ) → IsSome o → (k : ℕ) × (o ≡ Some k)
some_of None some = absurd (false≢true some)
some_of (Some k) some = (k, refl)

-- What the test says

same_flow : (a b : FlowName) → is_same_flow a b ≡ true → a ≡ b
same_flow a b is = grind arith

own_flow : (a b : FlowName) → a ≡ b → is_same_flow a b ≡ true
own_flow a b is = grind arith

its_port_by : (port : Port) (e : End) → has_port port e ≡ true → e.port ≡ port
its_port_by port e h = grind arith

none_link : (o : Option Attachment) → is_some o ≡ false → o ≡ None
none_link None is = refl
none_link (Some l) is = absurd cc

end_there : (flow : FlowName) (o : Option End) → is_end_of flow o ≡ true → (p : End) × (o ≡ Some p) × (p.flow ≡ flow)
end_there flow None is = absurd cc
end_there flow (Some p) is = (p, refl, same_flow p.flow flow is)

link_there : (ends : List End) (flow : FlowName) (o : Option Attachment) → is_link_of ends flow o ≡ true → (l : Attachment) × (o ≡ Some l) × (is_end_of flow (end_in l.port ends) ≡ true)
link_there ends flow None is = absurd cc
link_there ends flow (Some l) is = (l, refl, is)

partner_there : (ends : List End) (flow : FlowName) (o : Option Channel) → is_partner_of ends flow o ≡ true → (y : Channel) × (o ≡ Some y) × (is_link_of ends flow y.link ≡ true)
partner_there ends flow None is = absurd cc
partner_there ends flow (Some y) is = (y, refl, is)

and_parts : (a b c : Bool) → a && not b && c ≡ true → (a ≡ true) × (b ≡ false) × (c ≡ true)
and_parts a b c is = grind arith

and_all : (a b c : Bool) → a ≡ true → b ≡ false → c ≡ true → a && not b && c ≡ true
and_all a b c x y z = grind arith

eq_of : (a b : ℕ) → a == b ≡ true → a ≡ b
eq_of a b is = grind arith

eq_is : (a b : ℕ) → a ≡ b → a == b ≡ true
eq_is a b is = grind arith

parts : (channels : List Channel) (i : ℕ) (ends : List End) (flow : FlowName) (x : Channel) → is_awaiting channels i ends flow x ≡ true → (x.member ≡ i) × (x.link ≡ None) × (is_partner_of ends flow (slice_get channels x.partner) ≡ true)
unfolding is_awaiting
parts channels i ends flow x is =
    let all = and_parts (x.member == i) (is_some x.link) (is_partner_of ends flow (slice_get channels x.partner)) is in
    (eq_of x.member i all.0, none_link x.link all.1, all.2)

whole : (channels : List Channel) (i : ℕ) (ends : List End) (flow : FlowName) (x : Channel) → x.member ≡ i → x.link ≡ None → is_partner_of ends flow (slice_get channels x.partner) ≡ true → is_awaiting channels i ends flow x ≡ true
unfolding is_awaiting
whole channels i ends flow x member none partner =
    and_all (x.member == i) (is_some x.link) (is_partner_of ends flow (slice_get channels x.partner)) (eq_is x.member i member) (ap is_some none) partner

-- Inside the DIF

abbrev AreInside : ChannelsSeen → Seen → Type 0
AreInside m below = (port : Port) (end : End) → end_of below port ≡ Some end → IsMine m.config.members end.app ⊎ IsMine m.config.members end.peer → IsMine m.config.members end.app × IsMine m.config.members end.peer

-- an end of the facility of a port
link_end : (below : Seen) (port : Port) (f : Fac) → AreKept below → slice_get below.facs port.fac ≡ Some f → (q : Port) (p : End) → end_in q f.ends ≡ Some p → (at : ℕ) × At f.ends at p × (p.port ≡ q) × (end_of below q ≡ Some p) × (port.fac ≡ q.fac)
link_end below port f kept is_fac q p is =
    let x = end_has_place q f.ends p is in
    let y = first_passes (has_port q) f.ends x.place x.found in
    let same : y.0 ≡ p = same_some (slice_get f.ends x.place) y.0 p y.1.stands x.is in
    let its : p.port ≡ q = its_port_by q p (ap (has_port q) (sym same) ∙ y.1.passes) in
    let ports = kept.ports port.fac f is_fac in
    let own : end_of below p.port ≡ Some p = end_of_stands below p.port f x.place p (stands_there below port.fac f x.place p is_fac ports x.is) in
    (x.place, x.is, its, subst (λ (r : Port). end_of below r ≡ Some p) its own, sym (ports.own x.place p x.is) ∙ ap (λ (r : Port). r.fac) its)

-- the end of a port is one of its facility
end_here : (below : Seen) (port : Port) (f : Fac) (e : End) → slice_get below.facs port.fac ≡ Some f → end_of below port ≡ Some e → end_in port f.ends ≡ Some e
end_here below port f e is_fac here =
    let x = found below port e here in
    let same : x.facility ≡ f = same_some (slice_get below.facs port.fac) x.facility f x.stands.facility is_fac in
    let there : end_in port x.facility.ends ≡ Some e = rw x.stands.place x.stands.is in
    subst (λ (g : Fac). end_in port g.ends ≡ Some e) same there

module _ (m : ChannelsSeen) (below : Seen) (i : ℕ) (port : Port) (f : Fac) (kept : AreKept below) (inside : AreInside m below) (is_fac : slice_get below.facs port.fac ≡ Some f) (alone : IsOfChannel m.channels port → ⊥) (e : End) (here : end_of below port ≡ Some e) (mine : IsMine m.config.members e.app) where
  its_end : (at : ℕ) × At f.ends at e × (e.port ≡ port)
  its_end =
      let x = found below port e here in
      let same : x.facility ≡ f = same_some (slice_get below.facs port.fac) x.facility f x.stands.facility is_fac in
      (x.place, subst (λ (g : Fac). At g.ends x.place e) same x.stands.is, its_port below port x.facility x.place e x.stands)

  -- a channel that passes the test awaits the flow
  passes : (k : ℕ) (x : Channel) → slice_get m.channels k ≡ Some x → is_awaiting m.channels i f.ends e.flow x ≡ true → IsAwaiting m below i port k
  passes k x stands is =
      let all = parts m.channels i f.ends e.flow x is in
      let y = partner_there f.ends e.flow (slice_get m.channels x.partner) all.2 in
      let l = link_there f.ends e.flow y.0.link y.2 in
      let p = end_there e.flow (end_in l.0.port f.ends) l.2 in
      let at = link_end below port f kept is_fac l.0.port p.0 p.1 in
      let on : IsOnPort y.0 l.0.port = record { link = l.0; link_is = l.1; port_is = refl } in
      let apart : p.0.role ≡ e.role → ⊥ = λ same.
      let place : at.0 ≡ its_end.0 = (kept.kept port.fac f is_fac).distinct at.0 its_end.0 p.0 e at.1 its_end.1 p.2 same in
      let one : p.0 ≡ e = same_some (slice_get f.ends its_end.0) p.0 e (subst (λ (n : ℕ). slice_get f.ends n ≡ Some p.0) place at.1) its_end.1 in
      let its : l.0.port ≡ port = sym at.2 ∙ ap (λ (z : End). z.port) one ∙ its_end.2 in
      alone (record { place = x.partner; channel = y.0; stands = y.1; on_port = record { link = l.0; link_is = l.1; port_is = its } }) in
      let named = (kept.kept port.fac f is_fac).named its_end.0 at.0 e p.0 its_end.1 at.1 (record { same_flow = p.2; other_role = apart }) in
      let its_mine : IsMine m.config.members p.0.app = subst (λ (name : List ℕ). IsMine m.config.members name) named.peer ((inside port e here (inl mine)).1) in
      record {
        channel = x;
        stands = stands;
        member_is = all.0;
        none = all.1;
        partner = y.0;
        is_partner = y.1;
        near = l.0.port;
        on_port = on;
        flow = record {
          facility = at.4;
          near_end = p.0;
          is_near = at.3;
          far_end = e;
          is_far = here;
          partners = record { same_flow = sym p.2; other_role = λ same. apart (sym same) };
          mine = its_mine;
          its_mine = mine;
        };
      }

  -- and one that awaits it passes
  does : (k : ℕ) (w : IsAwaiting m below i port k) → is_awaiting m.channels i f.ends e.flow w.channel ≡ true
  does k w =
      let far : w.flow.far_end ≡ e = same_some (end_of below port) w.flow.far_end e w.flow.is_far here in
      let flow : w.flow.near_end.flow ≡ e.flow = sym w.flow.partners.same_flow ∙ ap (λ (z : End). z.flow) far in
      let x = found below w.near w.flow.near_end w.flow.is_near in
      let same : x.facility ≡ f = same_some (slice_get below.facs port.fac) x.facility f (subst (λ (n : ℕ). slice_get below.facs n ≡ Some x.facility) (sym w.flow.facility) x.stands.facility) is_fac in
      let there : end_in w.near x.facility.ends ≡ Some w.flow.near_end = rw x.stands.place x.stands.is in
      let end : end_in w.near f.ends ≡ Some w.flow.near_end = subst (λ (g : Fac). end_in w.near g.ends ≡ Some w.flow.near_end) same there in
      let end_is : is_end_of e.flow (end_in w.near f.ends) ≡ true = ap (is_end_of e.flow) end ∙ own_flow w.flow.near_end.flow e.flow flow in
      let port_is : is_end_of e.flow (end_in w.on_port.link.port f.ends) ≡ true = subst (λ (q : Port). is_end_of e.flow (end_in q f.ends) ≡ true) (sym w.on_port.port_is) end_is in
      let link_is : is_link_of f.ends e.flow w.partner.link ≡ true = ap (is_link_of f.ends e.flow) w.on_port.link_is ∙ port_is in
      let partner_is : is_partner_of f.ends e.flow (slice_get m.channels w.channel.partner) ≡ true = ap (is_partner_of f.ends e.flow) w.is_partner ∙ link_is in
      whole m.channels i f.ends e.flow w.channel w.member_is w.none partner_is

  -- what is found
  abbrev FindsIn : Option ℕ → Type 0
  FindsIn (Some k) = IsAwaiting m below i port k
  FindsIn None = (k : ℕ) → IsAwaiting m below i port k → ⊥

  finds : (o : Option ℕ) → position (is_awaiting m.channels i f.ends e.flow) m.channels ≡ o → FindsIn o
  finds (Some k) is = (let x = first_passes (is_awaiting m.channels i f.ends e.flow) m.channels k is in passes k x.0 x.1.stands x.1.passes)
  finds None is = λ k w. none_of (position (is_awaiting m.channels i f.ends e.flow) m.channels) (passes_some (is_awaiting m.channels i f.ends e.flow) m.channels k w.channel w.stands (does k w)) is
    where
      none_of : (o : Option ℕ) → IsSome o → o ≡ None → ⊥
      none_of None some none = false≢true some
      none_of (Some n) some none = absurd cc

-- By the DIF

-- flows below run inside it
insides : (d : Dif) (lines : List Direction) (below : Seen) → Holds d lines below → AreInside (channels_of d) below
insides d lines below h port end is mine = (let x = h.standing.inside port end is mine in (x.app, x.peer))

finds_it : (d : Dif) (lines : List Direction) (below : Seen) (i : ℕ) (port : Port) (f : Fac) (e : End) (o : Option ℕ) → AreKept below → Holds d lines below → slice_get below.facs port.fac ≡ Some f → (IsOfChannel d.connections.channels port → ⊥) → end_of below port ≡ Some e → IsMine (config_of d.settings).members e.app
    → position (is_awaiting d.connections.channels i f.ends e.flow) d.connections.channels ≡ o → FindsAwaiting d below i port o
finds_it d lines below i port f e (Some k) kept h is_fac alone here mine is = finds (channels_of d) below i port f kept (insides d lines below h) is_fac alone e here mine (Some k) is
finds_it d lines below i port f e None kept h is_fac alone here mine is = inl (finds (channels_of d) below i port f kept (insides d lines below h) is_fac alone e here mine None is)

none_found : (d : Dif) (below : Seen) (i : ℕ) (port : Port) (o : Option ℕ) → ((e : End) → end_of below port ≡ Some e → ⊥) → o ≡ None → FindsAwaiting d below i port o
none_found d below i port (Some k) none is = absurd cc
none_found d below i port None none is = inl (λ place w. none w.flow.far_end w.flow.is_far)

finds_at : (d : Dif) (lines : List Direction) (below : Seen) (i : ℕ) (port : Port) (f : Fac) (o : Option ℕ) (end : Option End) → AreKept below → Holds d lines below → slice_get below.facs port.fac ≡ Some f → (IsOfChannel d.connections.channels port → ⊥) → ((e : End) → end_of below port ≡ Some e → IsMine (config_of d.settings).members e.app)
    → end_in port f.ends ≡ end → o ≡ awaiting d.connections.channels i f.ends end → FindsAwaiting d below i port o
finds_at d lines below i port f o None kept h is_fac alone mine is it = none_found d below i port o (λ e here. (let there = end_here below port f e is_fac here in absurd cc)) it
finds_at d lines below i port f o (Some e) kept h is_fac alone mine is it =
    let here = (link_end below port f kept is_fac port e is).3 in
    finds_it d lines below i port f e o kept h is_fac alone here (mine e here) (sym it)

-- the channel that is found for the flow of a port awaits it, and where none is found it is unawaited
pub found_awaiting : (d : Dif) (lines : List Direction) (below : Seen) (i : ℕ) (port : Port) (f : Fac) (o : Option ℕ) → AreKept below → Holds d lines below → slice_get below.facs port.fac ≡ Some f → (IsOfChannel d.connections.channels port → ⊥) → ((e : End) → end_of below port ≡ Some e → IsMine (config_of d.settings).members e.app)
    → o ≡ awaiting d.connections.channels i f.ends (end_in port f.ends) → FindsAwaiting d below i port o
found_awaiting d lines below i port f o kept h is_fac alone mine is = finds_at d lines below i port f o (end_in port f.ends) kept h is_fac alone mine refl is

-- by the ends that are lent
facility_by : (o : Option Fac) (ends : List End) → option_map (λ (f : Fac). f.ends) o ≡ Some ends → (f : Fac) × (o ≡ Some f) × (f.ends ≡ ends)
facility_by None ends is = absurd cc
facility_by (Some f) ends is = (f, refl, cc)

pub found_awaiting_at : (d : Dif) (lines : List Direction) (below : Seen) (i : ℕ) (port : Port) (ends : List End) (channels : List Channel) (o : Option ℕ) → AreKept below → Holds d lines below → option_map (λ (f : Fac). f.ends) (slice_get below.facs port.fac) ≡ Some ends → (IsOfChannel d.connections.channels port → ⊥) → ((e : End) → end_of below port ≡ Some e → IsMine (config_of d.settings).members e.app)
    → channels ≡ d.connections.channels → o ≡ awaiting channels i ends (end_in port ends) → FindsAwaiting d below i port o
found_awaiting_at d lines below i port ends channels o kept h lent alone mine same is =
    let f = facility_by (slice_get below.facs port.fac) ends lent in
    let all : o ≡ awaiting d.connections.channels i ends (end_in port ends) = is ∙ ap (λ (cs : List Channel). awaiting cs i ends (end_in port ends)) same in
    found_awaiting d lines below i port f.0 o kept h f.1 alone mine (subst (λ (es : List End). o ≡ awaiting d.connections.channels i es (end_in port es)) (sym f.2) all)

pub if_some : (o : Option ℕ) (P : Type 0) → P → IfSome o (λ k. P)
if_some None P p = tt
if_some (Some k) P p = p

-- without the facility there is no flow
pub no_facility : (d : Dif) (below : Seen) (i : ℕ) (port : Port) → length below.facs ≤ port.fac → FindsAwaiting d below i port None
no_facility d below i port past = none_found d below i port None (λ e here. (let x = (found below port e here).stands.facility in let within = slice_get_within below.facs port.fac (found below port e here).facility x in absurd (omega (arith, past, within)))) refl

-- a channel has the port already
pub has_channel : (d : Dif) (below : Seen) (i : ℕ) (port : Port) (o : Option ℕ) → o ≡ position (has_link port) d.connections.channels → is_some o ≡ true → FindsAwaiting d below i port None
has_channel d below i port None is some = absurd (false≢true some)
has_channel d below i port (Some k) is some =
    let x = first_passes (has_link port) d.connections.channels k (sym is) in
    inr (record { place = k; channel = x.0; stands = x.1.stands; on_port = channel_port port x.0 x.1.passes })

-- none has it
pub lacks_channel : (d : Dif) (port : Port) (o : Option ℕ) → o ≡ position (has_link port) d.connections.channels → is_some o ≡ false → IsOfChannel d.connections.channels port → ⊥
lacks_channel d port o is none c =
    let some : IsSome (position (has_link port) d.connections.channels) = passes_some (has_link port) d.connections.channels c.place c.channel c.stands (has_its_port port c.channel c.on_port) in
    let its : IsSome o = subst (λ (z : Option ℕ). IsSome z) (sym is) some in
    absurd cc
