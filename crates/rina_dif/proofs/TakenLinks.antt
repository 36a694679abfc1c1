-- An IPC process takes a new link, which the DIF asked for or claimed.
use Rattle.std.proofs.Common.{◌≡◌, ◌∙◌, ℕ, suc, ◌<◌, ◌^◌, List, [], ◌∷◌, ◌++◌, get_or, length, slice_get, slice_set, Option, Some, None, Result, Ok, Err, refl, sym, ap, subst}
use Rattle.std.specs.Prelude.{OnErr, OnOk}
use Rattle.std.proofs.lemmas.Option.{get_or_from_slice_get, slice_get-get_or}
use Rattle.rina_base.specs.declared.memory.Memory.{Memory}
use Rattle.rina_base.specs.declared.number.Port.{Port}
use Rattle.rina_channel.specs.declared.channel.Attachment.{Attachment}
use Rattle.rina_channel.specs.declared.channel.Channel.{Channel}
use Rattle.rina_conn.specs.declared.form.Peer.{Peer}
use Rattle.rina_cube.specs.declared.Cube.{Cube}
use Rattle.rina_data.specs.declared.process.IpcProcess.{IpcProcess}
use Rattle.rina_data.specs.declared.settings.Member.{Member}
use Rattle.rina_data.specs.declared.settings.Settings.{Settings}
use Rattle.rina_data.specs.Configs.{config_of, greatest, piece_size}
use Rattle.rina_data.specs.Deciding.{process_of, queue_settings}
use Rattle.rina_data.proofs.Finding.{there}
use Rattle.rina_flows.specs.declared.flows.Flows.{Flows}
use Rattle.rina_flows.specs.Adding.{Adds}
use Rattle.rina_iface.specs.declared.ends.End.{End}
use Rattle.rina_iface.specs.declared.state.PortState.TheVariants.{Allocated}
use Rattle.rina_iface.specs.declared.state.Role.TheVariants.{Asker, Far}
use Rattle.rina_iface.specs.Allocate.{new_end}
use Rattle.rina_iface.specs.Seen.{Seen}
use Rattle.rina_iface.proofs.Changed.{slice_set-same}
use Rattle.rina_member.specs.declared.management.Management.{Management}
use Rattle.rina_dif.specs.declared.connections.Connections.{Connections}
use Rattle.rina_dif.specs.declared.dif.Dif.{Dif}
use Rattle.rina_dif.specs.declared.enrol.EnrolError.{EnrolError}
use Rattle.rina_dif.specs.declared.enrol.EnrolError.TheVariants as errors
use Rattle.rina_dif.specs.Changing.{changed_if}
use Rattle.rina_dif.specs.Claiming.{IsAwaiting, TakesClaimed, channels_of, with_claimed}
use Rattle.rina_dif.specs.Elsewhere.{ChangesProcess}
use Rattle.rina_dif.specs.Enrolling.{ConnectsJoiner, ConnectsMembers, IsLeastNumber, JoinsNot, JoinsOr, LinksUp, ShowsAt, TakesLinkAt, far_channel, no_port}
use Rattle.rina_dif.specs.LinkTaking.{TakesLink}
use Rattle.rina_dif.specs.Linking.{name_at}
use Rattle.rina_dif.proofs.Elsewhere.{by_process}

same_some : {X : Type 0} (o : Option X) (a b : X) → o ≡ Some a → o ≡ Some b → a ≡ b
same_some o a b h g = cc

-- One of the IPC processes

-- the one at a place becomes another
module _ (at : ℕ) (old : List IpcProcess) (x y : IpcProcess) (lt : at < length old) (is : x ≡ get_or old at x) where
  the_one : (p : IpcProcess) → slice_get old at ≡ Some p → x ≡ p
  the_one p here = is ∙ get_or_from_slice_get old at p x here

  here_it_is : slice_get old at ≡ Some x
  here_it_is = slice_get-get_or old at x lt ∙ ap (λ (z : IpcProcess). Some z) (sym is)

  pub links_one : (link : Attachment) (r : Result (Unit {0}) Memory) → OnOk r (TakesLink link x y) → OnOk r (TakesLinkAt at link old (slice_set old at y))
  links_one link (Ok done) takes = λ p here. (y, subst (λ (z : IpcProcess). TakesLink link z y) (the_one p here) takes, refl)
  links_one link (Err e) takes = tt

  pub shows_one : (r : Result (Unit {0}) Memory) → OnErr r (process_of y ≡ process_of x) → queue_settings y ≡ queue_settings x → OnErr r (ShowsAt at old (slice_set old at y))
  shows_one (Ok done) same room = tt
  shows_one (Err e) same room = λ p here. (let one = the_one p here in (y, same ∙ ap process_of one, room ∙ ap queue_settings one, refl))

  pub changes_one : queue_settings y ≡ queue_settings x → ChangesProcess (Some at) old (slice_set old at y)
  changes_one room = by_process old (slice_set old at y) at x y here_it_is room refl

-- no one shows anything else
pub none_shows : (at : ℕ) (ps : List IpcProcess) → ShowsAt at ps ps
none_shows at ps p here = (p, refl, refl, sym (slice_set-same ps at p here))

-- Both ends of a management connection

pub push_two : (xs : List Channel) (x y : Channel) → (xs ++ x ∷ []) ++ y ∷ [] ≡ xs ++ x ∷ y ∷ []
push_two [] x y = refl
push_two (z ∷ xs) x y = ap (λ (zs : List Channel). z ∷ zs) (push_two xs x y)

pub added_both : (s : Settings) (cube : Cube) (piece max : ℕ) (peer : Peer) (own far : ℕ) (asker end : End) (old new : Flows) (r : Result (Unit {0}) Memory) → piece ≡ piece_size (config_of s) → max ≡ greatest (config_of s) → peer ≡ record { own = own; far = far; scep = 0; dcep = 0 }
    → OnOk r (Adds cube piece max peer asker end old new) → OnOk r (Adds cube (piece_size (config_of s)) (greatest (config_of s)) (record { own = own; far = far; scep = 0; dcep = 0 }) asker end old new)
added_both s cube piece max peer own far asker end old new (Err e) piece_is max_is peer_is adds = tt
added_both s cube piece max peer own far asker end old new (Ok done) piece_is max_is peer_is adds =
    subst (λ (q : Peer). Adds cube (piece_size (config_of s)) (greatest (config_of s)) q asker end old new) peer_is (subst (λ (n : ℕ). Adds cube (piece_size (config_of s)) n peer asker end old new) max_is (subst (λ (n : ℕ). Adds cube n max peer asker end old new) piece_is adds))

pub connects_joiner : (s : Settings) (clock i j : ℕ) (joiner member : Member) (link : Attachment) (c c' : Connections) (place partner : ℕ) (its_port : Port) (asker end : End) (r : Result (Unit {0}) Memory) → place ≡ length c.channels → partner ≡ suc (length c.channels) → partner < 2 ^ 32 → slice_get s.members i ≡ Some joiner → slice_get s.members j ≡ Some member
    → its_port ≡ no_port link.port.fac member.node → asker ≡ new_end (name_at clock place) Asker link.port joiner.name member.name 0 Allocated → end ≡ new_end (name_at clock place) Far its_port member.name joiner.name 0 Allocated → c'.manage ≡ c.manage
    → OnOk r (c'.channels ≡ c.channels ++ record { member = i; link = Some link; partner = partner } ∷ record { member = j; link = None; partner = place } ∷ []) → OnOk r (c'.flows.journal.ends ≡ c.flows.journal.ends ++ asker ∷ end ∷ [])
    → OnOk r (Adds c.manage (piece_size (config_of s)) (greatest (config_of s)) (record { own = place; far = partner; scep = 0; dcep = 0 }) asker end c.flows c'.flows)
    → OnOk r ((a b : Member) → slice_get s.members i ≡ Some a → slice_get s.members j ≡ Some b → ConnectsJoiner s clock i j a b link c c')
connects_joiner s clock i j joiner member link c c' place partner its_port asker end (Err e) place_is partner_is room is_joiner is_member port_is asker_is end_is manage channels ends adds = tt
connects_joiner s clock i j joiner member link c c' place partner its_port asker end (Ok done) place_is partner_is room is_joiner is_member port_is asker_is end_is manage channels ends adds = λ a b is_a is_b.
    let next : partner ≡ suc place = partner_is ∙ sym (ap suc place_is) in
    let joins : joiner ≡ a = same_some (slice_get s.members i) joiner a is_joiner is_a in
    let its : member ≡ b = same_some (slice_get s.members j) member b is_member is_b in
    subst (λ (x : Member). ConnectsJoiner s clock i j x b link c c') joins (subst (λ (y : Member). ConnectsJoiner s clock i j joiner y link c c') its (record {
      place = place;
      place_is = place_is;
      room = subst (λ (n : ℕ). n < 2 ^ 32) next room;
      asker = asker;
      asker_is = asker_is;
      end = end;
      end_is = end_is ∙ ap (λ (q : Port). new_end (name_at clock place) Far q member.name joiner.name 0 Allocated) port_is;
      manage_is = manage;
      channels_are = channels ∙ ap (λ (n : ℕ). c.channels ++ record { member = i; link = Some link; partner = n } ∷ far_channel place j ∷ []) next;
      ends_are = ends;
      adds = subst (λ (n : ℕ). Adds c.manage (piece_size (config_of s)) (greatest (config_of s)) (record { own = place; far = n; scep = 0; dcep = 0 }) asker end c.flows c'.flows) next adds;
    }))

-- The DIF takes the link

has_member : (s : Settings) (at : ℕ) → at < length s.members → (m : Member) × (slice_get s.members at ≡ Some m)
has_member s at lt = there s.members at lt

pub connects_members : (d : Dif) (i j : ℕ) (link : Attachment) (new : Connections) → i < length d.settings.members → j < length d.settings.members → ((a b : Member) → slice_get d.settings.members i ≡ Some a → slice_get d.settings.members j ≡ Some b → ConnectsJoiner d.settings d.clock i j a b link d.connections new) → ConnectsMembers d i j link new
connects_members d i j link new lt lt' connects =
    let a = has_member d.settings i lt in
    let b = has_member d.settings j lt' in
    record { joiner = a.0; is_joiner = a.1; member = b.0; is_member = b.1; connects = connects a.0 b.0 a.1 b.1 }

pub links_up : (i : ℕ) (link : Attachment) (old new : List IpcProcess) (p : IpcProcess) → slice_get old i ≡ Some p → IsLeastNumber p.links link.number → TakesLinkAt i link old new → LinksUp i link old new
links_up i link old new p is least takes = (let x = takes p is in record { process = p; is_process = is; least = least; after = x.0; takes = x.1; are = x.2 })

-- without memory
pub joins_not : (d : Dif) (i j : ℕ) (link : Attachment) (after : Management) (r : Result (Unit {0}) EnrolError) (e : EnrolError) (d' : Dif) → r ≡ Err e → e ≡ errors.Memory → JoinsNot d i j link d' → JoinsOr d i j link after r d'
joins_not d i j link after r e d' is memory not = subst (λ (v : Result (Unit {0}) EnrolError). JoinsOr d i j link after v d') (sym is) (memory, not)

-- the IPC process of a place claims it
pub takes_claimed : (d : Dif) (i place number : ℕ) (port : Port) (p : IpcProcess) (m : Management) (x : Channel) (after : Management) (d' : Dif) → slice_get d.processes i ≡ Some p → slice_get d.managements i ≡ Some m → slice_get d.connections.channels place ≡ Some x → IsLeastNumber p.links number → after ≡ with_claimed m number
    → TakesLinkAt i (record { number = number; port = port }) d.processes d'.processes → d'.connections ≡ record d.connections { channels = slice_set d.connections.channels place (record x { link = Some (record { number = number; port = port }) }) } → d'.managements ≡ slice_set d.managements i after → d' ≡ record d { processes = d'.processes; connections = d'.connections; managements = d'.managements }
    → (below : Seen) → IsAwaiting (channels_of d) below i port place → TakesClaimed d below i number port d'
takes_claimed d i place number port p m x after d' is_p is_m is_x least after_is takes channels managements only below w = record {
  links = links_up i (record { number = number; port = port }) d.processes d'.processes p is_p least takes;
  place = place;
  awaits = w;
  gets = record {
    channel = w.channel;
    stands = w.stands;
    none = w.none;
    partner = w.partner;
    is_partner = w.is_partner;
    near = w.near;
    on_port = w.on_port;
    flow = w.flow;
    new_is =
        let same : x ≡ w.channel = same_some (slice_get d.connections.channels place) x w.channel is_x w.stands in
        ap channels_of only ∙ ap (λ (c : Connections). channels_of (record d { connections = c })) (channels ∙ ap (λ (y : Channel). record d.connections { channels = slice_set d.connections.channels place (record y { link = Some (record { number = number; port = port }) }) }) same);
  };
  connections = channels ∙ sym (ap (λ (c : Connections). record d.connections { channels = c.channels }) channels);
  managements = managements ∙ ap (slice_set d.managements i) after_is ∙ ap (λ (o : Option Management). changed_if o i (λ m. with_claimed m number) d.managements) (sym is_m);
  only = only;
}
