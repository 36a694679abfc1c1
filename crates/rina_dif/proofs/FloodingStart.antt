-- The members of a DIF that was made are a network at its start, before anything is flooded.
use Rattle.std.proofs.Common.{◌≡◌, ◌∙◌, ℕ, ◌*◌, zero, suc, ◌≤◌, ◌<◌, Bool, List, [], ◌∷◌, length, map, slice_get, take, Option, Some, None, option_map, refl, sym, ap, subst, arith}
use Rattle.std.proofs.lemmas.List.{length-map}
use Rattle.std.proofs.lemmas.Option.{slice_get-map, slice_get_within}
use Rattle.rina_access.specs.declared.rules.Rule.{Rule}
use Rattle.rina_base.specs.declared.number.Port.{Port}
use Rattle.rina_channel.specs.declared.channel.Channel.{Channel}
use Rattle.rina_channel.specs.Channels.{HasLive, IsOnPort}
use Rattle.rina_cube.specs.declared.Cube.{Cube}
use Rattle.rina_data.specs.declared.link.Link.{Link}
use Rattle.rina_data.specs.declared.process.IpcProcess.{IpcProcess}
use Rattle.rina_data.specs.Configs.{config_of}
use Rattle.rina_data.specs.Deciding.{process_of}
use Rattle.rina_data.proofs.Finding.{there}
use Rattle.rina_dif_law.specs.Numbered.{AreMembers}
use Rattle.rina_dif_law.specs.Standing.{IsConfig}
use Rattle.rina_flood.specs.Members.{IsRunOf, StartIsRun}
use Rattle.rina_flood.specs.Network.{There, Unmade}
use Rattle.rina_flood.specs.Static.{AreEnds, AreFirst, LinkEnd}
use Rattle.rina_flood.proofs.States.{there_is}
use Rattle.rina_iface.specs.declared.ask.Fixed.{Fixed}
use Rattle.rina_iface.specs.declared.ends.End.{End}
use Rattle.rina_iface.specs.Seen.{Seen}
use Rattle.rina_law.specs.declared.entry.Entry.{Entry}
use Rattle.rina_member.specs.declared.management.Management.{Management}
use Rattle.rina_member.specs.Knowing.{IsLaidOut}
use Rattle.rina_member.specs.Routing.{edges_from}
use Rattle.rina_member.specs.Start.{started}
use Rattle.rina_plan.specs.declared.dif.DifPlan.{DifPlan}
use Rattle.rina_plan.specs.declared.dif.LinkPlan.{LinkPlan}
use Rattle.rina_stack.specs.declared.plan.Plan.{Plan}
use Rattle.rina_stack.specs.Plan.{IsPlan}
use Rattle.rina_member.specs.Short.{AreNamed}
use Rattle.rina_dif.specs.declared.dif.Dif.{Dif}
use Rattle.rina_dif.specs.declared.layout.Layout.{Layout}
use Rattle.rina_dif.specs.Building.{AreBare}
use Rattle.rina_dif.specs.Connected.{AreConnected}
use Rattle.rina_dif.specs.Flooding.{AreFlooding, handled_at, link_end, members_seen, offered_at, state_by, texts_of}
use Rattle.rina_dif.specs.Laying.{AreLaid, AreLinkedUp, BindsAll, ends_of, links_from, ports_at}
use Rattle.rina_dif.specs.Linking.{HaveConnections, IsChannelOf, port_of}
use Rattle.rina_dif.specs.Managing.{AreStarted, agents_of}
use Rattle.rina_dif.specs.Planned.{link_fixed}
use Rattle.rina_dif.specs.Shown.{seen_of}
use Rattle.rina_dif.proofs.Bare.{map_at}
use Rattle.rina_dif.proofs.Joining.{ends_long}
use Rattle.rina_dif.proofs.LinkEnds.{state_there}
use Rattle.rina_dif.proofs.Started.{are_live, are_numbered, bare_managed, enough, length_from, no_ports}

-- Nothing was offered or handled

take_none : {X : Type 0} (n : ℕ) → take {A = X} n [] ≡ []
take_none zero = refl
take_none (suc n) = refl

none_offered : (ends : List End) (place : ℕ) → ((k : ℕ) (e : End) → slice_get ends k ≡ Some e → e.sent ≡ []) → offered_at (slice_get ends place) ≡ []
none_offered ends place unused = go (slice_get ends place) refl
  where
    go : (o : Option End) → slice_get ends place ≡ o → offered_at o ≡ []
    go None is = refl
    go (Some e) is = ap texts_of (unused place e is)

none_handled : (ends : List End) (place : ℕ) → ((k : ℕ) (e : End) → slice_get ends k ≡ Some e → e.got ≡ []) → handled_at (slice_get ends place) ≡ []
none_handled ends place unused = go (slice_get ends place) refl
  where
    go : (o : Option End) → slice_get ends place ≡ o → handled_at o ≡ []
    go None is = refl
    go (Some e) is = ap (λ (xs : List Entry). texts_of (take e.taken xs)) (unused place e is) ∙ ap texts_of (take_none e.taken)

-- The ends of the links

module _ (d : Dif) (manage : Cube) (ports laid_ports : List (Port × Port)) (below : Seen) (have : HaveConnections d.settings manage ports d.processes d.connections) (connected : AreConnected (config_of d.settings) d.clock d.connections (seen_of d).processes below) (up : AreLinkedUp d.settings (ends_of laid_ports) d.processes) where
  abbrev ps : List IpcProcess
  ps = d.processes

  within_members : (i : ℕ) (p : IpcProcess) → slice_get ps i ≡ Some p → i < length d.settings.members
  within_members i p is = (let lt = slice_get_within ps i p is in let aligned = up.aligned in omega (arith, lt, aligned))

  -- the link of a channel is live
  live_channel : (x : Channel) (port : Port) (of : IsChannelOf d.settings ps port x.partner x) → HasLive (map process_of ps) x.member of.link.number port
  live_channel x port of =
      let m = there d.settings.members x.member (within_members x.member of.process of.is_process) in
      let its = (up.each x.member m.0 of.process m.1 of.is_process).links in
      record {
        process = process_of of.process;
        is_process = slice_get-map process_of ps x.member ∙ ap (option_map process_of) of.is_process;
        place = of.place;
        link = of.link;
        stands = of.stands;
        live = are_live (ports_at m.0.node (ends_of laid_ports)) of.place of.link (ap (λ (ls : List Link). slice_get ls of.place) (sym its) ∙ of.stands);
        number_is = refl;
        port_is = of.on_port;
      }

  -- so its end is there
  its_state : (x : Channel) (port : Port) (of : IsChannelOf d.settings ps port x.partner x) → state_by ps x.member x.link ≡ There of.link.number
  its_state x port of = ap (state_by ps x.member) of.attached ∙ state_there ps x.member (record { number = of.link.number; port = port }) (live_channel x port of)

  -- each has one
  its_port : (k : ℕ) (x : Channel) → slice_get d.connections.channels k ≡ Some x → (port : Port) × IsChannelOf d.settings ps port x.partner x
  its_port k x is =
      let mapped = slice_get-map port_of d.connections.channels k ∙ ap (option_map port_of) is in
      let p = map_at (λ (z : Port). Some z) (ends_of ports) k (port_of x) (ap (λ (zs : List (Option Port)). slice_get zs k) (sym have.ports_are) ∙ mapped) in
      (p.0, have.links k x p.0 is (sym p.2))

  pub are_ends : AreEnds d.settings.members (map (link_end d.processes) d.connections.channels)
  are_ends = record {
    within = λ k e is.
        let x = map_at (link_end d.processes) d.connections.channels k e is in
        let of = (its_port k x.0 x.1).1 in
        subst (λ (z : LinkEnd). z.member < length d.settings.members) x.2 (within_members x.0.member of.process of.is_process);
    apart = λ j k a b number is_a is_b member has too.
        let x = map_at (link_end d.processes) d.connections.channels j a is_a in
        let y = map_at (link_end d.processes) d.connections.channels k b is_b in
        let same_member : y.0.member ≡ x.0.member = ap (λ (z : LinkEnd). z.member) y.2 ∙ sym member ∙ sym (ap (λ (z : LinkEnd). z.member) x.2) in
        let p = its_port j x.0 x.1 in
        let q = its_port k y.0 y.1 in
        let nx : ℕ = p.1.link.number in
        let ny : ℕ = q.1.link.number in
        let is_x : nx ≡ number = there_is nx number (sym (its_state x.0 p.0 p.1) ∙ ap (λ (z : LinkEnd). z.state) x.2 ∙ has) in
        let is_y : ny ≡ number = there_is ny number (sym (its_state y.0 q.0 q.1) ∙ ap (λ (z : LinkEnd). z.state) y.2 ∙ too) in
        let first = live_channel x.0 p.0 p.1 in
        let second : HasLive (map process_of ps) x.0.member nx q.0 = subst (λ (i : ℕ). HasLive (map process_of ps) i nx q.0) same_member (subst (λ (n : ℕ). HasLive (map process_of ps) y.0.member n q.0) (is_y ∙ sym is_x) (live_channel y.0 q.0 q.1)) in
        let channels = connected.standing.channels in
        let on_x : IsOnPort x.0 q.0 = record { link = record { number = nx; port = p.0 }; link_is = p.1.attached; port_is = channels.numbered x.0.member nx p.0 q.0 first second } in
        let on_y : IsOnPort y.0 q.0 = record { link = record { number = ny; port = q.0 }; link_is = q.1.attached; port_is = refl } in
        channels.apart j k x.0 y.0 q.0 x.1 y.1 on_x on_y;
  }

  -- each end is made
  pub are_made : (k : ℕ) (e : LinkEnd) → slice_get (map (link_end d.processes) d.connections.channels) k ≡ Some e → e.state ≡ Unmade → ⊥
  are_made k e is unmade =
      let x = map_at (link_end d.processes) d.connections.channels k e is in
      let p = its_port k x.0 x.1 in
      let clash : There p.1.link.number ≡ Unmade = sym (its_state x.0 p.0 p.1) ∙ ap (λ (z : LinkEnd). z.state) x.2 ∙ unmade in
      absurd (cc)

-- The DIF of a plan

-- without ports there are no ends
no_ends : (ps : List IpcProcess) (channels : List Channel) → map port_of channels ≡ [] → map (link_end ps) channels ≡ []
no_ends ps [] none = refl
no_ends ps (x ∷ channels) none = absurd cc

-- there are two for each link of the plan
bound_long : (old new : Seen) (fs : List Fixed) (ports : List (Port × Port)) → BindsAll old fs ports new → length ports ≡ length fs
bound_long old new [] [] b = refl
bound_long old new [] (p ∷ ps) b = absurd b
bound_long old new (f ∷ fs) [] b = absurd b
bound_long old new (f ∷ fs) (p ∷ ps) b = (let rest = bound_long b.0 new fs ps b.2 in omega (arith, rest))

ends_planned : (ps : List IpcProcess) (channels : List Channel) (ports : List (Port × Port)) (count : ℕ) → map port_of channels ≡ map (λ (z : Port). Some z) (ends_of ports) → length ports ≡ count → length (map (link_end ps) channels) ≡ 2 * count
ends_planned ps channels ports count are all =
    let ends : length channels ≡ length (ends_of ports) = sym (length-map channels port_of) ∙ ap (λ (zs : List (Option Port)). length zs) are ∙ length-map (ends_of ports) (λ (z : Port). Some z) in
    length-map channels (link_end ps) ∙ ends ∙ ends_long ports ∙ ap (λ (k : ℕ). 2 * k) all

plan_first : (plan : Plan) (i : ℕ) (dif : DifPlan) (d : Dif) (old new : Seen) (ports : List (Port × Port)) (linked : List IpcProcess) → IsPlan plan → slice_get plan.difs i ≡ Some dif → AreLaid plan dif d.settings dif.links old new ports linked → AreStarted dif.is_static d.settings.cubes d.settings.members dif.links dif.rules dif.allow (length d.settings.members) linked d.managements
    → AreFirst dif.is_static d.settings.members dif.links (agents_of d.managements)
plan_first plan i dif d old new ports linked sound at laid so = record {
  aligned = length-map d.managements (λ (g : Management). g.agent) ∙ so.aligned;
  each = λ k m a is_m is_a.
      let g = map_at (λ (z : Management). z.agent) d.managements k a is_a in
      let within = slice_get_within d.settings.members k m is_m in
      let aligned = laid.up.aligned in
      let p = there linked k (omega (arith, within, aligned)) in
      let up = laid.up.each k m p.0 is_m p.1 in
      let one = so.each k m p.0 g.0 is_m p.1 g.1 in
      let its = ports_at m.node (ends_of ports) in
      let all = enough plan i dif d.settings old new ports linked m.node sound at laid in
      let count = length_from 0 its in
      record {
        rules = one.access;
        links = links_from 0 its;
        numbered = are_numbered its;
        live = are_live its;
        enough = omega (arith, all, count);
        bare = λ dynamic. ap (λ (ps : List (Port × Port)). links_from 0 (ports_at m.node (ends_of ps))) (no_ports plan i dif ports old new sound at laid.bound dynamic);
        is = sym g.2 ∙ one.is ∙ ap (started dif.is_static d.settings.members dif.links one.access m) up.links;
      };
}

pub plan_floods : StartIsRun → (plan : Plan) (i : ℕ) (dif : DifPlan) (d : Dif) (old new : Seen) (ports : List (Port × Port)) (linked : List IpcProcess) (manage : Cube) → IsPlan plan → slice_get plan.difs i ≡ Some dif → IsLaidOut d.settings.members dif.links → AreLaid plan dif d.settings dif.links old new ports linked → AreLinkedUp d.settings (ends_of ports) d.processes
    → AreStarted dif.is_static d.settings.cubes d.settings.members dif.links dif.rules dif.allow (length d.settings.members) linked d.managements → d.laid ≡ record { is_static = dif.is_static; links = dif.links; wait = dif.wait } → HaveConnections d.settings manage ports d.processes d.connections → AreConnected (config_of d.settings) d.clock d.connections (seen_of d).processes new → AreFlooding d
plan_floods start plan i dif d old new ports linked manage sound at out laid up so same have connected =
    let all : AreEnds d.settings.members (map (link_end d.processes) d.connections.channels) = are_ends d manage ports ports new have connected up in
    let ends = d.connections.flows.journal.ends in
    let run = start dif.is_static dif.links (members_seen d) (record {
      laid_out = out;
      bare = λ dynamic. no_ends d.processes d.connections.channels (have.ports_are ∙ ap (λ (ps : List (Port × Port)). map (λ (z : Port). Some z) (ends_of ps)) (no_ports plan i dif ports old new sound at laid.bound dynamic));
      planned = λ still. ends_planned d.processes d.connections.channels ports (length dif.links) have.ports_are (bound_long old new (map (link_fixed plan dif) dif.links) ports laid.bound ∙ length-map dif.links (link_fixed plan dif));
      made = are_made d manage ports ports new have connected up;
      first = plan_first plan i dif d old new ports linked sound at laid so;
      ends = all;
      sent = λ place. none_offered ends place (λ k e is. (have.unused k e is).sent);
      got = λ place. none_handled ends place (λ k e is. (have.unused k e is).got);
    }) in
    subst (λ (l : Layout). IsRunOf l.is_static l.links (members_seen d)) (sym same) run

-- A DIF without links

none_in : {X : Type 0} (xs : List X) (i : ℕ) (x : X) → xs ≡ [] → slice_get xs i ≡ Some x → ⊥
none_in xs i x e h = cc

pub bare_floods : StartIsRun → (d : Dif) → d.connections.channels ≡ [] → d.connections.flows.journal.ends ≡ [] → d.laid.links ≡ [] → AreBare d.settings d.processes → (rules : List Rule) (allow : Bool) → AreStarted d.laid.is_static d.settings.cubes d.settings.members d.laid.links rules allow (length d.settings.members) d.processes d.managements → IsConfig (config_of d.settings) → AreMembers (config_of d.settings) → AreNamed d.settings.members → AreFlooding d
bare_floods start d channels ends none bare rules allow so config members named =
    let managed = bare_managed d.laid.is_static d.settings d.laid.links rules allow d.clock d.processes d.managements none bare config members named so in
    start d.laid.is_static d.laid.links (members_seen d) (record {
      laid_out = managed.laid_out;
      bare = λ dynamic. ap (map (link_end d.processes)) channels;
      planned = λ still. ap (λ (xs : List Channel). length (map (link_end d.processes) xs)) channels ∙ ap (λ (links : List LinkPlan). 2 * length links) (sym none);
      made = λ k e is. (let x = map_at (link_end d.processes) d.connections.channels k e is in absurd (none_in d.connections.channels k x.0 channels x.1));
      first = record {
        aligned = length-map d.managements (λ (g : Management). g.agent) ∙ so.aligned;
        each = λ k m a is_m is_a.
            let g = map_at (λ (z : Management). z.agent) d.managements k a is_a in
            let within = slice_get_within d.settings.members k m is_m in
            let aligned = bare.aligned in
            let p = there d.processes k (omega (arith, within, aligned)) in
            let one = so.each k m p.0 g.0 is_m p.1 g.1 in
            let links : p.0.links ≡ [] = (bare.each k p.0 p.1).links in
            record {
              rules = one.access;
              links = [];
              numbered = λ j link is. absurd (none_in [] j link refl is);
              live = λ j link is. absurd (none_in [] j link refl is);
              enough = subst (λ (plans : List LinkPlan). length (edges_from d.settings.members m.node plans) ≤ 0) (sym none) (omega arith);
              bare = λ dynamic. refl;
              is = sym g.2 ∙ one.is ∙ ap (started d.laid.is_static d.settings.members d.laid.links one.access m) links;
            };
      };
      ends = record {
        within = λ k e is. (let x = map_at (link_end d.processes) d.connections.channels k e is in absurd (none_in d.connections.channels k x.0 channels x.1));
        apart = λ j k a b number is_a is_b member has too. (let x = map_at (link_end d.processes) d.connections.channels j a is_a in absurd (none_in d.connections.channels j x.0 channels x.1));
      };
      sent = λ place. none_offered d.connections.flows.journal.ends place (λ k e is. absurd (none_in d.connections.flows.journal.ends k e ends is));
      got = λ place. none_handled d.connections.flows.journal.ends place (λ k e is. absurd (none_in d.connections.flows.journal.ends k e ends is));
    })
