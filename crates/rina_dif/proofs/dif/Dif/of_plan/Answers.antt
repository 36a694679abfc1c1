use Rattle.std.proofs.Common.{◌≡◌, ◌∙◌, ◌≤◌, List, ap, length, refl, subst, sym}
use Rattle.rina_iface.specs.declared.ask.Fixed.{Fixed}
use Rattle.rina_access.specs.declared.rules.Rule.{Rule}
use Rattle.rina_member.specs.declared.management.Management.{Management}
use Rattle.rina_dif.specs.Laying.{BindsInTurn}
use Rattle.rina_base.specs.declared.number.Port.{Port}
use Rattle.rina_dif.specs.Linking.{AreLinks}
use Rattle.rina_data.specs.declared.settings.Settings.{Settings}
use Rattle.rina_data.specs.Configs.{config_of}
use Rattle.rina_dif.specs.Connected.{CanManage}
use Rattle.rina_dif.specs.declared.dif.Dif.{Dif}
use Rattle.rina_dif.specs.declared.layout.Layout.{Layout}
use Rattle.rina_plan.specs.declared.dif.DifPlan.{DifPlan}
use Rattle.rina_plan.specs.declared.dif.LinkPlan.{LinkPlan}
use Rattle.rina_dif.proofs.Sound.{can_manage}
use Rattle.rina_dif.proofs.Joining.{are_links, is_connected}
use Rattle.rina_dif.proofs.Made.{its_links, its_settings, made_new, made_stands, made_takes}
use Rattle.rina_dif.proofs.Routed.{same_routed}
use Rattle.rina_dif.proofs.Started.{few_rules, same_started}
use Rattle.rina_dif.proofs.Wiring.{all_bare_up}
use Rattle.rina_dif.specs.Linking.{HaveConnections}
use Rattle.rina_dif_law.specs.Numbered.{AreMembers}
use Rattle.rina_dif_law.specs.Standing.{IsConfig}
use Rattle.rina_dif.proofs.FloodingStart.{plan_floods}
use Rattle.rina_dif.proofs.Sound.{are_members, is_config}
use Rattle.rina_dif.proofs.Started.{made_managed}
use Rattle.rina_dif.proofs.dif.Dif.of_plan.Goals as goal

laid_as : (l : Layout) (dif : DifPlan) (plans : List LinkPlan) → l ≡ record { is_static = dif.is_static; links = plans; wait = dif.wait } → plans ≡ dif.links → l ≡ record { is_static = dif.is_static; links = dif.links; wait = dif.wait }
laid_as l dif plans is same = is ∙ ap (λ (ls : List LinkPlan). record { is_static = dif.is_static; links = ls; wait = dif.wait }) same

pub lay_links-requires-clause-takes : goal.lay_links-requires-clause-takes
lay_links-requires-clause-takes g c = made_takes c.args.plan.now c.args.at c.in-Some.dif.now c.in_ok-made.made.settings (g.F.Facility.seen c.args.below.now) c.in-Some.ensures (c.in_ok-made.ensures.settings ∙ c.in_ok-settings.ensures) c.requires.can

pub lay_links-requires-clause-up : goal.lay_links-requires-clause-up
lay_links-requires-clause-up g c = all_bare_up c.in_ok-made.made.settings c.in_ok-made.made.processes c.in_ok-made.ensures.bare.processes

pub first_managements-requires-clause-aligned : goal.first_managements-requires-clause-aligned
first_managements-requires-clause-aligned g c = c.in_ok-ports.ensures.ok.up.aligned

pub first_managements-requires-clause-few : goal.first_managements-requires-clause-few
first_managements-requires-clause-few g c = (let few = few_rules c.args.plan.now c.args.at c.in-Some.dif.now c.requires.plan c.in-Some.ensures in subst (λ (rs : List Rule). length rs ≤ 256) (sym c.as_slice-rules.ensures) few)

pub route_all-requires : goal.route_all-requires
route_all-requires g c = c.in_ok-ports.ensures.ok.up.aligned ∙ sym c.in_ok-managements.ensures.aligned ∙ ap (λ (gs : List Management). length gs) (sym c.as_slice.ensures)

pub of_links-requires-clause-manage : goal.of_links-requires-clause-manage
of_links-requires-clause-manage g c = subst (λ (s : Settings). CanManage (config_of s) c.in-Some.dif.now.manage) (sym (c.in_ok-made.ensures.settings ∙ c.in_ok-settings.ensures)) (can_manage c.args.plan.now c.args.at c.in-Some.dif.now c.requires.plan c.in-Some.ensures)

pub of_links-requires-clause-links : goal.of_links-requires-clause-links
of_links-requires-clause-links g c =
    let made = c.in_ok-made.made in
    let dif = c.in-Some.dif.now in
    let seen = g.F.Facility.seen in
    let managements = c.in_ok-managements.managements in
    let linked = c.lay_links.new.processes in
    let are : made.settings ≡ _ = c.in_ok-made.ensures.settings ∙ c.in_ok-settings.ensures in
    let routed = same_routed c.as_slice-members.result.now made.settings.members c.as_slice.result.now managements linked c.route_all.new.processes c.as_slice-members.ensures c.as_slice.ensures c.in_ok-route_all.ensures in
    let links = are_links c.args.plan.now c.args.at dif made.settings made.clock (seen c.args.below.now) (seen c.lay_links.new.below) c.in_ok-ports.ports managements linked c.route_all.new.processes c.requires.plan c.in-Some.ensures are (c.in_ok-made.ensures.clock ∙ c.now.ensures) c.lay_links.ensures.laid c.in_ok-ports.ensures.ok routed in
    (seen c.lay_links.new.below, subst (λ (ps : List (Port × Port)). AreLinks made.settings made.clock ps c.route_all.new.processes (seen c.lay_links.new.below)) (sym c.as_slice-links.ensures) links)

pub returns-clause-stands : goal.returns-clause-stands
returns-clause-stands g c =
    let made = c.in_ok-made.made in
    let bare = c.in_ok-made.ensures.bare in
    let dif = c.in-Some.dif.now in
    let managements = c.in_ok-managements.managements in
    let linked = c.lay_links.new.processes in
    let seen = g.F.Facility.seen in
    let are : made.settings ≡ _ = c.in_ok-made.ensures.settings ∙ c.in_ok-settings.ensures in
    let free = c.requires.can.free made.settings (its_settings c.args.plan.now c.args.at dif made.settings c.in-Some.ensures are) in
    let started = same_started dif.is_static made.settings.cubes made.settings.cubes made.settings.members made.settings.members c.as_slice-plans.result.now dif.links c.as_slice-rules.result.now dif.rules dif.allow linked managements refl refl c.as_slice-plans.ensures c.as_slice-rules.ensures c.in_ok-managements.ensures in
    let routed = same_routed c.as_slice-members.result.now made.settings.members c.as_slice.result.now managements linked c.route_all.new.processes c.as_slice-members.ensures c.as_slice.ensures c.in_ok-route_all.ensures in
    let links = are_links c.args.plan.now c.args.at dif made.settings made.clock (seen c.args.below.now) (seen c.lay_links.new.below) c.in_ok-ports.ports managements linked c.route_all.new.processes c.requires.plan c.in-Some.ensures are (c.in_ok-made.ensures.clock ∙ c.now.ensures) c.lay_links.ensures.laid c.in_ok-ports.ensures.ok routed in
    let same = c.as_slice-links.ensures in
    let connected = c.in_ok-connections.ensures.stand (seen c.lay_links.new.below) (subst (λ (ps : List (Port × Port)). AreLinks made.settings made.clock ps c.route_all.new.processes (seen c.lay_links.new.below)) (sym same) links) in
    let d : Dif = record made { processes = c.route_all.new.processes; managements = managements; laid = c.in_ok-made-2.field-0; connections = c.in_ok-connections.connections } in
    let config = subst (λ (s : Settings). IsConfig (config_of s)) (sym are) (is_config c.args.plan.now c.args.at dif c.requires.plan c.in-Some.ensures) in
    let members = subst (λ (s : Settings). AreMembers (config_of s)) (sym are) (are_members c.args.plan.now c.args.at dif c.requires.plan c.in-Some.ensures) in
    let managed = made_managed c.args.plan.now c.args.at dif d (seen c.args.below.now) (seen c.lay_links.new.below) c.in_ok-ports.ports linked c.requires.plan c.in-Some.ensures are config members c.in_ok-made.ensures.named c.in_ok-ports.ensures.ok started routed in
    let have = subst (λ (ps : List (Port × Port)). HaveConnections made.settings dif.manage ps c.route_all.new.processes c.in_ok-connections.connections) same c.in_ok-connections.ensures.have in
    let floods = plan_floods c.members_are_a_network.ensures.start c.args.plan.now c.args.at dif d (seen c.args.below.now) (seen c.lay_links.new.below) c.in_ok-ports.ports linked dif.manage c.requires.plan c.in-Some.ensures managed.laid_out c.in_ok-ports.ensures.ok links.up started (laid_as c.in_ok-made-2.field-0 dif c.as_slice-plans.result.now c.in_ok-made-2.ensures c.as_slice-plans.ensures) have connected in
    made_stands c.args.plan.now c.args.at dif (record made { processes = c.route_all.new.processes; managements = managements; laid = c.in_ok-made-2.field-0; connections = c.in_ok-connections.connections }) (seen c.args.below.now) (seen c.lay_links.new.below) (g.met.F.Facility.kept c.lay_links.new.below c.lay_links.ensures.valid) c.requires.plan c.in-Some.ensures are (c.in_ok-made.ensures.clock ∙ c.now.ensures) bare.ends bare.conns bare.ids free c.lay_links.ensures.laid c.in_ok-ports.ports linked c.in_ok-made.ensures.named c.in_ok-ports.ensures.ok started routed (laid_as c.in_ok-made-2.field-0 dif c.as_slice-plans.result.now c.in_ok-made-2.ensures c.as_slice-plans.ensures) c.in_ok-made.ensures.enrolled connected floods

pub returns-clause-exact : goal.returns-clause-exact
returns-clause-exact g c =
    let made = c.in_ok-made.made in
    let bare = c.in_ok-made.ensures.bare in
    let dif = c.in-Some.dif.now in
    let managements = c.in_ok-managements.managements in
    let linked = c.lay_links.new.processes in
    let seen = g.F.Facility.seen in
    let started = same_started dif.is_static made.settings.cubes made.settings.cubes made.settings.members made.settings.members c.as_slice-plans.result.now dif.links c.as_slice-rules.result.now dif.rules dif.allow linked managements refl refl c.as_slice-plans.ensures c.as_slice-rules.ensures c.in_ok-managements.ensures in
    let routed = same_routed c.as_slice-members.result.now made.settings.members c.as_slice.result.now managements linked c.route_all.new.processes c.as_slice-members.ensures c.as_slice.ensures c.in_ok-route_all.ensures in
    made_new c.args.plan.now c.args.at dif (record made { processes = c.route_all.new.processes; managements = managements; laid = c.in_ok-made-2.field-0; connections = c.in_ok-connections.connections }) (seen c.args.below.now) (seen c.lay_links.new.below) c.requires.plan c.in-Some.ensures (c.in_ok-made.ensures.settings ∙ c.in_ok-settings.ensures) (c.in_ok-made.ensures.clock ∙ c.now.ensures) c.in_ok-made.ensures.alive bare.ends bare.conns bare.waiting bare.asks bare.names c.in_ok-ports.ports linked c.in_ok-made.ensures.named c.in_ok-ports.ensures.ok started routed c.in_ok-made.ensures.enrolled

pub returns-clause-whole : goal.returns-clause-whole
returns-clause-whole g c = subst (λ (fs : List Fixed). BindsInTurn g.F.Facility.does_bind c.args.below.now fs c.lay_links.new.below) (sym (its_links c.args.plan.now c.args.at c.in-Some.dif.now c.in-Some.ensures)) c.in_ok-ports.ensures.whole

pub returns-clause-connected : goal.returns-clause-connected
returns-clause-connected g c = λ dif at. is_connected c.args.plan.now c.args.at c.in-Some.dif.now dif _ (g.F.Facility.seen c.args.below.now) (g.F.Facility.seen c.lay_links.new.below) c.in_ok-ports.ports c.as_slice-links.result.now c.in-Some.ensures at c.as_slice-links.ensures c.in_ok-ports.ensures.ok.bound c.in_ok-connections.ensures.have
