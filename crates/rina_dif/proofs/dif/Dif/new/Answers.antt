use Rattle.std.proofs.Common.{◌≡◌, ◌∙◌, ℕ, Bool, List, length, map, false, true, ap, refl, subst, sym}
use Rattle.rina_ids.specs.Members.{AreUndrawn}
use Rattle.rina_data.specs.Configs.{config_of}
use Rattle.rina_data.specs.declared.settings.Member.{Member}
use Rattle.rina_member.specs.Short.{AreNamed}
use Rattle.rina_dif.specs.Connected.{CanManage}
use Rattle.rina_dif.specs.declared.dif.Dif.{Dif}
use Rattle.rina_dif.specs.declared.layout.Layout.{Layout}
use Rattle.rina_dif.specs.Managing.{AreEnrolled, AreStarted}
use Rattle.rina_member.specs.Start.{first_enrolled}
use Rattle.rina_dif.proofs.Enrolled.{starts_known}
use Rattle.rina_dif.proofs.Bare.{bare_holds}
use Rattle.rina_dif.proofs.Started.{same_started}
use Rattle.rina_dif.proofs.FloodingStart.{bare_floods}
use Rattle.rina_dif.proofs.dif.Dif.new.Goals as goal

nodes_are : (is_static : Bool) (members seen firsts : List Member) (nodes : List ℕ) → nodes ≡ map (λ (m : Member). m.node) firsts → firsts ≡ first_enrolled is_static seen → seen ≡ members → nodes ≡ map (λ (m : Member). m.node) (first_enrolled is_static members)
nodes_are is_static members seen firsts nodes are first same = are ∙ ap (map (λ (m : Member). m.node)) (first ∙ ap (first_enrolled is_static) same)

pub returns-clause-enrolled : goal.returns-clause-enrolled
returns-clause-enrolled c = nodes_are c.args.is_static c.args.settings.members c.as_slice-members.result.now c.first_enrolled.result.now c.in_ok-enrolled.enrolled c.in_ok-enrolled.ensures c.first_enrolled.ensures c.as_slice-members.ensures

pub returns-clause-holds : goal.returns-clause-holds
returns-clause-holds c = λ below kept can members unfixed clock free.
    let d : Dif = record { settings = c.args.settings; clock = c.args.clock; processes = c.in_ok-processes.processes; managements = c.in_ok-managements.managements; laid = c.none-laid.result; connections = c.none-connections.result; flows = c.new-2.result; ids = c.in_ok-ids.ids; waiting = c.new-3.result; asks = c.new-4.result; names = c.new-5.result; enrolled = c.in_ok-enrolled.enrolled; failed = false } in
    let started = same_started c.args.is_static c.as_slice.result.now c.args.settings.cubes c.as_slice-members.result.now c.args.settings.members c.as_slice-2.result.now c.none-laid.result.links c.as_slice-3.result.now c.as_slice-3.result.now true c.in_ok-processes.processes c.in_ok-managements.managements c.as_slice.ensures c.as_slice-members.ensures c.as_slice-2.ensures refl c.in_ok-managements.ensures in
    let static : c.none-laid.result.is_static ≡ c.args.is_static = ap (λ (l : Layout). l.is_static) c.none-laid.ensures in
    let begun : AreStarted c.none-laid.result.is_static c.args.settings.cubes c.args.settings.members c.none-laid.result.links c.as_slice-3.result.now true (length c.args.settings.members) c.in_ok-processes.processes c.in_ok-managements.managements = subst (λ (b : Bool). AreStarted b c.args.settings.cubes c.args.settings.members c.none-laid.result.links c.as_slice-3.result.now true (length c.args.settings.members) c.in_ok-processes.processes c.in_ok-managements.managements) (sym static) started in
    let nodes = nodes_are c.args.is_static c.args.settings.members c.as_slice-members.result.now c.first_enrolled.result.now c.in_ok-enrolled.enrolled c.in_ok-enrolled.ensures c.first_enrolled.ensures c.as_slice-members.ensures in
    let known : AreEnrolled d = starts_known c.none-laid.result.is_static c.args.settings.cubes c.args.settings c.none-laid.result.links c.as_slice-3.result.now true c.in_ok-processes.processes c.in_ok-managements.managements c.in_ok-enrolled.enrolled members c.in_ok-processes.ensures.aligned begun (nodes ∙ ap (λ (b : Bool). map (λ (m : Member). m.node) (first_enrolled b c.args.settings.members)) (sym static)) (λ dynamic. unfixed (sym static ∙ dynamic)) in
    let named = subst (λ (ms : List Member). AreNamed ms) c.as_slice-members.ensures c.are_named.ensures in
    let may = subst (CanManage (config_of c.args.settings)) (sym c.none-connections.ensures.manage) can in
    let floods = bare_floods c.members_are_a_network.ensures.start d c.none-connections.ensures.channels c.none-connections.ensures.ends (ap (λ (l : Layout). l.links) c.none-laid.ensures) c.in_ok-processes.ensures c.as_slice-3.result.now true begun may.managed.config members named in
    bare_holds d below kept c.new-2.ensures.ends c.new-2.ensures.conns c.none-connections.ensures.channels c.none-connections.ensures.ends c.none-connections.ensures.conns (ap (λ (l : Layout). l.links) c.none-laid.ensures) c.in_ok-processes.ensures c.as_slice-3.result.now true begun may members named (λ widths. subst (λ (n : ℕ). AreUndrawn c.args.settings.widths.cep n c.in_ok-ids.ids) c.len.ensures (c.in_ok-ids.ensures widths.cep)) clock free known floods

pub returns-clause-named : goal.returns-clause-named
returns-clause-named c = subst (λ (ms : List Member). AreNamed ms) c.as_slice-members.ensures c.are_named.ensures
