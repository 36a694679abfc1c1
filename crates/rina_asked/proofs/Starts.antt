-- No message is there from the start.
use Rattle.std.proofs.Common.{zero, suc, sum_by, ◌≡◌, ◌∙◌, ⊎_elim, ℕ, ◌<◌, Bool, List, [], Contains, length, slice_get, Option, Some, None, refl, ap, subst, arith}
use Rattle.std.proofs.lemmas.Option.{slice_get_within}
use Rattle.rina_access.specs.declared.rules.Rules.{Rules}
use Rattle.rina_agent.specs.declared.agent.Agent.{Agent}
use Rattle.rina_agent.specs.declared.message.Waiting.{Waiting}
use Rattle.rina_data.specs.declared.link.Link.{Link}
use Rattle.rina_data.specs.declared.settings.Member.{Member}
use Rattle.rina_data.proofs.Finding.{there}
use Rattle.rina_flood.specs.Network.{Far, Near, Side, other}
use Rattle.rina_flood.specs.Static.{end_place}
use Rattle.rina_iface.specs.declared.ends.End.{End}
use Rattle.rina_law.specs.declared.entry.Entry.{Entry}
use Rattle.rina_member.specs.Start.{started}
use Rattle.rina_iface.specs.Seen.{Seen}
use Rattle.rina_member.specs.declared.management.Management.{Management}
use Rattle.rina_plan.specs.declared.dif.DifPlan.{DifPlan}
use Rattle.rina_plan.specs.declared.dif.LinkPlan.{LinkPlan}
use Rattle.rina_stack.specs.declared.plan.Plan.{Plan}
use Rattle.rina_route.proofs.Lists.{in_none}
use Rattle.rina_dif.specs.declared.dif.Dif.{Dif}
use Rattle.rina_dif.specs.declared.waiting_asks.WaitingAsk.{WaitingAsk}
use Rattle.rina_dif.specs.Flooding.{handled_at, offered_at, texts_of}
use Rattle.rina_dif.specs.Holding.{Stands}
use Rattle.rina_dif.specs.Laying.{IsNew}
use Rattle.rina_dif.specs.Linking.{IsConnected, IsOpen}
use Rattle.rina_dif.specs.Planned.{links_of}
use Rattle.rina_dif.proofs.Leaves.{has_process}
use Rattle.rina_asked.specs.Alone.{AreAlone, all_on_links, askers, asks, far_ends, one, one_waiting, text_asks}
use Rattle.rina_asked.specs.Awaited.{AreAwaited}
use Rattle.rina_asked.specs.Ends.{HaveEnds}
use Rattle.rina_asked.specs.Messages.{on_link}
use Rattle.rina_asked.specs.Single.{AreSingle, belongs, text_belongs}
use Rattle.rina_asked.proofs.Counting.{sum_each, sum_none}
use Rattle.rina_asked.proofs.Links.{contains_drop}

started_agenda : (is_static : Bool) (members : List Member) (plans : List LinkPlan) (rules : Rules) (m : Member) (links : List Link) → (started is_static members plans rules m links).agenda ≡ []
unfolding started
started_agenda is_static members plans rules m links = refl

none_offered : (ends : List End) (o : Option End) (k : ℕ) (text : List ℕ) → ((k : ℕ) (e : End) → slice_get ends k ≡ Some e → IsOpen e) → slice_get ends k ≡ o → Contains (offered_at o) text → ⊥
none_offered ends None k text unused is has = in_none text has
none_offered ends (Some e) k text unused is has = in_none text (subst (λ (es : List Entry). Contains (texts_of es) text) (unused k e is).sent has)

module _ (plan : Plan) (i : ℕ) (dif : DifPlan) (d : Dif) (old new : Seen) (is_dif : slice_get plan.difs i ≡ Some dif) (n : IsNew plan i d old new) (c : IsConnected d dif.manage (links_of plan i) old new) (st : Stands d new) where
  pub none_waits : (k : ℕ) (m : Management) → slice_get d.managements k ≡ Some m → m.agent.agenda ≡ []
  none_waits k m is =
      let managed = n.managed dif is_dif in
      let within = slice_get_within d.managements k m is in
      let aligned = managed.aligned in
      let lt : k < length d.settings.members = omega (arith, within, aligned) in
      let member = there d.settings.members k lt in
      let process = has_process d new k st lt in
      let first = managed.each k member.0 process.0 m member.1 process.1 is in
      ap (λ (g : Agent). g.agenda) first.is ∙ started_agenda dif.is_static d.settings.members dif.links first.access member.0 process.0.links

  pub none_on : (l : ℕ) (side : Side) (text : List ℕ) → Contains (on_link d l side) text → ⊥
  none_on l side text has = none_offered d.connections.flows.journal.ends _ (end_place l side) text c.have.unused refl (contains_drop (length (handled_at (slice_get d.connections.flows.journal.ends (end_place l (other side))))) (offered_at (slice_get d.connections.flows.journal.ends (end_place l side))) text has)

  pub new_asked : HaveEnds d
  new_asked m is = ⊎_elim
      (λ w. absurd (in_none w.waiting (subst (λ (ws : List Waiting). Contains ws w.waiting) (none_waits w.place w.management w.is_management) w.waits)))
      (λ l. absurd (none_on l.link l.side is.text l.among))
      is.on_way

  none_counts : (G : List ℕ → ℕ) (links : ℕ) → all_on_links G d links ≡ 0
  none_counts G zero = refl
  none_counts G (suc l) =
      let rest = none_counts G l in
      let near = sum_none G (on_link d l Near) (λ text has. absurd (none_on l Near text has)) in
      let far = sum_none G (on_link d l Far) (λ text has. absurd (none_on l Far text has)) in
      omega (arith, rest, near, far)

  pub new_single : AreSingle d
  new_single k links is =
      let waits = sum_each (one_waiting (λ x. one (belongs k x))) d.managements (λ i m at. ap (sum_by (λ (w : Waiting). one (belongs k w.message))) (none_waits i m at)) in
      let on = none_counts (λ t. one (text_belongs k t)) links in
      omega (arith, waits, on)

  pub new_awaited : AreAwaited d
  new_awaited =
      let none : (w : WaitingAsk) → Contains d.asks.items w → ⊥ = λ w has. in_none w (subst (λ (asks : List WaitingAsk). Contains asks w) n.asks has) in
      (new_single, record { stand = λ w has. absurd (none w has); own = λ w has m is. absurd (none w has) })

  pub new_alone : AreAlone d
  new_alone f links is =
      let waits = sum_each (one_waiting (λ x. one (asks f x))) d.managements (λ k m at. ap (sum_by (λ (w : Waiting). one (asks f w.message))) (none_waits k m at)) in
      let on = none_counts (λ t. one (text_asks f t)) links in
      let far = ap (far_ends f) n.ends in
      let asker = ap (askers f) n.ends in
      omega (arith, waits, on, far, asker)
