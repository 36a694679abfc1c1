-- A message about a flow waits, and an invoke id is drawn.
use Rattle.std.proofs.Common.{◌≡◌, ℕ, Bool, List, Some, slice_get, slice_set, refl, sym, ◌∙◌, ap, subst, arith, ◌-◌}
use Rattle.std.specs.Prelude.{find, is_some}
use Rattle.std.proofs.lemmas.Option.{slice_get_within}
use Rattle.rina_agent.specs.declared.agent.Agent.{Agent}
use Rattle.rina_agent.specs.Counts.{spent}
use Rattle.rina_agent.specs.Enrolments.{is_numbered}
use Rattle.rina_plan.specs.declared.dif.LinkPlan.{LinkPlan}
use Rattle.rina_data.specs.declared.settings.Member.{Member}
use Rattle.rina_data.proofs.Finding.{there}
use Rattle.rina_flood.specs.Network.{Network, Row, Put, Draw, happens, put_agent, May, with_invoke, with_message}
use Rattle.rina_flood.specs.Static.{IsOfDif}
use Rattle.rina_flood.specs.Members.{IsNetworkOf, IsRunOf, MembersSeen, PostsForMember, DrawsInvoke}
use Rattle.rina_flood.proofs.Members.{alike_run, changed, more_rows, net}

-- what stands where one agent is another, and nothing else changes
module _ (is_static : Bool) (plans : List LinkPlan) (old : MembersSeen) (r : IsRunOf is_static plans old) (place : ℕ) (agent : Agent) (is_agent : slice_get old.agents place ≡ Some agent) where
  abbrev n : Network
  n = net is_static plans old r

  its_member : (m : Member) × (slice_get old.members place ≡ Some m)
  its_member =
      let within = slice_get_within old.agents place agent is_agent in
      let aligned = r.is.aligned in
      there old.members place (omega (arith, within, aligned))

  its_agent : n.agents its_member.0.addr ≡ agent
  its_agent = r.is.agents place its_member.0 agent its_member.1 is_agent

  changed_run : (row : Row) (becomes : Agent → Agent) → happens n row ≡ record n { agents = put_agent its_member.0.addr (becomes (n.agents its_member.0.addr)) n.agents } → May n row → IsOfDif row → IsRunOf is_static plans (record old { agents = slice_set old.agents place (becomes agent) })
  changed_run row becomes does may of =
      let m = its_member in
      let are : (j : ℕ) → put_agent m.0.addr (becomes (n.agents m.0.addr)) n.agents j ≡ put_agent m.0.addr (becomes agent) n.agents j = λ j. ap (λ (a : Agent). put_agent m.0.addr (becomes a) n.agents j) its_agent in
      let s' : MembersSeen = record old { agents = slice_set old.agents place (becomes agent) } in
      more_rows is_static plans old r s' row refl r.short may of
      (subst (λ (x : Network). IsNetworkOf s' x) (sym does) (changed is_static plans old r place m.0 agent (becomes agent) m.1 is_agent _ n.sent _ _ old.sent old.got are r.is.fewer r.is.sent))

pub posts_run : (is_static : Bool) (plans : List LinkPlan) (old new : MembersSeen) → IsRunOf is_static plans old → PostsForMember old new → IsRunOf is_static plans new
posts_run is_static plans old new r h =
    let m = its_member is_static plans old r h.place h.agent h.is_agent in
    let may = ap (λ (a : Agent). is_some (find (is_numbered h.number) a.links)) (its_agent is_static plans old r h.place h.agent h.is_agent) ∙ h.linked in
    let b : Agent = with_message h.agent h.number h.message in
    alike_run is_static plans (record old { agents = slice_set old.agents h.place b }) new (changed_run is_static plans old r h.place h.agent h.is_agent (Put m.0.addr h.number h.message) (λ a. with_message a h.number h.message) refl may tt) h.stays.members h.stays.ends h.now h.agents h.sent h.got

pub draws_run : (is_static : Bool) (plans : List LinkPlan) (old new : MembersSeen) → IsRunOf is_static plans old → DrawsInvoke old new → IsRunOf is_static plans new
draws_run is_static plans old new r h =
    let m = its_member is_static plans old r h.place h.agent h.is_agent in
    let may = ap (λ (a : Agent). spent 1 a.last_invoke) (its_agent is_static plans old r h.place h.agent h.is_agent) ∙ h.room in
    let b : Agent = with_invoke h.agent in
    alike_run is_static plans (record old { agents = slice_set old.agents h.place b }) new (changed_run is_static plans old r h.place h.agent h.is_agent (Draw m.0.addr) with_invoke refl may tt) h.stays.members h.stays.ends h.now h.agents h.sent h.got
