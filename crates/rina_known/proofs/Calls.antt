-- The calls of a DIF: what they make of the entries that its members know.
use Rattle.std.proofs.Common.{◌≡◌, ◌∙◌, ⊎_elim, ℕ, ◌+◌, List, Option, Some, None, Result, Ok, Err, refl, sym, ap, subst}
use Rattle.rina_newest.specs.declared.item.Item.{Item}
use Rattle.rina_base.specs.declared.number.Port.{Port}
use Rattle.rina_alloc.specs.declared.message.FlowMessage.{FlowMessage}
use Rattle.rina_flood.specs.Network.{with_invoke}
use Rattle.rina_iface.specs.declared.ask.Ask.{Ask}
use Rattle.rina_iface.specs.declared.ends.End.{End}
use Rattle.rina_iface.specs.declared.error.AllocateError.{AllocateError}
use Rattle.rina_iface.specs.declared.error.AllocateError.TheVariants as allocate
use Rattle.rina_iface.specs.declared.error.FreeError.{FreeError}
use Rattle.rina_iface.specs.declared.error.FreeError.TheVariants as free
use Rattle.rina_iface.specs.declared.error.SendError.TheVariants as send
use Rattle.rina_iface.specs.declared.state.PortState.{PortState}
use Rattle.rina_iface.specs.declared.state.PortState.TheVariants.{Allocated, Closed, Failed, Pending, Refused}
use Rattle.rina_iface.specs.Ends.{place_in}
use Rattle.rina_iface.specs.Seen.{Seen}
use Rattle.rina_member.specs.declared.management.Management.{Management}
use Rattle.rina_dif.specs.declared.dif.Dif.{Dif}
use Rattle.rina_dif.specs.declared.enrol.EnrolError.{EnrolError}
use Rattle.rina_dif.specs.declared.enrol.EnrolError.TheVariants as enrol
use Rattle.rina_dif.specs.Enrolling.{EnrolsAs, EnrolsHere, joins_on}
use Rattle.rina_dif.specs.FlowEnds.{FreesManaged, GivesFlowUp, ManagesFree, delete_of}
use Rattle.rina_dif.specs.Posting.{posts}
use Rattle.rina_dif.specs.Requesting.{Requests, RequestsAs, request_of}
use Rattle.rina_member.specs.Start.{node_of}
use Rattle.rina_asked.specs.Calls.{AllocateKeeps, CdapKeeps, EnrolKeeps, FreeKeeps, IncomingKeeps, OutKeeps, PassKeeps, SendKeeps, TimeKeeps}
use Rattle.rina_asked.proofs.Enrols.{enrols_quiet, lower_kept, same_kept}
use Rattle.rina_asked.proofs.Keeps.{alive, stays}
use Rattle.rina_known.specs.Entries.{AllAre}
use Rattle.rina_known.proofs.Agents.{IsGood, OwnAre, joining_good}
use Rattle.rina_known.proofs.Keeping.{moves, same_way, stays_known}
use Rattle.rina_known.proofs.Managements.{AreGood, good_agents, good_changed, good_hidden, good_posted, good_same, good_set}

module _ (G : Item → Type 0) (own : OwnAre G) where
  abbrev pub all_good : List Management → Type 0
  all_good ms = AreGood G own ms

  same_good : (ms ms' : List Management) → ms' ≡ ms → all_good ms → all_good ms'
  same_good ms ms' same = good_same G own ms ms' same

  -- Nothing of it changes

  pub incoming_keeps : IncomingKeeps (AllAre G)
  incoming_keeps d d' whole h still = stays_known G own d d' (ap (λ (z : Dif). z.managements) whole) (ap (λ (z : Dif). z.connections) whole) (h (sym (ap (λ (z : Dif). z.failed) whole) ∙ still))

  pub time_keeps : TimeKeeps (AllAre G)
  time_keeps d d' now whole h still = stays_known G own d d' (ap (λ (z : Dif). z.managements) whole) (ap (λ (z : Dif). z.connections) whole) (h (sym (ap (λ (z : Dif). z.failed) whole) ∙ still))

  pub out_keeps : OutKeeps (AllAre G)
  out_keeps d d' whole before h still = stays_known G own d d' (ap (λ (z : Dif). z.managements) whole) (ap (λ (z : Dif). z.connections) whole) (h (before still))

  pub send_keeps : SendKeeps (AllAre G)
  send_keeps d d' port sdu result is does goes whole notes = stays (AllAre G) d d' result (Err send.Memory) notes (λ some. stays_known G own d d' (ap (λ (z : Dif). z.managements) whole) (ap (λ (z : Dif). z.connections) whole))

  pub pass_keeps : PassKeeps (AllAre G)
  pass_keeps d d' port is does goes whole h still = stays_known G own d d' (ap (λ (z : Dif). z.managements) whole) (ap (λ (z : Dif). z.connections) whole) (h (sym (ap (λ (z : Dif). z.failed) whole) ∙ still))

  -- the members show other objects
  pub cdap_keeps : CdapKeeps (AllAre G)
  cdap_keeps d d' keeps h still = moves G own d d' (good_agents G own d.managements d'.managements keeps.agents) (same_way d d' (ap (λ (z : Dif). z.connections) keeps.is)) (h (keeps.alive still))

  -- A flow is asked for

  draws_good : (m : Management) → IsGood G m.agent → IsGood G (with_invoke m.agent)
  draws_good m g = record { kept = g.kept; waits = g.waits }

  requests_good : (d d' : Dif) (ask : Ask) (port : Port) → Requests d ask port d' → all_good d.managements → all_good d'.managements
  requests_good d d' ask port r good =
      let request : FlowMessage = request_of r.flow ask (r.wanted.management.agent.last_invoke + 1) in
      let mid : List Management = posts d r.flow.near.place request d.managements in
      subst all_good (sym r.managed) (good_changed G own r.flow.near.place (λ m. record m { agent = with_invoke m.agent }) mid draws_good (good_posted G own d r.flow.near.place request d.managements good))

  asks_good : (d d' : Dif) (ask : Ask) (result : Result Port AllocateError) → RequestsAs result d ask d' → (result ≡ Err allocate.Memory → ⊥) → all_good d.managements → all_good d'.managements
  asks_good d d' ask (Ok port) r some = requests_good d d' ask port r
  asks_good d d' ask (Err allocate.Memory) r some = absurd (some refl)
  asks_good d d' ask (Err allocate.NoMember) r some = same_good d.managements d'.managements r.0
  asks_good d d' ask (Err allocate.NoCube) r some = same_good d.managements d'.managements r.0
  asks_good d d' ask (Err allocate.NoSuchApp) r some = same_good d.managements d'.managements r.0
  asks_good d d' ask (Err allocate.SameSystem) r some = same_good d.managements d'.managements r.0
  asks_good d d' ask (Err (allocate.NoIds used)) r some = same_good d.managements d'.managements r.0
  asks_good d d' ask (Err (allocate.NoRoute dst)) r some = same_good d.managements d'.managements r.0
  asks_good d d' ask (Err (allocate.Busy other)) r some = same_good d.managements d'.managements r.0
  asks_good d d' ask (Err (allocate.CountSpent need left)) r some = same_good d.managements d'.managements r.0

  pub allocate_keeps : AllocateKeeps (AllAre G)
  allocate_keeps d d' ask result is does requests goes whole notes = stays (AllAre G) d d' result (Err allocate.Memory) notes (λ some. moves G own d d' (asks_good d d' ask result requests some) (same_way d d' (ap (λ (z : Dif). z.connections) whole)))

  -- An end is freed

  pub gives_up_good : (d : Dif) (i at : ℕ) (new : List Management) → GivesFlowUp d i at new → all_good d.managements → all_good new
  gives_up_good d i at new g good =
      let message : FlowMessage = delete_of g.conn.sending.form.peer in
      subst all_good (sym g.are) (good_hidden G own i g.conn.sending.form.peer.scep (posts d i message d.managements) (good_posted G own d i message d.managements good))

  freed_good : (state : PortState) (d : Dif) (at : ℕ) (end : End) (new : List Management) → ManagesFree state d at end new → all_good d.managements → all_good new
  freed_good Allocated d at end new m = gives_up_good d m.0 at new m.2
  freed_good Pending d at end new m = same_good d.managements new m
  freed_good (Refused why) d at end new m = same_good d.managements new m
  freed_good (Failed fail) d at end new m = same_good d.managements new m
  freed_good Closed d at end new m = same_good d.managements new m

  frees_good : (o : Option ℕ) (result : Result (Unit {0}) FreeError) (d : Dif) (new : List Management) → FreesManaged o result d new → all_good d.managements → all_good new
  frees_good (Some at) (Ok done) d new m good = freed_good m.0.state d at m.0 new m.2 good
  frees_good (Some at) (Err e) d new m good = ⊎_elim (λ same. same_good d.managements new same good) (λ told. subst all_good (sym told.tells.are) (good_posted G own d told.i (delete_of told.tells.conn.sending.form.peer) d.managements good)) m
  frees_good None result d new m good = same_good d.managements new m good

  pub free_keeps : FreeKeeps (AllAre G)
  free_keeps d d' port result is does manages goes whole notes = stays (AllAre G) d d' result (Err free.Memory) notes (λ some.
      moves G own d d' (frees_good (place_in port d.flows.journal.ends) result d d'.managements manages) (same_way d d' (ap (λ (z : Dif). z.connections) whole)))

  -- A member asks to enrol

  enrols_known : (d : Dif) (node peer : ℕ) (port : Port) (d' : Dif) → EnrolsHere d node peer port d' → AllAre G d → AllAre G d'
  enrols_known d node peer port d' e =
      let j = e.joins in
      moves G own d d' (λ good. subst all_good (sym j.are) (good_set G own d.managements e.i j.management (joins_on j.management e.number e.member) j.is_management (joining_good G own j.management.agent e.number e.member.name (node_of e.member)) good))
      (enrols_quiet d node peer port d' e).way

  by_enrol : (result : Result (Unit {0}) EnrolError) (own : Ask → Option AllocateError) (d : Dif) (below : Seen) (node fac peer : ℕ) (d' : Dif) (below' : Seen) → (result ≡ Err enrol.Memory → ⊥) → EnrolsAs own d below node fac peer result d' below' → AllAre G d → AllAre G d'
  by_enrol (Ok done) own d below node fac peer d' below' some s = enrols_known d node peer s.port d' s.does
  by_enrol (Err enrol.Memory) own d below node fac peer d' below' some s = absurd (some refl)
  by_enrol (Err enrol.NoIpc) own d below node fac peer d' below' some s = same_kept (AllAre G) d d' s.1
  by_enrol (Err (enrol.Enrolling link)) own d below node fac peer d' below' some s = same_kept (AllAre G) d d' s.1
  by_enrol (Err (enrol.LinksFull most)) own d below node fac peer d' below' some s = same_kept (AllAre G) d d' s.1
  by_enrol (Err (enrol.CountSpent need left)) own d below node fac peer d' below' some s = same_kept (AllAre G) d d' s.1
  by_enrol (Err (enrol.Lower e)) own d below node fac peer d' below' some s = lower_kept (AllAre G) e own d below node fac peer d' below' s

  pub enrol_keeps : EnrolKeeps (AllAre G)
  enrol_keeps d d' below below' own node fac peer result does notes h still =
      let a = alive d d' result (Err enrol.Memory) notes still in
      by_enrol result own d below node fac peer d' below' a.1 (does a.0) (h a.0)
