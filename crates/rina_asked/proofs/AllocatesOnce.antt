-- A flow is asked for: its request is the first message of its invoke id.
use Rattle.std.proofs.Common.{◌≡◌, ◌∙◌, ⊎_elim, ℕ, ◌+◌, ◌≤◌, Bool, true, List, slice_get, slice_set, Option, Some, None, refl, sym, ap, arith}
use Rattle.std.proofs.lemmas.Bool.{cases_Bool}
use Rattle.rina_agent.specs.declared.message.ManagementMessage.TheVariants.{ToMember}
use Rattle.rina_alloc.specs.declared.message.FlowMessage.{FlowMessage}
use Rattle.rina_base.specs.declared.number.Port.{Port}
use Rattle.rina_flood.specs.Network.{with_invoke}
use Rattle.rina_iface.specs.declared.ask.Ask.{Ask}
use Rattle.rina_iface.specs.Seen.{Seen}
use Rattle.rina_iface.proofs.Changed.{slice_get-set_same}
use Rattle.rina_law.specs.Direction.{Direction}
use Rattle.rina_member.specs.declared.management.Management.{Management}
use Rattle.rina_dif.specs.declared.dif.Dif.{Dif}
use Rattle.rina_dif.specs.Allocating.{allocate_refusal, way}
use Rattle.rina_dif.specs.Changing.{changed_if}
use Rattle.rina_dif.specs.Facade.{GoesOn}
use Rattle.rina_dif.specs.Holding.{Holds}
use Rattle.rina_dif.specs.Posting.{posted, posts, with_message}
use Rattle.rina_dif.specs.Requesting.{AsksAt, Requests, request_of}
use Rattle.rina_dif.specs.Whole.{IsDif}
use Rattle.rina_dif.proofs.Requested.{one_left}
use Rattle.rina_asked.specs.Alone.{one}
use Rattle.rina_asked.specs.Calls.{AllocateKeeps}
use Rattle.rina_asked.specs.Single.{AreSingle, AskId, IsAskId, belongs, drawn_by, has_drawn, text_belongs}
use Rattle.rina_asked.proofs.Allocates.{addr_fits, allocate_keeps, drawn_one, one_asked}
use Rattle.rina_asked.proofs.Belonging.{id_is}
use Rattle.rina_asked.proofs.Counting.{sum_set}
use Rattle.rina_asked.proofs.Drawn.{KeepsIds}
use Rattle.rina_asked.proofs.Links.{links_same}
use Rattle.rina_asked.proofs.Once.{drawn_from, drawn_more, drawn_on, drawn_true, its_address, single_lasts}
use Rattle.rina_asked.proofs.Quiet.{lasts_same}
use Rattle.rina_asked.proofs.Waiting.{posted_adds}

-- the member where a message waits, with its address and its last invoke id
record StillAt (ms : List Management) (at : ℕ) (m : Management) : Type 0 where
  now : Management
  is_now : slice_get ms at ≡ Some now
  address : now.agent.address ≡ m.agent.address
  last : now.agent.last_invoke ≡ m.agent.last_invoke

posted_at : (at : ℕ) (o : Option ℕ) (message : FlowMessage) (ms : List Management) (m : Management) → slice_get ms at ≡ Some m → StillAt (posted at o message ms) at m
posted_at at None message ms m is = record { now = m; is_now = is; address = refl; last = refl }
posted_at at (Some link) message ms m is =
    let are : posted at (Some link) message ms ≡ slice_set ms at (with_message m link message) = ap (λ (o : Option Management). changed_if o at (λ (z : Management). with_message z link message) ms) is in
    record { now = with_message m link message; is_now = ap (λ (zs : List Management). slice_get zs at) are ∙ slice_get-set_same ms at m (with_message m link message) is; address = refl; last = refl }

-- a member that draws its next invoke id is one more of those that drew it
drawn_next : (k : AskId) (its : Bool) (m m' : Management) → IsAskId k → (its ≡ true → (m.agent.address ≡ k.addr) × (k.invoke ≡ m.agent.last_invoke + 1)) → KeepsIds m.agent m'.agent → m'.agent.last_invoke ≡ m.agent.last_invoke + 1 → one (has_drawn k m) + one its ≤ one (has_drawn k m')
drawn_next k its m m' is id keeps next = ⊎_elim
    (λ yes.
    (let e = id yes in
    let invoke = e.1 in
    let here : one its ≡ 1 = ap one yes in
    let new : one (has_drawn k m') ≡ 1 = ap one (drawn_from k m' (keeps.address ∙ e.0) (omega (arith, invoke, next))) in
    ⊎_elim
    (λ drew. absurd (let le = (drawn_true k m drew).1 in omega (arith, le, invoke)))
    (λ not_yet. (let old : one (has_drawn k m) ≡ 0 = ap one not_yet in omega (arith, here, new, old)))
    (cases_Bool (has_drawn k m))))
    (λ no. (let here : one its ≡ 0 = ap one no in let more = drawn_on k m m' is.invoke keeps in omega (arith, here, more)))
    (cases_Bool its)

module _ (d d' : Dif) (ask : Ask) (port : Port) (is : IsDif d) (lines : List Direction) (below : Seen) (h : Holds d lines below) (a : AsksAt d lines below ask port d') (r : Requests d ask port d') (free : allocate_refusal d ask ≡ None) where
  abbrev at : ℕ
  at = r.flow.near.place

  abbrev last : ℕ
  last = r.wanted.management.agent.last_invoke

  abbrev message : FlowMessage
  message = request_of r.flow ask (last + 1)

  abbrev mid : List Management
  mid = posts d at message d.managements

  here : StillAt mid at r.wanted.management
  here = posted_at at (way d at message.to) message d.managements r.wanted.management r.wanted.is_management

  abbrev drew : Management
  drew = record here.now { agent = with_invoke here.now.agent }

  pub its_addr : r.wanted.management.agent.address ≡ r.flow.near.addr
  its_addr = its_address d lines below h at r.wanted.draws.member r.wanted.management r.wanted.draws.stands r.wanted.is_management ∙ sym r.wanted.draws.addr

  -- where the request is one of an ask, the member draws the id of this ask with it
  its : (k : AskId) → IsAskId k → belongs k (ToMember message) ≡ true → (here.now.agent.address ≡ k.addr) × (k.invoke ≡ here.now.agent.last_invoke + 1)
  its k of same =
      let id = id_is k (last + 1) r.flow.near.addr of (one_left last r.wanted.left) (addr_fits d d' ask port is lines below h a r free) same in
      (here.address ∙ its_addr ∙ id.0, sym id.1 ∙ ap (λ (n : ℕ). n + 1) (sym here.last))

  are : d'.managements ≡ slice_set mid at drew
  are = r.managed ∙ ap (λ (o : Option Management). changed_if o at (λ (z : Management). record z { agent = with_invoke z.agent }) mid) here.is_now

  -- as the member is then
  pub record DrewNow : Type 0 where
    pub management : Management
    pub is_management : slice_get d'.managements at ≡ Some management
    pub address : management.agent.address ≡ r.flow.near.addr
    pub last_is : management.agent.last_invoke ≡ last + 1

  pub drew_now : DrewNow
  drew_now = record {
    management = drew;
    is_management = ap (λ (zs : List Management). slice_get zs at) are ∙ slice_get-set_same mid at here.now drew here.is_now;
    address = here.address ∙ its_addr;
    last_is = ap (λ (n : ℕ). n + 1) here.last;
  }

  pub drawn_for : (k : AskId) → IsAskId k → drawn_by k d.managements + one (belongs k (ToMember message)) ≤ drawn_by k d'.managements
  drawn_for k of =
      let all = ap (drawn_by k) are in
      let sums = sum_set (λ (m : Management). one (has_drawn k m)) mid at here.now drew here.is_now in
      let more = drawn_more k d.managements mid of.invoke (posted_adds (λ x. Unit {0}) at (way d at message.to) message d.managements tt).ids in
      let next = drawn_next k (belongs k (ToMember message)) here.now drew of (its k of) (drawn_one here.now.agent) refl in
      omega (arith, all, sums, more, next)

  pub single_for : GoesOn d d' → d'.connections ≡ d.connections → AreSingle d → AreSingle d'
  single_for goes connections single k links of =
      let before = single k links of in
      let waits = one_asked d d' ask port is lines below h a r free (λ x. one (belongs k x)) in
      let on = (links_same d d' connections).fewer (λ t. one (text_belongs k t)) links in
      let drawn = drawn_for k of in
      omega (arith, before, waits, on, drawn)

pub allocate_keeps_single : AllocateKeeps AreSingle
allocate_keeps_single = allocate_keeps AreSingle (lasts_same AreSingle single_lasts) single_for
