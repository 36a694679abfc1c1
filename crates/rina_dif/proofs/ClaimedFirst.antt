-- A flow that came in is claimed first, and then all else that is due is done.
use Rattle.std.proofs.Common.{◌≡◌, ◌∙◌, ℕ, false, List, slice_get, Option, Some, None, Result, Ok, Err, refl, sym, ap, subst, inl, inr}
use Rattle.rina_base.specs.declared.number.Port.{Port}
use Rattle.rina_iface.specs.declared.error.FreeError.{FreeError}
use Rattle.rina_iface.specs.Journal.{AreKept}
use Rattle.rina_iface.specs.Later.{IsLater}
use Rattle.rina_iface.specs.Seen.{Seen}
use Rattle.rina_law.specs.Direction.{Direction}
use Rattle.rina_data.specs.declared.process.IpcProcess.{IpcProcess}
use Rattle.rina_data.specs.declared.settings.Member.{Member}
use Rattle.rina_data.specs.declared.step.ClockStep.{ClockStep}
use Rattle.rina_data.specs.declared.step.ClockStep.TheVariants as step
use Rattle.rina_data.specs.declared.step.StepError.{StepError}
use Rattle.rina_data.specs.declared.step.StepError.TheVariants as why
use Rattle.rina_flows.specs.declared.due.Item.{Item}
use Rattle.rina_dif.specs.declared.dif.Dif.{Dif}
use Rattle.rina_member.specs.declared.management.Management.{Management}
use Rattle.rina_dif.specs.FlowEnds.{ManagesStep}
use Rattle.rina_dif.specs.Claiming.{ClaimsFirst, MayHaveClaimed, MayLink, NoLinkComes}
use Rattle.rina_dif.specs.Clocking.{ClaimsOrServes, NoneLostAt, Serves, ServesAny, ServesAnyHere, StepsHere}
use Rattle.rina_dif.specs.Elsewhere.{home_of}
use Rattle.rina_dif.specs.Enrolling.{is_full}
use Rattle.rina_dif.specs.Holding.{Holds, LinksStand}
use Rattle.rina_dif.specs.Lower.{ClaimsInTurn, ClocksBelow, FreesBelow, HasAsked, HasClaimed, name_by, name_here, name_in, name_of}
use Rattle.rina_dif.proofs.ClaimedBelow.{claimed_kept, later_after}

same_some : {X : Type 0} (o : Option X) (a b : X) → o ≡ Some a → o ≡ Some b → a ≡ b
same_some o a b h g = cc

never_told : (item : Item) → None ≡ Some item → ⊥
never_told item e = absurd cc

-- what is served tells of no link that is lost or new

never_lost : (d : Dif) (lines : List Direction) (below : Seen) (node link : ℕ) (d' : Dif) (lines' : List Direction) (below' : Seen) → LinksStand d below → Serves d lines below node (step.LinkLost link) d' lines' below' → ⊥
never_lost d lines below node link d' lines' below' links (inl flow) = flow.does
never_lost d lines below node link d' lines' below' links (inr (inl l)) = (let x = l.0.does links in never_told x.item x.told)
never_lost d lines below node link d' lines' below' links (inr (inr ask)) = (let told = ask.0.told in absurd cc)

none_lost : (d : Dif) (lines : List Direction) (below : Seen) (node link : ℕ) (d' : Dif) (lines' : List Direction) (below' : Seen) → LinksStand d below → ServesAny d lines below node (step.LinkLost link) d' lines' below' → ⊥
none_lost d lines below node link d' lines' below' links (inl served) = never_lost d lines below node link d' lines' below' links served.0
none_lost d lines below node link d' lines' below' links (inr message) = (let told = message.0.told in absurd cc)

never_new : (d : Dif) (lines : List Direction) (below : Seen) (node link : ℕ) (d' : Dif) (lines' : List Direction) (below' : Seen) → LinksStand d below → Serves d lines below node (step.LinkNew link) d' lines' below' → ⊥
never_new d lines below node link d' lines' below' links (inl flow) = flow.does
never_new d lines below node link d' lines' below' links (inr (inl l)) = (let x = l.0.does links in never_told x.item x.told)
never_new d lines below node link d' lines' below' links (inr (inr ask)) = (let told = ask.0.told in absurd cc)

none_new : (d : Dif) (lines : List Direction) (below : Seen) (node link : ℕ) (d' : Dif) (lines' : List Direction) (below' : Seen) → LinksStand d below → ServesAny d lines below node (step.LinkNew link) d' lines' below' → ⊥
none_new d lines below node link d' lines' below' links (inl served) = never_new d lines below node link d' lines' below' links served.0
none_new d lines below node link d' lines' below' links (inr message) = (let told = message.0.told in absurd cc)

-- No link comes

pub no_link_kept : (d : Dif) (below : Seen) (node : ℕ) (mid : Seen) → NoLinkComes d below node mid → AreKept below → AreKept mid
no_link_kept d below node mid (inl none) kept = subst AreKept (sym none.1) kept
no_link_kept d below node mid (inr c) kept = claimed_kept below c.claims.fac node c.member.name c.port mid c.claims.claimed kept

pub no_link_later : (d : Dif) (below : Seen) (node : ℕ) (mid last : Seen) → NoLinkComes d below node mid → IsLater below last → IsLater mid last
no_link_later d below node mid last (inl none) later = subst (λ (z : Seen). IsLater z last) (sym none.1) later
no_link_later d below node mid last (inr c) later = later_after below c.claims.fac node c.member.name c.port mid c.claims.claimed last later

may_have : (d : Dif) (below : Seen) (node : ℕ) (mid below' : Seen) → NoLinkComes d below node mid → below' ≡ mid → MayHaveClaimed d below node below'
may_have d below node mid below' (inl none) same = inl (same ∙ none.1)
may_have d below node mid below' (inr c) same = inr (c.i, c.member, c.port, c.may, subst (ClaimsFirst below node c.member.name c.port) (sym same) c.claims)

module _ (d : Dif) (lines : List Direction) (below : Seen) (node : ℕ) (mid : Seen) (h : Holds d lines mid) (none : NoLinkComes d below node mid) where
  done_behind : (done : ClockStep) (d' : Dif) (below' : Seen) → ServesAnyHere d lines mid node (Ok done) d' below' → ClaimsOrServes d lines below node (Ok done) d' below'
  done_behind step.Idle d' below' s = record { lines' = s.0.lines'; does = record { mid = mid; none = none; holds = h; serves = s.0.does }; holds = s.0.holds }
  done_behind (step.Gone cep) d' below' s = record { lines' = s.0.lines'; does = record { mid = mid; none = none; holds = h; serves = s.0.does }; holds = s.0.holds }
  done_behind (step.GaveUp num) d' below' s = record { lines' = s.0.lines'; does = record { mid = mid; none = none; holds = h; serves = s.0.does }; holds = s.0.holds }
  done_behind (step.Ack cep) d' below' s = record { lines' = s.0.lines'; does = record { mid = mid; none = none; holds = h; serves = s.0.does }; holds = s.0.holds }
  done_behind (step.Again num) d' below' s = record { lines' = s.0.lines'; does = record { mid = mid; none = none; holds = h; serves = s.0.does }; holds = s.0.holds }
  done_behind (step.LinkLost link) d' below' s = none_lost d lines mid node link d' s.0.lines' below' h.connected s.0.does
  done_behind (step.LinkNew link) d' below' s = absurd (none_new d lines mid node link d' s.0.lines' below' h.connected s.0.does)
  done_behind (step.Timeout port) d' below' s = record { lines' = s.0.lines'; does = record { mid = mid; none = none; holds = h; serves = s.0.does }; holds = s.0.holds }
  done_behind (step.Message link) d' below' s = record { lines' = s.0.lines'; does = record { mid = mid; none = none; holds = h; serves = s.0.does }; holds = s.0.holds }

  -- then what is due is done
  pub serves_behind : (r : Result ClockStep StepError) (d' : Dif) (below' : Seen) → ServesAnyHere d lines mid node r d' below' → ClaimsOrServes d lines below node r d' below'
  serves_behind (Ok done) d' below' s = done_behind done d' below' s
  serves_behind (Err why.Memory) d' below' s = (s.0.0, s.0.1, may_have d below node mid below' none s.1)
  serves_behind (Err why.NoIpc) d' below' s = absurd s.0
  serves_behind (Err why.NoLink) d' below' s = absurd s.0
  serves_behind (Err (why.CountSpent need left)) d' below' s = absurd s.0

-- Behind a link that is lost

claimed_done : (d : Dif) (lines : List Direction) (below : Seen) (node : ℕ) (done : ClockStep) (d' : Dif) (below' : Seen) → NoneLostAt d below node → ClaimsOrServes d lines below node (Ok done) d' below' → StepsHere d lines below node (Ok done) d' below'
claimed_done d lines below node step.Idle d' below' none s = record { lines' = s.lines'; does = (none, s.does); holds = s.holds }
claimed_done d lines below node (step.Gone cep) d' below' none s = record { lines' = s.lines'; does = (none, s.does); holds = s.holds }
claimed_done d lines below node (step.GaveUp num) d' below' none s = record { lines' = s.lines'; does = (none, s.does); holds = s.holds }
claimed_done d lines below node (step.Ack cep) d' below' none s = record { lines' = s.lines'; does = (none, s.does); holds = s.holds }
claimed_done d lines below node (step.Again num) d' below' none s = record { lines' = s.lines'; does = (none, s.does); holds = s.holds }
claimed_done d lines below node (step.LinkLost link) d' below' none s = absurd s
claimed_done d lines below node (step.LinkNew link) d' below' none s = record { lines' = lines; does = (none, s.0, refl); holds = s.1 }
claimed_done d lines below node (step.Timeout port) d' below' none s = record { lines' = s.lines'; does = (none, s.does); holds = s.holds }
claimed_done d lines below node (step.Message link) d' below' none s = record { lines' = s.lines'; does = (none, s.does); holds = s.holds }

pub claimed_first : (d : Dif) (lines : List Direction) (below : Seen) (node : ℕ) (r : Result ClockStep StepError) (d' : Dif) (below' : Seen) → NoneLostAt d below node → ClaimsOrServes d lines below node r d' below' → StepsHere d lines below node r d' below'
claimed_first d lines below node (Ok done) d' below' none s = claimed_done d lines below node done d' below' none s
claimed_first d lines below node (Err why.Memory) d' below' none s = s
claimed_first d lines below node (Err why.NoIpc) d' below' none s = absurd s
claimed_first d lines below node (Err why.NoLink) d' below' none s = absurd s
claimed_first d lines below node (Err (why.CountSpent need left)) d' below' none s = absurd s

-- What is done below

-- neither a lost nor a new link is told, and no refusal
abbrev pub TellsNoLink : Result ClockStep StepError → Type 0
TellsNoLink (Ok (step.LinkLost link)) = ⊥
TellsNoLink (Ok (step.LinkNew link)) = ⊥
TellsNoLink (Ok done) = Unit {0}
TellsNoLink (Err why.Memory) = Unit {0}
TellsNoLink (Err other) = ⊥

pub tells_no_link : (d : Dif) (lines : List Direction) (below : Seen) (node : ℕ) (r : Result ClockStep StepError) (d' : Dif) (below' : Seen) → LinksStand d below → ServesAnyHere d lines below node r d' below' → TellsNoLink r
tells_no_link d lines below node (Ok step.Idle) d' below' links s = tt
tells_no_link d lines below node (Ok (step.Gone cep)) d' below' links s = tt
tells_no_link d lines below node (Ok (step.GaveUp num)) d' below' links s = tt
tells_no_link d lines below node (Ok (step.Ack cep)) d' below' links s = tt
tells_no_link d lines below node (Ok (step.Again num)) d' below' links s = tt
tells_no_link d lines below node (Ok (step.LinkLost link)) d' below' links s = none_lost d lines below node link d' s.0.lines' below' links s.0.does
tells_no_link d lines below node (Ok (step.LinkNew link)) d' below' links s = none_new d lines below node link d' s.0.lines' below' links s.0.does
tells_no_link d lines below node (Ok (step.Timeout port)) d' below' links s = tt
tells_no_link d lines below node (Ok (step.Message link)) d' below' links s = tt
tells_no_link d lines below node (Err why.Memory) d' below' links s = tt
tells_no_link d lines below node (Err why.NoIpc) d' below' links s = absurd s.0
tells_no_link d lines below node (Err why.NoLink) d' below' links s = absurd s.0
tells_no_link d lines below node (Err (why.CountSpent need left)) d' below' links s = absurd s.0

-- what the managements become depends on the rank below for a lost link alone
pub manages_over : (r : Result ClockStep StepError) (at : ℕ) (d : Dif) (below mid : Seen) (node : ℕ) (new : List Management) → TellsNoLink r → ManagesStep r (Some at) d mid node new → ManagesStep r (Some at) d below node new
manages_over (Ok step.Idle) at d below mid node new tells m = m
manages_over (Ok (step.Gone cep)) at d below mid node new tells m = m
manages_over (Ok (step.GaveUp num)) at d below mid node new tells m = m
manages_over (Ok (step.Ack cep)) at d below mid node new tells m = m
manages_over (Ok (step.Again num)) at d below mid node new tells m = m
manages_over (Ok (step.LinkLost link)) at d below mid node new tells m = absurd tells
manages_over (Ok (step.LinkNew link)) at d below mid node new tells m = absurd tells
manages_over (Ok (step.Timeout port)) at d below mid node new tells m = m
manages_over (Ok (step.Message link)) at d below mid node new tells m = m
manages_over (Err why.Memory) at d below mid node new tells m = m
manages_over (Err why.NoIpc) at d below mid node new tells m = absurd tells
manages_over (Err why.NoLink) at d below mid node new tells m = absurd tells
manages_over (Err (why.CountSpent need left)) at d below mid node new tells m = absurd tells

module _ {F : Type 0} (claims : F → ℕ → Option Port → F → Type 0) (frees : F → F → Port → Result (Unit {0}) FreeError → Type 0) (old : F) where
  pub then_clocks : (mid new : F) (r : Result ClockStep StepError) → TellsNoLink r → HasAsked claims old mid → FreesBelow (new ≡ mid) (frees mid new) r → ClocksBelow claims frees old r new
  then_clocks mid new (Ok step.Idle) tells asked f = record { mid = mid; asked = asked; does = f }
  then_clocks mid new (Ok (step.Gone cep)) tells asked f = record { mid = mid; asked = asked; does = f }
  then_clocks mid new (Ok (step.GaveUp num)) tells asked f = record { mid = mid; asked = asked; does = f }
  then_clocks mid new (Ok (step.Ack cep)) tells asked f = record { mid = mid; asked = asked; does = f }
  then_clocks mid new (Ok (step.Again num)) tells asked f = record { mid = mid; asked = asked; does = f }
  then_clocks mid new (Ok (step.LinkLost link)) tells asked f = absurd tells
  then_clocks mid new (Ok (step.LinkNew link)) tells asked f = absurd tells
  then_clocks mid new (Ok (step.Timeout port)) tells asked f = record { mid = mid; asked = asked; does = f }
  then_clocks mid new (Ok (step.Message link)) tells asked f = record { mid = mid; asked = asked; does = f }
  then_clocks mid new (Err why.Memory) tells asked f = record { mid = mid; asked = asked; does = f }
  then_clocks mid new (Err why.NoIpc) tells asked f = absurd tells
  then_clocks mid new (Err why.NoLink) tells asked f = absurd tells
  then_clocks mid new (Err (why.CountSpent need left)) tells asked f = absurd tells

  -- nothing was done
  pub clocks_none : (r : Result ClockStep StepError) (e : StepError) → r ≡ Err e → ClocksBelow claims frees old r old
  clocks_none r e is = subst (λ (v : Result ClockStep StepError). ClocksBelow claims frees old v old) (sym is) (none_by e)
    where
      none_by : (e : StepError) → ClocksBelow claims frees old (Err e) old
      none_by why.Memory = record { mid = old; asked = (None, (0, refl)); does = inl refl }
      none_by why.NoIpc = refl
      none_by why.NoLink = refl
      none_by (why.CountSpent need left) = refl

  -- a flow was claimed, and memory was not found then
  pub clocks_err : (new : F) (r : Result ClockStep StepError) (e : StepError) → e ≡ why.Memory → r ≡ Err e → HasClaimed claims old new → ClocksBelow claims frees old r new
  clocks_err new r e memory is claimed = subst (λ (v : Result ClockStep StepError). ClocksBelow claims frees old v new) (sym (is ∙ ap (λ (z : StepError). Err z) memory)) (record { mid = new; asked = (Some claimed.0, claimed.1); does = inl refl })

-- in the name of the member of a place
pub asked_by : {F : Type 0} (claims : List ℕ → F → ℕ → Option Port → F → Type 0) (old new : F) (d : Dif) (i : ℕ) (m : Member) (answer : Option Port) → slice_get d.settings.members i ≡ Some m → ClaimsInTurn (claims m.name) old answer new → ClaimsInTurn (claims (name_of d i)) old answer new
asked_by claims old new d i m answer is s = subst (λ (name : List ℕ). ClaimsInTurn (claims name) old answer new) (sym (ap name_by is)) s

-- as a step at an IPC process, so at its node
pub clocks_home : {F : Type 0} (claims : List ℕ → F → ℕ → Option Port → F → Type 0) (frees : F → F → Port → Result (Unit {0}) FreeError → Type 0) (old new : F) (d : Dif) (node i : ℕ) (r r' : Result ClockStep StepError) → home_of d node ≡ Some i → r' ≡ r → ClocksBelow (claims (name_of d i)) frees old r new → ClocksBelow (claims (name_here d node)) frees old r' new
clocks_home claims frees old new d node i r r' here is s =
    let name : name_of d i ≡ name_here d node = ap (name_in d) (sym here) in
    subst (λ (v : Result ClockStep StepError). ClocksBelow (claims (name_here d node)) frees old v new) (sym is) (subst (λ (name : List ℕ). ClocksBelow (claims name) frees old r new) name s)

-- The answer to the question for a new link

pub may_link : (d : Dif) (node at : ℕ) (m : Member) (p : IpcProcess) → home_of d node ≡ Some at → slice_get d.settings.members at ≡ Some m → slice_get d.processes at ≡ Some p → is_full p.links ≡ false → MayLink d node at m
may_link d node at m p here is_member is_process room = record { at_home = here; is_member = is_member; process = p; is_process = is_process; room = room }
