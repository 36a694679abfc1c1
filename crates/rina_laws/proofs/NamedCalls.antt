-- What holds of a DIF and comes to hold by no call of an application: each such call leaves it so at every rank.
use Rattle.std.proofs.Common.{◌≡◌, ℕ, zero, suc, true, false, List, Option, Some, None, Result, Ok, Err, refl, inl, inr}
use Rattle.rina_base.specs.declared.cause.Cause.{Cause}
use Rattle.rina_base.specs.declared.cause.Cause.TheVariants.{LinkDown}
use Rattle.rina_base.specs.declared.number.Num.{Num}
use Rattle.rina_base.specs.declared.number.Port.{Port}
use Rattle.rina_iface.specs.declared.ask.Ask.{Ask}
use Rattle.rina_iface.specs.declared.error.AllocateError.{AllocateError}
use Rattle.rina_iface.specs.declared.error.FreeError.{FreeError}
use Rattle.rina_iface.specs.declared.error.FreeError.TheVariants as freeing
use Rattle.rina_iface.specs.declared.error.SendError.{SendError}
use Rattle.rina_iface.specs.declared.error.UnregisterError.{UnregisterError}
use Rattle.rina_iface.specs.Claim.{Claims}
use Rattle.rina_iface.specs.Free.{FreesAsSeen}
use Rattle.rina_iface.specs.Pass.{PassesAsSeen}
use Rattle.rina_iface.specs.Seen.{Seen}
use Rattle.rina_iface.specs.Send.{SendsAsSeen}
use Rattle.rina_data.specs.declared.step.ClockStep.{ClockStep}
use Rattle.rina_data.specs.declared.step.ClockStep.TheVariants as clocks
use Rattle.rina_data.specs.declared.step.InStep.{InStep}
use Rattle.rina_data.specs.declared.step.InStep.TheVariants as ins
use Rattle.rina_data.specs.declared.step.OutStep.{OutStep}
use Rattle.rina_data.specs.declared.step.OutStep.TheVariants as outs
use Rattle.rina_data.specs.declared.step.StepError.{StepError}
use Rattle.rina_data.specs.declared.step.StepError.TheVariants.{CountSpent, Memory, NoIpc, NoLink}
use Rattle.rina_data.specs.Lower.{IsRefused, PassesBelow, SendsBelow, WritesOffBelow}
use Rattle.rina_dif.specs.declared.cdap.CdapCallError.{CdapCallError}
use Rattle.rina_dif.specs.declared.dif.Dif.{Dif}
use Rattle.rina_dif.specs.Asking.{KeepsAll}
use Rattle.rina_dif.specs.Lower.{ClaimsInTurn, ClocksBelow, FindsNone, FreesAs, FreesNone, HasAsked, HasClaimed}
use Rattle.rina_tower.specs.declared.tower.Tower.{Tower, Wires, Rank'}
use Rattle.rina_tower.specs.Calls.{AllocatesAtTop, AllocatesFrom, ClaimsAtTop, FreesAtTop, FreesFrom, FreesWhole, PassesAtTop, PassesFrom, SendsAtTop, SendsFrom, SendsWhole, Serves, UnregistersAtTop, UnregistersFrom}
use Rattle.rina_tower.specs.Cdap.{AsksAtTop, AsksOne}
use Rattle.rina_tower.specs.MemoryFailure.{has_failed}
use Rattle.rina_tower.specs.Ranks.{seen_of}
use Rattle.rina_tower.specs.Refusals.{frees_both, refuses_send}
use Rattle.rina_tower.specs.Stands.{IsTower}
use Rattle.rina_tower.specs.Steps.{ClocksOne}
use Rattle.rina_tower.specs.Unchanged.{ChangesClaims, ChangesClock, ChangesJoiner, ChangesProcesses}
use Rattle.rina_laws.proofs.NamedComes.{Comes, Fact, Never, RankComes, any_stays, comes_is, never_on, one_comes}

-- what comes to hold of a DIF by none of these: as its clock is set, a far end is claimed, a PDU leaves, an IPC process asks to enrol or answers a message, a name is taken
-- back, a flow is asked for or freed, an SDU is sent or passed, or what is due is done
pub record Stays (F : Fact) : Type 0 where
  pub clocked : (now : ℕ) (d d' : Dif) → ChangesClock now d d' → F d' → F d
  pub claimed : (d d' : Dif) → ChangesClaims d d' → F d' → F d
  pub left : (d d' : Dif) → ChangesProcesses d d' → F d' → F d
  pub joined : (d d' : Dif) → ChangesJoiner d d' → F d' → F d
  pub answered : (d d' : Dif) → KeepsAll d d' → F d' → F d
  pub unregistered : (fac node : ℕ) (app : List ℕ) (x : Result (Unit {0}) UnregisterError) (d d' : Dif) → UnregistersFrom fac node app x d d' → F d' → F d
  pub allocated : (ask : Ask) (x : Result Port AllocateError) (d d' : Dif) → d.settings.fac ≡ ask.fac → AllocatesFrom ask x d d' → F d' → F d
  pub sent : (port : Port) (bytes : List ℕ) (x : Result Num SendError) (d d' : Dif) → SendsFrom port bytes x d d' → F d' → F d
  pub passed : (port : Port) (d d' : Dif) → PassesFrom port d d' → F d' → F d
  pub freed : (port : Port) (x : Result (Unit {0}) FreeError) (d d' : Dif) → FreesFrom port x d d' → F d' → F d
  pub stepped : (below : Seen) (node : ℕ) (x : Result ClockStep StepError) (below' : Seen) (d d' : Dif) → ClocksOne below node x below' d d' → F d' → F d

module _ (F : Fact) (k : Stays F) where
  -- a rank of DIFs on a tower that stays as it was
  here : (p p' : _) (difs difs' : List Dif) (below below' : Tower) → RankComes F Never difs below difs' → below' ≡ below → Comes F Never (Rank' p difs below) (Rank' p' difs' below')
  here p p' difs difs' below below' rank same = (rank, comes_is F Never below below' same)

  pub unregisters : (fac node : ℕ) (app : List ℕ) (x : Result (Unit {0}) UnregisterError) (u u' : Tower) → UnregistersAtTop fac node app x u u' → Comes F Never u u'
  unregisters fac node app x (Wires a) (Wires a') d = tt
  unregisters fac node app x (Rank' p difs below) (Rank' p' difs' below') d = here p p' difs difs' below below' (any_stays F (UnregistersFrom fac node app x) fac _ difs difs' below (λ y y' at s. k.unregistered fac node app x y y' s) d.0) d.1
  unregisters fac node app x (Wires a) (Rank' p difs below) d = absurd d
  unregisters fac node app x (Rank' p difs below) (Wires a) d = absurd d

  pub allocates : (ask : Ask) (x : Result Port AllocateError) (u u' : Tower) → IsTower u → AllocatesAtTop ask x u u' → Comes F Never u u'
  allocates ask x (Wires a) (Wires a') v d = tt
  allocates ask x (Rank' p difs below) (Rank' p' difs' below') v d = here p p' difs difs' below below' (any_stays F (AllocatesFrom ask x) ask.fac _ difs difs' below (λ y y' at s. k.allocated ask x y y' (v.0.standing.number ask.fac y at) s) d.0) d.1
  allocates ask x (Wires a) (Rank' p difs below) v d = absurd d
  allocates ask x (Rank' p difs below) (Wires a) v d = absurd d

  pub claims : (fac node : ℕ) (app : List ℕ) (x : Option Port) (u u' : Tower) → ClaimsAtTop fac node app x u u' → Comes F Never u u'
  claims fac node app x (Wires a) (Wires a') d = tt
  claims fac node app x (Rank' p difs below) (Rank' p' difs' below') d = here p p' difs difs' below below' (any_stays F (Serves (λ s s'. Claims s fac node app x s') ChangesClaims fac) fac _ difs difs' below (λ y y' at s. k.claimed y y' s.rest) d.0) d.1
  claims fac node app x (Wires a) (Rank' p difs below) d = absurd d
  claims fac node app x (Rank' p difs below) (Wires a) d = absurd d

  pub sends : (port : Port) (bytes : List ℕ) (x : Result Num SendError) (u u' : Tower) → SendsAtTop port bytes x u u' → Comes F Never u u'
  sends port bytes x (Wires a) (Wires a') d = tt
  sends port bytes x (Rank' p difs below) (Rank' p' difs' below') d = here p p' difs difs' below below' (any_stays F (SendsFrom port bytes x) port.fac _ difs difs' below (λ y y' at s. k.sent port bytes x y y' s) d.0) d.1
  sends port bytes x (Wires a) (Rank' p difs below) d = absurd d
  sends port bytes x (Rank' p difs below) (Wires a) d = absurd d

  pub passes : (port : Port) (u u' : Tower) → PassesAtTop port u u' → Comes F Never u u'
  passes port (Wires a) (Wires a') d = tt
  passes port (Rank' p difs below) (Rank' p' difs' below') d = here p p' difs difs' below below' (one_comes F Never (PassesFrom port) port.fac difs difs' below (λ y y' at s f. inl (k.passed port y y' s f)) d.0) d.1
  passes port (Wires a) (Rank' p difs below) d = absurd d
  passes port (Rank' p difs below) (Wires a) d = absurd d

  pub frees : (port : Port) (x : Result (Unit {0}) FreeError) (u u' : Tower) → FreesAtTop port x u u' → Comes F Never u u'
  frees port x (Wires a) (Wires a') d = tt
  frees port x (Rank' p difs below) (Rank' p' difs' below') d = here p p' difs difs' below below' (any_stays F (FreesFrom port x) port.fac _ difs difs' below (λ y y' at s. k.freed port x y y' s) d.0) d.1
  frees port x (Wires a) (Rank' p difs below) d = absurd d
  frees port x (Rank' p difs below) (Wires a) d = absurd d

  pub asks : (dif node : ℕ) (bytes : List ℕ) (x : Result (List ℕ) CdapCallError) (u u' : Tower) → AsksAtTop dif node bytes x u u' → Comes F Never u u'
  asks dif node bytes x (Wires a) (Wires a') d = tt
  asks dif node bytes x (Rank' p difs below) (Rank' p' difs' below') d = here p p' difs difs' below below' (any_stays F (AsksOne node bytes x) dif _ difs difs' below (λ y y' at s. k.answered y y' s.keeps) d.0) d.1
  asks dif node bytes x (Wires a) (Rank' p difs below) d = absurd d
  asks dif node bytes x (Rank' p difs below) (Wires a) d = absurd d

  -- ---- what a step does at the rank below

  pub taken_below : (x : Result InStep StepError) (b b' : Tower) → PassesBelow (b' ≡ b) (PassesAsSeen seen_of (λ t port t'. PassesAtTop port t t') b b') x → Comes F Never b b'
  taken_below (Ok ins.Idle) b b' d = comes_is F Never b b' d
  taken_below (Ok (ins.Took key end)) b b' d = passes d.0 b b' d.1.2
  taken_below (Err Memory) b b' (inl d) = comes_is F Never b b' d
  taken_below (Err Memory) b b' (inr d) = passes d.0 b b' d.1.2
  taken_below (Err NoIpc) b b' d = comes_is F Never b b' d
  taken_below (Err NoLink) b b' d = comes_is F Never b b' d
  taken_below (Err (CountSpent need left)) b b' d = comes_is F Never b b' d

  sent_below : (port : Port) (bytes : List ℕ) (r : Result Num SendError) (b b' : Tower) → SendsAsSeen seen_of refuses_send SendsWhole b b' port bytes r → Comes F Never b b'
  sent_below port bytes r b b' d = elim (has_failed b) as (λ z. has_failed b ≡ z → Comes F Never b b') [
    | true ↦ λ is. comes_is F Never b b' (d.1.1 is).1
    | false ↦ λ is. sends port bytes r b b' (d.1.0 is)
  ] refl

  written_below : (cause : Cause) (b b' : Tower) → WritesOffBelow (b' ≡ b) (IsRefused (SendsAsSeen seen_of refuses_send SendsWhole b b')) cause → Comes F Never b b'
  written_below (LinkDown port) b b' d = sent_below port d.0 (Err d.1) b b' d.2
  written_below cause b b' d = comes_is F Never b b' d

  pub left_below : (x : Result OutStep StepError) (b b' : Tower) → SendsBelow (b' ≡ b) (SendsAsSeen seen_of refuses_send SendsWhole b b') x → Comes F Never b b'
  left_below (Ok outs.Idle) b b' d = comes_is F Never b b' d
  left_below (Ok (outs.Sent key)) b b' d = sent_below d.0 d.1 (Ok d.2) b b' d.3
  left_below (Ok (outs.Off key cause)) b b' d = written_below cause b b' d
  left_below (Ok (outs.Held why)) b b' d = sent_below d.0 d.1 (Err why) b b' d.2
  left_below (Err Memory) b b' (inl d) = comes_is F Never b b' d
  left_below (Err Memory) b b' (inr d) = sent_below d.0 d.1.0 (Err d.1.1) b b' d.1.2
  left_below (Err NoIpc) b b' d = comes_is F Never b b' d
  left_below (Err NoLink) b b' d = comes_is F Never b b' d
  left_below (Err (CountSpent need left)) b b' d = comes_is F Never b b' d

  -- ---- claims and frees of a clock step

  finds_none : (node : ℕ) (app : List ℕ) (n : ℕ) (t t' : Tower) → FindsNone (λ u fac answer u'. ClaimsAtTop fac node app answer u u') n t t' → Comes F Never t t'
  finds_none node app zero t t' d = comes_is F Never t t' d
  finds_none node app (suc n) t t' (mid, before, last) = never_on F t mid t' (finds_none node app n t mid before) (claims n node app None mid t' last)

  in_turn : (node : ℕ) (app : List ℕ) (x : Option Port) (t t' : Tower) → ClaimsInTurn (λ u fac answer u'. ClaimsAtTop fac node app answer u u') t x t' → Comes F Never t t'
  in_turn node app (Some port) t t' (fac, mid, before, last) = never_on F t mid t' (finds_none node app fac t mid before) (claims fac node app (Some port) mid t' last)
  in_turn node app None t t' (n, before) = finds_none node app n t t' before

  has_asked : (node : ℕ) (app : List ℕ) (t t' : Tower) → HasAsked (λ u fac answer u'. ClaimsAtTop fac node app answer u u') t t' → Comes F Never t t'
  has_asked node app t t' d = in_turn node app d.0 t t' d.1

  has_claimed : (node : ℕ) (app : List ℕ) (t t' : Tower) → HasClaimed (λ u fac answer u'. ClaimsAtTop fac node app answer u u') t t' → Comes F Never t t'
  has_claimed node app t t' d = in_turn node app (Some d.0) t t' d.1

  freed_there : (port : Port) (r : Result (Unit {0}) FreeError) (b b' : Tower) → FreesAsSeen seen_of frees_both FreesWhole b b' port r → Comes F Never b b'
  freed_there port r b b' d = elim (has_failed b) as (λ z. has_failed b ≡ z → Comes F Never b b') [
    | true ↦ λ is. comes_is F Never b b' (d.1.1 is).1
    | false ↦ λ is. frees port r b b' (d.1.0 is)
  ] refl

  freed_as : (done : ClockStep) (b b' : Tower) → FreesAs (b' ≡ b) (FreesAsSeen seen_of frees_both FreesWhole b b') done → Comes F Never b b'
  freed_as (clocks.GaveUp num) b b' (inl d) = comes_is F Never b b' d.1
  freed_as (clocks.GaveUp num) b b' (inr d) = freed_there d.1 (Ok tt) b b' d.2
  freed_as clocks.Idle b b' d = comes_is F Never b b' d
  freed_as (clocks.Gone cep) b b' d = comes_is F Never b b' d
  freed_as (clocks.Ack cep) b b' d = comes_is F Never b b' d
  freed_as (clocks.Again num) b b' d = comes_is F Never b b' d
  freed_as (clocks.LinkLost link) b b' d = comes_is F Never b b' d
  freed_as (clocks.LinkNew link) b b' d = comes_is F Never b b' d
  freed_as (clocks.Timeout port) b b' d = comes_is F Never b b' d
  freed_as (clocks.Message link) b b' d = comes_is F Never b b' d

  freed_none : (b b' : Tower) → FreesNone (b' ≡ b) (FreesAsSeen seen_of frees_both FreesWhole b b') → Comes F Never b b'
  freed_none b b' (inl d) = comes_is F Never b b' d
  freed_none b b' (inr d) = freed_there d.0 (Err freeing.Memory) b b' d.1

  asked_then : (node : ℕ) (app : List ℕ) (b mid b' : Tower) → HasAsked (λ u fac answer u'. ClaimsAtTop fac node app answer u u') b mid → Comes F Never mid b' → Comes F Never b b'
  asked_then node app b mid b' asked next = never_on F b mid b' (has_asked node app b mid asked) next

  pub clocked_below : (node : ℕ) (app : List ℕ) (b b' : Tower) (x : Result ClockStep StepError) → ClocksBelow (λ u fac answer u'. ClaimsAtTop fac node app answer u u') (FreesAsSeen seen_of frees_both FreesWhole) b x b' → Comes F Never b b'
  clocked_below node app b b' (Ok (clocks.LinkLost link)) d = comes_is F Never b b' d
  clocked_below node app b b' (Ok (clocks.LinkNew link)) d = has_claimed node app b b' d
  clocked_below node app b b' (Ok clocks.Idle) d = asked_then node app b d.mid b' d.asked (freed_as clocks.Idle d.mid b' d.does)
  clocked_below node app b b' (Ok (clocks.Gone cep)) d = asked_then node app b d.mid b' d.asked (freed_as (clocks.Gone cep) d.mid b' d.does)
  clocked_below node app b b' (Ok (clocks.GaveUp num)) d = asked_then node app b d.mid b' d.asked (freed_as (clocks.GaveUp num) d.mid b' d.does)
  clocked_below node app b b' (Ok (clocks.Ack cep)) d = asked_then node app b d.mid b' d.asked (freed_as (clocks.Ack cep) d.mid b' d.does)
  clocked_below node app b b' (Ok (clocks.Again num)) d = asked_then node app b d.mid b' d.asked (freed_as (clocks.Again num) d.mid b' d.does)
  clocked_below node app b b' (Ok (clocks.Timeout port)) d = asked_then node app b d.mid b' d.asked (freed_as (clocks.Timeout port) d.mid b' d.does)
  clocked_below node app b b' (Ok (clocks.Message link)) d = asked_then node app b d.mid b' d.asked (freed_as (clocks.Message link) d.mid b' d.does)
  clocked_below node app b b' (Err Memory) d = asked_then node app b d.mid b' d.asked (freed_none d.mid b' d.does)
  clocked_below node app b b' (Err NoIpc) d = comes_is F Never b b' d
  clocked_below node app b b' (Err NoLink) d = comes_is F Never b b' d
  clocked_below node app b b' (Err (CountSpent need left)) d = comes_is F Never b b' d
