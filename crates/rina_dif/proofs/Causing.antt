-- Each end that has failed did so for its cause, and goes on to.
use Rattle.std.proofs.Common.{◌≡◌, ◌∙◌, ℕ, zero, suc, ◌+◌, ◌*◌, ◌<◌, ◌≤◌, ◌⊎◌, List, [], ◌++◌, length, slice_get, slice_set, Option, option_map, Some, None, Result, Ok, Err, refl, sym, ap, subst, arith, inl, inr}
use Rattle.std.proofs.lemmas.List.{append-nil}
use Rattle.std.proofs.lemmas.Option.{slice_get-get_or}
use Rattle.rina_base.specs.declared.cause.Cause.{Cause}
use Rattle.rina_base.specs.declared.cause.Cause.TheVariants as causes
use Rattle.rina_base.specs.declared.number.Num.{Num}
use Rattle.rina_base.specs.declared.number.Port.{Port}
use Rattle.rina_cube.specs.declared.Cube.{Cube}
use Rattle.rina_iface.specs.declared.ask.Fixed.{Fixed}
use Rattle.rina_iface.specs.declared.ends.End.{End}
use Rattle.rina_iface.specs.declared.error.SendError.{SendError}
use Rattle.rina_iface.specs.declared.state.Fail.{Fail}
use Rattle.rina_iface.specs.declared.state.Fail.TheVariants.{Below, Cut, GaveUp}
use Rattle.rina_iface.specs.declared.state.PortState.{PortState}
use Rattle.rina_iface.specs.declared.state.PortState.TheVariants.{Allocated, Closed, Failed, Pending, Refused}
use Rattle.rina_iface.specs.Journal.{At, AreKept}
use Rattle.rina_iface.specs.Later.{IsLater, Moves}
use Rattle.rina_iface.specs.Seen.{Seen, state_of}
use Rattle.rina_iface.specs.State.{freed, freed_state}
use Rattle.rina_iface.proofs.Changed.{set_at}
use Rattle.rina_iface.proofs.Found.{end_of_stands, found, stands_later}
use Rattle.rina_iface.proofs.Grown.{still_at}
use Rattle.rina_iface.proofs.LaterCalls.{later_passes, later_sends}
use Rattle.rina_law.specs.declared.entry.Entry.{Entry}
use Rattle.rina_law.specs.Constants.{Constants}
use Rattle.rina_law.specs.Direction.{Direction, entry, no_entry, place_of}
use Rattle.rina_law.specs.DirectionHolds.{DirectionHolds}
use Rattle.rina_law.specs.Pieces.{Part}
use Rattle.rina_law.specs.Sender.{member}
use Rattle.rina_law.proofs.Cuts.{place_within}
use Rattle.rina_law.proofs.Due.{late_given_up}
use Rattle.rina_data.specs.declared.link.Link.{Link}
use Rattle.rina_data.specs.declared.step.InStep.{InStep}
use Rattle.rina_data.specs.declared.step.InStep.TheVariants as in_
use Rattle.rina_data.specs.declared.step.OutStep.{OutStep}
use Rattle.rina_data.specs.declared.step.OutStep.TheVariants as out
use Rattle.rina_data.specs.declared.step.StepError.{StepError}
use Rattle.rina_data.specs.declared.step.StepError.TheVariants.{CountSpent, Memory, NoIpc, NoLink}
use Rattle.rina_data.specs.declared.step.Took.{Took}
use Rattle.rina_data.specs.declared.step.Took.TheVariants as took
use Rattle.rina_dif_law.specs.Binding.{IsBound, asker_next, far_next}
use Rattle.rina_dif_law.specs.Caused.{AreCaused, HasFailedBelow, HasGivenUp, IsCause}
use Rattle.rina_data.specs.Hops.{Hop}
use Rattle.rina_data.specs.Configs.{Config, Member, cube_by}
use Rattle.rina_dif_law.specs.Dif.{DifSeen, constants}
use Rattle.rina_data.specs.Process.{Process}
use Rattle.rina_dif_law.specs.Ending.{IsEnded, IsGivenUp}
use Rattle.rina_dif_law.specs.Ids.{Ids}
use Rattle.rina_dif_law.specs.Incoming.{Ins, IsArrived, IsTold, Settles, SettlesFlow, SettlesOff}
use Rattle.rina_dif_law.specs.Losing.{FailAll, FailFirst}
use Rattle.rina_data.specs.Outgoing.{Goes, sent_bytes}
use Rattle.rina_dif_law.specs.Outgoing.{Outs}
use Rattle.rina_dif_law.specs.Passing.{IsPassed}
use Rattle.rina_dif_law.specs.Sending.{IsOffered, home}
use Rattle.rina_dif_law.specs.Standing.{IsStanding}
use Rattle.rina_dif_law.proofs.Pairs.{two_at}
use Rattle.rina_dif_law.proofs.Finding.{beside}
use Rattle.rina_dif_law.specs.Cloud.{Cloud, Everywhere}
use Rattle.rina_dif_law.proofs.Own.{direction_out}
use Rattle.rina_dif.specs.Unlinking.{HasFailed}
use Rattle.rina_dif.proofs.Pieced.{number_of}

same_some : {X : Type 0} (o : Option X) (a b : X) → o ≡ Some a → o ≡ Some b → a ≡ b
same_some o a b h g = cc

-- The rank below goes on

abbrev pub LowerStays : Config → Seen → Seen → Type 0
LowerStays g below below' = (node : ℕ) (port : Port) → HasFailedBelow g below node port → HasFailedBelow g below' node port

pub lower_same : (g : Config) (below below' : Seen) → below' ≡ below → LowerStays g below below'
lower_same g below below' is node port h = subst (λ (s : Seen). HasFailedBelow g s node port) (sym is) h

moves_failed : (old new : PortState) (fail : Fail) → old ≡ Failed fail → Moves old new → new ≡ Failed fail
moves_failed old new fail is moves = subst (λ (s : PortState). Moves s new) is moves

pub lower_later : (g : Config) (below below' : Seen) → AreKept below' → IsLater below below' → LowerStays g below below'
lower_later g below below' kept later node port h =
    let f = found below port h.lower h.is_lower in
    let l = stands_later below below' port f.facility f.place h.lower later kept f.stands in
    record {
      place = h.place;
      at_home = h.at_home;
      member = h.member;
      is_member = h.is_member;
      lower = l.end;
      is_lower = end_of_stands below' port l.facility f.place l.end l.stands;
      app = l.later.app ∙ h.app;
      fail = h.fail;
      failed = moves_failed h.lower.state l.end.state h.fail h.failed l.later.state;
    }

-- A cause stays as the end sends more, and time goes on

cause_on : (g : Config) (now now' : ℕ) (below below' : Seen) (end end' : End) (ids : Ids) (more : List Entry) (fail : Fail) → now ≤ now' → end'.port ≡ end.port → end'.sent ≡ end.sent ++ more → LowerStays g below below' → IsCause g now below end ids fail → IsCause g now' below' end' ids fail
cause_on g now now' below below' end end' ids more (GaveUp num first tick) le port sent lower c =
    let past = c.past in
    record {
      cube = c.cube;
      is_cube = c.is_cube;
      reliable = c.reliable;
      own = c.own;
      place = c.place;
      sdu = c.sdu;
      is_sdu = ap (λ (es : List Entry). slice_get es c.place) sent ∙ still_at end.sent more c.place c.sdu c.is_sdu;
      first_is = c.first_is;
      number = c.number;
      late = c.late;
      past = omega (arith, past, le);
    }
cause_on g now now' below below' end end' ids more (Below port) le same sent lower c = subst (λ (p : Port). HasFailedBelow g below' p.node port) (sym same) (lower end.port.node port c)
cause_on g now now' below below' end end' ids more (Cut tick) le same sent lower c = absurd c

-- Calls in which no end fails

-- an end that has failed had failed before, and sent no less since
pub record HadFailed (d : DifSeen) (at : ℕ) (end' : End) (ids : Ids) (fail : Fail) : Type 0 where
  pub end : End
  pub is_end : At d.ends at end
  pub is_ids : slice_get d.conns at ≡ Some ids
  pub failed : end.state ≡ Failed fail
  pub port : end'.port ≡ end.port
  pub more : List Entry
  pub sent : end'.sent ≡ end.sent ++ more

pub record NoneFails (d d' : DifSeen) : Type 0 where
  pub config : d'.config ≡ d.config
  pub clock : d.clock ≤ d'.clock
  pub was : (at : ℕ) (end' : End) (ids : Ids) (fail : Fail) → At d'.ends at end' → slice_get d'.conns at ≡ Some ids → end'.state ≡ Failed fail → HadFailed d at end' ids fail

pub caused_on : (d d' : DifSeen) (below below' : Seen) → NoneFails d d' → LowerStays d.config below below' → AreCaused d below → AreCaused d' below'
caused_on d d' below below' none lower c at end' ids fail is is_ids failed =
    let h = none.was at end' ids fail is is_ids failed in
    subst (λ (g : Config). IsCause g d'.clock below' end' ids fail) (sym none.config) (cause_on d.config d.clock d'.clock below below' h.end end' ids h.more fail none.clock h.port h.sent lower (c at h.end ids fail h.is_end h.is_ids h.failed))

no_more : (xs : List Entry) → xs ≡ xs ++ []
no_more xs = sym (append-nil xs)

pub still_failed : (d : DifSeen) (at : ℕ) (end : End) (ids : Ids) (fail : Fail) → At d.ends at end → slice_get d.conns at ≡ Some ids → end.state ≡ Failed fail → HadFailed d at end ids fail
still_failed d at end ids fail is is_ids failed = record { end = end; is_end = is; is_ids = is_ids; failed = failed; port = refl; more = []; sent = no_more end.sent }

-- no end and no connection changes
pub none_same : (d d' : DifSeen) → d'.ends ≡ d.ends → d'.conns ≡ d.conns → d'.config ≡ d.config → d.clock ≤ d'.clock → NoneFails d d'
none_same d d' ends conns config clock = record {
  config = config;
  clock = clock;
  was = λ at end' ids fail is is_ids failed. still_failed d at end' ids fail (ap (λ (es : List End). slice_get es at) (sym ends) ∙ is) (ap (λ (ks : List Ids). slice_get ks at) (sym conns) ∙ is_ids) failed;
}

-- nothing at all does
pub none_is : (d d' : DifSeen) → d' ≡ d → NoneFails d d'
none_is d d' is = none_same d d' (ap (λ (x : DifSeen). x.ends) is) (ap (λ (x : DifSeen). x.conns) is) (ap (λ (x : DifSeen). x.config) is) (let same = ap (λ (x : DifSeen). x.clock) is in omega (arith, same))

-- one end changes, which has not failed
pub none_set : (d d' : DifSeen) (place : ℕ) (end end' : End) → At d.ends place end → d'.ends ≡ slice_set d.ends place end' → d'.conns ≡ d.conns → d'.config ≡ d.config → d'.clock ≡ d.clock → ((fail : Fail) → end'.state ≡ Failed fail → ⊥) → NoneFails d d'
none_set d d' place end end' there ends conns config clock not = record {
  config = config;
  clock = omega (arith, clock);
  was = λ at x ids fail is is_ids failed.
      let known : slice_get d.conns at ≡ Some ids = ap (λ (ks : List Ids). slice_get ks at) (sym conns) ∙ is_ids in
      elim (set_at d.ends place at end end' x there (ap (λ (es : List End). slice_get es at) (sym ends) ∙ is)) [
        | inl t ↦ absurd (not fail (ap (λ (e : End). e.state) (sym t.1) ∙ failed))
        | inr f ↦ still_failed d at x ids fail f.1 known failed
      ];
}

-- one changes that may have failed before, and fails no more
pub none_kept : (d d' : DifSeen) (place : ℕ) (end end' : End) (more : List Entry) → At d.ends place end → d'.ends ≡ slice_set d.ends place end' → d'.conns ≡ d.conns → d'.config ≡ d.config → d'.clock ≡ d.clock → ((fail : Fail) → end'.state ≡ Failed fail → end.state ≡ Failed fail) → end'.port ≡ end.port → end'.sent ≡ end.sent ++ more → NoneFails d d'
none_kept d d' place end end' more there ends conns config clock state port sent = record {
  config = config;
  clock = omega (arith, clock);
  was = λ at x ids fail is is_ids failed.
      let known : slice_get d.conns at ≡ Some ids = ap (λ (ks : List Ids). slice_get ks at) (sym conns) ∙ is_ids in
      elim (set_at d.ends place at end end' x there (ap (λ (es : List End). slice_get es at) (sym ends) ∙ is)) [
        | inl t ↦ record {
          end = end;
          is_end = ap (slice_get d.ends) t.0 ∙ there;
          is_ids = known;
          failed = state fail (ap (λ (e : End). e.state) (sym t.1) ∙ failed);
          port = ap (λ (e : End). e.port) t.1 ∙ port;
          more = more;
          sent = ap (λ (e : End). e.sent) t.1 ∙ sent;
        }
        | inr f ↦ still_failed d at x ids fail f.1 known failed
      ];
}

-- What leaves

outs_forwarded : (refuses : Port → ℕ → Option SendError) (g o : Config) (now : ℕ) (below : Seen) (n : ℕ) (process : Process) (r : Result OutStep StepError) (process' : Process) (below' : Seen) → AreKept below' → Goes refuses o now process below n r process' below' → LowerStays g below below'
outs_forwarded refuses g o now below n process (Ok out.Idle) process' below' kept s = lower_same g below below' s.3
outs_forwarded refuses g o now below n process (Ok (out.Sent key)) process' below' kept s =
    lower_later g below below' kept (later_sends (refuses s.link.port (length (sent_bytes o now s.item s.promise))) below s.link.port (sent_bytes o now s.item s.promise) (Ok s.num) below' s.sent)
outs_forwarded refuses g o now below n process (Ok (out.Off key (causes.Expired left charge))) process' below' kept s = lower_same g below below' s.below_is
outs_forwarded refuses g o now below n process (Ok (out.Off key (causes.LinkDown port))) process' below' kept s = lower_same g below below' s.below_is
outs_forwarded refuses g o now below n process (Ok (out.Off key cause)) process' below' kept s = absurd s
outs_forwarded refuses g o now below n process (Ok (out.Held why)) process' below' kept s = lower_same g below below' s.2
outs_forwarded refuses g o now below n process (Err Memory) process' below' kept s = lower_same g below below' s.1
outs_forwarded refuses g o now below n process (Err NoIpc) process' below' kept s = absurd s
outs_forwarded refuses g o now below n process (Err NoLink) process' below' kept s = lower_same g below below' s.2
outs_forwarded refuses g o now below n process (Err (CountSpent need left)) process' below' kept s = absurd s

pub outs_lower : (refuses : Port → ℕ → Option SendError) (g : Config) (d : DifSeen) (below : Seen) (i n : ℕ) (r : Result OutStep StepError) (d' : DifSeen) (below' : Seen) → AreKept below' → Outs refuses d below i n r d' below' → LowerStays g below below'
outs_lower refuses g d below i n (Ok x) d' below' kept s = outs_forwarded refuses g d.config d.clock below n s.process (Ok x) s.process' below' kept s.done
outs_lower refuses g d below i n (Err Memory) d' below' kept s = lower_same g below below' s.done.1
outs_lower refuses g d below i n (Err NoIpc) d' below' kept s = lower_same g below below' s.2
outs_lower refuses g d below i n (Err NoLink) d' below' kept s = lower_same g below below' s.done.2
outs_lower refuses g d below i n (Err (CountSpent need left)) d' below' kept s = absurd s.done

pub outs_caused : (refuses : Port → ℕ → Option SendError) (d : DifSeen) (below : Seen) (i n : ℕ) (r : Result OutStep StepError) (d' : DifSeen) (below' : Seen) → AreKept below' → AreCaused d below → Outs refuses d below i n r d' below' → AreCaused d' below'
outs_caused refuses d below i n r d' below' kept c s = caused_on d d' below below' (none_outs r s) (outs_lower refuses d.config d below i n r d' below' kept s) c
  where
    by_process : (p' : Process) → d' ≡ record d { processes = slice_set d.processes i p' } → NoneFails d d'
    by_process p' is = none_same d d' (ap (λ (x : DifSeen). x.ends) is) (ap (λ (x : DifSeen). x.conns) is) (ap (λ (x : DifSeen). x.config) is) (let same = ap (λ (x : DifSeen). x.clock) is in omega (arith, same))

    none_outs : (r : Result OutStep StepError) → Outs refuses d below i n r d' below' → NoneFails d d'
    none_outs (Ok x) s = by_process s.process' s.new_is
    none_outs (Err Memory) s = by_process s.process' s.new_is
    none_outs (Err NoIpc) s = none_is d d' s.1
    none_outs (Err NoLink) s = by_process s.process' s.new_is
    none_outs (Err (CountSpent need left)) s = by_process s.process' s.new_is

-- What comes

-- only an IPC process changes
none_process : (d d' : DifSeen) (i : ℕ) (p' : Process) → d' ≡ record d { processes = slice_set d.processes i p' } → NoneFails d d'
none_process d d' i p' is = none_same d d' (ap (λ (x : DifSeen). x.ends) is) (ap (λ (x : DifSeen). x.conns) is) (ap (λ (x : DifSeen). x.config) is) (let same = ap (λ (x : DifSeen). x.clock) is in omega (arith, same))

pub allocated_not : (end : End) (fail : Fail) → end.state ≡ Allocated → end.state ≡ Failed fail → ⊥
allocated_not end fail h g = absurd cc

none_arrived : (d : DifSeen) (lines : List Direction) (i : ℕ) (process : Process) (hop : Hop) (cause : Option Cause) (d' : DifSeen) (lines' : List Direction) → IsArrived d lines i process hop.pdu cause d' lines' → NoneFails d d'
none_arrived d lines i process hop cause d' lines' a = none_set d d' a.place a.end _ a.taker.is_conn.end (ap (λ (x : DifSeen). x.ends) a.new_is) (ap (λ (x : DifSeen). x.conns) a.new_is) (ap (λ (x : DifSeen). x.config) a.new_is) (ap (λ (x : DifSeen). x.clock) a.new_is) (λ fail failed. allocated_not a.end fail a.taker.allocated failed)

off_none : (d : DifSeen) (lines : List Direction) (i : ℕ) (member : Member) (process : Process) (at : ℕ) (hop : Hop) (cause : Cause) (d' : DifSeen) (lines' : List Direction) → SettlesOff d lines i member process at hop cause d' lines' → NoneFails d d'
off_none d lines i member process at hop (causes.Expired left charge) d' lines' s = none_process d d' i _ s.3
off_none d lines i member process at hop (causes.NoRoute dst) d' lines' s = none_process d d' i _ s.4
off_none d lines i member process at hop (causes.QueueFull cap) d' lines' s = none_process d d' i _ s.4
off_none d lines i member process at hop (causes.NoConnection cep) d' lines' s = none_process d d' i _ s.4
off_none d lines i member process at hop (causes.LinkDown port) d' lines' s = absurd s
off_none d lines i member process at hop cause d' lines' s = none_arrived d lines i process hop (Some cause) d' lines' s.2

own_none : (d : DifSeen) (lines : List Direction) (i : ℕ) (process : Process) (hop : Hop) (d' : DifSeen) (lines' : List Direction) → IsArrived d lines i process hop.pdu None d' lines' ⊎ IsTold d lines hop.pdu d' lines' → NoneFails d d'
own_none d lines i process hop d' lines' (inl a) = none_arrived d lines i process hop None d' lines' a
own_none d lines i process hop d' lines' (inr t) = none_is d d' t.new_is

flow_none : (d : DifSeen) (lines : List Direction) (i : ℕ) (member : Member) (process : Process) (at : ℕ) (hop : Hop) (end : Took) (d' : DifSeen) (lines' : List Direction) → SettlesFlow d lines i member process at hop end d' lines' → NoneFails d d'
flow_none d lines i member process at hop took.Accepted d' lines' s = own_none d lines i process hop d' lines' s.2
flow_none d lines i member process at hop took.Relayed d' lines' s = none_process d d' i s.2.process' s.2.new_is
flow_none d lines i member process at hop (took.Off cause) d' lines' s = off_none d lines i member process at hop cause d' lines' s

settles_none : (d : DifSeen) (lines : List Direction) (i : ℕ) (member : Member) (process : Process) (at : ℕ) (hop : Hop) (end : Took) (d' : DifSeen) (lines' : List Direction) → Settles d lines i member process at hop end d' lines' → NoneFails d d'
settles_none d lines i member process at hop end d' lines' s = elim s [
  | inl flow ↦ flow_none d lines i member process at hop end d' lines' flow.1
  | inr link ↦ none_process d d' i _ link.new_is
]

ins_none : (d : DifSeen) (lines : List Direction) (below : Seen) (i n : ℕ) (r : Result InStep StepError) (d' : DifSeen) (lines' : List Direction) (below' : Seen) → Ins d lines below i n r d' lines' below' → NoneFails d d'
ins_none d lines below i n (Ok in_.Idle) d' lines' below' s = none_is d d' s.1
ins_none d lines below i n (Ok (in_.Took key end)) d' lines' below' s = settles_none d lines i s.member s.process s.entry.tick s.hop end d' lines' s.settled
ins_none d lines below i n (Err Memory) d' lines' below' s = none_is d d' s.0
ins_none d lines below i n (Err NoIpc) d' lines' below' s = none_is d d' s.1
ins_none d lines below i n (Err NoLink) d' lines' below' s = none_is d d' s.1
ins_none d lines below i n (Err (CountSpent need left)) d' lines' below' s = none_is d d' s.0

pub ins_lower : (g : Config) (d : DifSeen) (lines : List Direction) (below : Seen) (i n : ℕ) (r : Result InStep StepError) (d' : DifSeen) (lines' : List Direction) (below' : Seen) → AreKept below' → Ins d lines below i n r d' lines' below' → LowerStays g below below'
ins_lower g d lines below i n (Ok in_.Idle) d' lines' below' kept s = lower_same g below below' s.3
ins_lower g d lines below i n (Ok (in_.Took key end)) d' lines' below' kept s = lower_later g below below' kept (later_passes below s.link.port below' s.passed)
ins_lower g d lines below i n (Err Memory) d' lines' below' kept s = lower_same g below below' s.2
ins_lower g d lines below i n (Err NoIpc) d' lines' below' kept s = lower_same g below below' s.3
ins_lower g d lines below i n (Err NoLink) d' lines' below' kept s = lower_same g below below' s.3
ins_lower g d lines below i n (Err (CountSpent need left)) d' lines' below' kept s = lower_same g below below' s.2

pub ins_caused : (d : DifSeen) (lines : List Direction) (below : Seen) (i n : ℕ) (r : Result InStep StepError) (d' : DifSeen) (lines' : List Direction) (below' : Seen) → AreKept below' → AreCaused d below → Ins d lines below i n r d' lines' below' → AreCaused d' below'
ins_caused d lines below i n r d' lines' below' kept c s = caused_on d d' below below' (ins_none d lines below i n r d' lines' below' s) (ins_lower d.config d lines below i n r d' lines' below' kept s) c

-- What is done at a rank where nothing is done below

pub caused_here : (d d' : DifSeen) (below : Seen) → NoneFails d d' → AreCaused d below → AreCaused d' below
caused_here d d' below none c = caused_on d d' below below none (lower_same d.config below below refl) c

-- only an IPC process changes
pub process_caused : (d d' : DifSeen) (below : Seen) (i : ℕ) (p' : Process) → d' ≡ record d { processes = slice_set d.processes i p' } → AreCaused d below → AreCaused d' below
process_caused d d' below i p' is c = caused_here d d' below (none_process d d' i p' is) c

pub offered_caused : (d : DifSeen) (lines : List Direction) (below : Seen) (at : ℕ) (parts : List Part) (num : Num) (d' : DifSeen) (lines' : List Direction) → IsOffered d lines at parts num d' lines' → AreCaused d below → AreCaused d' below
offered_caused d lines below at parts num d' lines' s c = caused_here d d' below (none_set d d' at s.end _ s.is_conn.end (ap (λ (x : DifSeen). x.ends) s.new_is) (ap (λ (x : DifSeen). x.conns) s.new_is) (ap (λ (x : DifSeen). x.config) s.new_is) (ap (λ (x : DifSeen). x.clock) s.new_is) (λ fail failed. allocated_not s.end fail s.allocated failed)) c

pub passed_caused : (d : DifSeen) (lines : List Direction) (below : Seen) (at : ℕ) (d' : DifSeen) (lines' : List Direction) → IsPassed d lines at d' lines' → AreCaused d below → AreCaused d' below
passed_caused d lines below at d' lines' s c = caused_here d d' below (none_kept d d' at s.end _ [] s.is_conn.end (ap (λ (x : DifSeen). x.ends) s.new_is) (ap (λ (x : DifSeen). x.conns) s.new_is) (ap (λ (x : DifSeen). x.config) s.new_is) (ap (λ (x : DifSeen). x.clock) s.new_is) (λ fail failed. failed) refl (no_more s.end.sent)) c

-- An end fails

-- an end ends, for its cause where it fails
pub ended_caused : (d : DifSeen) (lines : List Direction) (below : Seen) (at : ℕ) (state : PortState) (d' : DifSeen) → (e : IsEnded d lines at state d') → ((fail : Fail) → state ≡ Failed fail → IsCause d.config d.clock below e.end e.ids fail) → AreCaused d below → AreCaused d' below
ended_caused d lines below at state d' e why c k x ids fail is is_ids failed =
    let new : End = record e.end { state = state } in
    let ends : d'.ends ≡ slice_set d.ends at new = ap (λ (z : DifSeen). z.ends) e.new_is in
    let known : slice_get d.conns k ≡ Some ids = ap (λ (z : DifSeen). slice_get z.conns k) (sym e.new_is) ∙ is_ids in
    subst (λ (z : DifSeen). IsCause z.config z.clock below x ids fail) (sym e.new_is) (elim (set_at d.ends at k e.end new x e.is_conn.end (ap (λ (es : List End). slice_get es k) (sym ends) ∙ is)) [
      | inl t ↦
          (let so : state ≡ Failed fail = ap (λ (z : End). z.state) (sym t.1) ∙ failed in
          let mine : e.ids ≡ ids = same_some (slice_get d.conns at) e.ids ids e.is_conn.ids_are (ap (slice_get d.conns) (sym t.0) ∙ known) in
          subst (λ (i : Ids). IsCause d.config d.clock below x i fail) mine (cause_on d.config d.clock d.clock below below e.end x e.ids [] fail (omega arith) (ap (λ (z : End). z.port) t.1) (ap (λ (z : End). z.sent) t.1 ∙ no_more e.end.sent) (lower_same d.config below below refl) (why fail so)))
      | inr f ↦ c k x ids fail f.1 known failed
    ])

closed_not : (fail : Fail) → Closed ≡ Failed fail → ⊥
closed_not fail h = absurd cc

-- one is closed
pub closed_caused : (d : DifSeen) (lines : List Direction) (below : Seen) (at : ℕ) (d' : DifSeen) → IsEnded d lines at Closed d' → AreCaused d below → AreCaused d' below
closed_caused d lines below at d' e c = ended_caused d lines below at Closed d' e (λ fail is. absurd (closed_not fail is)) c

freed_failed : (s : PortState) (fail : Fail) → freed_state s ≡ Failed fail → s ≡ Failed fail
freed_failed Pending fail h = absurd cc
freed_failed Allocated fail h = absurd cc
freed_failed (Refused why) fail h = h
freed_failed (Failed by) fail h = h
freed_failed Closed fail h = h

-- one is given up by its application
pub freed_caused : (d : DifSeen) (below : Seen) (at : ℕ) (end : End) → At d.ends at end → AreCaused d below → AreCaused (record d { ends = slice_set d.ends at (freed end) }) below
freed_caused d below at end is c = caused_here d (record d { ends = slice_set d.ends at (freed end) }) below (none_kept d (record d { ends = slice_set d.ends at (freed end) }) at end (freed end) [] is refl refl refl refl (freed_failed end.state) refl (no_more end.sent)) c

-- A number is given up

failed_is : (a b : Fail) → Failed a ≡ Failed b → a ≡ b
failed_is a b h = cc

gave_up : (d : DifSeen) (lines : List Direction) (below : Seen) (at number : ℕ) (new : DifSeen) → IsStanding d lines below → (g : IsGivenUp d lines at number new) → HasGivenUp d.config d.clock g.ended.end g.ended.ids (record { cep = g.ids.scep; seq = number }) (member g.line.line.sender.run number).first d.clock
gave_up d lines below at number new st g =
    let k : Constants = constants d.config g.cube g.ids in
    let end : End = g.ended.end in
    let is_end = g.ended.is_conn.end in
    let partner = st.journal.allocated at end is_end g.ended.allocated in
    let flow = direction_out d.config d.clock (Cloud Everywhere d.config d.processes below) d.ids d.ends d.conns lines st.own at partner.place end partner.other g.ids g.line (record { end = is_end; ids_are = g.ids_are }) partner.stands g.is_line partner.partner g.ended.allocated in
    let cube_is : flow.cube ≡ g.cube = same_some (cube_by g.ids.qos d.config.cubes) flow.cube g.cube flow.is_cube g.is_cube in
    let holds : DirectionHolds k g.line = subst (λ (x : Cube). DirectionHolds (constants d.config x g.ids) g.line) cube_is flow.backed.holds in
    let run = g.line.line.sender.run in
    let sent = holds.core.sent in
    let x = late_given_up k g.line.line.clock g.line.line.sender number g.late in
    let place : ℕ = place_of run g.line.base number in
    let within : place < length g.line.sent = place_within k run g.line.base g.line.sent sent number x.within in
    let sdu : Entry = entry g.line.sent place in
    let ids_are : g.ids ≡ g.ended.ids = same_some (slice_get d.conns at) g.ids g.ended.ids g.ids_are g.ended.is_conn.ids_are in
    record {
      cube = g.cube;
      is_cube = ap (λ (z : Ids). cube_by z.qos d.config.cubes) (sym ids_are) ∙ g.is_cube;
      reliable = x.reliable;
      own = ap (λ (z : Ids). z.scep) ids_are;
      place = place;
      sdu = sdu;
      is_sdu = ap (λ (es : List Entry). slice_get es place) (sym flow.sent) ∙ slice_get-get_or g.line.sent place no_entry within;
      first_is = sent.tick number x.within;
      number = number_of k g.line number holds x.within;
      late = subst (λ (n : ℕ). (member run number).first + g.cube.r + g.cube.a + 2 * g.cube.mpl ≤ n) flow.backed.clock x.late;
      past = omega arith;
    }

pub given_up_caused : (d : DifSeen) (lines : List Direction) (below : Seen) (at number : ℕ) (new : DifSeen) → IsStanding d lines below → IsGivenUp d lines at number new → AreCaused d below → AreCaused new below
given_up_caused d lines below at number new st g c =
    let by : Fail = GaveUp (record { cep = g.ids.scep; seq = number }) (member g.line.line.sender.run number).first d.clock in
    ended_caused d lines below at (Failed by) new g.ended (λ fail so. subst (λ (f : Fail). IsCause d.config d.clock below g.ended.end g.ended.ids f) (failed_is by fail so) (gave_up d lines below at number new st g)) c

-- All flows of a node fail with the last link

failed_state : (s : PortState) → HasFailed (Some s) → (fail : Fail) × (s ≡ Failed fail)
failed_state Pending h = absurd h
failed_state Allocated h = absurd h
failed_state (Refused why) h = absurd h
failed_state (Failed fail) h = (fail, refl)
failed_state Closed h = absurd h

pub failed_below : (d : DifSeen) (lines : List Direction) (below : Seen) (i node place : ℕ) (p : Process) (link : Link) → IsStanding d lines below → home node d.config.members ≡ Some i → slice_get d.processes i ≡ Some p → slice_get p.links place ≡ Some link → HasFailed (state_of below link.port) → HasFailedBelow d.config below node link.port
failed_below d lines below i node place p link st here is there failed =
    let member = beside d.processes d.config.members i p (sym st.aligned) is in
    let l = st.linked i member.0 link member.1 (record { process = p; is_process = is; place = place; stands = there }) in
    let f = failed_state l.end.state (subst (λ (o : Option End). HasFailed (option_map (λ (e : End). e.state) o)) l.here failed) in
    record { place = i; at_home = here; member = member.0; is_member = member.1; lower = l.end; is_lower = l.here; app = l.app; fail = f.0; failed = f.1 }

-- so far, each for its cause
record AreCausedSo (d : DifSeen) (below : Seen) (d' : DifSeen) : Type 0 where
  config : d'.config ≡ d.config
  caused : AreCaused d' below

first_caused : (lines : List Direction) (below : Seen) (node : ℕ) (port : Port) (n : ℕ) (d d' : DifSeen) → HasFailedBelow d.config below node port → AreCaused d below → FailFirst lines node (Below port) n d d' → AreCausedSo d below d'
first_caused lines below node port zero d d' why c f = record { config = ap (λ (x : DifSeen). x.config) f; caused = subst (λ (x : DifSeen). AreCaused x below) (sym f) c }
first_caused lines below node port (suc n) d d' why c f =
    let so = first_caused lines below node port n d f.0 why c f.1 in
    elim f.2 [
      | inl s ↦
          (let at_node : s.1.end.port.node ≡ node = ap (λ (e : End). e.port.node) (same_some (slice_get f.0.ends n) s.1.end s.0.end s.1.is_conn.end s.0.is_end) ∙ s.0.node_is in
          let cause : HasFailedBelow f.0.config below s.1.end.port.node port = subst (λ (k : ℕ). HasFailedBelow f.0.config below k port) (sym at_node) (subst (λ (g : Config). HasFailedBelow g below node port) (sym so.config) why) in
          record {
            config = ap (λ (x : DifSeen). x.config) s.1.new_is ∙ so.config;
            caused = ended_caused f.0 lines below n (Failed (Below port)) d' s.1 (λ fail is. subst (λ (z : Fail). IsCause f.0.config f.0.clock below s.1.end s.1.ids z) (failed_is (Below port) fail is) cause) so.caused;
          })
      | inr k ↦ record { config = ap (λ (x : DifSeen). x.config) k.1 ∙ so.config; caused = subst (λ (x : DifSeen). AreCaused x below) (sym k.1) so.caused }
    ]

pub failed_caused : (d : DifSeen) (lines : List Direction) (below : Seen) (node : ℕ) (port : Port) (d' : DifSeen) → HasFailedBelow d.config below node port → AreCaused d below → FailAll lines node port d d' → AreCaused d' below
failed_caused d lines below node port d' why c f = (first_caused lines below node port (length d.ends) d d' why c f).caused

-- Where flows are bound

none_in : {X : Type 0} (i : ℕ) (x : X) → slice_get [] i ≡ Some x → ⊥
none_in i x h = absurd cc

-- there are no flows
pub none_caused : (d : DifSeen) (below : Seen) → d.ends ≡ [] → AreCaused d below
none_caused d below none at end ids fail is is_ids failed = absurd (none_in at end (ap (λ (es : List End). slice_get es at) (sym none) ∙ is))

-- two ends are made, both allocated
pub bound_caused : (d : DifSeen) (lines : List Direction) (below : Seen) (fixed : Fixed) (d' : DifSeen) (lines' : List Direction) → IsStanding d lines below → IsBound d lines fixed d' lines' → AreCaused d below → AreCaused d' below
bound_caused d lines below fixed d' lines' st b c = caused_here d d' below (record {
  config = ap (λ (x : DifSeen). x.config) b.new_is;
  clock = (let same = ap (λ (x : DifSeen). x.clock) b.new_is in omega (arith, same));
  was = λ at x ids fail is is_ids failed. elim (two_at d.ends (asker_next d fixed b.of_a) (far_next d fixed b.of_a) at x (ap (λ (z : DifSeen). slice_get z.ends at) (sym b.new_is) ∙ is)) [
    | inl old ↦
        (let known = beside d.ends d.conns at x st.own.alike old in
        let same : ids ≡ known.0 = same_some (slice_get d'.conns at) ids known.0 is_ids (ap (λ (z : DifSeen). slice_get z.conns at) b.new_is ∙ still_at d.conns _ at known.0 known.1) in
        still_failed d at x ids fail old (known.1 ∙ ap (λ (i : Ids). Some i) (sym same)) failed)
    | inr (inl t) ↦ absurd (allocated_not x fail (ap (λ (e : End). e.state) t.1) failed)
    | inr (inr t) ↦ absurd (allocated_not x fail (ap (λ (e : End). e.state) t.1) failed)
  ];
}) c
