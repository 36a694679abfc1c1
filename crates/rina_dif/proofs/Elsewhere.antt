-- What a call at a DIF leaves as it was.
use Rattle.std.proofs.Common.{◌≡◌, ◌∙◌, ℕ, ◌<◌, true, List, [], ◌∷◌, length, get_or, map, option_map, slice_get, slice_set, Result, Ok, Err, Option, Some, None, refl, sym, ap, subst, arith, inl}
use Rattle.std.specs.Prelude.{is_err}
use Rattle.std.proofs.lemmas.List.{length-map, map-set}
use Rattle.std.proofs.lemmas.List.Quantifiers.{position-Some}
use Rattle.std.proofs.lemmas.Option.{slice_get-get_or, slice_get-map}
use Rattle.rina_account.specs.declared.ledger.Off.{Off}
use Rattle.rina_base.specs.declared.cause.Cause.{Cause}
use Rattle.rina_base.specs.declared.memory.Memory.{Memory}
use Rattle.rina_base.specs.declared.number.Key.{Key}
use Rattle.rina_base.specs.declared.number.Num.{Num}
use Rattle.rina_base.specs.declared.number.Port.{Port}
use Rattle.rina_base.specs.declared.pdu.Pdu.{Pdu}
use Rattle.rina_base.specs.Pdus.{key_of}
use Rattle.rina_iface.specs.declared.ends.End.{End}
use Rattle.rina_iface.specs.declared.state.PortState.{PortState}
use Rattle.rina_iface.specs.Ends.{has_port, place_in}
use Rattle.rina_iface.specs.Seen.{Seen}
use Rattle.rina_iface.specs.State.{with_state}
use Rattle.rina_iface.proofs.Changed.{slice_set-same}
use Rattle.rina_law.specs.Direction.{Direction}
use Rattle.rina_data.specs.declared.process.IpcProcess.{IpcProcess}
use Rattle.rina_data.specs.declared.step.ClockStep.{ClockStep}
use Rattle.rina_data.specs.declared.step.Decision.{Decision}
use Rattle.rina_data.specs.declared.step.InStep.{InStep}
use Rattle.rina_data.specs.declared.step.InStep.TheVariants as ins
use Rattle.rina_data.specs.declared.step.StepError.{StepError}
use Rattle.rina_data.specs.declared.step.Took.{Took}
use Rattle.rina_data.specs.Configs.{config_of, member_of}
use Rattle.rina_data.specs.Deciding.{queue_settings}
use Rattle.rina_data.specs.Hops.{Hop}
use Rattle.rina_data.proofs.Finding.{there}
use Rattle.rina_dif_law.specs.Losing.{IsAllocatedAt}
use Rattle.rina_flows.specs.declared.flows.Flows.{Flows}
use Rattle.rina_flows.specs.declared.due.Item.{Item}
use Rattle.rina_flows.specs.Calls.{TakenBy}
use Rattle.rina_flows.specs.Delivering.{StopsIn}
use Rattle.rina_flows.specs.Elsewhere.{ChangesAt}
use Rattle.rina_flows.specs.Tied.{conns_of}
use Rattle.rina_flows.proofs.Elsewhere.{by_change, by_more, by_none, by_set}
use Rattle.rina_dif.specs.declared.dif.Dif.{Dif}
use Rattle.rina_dif.specs.declared.processes.LinkLoss.{LinkLoss}
use Rattle.rina_dif.specs.Clocking.{IsTurn}
use Rattle.rina_dif.specs.Elsewhere.{ChangesOnly, ChangesProcess, IsEndHere, IsEndOf, IsOfCep, IsPortAt, IsTaker, MayClock, MayTake, WhenOk, home_of}
use Rattle.rina_dif.specs.Holding.{Stands}
use Rattle.rina_dif.specs.Taking.{ArrivesTo, Comes, DecidesAt, IsOwn, NotesAt}
use Rattle.rina_dif.specs.Timely.{ForwardsAt, GivesUp, IsHomeEnd, SendsAgain, WithLedger}
use Rattle.rina_dif.specs.Unlinking.{LosesIn, LosesLastIn}
use Rattle.rina_dif.proofs.Cutting.{StaysWith}
use Rattle.rina_dif.proofs.Leaves.{has_process}

-- Answers

pub when_in : {T E : Type 0} (r : Result T E) (P : Type 0) → WhenOk r P → P
when_in (Ok done) P h = h
when_in (Err e) P h = absurd h

pub when_more : {T E : Type 0} (r : Result T E) (P Q : Type 0) → (P → Q) → WhenOk r P → WhenOk r Q
when_more (Ok done) P Q all h = all h
when_more (Err e) P Q all h = absurd h

pub when_not : {T E : Type 0} (r : Result T E) (P : Type 0) → is_err r ≡ true → WhenOk r P → ⊥
when_not (Ok done) P e h = absurd cc
when_not (Err e) P is h = h

-- Flows

-- at more places
pub flows_more : (Few Many : ℕ → Type 0) (old new : Flows) → ((i : ℕ) → Few i → Many i) → ChangesAt Few old new → ChangesAt Many old new
flows_more Few Many old new all h = (by_more Few Many old.journal.ends new.journal.ends all h.0, by_more Few Many old.conns new.conns all h.1)

pub flows_none : (Changes : ℕ → Type 0) (old new : Flows) → new ≡ old → ChangesAt Changes old new
flows_none Changes old new same = (by_none Changes old.journal.ends new.journal.ends (ap (λ (f : Flows). f.journal.ends) same), by_none Changes old.conns new.conns (ap (λ (f : Flows). f.conns) same))

-- the same ends, or more
pub only_more : (Few Many : ℕ → Type 0) (o : Option ℕ) (d d' : Dif) → ((i : ℕ) → Few i → Many i) → ChangesOnly Few o d d' → ChangesOnly Many o d d'
only_more Few Many o d d' all h = (flows_more Few Many d.flows d'.flows all h.0, h.1)

-- One IPC process was changed

pub by_process : (old new : List IpcProcess) (at : ℕ) (p p' : IpcProcess) → slice_get old at ≡ Some p → queue_settings p' ≡ queue_settings p → new ≡ slice_set old at p' → ChangesProcess (Some at) old new
by_process old new at p p' there kept is =
    let there' : slice_get (map queue_settings old) at ≡ Some (queue_settings p) = slice_get-map queue_settings old at ∙ ap (option_map queue_settings) there in
    let settings : map queue_settings new ≡ map queue_settings old = ap (map queue_settings) is ∙ map-set queue_settings old at p' ∙ ap (slice_set (map queue_settings old) at) kept ∙ slice_set-same (map queue_settings old) at (queue_settings p) there' in
    (by_more (λ i. i ≡ at) (λ i. Some at ≡ Some i) old new (λ i same. ap (λ (k : ℕ). Some k) (sym same)) (by_set old new at p' is), settings)

pub none_process : (o : Option ℕ) (old new : List IpcProcess) → new ≡ old → ChangesProcess o old new
none_process o old new same = (by_none (λ i. o ≡ Some i) old new same, ap (map queue_settings) same)

pub forwards_leave : (d : Dif) (below : Seen) (hop : Hop) (r : Result Decision Memory) (at : ℕ) (ps : List IpcProcess) → Stands d below → at < length d.settings.members → ForwardsAt d.clock hop r at d.processes ps → ChangesProcess (Some at) d.processes ps
forwards_leave d below hop r at ps st lt does =
    let p = has_process d below at st lt in
    let x = does p.0 p.1 in
    by_process d.processes ps at p.0 x.0 p.1 x.2 x.3

pub decides_leave : (d : Dif) (below : Seen) (addr since : ℕ) (hop : Hop) (r : Result Decision Memory) (at : ℕ) (ps : List IpcProcess) → Stands d below → at < length d.settings.members → DecidesAt d.clock addr since hop r at d.processes ps → ChangesProcess (Some at) d.processes ps
decides_leave d below addr since hop r at ps st lt does =
    let p = has_process d below at st lt in
    let x = does p.0 p.1 in
    by_process d.processes ps at p.0 x.0 p.1 x.2 x.3

pub notes_leave : (d : Dif) (below : Seen) (pdu : Pdu) (cause : Cause) (r : Result (Unit {0}) Memory) (at : ℕ) (ps : List IpcProcess) → Stands d below → at < length d.settings.members → NotesAt pdu cause r at d.processes ps → ChangesProcess (Some at) d.processes ps
notes_leave d below pdu cause r at ps st lt does =
    let p = has_process d below at st lt in
    let x = does p.0 p.1 in
    by_process d.processes ps at p.0 x.0 p.1 x.2 x.3

pub arrives_leave : (d : Dif) (below : Seen) (place : ℕ) (pdu : Pdu) (at : ℕ) (r : Result (Option Cause) Memory) (flows : Flows) (ps : List IpcProcess) → Stands d below → at < length d.settings.members → ArrivesTo d.clock place pdu at d.flows d.processes r flows ps → ChangesProcess (Some at) d.processes ps
arrives_leave d below place pdu at r flows ps st lt does =
    let p = has_process d below at st lt in
    let x = does p.0 p.1 in
    by_process d.processes ps at p.0 (record p.0 { ledger = x.0 }) p.1 refl x.2

pub ledger_leaves : (R : Flows → List Off → Flows → List Off → Type 0) (d : Dif) (below : Seen) (at : ℕ) (flows : Flows) (ps : List IpcProcess) → Stands d below → at < length d.settings.members → WithLedger R at d.flows d.processes flows ps → ChangesProcess (Some at) d.processes ps
ledger_leaves R d below at flows ps st lt does =
    let p = has_process d below at st lt in
    let x = does p.0 p.1 in
    by_process d.processes ps at p.0 (record p.0 { ledger = x.0 }) p.1 refl x.2

pub loses_leave : (d : Dif) (below : Seen) (loss : LinkLoss) (r : Result (Unit {0}) Memory) (at : ℕ) (links : Flows) (ps : List IpcProcess) → Stands d below → at < length d.settings.members → LosesIn loss r at d.connections.flows d.processes links ps → ChangesProcess (Some at) d.processes ps
loses_leave d below loss r at links ps st lt does =
    let p = has_process d below at st lt in
    let x = does p.0 p.1 in
    by_process d.processes ps at p.0 x.0 p.1 x.2 x.3

pub last_leaves : (d : Dif) (below : Seen) (node : ℕ) (state : PortState) (loss : LinkLoss) (r : Result (Unit {0}) Memory) (at : ℕ) (links flows : Flows) (ps : List IpcProcess) → Stands d below → at < length d.settings.members → LosesLastIn node state loss r at d.connections.flows d.flows d.processes links flows ps → ChangesProcess (Some at) d.processes ps
last_leaves d below node state loss r at links flows ps st lt does =
    let p = has_process d below at st lt in
    let x = does p.0 p.1 in
    by_process d.processes ps at p.0 x.0 p.1 x.2 x.3

-- an allocation failed, and no end changed
pub last_failed_leaves : (d : Dif) (below : Seen) (r : Result (Unit {0}) Memory) (at : ℕ) (links flows : Flows) (ps : List IpcProcess) → Stands d below → at < length d.settings.members → StaysWith at d.connections.flows d.flows d.processes links flows ps → ChangesOnly (λ i. WhenOk r (IsEndOf d (Some at) i)) (Some at) d (record d { connections = record d.connections { flows = links }; flows = flows; processes = ps })
last_failed_leaves d below r at links flows ps st lt stays =
    let p = has_process d below at st lt in
    let x = stays p.0 p.1 in
    (flows_none (λ i. WhenOk r (IsEndOf d (Some at) i)) d.flows flows x.1.0.1, by_process d.processes ps at p.0 x.0 p.1 x.2 x.3)

-- Memory was not found, and no end changed

pub arrived_when : (d : Dif) (below : Seen) (place : ℕ) (pdu : Pdu) (at : ℕ) (r : Result (Option Cause) Memory) (flows : Flows) (ps : List IpcProcess) → Stands d below → at < length d.settings.members → ArrivesTo d.clock place pdu at d.flows d.processes r flows ps → ChangesAt (λ i. i ≡ place) d.flows flows → ChangesAt (λ i. WhenOk r (i ≡ place)) d.flows flows
arrived_when d below place pdu at (Ok cause) flows ps st lt does h = h
arrived_when d below place pdu at (Err e) flows ps st lt does h =
    let p = has_process d below at st lt in
    flows_none (λ i. ⊥) d.flows flows (does p.0 p.1).1.0

pub arrived_none : (d : Dif) (below : Seen) (place : ℕ) (pdu : Pdu) (at : ℕ) (e : Memory) (flows : Flows) (ps : List IpcProcess) → Stands d below → at < length d.settings.members → ArrivesTo d.clock place pdu at d.flows d.processes (Err e) flows ps → flows ≡ d.flows
arrived_none d below place pdu at e flows ps st lt does = (let p = has_process d below at st lt in (does p.0 p.1).1.0)

pub stopped_when : (d : Dif) (below : Seen) (place : ℕ) (state : PortState) (at : ℕ) (r : Result (Unit {0}) Memory) (flows : Flows) (ps : List IpcProcess) → Stands d below → at < length d.settings.members → WithLedger (λ f l f' l'. StopsIn d.clock place state f l r f' l') at d.flows d.processes flows ps → ChangesAt (λ i. i ≡ place) d.flows flows → ChangesAt (λ i. WhenOk r (i ≡ place)) d.flows flows
stopped_when d below place state at (Ok done) flows ps st lt does h = h
stopped_when d below place state at (Err e) flows ps st lt does h =
    let p = has_process d below at st lt in
    flows_none (λ i. ⊥) d.flows flows (does p.0 p.1).1.0

-- At a port

port_is : (port : Port) (e : End) → has_port port e ≡ true → e.port ≡ port
port_is port e h = grind arith

port_there : (port : Port) (ends : List End) (at : ℕ) → place_in port ends ≡ Some at → (e : End) × (slice_get ends at ≡ Some e) × (e.port ≡ port)
port_there port [] at is = absurd cc
port_there port (x ∷ xs) at is =
    let s = position-Some (has_port port) (x ∷ xs) at x is in
    let e : End = get_or (x ∷ xs) at x in
    (e, slice_get-get_or (x ∷ xs) at x s.0, port_is port e s.1)

-- what changes at the place of its end
pub at_port : {T E : Type 0} (r : Result T E) (d d' : Dif) (port : Port) (at : ℕ) → place_in port d.flows.journal.ends ≡ Some at → ((end : End) → slice_get d.flows.journal.ends at ≡ Some end → ChangesOnly (λ i. WhenOk r (i ≡ at)) (home_of d end.port.node) d d') → ChangesOnly (λ i. WhenOk r (IsPortAt d port i)) (home_of d port.node) d d'
at_port r d d' port at place h =
    let e = port_there port d.flows.journal.ends at place in
    let all : (i : ℕ) → WhenOk r (i ≡ at) → WhenOk r (IsPortAt d port i) = λ i. when_more r (i ≡ at) (IsPortAt d port i) (λ same. place ∙ ap (λ (k : ℕ). Some k) (sym same)) in
    let c = subst (λ (p : Port). ChangesOnly (λ i. WhenOk r (i ≡ at)) (home_of d p.node) d d') e.2 (h e.0 e.1) in
    only_more (λ i. WhenOk r (i ≡ at)) (λ i. WhenOk r (IsPortAt d port i)) (home_of d port.node) d d' all c

-- it was done
pub done_at : {T E : Type 0} (r : Result T E) (d d' : Dif) (port : Port) → ChangesOnly (λ i. WhenOk r (IsPortAt d port i)) (home_of d port.node) d d' → ChangesOnly (IsPortAt d port) (home_of d port.node) d d'
done_at r d d' port h = only_more (λ i. WhenOk r (IsPortAt d port i)) (IsPortAt d port) (home_of d port.node) d d' (λ i. when_in r (IsPortAt d port i)) h

-- it was not
pub failed_at : {T E : Type 0} (r : Result T E) (d d' : Dif) (port : Port) → is_err r ≡ true → ChangesOnly (λ i. WhenOk r (IsPortAt d port i)) (home_of d port.node) d d' → ChangesOnly (λ i. ⊥) (home_of d port.node) d d'
failed_at r d d' port is h = only_more (λ i. WhenOk r (IsPortAt d port i)) (λ i. ⊥) (home_of d port.node) d d' (λ i. when_not r (IsPortAt d port i) is) h

-- What comes

-- the end that takes a PDU is one of the IPC process for which the PDU is
pub taker_of : (d : Dif) (at since : ℕ) (hop : Hop) (place : ℕ) → Comes d since hop → at < length d.settings.members → IsOwn d at since hop → TakenBy d.flows.journal.ends (conns_of d.flows.conns) hop.pdu (Some place) → IsTaker d (Some at) (key_of hop.pdu) place
taker_of d at since hop place comes lt own taken =
    let n = comes.2.numbered in
    let count = length-map d.settings.members member_of in
    let m = there (config_of d.settings).members at (omega (arith, count, lt)) in
    let a = n.addressed place taken.0 taken.1 taken.2.is_conn in
    let addr : a.member.addr ≡ m.0.addr = sym a.addr ∙ sym taken.2.names.dst ∙ own.1 m.0 m.1 in
    let same : a.place ≡ at = n.members.addrs a.place at a.member m.0 a.stands m.1 addr in
    record {
      end_of = record { end = taken.0; is_end = taken.2.is_conn.end; at_home = a.at_home ∙ ap (λ (k : ℕ). Some k) same };
      ids = taken.1;
      ids_are = taken.2.is_conn.ids_are;
      src = taken.2.names.src;
      scep = taken.2.names.scep;
    }

-- it was taken at that place alone
pub taken_alone : (r : Result Took Memory) (d d' : Dif) (at : ℕ) (key : Key) (place : ℕ) → IsTaker d (Some at) key place → ChangesOnly (λ i. WhenOk r (i ≡ place)) (Some at) d d' → ChangesOnly (λ i. WhenOk r (IsTaker d (Some at) key i)) (Some at) d d'
taken_alone r d d' at key place taker h =
    only_more (λ i. WhenOk r (i ≡ place)) (λ i. WhenOk r (IsTaker d (Some at) key i)) (Some at) d d' (λ i. when_more r (i ≡ place) (IsTaker d (Some at) key i) (λ same. subst (IsTaker d (Some at) key) (sym same) taker)) h

-- after the IPC process decided on it
pub after_deciding : (r : Result Took Memory) (d : Dif) (ps : List IpcProcess) (d' : Dif) (at : ℕ) (key : Key) → ChangesProcess (Some at) d.processes ps → ChangesOnly (λ i. WhenOk r (IsTaker (record d { processes = ps }) (Some at) key i)) (Some at) (record d { processes = ps }) d' → ChangesOnly (λ i. WhenOk r (IsTaker d (Some at) key i)) (Some at) d d'
after_deciding r d ps d' at key before h =
    let all : (i : ℕ) → IsTaker (record d { processes = ps }) (Some at) key i → IsTaker d (Some at) key i = λ i t. record { end_of = record { end = t.end_of.end; is_end = t.end_of.is_end; at_home = t.end_of.at_home }; ids = t.ids; ids_are = t.ids_are; src = t.src; scep = t.scep } in (
      flows_more (λ i. WhenOk r (IsTaker (record d { processes = ps }) (Some at) key i)) (λ i. WhenOk r (IsTaker d (Some at) key i)) d.flows d'.flows (λ i. when_more r (IsTaker (record d { processes = ps }) (Some at) key i) (IsTaker d (Some at) key i) (all i)) h.0,
      (λ i other. h.1.0 i other ∙ before.0 i other, h.1.1 ∙ before.1),
    )

-- memory was not found for it
pub in_failed : (r : Result InStep StepError) (e : StepError) (d d' : Dif) (o : Option ℕ) → r ≡ Err e → ChangesOnly (λ i. ⊥) o d d' → ChangesOnly (MayTake r d o) o d d'
in_failed r e d d' o is h = subst (λ (z : Result InStep StepError). ChangesOnly (MayTake z d o) o d d') (sym is) (only_more (λ i. ⊥) (MayTake (Err e) d o) o d d' (λ i none. absurd none) h)

pub in_noted : (r r' : Result InStep StepError) (d d' : Dif) (node at : ℕ) → home_of d node ≡ Some at → r' ≡ r → ChangesOnly (MayTake r d (Some at)) (Some at) d d' → ChangesOnly (MayTake r' d (home_of d node)) (home_of d node) d d'
in_noted r r' d d' node at here same h =
    subst (λ (o : Option ℕ). ChangesOnly (MayTake r' d o) o d d') (sym here) (subst (λ (z : Result InStep StepError). ChangesOnly (MayTake z d (Some at)) (Some at) d d') (sym same) h)

pub in_took : (key key' : Key) (end : Took) (d d' : Dif) (o : Option ℕ) → key' ≡ key → ChangesOnly (IsTaker d o key) o d d' → ChangesOnly (MayTake (Ok (ins.Took key' end)) d o) o d d'
in_took key key' end d d' o same h = only_more (IsTaker d o key) (IsEndHere d o) o d d' (λ i taker. inl taker.end_of) h

-- the IPC process handled messages of management besides
pub in_handled : (done : InStep) (d mid d' : Dif) (at : ℕ) → ChangesOnly (MayTake (Ok done) d (Some at)) (Some at) d mid → d' ≡ record mid { processes = d'.processes; connections = record mid.connections { flows = d'.connections.flows }; managements = d'.managements; enrolled = d'.enrolled } → ChangesProcess (Some at) mid.processes d'.processes → ChangesOnly (MayTake (Ok done) d (Some at)) (Some at) d d'
in_handled done d mid d' at first whole then = (
  subst (λ (flows : Flows). ChangesAt (MayTake (Ok done) d (Some at)) d.flows flows) (sym (ap (λ (z : Dif). z.flows) whole)) first.0,
  (λ i other. then.0 i other ∙ first.1.0 i other, then.1 ∙ first.1.1),
)

-- What comes with time

pub clock_failed : (r : Result ClockStep StepError) (e : StepError) (d d' : Dif) (o : Option ℕ) → r ≡ Err e → ChangesOnly (λ i. ⊥) o d d' → ChangesOnly (MayClock r d o) o d d'
clock_failed r e d d' o is h = subst (λ (z : Result ClockStep StepError). ChangesOnly (MayClock z d o) o d d') (sym is) h

pub clock_noted : (r r' : Result ClockStep StepError) (d d' : Dif) (node at : ℕ) → home_of d node ≡ Some at → r' ≡ r → ChangesOnly (MayClock r d (Some at)) (Some at) d d' → ChangesOnly (MayClock r' d (home_of d node)) (home_of d node) d d'
clock_noted r r' d d' node at here same h =
    subst (λ (o : Option ℕ). ChangesOnly (MayClock r' d o) o d d') (sym here) (subst (λ (z : Result ClockStep StepError). ChangesOnly (MayClock z d (Some at)) (Some at) d d') (sym same) h)

pub none_changed : (o : Option ℕ) (d d' : Dif) → d' ≡ d → ChangesOnly (λ i. ⊥) o d d'
none_changed o d d' same = (flows_none (λ i. ⊥) d.flows d'.flows (ap (λ (z : Dif). z.flows) same), none_process o d.processes d'.processes (ap (λ (z : Dif). z.processes) same))

-- the end whose turn it is has that CEP-id
pub turn_of : (item : Item) (d : Dif) (lines : List Direction) (node i at cep : ℕ) → home_of d node ≡ Some i → IsTurn item d lines node at cep → IsOfCep d (Some i) cep at
turn_of item d lines node i at cep is turn =
    let here = turn.first.due.here in
    record {
      end_of = record { end = here.end; is_end = here.is_end; at_home = ap (home_of d) here.node_is ∙ is };
      ids = turn.first.ids;
      ids_are = turn.first.are_ids;
      cep_is = turn.first.cep_is;
    }

pub end_of_home : (d : Dif) (i at : ℕ) → IsHomeEnd d i at → IsEndOf d (Some i) at
end_of_home d i at here = record { end = here.end; is_end = here.is_end; at_home = here.at_home }

pub gives_up_of : (d : Dif) (lines : List Direction) (below : Seen) (i at : ℕ) (num : Num) (d' : Dif) → IsHomeEnd d i at → GivesUp d lines below at num d' → IsOfCep d (Some i) num.cep at
gives_up_of d lines below i at num d' here g = record { end_of = end_of_home d i at here; ids = g.given_up.ids; ids_are = g.given_up.ids_are; cep_is = g.cep }

pub again_of : (d : Dif) (lines : List Direction) (below : Seen) (i at : ℕ) (num : Num) (d' : Dif) → IsHomeEnd d i at → SendsAgain d lines below at num d' → IsOfCep d (Some i) num.cep at
again_of d lines below i at num d' here g = record { end_of = end_of_home d i at here; ids = g.resent.ids; ids_are = g.resent.is_home.is_conn.ids_are; cep_is = g.cep }

-- the step was at that end alone
pub clocked_alone : (d d' : Dif) (i cep place : ℕ) → IsOfCep d (Some i) cep place → ChangesOnly (λ k. k ≡ place) (Some i) d d' → ChangesOnly (IsOfCep d (Some i) cep) (Some i) d d'
clocked_alone d d' i cep place of h = only_more (λ k. k ≡ place) (IsOfCep d (Some i) cep) (Some i) d d' (λ k same. subst (IsOfCep d (Some i) cep) (sym same) of) h

-- an allocated end at a node is one of the IPC process there
pub allocated_of : {T E : Type 0} (r : Result T E) (d : Dif) (flows : Flows) (node i : ℕ) → home_of d node ≡ Some i → ChangesAt (λ k. WhenOk r (IsAllocatedAt d.flows.journal.ends node k)) d.flows flows → ChangesAt (λ k. WhenOk r (IsEndOf d (Some i) k)) d.flows flows
allocated_of r d flows node i is h =
    flows_more (λ k. WhenOk r (IsAllocatedAt d.flows.journal.ends node k)) (λ k. WhenOk r (IsEndOf d (Some i) k)) d.flows flows (λ k. when_more r (IsAllocatedAt d.flows.journal.ends node k) (IsEndOf d (Some i) k) (λ a. record { end = a.end; is_end = a.is_end; at_home = ap (home_of d) a.node_is ∙ is })) h

pub lost_alone : (d d' : Dif) (o : Option ℕ) (Ends : ℕ → Type 0) → ChangesProcess o d.processes d'.processes → d'.flows ≡ d.flows → ChangesOnly Ends o d d'
lost_alone d d' o Ends h same = (flows_none Ends d.flows d'.flows same, h)

-- What is passed

pub passed_port : (d d' : Dif) (port : Port) (at : ℕ) → place_in port d.flows.journal.ends ≡ Some at → ChangesAt (λ i. i ≡ at) d.flows d'.flows → d' ≡ record d { flows = d'.flows } → ChangesOnly (IsPortAt d port) None d d'
passed_port d d' port at place h whole = (flows_more (λ i. i ≡ at) (IsPortAt d port) d.flows d'.flows (λ i same. place ∙ ap (λ (k : ℕ). Some k) (sym same)) h, none_process None d.processes d'.processes (ap (λ (z : Dif). z.processes) whole))

-- What is freed

pub withdrawn_at : (d : Dif) (at : ℕ) (state : PortState) (ends : List End) (o : Option ℕ) → at < length d.flows.journal.ends → ((e : End) → slice_get d.flows.journal.ends at ≡ Some e → ends ≡ slice_set d.flows.journal.ends at (with_state e state)) → ChangesOnly (λ i. i ≡ at) o d (record d { flows = record d.flows { journal = record { ends = ends } } })
withdrawn_at d at state ends o lt set = ((by_change (λ (e : End). with_state e state) d.flows.journal.ends ends at lt set, λ i other. refl), none_process o d.processes d.processes refl)
