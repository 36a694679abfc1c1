-- A flow is given up: its far end is told first, and then it ends at this one.
use Rattle.std.proofs.Common.{◌≡◌, ◌∙◌, ℕ, ◌<◌, Bool, true, false, List, length, slice_get, Option, Some, None, Result, Ok, Err, arith, refl, sym, ap, subst, inr}
use Rattle.std.proofs.lemmas.Bool.{false≢true}
use Rattle.rina_base.specs.declared.memory.Memory.{Memory}
use Rattle.rina_base.specs.declared.number.Num.{Num}
use Rattle.rina_conn.specs.declared.conn.Conn.{Conn}
use Rattle.rina_conn.specs.declared.form.Peer.{Peer}
use Rattle.rina_iface.specs.declared.ends.End.{End}
use Rattle.rina_iface.specs.declared.state.PortState.{PortState}
use Rattle.rina_iface.specs.declared.state.PortState.TheVariants.{Allocated}
use Rattle.rina_iface.specs.Seen.{Seen}
use Rattle.rina_law.specs.Direction.{Direction}
use Rattle.rina_law.specs.Sender.{given_up}
use Rattle.rina_data.specs.Configs.{config_of}
use Rattle.rina_data.proofs.Finding.{there}
use Rattle.rina_flows.specs.declared.due.Item.TheVariants.{GiveUp}
use Rattle.rina_flows.specs.Tied.{outward}
use Rattle.rina_flows.specs.Timely.{DueIn, IsDue}
use Rattle.rina_member.specs.declared.management.Management.{Management}
use Rattle.rina_dif.specs.declared.dif.Dif.{Dif}
use Rattle.rina_dif.specs.Changing.{EndsFlow, without_flow_at}
use Rattle.rina_dif.specs.Elsewhere.{ChangesOnly, home_of}
use Rattle.rina_dif.specs.FlowEnds.{ClosesManaged, FailsManaged, FreesManaged, GivesFlowUp, ManagesFree, ManagesGiveUp, TellsFar, delete_of}
use Rattle.rina_dif.specs.Freeing.{FreesHere}
use Rattle.rina_dif.specs.Holding.{Holds}
use Rattle.rina_dif.specs.Posting.{posts}
use Rattle.rina_dif.specs.Timely.{GivesUpAs, IsHomeEnd}
use Rattle.rina_dif.specs.Whole.{IsDif}
use Rattle.rina_dif.proofs.Showing.{managing}

-- a DIF stands on where a message waits at one of its members
pub told_dif : (d d1 : Dif) → IsDif d → ((lines : List Direction) (below : Seen) → Holds d lines below → Holds d1 lines below) → d1.clock ≡ d.clock → IsDif d1
told_dif d d1 is holds clock = (let le = is.clock in record { below = is.below; stands = (is.stands.0, holds is.stands.0 is.below is.stands.1); clock = omega (arith, le, clock) })

pub conns_within : (d : Dif) (at : ℕ) → IsDif d → at < length d.flows.journal.ends → at < length d.flows.conns
conns_within d at is lt = (let same = is.stands.1.tied.alike in omega (arith, lt, same))

-- its ends are the same
pub told_ends : (d d1 : Dif) (at node : ℕ) (ms : List Management) → d1 ≡ managing d ms → ((e : End) → slice_get d.flows.journal.ends at ≡ Some e → (e.state ≡ Allocated) × (e.port.node ≡ node)) → (e : End) → slice_get d1.flows.journal.ends at ≡ Some e → (e.state ≡ Allocated) × (e.port.node ≡ node)
told_ends d d1 at node ms is ends e at_e = ends e (ap (λ (z : Dif). slice_get z.flows.journal.ends at) (sym is) ∙ at_e)

-- so what changes after that changes on the whole
pub told_leaves : (d d1 d' : Dif) (Ends : ℕ → Type 0) (node : ℕ) (ms : List Management) → d1 ≡ managing d ms → ChangesOnly Ends (home_of d1 node) d1 d' → ChangesOnly Ends (home_of d node) d d'
told_leaves d d1 d' Ends node ms is leaves = subst (λ (z : Dif). ChangesOnly Ends (home_of z node) z d') is leaves

pub told_leaves_at : (d d1 d' : Dif) (Ends : ℕ → Type 0) (o : Option ℕ) (ms : List Management) → d1 ≡ managing d ms → ChangesOnly Ends o d1 d' → ChangesOnly Ends o d d'
told_leaves_at d d1 d' Ends o ms is leaves = subst (λ (z : Dif). ChangesOnly Ends o z d') is leaves

pub told_within : (d d1 : Dif) (at : ℕ) (ms : List Management) → d1 ≡ managing d ms → at < length d.flows.journal.ends → at < length d1.flows.journal.ends
told_within d d1 at ms is lt = subst (λ (z : Dif). at < length z.flows.journal.ends) (sym is) lt

pub told_home : (d d1 : Dif) (i at : ℕ) (ms : List Management) → d1 ≡ managing d ms → IsHomeEnd d i at → IsHomeEnd d1 i at
told_home d d1 i at ms is here = subst (λ (z : Dif). IsHomeEnd z i at) (sym is) (record { end = here.end; is_end = here.is_end; allocated = here.allocated; at_home = here.at_home })

-- The far end is told

module _ (d : Dif) (i at : ℕ) (peer : Peer) (within : at < length d.flows.conns) (its : (k : Conn) → slice_get d.flows.conns at ≡ Some k → peer ≡ k.sending.form.peer) where
  tells_far : (new : List Management) → new ≡ posts d i (delete_of peer) d.managements → TellsFar d i at new
  tells_far new is = (let k = there d.flows.conns at within in record { conn = k.0; is_conn = k.1; are = is ∙ ap (λ (p : Peer). posts d i (delete_of p) d.managements) (its k.0 k.1) })

  -- and then the object of the flow is deleted
  gives_up_told : (d1 : Dif) (new : List Management) → d1 ≡ managing d (posts d i (delete_of peer) d.managements) → EndsFlow d1 i at new → GivesFlowUp d i at new
  gives_up_told d1 new is ends =
      let k = there d.flows.conns at within in
      let e = subst (λ (z : Dif). EndsFlow z i at new) is ends in
      record { conn = k.0; is_conn = k.1; are = e k.0 k.1 ∙ ap (λ (p : Peer). without_flow_at i k.0.sending.form.peer.scep (posts d i (delete_of p) d.managements)) (its k.0 k.1) }

-- An end is freed

pub freed_told : (d d1 : Dif) (ms : List Management) (lines : List Direction) (below : Seen) (at : ℕ) (r : Result (Unit {0}) Memory) (d' : Dif) → d1 ≡ managing d ms → FreesHere d1 lines below at r d' → FreesHere d lines below at r d'
freed_told d d1 ms lines below at r d' is f = go r (subst (λ (z : Dif). FreesHere z lines below at r d') is f)
  where
    go : (r : Result (Unit {0}) Memory) → FreesHere (managing d ms) lines below at r d' → FreesHere d lines below at r d'
    go (Ok done) f = record { end = f.end; is_end = f.is_end; frees = f.frees; holds = f.holds }
    go (Err e) f = record { same = f.same; holds = f.holds }

pub freed_managed : (d d1 : Dif) (i at node : ℕ) (peer : Peer) (r : Result (Unit {0}) Memory) (new : List Management) → IsDif d → at < length d.flows.journal.ends → ((e : End) → slice_get d.flows.journal.ends at ≡ Some e → (e.state ≡ Allocated) × (e.port.node ≡ node)) → home_of d node ≡ Some i → ((k : Conn) → slice_get d.flows.conns at ≡ Some k → peer ≡ k.sending.form.peer)
    → d1 ≡ managing d (posts d i (delete_of peer) d.managements) → ClosesManaged r d1 node at new → FreesManaged (Some at) r d new
freed_managed d d1 i at node peer r new valid lt ends here its is closes =
    let e = there d.flows.journal.ends at lt in
    let end = ends e.0 e.1 in
    let within = conns_within d at valid lt in
    let home : home_of d e.0.port.node ≡ Some i = ap (home_of d) end.1 ∙ here in
    go e.0 e.1 end.0 within home r closes
  where
    same_place : (o : Option ℕ) (j : ℕ) → o ≡ Some i → o ≡ Some j → j ≡ i
    same_place o j a b = cc

    go : (e : End) → slice_get d.flows.journal.ends at ≡ Some e → e.state ≡ Allocated → at < length d.flows.conns → home_of d e.port.node ≡ Some i → (r : Result (Unit {0}) Memory) → ClosesManaged r d1 node at new → FreesManaged (Some at) r d new
    go e at_e allocated within home (Ok done) c =
        let place : c.0 ≡ i = same_place (home_of d node) c.0 here (ap (λ (z : Dif). home_of z node) (sym is) ∙ c.1) in
        let gives = gives_up_told d i at peer within its d1 new is (subst (λ (j : ℕ). EndsFlow d1 j at new) place c.2) in
        (e, at_e, subst (λ (s : PortState). ManagesFree s d at e new) (sym allocated) (i, home, gives))
    go e at_e allocated within home (Err why) c =
        inr (record { end = e; is_end = at_e; allocated = allocated; i = i; at_home = home; tells = tells_far d i at peer within its new (c ∙ ap (λ (z : Dif). z.managements) is) })

-- A number is given up

-- one is due
pub give_up_told : (d : Dif) (i at : ℕ) (told : Bool) → IsHomeEnd d i at → DueIn GiveUp d.clock at d.flows told → told ≡ true → (lines : List Direction) (below : Seen) → Holds d lines below → IsDue GiveUp (config_of d.settings) d.clock d.flows lines at
give_up_told d i at told here due is lines below h = (due (config_of d.settings) lines here.end h.standing.journal h.tied here.is_end here.allocated).0 is

none_some : {X : Type 0} (o : Option X) → ((x : X) → o ≡ Some x → ⊥) → o ≡ None
none_some None never = refl
none_some (Some x) never = absurd (never x refl)

-- or none is
pub none_given : (d : Dif) (i at : ℕ) (told : Bool) → IsHomeEnd d i at → DueIn GiveUp d.clock at d.flows told → told ≡ false → (lines : List Direction) (below : Seen) → Holds d lines below → GivesUpAs d lines below at (Ok None) d
none_given d i at told here due is lines below h = (
  λ conn line is_conn is_line. none_some (given_up (outward (config_of d.settings) conn) line.line.clock line.line.sender) (λ number n. false≢true (sym is ∙ (due (config_of d.settings) lines here.end h.standing.journal h.tied here.is_end here.allocated).1 (record { conn = conn; is_conn = is_conn; line = line; is_line = is_line; number = number; is_due = n }))),
  refl,
)

some_none : {X : Type 0} (o : Option X) (x : X) → o ≡ Some x → o ≡ None → ⊥
some_none o x e f = absurd cc

pub fails_told : (d d1 : Dif) (ms : List Management) (lines : List Direction) (below : Seen) (at : ℕ) (r : Result (Option Num) Memory) (d' : Dif) → d1 ≡ managing d ms → IsDue GiveUp (config_of d.settings) d.clock d.flows lines at → GivesUpAs d1 lines below at r d' → GivesUpAs d lines below at r d'
fails_told d d1 ms lines below at r d' is due f = go r (subst (λ (z : Dif). GivesUpAs z lines below at r d') is f)
  where
    go : (r : Result (Option Num) Memory) → GivesUpAs (managing d ms) lines below at r d' → GivesUpAs d lines below at r d'
    go (Ok (Some num)) f = record { given_up = f.given_up; cep = f.cep; holds = f.holds }
    go (Ok None) f = absurd (some_none (given_up (outward (config_of d.settings) due.conn) due.line.line.clock due.line.line.sender) due.number due.is_due (f.0 due.conn due.line due.is_conn due.is_line))
    go (Err e) f = f

pub fails_managed : (d d1 : Dif) (lines : List Direction) (below : Seen) (i at : ℕ) (peer : Peer) (r : Result (Option Num) Memory) (new : List Management) (d' : Dif) → at < length d.flows.conns → ((k : Conn) → slice_get d.flows.conns at ≡ Some k → peer ≡ k.sending.form.peer) → d1 ≡ managing d (posts d i (delete_of peer) d.managements)
    → IsDue GiveUp (config_of d.settings) d.clock d.flows lines at → GivesUpAs d lines below at r d' → FailsManaged r d1 i at new → ManagesGiveUp r d i at new
fails_managed d d1 lines below i at peer (Ok (Some num)) new d' within its is due f c = gives_up_told d i at peer within its d1 new is c
fails_managed d d1 lines below i at peer (Ok None) new d' within its is due f c = absurd (some_none (given_up (outward (config_of d.settings) due.conn) due.line.line.clock due.line.line.sender) due.number due.is_due (f.0 due.conn due.line due.is_conn due.is_line))
fails_managed d d1 lines below i at peer (Err e) new d' within its is due f c = inr (tells_far d i at peer within its new (c ∙ ap (λ (z : Dif). z.managements) is))
