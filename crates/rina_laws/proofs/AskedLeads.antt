-- The connection of an end leads to the member that it led to, whatever a DIF does.
use Rattle.std.proofs.Common.{◌≡◌, ◌∙◌, ℕ, List, [], ◌∷◌, length, None, Result, Ok, sym, ap, subst, inl, inr}
use Rattle.rina_base.specs.declared.memory.Memory.{Memory}
use Rattle.rina_base.specs.declared.number.Port.{Port}
use Rattle.rina_alloc.specs.declared.message.FlowMessage.{FlowMessage}
use Rattle.rina_iface.specs.declared.ask.Ask.{Ask}
use Rattle.rina_iface.specs.Seen.{Seen}
use Rattle.rina_law.specs.Direction.{Direction}
use Rattle.rina_dif_law.specs.Ids.{Ids}
use Rattle.rina_dif.specs.declared.dif.Dif.{Dif}
use Rattle.rina_dif.specs.Allocating.{allocate_refusal}
use Rattle.rina_dif.specs.FlowMessages.{HandlesFlows}
use Rattle.rina_dif.specs.Holding.{Holds}
use Rattle.rina_dif.specs.Requesting.{AsksAt, Requests}
use Rattle.rina_dif.specs.Whole.{IsDif}
use Rattle.rina_asked.specs.Calls.{CdapKeeps, ClockKeeps, EnrolKeeps, FreeKeeps, InKeeps, IncomingKeeps, OutKeeps, PassKeeps, SendKeeps, TimeKeeps, UnregisterKeeps}
use Rattle.rina_asked.proofs.Allocates as asked
use Rattle.rina_asked.proofs.Askers.{KeepAskers}
use Rattle.rina_asked.proofs.Calls as calls
use Rattle.rina_asked.proofs.Clocks as clocks
use Rattle.rina_asked.proofs.Enrols as enrols
use Rattle.rina_asked.proofs.Flows.{flow_askers}
use Rattle.rina_asked.proofs.Ins as ins
use Rattle.rina_asked.proofs.Quiet.{Lasts}
use Rattle.rina_laws.specs.Known.{LeadsOn}

pub leads_on : (d d' : Dif) (i address : ℕ) → KeepAskers d d' → LeadsOn i address d → LeadsOn i address d'
leads_on d d' i address keeps h = (let on = keeps i h.end h.conn h.is_at in record { end = on.end; conn = on.conn; is_at = on.is_at; far = on.names.far ∙ h.far })

-- that of an end that is made for an ask leads to the member that was found
pub new_leads : (d d' : Dif) (ask : Ask) (port : Port) (is : IsDif d) (lines : List Direction) (below : Seen) (h : Holds d lines below) (a : AsksAt d lines below ask port d') (r : Requests d ask port d') (free : allocate_refusal d ask ≡ None) → LeadsOn (length d.flows.journal.ends) a.peer d'
new_leads d d' ask port is lines below h a r free =
    let conn = asked.conn d d' ask port is lines below h a r free in
    record {
      end = asked.end d d' ask port is lines below h a r free;
      conn = conn.0;
      is_at = record { end_is = asked.end_there d d' ask port is lines below h a r free; conn_is = conn.1 };
      far = ap (λ (z : Ids). z.far) conn.2;
    }

module _ (i address : ℕ) where
  abbrev P : Dif → Type 0
  P = LeadsOn i address

  last : Lasts P
  last d d' q = leads_on d d' i address q.askers

  pub flows_lead : (d : Dif) (lines : List Direction) (below : Seen) (place : ℕ) (ms : List FlowMessage) (r : Result (Unit {0}) Memory) (d' : Dif) (lines' : List Direction) → HandlesFlows d lines below place ms r d' lines' → P d → P d'
  flows_lead d lines below place [] r d' lines' f h = subst P (sym f.1) h
  flows_lead d lines below place (m ∷ ms) r d' lines' (inl stops) h = leads_on d d' i address (flow_askers d lines below place m r d' lines' stops.1) h
  flows_lead d lines below place (m ∷ ms) r d' lines' (inr f) h = flows_lead f.0 f.1 below place ms r d' lines' f.4 (leads_on d f.0 i address (flow_askers d lines below place m (Ok tt) f.0 f.1 f.2) h)

  walks : ins.Walks P
  walks d handled end lines' lines below place ms keeps balanced b stood lt walk h = flows_lead handled lines below place ms (Ok tt) end lines' walk (leads_on d handled i address keeps h)

  pub incoming_leads : IncomingKeeps P
  incoming_leads = calls.incoming_keeps P last

  pub send_leads : SendKeeps P
  send_leads = calls.send_keeps P last

  pub pass_leads : PassKeeps P
  pass_leads = calls.pass_keeps P last

  pub free_leads : FreeKeeps P
  free_leads = calls.free_keeps P last

  pub unregister_leads : UnregisterKeeps P
  unregister_leads = calls.unregister_keeps P last

  pub cdap_leads : CdapKeeps P
  cdap_leads = calls.cdap_keeps P last

  pub enrol_leads : EnrolKeeps P
  enrol_leads = enrols.enrol_keeps P last

  pub in_leads : InKeeps P
  in_leads = ins.in_keeps P last walks

  pub out_leads : OutKeeps P
  out_leads = calls.out_keeps P last

  pub clock_leads : ClockKeeps P
  clock_leads = clocks.clock_keeps P last

  pub time_leads : TimeKeeps P
  time_leads = calls.time_keeps P last
