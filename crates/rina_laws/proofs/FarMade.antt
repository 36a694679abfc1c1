-- A far end that comes as an SDU comes is made at the member to which the connection of the asker's end leads.
use Rattle.std.proofs.Common.{◌≡◌, ◌∙◌, ◌⊎◌, ℕ, List, [], ◌∷◌, slice_get, Option, Some, None, option_and_then, option_map, Result, Ok, sym, ap, subst, inl, inr}
use Rattle.rina_base.specs.declared.memory.Memory.{Memory}
use Rattle.rina_alloc.specs.declared.message.FlowMessage.{FlowMessage}
use Rattle.rina_data.specs.declared.settings.Member.{Member}
use Rattle.rina_data.specs.declared.settings.Settings.{Settings}
use Rattle.rina_data.specs.declared.step.InStep.{InStep}
use Rattle.rina_data.specs.declared.step.StepError.{StepError}
use Rattle.rina_data.specs.Configs.{config_of, member_of}
use Rattle.rina_iface.specs.declared.ends.End.{End}
use Rattle.rina_iface.specs.declared.state.PortState.TheVariants.{Closed}
use Rattle.rina_iface.specs.declared.state.Role.TheVariants.{Asker}
use Rattle.rina_iface.specs.Journal.{At}
use Rattle.rina_iface.specs.Seen.{Seen}
use Rattle.rina_iface.proofs.Grown.{pushed_at}
use Rattle.rina_law.specs.Direction.{Direction}
use Rattle.rina_dif_law.specs.Answering.{far_end_of}
use Rattle.rina_dif_law.specs.Dif.{DifSeen}
use Rattle.rina_dif_law.specs.Ids.{Ids}
use Rattle.rina_dif_law.specs.Sending.{home}
use Rattle.rina_dif_law.proofs.Own.{map_at}
use Rattle.rina_flows.specs.Tied.{ids_of}
use Rattle.rina_dif.specs.declared.dif.Dif.{Dif}
use Rattle.rina_dif.specs.FlowMessages.{HandlesFlow, HandlesFlows, MakesFarHere}
use Rattle.rina_dif.specs.Shown.{seen_of}
use Rattle.rina_dif.specs.Steps.{AtHome}
use Rattle.rina_dif.specs.Taking.{TakesHome, TellsFlows, TellsNothing}
use Rattle.rina_asked.proofs.Flows.{flow_askers}
use Rattle.rina_known.specs.Calls.{address_at}
use Rattle.rina_laws.specs.Known.{LeadsOn}
use Rattle.rina_laws.specs.Named.{IsOneEnd}
use Rattle.rina_laws.proofs.AskedEnds.{flow_back}
use Rattle.rina_laws.proofs.AskedLeads.{flows_lead, leads_on}
use Rattle.rina_laws.proofs.NamedAsks.{answered, at_ends, dif_same, ended, rerouted_ends, row_same, turned}
use Rattle.rina_laws.proofs.NamedEnds.{HasEnd, one_refl}

-- a far end was made: the asker's end of its flow stood at a place before, for its application, and the connection of that leads to the member at its node
pub record MadeFar (d d' : Dif) (e : End) : Type 0 where
  pub place : ℕ
  pub asker : End
  pub stood : HasEnd asker place d
  pub asks : asker.role ≡ Asker
  pub flow : e.flow ≡ asker.flow
  pub app : e.app ≡ asker.peer
  pub address : ℕ
  pub leads : LeadsOn place address d'
  pub member : address_at d' e.port.node ≡ Some address

-- the address of the member at a node, by the settings
abbrev address_by : Settings → ℕ → Option ℕ
address_by s node = option_map (λ (m : Member). m.addr) (option_and_then (slice_get s.members) (home node (config_of s).members))

same_address : (d d' : Dif) (node : ℕ) → d'.settings ≡ d.settings → address_at d' node ≡ address_at d node
same_address d d' node same = ap (λ (s : Settings). address_by s node) same

-- by one message
made_one : (d : Dif) (lines : List Direction) (below : Seen) (i : ℕ) (m : FlowMessage) (r : Result (Unit {0}) Memory) (d' : Dif) (lines' : List Direction) (e : End) → HandlesFlow d lines below i m r d' lines' → (made : MakesFarHere (seen_of d) lines i (seen_of d') lines') → IsOneEnd (far_end_of (seen_of d) made.node made.makes.asker) e → MadeFar d d' e
made_one d lines below i m r d' lines' e f made same =
    let makes = made.makes in
    let conn = map_at ids_of d.flows.conns made.asker_at makes.ids makes.is_conn.ids_are in
    let before : LeadsOn made.asker_at makes.ids.far d = record { end = makes.asker; conn = conn.0; is_at = record { end_is = makes.is_conn.end; conn_is = conn.1 }; far = ap (λ (z : Ids). z.far) (sym conn.2) } in
    let home_is : home made.node (config_of d.settings).members ≡ Some makes.place = makes.at_home in
    let member = map_at member_of d.settings.members makes.place makes.member makes.stands in
    let its : member.0.addr ≡ makes.ids.far = ap (λ z. z.addr) (sym member.2) ∙ makes.asked in
    let address : address_at d made.node ≡ Some makes.ids.far =
    ap (λ (o : Option ℕ). option_map (λ (z : Member). z.addr) (option_and_then (slice_get d.settings.members) o)) home_is ∙ ap (option_map (λ (z : Member). z.addr)) member.1 ∙ ap (λ (a : ℕ). Some a) its in
    record {
      place = made.asker_at;
      asker = makes.asker;
      stood = record { end = makes.asker; stands = makes.is_conn.end; same = one_refl makes.asker };
      asks = makes.asks;
      flow = same.flow;
      app = same.app;
      address = makes.ids.far;
      leads = leads_on d d' made.asker_at makes.ids.far (flow_askers d lines below i m r d' lines' f) before;
      member = ap (λ p. address_at d' p.node) same.port ∙ same_address d d' made.node (ap (λ (z : Dif). z.settings) f.rest) ∙ address;
    }

flow_far : (d : Dif) (lines : List Direction) (below : Seen) (place : ℕ) (m : FlowMessage) (r : Result (Unit {0}) Memory) (d' : Dif) (lines' : List Direction) → (e : End) (i : ℕ) → HandlesFlow d lines below place m r d' lines' → HasEnd e i d' → HasEnd e i d ⊎ MadeFar d d' e
flow_far d lines below place m r d' lines' e i f h = elim (f.flow) [
  | inl same ↦ inl (row_same e i (seen_of d) (seen_of d') same.0 h)
  | inr other ↦ elim other [
    | inl made ↦ elim (pushed_at d.flows.journal.ends (far_end_of (seen_of d) made.node made.makes.asker) i h.end (subst (λ (es : List End). At es i h.end) (ap (λ (z : DifSeen). z.ends) made.makes.new_is) h.stands)) [
      | inl o ↦ inl (record { end = h.end; stands = o; same = h.same })
      | inr t ↦ inr (made_one d lines below place m r d' lines' e f made (subst (λ (z : End). IsOneEnd z e) t.1 h.same))
    ]
    | inr others ↦ elim others [
      | inl b ↦ inl (answered e i (seen_of d) b.place (seen_of d') b.answered h)
      | inr more ↦ elim more [
        | inl t ↦ inl (turned e i (seen_of d) t.place t.state (seen_of d') t.turned h)
        | inr c ↦ inl (ended e i (seen_of d) lines c.place Closed (seen_of d') c.ended h)
      ]
    ]
  ]
]

-- by several
flows_set : (d : Dif) (lines : List Direction) (below : Seen) (place : ℕ) (ms : List FlowMessage) (r : Result (Unit {0}) Memory) (d' : Dif) (lines' : List Direction) → HandlesFlows d lines below place ms r d' lines' → d'.settings ≡ d.settings
flows_set d lines below place [] r d' lines' f = ap (λ (z : Dif). z.settings) f.1
flows_set d lines below place (m ∷ ms) r d' lines' (inl stops) = ap (λ (z : Dif). z.settings) stops.1.rest
flows_set d lines below place (m ∷ ms) r d' lines' (inr f) = flows_set f.0 f.1 below place ms r d' lines' f.4 ∙ ap (λ (z : Dif). z.settings) f.2.rest

flows_far : (d : Dif) (lines : List Direction) (below : Seen) (place : ℕ) (ms : List FlowMessage) (r : Result (Unit {0}) Memory) (d' : Dif) (lines' : List Direction) → (e : End) (i : ℕ) → HandlesFlows d lines below place ms r d' lines' → HasEnd e i d' → HasEnd e i d ⊎ MadeFar d d' e
flows_far d lines below place [] r d' lines' e i f h = inl (dif_same e i d d' f.1 h)
flows_far d lines below place (m ∷ ms) r d' lines' e i (inl stops) h = flow_far d lines below place m r d' lines' e i stops.1 h
flows_far d lines below place (m ∷ ms) r d' lines' e i (inr f) h = elim (flows_far f.0 f.1 below place ms r d' lines' e i f.4 h) [
  | inl old ↦ elim (flow_far d lines below place m (Ok tt) f.0 f.1 e i f.2 old) [
    | inl older ↦ inl older
    | inr made ↦ inr (record {
      place = made.place;
      asker = made.asker;
      stood = made.stood;
      asks = made.asks;
      flow = made.flow;
      app = made.app;
      address = made.address;
      leads = flows_lead made.place made.address f.0 f.1 below place ms r d' lines' f.4 made.leads;
      member = same_address f.0 d' e.port.node (flows_set f.0 f.1 below place ms r d' lines' f.4) ∙ made.member;
    })
  ]
  | inr made ↦ inr (record {
    place = made.place;
    asker = made.asker;
    stood = flow_back (seen_of d) lines place (seen_of f.0) f.1 made.asker made.place made.asks f.2.flow made.stood;
    asks = made.asks;
    flow = made.flow;
    app = made.app;
    address = made.address;
    leads = made.leads;
    member = made.member;
  })
]

-- as an SDU comes
module _ (d : Dif) (lines : List Direction) (below : Seen) (node number : ℕ) (result : Result InStep StepError) (d' : Dif) (below' : Seen) (s : TakesHome d lines below node number result d' below') (e : End) (i : ℕ) where
  before : (x : End) (k : ℕ) → HasEnd x k s.handled → HasEnd x k d
  before x k h = at_ends x k (seen_of d) lines below node number s.answer (seen_of s.taken) s.between below' s.does (rerouted_ends x k (seen_of s.taken) (seen_of s.handled) s.rerouted h)

  told_far : (o : Option ℕ) → AtHome o (λ k. TellsFlows d below k number s.answer s.handled s.between below' result d' s.lines') (TellsNothing s.answer s.handled s.between result d' s.lines') → HasEnd e i (record d' { failed = s.handled.failed }) → HasEnd e i s.handled ⊎ MadeFar s.handled (record d' { failed = s.handled.failed }) e
  told_far None none h = inl (dif_same e i s.handled (record d' { failed = s.handled.failed }) none.1 h)
  told_far (Some place) told h = flows_far s.handled s.between below' place told.messages told.stopped (record d' { failed = s.handled.failed }) s.lines' e i told.handles h

  pub taken_far : HasEnd e i d' → HasEnd e i d ⊎ MadeFar d d' e
  taken_far h = elim (told_far (home node (config_of d.settings).members) s.told h) [
    | inl old ↦ inl (before e i old)
    | inr made ↦ inr (record {
      place = made.place;
      asker = made.asker;
      stood = before made.asker made.place made.stood;
      asks = made.asks;
      flow = made.flow;
      app = made.app;
      address = made.address;
      leads = record { end = made.leads.end; conn = made.leads.conn; is_at = made.leads.is_at; far = made.leads.far };
      member = made.member;
    })
  ]
