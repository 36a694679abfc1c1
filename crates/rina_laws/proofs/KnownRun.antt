-- Whom a member of a DIF finds in its directory was registered by a line of the schedule, and so was the application for which a flow is asked.
use Rattle.std.proofs.Common.{◌≡◌, ◌∙◌, ◌⊎◌, ℕ, ◌+◌, ◌≤◌, true, false, List, [], ◌∷◌, ◌++◌, slice_get, Option, Some, None, option_and_then, option_map, ◌-◌, ◌^◌, Result, Ok, Err, is_some, refl, sym, ap, subst, arith, inl, inr, ⊎_elim}
use Rattle.std.specs.Prelude.{◌==◌}
use Rattle.std.proofs.lemmas.Bool.Decides.{eqb_tells}
use Rattle.std.proofs.lemmas.Option.{none-some, same_Some}
use Rattle.std.specs.Fmt.{decimal}
use Rattle.rina_base.specs.declared.number.FlowName.{FlowName}
use Rattle.rina_base.specs.declared.number.Port.{Port}
use Rattle.rina_base.specs.Decimals.{number_of}
use Rattle.rina_base.specs.Names.{app_at, slash_in}
use Rattle.rina_base.proofs.Decimals.{decimal_back}
use Rattle.rina_newest.specs.declared.item.Item.{Item}
use Rattle.rina_dir.specs.Directory.{key_of}
use Rattle.rina_iface.specs.declared.ask.Ask.{Ask}
use Rattle.rina_iface.specs.declared.ends.End.{End}
use Rattle.rina_iface.specs.declared.error.AllocateError.{AllocateError}
use Rattle.rina_iface.specs.declared.error.AllocateError.TheVariants as allocate
use Rattle.rina_iface.specs.declared.error.RegisterError.{RegisterError}
use Rattle.rina_iface.specs.declared.error.RegisterError.TheVariants as register
use Rattle.rina_iface.specs.declared.error.FreeError.TheVariants as free
use Rattle.rina_iface.specs.declared.error.SendError.TheVariants as send
use Rattle.rina_iface.specs.declared.error.UnregisterError.TheVariants as unregister
use Rattle.rina_data.specs.declared.step.StepError.TheVariants as step
use Rattle.rina_dif.specs.declared.enrol.EnrolError.TheVariants as enrol
use Rattle.rina_iface.specs.declared.state.Role.TheVariants.{Asker, Far}
use Rattle.rina_iface.specs.Journal.{At}
use Rattle.rina_iface.specs.Seen.{Seen}
use Rattle.rina_iface.proofs.Grown.{pushed_at}
use Rattle.rina_law.specs.Direction.{Direction}
use Rattle.rina_policy.specs.Slots.{Slot}
use Rattle.rina_report.specs.declared.note.Note.{Note}
use Rattle.rina_route.proofs.Lists.{in_none}
use Rattle.rina_stack.specs.declared.plan.Plan.{Plan}
use Rattle.rina_flood.proofs.All.{found_key}
use Rattle.rina_flood.proofs.Raise.{found_in}
use Rattle.rina_data.specs.declared.settings.Member.{Member}
use Rattle.rina_data.specs.declared.settings.Settings.{Settings}
use Rattle.rina_data.specs.Configs.{config_of}
use Rattle.rina_conn.specs.declared.conn.Conn.{Conn}
use Rattle.rina_dif_law.specs.Asking.{end_asked}
use Rattle.rina_dif_law.specs.Dif.{DifSeen}
use Rattle.rina_dif_law.specs.Sending.{home}
use Rattle.rina_dif.specs.declared.dif.Dif.{Dif}
use Rattle.rina_dif.specs.Holding.{Holds}
use Rattle.rina_dif.specs.Allocating.{allocate_refusal}
use Rattle.rina_dif.specs.Facade.{GoesOn}
use Rattle.rina_dif.specs.Requesting.{AsksAt, AsksTo, KnowsAt, Requests, RequestsAs}
use Rattle.rina_dif.specs.Shown.{seen_of}
use Rattle.rina_dif.specs.Whole.{IsDif}
use Rattle.rina_tower.specs.declared.tower.Tower.{Tower, Wires, Rank'}
use Rattle.rina_tower.specs.Bystanders.{is_ipc}
use Rattle.rina_tower.specs.Ledgers.{dif_at}
use Rattle.rina_tower.specs.Ranks.{height_of}
use Rattle.rina_tower.specs.Stands.{IsTower}
use Rattle.rina_tower.proofs.Serving.{rank_difs}
use Rattle.rina_words.specs.Step.{Stage}
use Rattle.rina_run.specs.Opening.{IsOpening}
use Rattle.rina_run.specs.Run.{Runs}
use Rattle.rina_asked.specs.Calls.{AllocateKeeps, Stays}
use Rattle.rina_asked.proofs.Allocates.{ends_keep, none_refused}
use Rattle.rina_asked.proofs.Askers.{askers_go_on, askers_same, names_seen}
use Rattle.rina_asked.proofs.Keeps.{alive, stays}
use Rattle.rina_known.specs.Calls.{address_at}
use Rattle.rina_known.specs.Entries.{AllAre, IsKnown}
use Rattle.rina_known.proofs.Agents.{OwnAre}
use Rattle.rina_known.proofs.Calls as items
use Rattle.rina_known.proofs.Clocks.{clock_keeps}
use Rattle.rina_known.proofs.Comes.{in_keeps}
use Rattle.rina_known.proofs.Finds.{is_found}
use Rattle.rina_known.proofs.Keeping.{own_known, stays_known}
use Rattle.rina_known.proofs.Names.{address_fits, none_known, register_all, unregister_keeps}
use Rattle.rina_known.proofs.Past.{kept_past}
use Rattle.rina_known.proofs.Plain.{plain_key}
use Rattle.rina_laws.specs.Known.{AskedAreRegistered, EntriesAreRegistered, FarAreRegistered, HasEntry, IsExplained, KnownAreRegistered, LeadsOn, NoAsker, WasRegistered, member_address}
use Rattle.rina_laws.specs.Messages.{WhileAlive}
use Rattle.rina_laws.specs.Named.{IsOneEnd, IsRegistration, end_at}
use Rattle.rina_laws.proofs.AskedEnds as ends
use Rattle.rina_laws.proofs.AskedLeads.{cdap_leads, clock_leads, enrol_leads, free_leads, in_leads, incoming_leads, leads_on, new_leads, out_leads, pass_leads, send_leads, time_leads, unregister_leads}
use Rattle.rina_laws.proofs.AskedEnds.{NoneAsks, NoneMade, none_asks, none_by_flows, none_by_seen}
use Rattle.rina_laws.proofs.KeptDifs.{EachHas, InSetKeeps, IsKept, Registering}
use Rattle.rina_laws.proofs.KeptRun.{LinesKeep, runs}
use Rattle.rina_laws.proofs.KeptSteps.{Sure}
use Rattle.rina_laws.proofs.KeptWords.{IsOpen}
use Rattle.rina_laws.proofs.NamedComes.{low_dif, no_dif, own_dif}
use Rattle.rina_laws.proofs.FarMade.{MadeFar, taken_far}
use Rattle.rina_laws.proofs.MemberAddress.{one_node}
use Rattle.rina_laws.proofs.NamedEnds.{one_on, one_refl}
use Rattle.rina_laws.proofs.NamedRun.{registration}
use Rattle.rina_laws.proofs.WiresNamed.{later_line}

-- ---- the DIF of a place at a rank

not_above : (r h : ℕ) → r ≤ h → (r ≡ h + 1 → ⊥)
not_above r h le is = omega (arith, le, is)

-- a rank that has a DIF is one of the tower
within : (t : Tower) (r n : ℕ) (d : Dif) → dif_at t r n ≡ Some d → r ≤ height_of t
within (Wires a) r n d h = absurd (no_dif a r n d h)
within (Rank' p difs below) r n d h = elim (eqb_tells r (height_of below + 1)) [
  | inl e ↦ (let is = e.1 in omega (arith, is))
  | inr f ↦ (let le = within below r n d (sym (low_dif p difs below r n f.0) ∙ h) in omega (arith, le))
]

-- it has what each DIF has
has_at : (P : ℕ → ℕ → Dif → Type 0) (t : Tower) (r n : ℕ) (d : Dif) → EachHas P t → dif_at t r n ≡ Some d → WhileAlive (P r n) d
has_at P (Wires a) r n d e h = absurd (no_dif a r n d h)
has_at P (Rank' p difs below) r n d e h = elim (eqb_tells r (height_of below + 1)) [
  | inl t ↦ subst (λ (k : ℕ). WhileAlive (P k n) d) (sym t.1) (e.0 n d (sym (own_dif p difs below r n t.0) ∙ h))
  | inr f ↦ has_at P below r n d e.1 (sym (low_dif p difs below r n f.0) ∙ h)
]

-- and each has what is said of the DIFs of all places
each_at : (P : ℕ → ℕ → Dif → Type 0) (t : Tower) → ((r n : ℕ) (d : Dif) → dif_at t r n ≡ Some d → P r n d) → EachHas P t
each_at P (Wires a) all = tt
each_at P (Rank' p difs below) all = (
  λ n d at alive. all (height_of below + 1) n d (own_dif p difs below (height_of below + 1) n (same_rank (height_of below + 1)) ∙ at),
  each_at P below (λ r n d at. all r n d (low_dif p difs below r n (other_rank r (height_of below) (within below r n d at)) ∙ at)),
)
  where
    same_rank : (r : ℕ) → (r == r) ≡ true
    same_rank r = elim (eqb_tells r r) [ inl t ↦ t.0 | inr f ↦ absurd (f.1 refl) ]

    other_rank : (r h : ℕ) → r ≤ h → (r == h + 1) ≡ false
    other_rank r h le = elim (eqb_tells r (h + 1)) [ inl t ↦ absurd (not_above r h le t.1) | inr f ↦ f.0 ]

-- it is one
dif_of : (t : Tower) (r n : ℕ) (d : Dif) → IsTower t → dif_at t r n ≡ Some d → IsDif d
dif_of (Wires a) r n d v h = absurd (no_dif a r n d h)
dif_of (Rank' p difs below) r n d v h = elim (eqb_tells r (height_of below + 1)) [
  | inl t ↦ rank_difs difs below v.0 n d (sym (own_dif p difs below r n t.0) ∙ h)
  | inr f ↦ dif_of below r n d v.1 (sym (low_dif p difs below r n f.0) ∙ h)
]

-- ---- what is said of each item, and of each asker's end

-- it was registered, if not by then, by a later tick
by_later : (plan : Plan) (opening : Tower) (r n : ℕ) (app : List ℕ) (address now later : ℕ) (lines : List (List ℕ)) (ns : List Note) → now ≤ later → WasRegistered plan opening r n app address now lines ns → WasRegistered plan opening r n app address later lines ns
by_later plan opening r n app address now later lines ns le w = record { node = w.node; member = w.member; by_line = later_line plan r n w.node app now later lines ns le w.by_line }

-- the address of the member at a node, by the settings of its DIF
abbrev address_by : Settings → ℕ → Option ℕ
address_by s node = option_map (λ (m : Member). m.addr) (option_and_then (slice_get s.members) (home node (config_of s).members))

-- a connection leads to one member
leads_one : (d : Dif) (i a b : ℕ) → LeadsOn i a d → LeadsOn i b d → a ≡ b
leads_one d i a b x y = (let same : x.conn ≡ y.conn = same_Some x.conn y.conn (sym x.is_at.conn_is ∙ y.is_at.conn_is) in sym x.far ∙ ap (λ (c : Conn). c.sending.form.peer.far) same ∙ y.far)

no_slash : (o : Option ℕ) → is_some o ≡ false → o ≡ None
no_slash None h = refl
no_slash (Some k) h = cc

module _ (plan : Plan) (opening : Tower) (lines : List (List ℕ)) (ns : List Note) where
  abbrev Is : ℕ → ℕ → Item → Type 0
  Is r n item = IsExplained plan opening r n lines ns item

  -- an application is known at an address, at a tick
  abbrev Known : (r n : ℕ) → List ℕ → (address tick : ℕ) → Type 0
  Known r n app address tick = HasEntry opening r n app address ⊎ WasRegistered plan opening r n app address tick lines ns

  -- an end stood at a place at the opening
  abbrev IsOld : (r n i : ℕ) → End → Type 0
  IsOld r n i e = (x : End) × (end_at opening r n i ≡ Some x) × IsOneEnd x e

  old_on : (r n i : ℕ) (a e : End) → IsOneEnd a e → IsOld r n i a → IsOld r n i e
  old_on r n i a e same old = (old.0, old.1, one_on old.0 a e old.2 same)

  -- but for those of the opening, what the end at a place asks for is known at the member to which the connection leads that the DIF has there
  abbrev IsAsked : (r n : ℕ) → Dif → ℕ → End → Type 0
  IsAsked r n d i e = e.role ≡ Asker → is_ipc e.peer ≡ false → app_at e.peer ≡ Ok e.peer → IsOld r n i e ⊎ ((address : ℕ) × LeadsOn i address d × Known r n e.peer address e.flow.tick)

  -- so it is of the ends of a DIF, by the connections of another
  abbrev AskedIn : (r n : ℕ) → Dif → Dif → Type 0
  AskedIn r n d x = (i : ℕ) (e : End) → At x.flows.journal.ends i e → IsAsked r n d i e

  abbrev Asked : ℕ → ℕ → Dif → Type 0
  Asked r n d = AskedIn r n d d

  -- the application of a far end is known at the member at its node
  abbrev IsFar : (r n i : ℕ) → End → Type 0
  IsFar r n i e = e.role ≡ Far → end_at opening r n i ≡ None → NoAsker opening r n e.flow → is_ipc e.app ≡ false → app_at e.app ≡ Ok e.app → (address : ℕ) × (member_address opening r n e.port.node ≡ Some address) × Known r n e.app address e.flow.tick

  abbrev Fars : ℕ → ℕ → Dif → Type 0
  Fars r n d = (i : ℕ) (e : End) → At d.flows.journal.ends i e → IsFar r n i e

  far_on : (r n i : ℕ) (a e : End) → IsOneEnd a e → IsFar r n i a → IsFar r n i e
  far_on r n i a e s far = rw (s.role, s.flow, s.app, s.port) far

  -- the DIF has the settings that it had at the opening
  abbrev IsSet : ℕ → ℕ → Dif → Type 0
  IsSet r n d = (o : Dif) × (dif_at opening r n ≡ Some o) × (d.settings ≡ o.settings)

  record Has (r n : ℕ) (d : Dif) : Type 0 where
    items : AllAre (Is r n) d
    ends : Asked r n d
    fars : Fars r n d
    set : IsSet r n d

  -- an item that is no live entry needs no line
  own : (r n : ℕ) → OwnAre (Is r n)
  own r n x a is value entry live = (let known : IsKnown [] x = own_known [] x a is in let never = known value entry live in absurd (in_none never.0 never.1))

  none : (r n : ℕ) (x : Item) → x.value ≡ None → Is r n x
  none r n x is value entry live = (let known : IsKnown [] x = none_known [] x is in let never = known value entry live in absurd (in_none never.0 never.1))

  -- so has the member at a node the address that it had
  member_is : (r n node : ℕ) (d : Dif) → IsSet r n d → member_address opening r n node ≡ address_at d node
  member_is r n node d set = ap (option_and_then (λ (z : Dif). address_at z node)) set.1 ∙ ap (λ (s : Settings). address_by s node) (sym set.2)

  -- whom a member finds is known now
  found_known : (r n : ℕ) (d : Dif) (ds : List Direction) (below : Seen) → IsDif d → IsSet r n d → Holds d ds below → d.failed ≡ false → AllAre (Is r n) d → (node : ℕ) (app : List ℕ) (address : ℕ) → app_at app ≡ Ok app → is_ipc app ≡ false → KnowsAt d node app address → Known r n app address d.clock
  found_known r n d ds below whole set h alive all node app address is plain k =
      let items = k.management.agent.items in
      let f = is_found items app address k.finds in
      let key : f.item.key ≡ key_of app = found_key items (key_of app) f.item f.kept in
      let among = found_in items (key_of app) f.item f.kept in
      let past = kept_past d ds below k.place k.management f.item h alive k.is_management among in
      elim (all f.item (inl (record { place = k.place; management = k.management; is_management = k.is_management; among = among })) f.value (app, key) f.live) [
        | inl stood ↦ inl (record { item = f.item; stands = stood; key = key; value = f.value; live = f.live; number = f.number })
        | inr by ↦
            let same : by.name.app ≡ app = plain_key by.name.app app (no_slash (slash_in app) plain) is (sym by.entry.key ∙ key) in
            elim (by.named) [
              | inl ipc ↦ absurd (let wrong : is_ipc app ≡ true = subst (λ (x : List ℕ). is_ipc x ≡ true) same ipc in let no = plain in cc)
              | inr registered ↦
                  let fits = address_fits d registered.node by.name.address whole (sym (member_is r n registered.node d set) ∙ registered.member) in
                  let text : f.value ≡ decimal by.name.address = same_Some f.value (decimal by.name.address) (sym f.live ∙ by.entry.value) in
                  let read : number_of (decimal by.name.address) ≡ Some by.name.address = decimal_back (2 ^ 32 - 1) by.name.address (omega (arith, fits)) (omega (arith, fits)) in
                  let there : by.name.address ≡ address = same_Some by.name.address address (sym read ∙ ap number_of (sym text) ∙ f.number) in
                  let its : WasRegistered plan opening r n app by.name.address f.item.version.tick lines ns = subst (λ (x : List ℕ). WasRegistered plan opening r n x by.name.address f.item.version.tick lines ns) same registered in
                  inr (by_later plan opening r n app address f.item.version.tick d.clock lines ns past (subst (λ (x : ℕ). WasRegistered plan opening r n app x f.item.version.tick lines ns) there its))
            ]
      ]

  -- where no asker's end is new, each is asked as before
  back : (r n : ℕ) (by x y : Dif) → NoneAsks x y → AskedIn r n by x → AskedIn r n by y
  back r n by x y none asked i e at asks plain name =
      let h = none e i asks (record { end = e; stands = at; same = one_refl e }) in
      let peer : h.end.peer ≡ e.peer = sym h.same.peer in
      let tick : h.end.flow.tick ≡ e.flow.tick = ap (λ (f : FlowName). f.tick) (sym h.same.flow) in
      elim (asked i h.end h.stands (sym h.same.role ∙ asks) (subst (λ (p : List ℕ). is_ipc p ≡ false) (sym peer) plain) (subst (λ (p : List ℕ). app_at p ≡ Ok p) (sym peer) name)) [
        | inl old ↦ inl (old_on r n i h.end e h.same old)
        | inr was ↦ inr (was.0, was.1, subst (λ (t : ℕ). Known r n e.peer was.0 t) tick (subst (λ (p : List ℕ). Known r n p was.0 h.end.flow.tick) peer was.2))
      ]

  -- where the connections lead on
  lead_on : (r n : ℕ) (d d' : Dif) → ((i address : ℕ) → LeadsOn i address d → LeadsOn i address d') → AskedIn r n d d' → Asked r n d'
  lead_on r n d d' on asked i e at asks plain name = elim (asked i e at asks plain name) [ inl old ↦ inl old | inr was ↦ inr (was.0, on i was.0 was.1, was.2) ]

  -- so both is kept by what keeps the askers' ends, and what their connections lead to
  lead : (r n : ℕ) (d d' : Dif) → (d'.failed ≡ false → d.failed ≡ false) → ((Q : Dif → Type 0) → ((x y : Dif) → NoneMade x y → Q x → Q y) → Stays Q d d') → ((i address : ℕ) → Stays (LeadsOn i address) d d') → Stays (Asked r n) d d'
  lead r n d d' lived ends on h still =
      let was = h (lived still) in
      lead_on r n d d' (λ i address leads. on i address (λ alive. leads) still) (ends (AskedIn r n d) (λ x y none. back r n d x y (none_asks x y none)) (λ alive. was) still)

  -- the flows stay
  same_flows : (r n : ℕ) (d d' : Dif) → d'.flows ≡ d.flows → Asked r n d → Asked r n d'
  same_flows r n d d' is asked = lead_on r n d d' (λ i address. leads_on d d' i address (askers_same d d' is)) (back r n d d d' (none_asks d d' (none_by_flows d d' is)) asked)

  -- nothing is asked for
  same_seen : (r n : ℕ) (d d' : Dif) → GoesOn d d' → seen_of d' ≡ seen_of d → Asked r n d → Asked r n d'
  same_seen r n d d' goes is asked = lead_on r n d d' (λ i address. leads_on d d' i address (askers_go_on d d' goes (names_seen d d' is))) (back r n d d d' (none_asks d d' (none_by_seen d d' is)) asked)

  -- the end that a flow is asked for with
  asks_one : (r n : ℕ) (d d' : Dif) (ask : Ask) (port : Port) (ds : List Direction) (below : Seen) → (whole : IsDif d) → (h : Holds d ds below) → d.failed ≡ false → (a : AsksAt d ds below ask port d') → Requests d ask port d' → allocate_refusal d ask ≡ None → GoesOn d d' → Has r n d → Asked r n d'
  asks_one r n d d' ask port ds below whole h lives a requests free goes has i e at role plain name =
      let end : End = end_asked (seen_of d) (record { node = ask.node; app = ask.app; to = ask.to; cube = a.cube.id; peer = a.peer }) a.asked.member in
      let ends : d'.flows.journal.ends ≡ d.flows.journal.ends ++ end ∷ [] = ap (λ (z : DifSeen). z.ends) a.asked.new_is in
      elim (pushed_at d.flows.journal.ends end i e (subst (λ (es : List End). At es i e) ends at)) [
        | inl o ↦ elim (has.ends i e o role plain name) [
          | inl old ↦ inl old
          | inr was ↦ inr (was.0, leads_on d d' i was.0 (ends_keep d d' ask port whole ds below h a requests free goes) was.1, was.2)
        ]
        | inr t ↦
            let peer : ask.to ≡ e.peer = sym (ap (λ (z : End). z.peer) t.1) in
            let tick : d.clock ≡ e.flow.tick = sym (ap (λ (z : End). z.flow.tick) t.1) in
            let known : Known r n ask.to a.peer d.clock = found_known r n d ds below whole has.set h lives has.items ask.node ask.to a.peer (subst (λ (p : List ℕ). app_at p ≡ Ok p) (sym peer) name) (subst (λ (p : List ℕ). is_ipc p ≡ false) (sym peer) plain) a.known in
            inr (a.peer, subst (λ (k : ℕ). LeadsOn k a.peer d') (sym t.0) (new_leads d d' ask port whole ds below h a requests free), subst (λ (x : ℕ). Known r n e.peer a.peer x) tick (subst (λ (p : List ℕ). Known r n p a.peer d.clock) peer known))
      ]

  asks_new : (r n : ℕ) (d d' : Dif) (ask : Ask) (result : Result Port AllocateError) (ds : List Direction) (below : Seen) → IsDif d → Holds d ds below → d.failed ≡ false → (result ≡ Err allocate.Memory → ⊥) → AsksTo d ds below ask result d' → RequestsAs result d ask d' → GoesOn d d' → Has r n d → Asked r n d'
  asks_new r n d d' ask (Ok port) ds below whole h lives some asks requests goes has = asks_one r n d d' ask port ds below whole h lives asks.1 requests (none_refused d ask (allocate_refusal d ask) asks.0) goes has
  asks_new r n d d' ask (Err allocate.Memory) ds below whole h lives some asks requests goes has = absurd (some refl)
  asks_new r n d d' ask (Err allocate.NoMember) ds below whole h lives some asks requests goes has = same_seen r n d d' goes asks.1 has.ends
  asks_new r n d d' ask (Err allocate.NoCube) ds below whole h lives some asks requests goes has = same_seen r n d d' goes asks.1 has.ends
  asks_new r n d d' ask (Err allocate.NoSuchApp) ds below whole h lives some asks requests goes has = same_seen r n d d' goes asks.1 has.ends
  asks_new r n d d' ask (Err allocate.SameSystem) ds below whole h lives some asks requests goes has = same_seen r n d d' goes asks.1 has.ends
  asks_new r n d d' ask (Err (allocate.NoIds used)) ds below whole h lives some asks requests goes has = same_seen r n d d' goes asks.1 has.ends
  asks_new r n d d' ask (Err (allocate.NoRoute dst)) ds below whole h lives some asks requests goes has = same_seen r n d d' goes asks.1 has.ends
  asks_new r n d d' ask (Err (allocate.Busy other)) ds below whole h lives some asks requests goes has = same_seen r n d d' goes asks.1 has.ends
  asks_new r n d d' ask (Err (allocate.CountSpent need left)) ds below whole h lives some asks requests goes has = same_seen r n d d' goes asks.1 has.ends

  -- ---- far ends

  back_far : (r n : ℕ) (x y : Dif) → NoneMade x y → Fars r n x → Fars r n y
  back_far r n x y none fars i e at = (let h = none e i (record { end = e; stands = at; same = one_refl e }) in far_on r n i h.end e h.same (fars i h.end h.stands))

  -- no flow that is asked for makes one
  far_one : (r n : ℕ) (d d' : Dif) (ask : Ask) (port : Port) (ds : List Direction) (below : Seen) → AsksAt d ds below ask port d' → Fars r n d → Fars r n d'
  far_one r n d d' ask port ds below a fars i e at far =
      let end : End = end_asked (seen_of d) (record { node = ask.node; app = ask.app; to = ask.to; cube = a.cube.id; peer = a.peer }) a.asked.member in
      let ends : d'.flows.journal.ends ≡ d.flows.journal.ends ++ end ∷ [] = ap (λ (z : DifSeen). z.ends) a.asked.new_is in
      elim (pushed_at d.flows.journal.ends end i e (subst (λ (es : List End). At es i e) ends at)) [
        | inl o ↦ fars i e o far
        | inr t ↦ absurd (let clash : Asker ≡ Far = sym (ap (λ (z : End). z.role) t.1) ∙ far in cc)
      ]

  far_new : (r n : ℕ) (d d' : Dif) (ask : Ask) (result : Result Port AllocateError) (ds : List Direction) (below : Seen) → (result ≡ Err allocate.Memory → ⊥) → AsksTo d ds below ask result d' → Fars r n d → Fars r n d'
  far_new r n d d' ask (Ok port) ds below some asks fars = far_one r n d d' ask port ds below asks.1 fars
  far_new r n d d' ask (Err allocate.Memory) ds below some asks fars = absurd (some refl)
  far_new r n d d' ask (Err allocate.NoMember) ds below some asks fars = back_far r n d d' (none_by_seen d d' asks.1) fars
  far_new r n d d' ask (Err allocate.NoCube) ds below some asks fars = back_far r n d d' (none_by_seen d d' asks.1) fars
  far_new r n d d' ask (Err allocate.NoSuchApp) ds below some asks fars = back_far r n d d' (none_by_seen d d' asks.1) fars
  far_new r n d d' ask (Err allocate.SameSystem) ds below some asks fars = back_far r n d d' (none_by_seen d d' asks.1) fars
  far_new r n d d' ask (Err (allocate.NoIds used)) ds below some asks fars = back_far r n d d' (none_by_seen d d' asks.1) fars
  far_new r n d d' ask (Err (allocate.NoRoute dst)) ds below some asks fars = back_far r n d d' (none_by_seen d d' asks.1) fars
  far_new r n d d' ask (Err (allocate.Busy other)) ds below some asks fars = back_far r n d d' (none_by_seen d d' asks.1) fars
  far_new r n d d' ask (Err (allocate.CountSpent need left)) ds below some asks fars = back_far r n d d' (none_by_seen d d' asks.1) fars

  -- one that is made as an SDU comes is for what its asker's end asks for, at the member to which that leads
  far_made : (r n : ℕ) (d d' : Dif) → IsSet r n d' → Asked r n d → ((i address : ℕ) → LeadsOn i address d → LeadsOn i address d') → (i : ℕ) (e : End) → MadeFar d d' e → IsFar r n i e
  far_made r n d d' set asked on i e made far new fresh plain name =
      let x = made.stood.end in
      let asks : x.role ≡ Asker = sym made.stood.same.role ∙ made.asks in
      let app : e.app ≡ x.peer = made.app ∙ made.stood.same.peer in
      let flow : e.flow ≡ x.flow = made.flow ∙ made.stood.same.flow in
      elim (asked made.place x made.stood.stands asks (subst (λ (p : List ℕ). is_ipc p ≡ false) app plain) (subst (λ (p : List ℕ). app_at p ≡ Ok p) app name)) [
        | inl old ↦ absurd (fresh made.place old.0 old.1 (sym old.2.role ∙ asks) (sym (flow ∙ old.2.flow)))
        | inr was ↦
            let same : made.address ≡ was.0 = leads_one d' made.place made.address was.0 made.leads (on made.place was.0 was.1) in
            let member : member_address opening r n e.port.node ≡ Some was.0 = member_is r n e.port.node d' set ∙ made.member ∙ ap (λ (k : ℕ). Some k) same in
            let known : Known r n e.app was.0 x.flow.tick = subst (λ (p : List ℕ). Known r n p was.0 x.flow.tick) (sym app) was.2 in
            (was.0, member, subst (λ (t : ℕ). Known r n e.app was.0 t) (ap (λ (z : FlowName). z.tick) (sym flow)) known)
      ]

  -- ---- each call

  set_on : (r n : ℕ) (d d' : Dif) → d'.settings ≡ d.settings → IsSet r n d → IsSet r n d'
  set_on r n d d' same set = (set.0, set.1, same ∙ set.2)

  -- what is kept of the items and of the ends is kept of both
  both : (r n : ℕ) (d d' : Dif) → d'.settings ≡ d.settings → (d'.failed ≡ false → d.failed ≡ false) → Stays (AllAre (Is r n)) d d' → Stays (Asked r n) d d' → Stays (Fars r n) d d' → Stays (Has r n) d d'
  both r n d d' same lived items ends fars h still = record { items = items (λ alive. (h alive).items) still; ends = ends (λ alive. (h alive).ends) still; fars = fars (λ alive. (h alive).fars) still; set = set_on r n d d' same (h (lived still)).set }

  allocates : (r n : ℕ) → AllocateKeeps (Has r n)
  allocates r n d d' ask result is does requests goes whole notes h still =
      let a = alive d d' result (Err allocate.Memory) notes still in
      record {
        items = items.allocate_keeps (Is r n) (own r n) d d' ask result is does requests goes whole notes (λ lives. (h lives).items) still;
        ends = asks_new r n d d' ask result is.stands.0 is.below is is.stands.1 a.0 a.1 (does is.stands.0 is.below is.stands.1) requests goes (h a.0);
        fars = far_new r n d d' ask result is.stands.0 is.below a.1 (does is.stands.0 is.below is.stands.1) (h a.0).fars;
        set = set_on r n d d' (ap (λ (z : Dif). z.settings) whole) (h a.0).set;
      }

  takes : (r n : ℕ) → InSetKeeps (Has r n)
  takes r n d d' below below' node link x kept kept' st does notes set h still =
      let a = alive d d' x (Err step.Memory) notes still in
      let has = h a.0 in
      let set' = set_on r n d d' set has.set in
      let on : (i address : ℕ) → LeadsOn i address d → LeadsOn i address d' = λ i address leads. in_leads i address d d' below below' node link x kept kept' st does notes (λ lives. leads) still in
      record {
        items = in_keeps (Is r n) (own r n) d d' below below' node link x kept kept' st does notes (λ lives. has.items) still;
        ends = lead_on r n d d' on (ends.in_keeps (AskedIn r n d) (back r n d) d d' below below' node link x kept kept' st does notes (λ lives. has.ends) still);
        fars = λ i e at. elim (taken_far d st.0 below node link x d' below' (does st.0 st.1) e i (record { end = e; stands = at; same = one_refl e })) [
          | inl old ↦ far_on r n i old.end e old.same (has.fars i old.end old.stands)
          | inr made ↦ far_made r n d d' set' has.ends on i e made
        ];
        set = set';
      }

  kept : (r n : ℕ) → IsKept (Has r n)
  kept r n = record {
    allocated = allocates r n;
    claimed = λ d d' whole. both r n d d' (ap (λ (z : Dif). z.settings) whole) (λ still. sym (ap (λ (z : Dif). z.failed) whole) ∙ still) (items.incoming_keeps (Is r n) (own r n) d d' whole) (lead r n d d' (λ still. sym (ap (λ (z : Dif). z.failed) whole) ∙ still) (λ Q from. ends.incoming_keeps Q from d d' whole) (λ i address. incoming_leads i address d d' whole)) (ends.incoming_keeps (Fars r n) (back_far r n) d d' whole);
    sent = λ d d' port sdu x is does goes whole notes. both r n d d' (ap (λ (z : Dif). z.settings) whole) (λ still. (alive d d' x (Err send.Memory) notes still).0) (items.send_keeps (Is r n) (own r n) d d' port sdu x is does goes whole notes) (lead r n d d' (λ still. (alive d d' x (Err send.Memory) notes still).0) (λ Q from. ends.send_keeps Q from d d' port sdu x is does goes whole notes) (λ i address. send_leads i address d d' port sdu x is does goes whole notes)) (ends.send_keeps (Fars r n) (back_far r n) d d' port sdu x is does goes whole notes);
    passed = λ d d' port is does goes whole. both r n d d' (ap (λ (z : Dif). z.settings) whole) (λ still. sym (ap (λ (z : Dif). z.failed) whole) ∙ still) (items.pass_keeps (Is r n) (own r n) d d' port is does goes whole) (lead r n d d' (λ still. sym (ap (λ (z : Dif). z.failed) whole) ∙ still) (λ Q from. ends.pass_keeps Q from d d' port is does goes whole) (λ i address. pass_leads i address d d' port is does goes whole)) (ends.pass_keeps (Fars r n) (back_far r n) d d' port is does goes whole);
    freed = λ d d' port x is does manages goes whole asks notes. both r n d d' (ap (λ (z : Dif). z.settings) whole) (λ still. (alive d d' x (Err free.Memory) notes still).0) (items.free_keeps (Is r n) (own r n) d d' port x is does manages goes whole notes) (lead r n d d' (λ still. (alive d d' x (Err free.Memory) notes still).0) (λ Q from. ends.free_keeps Q from d d' port x is does manages goes whole notes) (λ i address. free_leads i address d d' port x is does manages goes whole notes)) (ends.free_keeps (Fars r n) (back_far r n) d d' port x is does manages goes whole notes);
    unregistered = λ d d' node app x manages whole notes. both r n d d' (ap (λ (z : Dif). z.settings) whole) (λ still. (alive d d' x (Err unregister.Memory) notes still).0) (unregister_keeps (Is r n) (own r n) (none r n) d d' node app x manages whole notes) (lead r n d d' (λ still. (alive d d' x (Err unregister.Memory) notes still).0) (λ Q from. ends.unregister_keeps Q from d d' node app x manages whole notes) (λ i address. unregister_leads i address d d' node app x manages whole notes)) (ends.unregister_keeps (Fars r n) (back_far r n) d d' node app x manages whole notes);
    answered = λ d d' keeps. both r n d d' (ap (λ (z : Dif). z.settings) keeps.is) keeps.alive (items.cdap_keeps (Is r n) (own r n) d d' keeps) (lead r n d d' keeps.alive (λ Q from. ends.cdap_keeps Q from d d' keeps) (λ i address. cdap_leads i address d d' keeps)) (ends.cdap_keeps (Fars r n) (back_far r n) d d' keeps);
    enrolled = λ d d' below below' refuses node fac peer x does notes set. both r n d d' set (λ still. (alive d d' x (Err enrol.Memory) notes still).0) (items.enrol_keeps (Is r n) (own r n) d d' below below' refuses node fac peer x does notes) (lead r n d d' (λ still. (alive d d' x (Err enrol.Memory) notes still).0) (λ Q from. ends.enrol_keeps Q from d d' below below' refuses node fac peer x does notes) (λ i address. enrol_leads i address d d' below below' refuses node fac peer x does notes)) (ends.enrol_keeps (Fars r n) (back_far r n) d d' below below' refuses node fac peer x does notes);
    taken = takes r n;
    left = λ d d' whole before. both r n d d' (ap (λ (z : Dif). z.settings) whole) before (items.out_keeps (Is r n) (own r n) d d' whole before) (lead r n d d' before (λ Q from. ends.out_keeps Q from d d' whole before) (λ i address. out_leads i address d d' whole before)) (ends.out_keeps (Fars r n) (back_far r n) d d' whole before);
    clocked = λ d d' below below' node x st does ok goes notes set. both r n d d' set (λ still. (alive d d' x (Err step.Memory) notes still).0) (clock_keeps (Is r n) (own r n) d d' below below' node x st does ok goes notes) (lead r n d d' (λ still. (alive d d' x (Err step.Memory) notes still).0) (λ Q from. ends.clock_keeps Q from d d' below below' node x st does ok goes notes) (λ i address. clock_leads i address d d' below below' node x st does ok goes notes)) (ends.clock_keeps (Fars r n) (back_far r n) d d' below below' node x st does ok goes notes);
    timed = λ d d' now whole. both r n d d' (ap (λ (z : Dif). z.settings) whole) (λ still. sym (ap (λ (z : Dif). z.failed) whole) ∙ still) (items.time_keeps (Is r n) (own r n) d d' now whole) (lead r n d d' (λ still. sym (ap (λ (z : Dif). z.failed) whole) ∙ still) (λ Q from. ends.time_keeps Q from d d' now whole) (λ i address. time_leads i address d d' now whole)) (ends.time_keeps (Fars r n) (back_far r n) d d' now whole);
  }

  registers : (tick r n node : ℕ) (app : List ℕ) (done : Unit {0}) → (is_ipc app ≡ true) ⊎ IsRegistration plan r n node app tick lines ns → Registering (Has r n) tick node app (Ok done)
  registers tick r n node app done named d d' is late manages whole notes = stays (Has r n) d d' (Ok done) (Err register.Memory) notes (λ some has. record {
    items = register_all (Is r n) (own r n) d d' node app (Ok done) is manages (ap (λ (z : Dif). z.connections) whole) (λ address item at entry now value key live. inr (record {
      name = record { app = app; address = address };
      entry = entry;
      named = ⊎_elim (λ ipc. inl ipc) (λ by. inr (record { node = node; member = member_is r n node d has.set ∙ at; by_line = later_line plan r n node app tick item.version.tick lines ns (omega (arith, late, now)) by })) named;
    })) has.items;
    ends = same_flows r n d d' (ap (λ (z : Dif). z.flows) whole) has.ends;
    fars = back_far r n d d' (none_by_flows d d' (ap (λ (z : Dif). z.flows) whole)) has.fars;
    set = set_on r n d d' (ap (λ (z : Dif). z.settings) whole) has.set;
  })

  refuses : (r n node : ℕ) (app : List ℕ) (e : RegisterError) → Registering (Has r n) 0 node app (Err e)
  refuses r n node app e d d' is late manages whole notes = stays (Has r n) d d' (Err e) (Err register.Memory) notes (λ some has. record {
    items = stays_known (Is r n) (own r n) d d' manages (ap (λ (z : Dif). z.connections) whole) has.items;
    ends = same_flows r n d d' (ap (λ (z : Dif). z.flows) whole) has.ends;
    fars = back_far r n d d' (none_by_flows d d' (ap (λ (z : Dif). z.flows) whole)) has.fars;
    set = set_on r n d d' (ap (λ (z : Dif). z.settings) whole) has.set;
  })

  is_open : (r n : ℕ) → IsOpen (Has r n)
  is_open r n = record { refused = refuses r n; ipcs = λ node app done ipc. registers 0 r n node app done (inl ipc) }

  by_lines : LinesKeep Has plan 1 lines ns
  by_lines r n node app done tick plain among = registers tick r n node app done (inr (registration plan r n node app lines ns tick among))

  -- ---- from the opening

  there : (r n i : ℕ) (d : Dif) (e : End) → dif_at opening r n ≡ Some d → At d.flows.journal.ends i e → end_at opening r n i ≡ Some e
  there r n i d e at stands = ap (λ (o : Option Dif). option_and_then (λ (z : Dif). slice_get z.flows.journal.ends i) o) at ∙ stands

  old_end : (r n i : ℕ) (d : Dif) (e : End) → dif_at opening r n ≡ Some d → At d.flows.journal.ends i e → end_at opening r n i ≡ None → ⊥
  old_end r n i d e at stands new = (let there : end_at opening r n i ≡ Some e = ap (λ (o : Option Dif). option_and_then (λ (z : Dif). slice_get z.flows.journal.ends i) o) at ∙ stands in none-some e (sym new ∙ there))

  at_first : EachHas Has opening
  at_first = each_at Has opening (λ r n d at. record {
    items = λ item is value entry live. inl (record { dif = d; is_dif = at; is_item = is });
    ends = λ i e stands role plain name. inl (e, there r n i d e at stands, one_refl e);
    fars = λ i e stands role new. absurd (old_end r n i d e at stands new);
    set = (d, at, refl);
  })

module _ (plan : Plan) (shelf : List Slot) (start : Stage) (lines : List (List ℕ)) (ns : List Note) (s : Stage) (o : IsOpening plan shelf start) (d : Runs plan 1 start lines ns s) where
  walk : Sure (Has plan start.run.tower lines ns) (kept plan start.run.tower lines ns) start.run.tower s.run.tower
  walk = runs (Has plan start.run.tower lines ns) (kept plan start.run.tower lines ns) (is_open plan start.run.tower lines ns) plan 1 start lines ns s o.stands (by_lines plan start.run.tower lines ns) d

  has_now : (r n : ℕ) (dif : Dif) → dif_at s.run.tower r n ≡ Some dif → dif.failed ≡ false → Has plan start.run.tower lines ns r n dif
  has_now r n dif = has_at (Has plan start.run.tower lines ns) s.run.tower r n dif (walk.keeps.keeps (at_first plan start.run.tower lines ns))

pub entries_are_registered : EntriesAreRegistered
entries_are_registered plan shelf start lines ns s o d r n dif at alive = (has_now plan shelf start lines ns s o d r n dif at alive).items

pub known_are_registered : KnownAreRegistered
known_are_registered plan shelf start lines ns s o d r n dif at alive =
    let whole = dif_of s.run.tower r n dif (walk plan shelf start lines ns s o d).valid at in
    let has = has_now plan shelf start lines ns s o d r n dif at alive in
    found_known plan start.run.tower lines ns r n dif whole.stands.0 whole.below whole has.set whole.stands.1 alive has.items

pub asked_are_registered : AskedAreRegistered
asked_are_registered plan shelf start lines ns s o d r n dif at alive i e stands role new plain name = elim ((has_now plan shelf start lines ns s o d r n dif at alive).ends i e stands role plain name) [
  | inl old ↦ absurd (none-some old.0 (sym new ∙ old.1))
  | inr was ↦ was
]

pub far_are_registered : FarAreRegistered
far_are_registered plan shelf start lines ns s o d r n dif at alive i e stands role new fresh plain name =
    let has = has_now plan shelf start lines ns s o d r n dif at alive in
    let whole = dif_of s.run.tower r n dif (walk plan shelf start lines ns s o d).valid at in
    let known = has.fars i e stands role new fresh plain name in
    let here : (node : ℕ) → member_address start.run.tower r n node ≡ address_at dif node = λ node. member_is plan start.run.tower lines ns r n node dif has.set in (
      known.0,
      known.1,
      elim (known.2) [
        | inl entry ↦ inl entry
        | inr by ↦
            let same : by.node ≡ e.port.node = one_node dif whole.stands.0 whole.below by.node e.port.node known.0 whole.stands.1 (sym (here by.node) ∙ by.member) (sym (here e.port.node) ∙ known.1) in
            inr (subst (λ (k : ℕ). IsRegistration plan r n k e.app e.flow.tick lines ns) same by.by_line)
      ],
    )
