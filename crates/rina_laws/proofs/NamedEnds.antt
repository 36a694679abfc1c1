-- An end comes to stand in the journal of a DIF by no call of an application, but by one that asks for a flow, whose end is the asker's.
use Rattle.std.proofs.Common.{◌≡◌, ◌∙◌, ℕ, ◌+◌, List, [], ◌∷◌, ◌++◌, length, length-append, slice_get, slice_set, Option, Some, None, Result, Ok, Err, refl, sym, ap, subst, arith, inl, inr, ◌⊎◌}
use Rattle.std.proofs.lemmas.List.Quantifiers.{position-Some}
use Rattle.std.proofs.lemmas.Option.{same_Some}
use Rattle.rina_base.specs.declared.number.FlowName.{FlowName}
use Rattle.rina_base.specs.declared.number.Port.{Port}
use Rattle.rina_iface.specs.declared.ask.Ask.{Ask}
use Rattle.rina_iface.specs.declared.ends.End.{End}
use Rattle.rina_iface.specs.declared.error.AllocateError.{AllocateError}
use Rattle.rina_iface.specs.declared.error.AllocateError.TheVariants as allocate
use Rattle.rina_iface.specs.declared.error.RegisterError.{RegisterError}
use Rattle.rina_iface.specs.declared.state.PortState.{PortState}
use Rattle.rina_iface.specs.declared.state.PortState.TheVariants.{Pending, Allocated, Refused, Failed, Closed}
use Rattle.rina_iface.specs.declared.state.Role.TheVariants.{Asker, Far}
use Rattle.rina_iface.specs.Allocate.{Allocates, Makes, asker_end}
use Rattle.rina_iface.specs.Ends.{has_port, place_in}
use Rattle.rina_iface.specs.Journal.{At}
use Rattle.rina_iface.specs.Later.{AreLater, IsLaterEnd}
use Rattle.rina_iface.specs.Seen.{Fac, with_fac}
use Rattle.rina_iface.proofs.Changed.{set_at}
use Rattle.rina_iface.proofs.Grown.{pushed_at}
use Rattle.rina_law.specs.declared.entry.Entry.{Entry}
use Rattle.rina_data.specs.declared.step.ClockStep.{ClockStep}
use Rattle.rina_data.specs.declared.step.ClockStep.TheVariants as clocks
use Rattle.rina_data.specs.declared.step.StepError.{StepError}
use Rattle.rina_data.proofs.Finding.{there}
use Rattle.rina_dif_law.specs.Dif.{fac_of}
use Rattle.rina_flows.specs.declared.flows.Flows.{Flows}
use Rattle.rina_flows.specs.Elsewhere.{SameBut}
use Rattle.rina_dif.specs.declared.dif.Dif.{Dif}
use Rattle.rina_dif.specs.Allocating.{allocate_refusal}
use Rattle.rina_dif.specs.Elsewhere.{IsPortAt, MayClock, WhenOk, home_of}
use Rattle.rina_dif.specs.Facade.{GoesOn}
use Rattle.rina_dif.specs.Shown.{seen_of as seen_of_dif}
use Rattle.rina_dif.proofs.Elsewhere.{when_in}
use Rattle.rina_tower.specs.declared.tower.Tower.{Tower, Wires, Rank'}
use Rattle.rina_tower.specs.Calls.{AllocatesFrom, RegistersAtTop, RegistersFrom}
use Rattle.rina_laws.specs.Named.{IsOneEnd}
use Rattle.rina_laws.proofs.NamedCalls.{Stays}
use Rattle.rina_laws.proofs.NamedComes.{Comes, Fact, Never, any_stays, comes_is}
use Rattle.rina_laws.proofs.NamedShown.{pad_at, rank_with, set_alike, set_nothing, shown_there}
use Rattle.rina_laws.proofs.NamedSteps.{IpcsStay}

-- an end stands at place i among these
pub record HasIn (e : End) (i : ℕ) (ends : List End) : Type 0 where
  pub end : End
  pub stands : At ends i end
  pub same : IsOneEnd end e

-- in the journal of a DIF
abbrev pub HasEnd : End → ℕ → Fact
HasEnd e i d = HasIn e i d.flows.journal.ends

pub one_refl : (e : End) → IsOneEnd e e
one_refl e = record { flow = refl; role = refl; port = refl; app = refl; peer = refl; cube = refl }

-- with another state, or with more that it got
pub one_state : (e : End) (state : PortState) → IsOneEnd e (record e { state = state })
one_state e state = record { flow = refl; role = refl; port = refl; app = refl; peer = refl; cube = refl }

pub one_got : (e : End) (got : List Entry) → IsOneEnd e (record e { got = got })
one_got e got = record { flow = refl; role = refl; port = refl; app = refl; peer = refl; cube = refl }

pub one_on : (a b c : End) → IsOneEnd a b → IsOneEnd b c → IsOneEnd a c
one_on a b c f g = record { flow = g.flow ∙ f.flow; role = g.role ∙ f.role; port = g.port ∙ f.port; app = g.app ∙ f.app; peer = g.peer ∙ f.peer; cube = g.cube ∙ f.cube }

pub later_one : (before now : ℕ) (a b : End) → IsLaterEnd before now a b → IsOneEnd a b
later_one before now a b l = record { flow = l.flow; role = l.role; port = l.port; app = l.app; peer = l.peer; cube = l.cube }

none_there : {X : Type 0} (o : Option X) (x : X) → o ≡ None → o ≡ Some x → ⊥
none_there o x a b = absurd (let no : None ≡ Some x = sym a ∙ b in cc)

same_there : {X : Type 0} (o : Option X) (x y : X) → o ≡ Some x → o ≡ Some y → x ≡ y
same_there o x y a b = same_Some x y (sym a ∙ b)

module _ (e : End) (i : ℕ) where
  pub in_same : (old new : List End) → new ≡ old → HasIn e i new → HasIn e i old
  in_same old new is h = subst (HasIn e i) is h

  -- one end was changed, and kept what it keeps for good
  pub in_set : (ends : List End) (place : ℕ) (x y : End) → At ends place x → IsOneEnd x y → HasIn e i (slice_set ends place y) → HasIn e i ends
  in_set ends place x y at keeps h = elim (set_at ends place i x y h.end at h.stands) [
    | inl t ↦ record { end = x; stands = subst (λ (m : ℕ). At ends m x) (sym t.0) at; same = one_on x y e keeps (subst (λ (z : End). IsOneEnd z e) t.1 h.same) }
    | inr o ↦ record { end = h.end; stands = o.1; same = h.same }
  ]

  -- where the end that stands there stood there before, and journals are later, it is the same end
  pub in_later : (before now : ℕ) (old new : List End) → AreLater before now old new → (h : HasIn e i new) → (y : End) × At old i y → HasIn e i old
  in_later before now old new later h (y, at) =
      let x = later i y at in
      let same : x.0 ≡ h.end = same_there (slice_get new i) x.0 h.end x.1 h.stands in
      record { end = y; stands = at; same = one_on y h.end e (subst (IsOneEnd y) same (later_one before now y x.0 x.2)) h.same }

  -- where nothing changed but at places where an end stood
  stood : (Changes : ℕ → Type 0) (old new : List End) → SameBut Changes old new → ((j : ℕ) → Changes j → (y : End) × At old j y) → (x : End) → At new i x → (y : End) × At old i y
  stood Changes old new same within x at = elim (slice_get old i) as (λ o. slice_get old i ≡ o → (y : End) × At old i y) [
    | Some y ↦ λ is. (y, is)
    | None ↦ λ none. absurd (none_there (slice_get new i) x (same i (λ c. (let y = within i c in none_there (slice_get old i) y.0 none y.1)) ∙ none) at)
  ] refl

  -- the DIF has gone on
  pub gone_on : (Changes : ℕ → Type 0) (d d' : Dif) → GoesOn d d' → SameBut Changes d.flows.journal.ends d'.flows.journal.ends → ((x : End) (j : ℕ) → Changes j → (y : End) × At d.flows.journal.ends j y) → HasEnd e i d' → HasEnd e i d
  gone_on Changes d d' g same within h = in_later d.clock d'.clock d.flows.journal.ends d'.flows.journal.ends g.later.ends h (stood Changes d.flows.journal.ends d'.flows.journal.ends same (λ j c. within h.end j c) h.end h.stands)

  pub flows_same : (d d' : Dif) → d'.flows ≡ d.flows → HasEnd e i d' → HasEnd e i d
  flows_same d d' is h = in_same d.flows.journal.ends d'.flows.journal.ends (ap (λ (f : Flows). f.journal.ends) is) h

-- ---- places

port_there : (port : Port) (ends : List End) (x : End) (j : ℕ) → place_in port ends ≡ Some j → (y : End) × At ends j y
port_there port ends x j is = there ends j (position-Some (has_port port) ends j x is).0

port_when : {T E : Type 0} (r : Result T E) (d : Dif) (port : Port) (x : End) (j : ℕ) → WhenOk r (IsPortAt d port j) → (y : End) × At d.flows.journal.ends j y
port_when r d port x j w = port_there port d.flows.journal.ends x j (when_in r (IsPortAt d port j) w)

clock_there : (x : Result ClockStep StepError) (d : Dif) (process : Option ℕ) (j : ℕ) → MayClock x d process j → (y : End) × At d.flows.journal.ends j y
clock_there (Ok (clocks.LinkLost link)) d process j m = (m.end, m.is_end)
clock_there (Ok (clocks.Gone cep)) d process j m = (m.end_of.end, m.end_of.is_end)
clock_there (Ok (clocks.GaveUp num)) d process j m = (m.end_of.end, m.end_of.is_end)
clock_there (Ok (clocks.Ack cep)) d process j m = (m.end_of.end, m.end_of.is_end)
clock_there (Ok (clocks.Again num)) d process j m = (m.end_of.end, m.end_of.is_end)
clock_there (Ok (clocks.Timeout port)) d process j m = (m.end_of.end, m.end_of.is_end)
clock_there answer d process j m = absurd m

-- ---- a flow is asked for

-- one more end stands behind the others, which is the asker's; or none does
abbrev AsksEnd : List End → List End → Type 0
AsksEnd old new = (new ≡ old) ⊎ ((x : End) × (x.role ≡ Asker) × (new ≡ old ++ x ∷ []))

longer : (ws : List ℕ) (w : ℕ) → ws ++ w ∷ [] ≡ ws → ⊥
longer ws w is = (let same : length (ws ++ w ∷ []) ≡ length ws = ap length is in let more : length (ws ++ w ∷ []) ≡ length ws + 1 = length-append ws (w ∷ []) in omega (arith, same, more))

-- no far end is made where none begins to wait
made_by : (state : PortState) (f g : Fac) (flow : FlowName) (port : Port) (ask : Ask) (cube : ℕ) → g.waiting ≡ f.waiting → Makes state f flow port ask cube g → AsksEnd f.ends g.ends
made_by Pending f g flow port ask cube waits m = inr (asker_end flow port ask cube Pending, refl, ap (λ (z : Fac). z.ends) m)
made_by Allocated f g flow port ask cube waits m = absurd (longer f.waiting (length f.ends + 1) (sym (ap (λ (z : Fac). z.waiting) m.1) ∙ waits))
made_by (Refused why) f g flow port ask cube waits m = absurd m
made_by (Failed fail) f g flow port ask cube waits m = absurd m
made_by Closed f g flow port ask cube waits m = absurd m

asks_end : (own : Option AllocateError) (now n : ℕ) (ask : Ask) (x : Result Port AllocateError) (f g : Fac) → n ≡ ask.fac → g.waiting ≡ f.waiting → Allocates own (rank_with now n f) ask x (with_fac (rank_with now n f) n g) → AsksEnd f.ends g.ends
asks_end own now n ask (Ok port) f g its waits r =
    let s = r.1 in
    let at : slice_get (rank_with now n f).facs n ≡ Some s.facility = subst (λ (m : ℕ). slice_get (rank_with now n f).facs m ≡ Some s.facility) (sym its) s.stands in
    let is : s.facility ≡ f = same_there (slice_get (rank_with now n f).facs n) s.facility f at (pad_at n f) in
    let made : g ≡ s.facility' = set_alike now n f g s.facility' (s.new_is ∙ ap (λ (m : ℕ). with_fac (rank_with now n f) m s.facility') (sym its)) in
    made_by s.state f g s.flow port ask s.cube.id waits (subst (λ (z : Fac). Makes s.state z s.flow port ask s.cube.id g) is (subst (λ (z : Fac). Makes s.state s.facility s.flow port ask s.cube.id z) (sym made) s.makes))
asks_end own now n ask (Err allocate.Memory) f g its waits r = inl (ap (λ (z : Fac). z.ends) (set_nothing now n f g r))
asks_end own now n ask (Err why) f g its waits r = inl (ap (λ (z : Fac). z.ends) (set_nothing now n f g r.1))

asked_back : (e : End) (i : ℕ) (old new : List End) → e.role ≡ Far → AsksEnd old new → HasIn e i new → HasIn e i old
asked_back e i old new far (inl same) h = in_same e i old new same h
asked_back e i old new far (inr (x, asks, is)) h = elim (pushed_at old x i h.end (subst (λ (es : List End). At es i h.end) is h.stands)) [
  | inl o ↦ record { end = h.end; stands = o; same = h.same }
  | inr t ↦ absurd (let no : Far ≡ Asker = sym far ∙ (h.same.role ∙ ap (λ (z : End). z.role) t.1 ∙ asks) in cc)
]

-- ---- one DIF

module _ (e : End) (i : ℕ) (far : e.role ≡ Far) where
  dif_asks : (ask : Ask) (x : Result Port AllocateError) (d d' : Dif) → d.settings.fac ≡ ask.fac → AllocatesFrom ask x d d' → HasEnd e i d' → HasEnd e i d
  dif_asks ask x d d' its s h =
      let f : Fac = fac_of (seen_of_dif d) in
      let g : Fac = fac_of (seen_of_dif d') in
      let waits : g.waiting ≡ f.waiting = ap (λ (z : Dif). (seen_of_dif z).waiting) s.serves.rest in
      let seen = s.serves.shown (rank_with d.clock ask.fac f) (shown_there d ask.fac) its in
      asked_back e i d.flows.journal.ends d'.flows.journal.ends far (asks_end (allocate_refusal d ask) d.clock ask.fac ask x f g refl waits seen) h

  pub ends_stay : Stays (HasEnd e i)
  ends_stay = record {
    clocked = λ now d d' is. flows_same e i d d' (ap (λ (z : Dif). z.flows) is);
    claimed = λ d d' is. flows_same e i d d' (ap (λ (z : Dif). z.flows) is);
    left = λ d d' is. flows_same e i d d' (ap (λ (z : Dif). z.flows) is);
    joined = λ d d' is. flows_same e i d d' (ap (λ (z : Dif). z.flows) is);
    answered = λ d d' s. flows_same e i d d' (ap (λ (z : Dif). z.flows) s.is);
    unregistered = λ fac node app x d d' s. flows_same e i d d' (ap (λ (z : Dif). z.flows) s.serves.rest);
    allocated = λ ask x d d' its s. dif_asks ask x d d' its s;
    sent = λ port bytes x d d' s. gone_on e i (λ j. WhenOk x (IsPortAt d port j)) d d' s.serves.goes_on s.leaves.0.0 (port_when x d port);
    passed = λ port d d' s. gone_on e i (IsPortAt d port) d d' s.serves.goes_on s.leaves.0.0 (port_there port d.flows.journal.ends);
    freed = λ port x d d' s. gone_on e i (λ j. WhenOk x (IsPortAt d port j)) d d' s.serves.goes_on s.leaves.0.0 (port_when x d port);
    stepped = λ below node x below' d d' s. gone_on e i (MayClock x d (home_of d node)) d d' s.after.goes_on s.leaves.0.0 (λ z j m. clock_there x d (home_of d node) j m);
  }

  -- a name that is registered makes no end
  pub registers_ends : (fac node : ℕ) (name : List ℕ) (x : Result (Unit {0}) RegisterError) (u u' : Tower) → RegistersAtTop fac node name x u u' → Comes (HasEnd e i) Never u u'
  registers_ends fac node name x (Wires a) (Wires a') d = tt
  registers_ends fac node name x (Rank' p difs below) (Rank' p' difs' below') d = (
    any_stays (HasEnd e i) (RegistersFrom fac node name x) fac _ difs difs' below (λ y y' at s. flows_same e i y y' (ap (λ (z : Dif). z.flows) s.serves.rest)) d.0,
    comes_is (HasEnd e i) Never below below' d.1,
  )
  registers_ends fac node name x (Wires a) (Rank' p difs below) d = absurd d
  registers_ends fac node name x (Rank' p difs below) (Wires a) d = absurd d

  pub ipcs_make_none : (fac node : ℕ) → IpcsStay (HasEnd e i) fac node
  ipcs_make_none fac node name x u u' ipc d = registers_ends fac node name x u u' d
