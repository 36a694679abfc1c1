-- The calls of a DIF that post no ask, and hand none on.
use Rattle.std.proofs.Common.{◌≡◌, ◌∙◌, inl, inr, ℕ, List, map, Option, Some, None, Result, Ok, Err, refl, sym, ap, subst}
use Rattle.rina_base.specs.declared.number.Num.{Num}
use Rattle.rina_base.specs.declared.number.Port.{Port}
use Rattle.rina_alloc.specs.declared.message.FlowMessage.{FlowMessage}
use Rattle.rina_alloc.specs.Messages.{operation_of}
use Rattle.rina_dir.specs.Directory.{key_of}
use Rattle.rina_dif_law.specs.Dif.{DifSeen}
use Rattle.rina_iface.specs.declared.ask.Fixed.{Fixed}
use Rattle.rina_iface.specs.declared.ends.End.{End}
use Rattle.rina_iface.specs.declared.error.AllocateError.{AllocateError}
use Rattle.rina_iface.specs.declared.error.AllocateError.TheVariants as allocate
use Rattle.rina_iface.specs.declared.error.FreeError.{FreeError}
use Rattle.rina_iface.specs.declared.error.FreeError.TheVariants as free
use Rattle.rina_iface.specs.declared.error.RegisterError.{RegisterError}
use Rattle.rina_iface.specs.declared.error.SendError.{SendError}
use Rattle.rina_iface.specs.declared.error.SendError.TheVariants as send
use Rattle.rina_iface.specs.declared.error.UnregisterError.{UnregisterError}
use Rattle.rina_iface.specs.declared.state.PortState.{PortState}
use Rattle.rina_iface.specs.declared.state.PortState.TheVariants.{Allocated, Closed, Failed, Pending, Refused}
use Rattle.rina_iface.specs.Ends.{place_in}
use Rattle.rina_iface.specs.Seen.{Seen}
use Rattle.rina_law.specs.Direction.{Direction}
use Rattle.rina_law.specs.Pieces.{Part}
use Rattle.rina_dif_law.specs.Sending.{Offers}
use Rattle.rina_flows.specs.Tied.{conns_of}
use Rattle.rina_member.specs.declared.management.Management.{Management}
use Rattle.rina_member.specs.Managements.{entered}
use Rattle.rina_dif.specs.declared.dif.Dif.{Dif}
use Rattle.rina_dif.specs.Binding.{BindsTo}
use Rattle.rina_dif.specs.Changing.{BindsManaged, with_flow_at, without_flow_at}
use Rattle.rina_dif.specs.FlowEnds.{FreesManaged, GivesFlowUp, ManagesFree, delete_of}
use Rattle.rina_dif.specs.Facade.{GoesOn}
use Rattle.rina_dif.specs.Holding.{Holds}
use Rattle.rina_dif.specs.Freeing.{FreesAt, FreesEnd}
use Rattle.rina_dif.specs.Posting.{posts}
use Rattle.rina_dif.specs.Allocating.{way}
use Rattle.rina_dif.specs.Registering.{MakesEntryAt, RegistersManaged, UnregistersManaged}
use Rattle.rina_dif.specs.Sending.{SendsAt}
use Rattle.rina_dif.specs.Shown.{seen_of}
use Rattle.rina_asked.specs.Calls.{BindKeeps, CdapKeeps, FreeKeeps, IncomingKeeps, OutKeeps, PassKeeps, RegisterKeeps, SendKeeps, TimeKeeps, UnregisterKeeps}
use Rattle.rina_asked.proofs.Agendas.{AddsNear, made_adds}
use Rattle.rina_asked.proofs.Askers.{KeepNames, askers_go_on, askers_same, names_more, names_same, names_seen}
use Rattle.rina_asked.proofs.Fewer.{Balanced, balanced_pair}
use Rattle.rina_asked.proofs.Keeps.{stays}
use Rattle.rina_asked.proofs.Links.{links_same}
use Rattle.rina_asked.proofs.Quiet.{IsQuiet, Lasts, as_long, ends_flows, ends_go_on, ends_seen, quiet_by}
use Rattle.rina_asked.proofs.Waiting.{Adds, IsOther, added_on, agents_added, entered_adds, hides_flow, near_set, posted_adds, same_added, shows_flow}

-- Nothing of it changes

pub incoming_keeps : (P : Dif → Type 0) → Lasts P → IncomingKeeps P
incoming_keeps P lasts d d' whole h still =
    lasts d d' (quiet_by d d' (askers_same d d' (ap (λ (z : Dif). z.flows) whole)) (ends_flows d d' (ap (λ (z : Dif). z.flows) whole)) (same_added IsOther d.managements d'.managements (ap (λ (z : Dif). z.managements) whole)) (links_same d d' (ap (λ (z : Dif). z.connections) whole))) (h (sym (ap (λ (z : Dif). z.failed) whole) ∙ still))

pub time_keeps : (P : Dif → Type 0) → Lasts P → TimeKeeps P
time_keeps P lasts d d' now whole h still =
    lasts d d' (quiet_by d d' (askers_same d d' (ap (λ (z : Dif). z.flows) whole)) (ends_flows d d' (ap (λ (z : Dif). z.flows) whole)) (same_added IsOther d.managements d'.managements (ap (λ (z : Dif). z.managements) whole)) (links_same d d' (ap (λ (z : Dif). z.connections) whole))) (h (sym (ap (λ (z : Dif). z.failed) whole) ∙ still))

pub out_keeps : (P : Dif → Type 0) → Lasts P → OutKeeps P
out_keeps P lasts d d' whole before h still =
    lasts d d' (quiet_by d d' (askers_same d d' (ap (λ (z : Dif). z.flows) whole)) (ends_flows d d' (ap (λ (z : Dif). z.flows) whole)) (same_added IsOther d.managements d'.managements (ap (λ (z : Dif). z.managements) whole)) (links_same d d' (ap (λ (z : Dif). z.connections) whole))) (h (before still))

pub cdap_keeps : (P : Dif → Type 0) → Lasts P → CdapKeeps P
cdap_keeps P lasts d d' keeps h still =
    lasts d d' (quiet_by d d' (askers_same d d' (ap (λ (z : Dif). z.flows) keeps.is)) (ends_flows d d' (ap (λ (z : Dif). z.flows) keeps.is)) (agents_added d.managements d'.managements keeps.agents) (links_same d d' (ap (λ (z : Dif). z.connections) keeps.is))) (h (keeps.alive still))

-- The flows change

-- the connections stay, and as many ends stand behind them
pub record IsCalm (d : Dif) (d' : Dif) (below' : Seen) : Type 0 where
  pub conns : (seen_of d').conns ≡ (seen_of d).conns
  pub lines' : List Direction
  pub holds : Holds d' lines' below'

calm_names : (d d' : Dif) (below' : Seen) → IsCalm d d' below' → KeepNames (conns_of d.flows.conns) (conns_of d'.flows.conns)
calm_names d d' below' c = names_same (conns_of d.flows.conns) (conns_of d'.flows.conns) c.conns

calm_quiet : (d d' : Dif) (lines : List Direction) (below : Seen) → Holds d lines below → GoesOn d d' → IsCalm d d' below → Adds IsOther d.managements d'.managements → d'.connections ≡ d.connections → IsQuiet d d'
calm_quiet d d' lines below h goes c adds connections =
    quiet_by d d' (askers_go_on d d' goes (calm_names d d' below c)) (ends_go_on d d' goes (as_long d d' lines c.lines' below below h c.holds c.conns)) adds (links_same d d' connections)

offers_conns : (d : DifSeen) (lines : List Direction) (at : ℕ) (parts : List Part) (result : Result Num SendError) (d' : DifSeen) (lines' : List Direction) → Offers d lines at parts result d' lines' → d'.conns ≡ d.conns
offers_conns d lines at parts (Ok num) d' lines' o = ap (λ (z : DifSeen). z.conns) o.2.new_is
offers_conns d lines at parts (Err send.Memory) d' lines' o = ap (λ (z : DifSeen). z.conns) o.0
offers_conns d lines at parts (Err (send.NotAllocated state)) d' lines' o = ap (λ (z : DifSeen). z.conns) o.1
offers_conns d lines at parts (Err (send.Failed fail)) d' lines' o = ap (λ (z : DifSeen). z.conns) o.1
offers_conns d lines at parts (Err (send.TooLong len max)) d' lines' o = ap (λ (z : DifSeen). z.conns) o.1
offers_conns d lines at parts (Err (send.WindowShut need room)) d' lines' o = ap (λ (z : DifSeen). z.conns) o.1
offers_conns d lines at parts (Err (send.QueueFull need room)) d' lines' o = ap (λ (z : DifSeen). z.conns) o.1
offers_conns d lines at parts (Err (send.NoRoute dst)) d' lines' o = ap (λ (z : DifSeen). z.conns) o.1
offers_conns d lines at parts (Err (send.NumbersSpent until)) d' lines' o = ap (λ (z : DifSeen). z.conns) o.1

seen_calm : (d d' : Dif) (lines : List Direction) (below : Seen) → seen_of d' ≡ seen_of d → Holds d' lines below → IsCalm d d' below
seen_calm d d' lines below same holds = record { conns = ap (λ (z : DifSeen). z.conns) same; lines' = lines; holds = holds }

sends_nowhere : (d : Dif) (lines : List Direction) (below : Seen) (sdu : List ℕ) (result : Result Num SendError) (d' : Dif) → SendsAt None d lines below sdu result d' → IsCalm d d' below
sends_nowhere d lines below sdu (Ok num) d' s = seen_calm d d' lines below s.1 s.2
sends_nowhere d lines below sdu (Err send.Memory) d' s = seen_calm d d' lines below s.0 s.1
sends_nowhere d lines below sdu (Err (send.NotAllocated state)) d' s = seen_calm d d' lines below s.1 s.2
sends_nowhere d lines below sdu (Err (send.Failed fail)) d' s = seen_calm d d' lines below s.1 s.2
sends_nowhere d lines below sdu (Err (send.TooLong len max)) d' s = seen_calm d d' lines below s.1 s.2
sends_nowhere d lines below sdu (Err (send.WindowShut need room)) d' s = seen_calm d d' lines below s.1 s.2
sends_nowhere d lines below sdu (Err (send.QueueFull need room)) d' s = seen_calm d d' lines below s.1 s.2
sends_nowhere d lines below sdu (Err (send.NoRoute dst)) d' s = seen_calm d d' lines below s.1 s.2
sends_nowhere d lines below sdu (Err (send.NumbersSpent until)) d' s = seen_calm d d' lines below s.1 s.2

pub sends_calm : (o : Option ℕ) (d : Dif) (lines : List Direction) (below : Seen) (sdu : List ℕ) (result : Result Num SendError) (d' : Dif) → SendsAt o d lines below sdu result d' → IsCalm d d' below
sends_calm (Some at) d lines below sdu result d' s = record { conns = offers_conns (seen_of d) lines at s.parts result (seen_of d') s.lines' s.offers; lines' = s.lines'; holds = s.holds }
sends_calm None d lines below sdu result d' s = sends_nowhere d lines below sdu result d' s

pub send_keeps : (P : Dif → Type 0) → Lasts P → SendKeeps P
send_keeps P lasts d d' port sdu result is does goes whole notes = stays P d d' result (Err send.Memory) notes (λ some.
    (let calm = sends_calm (place_in port d.flows.journal.ends) d is.stands.0 is.below sdu result d' (does is.stands.0 is.below is.stands.1) in
    lasts d d' (calm_quiet d d' is.stands.0 is.below is.stands.1 goes calm (same_added IsOther d.managements d'.managements (ap (λ (z : Dif). z.managements) whole)) (ap (λ (z : Dif). z.connections) whole))))

pub pass_keeps : (P : Dif → Type 0) → Lasts P → PassKeeps P
pass_keeps P lasts d d' port is does goes whole h still =
    let s = does is.stands.0 is.below is.stands.1 in
    let calm : IsCalm d d' is.below = record { conns = ap (λ (z : DifSeen). z.conns) s.passes.passed.new_is; lines' = s.passes.lines'; holds = s.passes.holds } in
    lasts d d' (calm_quiet d d' is.stands.0 is.below is.stands.1 goes calm (same_added IsOther d.managements d'.managements (ap (λ (z : Dif). z.managements) whole)) (ap (λ (z : Dif). z.connections) whole)) (h (sym (ap (λ (z : Dif). z.failed) whole) ∙ still))

-- A flow is fixed

bound_names : (d : Dif) (lines : List Direction) (below : Seen) (fixed : Fixed) (result : Result (Port × Port) AllocateError) (d' : Dif) → BindsTo d lines below fixed result d' → KeepNames (conns_of d.flows.conns) (conns_of d'.flows.conns)
bound_names d lines below fixed (Ok ports) d' b = names_more (conns_of d.flows.conns) (conns_of d'.flows.conns) _ (ap (λ (z : DifSeen). z.conns) b.bound.new_is)
bound_names d lines below fixed (Err allocate.Memory) d' b = names_seen d d' b.0
bound_names d lines below fixed (Err allocate.NoMember) d' b = absurd b
bound_names d lines below fixed (Err allocate.NoCube) d' b = absurd b
bound_names d lines below fixed (Err allocate.NoSuchApp) d' b = absurd b
bound_names d lines below fixed (Err allocate.SameSystem) d' b = absurd b
bound_names d lines below fixed (Err (allocate.NoIds used)) d' b = absurd b
bound_names d lines below fixed (Err (allocate.NoRoute dst)) d' b = absurd b
bound_names d lines below fixed (Err (allocate.Busy port)) d' b = absurd b
bound_names d lines below fixed (Err (allocate.CountSpent need left)) d' b = absurd b

bound_ends : (d : Dif) (lines : List Direction) (below : Seen) (fixed : Fixed) (result : Result (Port × Port) AllocateError) (d' : Dif) → BindsTo d lines below fixed result d' → Balanced d.flows.journal.ends d'.flows.journal.ends
bound_ends d lines below fixed (Ok ports) d' b = balanced_pair d.flows.journal.ends d'.flows.journal.ends _ _ (ap (λ (z : DifSeen). z.ends) b.bound.new_is) refl refl refl
bound_ends d lines below fixed (Err allocate.Memory) d' b = ends_seen d d' b.0
bound_ends d lines below fixed (Err allocate.NoMember) d' b = absurd b
bound_ends d lines below fixed (Err allocate.NoCube) d' b = absurd b
bound_ends d lines below fixed (Err allocate.NoSuchApp) d' b = absurd b
bound_ends d lines below fixed (Err allocate.SameSystem) d' b = absurd b
bound_ends d lines below fixed (Err (allocate.NoIds used)) d' b = absurd b
bound_ends d lines below fixed (Err (allocate.NoRoute dst)) d' b = absurd b
bound_ends d lines below fixed (Err (allocate.Busy port)) d' b = absurd b
bound_ends d lines below fixed (Err (allocate.CountSpent need left)) d' b = absurd b

bound_adds : (d : Dif) (fixed : Fixed) (result : Result (Port × Port) AllocateError) (new : List Management) (lines : List Direction) (below : Seen) (d' : Dif) → (result ≡ Err allocate.Memory → ⊥) → BindsTo d lines below fixed result d' → BindsManaged result d fixed new → Adds IsOther d.managements new
bound_adds d fixed (Ok ports) new lines below d' some b m =
    let all : List Management = map (entered fixed.b_app m.far.addr) d.managements in
    subst (Adds IsOther d.managements) (sym m.are) (added_on IsOther d.managements all (with_flow_at m.b m.dcep (with_flow_at m.a m.scep all)) (entered_adds fixed.b_app m.far.addr d.managements) (added_on IsOther all (with_flow_at m.a m.scep all) (with_flow_at m.b m.dcep (with_flow_at m.a m.scep all)) (shows_flow m.a m.scep all) (shows_flow m.b m.dcep (with_flow_at m.a m.scep all))))
bound_adds d fixed (Err allocate.Memory) new lines below d' some b m = absurd (some refl)
bound_adds d fixed (Err allocate.NoMember) new lines below d' some b m = absurd b
bound_adds d fixed (Err allocate.NoCube) new lines below d' some b m = absurd b
bound_adds d fixed (Err allocate.NoSuchApp) new lines below d' some b m = absurd b
bound_adds d fixed (Err allocate.SameSystem) new lines below d' some b m = absurd b
bound_adds d fixed (Err (allocate.NoIds used)) new lines below d' some b m = absurd b
bound_adds d fixed (Err (allocate.NoRoute dst)) new lines below d' some b m = absurd b
bound_adds d fixed (Err (allocate.Busy port)) new lines below d' some b m = absurd b
bound_adds d fixed (Err (allocate.CountSpent need left)) new lines below d' some b m = absurd b

pub bind_keeps : (P : Dif → Type 0) → Lasts P → BindKeeps P
bind_keeps P lasts d d' fixed result is does manages goes whole notes = stays P d d' result (Err allocate.Memory) notes (λ some.
    (let b = does is.stands.0 is.below is.stands.1 in
    lasts d d' (quiet_by d d' (askers_go_on d d' goes (bound_names d is.stands.0 is.below fixed result d' b)) (bound_ends d is.stands.0 is.below fixed result d' b) (bound_adds d fixed result d'.managements is.stands.0 is.below d' some b manages) (links_same d d' (ap (λ (z : Dif). z.connections) whole)))))

-- An end is freed

ends_conns : (state : PortState) (d : DifSeen) (lines : List Direction) (at : ℕ) (end : End) (d' : DifSeen) → FreesEnd state d lines at end d' → d'.conns ≡ d.conns
ends_conns Allocated d lines at end d' f = ap (λ (z : DifSeen). z.conns) f.new_is
ends_conns Pending d lines at end d' f = ap (λ (z : DifSeen). z.conns) f.new_is
ends_conns (Refused why) d lines at end d' f = ap (λ (z : DifSeen). z.conns) f
ends_conns (Failed fail) d lines at end d' f = ap (λ (z : DifSeen). z.conns) f
ends_conns Closed d lines at end d' f = ap (λ (z : DifSeen). z.conns) f

pub frees_calm : (o : Option ℕ) (d : Dif) (lines : List Direction) (below : Seen) (result : Result (Unit {0}) FreeError) (d' : Dif) → FreesAt o d lines below result d' → IsCalm d d' below
frees_calm (Some at) d lines below (Ok done) d' f = record { conns = ends_conns f.end.state (seen_of d) lines at f.end (seen_of d') f.frees; lines' = lines; holds = f.holds }
frees_calm None d lines below (Ok done) d' f = absurd f
frees_calm (Some at) d lines below (Err free.Memory) d' f = seen_calm d d' lines below f.same f.holds
frees_calm None d lines below (Err free.Memory) d' f = seen_calm d d' lines below f.same f.holds
frees_calm (Some at) d lines below (Err free.NoPort) d' f = seen_calm d d' lines below f.1.same f.1.holds
frees_calm None d lines below (Err free.NoPort) d' f = seen_calm d d' lines below f.1.same f.1.holds

-- the far end is told by no ask
pub told_adds : (d : Dif) (i : ℕ) (message : FlowMessage) (ms : List Management) → operation_of message.word ≡ 6 → Adds IsOther ms (posts d i message ms)
told_adds d i message ms other = posted_adds IsOther i (way d i message.to) message ms other

pub gives_up_adds : (d : Dif) (i at : ℕ) (new : List Management) → GivesFlowUp d i at new → Adds IsOther d.managements new
gives_up_adds d i at new g =
    let message : FlowMessage = delete_of g.conn.sending.form.peer in
    subst (Adds IsOther d.managements) (sym g.are) (added_on IsOther d.managements (posts d i message d.managements) (without_flow_at i g.conn.sending.form.peer.scep (posts d i message d.managements)) (told_adds d i message d.managements refl) (hides_flow i g.conn.sending.form.peer.scep (posts d i message d.managements)))

freed_adds : (state : PortState) (d : Dif) (at : ℕ) (end : End) (new : List Management) → ManagesFree state d at end new → Adds IsOther d.managements new
freed_adds Allocated d at end new m = gives_up_adds d m.0 at new m.2
freed_adds Pending d at end new m = same_added IsOther d.managements new m
freed_adds (Refused why) d at end new m = same_added IsOther d.managements new m
freed_adds (Failed fail) d at end new m = same_added IsOther d.managements new m
freed_adds Closed d at end new m = same_added IsOther d.managements new m

frees_adds : (o : Option ℕ) (d : Dif) (lines : List Direction) (below : Seen) (result : Result (Unit {0}) FreeError) (d' : Dif) → (result ≡ Err free.Memory → ⊥) → FreesAt o d lines below result d' → FreesManaged o result d d'.managements → Adds IsOther d.managements d'.managements
frees_adds (Some at) d lines below (Ok done) d' some f m = freed_adds m.0.state d at m.0 d'.managements m.2
frees_adds (Some at) d lines below (Err free.Memory) d' some f m = absurd (some refl)
frees_adds (Some at) d lines below (Err free.NoPort) d' some f m = absurd (let wrong = f.0 in cc)
frees_adds None d lines below result d' some f m = same_added IsOther d.managements d'.managements m

pub free_keeps : (P : Dif → Type 0) → Lasts P → FreeKeeps P
free_keeps P lasts d d' port result is does manages goes whole notes = stays P d d' result (Err free.Memory) notes (λ some.
    (let o = place_in port d.flows.journal.ends in
    let f = does is.stands.0 is.below is.stands.1 in
    lasts d d' (calm_quiet d d' is.stands.0 is.below is.stands.1 goes (frees_calm o d is.stands.0 is.below result d' f) (frees_adds o d is.stands.0 is.below result d' some f manages) (ap (λ (z : Dif). z.connections) whole))))

-- A name is registered, or taken back

entry_adds : (d : Dif) (node : ℕ) (app : List ℕ) (value : Management → Option (List ℕ)) (new : List Management) → MakesEntryAt d node app value new → Adds IsOther d.managements new
entry_adds d node app value new e =
    let near : AddsNear e.management.agent e.after.agent = subst (AddsNear e.management.agent) (sym e.makes.makes) (made_adds None e.management.agent d.clock (key_of app) (value e.management)) in
    subst (Adds IsOther d.managements) (sym e.are) (near_set d.managements e.i e.management e.after e.is_management near)

registers_adds : (result : Result (Unit {0}) RegisterError) (d : Dif) (node : ℕ) (app : List ℕ) (new : List Management) → RegistersManaged result d node app new → Adds IsOther d.managements new
registers_adds (Ok done) d node app new r = entry_adds d node app _ new r
registers_adds (Err e) d node app new r = same_added IsOther d.managements new r

pub register_keeps : (P : Dif → Type 0) → Lasts P → RegisterKeeps P
register_keeps P lasts d d' node app result manages whole notes = stays P d d' result _ notes (λ some.
    lasts d d' (quiet_by d d' (askers_same d d' (ap (λ (z : Dif). z.flows) whole)) (ends_flows d d' (ap (λ (z : Dif). z.flows) whole)) (registers_adds result d node app d'.managements manages) (links_same d d' (ap (λ (z : Dif). z.connections) whole))))

unregisters_adds : (result : Result (Unit {0}) UnregisterError) (d : Dif) (node : ℕ) (app : List ℕ) (new : List Management) → UnregistersManaged result d node app new → Adds IsOther d.managements new
unregisters_adds (Ok done) d node app new (inl r) = entry_adds d node app _ new r
unregisters_adds (Ok done) d node app new (inr r) = same_added IsOther d.managements new r.1
unregisters_adds (Err e) d node app new r = same_added IsOther d.managements new r

pub unregister_keeps : (P : Dif → Type 0) → Lasts P → UnregisterKeeps P
unregister_keeps P lasts d d' node app result manages whole notes = stays P d d' result _ notes (λ some.
    lasts d d' (quiet_by d d' (askers_same d d' (ap (λ (z : Dif). z.flows) whole)) (ends_flows d d' (ap (λ (z : Dif). z.flows) whole)) (unregisters_adds result d node app d'.managements manages) (links_same d d' (ap (λ (z : Dif). z.connections) whole))))
