-- The calls of a DIF that let no ask wait anew.
use Rattle.std.proofs.Common.{◌≡◌, ℕ, List, Contains, Option, Some, None, Result, Ok, Err, ap, subst}
use Rattle.std.specs.Global.{Vec}
use Rattle.std.specs.Prelude.{position, ◌==◌}
use Rattle.rina_iface.specs.declared.error.FreeError.{FreeError}
use Rattle.rina_iface.specs.declared.state.PortState.{PortState}
use Rattle.rina_iface.specs.declared.state.PortState.TheVariants.{Allocated, Closed, Failed, Pending, Refused}
use Rattle.rina_iface.specs.Ends.{place_in}
use Rattle.rina_member.proofs.Tells.{from_without}
use Rattle.rina_dif.specs.declared.dif.Dif.{Dif}
use Rattle.rina_dif.specs.declared.waiting_asks.WaitingAsk.{WaitingAsk}
use Rattle.rina_dif.specs.WaitingAsks.{FreesAsks, asks_freed, without_at}
use Rattle.rina_asked.specs.Awaited.{AreAwaited, AreOwn}
use Rattle.rina_asked.specs.Calls.{BindKeeps, CdapKeeps, EnrolKeeps, FreeAsksKeeps, FreeKeeps, IncomingKeeps, OutKeeps, PassKeeps, RegisterKeeps, SendKeeps, Stays, TimeKeeps, UnregisterKeeps}
use Rattle.rina_asked.specs.Single.{AreSingle}
use Rattle.rina_asked.proofs.Calls.{bind_keeps, cdap_keeps, free_keeps, incoming_keeps, out_keeps, pass_keeps, register_keeps, send_keeps, time_keeps, unregister_keeps}
use Rattle.rina_asked.proofs.Enrols.{enrol_keeps_same}
use Rattle.rina_asked.proofs.Once.{single_lasts}
use Rattle.rina_asked.proofs.Own.{own_fewer, own_lasts}
use Rattle.rina_asked.proofs.Quiet.{Lasts, LastsSame}

-- what waits then waited before
abbrev pub WaitsNoMore : Dif → Dif → Type 0
WaitsNoMore d d' = (w : WaitingAsk) → Contains d'.asks.items w → Contains d.asks.items w

pub asks_same : (d d' : Dif) → d'.asks ≡ d.asks → WaitsNoMore d d'
asks_same d d' same w has = subst (λ (asks : Vec WaitingAsk). Contains asks.items w) same has

pub awaited_lasts : LastsSame AreAwaited
awaited_lasts d d' q same h = (single_lasts d d' q h.0, own_fewer d.asks.items d'.asks.items d' (asks_same d d' same) (own_lasts d.asks.items d d' q h.1))

-- what a call keeps that keeps all that lasts
pub awaited_by : (d d' : Dif) → WaitsNoMore d d' → ((P : Dif → Type 0) → Lasts P → Stays P d d') → Stays AreAwaited d d'
awaited_by d d' fewer stays h still = (stays AreSingle single_lasts (λ was. (h was).0) still, own_fewer d.asks.items d'.asks.items d' fewer (stays (AreOwn d.asks.items) (own_lasts d.asks.items) (λ was. (h was).1) still))

pub incoming_awaited : IncomingKeeps AreAwaited
incoming_awaited d d' whole = awaited_by d d' (asks_same d d' (ap (λ (z : Dif). z.asks) whole)) (λ P lasts. incoming_keeps P lasts d d' whole)

pub bind_awaited : BindKeeps AreAwaited
bind_awaited d d' fixed result is does manages goes whole notes = awaited_by d d' (asks_same d d' (ap (λ (z : Dif). z.asks) whole)) (λ P lasts. bind_keeps P lasts d d' fixed result is does manages goes whole notes)

pub send_awaited : SendKeeps AreAwaited
send_awaited d d' port sdu result is does goes whole notes = awaited_by d d' (asks_same d d' (ap (λ (z : Dif). z.asks) whole)) (λ P lasts. send_keeps P lasts d d' port sdu result is does goes whole notes)

pub pass_awaited : PassKeeps AreAwaited
pass_awaited d d' port is does goes whole = awaited_by d d' (asks_same d d' (ap (λ (z : Dif). z.asks) whole)) (λ P lasts. pass_keeps P lasts d d' port is does goes whole)

pub register_awaited : RegisterKeeps AreAwaited
register_awaited d d' node app result manages whole notes = awaited_by d d' (asks_same d d' (ap (λ (z : Dif). z.asks) whole)) (λ P lasts. register_keeps P lasts d d' node app result manages whole notes)

pub unregister_awaited : UnregisterKeeps AreAwaited
unregister_awaited d d' node app result manages whole notes = awaited_by d d' (asks_same d d' (ap (λ (z : Dif). z.asks) whole)) (λ P lasts. unregister_keeps P lasts d d' node app result manages whole notes)

pub cdap_awaited : CdapKeeps AreAwaited
cdap_awaited d d' keeps = awaited_by d d' (asks_same d d' (ap (λ (z : Dif). z.asks) keeps.is)) (λ P lasts. cdap_keeps P lasts d d' keeps)

pub enrol_awaited : EnrolKeeps AreAwaited
enrol_awaited = enrol_keeps_same AreAwaited awaited_lasts

pub out_awaited : OutKeeps AreAwaited
out_awaited d d' whole before = awaited_by d d' (asks_same d d' (ap (λ (z : Dif). z.asks) whole)) (λ P lasts. out_keeps P lasts d d' whole before)

pub time_awaited : TimeKeeps AreAwaited
time_awaited d d' now whole = awaited_by d d' (asks_same d d' (ap (λ (z : Dif). z.asks) whole)) (λ P lasts. time_keeps P lasts d d' now whole)

-- An end is freed

at_most : (o : Option ℕ) (asks : List WaitingAsk) (w : WaitingAsk) → Contains (without_at o asks) w → Contains asks w
at_most None asks w has = has
at_most (Some which) asks w has = from_without (Some which) asks w has

freed_fewer : (state : PortState) (place : ℕ) (asks : List WaitingAsk) (w : WaitingAsk) → Contains (asks_freed state place asks) w → Contains asks w
freed_fewer Pending place asks w has = at_most (position (λ (a : WaitingAsk). a.place == place) asks) asks w has
freed_fewer Allocated place asks w has = has
freed_fewer (Refused why) place asks w has = has
freed_fewer (Failed fail) place asks w has = has
freed_fewer Closed place asks w has = has

frees_fewer : (o : Option ℕ) (result : Result (Unit {0}) FreeError) (d d' : Dif) → FreesAsks o result d d'.asks.items → WaitsNoMore d d'
frees_fewer (Some at) (Ok done) d d' f w has = freed_fewer f.0.state at d.asks.items w (subst (λ (asks : List WaitingAsk). Contains asks w) f.2 has)
frees_fewer (Some at) (Err e) d d' f w has = subst (λ (asks : List WaitingAsk). Contains asks w) f has
frees_fewer None (Ok done) d d' f w has = subst (λ (asks : List WaitingAsk). Contains asks w) f has
frees_fewer None (Err e) d d' f w has = subst (λ (asks : List WaitingAsk). Contains asks w) f has

-- what is kept whatever asks wait
pub free_so : (P : Dif → Type 0) → FreeKeeps P → FreeAsksKeeps P
free_so P keeps d d' port result is does manages goes whole asks notes = keeps d d' port result is does manages goes whole notes

pub free_awaited : FreeAsksKeeps AreAwaited
free_awaited d d' port result is does manages goes whole asks notes = awaited_by d d' (frees_fewer (place_in port d.flows.journal.ends) result d d' asks) (λ P lasts. free_keeps P lasts d d' port result is does manages goes whole notes)
