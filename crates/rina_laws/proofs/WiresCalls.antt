-- What the calls do to one wire keeps a property of it; so does each call on wires.
use Rattle.std.proofs.Common.{◌≡◌, ℕ, ◌+◌, Bool, false, List, [], ◌∷◌, map, slice_get, Some, None, Option, option_and_then, option_map, IsSome, Result, Ok, Err, cond, true, refl, sym, ◌∙◌, subst, inl, inr}
use Rattle.std.proofs.lemmas.Option.{none-some, same_Some, slice_get-map}
use Rattle.rina_base.specs.declared.number.Num.{Num}
use Rattle.rina_base.specs.declared.number.Port.{Port}
use Rattle.rina_iface.specs.declared.ask.Ask.{Ask}
use Rattle.rina_iface.specs.declared.ends.End.{End}
use Rattle.rina_iface.specs.declared.error.AllocateError.{AllocateError}
use Rattle.rina_iface.specs.declared.error.AllocateError.TheVariants as asks
use Rattle.rina_iface.specs.declared.error.RegisterError.{RegisterError}
use Rattle.rina_iface.specs.declared.error.RegisterError.TheVariants as names
use Rattle.rina_iface.specs.declared.error.SendError.{SendError}
use Rattle.rina_iface.specs.declared.error.SendError.TheVariants as sends
use Rattle.rina_iface.specs.declared.error.UnregisterError.{UnregisterError}
use Rattle.rina_iface.specs.declared.error.UnregisterError.TheVariants as unregister
use Rattle.rina_iface.specs.Allocate.{refused_in, unless_offered}
use Rattle.rina_iface.specs.Ends.{place_in}
use Rattle.rina_iface.specs.Journal.{At}
use Rattle.rina_iface.specs.Seen.{Offer, is_member, offered, oldest_in, unpassed}
use Rattle.rina_iface.proofs.Changed.{all_at, set_at}
use Rattle.rina_wire.specs.Air.{Air, Line, fac_of, offer_of, on_end, on_wire, put, put_at, put_end, seen_of, wire_at}
use Rattle.rina_wire.specs.Allocate.{AllocatesOn, flow_made, flow_refusal}
use Rattle.rina_wire.specs.Claim.{ClaimsOn, without}
use Rattle.rina_wire.specs.Register.{RegistersOn, named}
use Rattle.rina_wire.specs.Send.{SendsOn, passed, passed_at, sent_from}
use Rattle.rina_wire.specs.Sound.{IsSound, IsSoundLine, KeepsFlows}
use Rattle.rina_wire.specs.Tick.{TicksOn, line_ticked}
use Rattle.rina_wire.specs.Unregister.{UnregistersOn, unnamed}
use Rattle.rina_wire.proofs.Carried.{waits_on}
use Rattle.rina_wire.proofs.Kept.{is_mapped}
use Rattle.rina_wire.proofs.Sound.{sound_claims, sound_passed}
use Rattle.rina_wire.proofs.SoundAllocate.{sound_allocates}
use Rattle.rina_wire.proofs.SoundRegister.{sound_registers, sound_unregisters}
use Rattle.rina_wire.proofs.SoundSend.{sound_sends}
use Rattle.rina_wire.proofs.SoundTick.{sound_ticks}
use Rattle.rina_wire.specs.Cut.{MendsOn, mended}
use Rattle.rina_wire.specs.declared.event.WireError.{WireError}
use Rattle.rina_wire.proofs.SoundCut.{sound_mends}
use Rattle.rina_laws.proofs.NamedNames.{IsDone}
use Rattle.rina_laws.proofs.WiresAt.{Keeps}

-- one wire, where it is there, has this property at this tick
abbrev pub OnWire : (ℕ → Line → Type 0) → ℕ → Air → Type 0
OnWire Q fac a = (l : Line) → wire_at a fac ≡ Some l → Q a.now l

-- the wires are sound, and one of them has the property
pub record HasWire (Q : ℕ → Line → Type 0) (fac : ℕ) (a : Air) : Type 0 where
  pub sound : IsSound a
  pub holds : OnWire Q fac a

-- what the calls do to a sound wire keeps the property of it; of a name that is registered that is said of each call
pub record KeepsLine (Q : ℕ → Line → Type 0) : Type 0 where
  pub unnamed : (now node : ℕ) (app : List ℕ) (l : Line) → Q now l → Q now (unnamed node app l)
  pub flow : (now : ℕ) (ask : Ask) (l : Line) → flow_refusal l ask ≡ None → Q now l → Q now (flow_made now ask l)
  pub claimed : (now : ℕ) (l : Line) (o : Option ℕ) → Q now l → Q now (without l o)
  pub sent : (now : ℕ) (failed : Bool) (fac : ℕ) (bytes : List ℕ) (l : Line) (i : ℕ) (e : End) → IsSoundLine l → KeepsFlows now failed fac l → failed ≡ false → At l.ends i e → Q now l → Q now (sent_from now bytes l i e)
  pub passed : (now : ℕ) (l : Line) (i : ℕ) (e : End) → At l.ends i e → Q now l → Q now (passed_at l i e)
  pub ticked : (before : ℕ) (failed : Bool) (fac : ℕ) (l : Line) → failed ≡ false → KeepsFlows before failed fac l → Q before l → Q (before + 1) (line_ticked (before + 1) l)
  pub mended : (now : ℕ) (l : Line) → Q now l → Q now (mended l)

-- ---- a change of one wire, and of one end

carry_put : (Q : ℕ → Line → Type 0) (fac : ℕ) (a : Air) (wire : ℕ) (change : Line → Line) (o : Option Line) → wire_at a wire ≡ o → OnWire Q fac a → ((l : Line) → wire ≡ fac → wire_at a wire ≡ Some l → Q a.now l → Q a.now (change l)) → (l : Line) → slice_get (put a.wires wire (option_map change o)) fac ≡ Some l → Q a.now l
carry_put Q fac a wire change None h c keep l is = c l is
carry_put Q fac a wire change (Some m) h c keep l is = elim (set_at a.wires wire fac m (change m) l h is) [
  | inl t ↦ rw t.1 (keep m (sym t.0) h (c m (rw t.0 h)))
  | inr f ↦ c l f.1
]

pub carry_wire : (Q : ℕ → Line → Type 0) (fac : ℕ) (a : Air) (wire : ℕ) (change : Line → Line) → OnWire Q fac a → ((l : Line) → wire ≡ fac → wire_at a wire ≡ Some l → Q a.now l → Q a.now (change l)) → OnWire Q fac (on_wire a wire change)
carry_wire Q fac a wire change c keep = carry_put Q fac a wire change (wire_at a wire) refl c keep

carry_place : (Q : ℕ → Line → Type 0) (now : ℕ) (l : Line) (change : Line → ℕ → End → Line) (o : Option ℕ) → ((i : ℕ) (e : End) → o ≡ Some i → slice_get l.ends i ≡ Some e → Q now (change l i e)) → Q now l → Q now (put_end change l o)
carry_place Q now l change None keep c = c
carry_place Q now l change (Some i) keep c = elim (slice_get l.ends i) as (λ o. slice_get l.ends i ≡ o → Q now (put_at change l i o)) [ None ↦ λ h. c | Some e ↦ λ h. keep i e refl h ] refl

pub carry_end : (Q : ℕ → Line → Type 0) (fac : ℕ) (a : Air) (port : Port) (change : Line → ℕ → End → Line) → OnWire Q fac a → ((l : Line) (i : ℕ) (e : End) → port.fac ≡ fac → wire_at a port.fac ≡ Some l → place_in port l.ends ≡ Some i → slice_get l.ends i ≡ Some e → Q a.now l → Q a.now (change l i e)) → OnWire Q fac (on_end a port change)
carry_end Q fac a port change c keep = carry_wire Q fac a port.fac (λ (l : Line). put_end change l (place_in port l.ends)) c (λ l same h d. carry_place Q a.now l change (place_in port l.ends) (λ i e place at. keep l i e same h place at d) d)

-- ---- register

-- a name that is registered keeps the property of the wire
abbrev pub NameKeeps : (ℕ → Line → Type 0) → ℕ → Air → (wire node : ℕ) (app : List ℕ) → Result (Unit {0}) RegisterError → Type 0
NameKeeps Q fac a wire node app r = wire ≡ fac → IsDone r → (l : Line) → Q a.now l → Q a.now (named node app l)

carry_registers : (Q : ℕ → Line → Type 0) (fac : ℕ) (a : Air) (wire node : ℕ) (app : List ℕ) (r : Result (Unit {0}) RegisterError) (a' : Air) → NameKeeps Q fac a wire node app r → OnWire Q fac a → RegistersOn a wire node app r a' → OnWire Q fac a'
carry_registers Q fac a wire node app (Ok done) a' kept c g = subst (OnWire Q fac) (sym g.air) (carry_wire Q fac a wire (named node app) c (λ l same h d. kept same tt l d))
carry_registers Q fac a wire node app (Err names.Memory) a' kept c g = subst (OnWire Q fac) (sym g) c
carry_registers Q fac a wire node app (Err names.Already) a' kept c g = subst (OnWire Q fac) (sym g.air) c
carry_registers Q fac a wire node app (Err names.NoMember) a' kept c g = subst (OnWire Q fac) (sym g.air) c
carry_registers Q fac a wire node app (Err (names.CountSpent n m)) a' kept c g = subst (OnWire Q fac) (sym g.air) c

pub keeps_registers : (Q : ℕ → Line → Type 0) (fac : ℕ) (a : Air) (wire node : ℕ) (app : List ℕ) (r : Result (Unit {0}) RegisterError) (a' : Air) → NameKeeps Q fac a wire node app r → HasWire Q fac a → RegistersOn a wire node app r a' → HasWire Q fac a'
keeps_registers Q fac a wire node app r a' kept c g = record { sound = sound_registers a wire node app r a' c.sound g; holds = carry_registers Q fac a wire node app r a' kept c.holds g }

-- ---- allocate

own_offered : (o : Option Offer) (own : Option AllocateError) → unless_offered o own ≡ None → own ≡ None
own_offered None own h = absurd (none-some asks.NoCube (sym h))
own_offered (Some x) own h = h

own_of : (l : Line) (ask : Ask) (own : Option AllocateError) → refused_in (Some (fac_of l)) ask own ≡ None → own ≡ None
own_of l ask own h = elim (is_member (l.a ∷ l.b ∷ []) ask.node) as (λ b. cond b (unless_offered (offered (offer_of l ∷ []) ask.want) own) (Some asks.NoMember) ≡ None → own ≡ None) [
  | true ↦ own_offered (offered (offer_of l ∷ []) ask.want) own
  | false ↦ λ g. absurd (none-some asks.NoMember (sym g))
] h

-- a wire refuses nothing where its facility does not
not_refused : (a : Air) (ask : Ask) (l : Line) (o : Option Line) → o ≡ Some l → refused_in (option_map fac_of o) ask (option_and_then (λ (x : Line). flow_refusal x ask) o) ≡ None → flow_refusal l ask ≡ None
not_refused a ask l None is h = cc
not_refused a ask l (Some m) is h = subst (λ (x : Line). flow_refusal x ask ≡ None) (same_Some m l is) (own_of m ask (flow_refusal m ask) h)

carry_allocates : (Q : ℕ → Line → Type 0) (kept : KeepsLine Q) (fac : ℕ) (a : Air) (ask : Ask) (r : Result Port AllocateError) (a' : Air) → OnWire Q fac a → AllocatesOn a ask r a' → OnWire Q fac a'
carry_allocates Q kept fac a ask (Ok port) a' c g = subst (OnWire Q fac) (sym g.goes.air) (carry_wire Q fac a ask.fac (flow_made a.now ask) c (λ l same h d. kept.flow a.now ask l (not_refused a ask l (wire_at a ask.fac) h g.goes.refused) d))
carry_allocates Q kept fac a ask (Err asks.Memory) a' c g = subst (OnWire Q fac) (sym g) c
carry_allocates Q kept fac a ask (Err asks.NoMember) a' c g = subst (OnWire Q fac) (sym g.air) c
carry_allocates Q kept fac a ask (Err asks.NoCube) a' c g = subst (OnWire Q fac) (sym g.air) c
carry_allocates Q kept fac a ask (Err asks.NoSuchApp) a' c g = subst (OnWire Q fac) (sym g.air) c
carry_allocates Q kept fac a ask (Err asks.SameSystem) a' c g = subst (OnWire Q fac) (sym g.air) c
carry_allocates Q kept fac a ask (Err (asks.NoIds used)) a' c g = subst (OnWire Q fac) (sym g.air) c
carry_allocates Q kept fac a ask (Err (asks.NoRoute dst)) a' c g = subst (OnWire Q fac) (sym g.air) c
carry_allocates Q kept fac a ask (Err (asks.Busy port)) a' c g = subst (OnWire Q fac) (sym g.air) c
carry_allocates Q kept fac a ask (Err (asks.CountSpent n m)) a' c g = subst (OnWire Q fac) (sym g.air) c

keeps_allocates : (Q : ℕ → Line → Type 0) (kept : KeepsLine Q) (fac : ℕ) (a : Air) (ask : Ask) (r : Result Port AllocateError) (a' : Air) → HasWire Q fac a → AllocatesOn a ask r a' → HasWire Q fac a'
keeps_allocates Q kept fac a ask r a' c g = record { sound = sound_allocates a ask r a' c.sound g; holds = carry_allocates Q kept fac a ask r a' c.holds g }

-- ---- incoming

keeps_claims : (Q : ℕ → Line → Type 0) (kept : KeepsLine Q) (fac : ℕ) (a : Air) (wire node : ℕ) (app : List ℕ) (r : Option Port) (a' : Air) → HasWire Q fac a → ClaimsOn a wire node app r a' → HasWire Q fac a'
keeps_claims Q kept fac a wire node app r a' c g =
    let after = carry_wire Q fac a wire (λ (l : Line). without l (oldest_in l.ends l.waiting node app)) c.holds (λ l same h d. kept.claimed a.now l (oldest_in l.ends l.waiting node app) d) in
    record { sound = sound_claims a wire node app r a' c.sound g; holds = subst (OnWire Q fac) (sym g.air) after }

-- ---- send

carry_sends : (Q : ℕ → Line → Type 0) (kept : KeepsLine Q) (fac : ℕ) (a : Air) (port : Port) (bytes : List ℕ) (r : Result Num SendError) (a' : Air) → IsSound a → OnWire Q fac a → SendsOn a port bytes r a' → OnWire Q fac a'
carry_sends Q kept fac a port bytes (Ok num) a' s c g = subst (OnWire Q fac) (sym g.goes.air) (carry_end Q fac a port (sent_from a.now bytes) c (λ l i e same h place at d. kept.sent a.now a.failed port.fac bytes l i e (all_at IsSoundLine a.wires port.fac l s.lines h) (s.flows port.fac l h) g.goes.alive at d))
carry_sends Q kept fac a port bytes (Err sends.Memory) a' s c g = subst (OnWire Q fac) (sym g) c
carry_sends Q kept fac a port bytes (Err (sends.NotAllocated state)) a' s c g = subst (OnWire Q fac) (sym g.air) c
carry_sends Q kept fac a port bytes (Err (sends.Failed fail)) a' s c g = subst (OnWire Q fac) (sym g.air) c
carry_sends Q kept fac a port bytes (Err (sends.TooLong len max)) a' s c g = subst (OnWire Q fac) (sym g.air) c
carry_sends Q kept fac a port bytes (Err (sends.WindowShut n m)) a' s c g = subst (OnWire Q fac) (sym g.air) c
carry_sends Q kept fac a port bytes (Err (sends.NoRoute dst)) a' s c g = subst (OnWire Q fac) (sym g.air) c
carry_sends Q kept fac a port bytes (Err (sends.QueueFull n m)) a' s c g = subst (OnWire Q fac) (sym g.air) c
carry_sends Q kept fac a port bytes (Err (sends.NumbersSpent until)) a' s c g = subst (OnWire Q fac) (sym g.air) c

keeps_sends : (Q : ℕ → Line → Type 0) (kept : KeepsLine Q) (fac : ℕ) (a : Air) (port : Port) (bytes : List ℕ) (r : Result Num SendError) (a' : Air) → HasWire Q fac a → SendsOn a port bytes r a' → HasWire Q fac a'
keeps_sends Q kept fac a port bytes r a' c g = record { sound = sound_sends a port bytes r a' c.sound g; holds = carry_sends Q kept fac a port bytes r a' c.sound c.holds g }

-- ---- pass

keeps_passed : (Q : ℕ → Line → Type 0) (kept : KeepsLine Q) (fac : ℕ) (a : Air) (port : Port) → IsSome (unpassed (seen_of a) port) → HasWire Q fac a → HasWire Q fac (passed a port)
keeps_passed Q kept fac a port w c = record {
  sound = sound_passed a port c.sound (waits_on a port w);
  holds = carry_end Q fac a port passed_at c.holds (λ l i e same h place at d. kept.passed a.now l i e at d);
}

-- ---- tick

carry_tick : (Q : ℕ → Line → Type 0) (kept : KeepsLine Q) (fac : ℕ) (a : Air) (l : Line) → a.failed ≡ false → HasWire Q fac a → slice_get (map (line_ticked (a.now + 1)) a.wires) fac ≡ Some l → Q (a.now + 1) l
carry_tick Q kept fac a l alive c h =
    let w = is_mapped (line_ticked (a.now + 1)) (wire_at a fac) l (sym (slice_get-map (line_ticked (a.now + 1)) a.wires fac) ∙ h) in
    subst (Q (a.now + 1)) w.2 (kept.ticked a.now a.failed fac w.0 alive (c.sound.flows fac w.0 w.1) (c.holds w.0 w.1))

keeps_tick : (Q : ℕ → Line → Type 0) (kept : KeepsLine Q) (fac : ℕ) (a a' : Air) → HasWire Q fac a → TicksOn a (Ok tt) a' → HasWire Q fac a'
keeps_tick Q kept fac a a' c g = record {
  sound = sound_ticks a (Ok tt) a' c.sound g;
  holds = subst (OnWire Q fac) (sym g.air) (λ l h. carry_tick Q kept fac a l g.alive c h);
}

-- ---- unregister

carry_unregisters : (Q : ℕ → Line → Type 0) (kept : KeepsLine Q) (fac : ℕ) (a : Air) (wire node : ℕ) (app : List ℕ) (r : Result (Unit {0}) UnregisterError) (a' : Air) → OnWire Q fac a → UnregistersOn a wire node app r a' → OnWire Q fac a'
carry_unregisters Q kept fac a wire node app (Ok done) a' c g = subst (OnWire Q fac) (sym g.air) (carry_wire Q fac a wire (unnamed node app) c (λ l same h d. kept.unnamed a.now node app l d))
carry_unregisters Q kept fac a wire node app (Err unregister.Memory) a' c g = subst (OnWire Q fac) (sym g) c
carry_unregisters Q kept fac a wire node app (Err unregister.NotThere) a' c g = subst (OnWire Q fac) (sym g.air) c
carry_unregisters Q kept fac a wire node app (Err (unregister.CountSpent n m)) a' c g = subst (OnWire Q fac) (sym g.air) c

keeps_unregisters : (Q : ℕ → Line → Type 0) (kept : KeepsLine Q) (fac : ℕ) (a : Air) (wire node : ℕ) (app : List ℕ) (r : Result (Unit {0}) UnregisterError) (a' : Air) → HasWire Q fac a → UnregistersOn a wire node app r a' → HasWire Q fac a'
keeps_unregisters Q kept fac a wire node app r a' c g = record { sound = sound_unregisters a wire node app r a' c.sound g; holds = carry_unregisters Q kept fac a wire node app r a' c.holds g }

-- ---- mend

carry_mends : (Q : ℕ → Line → Type 0) (kept : KeepsLine Q) (fac : ℕ) (a : Air) (wire : ℕ) (r : Result (Unit {0}) WireError) (a' : Air) → OnWire Q fac a → MendsOn a wire r a' → OnWire Q fac a'
carry_mends Q kept fac a wire (Ok done) a' c g = subst (OnWire Q fac) (sym g.air) (carry_wire Q fac a wire mended c (λ l same h d. kept.mended a.now l d))
carry_mends Q kept fac a wire (Err e) a' c g = subst (OnWire Q fac) (sym g.air) c

keeps_mends : (Q : ℕ → Line → Type 0) (kept : KeepsLine Q) (fac : ℕ) (a : Air) (wire : ℕ) (r : Result (Unit {0}) WireError) (a' : Air) → HasWire Q fac a → MendsOn a wire r a' → HasWire Q fac a'
keeps_mends Q kept fac a wire r a' c g = record { sound = sound_mends a wire r a' c.sound g; holds = carry_mends Q kept fac a wire r a' c.holds g }

-- ---- all of them

pub keeps_wire : (Q : ℕ → Line → Type 0) → KeepsLine Q → (fac : ℕ) → Keeps (HasWire Q fac)
keeps_wire Q kept fac = record {
  unregisters = keeps_unregisters Q kept fac;
  allocates = keeps_allocates Q kept fac;
  claims = keeps_claims Q kept fac;
  sends = keeps_sends Q kept fac;
  passes = keeps_passed Q kept fac;
  ticks = keeps_tick Q kept fac;
  mends = keeps_mends Q kept fac;
}
