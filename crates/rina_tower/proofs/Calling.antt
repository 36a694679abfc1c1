-- Whom the calls of a facility leave alone.
use Rattle.std.proofs.Common.{◌≡◌, ◌∙◌, ℕ, zero, suc, Bool, true, false, List, [], ◌∷◌, slice_get, slice_set, Option, Some, None, Result, Ok, Err, refl, sym, subst}
use Rattle.rina_base.specs.declared.number.FlowName.{FlowName}
use Rattle.rina_base.specs.declared.number.Num.{Num}
use Rattle.rina_base.specs.declared.number.Port.{Port}
use Rattle.rina_iface.specs.declared.ask.Ask.{Ask}
use Rattle.rina_iface.specs.declared.ask.Fixed.{Fixed}
use Rattle.rina_iface.specs.declared.ends.End.{End}
use Rattle.rina_iface.specs.declared.error.AllocateError.{AllocateError}
use Rattle.rina_iface.specs.declared.error.AllocateError.TheVariants as allocate
use Rattle.rina_iface.specs.declared.error.FreeError.{FreeError}
use Rattle.rina_iface.specs.declared.error.FreeError.TheVariants as free
use Rattle.rina_iface.specs.declared.error.RegisterError.{RegisterError}
use Rattle.rina_iface.specs.declared.error.RegisterError.TheVariants as register
use Rattle.rina_iface.specs.declared.error.SendError.{SendError}
use Rattle.rina_iface.specs.declared.error.SendError.TheVariants as send
use Rattle.rina_iface.specs.declared.error.UnregisterError.{UnregisterError}
use Rattle.rina_iface.specs.declared.error.UnregisterError.TheVariants as unregister
use Rattle.rina_iface.specs.declared.state.PortState.{PortState}
use Rattle.rina_iface.specs.declared.state.PortState.TheVariants as states
use Rattle.rina_iface.specs.Allocate.{Allocates, Makes}
use Rattle.rina_iface.specs.Bind.{Binds}
use Rattle.rina_iface.specs.Claim.{Claims}
use Rattle.rina_iface.specs.Free.{Frees, FreesEnds}
use Rattle.rina_iface.specs.Journal.{At}
use Rattle.rina_iface.specs.Later.{AreLater, IsLater}
use Rattle.rina_iface.specs.Pass.{IsPassed}
use Rattle.rina_iface.specs.Register.{Registers}
use Rattle.rina_iface.specs.Seen.{Fac, Seen, end_of, with_fac}
use Rattle.rina_iface.specs.Send.{Sends}
use Rattle.rina_iface.specs.State.{freed, freed_state}
use Rattle.rina_iface.specs.Unregister.{Unregisters}
use Rattle.rina_iface.proofs.Changed.{slice_get-set_other}
use Rattle.rina_iface.proofs.Found.{end_of_stands}
use Rattle.rina_iface.proofs.Later.{end_restated, ends_set, moves_freed}
use Rattle.rina_iface.proofs.LaterCalls.{later_allocates, later_binds, later_claims, later_frees, later_passes, later_registers, later_sends, later_unregisters, partners_apart}
use Rattle.rina_tower.specs.Bystanders.{LeavesEnds, LeavesNow}
use Rattle.rina_tower.proofs.Alone.{end_alone, ends_alone, ends_on, fac_alone, more_alone, same_alone}

-- a facility with the same ends
named : (who : List ℕ → Type 0) (s : Seen) (n : ℕ) (f f' : Fac) (s' : Seen) → slice_get s.facs n ≡ Some f → f'.ends ≡ f.ends → s' ≡ with_fac s n f' → IsLater s s' → LeavesNow who s s'
named who s n f f' s' is same new later =
    let there = fac_alone who s n f f' is (subst (IsLater s) new later) (subst (LeavesEnds who f.ends) (sym same) (ends_alone who f.ends)) in
    subst (LeavesNow who s) (sym new) there

pub registers_alone : (who : List ℕ → Type 0) (own : Option RegisterError) (s : Seen) (fac node : ℕ) (app : List ℕ) (r : Result (Unit {0}) RegisterError) (s' : Seen) → Registers own s fac node app r s' → LeavesNow who s s'
registers_alone who own s fac node app (Ok done) s' w = named who s fac w.1.facility _ s' w.1.stands refl w.1.new_is (later_registers own s fac node app (Ok done) s' w)
registers_alone who own s fac node app (Err register.Memory) s' w = same_alone who s s' w
registers_alone who own s fac node app (Err register.Already) s' w = same_alone who s s' w.1
registers_alone who own s fac node app (Err register.NoMember) s' w = same_alone who s s' w.1
registers_alone who own s fac node app (Err (register.CountSpent n k)) s' w = same_alone who s s' w.1

pub unregisters_alone : (who : List ℕ → Type 0) (own : Option UnregisterError) (s : Seen) (fac node : ℕ) (app : List ℕ) (r : Result (Unit {0}) UnregisterError) (s' : Seen) → Unregisters own s fac node app r s' → LeavesNow who s s'
unregisters_alone who own s fac node app (Ok done) s' w = named who s fac w.1.facility _ s' w.1.stands refl w.1.new_is (later_unregisters own s fac node app (Ok done) s' w)
unregisters_alone who own s fac node app (Err unregister.Memory) s' w = same_alone who s s' w
unregisters_alone who own s fac node app (Err unregister.NotThere) s' w = same_alone who s s' w.1
unregisters_alone who own s fac node app (Err (unregister.CountSpent n k)) s' w = same_alone who s s' w.1

pub claims_alone : (who : List ℕ → Type 0) (s : Seen) (fac node : ℕ) (app : List ℕ) (r : Option Port) (s' : Seen) → Claims s fac node app r s' → LeavesNow who s s'
claims_alone who s fac node app None s' w = same_alone who s s' w.1
claims_alone who s fac node app (Some port) s' w = named who s fac w.facility _ s' w.stands refl w.new_is (later_claims s fac node app (Some port) s' w)

-- one end more, or two

one_more : (who : List ℕ → Type 0) (x : End) → (who x.app → ⊥) × (who x.peer → ⊥) → (k : ℕ) (e : End) → slice_get (x ∷ []) k ≡ Some e → (who e.app → ⊥) × (who e.peer → ⊥)
one_more who x others zero e at = (let same : x ≡ e = cc in subst (λ (z : End). (who z.app → ⊥) × (who z.peer → ⊥)) same others)
one_more who x others (suc k) e at = cc

two_more : (who : List ℕ → Type 0) (x y : End) → (who x.app → ⊥) × (who x.peer → ⊥) → (who y.app → ⊥) × (who y.peer → ⊥) → (k : ℕ) (e : End) → slice_get (x ∷ y ∷ []) k ≡ Some e → (who e.app → ⊥) × (who e.peer → ⊥)
two_more who x y first second zero e at = (let same : x ≡ e = cc in subst (λ (z : End). (who z.app → ⊥) × (who z.peer → ⊥)) same first)
two_more who x y first second (suc k) e at = one_more who y second k e at

made_alone : (who : List ℕ → Type 0) (state : PortState) (f : Fac) (flow : FlowName) (port : Port) (ask : Ask) (cube : ℕ) (f' : Fac) → (who ask.app → ⊥) → (who ask.to → ⊥) → Makes state f flow port ask cube f' → LeavesEnds who f.ends f'.ends
made_alone who states.Pending f flow port ask cube f' app to w = rw w (more_alone who f.ends _ (one_more who _ (app, to)))
made_alone who states.Allocated f flow port ask cube f' app to w = rw w.1 (more_alone who f.ends _ (two_more who _ _ (app, to) (to, app)))
made_alone who (states.Refused why) f flow port ask cube f' app to w = absurd w
made_alone who (states.Failed fail) f flow port ask cube f' app to w = absurd w
made_alone who states.Closed f flow port ask cube f' app to w = absurd w

pub allocates_alone : (who : List ℕ → Type 0) (own : Option AllocateError) (s : Seen) (ask : Ask) (r : Result Port AllocateError) (s' : Seen) → (who ask.app → ⊥) → (who ask.to → ⊥) → Allocates own s ask r s' → LeavesNow who s s'
allocates_alone who own s ask (Ok port) s' app to w =
    let a = w.1 in
    let later = subst (IsLater s) a.new_is (later_allocates own s ask (Ok port) s' w) in
    subst (LeavesNow who s) (sym a.new_is) (fac_alone who s ask.fac a.facility a.facility' a.stands later (made_alone who a.state a.facility a.flow port ask a.cube.id a.facility' app to a.makes))
allocates_alone who own s ask (Err allocate.Memory) s' app to w = same_alone who s s' w
allocates_alone who own s ask (Err allocate.NoMember) s' app to w = same_alone who s s' w.1
allocates_alone who own s ask (Err allocate.NoCube) s' app to w = same_alone who s s' w.1
allocates_alone who own s ask (Err allocate.NoSuchApp) s' app to w = same_alone who s s' w.1
allocates_alone who own s ask (Err allocate.SameSystem) s' app to w = same_alone who s s' w.1
allocates_alone who own s ask (Err (allocate.NoIds used)) s' app to w = same_alone who s s' w.1
allocates_alone who own s ask (Err (allocate.NoRoute dst)) s' app to w = same_alone who s s' w.1
allocates_alone who own s ask (Err (allocate.Busy port)) s' app to w = same_alone who s s' w.1
allocates_alone who own s ask (Err (allocate.CountSpent n k)) s' app to w = same_alone who s s' w.1

pub binds_alone : (who : List ℕ → Type 0) (s : Seen) (fixed : Fixed) (r : Result (Port × Port) AllocateError) (s' : Seen) → (who fixed.a_app → ⊥) → (who fixed.b_app → ⊥) → Binds s fixed r s' → LeavesNow who s s'
binds_alone who s fixed (Ok ports) s' a b w =
    let later = subst (IsLater s) w.new_is (later_binds s fixed (Ok ports) s' w) in
    subst (LeavesNow who s) (sym w.new_is) (fac_alone who s fixed.fac w.facility _ w.stands later (more_alone who w.facility.ends _ (two_more who _ _ (a, b) (b, a))))
binds_alone who s fixed (Err allocate.Memory) s' a b w = same_alone who s s' w
binds_alone who s fixed (Err allocate.NoMember) s' a b w = absurd w
binds_alone who s fixed (Err allocate.NoCube) s' a b w = absurd w
binds_alone who s fixed (Err allocate.NoSuchApp) s' a b w = absurd w
binds_alone who s fixed (Err allocate.SameSystem) s' a b w = absurd w
binds_alone who s fixed (Err (allocate.NoIds used)) s' a b w = absurd w
binds_alone who s fixed (Err (allocate.NoRoute dst)) s' a b w = absurd w
binds_alone who s fixed (Err (allocate.Busy port)) s' a b w = absurd w
binds_alone who s fixed (Err (allocate.CountSpent n k)) s' a b w = absurd w

-- SDUs: all are left alone but the application of the port

pub sends_alone : (who : List ℕ → Type 0) (own : Option SendError) (s : Seen) (port : Port) (bytes : List ℕ) (r : Result Num SendError) (s' : Seen) → ((e : End) → end_of s port ≡ Some e → who e.app → ⊥) → Sends own s port bytes r s' → LeavesNow who s s'
sends_alone who own s port bytes (Ok num) s' other w =
    let x = w.1 in
    let later = subst (IsLater s) x.new_is (later_sends own s port bytes (Ok num) s' w) in
    let here = end_of_stands s port x.facility x.place x.end x.stands in
    subst (LeavesNow who s) (sym x.new_is) (fac_alone who s port.fac x.facility _ x.stands.facility later (end_alone who x.facility.ends x.place x.end _ x.stands.is (λ mine. absurd (other x.end here mine))))
sends_alone who own s port bytes (Err send.Memory) s' other w = same_alone who s s' w
sends_alone who own s port bytes (Err (send.NotAllocated state)) s' other w = same_alone who s s' w.1
sends_alone who own s port bytes (Err (send.Failed fail)) s' other w = same_alone who s s' w.1
sends_alone who own s port bytes (Err (send.TooLong len max)) s' other w = same_alone who s s' w.1
sends_alone who own s port bytes (Err (send.WindowShut n k)) s' other w = same_alone who s s' w.1
sends_alone who own s port bytes (Err (send.NoRoute dst)) s' other w = same_alone who s s' w.1
sends_alone who own s port bytes (Err (send.QueueFull n k)) s' other w = same_alone who s s' w.1
sends_alone who own s port bytes (Err (send.NumbersSpent until)) s' other w = same_alone who s s' w.1

pub passes_alone : (who : List ℕ → Type 0) (s : Seen) (port : Port) (s' : Seen) → ((e : End) → end_of s port ≡ Some e → who e.app → ⊥) → IsPassed s port s' → LeavesNow who s s'
passes_alone who s port s' other x =
    let later = subst (IsLater s) x.new_is (later_passes s port s' x) in
    let here = end_of_stands s port x.facility x.place x.end x.stands in
    subst (LeavesNow who s) (sym x.new_is) (fac_alone who s port.fac x.facility _ x.stands.facility later (end_alone who x.facility.ends x.place x.end _ x.stands.is (λ mine. absurd (other x.end here mine))))

-- The end of a flow sends and passes nothing

freed_alone : (who : List ℕ → Type 0) (both : Bool) (ends : List End) (place : ℕ) (e : End) (ends' : List End) → At ends place e → FreesEnds both ends place e ends' → LeavesEnds who ends ends'
freed_alone who false ends place e ends' at w = rw w (end_alone who ends place e (freed e) at (λ mine. (refl, refl)))
freed_alone who true ends place e ends' at (k, other, stands, partner, is) =
    let mid : List End = slice_set ends place (freed e) in
    let still : At mid k other = slice_get-set_other ends place k (freed e) (partners_apart ends place k e other at stands partner) ∙ stands in
    let first : LeavesEnds who ends mid = end_alone who ends place e (freed e) at (λ mine. (refl, refl)) in
    let second : LeavesEnds who mid (slice_set mid k (freed other)) = end_alone who mid k other (freed other) still (λ mine. (refl, refl)) in
    let later : AreLater 0 0 ends mid = ends_set 0 0 ends place e (freed e) at (end_restated 0 0 e (freed_state e.state) (moves_freed e.state)) in
    let after : AreLater 0 0 mid (slice_set mid k (freed other)) = ends_set 0 0 mid k other (freed other) still (end_restated 0 0 other (freed_state other.state) (moves_freed other.state)) in
    rw is (ends_on who 0 0 0 0 ends mid (slice_set mid k (freed other)) later after first second)

pub frees_alone : (who : List ℕ → Type 0) (both : Bool) (s : Seen) (port : Port) (r : Result (Unit {0}) FreeError) (s' : Seen) → Frees both s port r s' → LeavesNow who s s'
frees_alone who both s port (Ok done) s' w =
    let later = subst (IsLater s) w.new_is (later_frees both s port (Ok done) s' w) in
    subst (LeavesNow who s) (sym w.new_is) (fac_alone who s port.fac w.facility _ w.stands.facility later (freed_alone who both w.facility.ends w.place w.end w.ends w.stands.is w.frees))
frees_alone who both s port (Err free.Memory) s' w = same_alone who s s' w
frees_alone who both s port (Err free.NoPort) s' w = same_alone who s s' w.1
