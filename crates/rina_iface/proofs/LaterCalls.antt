-- After each call journals are later.
use Rattle.std.proofs.Common.{◌≡◌, ◌≢◌, ℕ, Bool, true, false, List, slice_set, Option, Some, None, Result, Ok, Err, refl, sym, ◌∙◌, ap}
use Rattle.std.proofs.lemmas.Option.{same_Some}
use Rattle.rina_base.specs.declared.number.FlowName.{FlowName}
use Rattle.rina_base.specs.declared.number.Num.{Num}
use Rattle.rina_base.specs.declared.number.Port.{Port}
use Rattle.rina_iface.specs.declared.ask.Ask.{Ask}
use Rattle.rina_iface.specs.declared.ask.Fixed.{Fixed}
use Rattle.rina_iface.specs.declared.ends.End.{End}
use Rattle.rina_iface.specs.declared.error.AllocateError.{AllocateError}
use Rattle.rina_iface.specs.declared.error.AllocateError.TheVariants.{Memory as NoMemory, NoMember as NoPlace, NoCube, NoSuchApp, SameSystem, NoIds, NoRoute as NoWay, Busy, CountSpent as IdsSpent}
use Rattle.rina_iface.specs.declared.error.RegisterError.{RegisterError}
use Rattle.rina_iface.specs.declared.error.RegisterError.TheVariants.{Memory, Already, NoMember, CountSpent}
use Rattle.rina_iface.specs.declared.error.SendError.{SendError}
use Rattle.rina_iface.specs.declared.error.SendError.TheVariants.{NotAllocated, TooLong, WindowShut, NoRoute, QueueFull, NumbersSpent, Memory as OutOfMemory, Failed as HasFailed}
use Rattle.rina_iface.specs.declared.error.FreeError.{FreeError}
use Rattle.rina_iface.specs.declared.error.FreeError.TheVariants as free
use Rattle.rina_iface.specs.declared.error.UnregisterError.{UnregisterError}
use Rattle.rina_iface.specs.declared.error.UnregisterError.TheVariants as unregister
use Rattle.rina_iface.specs.declared.state.PortState.{PortState}
use Rattle.rina_iface.specs.declared.state.PortState.TheVariants.{Pending, Allocated, Refused, Failed, Closed}
use Rattle.rina_iface.specs.Allocate.{Allocates, Makes}
use Rattle.rina_iface.specs.Bind.{Binds, bound}
use Rattle.rina_iface.specs.Claim.{Claims}
use Rattle.rina_iface.specs.Free.{Frees, FreesEnds}
use Rattle.rina_iface.specs.Journal.{At, IsPartner}
use Rattle.rina_iface.specs.Later.{AreLater, IsLater, IsLaterFac}
use Rattle.rina_iface.specs.Pass.{IsPassed}
use Rattle.rina_iface.specs.Register.{Registers}
use Rattle.rina_iface.specs.Seen.{Fac, Seen}
use Rattle.rina_iface.specs.Send.{Sends}
use Rattle.rina_iface.specs.State.{freed, freed_state}
use Rattle.rina_iface.specs.Unregister.{Unregisters}
use Rattle.rina_iface.proofs.Changed.{slice_get-set_other}
use Rattle.rina_iface.proofs.LaterOn.{ends_on}
use Rattle.rina_iface.proofs.Later.{end_passed, end_restated, end_sent, ends_more, ends_refl, ends_set, later_fac, later_refl, moves_freed}

-- nothing changed
same : (s s' : Seen) → s' ≡ s → IsLater s s'
same s s' is = rw is (later_refl s)

pub later_registers : (own : Option RegisterError) (s : Seen) (fac node : ℕ) (app : List ℕ) (r : Result (Unit {0}) RegisterError) (s' : Seen) → Registers own s fac node app r s' → IsLater s s'
later_registers own s fac node app (Ok done) s' w = rw w.1.new_is (later_fac s fac w.1.facility _ w.1.stands (record { ends = ends_refl s.now s.now w.1.facility.ends; cubes = refl }))
later_registers own s fac node app (Err Memory) s' w = same s s' w
later_registers own s fac node app (Err Already) s' w = same s s' w.1
later_registers own s fac node app (Err NoMember) s' w = same s s' w.1
later_registers own s fac node app (Err (CountSpent n k)) s' w = same s s' w.1

later_made : (now : ℕ) (state : PortState) (f : Fac) (flow : FlowName) (port : Port) (ask : Ask) (cube : ℕ) (f' : Fac) → Makes state f flow port ask cube f' → IsLaterFac now now f f'
later_made now Pending f flow port ask cube f' w = rw w (record { ends = ends_more now now f.ends _; cubes = refl })
later_made now Allocated f flow port ask cube f' w = rw w.1 (record { ends = ends_more now now f.ends _; cubes = refl })
later_made now (Refused why) f flow port ask cube f' w = absurd w
later_made now (Failed fail) f flow port ask cube f' w = absurd w
later_made now Closed f flow port ask cube f' w = absurd w

pub later_allocates : (own : Option AllocateError) (s : Seen) (ask : Ask) (r : Result Port AllocateError) (s' : Seen) → Allocates own s ask r s' → IsLater s s'
later_allocates own s ask (Ok port) s' w =
    let a = w.1 in
    rw a.new_is (later_fac s ask.fac a.facility a.facility' a.stands (later_made s.now a.state a.facility a.flow port ask a.cube.id a.facility' a.makes))
later_allocates own s ask (Err NoMemory) s' w = same s s' w
later_allocates own s ask (Err NoPlace) s' w = same s s' w.1
later_allocates own s ask (Err NoCube) s' w = same s s' w.1
later_allocates own s ask (Err NoSuchApp) s' w = same s s' w.1
later_allocates own s ask (Err SameSystem) s' w = same s s' w.1
later_allocates own s ask (Err (NoIds used)) s' w = same s s' w.1
later_allocates own s ask (Err (NoWay dst)) s' w = same s s' w.1
later_allocates own s ask (Err (Busy port)) s' w = same s s' w.1
later_allocates own s ask (Err (IdsSpent n k)) s' w = same s s' w.1

pub later_unregisters : (own : Option UnregisterError) (s : Seen) (fac node : ℕ) (app : List ℕ) (r : Result (Unit {0}) UnregisterError) (s' : Seen) → Unregisters own s fac node app r s' → IsLater s s'
later_unregisters own s fac node app (Ok done) s' w = rw w.1.new_is (later_fac s fac w.1.facility _ w.1.stands (record { ends = ends_refl s.now s.now w.1.facility.ends; cubes = refl }))
later_unregisters own s fac node app (Err unregister.Memory) s' w = same s s' w
later_unregisters own s fac node app (Err unregister.NotThere) s' w = same s s' w.1
later_unregisters own s fac node app (Err (unregister.CountSpent n k)) s' w = same s s' w.1

pub later_binds : (s : Seen) (fixed : Fixed) (r : Result (Port × Port) AllocateError) (s' : Seen) → Binds s fixed r s' → IsLater s s'
later_binds s fixed (Ok ports) s' w = rw w.new_is (later_fac s fixed.fac w.facility (bound w.facility fixed w.flow) w.stands (record { ends = ends_more s.now s.now w.facility.ends _; cubes = refl }))
later_binds s fixed (Err NoMemory) s' w = same s s' w
later_binds s fixed (Err NoPlace) s' w = absurd w
later_binds s fixed (Err NoCube) s' w = absurd w
later_binds s fixed (Err NoSuchApp) s' w = absurd w
later_binds s fixed (Err SameSystem) s' w = absurd w
later_binds s fixed (Err (NoIds used)) s' w = absurd w
later_binds s fixed (Err (NoWay dst)) s' w = absurd w
later_binds s fixed (Err (Busy port)) s' w = absurd w
later_binds s fixed (Err (IdsSpent n k)) s' w = absurd w

-- two partners stand at two places
pub partners_apart : (ends : List End) (i k : ℕ) (e other : End) → At ends i e → At ends k other → IsPartner e other → k ≢ i
partners_apart ends i k e other he ho p same =
    let there : At ends i other = rw same at ho in
    let one : other ≡ e = same_Some other e (sym there ∙ he) in
    p.other_role (ap (λ (z : End). z.role) one)

later_freed : (now : ℕ) (both : Bool) (ends : List End) (place : ℕ) (e : End) (ends' : List End) → At ends place e → FreesEnds both ends place e ends' → AreLater now now ends ends'
later_freed now false ends place e ends' at w = rw w (ends_set now now ends place e (freed e) at (end_restated now now e (freed_state e.state) (moves_freed e.state)))
later_freed now true ends place e ends' at (k, other, stands, partner, is) =
    let mid : List End = slice_set ends place (freed e) in
    let still : At mid k other = slice_get-set_other ends place k (freed e) (partners_apart ends place k e other at stands partner) ∙ stands in
    let first : AreLater now now ends mid = ends_set now now ends place e (freed e) at (end_restated now now e (freed_state e.state) (moves_freed e.state)) in
    let second : AreLater now now mid (slice_set mid k (freed other)) = ends_set now now mid k other (freed other) still (end_restated now now other (freed_state other.state) (moves_freed other.state)) in
    rw is (ends_on now now ends mid (slice_set mid k (freed other)) first second)

pub later_frees : (both : Bool) (s : Seen) (port : Port) (r : Result (Unit {0}) FreeError) (s' : Seen) → Frees both s port r s' → IsLater s s'
later_frees both s port (Ok done) s' w = rw w.new_is (later_fac s port.fac w.facility _ w.stands.facility (record { ends = later_freed s.now both w.facility.ends w.place w.end w.ends w.stands.is w.frees; cubes = refl }))
later_frees both s port (Err free.Memory) s' w = same s s' w
later_frees both s port (Err free.NoPort) s' w = same s s' w.1

pub later_claims : (s : Seen) (fac node : ℕ) (app : List ℕ) (r : Option Port) (s' : Seen) → Claims s fac node app r s' → IsLater s s'
later_claims s fac node app None s' w = same s s' w.1
later_claims s fac node app (Some port) s' w = rw w.new_is (later_fac s fac w.facility _ w.stands (record { ends = ends_refl s.now s.now w.facility.ends; cubes = refl }))

pub later_sends : (own : Option SendError) (s : Seen) (port : Port) (bytes : List ℕ) (r : Result Num SendError) (s' : Seen) → Sends own s port bytes r s' → IsLater s s'
later_sends own s port bytes (Ok num) s' w =
    let x = w.1 in
    rw x.new_is (later_fac s port.fac x.facility _ x.stands.facility (record { ends = ends_set s.now s.now x.facility.ends x.place x.end _ x.stands.is (end_sent s.now x.end (record { tick = s.now; num = num; bytes = bytes }) refl); cubes = refl }))
later_sends own s port bytes (Err OutOfMemory) s' w = same s s' w
later_sends own s port bytes (Err (NotAllocated state)) s' w = same s s' w.1
later_sends own s port bytes (Err (HasFailed fail)) s' w = same s s' w.1
later_sends own s port bytes (Err (TooLong len max)) s' w = same s s' w.1
later_sends own s port bytes (Err (WindowShut n k)) s' w = same s s' w.1
later_sends own s port bytes (Err (NoRoute dst)) s' w = same s s' w.1
later_sends own s port bytes (Err (QueueFull n k)) s' w = same s s' w.1
later_sends own s port bytes (Err (NumbersSpent until)) s' w = same s s' w.1

pub later_passes : (s : Seen) (port : Port) (s' : Seen) → IsPassed s port s' → IsLater s s'
later_passes s port s' w = rw w.new_is (later_fac s port.fac w.facility _ w.stands.facility (record { ends = ends_set s.now s.now w.facility.ends w.place w.end _ w.stands.is (end_passed s.now w.end); cubes = refl }))
