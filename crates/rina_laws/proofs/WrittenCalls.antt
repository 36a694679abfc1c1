-- The calls of applications leave a tower that stands; of these only the freeing of a flow writes PDUs off, and with cause.
use Rattle.std.proofs.Common.{◌≡◌, ℕ, true, false, List, Option, None, IsSome, Result, refl, sym, ap, subst, inl, inr}
use Rattle.std.specs.Prelude.{◌||◌}
use Rattle.rina_account.specs.declared.ledger.Off.{Off}
use Rattle.rina_base.specs.declared.cause.Cause.{Cause}
use Rattle.rina_base.specs.declared.cause.Cause.TheVariants as causes
use Rattle.rina_base.specs.declared.number.Key.{Key}
use Rattle.rina_base.specs.declared.number.Num.{Num}
use Rattle.rina_base.specs.declared.number.Port.{Port}
use Rattle.rina_iface.specs.declared.ask.Ask.{Ask}
use Rattle.rina_iface.specs.declared.error.AllocateError.{AllocateError}
use Rattle.rina_iface.specs.declared.error.FreeError.{FreeError}
use Rattle.rina_iface.specs.declared.error.RegisterError.{RegisterError}
use Rattle.rina_iface.specs.declared.error.SendError.{SendError}
use Rattle.rina_iface.specs.declared.error.UnregisterError.{UnregisterError}
use Rattle.rina_iface.specs.Ends.{place_in}
use Rattle.rina_iface.specs.Seen.{Seen, unpassed}
use Rattle.rina_law.specs.Direction.{Direction}
use Rattle.rina_data.specs.Process.{Process}
use Rattle.rina_dif_law.specs.Dif.{DifSeen}
use Rattle.rina_dif_law.specs.WriteOffs.{MayBy, MayWriteOff, NoPort}
use Rattle.rina_dif_law.specs.WriteOffLaws.{Nothing}
use Rattle.rina_dif.specs.declared.cdap.CdapCallError.{CdapCallError}
use Rattle.rina_dif.specs.declared.dif.Dif.{Dif}
use Rattle.rina_dif.specs.Holding.{Holds}
use Rattle.rina_dif.specs.Shown.{seen_of as seen_of_dif}
use Rattle.rina_dif.proofs.Warrants.{frees_write, passes_write, sends_write}
use Rattle.rina_wire.specs.Air.{Air}
use Rattle.rina_wire.specs.Allocate.{own_allocate_refusal}
use Rattle.rina_wire.specs.Send.{own_send_refusal, passed}
use Rattle.rina_wire.specs.Sound.{IsSound}
use Rattle.rina_wire.proofs.Asked.{seen_allocates}
use Rattle.rina_wire.proofs.Carried.{seen_passes, seen_sends, waits_on}
use Rattle.rina_wire.proofs.Claims.{seen_claims}
use Rattle.rina_wire.proofs.Left.{seen_frees, seen_unregisters}
use Rattle.rina_wire.proofs.Seen.{seen_registers}
use Rattle.rina_wire.proofs.Sound.{sound_claims, sound_passed}
use Rattle.rina_wire.proofs.SoundAllocate.{sound_allocates}
use Rattle.rina_wire.proofs.SoundFree.{sound_frees}
use Rattle.rina_wire.proofs.SoundRegister.{sound_registers, sound_unregisters}
use Rattle.rina_wire.proofs.SoundSend.{sound_sends}
use Rattle.rina_tower.specs.declared.tower.Tower.{Tower, Wires, Rank'}
use Rattle.rina_tower.specs.Applications.{is_ipc_at}
use Rattle.rina_tower.specs.Bystanders.{Anyone, IsIpc, LeavesNow, is_ipc}
use Rattle.rina_tower.specs.Calls.{AllocatesAtTop, AllocatesFrom, ClaimsAtTop, FreesAtTop, FreesFrom, PassesAtTop, PassesFrom, RegistersAtTop, RegistersFrom, SendsAtTop, SendsFrom, Serves, UnregistersAtTop, UnregistersFrom}
use Rattle.rina_tower.specs.Cdap.{AsksAtTop, AsksOne}
use Rattle.rina_tower.specs.Levels.{AtDif, IsAtDif}
use Rattle.rina_tower.specs.Ranks.{now_of, seen_of, seen_of_difs}
use Rattle.rina_tower.specs.Refusals.{own_allocate, own_register, own_unregister}
use Rattle.rina_tower.specs.Stands.{IsRank, IsTower}
use Rattle.rina_tower.specs.Unchanged.{ChangesClaims}
use Rattle.rina_tower.proofs.Alone.{fewer_now}
use Rattle.rina_tower.proofs.Asked.{asked_alone, asked_rank}
use Rattle.rina_tower.proofs.Calling.{claims_alone, frees_alone, registers_alone, unregisters_alone}
use Rattle.rina_tower.proofs.Serving.{allocates_seen, claims_seen, frees_seen, passes_seen, rank_allocates, rank_frees, rank_passes, rank_registers, rank_sends, rank_serves, rank_unregisters, registers_seen, sends_seen, unregisters_seen}
use Rattle.rina_tower.proofs.Walks.{asked_beside, passed_beside, sent_beside}
use Rattle.rina_laws.specs.Written.{MayWrite, TakesNoMore}
use Rattle.rina_laws.proofs.WrittenGoes.{Goes, goes_same}
use Rattle.rina_laws.proofs.WrittenGrows.{Grows, MayBeWritten, RankGrows, any_grows, grows_same, one_grows, rank_more, same_grows, writes_grow}

-- ---- what may be written off

-- more ports take no more
may_by_more : (d : DifSeen) (lines : List Direction) (below : Seen) (down more : Port → Type 0) (addr : ℕ) (process : Process) (key : Key) (cause : Cause) → ((port : Port) → down port → more port) → MayBy d lines below down addr process key cause → MayBy d lines below more addr process key cause
may_by_more d lines below down more addr process key (causes.LinkDown port) all m = record { place = m.place; link = m.link; stands = m.stands; port_is = m.port_is; is_down = all port m.is_down }
may_by_more d lines below down more addr process key (causes.Expired left charge) all m = m
may_by_more d lines below down more addr process key (causes.NoRoute dst) all m = m
may_by_more d lines below down more addr process key (causes.QueueFull most) all m = m
may_by_more d lines below down more addr process key (causes.NoConnection cep) all m = m
may_by_more d lines below down more addr process key (causes.Duplicate num) all m = m
may_by_more d lines below down more addr process key (causes.Behind top) all m = m
may_by_more d lines below down more addr process key (causes.NoState drf) all m = m
may_by_more d lines below down more addr process key (causes.NoRoom most) all m = m
may_by_more d lines below down more addr process key (causes.StateGone last_in) all m = m
may_by_more d lines below down more addr process key (causes.Broken missing) all m = m

pub may_more : (d : DifSeen) (lines : List Direction) (below : Seen) (down more : Port → Type 0) (i : ℕ) (off : Off) → ((port : Port) → down port → more port) → MayWriteOff d lines below down i off → MayWriteOff d lines below more i off
may_more d lines below down more i off all m = record {
  member = m.member;
  process = m.process;
  is_process = m.is_process;
  may = elim (m.may) [
    | inl may ↦ inl (may_by_more d lines below down more m.member.addr m.process off.key off.cause all may)
    | inr link ↦ inr link
  ];
}

-- of a DIF that stands
pub may_write : (d : Dif) (lines : List Direction) (below : Tower) (down : Port → Type 0) (i : ℕ) (off : Off) → Holds d lines (seen_of below) → ((port : Port) → down port → TakesNoMore below port) → MayWriteOff (seen_of_dif d) lines (seen_of below) down i off → MayWrite d below i off
may_write d lines below down i off holds all m = record { lines = lines; holds = holds; may = inl (may_more (seen_of_dif d) lines (seen_of below) down (TakesNoMore below) i off all m) }

-- ---- a rank of DIFs, of which one did something

here : (W : MayBeWritten) (p p' : _) (difs difs' : List Dif) (below below' : Tower) → IsTower (Rank' p difs below) → IsRank difs' below → LeavesNow IsIpc (seen_of_difs (now_of below) difs) (seen_of_difs (now_of below) difs') → RankGrows W difs below difs' → below' ≡ below → Goes W (Rank' p difs below) (Rank' p' difs' below')
here W p p' difs difs' below below' v rank alone grows same = subst (λ (b : Tower). Goes W (Rank' p difs below) (Rank' p' difs' b)) (sym same) (record { valid = (rank, v.1); height = refl; alone = alone; grows = (grows, grows_same W below) })

-- a call that changes no IPC process writes nothing
serves_grow : (W : MayBeWritten) (changes : Dif → Dif → Type 0) (call : Seen → Seen → Type 0) (n : ℕ) (none : Type 0) (difs difs' : List Dif) (below : Tower) → ((d d' : Dif) → changes d d' → d'.processes ≡ d.processes) → AtDif n (Serves call changes n) none difs difs' → RankGrows W difs below difs'
serves_grow W changes call n none difs difs' below same a = any_grows W (Serves call changes n) n none difs difs' below (λ d d' at s. same_grows W below d d' (same d d' s.rest)) a

-- ---- what is done below a DIF that takes a step

pub record Stood (W : MayBeWritten) (t t' : Tower) : Type 0 where
  pub valid : IsTower t'
  pub grows : Grows W t t'

pub stood_same : (W : MayBeWritten) (t t' : Tower) → IsTower t → t' ≡ t → Stood W t t'
stood_same W t t' v is = subst (Stood W t) (sym is) (record { valid = v; grows = grows_same W t })

-- ---- names and asks

pub registers : (W : MayBeWritten) (fac node : ℕ) (app : List ℕ) (x : Result (Unit {0}) RegisterError) (u u' : Tower) → IsTower u → RegistersAtTop fac node app x u u' → Goes W u u'
registers W fac node app x (Wires a) (Wires a') v d = record {
  valid = sound_registers a fac node app x a' v d;
  height = refl;
  alone = registers_alone IsIpc None (seen_of (Wires a)) fac node app x (seen_of (Wires a')) (seen_registers a fac node app x a' d);
  grows = tt;
}
registers W fac node app x (Rank' p difs below) (Rank' p' difs' below') v d =
    let seen = registers_seen fac node app x difs difs' below v.0 d.0 in
    let alone = registers_alone IsIpc (own_register difs fac node) (seen_of_difs (now_of below) difs) fac node app x (seen_of_difs (now_of below) difs') seen in
    here W p p' difs difs' below below' v (rank_registers fac node app x _ difs difs' below v.0 v.1 d.0) alone (any_grows W (RegistersFrom fac node app x) fac _ difs difs' below (λ y y' at s. same_grows W below y y' (ap (λ (z : Dif). z.processes) s.serves.rest)) d.0) d.1
registers W fac node app x (Wires a) (Rank' p difs below) v d = absurd d
registers W fac node app x (Rank' p difs below) (Wires a) v d = absurd d

pub unregisters : (W : MayBeWritten) (fac node : ℕ) (app : List ℕ) (x : Result (Unit {0}) UnregisterError) (u u' : Tower) → IsTower u → UnregistersAtTop fac node app x u u' → Goes W u u'
unregisters W fac node app x (Wires a) (Wires a') v d = record {
  valid = sound_unregisters a fac node app x a' v d;
  height = refl;
  alone = unregisters_alone IsIpc None (seen_of (Wires a)) fac node app x (seen_of (Wires a')) (seen_unregisters a fac node app x a' d);
  grows = tt;
}
unregisters W fac node app x (Rank' p difs below) (Rank' p' difs' below') v d =
    let seen = unregisters_seen fac node app x difs difs' below v.0 d.0 in
    let alone = unregisters_alone IsIpc (own_unregister difs fac node) (seen_of_difs (now_of below) difs) fac node app x (seen_of_difs (now_of below) difs') seen in
    here W p p' difs difs' below below' v (rank_unregisters fac node app x _ difs difs' below v.0 v.1 d.0) alone (any_grows W (UnregistersFrom fac node app x) fac _ difs difs' below (λ y y' at s. same_grows W below y y' (ap (λ (z : Dif). z.processes) s.serves.rest)) d.0) d.1
unregisters W fac node app x (Wires a) (Rank' p difs below) v d = absurd d
unregisters W fac node app x (Rank' p difs below) (Wires a) v d = absurd d

asks_grow : (W : MayBeWritten) (ask : Ask) (x : Result Port AllocateError) (none : Type 0) (difs difs' : List Dif) (below : Tower) → AtDif ask.fac (AllocatesFrom ask x) none difs difs' → RankGrows W difs below difs'
asks_grow W ask x none difs difs' below a = any_grows W (AllocatesFrom ask x) ask.fac none difs difs' below (λ y y' at s. same_grows W below y y' (ap (λ (z : Dif). z.processes) s.serves.rest)) a

pub allocates : (W : MayBeWritten) (ask : Ask) (x : Result Port AllocateError) (u u' : Tower) → IsTower u → is_ipc ask.app || is_ipc ask.to ≡ false → AllocatesAtTop ask x u u' → Goes W u u'
allocates W ask x (Wires a) (Wires a') v plain d = record {
  valid = sound_allocates a ask x a' v d;
  height = refl;
  alone = asked_beside (own_allocate_refusal a ask) (seen_of (Wires a)) ask x (seen_of (Wires a')) plain (seen_allocates a ask x a' v d);
  grows = tt;
}
allocates W ask x (Rank' p difs below) (Rank' p' difs' below') v plain d =
    let seen = allocates_seen ask x difs difs' below v.0 d.0 in
    let alone = asked_beside (own_allocate difs ask) (seen_of_difs (now_of below) difs) ask x (seen_of_difs (now_of below) difs') plain seen in
    here W p p' difs difs' below below' v (rank_allocates ask x _ difs difs' below v.0 v.1 d.0) alone (asks_grow W ask x _ difs difs' below d.0) d.1
allocates W ask x (Wires a) (Rank' p difs below) v plain d = absurd d
allocates W ask x (Rank' p difs below) (Wires a) v plain d = absurd d

-- of an ask of any application, that of an IPC process too
pub allocates_stood : (W : MayBeWritten) (ask : Ask) (x : Result Port AllocateError) (u u' : Tower) → IsTower u → AllocatesAtTop ask x u u' → Stood W u u'
allocates_stood W ask x (Wires a) (Wires a') v d = record { valid = sound_allocates a ask x a' v d; grows = tt }
allocates_stood W ask x (Rank' p difs below) (Rank' p' difs' below') v d = subst (λ (b : Tower). Stood W (Rank' p difs below) (Rank' p' difs' b)) (sym d.1) (record {
  valid = (rank_allocates ask x _ difs difs' below v.0 v.1 d.0, v.1);
  grows = (asks_grow W ask x _ difs difs' below d.0, grows_same W below);
})
allocates_stood W ask x (Wires a) (Rank' p difs below) v d = absurd d
allocates_stood W ask x (Rank' p difs below) (Wires a) v d = absurd d

pub claims : (W : MayBeWritten) (fac node : ℕ) (app : List ℕ) (x : Option Port) (u u' : Tower) → IsTower u → ClaimsAtTop fac node app x u u' → Goes W u u'
claims W fac node app x (Wires a) (Wires a') v d = record {
  valid = sound_claims a fac node app x a' v d;
  height = refl;
  alone = claims_alone IsIpc (seen_of (Wires a)) fac node app x (seen_of (Wires a')) (seen_claims a fac node app x a' d);
  grows = tt;
}
claims W fac node app x (Rank' p difs below) (Rank' p' difs' below') v d =
    let seen = claims_seen fac node app x difs difs' below v.0 d.0 in
    let alone = claims_alone IsIpc (seen_of_difs (now_of below) difs) fac node app x (seen_of_difs (now_of below) difs') seen in
    here W p p' difs difs' below below' v (rank_serves _ fac _ difs difs' below v.0 v.1 d.0) alone (serves_grow W ChangesClaims _ fac _ difs difs' below (λ y y' s. ap (λ (z : Dif). z.processes) s) d.0) d.1
claims W fac node app x (Wires a) (Rank' p difs below) v d = absurd d
claims W fac node app x (Rank' p difs below) (Wires a) v d = absurd d

-- ---- SDUs

sends_grow : (W : MayBeWritten) (port : Port) (bytes : List ℕ) (x : Result Num SendError) (none : Type 0) (difs difs' : List Dif) (below : Tower) → IsRank difs below → AtDif port.fac (SendsFrom port bytes x) none difs difs' → RankGrows W difs below difs'
sends_grow W port bytes x none difs difs' below rank a = any_grows W (SendsFrom port bytes x) port.fac none difs difs' below (λ d d' at s.
    let st = rank.standing.stand port.fac d at in
    writes_grow W Nothing below d d' (λ i off no. absurd no) (sends_write d st.0 (seen_of below) (place_in port d.flows.journal.ends) bytes x d' (s.does st.0 (seen_of below) st.1))) a

pub sends_stood : (W : MayBeWritten) (port : Port) (bytes : List ℕ) (x : Result Num SendError) (u u' : Tower) → IsTower u → SendsAtTop port bytes x u u' → Stood W u u'
sends_stood W port bytes x (Wires a) (Wires a') v d = record { valid = sound_sends a port bytes x a' v d; grows = tt }
sends_stood W port bytes x (Rank' p difs below) (Rank' p' difs' below') v d = subst (λ (b : Tower). Stood W (Rank' p difs below) (Rank' p' difs' b)) (sym d.1) (record {
  valid = (rank_sends port bytes x _ difs difs' below v.0 v.1 d.0, v.1);
  grows = (sends_grow W port bytes x _ difs difs' below v.0 d.0, grows_same W below);
})
sends_stood W port bytes x (Wires a) (Rank' p difs below) v d = absurd d
sends_stood W port bytes x (Rank' p difs below) (Wires a) v d = absurd d

pub sends : (W : MayBeWritten) (port : Port) (bytes : List ℕ) (x : Result Num SendError) (u u' : Tower) → IsTower u → is_ipc_at (seen_of u) port ≡ false → SendsAtTop port bytes x u u' → Goes W u u'
sends W port bytes x (Wires a) (Wires a') v plain d = record {
  valid = sound_sends a port bytes x a' v d;
  height = refl;
  alone = sent_beside (own_send_refusal a port) (seen_of (Wires a)) port bytes x (seen_of (Wires a')) plain (seen_sends a port bytes x a' v d);
  grows = tt;
}
sends W port bytes x (Rank' p difs below) (Rank' p' difs' below') v plain d =
    let alone = sent_beside _ (seen_of_difs (now_of below) difs) port bytes x (seen_of_difs (now_of below) difs') plain (sends_seen port bytes x difs difs' below v.0 d.0) in
    here W p p' difs difs' below below' v (rank_sends port bytes x _ difs difs' below v.0 v.1 d.0) alone (sends_grow W port bytes x _ difs difs' below v.0 d.0) d.1
sends W port bytes x (Wires a) (Rank' p difs below) v plain d = absurd d
sends W port bytes x (Rank' p difs below) (Wires a) v plain d = absurd d

passes_grow : (W : MayBeWritten) (port : Port) (difs difs' : List Dif) (below : Tower) → IsRank difs below → IsAtDif (PassesFrom port) port.fac difs difs' → RankGrows W difs below difs'
passes_grow W port difs difs' below rank a = one_grows W (PassesFrom port) port.fac difs difs' below (λ d d' at s.
    let st = rank.standing.stand port.fac d at in
    writes_grow W Nothing below d d' (λ i off no. absurd no) (passes_write d st.0 port d' (seen_of below) (s.does st.0 (seen_of below) st.1))) a

pub passes_stood : (W : MayBeWritten) (port : Port) (u u' : Tower) → IsTower u → IsSome (unpassed (seen_of u) port) → PassesAtTop port u u' → Stood W u u'
passes_stood W port (Wires a) (Wires a') v waits d = record { valid = subst IsSound (sym d) (sound_passed a port v (waits_on a port waits)); grows = tt }
passes_stood W port (Rank' p difs below) (Rank' p' difs' below') v waits d = subst (λ (b : Tower). Stood W (Rank' p difs below) (Rank' p' difs' b)) (sym d.1) (record {
  valid = (rank_passes port difs difs' below v.0 v.1 d.0, v.1);
  grows = (passes_grow W port difs difs' below v.0 d.0, grows_same W below);
})
passes_stood W port (Wires a) (Rank' p difs below) v waits d = absurd d
passes_stood W port (Rank' p difs below) (Wires a) v waits d = absurd d

pub passes : (W : MayBeWritten) (port : Port) (u u' : Tower) → IsTower u → IsSome (unpassed (seen_of u) port) → is_ipc_at (seen_of u) port ≡ false → PassesAtTop port u u' → Goes W u u'
passes W port (Wires a) (Wires a') v waits plain d = subst (λ (z : Air). Goes W (Wires a) (Wires z)) (sym d) (record {
  valid = sound_passed a port v (waits_on a port waits);
  height = refl;
  alone = passed_beside (seen_of (Wires a)) port (seen_of (Wires (passed a port))) plain (seen_passes a port waits);
  grows = tt;
})
passes W port (Rank' p difs below) (Rank' p' difs' below') v waits plain d =
    let alone = passed_beside (seen_of_difs (now_of below) difs) port (seen_of_difs (now_of below) difs') plain (passes_seen port difs difs' below v.0 d.0) in
    here W p p' difs difs' below below' v (rank_passes port difs difs' below v.0 v.1 d.0) alone (passes_grow W port difs difs' below v.0 d.0) d.1
passes W port (Wires a) (Rank' p difs below) v waits plain d = absurd d
passes W port (Rank' p difs below) (Wires a) v waits plain d = absurd d

-- ---- the end of a flow

-- what may be written where a flow is freed; of no port it is said that its flow takes no more
pub record MayFree (d : Dif) (below : Tower) (i : ℕ) (off : Off) : Type 0 where
  pub lines : List Direction
  pub holds : Holds d lines (seen_of below)
  pub may : MayWriteOff (seen_of_dif d) lines (seen_of below) NoPort i off

no_port : (below : Tower) (port : Port) → NoPort port → TakesNoMore below port
no_port below port none = absurd none

pub may_free : (d : Dif) (below : Tower) (i : ℕ) (off : Off) → MayFree d below i off → MayWrite d below i off
may_free d below i off m = may_write d m.lines below NoPort i off m.holds (no_port below) m.may

frees_grow : (port : Port) (x : Result (Unit {0}) FreeError) (none : Type 0) (difs difs' : List Dif) (below : Tower) → IsRank difs below → AtDif port.fac (FreesFrom port x) none difs difs' → RankGrows MayFree difs below difs'
frees_grow port x none difs difs' below rank a = any_grows MayFree (FreesFrom port x) port.fac none difs difs' below (λ d d' at s.
    let st = rank.standing.stand port.fac d at in
    let seen = seen_of below in
    writes_grow MayFree (MayWriteOff (seen_of_dif d) st.0 seen NoPort) below d d' (λ i off m. record { lines = st.0; holds = st.1; may = m }) (frees_write d st.0 seen (place_in port d.flows.journal.ends) x d' st.1 (s.does st.0 seen st.1))) a

pub frees : (port : Port) (x : Result (Unit {0}) FreeError) (u u' : Tower) → IsTower u → FreesAtTop port x u u' → Goes MayWrite u u'
frees port x (Wires a) (Wires a') v d = record {
  valid = sound_frees a port x a' v d;
  height = refl;
  alone = frees_alone IsIpc true (seen_of (Wires a)) port x (seen_of (Wires a')) (seen_frees a port x a' v d);
  grows = tt;
}
frees port x (Rank' p difs below) (Rank' p' difs' below') v d =
    let alone = frees_alone IsIpc false (seen_of_difs (now_of below) difs) port x (seen_of_difs (now_of below) difs') (frees_seen port x difs difs' below v.0 d.0) in
    here MayWrite p p' difs difs' below below' v (rank_frees port x _ difs difs' below v.0 v.1 d.0) alone (rank_more MayFree MayWrite difs difs' below may_free (frees_grow port x _ difs difs' below v.0 d.0)) d.1
frees port x (Wires a) (Rank' p difs below) v d = absurd d
frees port x (Rank' p difs below) (Wires a) v d = absurd d

pub frees_stood : (port : Port) (x : Result (Unit {0}) FreeError) (u u' : Tower) → IsTower u → FreesAtTop port x u u' → Stood MayFree u u'
frees_stood port x (Wires a) (Wires a') v d = record { valid = sound_frees a port x a' v d; grows = tt }
frees_stood port x (Rank' p difs below) (Rank' p' difs' below') v d = subst (λ (b : Tower). Stood MayFree (Rank' p difs below) (Rank' p' difs' b)) (sym d.1) (record {
  valid = (rank_frees port x _ difs difs' below v.0 v.1 d.0, v.1);
  grows = (frees_grow port x _ difs difs' below v.0 d.0, grows_same MayFree below);
})
frees_stood port x (Wires a) (Rank' p difs below) v d = absurd d
frees_stood port x (Rank' p difs below) (Wires a) v d = absurd d

-- ---- CDAP

pub asks : (W : MayBeWritten) (dif node : ℕ) (bytes : List ℕ) (x : Result (List ℕ) CdapCallError) (u u' : Tower) → IsTower u → AsksAtTop dif node bytes x u u' → Goes W u u'
asks W dif node bytes x (Wires a) (Wires a') v d = goes_same W (Wires a) (Wires a') v (ap (λ (z : Air). Wires z) d.1)
asks W dif node bytes x (Rank' p difs below) (Rank' p' difs' below') v d =
    let alone = fewer_now Anyone IsIpc (seen_of_difs (now_of below) difs) (seen_of_difs (now_of below) difs') (λ name mine. tt) (asked_alone dif node bytes x _ (now_of below) difs difs' d.0) in
    here W p p' difs difs' below below' v (asked_rank dif node bytes x _ difs difs' below v.0 v.1 d.0) alone (any_grows W (AsksOne node bytes x) dif _ difs difs' below (λ y y' at s. same_grows W below y y' (ap (λ (z : Dif). z.processes) s.keeps.is)) d.0) d.1
asks W dif node bytes x (Wires a) (Rank' p difs below) v d = absurd d
asks W dif node bytes x (Rank' p difs below) (Wires a) v d = absurd d
