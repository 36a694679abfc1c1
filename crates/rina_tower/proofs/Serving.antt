-- What a call at one DIF is to its rank.
use Rattle.std.proofs.Common.{◌≡◌, ◌∙◌, ℕ, ◌<◌, List, get_or, length, slice_get, slice_set, Option, Some, None, option_and_then, option_map, Result, Err, false, refl, sym, ap, subst, arith, inl, inr}
use Rattle.std.proofs.lemmas.Bool.{false≢true}
use Rattle.std.proofs.lemmas.Option.{get_or_from_slice_get, same_Some, slice_get-map}
use Rattle.rina_base.specs.declared.number.Num.{Num}
use Rattle.rina_base.specs.declared.number.Port.{Port}
use Rattle.rina_iface.specs.declared.ask.Ask.{Ask}
use Rattle.rina_iface.specs.declared.error.AllocateError.{AllocateError}
use Rattle.rina_iface.specs.declared.error.AllocateError.TheVariants as allocate
use Rattle.rina_iface.specs.declared.error.FreeError.{FreeError}
use Rattle.rina_iface.specs.declared.error.FreeError.TheVariants as free
use Rattle.rina_iface.specs.declared.error.RegisterError.{RegisterError}
use Rattle.rina_iface.specs.declared.error.RegisterError.TheVariants as register
use Rattle.rina_iface.specs.declared.error.SendError.{SendError}
use Rattle.rina_iface.specs.declared.error.SendError.TheVariants as send
use Rattle.rina_iface.specs.declared.error.UnregisterError.{UnregisterError}
use Rattle.rina_iface.specs.declared.error.UnregisterError.TheVariants as unregister
use Rattle.rina_iface.specs.declared.ask.Fixed.{Fixed}
use Rattle.rina_iface.specs.Allocate.{Allocates}
use Rattle.rina_iface.specs.Bind.{Binds, CanBind}
use Rattle.rina_dif_law.proofs.Own.{map_at}
use Rattle.rina_iface.specs.Claim.{Claims}
use Rattle.rina_iface.specs.Free.{Frees}
use Rattle.rina_iface.specs.Pass.{IsPassed}
use Rattle.rina_iface.specs.Register.{Registers}
use Rattle.std.specs.Prelude.{IsSome}
use Rattle.rina_iface.specs.declared.ends.End.{End}
use Rattle.rina_iface.specs.Ends.{end_in}
use Rattle.rina_iface.specs.Seen.{Fac, Seen, unpassed}
use Rattle.rina_iface.specs.Send.{Sends}
use Rattle.rina_iface.specs.Unregister.{Unregisters}
use Rattle.rina_dif.specs.declared.dif.Dif.{Dif}
use Rattle.rina_dif.specs.Allocating.{allocate_refusal}
use Rattle.rina_dif.specs.Facade.{StaysStanding, own_refusal}
use Rattle.rina_dif.specs.Registering.{register_refusal, unregister_refusal}
use Rattle.rina_dif.proofs.Bound.{may_bind as may_make}
use Rattle.rina_tower.specs.declared.tower.Tower.{Tower, Rank', Wires}
use Rattle.rina_tower.specs.Bystanders.{Anyone, IsIpc, LeavesNow}
use Rattle.rina_tower.specs.Calls.{AllocatesFrom, AreDifs, BindsFrom, MayBind, FreesFrom, PassesFrom, RegistersFrom, SendsFrom, Serves, UnregistersFrom, WaitsThere}
use Rattle.rina_tower.specs.Refusals.{own_allocate, own_register, own_unregister}
use Rattle.rina_tower.specs.Ranks.{fac_of_dif, height_of, now_of, seen_now, seen_of, seen_of_difs}
use Rattle.rina_tower.specs.Stands.{AreStanding, At, IsRank, IsTower, kept_of}
use Rattle.rina_tower.specs.Levels.{AtDif, IsAtDif, SameBelow}
use Rattle.rina_tower.specs.Unchanged.{ChangesClaims}
use Rattle.rina_tower.proofs.Alone.{fewer_now, same_alone}
use Rattle.rina_tower.proofs.Ranking.{is_rank, shown_after, shows, standing_after, standing_beside}

-- the DIFs of a rank are DIFs
pub rank_difs : (difs : List Dif) (below : Tower) → IsRank difs below → AreDifs difs
rank_difs difs below rank n d at =
    let s = rank.standing.stand n d at in
    let clock = s.1.standing.clock in
    let same = seen_now below in
    let ends = rank.clock in
    record { below = seen_of below; stands = s; clock = omega (arith, clock, same, ends) }

-- The rank stands on

pub rank_after : (difs difs' : List Dif) (below : Tower) (n : ℕ) (d d' : Dif) → IsRank difs below → IsTower below → At difs n d → StaysStanding d d' → d'.settings ≡ d.settings → difs' ≡ slice_set difs n d' → IsRank difs' below
rank_after difs difs' below n d d' rank v at stays settings is =
    let s = rank.standing.stand n d at in
    let after = standing_after difs (seen_of below) (seen_of below) n d d' rank.standing at settings (stays (seen_of below) s) (λ other lines apart h. h) in
    is_rank difs' below v rank.low (subst (λ (ds : List Dif). AreStanding ds (seen_of below)) (sym is) after)

pub rank_serves : {changes : Dif → Dif → Type 0} (call : Seen → Seen → Type 0) (n : ℕ) (none : Type 0) (difs difs' : List Dif) (below : Tower) → IsRank difs below → IsTower below → AtDif n (Serves call changes n) none difs difs' → IsRank difs' below
rank_serves call n none difs difs' below rank v a = elim a [
  | inl h ↦ rank_after difs difs' below n h.dif h.dif' rank v h.is_dif h.done.stands h.done.settings h.new_is
  | inr h ↦ subst (λ (ds : List Dif). IsRank ds below) (sym h.2) rank
]

pub rank_sends : (port : Port) (bytes : List ℕ) (result : Result Num SendError) (none : Type 0) (difs difs' : List Dif) (below : Tower) → IsRank difs below → IsTower below → AtDif port.fac (SendsFrom port bytes result) none difs difs' → IsRank difs' below
rank_sends port bytes result none difs difs' below rank v a = elim a [
  | inl h ↦ rank_after difs difs' below port.fac h.dif h.dif' rank v h.is_dif h.done.serves.stands h.done.serves.settings h.new_is
  | inr h ↦ subst (λ (ds : List Dif). IsRank ds below) (sym h.2) rank
]

pub rank_registers : (fac node : ℕ) (app : List ℕ) (result : Result (Unit {0}) RegisterError) (none : Type 0) (difs difs' : List Dif) (below : Tower) → IsRank difs below → IsTower below → AtDif fac (RegistersFrom fac node app result) none difs difs' → IsRank difs' below
rank_registers fac node app result none difs difs' below rank v a = elim a [
  | inl h ↦ rank_after difs difs' below fac h.dif h.dif' rank v h.is_dif h.done.serves.stands h.done.serves.settings h.new_is
  | inr h ↦ subst (λ (ds : List Dif). IsRank ds below) (sym h.2) rank
]

pub rank_unregisters : (fac node : ℕ) (app : List ℕ) (result : Result (Unit {0}) UnregisterError) (none : Type 0) (difs difs' : List Dif) (below : Tower) → IsRank difs below → IsTower below → AtDif fac (UnregistersFrom fac node app result) none difs difs' → IsRank difs' below
rank_unregisters fac node app result none difs difs' below rank v a = elim a [
  | inl h ↦ rank_after difs difs' below fac h.dif h.dif' rank v h.is_dif h.done.serves.stands h.done.serves.settings h.new_is
  | inr h ↦ subst (λ (ds : List Dif). IsRank ds below) (sym h.2) rank
]

pub rank_allocates : (ask : Ask) (result : Result Port AllocateError) (none : Type 0) (difs difs' : List Dif) (below : Tower) → IsRank difs below → IsTower below → AtDif ask.fac (AllocatesFrom ask result) none difs difs' → IsRank difs' below
rank_allocates ask result none difs difs' below rank v a = elim a [
  | inl h ↦ rank_after difs difs' below ask.fac h.dif h.dif' rank v h.is_dif h.done.serves.stands h.done.serves.settings h.new_is
  | inr h ↦ subst (λ (ds : List Dif). IsRank ds below) (sym h.2) rank
]

pub rank_passes : (port : Port) (difs difs' : List Dif) (below : Tower) → IsRank difs below → IsTower below → IsAtDif (PassesFrom port) port.fac difs difs' → IsRank difs' below
rank_passes port difs difs' below rank v h = rank_after difs difs' below port.fac h.dif h.dif' rank v h.is_dif h.done.serves.stands h.done.serves.settings h.new_is

pub rank_frees : (port : Port) (result : Result (Unit {0}) FreeError) (none : Type 0) (difs difs' : List Dif) (below : Tower) → IsRank difs below → IsTower below → AtDif port.fac (FreesFrom port result) none difs difs' → IsRank difs' below
rank_frees port result none difs difs' below rank v a = elim a [
  | inl h ↦ rank_after difs difs' below port.fac h.dif h.dif' rank v h.is_dif h.done.serves.stands h.done.serves.settings h.new_is
  | inr h ↦ subst (λ (ds : List Dif). IsRank ds below) (sym h.2) rank
]

-- What the rank shows

pub call_seen : {changes : Dif → Dif → Type 0} (call : Seen → Seen → Type 0) (n : ℕ) (difs difs' : List Dif) (below : Tower) (d d' : Dif) → IsRank difs below → At difs n d → Serves call changes n d d' → difs' ≡ slice_set difs n d' → call (seen_of_difs (now_of below) difs) (seen_of_difs (now_of below) difs')
call_seen call n difs difs' below d d' rank at serves is =
    let now = now_of below in
    let there = serves.shown (seen_of_difs now difs) (shows difs (seen_of below) n d now (seen_now below) rank.standing at) in
    let after : seen_of_difs now difs' ≡ seen_of_difs now (slice_set difs n d') = ap (seen_of_difs now) is in
    subst (call (seen_of_difs now difs)) (sym (after ∙ shown_after difs n d' now)) there

none_there : (difs : List Dif) (n now : ℕ) → slice_get difs n ≡ None → slice_get (seen_of_difs now difs).facs n ≡ None
none_there difs n now none = slice_get-map fac_of_dif difs n ∙ ap (option_map fac_of_dif) none

-- the DIF of a call refuses what it does by itself
pub own_there : {E : Type 0} (refusal : Dif → Option E) (difs : List Dif) (n : ℕ) (d : Dif) → slice_get difs n ≡ Some d → option_and_then refusal (slice_get difs n) ≡ refusal d
own_there refusal difs n d is = ap (option_and_then refusal) is

pub registers_seen : (fac node : ℕ) (app : List ℕ) (result : Result (Unit {0}) RegisterError) (difs difs' : List Dif) (below : Tower) → IsRank difs below → AtDif fac (RegistersFrom fac node app result) (result ≡ Err register.NoMember) difs difs' → Registers (own_register difs fac node) (seen_of_difs (now_of below) difs) fac node app result (seen_of_difs (now_of below) difs')
registers_seen fac node app result difs difs' below rank a = elim a [
  | inl h ↦
      (let own = own_there (λ (d : Dif). register_refusal d node) difs fac h.dif h.is_dif in
      subst (λ (o : Option RegisterError). Registers o (seen_of_difs (now_of below) difs) fac node app result (seen_of_difs (now_of below) difs')) (sym own)
      (call_seen (λ s s'. Registers (register_refusal h.dif node) s fac node app result s') fac difs difs' below h.dif h.dif' rank h.is_dif h.done.serves h.new_is))
  | inr h ↦ subst (λ (r : Result (Unit {0}) RegisterError). Registers (own_register difs fac node) (seen_of_difs (now_of below) difs) fac node app r (seen_of_difs (now_of below) difs')) (sym h.1) (rw (none_there difs fac (now_of below) h.0) refl, ap (seen_of_difs (now_of below)) h.2)
]

pub unregisters_seen : (fac node : ℕ) (app : List ℕ) (result : Result (Unit {0}) UnregisterError) (difs difs' : List Dif) (below : Tower) → IsRank difs below → AtDif fac (UnregistersFrom fac node app result) (result ≡ Err unregister.NotThere) difs difs' → Unregisters (own_unregister difs fac node) (seen_of_difs (now_of below) difs) fac node app result (seen_of_difs (now_of below) difs')
unregisters_seen fac node app result difs difs' below rank a = elim a [
  | inl h ↦
      (let own = own_there (λ (d : Dif). unregister_refusal d node) difs fac h.dif h.is_dif in
      subst (λ (o : Option UnregisterError). Unregisters o (seen_of_difs (now_of below) difs) fac node app result (seen_of_difs (now_of below) difs')) (sym own)
      (call_seen (λ s s'. Unregisters (unregister_refusal h.dif node) s fac node app result s') fac difs difs' below h.dif h.dif' rank h.is_dif h.done.serves h.new_is))
  | inr h ↦ subst (λ (r : Result (Unit {0}) UnregisterError). Unregisters (own_unregister difs fac node) (seen_of_difs (now_of below) difs) fac node app r (seen_of_difs (now_of below) difs')) (sym h.1) (rw (none_there difs fac (now_of below) h.0) refl, ap (seen_of_difs (now_of below)) h.2)
]

pub allocates_seen : (ask : Ask) (result : Result Port AllocateError) (difs difs' : List Dif) (below : Tower) → IsRank difs below → AtDif ask.fac (AllocatesFrom ask result) (result ≡ Err allocate.NoMember) difs difs' → Allocates (own_allocate difs ask) (seen_of_difs (now_of below) difs) ask result (seen_of_difs (now_of below) difs')
allocates_seen ask result difs difs' below rank a = elim a [
  | inl h ↦
      (let own = own_there (λ (d : Dif). allocate_refusal d ask) difs ask.fac h.dif h.is_dif in
      subst (λ (o : Option AllocateError). Allocates o (seen_of_difs (now_of below) difs) ask result (seen_of_difs (now_of below) difs')) (sym own)
      (call_seen (λ s s'. h.dif.settings.fac ≡ ask.fac → Allocates (allocate_refusal h.dif ask) s ask result s') ask.fac difs difs' below h.dif h.dif' rank h.is_dif h.done.serves h.new_is (rank.standing.number ask.fac h.dif h.is_dif)))
  | inr h ↦ subst (λ (r : Result Port AllocateError). Allocates (own_allocate difs ask) (seen_of_difs (now_of below) difs) ask r (seen_of_difs (now_of below) difs')) (sym h.1) (rw (none_there difs ask.fac (now_of below) h.0) refl, ap (seen_of_difs (now_of below)) h.2)
]

pub claims_seen : (fac node : ℕ) (app : List ℕ) (result : Option Port) (difs difs' : List Dif) (below : Tower) → IsRank difs below → AtDif fac (Serves (λ s s'. Claims s fac node app result s') ChangesClaims fac) (result ≡ None) difs difs' → Claims (seen_of_difs (now_of below) difs) fac node app result (seen_of_difs (now_of below) difs')
claims_seen fac node app result difs difs' below rank a = elim a [
  | inl h ↦ call_seen (λ s s'. Claims s fac node app result s') fac difs difs' below h.dif h.dif' rank h.is_dif h.done h.new_is
  | inr h ↦ subst (λ (r : Option Port). Claims (seen_of_difs (now_of below) difs) fac node app r (seen_of_difs (now_of below) difs')) (sym h.1) (rw (none_there difs fac (now_of below) h.0) tt, ap (seen_of_difs (now_of below)) h.2)
]

pub sends_seen : (port : Port) (bytes : List ℕ) (result : Result Num SendError) (difs difs' : List Dif) (below : Tower) → IsRank difs below → AtDif port.fac (SendsFrom port bytes result) (result ≡ Err (send.NotAllocated None)) difs difs' → Sends (option_and_then (λ (d : Dif). own_refusal d port (length bytes)) (slice_get difs port.fac)) (seen_of_difs (now_of below) difs) port bytes result (seen_of_difs (now_of below) difs')
sends_seen port bytes result difs difs' below rank a = elim a [
  | inl h ↦
      let s = seen_of_difs (now_of below) difs in
      let own : option_and_then (λ (d : Dif). own_refusal d port (length bytes)) (slice_get difs port.fac) ≡ own_refusal h.dif port (length bytes) = ap (option_and_then (λ (d : Dif). own_refusal d port (length bytes))) h.is_dif in
      subst (λ (o : Option SendError). Sends o s port bytes result (seen_of_difs (now_of below) difs')) (sym own) (call_seen (λ s s'. Sends (own_refusal h.dif port (length bytes)) s port bytes result s') port.fac difs difs' below h.dif h.dif' rank h.is_dif h.done.serves h.new_is)
  | inr h ↦ subst (λ (r : Result Num SendError). Sends (option_and_then (λ (d : Dif). own_refusal d port (length bytes)) (slice_get difs port.fac)) (seen_of_difs (now_of below) difs) port bytes r (seen_of_difs (now_of below) difs')) (sym h.1) (rw (none_there difs port.fac (now_of below) h.0) refl, ap (seen_of_difs (now_of below)) h.2)
]

pub passes_seen : (port : Port) (difs difs' : List Dif) (below : Tower) → IsRank difs below → IsAtDif (PassesFrom port) port.fac difs difs' → IsPassed (seen_of_difs (now_of below) difs) port (seen_of_difs (now_of below) difs')
passes_seen port difs difs' below rank h = call_seen (λ s s'. IsPassed s port s') port.fac difs difs' below h.dif h.dif' rank h.is_dif h.done.serves h.new_is

pub frees_seen : (port : Port) (result : Result (Unit {0}) FreeError) (difs difs' : List Dif) (below : Tower) → IsRank difs below → AtDif port.fac (FreesFrom port result) (result ≡ Err free.NoPort) difs difs' → Frees false (seen_of_difs (now_of below) difs) port result (seen_of_difs (now_of below) difs')
frees_seen port result difs difs' below rank a = elim a [
  | inl h ↦ call_seen (λ s s'. Frees false s port result s') port.fac difs difs' below h.dif h.dif' rank h.is_dif h.done.serves h.new_is
  | inr h ↦ subst (λ (r : Result (Unit {0}) FreeError). Frees false (seen_of_difs (now_of below) difs) port r (seen_of_difs (now_of below) difs')) (sym h.1) (rw (none_there difs port.fac (now_of below) h.0) refl, ap (seen_of_difs (now_of below)) h.2)
]

-- What is done at a rank below

-- the height stays where nothing below the top rank changes
pub same_height : (t t' : Tower) → SameBelow t t' → height_of t' ≡ height_of t
same_height (Wires a) (Wires a') h = refl
same_height (Rank' p difs below) (Rank' p' difs' below') h = rw h.1 refl
same_height (Wires a) (Rank' p' difs' below') h = absurd h
same_height (Rank' p difs below) (Wires a') h = absurd h

-- a rank stands on where the tower below did something that left IPC processes alone
pub rank_beside : (difs : List Dif) (below below' : Tower) → IsRank difs below → IsTower below → IsTower below' → height_of below' ≡ height_of below → LeavesNow IsIpc (seen_of below) (seen_of below') → IsRank difs below'
rank_beside difs below below' rank v v' height alone =
    let low = rank.low in
    is_rank difs below' v' (omega (arith, low, height)) (standing_beside difs (seen_of below) (seen_of below') (kept_of below v) (kept_of below' v') alone rank.standing)

pub rank_quiet : (difs : List Dif) (below below' : Tower) → IsRank difs below → IsTower below → IsTower below' → height_of below' ≡ height_of below → LeavesNow Anyone (seen_of below) (seen_of below') → IsRank difs below'
rank_quiet difs below below' rank v v' height alone = rank_beside difs below below' rank v v' height (fewer_now Anyone IsIpc (seen_of below) (seen_of below') (λ name mine. tt) alone)

-- and shows what it showed
pub beside_alone : (who : List ℕ → Type 0) (difs : List Dif) (below below' : Tower) → LeavesNow who (seen_of below) (seen_of below') → LeavesNow who (seen_of_difs (now_of below) difs) (seen_of_difs (now_of below') difs)
beside_alone who difs below below' alone =
    let clock : now_of below' ≡ now_of below = sym (seen_now below') ∙ alone.clock ∙ seen_now below in
    same_alone who (seen_of_difs (now_of below) difs) (seen_of_difs (now_of below') difs) (ap (λ (n : ℕ). seen_of_difs n difs) clock)

-- a rank after a step of one of its DIFs
pub rank_stepped : (difs' : List Dif) (below below' : Tower) → height_of below < 8 → IsTower below' → SameBelow below below' → AreStanding difs' (seen_of below') → IsRank difs' below'
rank_stepped difs' below below' low v' same st = (let height = same_height below below' same in is_rank difs' below' v' (omega (arith, low, height)) st)

pub stepped_alone : (who : List ℕ → Type 0) (difs difs' : List Dif) (below below' : Tower) → (seen_of below').now ≡ (seen_of below).now → LeavesNow who (seen_of_difs (seen_of below).now difs) (seen_of_difs (seen_of below).now difs') → LeavesNow who (seen_of_difs (now_of below) difs) (seen_of_difs (now_of below') difs')
stepped_alone who difs difs' below below' clock alone =
    let now : (seen_of below).now ≡ now_of below = seen_now below in
    let now' : (seen_of below).now ≡ now_of below' = sym clock ∙ seen_now below' in
    subst (λ (n : ℕ). LeavesNow who (seen_of_difs (now_of below) difs) (seen_of_difs n difs')) now' (subst (λ (n : ℕ). LeavesNow who (seen_of_difs n difs) (seen_of_difs (seen_of below).now difs')) now alone)

-- The DIF of a place was written

pub at_one : (does : Dif → Dif → Type 0) (n : ℕ) (difs items : List Dif) (x d one one' : Dif) → items ≡ difs → slice_get difs n ≡ Some x → one ≡ get_or items n d → does one one' → IsAtDif does n difs (slice_set items n one')
at_one does n difs items x d one one' is at value done =
    let there : slice_get items n ≡ Some x = subst (λ (ds : List Dif). slice_get ds n ≡ Some x) (sym is) at in
    let same : one ≡ x = value ∙ get_or_from_slice_get items n x d there in
    record {
      dif = one;
      dif' = one';
      is_dif = at ∙ ap (λ (z : Dif). Some z) (sym same);
      done = done;
      new_is = ap (λ (ds : List Dif). slice_set ds n one') is;
    }

pub one_at : (n : ℕ) (difs items : List Dif) (x d one : Dif) → items ≡ difs → slice_get difs n ≡ Some x → one ≡ get_or items n d → slice_get difs n ≡ Some one
one_at n difs items x d one is at value =
    let there : slice_get items n ≡ Some x = subst (λ (ds : List Dif). slice_get ds n ≡ Some x) (sym is) at in
    let same : one ≡ x = value ∙ get_or_from_slice_get items n x d there in
    at ∙ ap (λ (z : Dif). Some z) (sym same)

-- An SDU that waits at a port of the rank waits at its DIF

pub waits_there : (difs : List Dif) (now : ℕ) (port : Port) → IsSome (unpassed (seen_of_difs now difs) port) → WaitsThere difs port
waits_there difs now port some = go (slice_get difs port.fac) refl (subst (λ (o : Option Fac). IsSome (option_and_then (λ (e : End). slice_get e.got e.taken) (option_and_then (λ (f : Fac). end_in port f.ends) o))) (slice_get-map fac_of_dif difs port.fac) some)
  where
    go : (o : Option Dif) → slice_get difs port.fac ≡ o → IsSome (option_and_then (λ (e : End). slice_get e.got e.taken) (option_and_then (λ (f : Fac). end_in port f.ends) (option_map fac_of_dif o))) → WaitsThere difs port
    go None h s = absurd (false≢true s)
    go (Some d) h s = record { dif = d; is_dif = h; waits = s }

-- A fixed flow

pub rank_binds : (fixed : Fixed) (result : Result (Port × Port) AllocateError) (difs difs' : List Dif) (below : Tower) → IsRank difs below → IsTower below → IsAtDif (BindsFrom fixed result) fixed.fac difs difs' → IsRank difs' below
rank_binds fixed result difs difs' below rank v h = rank_after difs difs' below fixed.fac h.dif h.dif' rank v h.is_dif h.done.serves.stands h.done.serves.settings h.new_is

pub binds_seen : (fixed : Fixed) (result : Result (Port × Port) AllocateError) (difs difs' : List Dif) (below : Tower) → IsRank difs below → IsAtDif (BindsFrom fixed result) fixed.fac difs difs' → Binds (seen_of_difs (now_of below) difs) fixed result (seen_of_difs (now_of below) difs')
binds_seen fixed result difs difs' below rank h = call_seen (λ s s'. Binds s fixed result s') fixed.fac difs difs' below h.dif h.dif' rank h.is_dif h.done.serves h.new_is

pub may_bind : (difs : List Dif) (below : Tower) (fixed : Fixed) → IsRank difs below → CanBind (seen_of_difs (now_of below) difs) fixed → MayBind difs fixed
may_bind difs below fixed rank can =
    let m = map_at fac_of_dif difs fixed.fac can.facility can.stands in
    record {
      dif = m.0;
      is_dif = m.1;
      may = may_make m.0 fixed (seen_of_difs (now_of below) difs) (rank_difs difs below rank fixed.fac m.0 m.1) (rank.standing.number fixed.fac m.0 m.1) (shows difs (seen_of below) fixed.fac m.0 (now_of below) (seen_now below) rank.standing m.1) can;
    }

-- the DIF that may make it is the one of that place
pub same_binder : (difs : List Dif) (fixed : Fixed) (one : Dif) → slice_get difs fixed.fac ≡ Some one → (may : MayBind difs fixed) → one ≡ may.dif
same_binder difs fixed one at may = same_Some one may.dif (sym at ∙ may.is_dif)
