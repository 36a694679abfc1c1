-- What the calls of a facility do to the ends of its rank: by most of them they rest.
use Rattle.std.proofs.Common.{◌≡◌, ◌≢◌, ◌∙◌, ℕ, Bool, true, false, List, [], map, slice_get, slice_set, Option, Some, None, option_map, Result, Ok, Err, refl, sym, ap, subst, inl, inr}
use Rattle.std.proofs.lemmas.List.{append-nil}
use Rattle.std.proofs.lemmas.Option.{slice_get-map}
use Rattle.rina_base.specs.declared.number.Port.{Port}
use Rattle.rina_iface.specs.declared.ends.End.{End}
use Rattle.rina_iface.specs.declared.error.FreeError.{FreeError}
use Rattle.rina_iface.specs.declared.error.FreeError.TheVariants as free
use Rattle.rina_iface.specs.declared.error.RegisterError.{RegisterError}
use Rattle.rina_iface.specs.declared.error.RegisterError.TheVariants as register
use Rattle.rina_iface.specs.declared.error.UnregisterError.{UnregisterError}
use Rattle.rina_iface.specs.declared.error.UnregisterError.TheVariants as unregister
use Rattle.rina_iface.specs.declared.state.PortState.{PortState}
use Rattle.rina_iface.specs.Free.{Frees, FreesEnds}
use Rattle.rina_iface.specs.Register.{Registers}
use Rattle.rina_iface.specs.Seen.{Fac, Seen}
use Rattle.rina_iface.specs.State.{freed, with_state}
use Rattle.rina_iface.specs.Unregister.{Unregisters}
use Rattle.rina_iface.proofs.Changed.{slice_get-set_other}
use Rattle.rina_iface.proofs.LaterCalls.{partners_apart}
use Rattle.rina_dif.specs.declared.dif.Dif.{Dif}
use Rattle.rina_wire.proofs.Left.{seen_frees, seen_unregisters}
use Rattle.rina_wire.proofs.Seen.{seen_registers}
use Rattle.rina_dif.specs.Registering.{register_refusal, unregister_refusal}
use Rattle.rina_tower.specs.declared.applications.AppError.{AppError}
use Rattle.rina_tower.specs.declared.applications.AppError.TheVariants as apps
use Rattle.rina_tower.specs.declared.publish.PublishError.{PublishError}
use Rattle.rina_tower.specs.declared.tower.Tower.{Tower, Rank', Wires}
use Rattle.rina_tower.specs.Applications.{Answers, AppFrees, AppRegisters, AppUnregisters, is_ipc_at}
use Rattle.rina_tower.specs.Bystanders.{is_ipc}
use Rattle.rina_tower.specs.Calls.{FreesAtTop, RegistersAtTop, Serves, UnregistersAtTop}
use Rattle.rina_tower.specs.Ranks.{fac_of_dif, height_of, rank_of, seen_of, seen_of_difs}
use Rattle.rina_tower.specs.Stands.{IsTower}
use Rattle.rina_tower.specs.Levels.{AtRank}
use Rattle.rina_tower.specs.Publishing.{PublishesAt}
use Rattle.rina_tower.proofs.Ranking.{shown_after}
use Rattle.rina_laws.proofs.Published.{MayRegister, published}
use Rattle.rina_laws.proofs.LabelRanks.{AtAll, IsAlone, IsIdle, alone_refl, at_rank, at_top, facs_of, level, rank_kept, shown}
use Rattle.rina_laws.proofs.LabelRests.{Rest, RestEnds, Rests, ends_on, ends_set, fac_same, rest_same, rest_set, rests_still, wait_same}

-- ---- at one facility

named : (s : Seen) (n : ℕ) (f f' : Fac) (s' : Seen) → slice_get s.facs n ≡ Some f → f'.ends ≡ f.ends → f'.waiting ≡ f.waiting → s'.facs ≡ slice_set s.facs n f' → Rest s.facs s'.facs
named s n f f' s' h ends waiting is = subst (Rest s.facs) (sym is) (rest_set s.facs n f f' h (fac_same f f' ends waiting))

idle : (s s' : Seen) → s' ≡ s → Rest s.facs s'.facs
idle s s' is = rest_same s.facs s'.facs (ap (λ (x : Seen). x.facs) is)

registers : (own : Option RegisterError) (s : Seen) (fac node : ℕ) (app : List ℕ) (r : Result (Unit {0}) RegisterError) (s' : Seen) → Registers own s fac node app r s' → Rest s.facs s'.facs
registers own s fac node app (Ok done) s' g = named s fac g.1.facility _ s' g.1.stands refl refl (ap (λ (x : Seen). x.facs) g.1.new_is)
registers own s fac node app (Err register.Memory) s' g = idle s s' g
registers own s fac node app (Err register.Already) s' g = idle s s' g.1
registers own s fac node app (Err register.NoMember) s' g = idle s s' g.1
registers own s fac node app (Err (register.CountSpent n k)) s' g = idle s s' g.1

unregisters : (own : Option UnregisterError) (s : Seen) (fac node : ℕ) (app : List ℕ) (r : Result (Unit {0}) UnregisterError) (s' : Seen) → Unregisters own s fac node app r s' → Rest s.facs s'.facs
unregisters own s fac node app (Ok done) s' g = named s fac g.1.facility _ s' g.1.stands refl refl (ap (λ (x : Seen). x.facs) g.1.new_is)
unregisters own s fac node app (Err unregister.Memory) s' g = idle s s' g
unregisters own s fac node app (Err unregister.NotThere) s' g = idle s s' g.1
unregisters own s fac node app (Err (unregister.CountSpent n k)) s' g = idle s s' g.1

pub restated : (e : End) (state : PortState) → Rests e (with_state e state)
restated e state = rests_still e (with_state e state) refl refl refl refl [] (sym (append-nil e.got))

freed_ends : (both : Bool) (es : List End) (i : ℕ) (e : End) (es' : List End) → slice_get es i ≡ Some e → FreesEnds both es i e es' → RestEnds es es'
freed_ends false es i e es' h w = subst (RestEnds es) (sym w) (ends_set es i e (freed e) h (restated e _))
freed_ends true es i e es' h (at, other, there, partner, is) =
    let apart : at ≢ i = partners_apart es i at e other h there partner in
    let still : slice_get (slice_set es i (freed e)) at ≡ Some other = slice_get-set_other es i at (freed e) apart ∙ there in
    subst (RestEnds es) (sym is) (ends_on es (slice_set es i (freed e)) (slice_set (slice_set es i (freed e)) at (freed other)) (ends_set es i e (freed e) h (restated e _)) (ends_set (slice_set es i (freed e)) at other (freed other) still (restated other _)))

pub frees : (both : Bool) (s : Seen) (port : Port) (r : Result (Unit {0}) FreeError) (s' : Seen) → Frees both s port r s' → Rest s.facs s'.facs
frees both s port (Ok done) s' w =
    let f : Fac = record w.facility { ends = w.ends } in
    subst (Rest s.facs) (sym (ap (λ (x : Seen). x.facs) w.new_is)) (rest_set s.facs port.fac w.facility f w.stands.facility (record { ends = freed_ends both w.facility.ends w.place w.end w.ends w.stands.is w.frees; waiting = wait_same w.facility f refl }))
frees both s port (Err free.Memory) s' w = idle s s' w
frees both s port (Err free.NoPort) s' w = idle s s' w.1

-- ---- at the own rank

-- what is done at the DIF of a place is seen at its rank
pub served : {changes : Dif → Dif → Type 0} (call : Seen → Seen → Type 0) (n : ℕ) (d d' : Dif) (difs difs' : List Dif) → slice_get difs n ≡ Some d → difs' ≡ slice_set difs n d' → Serves call changes n d d' → call (seen_of_difs d.clock difs) (seen_of_difs d.clock difs')
served call n d d' difs difs' at is w =
    let here = w.shown (seen_of_difs d.clock difs) (record { clock = refl; here = slice_get-map fac_of_dif difs n ∙ ap (option_map fac_of_dif) at }) in
    subst (call (seen_of_difs d.clock difs)) (sym (ap (seen_of_difs d.clock) is ∙ shown_after difs n d' d.clock)) here

-- only the own rank changed, and its ends rest
pub record RestsHere (u u' : Tower) : Type 0 where
  pub below : IsAlone u u'
  pub rests : Rest (facs_of u) (facs_of u')

rests_register : (fac node : ℕ) (app : List ℕ) (r : Result (Unit {0}) RegisterError) (u u' : Tower) → RegistersAtTop fac node app r u u' → RestsHere u u'
rests_register fac node app r (Wires a) (Wires a') w = record { below = tt; rests = registers None (seen_of (Wires a)) fac node app r (seen_of (Wires a')) (seen_registers a fac node app r a' w) }
rests_register fac node app r (Rank' p difs below) (Rank' p' difs' below') w = record {
  below = w.1;
  rests = elim w.0 [
    | inl h ↦ registers (register_refusal h.dif node) (seen_of_difs h.dif.clock difs) fac node app r (seen_of_difs h.dif.clock difs') (served (λ s s'. Registers (register_refusal h.dif node) s fac node app r s') fac h.dif h.dif' difs difs' h.is_dif h.new_is h.done.serves)
    | inr h ↦ rest_same (map fac_of_dif difs) (map fac_of_dif difs') (ap (map fac_of_dif) h.2)
  ];
}
rests_register fac node app r (Wires a) (Rank' p difs below) w = absurd w
rests_register fac node app r (Rank' p difs below) (Wires a) w = absurd w

rests_unregister : (fac node : ℕ) (app : List ℕ) (r : Result (Unit {0}) UnregisterError) (u u' : Tower) → UnregistersAtTop fac node app r u u' → RestsHere u u'
rests_unregister fac node app r (Wires a) (Wires a') w = record { below = tt; rests = unregisters None (seen_of (Wires a)) fac node app r (seen_of (Wires a')) (seen_unregisters a fac node app r a' w) }
rests_unregister fac node app r (Rank' p difs below) (Rank' p' difs' below') w = record {
  below = w.1;
  rests = elim w.0 [
    | inl h ↦ unregisters (unregister_refusal h.dif node) (seen_of_difs h.dif.clock difs) fac node app r (seen_of_difs h.dif.clock difs') (served (λ s s'. Unregisters (unregister_refusal h.dif node) s fac node app r s') fac h.dif h.dif' difs difs' h.is_dif h.new_is h.done.serves)
    | inr h ↦ rest_same (map fac_of_dif difs) (map fac_of_dif difs') (ap (map fac_of_dif) h.2)
  ];
}
rests_unregister fac node app r (Wires a) (Rank' p difs below) w = absurd w
rests_unregister fac node app r (Rank' p difs below) (Wires a) w = absurd w

rests_free : (port : Port) (r : Result (Unit {0}) FreeError) (u u' : Tower) → IsTower u → FreesAtTop port r u u' → RestsHere u u'
rests_free port r (Wires a) (Wires a') v w = record { below = tt; rests = frees true (seen_of (Wires a)) port r (seen_of (Wires a')) (seen_frees a port r a' v w) }
rests_free port r (Rank' p difs below) (Rank' p' difs' below') v w = record {
  below = w.1;
  rests = elim w.0 [
    | inl h ↦ frees false (seen_of_difs h.dif.clock difs) port r (seen_of_difs h.dif.clock difs') (served (λ s s'. Frees false s port r s') port.fac h.dif h.dif' difs difs' h.is_dif h.new_is h.done.serves)
    | inr h ↦ rest_same (map fac_of_dif difs) (map fac_of_dif difs') (ap (map fac_of_dif) h.2)
  ];
}
rests_free port r (Wires a) (Rank' p difs below) v w = absurd w
rests_free port r (Rank' p difs below) (Wires a) v w = absurd w

-- ---- by an application

pub rests_nothing : (u u' : Tower) → u' ≡ u → RestsHere u u'
rests_nothing u u' is = subst (RestsHere u) (sym is) (record { below = alone_refl u; rests = rest_same (facs_of u) (facs_of u) refl })

pub answered : {T E : Type 0} (ipc : Bool) (call : Result T E → Type 0) (u u' : Tower) (r : Result T (AppError E)) → ((x : Result T E) → call x → RestsHere u u') → Answers ipc call (u' ≡ u) r → RestsHere u u'
answered ipc call u u' (Ok x) own w = own (Ok x) w.1
answered ipc call u u' (Err (apps.Call e)) own w = own (Err e) w.1
answered ipc call u u' (Err apps.NotYours) own w = rests_nothing u u' w.1
answered ipc call u u' (Err apps.NoRank) own w = absurd w

abbrev pub AllRest : Tower → Tower → Type 0
AllRest t t' = AtAll (λ r. Rest) (shown t) (shown t')

pub rest_idle : (r : ℕ) → IsIdle (λ k. Rest) r
rest_idle r k ne fs fs' is = rest_same fs fs' is

pub call_rests : (r : ℕ) (does : Tower → Tower → Type 0) (none : Type 0) (t t' : Tower) → IsTower t → ((u u' : Tower) → IsTower u → does u u' → RestsHere u u') → AtRank r does none t t' → AllRest t t'
call_rests r does none t t' v own d =
    let all = at_rank (λ k. Rest) r does none t t' (rank_of t r) refl (λ u u' is high w.
    let x = own u u' (rank_kept t r u v is) w in
    record { level = level u u' x.below; all = at_top (λ k. Rest) u u' x.below x.rests (rest_idle (height_of u)) }) (rest_idle r) d in
    all.all

pub app_registers : (r fac node : ℕ) (app : List ℕ) (x : Result (Unit {0}) (AppError RegisterError)) (t t' : Tower) → IsTower t → AppRegisters r fac node app x t t' → AllRest t t'
app_registers r fac node app x t t' v d = call_rests r _ _ t t' v (λ u u' k w. answered (is_ipc app) (λ y. RegistersAtTop fac node app y u u') u u' x (λ y z. rests_register fac node app y u u' z) w) d

pub app_unregisters : (r fac node : ℕ) (app : List ℕ) (x : Result (Unit {0}) (AppError UnregisterError)) (t t' : Tower) → IsTower t → AppUnregisters r fac node app x t t' → AllRest t t'
app_unregisters r fac node app x t t' v d = call_rests r _ _ t t' v (λ u u' k w. answered (is_ipc app) (λ y. UnregistersAtTop fac node app y u u') u u' x (λ y z. rests_unregister fac node app y u u' z) w) d

pub app_frees : (r : ℕ) (port : Port) (x : Result (Unit {0}) (AppError FreeError)) (t t' : Tower) → IsTower t → AppFrees r port x t t' → AllRest t t'
app_frees r port x t t' v d = call_rests r _ _ t t' v (λ u u' k w. answered (is_ipc_at (seen_of u) port) (λ y. FreesAtTop port y u u') u u' x (λ y z. rests_free port y u u' k z) w) d

rests_registered : (fac node : ℕ) (u u' : Tower) → MayRegister fac node u u' → RestsHere u u'
rests_registered fac node u u' (inl w) = rests_nothing u u' w
rests_registered fac node u u' (inr (name, x, w)) = rests_register fac node name x u u' w

pub publishes : (r dif node fac : ℕ) (x : Result (Unit {0}) PublishError) (t t' : Tower) → IsTower t → PublishesAt r dif node fac x t t' → AllRest t t'
publishes r dif node fac x t t' v d = (let k = published r dif node fac x t t' d in call_rests k.rank _ _ t t' v (λ u u' s w. rests_registered fac node u u' w) k.done)
