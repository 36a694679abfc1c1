-- A run starts over wires and DIFs of which nothing but the flows of the stack was used.
use Rattle.std.proofs.Common.{◌≡◌, ◌∙◌, ℕ, zero, suc, ◌+◌, true, false, List, [], ◌∷◌, map, slice_get, slice_set, Option, Some, None, option_map, Ok, refl, sym, ap, subst, arith, inl, inr}
use Rattle.std.proofs.lemmas.Option.{same_Some, slice_get-map}
use Rattle.rina_base.specs.declared.number.Port.{Port}
use Rattle.rina_iface.specs.declared.ask.Fixed.{Fixed}
use Rattle.rina_iface.specs.Seen.{Seen}
use Rattle.rina_iface.proofs.Changed.{set_at}
use Rattle.rina_stack.specs.declared.plan.Plan.{Plan}
use Rattle.rina_stack.specs.declared.plan.WirePlan.{WirePlan}
use Rattle.rina_data.specs.declared.link.Link.{Link}
use Rattle.rina_data.specs.declared.process.IpcProcess.{IpcProcess}
use Rattle.rina_data.specs.Configs.{Config}
use Rattle.rina_data.specs.Deciding.{plain, process_of}
use Rattle.rina_dif.specs.declared.dif.Dif.{Dif}
use Rattle.rina_dif.specs.Laying.{BindsInTurn, IsNew, IsNewProcess, links_from}
use Rattle.rina_dif.specs.Changing.{ManagesBind}
use Rattle.rina_dif.specs.Planned.{links_of, settings_in}
use Rattle.rina_plan.specs.declared.dif.DifPlan.{DifPlan}
use Rattle.rina_data.specs.declared.settings.Settings.{Settings}
use Rattle.rina_member.specs.declared.management.Management.{Management}
use Rattle.rina_laws.proofs.UserObjects.{none_bound, none_started}
use Rattle.rina_wire.specs.Air.{Air, Line, on_wire, put}
use Rattle.rina_wire.specs.Bind.{bound_on}
use Rattle.rina_wire.specs.Plan.{air_of, line_of}
use Rattle.rina_tower.specs.declared.tower.Tower.{Tower, Wires, Rank'}
use Rattle.rina_tower.specs.BuiltWhole.{AreMadeOver, IsFresh, IsMade}
use Rattle.rina_tower.specs.Calls.{BindsAtTop, BindsWhole}
use Rattle.rina_tower.specs.Fits.{flows_at}
use Rattle.rina_tower.specs.MemoryFailure.{has_failed}
use Rattle.rina_tower.specs.Ranks.{height_of, seen_of}
use Rattle.rina_tower.specs.Unchanged.{ChangesNames}
use Rattle.rina_laws.specs.Frames.{wires_of}
use Rattle.rina_laws.specs.Starts.{AreUntouched, DidNothing, DifsStartUntouched, IsUntouched, WiresStartAsPlanned, bare, without_flows}

-- What binds keep

-- a bind that answered ports was done
did_bind : (t u : Tower) (f : Fixed) (ports : Port × Port) → BindsWhole t f (Ok ports) u → BindsAtTop f (Ok ports) t u
did_bind t u f ports h = elim (has_failed t) as (λ b. has_failed t ≡ b → BindsAtTop f (Ok ports) t u) [
  | true ↦ λ e. (let no = (h.1 e).0 in cc)
  | false ↦ λ e. h.0 e
] refl

-- each bind that is done keeps this
abbrev pub BindsKeep : (Tower → Type 0) → Type 0
BindsKeep P = (t u : Tower) (f : Fixed) (ports : Port × Port) → BindsAtTop f (Ok ports) t u → P t → P u

pub turn_keeps : (P : Tower → Type 0) → BindsKeep P → (t : Tower) (fs : List Fixed) (u : Tower) → BindsInTurn BindsWhole t fs u → P t → P u
turn_keeps P one t [] u b v = subst P (sym b) v
turn_keeps P one t (f ∷ fs) u b v = turn_keeps P one b.1 fs u b.3 (one t b.1 f b.0 (did_bind t b.1 f b.0 b.2) v)

pub over_keeps : (plan : Plan) (P : Tower → Type 0) → BindsKeep P → (is : List ℕ) (t : Tower) (ds : List Dif) (u : Tower) → AreMadeOver plan is t ds u → P t → P u
over_keeps plan P one [] t [] u m v = subst P (sym m) v
over_keeps plan P one [] t (d ∷ ds) u m v = absurd m
over_keeps plan P one (i ∷ is) t [] u m v = absurd m
over_keeps plan P one (i ∷ is) t (d ∷ ds) u m v = over_keeps plan P one is m.0 ds u m.3 (turn_keeps P one t (links_of plan i) m.0 m.2 v)

-- Wires

set_same : (ws : List Line) (n : ℕ) (l l' : Line) → slice_get ws n ≡ Some l → without_flows l' ≡ without_flows l → map without_flows (slice_set ws n l') ≡ map without_flows ws
set_same [] n l l' at same = cc
set_same (w ∷ ws) zero l l' at same = ap (λ (x : Line). x ∷ map without_flows ws) (same ∙ ap without_flows (sym (same_Some w l at)))
set_same (w ∷ ws) (suc n) l l' at same = ap (λ (xs : List Line). without_flows w ∷ xs) (set_same ws n l l' at same)

put_same : (ws : List Line) (n : ℕ) (change : Line → Line) (o : Option Line) → slice_get ws n ≡ o → ((l : Line) → without_flows (change l) ≡ without_flows l) → map without_flows (put ws n (option_map change o)) ≡ map without_flows ws
put_same ws n change None at same = refl
put_same ws n change (Some l) at same = set_same ws n l (change l) at (same l)

bare_bound : (a : Air) (f : Fixed) → bare (on_wire a f.fac (bound_on a.now f)) ≡ bare a
bare_bound a f = ap (λ (ws : List Line). record a { wires = ws }) (put_same a.wires f.fac (bound_on a.now f) (slice_get a.wires f.fac) refl (λ l. refl))

bare_lines : (ws : List WirePlan) → map without_flows (map line_of ws) ≡ map line_of ws
bare_lines [] = refl
bare_lines (w ∷ ws) = ap (λ (xs : List Line). line_of w ∷ xs) (bare_lines ws)

bare_start : (plan : Plan) → bare (air_of plan) ≡ air_of plan
bare_start plan = ap (λ (ws : List Line). record (air_of plan) { wires = ws }) (bare_lines plan.wires)

abbrev IsBare : Plan → Tower → Type 0
IsBare plan t = bare (wires_of t) ≡ air_of plan

binds_bare : (plan : Plan) → BindsKeep (IsBare plan)
binds_bare plan (Wires a) (Wires a') f ports h v = ap bare h.air ∙ bare_bound a f ∙ v
binds_bare plan (Rank' p difs below) (Rank' p' difs' below') f ports h v = ap (λ (z : Tower). bare (wires_of z)) h.1 ∙ v
binds_bare plan (Wires a) (Rank' p' difs' below') f ports h v = absurd h
binds_bare plan (Rank' p difs below) (Wires a') f ports h v = absurd h

fresh_bare : (plan : Plan) (r : ℕ) (t : Tower) → IsFresh plan r t → IsBare plan t
fresh_bare plan zero t h = ap (λ (z : Tower). bare (wires_of z)) h ∙ bare_start plan
fresh_bare plan (suc r) (Wires a) h = absurd h
fresh_bare plan (suc r) (Rank' p difs below) h = turn_keeps (IsBare plan) (binds_bare plan) h.1 (flows_at plan r) below h.4 (over_keeps plan (IsBare plan) (binds_bare plan) _ h.0 difs h.1 h.3 (fresh_bare plan r h.0 h.2))

pub wires_start : WiresStartAsPlanned
wires_start plan shelf s o = turn_keeps (IsBare plan) (binds_bare plan) o.whole.0 _ s.run.tower o.whole.2 (fresh_bare plan (height_of s.run.tower) o.whole.0 o.whole.1)

-- DIFs

numbered : (n : ℕ) (ports : List Port) (k : ℕ) (l : Link) → slice_get (links_from n ports) k ≡ Some l → (l.number ≡ n + k) × (l.live ≡ true)
numbered n [] k l h = cc
numbered n (p ∷ ps) zero l h =
    let same : record { port = p; number = n; live = true } ≡ l = same_Some (record { port = p; number = n; live = true }) l h in
    let number : n ≡ l.number = ap (λ (x : Link). x.number) same in
    (omega (arith, number), sym (ap (λ (x : Link). x.live) same))
numbered n (p ∷ ps) (suc k) l h = let r = numbered (n + 1) ps k l h in let number = r.0 in (omega (arith, number), r.1)

new_did_nothing : (g : Config) (node : ℕ) (ports : List Port) (p : IpcProcess) → IsNewProcess g node ports (process_of p) → DidNothing p
new_did_nothing g node ports p new = record {
  links = λ k l at. (let r = numbered 0 _ k l (subst (λ (ls : List Link). slice_get ls k ≡ Some l) new.links at) in let number = r.0 in (omega (arith, number), r.1));
  empty = λ k q at. new.queues.empty k (plain q) (slice_get-map plain p.queues.queues.items k ∙ ap (option_map plain) at);
  ledger = new.ledger;
}

pub dif_there : (plan : Plan) (i : ℕ) (s : Settings) (o : Option DifPlan) → slice_get plan.difs i ≡ o → settings_in plan i o ≡ Some s → (dif : DifPlan) × (slice_get plan.difs i ≡ Some dif)
dif_there plan i s None is of = absurd cc
dif_there plan i s (Some dif) is of = (dif, is)

new_untouched : (plan : Plan) (i : ℕ) (d : Dif) (old new : Seen) → IsNew plan i d old new → IsUntouched d
new_untouched plan i d old new h =
    let dif = dif_there plan i d.settings (slice_get plan.difs i) refl h.settings in
    record {
      processes = λ k member p of at. new_did_nothing _ _ _ p (h.processes k member p of at);
      kept = λ k member p m of at here. none_started d.settings.cubes dif.0.is_static d.settings.members dif.0.links member m.objects ((h.managed dif.0 dif.1).each k member p m of at here).shows;
    }

-- what each DIF has that was made, each of those has that were made one after the other
pub made_have : (Has : Dif → Type 0) (plan : Plan) → ((i : ℕ) (d : Dif) (old new : Seen) → IsMade plan i d old new → Has d) → (is : List ℕ) (t : Tower) (ds : List Dif) (u : Tower) → AreMadeOver plan is t ds u → (n : ℕ) (d : Dif) → slice_get ds n ≡ Some d → Has d
made_have Has plan each [] t [] u m n d h = cc
made_have Has plan each [] t (x ∷ ds) u m n d h = absurd m
made_have Has plan each (i ∷ is) t [] u m n d h = absurd m
made_have Has plan each (i ∷ is) t (x ∷ ds) u m zero d h = subst Has (same_Some x d h) (each i x (seen_of t) (seen_of m.0) m.1)
made_have Has plan each (i ∷ is) t (x ∷ ds) u m (suc n) d h = made_have Has plan each is m.0 ds u m.3 n d h

bound_untouched : (d d' : Dif) (f : Fixed) → ChangesNames d d' → ManagesBind d f d'.managements → IsUntouched d → IsUntouched d'
bound_untouched d d' f is m h = subst IsUntouched (sym is) (record {
  processes = h.processes;
  kept = λ k member p x of at here. none_bound f.b_app m.far.addr m.a m.scep m.b m.dcep k d.managements (λ y old. h.kept k member p y of at old) x (subst (λ (ms : List Management). slice_get ms k ≡ Some x) m.are here);
})

binds_untouched : BindsKeep AreUntouched
binds_untouched (Wires a) (Wires a') f ports h v = tt
binds_untouched (Rank' p difs below) (Rank' p' difs' below') f ports h v =
    let one = h.0 in
    let each : (n : ℕ) (d : Dif) → slice_get difs' n ≡ Some d → IsUntouched d = λ n d at. elim (set_at difs f.fac n one.dif one.dif' d one.is_dif (subst (λ (ds : List Dif). slice_get ds n ≡ Some d) one.new_is at)) [
      | inl s ↦ subst IsUntouched (sym s.1) (bound_untouched one.dif one.dif' f one.done.serves.rest one.done.managed (v.0 f.fac one.dif one.is_dif))
      | inr o ↦ v.0 n d o.1
    ] in
    (each, subst AreUntouched (sym h.1) v.1)
binds_untouched (Wires a) (Rank' p' difs' below') f ports h v = absurd h
binds_untouched (Rank' p difs below) (Wires a') f ports h v = absurd h

fresh_untouched : (plan : Plan) (r : ℕ) (t : Tower) → IsFresh plan r t → AreUntouched t
fresh_untouched plan zero t h = subst AreUntouched (sym h) tt
fresh_untouched plan (suc r) (Wires a) h = absurd h
fresh_untouched plan (suc r) (Rank' p difs below) h = (made_have IsUntouched plan (λ i d old new m. new_untouched plan i d old new m.is_new) _ h.0 difs h.1 h.3, turn_keeps AreUntouched binds_untouched h.1 (flows_at plan r) below h.4 (over_keeps plan AreUntouched binds_untouched _ h.0 difs h.1 h.3 (fresh_untouched plan r h.0 h.2)))

pub difs_start : DifsStartUntouched
difs_start plan shelf s o = turn_keeps AreUntouched binds_untouched o.whole.0 _ s.run.tower o.whole.2 (fresh_untouched plan (height_of s.run.tower) o.whole.0 o.whole.1)
