-- The whole of a tower while it is built.
use Rattle.std.proofs.Common.{◌≡◌, ◌∙◌, ℕ, suc, ◌+◌, cond, Bool, true, false, List, [], ◌∷◌, ◌++◌, length, refl, sym, ap, subst, arith}
use Rattle.rina_iface.specs.declared.ask.Fixed.{Fixed}
use Rattle.rina_stack.specs.declared.plan.Plan.{Plan}
use Rattle.rina_dif.specs.declared.dif.Dif.{Dif}
use Rattle.rina_dif.specs.Laying.{BindsInTurn}
use Rattle.rina_dif.specs.Planned.{links_of}
use Rattle.rina_wire.specs.Air.{Air}
use Rattle.rina_wire.specs.Plan.{air_of}
use Rattle.rina_tower.specs.declared.tower.Tower.{Tower, Rank', Wires}
use Rattle.rina_tower.specs.Built.{has_rank, places_in}
use Rattle.rina_tower.specs.BuiltWhole.{AreMadeOver, IsBuiltWhole, IsFresh, IsMade}
use Rattle.rina_tower.specs.Calls.{BindsWhole}
use Rattle.rina_tower.specs.Fits.{flows_at}
use Rattle.rina_tower.specs.Ranks.{height_of, seen_of}
use Rattle.rina_tower.proofs.FitMade.{append_nil, places_more}

-- Flows

pub turn_on : (t u v : Tower) (xs ys : List Fixed) → BindsInTurn BindsWhole t xs u → BindsInTurn BindsWhole u ys v → BindsInTurn BindsWhole t (xs ++ ys) v
turn_on t u v [] ys a b = subst (λ (z : Tower). BindsInTurn BindsWhole z ys v) a b
turn_on t u v (x ∷ xs) ys a b = (a.0, a.1, a.2, turn_on a.1 u v xs ys a.3 b)

-- DIFs

over_more : (plan : Plan) (places : List ℕ) (i : ℕ) (t : Tower) (ds : List Dif) (d : Dif) (mid u : Tower) → AreMadeOver plan places t ds mid → IsMade plan i d (seen_of mid) (seen_of u) → BindsInTurn BindsWhole mid (links_of plan i) u → AreMadeOver plan (places ++ i ∷ []) t (ds ++ d ∷ []) u
over_more plan [] i t [] d mid u m new turn = (u, subst (λ (z : Tower). IsMade plan i d (seen_of z) (seen_of u)) m new, subst (λ (z : Tower). BindsInTurn BindsWhole z (links_of plan i) u) m turn, refl)
over_more plan [] i t (x ∷ xs) d mid u m new turn = absurd m
over_more plan (j ∷ js) i t [] d mid u m new turn = absurd m
over_more plan (j ∷ js) i t (x ∷ xs) d mid u m new turn = (m.0, m.1, m.2, over_more plan js i m.0 xs d mid u m.3 new turn)

-- a DIF of another rank is passed over
pub over_same : (plan : Plan) (r at : ℕ) (difs : List Dif) (t u : Tower) → has_rank plan r at ≡ false → AreMadeOver plan (places_in plan r at) t difs u → AreMadeOver plan (places_in plan r (at + 1)) t difs u
over_same plan r at difs t u other m =
    let places : places_in plan r (at + 1) ≡ places_in plan r at = places_more plan r at ∙ (ap (λ (b : Bool). places_in plan r at ++ cond b (at ∷ []) []) other ∙ append_nil (places_in plan r at)) in
    subst (λ (is : List ℕ). AreMadeOver plan is t difs u) (sym places) m

-- the next one was made
pub over_next : (plan : Plan) (r at : ℕ) (difs difs' : List Dif) (made : Dif) (t u v : Tower) → has_rank plan r at ≡ true → IsMade plan at made (seen_of u) (seen_of v) → BindsInTurn BindsWhole u (links_of plan at) v → difs' ≡ difs ++ made ∷ [] → AreMadeOver plan (places_in plan r at) t difs u → AreMadeOver plan (places_in plan r (at + 1)) t difs' v
over_next plan r at difs difs' made t u v own new turn more m =
    let places : places_in plan r (at + 1) ≡ places_in plan r at ++ at ∷ [] = places_more plan r at ∙ ap (λ (b : Bool). places_in plan r at ++ cond b (at ∷ []) []) own in
    let all : AreMadeOver plan (places_in plan r at ++ at ∷ []) t (difs ++ made ∷ []) v = over_more plan (places_in plan r at) at t difs made u v m new turn in
    subst (λ (is : List ℕ). AreMadeOver plan is t difs' v) (sym places) (subst (λ (ds : List Dif). AreMadeOver plan (places_in plan r at ++ at ∷ []) t ds v) (sym more) all)

-- Ranks

pub fresh_wires : (plan : Plan) (a : Air) → a ≡ air_of plan → IsFresh plan 0 (Wires a)
fresh_wires plan a is = ap (λ (b : Air). Wires b) is

pub fresh_up : (plan : Plan) (k : ℕ) (p : _) (t u v : Tower) (difs : List Dif) → IsFresh plan k t → AreMadeOver plan (places_in plan (k + 1) (length plan.difs)) t difs u → BindsInTurn BindsWhole u (flows_at plan k) v → IsFresh plan (k + 1) (Rank' p difs v)
fresh_up plan k p t u v difs fresh made flows =
    let next : suc k ≡ k + 1 = omega arith in
    subst (λ (n : ℕ). IsFresh plan n (Rank' p difs v)) next (t, u, fresh, made, flows)

pub built_whole : (plan : Plan) (r : ℕ) (t t' : Tower) → height_of t' ≡ r → IsFresh plan r t → BindsInTurn BindsWhole t (flows_at plan r) t' → IsBuiltWhole plan t'
built_whole plan r t t' height fresh flows = subst (λ (n : ℕ). (x : Tower) × IsFresh plan n x × BindsInTurn BindsWhole x (flows_at plan n) t') (sym height) (t, fresh, flows)
