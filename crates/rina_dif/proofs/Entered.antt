-- The members of a DIF take a directory entry one after the other. Where an allocation fails on the way, the agent of each is as before, or holds the entry.
use Rattle.std.proofs.Common.{◌≡◌, ◌∙◌, ◌⊎◌, ℕ, Bool, ◌<◌, ◌≤◌, ◌^◌, zero, suc, take, drop, List, [], ◌∷◌, ◌++◌, length, map, slice_get, slice_set, Some, Result, Ok, Err, OnErr, option_map, refl, sym, ap, subst, arith, inl, inr, length-set}
use Rattle.std.proofs.lemmas.List.{length-map}
use Rattle.std.proofs.lemmas.Option.{same_Some, slice_get-map}
use Rattle.rina_base.specs.declared.number.Port.{Port}
use Rattle.rina_base.specs.Names.{app_at}
use Rattle.rina_iface.specs.declared.ask.Fixed.{Fixed}
use Rattle.rina_iface.specs.declared.error.AllocateError.{AllocateError}
use Rattle.rina_iface.proofs.Changed.{set_at}
use Rattle.rina_agent.specs.declared.agent.Agent.{Agent}
use Rattle.rina_plan.specs.declared.dif.LinkPlan.{LinkPlan}
use Rattle.rina_data.specs.declared.process.IpcProcess.{IpcProcess}
use Rattle.rina_data.specs.declared.settings.Member.{Member}
use Rattle.rina_member.specs.declared.management.Management.{Management}
use Rattle.rina_member.specs.Knowing.{AreRoutesOf, IsPlanned, Knows}
use Rattle.rina_member.specs.Managements.{MayHoldEntry, entered, entry_of, takes_item, with_flow}
use Rattle.rina_member.proofs.Entering.{enters}
use Rattle.rina_member.proofs.Knowing.{enters_routed}
use Rattle.rina_member.proofs.Planned.{planned_links}
use Rattle.rina_dif.specs.declared.dif.Dif.{Dif}
use Rattle.rina_dif.specs.Changing.{BindsManaged, ManagesBind, MayHaveEntered, MayHoldFar, with_flow_at}
use Rattle.rina_dif.specs.Elsewhere.{home_of}
use Rattle.rina_dif.specs.Managing.{AreManagedBy, IsManaged, agents_of}
use Rattle.rina_member.specs.Short.{TellsShort}
use Rattle.rina_dif.proofs.Managed.{changed_agents, its_agent, same_some}
use Rattle.rina_member.proofs.Tells.{enters_short}

-- What each member then holds

-- none has taken it
pub none_entered : (app : List ℕ) (address : ℕ) (ms : List Management) → MayHaveEntered app address ms ms
none_entered app address ms = record {
  aligned = refl;
  each = λ k m m' is is'. inl (ap (λ (z : Management). z.agent) (same_some ms k m' m is' is));
}

entered_agent : (app : List ℕ) (address : ℕ) (m : Management) → (entered app address m).agent ≡ takes_item m.agent (entry_of app address)
unfolding entered
entered_agent app address m = refl

-- each has taken it, whatever objects it shows
pub all_entered : (app : List ℕ) (address : ℕ) (old new : List Management) → agents_of new ≡ agents_of (map (entered app address) old) → MayHaveEntered app address old new
all_entered app address old new same = record {
  aligned = sym (length-map new (λ (m : Management). m.agent)) ∙ ap (λ (gs : List Agent). length gs) same ∙ length-map (map (entered app address) old) (λ (m : Management). m.agent) ∙ length-map old (entered app address);
  each = λ k m m' is is'.
      let took : slice_get (agents_of (map (entered app address) old)) k ≡ Some (entered app address m).agent =
      slice_get-map (λ (z : Management). z.agent) (map (entered app address) old) k ∙ ap (option_map (λ (z : Management). z.agent)) (slice_get-map (entered app address) old k ∙ ap (option_map (entered app address)) is) in
      let has : slice_get (agents_of new) k ≡ Some m'.agent = slice_get-map (λ (z : Management). z.agent) new k ∙ ap (option_map (λ (z : Management). z.agent)) is' in
      let agent : m'.agent ≡ (entered app address m).agent = same_Some m'.agent (entered app address m).agent (sym has ∙ ap (λ (gs : List Agent). slice_get gs k) same ∙ took) in
      inr (agent ∙ entered_agent app address m);
}

-- each is managed as before
pub managed_entered : (is_static : Bool) (members : List Member) (plans : List LinkPlan) (now : ℕ) (ps : List IpcProcess) (old new : List Management) (app : List ℕ) (address : ℕ) → app_at app ≡ Ok app → address < 2 ^ 32 → AreManagedBy is_static members plans now ps old → MayHaveEntered app address old new → AreManagedBy is_static members plans now ps new
managed_entered is_static members plans now ps old new app address name small h may = record {
  laid_out = h.laid_out;
  aligned = may.aligned ∙ h.aligned;
  each = λ k m p g is_m is_p is_g.
      let was = its_agent members old k m h.aligned is_m in
      let one : IsManaged is_static members plans now m p was.0 = h.each k m p was.0 is_m is_p was.1 in
      let managed : (a : Agent) → a ≡ g.agent → a.links ≡ was.0.agent.links → Knows now m p.links a → AreRoutesOf a members p.routes → TellsShort a → IsManaged is_static members plans now m p g = λ a is same knows routes tells. record {
        knows = subst (λ (z : Agent). Knows now m p.links z) is knows;
        planned = λ still. subst (λ (z : Agent). IsPlanned members plans m p.links z) is (planned_links members plans m p.links was.0.agent a same (one.planned still));
        bounded = one.bounded;
        routes = subst (λ (z : Agent). AreRoutesOf z members p.routes) is routes;
        tells = subst (λ (z : Agent). TellsShort z) is tells;
      } in
      elim (may.each k was.0 g was.1 is_g) [
        | inl same ↦ managed was.0.agent (sym same) refl one.knows one.routes one.tells
        | inr took ↦ managed (takes_item was.0.agent (entry_of app address)) (sym took) refl (enters now m p.links was.0.agent app address one.knows) (enters_routed now m p.links was.0.agent members p.routes app address one.knows one.routes) (enters_short was.0.agent app address one.tells name small)
      ];
}

-- On the way

-- each of the first has changed, and no other
place_changed : {X : Type 0} (f : X → X) (xs : List X) (i k : ℕ) (x y : X) → slice_get xs k ≡ Some x → slice_get (map f (take i xs) ++ drop i xs) k ≡ Some y → ((i ≤ k) × (y ≡ x)) ⊎ ((k < i) × (y ≡ f x))
place_changed f [] i k x y is now = cc
place_changed f (z ∷ xs) zero k x y is now = inl (omega arith, same_Some y x (sym now ∙ is))
place_changed f (z ∷ xs) (suc i) zero x y is now = inr (omega arith, cc)
place_changed f (z ∷ xs) (suc i) (suc k) x y is now = elim (place_changed f xs i k x y is now) [
  | inl later ↦ inl (omega (arith, later.0), later.1)
  | inr sooner ↦ inr (omega (arith, sooner.0), sooner.1)
]

-- there are as many
size_changed : {X : Type 0} (f : X → X) (xs : List X) (i : ℕ) → length (map f (take i xs) ++ drop i xs) ≡ length xs
size_changed f [] zero = refl
size_changed f [] (suc i) = refl
size_changed f (x ∷ xs) zero = refl
size_changed f (x ∷ xs) (suc i) = ap suc (size_changed f xs i)

-- all have changed
pub all_changed : {X : Type 0} (f : X → X) (xs : List X) (i : ℕ) → length xs ≤ i → map f (take i xs) ++ drop i xs ≡ map f xs
all_changed f [] zero past = refl
all_changed f [] (suc i) past = refl
all_changed f (x ∷ xs) zero past = absurd (omega (arith, past))
all_changed f (x ∷ xs) (suc i) past = ap (λ ys. f x ∷ ys) (all_changed f xs i (omega (arith, past)))

-- the first have taken it, and the one after them failed to
pub stopped_at : (app : List ℕ) (address : ℕ) (old now after : List Management) (i : ℕ) (m m' : Management) → now ≡ map (entered app address) (take i old) ++ drop i old → slice_get now i ≡ Some m → after ≡ slice_set now i m' → MayHoldEntry app address m m' → MayHaveEntered app address old after
stopped_at app address old now after i m m' so is_m is_after may = record {
  aligned = ap (λ (ms : List Management). length ms) is_after ∙ length-set now i m' ∙ ap (λ (ms : List Management). length ms) so ∙ size_changed (entered app address) old i;
  each = λ k x y is_x is_y. elim (set_at now i k m m' y is_m (ap (λ (ms : List Management). slice_get ms k) (sym is_after) ∙ is_y)) [
    | inl here ↦
        (elim (place_changed (entered app address) old i k x m is_x (ap (λ (ms : List Management). slice_get ms k) (sym so) ∙ ap (slice_get now) here.0 ∙ is_m)) [
          | inl as_it_was ↦ subst (λ (z : Management). MayHoldEntry app address x z) (sym here.1) (subst (λ (z : Management). MayHoldEntry app address z m') as_it_was.1 may)
          | inr sooner ↦ absurd (omega (arith, sooner.0, here.0))
        ])
    | inr there ↦
        (elim (place_changed (entered app address) old i k x y is_x (ap (λ (ms : List Management). slice_get ms k) (sym so) ∙ there.1)) [
          | inl as_it_was ↦ inl (ap (λ (z : Management). z.agent) as_it_was.1)
          | inr sooner ↦ inr (ap (λ (z : Management). z.agent) sooner.1 ∙ entered_agent app address x)
        ])
  ];
}

-- A flow is bound

-- whatever the members show of the flow, each has taken the entry
pub shown_agents : (app : List ℕ) (address a cep_a b cep_b : ℕ) (old new : List Management) → new ≡ with_flow_at b cep_b (with_flow_at a cep_a (map (entered app address) old)) → agents_of new ≡ agents_of (map (entered app address) old)
shown_agents app address a cep_a b cep_b old new is =
    let all : List Management = map (entered app address) old in
    let one : List Management = with_flow_at a cep_a all in
    ap agents_of is ∙ changed_agents b (λ m. with_flow m cep_b) one (λ m. refl) ∙ changed_agents a (λ m. with_flow m cep_a) all (λ m. refl)

pub shown_entered : (app : List ℕ) (address a cep_a b cep_b : ℕ) (old new : List Management) → new ≡ with_flow_at b cep_b (with_flow_at a cep_a (map (entered app address) old)) → MayHaveEntered app address old new
shown_entered app address a cep_a b cep_b old new is = all_entered app address old new (shown_agents app address a cep_a b cep_b old new is)

-- there is one far application
pub far_entered : (d : Dif) (fixed : Fixed) (b : ℕ) (far : Member) (new : List Management) → home_of d fixed.b ≡ Some b → slice_get d.settings.members b ≡ Some far → MayHaveEntered fixed.b_app far.addr d.managements new → MayHoldFar d fixed new
far_entered d fixed b far new at_b is_far may b' far' at_b' is_far' =
    let place : b ≡ b' = same_Some b b' (sym at_b ∙ at_b') in
    let member : far ≡ far' = same_some d.settings.members b' far far' (ap (slice_get d.settings.members) (sym place) ∙ is_far) is_far' in
    subst (λ (m : Member). MayHaveEntered fixed.b_app m.addr d.managements new) member may

pub none_far : (d : Dif) (fixed : Fixed) → MayHoldFar d fixed d.managements
none_far d fixed b far at_b is_far = none_entered fixed.b_app far.addr d.managements

pub bound_far : (d : Dif) (fixed : Fixed) (new : List Management) → ManagesBind d fixed new → MayHoldFar d fixed new
bound_far d fixed new m = far_entered d fixed m.b m.far new m.at_b m.is_far (shown_entered fixed.b_app m.far.addr m.a m.scep m.b m.dcep d.managements new m.are)

pub on_err : {T E : Type 0} (r : Result T E) (P : Type 0) → P → OnErr r P
on_err (Ok x) P h = tt
on_err (Err e) P h = h

-- an allocation failed
pub fails_managed : (d : Dif) (fixed : Fixed) (r : Result (Port × Port) AllocateError) (e : AllocateError) (new : List Management) → r ≡ Err e → MayHoldFar d fixed new → BindsManaged r d fixed new
fails_managed d fixed r e new is may = subst (λ (v : Result (Port × Port) AllocateError). BindsManaged v d fixed new) (sym is) may
