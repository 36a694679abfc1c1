-- What a DIF refuses where a name is registered or taken back, and what the member at its node answers.
use Rattle.std.proofs.Common.{◌≡◌, ◌∙◌, ℕ, ◌+◌, ◌==◌, ◌||◌, Bool, true, false, not, cond, List, [], ◌∷◌, length, map, slice_get, Option, Some, None, Result, Ok, Err, is_some, option_and_then, refl, sym, ap, subst, arith}
use Rattle.std.specs.Prelude.{nat_lt, position}
use Rattle.std.specs.List.{list_any, position_or_len}
use Rattle.std.proofs.lemmas.Bool.Decides.{nat_tests}
use Rattle.std.proofs.lemmas.Option.{same_Some}
use Rattle.rina_agent.specs.declared.state.AgentError.{AgentError}
use Rattle.rina_agent.specs.declared.state.AgentError.TheVariants.{CountSpent, Memory}
use Rattle.rina_agent.specs.Counts.{spent}
use Rattle.rina_iface.specs.declared.error.RegisterError.{RegisterError}
use Rattle.rina_iface.specs.declared.error.RegisterError.TheVariants as register
use Rattle.rina_iface.specs.declared.error.UnregisterError.{UnregisterError}
use Rattle.rina_iface.specs.declared.error.UnregisterError.TheVariants as unregister
use Rattle.rina_iface.specs.Register.{Registers}
use Rattle.rina_iface.specs.Register as names
use Rattle.rina_iface.specs.Seen.{Seen, is_member, is_registered}
use Rattle.rina_iface.specs.Unregister.{Unregisters, name_place}
use Rattle.rina_iface.specs.Unregister as left
use Rattle.rina_data.specs.Configs.{Member, config_of}
use Rattle.rina_dif_law.specs.Dif.{fac_of}
use Rattle.rina_member.specs.declared.management.Management.{Management}
use Rattle.rina_member.specs.Managements.{MayMakeEntry}
use Rattle.rina_dif.specs.declared.dif.Dif.{Dif}
use Rattle.rina_dif.specs.Elsewhere.{enrolled_home, home_of}
use Rattle.rina_dif.specs.Facade.{IsShownAs, shown_as}
use Rattle.rina_dif.specs.Registering.{AnswersEntry, management_at, no_value, own_address, register_refusal, register_told, spent_by, told_as, unregister_refusal, unregister_told}
use Rattle.rina_dif.specs.Shown.{seen_of}
use Rattle.rina_dif.specs.Whole.{IsDif}
use Rattle.rina_dif.proofs.Enrolled.{enrolled_home_is, member_there}
use Rattle.rina_dif.proofs.Facing.{unchanged}
use Rattle.rina_dif.proofs.Refused.{members_there, registers, unregisters}

-- A test holds somewhere exactly where it holds first

any_before : {X : Type 0} (p : X → Bool) (xs : List X) → list_any p xs ≡ nat_lt (position_or_len p xs) (length xs)
any_before p [] = refl
any_before p (x ∷ xs) = go (p x) (any_before p xs)
  where
    go : (b : Bool) → list_any p xs ≡ nat_lt (position_or_len p xs) (length xs) → (b || list_any p xs) ≡ nat_lt (cond (not b) (1 + position_or_len p xs) 0) (length (x ∷ xs))
    go true e = grind (arith, nat_tests)
    go false e = grind (arith, nat_tests, e)

some_where : (b : Bool) (n : ℕ) → is_some (cond b (Some n) None) ≡ b
some_where true n = refl
some_where false n = refl

any_placed : {X : Type 0} (p : X → Bool) (xs : List X) → list_any p xs ≡ is_some (position p xs)
any_placed p xs = any_before p xs ∙ sym (some_where (nat_lt (position_or_len p xs) (length xs)) (position_or_len p xs))

-- A node has a place in a DIF exactly where an enrolled member stands on it

nodes_there : (node : ℕ) (ms : List Member) → is_member (map (λ (m : Member). m.node) ms) node ≡ list_any (λ (m : Member). m.node == node) ms
nodes_there node [] = refl
nodes_there node (m ∷ ms) = ap (λ (b : Bool). (m.node == node) || b) (nodes_there node ms)

some_home : (b : Bool) (o : Option ℕ) → (b ≡ true → is_some o ≡ true) → b ≡ is_some (cond b o None)
some_home true o here = sym (here refl)
some_home false o here = refl

pub members_at : (d : Dif) (node : ℕ) → IsDif d → is_member d.enrolled node ≡ is_some (enrolled_home d node)
members_at d node is = some_home (is_member d.enrolled node) (home_of d node) (λ there. sym (any_placed (λ (m : Member). m.node == node) (config_of d.settings).members) ∙ sym (nodes_there node (config_of d.settings).members) ∙ sym (members_there node d.settings.members) ∙ member_there d is.stands.0 is.below is.stands.1 node there)

-- A registration is refused

abbrev by_names : Bool → Bool → Option RegisterError → Option RegisterError
by_names named placed own = cond named (Some register.Already) (cond placed own (Some register.NoMember))

pub refused_named : (d : Dif) (node : ℕ) (app : List ℕ) (own : Option RegisterError) → is_registered d.names node app ≡ true → names.refused_in (Some (fac_of (seen_of d))) node app own ≡ Some register.Already
refused_named d node app own named = ap (λ (b : Bool). by_names b (is_member (fac_of (seen_of d)).members node) own) named

pub refused_nowhere : (d : Dif) (node : ℕ) (app : List ℕ) (own : Option RegisterError) → IsDif d → is_registered d.names node app ≡ false → enrolled_home d node ≡ None → names.refused_in (Some (fac_of (seen_of d))) node app own ≡ Some register.NoMember
refused_nowhere d node app own is new none =
    ap (λ (b : Bool). by_names b (is_member (fac_of (seen_of d)).members node) own) new
    ∙ ap (λ (b : Bool). by_names false b own) (members_at d node is ∙ ap is_some none)

-- where the name is new, and a member stands on the node, by what the member refuses
pub refused_own : (d : Dif) (node at : ℕ) (app : List ℕ) (own : Option RegisterError) → is_registered d.names node app ≡ false → enrolled_home d node ≡ Some at → names.refused_in (Some (fac_of (seen_of d))) node app own ≡ own
refused_own d node at app own new here =
    ap (λ (b : Bool). by_names b (is_member (fac_of (seen_of d)).members node) own) new
    ∙ ap (λ (b : Bool). by_names false b own) (enrolled_home_is d node at here).0

-- The end of a registration is refused

abbrev by_place : Bool → Option UnregisterError → Option UnregisterError
by_place named own = cond named own (Some unregister.NotThere)

pub refused_absent : (d : Dif) (node : ℕ) (app : List ℕ) (own : Option UnregisterError) → name_place d.names node app ≡ None → left.refused_in (Some (fac_of (seen_of d))) node app own ≡ Some unregister.NotThere
refused_absent d node app own none = ap (λ (b : Bool). by_place b own) (any_placed _ d.names ∙ ap is_some none)

pub refused_left : (d : Dif) (node place : ℕ) (app : List ℕ) (own : Option UnregisterError) → name_place d.names node app ≡ Some place → left.refused_in (Some (fac_of (seen_of d))) node app own ≡ own
refused_left d node place app own there = ap (λ (b : Bool). by_place b own) (any_placed _ d.names ∙ ap is_some there)

-- What the member refuses

told_here : {E : Type 0} (as_told : AgentError → E) (d : Dif) (node at : ℕ) (m : Management) (o : Option AgentError) → enrolled_home d node ≡ Some at → slice_get d.managements at ≡ Some m → spent 1 m.agent.last_count ≡ o → told_as as_told (spent_by (management_at d node)) ≡ told_as as_told o
told_here as_told d node at m o here is_m is =
    ap (λ (k : Option ℕ). told_as as_told (spent_by (option_and_then (slice_get d.managements) k))) here
    ∙ ap (λ (g : Option Management). told_as as_told (spent_by g)) is_m
    ∙ ap (told_as as_told) is

told_nowhere : {E : Type 0} (as_told : AgentError → E) (d : Dif) (node : ℕ) → enrolled_home d node ≡ None → told_as as_told (spent_by (management_at d node)) ≡ None
told_nowhere as_told d node none = ap (λ (k : Option ℕ). told_as as_told (spent_by (option_and_then (slice_get d.managements) k))) none

-- nothing, where a version count is left
pub may_register : (d : Dif) (node at : ℕ) (app : List ℕ) (m : Management) → is_registered d.names node app ≡ false → enrolled_home d node ≡ Some at → slice_get d.managements at ≡ Some m → spent 1 m.agent.last_count ≡ None → names.refused_in (Some (fac_of (seen_of d))) node app (register_refusal d node) ≡ None
may_register d node at app m new here is_m may = refused_own d node at app (register_refusal d node) new here ∙ told_here register_told d node at m None here is_m may

pub may_unregister : (d : Dif) (node at place : ℕ) (app : List ℕ) (m : Management) → name_place d.names node app ≡ Some place → enrolled_home d node ≡ Some at → slice_get d.managements at ≡ Some m → spent 1 m.agent.last_count ≡ None → left.refused_in (Some (fac_of (seen_of d))) node app (unregister_refusal d node) ≡ None
may_unregister d node at place app m there here is_m may = refused_left d node place app (unregister_refusal d node) there ∙ told_here unregister_told d node at m None here is_m may

pub unregisters_nowhere : (d : Dif) (node place : ℕ) (app : List ℕ) → name_place d.names node app ≡ Some place → enrolled_home d node ≡ None → left.refused_in (Some (fac_of (seen_of d))) node app (unregister_refusal d node) ≡ None
unregisters_nowhere d node place app there none = refused_left d node place app (unregister_refusal d node) there ∙ told_nowhere unregister_told d node none

-- What the member answers

-- as a call tells it
abbrev pub answered : {E : Type 0} → (AgentError → E) → Result Management AgentError → Result Management E
answered as_told (Ok m) = Ok m
answered as_told (Err e) = Err (as_told e)

answers : {E : Type 0} (as_told : AgentError → E) (now : ℕ) (app : List ℕ) (value : Option (List ℕ)) (m : Management) (r : Result Management AgentError) → MayMakeEntry now app value m r → AnswersEntry as_told now app value m (answered as_told r)
answers as_told now app value m (Ok m') h = h
answers as_told now app value m (Err e) h = (e, refl, h)

pub answers_at : {E : Type 0} (as_told : AgentError → E) (now : ℕ) (app : List ℕ) (value : Management → Option (List ℕ)) (ms : List Management) (at : ℕ) (g : Management) (r : Result Management AgentError) (told : Result Management E) → slice_get ms at ≡ Some g → MayMakeEntry now app (value g) g r → told ≡ answered as_told r → (m : Management) → slice_get ms at ≡ Some m → AnswersEntry as_told now app (value m) m told
answers_at as_told now app value ms at g r told is_g h is m is_m =
    subst (λ (z : Management). AnswersEntry as_told now app (value z) z told) (same_Some g m (sym is_g ∙ is_m))
    (subst (λ (z : Result Management _). AnswersEntry as_told now app (value g) g z) (sym is) (answers as_told now app (value g) g r h))

-- where the member makes no entry, that is refused as on every facility
pub register_off : (s : Seen) (n : ℕ) (d : Dif) (node at : ℕ) (app : List ℕ) (m : Management) (e : RegisterError) → is_registered d.names node app ≡ false → enrolled_home d node ≡ Some at → slice_get d.managements at ≡ Some m → AnswersEntry register_told d.clock app (own_address m) m (Err e) → IsShownAs s n d → Registers (register_refusal d node) s n node app (Err e) (shown_as s n d)
register_off s n d node at app m e new here is_m (Memory, is, x) h = subst (λ (z : RegisterError). Registers (register_refusal d node) s n node app (Err z) (shown_as s n d)) (sym is) (unchanged s n d d h refl)
register_off s n d node at app m e new here is_m (CountSpent need counts, is, x) h =
    subst (λ (z : RegisterError). Registers (register_refusal d node) s n node app (Err z) (shown_as s n d)) (sym is)
    (registers (register_refusal d node) s n d node app (register.CountSpent need counts) (refused_own d node at app (register_refusal d node) new here ∙ told_here register_told d node at m (Some (CountSpent need counts)) here is_m x) h)

pub unregister_off : (s : Seen) (n : ℕ) (d : Dif) (node at place : ℕ) (app : List ℕ) (m : Management) (e : UnregisterError) → name_place d.names node app ≡ Some place → enrolled_home d node ≡ Some at → slice_get d.managements at ≡ Some m → AnswersEntry unregister_told d.clock app (no_value m) m (Err e) → IsShownAs s n d → Unregisters (unregister_refusal d node) s n node app (Err e) (shown_as s n d)
unregister_off s n d node at place app m e there here is_m (Memory, is, x) h = subst (λ (z : UnregisterError). Unregisters (unregister_refusal d node) s n node app (Err z) (shown_as s n d)) (sym is) (unchanged s n d d h refl)
unregister_off s n d node at place app m e there here is_m (CountSpent need counts, is, x) h =
    subst (λ (z : UnregisterError). Unregisters (unregister_refusal d node) s n node app (Err z) (shown_as s n d)) (sym is)
    (unregisters (unregister_refusal d node) s n d node app (unregister.CountSpent need counts) (refused_left d node place app (unregister_refusal d node) there ∙ told_here unregister_told d node at m (Some (CountSpent need counts)) here is_m x) h)

-- nothing is done where memory was not found
pub register_wants : (own : Option RegisterError) (s : Seen) (n : ℕ) (d d' : Dif) (node : ℕ) (app : List ℕ) (r : Result (Unit {0}) RegisterError) (e : RegisterError) → r ≡ Err e → e ≡ register.Memory → seen_of d' ≡ seen_of d → IsShownAs s n d → Registers own s n node app r (shown_as s n d')
register_wants own s n d d' node app r e is memory same h = subst (λ (z : Result (Unit {0}) RegisterError). Registers own s n node app z (shown_as s n d')) (sym (is ∙ ap (λ (x : RegisterError). Err x) memory)) (unchanged s n d d' h same)
