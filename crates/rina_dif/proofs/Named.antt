-- What the plan of a stack says of a DIF.
use Rattle.std.proofs.Common.{◌≡◌, ◌∙◌, ℕ, ◌<◌, get_or, length, zero, suc, ◌+◌, add-one, ap, arith, List, [], ◌∷◌, ◌++◌, take, drop, Option, Some, None, Result, Ok, Err, refl, sym}
use Rattle.std.specs.Prelude.{slice_get, slice_index_or}
use Rattle.std.proofs.lemmas.Option.{get_or_from_slice_get, slice_get-get_or}
use Rattle.rina_base.specs.declared.name.NameError.{NameError}
use Rattle.rina_base.specs.Names.{app_at, app_cut, bytes_at, ipc_at, length_at, name_at, slash_in}
use Rattle.rina_base.specs.Traverse.{◌>>=◌}
use Rattle.rina_plan.specs.declared.dif.DifPlan.{DifPlan}
use Rattle.rina_plan.specs.declared.dif.MemberPlan.{MemberPlan}
use Rattle.rina_stack.specs.declared.plan.Plan.{Plan}
use Rattle.rina_data.specs.declared.settings.Member.{Member}
use Rattle.rina_dif.specs.Planned.{ipc_name, member_of, members_from}

-- Names

given : {A : Type 0} (r : Result A NameError) (text name : List ℕ) → (r >>= λ _. Ok text) ≡ Ok name → text ≡ name
given (Ok x) text name e = cc
given (Err f) text name e = absurd cc

after : {A : Type 0} (r : Result A NameError) (f : A → Result (List ℕ) NameError) (text name : List ℕ) → ((x : A) → f x ≡ Ok name → text ≡ name) → (r >>= f) ≡ Ok name → text ≡ name
after (Ok x) f text name rest e = rest x e
after (Err g) f text name rest e = absurd cc

plain_is : (text name : List ℕ) → name_at text ≡ Ok name → text ≡ name
unfolding name_at
plain_is text name e = after (length_at text) (λ _. bytes_at 0 text >>= λ _. Ok text) text name (λ x h. given (bytes_at 0 text) text name h) e

cut_is : (cut : Option ℕ) (text name : List ℕ) → app_cut cut text ≡ Ok name → text ≡ name
cut_is None text name e = plain_is text name e
cut_is (Some k) text name e = given (ipc_at (take k text) (drop (k + 1) text)) text name e

-- a name that was read is the text
pub name_is : (text name : List ℕ) → app_at text ≡ Ok name → text ≡ name
unfolding app_at
name_is text name e = cut_is (slash_in text) text name e

-- the name of an IPC process, which was read from the names of its DIF and its node
pub ipc_named : (plan : Plan) (d : DifPlan) (node : ℕ) (system text name dif there : List ℕ) → slice_get plan.nodes node ≡ Some system → app_at text ≡ Ok name → text ≡ dif ++ 47 ∷ there → dif ≡ d.name → there ≡ system → name ≡ ipc_name plan d node
unfolding ipc_name
ipc_named plan d node system text name dif there at read is dif_is there_is =
    let named : slice_index_or plan.nodes node [] ≡ system = get_or_from_slice_get plan.nodes node system [] at in
    sym (name_is text name read) ∙ is ∙ rw (dif_is, there_is, named) refl

-- IPC processes

from_here : (plan : Plan) (d : DifPlan) (n k : ℕ) (ms : List MemberPlan) (i : ℕ) (m : MemberPlan) → k ≡ n + i → slice_get ms i ≡ Some m → members_from plan d n (take (suc i) ms) ≡ members_from plan d n (take i ms) ++ member_of plan d k m ∷ []
from_here plan d n k [] i m is at = cc
from_here plan d n k (x ∷ ms) zero m is at =
    let same : x ≡ m = cc in
    let here : k ≡ n = omega (arith, is) in
    rw (same, here) refl
from_here plan d n k (x ∷ ms) (suc i) m is at =
    let on : k ≡ n + 1 + i = omega (arith, is) in
    ap (λ rest. member_of plan d n x ∷ rest) (from_here plan d (n + 1) k ms i m on at)

-- one more
pub one_member : (plan : Plan) (d : DifPlan) (n k : ℕ) (ms : List MemberPlan) (i : ℕ) (m : MemberPlan) → k ≡ n + i → slice_get ms i ≡ Some m → members_from plan d n (take (i + 1) ms) ≡ members_from plan d n (take i ms) ++ member_of plan d k m ∷ []
one_member plan d n k ms i m is at = rw (add-one i) (from_here plan d n k ms i m is at)

pub next_member : (plan : Plan) (d : DifPlan) (n k : ℕ) (ms items : List MemberPlan) (i : ℕ) (old new : List Member) (x : Member) (e : MemberPlan) → items ≡ ms → i < length items → k ≡ n + i → new ≡ old ++ x ∷ [] → x ≡ member_of plan d k (get_or items i e) → old ≡ members_from plan d n (take i ms) → new ≡ members_from plan d n (take (i + 1) ms)
next_member plan d n k ms items i old new x e same lt is pushed x_is old_is =
    let at : slice_get ms i ≡ Some (get_or items i e) = ap (λ (l : List MemberPlan). slice_get l i) (sym same) ∙ slice_get-get_or items i e lt in
    let more = one_member plan d n k ms i (get_or items i e) is at in
    pushed ∙ rw (x_is, old_is) (sym more)
