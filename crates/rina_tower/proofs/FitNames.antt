-- IPC processes of two DIFs have different names, and each has a slash in it.
use Rattle.std.proofs.Common.{◌≡◌, ◌≢◌, ℕ, suc, ◌+◌, ◌<◌, ◌==◌, ◌∙◌, not, Bool, true, false, List, [], ◌∷◌, ◌++◌, length, slice_get, take, drop, get_or, Some, None, Option, Ok, Err, Result, is_some, refl, sym, ap, subst, arith}
use Rattle.std.specs.Prelude.{position}
use Rattle.std.proofs.lemmas.Bool.Decides.{nat_tests}
use Rattle.std.proofs.lemmas.List.Quantifiers.{position-Some}
use Rattle.std.proofs.lemmas.Option.{get_or_from_slice_get, same_Some, slice_get-get_or, slice_get_within}
use Rattle.rina_base.specs.declared.name.NameError.{NameError}
use Rattle.rina_base.specs.Names.{app_at, app_cut, bad_at, bytes_at, ipc_at, is_name_byte, length_at, name_at, slash_in, unless_bad}
use Rattle.rina_base.specs.Traverse.{◌>>=◌}
use Rattle.rina_plan.proofs.Places.{nowhere}
use Rattle.rina_plan.specs.declared.dif.DifPlan.{DifPlan}
use Rattle.rina_stack.specs.declared.plan.Plan.{Plan}
use Rattle.rina_stack.specs.Plan.{IsPlan}
use Rattle.rina_stack.proofs.NamesOfDifs.{differ, named}
use Rattle.rina_dif.specs.Planned.{ipc_name, node_name}
use Rattle.rina_tower.specs.Bystanders.{IsIpc}

-- the names of the DIFs are names, and differ
pub record AreNamed (plan : Plan) : Type 0 where
  pub named : (i : ℕ) (d : DifPlan) → slice_get plan.difs i ≡ Some d → name_at d.name ≡ Ok d.name
  pub differ : (i k : ℕ) (d e : DifPlan) → slice_get plan.difs i ≡ Some d → slice_get plan.difs k ≡ Some e → i ≢ k → d.name ≢ e.name

pub are_named : (plan : Plan) → IsPlan plan → AreNamed plan
are_named plan p = record { named = named plan p; differ = differ plan p }

-- no byte of a text is a slash
abbrev pub NoSlash : List ℕ → Type 0
NoSlash text = (k : ℕ) → slice_get text k ≡ Some 47 → ⊥

first_ok : {A B : Type 0} (r : Result A NameError) (f : A → Result B NameError) (y : B) → (r >>= f) ≡ Ok y → (x : A) × (r ≡ Ok x) × (f x ≡ Ok y)
first_ok (Ok x) f y e = (x, refl, e)
first_ok (Err _) f y e = absurd cc

slash_is_none : is_name_byte 47 ≡ false
unfolding is_name_byte
slash_is_none = refl

no_bad : (text : List ℕ) → bad_at text ≡ None → NoSlash text
unfolding bad_at
no_bad text h k at =
    let within : k < length text = slice_get_within text k 47 at in
    let fails : not (is_name_byte (get_or text k 47)) ≡ false = nowhere (λ b. not (is_name_byte b)) text h k 47 within in
    let is : get_or text k 47 ≡ 47 = get_or_from_slice_get text k 47 47 at in
    let e : not (is_name_byte 47) ≡ false = subst (λ (b : ℕ). not (is_name_byte b) ≡ false) is fails in
    let f : not false ≡ false = subst (λ (b : Bool). not b ≡ false) slash_is_none e in
    cc

unless_none : (text : List ℕ) (o : Option ℕ) (u : Unit {0}) → bad_at text ≡ o → unless_bad 0 o ≡ Ok u → bad_at text ≡ None
unless_none text None u is h = is
unless_none text (Some k) u is h = absurd cc

bytes_fine : (text : List ℕ) (u : Unit {0}) → bytes_at 0 text ≡ Ok u → bad_at text ≡ None
unfolding bytes_at
bytes_fine text u h = unless_none text (bad_at text) u refl h

pub name_no_slash : (text : List ℕ) → name_at text ≡ Ok text → NoSlash text
unfolding name_at
name_no_slash text h =
    let p = first_ok (length_at text) (λ _. bytes_at 0 text >>= λ _. Ok text) text h in
    let q = first_ok (bytes_at 0 text) (λ _. Ok text) text p.2 in
    no_bad text (bytes_fine text q.0 q.1)

given : {A : Type 0} (r : Result A NameError) (text name : List ℕ) → (r >>= λ _. Ok text) ≡ Ok name → text ≡ name
given r text name e = let p = first_ok r (λ _. Ok text) name e in cc

plain_is : (text name : List ℕ) → name_at text ≡ Ok name → text ≡ name
unfolding name_at
plain_is text name h = let p = first_ok (length_at text) (λ _. bytes_at 0 text >>= λ _. Ok text) name h in given (bytes_at 0 text) text name p.2

cut_is : (cut : Option ℕ) (text name : List ℕ) → app_cut cut text ≡ Ok name → text ≡ name
cut_is None text name h = plain_is text name h
cut_is (Some k) text name h = given (ipc_at (take k text) (drop (k + 1) text)) text name h

-- the name of an application that was read is the text
pub app_is : (text name : List ℕ) → app_at text ≡ Ok name → text ≡ name
unfolding app_at
app_is text name h = cut_is (slash_in text) text name h

abbrev rest : List ℕ → List ℕ
rest [] = []
rest (x ∷ xs) = xs

at_end : (xs : List ℕ) (z : ℕ) (zs : List ℕ) → slice_get (xs ++ z ∷ zs) (length xs) ≡ Some z
at_end [] z zs = refl
at_end (x ∷ xs) z zs = at_end xs z zs

head_is : (x y : ℕ) (xs ys : List ℕ) → x ∷ xs ≡ y ∷ ys → (x ≡ y) × (xs ≡ ys)
head_is x y xs ys h = (same_Some x y (ap (λ (zs : List ℕ). slice_get zs 0) h), ap rest h)

-- what stands before the first slash is told by the whole
pub before_slash : (xs ys a b : List ℕ) → NoSlash xs → NoSlash ys → xs ++ 47 ∷ a ≡ ys ++ 47 ∷ b → xs ≡ ys
before_slash [] [] a b n m h = refl
before_slash [] (y ∷ ys) a b n m h = absurd (m 0 (ap (λ (z : ℕ). Some z) (sym (head_is 47 y a (ys ++ 47 ∷ b) h).0)))
before_slash (x ∷ xs) [] a b n m h = absurd (n 0 (ap (λ (z : ℕ). Some z) (head_is x 47 (xs ++ 47 ∷ a) b h).0))
before_slash (x ∷ xs) (y ∷ ys) a b n m h =
    let p = head_is x y (xs ++ 47 ∷ a) (ys ++ 47 ∷ b) h in
    let q : xs ≡ ys = before_slash xs ys a b (λ k at. n (suc k) at) (λ k at. m (suc k) at) p.1 in
    ap (λ (z : ℕ). z ∷ xs) p.0 ∙ ap (λ (zs : List ℕ). y ∷ zs) q

-- a member of two DIFs shows that they have one name
pub one_name : (plan : Plan) (d e : DifPlan) (m n : ℕ) → name_at d.name ≡ Ok d.name → name_at e.name ≡ Ok e.name → ipc_name plan d m ≡ ipc_name plan e n → d.name ≡ e.name
unfolding ipc_name
one_name plan d e m n dn en h = before_slash d.name e.name (node_name plan m) (node_name plan n) (name_no_slash d.name dn) (name_no_slash e.name en) h

found_in : (xs ys : List ℕ) → is_some (position (λ b. b == 47) (xs ++ 47 ∷ ys)) ≡ true
found_in xs ys = elim (position (λ b. b == 47) (xs ++ 47 ∷ ys)) as (λ o. position (λ b. b == 47) (xs ++ 47 ∷ ys) ≡ o → is_some o ≡ true) [
  | Some k ↦ λ h. refl
  | None ↦ λ h.
      let at : slice_get (xs ++ 47 ∷ ys) (length xs) ≡ Some 47 = at_end xs 47 ys in
      let fails : (get_or (xs ++ 47 ∷ ys) (length xs) 47 == 47) ≡ false = nowhere (λ b. b == 47) (xs ++ 47 ∷ ys) h (length xs) 47 (slice_get_within (xs ++ 47 ∷ ys) (length xs) 47 at) in
      let is : get_or (xs ++ 47 ∷ ys) (length xs) 47 ≡ 47 = get_or_from_slice_get (xs ++ 47 ∷ ys) (length xs) 47 47 at in
      let e : (47 == 47) ≡ false = subst (λ (b : ℕ). (b == 47) ≡ false) is fails in
      let f : true ≡ false = e in cc
] refl

-- the name of an IPC process has a slash
pub has_slash : (plan : Plan) (d : DifPlan) (m : ℕ) → is_some (slash_in (ipc_name plan d m)) ≡ true
unfolding ipc_name slash_in
has_slash plan d m = found_in d.name (node_name plan m)

slash_there : (text : List ℕ) (o : Option ℕ) → position (λ b. b == 47) text ≡ o → is_some o ≡ true → NoSlash text → ⊥
slash_there text None is h none = cc
slash_there text (Some k) is h none =
    let here = position-Some (λ b. b == 47) text k 0 is in
    let byte : get_or text k 0 ≡ 47 = (let e = here.1 in grind (arith, nat_tests, e)) in
    none k (slice_get-get_or text k 0 here.0 ∙ ap (λ (b : ℕ). Some b) byte)

-- a name is none of an IPC process
pub plain_name : (text : List ℕ) → name_at text ≡ Ok text → IsIpc text → ⊥
unfolding slash_in
plain_name text h ipc = slash_there text (position (λ b. b == 47) text) refl ipc (name_no_slash text h)
