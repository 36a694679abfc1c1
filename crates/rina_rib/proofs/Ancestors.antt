-- Each name in front of an object's is a folder that is there.
use Rattle.std.proofs.Common.{◌≡◌, ℕ, zero, suc, ◌+◌, ◌<◌, ◌≤◌, ◌⊎◌, inl, inr, ⊎_elim, List, [], ◌∷◌, ◌++◌, length, take, codes, Ok, refl, sym, ap, subst, ◌∙◌, arith, length-append, append_assoc}
use Rattle.rina_base.specs.declared.class.Class.{Class}
use Rattle.rina_base.specs.ObjectNames.{IsObjectName}
use Rattle.rina_rib.specs.declared.caller.Caller.{Caller}
use Rattle.rina_rib.specs.Names.{last_slash}
use Rattle.rina_rib.specs.Things.{Thing}
use Rattle.rina_rib.specs.Rows.{Tree, created, deleted}
use Rattle.rina_rib.specs.Laws.{LiesBelow, Has, HasItsFolder, IsFolderAt, StandInTree}
use Rattle.rina_rib.proofs.Lookups.{nothing}
use Rattle.rina_rib.proofs.Changes.{IsCreated, is_created, deleted_changes}
use Rattle.rina_rib.proofs.Parents.{NoSlash, HasLast, last_cases, slash_behind, take_front}
use Rattle.rina_rib.proofs.Growth.{its_folder, deleted_tree}

slash_in : (front rest : List ℕ) → NoSlash (front ++ 47 ∷ rest) → ⊥
slash_in [] rest h = h.0 refl
slash_in (b ∷ front) rest h = slash_in front rest h.1

-- what stands in front of the last slash
same_front : (front other part rest name : List ℕ) → NoSlash part → NoSlash rest → name ≡ front ++ 47 ∷ part → name ≡ other ++ 47 ∷ rest → front ≡ other
same_front front other part rest name none too is also =
    let first : last_slash 0 0 name ≡ 0 + length front = ap (λ (xs : List ℕ). last_slash 0 0 xs) is ∙ slash_behind front part 0 0 none in
    let second : last_slash 0 0 name ≡ 0 + length other = ap (λ (xs : List ℕ). last_slash 0 0 xs) also ∙ slash_behind other rest 0 0 too in
    let long : length front ≡ length other = omega (arith, first, second) in
    sym (take_front front (47 ∷ part) (length front) refl) ∙ ap (λ (xs : List ℕ). take (length front) xs) (sym is ∙ also) ∙ take_front other (47 ∷ rest) (length front) long

long_name : (front rest name : List ℕ) → 0 < length front → name ≡ front ++ 47 ∷ rest → 1 < length name
long_name front rest name some is = omega (arith, ap (λ (xs : List ℕ). length xs) is, length-append front (47 ∷ rest), some)

shorter : (front part name : List ℕ) (n : ℕ) → name ≡ front ++ 47 ∷ part → length name ≤ suc n → length front ≤ n
shorter front part name n is le = omega (arith, ap (λ (xs : List ℕ). length xs) is, length-append front (47 ∷ part), le)

tails : (x y : ℕ) (xs ys : List ℕ) → x ∷ xs ≡ y ∷ ys → xs ≡ ys
tails x y xs ys e = cc

-- a name right under the root has one slash
no_root : (front rest name part : List ℕ) → 0 < length front → name ≡ front ++ 47 ∷ rest → NoSlash part → name ≡ 47 ∷ part → ⊥
no_root [] rest name part some is none root = omega (arith, some)
no_root (b ∷ front) rest name part some is none root =
    slash_in front rest (subst (λ (xs : List ℕ). NoSlash xs) (tails 47 b part (front ++ 47 ∷ rest) (sym root ∙ is)) none)

step : (n : ℕ) (t : Tree) (folder name rest : List ℕ) (h : HasItsFolder t name) → ((f : List ℕ) (x : Thing) → length f ≤ n → LiesBelow folder f → Has t f x → IsFolderAt t folder) → length name ≤ suc n → 0 < length folder → name ≡ folder ++ 47 ∷ rest
    → ((h.folder ≡ codes "/") × (name ≡ h.folder ++ h.stands.part)) ⊎ (name ≡ h.folder ++ 47 ∷ h.stands.part) → NoSlash rest ⊎ HasLast rest → IsFolderAt t folder
step n t folder name rest h more le some is (inl root) last = absurd (no_root folder rest name h.stands.part some is h.stands.is_part.no_slash (root.1 ∙ ap (λ (xs : List ℕ). xs ++ h.stands.part) root.0))
step n t folder name rest h more le some is (inr joined) (inl none) =
    let same : h.folder ≡ folder = same_front h.folder folder h.stands.part rest name h.stands.is_part.no_slash none joined is in
    (h.object, subst (λ (f : List ℕ). Has t f h.object) same h.there, h.is_folder)
step n t folder name rest h more le some is (inr joined) (inr one) =
    let also : name ≡ (folder ++ 47 ∷ one.front) ++ 47 ∷ one.part = is ∙ ap (λ (xs : List ℕ). folder ++ 47 ∷ xs) one.is ∙ sym (append_assoc folder (47 ∷ one.front) (47 ∷ one.part)) in
    let same : h.folder ≡ folder ++ 47 ∷ one.front = same_front h.folder (folder ++ 47 ∷ one.front) h.stands.part one.part name h.stands.is_part.no_slash one.no_slash joined also in
    more h.folder h.object (shorter h.folder h.stands.part name n joined le) (one.front, same) h.there

up_to : (n : ℕ) (t : Tree) (folder name : List ℕ) (o : Thing) → length name ≤ n → StandInTree t → 0 < length folder → LiesBelow folder name → Has t name o → IsFolderAt t folder
up_to zero t folder name o le tree some below has = absurd (omega (arith, long_name folder below.0 name some below.1, le))
up_to (suc n) t folder name o le tree some below has =
    ⊎_elim (λ root. absurd (omega (arith, long_name folder below.0 name some below.1, ap (λ (xs : List ℕ). length xs) root))) (λ h.
    step n t folder name below.0 h (λ f x short lies there. up_to n t folder f x short tree some lies there) le some below.1 h.stands.joined (last_cases below.0)) (tree.folders name o has)

pub in_front : (t : Tree) (folder name : List ℕ) (o : Thing) → StandInTree t → 0 < length folder → LiesBelow folder name → Has t name o → IsFolderAt t folder
in_front t folder name o tree some below has = up_to (length name) t folder name o (omega arith) tree some below has

pub made_in_folder : (t after : Tree) (by : Caller) (name : List ℕ) (class : Class) (value : List ℕ) → IsObjectName name → created t by name class value ≡ Ok after → HasItsFolder t name
made_in_folder t after by name class value named h =
    let made : IsCreated t after by name class value = is_created t after by name class value h in
    its_folder t name named made.has_parent

longer : (front rest : List ℕ) (name : List ℕ) → name ≡ front ++ 47 ∷ rest → name ≡ front → ⊥
longer front rest name is same = omega (arith, ap (λ (xs : List ℕ). length xs) is, ap (λ (xs : List ℕ). length xs) same, length-append front (47 ∷ rest))

pub nothing_below : (t after : Tree) (by : Caller) (name other : List ℕ) (o : Thing) → StandInTree t → 0 < length name → deleted t by name ≡ Ok after → LiesBelow name other → Has t other o → ⊥
nothing_below t after by name other o tree some h below has =
    let gone = deleted_changes t after by name tree h in
    let still : Has after other o = gone.1.others other (longer name below.0 other below.1) ∙ has in
    let folder : IsFolderAt after name = in_front after name other o (deleted_tree t after by name tree h) some below still in
    nothing folder.0 (sym gone.1.after ∙ folder.1)
