-- The keys of two names of applications differ, and each is the name of an object.
use Rattle.std.proofs.Common.{◌≡◌, ℕ, suc, ◌+◌, ◌<◌, Bool, true, false, not, List, [], ◌∷◌, ◌++◌, length, take, drop, map, codes, Option, Some, None, Result, Ok, Err, refl, sym, ap, subst, ◌∙◌, arith, ◌≤◌, ◌⊎◌, inl, inr, ⊎_elim, ◌&&◌}
use Rattle.std.specs.Prelude.{nat_lt, ◌==◌, position}
use Rattle.std.specs.List.{AllByRecursion, prefix_len}
use Rattle.std.proofs.lemmas.Bool.{both_ways, eqb-true, eq-eqb, ltb-true, lt-ltb, le-leb, and_from, or_left, or_right, not-false}
use Rattle.std.proofs.lemmas.Grind.{common_steps}
use Rattle.rina_base.proofs.Lengths.{app_short}
use Rattle.rina_base.specs.declared.name.NameError.{NameError}
use Rattle.rina_base.specs.ObjectNames.{IsObjectName, is_object_name, are_parts, is_object_byte}
use Rattle.rina_base.specs.Traverse.{◌>>=◌}
use Rattle.rina_base.specs.Names.{is_name_byte, length_at, bad_at, unless_bad, bytes_at, name_at, ipc_at, slash_in, app_cut, app_at}
use Rattle.rina_dir.specs.Directory.{key_byte, key_of}
use Rattle.rina_dir.proofs.Keys.{split}

abbrev NoMark : List ℕ → Type 0
NoMark text = AllByRecursion (λ (b : ℕ). b ≡ 33 → ⊥) text

-- ---- what the reader of names lets stand
mark_is_bad : is_name_byte 33 ≡ false
unfolding is_name_byte
mark_is_bad = refl

abbrev is_bad : ℕ → Bool
is_bad b = not (is_name_byte b)

not_placed : (b : ℕ) (text : List ℕ) → position is_bad (b ∷ text) ≡ None → (is_bad b ≡ false) × (position is_bad text ≡ None)
not_placed b text h = grind (arith, common_steps, h)

-- a byte of a name, or the slash
abbrev Fine : ℕ → Type 0
Fine b = (is_name_byte b ≡ true) ⊎ (b ≡ 47)

abbrev AreFine : List ℕ → Type 0
AreFine text = AllByRecursion Fine text

bytes_good : (text : List ℕ) → position is_bad text ≡ None → AreFine text
bytes_good [] h = tt
bytes_good (b ∷ text) h =
    let p = not_placed b text h in
    (inl (not-false (is_name_byte b) p.0), bytes_good text p.1)

fine_marked : (text : List ℕ) → AreFine text → NoMark text
fine_marked [] h = tt
fine_marked (b ∷ text) h =
    (λ is. ⊎_elim (λ good. both_ways (is_name_byte b) (subst (λ (x : ℕ). is_name_byte x ≡ false) (sym is) mark_is_bad) good) (λ slash. omega (arith, is, slash)) h.0, fine_marked text h.1)

abbrev Checked : Type 0
Checked = Result (Unit {0}) NameError

no_fault : (before : ℕ) (at : Option ℕ) → unless_bad before at ≡ Ok tt → at ≡ None
no_fault before None h = refl
no_fault before (Some at) h = absurd (grind (arith, h))

bytes_fine : (before : ℕ) (text : List ℕ) (u : Unit {0}) → bytes_at before text ≡ Ok u → AreFine text
unfolding bytes_at bad_at
bytes_fine before text u h = bytes_good text (no_fault before (position is_bad text) h)

both_ok : (r s : Checked) (text got : List ℕ) → (r >>= λ _. s >>= λ _. Ok text) ≡ Ok got → (u : Unit {0}) × (s ≡ Ok u)
both_ok (Ok x) (Ok y) text got h = (y, refl)
both_ok (Ok x) (Err e) text got h = absurd (grind (arith, h))
both_ok (Err e) s text got h = absurd (grind (arith, h))

name_fine : (text got : List ℕ) → name_at text ≡ Ok got → AreFine text
unfolding name_at
name_fine text got h =
    let p = both_ok (length_at text) (bytes_at 0 text) text got h in
    bytes_fine 0 text p.0 p.1

four_ok : (q r s z : Checked) (text got : List ℕ) → ((q >>= λ _. r >>= λ _. s >>= λ _. z) >>= λ _. Ok text) ≡ Ok got → ((u : Unit {0}) × (s ≡ Ok u)) × ((u : Unit {0}) × (z ≡ Ok u))
four_ok (Ok a) (Ok b) (Ok d) (Ok e) text got h = ((d, refl), (e, refl))
four_ok (Ok a) (Ok b) (Ok d) (Err e) text got h = absurd (grind (arith, h))
four_ok (Ok a) (Ok b) (Err e) z text got h = absurd (grind (arith, h))
four_ok (Ok a) (Err e) s z text got h = absurd (grind (arith, h))
four_ok (Err e) r s z text got h = absurd (grind (arith, h))

ipc_fine : (dif node text got : List ℕ) → (ipc_at dif node >>= λ _. Ok text) ≡ Ok got → AreFine dif × AreFine node
unfolding ipc_at
ipc_fine dif node text got h =
    let p = four_ok (length_at dif) (length_at node) (bytes_at 0 dif) (bytes_at (length dif + 1) node) text got h in
    (bytes_fine 0 dif p.0.0 p.0.1, bytes_fine (length dif + 1) node p.1.0 p.1.1)

-- the parts in front of the first slash and behind it, and the slash
abbrev goes_on : ℕ → Bool
goes_on b = not (b == 47)

one_more : (k m : ℕ) → k ≡ 1 + m → k ≡ suc m
one_more k m h = omega (arith, h)

at_prefix : (text : List ℕ) (k : ℕ) → k ≡ prefix_len goes_on text → k < length text → text ≡ take k text ++ 47 ∷ drop (k + 1) text
at_prefix [] k is within = absurd (omega (arith, within))
at_prefix (b ∷ text) k is within =
    split (b == 47) (λ yes.
    let none : k ≡ 0 = rw yes at is in
    subst (λ (n : ℕ). b ∷ text ≡ take n (b ∷ text) ++ 47 ∷ drop (n + 1) (b ∷ text)) (sym none) (ap (λ (x : ℕ). x ∷ text) (eqb-true b 47 yes))) (λ other.
    let m : ℕ = prefix_len goes_on text in
    let more : k ≡ suc m = one_more k m (rw other at is) in
    let rest : text ≡ take m text ++ 47 ∷ drop (m + 1) text = at_prefix text m refl (omega (arith, more, within)) in
    let one_up : suc m + 1 ≡ suc (m + 1) = omega arith in
    let shift : drop (m + 1) text ≡ drop (suc m + 1) (b ∷ text) = sym (ap (λ (n : ℕ). drop n (b ∷ text)) one_up) in
    subst (λ (n : ℕ). b ∷ text ≡ take n (b ∷ text) ++ 47 ∷ drop (n + 1) (b ∷ text)) (sym more) (ap (λ (xs : List ℕ). b ∷ xs) rest ∙ ap (λ (xs : List ℕ). b ∷ (take m text ++ 47 ∷ xs)) shift))

abbrev a_place : ℕ → Option ℕ
a_place k = Some k

same_place : (j k : ℕ) → a_place j ≡ a_place k → j ≡ k
same_place j k h = grind (arith, h)

nowhere : {G : Type 0} (k : ℕ) → None ≡ a_place k → G
nowhere k h = absurd (grind (arith, h))

at_slash : (text : List ℕ) (k : ℕ) → position (λ b. b == 47) text ≡ Some k → text ≡ take k text ++ 47 ∷ drop (k + 1) text
at_slash text k h =
    let m : ℕ = prefix_len goes_on text in
    split (nat_lt m (length text)) (λ yes.
    let is : m ≡ k = same_place m k (rw yes at h) in
    at_prefix text k (sym is) (omega (arith, is, ltb-true m (length text) yes))) (λ past. nowhere k (rw past at h))

joined : (front rest : List ℕ) → AreFine front → AreFine rest → AreFine (front ++ 47 ∷ rest)
joined [] rest h k = (inr refl, k)
joined (b ∷ front) rest h k = (h.0, joined front rest h.1 k)

cut_fine : (place : Option ℕ) (text got : List ℕ) → position (λ b. b == 47) text ≡ place → app_cut place text ≡ Ok got → AreFine text
cut_fine None text got is h = name_fine text got h
cut_fine (Some k) text got is h =
    let p = ipc_fine (take k text) (drop (k + 1) text) text got h in
    subst (λ (xs : List ℕ). AreFine xs) (sym (at_slash text k is)) (joined (take k text) (drop (k + 1) text) p.0 p.1)

app_fine : (text got : List ℕ) → app_at text ≡ Ok got → AreFine text
unfolding app_at slash_in
app_fine text got h = cut_fine (position (λ b. b == 47) text) text got refl h

-- ---- keys
same_byte : (a b : ℕ) → (a ≡ 33 → ⊥) → (b ≡ 33 → ⊥) → key_byte a ≡ key_byte b → a ≡ b
unfolding key_byte
same_byte a b h k same =
    split (a == 47) (λ first. split (b == 47) (λ second. eqb-true a 47 first ∙ sym (eqb-true b 47 second)) (λ other. absurd (k (sym (rw (first, other) at same))))) (λ apart. split (b == 47) (λ second.
    absurd (h (rw (apart, second) at same))) (λ other. rw (apart, other) at same))

heads : (x y : ℕ) (xs ys : List ℕ) → x ∷ xs ≡ y ∷ ys → (x ≡ y) × (xs ≡ ys)
heads x y xs ys h = (cc, cc)

same_bytes : (xs ys : List ℕ) → NoMark xs → NoMark ys → map key_byte xs ≡ map key_byte ys → xs ≡ ys
same_bytes [] [] h k same = refl
same_bytes [] (y ∷ ys) h k same = absurd (grind (arith, same))
same_bytes (x ∷ xs) [] h k same = absurd (grind (arith, same))
same_bytes (x ∷ xs) (y ∷ ys) h k same =
    let p = heads (key_byte x) (key_byte y) (map key_byte xs) (map key_byte ys) same in
    ap (λ (b : ℕ). b ∷ xs) (same_byte x y h.0 k.0 p.0) ∙ ap (λ (bs : List ℕ). y ∷ bs) (same_bytes xs ys h.1 k.1 p.1)

behind_folder : (xs ys : List ℕ) → codes "/dir/" ++ xs ≡ codes "/dir/" ++ ys → xs ≡ ys
behind_folder xs ys h = ap (λ (bs : List ℕ). drop 5 bs) h

pub keys_apart : (app other : List ℕ) → app_at app ≡ Ok app → app_at other ≡ Ok other → key_of app ≡ key_of other → app ≡ other
unfolding key_of
keys_apart app other is also same = same_bytes app other (fine_marked app (app_fine app app is)) (fine_marked other (app_fine other other also)) (behind_folder (map key_byte app) (map key_byte other) same)

-- ---- a key is the name of an object
mark_is_good : is_object_byte 33 ≡ true
unfolding is_object_byte is_name_byte
mark_is_good = refl

name_is_good : (b : ℕ) → is_name_byte b ≡ true → is_object_byte b ≡ true
unfolding is_object_byte
name_is_good b h = or_left (is_name_byte b) (b == 33) h

key_is_good : (b : ℕ) → Fine b → ((key_byte b == 47) ≡ false) × (is_object_byte (key_byte b) ≡ true)
unfolding key_byte
key_is_good b h =
    split (b == 47) (λ yes. rw yes (refl, mark_is_good)) (λ other. rw other (other, ⊎_elim (λ good. name_is_good b good) (λ slash. absurd (both_ways (b == 47) other (eq-eqb b 47 slash))) h))

key_parts : (before : ℕ) (text : List ℕ) → AreFine text → 0 < before + length text → before + length text ≤ 130 → are_parts before (map key_byte text) ≡ true
unfolding are_parts
key_parts before [] h some short = le-leb 1 before (omega (arith, some))
key_parts before (b ∷ text) h some short =
    let good = key_is_good b h.0 in
    let fits : nat_lt before 130 ≡ true = lt-ltb before 130 (omega (arith, short)) in
    let rest : are_parts (before + 1) (map key_byte text) ≡ true = key_parts (before + 1) text h.1 (omega arith) (omega (arith, short)) in
    rw good.0 (and_from (is_object_byte (key_byte b) && nat_lt before 130) (are_parts (before + 1) (map key_byte text)) (and_from (is_object_byte (key_byte b)) (nat_lt before 130) good.1 fits) rest)

some_name : (app got : List ℕ) → app_at app ≡ Ok got → 0 < length app
unfolding app_at slash_in name_at length_at
some_name [] got h = absurd (grind (arith, h))
some_name (b ∷ app) got h = omega arith

in_folder : (parts : List ℕ) → are_parts 0 parts ≡ true → are_parts 0 (100 ∷ 105 ∷ 114 ∷ 47 ∷ parts) ≡ true
unfolding are_parts is_object_byte is_name_byte
in_folder parts h = h

named_in_folder : (parts : List ℕ) → are_parts 0 parts ≡ true → IsObjectName (codes "/dir/" ++ parts)
unfolding is_object_name
named_in_folder parts h = or_right (length (100 ∷ 105 ∷ 114 ∷ 47 ∷ parts) == 0) (are_parts 0 (100 ∷ 105 ∷ 114 ∷ 47 ∷ parts)) (in_folder parts h)

pub key_named : (app : List ℕ) → app_at app ≡ Ok app → IsObjectName (key_of app)
unfolding key_of
key_named app is =
    let short : length app ≤ 129 = app_short app app is in
    named_in_folder (map key_byte app) (key_parts 0 app (app_fine app app is) (omega (arith, some_name app app is)) (omega (arith, short)))
