-- A shelf has a name where one of its places has it, whatever the counts of its policies.
use Rattle.std.proofs.Common.{◌≡◌, ◌∙◌, ℕ, ◌+◌, List, [], ◌∷◌, map, length, not, position, is_some, Option, refl, ap, cond, suc, nat_lt, Some, None}
use Rattle.std.specs.List.{position_or_len}
use Rattle.std.specs.Str.{bytes_eq}
use Rattle.rina_policy.specs.declared.count.Count.{Count}
use Rattle.rina_policy.specs.Slots.{Slot, has_name, slots_of}

prefix : {P B : Type 0} (name : P → List ℕ) (policy : P → Option B) (count : B → Count) (n : List ℕ) (ps : List P) → position_or_len (λ (s : Slot). bytes_eq s.name n) (slots_of name policy count ps) ≡ position_or_len (λ t. bytes_eq t n) (map name ps)
prefix name policy count n [] = refl
prefix name policy count n (p ∷ ps) = ap (λ k. cond (not (bytes_eq (name p) n)) (1 + k) 0) (prefix name policy count n ps)

lengths : {P B : Type 0} (name : P → List ℕ) (policy : P → Option B) (count : B → Count) (ps : List P) → length (slots_of name policy count ps) ≡ length (map name ps)
lengths name policy count [] = refl
lengths name policy count (p ∷ ps) = ap suc (lengths name policy count ps)

pub known : {P B : Type 0} (name : P → List ℕ) (policy : P → Option B) (count : B → Count) (n : List ℕ) (ps : List P) → has_name n (slots_of name policy count ps) ≡ is_some (position (λ t. bytes_eq t n) (map name ps))
known name policy count n ps =
    let slots = slots_of name policy count ps in
    let at = position_or_len (λ t. bytes_eq t n) (map name ps) in
    ap (λ k. is_some (cond (nat_lt k (length slots)) (Some k) None)) (prefix name policy count n ps) ∙ ap (λ m. is_some (cond (nat_lt at m) (Some at) None)) (lengths name policy count ps)
