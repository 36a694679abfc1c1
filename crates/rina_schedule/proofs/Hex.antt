-- Pairs of hexadecimal digits, one after the other.
use Rattle.std.proofs.Common.{◌≡◌, Bool, cond, ltb, ℕ, ◌+◌, ◌<◌, List, [], ◌∷◌, ◌++◌, length, drop, get_or, Option, Some, None, refl, sym, ap, ◌∙◌, append_assoc, arith}
use Rattle.std.specs.Option.{option_map}
use Rattle.std.proofs.lemmas.Bool.{lt-ltb}
use Rattle.std.proofs.lemmas.List.{drop_more}
use Rattle.rina_schedule.specs.Bytes.{hex_of, hex_pair_of}

-- two bytes from a place on, and those after them
pub two_more : (bs : List ℕ) (i : ℕ) → i + 1 < length bs → drop i bs ≡ get_or bs i 0 ∷ get_or bs (i + 1) 0 ∷ drop (i + 2) bs
two_more bs i lt =
    let first : drop i bs ≡ get_or bs i 0 ∷ drop (i + 1) bs = drop_more bs i 0 (omega arith) in
    let second : drop (i + 1) bs ≡ get_or bs (i + 1) 0 ∷ drop (i + 1 + 1) bs = drop_more bs (i + 1) 0 lt in
    first ∙ ap (λ (x : List ℕ). get_or bs i 0 ∷ x) (second ∙ ap (λ (k : ℕ). get_or bs (i + 1) 0 ∷ drop k bs) (omega arith))

-- the pair at a place where two bytes stand
pub pair_there : (bs : List ℕ) (i x : ℕ) → i + 1 < length bs → Some x ≡ cond (ltb (i + 1) (length bs)) (hex_pair_of (get_or bs i 0) (get_or bs (i + 1) 0)) None → hex_pair_of (get_or bs i 0) (get_or bs (i + 1) 0) ≡ Some x
pair_there bs i x lt h = sym (h ∙ ap (λ (b : Bool). cond b (hex_pair_of (get_or bs i 0) (get_or bs (i + 1) 0)) None) (lt-ltb (i + 1) (length bs) lt))

regroup : (out : List ℕ) (x : ℕ) (o : Option (List ℕ)) → option_map (λ ys. out ++ ys) (option_map (λ ys. x ∷ ys) o) ≡ option_map (λ ys. (out ++ x ∷ []) ++ ys) o
regroup out x None = refl
regroup out x (Some ys) = ap Some (sym (append_assoc out (x ∷ []) ys))

pub pair_read : (bs out : List ℕ) (i x : ℕ) (total : Option (List ℕ)) → i + 1 < length bs → hex_pair_of (get_or bs i 0) (get_or bs (i + 1) 0) ≡ Some x
    → option_map (λ ys. out ++ ys) (hex_of (drop i bs)) ≡ total → option_map (λ ys. (out ++ x ∷ []) ++ ys) (hex_of (drop (i + 2) bs)) ≡ total
unfolding hex_of
pair_read bs out i x total lt h so_far =
    let one : hex_of (drop i bs) ≡ option_map (λ ys. x ∷ ys) (hex_of (drop (i + 2) bs)) = ap hex_of (two_more bs i lt) ∙ rw (h, hex_of) refl in
    sym (ap (λ o. option_map (λ ys. out ++ ys) o) one ∙ regroup out x (hex_of (drop (i + 2) bs))) ∙ so_far
