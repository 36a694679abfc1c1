-- Texts that were seen.
use Rattle.std.proofs.Common.{◌≡◌, ℕ, ◌+◌, ◌<◌, ◌||◌, Bool, true, false, cond, List, [], ◌∷◌, ◌++◌, length, take, get_or, Bor, Option, Some, refl, sym, ap, ◌∙◌, arith}
use Rattle.std.specs.Prelude.{is_some}
use Rattle.std.specs.Str.{bytes_eq}
use Rattle.std.specs.List.{list_any}
use Rattle.std.proofs.lemmas.List.{take_more, length-map, get_or-map}
use Rattle.rina_stack.specs.Rules.{has_text}
use Rattle.rina_table.proofs.Indexing.{seen}

any_both : (a b c : Bool) → (a || cond b true c) ≡ cond b true (a || c)
any_both true true c = refl
any_both true false c = refl
any_both false true c = refl
any_both false false c = refl

one_any : (b : Bool) → (b || false) ≡ cond b true false
one_any true = refl
one_any false = refl

any_push : {A : Type 0} (p : A → Bool) (xs : List A) (y : A) → list_any p (xs ++ y ∷ []) ≡ cond (p y) true (list_any p xs)
any_push p [] y = one_any (p y)
any_push p (x ∷ xs) y = ap (λ b. p x || b) (any_push p xs y) ∙ any_both (p x) (p y) (list_any p xs)

if_seen : (b : Bool) (at : ℕ) (o : Option ℕ) → is_some (cond b (Some at) o) ≡ cond b true (is_some o)
if_seen true at o = refl
if_seen false at o = refl

-- a text more was seen
pub seen_step : (xs : List (Bor (List ℕ))) (i at : ℕ) (d : Bor (List ℕ)) (q : List ℕ) (old new : Option ℕ) → i < length xs → is_some old ≡ has_text (take i (seen xs)) q
    → new ≡ cond (bytes_eq (get_or xs i d).now q) (Some at) old → is_some new ≡ has_text (take (i + 1) (seen xs)) q
seen_step xs i at d q old new within before is =
    let ts = seen xs in
    let room : i < length ts = omega (arith, length-map xs (λ (x : Bor (List ℕ)). x.now)) in
    let t = get_or ts i d.now in
    let same : t ≡ (get_or xs i d).now = get_or-map (λ (x : Bor (List ℕ)). x.now) xs i d d.now within in
    let whole : has_text (take (i + 1) ts) q ≡ cond (bytes_eq t q) true (has_text (take i ts) q) = ap (λ us. has_text us q) (take_more ts i d.now room) ∙ any_push (λ u. bytes_eq u q) (take i ts) t in
    let one : is_some (cond (bytes_eq (get_or xs i d).now q) (Some at) old) ≡ is_some (cond (bytes_eq t q) (Some at) old) = ap (λ (u : List ℕ). is_some (cond (bytes_eq u q) (Some at) old)) (sym same) in
    let two : cond (bytes_eq t q) true (is_some old) ≡ cond (bytes_eq t q) true (has_text (take i ts) q) = ap (cond (bytes_eq t q) true) before in
    ap is_some is ∙ one ∙ if_seen (bytes_eq t q) at old ∙ two ∙ sym whole
