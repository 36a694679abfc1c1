-- A link state that is written claims what was written.
use Rattle.std.proofs.Common.{◌≡◌, ◌==◌, ◌&&◌, ℕ, ◌+◌, ◌-◌, ◌%◌, ◌^◌, ◌<◌, ◌≤◌, nat_le, Bool, true, false, not, cond, List, [], ◌∷◌, ◌++◌, length, take, drop, get_or, Option, Some, None, option_map, option_and_then, refl, sym, ap, ◌∙◌, arith}
use Rattle.std.specs.Prelude.{All, codes}
use Rattle.std.specs.List.{position_or_len, filter_map, cons_option}
use Rattle.std.specs.Fmt.{decimal}
use Rattle.std.proofs.Math.Seq.{take-append_seam, drop-append-add}
use Rattle.std.proofs.lemmas.Bool.Decides.{nat_tests}
use Rattle.std.proofs.lemmas.Fmt.{decimal_by_steps}
use Rattle.std.proofs.lemmas.List.Elements.{All-append, All-cons, All-nil, All-head, All-tail}
use Rattle.std.proofs.lemmas.List.Splits.{slice_split_none, slice_split_at}
use Rattle.rina_base.specs.Decimals.{decimal_of, number_of}
use Rattle.rina_base.proofs.Decimals.{decimal_back}
use Rattle.rina_graph.specs.declared.graph.Edge.{Edge}
use Rattle.rina_newest.specs.declared.item.Version.{Version}
use Rattle.rina_route.specs.Routes.{edge, in_weights, weight_at, claim_at, claims_in, claims_by, claims_of}
use Rattle.rina_route.specs.Written.{claim_text, claims_behind, claims_text, IsClaim}

-- ---- digits

abbrev IsDigit : ℕ → Type 0
IsDigit b = (48 ≤ b) × (b ≤ 57)

digits : (n : ℕ) → n < 2 ^ 64 → All IsDigit (decimal n)
digits n lt = decimal_by_steps (λ n ds. All IsDigit ds) one more n lt
  where
    one : (n : ℕ) → n < 10 → All IsDigit ((48 + n) ∷ [])
    one n small = All-cons IsDigit (48 + n) [] (omega arith, omega arith) (All-nil IsDigit)

    more : (n : ℕ) (ds : List ℕ) → 10 ≤ n → All IsDigit ds → All IsDigit (ds ++ ((48 + n % 10) ∷ []))
    more n ds le h = All-append IsDigit ds ((48 + n % 10) ∷ []) h (All-cons IsDigit (48 + n % 10) [] (omega arith, omega arith) (All-nil IsDigit))

not_colon : (b : ℕ) → IsDigit b → (b == 58) ≡ false
not_colon b h = (let low = h.0 in let high = h.1 in grind (arith, nat_tests))

not_comma : (b : ℕ) → IsDigit b → (b == 44) ≡ false
not_comma b h = (let low = h.0 in let high = h.1 in grind (arith, nat_tests))

no_comma : (n : ℕ) → n < 2 ^ 64 → All (λ b. (b == 44) ≡ false) (decimal n)
no_comma n lt = λ k d within. not_comma (get_or (decimal n) k d) (digits n lt k d within)

whole : (own : ℕ) (e : Edge) → IsClaim own e → All (λ b. (b == 44) ≡ false) (claim_text e)
whole own e h =
    let to = h.to in
    let weight = h.weight in
    let P : ℕ → Type 0 = λ b. (b == 44) ≡ false in
    All-append P (decimal e.to) (58 ∷ decimal e.weight) (no_comma e.to (omega arith)) (All-cons P 58 (decimal e.weight) refl (no_comma e.weight (omega arith)))

-- ---- one neighbour

colon_at : (xs ys : List ℕ) → All (λ b. (b == 58) ≡ false) xs → position_or_len (λ b. b == 58) (xs ++ 58 ∷ ys) ≡ length xs
colon_at [] ys h = refl
colon_at (x ∷ xs) ys h =
    let P : ℕ → Type 0 = λ b. (b == 58) ≡ false in
    let rest : position_or_len (λ b. b == 58) (xs ++ 58 ∷ ys) ≡ length xs = colon_at xs ys (All-tail P x xs h) in
    let one : 1 + length xs ≡ length (x ∷ xs) = omega arith in
    ap (λ (b : Bool). cond (not b) (1 + position_or_len (λ c. c == 58) (xs ++ 58 ∷ ys)) 0) (All-head P x xs h) ∙ ap (λ (n : ℕ). 1 + n) rest ∙ one

weighs : (n : ℕ) → 1 ≤ n → n ≤ 65535 → in_weights n ≡ Some n
weighs n low high = both (nat_le 1 n) (nat_le n 65535) (grind (arith, nat_tests)) (grind (arith, nat_tests))
  where
    both : (a b : Bool) → a ≡ true → b ≡ true → cond (a && b) (Some n) None ≡ Some n
    both true true h g = refl
    both true false h g = cc
    both false b h g = cc

joined : (own to weight : ℕ) (t w : Option ℕ) → t ≡ Some to → w ≡ Some weight → option_and_then (λ there. option_map (λ v. edge own there v) w) t ≡ Some (edge own to weight)
joined own to weight None w h g = cc
joined own to weight (Some a) None h g = cc
joined own to weight (Some a) (Some b) h g =
    let there : a ≡ to = cc in
    let heavy : b ≡ weight = cc in
    ap (λ (x : ℕ). Some (edge own x b)) there ∙ ap (λ (y : ℕ). Some (edge own to y)) heavy

claim_read : (own : ℕ) (e : Edge) → IsClaim own e → claim_at own (claim_text e) ≡ Some e
unfolding claim_at
claim_read own e h =
    let to = h.to in
    let least = h.least in
    let weight = h.weight in
    let part = claim_text e in
    let at : position_or_len (λ b. b == 58) part ≡ length (decimal e.to) = colon_at (decimal e.to) (decimal e.weight) (λ k d within. not_colon (get_or (decimal e.to) k d) (digits e.to (omega arith) k d within)) in
    let front : take (position_or_len (λ b. b == 58) part) part ≡ decimal e.to = ap (λ (n : ℕ). take n part) at ∙ take-append_seam (decimal e.to) (58 ∷ decimal e.weight) in
    let back : drop (position_or_len (λ b. b == 58) part + 1) part ≡ decimal e.weight = ap (λ (n : ℕ). drop (n + 1) part) at ∙ drop-append-add (decimal e.to) (58 ∷ decimal e.weight) 1 in
    let there : number_of (take (position_or_len (λ b. b == 58) part) part) ≡ Some e.to = ap number_of front ∙ decimal_back (2 ^ 32 - 1) e.to (omega arith) (omega arith) in
    let heavy : weight_at (drop (position_or_len (λ b. b == 58) part + 1) part) ≡ Some e.weight = ap weight_at back ∙ ap (option_and_then in_weights) (decimal_back (2 ^ 32 - 1) e.weight (omega arith) (omega arith)) ∙ weighs e.weight least weight in
    joined own e.to e.weight _ _ there heavy ∙ ap (λ (f : ℕ). Some (edge f e.to e.weight)) (sym h.from)

-- ---- all of them

behind : (own : ℕ) (e : Edge) (es : List Edge) → IsClaim own e → All (IsClaim own) es → claims_in own (claims_behind (claim_text e) es) ≡ e ∷ es
behind own e [] one all =
    ap (filter_map (claim_at own)) (slice_split_none (λ b. b == 44) (claim_text e) (whole own e one)) ∙ ap (λ (o : Option Edge). cons_option o []) (claim_read own e one)
behind own e (f ∷ fs) one all =
    let rest = claims_behind (claim_text f) fs in
    ap (filter_map (claim_at own)) (slice_split_at (λ b. b == 44) (claim_text e) 44 rest (whole own e one) refl)
    ∙ ap (λ (o : Option Edge). cons_option o (claims_in own rest)) (claim_read own e one)
    ∙ ap (λ (l : List Edge). e ∷ l) (behind own f fs (All-head (IsClaim own) f fs all) (All-tail (IsClaim own) f fs all))

no_claim : (own : ℕ) → claim_at own [] ≡ None
unfolding claim_at decimal_of
no_claim own = refl

pub written_claims : (own : ℕ) (es : List Edge) → All (IsClaim own) es → claims_in own (claims_text es) ≡ es
written_claims own [] all = ap (λ (o : Option Edge). cons_option o []) (no_claim own)
written_claims own (e ∷ es) all = behind own e es (All-head (IsClaim own) e es all) (All-tail (IsClaim own) e es all)

pub written_item : (own : ℕ) (es : List Edge) (version : Version) → own < 2 ^ 32 → All (IsClaim own) es → claims_of (record { key = codes "/link/" ++ decimal own; version = version; value = Some (claims_text es) }) ≡ es
unfolding claims_of
written_item own es version small all =
    ap (λ (o : Option ℕ). claims_by o (Some (claims_text es))) (decimal_back (2 ^ 32 - 1) own (omega arith) (omega arith)) ∙ written_claims own es all
