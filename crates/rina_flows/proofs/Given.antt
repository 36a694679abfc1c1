-- The pieces that are given up, one by one.
use Rattle.std.proofs.Common.{◌≡◌, ℕ, zero, suc, ◌+◌, ◌<◌, ◌≤◌, List, [], ◌∷◌, ◌++◌, length, filter, Bool, true, false, not, cond, ◌||◌, Option, Some, None, append_assoc, refl, sym, ◌∙◌, ap, arith, inl, inr, ◌⊎◌}
use Rattle.std.proofs.lemmas.Bool.{cases_eq, false≢true}
use Rattle.std.proofs.lemmas.List.{append-nil}
use Rattle.rina_account.specs.declared.ledger.Off.{Off}
use Rattle.rina_base.specs.declared.cause.Cause.{Cause}
use Rattle.rina_base.specs.declared.cause.Cause.TheVariants as causes
use Rattle.rina_base.specs.declared.number.Key.{Key}
use Rattle.rina_dtp.specs.declared.gap.Lost.{Lost}
use Rattle.rina_dtp.specs.declared.source.Source.{Source}
use Rattle.rina_dtp.specs.Fetching.{KeepsNoMore, StandsAsBefore, TakesFirst}
use Rattle.rina_dtp.proofs.Fetched.{keeps_on, keeps_same}
use Rattle.rina_dtp.specs.Lost.{given_up, lost_with, missing_before, numbers_from}
use Rattle.rina_dtp.specs.Receiving.{Receiving, broken_with, drops, ended_with}
use Rattle.rina_dtp.specs.Source.{key_at}
use Rattle.rina_law.specs.Lists.{In}
use Rattle.rina_law.specs.Pieces.{Joiner, Part, goes_on}
use Rattle.rina_flows.specs.Arriving.{IsDrained, offs_of}

-- What stands in lists

pub in_append : {X : Type 0} (xs ys : List X) (x : X) → In x (xs ++ ys) → In x xs ⊎ In x ys
in_append [] ys x i = inr i
in_append (z ∷ xs) ys x (inl e) = inl (inl e)
in_append (z ∷ xs) ys x (inr i) = elim (in_append xs ys x i) [ inl a ↦ inl (inr a) | inr b ↦ inr b ]

pub in_right : {X : Type 0} (xs ys : List X) (x : X) → In x ys → In x (xs ++ ys)
in_right [] ys x i = i
in_right (z ∷ xs) ys x i = inr (in_right xs ys x i)

pub in_left : {X : Type 0} (xs ys : List X) (x : X) → In x xs → In x (xs ++ ys)
in_left [] ys x i = absurd i
in_left (z ∷ xs) ys x (inl e) = inl e
in_left (z ∷ xs) ys x (inr i) = inr (in_left xs ys x i)

pub numbers_from_in : (n count k : ℕ) → In k (numbers_from n count) → (n ≤ k) × (k < n + count)
numbers_from_in n zero k i = absurd i
numbers_from_in n (suc count) k (inl e) = (omega arith, omega arith)
numbers_from_in n (suc count) k (inr i) = (let r = numbers_from_in (n + 1) count k i in (omega (arith, r.0), omega (arith, r.1)))

pub in_numbers_from : (n count k : ℕ) → n ≤ k → k < n + count → In k (numbers_from n count)
in_numbers_from n zero k le lt = absurd (omega arith)
in_numbers_from n (suc count) k le lt = elim (cases_eq k n) [
  | inl e ↦ inl e
  | inr ne ↦ inr (in_numbers_from (n + 1) count k (omega arith) (omega arith))
]

pub filter_in : (p : ℕ → Bool) (xs : List ℕ) (k : ℕ) → In k (filter p xs) → p k ≡ true
filter_in p [] k i = absurd i
filter_in p (x ∷ xs) k i = go (p x) refl (filter_in p xs k) i
  where
    go : (b : Bool) → p x ≡ b → (In k (filter p xs) → p k ≡ true) → In k (cond b (x ∷ filter p xs) (filter p xs)) → p k ≡ true
    go true e rest (inl same) = ap p same ∙ e
    go true e rest (inr j) = rest j
    go false e rest j = rest j

pub in_filter : (p : ℕ → Bool) (xs : List ℕ) (k : ℕ) → In k xs → p k ≡ true → In k (filter p xs)
in_filter p [] k i e = absurd i
in_filter p (x ∷ xs) k i e = go (p x) refl (λ j. in_filter p xs k j e) i
  where
    go : (b : Bool) → p x ≡ b → (In k xs → In k (filter p xs)) → In k (x ∷ xs) → In k (cond b (x ∷ filter p xs) (filter p xs))
    go true e' rest (inl same) = inl same
    go true e' rest (inr j) = inr (rest j)
    go false e' rest (inl same) = absurd (false≢true (sym e' ∙ ap p (sym same) ∙ e))
    go false e' rest (inr j) = rest j

-- The ledger's lines

pub offs_of-append : (ds es : List (Key × Cause)) → offs_of (ds ++ es) ≡ offs_of ds ++ offs_of es
offs_of-append [] es = refl
offs_of-append (d ∷ ds) es = ap (λ (xs : List Off). record { key = d.0; cause = d.1 } ∷ xs) (offs_of-append ds es)

pub offs_of-length : (ds : List (Key × Cause)) → length (offs_of ds) ≡ length ds
offs_of-length [] = refl
offs_of-length (d ∷ ds) = ap suc (offs_of-length ds)

pub ended_in : (source : Source) (why : Cause) (ns : List ℕ) (off : Off) → In off (offs_of (ended_with source (Some why) ns)) → (n : ℕ) × In n ns × (off ≡ record { key = key_at source n; cause = why })
ended_in source why [] off i = absurd i
ended_in source why (n ∷ ns) off (inl e) = (n, inl refl, e)
ended_in source why (n ∷ ns) off (inr i) = (let r = ended_in source why ns off i in (r.0, inr r.1, r.2))

pub broken_in : (source : Source) (ls : List Lost) (off : Off) → In off (offs_of (broken_with source ls)) → (l : Lost) × In l ls × (off ≡ record { key = key_at source l.number; cause = causes.Broken l.missing })
broken_in source [] off i = absurd i
broken_in source (l ∷ ls) off (inl e) = (l, inl refl, e)
broken_in source (l ∷ ls) off (inr i) = (let r = broken_in source ls off i in (r.0, inr r.1, r.2))

lost_with_in : (missing : ℕ) (ns : List ℕ) (l : Lost) → In l (lost_with missing ns) → In l.number ns × (l.missing ≡ missing)
lost_with_in missing [] l i = absurd i
lost_with_in missing (n ∷ ns) l (inl e) = (inl (ap (λ (x : Lost). x.number) e), ap (λ (x : Lost). x.missing) e)
lost_with_in missing (n ∷ ns) l (inr i) = (let r = lost_with_in missing ns l i in (inr r.0, r.1))

-- one that waited in the joiner
pub given_up_in : (n : ℕ) (part : Part) (j : Joiner) (l : Lost) → In l (given_up n part j) → (j.from ≤ l.number) × (l.number < j.from + j.count) × (l.missing ≡ missing_before n j)
given_up_in n part j l i = go (part.begins || not (goes_on n j)) i
  where
    go : (b : Bool) → In l (cond b (lost_with (missing_before n j) (numbers_from j.from j.count)) []) → (j.from ≤ l.number) × (l.number < j.from + j.count) × (l.missing ≡ missing_before n j)
    go true x = (let r = lost_with_in (missing_before n j) (numbers_from j.from j.count) l x in let at = numbers_from_in j.from j.count l.number r.0 in (at.0, at.1, r.1))
    go false x = absurd x

pub lost_with-length : (missing : ℕ) (ns : List ℕ) → length (lost_with missing ns) ≡ length ns
lost_with-length missing [] = refl
lost_with-length missing (n ∷ ns) = ap suc (lost_with-length missing ns)

pub broken_with-length : (source : Source) (ls : List Lost) → length (broken_with source ls) ≡ length ls
broken_with-length source [] = refl
broken_with-length source (l ∷ ls) = ap suc (broken_with-length source ls)

pub ended_with-length : (source : Source) (why : Option Cause) (ns : List ℕ) → length (ended_with source why ns) ≤ length ns
ended_with-length source None ns = omega arith
ended_with-length source (Some why) [] = omega arith
ended_with-length source (Some why) (n ∷ ns) = (let le = ended_with-length source (Some why) ns in omega arith)

-- They are fetched one after the other

pub drained_none : (now : ℕ) (r : Receiving) → IsDrained now r [] r
drained_none now r = record { taken_is = refl; stands = λ c m j st. st; kept = keeps_same now r; whole = refl }

pub drained_more : (now : ℕ) (old : Receiving) (taken : List (Key × Cause)) (between : Receiving) (d : Key × Cause) (new : Receiving) → IsDrained now old taken between → TakesFirst (Some d) (drops now between) (drops now new) → StandsAsBefore now between new → new.join.whole ≡ between.join.whole → KeepsNoMore now between new → IsDrained now old (taken ++ d ∷ []) new
drained_more now old taken between d new h t stands whole kept = record {
  taken_is = h.taken_is ∙ ap (λ (ds : List (Key × Cause)). taken ++ ds) t ∙ sym (append_assoc taken (d ∷ []) (drops now new));
  stands = λ c m j st. stands c m j (h.stands c m j st);
  kept = keeps_on now old between new h.kept kept;
  whole = whole ∙ h.whole;
}

-- the last look finds none
pub drained_last : (now : ℕ) (old : Receiving) (taken : List (Key × Cause)) (between new : Receiving) → IsDrained now old taken between → TakesFirst None (drops now between) (drops now new) → StandsAsBefore now between new → new.join.whole ≡ between.join.whole → KeepsNoMore now between new → IsDrained now old taken new × (drops now new ≡ [])
drained_last now old taken between new h t stands whole kept = (
  record {
    taken_is = h.taken_is ∙ ap (λ (ds : List (Key × Cause)). taken ++ ds) (t.0 ∙ sym t.1);
    stands = λ c m j st. stands c m j (h.stands c m j st);
    kept = keeps_on now old between new h.kept kept;
    whole = whole ∙ h.whole;
  },
  t.1,
)

pub drained_all : (now : ℕ) (old : Receiving) (taken : List (Key × Cause)) (new : Receiving) → IsDrained now old taken new → drops now new ≡ [] → drops now old ≡ taken
drained_all now old taken new h none = h.taken_is ∙ ap (λ (ds : List (Key × Cause)). taken ++ ds) none ∙ append-nil taken
