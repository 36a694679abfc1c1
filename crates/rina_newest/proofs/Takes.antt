-- After any takes each key has the newest item that was taken under it.
use Rattle.std.proofs.Common.{◌≡◌, ℕ, true, false, cond, List, [], ◌∷◌, ◌++◌, Option, Some, None, MatchOption, Contains, ⊎_elim, refl, sym, ap, ◌∙◌, subst, arith, append_assoc}
use Rattle.std.proofs.lemmas.Bool.{both_ways}
use Rattle.std.proofs.lemmas.List.{append-nil}
use Rattle.std.proofs.lemmas.List.Elements.{Contains-append_left, Contains-push, Contains-push_cases}
use Rattle.std.proofs.lemmas.Grind.{common_steps}
use Rattle.rina_newest.specs.declared.item.Version.{Version}
use Rattle.rina_newest.specs.declared.item.Item.{Item}
use Rattle.rina_newest.specs.Newest.{is_below, has_key, kept_at, is_newer, without, taken, taken_all, IsNewest, AreTold}
use Rattle.rina_newest.proofs.Index.{split, key_same, key_itself}

-- ---- versions
newer_than : (a b c : Version) → is_below a b ≡ true → is_below a c ≡ false → is_below b c ≡ false
unfolding is_below
newer_than a b c h k = grind (arith, common_steps, h, k)

not_itself : (a : Version) → is_below a a ≡ false
unfolding is_below
not_itself a = grind (arith, common_steps)

same_version : (a b : Version) → is_below a b ≡ false → is_below b a ≡ false → a ≡ b
unfolding is_below
same_version a b h k = grind (arith, common_steps, h, k)

-- ---- the item of a key after one take
kept_other : (key : List ℕ) (x : Item) (items : List Item) → has_key key x ≡ false → kept_at (without x.key items ++ x ∷ []) key ≡ kept_at items key
kept_other key x [] lacks = rw lacks refl
kept_other key x (i ∷ items) lacks =
    split (has_key x.key i) (λ yes.
    let other : has_key key i ≡ false = split (has_key key i) (λ too. absurd (both_ways (has_key key x) lacks (key_itself key x.key (key_same key i.key too ∙ sym (key_same x.key i.key yes))))) (λ n. n) in
    rw (yes, other) (kept_other key x items lacks)) (λ apart.
    rw apart (ap (λ (o : Option Item). cond (has_key key i) (Some i) o) (kept_other key x items lacks)))

kept_same : (key : List ℕ) (x : Item) (items : List Item) → has_key key x ≡ true → kept_at (without x.key items ++ x ∷ []) key ≡ Some x
kept_same key x [] has = rw has refl
kept_same key x (i ∷ items) has =
    split (has_key x.key i) (λ too. rw too (kept_same key x items has)) (λ apart.
    let other : has_key key i ≡ false = split (has_key key i) (λ too. absurd (both_ways (has_key x.key i) apart (key_itself x.key i.key (sym (key_same key x.key has) ∙ key_same key i.key too)))) (λ n. n) in
    rw (apart, other) (kept_same key x items has))

-- ---- what is kept is the newest of what was seen
abbrev Fits : List Item → List ℕ → Option Item → Type 0
Fits seen key kept = MatchOption kept ((item : Item) → Contains seen item → item.key ≡ key → ⊥) (IsNewest seen key)

-- one more, of another key
fits_other : (seen : List Item) (x : Item) (key : List ℕ) (kept : Option Item) → (x.key ≡ key → ⊥) → Fits seen key kept → Fits (seen ++ x ∷ []) key kept
fits_other seen x key None apart h = λ item among is. ⊎_elim (λ before. h item before is) (λ same. apart (ap (λ (i : Item). i.key) same ∙ is)) (Contains-push_cases seen x item among)
fits_other seen x key (Some it) apart h = record {
  among = Contains-append_left seen (x ∷ []) it h.among;
  same = h.same;
  greatest = λ other among is. ⊎_elim (λ before. h.greatest other before is) (λ same. absurd (apart (ap (λ (i : Item). i.key) same ∙ is))) (Contains-push_cases seen x other among);
}

-- one more, that is no newer
fits_older : (seen : List Item) (x : Item) (key : List ℕ) (it : Item) → is_below it.version x.version ≡ false → Fits seen key (Some it) → Fits (seen ++ x ∷ []) key (Some it)
fits_older seen x key it older h = record {
  among = Contains-append_left seen (x ∷ []) it h.among;
  same = h.same;
  greatest = λ other among is. ⊎_elim (λ before. h.greatest other before is) (λ same. subst (λ (i : Item). is_below it.version i.version ≡ false) same older) (Contains-push_cases seen x other among);
}

-- one more, that is newer
fits_newer : (seen : List Item) (x : Item) (key : List ℕ) (kept : Option Item) → x.key ≡ key → is_newer x.version kept ≡ true → Fits seen key kept → Fits (seen ++ x ∷ []) key (Some x)
fits_newer seen x key None is newer h = record {
  among = Contains-push seen x;
  same = is;
  greatest = λ other among has. ⊎_elim (λ before. absurd (h other before has)) (λ same. subst (λ (i : Item). is_below x.version i.version ≡ false) same (not_itself x.version)) (Contains-push_cases seen x other among);
}
fits_newer seen x key (Some it) is newer h = record {
  among = Contains-push seen x;
  same = is;
  greatest = λ other among has. ⊎_elim (λ before. newer_than it.version x.version other.version newer (h.greatest other before has)) (λ same. subst (λ (i : Item). is_below x.version i.version ≡ false) same (not_itself x.version)) (Contains-push_cases seen x other among);
}

-- nothing newer was kept, and so something was
fits_stays : (seen : List Item) (x : Item) (key : List ℕ) (kept : Option Item) → is_newer x.version kept ≡ false → Fits seen key kept → Fits (seen ++ x ∷ []) key kept
fits_stays seen x key None newer h = absurd (both_ways true newer refl)
fits_stays seen x key (Some it) newer h = fits_older seen x key it newer h

abbrev AllFit : List Item → List Item → Type 0
AllFit seen kept = (key : List ℕ) → Fits seen key (kept_at kept key)

fits_taken : (seen kept : List Item) (x : Item) → AllFit seen kept → AllFit (seen ++ x ∷ []) (taken kept x)
unfolding taken
fits_taken seen kept x fits key =
    split (is_newer x.version (kept_at kept x.key)) (λ newer.
    split (has_key key x) (λ yes.
    let is : x.key ≡ key = sym (key_same key x.key yes) in
    let newer' : is_newer x.version (kept_at kept key) ≡ true = subst (λ (k : List ℕ). is_newer x.version (kept_at kept k) ≡ true) is newer in
    rw (newer, kept_same key x kept yes) (fits_newer seen x key (kept_at kept key) is newer' (fits key))) (λ no.
    rw (newer, kept_other key x kept no) (fits_other seen x key (kept_at kept key) (λ is. both_ways (has_key key x) no (key_itself key x.key (sym is))) (fits key)))) (λ older.
    split (has_key key x) (λ yes.
    let is : x.key ≡ key = sym (key_same key x.key yes) in
    let older' : is_newer x.version (kept_at kept key) ≡ false = subst (λ (k : List ℕ). is_newer x.version (kept_at kept k) ≡ false) is older in
    rw older (fits_stays seen x key (kept_at kept key) older' (fits key))) (λ no.
    rw older (fits_other seen x key (kept_at kept key) (λ is. both_ways (has_key key x) no (key_itself key x.key (sym is))) (fits key))))

fits_all : (seen kept items : List Item) → AllFit seen kept → AllFit (seen ++ items) (taken_all kept items)
fits_all seen kept [] fits = subst (λ (xs : List Item). AllFit xs kept) (sym (append-nil seen)) fits
fits_all seen kept (x ∷ items) fits =
    subst (λ (xs : List Item). AllFit xs (taken_all kept (x ∷ items))) (append_assoc seen (x ∷ []) items) (fits_all (seen ++ x ∷ []) (taken kept x) items (fits_taken seen kept x fits))

no_item : (item : Item) → Contains {X = Item} [] item → ⊥
no_item item among = omega (arith, among.1)

pub newest : (items : List Item) (key : List ℕ) → Fits items key (kept_at (taken_all [] items) key)
newest items key = fits_all [] [] items (λ k item among is. no_item item among) key

same_kept : (xs ys : List Item) (key : List ℕ) → AreTold xs → ((item : Item) → Contains xs item → Contains ys item) → ((item : Item) → Contains ys item → Contains xs item) → (a b : Option Item) → Fits xs key a → Fits ys key b → a ≡ b
same_kept xs ys key told to from None None p q = refl
same_kept xs ys key told to from None (Some y) p q = absurd (p y (from y q.among) q.same)
same_kept xs ys key told to from (Some x) None p q = absurd (q x (to x p.among) p.same)
same_kept xs ys key told to from (Some x) (Some y) p q =
    ap Some (told x y p.among (from y q.among) (p.same ∙ sym q.same) (same_version x.version y.version (p.greatest y (from y q.among) q.same) (q.greatest x (to x p.among) p.same)))

pub any_order : (xs ys : List Item) → AreTold xs → ((item : Item) → Contains xs item → Contains ys item) → ((item : Item) → Contains ys item → Contains xs item) → (key : List ℕ) → kept_at (taken_all [] xs) key ≡ kept_at (taken_all [] ys) key
any_order xs ys told to from key = same_kept xs ys key told to from (kept_at (taken_all [] xs) key) (kept_at (taken_all [] ys) key) (newest xs key) (newest ys key)
