-- Items of other keys stay when an item is taken.
use Rattle.std.proofs.Common.{◌≡◌, ⊎_elim, Bool, true, false, cond, not, List, [], ◌∷◌, ◌++◌, Option, Some, Contains, refl, sym, ap, ℕ, ◌∙◌}
use Rattle.std.proofs.lemmas.Bool.{both_ways, cases_Bool}
use Rattle.std.proofs.lemmas.List.Elements.{Contains-append_left}
use Rattle.rina_newest.specs.declared.item.Item.{Item}
use Rattle.rina_newest.specs.Newest.{has_key, is_newer, kept_at, taken, without}
use Rattle.rina_member.proofs.Items.{key_itself, key_same}
use Rattle.rina_member.proofs.Lists.{kept}

-- an item of another key is kept still
stays_if : (b : Bool) (items : List Item) (x z : Item) → Contains items z → (x.key ≡ z.key → ⊥) → Contains (cond b (without x.key items ++ x ∷ []) items) z
stays_if true items x z among apart =
    Contains-append_left (without x.key items) (x ∷ []) z
    (⊎_elim (λ same. absurd (apart (key_same x.key z.key same))) (λ other. kept (λ item. not (has_key x.key item)) items z among (ap not other)) (cases_Bool (has_key x.key z)))
stays_if false items x z among apart = among

pub stays : (items : List Item) (x z : Item) → Contains items z → (x.key ≡ z.key → ⊥) → Contains (taken items x) z
unfolding taken
stays items x z among apart = stays_if (is_newer x.version (kept_at items x.key)) items x z among apart

-- what is kept under another key stays
kept_other : (key : List ℕ) (x : Item) (items : List Item) → has_key key x ≡ false → kept_at (without x.key items ++ x ∷ []) key ≡ kept_at items key
kept_other key x [] lacks = rw lacks refl
kept_other key x (i ∷ items) lacks =
    ⊎_elim
    (λ yes. (
    let other : has_key key i ≡ false = ⊎_elim (λ too. absurd (both_ways (has_key key x) lacks (key_itself key x.key (key_same key i.key too ∙ sym (key_same x.key i.key yes))))) (λ n. n) (cases_Bool (has_key key i)) in
    rw (yes, other) (kept_other key x items lacks)))
    (λ apart. rw apart (ap (λ (o : Option Item). cond (has_key key i) (Some i) o) (kept_other key x items lacks)))
    (cases_Bool (has_key x.key i))

kept_if : (b : Bool) (items : List Item) (x : Item) (key : List ℕ) → has_key key x ≡ false → kept_at (cond b (without x.key items ++ x ∷ []) items) key ≡ kept_at items key
kept_if true items x key lacks = kept_other key x items lacks
kept_if false items x key lacks = refl

pub kept_still : (items : List Item) (x : Item) (key : List ℕ) → has_key key x ≡ false → kept_at (taken items x) key ≡ kept_at items key
unfolding taken
kept_still items x key lacks = kept_if (is_newer x.version (kept_at items x.key)) items x key lacks
