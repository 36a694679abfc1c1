-- Items stay in the form of the directory.
use Rattle.std.proofs.Common.{ℕ, List, [], ◌∷◌, ◌++◌, ⊎_elim, subst, arith}
use Rattle.std.proofs.lemmas.List.Elements.{Contains-append_left, Contains-append_right, Contains-push, Contains-push_cases, Contains-append_cases}
use Rattle.rina_newest.specs.declared.item.Item.{Item}
use Rattle.rina_newest.specs.Newest.{has_key, kept_at, is_newer, without, taken}
use Rattle.rina_dir.specs.Directory.{IsEntry, AreEntries}
use Rattle.rina_dir.proofs.Keys.{split}

pub no_items : AreEntries []
no_items item among = absurd (omega (arith, among.1))

-- the form of the first and of the others
head_form : (x : Item) (items : List Item) → AreEntries (x ∷ items) → IsEntry x
head_form x items form = form x (Contains-append_left (x ∷ []) items x (Contains-push [] x))

tail_form : (x : Item) (items : List Item) → AreEntries (x ∷ items) → AreEntries items
tail_form x items form item among = form item (Contains-append_right (x ∷ []) items item among)

cons_form : (x : Item) (items : List Item) → IsEntry x → AreEntries items → AreEntries (x ∷ items)
cons_form x items first others item among = ⊎_elim (λ one. ⊎_elim (λ none. absurd (omega (arith, none.1))) (λ same. subst IsEntry same first) (Contains-push_cases [] x item one)) (λ rest. others item rest) (Contains-append_cases (x ∷ []) items item among)

without_form : (key : List ℕ) (items : List Item) → AreEntries items → AreEntries (without key items)
without_form key [] form = form
without_form key (x ∷ items) form =
    let rest : AreEntries (without key items) = without_form key items (tail_form x items form) in
    split (has_key key x) (λ has. rw has rest) (λ lacks. rw lacks (cons_form x (without key items) (head_form x items form) rest))

push_form : (items : List Item) (item : Item) → AreEntries items → IsEntry item → AreEntries (items ++ item ∷ [])
push_form items item form one other among = ⊎_elim (λ before. form other before) (λ same. subst IsEntry same one) (Contains-push_cases items item other among)

pub taken_form : (items : List Item) (item : Item) → AreEntries items → IsEntry item → AreEntries (taken items item)
unfolding taken
taken_form items item form one =
    split (is_newer item.version (kept_at items item.key)) (λ newer. rw newer (push_form (without item.key items) item (without_form item.key items form) one)) (λ older. rw older form)
