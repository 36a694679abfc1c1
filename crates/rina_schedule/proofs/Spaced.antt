-- Fields with a space before each.
use Rattle.std.proofs.Common.{◌≡◌, ℕ, List, [], ◌∷◌, ◌++◌, Result, Ok, Err, refl, sym, ap, ◌∙◌, append_assoc}
use Rattle.rina_schedule.specs.Spelling.{spaced, Adds}

pub spaced_append : (a b : List (List ℕ)) → spaced (a ++ b) ≡ spaced a ++ spaced b
spaced_append [] b = refl
spaced_append (f ∷ fs) b = ap (λ (x : List ℕ). 32 ∷ f ++ x) (spaced_append fs b) ∙ ap (λ (x : List ℕ). 32 ∷ x) (sym (append_assoc f (spaced fs) (spaced b)))

-- fields that were added behind others
pub adds_more : {E : Type 0} (r : Result (Unit {0}) E) (old mid new : List ℕ) (a b : List (List ℕ)) → mid ≡ old ++ spaced a → Adds r mid new (spaced b) → Adds r old new (spaced (a ++ b))
adds_more (Ok _) old mid new a b first last = last ∙ ap (λ (x : List ℕ). x ++ spaced b) first ∙ append_assoc old (spaced a) (spaced b) ∙ ap (λ (x : List ℕ). old ++ x) (sym (spaced_append a b))
adds_more (Err _) old mid new a b first last = tt
