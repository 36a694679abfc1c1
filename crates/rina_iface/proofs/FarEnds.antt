-- The far end of a flow goes on to be one, and of an asker that stood there before.
use Rattle.std.proofs.Common.{◌≡◌, ◌∙◌, ℕ, ◌≤◌, List, length, slice_get, get_or, Some, sym, subst, inl, inr}
use Rattle.std.proofs.lemmas.Bool.{cases_lt}
use Rattle.std.proofs.lemmas.Option.{same_Some, slice_get-get_or}
use Rattle.rina_iface.specs.declared.ends.End.{End}
use Rattle.rina_iface.specs.Later.{AnswersOne, AreLater, IsLaterEnd}

-- an end that answers goes on to
pub answers_on : (before now : ℕ) (es : List End) (e e' : End) → IsLaterEnd before now e e' → AnswersOne es e → AnswersOne es e'
answers_on before now es e e' later f = record {
  place = f.place;
  asker = f.asker;
  stands = f.stands;
  far = later.role ∙ f.far;
  partner = record { same_flow = f.partner.same_flow ∙ sym later.flow; other_role = λ same. f.partner.other_role (same ∙ later.role) };
  named = record { peer = later.peer ∙ f.named.peer; its_peer = f.named.its_peer ∙ sym later.app; cube = f.named.cube ∙ sym later.cube };
}

-- and one whose asker stands there answers one that stood there before, where only far ends are new: an asker is none
pub answers_old : (before now : ℕ) (xs ys : List End) (e : End) → AreLater before now xs ys → (f : AnswersOne ys e) → (length xs ≤ f.place → AnswersOne xs f.asker) → AnswersOne xs e
answers_old before now xs ys e later f new = elim (cases_lt f.place (length xs)) [
  | inl within ↦
      let a : (x : End) × (slice_get xs f.place ≡ Some x) = (get_or xs f.place f.asker, slice_get-get_or xs f.place f.asker within) in
      let m = later f.place a.0 a.1 in
      let is : f.asker ≡ m.0 = same_Some f.asker m.0 (sym f.stands ∙ m.1) in
      let same : IsLaterEnd before now a.0 f.asker = subst (λ (z : End). IsLaterEnd before now a.0 z) (sym is) m.2 in
      record {
        place = f.place;
        asker = a.0;
        stands = a.1;
        far = f.far;
        partner = record { same_flow = sym same.flow ∙ f.partner.same_flow; other_role = λ role. f.partner.other_role (same.role ∙ role) };
        named = record { peer = f.named.peer ∙ same.app; its_peer = sym same.peer ∙ f.named.its_peer; cube = sym same.cube ∙ f.named.cube };
      }
  | inr past ↦ absurd (f.partner.other_role ((new past).far ∙ sym f.far))
]
