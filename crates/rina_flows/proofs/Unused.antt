-- The ends that were never allocated, as one end changes, and as one is added.
use Rattle.std.proofs.Common.{◌≡◌, ℕ, List, ◌++◌, slice_get, slice_set, ◌∙◌, ap, subst, inl, inr}
use Rattle.std.proofs.lemmas.Bool.Decides.{eqb_tells}
use Rattle.rina_dif_law.specs.Standing.{IsJournal}
use Rattle.rina_dif_law.proofs.Appended.{still_partner}
use Rattle.rina_dif_law.proofs.Journals.{IsConst, const_refl, partner_const}
use Rattle.rina_iface.specs.declared.ends.End.{End}
use Rattle.rina_iface.specs.declared.state.PortState.TheVariants.{Allocated, Pending}
use Rattle.rina_iface.specs.Journal.{At, HasPartner}
use Rattle.rina_iface.proofs.Changed.{slice_get-set_other, slice_get-set_same}
use Rattle.rina_flows.specs.Tied.{IsUnused, IsUsed}

-- an allocated end is none of them
pub allocated_used : (now : ℕ) (ends : List End) (at : ℕ) (end : End) → IsJournal now ends → At ends at end → end.state ≡ Allocated → IsUsed ends at
allocated_used now ends at end journal is state = λ e there unused.
    let same : e ≡ end = cc in
    let allocated : e.state ≡ Allocated = ap (λ (x : End). x.state) same ∙ state in
    elim unused [ inl waits ↦ absurd cc | inr alone ↦ alone (journal.allocated at e there allocated) ]

module _ (ends : List End) (at : ℕ) (end end' : End) (is : At ends at end) (const : IsConst end end') where
  -- an end that is there stands after the change, with what never changes
  will_stand : (i : ℕ) (o : End) → At ends i o → (a : End) × At (slice_set ends at end') i a × IsConst o a
  will_stand i o h = elim (eqb_tells i at) [
    | inl t ↦
        let h' : At ends at o = subst (λ (n : ℕ). At ends n o) t.1 h in
        let o_is : end ≡ o = cc in
        (end', ap (slice_get (slice_set ends at end')) t.1 ∙ slice_get-set_same ends at end end' is, subst (λ (x : End). IsConst x end') o_is const)
    | inr f ↦ (o, slice_get-set_other ends at i end' f.1 ∙ h, const_refl o)
  ]

  pub partner_stays : (o a : End) → IsConst o a → HasPartner ends o → HasPartner (slice_set ends at end') a
  partner_stays o a c h =
      let w = will_stand h.place h.other h.stands in
      record { place = h.place; other = w.0; stands = w.1; partner = partner_const o h.other a w.0 c w.2 h.partner }

  -- what was never allocated after the change was not before it
  pub unused_was : (e : End) → IsUnused (slice_set ends at end') e → IsUnused ends e
  unused_was e unused = elim unused [ inl waits ↦ inl waits | inr alone ↦ inr (λ h. alone (partner_stays e e (const_refl e) h)) ]

-- an end that changes, and does not begin to wait
pub unused_const : (ends : List End) (e e' : End) → IsConst e e' → (e'.state ≡ Pending → e.state ≡ Pending) → IsUnused ends e' → IsUnused ends e
unused_const ends e e' const still unused = elim unused [
  | inl waits ↦ inl (still waits)
  | inr alone ↦ inr (λ h. alone (record { place = h.place; other = h.other; stands = h.stands; partner = partner_const e h.other e' h.other const (const_refl h.other) h.partner }))
]

-- and so as one more is added
pub unused_before : (ends more : List End) (e : End) → IsUnused (ends ++ more) e → IsUnused ends e
unused_before ends more e unused = elim unused [ inl waits ↦ inl waits | inr alone ↦ inr (λ h. alone (still_partner ends more e h)) ]
