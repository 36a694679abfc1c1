-- A label is given to the port of a flow that was just asked for.
use Rattle.std.proofs.Common.{arith, ◌≡◌, ℕ, ◌+◌, List, [], ◌∷◌, ◌++◌, false, length, Option, Some, refl, sym, ◌∙◌, ap, subst, inl, inr}
use Rattle.rina_base.specs.declared.number.Port.{Port}
use Rattle.rina_iface.specs.declared.ends.End.{End}
use Rattle.rina_tower.specs.Bystanders.{is_ipc}
use Rattle.rina_notes.specs.declared.label.Label.{Label}
use Rattle.rina_laws.proofs.LabelGiven.{named_given, tells_given}
use Rattle.rina_laws.proofs.LabelGrown.{GrownAt, IsNew, asker_end, grown_below, grown_from, grown_on, grown_waits, new_past, other_end}
use Rattle.rina_laws.proofs.LabelMoves.{Fits}
use Rattle.rina_laws.proofs.LabelRanks.{AllPorts, Shown}
use Rattle.rina_laws.proofs.LabelTells.{AllFit, AreNamed, HoldsAt, IsBare, IsUnknown, Tells, fac_of_port, one_place_at}

-- no label has the port of an end that is new
new_bare : {X : Type 0} (V : End → List X) (told : List ℕ → List X) (g g' : Shown) (r n : ℕ) (asker : End) (far : Option End) (ls : List Label) (k m i : ℕ) (e : End) → AllPorts g' → (w : GrownAt g r n asker far g') → Tells V told g ls → HoldsAt g' k m i e
    → k ≡ r → IsNew n (length w.grown.facility.ends) asker far m i e → IsBare ls k e.port
new_bare V told g g' r n asker far ls k m i e ports w t x high new j l is rank same =
    let h = t.stands j l is in
    let facs : l.port.fac ≡ m = ap (λ (q : Port). q.fac) same ∙ fac_of_port g' k m i e ports x in
    let was : HoldsAt g k m h.place h.end = subst (λ (z : ℕ). HoldsAt g z m h.place h.end) rank (subst (λ (z : ℕ). HoldsAt g l.rank z h.place h.end) facs h.holds) in
    let places : h.place ≡ i = one_place_at g' k m h.place i h.end e ports (grown_on g g' r n asker far k m h.place h.end w was) x (h.its ∙ same) in
    let lt = grown_below g g' r n asker far k m h.place h.end w was high new.0 in
    let past = new_past n (length w.grown.facility.ends) asker far m i e new in
    omega (arith, places, lt, past)

pub grown_named : {X : Type 0} (V : End → List X) (told : List ℕ → List X) (g g' : Shown) (r n : ℕ) (asker : End) (far : Option End) (ls : List Label) → AllPorts g' → GrownAt g r n asker far g' → Tells V told g ls → AreNamed g ls → AreNamed g' ls
grown_named V told g g' r n asker far ls ports w t a = record {
  names = a.names;
  ports = a.ports;
  waits = λ k m at place e v h. elim (grown_from g g' r n asker far k m place e w h) [
    | inl old ↦ elim (grown_waits g g' r n asker far k m at place w v) [
      | inl x ↦ a.waits k m at place e x old
      | inr x ↦ let lt = grown_below g g' r n asker far k m place e w old x.0 x.1.0 in absurd (omega (arith, lt, x.1.2))
    ]
    | inr new ↦ new_bare V told g g' r n asker far ls k m place e ports w t h new.0 new.1
  ];
  within = λ k m at place v. elim (grown_waits g g' r n asker far k m at place w v) [
    | inl x ↦ (let e = a.within k m at place x in (e.0, grown_on g g' r n asker far k m place e.0 w e.1))
    | inr x ↦
        (let e = x.1.3.0 in
        (e, subst (λ (z : ℕ). HoldsAt g' k m z e) (sym x.1.2) (subst (λ (z : ℕ). HoldsAt g' k z (length w.grown.facility.ends + 1) e) (sym x.1.0) (subst (λ (z : ℕ). HoldsAt g' z n (length w.grown.facility.ends + 1) e) (sym x.0) (other_end g g' r n asker far e x.1.3.1 w)))))
  ];
  once = λ q m j k place v u. elim (grown_waits g g' r n asker far q m j place w v) [
    | inl x ↦ elim (grown_waits g g' r n asker far q m k place w u) [
      | inl y ↦ a.once q m j k place x y
      | inr y ↦ (let stood = a.within q m j place x in let lt = grown_below g g' r n asker far q m place stood.0 w stood.1 y.0 y.1.0 in absurd (omega (arith, lt, y.1.2)))
    ]
    | inr x ↦ elim (grown_waits g g' r n asker far q m k place w u) [
      | inl y ↦ (let stood = a.within q m k place y in let lt = grown_below g g' r n asker far q m place stood.0 w stood.1 x.0 x.1.0 in absurd (omega (arith, lt, x.1.2)))
      | inr y ↦ x.1.1 ∙ sym y.1.1
    ]
  ];
}

pub grown_tells : {X : Type 0} (V : End → List X) (told : List ℕ → List X) (g g' : Shown) (r n : ℕ) (asker : End) (far : Option End) (ls : List Label) → GrownAt g r n asker far g' → V asker ≡ [] → ((e : End) → far ≡ Some e → V e ≡ []) → Tells V told g ls → Tells V told g' ls
grown_tells V told g g' r n asker far ls w va vf t = record {
  stands = λ k l is. (let h = t.stands k l is in record { place = h.place; end = h.end; holds = grown_on g g' r n asker far l.rank l.port.fac h.place h.end w h.holds; its = h.its; plain = h.plain; view = h.view });
  fresh = λ k m i e h no. elim (grown_from g g' r n asker far k m i e w h) [
    | inl old ↦ t.fresh k m i e old no
    | inr new ↦ elim new.1.1 [ inl o ↦ ap V o.1 ∙ va | inr o ↦ vf e o.1 ]
  ];
  silent = t.silent;
}

pub fit_grown : (g g' : Shown) (r n : ℕ) (asker : End) (far : Option End) → GrownAt g r n asker far g' → Fits asker → ((e : End) → far ≡ Some e → Fits e) → AllFit g → AllFit g'
fit_grown g g' r n asker far w fa ff fits = record {
  of = λ k m i e h. elim (grown_from g g' r n asker far k m i e w h) [
    | inl old ↦ fits.of k m i e old
    | inr new ↦ elim new.1.1 [ inl o ↦ subst Fits (sym o.1) fa | inr o ↦ ff e o.1 ]
  ];
}

pub named_grown : {X : Type 0} (V : End → List X) (told : List ℕ → List X) (g g' : Shown) (n : ℕ) (asker : End) (far : Option End) (ls : List Label) (l : Label) → AllPorts g' → GrownAt g l.rank n asker far g' → l.port ≡ asker.port → Tells V told g ls → AreNamed g ls → IsUnknown ls l.name → AreNamed g' (ls ++ l ∷ [])
named_grown V told g g' n asker far ls l ports w port t a unknown =
    let it = asker_end g g' l.rank n asker far w in
    let bare : IsBare ls l.rank asker.port = new_bare V told g g' l.rank n asker far ls l.rank n (length w.grown.facility.ends) asker ports w t it refl (refl, inl (refl, refl)) in
    named_given g' ls l (grown_named V told g g' l.rank n asker far ls ports w t a) unknown (subst (λ (q : Port). IsBare ls l.rank q) (sym port) bare) (λ m at place e v h same.
    let facs : m ≡ n = sym (fac_of_port g' l.rank m place e ports h) ∙ ap (λ (q : Port). q.fac) (sym same ∙ port) ∙ fac_of_port g' l.rank n (length w.grown.facility.ends) asker ports it in
    let there : HoldsAt g' l.rank n place e = subst (λ (z : ℕ). HoldsAt g' l.rank z place e) facs h in
    let places : place ≡ length w.grown.facility.ends = one_place_at g' l.rank n place (length w.grown.facility.ends) e asker ports there it (sym same ∙ port) in
    elim (grown_waits g g' l.rank n asker far l.rank m at place w v) [
      | inl x ↦ (let stood = a.within l.rank m at place x in let lt = grown_below g g' l.rank n asker far l.rank m place stood.0 w stood.1 refl facs in omega (arith, lt, places))
      | inr x ↦ omega (arith, x.1.2, places)
    ])

pub tells_grown : {X : Type 0} (V : End → List X) (told : List ℕ → List X) (g g' : Shown) (n : ℕ) (asker : End) (far : Option End) (ls : List Label) (l : Label) → AllPorts g' → GrownAt g l.rank n asker far g' → l.port ≡ asker.port → is_ipc asker.app ≡ false → V asker ≡ [] → ((e : End) → far ≡ Some e → V e ≡ []) → Tells V told g ls → IsUnknown ls l.name → Tells V told g' (ls ++ l ∷ [])
tells_grown V told g g' n asker far ls l ports w port plain va vf t unknown =
    let it = asker_end g g' l.rank n asker far w in
    let facs : l.port.fac ≡ n = ap (λ (q : Port). q.fac) port ∙ fac_of_port g' l.rank n (length w.grown.facility.ends) asker ports it in
    tells_given V told g' ls l (grown_tells V told g g' l.rank n asker far ls w va vf t) (record {
      place = length w.grown.facility.ends;
      end = asker;
      holds = subst (λ (z : ℕ). HoldsAt g' l.rank z (length w.grown.facility.ends) asker) (sym facs) it;
      its = sym port;
      plain = plain;
      view = va;
    }) unknown
