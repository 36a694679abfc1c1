-- A label is given to a port: of a flow that was just asked for, or of a far end that waited.
use Rattle.std.proofs.Common.{◌≡◌, ◌≢◌, ℕ, zero, suc, Bool, true, false, List, [], ◌∷◌, ◌++◌, Some, None, find, refl, sym, ◌∙◌, ap, subst, inl, inr}
use Rattle.std.specs.Str.{bytes_eq}
use Rattle.std.proofs.lemmas.Slice.Eq.{bytes_eq-Decides}
use Rattle.std.proofs.lemmas.Option.{same_Some}
use Rattle.rina_iface.specs.declared.ends.End.{End}
use Rattle.rina_iface.proofs.Grown.{pushed_at, still_at}
use Rattle.rina_notes.specs.declared.label.Label.{Label}
use Rattle.rina_notes.specs.Sites.{label_in}
use Rattle.rina_laws.proofs.LabelRanks.{Shown}
use Rattle.rina_laws.proofs.LabelTells.{AreNamed, Has, HoldsAt, Is, IsBare, IsUnknown, Tells, WaitsAt}

-- ---- names

by_test : (l : Label) (ls : List Label) (name : List ℕ) (b : Bool) → bytes_eq l.name name ≡ b → find (λ (m : Label). bytes_eq m.name name) (l ∷ ls) ≡ None → (l.name ≢ name) × (find (λ (m : Label). bytes_eq m.name name) ls ≡ None)
by_test l ls name true is h = let no : Some l ≡ None = rw is at h in cc
by_test l ls name false is h = (λ same. let yes = (bytes_eq-Decides l.name name).1 same in let no : true ≡ false = sym yes ∙ is in cc, rw is at h)

-- where no label is found, no label has the name
pub unknown_of : (ls : List Label) (name : List ℕ) → label_in ls name ≡ None → IsUnknown ls name
unknown_of [] name h k l is = cc
unknown_of (m ∷ ls) name h zero l is = let t = by_test m ls name (bytes_eq m.name name) refl h in let same : m ≡ l = same_Some m l is in λ n. t.0 (ap (λ (x : Label). x.name) same ∙ n)
unknown_of (m ∷ ls) name h (suc k) l is = let t = by_test m ls name (bytes_eq m.name name) refl h in unknown_of ls name t.1 k l is

-- the label that is found has the name
pub record IsFound (ls : List Label) (name : List ℕ) (l : Label) : Type 0 where
  pub place : ℕ
  pub is : Is ls place l
  pub its : l.name ≡ name

by_found : (m l : Label) (ls : List Label) (name : List ℕ) (b : Bool) → bytes_eq m.name name ≡ b → find (λ (x : Label). bytes_eq x.name name) (m ∷ ls) ≡ Some l → (find (λ (x : Label). bytes_eq x.name name) ls ≡ Some l → IsFound ls name l) → IsFound (m ∷ ls) name l
by_found m l ls name true is h more = let same : m ≡ l = same_Some m l (rw is at h) in record { place = 0; is = ap (λ x. Some x) same; its = ap (λ (x : Label). x.name) (sym same) ∙ (bytes_eq-Decides m.name name).0 is }
by_found m l ls name false is h more = let f = more (rw is at h) in record { place = suc f.place; is = f.is; its = f.its }

pub found_of : (ls : List Label) (name : List ℕ) (l : Label) → label_in ls name ≡ Some l → IsFound ls name l
found_of [] name l h = cc
found_of (m ∷ ls) name l h = by_found m l ls name (bytes_eq m.name name) refl h (found_of ls name l)

-- ---- one more label

-- a label of a name that is new, of a port that no label has and that none waits for
pub named_given : (g : Shown) (ls : List Label) (l : Label) → AreNamed g ls → IsUnknown ls l.name → IsBare ls l.rank l.port → ((n at place : ℕ) (e : End) → WaitsAt g l.rank n at place → HoldsAt g l.rank n place e → l.port ≢ e.port) → AreNamed g (ls ++ l ∷ [])
named_given g ls l a unknown bare waits = record {
  names = λ j k x y hx hy same. elim (pushed_at ls l j x hx) [
    | inl o ↦ elim (pushed_at ls l k y hy) [
      | inl p ↦ a.names j k x y o p same
      | inr q ↦ absurd (unknown j x o (same ∙ ap (λ (z : Label). z.name) q.1))
    ]
    | inr o ↦ elim (pushed_at ls l k y hy) [
      | inl p ↦ absurd (unknown k y p (sym same ∙ ap (λ (z : Label). z.name) o.1))
      | inr q ↦ (ap (λ (z : Label). z.rank) (o.1 ∙ sym q.1), ap (λ (z : Label). z.port) (o.1 ∙ sym q.1))
    ]
  ];
  ports = λ j k x y hx hy rank same. elim (pushed_at ls l j x hx) [
    | inl o ↦ elim (pushed_at ls l k y hy) [
      | inl p ↦ a.ports j k x y o p rank same
      | inr q ↦ absurd (bare j x o (rank ∙ ap (λ (z : Label). z.rank) q.1) (same ∙ ap (λ (z : Label). z.port) q.1))
    ]
    | inr o ↦ elim (pushed_at ls l k y hy) [
      | inl p ↦ absurd (bare k y p (sym rank ∙ ap (λ (z : Label). z.rank) o.1) (sym same ∙ ap (λ (z : Label). z.port) o.1))
      | inr q ↦ ap (λ (z : Label). z.name) (o.1 ∙ sym q.1)
    ]
  ];
  waits = λ r n at place e w h k x hx rank same. elim (pushed_at ls l k x hx) [
    | inl o ↦ a.waits r n at place e w h k x o rank same
    | inr o ↦
        let its : r ≡ l.rank = sym rank ∙ ap (λ (z : Label). z.rank) o.1 in
        waits n at place e (subst (λ (q : ℕ). WaitsAt g q n at place) its w) (subst (λ (q : ℕ). HoldsAt g q n place e) its h) (ap (λ (z : Label). z.port) (sym o.1) ∙ same)
  ];
  within = a.within;
  once = a.once;
}

pub tells_given : {X : Type 0} (V : End → List X) (told : List ℕ → List X) (g : Shown) (ls : List Label) (l : Label) → Tells V told g ls → Has V g l.rank l.port [] → IsUnknown ls l.name → Tells V told g (ls ++ l ∷ [])
tells_given V told g ls l t has unknown = record {
  stands = λ k x hx. elim (pushed_at ls l k x hx) [
    | inl o ↦ t.stands k x o
    | inr o ↦
        let none : told l.name ≡ [] = t.silent l.name unknown in
        subst (λ (z : Label). Has V g z.rank z.port (told z.name)) (sym o.1) (record { place = has.place; end = has.end; holds = has.holds; its = has.its; plain = has.plain; view = has.view ∙ sym none })
  ];
  fresh = λ r n i e h no. t.fresh r n i e h (λ k x is. no k x (still_at ls (l ∷ []) k x is));
  silent = λ name no. t.silent name (λ k x is. no k x (still_at ls (l ∷ []) k x is));
}
