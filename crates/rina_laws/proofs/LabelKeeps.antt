-- What is kept of a tower and its labels by whatever lets the ends of applications rest, and by what is done at one label.
use Rattle.std.proofs.Common.{◌≡◌, ◌≢◌, ◌∙◌, ℕ, Bool, true, false, List, [], ◌++◌, Some, option_map, slice_get, refl, sym, ap, subst, inl, inr, ◌⊎◌}
use Rattle.std.specs.Str.{bytes_eq}
use Rattle.std.proofs.lemmas.Bool.Decides.{eqb_tells}
use Rattle.std.proofs.lemmas.List.{append-nil}
use Rattle.std.proofs.lemmas.Option.{slice_get-map}
use Rattle.std.proofs.lemmas.Slice.Eq.{bytes_eq-Decides}
use Rattle.rina_base.specs.declared.number.Port.{Port}
use Rattle.rina_iface.specs.declared.ends.End.{End}
use Rattle.rina_wire.proofs.Kept.{is_mapped}
use Rattle.rina_tower.specs.declared.tower.Tower.{Tower}
use Rattle.rina_notes.specs.declared.label.Label.{Label}
use Rattle.rina_notes.specs.Look.{looked, shown_now}
use Rattle.rina_notes.specs.Sites.{label_in, port_in}
use Rattle.rina_laws.proofs.LabelCalls.{AllRest}
use Rattle.rina_laws.proofs.LabelGiven.{found_of}
use Rattle.rina_laws.proofs.LabelMoves.{IsView, MovesIn, at_other, at_same, none, rest_moves}
use Rattle.rina_laws.proofs.LabelRanks.{AllPorts, AtAll, Shown, both_as, shown}
use Rattle.rina_laws.proofs.LabelRests.{Rest}
use Rattle.rina_laws.proofs.LabelSends.{at_spot}
use Rattle.rina_laws.proofs.LabelTells.{AllFit, AllMoves, AreNamed, AreSame, Is, Tells, fit_moves, named_moves, named_same, ports_move, tells_moves, tells_same, tells_same_labels}

-- what is kept of what all ranks show
pub record KeepsShown {X : Type 0} (V : End → List X) (told : List ℕ → List X) (g : Shown) (ls : List Label) : Type 0 where
  pub ports : AllPorts g
  pub fits : AllFit g
  pub named : AreNamed g ls
  pub tells : Tells V told g ls

-- what is kept
abbrev pub Keeps : {X : Type 0} → (End → List X) → (List ℕ → List X) → Tower → List Label → Type 0
Keeps V told t ls = KeepsShown V told (shown t) ls

pub keeps_same : {X : Type 0} (V : End → List X) (told told' : List ℕ → List X) (t : Tower) (ls : List Label) → ((name : List ℕ) → told' name ≡ told name) → Keeps V told t ls → Keeps V told' t ls
keeps_same V told told' t ls same k = record { ports = k.ports; fits = k.fits; named = k.named; tells = tells_same V told told' (shown t) ls same k.tells }

-- ---- where the ends of applications rest

rest_all : {X : Type 0} (V : End → List X) (g g' : Shown) → IsView V → AtAll (λ r. Rest) g g' → AllMoves V (λ r. none) g g'
rest_all V g g' v a = record { rank = λ r. both_as Rest (MovesIn V none) (g r) (g' r) (λ fs fs' x. rest_moves V fs fs' v x) (a.rank r) }

pub shown_rest : {X : Type 0} (V : End → List X) (told : List ℕ → List X) (g g' : Shown) (ls : List Label) → IsView V → AtAll (λ r. Rest) g g' → KeepsShown V told g ls → KeepsShown V told g' ls
shown_rest V told g g' ls v a k =
    let mv = rest_all V g g' v a in
    let ports = ports_move V (λ r. none) g g' mv k.ports in
    record {
      ports = ports;
      fits = fit_moves V (λ r. none) g g' mv k.fits;
      named = named_moves V (λ r. none) told g g' ls mv ports k.tells k.named;
      tells = tells_same V (λ name. told name ++ []) told g' ls (λ name. sym (append-nil (told name))) (tells_moves V (λ r. none) told (λ name. []) g g' ls mv k.fits k.tells (λ j l is. refl) (λ r p bare. refl) (λ name unknown. refl));
    }

pub keeps_rest : {X : Type 0} (V : End → List X) (told : List ℕ → List X) (t t' : Tower) (ls : List Label) → IsView V → AllRest t t' → Keeps V told t ls → Keeps V told t' ls
keeps_rest V told t t' ls v a k = shown_rest V told (shown t) (shown t') ls v a k

-- the same, and the labels are the same
pub keeps_on : {X : Type 0} (V : End → List X) (told : List ℕ → List X) (t t' : Tower) (ls ls' : List Label) → IsView V → AllRest t t' → ls' ≡ ls → Keeps V told t ls → Keeps V told t' ls'
keeps_on V told t t' ls ls' v a is k = subst (Keeps V told t') (sym is) (keeps_rest V told t t' ls v a k)

-- ---- the labels have told their states

same_looked : (t : Tower) (ls : List Label) → AreSame ls (looked t ls)
same_looked t ls = record {
  of = λ k l h. (let m = is_mapped (shown_now t) (slice_get ls k) l (sym (slice_get-map (shown_now t) ls k) ∙ h) in (m.0, m.1, ap (λ (x : Label). x.name) (sym m.2), ap (λ (x : Label). x.rank) (sym m.2), ap (λ (x : Label). x.port) (sym m.2)));
  to = λ k m h. (shown_now t m, slice_get-map (shown_now t) ls k ∙ ap (option_map (shown_now t)) h, refl, refl, refl);
}

pub keeps_looked : {X : Type 0} (V : End → List X) (told : List ℕ → List X) (t : Tower) (ls ls' : List Label) → ls' ≡ looked t ls → Keeps V told t ls → Keeps V told t ls'
keeps_looked V told t ls ls' is k = subst (Keeps V told t) (sym is) (record {
  ports = k.ports;
  fits = k.fits;
  named = named_same (shown t) ls (looked t ls) (same_looked t ls) k.named;
  tells = tells_same_labels V told (shown t) ls (looked t ls) (same_looked t ls) k.tells;
})

-- ---- at one label

name_by : (a b : List ℕ) (t : Bool) → bytes_eq a b ≡ t → (a ≡ b) ⊎ (a ≢ b)
name_by a b true is = inl ((bytes_eq-Decides a b).0 is)
name_by a b false is = inr (λ h. let clash : true ≡ false = sym ((bytes_eq-Decides a b).1 h) ∙ is in cc)

-- names are equal, or not
pub name_tells : (a b : List ℕ) → (a ≡ b) ⊎ (a ≢ b)
name_tells a b = name_by a b (bytes_eq a b) refl

spot_same : {X : Type 0} (r : ℕ) (port : Port) (xs : List X) (k : ℕ) (p : Port) → k ≡ r → p ≡ port → at_spot r port xs k p ≡ xs
spot_same r port xs k p high is = elim (eqb_tells k r) [ inl t ↦ rw t.0 (at_same port p xs is) | inr f ↦ absurd (f.1 high) ]

spot_other : {X : Type 0} (r : ℕ) (port : Port) (xs : List X) (k : ℕ) (p : Port) → (k ≡ r → p ≢ port) → at_spot r port xs k p ≡ []
spot_other r port xs k p ne = elim (eqb_tells k r) [ inl t ↦ rw t.0 (at_other port p xs (ne t.1)) | inr f ↦ rw f.0 refl ]

-- the label of that name has the port of that rank
record HasLabel (ls : List Label) (name : List ℕ) (rank : ℕ) (port : Port) : Type 0 where
  place : ℕ
  label : Label
  is : Is ls place label
  its : label.name ≡ name
  rank_is : label.rank ≡ rank
  port_is : label.port ≡ port

has_label : (ls : List Label) (name : List ℕ) (p : ℕ × Port) → port_in ls name ≡ Some p → HasLabel ls name p.0 p.1
has_label ls name p found =
    let m = is_mapped (λ (l : Label). (l.rank, l.port)) (label_in ls name) p found in
    let f = found_of ls name m.0 m.1 in
    record { place = f.place; label = m.0; is = f.is; its = f.its; rank_is = ap (λ (q : ℕ × Port). q.0) m.2; port_is = ap (λ (q : ℕ × Port). q.1) m.2 }

-- what the end of the label shows went on as was told for it
pub keeps_at : {X : Type 0} (V : End → List X) (told new : List ℕ → List X) (name : List ℕ) (p : ℕ × Port) (xs : List X) (t t' : Tower) (ls : List Label) → port_in ls name ≡ Some p → AllMoves V (at_spot p.0 p.1 xs) (shown t) (shown t')
    → ((other : List ℕ) → name ≡ other → new other ≡ xs) → ((other : List ℕ) → name ≢ other → new other ≡ []) → Keeps V told t ls → Keeps V (λ other. told other ++ new other) t' ls
keeps_at V told new name p xs t t' ls found mv same others k =
    let f = has_label ls name p found in
    let ports = ports_move V (at_spot p.0 p.1 xs) (shown t) (shown t') mv k.ports in
    record {
      ports = ports;
      fits = fit_moves V (at_spot p.0 p.1 xs) (shown t) (shown t') mv k.fits;
      named = named_moves V (at_spot p.0 p.1 xs) told (shown t) (shown t') ls mv ports k.tells k.named;
      tells = tells_moves V (at_spot p.0 p.1 xs) told new (shown t) (shown t') ls mv k.fits k.tells
          (λ j l is. elim (name_tells name l.name) [
            | inl e ↦ (let one = k.named.names j f.place l f.label is f.is (sym e ∙ sym f.its) in spot_same p.0 p.1 xs l.rank l.port (one.0 ∙ f.rank_is) (one.1 ∙ f.port_is) ∙ sym (same l.name e))
            | inr o ↦ spot_other p.0 p.1 xs l.rank l.port (λ high q. o (sym f.its ∙ sym (k.named.ports j f.place l f.label is f.is (high ∙ sym f.rank_is) (q ∙ sym f.port_is)))) ∙ sym (others l.name o)
          ])
          (λ r q bare. spot_other p.0 p.1 xs r q (λ high is. bare f.place f.label f.is (f.rank_is ∙ sym high) (f.port_is ∙ sym is)))
          (λ other unknown. others other (λ is. unknown f.place f.label f.is (f.its ∙ is)));
    }
