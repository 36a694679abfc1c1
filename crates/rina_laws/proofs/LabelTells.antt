-- What is kept from one line to the next: labels have names and ports of their own, and tell the journals of their ends.
use Rattle.std.proofs.Common.{arith, ◌≡◌, ◌≢◌, ◌<◌, ◌≤◌, ℕ, false, List, [], ◌++◌, get_or, length, slice_get, Some, sym, ◌∙◌, ap, subst, inl, inr, ◌⊎◌}
use Rattle.std.proofs.lemmas.Bool.{cases_lt}
use Rattle.std.proofs.lemmas.Option.{same_Some, slice_get-get_or, slice_get_within}
use Rattle.rina_base.specs.declared.number.Port.{Port}
use Rattle.rina_iface.specs.declared.ends.End.{End}
use Rattle.rina_iface.specs.Seen.{Fac}
use Rattle.rina_data.proofs.Finding.{there}
use Rattle.rina_tower.specs.Bystanders.{is_ipc}
use Rattle.rina_notes.specs.declared.label.Label.{Label}
use Rattle.rina_laws.proofs.LabelEnds.{Holds, Waits, one_place}
use Rattle.rina_laws.proofs.LabelMoves.{Fits, IsOn, MovesIn}
use Rattle.rina_laws.proofs.LabelRanks.{AllPorts, AtAll, Shown, both_from, both_on}

-- an end stands at a place of a facility of a rank
pub record HoldsAt (g : Shown) (r n i : ℕ) (e : End) : Type 0 where
  pub facs : List Fac
  pub is_rank : g r ≡ Some facs
  pub holds : Holds facs n i e

-- a far end waits there to be claimed
pub record WaitsAt (g : Shown) (r n at place : ℕ) : Type 0 where
  pub facs : List Fac
  pub is_rank : g r ≡ Some facs
  pub waits : Waits facs n at place

-- two places of one port of a rank are one
pub one_place_at : (g : Shown) (r n i k : ℕ) (a b : End) → AllPorts g → HoldsAt g r n i a → HoldsAt g r n k b → a.port ≡ b.port → i ≡ k
one_place_at g r n i k a b ports x y same =
    let one : y.facs ≡ x.facs = same_Some y.facs x.facs (sym y.is_rank ∙ x.is_rank) in
    one_place x.facs n i k a b (ports.of r x.facs x.is_rank) x.holds (subst (λ (z : List Fac). Holds z n k b) one y.holds) same

pub fac_of_port : (g : Shown) (r n i : ℕ) (e : End) → AllPorts g → HoldsAt g r n i e → e.port.fac ≡ n
fac_of_port g r n i e ports x = ((ports.of r x.facs x.is_rank).of n x.holds.facility x.holds.stands).own i e x.holds.is

abbrev pub Is : List Label → ℕ → Label → Type 0
Is ls k l = slice_get ls k ≡ Some l

-- no label has this port of this rank, or this name
abbrev pub IsBare : List Label → ℕ → Port → Type 0
IsBare ls r port = (k : ℕ) (l : Label) → Is ls k l → l.rank ≡ r → l.port ≢ port

abbrev pub IsUnknown : List Label → List ℕ → Type 0
IsUnknown ls name = (k : ℕ) (l : Label) → Is ls k l → l.name ≢ name

-- the end of this port of a rank is that of an application, and has this view
pub record Has {X : Type 0} (V : End → List X) (g : Shown) (r : ℕ) (port : Port) (xs : List X) : Type 0 where
  pub place : ℕ
  pub end : End
  pub holds : HoldsAt g r port.fac place end
  pub its : end.port ≡ port
  pub plain : is_ipc end.app ≡ false
  pub view : V end ≡ xs

-- labels have names and ports of their own, and none has the port of a far end that waits; each that waits is an end, and none waits twice
pub record AreNamed (g : Shown) (ls : List Label) : Type 0 where
  pub names : (j k : ℕ) (l m : Label) → Is ls j l → Is ls k m → l.name ≡ m.name → (l.rank ≡ m.rank) × (l.port ≡ m.port)
  pub ports : (j k : ℕ) (l m : Label) → Is ls j l → Is ls k m → l.rank ≡ m.rank → l.port ≡ m.port → l.name ≡ m.name
  pub waits : (r n at place : ℕ) (e : End) → WaitsAt g r n at place → HoldsAt g r n place e → IsBare ls r e.port
  pub within : (r n at place : ℕ) → WaitsAt g r n at place → (e : End) × HoldsAt g r n place e
  pub once : (r n j k place : ℕ) → WaitsAt g r n j place → WaitsAt g r n k place → j ≡ k

-- the end of each label has the view that is told for the label; an end without a label has nothing, and nothing is told for other names
pub record Tells {X : Type 0} (V : End → List X) (told : List ℕ → List X) (g : Shown) (ls : List Label) : Type 0 where
  pub stands : (k : ℕ) (l : Label) → Is ls k l → Has V g l.rank l.port (told l.name)
  pub fresh : (r n i : ℕ) (e : End) → HoldsAt g r n i e → IsBare ls r e.port → V e ≡ []
  pub silent : (name : List ℕ) → IsUnknown ls name → told name ≡ []

-- no end of an application passed more than came
pub record AllFit (g : Shown) : Type 0 where
  pub of : (r n i : ℕ) (e : End) → HoldsAt g r n i e → Fits e

-- ---- a call that gives no label

-- the views at all ranks have more behind them
abbrev pub AllMoves : {X : Type 0} → (End → List X) → (ℕ → Port → List X) → Shown → Shown → Type 0
AllMoves V more g g' = AtAll (λ r. MovesIn V (more r)) g g'

-- an end stands at a place of the facility
low_place : (g : Shown) (r n i : ℕ) (e : End) (fs : List Fac) (f : Fac) → g r ≡ Some fs → slice_get fs n ≡ Some f → HoldsAt g r n i e → i < length f.ends
low_place g r n i e fs f is_rank stands h =
    let facs : h.facs ≡ fs = same_Some h.facs fs (sym h.is_rank ∙ is_rank) in
    let fac : h.holds.facility ≡ f = same_Some h.holds.facility f (sym h.holds.stands ∙ ap (λ (xs : List Fac). slice_get xs n) facs ∙ stands) in
    slice_get_within f.ends i e (subst (λ (z : Fac). slice_get z.ends i ≡ Some e) fac h.holds.is)

-- a place behind those of all ends there
pub record IsPast (g : Shown) (r n i : ℕ) : Type 0 where
  pub facs : List Fac
  pub is_rank : g r ≡ Some facs
  pub facility : Fac
  pub stands : slice_get facs n ≡ Some facility
  pub past : length facility.ends ≤ i

-- where an end stands is no such place
not_past : (g : Shown) (r n i : ℕ) (e : End) → HoldsAt g r n i e → IsPast g r n i → ⊥
not_past g r n i e h p = (let low = low_place g r n i e p.facs p.facility p.is_rank p.stands h in let past = p.past in omega (arith, low, past))

pub moves_on : {X : Type 0} (V : End → List X) (more : ℕ → Port → List X) (g g' : Shown) (r n i : ℕ) (e : End) → AllMoves V more g g' → HoldsAt g r n i e → (e' : End) × HoldsAt g' r n i e' × IsOn V (more r) e e'
moves_on V more g g' r n i e mv h =
    let b = both_on (MovesIn V (more r)) (g r) (g' r) h.facs (mv.rank r) h.is_rank in
    let f = b.2.on n h.holds.facility h.holds.stands in
    let longer = f.2.longer in
    let there : slice_get f.0.ends i ≡ Some (get_or f.0.ends i e) = slice_get-get_or f.0.ends i e (omega (arith, longer, slice_get_within h.holds.facility.ends i e h.holds.is)) in
    (get_or f.0.ends i e, record { facs = b.0; is_rank = b.1; holds = record { facility = f.0; stands = f.1; is = there } }, f.2.each i e (get_or f.0.ends i e) h.holds.is there)

-- what stands there stood there, or is new, and shows nothing
pub moves_from : {X : Type 0} (V : End → List X) (more : ℕ → Port → List X) (g g' : Shown) (r n i : ℕ) (e' : End) → AllMoves V more g g' → HoldsAt g' r n i e' → ((e : End) × HoldsAt g r n i e × IsOn V (more r) e e') ⊎ (IsPast g r n i × Fits e' × (V e' ≡ []))
moves_from V more g g' r n i e' mv h =
    let b = both_from (MovesIn V (more r)) (g r) (g' r) h.facs (mv.rank r) h.is_rank in
    let f = b.2.from n h.holds.facility h.holds.stands in
    elim (cases_lt i (length f.0.ends)) [
      | inl low ↦
          let there : slice_get f.0.ends i ≡ Some (get_or f.0.ends i e') = slice_get-get_or f.0.ends i e' low in
          inl (get_or f.0.ends i e', record { facs = b.0; is_rank = b.1; holds = record { facility = f.0; stands = f.1; is = there } }, f.2.each i (get_or f.0.ends i e') e' there h.holds.is)
      | inr past ↦ (let new = f.2.fresh i e' h.holds.is past in inr (record { facs = b.0; is_rank = b.1; facility = f.0; stands = f.1; past = past }, new.0, new.1))
    ]

-- what waits waited before, or is a new end
moves_wait : {X : Type 0} (V : End → List X) (more : ℕ → Port → List X) (g g' : Shown) (r n at place : ℕ) → AllMoves V more g g' → WaitsAt g' r n at place → ((before : ℕ) × WaitsAt g r n before place) ⊎ (IsPast g r n place × ((e : End) × HoldsAt g' r n place e))
moves_wait V more g g' r n at place mv w =
    let b = both_from (MovesIn V (more r)) (g r) (g' r) w.facs (mv.rank r) w.is_rank in
    let f = b.2.from n w.waits.facility w.waits.stands in
    elim (f.2.waiting.was at place w.waits.is) [
      | inl o ↦ inl (o.0, record { facs = b.0; is_rank = b.1; waits = record { facility = f.0; stands = f.1; is = o.1 } })
      | inr new ↦
          let e = there w.waits.facility.ends place new.1 in
          inr (record { facs = b.0; is_rank = b.1; facility = f.0; stands = f.1; past = new.0 }, (e.0, record { facs = w.facs; is_rank = w.is_rank; holds = record { facility = w.waits.facility; stands = w.waits.stands; is = e.1 } }))
    ]

-- where none waited twice, none does
moves_once : {X : Type 0} (V : End → List X) (more : ℕ → Port → List X) (g g' : Shown) (r n j k place : ℕ) → AllMoves V more g g' → ((i p : ℕ) → WaitsAt g r n i p → (e : End) × HoldsAt g r n p e) → ((i m p : ℕ) → WaitsAt g r n i p → WaitsAt g r n m p → i ≡ m) → WaitsAt g' r n j place → WaitsAt g' r n k place → j ≡ k
moves_once V more g g' r n j k place mv within once v w =
    let facs : w.facs ≡ v.facs = same_Some w.facs v.facs (sym w.is_rank ∙ v.is_rank) in
    let fac : w.waits.facility ≡ v.waits.facility = same_Some w.waits.facility v.waits.facility (sym w.waits.stands ∙ ap (λ (fs : List Fac). slice_get fs n) facs ∙ v.waits.stands) in
    let b = both_from (MovesIn V (more r)) (g r) (g' r) v.facs (mv.rank r) v.is_rank in
    let f = b.2.from n v.waits.facility v.waits.stands in
    let behind : slice_get v.waits.facility.waiting k ≡ Some place = ap (λ (z : Fac). slice_get z.waiting k) (sym fac) ∙ w.waits.is in
    let here : (i p : ℕ) → slice_get f.0.waiting i ≡ Some p → WaitsAt g r n i p = λ i p is. record { facs = b.0; is_rank = b.1; waits = record { facility = f.0; stands = f.1; is = is } } in
    f.2.waiting.once
    (λ i p is. (let e = within i p (here i p is) in low_place g r n p e.0 b.0 f.0 b.1 f.1 e.1))
    (λ i m p x y. once i m p (here i p x) (here m p y)) j k place v.waits.is behind

pub fit_moves : {X : Type 0} (V : End → List X) (more : ℕ → Port → List X) (g g' : Shown) → AllMoves V more g g' → AllFit g → AllFit g'
fit_moves V more g g' mv fits = record {
  of = λ r n i e h. elim (moves_from V more g g' r n i e mv h) [
    | inl b ↦ (b.2.goes (fits.of r n i b.0 b.1)).0
    | inr new ↦ new.1
  ];
}

pub ports_move : {X : Type 0} (V : End → List X) (more : ℕ → Port → List X) (g g' : Shown) → AllMoves V more g g' → AllPorts g → AllPorts g'
ports_move V more g g' mv ports = record {
  of = λ r fs h.
      let b = both_from (MovesIn V (more r)) (g r) (g' r) fs (mv.rank r) h in
      record { of = λ n f at. (let x = b.2.from n f at in x.2.ports n ((ports.of r b.0 b.1).of n x.0 x.1)) };
}

-- no label has the port of a new end: its own end stood there before
new_bare : {X : Type 0} (V : End → List X) (more : ℕ → Port → List X) (told : List ℕ → List X) (g g' : Shown) (ls : List Label) (r n i : ℕ) (e : End) → AllMoves V more g g' → AllPorts g' → Tells V told g ls → HoldsAt g' r n i e → IsPast g r n i → IsBare ls r e.port
new_bare V more told g g' ls r n i e mv ports t h past j l is rank same =
    let has = t.stands j l is in
    let fac : l.port.fac ≡ n = ap (λ (q : Port). q.fac) same ∙ fac_of_port g' r n i e ports h in
    let was : HoldsAt g r n has.place has.end = subst (λ (z : ℕ). HoldsAt g z n has.place has.end) rank (subst (λ (z : ℕ). HoldsAt g l.rank z has.place has.end) fac has.holds) in
    let on = moves_on V more g g' r n has.place has.end mv was in
    let places : has.place ≡ i = one_place_at g' r n has.place i on.0 e ports on.1 h (on.2.port ∙ has.its ∙ same) in
    not_past g r n i has.end (subst (λ (z : ℕ). HoldsAt g r n z has.end) places was) past

pub named_moves : {X : Type 0} (V : End → List X) (more : ℕ → Port → List X) (told : List ℕ → List X) (g g' : Shown) (ls : List Label) → AllMoves V more g g' → AllPorts g' → Tells V told g ls → AreNamed g ls → AreNamed g' ls
named_moves V more told g g' ls mv ports t a = record {
  names = a.names;
  ports = a.ports;
  waits = λ r n at place e w h. elim (moves_from V more g g' r n place e mv h) [
    | inl b ↦ elim (moves_wait V more g g' r n at place mv w) [
      | inl was ↦ λ j l is rank same. a.waits r n was.0 place b.0 was.1 b.1 j l is rank (same ∙ b.2.port)
      | inr new ↦ absurd (not_past g r n place b.0 b.1 new.0)
    ]
    | inr new ↦ new_bare V more told g g' ls r n place e mv ports t h new.0
  ];
  within = λ r n at place w. elim (moves_wait V more g g' r n at place mv w) [
    | inl was ↦ (let e = a.within r n was.0 place was.1 in let on = moves_on V more g g' r n place e.0 mv e.1 in (on.0, on.1))
    | inr new ↦ new.1
  ];
  once = λ r n j k place v w. moves_once V more g g' r n j k place mv (λ i p x. a.within r n i p x) (λ i m p x y. a.once r n i m p x y) v w;
}

pub tells_moves : {X : Type 0} (V : End → List X) (more : ℕ → Port → List X) (told new : List ℕ → List X) (g g' : Shown) (ls : List Label) → AllMoves V more g g' → AllFit g → Tells V told g ls
    → ((k : ℕ) (l : Label) → Is ls k l → more l.rank l.port ≡ new l.name) → ((r : ℕ) (p : Port) → IsBare ls r p → more r p ≡ []) → ((name : List ℕ) → IsUnknown ls name → new name ≡ [])
    → Tells V (λ name. told name ++ new name) g' ls
tells_moves V more told new g g' ls mv fits t labels bare unknown = record {
  stands = λ k l is.
      let h = t.stands k l is in
      let b = moves_on V more g g' l.rank l.port.fac h.place h.end mv h.holds in
      record {
        place = h.place;
        end = b.0;
        holds = b.1;
        its = b.2.port ∙ h.its;
        plain = ap is_ipc b.2.app ∙ h.plain;
        view = (b.2.goes (fits.of l.rank l.port.fac h.place h.end h.holds)).1 ∙ ap (λ xs. xs ++ more l.rank h.end.port) h.view ∙ ap (λ xs. told l.name ++ xs) (ap (more l.rank) h.its ∙ labels k l is);
      };
  fresh = λ r n i e h no. elim (moves_from V more g g' r n i e mv h) [
    | inl b ↦
        let no' : IsBare ls r b.0.port = λ k l is rank same. no k l is rank (same ∙ sym b.2.port) in
        (b.2.goes (fits.of r n i b.0 b.1)).1 ∙ ap (λ xs. xs ++ more r b.0.port) (t.fresh r n i b.0 b.1 no') ∙ bare r b.0.port no'
    | inr new ↦ new.2
  ];
  silent = λ name no. ap (λ xs. xs ++ new name) (t.silent name no) ∙ unknown name no;
}

-- ---- the labels have told their states

-- these labels have the names and ports of those
pub record AreSame (ls ls' : List Label) : Type 0 where
  pub of : (k : ℕ) (l : Label) → Is ls' k l → (m : Label) × Is ls k m × (l.name ≡ m.name) × (l.rank ≡ m.rank) × (l.port ≡ m.port)
  pub to : (k : ℕ) (m : Label) → Is ls k m → (l : Label) × Is ls' k l × (l.name ≡ m.name) × (l.rank ≡ m.rank) × (l.port ≡ m.port)

pub named_same : (g : Shown) (ls ls' : List Label) → AreSame ls ls' → AreNamed g ls → AreNamed g ls'
named_same g ls ls' s n = record {
  names = λ j k l m hl hm same.
      let x = s.of j l hl in
      let y = s.of k m hm in
      let both = n.names j k x.0 y.0 x.1 y.1 (sym x.2 ∙ same ∙ y.2) in
      (x.3 ∙ both.0 ∙ sym y.3, x.4 ∙ both.1 ∙ sym y.4);
  ports = λ j k l m hl hm rank same.
      let x = s.of j l hl in
      let y = s.of k m hm in
      x.2 ∙ n.ports j k x.0 y.0 x.1 y.1 (sym x.3 ∙ rank ∙ y.3) (sym x.4 ∙ same ∙ y.4) ∙ sym y.2;
  waits = λ r m at place e w h j l is rank same.
      let x = s.of j l is in
      n.waits r m at place e w h j x.0 x.1 (sym x.3 ∙ rank) (sym x.4 ∙ same);
  within = n.within;
  once = n.once;
}

pub tells_same_labels : {X : Type 0} (V : End → List X) (told : List ℕ → List X) (g : Shown) (ls ls' : List Label) → AreSame ls ls' → Tells V told g ls → Tells V told g ls'
tells_same_labels V told g ls ls' s t = record {
  stands = λ k l is.
      let x = s.of k l is in
      subst (λ (q : Port). Has V g l.rank q (told l.name)) (sym x.4) (subst (λ (r : ℕ). Has V g r x.0.port (told l.name)) (sym x.3) (subst (λ (name : List ℕ). Has V g x.0.rank x.0.port (told name)) (sym x.2) (t.stands k x.0 x.1)));
  fresh = λ r n i e h no. t.fresh r n i e h (λ k m is rank same. (let x = s.to k m is in no k x.0 x.1 (x.3 ∙ rank) (x.4 ∙ same)));
  silent = λ name no. t.silent name (λ k m is same. (let x = s.to k m is in no k x.0 x.1 (x.2 ∙ same)));
}

-- what is told is only said otherwise
pub tells_same : {X : Type 0} (V : End → List X) (told told' : List ℕ → List X) (g : Shown) (ls : List Label) → ((name : List ℕ) → told' name ≡ told name) → Tells V told g ls → Tells V told' g ls
tells_same V told told' g ls same t = record {
  stands = λ k l is. (let h = t.stands k l is in record { place = h.place; end = h.end; holds = h.holds; its = h.its; plain = h.plain; view = h.view ∙ sym (same l.name) });
  fresh = t.fresh;
  silent = λ name no. same name ∙ t.silent name no;
}
