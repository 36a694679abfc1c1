-- A label is given to the port of a far end that waited.
use Rattle.std.proofs.Common.{arith, ◌≡◌, ◌≢◌, ℕ, ◌+◌, ◌<◌, ◌≤◌, zero, suc, List, [], ◌∷◌, ◌++◌, false, remove, slice_get, slice_set, Some, refl, sym, ◌∙◌, ap, subst, inl, inr, ◌⊎◌}
use Rattle.std.proofs.lemmas.Option.{same_Some}
use Rattle.rina_base.specs.declared.number.Port.{Port}
use Rattle.rina_iface.specs.declared.ends.End.{End}
use Rattle.rina_iface.specs.Seen.{Fac}
use Rattle.rina_iface.proofs.Changed.{set_at, slice_get-set_same, slice_get-set_other}
use Rattle.rina_tower.specs.Bystanders.{is_ipc}
use Rattle.rina_notes.specs.declared.label.Label.{Label}
use Rattle.rina_laws.proofs.LabelEnds.{ArePorts, HavePorts, Holds, Waits, number_tells}
use Rattle.rina_laws.proofs.LabelGiven.{named_given, tells_given}
use Rattle.rina_laws.proofs.LabelRanks.{AllPorts, Both, Shown, both_from, both_on}
use Rattle.rina_laws.proofs.LabelTells.{AllFit, AreNamed, HoldsAt, IsBare, IsUnknown, Tells, WaitsAt, fac_of_port, one_place_at}

abbrev pub without : Fac → ℕ → Fac
without f at = record f { waiting = remove f.waiting at }

-- the far end of an application that waited at this place waits no more
pub record IsTaken (fs : List Fac) (n : ℕ) (port : Port) (fs' : List Fac) : Type 0 where
  pub facility : Fac
  pub stands : slice_get fs n ≡ Some facility
  pub at : ℕ
  pub place : ℕ
  pub waits : slice_get facility.waiting at ≡ Some place
  pub end : End
  pub is : slice_get facility.ends place ≡ Some end
  pub plain : is_ipc end.app ≡ false
  pub its_port : port ≡ end.port
  pub new_is : fs' ≡ slice_set fs n (without facility at)

-- at one rank, and nothing changed at the others
pub record TakenAt (g : Shown) (r n : ℕ) (port : Port) (g' : Shown) : Type 0 where
  pub facs : List Fac
  pub is_rank : g r ≡ Some facs
  pub facs' : List Fac
  pub is_rank' : g' r ≡ Some facs'
  pub taken : IsTaken facs n port facs'
  pub others : (k : ℕ) → k ≢ r → Both (λ fs fs'. fs' ≡ fs) (g k) (g' k)

-- what stands in a list after one was removed stood there, at another place
removed_at : {X : Type 0} (xs : List X) (at k : ℕ) (x : X) → slice_get (remove xs at) k ≡ Some x → ((k < at) × (slice_get xs k ≡ Some x)) ⊎ ((at ≤ k) × (slice_get xs (suc k) ≡ Some x))
removed_at [] zero k x h = cc
removed_at [] (suc at) k x h = cc
removed_at (z ∷ xs) zero k x h = inr (omega arith, h)
removed_at (z ∷ xs) (suc at) zero x h = inl (omega arith, h)
removed_at (z ∷ xs) (suc at) (suc k) x h = elim (removed_at xs at k x h) [ inl o ↦ inl (omega (arith, o.0), o.1) | inr o ↦ inr (omega (arith, o.0), o.1) ]

-- ---- the ends stay

on_in : (fs fs' : List Fac) (n : ℕ) (port : Port) (m i : ℕ) (e : End) → IsTaken fs n port fs' → Holds fs m i e → Holds fs' m i e
on_in fs fs' n port m i e c x = subst (λ (z : List Fac). Holds z m i e) (sym c.new_is) (elim (number_tells m n) [
  | inl t ↦ record {
    facility = without c.facility c.at;
    stands = rw t (slice_get-set_same fs n c.facility (without c.facility c.at) c.stands);
    is = rw (same_Some x.facility c.facility (sym x.stands ∙ rw t c.stands)) at x.is;
  }
  | inr o ↦ record { facility = x.facility; stands = slice_get-set_other fs n m (without c.facility c.at) o ∙ x.stands; is = x.is }
])

from_set : (fs : List Fac) (n : ℕ) (f f' : Fac) (m i : ℕ) (e : End) → slice_get fs n ≡ Some f → f'.ends ≡ f.ends → Holds (slice_set fs n f') m i e → Holds fs m i e
from_set fs n f f' m i e h same x = elim (set_at fs n m f f' x.facility h x.stands) [
  | inl t ↦ record { facility = f; stands = rw t.0 h; is = rw (ap (λ (g : Fac). g.ends) t.1 ∙ same) at x.is }
  | inr o ↦ record { facility = x.facility; stands = o.1; is = x.is }
]

from_in : (fs fs' : List Fac) (n : ℕ) (port : Port) (m i : ℕ) (e : End) → IsTaken fs n port fs' → Holds fs' m i e → Holds fs m i e
from_in fs fs' n port m i e c x = from_set fs n c.facility (without c.facility c.at) m i e c.stands refl (subst (λ (z : List Fac). Holds z m i e) c.new_is x)

taken_on : (g g' : Shown) (r n : ℕ) (port : Port) (k m i : ℕ) (e : End) → TakenAt g r n port g' → HoldsAt g k m i e → HoldsAt g' k m i e
taken_on g g' r n port k m i e w h = elim (number_tells k r) [
  | inl t ↦
      let one : h.facs ≡ w.facs = same_Some h.facs w.facs (sym h.is_rank ∙ rw t w.is_rank) in
      record { facs = w.facs'; is_rank = rw t w.is_rank'; holds = on_in w.facs w.facs' n port m i e w.taken (subst (λ (z : List Fac). Holds z m i e) one h.holds) }
  | inr o ↦ (let b = both_on (λ fs fs'. fs' ≡ fs) (g k) (g' k) h.facs (w.others k o) h.is_rank in record { facs = b.0; is_rank = b.1; holds = subst (λ (z : List Fac). Holds z m i e) (sym b.2) h.holds })
]

taken_from : (g g' : Shown) (r n : ℕ) (port : Port) (k m i : ℕ) (e : End) → TakenAt g r n port g' → HoldsAt g' k m i e → HoldsAt g k m i e
taken_from g g' r n port k m i e w h = elim (number_tells k r) [
  | inl t ↦
      let one : h.facs ≡ w.facs' = same_Some h.facs w.facs' (sym h.is_rank ∙ rw t w.is_rank') in
      record { facs = w.facs; is_rank = rw t w.is_rank; holds = from_in w.facs w.facs' n port m i e w.taken (subst (λ (z : List Fac). Holds z m i e) one h.holds) }
  | inr o ↦ (let b = both_from (λ fs fs'. fs' ≡ fs) (g k) (g' k) h.facs (w.others k o) h.is_rank in record { facs = b.0; is_rank = b.1; holds = subst (λ (z : List Fac). Holds z m i e) b.2 h.holds })
]

-- ---- what waits

-- one that waits still waited before, at this place or the next
record IsLeft (fs : List Fac) (n at m k place : ℕ) : Type 0 where
  pub before : ℕ
  pub waits : Waits fs m before place
  pub shift : (m ≢ n × (before ≡ k)) ⊎ (m ≡ n × (((k < at) × (before ≡ k)) ⊎ ((at ≤ k) × (before ≡ k + 1))))

left_set : (fs : List Fac) (n at : ℕ) (f f' : Fac) (m k place : ℕ) → slice_get fs n ≡ Some f → f'.waiting ≡ remove f.waiting at → Waits (slice_set fs n f') m k place → IsLeft fs n at m k place
left_set fs n at f f' m k place h same x = elim (set_at fs n m f f' x.facility h x.stands) [
  | inl t ↦
      let there : slice_get (remove f.waiting at) k ≡ Some place = rw (ap (λ (g : Fac). g.waiting) t.1 ∙ same) at x.is in
      elim (removed_at f.waiting at k place there) [
        | inl o ↦ record { before = k; waits = record { facility = f; stands = rw t.0 h; is = o.1 }; shift = inr (t.0, inl (o.0, refl)) }
        | inr o ↦ record { before = suc k; waits = record { facility = f; stands = rw t.0 h; is = o.1 }; shift = inr (t.0, inr (o.0, omega arith)) }
      ]
  | inr o ↦ record { before = k; waits = record { facility = x.facility; stands = o.1; is = x.is }; shift = inl (o.0, refl) }
]

left_in : (fs fs' : List Fac) (n : ℕ) (port : Port) (m k place : ℕ) → (c : IsTaken fs n port fs') → Waits fs' m k place → IsLeft fs n c.at m k place
left_in fs fs' n port m k place c x = left_set fs n c.at c.facility (without c.facility c.at) m k place c.stands refl (subst (λ (z : List Fac). Waits z m k place) c.new_is x)

-- the same at all ranks
record LeftAt (g : Shown) (r n at q m k place : ℕ) : Type 0 where
  pub before : ℕ
  pub waits : WaitsAt g q m before place
  pub shift : ((q ≡ r → m ≢ n) × (before ≡ k)) ⊎ ((q ≡ r) × (m ≡ n) × (((k < at) × (before ≡ k)) ⊎ ((at ≤ k) × (before ≡ k + 1))))

taken_left : (g g' : Shown) (r n : ℕ) (port : Port) (q m k place : ℕ) → (w : TakenAt g r n port g') → WaitsAt g' q m k place → LeftAt g r n w.taken.at q m k place
taken_left g g' r n port q m k place w x = elim (number_tells q r) [
  | inl t ↦
      let one : x.facs ≡ w.facs' = same_Some x.facs w.facs' (sym x.is_rank ∙ rw t w.is_rank') in
      let l = left_in w.facs w.facs' n port m k place w.taken (subst (λ (z : List Fac). Waits z m k place) one x.waits) in
      record { before = l.before; waits = record { facs = w.facs; is_rank = rw t w.is_rank; waits = l.waits }; shift = elim l.shift [ inl o ↦ inl (λ h. o.0, o.1) | inr o ↦ inr (t, o.0, o.1) ] }
  | inr o ↦
      let b = both_from (λ fs fs'. fs' ≡ fs) (g q) (g' q) x.facs (w.others q o) x.is_rank in
      record { before = k; waits = record { facs = b.0; is_rank = b.1; waits = subst (λ (z : List Fac). Waits z m k place) b.2 x.waits }; shift = inl (λ t. absurd (o t), refl) }
]

-- the place that was claimed is none of those before
left_apart : (g : Shown) (r n at q m k place : ℕ) → (l : LeftAt g r n at q m k place) → q ≡ r → m ≡ n → l.before ≢ at
left_apart g r n at q m k place l high same is = elim l.shift [
  | inl o ↦ o.0 high same
  | inr o ↦ elim o.2 [ inl p ↦ omega (arith, p.0, p.1, is) | inr p ↦ omega (arith, p.0, p.1, is) ]
]

left_once : (g : Shown) (r n at q m j k place : ℕ) → (x : LeftAt g r n at q m j place) → (y : LeftAt g r n at q m k place) → x.before ≡ y.before → j ≡ k
left_once g r n at q m j k place x y same = elim x.shift [
  | inl o ↦ elim y.shift [ inl p ↦ omega (arith, o.1, p.1, same) | inr p ↦ absurd (o.0 p.0 p.1) ]
  | inr o ↦ elim y.shift [
    | inl p ↦ absurd (p.0 o.0 o.1)
    | inr p ↦ elim o.2 [
      | inl a ↦ elim p.2 [ inl b ↦ omega (arith, a.1, b.1, same) | inr b ↦ omega (arith, a.0, a.1, b.0, b.1, same) ]
      | inr a ↦ elim p.2 [ inl b ↦ omega (arith, a.0, a.1, b.0, b.1, same) | inr b ↦ omega (arith, a.1, b.1, same) ]
    ]
  ]
]

-- ---- what is kept

taken_named : (g g' : Shown) (r n : ℕ) (port : Port) (ls : List Label) → TakenAt g r n port g' → AreNamed g ls → AreNamed g' ls
taken_named g g' r n port ls w a = record {
  names = a.names;
  ports = a.ports;
  waits = λ q m at place e v h.
      let l = taken_left g g' r n port q m at place w v in
      a.waits q m l.before place e l.waits (taken_from g g' r n port q m place e w h);
  within = λ q m at place v.
      let l = taken_left g g' r n port q m at place w v in
      let e = a.within q m l.before place l.waits in
      (e.0, taken_on g g' r n port q m place e.0 w e.1);
  once = λ q m j k place v u.
      let x = taken_left g g' r n port q m j place w v in
      let y = taken_left g g' r n port q m k place w u in
      left_once g r n w.taken.at q m j k place x y (a.once q m x.before y.before place x.waits y.waits);
}

taken_tells : {X : Type 0} (V : End → List X) (told : List ℕ → List X) (g g' : Shown) (r n : ℕ) (port : Port) (ls : List Label) → TakenAt g r n port g' → Tells V told g ls → Tells V told g' ls
taken_tells V told g g' r n port ls w t = record {
  stands = λ k l is. (let h = t.stands k l is in record { place = h.place; end = h.end; holds = taken_on g g' r n port l.rank l.port.fac h.place h.end w h.holds; its = h.its; plain = h.plain; view = h.view });
  fresh = λ q m i e h no. t.fresh q m i e (taken_from g g' r n port q m i e w h) no;
  silent = t.silent;
}

pub fit_taken : (g g' : Shown) (r n : ℕ) (port : Port) → TakenAt g r n port g' → AllFit g → AllFit g'
fit_taken g g' r n port w fits = record { of = λ q m i e h. fits.of q m i e (taken_from g g' r n port q m i e w h) }

in_set : (fs : List Fac) (n at : ℕ) (f : Fac) → slice_get fs n ≡ Some f → HavePorts fs → HavePorts (slice_set fs n (without f at))
in_set fs n at f h ports = record {
  of = λ m x is. elim (set_at fs n m f (without f at) x h is) [
    | inl t ↦ (let p = ports.of n f h in subst (λ (z : Fac). ArePorts m z) (sym t.1) (subst (λ (k : ℕ). ArePorts k (without f at)) (sym t.0) (record { own = p.own; apart = p.apart })))
    | inr o ↦ ports.of m x o.1
  ];
}

pub ports_taken : (g g' : Shown) (r n : ℕ) (port : Port) → TakenAt g r n port g' → AllPorts g → AllPorts g'
ports_taken g g' r n port w ports = record {
  of = λ q fs h. elim (number_tells q r) [
    | inl t ↦
        let one : w.facs' ≡ fs = same_Some w.facs' fs (sym w.is_rank' ∙ subst (λ (k : ℕ). g' k ≡ Some fs) t h) in
        subst HavePorts one (subst HavePorts (sym w.taken.new_is) (in_set w.facs n w.taken.at w.taken.facility w.taken.stands (ports.of r w.facs w.is_rank)))
    | inr o ↦ (let b = both_from (λ xs ys. ys ≡ xs) (g q) (g' q) fs (w.others q o) h in subst HavePorts (sym b.2) (ports.of q b.0 b.1))
  ];
}

-- the end that was claimed
claimed_end : (g g' : Shown) (r n : ℕ) (port : Port) → (w : TakenAt g r n port g') → HoldsAt g r n w.taken.place w.taken.end
claimed_end g g' r n port w = record { facs = w.facs; is_rank = w.is_rank; holds = record { facility = w.taken.facility; stands = w.taken.stands; is = w.taken.is } }

claimed_waits : (g g' : Shown) (r n : ℕ) (port : Port) → (w : TakenAt g r n port g') → WaitsAt g r n w.taken.at w.taken.place
claimed_waits g g' r n port w = record { facs = w.facs; is_rank = w.is_rank; waits = record { facility = w.taken.facility; stands = w.taken.stands; is = w.taken.waits } }

claimed_bare : (g g' : Shown) (r n : ℕ) (port : Port) (ls : List Label) → (w : TakenAt g r n port g') → AreNamed g ls → IsBare ls r w.taken.end.port
claimed_bare g g' r n port ls w a = a.waits r n w.taken.at w.taken.place w.taken.end (claimed_waits g g' r n port w) (claimed_end g g' r n port w)

pub named_claimed : (g g' : Shown) (n : ℕ) (ls : List Label) (l : Label) → AllPorts g → TakenAt g l.rank n l.port g' → AreNamed g ls → IsUnknown ls l.name → AreNamed g' (ls ++ l ∷ [])
named_claimed g g' n ls l ports w a unknown = named_given g' ls l (taken_named g g' l.rank n l.port ls w a) unknown (subst (λ (p : Port). IsBare ls l.rank p) (sym w.taken.its_port) (claimed_bare g g' l.rank n l.port ls w a)) (λ m at place e v h same.
    let it = claimed_end g g' l.rank n l.port w in
    let left = taken_left g g' l.rank n l.port l.rank m at place w v in
    let old = taken_from g g' l.rank n l.port l.rank m place e w h in
    let facs : m ≡ n = sym (fac_of_port g l.rank m place e ports old) ∙ ap (λ (q : Port). q.fac) (sym same ∙ w.taken.its_port) ∙ fac_of_port g l.rank n w.taken.place w.taken.end ports it in
    let there : HoldsAt g l.rank n place e = subst (λ (z : ℕ). HoldsAt g l.rank z place e) facs old in
    let places : place ≡ w.taken.place = one_place_at g l.rank n place w.taken.place e w.taken.end ports there it (sym same ∙ w.taken.its_port) in
    let was : WaitsAt g l.rank m w.taken.at place = subst (λ (z : ℕ). WaitsAt g l.rank z w.taken.at place) (sym facs) (subst (λ (z : ℕ). WaitsAt g l.rank n w.taken.at z) (sym places) (claimed_waits g g' l.rank n l.port w)) in
    left_apart g l.rank n w.taken.at l.rank m at place left refl facs (a.once l.rank m left.before w.taken.at place left.waits was))

pub tells_claimed : {X : Type 0} (V : End → List X) (told : List ℕ → List X) (g g' : Shown) (n : ℕ) (ls : List Label) (l : Label) → AllPorts g → TakenAt g l.rank n l.port g' → AreNamed g ls → Tells V told g ls → IsUnknown ls l.name → Tells V told g' (ls ++ l ∷ [])
tells_claimed V told g g' n ls l ports w a t unknown =
    let it = claimed_end g g' l.rank n l.port w in
    let facs : l.port.fac ≡ n = ap (λ (q : Port). q.fac) w.taken.its_port ∙ fac_of_port g l.rank n w.taken.place w.taken.end ports it in
    tells_given V told g' ls l (taken_tells V told g g' l.rank n l.port ls w t) (record {
      place = w.taken.place;
      end = w.taken.end;
      holds = subst (λ (z : ℕ). HoldsAt g' l.rank z w.taken.place w.taken.end) (sym facs) (taken_on g g' l.rank n l.port l.rank n w.taken.place w.taken.end w it);
      its = sym w.taken.its_port;
      plain = w.taken.plain;
      view = t.fresh l.rank n w.taken.place w.taken.end it (claimed_bare g g' l.rank n l.port ls w a);
    }) unknown
