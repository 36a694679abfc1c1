-- What sends and passes nothing at the ends of a rank: it lets them rest.
use Rattle.std.proofs.Common.{arith, ◌≡◌, ◌≢◌, ◌<◌, ◌≤◌, ℕ, zero, suc, List, [], ◌∷◌, ◌++◌, append_assoc, get_or, length, length-set, remove, slice_get, slice_set, Some, refl, sym, ◌∙◌, ap, subst, inl, inr, ◌⊎◌}
use Rattle.std.proofs.lemmas.Bool.{cases_lt}
use Rattle.std.proofs.lemmas.List.{append-nil}
use Rattle.std.proofs.lemmas.Option.{same_Some, slice_get-get_or, slice_get_within}
use Rattle.rina_base.specs.declared.number.Port.{Port}
use Rattle.rina_law.specs.declared.entry.Entry.{Entry}
use Rattle.rina_iface.specs.declared.ends.End.{End}
use Rattle.rina_iface.specs.Journal.{At}
use Rattle.rina_iface.specs.Seen.{Fac}
use Rattle.rina_iface.proofs.Changed.{set_at, slice_get-set_same, slice_get-set_other}
use Rattle.rina_dif.proofs.Waiting.{in_either}
use Rattle.rina_tower.specs.Bystanders.{IsIpc}
use Rattle.rina_laws.proofs.LabelEnds.{number_tells}

-- the end sent and passed nothing; it may have got more, and its state may be another
pub record IsStill (e e' : End) : Type 0 where
  pub sent : e'.sent ≡ e.sent
  pub taken : e'.taken ≡ e.taken
  pub more : List Entry
  pub got : e'.got ≡ e.got ++ more

-- the same, or it is the end of an IPC process
pub record Rests (e e' : End) : Type 0 where
  pub port : e'.port ≡ e.port
  pub app : e'.app ≡ e.app
  pub rests : IsIpc e.app ⊎ IsStill e e'

pub rests_still : (e e' : End) → e'.port ≡ e.port → e'.app ≡ e.app → e'.sent ≡ e.sent → e'.taken ≡ e.taken → (more : List Entry) → e'.got ≡ e.got ++ more → Rests e e'
rests_still e e' port app sent taken more got = record { port = port; app = app; rests = inr (record { sent = sent; taken = taken; more = more; got = got }) }

pub rests_refl : (e : End) → Rests e e
rests_refl e = rests_still e e refl refl refl refl [] (sym (append-nil e.got))

still_on : (x y z : End) → IsStill x y → IsStill y z → IsStill x z
still_on x y z p q = record {
  sent = q.sent ∙ p.sent;
  taken = q.taken ∙ p.taken;
  more = p.more ++ q.more;
  got = q.got ∙ ap (λ (es : List Entry). es ++ q.more) p.got ∙ append_assoc x.got p.more q.more;
}

pub rests_on : (x y z : End) → Rests x y → Rests y z → Rests x z
rests_on x y z p q = record {
  port = q.port ∙ p.port;
  app = q.app ∙ p.app;
  rests = elim p.rests [
    | inl ipc ↦ inl ipc
    | inr s ↦ elim q.rests [ inl ipc ↦ inl (subst IsIpc p.app ipc) | inr t ↦ inr (still_on x y z s t) ]
  ];
}

-- ---- the ends of a facility

-- the end sent and passed nothing yet, or is that of an IPC process
abbrev pub IsUntouched : End → Type 0
IsUntouched e = IsIpc e.app ⊎ ((e.sent ≡ []) × (e.taken ≡ 0))

untouched_on : (e e' : End) → Rests e e' → IsUntouched e → IsUntouched e'
untouched_on e e' r (inl ipc) = inl (subst IsIpc (sym r.app) ipc)
untouched_on e e' r (inr none) = elim r.rests [ inl ipc ↦ inl (subst IsIpc (sym r.app) ipc) | inr s ↦ inr (s.sent ∙ none.0, s.taken ∙ none.1) ]

-- their ports are those of this facility, and no two have one
abbrev pub AreOf : ℕ → List End → Type 0
AreOf n es = (i : ℕ) (e : End) → At es i e → e.port.fac ≡ n

abbrev pub AreApart : List End → Type 0
AreApart es = (i k : ℕ) (a b : End) → At es i a → At es k b → a.port ≡ b.port → i ≡ k

-- each end rests, and new ends behind them are untouched; and ports are such ports still
pub record RestEnds (es es' : List End) : Type 0 where
  pub longer : length es ≤ length es'
  pub each : (i : ℕ) (e e' : End) → At es i e → At es' i e' → Rests e e'
  pub fresh : (i : ℕ) (e' : End) → At es' i e' → length es ≤ i → IsUntouched e'
  pub own : (n : ℕ) → AreOf n es → AreOf n es'
  pub apart : AreApart es → AreApart es'

-- where none is new
pub ends_each : (es es' : List End) → length es' ≡ length es → ((i : ℕ) (e e' : End) → At es i e → At es' i e' → Rests e e') → RestEnds es es'
ends_each es es' size each = record {
  longer = omega (arith, size);
  each = each;
  fresh = λ i e' y past. (let low = slice_get_within es' i e' y in absurd (omega (arith, low, size, past)));
  own = λ n own i e' y. (let a = was i e' y in ap (λ (q : Port). q.fac) (each i a.0 e' a.1 y).port ∙ own i a.0 a.1);
  apart = λ apart i k a b x y same. (let c = was i a x in let d = was k b y in apart i k c.0 d.0 c.1 d.1 (sym (each i c.0 a c.1 x).port ∙ same ∙ (each k d.0 b d.1 y).port));
}
  where
    was : (i : ℕ) (e' : End) → At es' i e' → (e : End) × At es i e
    was i e' y = (get_or es i e', slice_get-get_or es i e' (omega (arith, size, slice_get_within es' i e' y)))

pub ends_same : (es es' : List End) → es' ≡ es → RestEnds es es'
ends_same es es' is = ends_each es es' (ap (λ (xs : List End). length xs) is)
    (λ i e e' x y. (let one : e' ≡ e = same_Some e' e (sym (subst (λ (xs : List End). At xs i e') is y) ∙ x) in subst (Rests e) (sym one) (rests_refl e)))

pub ends_set : (es : List End) (i : ℕ) (e e' : End) → At es i e → Rests e e' → RestEnds es (slice_set es i e')
ends_set es i e e' h rests = ends_each es (slice_set es i e') (length-set es i e')
    (λ k a b x y. elim (set_at es i k e e' b h y) [
      | inl t ↦
          let one : a ≡ e = same_Some a e (sym x ∙ subst (λ (m : ℕ). slice_get es m ≡ Some e) (sym t.0) h) in
          subst (λ (z : End). Rests z b) (sym one) (subst (Rests e) (sym t.1) rests)
      | inr o ↦ let one : b ≡ a = same_Some b a (sym o.1 ∙ x) in subst (Rests a) (sym one) (rests_refl a)
    ])

pub ends_on : (xs ys zs : List End) → RestEnds xs ys → RestEnds ys zs → RestEnds xs zs
ends_on xs ys zs p q = record {
  longer = (let a = p.longer in let b = q.longer in omega (arith, a, b));
  each = λ i e e' x z.
      let longer = p.longer in
      let y : At ys i (get_or ys i e) = slice_get-get_or ys i e (omega (arith, longer, slice_get_within xs i e x)) in
      rests_on e (get_or ys i e) e' (p.each i e (get_or ys i e) x y) (q.each i (get_or ys i e) e' y z);
  fresh = λ i e' z past. elim (cases_lt i (length ys)) [
    | inl low ↦
        let y : At ys i (get_or ys i e') = slice_get-get_or ys i e' low in
        untouched_on (get_or ys i e') e' (q.each i (get_or ys i e') e' y z) (p.fresh i (get_or ys i e') y past)
    | inr after ↦ q.fresh i e' z after
  ];
  own = λ n own. q.own n (p.own n own);
  apart = λ apart. q.apart (p.apart apart);
}

-- ---- the far ends that wait

-- none waits twice
abbrev pub AreOnce : List ℕ → Type 0
AreOnce ws = (j k place : ℕ) → slice_get ws j ≡ Some place → slice_get ws k ≡ Some place → j ≡ k

-- each is the place of an end
abbrev pub AreWithin : ℕ → List ℕ → Type 0
AreWithin size ws = (k place : ℕ) → slice_get ws k ≡ Some place → place < size

-- each that waits waited before, or is new; and none waits twice, where none did
pub record StillWait (f f' : Fac) : Type 0 where
  pub was : (k place : ℕ) → slice_get f'.waiting k ≡ Some place → ((j : ℕ) × (slice_get f.waiting j ≡ Some place)) ⊎ ((length f.ends ≤ place) × (place < length f'.ends))
  pub once : AreWithin (length f.ends) f.waiting → AreOnce f.waiting → AreOnce f'.waiting

pub wait_same : (f f' : Fac) → f'.waiting ≡ f.waiting → StillWait f f'
wait_same f f' is = record {
  was = λ k place h. inl (k, subst (λ (xs : List ℕ). slice_get xs k ≡ Some place) is h);
  once = λ within once. subst AreOnce (sym is) once;
}

still_within : (f g : Fac) → StillWait f g → length f.ends ≤ length g.ends → AreWithin (length f.ends) f.waiting → AreWithin (length g.ends) g.waiting
still_within f g w le within k place h = elim (w.was k place h) [
  | inl o ↦ (let low = within o.0 place o.1 in omega (arith, low, le))
  | inr new ↦ new.1
]

wait_on : (f g h : Fac) → length f.ends ≤ length g.ends → length g.ends ≤ length h.ends → StillWait f g → StillWait g h → StillWait f h
wait_on f g h le le' p q = record {
  was = λ k place x. elim (q.was k place x) [
    | inl o ↦ elim (p.was o.0 place o.1) [
      | inl a ↦ inl a
      | inr a ↦ inr (a.0, (let low = a.1 in omega (arith, low, le')))
    ]
    | inr o ↦ inr ((let past = o.0 in omega (arith, past, le)), o.1)
  ];
  once = λ within once. q.once (still_within f g p le within) (p.once within once);
}

-- the place before one was taken from among them
abbrev past : ℕ → ℕ → ℕ
past zero k = suc k
past (suc at) zero = zero
past (suc at) (suc k) = suc (past at k)

past_apart : (at j k : ℕ) → past at j ≡ past at k → j ≡ k
past_apart zero j k same = omega (arith, same)
past_apart (suc at) zero zero same = refl
past_apart (suc at) zero (suc k) same = absurd (omega (arith, same))
past_apart (suc at) (suc j) zero same = absurd (omega (arith, same))
past_apart (suc at) (suc j) (suc k) same = ap suc (past_apart at j k (omega (arith, same)))

was_past : (xs : List ℕ) (at k x : ℕ) → slice_get (remove xs at) k ≡ Some x → slice_get xs (past at k) ≡ Some x
was_past [] zero k x h = cc
was_past [] (suc at) k x h = cc
was_past (z ∷ xs) zero k x h = h
was_past (z ∷ xs) (suc at) zero x h = h
was_past (z ∷ xs) (suc at) (suc k) x h = was_past xs at k x h

pub wait_less : (f f' : Fac) (at : ℕ) → f'.waiting ≡ remove f.waiting at → StillWait f f'
wait_less f f' at is = record {
  was = λ k place h. inl (past at k, was_past f.waiting at k place (subst (λ (xs : List ℕ). slice_get xs k ≡ Some place) is h));
  once = λ within once. subst AreOnce (sym is) (λ j k place x y. past_apart at j k (once (past at j) (past at k) place (was_past f.waiting at j place x) (was_past f.waiting at k place y)));
}

-- behind what waited begin new ends to wait, each once
pub wait_more : (f f' : Fac) (more : List ℕ) → f'.waiting ≡ f.waiting ++ more → ((k place : ℕ) → slice_get more k ≡ Some place → (length f.ends ≤ place) × (place < length f'.ends)) → AreOnce more → StillWait f f'
wait_more f f' more is are_new apart = record {
  was = λ k place h. elim (in_either f.waiting more k place (there k place h)) [ inl o ↦ inl (k, o) | inr o ↦ inr (are_new o.0 place o.2) ];
  once = λ within once j k place x y. elim (in_either f.waiting more j place (there j place x)) [
    | inl o ↦ elim (in_either f.waiting more k place (there k place y)) [
      | inl p ↦ once j k place o p
      | inr p ↦ (let low = within j place o in let after = (are_new p.0 place p.2).0 in absurd (omega (arith, low, after)))
    ]
    | inr o ↦ elim (in_either f.waiting more k place (there k place y)) [
      | inl p ↦ (let low = within k place p in let after = (are_new o.0 place o.2).0 in absurd (omega (arith, low, after)))
      | inr p ↦ (let same = apart o.0 p.0 place o.2 p.2 in let a = o.1 in let b = p.1 in omega (arith, same, a, b))
    ]
  ];
}
  where
    there : (k place : ℕ) → slice_get f'.waiting k ≡ Some place → slice_get (f.waiting ++ more) k ≡ Some place
    there k place h = subst (λ (xs : List ℕ). slice_get xs k ≡ Some place) is h

-- ---- a facility

-- the ends of a facility rest, and what begins to wait is new
pub record RestFac (f f' : Fac) : Type 0 where
  pub ends : RestEnds f.ends f'.ends
  pub waiting : StillWait f f'

pub fac_same : (f f' : Fac) → f'.ends ≡ f.ends → f'.waiting ≡ f.waiting → RestFac f f'
fac_same f f' ends waiting = record { ends = ends_same f.ends f'.ends ends; waiting = wait_same f f' waiting }

fac_on : (f g h : Fac) → RestFac f g → RestFac g h → RestFac f h
fac_on f g h p q = record { ends = ends_on f.ends g.ends h.ends p.ends q.ends; waiting = wait_on f g h p.ends.longer q.ends.longer p.waiting q.waiting }

-- ---- the facilities of a rank

-- each facility has become one of which this holds
pub record Each (R : Fac → Fac → Type 0) (fs fs' : List Fac) : Type 0 where
  pub on : (n : ℕ) (f : Fac) → slice_get fs n ≡ Some f → (f' : Fac) × (slice_get fs' n ≡ Some f') × R f f'
  pub from : (n : ℕ) (f' : Fac) → slice_get fs' n ≡ Some f' → (f : Fac) × (slice_get fs n ≡ Some f) × R f f'

pub each_same : (R : Fac → Fac → Type 0) (fs fs' : List Fac) → fs' ≡ fs → ((n : ℕ) (f : Fac) → slice_get fs n ≡ Some f → R f f) → Each R fs fs'
each_same R fs fs' is same = record {
  on = λ n f h. (f, ap (λ (xs : List Fac). slice_get xs n) is ∙ h, same n f h);
  from = λ n f' h. (let there : slice_get fs n ≡ Some f' = sym (ap (λ (xs : List Fac). slice_get xs n) is) ∙ h in (f', there, same n f' there));
}

pub each_set : (R : Fac → Fac → Type 0) (fs : List Fac) (n : ℕ) (f f' : Fac) → slice_get fs n ≡ Some f → R f f' → ((m : ℕ) (g : Fac) → m ≢ n → slice_get fs m ≡ Some g → R g g) → Each R fs (slice_set fs n f')
each_set R fs n f f' h here others = record {
  on = λ m g x. elim (number_tells m n) [
    | inl t ↦
        let one : f ≡ g = same_Some f g (sym h ∙ subst (λ (k : ℕ). slice_get fs k ≡ Some g) t x) in
        (f', subst (λ (k : ℕ). slice_get (slice_set fs n f') k ≡ Some f') (sym t) (slice_get-set_same fs n f f' h), subst (λ (z : Fac). R z f') one here)
    | inr o ↦ (g, slice_get-set_other fs n m f' o ∙ x, others m g o x)
  ];
  from = λ m g x. elim (set_at fs n m f f' g h x) [
    | inl t ↦ (f, subst (λ (k : ℕ). slice_get fs k ≡ Some f) (sym t.0) h, subst (R f) (sym t.1) here)
    | inr o ↦ (g, o.1, others m g o.0 o.1)
  ];
}

-- the ends of a rank rest
abbrev pub Rest : List Fac → List Fac → Type 0
Rest fs fs' = Each RestFac fs fs'

pub rest_on : (fs gs hs : List Fac) → Rest fs gs → Rest gs hs → Rest fs hs
rest_on fs gs hs p q = record {
  on = λ n f at. (let a = p.on n f at in let b = q.on n a.0 a.1 in (b.0, b.1, fac_on f a.0 b.0 a.2 b.2));
  from = λ n h at. (let b = q.from n h at in let a = p.from n b.0 b.1 in (a.0, a.1, fac_on a.0 b.0 h a.2 b.2));
}

pub rest_same : (fs fs' : List Fac) → fs' ≡ fs → Rest fs fs'
rest_same fs fs' is = each_same RestFac fs fs' is (λ n f h. fac_same f f refl refl)

pub rest_set : (fs : List Fac) (n : ℕ) (f f' : Fac) → slice_get fs n ≡ Some f → RestFac f f' → Rest fs (slice_set fs n f')
rest_set fs n f f' h here = each_set RestFac fs n f f' h here (λ m g ne at. fac_same g g refl refl)
