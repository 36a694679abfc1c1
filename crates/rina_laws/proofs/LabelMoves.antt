-- What is done to the ends of a rank, by a view of their journals.
use Rattle.std.proofs.Common.{arith, cond, ◌≡◌, ◌≢◌, ◌≤◌, ℕ, Bool, true, false, List, [], ◌++◌, get_or, length, length-append, length-set, slice_get, slice_set, Some, refl, sym, ◌∙◌, ap, subst, inl, inr}
use Rattle.std.proofs.lemmas.List.{append-nil}
use Rattle.std.proofs.lemmas.Option.{same_Some, slice_get-get_or, slice_get_within}
use Rattle.rina_base.specs.declared.number.Port.{Port}
use Rattle.rina_law.specs.declared.entry.Entry.{Entry}
use Rattle.rina_iface.specs.declared.ends.End.{End}
use Rattle.rina_iface.specs.Journal.{At}
use Rattle.rina_iface.specs.Seen.{Fac, with_end}
use Rattle.rina_iface.proofs.Changed.{set_at}
use Rattle.rina_tower.specs.Bystanders.{IsIpc, is_ipc}
use Rattle.rina_laws.proofs.LabelEnds.{ArePorts, HavePorts, port_tells, same_port}
use Rattle.rina_laws.proofs.LabelRests.{Each, IsStill, Rest, RestFac, Rests, StillWait, each_set, wait_same}

-- no more was passed than came, where the application is no IPC process
abbrev pub Fits : End → Type 0
Fits e = is_ipc e.app ≡ false → e.taken ≤ length e.got

-- a view of a journal: it shows nothing of an IPC process and nothing of a new end, and stays where nothing is sent or passed
pub record IsView {X : Type 0} (V : End → List X) : Type 0 where
  pub hidden : (e : End) → IsIpc e.app → V e ≡ []
  pub fresh : (e : End) → e.sent ≡ [] → e.taken ≡ 0 → V e ≡ []
  pub still : (e e' : End) → e'.app ≡ e.app → IsStill e e' → Fits e → V e' ≡ V e

-- the end has the same port and application, and its view has more behind it
pub record IsOn {X : Type 0} (V : End → List X) (more : Port → List X) (e e' : End) : Type 0 where
  pub port : e'.port ≡ e.port
  pub app : e'.app ≡ e.app
  pub goes : Fits e → Fits e' × (V e' ≡ V e ++ more e.port)

abbrev pub none : {X : Type 0} → Port → List X
none port = []

-- the view of each end of a facility has more behind it, that of a new end shows nothing, ports are such ports still, and what begins to
-- wait is new
pub record FacMoves {X : Type 0} (V : End → List X) (more : Port → List X) (f f' : Fac) : Type 0 where
  pub longer : length f.ends ≤ length f'.ends
  pub each : (i : ℕ) (e e' : End) → At f.ends i e → At f'.ends i e' → IsOn V more e e'
  pub fresh : (i : ℕ) (e' : End) → At f'.ends i e' → length f.ends ≤ i → Fits e' × (V e' ≡ [])
  pub ports : (n : ℕ) → ArePorts n f → ArePorts n f'
  pub waiting : StillWait f f'

abbrev pub MovesIn : {X : Type 0} → (End → List X) → (Port → List X) → List Fac → List Fac → Type 0
MovesIn V more fs fs' = Each (FacMoves V more) fs fs'

-- ---- where all ends rest

clash : (b : Bool) → b ≡ true → b ≡ false → ⊥
clash b t f = let no : true ≡ false = sym t ∙ f in cc

still_fits : (e e' : End) → e'.app ≡ e.app → IsStill e e' → Fits e → Fits e'
still_fits e e' app s fits plain =
    let was = fits (sym (ap is_ipc app) ∙ plain) in
    let got : length e'.got ≡ length (e.got ++ s.more) = ap (λ (xs : List Entry). length xs) s.got in
    let taken = s.taken in
    omega (arith, was, got, taken, length-append e.got s.more)

pub rests_move : {X : Type 0} (V : End → List X) (e e' : End) → IsView V → Rests e e' → IsOn V none e e'
rests_move V e e' v r = record {
  port = r.port;
  app = r.app;
  goes = λ fits. elim r.rests [
    | inl ipc ↦
        let ipc' : IsIpc e'.app = subst IsIpc (sym r.app) ipc in
        (λ plain. absurd (clash (is_ipc e'.app) ipc' plain), v.hidden e' ipc' ∙ sym (append-nil (V e) ∙ v.hidden e ipc))
    | inr s ↦ (still_fits e e' r.app s fits, v.still e e' r.app s fits ∙ sym (append-nil (V e)))
  ];
}

fac_moves : {X : Type 0} (V : End → List X) (f f' : Fac) → IsView V → RestFac f f' → FacMoves V none f f'
fac_moves V f f' v r = record {
  longer = r.ends.longer;
  each = λ i e e' x y. rests_move V e e' v (r.ends.each i e e' x y);
  fresh = λ i e' y past. elim (r.ends.fresh i e' y past) [
    | inl ipc ↦ (λ plain. absurd (clash (is_ipc e'.app) ipc plain), v.hidden e' ipc)
    | inr none ↦ (λ plain. (let taken = none.1 in omega (arith, taken)), v.fresh e' none.0 none.1)
  ];
  ports = λ n p. record { own = r.ends.own n p.own; apart = r.ends.apart p.apart };
  waiting = r.waiting;
}

pub rest_moves : {X : Type 0} (V : End → List X) (fs fs' : List Fac) → IsView V → Rest fs fs' → MovesIn V none fs fs'
rest_moves V fs fs' v r = record {
  on = λ n f h. (let x = r.on n f h in (x.0, x.1, fac_moves V f x.0 v x.2));
  from = λ n f h. (let x = r.from n f h in (x.0, x.1, fac_moves V x.0 f v x.2));
}

-- ---- one end changed

-- these entries at one port, and none at the others
abbrev pub at_port : {X : Type 0} → Port → List X → Port → List X
at_port port xs p = cond (same_port p port) xs []

pub at_same : {X : Type 0} (port p : Port) (xs : List X) → p ≡ port → at_port port xs p ≡ xs
at_same port p xs is = elim (port_tells p port) [ inl t ↦ rw t.0 refl | inr f ↦ absurd (f.1 is) ]

pub at_other : {X : Type 0} (port p : Port) (xs : List X) → p ≢ port → at_port port xs p ≡ []
at_other port p xs ne = elim (port_tells p port) [ inl t ↦ absurd (ne t.1) | inr f ↦ rw f.0 refl ]

stays_off : {X : Type 0} (V : End → List X) (port : Port) (xs : List X) (e : End) → e.port ≢ port → IsOn V (at_port port xs) e e
stays_off V port xs e ne = record { port = refl; app = refl; goes = λ fits. (fits, sym (append-nil (V e)) ∙ ap (λ ys. V e ++ ys) (sym (at_other port e.port xs ne))) }

-- as many ends, and the same wait
moves_each : {X : Type 0} (V : End → List X) (more : Port → List X) (f f' : Fac) → length f'.ends ≡ length f.ends → ((i : ℕ) (e e' : End) → At f.ends i e → At f'.ends i e' → IsOn V more e e') → f'.waiting ≡ f.waiting → FacMoves V more f f'
moves_each V more f f' size each waiting = record {
  longer = omega (arith, size);
  each = each;
  fresh = λ i e' y past. (let low = slice_get_within f'.ends i e' y in absurd (omega (arith, low, size, past)));
  ports = λ n p. record {
    own = λ i e h. (let b = was i e h in ap (λ (q : Port). q.fac) b.2.port ∙ p.own i b.0 b.1);
    apart = λ i k a b x y same. (let c = was i a x in let d = was k b y in p.apart i k c.0 d.0 c.1 d.1 (sym c.2.port ∙ same ∙ d.2.port));
  };
  waiting = wait_same f f' waiting;
}
  where
    was : (i : ℕ) (e' : End) → At f'.ends i e' → (e : End) × At f.ends i e × IsOn V more e e'
    was i e' h =
        let there : At f.ends i (get_or f.ends i e') = slice_get-get_or f.ends i e' (omega (arith, size, slice_get_within f'.ends i e' h)) in
        (get_or f.ends i e', there, each i (get_or f.ends i e') e' there h)

pub moves_end : {X : Type 0} (V : End → List X) (fs : List Fac) (port : Port) (f : Fac) (i : ℕ) (e e' : End) (xs : List X) → HavePorts fs → slice_get fs port.fac ≡ Some f → At f.ends i e → e.port ≡ port
    → e'.port ≡ e.port → e'.app ≡ e.app → (Fits e → Fits e' × (V e' ≡ V e ++ xs)) → MovesIn V (at_port port xs) fs (slice_set fs port.fac (with_end f i e'))
moves_end V fs port f i e e' xs ports h at its same app goes =
    let here : IsOn V (at_port port xs) e e' = record { port = same; app = app; goes = λ fits. (let g = goes fits in (g.0, g.1 ∙ ap (λ ys. V e ++ ys) (sym (at_same port e.port xs its)))) } in
    each_set (FacMoves V (at_port port xs)) fs port.fac f (with_end f i e') h (moves_each V (at_port port xs) f (with_end f i e') (length-set f.ends i e') (λ k a b x y. elim (set_at f.ends i k e e' b at y) [
      | inl t ↦
          let one : e ≡ a = same_Some e a (sym at ∙ subst (λ (m : ℕ). slice_get f.ends m ≡ Some a) t.0 x) in
          subst (λ (z : End). IsOn V (at_port port xs) z b) one (subst (IsOn V (at_port port xs) e) (sym t.1) here)
      | inr o ↦
          let one : b ≡ a = same_Some b a (sym o.1 ∙ x) in
          let off : a.port ≢ port = λ is. o.0 ((ports.of port.fac f h).apart k i a e x at (is ∙ sym its)) in
          subst (IsOn V (at_port port xs) a) (sym one) (stays_off V port xs a off)
    ]) refl) (λ m g ne x. moves_each V (at_port port xs) g g refl (λ k a b y z.
    let one : b ≡ a = same_Some b a (sym z ∙ y) in
    let off : a.port ≢ port = λ is. ne (sym ((ports.of m g x).own k a y) ∙ ap (λ (q : Port). q.fac) is) in
    subst (IsOn V (at_port port xs) a) (sym one) (stays_off V port xs a off)) refl)
