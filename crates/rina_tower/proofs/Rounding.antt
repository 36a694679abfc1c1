-- How the steps of a round are put together.
use Rattle.std.proofs.Common.{◌≡◌, ◌∙◌, ℕ, ◌+◌, ◌<◌, ◌≤◌, Bool, true, zero, suc, List, [], ◌∷◌, ◌++◌, get_or, length, map, take, slice_get, Some, Result, Ok, Err, refl, sym, ap, subst, append_assoc}
use Rattle.std.proofs.lemmas.List.{append-nil, map-append, take_all, take_more}
use Rattle.rina_policy.specs.Slots.{Slot}
use Rattle.rina_tower.specs.declared.tower.Tower.{Tower}
use Rattle.rina_tower.specs.Bystanders.{Anyone, LeavesNow}
use Rattle.rina_tower.specs.Ranks.{height_of, now_of, seen_now, seen_of}
use Rattle.std.specs.Prelude.{OnOk}
use Rattle.rina_tower.specs.Rounds.{AllMove, AllClockSteps, Follows, InTurn, IsRound, IsUntil, AllOutSteps, Move, Moves, Runs, AllInSteps, links_downward, links_upward, members_upward}
use Rattle.rina_tower.specs.Stands.{IsTower}
use Rattle.rina_tower.proofs.Alone.{all_alone, now_on}

-- What follows

pub follows_none : (t : Tower) → IsTower t → Follows t t
follows_none t v = record { valid = v; quiet = all_alone Anyone (seen_of t); height = refl }

pub follows_on : (t u v : Tower) → Follows t u → Follows u v → Follows t v
follows_on t u v f g = record { valid = g.valid; quiet = now_on Anyone (seen_of t) (seen_of u) (seen_of v) f.quiet g.quiet; height = g.height ∙ f.height }

pub follows_step : (t u v : Tower) → Follows t u → IsTower v → LeavesNow Anyone (seen_of u) (seen_of v) → height_of v ≡ height_of u → Follows t v
follows_step t u v f valid quiet height = follows_on t u v f (record { valid = valid; quiet = quiet; height = height })

pub same_clock : (t t' : Tower) → Follows t t' → now_of t' ≡ now_of t
same_clock t t' f = sym (seen_now t') ∙ f.quiet.clock ∙ seen_now t

-- Steps one after the other

pub all_on : (ms ns : List Move) (a b c : List Slot) (t u v : Tower) → AllMove ms a t b u → AllMove ns b u c v → AllMove (ms ++ ns) a t c v
all_on [] ns a b c t u v x y = subst (λ (z : Tower). AllMove ns a z c v) x.1 (subst (λ (s : List Slot). AllMove ns s u c v) x.0 y)
all_on (m ∷ ms) ns a b c t u v x y = (x.0, x.1, x.2, all_on ms ns x.0 b c x.1 u v x.3 y)

pub one_move : (m : Move) (a b : List Slot) (t u : Tower) → Moves m a t b u → AllMove (m ∷ []) a t b u
one_move m a b t u h = (b, u, h, (refl, refl))

-- One step again and again

-- it was taken some times, and each answer says to go on
pub record IsGoing {A : Type 0} (goes_on : A → Bool) (make : A → Move) (slots : List Slot) (t : Tower) (slots' : List Slot) (t' : Tower) : Type 0 where
  pub before : List A
  pub on : (k : ℕ) (x : A) → slice_get before k ≡ Some x → goes_on x ≡ true
  pub moves : AllMove (map make before) slots t slots' t'

pub going_none : {A : Type 0} (goes_on : A → Bool) (make : A → Move) (slots : List Slot) (t : Tower) → IsGoing goes_on make slots t slots t
going_none goes_on make slots t = record { before = []; on = λ k x h. cc; moves = (refl, refl) }

on_more : {A : Type 0} (goes_on : A → Bool) (xs : List A) (y : A) → ((k : ℕ) (x : A) → slice_get xs k ≡ Some x → goes_on x ≡ true) → goes_on y ≡ true → (k : ℕ) (x : A) → slice_get (xs ++ y ∷ []) k ≡ Some x → goes_on x ≡ true
on_more goes_on [] y on h zero x is = cc
on_more goes_on [] y on h (suc k) x is = cc
on_more goes_on (z ∷ zs) y on h zero x is = on zero x is
on_more goes_on (z ∷ zs) y on h (suc k) x is = on_more goes_on zs y (λ j w e. on (suc j) w e) h k x is

moves_more : {A : Type 0} (make : A → Move) (xs : List A) (y : A) (a b c : List Slot) (t u v : Tower) → AllMove (map make xs) a t b u → Moves (make y) b u c v → AllMove (map make (xs ++ y ∷ [])) a t c v
moves_more make xs y a b c t u v x h = subst (λ (ms : List Move). AllMove ms a t c v) (sym (map-append make xs (y ∷ []))) (all_on (map make xs) (make y ∷ []) a b c t u v x (one_move (make y) b c u v h))

pub going_more : {A : Type 0} (goes_on : A → Bool) (make : A → Move) (y : A) (a b c : List Slot) (t u v : Tower) → IsGoing goes_on make a t b u → Moves (make y) b u c v → goes_on y ≡ true → IsGoing goes_on make a t c v
going_more goes_on make y a b c t u v g h more = record {
  before = g.before ++ y ∷ [];
  on = on_more goes_on g.before y g.on more;
  moves = moves_more make g.before y a b c t u v g.moves h;
}

pub going_ends : {A : Type 0} (goes_on ends : A → Bool) (make : A → Move) (y : A) (a b c : List Slot) (t u v : Tower) → IsGoing goes_on make a t b u → Moves (make y) b u c v → ends y ≡ true → Runs (λ ms. (answers : List A) × IsUntil goes_on ends answers × (ms ≡ map make answers)) a t c v
going_ends goes_on ends make y a b c t u v g h end =
    (map make (g.before ++ y ∷ []), (g.before ++ y ∷ [], record { before = g.before; last = y; on = g.on; end = end; all = refl }, refl), moves_more make g.before y a b c t u v g.moves h)

-- One place after the other

turn_more : {P : Type 0} (At : P → List Move → Type 0) (ps : List P) (p : P) (ms ns : List Move) → InTurn At ps ms → At p ns → InTurn At (ps ++ p ∷ []) (ms ++ ns)
turn_more At [] p ms ns x h = (ns, [], h, refl, ap (λ (z : List Move). z ++ ns) x ∙ sym (append-nil ns))
turn_more At (q ∷ qs) p ms ns x h = (x.0, x.1 ++ ns, x.2, turn_more At qs p x.1 ns x.3 h, ap (λ (z : List Move). z ++ ns) x.4 ∙ append_assoc x.0 x.1 ns)

pub runs_none : {P : Type 0} (At : P → List Move → Type 0) (slots : List Slot) (t : Tower) → Runs (InTurn At []) slots t slots t
runs_none At slots t = ([], refl, (refl, refl))

pub runs_more : {P : Type 0} (At : P → List Move → Type 0) (ps : List P) (p : P) (a b c : List Slot) (t u v : Tower) → Runs (InTurn At ps) a t b u → Runs (At p) b u c v → Runs (InTurn At (ps ++ p ∷ [])) a t c v
runs_more At ps p a b c t u v x y = (x.0 ++ y.0, turn_more At ps p x.0 y.0 x.1 y.1, all_on x.0 y.0 a b c t u v x.2 y.2)

pub runs_next : {P : Type 0} (At : P → List Move → Type 0) (ps : List P) (k : ℕ) (d : P) (a b c : List Slot) (t u v : Tower) → k < length ps → Runs (InTurn At (take k ps)) a t b u → Runs (At (get_or ps k d)) b u c v → Runs (InTurn At (take (k + 1) ps)) a t c v
runs_next {P = P} At ps k d a b c t u v lt x y = subst (λ (qs : List P). Runs (InTurn At qs) a t c v) (sym (take_more ps k d lt)) (runs_more At (take k ps) (get_or ps k d) a b c t u v x y)

pub runs_all : {P : Type 0} (At : P → List Move → Type 0) (ps qs : List P) (k : ℕ) (a c : List Slot) (t v : Tower) → ps ≡ qs → length ps ≤ k → Runs (InTurn At (take k ps)) a t c v → Runs (InTurn At qs) a t c v
runs_all {P = P} At ps qs k a c t v is past x = subst (λ (rs : List P). Runs (InTurn At rs) a t c v) (take_all k ps past ∙ is) x

-- A round

pub on_ok : {A E : Type 0} (r : Result A E) (P Q : Type 0) → (P → Q) → OnOk r P → OnOk r Q
on_ok (Ok x) P Q f h = f h
on_ok (Err e) P Q f h = h

pub round_done : (a b : List Slot) (t u v w : Tower) → ((s : List Slot) → Runs (InTurn AllInSteps (links_upward t)) s t s u) → ((s : List Slot) → Runs (InTurn AllClockSteps (members_upward u)) s u s v) → Runs (InTurn AllOutSteps (links_downward v)) a v b w → IsRound a b t w
round_done a b t u v w takes dues leaves =
    let x = takes a in
    let y = dues a in
    record {
      taken = u;
      takes = x.0;
      takes_are = x.1;
      do_take = x.2;
      clocked = v;
      dues = y.0;
      dues_are = y.1;
      do_dues = y.2;
      leaves = leaves.0;
      leaves_are = leaves.1;
      do_leave = leaves.2;
    }
