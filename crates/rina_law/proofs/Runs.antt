-- Runs and their SDUs.
use Rattle.std.proofs.Common.{◌≡◌, ℕ, zero, suc, ◌<◌, ◌≤◌, List, [], ◌∷◌, ◌++◌, length, Bool, true, false, cond, refl, sym, ap, arith, inl, inr}
use Rattle.std.proofs.lemmas.Bool.{cases_lt}
use Rattle.rina_law.specs.Constants.{Constants}
use Rattle.rina_law.specs.Direction.{start_of, place_of}
use Rattle.rina_law.specs.DirectionHolds.{part_at, bytes_of, reached, RunHolds}
use Rattle.rina_law.specs.Pieces.{Part}
use Rattle.rina_law.specs.Sender.{Member, Sender, no_member, member}
use Rattle.rina_law.proofs.Lists.{length-push, old_at, new_at}
use Rattle.rina_law.proofs.Standing.{IsLater}

-- two runs with the same pieces, as far as the first goes
pub record Agree (run new : List Member) : Type 0 where
  pub more : length run ≤ length new
  pub part : (n : ℕ) → n < length run → part_at new n ≡ part_at run n
  pub first : (n : ℕ) → n < length run → (member new n).first ≡ (member run n).first

pub agree_later : (tx new : Sender) → IsLater tx new → Agree tx.run new.run
agree_later tx new l = record { more = l.more; part = l.part; first = l.first }

pub place_agree : (run new : List Member) (base n : ℕ) → Agree run new → n < length run → place_of new base n ≡ place_of run base n
place_agree run new base zero a h = refl
place_agree run new base (suc n) a h =
    let e = a.part (suc n) h in
    let ih : place_of new base n ≡ place_of run base n = place_agree run new base n a (omega arith) in
    rw (e, ih) refl

pub start_agree : (run new : List Member) (n : ℕ) → Agree run new → n < length run → start_of new n ≡ start_of run n
start_agree run new zero a h = refl
start_agree run new (suc n) a h =
    let e = a.part (suc n) h in
    let ih : start_of new n ≡ start_of run n = start_agree run new n a (omega arith) in
    rw (e, ih) refl

pub bytes_agree : (run new : List Member) (n : ℕ) → Agree run new → n < length run → bytes_of new n ≡ bytes_of run n
bytes_agree run new zero a h = ap (λ (p : Part). p.body) (a.part zero h)
bytes_agree run new (suc n) a h =
    let e = a.part (suc n) h in
    let ih : bytes_of new n ≡ bytes_of run n = bytes_agree run new n a (omega arith) in
    rw (e, ih) refl

step_le : (b : Bool) (x : ℕ) → x ≤ cond b (suc x) x
step_le true x = omega arith
step_le false x = omega arith

pub place_le : (run : List Member) (base i k : ℕ) → i ≤ k → place_of run base i ≤ place_of run base k
place_le run base i zero h = (let e : i ≡ zero = omega arith in rw e (omega arith))
place_le run base i (suc k) h = elim (cases_lt i (suc k)) [
  | inl lt ↦
      (let ih : place_of run base i ≤ place_of run base k = place_le run base i k (omega arith) in
      let s = step_le (member run (suc k)).part.begins (place_of run base k) in
      omega arith)
  | inr ge ↦ (let e : i ≡ suc k = omega arith in rw e (omega arith))
]

pub place_base : (run : List Member) (base n : ℕ) → base ≤ place_of run base n
place_base run base n = place_le run base zero n (omega arith)

pub place_next : (c : Constants) (run : List Member) (base n : ℕ) → RunHolds c run → suc n < length run → place_of run base (suc n) ≡ reached run base (suc n)
place_next c run base n h lt = rw (h.goes_on n lt) refl

pub place_reached : (c : Constants) (run : List Member) (base n : ℕ) → RunHolds c run → n < length run → reached run base n ≡ place_of run base n
place_reached c run base zero h lt = refl
place_reached c run base (suc n) h lt = sym (place_next c run base n h lt)

pub reached_ends : (run : List Member) (base n : ℕ) → (part_at run n).ends ≡ true → reached run base (suc n) ≡ suc (place_of run base n)
reached_ends run base n e = rw e refl

pub place_lt : (c : Constants) (run : List Member) (base i k : ℕ) → RunHolds c run → i < k → k < length run → (part_at run i).ends ≡ true → place_of run base i < place_of run base k
place_lt c run base i k h ik lt e =
    let next = place_next c run base i h (omega arith) in
    let r = reached_ends run base i e in
    let le = place_le run base (suc i) k (omega arith) in
    omega arith

pub start_begins : (run : List Member) (n : ℕ) → (part_at run n).begins ≡ true → start_of run n ≡ n
start_begins run zero e = refl
start_begins run (suc n) e = rw e refl

pub start_on : (run : List Member) (n : ℕ) → (part_at run (suc n)).begins ≡ false → start_of run (suc n) ≡ start_of run n
start_on run n e = rw e refl

pub bytes_begins : (run : List Member) (n : ℕ) → (part_at run n).begins ≡ true → bytes_of run n ≡ (part_at run n).body
bytes_begins run zero e = refl
bytes_begins run (suc n) e = rw e refl

pub bytes_on : (run : List Member) (n : ℕ) → (part_at run (suc n)).begins ≡ false → bytes_of run (suc n) ≡ bytes_of run n ++ (part_at run (suc n)).body
bytes_on run n e = rw e refl

pub start_le : (run : List Member) (n : ℕ) → start_of run n ≤ n
start_le run zero = omega arith
start_le run (suc n) = (let ih = start_le run n in go (member run (suc n)).part.begins ih)
  where
    go : (b : Bool) → start_of run n ≤ n → cond b (suc n) (start_of run n) ≤ suc n
    go true h = omega arith
    go false h = omega arith

pub reached_not : (run : List Member) (base n : ℕ) → (part_at run n).ends ≡ false → reached run base (suc n) ≡ place_of run base n
reached_not run base n e = rw e refl

pub reached_agree : (run new : List Member) (base n : ℕ) → Agree run new → n ≤ length run → reached new base n ≡ reached run base n
reached_agree run new base zero a h = refl
reached_agree run new base (suc n) a h =
    let e = a.part n h in
    let p : place_of new base n ≡ place_of run base n = place_agree run new base n a h in
    rw (e, p) refl

-- the place of the SDU of a number is that of its first number
pub place_start : (run : List Member) (base n : ℕ) → place_of run base (start_of run n) ≡ place_of run base n
place_start run base zero = refl
place_start run base (suc n) = go (part_at run (suc n)).begins refl (place_start run base n)
  where
    go : (b : Bool) → (part_at run (suc n)).begins ≡ b → place_of run base (start_of run n) ≡ place_of run base n → place_of run base (cond b (suc n) (start_of run n)) ≡ cond b (suc (place_of run base n)) (place_of run base n)
    go true e h = rw e refl
    go false e h = h

-- a run with one member more

pub record IsPushed (run : List Member) (m : Member) : Type 0 where
  pub agree : Agree run (run ++ m ∷ [])
  pub length_is : length (run ++ m ∷ []) ≡ suc (length run)
  pub new : (n : ℕ) → n ≡ length run → member (run ++ m ∷ []) n ≡ m

pub pushed : (run : List Member) (m : Member) → IsPushed run m
pushed run m = record {
  agree = record {
    more = (let longer = length-push run m in omega arith);
    part = λ n lt. ap (λ (z : Member). z.part) (old_at run m no_member n lt);
    first = λ n lt. ap (λ (z : Member). z.first) (old_at run m no_member n lt);
  };
  length_is = (let longer = length-push run m in omega arith);
  new = λ n e. new_at run m no_member n e;
}
