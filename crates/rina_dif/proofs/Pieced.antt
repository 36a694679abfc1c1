-- A number that is given up is that of a piece of an SDU that was sent.
use Rattle.std.proofs.Common.{◌≡◌, ◌∙◌, ℕ, zero, suc, ◌+◌, ◌-◌, ◌*◌, ◌<◌, ◌≤◌, Bool, true, false, List, length, length-append, refl, sym, ap, subst, arith, inl, inr}
use Rattle.std.proofs.lemmas.Bool.{cases_lt}
use Rattle.std.proofs.Math.Nat.{mul-le-mul_left}
use Rattle.rina_law.specs.declared.entry.Entry.{Entry}
use Rattle.rina_law.specs.Constants.{Constants}
use Rattle.rina_law.specs.Direction.{Direction, entry, place_of, start_of}
use Rattle.rina_law.specs.DirectionHolds.{DirectionHolds, IsClosed, RunHolds, bytes_of, part_at}
use Rattle.rina_law.specs.Sender.{Member}
use Rattle.rina_law.proofs.Cuts.{place_within}
use Rattle.rina_law.proofs.Runs.{bytes_begins, bytes_on, start_begins, start_le, start_on}
use Rattle.rina_dif_law.specs.Caused.{IsNumberOf}

-- Products and sums

times_none : (a b : ℕ) → b ≡ 0 → a * b ≡ 0
times_none a b is = omega (arith, ap (λ (x : ℕ). a * x) is)

times_more : (a b d : ℕ) → b ≡ d + 1 → a * b ≡ a * d + a
times_more a b d is = omega (arith, ap (λ (x : ℕ). a * x) is)

below_all : (a b some all : ℕ) → a ≤ b → b + some ≡ all → 1 ≤ some → a < all
below_all a b some all le is least = omega (arith, le, is, least)

-- The pieces of an SDU

-- so many bytes of its SDU stand before a piece
bytes_before : (c : Constants) (run : List Member) → RunHolds c run → (n : ℕ) → n < length run → (k : ℕ) → start_of run n + k ≡ n → c.piece * k + length (part_at run n).body ≡ length (bytes_of run n)
bytes_before c run h zero lt k is = (let all = times_none c.piece k (omega (arith, is)) in omega (arith, all))
bytes_before c run h (suc n) lt k is = go (bytes_before c run h n (omega (arith, lt))) (part_at run (suc n)).begins refl
  where
    go : ((j : ℕ) → start_of run n + j ≡ n → c.piece * j + length (part_at run n).body ≡ length (bytes_of run n)) → (b : Bool) → (part_at run (suc n)).begins ≡ b → c.piece * k + length (part_at run (suc n)).body ≡ length (bytes_of run (suc n))
    go before true e =
        let start : start_of run (suc n) ≡ suc n = start_begins run (suc n) e in
        let all = times_none c.piece k (omega (arith, is, start)) in
        let bytes : length (bytes_of run (suc n)) ≡ length (part_at run (suc n)).body = ap (λ (xs : List ℕ). length xs) (bytes_begins run (suc n) e) in
        omega (arith, all, bytes)
    go before false e =
        let start : start_of run (suc n) ≡ start_of run n = start_on run n e in
        let low = start_le run n in
        let place : start_of run n + (k - 1) ≡ n = omega (arith, is, start, low) in
        let one : k ≡ (k - 1) + 1 = omega (arith, is, start, low) in
        let rest = before (k - 1) place in
        let open_ : (part_at run n).ends ≡ false = sym (h.goes_on n lt) ∙ e in
        let full = (h.sized n (omega (arith, lt))).full open_ in
        let bytes : length (bytes_of run (suc n)) ≡ length (bytes_of run n) + length (part_at run (suc n)).body = ap (λ (xs : List ℕ). length xs) (bytes_on run n e) ∙ length-append (bytes_of run n) (part_at run (suc n)).body in
        let more = times_more c.piece k (k - 1) one in
        omega (arith, rest, full, bytes, more)

place_on : (run : List Member) (base n : ℕ) → (part_at run (suc n)).begins ≡ false → place_of run base (suc n) ≡ place_of run base n
place_on run base n on = rw on refl

-- the last piece of the SDU of a number
record IsLastOf (run : List Member) (base n m : ℕ) : Type 0 where
  after : n ≤ m
  within : m < length run
  ends : (part_at run m).ends ≡ true
  start : start_of run m ≡ start_of run n
  place : place_of run base m ≡ place_of run base n

last_of : (c : Constants) (run : List Member) (base : ℕ) → RunHolds c run → IsClosed run → (steps n : ℕ) → n + suc steps ≡ length run → (m : ℕ) × IsLastOf run base n m
last_of c run base h closed zero n is = (n, record { after = omega arith; within = omega (arith, is); ends = closed n (omega (arith, is)); start = refl; place = refl })
last_of c run base h closed (suc steps) n is = go (last_of c run base h closed steps (suc n) (omega (arith, is))) (part_at run n).ends refl
  where
    go : (m : ℕ) × IsLastOf run base (suc n) m → (b : Bool) → (part_at run n).ends ≡ b → (m : ℕ) × IsLastOf run base n m
    go l true e = (n, record { after = omega arith; within = omega (arith, is); ends = e; start = refl; place = refl })
    go l false e =
        let on : (part_at run (suc n)).begins ≡ false = h.goes_on n (omega (arith, is)) ∙ e in
        let after = l.1.after in (
          l.0,
          record {
            after = omega (arith, after);
            within = l.1.within;
            ends = l.1.ends;
            start = l.1.start ∙ start_on run n on;
            place = l.1.place ∙ place_on run base n on;
          },
        )

-- a piece that is not the first begins within the bytes
begins_within : (c : Constants) (run : List Member) (base : ℕ) → RunHolds c run → (n m : ℕ) → IsLastOf run base n m → start_of run n < n → c.piece * (n - start_of run n) < length (bytes_of run m)
begins_within c run base h n m l lt =
    let after = l.after in
    let start = l.start in
    let k : ℕ = m - start_of run n in
    let at : start_of run m + k ≡ m = omega (arith, after, start, lt) in
    let all = bytes_before c run h m l.within k at in
    let first : (part_at run m).begins ≡ true → ⊥ = λ b. (let is = start_begins run m b in omega (arith, is, start, lt, after)) in
    let some = (h.sized m l.within).some (not_begins (part_at run m).begins first) l.ends in
    let before : n - start_of run n ≤ k = omega (arith, after) in
    below_all (c.piece * (n - start_of run n)) (c.piece * k) (length (part_at run m).body) (length (bytes_of run m)) (mul-le-mul_left c.piece before) all some
  where
    not_begins : (b : Bool) → (b ≡ true → ⊥) → b ≡ false
    not_begins true never = absurd (never refl)
    not_begins false never = refl

-- so the number is that of a piece of its entry
pub number_of : (c : Constants) (d : Direction) (n : ℕ) → DirectionHolds c d → n < length d.line.sender.run → IsNumberOf c.piece (entry d.sent (place_of d.line.sender.run d.base n)) (record { cep = c.cep; seq = n })
number_of c d n h lt =
    let k = h.core in
    let run = d.line.sender.run in
    let base = d.base in
    let sdu : Entry = entry d.sent (place_of run base n) in
    let low = start_le run n in
    let seq : sdu.num.seq ≡ start_of run n = k.sent.num n lt in
    let stands = place_within c run base d.sent k.sent n lt in
    record {
      cep = sym (k.sent.cep (place_of run base n) stands);
      from = omega (arith, low, seq);
      within = elim (cases_lt (start_of run n) n) [
        | inl later ↦
            (let l = last_of c run base k.run h.closed (length run - n - 1) n (omega (arith, lt)) in
            let bytes : sdu.bytes ≡ bytes_of run l.0 = ap (λ (i : ℕ). (entry d.sent i).bytes) (sym l.1.place) ∙ k.sent.bytes l.0 l.1.within l.1.ends in
            let at = begins_within c run base k.run n l.0 l.1 later in
            inr (subst (λ (s : ℕ). c.piece * (n - s) < length sdu.bytes) (sym seq) (subst (λ (xs : List ℕ). c.piece * (n - start_of run n) < length xs) (sym bytes) at)))
        | inr first ↦ inl (omega (arith, first, low, seq))
      ];
    }
