-- The number that is due may be sent again, and the one that is given up is late.
use Rattle.std.proofs.Common.{◌≡◌, ℕ, suc, ◌+◌, ◌*◌, ◌<◌, ◌≤◌, List, [], ◌∷◌, length, Bool, true, false, cond, ◌&&◌, leb, refl, arith, Option, Some}
use Rattle.std.proofs.lemmas.Bool.{and_parts, leb-true}
use Rattle.rina_cube.specs.declared.Kind.{Kind}
use Rattle.rina_cube.specs.declared.Kind.TheVariants.{Datagram, Loose, Reliable}
use Rattle.rina_law.specs.Constants.{Constants}
use Rattle.rina_law.specs.Line.{Line, MayResend}
use Rattle.rina_law.specs.Sender.{Member, Sender, member, due_from, late_from, if_reliable, again_due, given_up}

record IsDueAt (c : Constants) (now acked n k : ℕ) (ms : List Member) (j : ℕ) : Type 0 where
  pub is : k ≡ n + j
  pub within : j < length ms
  pub unacked : acked ≤ k
  pub due : (member ms j).last + c.cube.retry ≤ now
  pub young : now ≤ (member ms j).first + c.cube.r

due_at : (c : Constants) (now acked n k : ℕ) (ms : List Member) → due_from c now acked n ms ≡ Some k → (j : ℕ) × IsDueAt c now acked n k ms j
due_at c now acked n k [] e = cc
due_at c now acked n k (m ∷ ms) e = go (leb acked n && (leb (m.last + c.cube.retry) now && leb now (m.first + c.cube.r))) refl (due_at c now acked (n + 1) k ms) e
  where
    go : (b : Bool) → (leb acked n && (leb (m.last + c.cube.retry) now && leb now (m.first + c.cube.r))) ≡ b → (due_from c now acked (n + 1) ms ≡ Some k → (j : ℕ) × IsDueAt c now acked (n + 1) k ms j) → cond b (Some n) (due_from c now acked (n + 1) ms) ≡ Some k → (j : ℕ) × IsDueAt c now acked n k (m ∷ ms) j
    go true t f h =
        (let p = and_parts (leb acked n) _ t in
        let q = and_parts (leb (m.last + c.cube.retry) now) (leb now (m.first + c.cube.r)) p.1 in
        let low = leb-true acked n p.0 in
        let same : n ≡ k = cc in
        (0, record { is = omega arith; within = omega arith; unacked = omega arith; due = leb-true (m.last + c.cube.retry) now q.0; young = leb-true now (m.first + c.cube.r) q.1 }))
    go false t f h =
        (let (j, x) = f h in
        let is = x.is in
        let within = x.within in
        (suc j, record { is = omega arith; within = omega arith; unacked = x.unacked; due = x.due; young = x.young }))

on_kind : (kind : Kind) (o : Option ℕ) (n : ℕ) → if_reliable kind o ≡ Some n → (kind ≡ Reliable) × (o ≡ Some n)
on_kind Datagram o n e = cc
on_kind Loose o n e = cc
on_kind Reliable o n e = (refl, e)

pub due_again : (c : Constants) (line : Line) (n : ℕ) → again_due c line.clock line.sender ≡ Some n → MayResend c line n
due_again c line n e =
    let k = on_kind c.cube.kind (due_from c line.clock line.sender.acked 0 line.sender.run) n e in
    let (j, x) = due_at c line.clock line.sender.acked 0 n line.sender.run k.1 in
    let is : n ≡ j = (let y = x.is in omega arith) in
    rw is (record { reliable = k.0; within = x.within; young = x.young })

record IsLateAt (c : Constants) (now acked n k : ℕ) (ms : List Member) (j : ℕ) : Type 0 where
  pub is : k ≡ n + j
  pub within : j < length ms
  pub unacked : acked ≤ k
  pub late : (member ms j).first + c.cube.r + c.cube.a + 2 * c.cube.mpl ≤ now

late_at : (c : Constants) (now acked n k : ℕ) (ms : List Member) → late_from c now acked n ms ≡ Some k → (j : ℕ) × IsLateAt c now acked n k ms j
late_at c now acked n k [] e = cc
late_at c now acked n k (m ∷ ms) e = go (leb acked n && leb (m.first + c.cube.r + c.cube.a + 2 * c.cube.mpl) now) refl (late_at c now acked (n + 1) k ms) e
  where
    go : (b : Bool) → (leb acked n && leb (m.first + c.cube.r + c.cube.a + 2 * c.cube.mpl) now) ≡ b → (late_from c now acked (n + 1) ms ≡ Some k → (j : ℕ) × IsLateAt c now acked (n + 1) k ms j) → cond b (Some n) (late_from c now acked (n + 1) ms) ≡ Some k → (j : ℕ) × IsLateAt c now acked n k (m ∷ ms) j
    go true t f h =
        (let p = and_parts (leb acked n) _ t in
        let low = leb-true acked n p.0 in
        let same : n ≡ k = cc in
        (0, record { is = omega arith; within = omega arith; unacked = omega arith; late = leb-true (m.first + c.cube.r + c.cube.a + 2 * c.cube.mpl) now p.1 }))
    go false t f h =
        (let (j, x) = f h in
        let is = x.is in
        let within = x.within in
        (suc j, record { is = omega arith; within = omega arith; unacked = x.unacked; late = x.late }))

-- what is known of a number that is given up
pub record IsLate (c : Constants) (now : ℕ) (tx : Sender) (n : ℕ) : Type 0 where
  pub reliable : c.cube.kind ≡ Reliable
  pub within : n < length tx.run
  pub unacked : tx.acked ≤ n
  pub late : (member tx.run n).first + c.cube.r + c.cube.a + 2 * c.cube.mpl ≤ now

pub late_given_up : (c : Constants) (now : ℕ) (tx : Sender) (n : ℕ) → given_up c now tx ≡ Some n → IsLate c now tx n
late_given_up c now tx n e =
    let k = on_kind c.cube.kind (late_from c now tx.acked 0 tx.run) n e in
    let (j, x) = late_at c now tx.acked 0 n tx.run k.1 in
    let is : n ≡ j = (let y = x.is in omega arith) in
    rw is (record { reliable = k.0; within = x.within; unacked = rw is at x.unacked; late = x.late })
