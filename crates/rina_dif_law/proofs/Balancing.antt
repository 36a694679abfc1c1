-- How the account of an IPC process goes on, by what a call adds to each count.
use Rattle.std.proofs.Common.{◌≡◌, ◌≢◌, ℕ, ◌+◌, ◌≤◌, List, length, slice_get, Some, arith}
use Rattle.rina_account.specs.Account.{Counts}
use Rattle.rina_base.specs.declared.number.Key.{Key}
use Rattle.rina_base.specs.declared.number.Port.{Port}
use Rattle.rina_base.specs.declared.pdu.PduKind.TheVariants.{Piece, Ack}
use Rattle.rina_iface.specs.declared.ends.End.{End}
use Rattle.rina_iface.specs.Seen.{Seen, end_of}
use Rattle.rina_law.specs.Direction.{Direction}
use Rattle.rina_dif_law.specs.Accounted.{IsAccounted, IsBalanced, Resends, counts_of}
use Rattle.rina_dif_law.specs.Cloud.{IsMine}
use Rattle.rina_dif_law.specs.Dif.{DifSeen, IsProcess}
use Rattle.rina_data.specs.Configs.{Member}
use Rattle.rina_data.specs.Process.{Process}
use Rattle.rina_dif_law.specs.Ids.{Ids}

-- what is out, waits, or was written off
abbrev pub gone : Counts → ℕ
gone n = n.sent + n.queued + n.off

-- what came to be of a key balances
pub record IsMoved (addr : ℕ) (k : Key) (resends : Type 0) (n n' : Counts) : Type 0 where
  pub foreign : k.kind ≡ Piece → k.src ≢ addr → n'.taken + (gone n + n.kept) ≡ n.taken + (gone n' + n'.kept)
  pub own : k.kind ≡ Piece → k.src ≡ addr → (n'.made + n'.taken) + gone n ≤ (n.made + n.taken) + gone n'
  pub once : k.kind ≡ Piece → k.src ≡ addr → (resends → ⊥) → (n'.made + n'.taken) + gone n ≡ (n.made + n.taken) + gone n'
  pub relayed : k.kind ≡ Ack → k.src ≢ addr → n'.relayed + gone n ≤ n.relayed + gone n'
  pub bounded : k.kind ≡ Ack → k.src ≢ addr → gone n' + n.taken ≤ gone n + n'.taken
  pub own_ack : k.kind ≡ Ack → k.src ≡ addr → n'.taken + gone n ≤ n.taken + gone n'

pub balanced_moved : (addr : ℕ) (k : Key) (r r' : Type 0) (n n' : Counts) → IsBalanced addr k r n → (r → r') → IsMoved addr k r' n n' → IsBalanced addr k r' n'
balanced_moved addr k r r' n n' b more m = record {
  foreign = λ kind src scep. (let x = b.foreign kind src scep in let y = m.foreign kind src in omega arith);
  own = λ kind src. (let x = b.own kind src in let y = m.own kind src in omega arith);
  once = λ kind src none. (let x = b.once kind src (λ h. none (more h)) in let y = m.once kind src none in omega arith);
  foreign_ack = λ kind src scep. (
      let x = b.foreign_ack kind src scep in
      let y = m.relayed kind src in
      let z = m.bounded kind src in
      let x0 = x.0 in
      let x1 = x.1 in
      ((omega arith), (omega arith)));
  own_ack = λ kind src. (let x = b.own_ack kind src in let y = m.own_ack kind src in omega arith);
}

-- what the counts of an IPC process were before
pub record IsBefore (d d' : DifSeen) (lines lines' : List Direction) (below below' : Seen) (i : ℕ) (m : Member) (p' : Process) (k : Key) : Type 0 where
  pub process : Process
  pub is_process : IsProcess d i m process
  pub resends : Resends d m.addr k.scep → Resends d' m.addr k.scep
  pub moved : IsMoved m.addr k (Resends d' m.addr k.scep) (counts_of d lines below m process k) (counts_of d' lines' below' m p' k)

-- the account of a DIF goes on where that of each IPC process does
pub accounted_on : (d d' : DifSeen) (lines lines' : List Direction) (below below' : Seen) → IsAccounted d lines below
    → ((port : Port) (e : End) → end_of below' port ≡ Some e → IsMine d'.config.members e.app → e.taken ≤ length e.got)
    → ((i : ℕ) (ids : Ids) → slice_get d'.conns i ≡ Some ids → ids.own ≢ ids.far)
    → ((i : ℕ) (m : Member) (p' : Process) (k : Key) → IsProcess d' i m p' → IsBefore d d' lines lines' below below' i m p' k)
    → IsAccounted d' lines' below'
accounted_on d d' lines lines' below below' a passed apart each = record {
  passed = passed;
  apart = apart;
  balanced = λ i m p' k is.
      let b = each i m p' k is in
      balanced_moved m.addr k (Resends d m.addr k.scep) (Resends d' m.addr k.scep) (counts_of d lines below m b.process k) (counts_of d' lines' below' m p' k) (a.balanced i m b.process k b.is_process) b.resends b.moved;
}

-- counts that are the same
pub record AreSame (n n' : Counts) : Type 0 where
  pub taken : n'.taken ≡ n.taken
  pub relayed : n'.relayed ≡ n.relayed
  pub gone : gone n' ≡ gone n
  pub made : n'.made ≡ n.made
  pub kept : n'.kept ≡ n.kept

pub moved_same : (addr : ℕ) (k : Key) (resends : Type 0) (n n' : Counts) → AreSame n n' → IsMoved addr k resends n n'
moved_same addr k resends n n' s =
    let a = s.taken in
    let b = s.relayed in
    let c = s.gone in
    let d = s.made in
    let e = s.kept in
    record {
      foreign = λ kind src. omega arith;
      own = λ kind src. omega arith;
      once = λ kind src none. omega arith;
      relayed = λ kind src. omega arith;
      bounded = λ kind src. omega arith;
      own_ack = λ kind src. omega arith;
    }

-- a PDU that came in is out, waits, or was written off. Of `came` that came, `on` are for another address
pub moved_in : (addr : ℕ) (k : Key) (resends : Type 0) (n n' : Counts) (came on : ℕ) → on ≤ came → n'.taken ≡ n.taken + came → n'.relayed ≡ n.relayed + on → gone n' ≡ gone n + came → n'.made ≡ n.made → n'.kept ≡ n.kept → IsMoved addr k resends n n'
moved_in addr k resends n n' came on le a b c d e = record {
  foreign = λ kind src. omega arith;
  own = λ kind src. omega arith;
  once = λ kind src none. omega arith;
  relayed = λ kind src. omega arith;
  bounded = λ kind src. omega arith;
  own_ack = λ kind src. omega arith;
}
