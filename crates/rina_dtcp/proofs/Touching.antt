-- A piece that is marked as made again.
use Rattle.std.proofs.Common.{◌≡◌, ℕ, zero, suc, ◌+◌, ◌<◌, List, [], ◌∷◌, length, drop, Some, refl, ap, arith, slice_set, slice_index_or, slice_get, get_or}
use Rattle.rina_base.specs.declared.pdu.Pdu.{Pdu}
use Rattle.rina_law.specs.Receiver.{Piece}
use Rattle.rina_law.specs.Sender.{Member, no_member, resent}
use Rattle.rina_dtcp.specs.declared.sent.Sent.{Sent}
use Rattle.rina_dtcp.specs.Sents.{touched}
use Rattle.rina_dtcp.specs.Rows.{sent_of, sent_from}

pub touched_set : (xs : List Sent) (i now : ℕ) (s : Sent) → i < length xs → s ≡ slice_index_or xs i s → slice_set xs i (record { first = s.first; last = now; pdu = s.pdu }) ≡ touched i now xs
touched_set [] i now s h e = absurd (omega arith)
touched_set (x ∷ xs) zero now s h e = rw e refl
touched_set (x ∷ xs) (suc i) now s h e = ap (λ ys. x ∷ ys) (touched_set xs i now s (omega arith) e)

pub length-touched : (xs : List Sent) (i now : ℕ) → length (touched i now xs) ≡ length xs
length-touched [] i now = refl
length-touched (x ∷ xs) zero now = refl
length-touched (x ∷ xs) (suc i) now = ap suc (length-touched xs i now)

-- the piece of a number, as a member has it
abbrev piece_of : ℕ → Member → Piece
piece_of n m = record { number = n; drf = m.drf; part = m.part }

-- its PDU is the one with which it was made first
pub touched_pdu : (carry : Piece → Pdu) (i now n k : ℕ) (ms : List Member) (s : Sent) → k ≡ n + i → slice_get (touched i now (sent_from carry n ms)) i ≡ Some s → s.pdu ≡ carry (record { number = k; drf = (get_or ms i no_member).drf; part = (get_or ms i no_member).part })
touched_pdu carry i now n k [] s e h = cc
touched_pdu carry zero now n k (m ∷ ms) s e h = (let is : k ≡ n = omega arith in rw is (cc))
touched_pdu carry (suc i) now n k (m ∷ ms) s e h = touched_pdu carry i now (n + 1) k ms s (omega arith) h

-- marking leaves the PDU of a piece
pub touched_same : (xs : List Sent) (i now : ℕ) (s : Sent) → slice_get xs i ≡ Some s → slice_get (touched i now xs) i ≡ Some (record { first = s.first; last = now; pdu = s.pdu })
touched_same [] i now s e = cc
touched_same (x ∷ xs) zero now s e = (let is : x ≡ s = cc in rw is refl)
touched_same (x ∷ xs) (suc i) now s e = touched_same xs i now s e

pub sent_pdu : (carry : Piece → Pdu) (i n k : ℕ) (ms : List Member) (s : Sent) → k ≡ n + i → slice_get (sent_from carry n ms) i ≡ Some s → (s.pdu ≡ carry (record { number = k; drf = (get_or ms i no_member).drf; part = (get_or ms i no_member).part })) × (s.first ≡ (get_or ms i no_member).first)
sent_pdu carry i n k [] s e h = cc
sent_pdu carry zero n k (m ∷ ms) s e h = (let is : k ≡ n = omega arith in rw is (cc, cc))
sent_pdu carry (suc i) n k (m ∷ ms) s e h = sent_pdu carry i (n + 1) k ms s (omega arith) h

-- marking it is the machine's marking
pub touched_resent : (carry : Piece → Pdu) (i now k a n : ℕ) (run : List Member) → n ≡ a + i → touched i now (sent_from carry k (drop a run)) ≡ sent_from carry k (drop a (resent n now run))
touched_resent carry zero now k zero n [] e = refl
touched_resent carry (suc i) now k zero n [] e = refl
touched_resent carry zero now k zero n (m ∷ run) e = (let is : n ≡ zero = omega arith in rw is refl)
touched_resent carry (suc i) now k zero n (m ∷ run) e = (let is : n ≡ suc i = omega arith in rw is (ap (λ xs. sent_of carry k m ∷ xs) (touched_resent carry i now (k + 1) zero i run (omega arith))))
touched_resent carry zero now k (suc a) n [] e = refl
touched_resent carry (suc i) now k (suc a) n [] e = refl
touched_resent carry i now k (suc a) n (m ∷ run) e = (let is : n ≡ suc (a + i) = omega arith in rw is (touched_resent carry i now k a (a + i) run refl))
