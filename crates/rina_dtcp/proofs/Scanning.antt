-- A search of the run is a search of what is kept of it.
use Rattle.std.proofs.Common.{◌≡◌, ℕ, zero, suc, ◌+◌, ◌-◌, ◌*◌, ◌≤◌, Bool, true, false, cond, ◌&&◌, leb, nat_le, List, [], ◌∷◌, drop, Option, Some, None, refl, sym, ◌∙◌, ap, arith, inl, inr, if◌then◌else◌, option_map, position}
use Rattle.std.specs.List.{position_from}
use Rattle.std.proofs.lemmas.Bool.{cases_lt, le-leb, lt-leb}
use Rattle.std.proofs.lemmas.Iterator.Adapters.{position_from-zero}
use Rattle.rina_base.specs.declared.pdu.Pdu.{Pdu}
use Rattle.rina_law.specs.Constants.{Constants}
use Rattle.rina_law.specs.Receiver.{Piece}
use Rattle.rina_law.specs.Sender.{Member, due_from, late_from}
use Rattle.rina_dtcp.specs.declared.sent.Sent.{Sent}
use Rattle.rina_dtcp.specs.Sents.{is_due, is_late}
use Rattle.rina_dtcp.specs.Rows.{sent_of, sent_from}

-- the least number from `acked` on whose member passes a test
scan : (Member → Bool) → ℕ → ℕ → List Member → Option ℕ
scan test acked n [] = None
scan test acked n (m ∷ ms) = if nat_le acked n && test m then Some n else scan test acked (n + 1) ms

scan_all : (carry : Piece → Pdu) (test : Member → Bool) (kept : Sent → Bool) → ((n : ℕ) (m : Member) → kept (sent_of carry n m) ≡ test m) → (acked n k : ℕ) (ms : List Member) → acked ≤ n → scan test acked n ms ≡ position_from kept n (sent_from carry k ms)
unfolding scan
scan_all carry test kept same acked n k [] h = refl
scan_all carry test kept same acked n k (m ∷ ms) h = (let t : leb acked n ≡ true = le-leb acked n h in let ih = scan_all carry test kept same acked (n + 1) (k + 1) ms (omega arith) in let e = same k m in rw (t, e, ih) refl)

scan_skips : (carry : Piece → Pdu) (test : Member → Bool) (kept : Sent → Bool) → ((n : ℕ) (m : Member) → kept (sent_of carry n m) ≡ test m) → (acked n k : ℕ) (ms : List Member) → n ≤ acked → scan test acked n ms ≡ position_from kept acked (sent_from carry k (drop (acked - n) ms))
unfolding scan
scan_skips carry test kept same acked n k [] h = go (acked - n)
  where
    go : (d : ℕ) → None ≡ position_from kept acked (sent_from carry k (drop d []))
    go zero = refl
    go (suc d) = refl
scan_skips carry test kept same acked n k (m ∷ ms) h = elim (cases_lt n acked) [
  | inl lt ↦
      (let f : leb acked n ≡ false = lt-leb acked n lt in
      let ih = scan_skips carry test kept same acked (n + 1) k ms (omega arith) in
      let is : acked - n ≡ suc (acked - (n + 1)) = omega arith in
      rw (f, is) ih)
  | inr ge ↦
      (let is : acked - n ≡ zero = omega arith in
      let one : acked ≡ n = omega arith in
      let a = scan_all carry test kept same acked n k (m ∷ ms) (omega arith) in
      a ∙ rw is (ap (λ x. position_from kept x (sent_from carry k (m ∷ ms))) (sym one)))
]

shifted : (kept : Sent → Bool) (a n k : ℕ) (xs : List Sent) → k ≡ a + n → position_from kept k xs ≡ option_map (λ i. a + i) (position_from kept n xs)
shifted kept a n k [] e = refl
shifted kept a n k (x ∷ xs) e = go (kept x) (shifted kept a (n + 1) (k + 1) xs (omega arith))
  where
    go : (b : Bool) → position_from kept (k + 1) xs ≡ option_map (λ i. a + i) (position_from kept (n + 1) xs) → cond b (Some k) (position_from kept (k + 1) xs) ≡ option_map (λ i. a + i) (cond b (Some n) (position_from kept (n + 1) xs))
    go true f = ap Some e
    go false f = f

scan_place : (carry : Piece → Pdu) (test : Member → Bool) (kept : Sent → Bool) → ((n : ℕ) (m : Member) → kept (sent_of carry n m) ≡ test m) → (acked : ℕ) (run : List Member) → scan test acked 0 run ≡ option_map (λ i. acked + i) (position kept (sent_from carry acked (drop acked run)))
scan_place carry test kept same acked run =
    let all : acked - 0 ≡ acked = omega arith in
    let skips : scan test acked 0 run ≡ position_from kept acked (sent_from carry acked (drop acked run)) = rw all at (scan_skips carry test kept same acked 0 acked run (omega arith)) in
    skips ∙ shifted kept acked 0 acked (sent_from carry acked (drop acked run)) (omega arith) ∙ ap (option_map (λ i. acked + i)) (sym (position_from-zero kept (sent_from carry acked (drop acked run))))

due_scan : (c : Constants) (now acked n : ℕ) (ms : List Member) → due_from c now acked n ms ≡ scan (λ m. nat_le (m.last + c.cube.retry) now && nat_le now (m.first + c.cube.r)) acked n ms
unfolding scan
due_scan c now acked n [] = refl
due_scan c now acked n (m ∷ ms) = (let ih = due_scan c now acked (n + 1) ms in rw ih refl)

late_scan : (c : Constants) (now acked n : ℕ) (ms : List Member) → late_from c now acked n ms ≡ scan (λ m. nat_le (m.first + c.cube.r + c.cube.a + 2 * c.cube.mpl) now) acked n ms
unfolding scan
late_scan c now acked n [] = refl
late_scan c now acked n (m ∷ ms) = (let ih = late_scan c now acked (n + 1) ms in rw ih refl)

pub due_place : (carry : Piece → Pdu) (c : Constants) (now acked : ℕ) (run : List Member) → due_from c now acked 0 run ≡ option_map (λ i. acked + i) (position (is_due c.cube now) (sent_from carry acked (drop acked run)))
unfolding is_due
due_place carry c now acked run = due_scan c now acked 0 run ∙ scan_place carry (λ m. nat_le (m.last + c.cube.retry) now && nat_le now (m.first + c.cube.r)) (is_due c.cube now) (λ n m. refl) acked run

pub late_place : (carry : Piece → Pdu) (c : Constants) (now acked : ℕ) (run : List Member) → late_from c now acked 0 run ≡ option_map (λ i. acked + i) (position (is_late c.cube now) (sent_from carry acked (drop acked run)))
unfolding is_late
late_place carry c now acked run = late_scan c now acked 0 run ∙ scan_place carry (λ m. nat_le (m.first + c.cube.r + c.cube.a + 2 * c.cube.mpl) now) (is_late c.cube now) (λ n m. refl) acked run
