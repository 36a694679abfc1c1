-- Each number of a run is a piece of the entry at its place.
use Rattle.std.proofs.Common.{◌≡◌, ℕ, zero, suc, ◌+◌, ◌-◌, ◌<◌, ◌≤◌, List, [], ◌∷◌, ◌++◌, length, Bool, true, false, cond, refl, sym, ◌∙◌, ap, subst, arith, inl, inr, Some, slice_get, append_assoc}
use Rattle.std.proofs.lemmas.Bool.{cases_lt}
use Rattle.std.proofs.lemmas.List.{append-nil}
use Rattle.std.proofs.lemmas.Option.{slice_get-get_or}
use Rattle.rina_law.specs.declared.entry.Entry.{Entry}
use Rattle.rina_law.specs.Constants.{Constants}
use Rattle.rina_law.specs.Direction.{place_of, start_of, no_entry, entry, Direction}
use Rattle.rina_law.specs.DirectionHolds.{part_at, bytes_of, RunHolds, IsClosed, SentHolds, DirectionHolds}
use Rattle.rina_law.specs.Lawful.{IsPieceOf, IsSentPiece}
use Rattle.rina_law.specs.Line.{InFlight}
use Rattle.rina_law.specs.LineHolds.{IsOfRun}
use Rattle.rina_law.specs.Pieces.{Part, IsCut, join}
use Rattle.rina_law.specs.Receiver.{Piece}
use Rattle.rina_law.specs.Sender.{Member}
use Rattle.rina_law.proofs.Runs.{place_le, place_base, place_start, bytes_begins, bytes_on, start_le}

-- the parts of the run from the number k on, up to the one that ends its SDU, among so many
abbrev pub parts_on : List Member → ℕ → ℕ → List Part
parts_on run zero k = []
parts_on run (suc steps) k = part_at run k ∷ cond (part_at run k).ends [] (parts_on run steps (suc k))

-- they are a cut
cut_on : (c : Constants) (run : List Member) → RunHolds c run → IsClosed run → (steps k : ℕ) → k + suc steps ≡ length run → IsCut c.piece (part_at run k).begins (parts_on run (suc steps) k)
cut_on c run h closed zero k is =
    let end : (part_at run k).ends ≡ true = closed k (omega arith) in
    let sized = h.sized k (omega arith) in
    let P : Bool → Type 0 = λ b. IsCut c.piece (part_at run k).begins (part_at run k ∷ cond b [] (parts_on run zero (suc k))) in
    subst P (sym end) (refl, end, sized)
cut_on c run h closed (suc steps) k is = go (part_at run k).ends refl (cut_on c run h closed steps (suc k) (omega arith))
  where
    go : (b : Bool) → (part_at run k).ends ≡ b → IsCut c.piece (part_at run (suc k)).begins (parts_on run (suc steps) (suc k)) → IsCut c.piece (part_at run k).begins (part_at run k ∷ cond b [] (parts_on run (suc steps) (suc k)))
    go true e rest = (refl, e, h.sized k (omega arith))
    go false e rest =
        let on : (part_at run (suc k)).begins ≡ false = h.goes_on k (omega arith) ∙ e in
        let P : Bool → Type 0 = λ b. IsCut c.piece b (parts_on run (suc steps) (suc k)) in
        (refl, e, h.sized k (omega arith), subst P on rest)

-- their bytes, behind those up to k, are the entry's
joins_on : (c : Constants) (run : List Member) (base : ℕ) (sent : List Entry) → RunHolds c run → IsClosed run → SentHolds c run base sent → (steps k : ℕ) → k + suc steps ≡ length run → bytes_of run k ++ join (cond (part_at run k).ends [] (parts_on run steps (suc k))) ≡ (entry sent (place_of run base k)).bytes
joins_on c run base sent h closed source zero k is =
    let end : (part_at run k).ends ≡ true = closed k (omega arith) in
    let P : Bool → Type 0 = λ b. bytes_of run k ++ join (cond b [] (parts_on run zero (suc k))) ≡ (entry sent (place_of run base k)).bytes in
    subst P (sym end) (append-nil (bytes_of run k) ∙ sym (source.bytes k (omega arith) end))
joins_on c run base sent h closed source (suc steps) k is = go (part_at run k).ends refl (joins_on c run base sent h closed source steps (suc k) (omega arith))
  where
    go : (b : Bool) → (part_at run k).ends ≡ b → bytes_of run (suc k) ++ join (cond (part_at run (suc k)).ends [] (parts_on run steps (suc (suc k)))) ≡ (entry sent (place_of run base (suc k))).bytes → bytes_of run k ++ join (cond b [] (parts_on run (suc steps) (suc k))) ≡ (entry sent (place_of run base k)).bytes
    go true e rest = append-nil (bytes_of run k) ∙ sym (source.bytes k (omega arith) e)
    go false e rest =
        let on : (part_at run (suc k)).begins ≡ false = h.goes_on k (omega arith) ∙ e in
        let tail = join (cond (part_at run (suc k)).ends [] (parts_on run steps (suc (suc k)))) in
        let place : place_of run base (suc k) ≡ place_of run base k = rw on refl in
        sym (append_assoc (bytes_of run k) (part_at run (suc k)).body tail) ∙ ap (λ xs. xs ++ tail) (sym (bytes_on run k on)) ∙ rest ∙ ap (λ j. (entry sent j).bytes) place

-- the one that stands so far from k, where none before it ends the SDU
part_on : (run : List Member) (j steps k : ℕ) → j < steps → ((i : ℕ) → k ≤ i → i < k + j → (part_at run i).ends ≡ false) → slice_get (parts_on run steps k) j ≡ Some (part_at run (k + j))
part_on run j zero k lt open_ = absurd (omega arith)
part_on run zero (suc steps) k lt open_ = (let is : k ≡ k + zero = omega arith in ap (λ i. Some (part_at run i)) is)
part_on run (suc j) (suc steps) k lt open_ =
    let rest = part_on run j steps (suc k) (omega arith) (λ i low high. open_ i (omega arith) (omega arith)) in
    let is : suc k + j ≡ k + suc j = omega arith in
    let P : Bool → Type 0 = λ b. slice_get (cond b [] (parts_on run steps (suc k))) j ≡ Some (part_at run (k + suc j)) in
    subst P (sym (open_ k (omega arith) (omega arith))) (rest ∙ ap (λ i. Some (part_at run i)) is)

-- from its first number to the last but n, no part ends an SDU

first_begins : (c : Constants) (run : List Member) → RunHolds c run → (n : ℕ) → n < length run → (part_at run (start_of run n)).begins ≡ true
first_begins c run h zero lt = h.begins lt
first_begins c run h (suc n) lt = go (part_at run (suc n)).begins refl (first_begins c run h n (omega arith))
  where
    go : (b : Bool) → (part_at run (suc n)).begins ≡ b → (part_at run (start_of run n)).begins ≡ true → (part_at run (cond b (suc n) (start_of run n))).begins ≡ true
    go true e rest = e
    go false e rest = rest

none_ends : (c : Constants) (run : List Member) → RunHolds c run → (n : ℕ) → n < length run → (i : ℕ) → start_of run n ≤ i → i < n → (part_at run i).ends ≡ false
none_ends c run h zero lt i low high = absurd (omega arith)
none_ends c run h (suc n) lt i low high = go (part_at run (suc n)).begins refl (none_ends c run h n (omega arith) i) low
  where
    go : (b : Bool) → (part_at run (suc n)).begins ≡ b → (start_of run n ≤ i → i < n → (part_at run i).ends ≡ false) → cond b (suc n) (start_of run n) ≤ i → (part_at run i).ends ≡ false
    go true e rest low = absurd (omega arith)
    go false e rest low = elim (cases_lt i n) [
      | inl lt ↦ rest low lt
      | inr ge ↦ (let is : i ≡ n = omega arith in rw is (sym (h.goes_on n lt) ∙ e))
    ]

-- the entry of a number stands in `sent`
pub place_within : (c : Constants) (run : List Member) (base : ℕ) (sent : List Entry) → SentHolds c run base sent → (n : ℕ) → n < length run → place_of run base n < length sent
place_within c run base sent h n lt =
    let last : suc (length run - 1) ≡ length run = omega arith in
    let total = h.size (length run - 1) last in
    let most : place_of run base n ≤ place_of run base (length run - 1) = place_le run base n (length run - 1) (omega arith) in
    omega arith

-- so each number is a piece of its entry
piece_of : (c : Constants) (d : Direction) (p : InFlight Piece) → DirectionHolds c d → IsOfRun c d.line.sender p → IsPieceOf c (entry d.sent (place_of d.line.sender.run d.base p.pdu.number)) p.pdu
piece_of c d p h is =
    let k = h.core in
    let run = d.line.sender.run in
    let n = p.pdu.number in
    let s = start_of run n in
    let le = start_le run n in
    let within = is.within in
    let steps = length run - s - 1 in
    let all : s + suc steps ≡ length run = omega arith in
    let begins = first_begins c run k.run n within in
    let num : (entry d.sent (place_of run d.base n)).num.seq ≡ s = k.sent.num n within in
    let stands = place_within c run d.base d.sent k.sent n within in
    let P : Bool → Type 0 = λ b. IsCut c.piece b (parts_on run (suc steps) s) in
    let body : bytes_of run s ≡ (part_at run s).body = bytes_begins run s begins in
    let tail = join (cond (part_at run s).ends [] (parts_on run steps (suc s))) in
    let far : n - s < suc steps = omega arith in
    let at : s + (n - s) ≡ n = omega arith in
    let found = part_on run (n - s) (suc steps) s far (λ i low high. none_ends c run k.run n within i low (omega arith)) in
    record {
      cep = k.sent.cep (place_of run d.base n) stands;
      parts = parts_on run (suc steps) s;
      cut = subst P begins (cut_on c run k.run h.closed steps s all);
      joins = ap (λ xs. xs ++ tail) (sym body) ∙ joins_on c run d.base d.sent k.run h.closed k.sent steps s all ∙ ap (λ j. (entry d.sent j).bytes) (place_start run d.base n);
      from = omega arith;
      is = ap (λ i. slice_get (parts_on run (suc steps) s) (n - i)) num ∙ found ∙ ap (λ i. Some (part_at run i)) at ∙ ap (λ (z : Part). Some z) (sym is.part);
    }

pub sent_piece : (c : Constants) (d : Direction) (p : InFlight Piece) → DirectionHolds c d → IsOfRun c d.line.sender p → IsSentPiece c d p
sent_piece c d p h is =
    let k = h.core in
    let run = d.line.sender.run in
    let within = is.within in
    let stands = place_within c run d.base d.sent k.sent p.pdu.number within in
    let tick = k.sent.tick p.pdu.number within in
    let death = is.in_time in
    record {
      place = place_of run d.base p.pdu.number;
      source = entry d.sent (place_of run d.base p.pdu.number);
      stands = slice_get-get_or d.sent (place_of run d.base p.pdu.number) no_entry stands;
      present = place_base run d.base p.pdu.number;
      is_piece = piece_of c d p h is;
      in_time = omega arith;
    }
