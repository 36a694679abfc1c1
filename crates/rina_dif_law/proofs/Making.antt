-- The account goes on as an SDU is sent.
use Rattle.std.proofs.Common.{◌≡◌, ◌≢◌, ℕ, ◌+◌, ◌<◌, true, cond, eqb, List, [], ◌∷◌, ◌++◌, length, slice_get, slice_set, Some, Ok, Err, Result, refl, sym, ◌∙◌, ap, subst, arith, inl, inr}
use Rattle.std.specs.Prelude.{sum_by}
use Rattle.std.proofs.lemmas.Bool.Decides.{eqb_tells}
use Rattle.std.proofs.lemmas.List.Sums.{sum_by-cons}
use Rattle.rina_account.specs.Account.{Counts}
use Rattle.rina_base.specs.declared.number.Key.{Key}
use Rattle.rina_base.specs.declared.number.Num.{Num}
use Rattle.rina_base.specs.declared.pdu.PduKind.TheVariants.{Piece as APiece, Ack as AnAck}
use Rattle.rina_base.specs.Pdus.{key_of}
use Rattle.rina_iface.specs.declared.ends.End.{End}
use Rattle.rina_iface.specs.declared.error.SendError.{SendError}
use Rattle.rina_iface.specs.declared.error.SendError.TheVariants as errors
use Rattle.rina_iface.specs.Ends.{with_sent}
use Rattle.rina_iface.specs.Seen.{Seen}
use Rattle.rina_law.specs.declared.entry.Entry.{Entry}
use Rattle.rina_law.specs.Constants.{Constants}
use Rattle.rina_law.specs.Direction.{Direction}
use Rattle.rina_law.specs.Pieces.{IsCut, Part}
use Rattle.rina_law.specs.Receiver.{Piece, numbers}
use Rattle.rina_law.specs.Sender.{started}
use Rattle.rina_queue.specs.declared.queue.Queued.{Queued}
use Rattle.rina_dif_law.specs.Accounted.{IsAccounted, Resends, counts_of, entry_numbers, journal_numbers, made_by, total}
use Rattle.rina_dif_law.specs.Counting.{held_numbers, numbers_from, times}
use Rattle.rina_dif_law.specs.Dif.{DifSeen, constants}
use Rattle.rina_data.specs.Configs.{Member, piece_size}
use Rattle.rina_data.specs.Process.{Process, with_put}
use Rattle.rina_dif_law.specs.Ids.{Ids, pdu_of_piece}
use Rattle.rina_dif_law.specs.Numbered.{IsNumbered}
use Rattle.rina_dif_law.specs.Sending.{IsOffered, Offers, begins, made_items, offered, offered_entry, offered_pieces}
use Rattle.rina_dif_law.specs.Standing.{IsStanding}
use Rattle.rina_dif_law.proofs.Accounting.{home_addr, item_one, one_process, put_more, renewed}
use Rattle.rina_dif_law.proofs.Balancing.{IsMoved, gone}
use Rattle.rina_dif_law.proofs.Carries.{offered_held}
use Rattle.rina_dif_law.proofs.Keys.{one_by_number, one_not, piece_no_ack}
use Rattle.rina_dif_law.proofs.Pieces.{cut_pieces, journal_more, journal_one, pieces_numbers}
use Rattle.rina_dif_law.proofs.Receiving.{member_at, others_addr}
use Rattle.rina_dif_law.proofs.Relaying.{accounted_same}
use Rattle.rina_dif_law.proofs.Tallies.{HoldSame, end_changed, hold_set, kept_same, made_change, made_in, made_not, made_own}

-- the items of an SDU, by the key of one of its pieces

made_of : (k : Key) (ids : Ids) (mpl now : ℕ) (pieces : List Piece) → k.kind ≡ APiece → k.src ≡ ids.own → k.scep ≡ ids.scep → sum_by (item_one k) (made_items ids mpl now pieces) ≡ times k.seq (numbers pieces)
made_of k ids mpl now [] kind src scep = refl
made_of k ids mpl now (p ∷ ps) kind src scep =
    let item : Queued = record { pdu = pdu_of_piece ids p; left = mpl; since = now } in
    let all : sum_by (item_one k) (made_items ids mpl now (p ∷ ps)) ≡ item_one k item + sum_by (item_one k) (made_items ids mpl now ps) = sum_by-cons (item_one k) item (made_items ids mpl now ps) in
    let here : item_one k item ≡ cond (eqb k.seq p.number) 1 0 = one_by_number k (key_of item.pdu) kind src scep in
    let rest = made_of k ids mpl now ps kind src scep in
    all ∙ ap (λ (n : ℕ). n + sum_by (item_one k) (made_items ids mpl now ps)) here ∙ ap (λ (n : ℕ). cond (eqb k.seq p.number) 1 0 + n) rest

-- and by another key
made_none : (k : Key) (ids : Ids) (mpl now : ℕ) (pieces : List Piece) → (k.kind ≡ APiece → k.src ≡ ids.own → k.scep ≡ ids.scep → ⊥) → sum_by (item_one k) (made_items ids mpl now pieces) ≡ 0
made_none k ids mpl now [] none = refl
made_none k ids mpl now (p ∷ ps) none =
    let item : Queued = record { pdu = pdu_of_piece ids p; left = mpl; since = now } in
    let all : sum_by (item_one k) (made_items ids mpl now (p ∷ ps)) ≡ item_one k item + sum_by (item_one k) (made_items ids mpl now ps) = sum_by-cons (item_one k) item (made_items ids mpl now ps) in
    let here : item_one k item ≡ 0 = one_not k (key_of item.pdu) (λ o. none o.kind o.src o.scep) in
    let rest = made_none k ids mpl now ps none in
    omega (arith, all, here, rest)

-- the journal of what was sent has as many of them more
offered_more : (size : ℕ) (c : Constants) (parts : List Part) (line : Direction) (sent : List Entry) (n : ℕ) → 0 < size → IsCut size true parts → times n (journal_numbers size (sent ++ offered_entry c parts line ∷ [])) ≡ times n (journal_numbers size sent) + times n (numbers (offered_pieces c parts line))
offered_more size c parts line sent n some cut =
    let x : Entry = offered_entry c parts line in
    let first : ℕ = length (started (begins c line) c line.line.sender).run in
    let made : numbers (offered_pieces c parts line) ≡ numbers_from first (length parts) = pieces_numbers c line.line.clock parts (started (begins c line) c line.line.sender) in
    let same : entry_numbers size x ≡ numbers (offered_pieces c parts line) = ap (numbers_from first) (sym (cut_pieces size true parts some cut)) ∙ sym made in
    journal_more size sent (x ∷ []) n ∙ ap (λ (xs : List ℕ). times n (journal_numbers size sent) + times n xs) (journal_one size x ∙ same)

-- pieces are made, and wait
moved_made : (addr : ℕ) (k : Key) (resends : Type 0) (n n' : Counts) (x y : ℕ) → n'.taken ≡ n.taken → n'.relayed ≡ n.relayed → gone n' ≡ gone n + x → n'.made ≡ n.made + y → n'.kept ≡ n.kept
    → (k.kind ≡ APiece → k.src ≢ addr → x ≡ 0) → (k.kind ≡ APiece → k.src ≡ addr → x ≡ y) → (k.kind ≡ AnAck → x ≡ 0) → IsMoved addr k resends n n'
moved_made addr k resends n n' x y a b c d e foreign own ack = record {
  foreign = λ kind src. (let z = foreign kind src in omega arith);
  own = λ kind src. (let z = own kind src in omega arith);
  once = λ kind src none. (let z = own kind src in omega arith);
  relayed = λ kind src. omega arith;
  bounded = λ kind src. (let z = ack kind in omega arith);
  own_ack = λ kind src. omega arith;
}

offered_accounted : (d : DifSeen) (lines : List Direction) (below : Seen) (at : ℕ) (parts : List Part) (num : Num) (d' : DifSeen) (lines' : List Direction) → IsStanding d lines below → IsNumbered d below → IsAccounted d lines below → IsCut (piece_size d.config) true parts → IsOffered d lines at parts num d' lines' → IsAccounted d' lines' below
offered_accounted d lines below at parts num d' lines' st numbered a cut s =
    let c : Constants = constants d.config s.cube s.ids in
    let size : ℕ = piece_size d.config in
    let x : Entry = offered_entry c parts s.line in
    let pieces : List Piece = offered_pieces c parts s.line in
    let items : List Queued = made_items s.ids s.cube.mpl d.clock pieces in
    let line' : Direction = offered c parts s.line in
    let e' : End = with_sent s.end x in
    let ends' : List End = slice_set d.ends at e' in
    let lines'' : List Direction = slice_set lines at line' in
    let new : Process = with_put s.process s.place s.queue items in
    let change = end_changed d.ends at s.end e' s.is_conn.end refl refl in
    let some : 0 < size = (let big = st.config.piece in omega (arith, big)) in
    let hold : (n : ℕ) → HoldSame lines lines'' n = λ n. hold_set lines at s.line line' n s.is_line (offered_hold c parts s.line n) in
    let kept : (addr : ℕ) (k : Key) → _ = λ addr k. kept_same size d.conns lines lines'' addr k d.ends ends' at s.end e' change refl refl (hold k.seq) in
    let own : (m : Member) → slice_get d.config.members s.i ≡ Some m → s.ids.own ≡ m.addr = λ m is. home_addr d below at s.end s.ids s.i m numbered s.is_conn s.at_home is in
    let m0 = member_at d lines below s.i s.process st s.is_process in
    let made_apart : (addr : ℕ) (k : Key) → (s.ids.own ≡ addr → s.ids.scep ≡ k.scep → ⊥) → total (length ends') (made_in size d.conns addr k ends') ≡ total (length d.ends) (made_in size d.conns addr k d.ends) = λ addr k none.
    let all = made_change size d.conns addr k d.ends ends' at s.end e' s.ids change s.is_conn.ids_are in
    let old = made_not size addr k s.end s.ids none in
    let news = made_not size addr k e' s.ids none in
    omega (arith, all, old, news) in
    subst (λ (z : DifSeen). IsAccounted z lines' below) (sym s.new_is) (subst (λ (ls : List Direction). IsAccounted (renewed d ends' s.i new) ls below) (sym s.lines_are)
    (one_process d lines lines'' below below ends' s.i s.process new a s.is_process a.passed
    (λ j m q k ne is. record { taken = refl; relayed = refl; gone = refl; made = made_apart m.addr k (λ mine scep. others_addr d below s.i m0.0 s.ids numbered m0.1 (own m0.0 m0.1) j m ne is.is_member mine); kept = kept m.addr k })
    (λ m k is.
    let mine = own m is.is_member in
    let n = counts_of d lines below m s.process k in
    let n' = counts_of (renewed d ends' s.i new) lines'' below m new k in
    let put = put_more k s.process s.place s.queue items s.is_queue.is_queue in
    let more : gone n' ≡ gone n + sum_by (item_one k) items = omega (arith, put) in
    elim (eqb_tells k.scep s.ids.scep) [
      | inl t ↦
          let all : n'.made + made_by size m.addr k (Some s.end) (Some s.ids) ≡ n.made + made_by size m.addr k (Some e') (Some s.ids) = made_change size d.conns m.addr k d.ends ends' at s.end e' s.ids change s.is_conn.ids_are in
          let old = made_own size m.addr k s.end s.ids mine (sym t.1) in
          let news = made_own size m.addr k e' s.ids mine (sym t.1) in
          let journal : times k.seq (journal_numbers size e'.sent) ≡ times k.seq (journal_numbers size s.end.sent) + times k.seq (numbers pieces) = offered_more size c parts s.line s.end.sent k.seq some cut in
          let made : n'.made ≡ n.made + times k.seq (numbers pieces) = omega (arith, all, old, news, journal) in
          moved_made m.addr k (Resends d m.addr k.scep) n n' (sum_by (item_one k) items) (times k.seq (numbers pieces)) refl refl more made (kept m.addr k)
          (λ kind src. made_none k s.ids s.cube.mpl d.clock pieces (λ x own_src y. src (own_src ∙ mine)))
          (λ kind src. made_of k s.ids s.cube.mpl d.clock pieces kind (src ∙ sym mine) t.1)
          (λ kind. made_none k s.ids s.cube.mpl d.clock pieces (λ x y z. piece_no_ack k.kind x kind))
      | inr f ↦
          let none : sum_by (item_one k) items ≡ 0 = made_none k s.ids s.cube.mpl d.clock pieces (λ x y z. f.1 z) in
          let made : n'.made ≡ n.made + 0 = (let same : n'.made ≡ n.made = made_apart m.addr k (λ x scep. f.1 (sym scep)) in omega (arith, same)) in
          moved_made m.addr k (Resends d m.addr k.scep) n n' (sum_by (item_one k) items) 0 refl refl more made (kept m.addr k) (λ kind src. none) (λ kind src. none) (λ kind. none)
    ])))
  where
    offered_hold : (c : Constants) (parts : List Part) (line : Direction) (n : ℕ) → times n (held_numbers (offered c parts line)) ≡ times n (held_numbers line)
    offered_hold c parts line n = ap (λ (ps : List Piece). times n (numbers_from line.inbox.joiner.from line.inbox.joiner.count ++ numbers ps)) (offered_held c parts line.line)

pub offers_accounted : (d : DifSeen) (lines : List Direction) (below : Seen) (at : ℕ) (parts : List Part) (r : Result Num SendError) (d' : DifSeen) (lines' : List Direction) → IsStanding d lines below → IsNumbered d below → IsAccounted d lines below → Offers d lines at parts r d' lines' → IsAccounted d' lines' below
offers_accounted d lines below at parts (Ok num) d' lines' st numbered a s = offered_accounted d lines below at parts num d' lines' st numbered a s.1 s.2
offers_accounted d lines below at parts (Err errors.Memory) d' lines' st numbered a s = accounted_same d lines below d' lines' below s.0 s.1 refl a
offers_accounted d lines below at parts (Err why) d' lines' st numbered a s = accounted_same d lines below d' lines' below s.1 s.2 refl a
