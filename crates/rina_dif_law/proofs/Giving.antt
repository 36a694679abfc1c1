-- A send keeps standing.
use Rattle.std.proofs.Common.{◌≡◌, ℕ, zero, suc, ◌+◌, ◌-◌, ◌*◌, ◌^◌, ◌≤◌, List, length, length-set, slice_get, slice_set, Some, None, Ok, Err, Option, Result, true, refl, sym, ◌∙◌, ap, subst, arith, inl, inr}
use Rattle.rina_base.specs.declared.number.Num.{Num}
use Rattle.rina_base.specs.declared.pdu.Pdu.{Pdu}
use Rattle.rina_base.specs.declared.pdu.PduKind.TheVariants.{Piece as APiece}
use Rattle.rina_cube.specs.declared.Cube.{Cube}
use Rattle.rina_cube.specs.Cubes.{IsCube}
use Rattle.rina_iface.specs.declared.ends.End.{End}
use Rattle.rina_iface.specs.declared.error.SendError.{SendError}
use Rattle.rina_iface.specs.declared.error.SendError.TheVariants as errors
use Rattle.rina_iface.specs.Ends.{with_sent}
use Rattle.rina_iface.specs.Journal.{IsWhole}
use Rattle.rina_iface.specs.Seen.{Seen}
use Rattle.rina_iface.proofs.Grown.{dated_push}
use Rattle.rina_law.specs.declared.entry.Entry.{Entry}
use Rattle.rina_law.specs.Backed.{CoversBut}
use Rattle.rina_law.specs.Constants.{Constants}
use Rattle.rina_law.specs.Direction.{Direction, offer_refusal}
use Rattle.rina_law.specs.DirectionHolds.{DirectionHolds}
use Rattle.rina_law.specs.Lists.{In}
use Rattle.rina_law.specs.Pieces.{Part, IsCut}
use Rattle.rina_law.specs.Receiver.{Piece}
use Rattle.rina_law.proofs.Lawfulness.{welcome_from}
use Rattle.rina_law.proofs.Making.{offered_clock, offered_made}
use Rattle.rina_law.proofs.Offering.{direction_offer}
use Rattle.rina_pci.specs.Spelling.{pci_size}
use Rattle.rina_queue.specs.declared.queue.Queued.{Queued}
use Rattle.rina_dif_law.specs.Cloud.{Cloud, Everywhere}
use Rattle.rina_data.specs.Configs.{Config, cube_by, piece_size}
use Rattle.rina_dif_law.specs.Dif.{DifSeen, fac_of, constants}
use Rattle.rina_data.specs.Process.{Process, Queue, with_put}
use Rattle.rina_dif_law.specs.Ids.{Ids, pdu_of_piece}
use Rattle.rina_dif_law.specs.Sending.{IsOffered, Offers, made_items, offered, offered_entry, offered_pieces}
use Rattle.rina_dif_law.specs.Standing.{AreIds, IsConfig, IsItem, IsStanding}
use Rattle.rina_data.specs.Fitting.{IsFit}
use Rattle.rina_dif_law.proofs.After.{NoMore, after_none}
use Rattle.rina_dif_law.proofs.Clouds.{cloud_after}
use Rattle.rina_dif_law.proofs.Finding.{cube_limits}
use Rattle.rina_dif_law.proofs.Frame.{stands_with}
use Rattle.rina_dif_law.proofs.Journals.{IsConst, journal_set, ports_set}
use Rattle.rina_dif_law.proofs.Going.{same_stands}
use Rattle.rina_dif_law.proofs.Own.{direction_out}
use Rattle.rina_dif_law.proofs.OwnRows.{MadeOf, own_offered}
use Rattle.rina_dif_law.proofs.Queues.{JustItems, made_item, requeued_put, same_links}

-- the numbers of a piece that was just made
pub record IsSmall (k : Constants) (p : Piece) : Type 0 where
  pub body : length p.part.body ≤ k.piece
  pub number : p.number ≤ k.max

small_piece : (k : Constants) (line : Direction) (parts : List Part) (p : Piece) → IsCube k.cube → DirectionHolds k line → IsCut k.piece true parts → offer_refusal k line parts ≡ None → In p (offered_pieces k parts line) → IsSmall k p
small_piece k line parts p limits holds cut free one =
    let after = direction_offer k line parts None free limits holds cut in
    let made : In (record { pdu = p; death = line.line.clock + k.cube.mpl }) ((offered k parts line).line.pieces) = offered_made k parts line.line p one in
    let clock : (offered k parts line).line.clock ≡ line.line.clock = offered_clock k parts line.line in
    let w = welcome_from k (offered k parts line) (record { pdu = p; death = line.line.clock + k.cube.mpl }) limits after (made, omega arith) in
    record { body = w.body; number = w.number }

pub power_positive : (n : ℕ) → 1 ≤ 2 ^ n
power_positive zero = omega arith
power_positive (suc n) = (let h : 1 ≤ 2 ^ n = power_positive n in omega (arith, h))

-- a piece that was just made may be sent
pub piece_fit : (g : Config) (end : End) (ids : Ids) (cube : Cube) (p : Piece) → IsConfig g → AreIds g end ids → cube_by ids.qos g.cubes ≡ Some cube → IsSmall (constants g cube ids) p → IsFit g (pdu_of_piece ids p)
piece_fit g end ids cube p config are is_cube small =
    let body : length p.part.body ≤ g.pdu - 4 - pci_size APiece g.widths = small.body in
    let number : p.number ≤ 2 ^ (8 * g.widths.seq) - 1 = small.number in
    let positive = power_positive (8 * g.widths.seq) in
    let room = config.piece in
    let long = config.long in
    record {
      fits = record { proper = (refl, refl); dst = are.far; src = are.own; dcep = are.dcep; scep = are.scep; len = omega arith; seq = omega arith; ack = omega arith; right = omega arith };
      size = omega arith;
      qos = inr (cube, is_cube);
    }

cubes_same : (o : Option Cube) (a b : Cube) → o ≡ Some a → o ≡ Some b → a ≡ b
cubes_same o a b h g = cc

-- what was made waits, and dies `mpl` later
made_covers : (d : DifSeen) (below : Seen) (i : ℕ) (process : Process) (place : ℕ) (queue : Queue) (ids : Ids) (mpl : ℕ) (pieces : List Piece) → slice_get d.processes i ≡ Some process → slice_get process.queues place ≡ Some queue
    → CoversBut d.clock (Cloud Everywhere d.config d.processes below) (MadeOf ids pieces) (d.clock + mpl) (Cloud Everywhere d.config (slice_set d.processes i (with_put process place queue (made_items ids mpl d.clock pieces))) below)
made_covers d below i process place queue ids mpl pieces is_process is_queue death pdu x alive =
    let items : List Queued = made_items ids mpl d.clock pieces in
    elim (cloud_after Everywhere d.config (JustItems i queue.link items) NoMore d.processes (slice_set d.processes i (with_put process place queue items)) below below death pdu (requeued_put d.processes i place process queue items is_process is_queue) (after_none d.config below) x) [
      | inl o ↦ inl (death, omega arith, o)
      | inr (inl put) ↦
          let m = made_item ids mpl d.clock pieces put.item put.new.2 in
          let since : put.item.since ≡ d.clock = ap (λ (z : Queued). z.since) m.is in
          let left : put.item.left ≡ mpl = ap (λ (z : Queued). z.left) m.is in
          let dies : death ≡ put.item.since + put.item.left = put.dies in
          inr ((m.piece, m.one, sym put.is ∙ ap (λ (z : Queued). z.pdu) m.is), omega arith)
      | inr (inr given) ↦ absurd given.new
    ]

-- what was made may be sent on
made_fits : (g : Config) (now : ℕ) (end : End) (ids : Ids) (line : Direction) (cube : Cube) (parts : List Part) (item : Queued) → IsConfig g → AreIds g end ids → cube_by ids.qos g.cubes ≡ Some cube → IsCube cube → DirectionHolds (constants g cube ids) line → IsCut (piece_size g) true parts → offer_refusal (constants g cube ids) line parts ≡ None
    → In item (made_items ids cube.mpl now (offered_pieces (constants g cube ids) parts line)) → IsItem g now item
made_fits g now end ids line cube parts item config are is_cube limits holds cut free one =
    let k : Constants = constants g cube ids in
    let m = made_item ids cube.mpl now (offered_pieces k parts line) item one in
    let fit = piece_fit g end ids cube m.piece config are is_cube (small_piece k line parts m.piece limits holds cut free m.one) in
    let mpl : cube.mpl ≤ 1000000 = limits.mpl in
    subst (IsItem g now) (sym m.is) (record { fit = fit; past = omega arith; left = omega arith })

pub offered_stands : (d : DifSeen) (lines : List Direction) (below : Seen) (at : ℕ) (parts : List Part) (num : Num) (d' : DifSeen) (lines' : List Direction) → IsStanding d lines below → IsCut (piece_size d.config) true parts → IsOffered d lines at parts num d' lines' → IsStanding d' lines' below
offered_stands d lines below at parts num d' lines' st cut s =
    let g : Config = d.config in
    let k : Constants = constants g s.cube s.ids in
    let line' : Direction = offered k parts s.line in
    let entry : Entry = offered_entry k parts s.line in
    let end' : End = with_sent s.end entry in
    let pieces : List Piece = offered_pieces k parts s.line in
    let items : List Queued = made_items s.ids s.cube.mpl d.clock pieces in
    let process' : Process = with_put s.process s.place s.queue items in
    let processes' : List Process = slice_set d.processes s.i process' in
    let cloud : ℕ → Pdu → Type 0 = Cloud Everywhere g d.processes below in
    let cloud' : ℕ → Pdu → Type 0 = Cloud Everywhere g processes' below in
    let limits = cube_limits g s.ids.qos s.cube st.config s.is_cube in
    let is_end = s.is_conn.end in
    let partner = st.journal.allocated at s.end is_end s.allocated in
    let flow = direction_out g d.clock cloud d.ids d.ends d.conns lines st.own at partner.place s.end partner.other s.ids s.line s.is_conn partner.stands s.is_line partner.partner s.allocated in
    let cube_is : flow.cube ≡ s.cube = cubes_same (cube_by s.ids.qos g.cubes) flow.cube s.cube flow.is_cube s.is_cube in
    let holds : DirectionHolds k s.line = subst (λ (x : Cube). DirectionHolds (constants g x s.ids) s.line) cube_is flow.backed.holds in
    let are = st.own.ids at s.end s.ids s.is_conn in
    let covers = made_covers d below s.i s.process s.place s.queue s.ids s.cube.mpl pieces s.is_process s.is_queue.is_queue in
    let const : IsConst s.end end' = record { flow = refl; role = refl; port = refl; app = refl; peer = refl; cube = refl } in
    let was = st.journal.whole at s.end is_end in
    let whole : IsWhole d.clock end' = record { sent = dated_push d.clock s.end.sent entry was.sent flow.backed.clock; got = was.got; taken = was.taken } in
    let own = own_offered g d.clock cloud cloud' d.ids d.ends d.conns lines st.own at s.end s.ids s.cube s.is_conn s.allocated s.is_cube limits s.line s.is_line partner.place partner.other partner.stands partner.partner parts cut s.free covers in
    subst (λ (z : DifSeen). IsStanding z lines' below) (sym s.new_is) (subst (λ (ls : List Direction). IsStanding (record d { ends = slice_set d.ends at end'; processes = processes' }) ls below) (sym s.lines_are)
    (stands_with d lines (slice_set lines at line') NoMore (JustItems s.i s.queue.link items) below below d.clock processes' (slice_set d.ends at end') st (after_none g below) st.clock (omega arith) (length-set d.processes s.i process')
    (requeued_put d.processes s.i s.place s.process s.queue items s.is_process s.is_queue.is_queue) (same_links d.processes s.i s.process process' s.is_process refl)
    (λ port y none. absurd none)
    (λ j m item new. made_fits g d.clock s.end s.ids s.line s.cube parts item st.config are s.is_cube limits holds cut s.free new.2)
    (journal_set d.ends at s.end end' is_end const d.clock st.journal whole (λ state. partner) (λ j x h. st.journal.met at j s.end x is_end h))
    (ports_set d.ends at s.end end' is_end const g.fac (fac_of d) (fac_of (record d { ends = slice_set d.ends at end'; processes = processes' })) refl refl st.ports)
    own))

-- `send`, whatever it answers
pub offers_stand : (d : DifSeen) (lines : List Direction) (below : Seen) (at : ℕ) (parts : List Part) (r : Result Num SendError) (d' : DifSeen) (lines' : List Direction) → IsStanding d lines below → Offers d lines at parts r d' lines' → IsStanding d' lines' below
offers_stand d lines below at parts (Ok num) d' lines' st s = offered_stands d lines below at parts num d' lines' st s.1 s.2
offers_stand d lines below at parts (Err errors.Memory) d' lines' st s = same_stands d lines below d' lines' below s.0 s.1 refl st
offers_stand d lines below at parts (Err why) d' lines' st s = same_stands d lines below d' lines' below s.1 s.2 refl st
