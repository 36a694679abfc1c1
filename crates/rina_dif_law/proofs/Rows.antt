-- The rows that come with time keep standing.
use Rattle.std.proofs.Common.{◌≡◌, ℕ, ◌+◌, ◌-◌, ◌*◌, ◌^◌, ◌<◌, ◌≤◌, List, [], ◌∷◌, length-set, slice_get, slice_set, Some, None, Option, true, refl, sym, ◌∙◌, ap, subst, arith, inl, inr}
use Rattle.rina_base.specs.declared.cause.Cause.{Cause}
use Rattle.rina_base.specs.declared.cause.Cause.TheVariants as causes
use Rattle.rina_base.specs.declared.pdu.Pdu.{Pdu}
use Rattle.rina_cube.specs.declared.Cube.{Cube}
use Rattle.rina_cube.specs.Cubes.{IsCube}
use Rattle.rina_iface.specs.declared.ends.End.{End}
use Rattle.rina_iface.specs.Seen.{Seen}
use Rattle.rina_law.specs.Backed.{CoversBut}
use Rattle.rina_law.specs.Constants.{Constants}
use Rattle.rina_law.specs.Direction.{Direction, Forget, after_ack, happens, is_ack_due, right_of}
use Rattle.rina_law.specs.DirectionHolds.{DirectionHolds}
use Rattle.rina_law.specs.Line.{again}
use Rattle.rina_law.specs.Receiver.{next_of}
use Rattle.rina_law.specs.Sender.{Ack, again_due, piece_again}
use Rattle.rina_law.proofs.Agreeing.{direction_ack, direction_again}
use Rattle.rina_law.proofs.Lawfulness.{lawful_from, welcome_from}
use Rattle.rina_queue.specs.declared.queue.Queued.{Queued}
use Rattle.rina_dif_law.specs.Cloud.{Cloud, Everywhere}
use Rattle.rina_data.specs.declared.link.Link.{Link}
use Rattle.rina_data.specs.Configs.{Config, cube_by}
use Rattle.rina_dif_law.specs.Dif.{DifSeen, constants, with_process}
use Rattle.rina_data.specs.Process.{Process, with_offs, with_put}
use Rattle.rina_dif_law.specs.Ids.{Ids, flipped, pdu_of_ack, pdu_of_piece}
use Rattle.rina_data.specs.Queueing.{line_for}
use Rattle.rina_dif_law.specs.Standing.{AreIds, HasLink, IsConfig, IsItem, IsOwn, IsStanding}
use Rattle.rina_data.specs.Fitting.{IsFit}
use Rattle.rina_dif_law.specs.Timely.{IsAcknowledged, IsForgotten, IsResent, Posts}
use Rattle.rina_dif_law.proofs.After.{NoMore, after_none}
use Rattle.rina_dif_law.proofs.Clouds.{NoItem, Requeued, cloud_after, covers_less}
use Rattle.rina_dif_law.proofs.Finding.{cube_limits}
use Rattle.rina_dif_law.proofs.Frame.{stands_with}
use Rattle.rina_dif_law.proofs.Giving.{IsSmall, piece_fit, power_positive}
use Rattle.rina_dif_law.proofs.Own.{direction_in, direction_out}
use Rattle.rina_dif_law.proofs.OwnRows.{own_acknowledged, own_again, own_forgot}
use Rattle.rina_dif_law.proofs.Queues.{JustItems, requeued_put, requeued_same, same_links}

cubes_same : (o : Option Cube) (a b : Cube) → o ≡ Some a → o ≡ Some b → a ≡ b
cubes_same o a b h g = cc

-- what a posting does to queues, links and the cloud
record IsPosting (d : DifSeen) (below : Seen) (i mpl : ℕ) (pdu : Pdu) (process' : Process) : Type 0 where
  link : ℕ
  items : List Queued
  moved : Requeued (JustItems i link items) d.processes (slice_set d.processes i process')
  links : (j : ℕ) (l : Link) → HasLink (slice_set d.processes i process') j l → HasLink d.processes j l
  fits : IsFit d.config pdu → mpl < 2 ^ 32 → (j n : ℕ) (item : Queued) → JustItems i link items j n item → IsItem d.config d.clock item
  covers : CoversBut d.clock (Cloud Everywhere d.config d.processes below) (λ p. p ≡ pdu) (d.clock + mpl) (Cloud Everywhere d.config (slice_set d.processes i process') below)

noted : (d : DifSeen) (below : Seen) (i mpl : ℕ) (process : Process) (pdu : Pdu) (cause : Cause) (process' : Process) → slice_get d.processes i ≡ Some process → process' ≡ with_offs process (line_for pdu cause ∷ []) → IsPosting d below i mpl pdu process'
noted d below i mpl process pdu cause process' is_process is =
    let moved = requeued_same d.processes i process process' is_process (ap (λ (p : Process). p.queues) is) in
    record {
      link = 0;
      items = [];
      moved = λ j n item w. elim (moved j n item w) [ inl o ↦ inl o | inr none ↦ absurd none ];
      links = same_links d.processes i process process' is_process (ap (λ (p : Process). p.links) is);
      fits = λ fit mpl j n item none. absurd none.2;
      covers = λ death p x alive. inl (covers_less Everywhere d.config d.clock d.processes (slice_set d.processes i process') below below moved (after_none d.config below) death p x alive);
    }

posting : (d : DifSeen) (below : Seen) (i mpl : ℕ) (process : Process) (pdu : Pdu) (cause : Option Cause) (process' : Process) → slice_get d.processes i ≡ Some process → Posts d.config d.clock mpl process pdu cause process' → IsPosting d below i mpl pdu process'
posting d below i mpl process pdu None process' is_process s =
    let item : Queued = record { pdu = pdu; left = mpl; since = d.clock } in
    let put : Process = with_put process s.place s.queue (item ∷ []) in
    let moved = requeued_put d.processes i s.place process s.queue (item ∷ []) is_process s.is_queue.is_queue in
    let P : Process → Type 0 = IsPosting d below i mpl pdu in
    subst P (sym s.new_is) (record {
      link = s.queue.link;
      items = item ∷ [];
      moved = moved;
      links = same_links d.processes i process put is_process refl;
      fits = λ fit bound j n x new. elim (new.2) [ inl is ↦ subst (IsItem d.config d.clock) (sym is) (record { fit = fit; past = omega arith; left = bound }) | inr none ↦ absurd none ];
      covers = λ death p x alive. elim (cloud_after Everywhere d.config (JustItems i s.queue.link (item ∷ [])) NoMore d.processes (slice_set d.processes i put) below below death p moved (after_none d.config below) x) [
        | inl o ↦ inl (death, omega arith, o)
        | inr (inl put') ↦ elim (put'.new.2) [
          | inl is ↦
              let since : put'.item.since ≡ d.clock = ap (λ (z : Queued). z.since) is in
              let left : put'.item.left ≡ mpl = ap (λ (z : Queued). z.left) is in
              let dies : death ≡ put'.item.since + put'.item.left = put'.dies in
              inr (sym put'.is ∙ ap (λ (z : Queued). z.pdu) is, omega arith)
          | inr none ↦ absurd none
        ]
        | inr (inr given) ↦ absurd given.new
      ];
    })
posting d below i mpl process pdu (Some (causes.NoRoute dst)) process' is_process s = noted d below i mpl process pdu (causes.NoRoute dst) process' is_process s.2
posting d below i mpl process pdu (Some (causes.QueueFull cap)) process' is_process s = noted d below i mpl process pdu (causes.QueueFull cap) process' is_process s.2
posting d below i mpl process pdu (Some (causes.Expired left charge)) process' is_process s = absurd s
posting d below i mpl process pdu (Some (causes.NoConnection cep)) process' is_process s = absurd s
posting d below i mpl process pdu (Some (causes.Duplicate num)) process' is_process s = absurd s
posting d below i mpl process pdu (Some (causes.Behind highest)) process' is_process s = absurd s
posting d below i mpl process pdu (Some (causes.NoState drf)) process' is_process s = absurd s
posting d below i mpl process pdu (Some (causes.NoRoom cap)) process' is_process s = absurd s
posting d below i mpl process pdu (Some (causes.StateGone last_in)) process' is_process s = absurd s
posting d below i mpl process pdu (Some (causes.Broken missing)) process' is_process s = absurd s
posting d below i mpl process pdu (Some (causes.LinkDown port)) process' is_process s = absurd s

-- a direction alone changes, and a PDU is posted
posted_stands : (d : DifSeen) (lines lines' : List Direction) (below : Seen) (i mpl : ℕ) (pdu : Pdu) (process' : Process) → IsStanding d lines below → (p : IsPosting d below i mpl pdu process') → IsFit d.config pdu → mpl < 2 ^ 32 → IsOwn d.config d.clock (Cloud Everywhere d.config (slice_set d.processes i process') below) d.ids d.ends d.conns lines' → IsStanding (with_process d i process') lines' below
posted_stands d lines lines' below i mpl pdu process' st p fit bound own =
    stands_with d lines lines' NoMore (JustItems i p.link p.items) below below d.clock (slice_set d.processes i process') d.ends st (after_none d.config below) st.clock (omega arith) (length-set d.processes i process') p.moved p.links (λ port x none. absurd none) (p.fits fit bound) st.journal st.ports own

-- ---- a piece once more

small_again : (k : Constants) (line : Direction) (n : ℕ) → IsCube k.cube → DirectionHolds k line → again_due k line.line.clock line.line.sender ≡ Some n → IsSmall k (piece_again n line.line.sender)
small_again k line n limits holds due =
    let after = direction_again k line (Some n) due holds in
    let w = welcome_from k (record line { line = again k n line.line }) (record { pdu = piece_again n line.line.sender; death = line.line.clock + k.cube.mpl }) limits after (inl refl, omega arith) in
    record { body = w.body; number = w.number }

pub resent_stands : (d : DifSeen) (lines : List Direction) (below : Seen) (at : ℕ) (cause : Option Cause) (d' : DifSeen) (lines' : List Direction) → IsStanding d lines below → IsResent d lines at cause d' lines' → IsStanding d' lines' below
resent_stands d lines below at cause d' lines' st s =
    let k : Constants = constants d.config s.cube s.ids in
    let pdu : Pdu = pdu_of_piece s.ids (piece_again s.number s.line.line.sender) in
    let line' : Direction = record s.line { line = again k s.number s.line.line } in
    let cloud : ℕ → Pdu → Type 0 = Cloud Everywhere d.config d.processes below in
    let cloud' : ℕ → Pdu → Type 0 = Cloud Everywhere d.config (slice_set d.processes s.i s.process') below in
    let p = posting d below s.i s.cube.mpl s.process pdu cause s.process' s.is_home.is_process s.posted in
    let limits = cube_limits d.config s.ids.qos s.cube st.config s.is_home.is_cube in
    let conn = s.is_home.is_conn in
    let partner = st.journal.allocated at s.end conn.end s.is_home.allocated in
    let flow = direction_out d.config d.clock cloud d.ids d.ends d.conns lines st.own at partner.place s.end partner.other s.ids s.line conn partner.stands s.is_line partner.partner s.is_home.allocated in
    let cube_is : flow.cube ≡ s.cube = cubes_same (cube_by s.ids.qos d.config.cubes) flow.cube s.cube flow.is_cube s.is_home.is_cube in
    let holds : DirectionHolds k s.line = subst (λ (x : Cube). DirectionHolds (constants d.config x s.ids) s.line) cube_is flow.backed.holds in
    let fit = piece_fit d.config s.end s.ids s.cube (piece_again s.number s.line.line.sender) st.config (st.own.ids at s.end s.ids conn) s.is_home.is_cube (small_again k s.line s.number limits holds s.due) in
    let mpl = limits.mpl in
    let own = own_again d.config d.clock cloud cloud' d.ids d.ends d.conns lines st.own at s.end s.ids s.cube conn s.is_home.allocated s.is_home.is_cube limits s.line s.is_line partner.place partner.other partner.stands partner.partner s.number s.due p.covers in
    subst (λ (z : DifSeen). IsStanding z lines' below) (sym s.new_is) (subst (λ (ls : List Direction). IsStanding (with_process d s.i s.process') ls below) (sym s.lines_are)
    (posted_stands d lines (slice_set lines at line') below s.i s.cube.mpl pdu s.process' st p fit (omega arith) own))

-- ---- an acknowledgement

-- the numbers of an acknowledgement that is due
record IsSmallAck (k : Constants) (ack : Ack) : Type 0 where
  number : ack.ack ≤ k.max
  right : ack.right ≤ k.max

small_ack : (k : Constants) (line : Direction) → IsCube k.cube → DirectionHolds k line → is_ack_due k line ≡ true → IsSmallAck k (record { ack = next_of line.line.receiver - 1; right = right_of k line })
small_ack k line limits holds due =
    let after = direction_ack k line true due limits holds in
    let made = (lawful_from k (after_ack true k line) limits after).acks (record { pdu = record { ack = next_of line.line.receiver - 1; right = right_of k line }; death = line.line.clock + k.cube.mpl }) (inl refl, omega arith) in
    record { number = made.ack_fits; right = made.right_fits }

ack_fit : (g : Config) (end : End) (ids : Ids) (cube : Cube) (k : Constants) (ack : Ack) → k.max ≡ 2 ^ (8 * g.widths.seq) - 1 → IsConfig g → AreIds g end ids → cube_by ids.qos g.cubes ≡ Some cube → IsSmallAck k ack → IsFit g (pdu_of_ack ids ack)
ack_fit g end ids cube k ack max config are is_cube small =
    let number = small.number in
    let right = small.right in
    let positive = power_positive (8 * g.widths.seq) in
    let room = config.ack in
    let long = config.long in
    record {
      fits = record { proper = (refl, refl, refl, refl, refl); dst = are.far; src = are.own; dcep = are.dcep; scep = are.scep; len = omega arith; seq = omega arith; ack = omega arith; right = omega arith };
      size = omega arith;
      qos = inr (cube, is_cube);
    }

pub acknowledged_stands : (d : DifSeen) (lines : List Direction) (below : Seen) (at : ℕ) (cause : Option Cause) (d' : DifSeen) (lines' : List Direction) → IsStanding d lines below → IsAcknowledged d lines at cause d' lines' → IsStanding d' lines' below
acknowledged_stands d lines below at cause d' lines' st s =
    let k : Constants = constants d.config s.cube (flipped s.ids) in
    let ack : Ack = record { ack = next_of s.line.line.receiver - 1; right = right_of k s.line } in
    let pdu : Pdu = pdu_of_ack s.ids ack in
    let line' : Direction = after_ack true k s.line in
    let cloud : ℕ → Pdu → Type 0 = Cloud Everywhere d.config d.processes below in
    let cloud' : ℕ → Pdu → Type 0 = Cloud Everywhere d.config (slice_set d.processes s.i s.process') below in
    let p = posting d below s.i s.cube.mpl s.process pdu cause s.process' s.is_home.is_process s.posted in
    let limits = cube_limits d.config s.ids.qos s.cube st.config s.is_home.is_cube in
    let conn = s.is_home.is_conn in
    let partner = s.inbound.partner in
    let named = st.journal.named s.from at partner s.end s.inbound.is_partner conn.end s.inbound.partners in
    let flow = direction_in d.config d.clock cloud d.ids d.ends d.conns lines st.own s.from at partner s.end s.ids s.line s.inbound.is_partner conn s.inbound.is_line s.inbound.partners s.is_home.allocated named.cube in
    let cube_is : flow.cube ≡ s.cube = cubes_same (cube_by s.ids.qos d.config.cubes) flow.cube s.cube flow.is_cube s.is_home.is_cube in
    let holds : DirectionHolds k s.line = subst (λ (x : Cube). DirectionHolds (constants d.config x (flipped s.ids)) s.line) cube_is flow.backed.holds in
    let fit = ack_fit d.config s.end s.ids s.cube k ack refl st.config (st.own.ids at s.end s.ids conn) s.is_home.is_cube (small_ack k s.line limits holds s.due) in
    let mpl = limits.mpl in
    let own = own_acknowledged d.config d.clock cloud cloud' d.ids d.ends d.conns lines st.own st.journal at s.end s.ids s.cube conn s.is_home.is_cube limits s.from partner s.inbound.is_partner s.inbound.partners s.line s.inbound.is_line s.is_home.allocated s.due p.covers in
    subst (λ (z : DifSeen). IsStanding z lines' below) (sym s.new_is) (subst (λ (ls : List Direction). IsStanding (with_process d s.i s.process') ls below) (sym s.lines_are)
    (posted_stands d lines (slice_set lines s.from line') below s.i s.cube.mpl pdu s.process' st p fit (omega arith) own))

-- ---- what is given up with a state

pub forgotten_stands : (d : DifSeen) (lines : List Direction) (below : Seen) (at : ℕ) (d' : DifSeen) (lines' : List Direction) → IsStanding d lines below → IsForgotten d lines at d' lines' → IsStanding d' lines' below
forgotten_stands d lines below at d' lines' st s =
    let k : Constants = constants d.config s.cube (flipped s.ids) in
    let line' : Direction = happens k s.line Forget in
    let process' : Process = with_offs s.process s.dropped in
    let processes' : List Process = slice_set d.processes s.i process' in
    let cloud : ℕ → Pdu → Type 0 = Cloud Everywhere d.config d.processes below in
    let cloud' : ℕ → Pdu → Type 0 = Cloud Everywhere d.config processes' below in
    let moved = requeued_same d.processes s.i s.process process' s.is_home.is_process refl in
    let covers = covers_less Everywhere d.config d.clock d.processes processes' below below moved (after_none d.config below) in
    let limits = cube_limits d.config s.ids.qos s.cube st.config s.is_home.is_cube in
    let conn = s.is_home.is_conn in
    let partner = s.inbound.partner in
    let own = own_forgot d.config d.clock cloud cloud' d.ids d.ends d.conns lines st.own st.journal at s.end s.ids s.cube conn s.is_home.is_cube limits s.from partner s.inbound.is_partner s.inbound.partners s.line s.inbound.is_line s.is_home.allocated s.gone covers in
    subst (λ (z : DifSeen). IsStanding z lines' below) (sym s.new_is) (subst (λ (ls : List Direction). IsStanding (with_process d s.i process') ls below) (sym s.lines_are)
    (stands_with d lines (slice_set lines s.from line') NoMore NoItem below below d.clock processes' d.ends st (after_none d.config below) st.clock (omega arith) (length-set d.processes s.i process') moved (same_links d.processes s.i s.process process' s.is_home.is_process refl)
    (λ port x none. absurd none) (λ j n item none. absurd none) st.journal st.ports own))
