-- A PDU that comes to the management connection of its link keeps that standing, and what is written off has a lawful line.
use Rattle.std.proofs.Common.{◌≡◌, ℕ, ◌+◌, ◌-◌, ◌*◌, ◌%◌, ◌^◌, ◌<◌, ◌≤◌, cond, Bool, true, false, List, [], ◌∷◌, ◌++◌, Some, None, Option, refl, sym, ◌∙◌, ap, subst, arith, inl, inr}
use Rattle.std.proofs.lemmas.Nat.{mod_below}
use Rattle.rina_account.specs.declared.ledger.Off.{Off}
use Rattle.rina_base.specs.declared.cause.Cause.{Cause}
use Rattle.rina_base.specs.declared.cause.Cause.TheVariants as causes
use Rattle.rina_base.specs.declared.number.Key.{Key}
use Rattle.rina_base.specs.declared.number.Num.{Num}
use Rattle.rina_base.specs.declared.number.Port.{Port}
use Rattle.rina_base.specs.declared.pdu.Pdu.{Pdu}
use Rattle.rina_base.specs.declared.pdu.PduKind.{PduKind}
use Rattle.rina_base.specs.declared.pdu.PduKind.TheVariants.{Piece as APiece}
use Rattle.rina_base.specs.Pdus.{key_of, number_by}
use Rattle.rina_cube.specs.declared.Cube.{Cube}
use Rattle.rina_cube.specs.declared.Kind.{Kind}
use Rattle.rina_cube.specs.declared.Kind.TheVariants.{Reliable}
use Rattle.rina_cube.specs.Cubes.{delta_of}
use Rattle.rina_iface.specs.Journal.{AreKept}
use Rattle.rina_iface.specs.Seen.{Seen, unpassed}
use Rattle.rina_law.specs.declared.entry.Entry.{Entry}
use Rattle.rina_law.specs.Constants.{Constants}
use Rattle.rina_law.specs.Direction.{Direction, has_room}
use Rattle.rina_law.specs.Line.{arrival_verdict}
use Rattle.rina_law.specs.Lists.{In, highest}
use Rattle.rina_law.specs.Pdus.{piece_in}
use Rattle.rina_law.specs.Pieces.{Joiner, goes_on}
use Rattle.rina_law.specs.Receiver.{Piece, Verdict, Accepted, Held, Duplicate, Behind, NoState, NoRoom, is_present}
use Rattle.rina_law.proofs.Standing.{absent_after}
use Rattle.rina_data.specs.declared.step.Took.{Took}
use Rattle.rina_data.specs.declared.step.Took.TheVariants as took
use Rattle.rina_data.specs.Hops.{Hop, opened}
use Rattle.rina_data.specs.Process.{Process}
use Rattle.rina_data.specs.Queueing.{line_for}
use Rattle.rina_dif_law.specs.Dif.{constants}
use Rattle.rina_dif_law.specs.Ids.{IsOfLink, flipped}
use Rattle.rina_dif_law.specs.Incoming.{GivesUp, cause_by, cause_told, joiner_found, lines_for, missing_for}
use Rattle.rina_dif_law.specs.OnLinks.{IsLinkCause, IsLinkLine}
use Rattle.rina_dif_law.specs.WriteOffs.{IsTooOld}
use Rattle.rina_dif_law.proofs.Own.{journals}
use Rattle.rina_dif_law.proofs.Verdicts.{behind_old, stateless}
use Rattle.rina_channel.specs.Changes.{LeavesLinks}
use Rattle.rina_channel.specs.Channels.{ChannelsSeen}
use Rattle.rina_channel.specs.Coming.{LeavesOff, TakesAck, TakesOnLink, TakesPiece}
use Rattle.rina_channel.specs.Ledgers.{unnamed_line}
use Rattle.rina_channel.specs.Names.{named}
use Rattle.rina_channel.specs.Rows.{config_of}
use Rattle.rina_channel.specs.Standing.{IsStanding}
use Rattle.rina_channel.proofs.Arriving.{acks_stand, pieces_stand}
use Rattle.rina_channel.proofs.Coming.{coming_is_awaited}
use Rattle.rina_channel.proofs.Frame.{other_pdus_stand}
use Rattle.rina_channel.proofs.Noting.{far_zero, in_both}
use Rattle.rina_channel.proofs.Rows.{in_map}

-- ---- the connections stand

module _ (m : ChannelsSeen) (lines : List Direction) (ps ps' : List Process) (below : Seen) (port : Port) (entry : Entry) (hop : Hop) (m' : ChannelsSeen) (lines' : List Direction) (kept : AreKept below) (st : IsStanding m lines ps below) (oldest : unpassed below port ≡ Some entry) (opens : opened m.config.widths entry.bytes ≡ Some hop) (of : IsOfLink hop.pdu) (in_time : m.clock - entry.tick ≤ hop.left) (leaves : LeavesLinks ps ps') where
  piece_stands : (cause : Option Cause) (dropped : List Off) → TakesPiece m lines port hop.pdu cause dropped m' lines' → IsStanding m' lines' ps' below
  piece_stands cause dropped s =
      let t = s.taker in
      let awaited = coming_is_awaited m lines ps below s.place s.channel port entry hop kept st t.stands t.on_port oldest opens of in_time in
      subst (λ (z : ChannelsSeen). IsStanding z lines' ps' below) (sym s.new_is) (pieces_stand m lines ps ps' below s.place s.end s.ids (named s.channel.partner s.place hop.pdu) cause s.held s.ends' lines' st awaited s.piece t.takes s.arrives leaves)

  ack_stands : TakesAck m lines port hop.pdu m' lines' → IsStanding m' lines' ps' below
  ack_stands s =
      let t = s.taker in
      let awaited = coming_is_awaited m lines ps below s.place s.channel port entry hop kept st t.stands t.on_port oldest opens of in_time in
      let told = acks_stand m lines ps below s.place s.end s.ids (named s.channel.partner s.place hop.pdu) lines' st awaited s.ack t.takes s.told in
      subst (λ (z : ChannelsSeen). IsStanding z lines' ps' below) (sym s.new_is) (other_pdus_stand m lines' ps ps' below told leaves)

  off_stands : (cause : Cause) (dropped : List Off) → LeavesOff m lines port hop.pdu cause dropped m' lines' → IsStanding m' lines' ps' below
  off_stands (causes.NoConnection cep) dropped s = subst (λ (z : ChannelsSeen). IsStanding z lines' ps' below) (sym s.3) (subst (λ (ls : List Direction). IsStanding m ls ps' below) (sym s.4) (other_pdus_stand m lines ps ps' below st leaves))
  off_stands (causes.Expired left charge) dropped s = piece_stands (Some (causes.Expired left charge)) dropped s
  off_stands (causes.NoRoute dst) dropped s = piece_stands (Some (causes.NoRoute dst)) dropped s
  off_stands (causes.QueueFull cap) dropped s = piece_stands (Some (causes.QueueFull cap)) dropped s
  off_stands (causes.Duplicate num) dropped s = piece_stands (Some (causes.Duplicate num)) dropped s
  off_stands (causes.Behind number) dropped s = piece_stands (Some (causes.Behind number)) dropped s
  off_stands (causes.NoState drf) dropped s = piece_stands (Some (causes.NoState drf)) dropped s
  off_stands (causes.NoRoom cap) dropped s = piece_stands (Some (causes.NoRoom cap)) dropped s
  off_stands (causes.StateGone last_in) dropped s = piece_stands (Some (causes.StateGone last_in)) dropped s
  off_stands (causes.Broken missing) dropped s = piece_stands (Some (causes.Broken missing)) dropped s
  off_stands (causes.LinkDown down) dropped s = piece_stands (Some (causes.LinkDown down)) dropped s

pub taking_on_links_stands : (m : ChannelsSeen) (lines : List Direction) (ps ps' : List Process) (below : Seen) (port : Port) (entry : Entry) (hop : Hop) (end : Took) (dropped : List Off) (m' : ChannelsSeen) (lines' : List Direction) → AreKept below → IsStanding m lines ps below → unpassed below port ≡ Some entry → opened m.config.widths entry.bytes ≡ Some hop → IsOfLink hop.pdu → m.clock - entry.tick ≤ hop.left → TakesOnLink m lines port hop.pdu end dropped m' lines' → LeavesLinks ps ps' → IsStanding m' lines' ps' below
taking_on_links_stands m lines ps ps' below port entry hop took.Accepted dropped m' lines' kept st oldest opens of in_time s leaves = elim s [
  | inl piece ↦ piece_stands m lines ps ps' below port entry hop m' lines' kept st oldest opens of in_time leaves None dropped piece
  | inr ack ↦ ack_stands m lines ps ps' below port entry hop m' lines' kept st oldest opens of in_time leaves ack.0
]
taking_on_links_stands m lines ps ps' below port entry hop took.Relayed dropped m' lines' kept st oldest opens of in_time s leaves = absurd s
taking_on_links_stands m lines ps ps' below port entry hop (took.Off cause) dropped m' lines' kept st oldest opens of in_time s leaves = off_stands m lines ps ps' below port entry hop m' lines' kept st oldest opens of in_time leaves cause dropped s

-- ---- the lines are lawful

either_small : (b : Bool) (x y : ℕ) → cond b (x % 2 ^ 32) (y % 2 ^ 32) < 2 ^ 32
either_small true x y = mod_below x (2 ^ 32) (omega arith)
either_small false x y = mod_below y (2 ^ 32) (omega arith)

missing_small : (p : Piece) (j : Joiner) → missing_for p j < 2 ^ 32
missing_small p j = either_small _ _ _

broken_is : (b g : Bool) (m : ℕ) (cause : Cause) → Some cause ≡ cond b None (cond g None (Some (causes.Broken m))) → cause ≡ causes.Broken m
broken_is true g m cause h = absurd cc
broken_is false true m cause h = absurd cc
broken_is false false m cause h = cc

some_is : (a b : Cause) → Some a ≡ Some b → a ≡ b
some_is a b h = cc

none_is : (a : Cause) → Some a ≡ None → ⊥
none_is a h = absurd cc

abbrev num_at : ℕ → ℕ → Num
num_at cep seq = record { cep = cep; seq = seq }

module _ (manage : Cube) (now : ℕ) (c : Constants) (line : Direction) (p : Piece) (key : Key) (cube_is : c.cube ≡ manage) (clock : line.line.clock ≡ now) (kind : key.kind ≡ APiece) where
  -- of a piece that was held
  dropped_cause : (b : Bool) → is_present c line.line.clock line.line.receiver ≡ b → (cause : Cause) → GivesUp c p line b cause → IsLinkCause manage now key cause
  dropped_cause false is (causes.StateGone last_in) h =
      let gone : line.line.receiver.last_in + 2 * delta_of c.cube ≤ line.line.clock = absent_after c line.line.clock line.line.receiver is h.0 in
      let last = h.1 in
      (kind, subst (λ (z : Cube). last_in + 2 * delta_of z ≤ now) cube_is (omega (arith, gone, last, clock)))
  dropped_cause true is (causes.Broken missing) h = (kind, subst (λ (n : ℕ). n < 2 ^ 32) (sym h) (missing_small p line.inbox.joiner))
  dropped_cause b is cause h = absurd h

  -- of the one that came
  came_cause : (v : Verdict) → c.cube.kind ≡ Reliable → key.seq ≡ p.number → key.scep ≡ c.cep → arrival_verdict c line.line p (has_room c line) ≡ v → (cause : Cause) → Some cause ≡ cause_by v c p line → IsLinkCause manage now key cause
  came_cause Accepted reliable seq scep is cause h =
      let j : Joiner = joiner_found c line in
      subst (IsLinkCause manage now key) (sym (broken_is p.part.begins (goes_on p.number j) (missing_for p j) cause h)) (kind, missing_small p j)
  came_cause Held reliable seq scep is cause h = absurd (none_is cause h)
  came_cause Duplicate reliable seq scep is cause h = subst (IsLinkCause manage now key) (sym (some_is cause _ h)) (kind, ap (λ (n : ℕ). num_at n p.number) (sym scep) ∙ ap (num_at key.scep) (sym seq))
  came_cause Behind reliable seq scep is cause h =
      let old = behind_old c.cube.kind (is_present c line.line.clock line.line.receiver) line.line.receiver p (has_room c line) is in
      absurd (subst (λ (k : Kind). IsTooOld k (highest line.line.receiver.accepted) p.number) reliable old)
  came_cause NoState reliable seq scep is cause h =
      let none = stateless c.cube.kind (is_present c line.line.clock line.line.receiver) line.line.receiver p (has_room c line) is in
      subst (IsLinkCause manage now key) (sym (some_is cause _ h)) (kind, none.2)
  came_cause NoRoom reliable seq scep is cause h = subst (IsLinkCause manage now key) (sym (some_is cause _ h)) (kind, ap (λ (z : Cube). z.window) cube_is)

cube_there : (b : Bool) (x y : Cube) → cond b (Some x) None ≡ Some y → y ≡ x
cube_there true x y h = cc
cube_there false x y h = absurd cc

-- the own line of a PDU that came
own_line : (pdu : Pdu) (cause : Option Cause) (off : Off) → In off (lines_for pdu cause) → (why : Cause) × (cause ≡ Some why) × (off ≡ line_for pdu why)
own_line pdu None off one = absurd one
own_line pdu (Some why) off (inl is) = (why, refl, is)
own_line pdu (Some why) off (inr none) = absurd none

piece_lines : (m : ChannelsSeen) (lines : List Direction) (ps : List Process) (below : Seen) (port : Port) (pdu : Pdu) (cause : Option Cause) (dropped : List Off) (m' : ChannelsSeen) (lines' : List Direction) → IsStanding m lines ps below → IsOfLink pdu → TakesPiece m lines port pdu cause dropped m' lines' → (off : Off) → In off (dropped ++ lines_for pdu cause) → IsLinkLine m.manage m.clock off
piece_lines m lines ps below port pdu cause dropped m' lines' st of s off one =
    let a = s.arrives in
    let its : Pdu = named s.channel.partner s.place pdu in
    let c : Constants = constants (config_of m) a.cube (flipped a.its_ids) in
    let p : Piece = piece_in its in
    let zero = far_zero m lines ps below s.place a.its_ids st a.place.is_conn.ids_are in
    let cube_is : a.cube ≡ m.manage = cube_there _ m.manage a.cube a.place.is_cube in
    let clock : a.line.line.clock ≡ m.clock = (journals (config_of m) m.clock _ [] m.ends m.ids lines st.own a.from s.place a.inbound.partner a.end a.line a.inbound.is_partner a.place.is_conn.end a.inbound.is_line a.inbound.partners).clock in
    elim (in_both dropped (lines_for pdu cause) off one) [
      | inl old ↦
          let x = in_map unnamed_line s.held off (subst (In off) s.dropped_are old) in
          let d = a.arrived.1 x.0 x.1 in
          let line : Off = unnamed_line x.0 in
          let its_line : IsLinkLine m.manage m.clock line = record { src = refl; scep = d.scep ∙ zero; why = dropped_cause m.manage m.clock c a.line p line.key cube_is clock d.kind (is_present c a.line.line.clock a.line.line.receiver) refl line.cause d.why } in
          subst (IsLinkLine m.manage m.clock) (sym x.2) its_line
      | inr new ↦
          let w = own_line pdu cause off new in
          let key : Key = key_of pdu in
          let seq : key.seq ≡ p.number = ap (λ (kind : PduKind). number_by kind pdu.seq pdu.ack) s.piece in
          let reliable : c.cube.kind ≡ Reliable = ap (λ (z : Cube). z.kind) cube_is ∙ st.managed.kind in
          let why = came_cause m.manage m.clock c a.line p key cube_is clock s.piece (arrival_verdict c a.line.line p (has_room c a.line)) reliable seq (of.scep ∙ sym zero) refl w.0 (sym w.1 ∙ a.arrived.0) in
          subst (IsLinkLine m.manage m.clock) (sym w.2) (record { src = of.src; scep = of.scep; why = why })
    ]

off_lines : (m : ChannelsSeen) (lines : List Direction) (ps : List Process) (below : Seen) (port : Port) (pdu : Pdu) (cause : Cause) (dropped : List Off) (m' : ChannelsSeen) (lines' : List Direction) → IsStanding m lines ps below → IsOfLink pdu → LeavesOff m lines port pdu cause dropped m' lines' → (off : Off) → In off (dropped ++ lines_for pdu (Some cause)) → IsLinkLine m.manage m.clock off
off_lines m lines ps below port pdu (causes.NoConnection cep) dropped m' lines' st of s off one =
    let alone : In off (line_for pdu (causes.NoConnection cep) ∷ []) = subst (λ (offs : List Off). In off (offs ++ line_for pdu (causes.NoConnection cep) ∷ [])) s.2 one in
    elim alone [
      | inl is ↦ subst (IsLinkLine m.manage m.clock) (sym is) (record { src = of.src; scep = of.scep; why = s.0 })
      | inr none ↦ absurd none
    ]
off_lines m lines ps below port pdu (causes.Expired left charge) dropped m' lines' st of s off one = piece_lines m lines ps below port pdu (Some (causes.Expired left charge)) dropped m' lines' st of s off one
off_lines m lines ps below port pdu (causes.NoRoute dst) dropped m' lines' st of s off one = piece_lines m lines ps below port pdu (Some (causes.NoRoute dst)) dropped m' lines' st of s off one
off_lines m lines ps below port pdu (causes.QueueFull cap) dropped m' lines' st of s off one = piece_lines m lines ps below port pdu (Some (causes.QueueFull cap)) dropped m' lines' st of s off one
off_lines m lines ps below port pdu (causes.Duplicate num) dropped m' lines' st of s off one = piece_lines m lines ps below port pdu (Some (causes.Duplicate num)) dropped m' lines' st of s off one
off_lines m lines ps below port pdu (causes.Behind number) dropped m' lines' st of s off one = piece_lines m lines ps below port pdu (Some (causes.Behind number)) dropped m' lines' st of s off one
off_lines m lines ps below port pdu (causes.NoState drf) dropped m' lines' st of s off one = piece_lines m lines ps below port pdu (Some (causes.NoState drf)) dropped m' lines' st of s off one
off_lines m lines ps below port pdu (causes.NoRoom cap) dropped m' lines' st of s off one = piece_lines m lines ps below port pdu (Some (causes.NoRoom cap)) dropped m' lines' st of s off one
off_lines m lines ps below port pdu (causes.StateGone last_in) dropped m' lines' st of s off one = piece_lines m lines ps below port pdu (Some (causes.StateGone last_in)) dropped m' lines' st of s off one
off_lines m lines ps below port pdu (causes.Broken missing) dropped m' lines' st of s off one = piece_lines m lines ps below port pdu (Some (causes.Broken missing)) dropped m' lines' st of s off one
off_lines m lines ps below port pdu (causes.LinkDown down) dropped m' lines' st of s off one = piece_lines m lines ps below port pdu (Some (causes.LinkDown down)) dropped m' lines' st of s off one

none_written : (off : Off) (dropped : List Off) → dropped ≡ [] → In off (dropped ++ []) → ⊥
none_written off dropped is one = subst (λ (offs : List Off). In off (offs ++ [])) is one

pub taking_on_links_is_lawful : (m : ChannelsSeen) (lines : List Direction) (ps : List Process) (below : Seen) (port : Port) (pdu : Pdu) (end : Took) (dropped : List Off) (m' : ChannelsSeen) (lines' : List Direction) → IsStanding m lines ps below → IsOfLink pdu → TakesOnLink m lines port pdu end dropped m' lines' → (off : Off) → In off (dropped ++ lines_for pdu (cause_told end)) → IsLinkLine m.manage m.clock off
taking_on_links_is_lawful m lines ps below port pdu took.Accepted dropped m' lines' st of s off one = elim s [
  | inl piece ↦ piece_lines m lines ps below port pdu None dropped m' lines' st of piece off one
  | inr ack ↦ absurd (none_written off dropped ack.1 one)
]
taking_on_links_is_lawful m lines ps below port pdu took.Relayed dropped m' lines' st of s off one = absurd s
taking_on_links_is_lawful m lines ps below port pdu (took.Off cause) dropped m' lines' st of s off one = off_lines m lines ps below port pdu cause dropped m' lines' st of s off one
