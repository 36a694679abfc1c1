-- What a management connection writes off are lines of its link.
use Rattle.std.proofs.Common.{◌≡◌, ℕ, List, [], ◌∷◌, ◌++◌, map, slice_get, Some, None, Option, refl, sym, ◌∙◌, ap, subst, inl, inr, ◌⊎◌}
use Rattle.rina_account.specs.declared.ledger.Off.{Off}
use Rattle.rina_base.specs.declared.cause.Cause.{Cause}
use Rattle.rina_base.specs.declared.pdu.Pdu.{Pdu}
use Rattle.rina_iface.specs.declared.ends.End.{End}
use Rattle.rina_iface.specs.declared.state.PortState.{PortState}
use Rattle.rina_iface.specs.Seen.{Seen}
use Rattle.rina_law.specs.Direction.{Direction}
use Rattle.rina_law.specs.Lists.{In}
use Rattle.rina_data.specs.Process.{Process, with_offs}
use Rattle.rina_dif_law.specs.Ids.{Ids}
use Rattle.rina_dif_law.specs.Incoming.{lines_for}
use Rattle.rina_dif_law.proofs.Finding.{beside}
use Rattle.rina_dif_law.proofs.Own.{partner_back}
use Rattle.rina_flows.specs.Ending.{EndsAt, ForgetsAt}
use Rattle.rina_flows.specs.Rows.{ArrivesAt, TakesAt}
use Rattle.rina_channel.specs.Channels.{ChannelsSeen}
use Rattle.rina_channel.specs.Changes.{LeavesLinks}
use Rattle.rina_channel.specs.FlowLaws.{AreLinesOfLinks, NotesLinks}
use Rattle.rina_channel.specs.Ledgers.{unnamed_line}
use Rattle.rina_channel.specs.Names.{names_at}
use Rattle.rina_channel.specs.Rows.{config_of}
use Rattle.rina_channel.specs.Standing.{IsStanding}
use Rattle.rina_channel.proofs.Putting.{leaves_same}
use Rattle.rina_channel.proofs.Rows.{in_map}

ids_same : (o : Option Ids) (a b : Ids) → o ≡ Some a → o ≡ Some b → a ≡ b
ids_same o a b h g = cc

-- lines with CEP-id 0 are lines of links, once they have no source
unnamed_are : (offs : List Off) → ((off : Off) → In off offs → off.key.scep ≡ 0) → AreLinesOfLinks (map unnamed_line offs)
unnamed_are offs all off one =
    let m = in_map unnamed_line offs off one in
    (ap (λ (z : Off). z.key.src) m.2, ap (λ (z : Off). z.key.scep) m.2 ∙ all m.0 m.1)

-- the far CEP-id of an end of a link is 0
pub far_zero : (m : ChannelsSeen) (lines : List Direction) (ps : List Process) (below : Seen) (k : ℕ) (ids : Ids) → IsStanding m lines ps below → slice_get m.ids k ≡ Some ids → ids.dcep ≡ 0
far_zero m lines ps below k ids st is =
    let c = beside m.ids m.channels k ids (st.channels.alike ∙ sym st.own.alike) is in
    ap (λ (z : Ids). z.dcep) (ids_same (slice_get m.ids k) ids (names_at k c.0.partner) is (st.channels.names k c.0 c.1))

pub in_both : {X : Type 0} (xs ys : List X) (x : X) → In x (xs ++ ys) → In x xs ⊎ In x ys
in_both [] ys x h = inr h
in_both (z ∷ zs) ys x (inl is) = inl (inl is)
in_both (z ∷ zs) ys x (inr more) = elim (in_both zs ys x more) [ inl o ↦ inl (inr o) | inr n ↦ inr n ]

own_line : (pdu : Pdu) (cause : Option Cause) (off : Off) → pdu.scep ≡ 0 → In off (lines_for pdu cause) → off.key.scep ≡ 0
own_line pdu None off scep h = absurd h
own_line pdu (Some cause) off scep (inl is) = ap (λ (z : Off). z.key.scep) is ∙ scep
own_line pdu (Some cause) off scep (inr none) = absurd none

pub arrivals_note_links : (m : ChannelsSeen) (lines : List Direction) (ps : List Process) (below : Seen) (k : ℕ) (end : End) (ids : Ids) (pdu : Pdu) (cause : Option Cause) (offs : List Off) (ends' : List End) (lines' : List Direction) → IsStanding m lines ps below → TakesAt m.ends m.ids pdu k end ids → ArrivesAt (config_of m) m.ends m.ids lines k pdu cause offs ends' lines' → AreLinesOfLinks (map unnamed_line (offs ++ lines_for pdu cause))
arrivals_note_links m lines ps below k end ids pdu cause offs ends' lines' st takes a =
    let near = far_zero m lines ps below k a.its_ids st a.place.is_conn.ids_are in
    let far = far_zero m lines ps below k ids st takes.is_conn.ids_are in
    unnamed_are (offs ++ lines_for pdu cause) (λ off one. elim (in_both offs (lines_for pdu cause) off one) [
      | inl o ↦ (a.arrived.1 off o).scep ∙ near
      | inr n ↦ own_line pdu cause off (takes.names.scep ∙ far) n
    ])

pub forgetting_notes_links : (m : ChannelsSeen) (lines : List Direction) (ps : List Process) (below : Seen) (k : ℕ) (offs : List Off) (lines' : List Direction) → IsStanding m lines ps below → ForgetsAt (config_of m) m.ends m.ids lines k offs lines' → AreLinesOfLinks (map unnamed_line offs)
forgetting_notes_links m lines ps below k offs lines' st f =
    let zero = far_zero m lines ps below k f.its_ids st f.place.is_conn.ids_are in
    unnamed_are offs (λ off one. (f.offs_are off one).2 ∙ zero)

pub ending_notes_links : (m : ChannelsSeen) (lines : List Direction) (ps : List Process) (below : Seen) (k : ℕ) (state : PortState) (offs : List Off) (ends' : List End) → IsStanding m lines ps below → EndsAt m.ends m.ids lines k state offs ends' → AreLinesOfLinks (map unnamed_line offs)
ending_notes_links m lines ps below k state offs ends' st e =
    let zero = far_zero m lines ps below k e.its_ids st e.is_conn.ids_are in
    let p = st.journal.allocated k e.end e.is_conn.end e.allocated in
    let line = beside m.ends lines p.place p.other st.own.lines_alike p.stands in
    unnamed_are offs (λ off one. (e.offs_are off p.place line.0 one (record { partner = p.other; is_partner = p.stands; partners = partner_back e.end p.other p.partner; is_line = line.1 })).2 ∙ zero)

pub noting_leaves_links : (old : List Process) (i : ℕ) (new : List Process) → NotesLinks old i new → LeavesLinks old new
noting_leaves_links old i new s = subst (LeavesLinks old) (sym s.new_is) (leaves_same old i s.process (with_offs s.process s.offs) s.is_process refl refl)
