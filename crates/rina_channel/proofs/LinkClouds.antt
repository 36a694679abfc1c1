-- What a call does to the cloud of the links.
use Rattle.std.proofs.Common.{◌≡◌, ℕ, List, [], slice_get, Some, sym, subst, arith, inl, inr, ◌⊎◌}
use Rattle.rina_base.specs.declared.number.Port.{Port}
use Rattle.rina_base.specs.declared.pdu.Pdu.{Pdu}
use Rattle.rina_iface.specs.Seen.{Seen}
use Rattle.rina_law.specs.declared.entry.Entry.{Entry}
use Rattle.rina_law.specs.Backed.{Covers}
use Rattle.rina_queue.specs.declared.queue.Queued.{Queued}
use Rattle.rina_data.specs.Configs.{Config}
use Rattle.rina_data.specs.Process.{Process}
use Rattle.rina_dif_law.proofs.After.{IsAfter, NoMore, after_none}
use Rattle.rina_dif_law.proofs.Clouds.{IsGiven, IsPut, NoItem, Requeued, cloud_after, requeued_none}
use Rattle.rina_dif_law.specs.Cloud.{IsOnWay, IsQueued}
use Rattle.rina_dif_law.specs.Ids.{IsOfLink}
use Rattle.rina_channel.specs.declared.channel.Attachment.{Attachment}
use Rattle.rina_channel.specs.declared.channel.Channel.{Channel}
use Rattle.rina_channel.specs.Changes.{LeavesLinks}
use Rattle.rina_channel.specs.Channels.{HasLive}
use Rattle.rina_channel.specs.LinkCloud.{IsOn, LinkCloud, scope_of}
use Rattle.rina_channel.specs.Names.{named}

-- no link becomes live
abbrev pub LiveBefore : List Process → List Process → Type 0
LiveBefore old new = (i n : ℕ) (port : Port) → HasLive new i n port → HasLive old i n port

none_at : {X : Type 0} (i : ℕ) (x : X) → slice_get [] i ≡ Some x → ⊥
none_at i x h = cc

-- a PDU waits for a link of the IPC process at a place, while that is live, or was sent on it
abbrev IsOnLink : Config → List Process → Seen → Channel → Attachment → ℕ → Pdu → Type 0
IsOnLink g ps below channel link death pdu = (HasLive ps channel.member link.number link.port × IsQueued (scope_of channel link) ps death pdu) ⊎ IsOnWay (scope_of channel link) g below death pdu

-- a PDU that was queued in a call for it, or sent there
abbrev IsNewOnLink : Config → (ℕ → ℕ → Queued → Type 0) → (Port → Entry → Type 0) → List Process → Seen → Channel → Attachment → ℕ → Pdu → Type 0
IsNewOnLink g items entries ps old channel link death pdu = (HasLive ps channel.member link.number link.port × IsPut (scope_of channel link) items death pdu) ⊎ IsGiven (scope_of channel link) g old entries death pdu

link_step : (g : Config) (items : ℕ → ℕ → Queued → Type 0) (entries : Port → Entry → Type 0) (ps ps' : List Process) (old new : Seen) (channel : Channel) (link : Attachment) (death : ℕ) (pdu : Pdu) → Requeued items ps ps' → LiveBefore ps ps' → IsAfter g entries old new → IsOnLink g ps' new channel link death pdu → IsOnLink g ps old channel link death pdu ⊎ IsNewOnLink g items entries ps old channel link death pdu
link_step g items entries ps ps' old new channel link death pdu moved live after (inl q) =
    let was = live channel.member link.number link.port q.0 in
    elim (cloud_after (scope_of channel link) g items NoMore ps ps' old old death pdu moved (after_none g old) (inl q.1)) [
      | inl (inl o) ↦ inl (inl (was, o))
      | inl (inr o) ↦ inl (inr o)
      | inr (inl put) ↦ inr (inl (was, put))
      | inr (inr none) ↦ absurd none.new
    ]
link_step g items entries ps ps' old new channel link death pdu moved live after (inr w) =
    elim (cloud_after (scope_of channel link) g NoItem entries [] [] old new death pdu (requeued_none []) after (inr w)) [
      | inl (inl o) ↦ absurd (none_at o.process o.waits.process o.waits.is_process)
      | inl (inr o) ↦ inl (inr o)
      | inr (inl none) ↦ absurd none.new
      | inr (inr given) ↦ inr (inr given)
    ]

-- so on a channel
pub record IsNewOn (g : Config) (items : ℕ → ℕ → Queued → Type 0) (entries : Port → Entry → Type 0) (ps : List Process) (old : Seen) (channel : Channel) (death : ℕ) (pdu : Pdu) : Type 0 where
  pub link : Attachment
  pub link_is : channel.link ≡ Some link
  pub made : (HasLive ps channel.member link.number link.port × IsPut (scope_of channel link) items death pdu) ⊎ IsGiven (scope_of channel link) g old entries death pdu

on_after : (g : Config) (items : ℕ → ℕ → Queued → Type 0) (entries : Port → Entry → Type 0) (ps ps' : List Process) (old new : Seen) (channel : Channel) (death : ℕ) (pdu : Pdu) → Requeued items ps ps' → LiveBefore ps ps' → IsAfter g entries old new → IsOn g ps' new channel death pdu → IsOn g ps old channel death pdu ⊎ IsNewOn g items entries ps old channel death pdu
on_after g items entries ps ps' old new channel death pdu moved live after x = elim (link_step g items entries ps ps' old new channel x.link death pdu moved live after x.here) [
  | inl o ↦ inl (record { link = x.link; link_is = x.link_is; here = o })
  | inr n ↦ inr (record { link = x.link; link_is = x.link_is; made = n })
]

-- what is new on a link is made now, or was in the cloud before
abbrev pub NewIs : Config → List Channel → (ℕ → ℕ → Queued → Type 0) → (Port → Entry → Type 0) → List Process → Seen → (ℕ → ℕ → Pdu → Type 0) → Type 0
NewIs g channels items entries ps old told = (k : ℕ) (channel : Channel) (death : ℕ) (plain : Pdu) → slice_get channels k ≡ Some channel → IsOfLink plain → IsNewOn g items entries ps old channel death plain → told k death (named k channel.partner plain)

-- the cloud after a call: what was there, or what is told of what is new
pub link_after : (g : Config) (channels : List Channel) (items : ℕ → ℕ → Queued → Type 0) (entries : Port → Entry → Type 0) (ps ps' : List Process) (old new : Seen) (told : ℕ → ℕ → Pdu → Type 0) (death : ℕ) (pdu : Pdu) → Requeued items ps ps' → LiveBefore ps ps' → IsAfter g entries old new → NewIs g channels items entries ps old told → LinkCloud g channels ps' new death pdu → LinkCloud g channels ps old death pdu ⊎ ((k : ℕ) × told k death pdu)
link_after g channels items entries ps ps' old new told death pdu moved live after news x = elim (on_after g items entries ps ps' old new x.channel death x.plain moved live after x.here) [
  | inl o ↦ inl (record { place = x.place; channel = x.channel; stands = x.stands; plain = x.plain; of_link = x.of_link; here = o; is = x.is })
  | inr n ↦ inr (x.place, subst (told x.place death) (sym x.is) (news x.place x.channel death x.plain x.stands x.of_link n))
]

-- only PDUs that are of no link are queued, and nothing is sent
pub link_covers : (g : Config) (channels : List Channel) (now : ℕ) (ps ps' : List Process) (old new : Seen) → LeavesLinks ps ps' → IsAfter g NoMore old new → Covers now (LinkCloud g channels ps old) (LinkCloud g channels ps' new)
link_covers g channels now ps ps' old new leaves after death pdu x alive =
    elim (link_after g channels (λ i n item. IsOfLink item.pdu → ⊥) NoMore ps ps' old new (λ k d p. ⊥) death pdu leaves.waits leaves.live after
    (λ k channel d plain is of_link n. elim (n.made) [
      | inl put ↦ put.1.new (subst IsOfLink (sym put.1.is) of_link)
      | inr none ↦ none.new
    ]) x) [
      | inl o ↦ (death, omega arith, o)
      | inr none ↦ absurd none.1
    ]

pub leaves_refl : (ps : List Process) → LeavesLinks ps ps
leaves_refl ps = record { waits = λ i n item w. inl w; live = λ i n port l. l }
