-- The cloud of the management connections: the PDUs that may still come to an end of one, by the places of the ends.
use Rattle.std.specs.Prelude.{◌≡◌, ℕ, ◌⊎◌, List, slice_get, Some}
use Rattle.rina_base.specs.declared.pdu.Pdu.{Pdu}
use Rattle.rina_iface.specs.Seen.{Seen}
use Rattle.rina_data.specs.Configs.{Config}
use Rattle.rina_data.specs.Process.{Process}
use Rattle.rina_dif_law.specs.Cloud.{IsOnWay, IsQueued, OneLink, Scope}
use Rattle.rina_dif_law.specs.Ids.{IsOfLink}
use Rattle.rina_channel.specs.declared.channel.Attachment.{Attachment}
use Rattle.rina_channel.specs.declared.channel.Channel.{Channel}
use Rattle.rina_channel.specs.Channels.{HasLive}
use Rattle.rina_channel.specs.Names.{named}

-- the link of a channel
abbrev pub scope_of : Channel → Attachment → Scope
scope_of c link = OneLink c.member link.number link.port

-- a PDU waits for the link of a channel, while that is live, or was sent on it. On a channel with no link there is none
pub record IsOn (g : Config) (processes : List Process) (below : Seen) (channel : Channel) (death : ℕ) (pdu : Pdu) : Type 0 where
  pub link : Attachment
  pub link_is : channel.link ≡ Some link
  pub here : (HasLive processes channel.member link.number link.port × IsQueued (scope_of channel link) processes death pdu) ⊎ IsOnWay (scope_of channel link) g below death pdu

-- the PDU is one that the end at a place sent to its partner: on their link stands the same without the names
pub record LinkCloud (g : Config) (channels : List Channel) (processes : List Process) (below : Seen) (death : ℕ) (pdu : Pdu) : Type 0 where
  pub place : ℕ
  pub channel : Channel
  pub stands : slice_get channels place ≡ Some channel
  pub plain : Pdu
  pub of_link : IsOfLink plain
  pub here : IsOn g processes below channel death plain
  pub is : pdu ≡ named place channel.partner plain
