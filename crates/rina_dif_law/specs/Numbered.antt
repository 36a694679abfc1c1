-- The names that a DIF gives: addresses, CEP-ids, and the names of its flows.
use Rattle.std.specs.Prelude.{◌≡◌, ℕ, ◌^◌, ◌*◌, ◌-◌, ◌<◌, ◌≤◌, ◌⊎◌, ◌==◌, ◌&&◌, Bool, true, false, List, count_by, length, slice_get, Some}
use Rattle.rina_base.specs.declared.pdu.Pdu.{Pdu}
use Rattle.rina_iface.specs.declared.ends.End.{End}
use Rattle.rina_iface.specs.declared.state.Role.{Role}
use Rattle.rina_iface.specs.declared.state.Role.TheVariants.{Asker, Far}
use Rattle.rina_iface.specs.Ends.{drawn_at}
use Rattle.rina_iface.specs.Journal.{At}
use Rattle.rina_iface.specs.Seen.{Seen}
use Rattle.rina_ids.specs.Members.{CepIds}
use Rattle.rina_dif_law.specs.Cloud.{Cloud, Everywhere}
use Rattle.rina_data.specs.Configs.{Config, Member}
use Rattle.rina_dif_law.specs.Dif.{DifSeen}
use Rattle.rina_dif_law.specs.Ids.{Ids}
use Rattle.rina_dif_law.specs.Sending.{home}
use Rattle.rina_dif_law.specs.Standing.{IsConn}

-- no two members have one address, one node or one name, each address is above 0 and fits its field, and no node may draw more
-- ports for fixed flows than a member has CEP-ids
pub record AreMembers (g : Config) : Type 0 where
  pub addrs : (i k : ℕ) (a b : Member) → slice_get g.members i ≡ Some a → slice_get g.members k ≡ Some b → a.addr ≡ b.addr → i ≡ k
  pub nodes : (i k : ℕ) (a b : Member) → slice_get g.members i ≡ Some a → slice_get g.members k ≡ Some b → a.node ≡ b.node → i ≡ k
  pub names : (i k : ℕ) (a b : Member) → slice_get g.members i ≡ Some a → slice_get g.members k ≡ Some b → a.name ≡ b.name → i ≡ k
  pub least : (i : ℕ) (a : Member) → slice_get g.members i ≡ Some a → 1 ≤ a.addr
  pub fit : (i : ℕ) (a : Member) → slice_get g.members i ≡ Some a → a.addr < 2 ^ (8 * g.widths.addr)
  pub ceps : g.admits < 2 ^ (8 * g.widths.cep)

-- the own address of an end's connection is that of the member at its node
pub record IsAddressed (g : Config) (e : End) (ids : Ids) : Type 0 where
  pub place : ℕ
  pub member : Member
  pub at_home : home e.port.node g.members ≡ Some place
  pub stands : slice_get g.members place ≡ Some member
  pub addr : ids.own ≡ member.addr

abbrev pub is_asker : Role → Bool
is_asker Asker = true
is_asker Far = false

-- how many flows were asked for at a node
abbrev pub asked_at : ℕ → List End → ℕ
asked_at node ends = count_by (λ (e : End). (e.port.node == node) && is_asker e.role) ends

-- a member asked for the flow of an end, and its count is one of those that were given there
pub record IsCounted (g : Config) (ends : List End) (e : End) : Type 0 where
  pub place : ℕ
  pub member : Member
  pub stands : slice_get g.members place ≡ Some member
  pub addr : member.addr ≡ e.flow.src
  pub count : e.flow.count < asked_at member.node ends

-- each member has CEP-ids up to the greatest of their width, of which it drew no more than ports were drawn at its node
pub record AreDrawn (g : Config) (ends : List End) (held : List CepIds) : Type 0 where
  pub aligned : length held ≡ length g.members
  pub greatest : (i : ℕ) (ids : CepIds) → slice_get held i ≡ Some ids → ids.0 ≡ 2 ^ (8 * g.widths.cep) - 1
  pub few : (i : ℕ) (member : Member) (ids : CepIds) → slice_get g.members i ≡ Some member → slice_get held i ≡ Some ids → length ids.1 ≤ drawn_at member.node ends

-- a PDU is one of management, which has CEP-id 0, or names a connection of the DIF as its source
pub record IsOfConn (conns : List Ids) (pdu : Pdu) : Type 0 where
  pub at : ℕ
  pub ids : Ids
  pub stands : slice_get conns at ≡ Some ids
  pub src : pdu.src ≡ ids.own
  pub scep : pdu.scep ≡ ids.scep

abbrev pub IsFromHere : List Ids → Pdu → Type 0
IsFromHere conns pdu = (pdu.scep ≡ 0) ⊎ IsOfConn conns pdu

-- a DIF is numbered: so no flow has the name that is given next, and each member has a CEP-id for the port that is drawn next
pub record IsNumbered (d : DifSeen) (below : Seen) : Type 0 where
  pub members : AreMembers d.config
  pub addressed : (i : ℕ) (e : End) (ids : Ids) → IsConn d.ends d.conns i e ids → IsAddressed d.config e ids
  pub counted : (i : ℕ) (e : End) → At d.ends i e → IsCounted d.config d.ends e
  pub drawn : AreDrawn d.config d.ends d.ids
  pub named : (death : ℕ) (pdu : Pdu) → Cloud Everywhere d.config d.processes below death pdu → IsFromHere d.conns pdu
