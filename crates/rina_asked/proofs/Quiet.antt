-- The changes of a DIF in which no ask begins to be on its way, and what they keep.
use Rattle.std.proofs.Common.{◌≡◌, ◌∙◌, inr, ℕ, List, length, sym, ap}
use Rattle.rina_dif_law.specs.Dif.{DifSeen}
use Rattle.rina_dif_law.specs.Ids.{Ids}
use Rattle.rina_iface.specs.Seen.{Seen}
use Rattle.rina_law.specs.Direction.{Direction}
use Rattle.rina_flows.specs.declared.flows.Flows.{Flows}
use Rattle.rina_dif.specs.declared.dif.Dif.{Dif}
use Rattle.rina_dif.specs.Facade.{GoesOn}
use Rattle.rina_dif.specs.Holding.{Holds}
use Rattle.rina_dif.specs.Shown.{seen_of}
use Rattle.rina_asked.specs.Alone.{AreAlone}
use Rattle.rina_asked.specs.Ends.{HaveEnds}
use Rattle.rina_asked.specs.Messages.{IsOnLink, IsOnWay}
use Rattle.rina_asked.proofs.Askers.{KeepAskers}
use Rattle.rina_asked.proofs.Fewer.{Balanced, FewerOnWay, alone_by, balanced_later, balanced_same, fewer_both}
use Rattle.rina_asked.proofs.Keeps.{asked_by}
use Rattle.rina_asked.proofs.Links.{NoMoreOnLinks}
use Rattle.rina_asked.proofs.Texts.{other_asked}
use Rattle.rina_asked.proofs.Waiting.{Adds, IsOther}

pub record IsQuiet (d d' : Dif) : Type 0 where
  pub askers : KeepAskers d d'
  pub ends : Balanced d.flows.journal.ends d'.flows.journal.ends
  pub adds : Adds IsOther d.managements d'.managements
  pub way : (text : List ℕ) → IsOnLink d' text → IsOnWay d text
  pub fewer : FewerOnWay d d'

pub quiet_by : (d d' : Dif) → KeepAskers d d' → Balanced d.flows.journal.ends d'.flows.journal.ends → Adds IsOther d.managements d'.managements → NoMoreOnLinks d d' → IsQuiet d d'
quiet_by d d' askers ends adds links = record { askers = askers; ends = ends; adds = adds; way = λ text on. inr (links.more text on); fewer = fewer_both d d' adds links }

-- what lasts through them
abbrev pub Lasts : (Dif → Type 0) → Type 0
Lasts P = (d d' : Dif) → IsQuiet d d' → P d → P d'

pub ends_last : Lasts HaveEnds
ends_last d d' q = asked_by IsOther d d' q.askers q.adds (λ w text has other sdu. other_asked d' w.message text other sdu) q.way

pub alone_lasts : Lasts AreAlone
alone_lasts d d' q = alone_by d d' q.fewer q.ends

-- or only through those in which the same asks wait on
abbrev pub LastsSame : (Dif → Type 0) → Type 0
LastsSame P = (d d' : Dif) → IsQuiet d d' → d'.asks ≡ d.asks → P d → P d'

pub lasts_same : (P : Dif → Type 0) → Lasts P → LastsSame P
lasts_same P lasts d d' q same = lasts d d' q

-- The ends

pub ends_flows : (d d' : Dif) → d'.flows ≡ d.flows → Balanced d.flows.journal.ends d'.flows.journal.ends
ends_flows d d' same = balanced_same d.flows.journal.ends d'.flows.journal.ends (ap (λ (z : Flows). z.journal.ends) same)

pub ends_seen : (d d' : Dif) → seen_of d' ≡ seen_of d → Balanced d.flows.journal.ends d'.flows.journal.ends
ends_seen d d' same = balanced_same d.flows.journal.ends d'.flows.journal.ends (ap (λ (z : DifSeen). z.ends) same)

-- as many connections are as many ends
pub as_long : (d d' : Dif) (lines lines' : List Direction) (below below' : Seen) → Holds d lines below → Holds d' lines' below' → (seen_of d').conns ≡ (seen_of d).conns → length d'.flows.journal.ends ≡ length d.flows.journal.ends
as_long d d' lines lines' below below' h h' same = sym h'.standing.own.alike ∙ ap (λ (ids : List Ids). length ids) same ∙ h.standing.own.alike

pub ends_go_on : (d d' : Dif) → GoesOn d d' → length d'.flows.journal.ends ≡ length d.flows.journal.ends → Balanced d.flows.journal.ends d'.flows.journal.ends
ends_go_on d d' goes long = balanced_later d.clock d'.clock d.flows.journal.ends d'.flows.journal.ends goes.later.ends long
