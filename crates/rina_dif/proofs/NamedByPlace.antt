-- The flows of management connections stay named by places: no end gets another name.
use Rattle.std.proofs.Common.{◌≡◌, ◌∙◌, ℕ, List, slice_get, slice_set, Option, None, refl, sym, ap, subst, arith, inl, inr}
use Rattle.rina_account.specs.declared.ledger.Off.{Off}
use Rattle.rina_base.specs.declared.cause.Cause.{Cause}
use Rattle.rina_base.specs.declared.cause.Cause.TheVariants as causes
use Rattle.rina_base.specs.declared.number.FlowName.{FlowName}
use Rattle.rina_base.specs.declared.number.Port.{Port}
use Rattle.rina_base.specs.declared.pdu.Pdu.{Pdu}
use Rattle.rina_channel.specs.Channels.{ChannelsSeen}
use Rattle.rina_channel.specs.Coming.{TakesOnLink, TakesPiece}
use Rattle.rina_data.specs.declared.step.Took.{Took}
use Rattle.rina_data.specs.declared.step.Took.TheVariants as took
use Rattle.rina_flows.specs.declared.flows.Flows.{Flows}
use Rattle.rina_iface.specs.declared.ends.End.{End}
use Rattle.rina_iface.specs.declared.ends.Journal.{Journal}
use Rattle.rina_iface.specs.Journal.{At}
use Rattle.rina_iface.proofs.Changed.{set_at}
use Rattle.rina_law.specs.Direction.{Direction}
use Rattle.rina_dif.specs.Connected.{AreNamedByPlace}

-- an end of the same flow stands in the place of another
pub named_set : (ends ends' : List End) (at : ℕ) (e e' : End) → At ends at e → e'.flow ≡ e.flow → ends' ≡ slice_set ends at e' → AreNamedByPlace ends → AreNamedByPlace ends'
named_set ends ends' at e e' is same are h k x here = elim (set_at ends at k e e' x is (ap (λ (es : List End). slice_get es k) (sym are) ∙ here)) [
  | inl t ↦
      (let low = h at e is in
      let place = t.0 in
      let src : x.flow.src ≡ e.flow.src = ap (λ (z : End). z.flow.src) t.1 ∙ ap (λ (f : FlowName). f.src) same in
      omega (arith, low, place, src))
  | inr u ↦ h k x u.1
]

-- the journal stays
pub named_journal : (old new : Flows) → new.journal ≡ old.journal → AreNamedByPlace old.journal.ends → AreNamedByPlace new.journal.ends
named_journal old new same h = subst (λ (j : Journal). AreNamedByPlace j.ends) (sym same) h

-- what comes on a link is taken
module _ (m : ChannelsSeen) (lines : List Direction) (port : Port) (pdu : Pdu) (dropped : List Off) (m' : ChannelsSeen) (lines' : List Direction) where
  seen_named : (z : ChannelsSeen) → m' ≡ z → z.ends ≡ m.ends → AreNamedByPlace m.ends → AreNamedByPlace m'.ends
  seen_named z is same h = subst AreNamedByPlace (sym (ap (λ (y : ChannelsSeen). y.ends) is ∙ same)) h

  piece_named : (cause : Option Cause) → TakesPiece m lines port pdu cause dropped m' lines' → AreNamedByPlace m.ends → AreNamedByPlace m'.ends
  piece_named cause s h = (let a = s.arrives in named_set m.ends m'.ends s.place a.end _ a.place.is_conn.end refl (ap (λ (z : ChannelsSeen). z.ends) s.new_is ∙ a.arrived.2) h)

  pub taken_named : (end : Took) → TakesOnLink m lines port pdu end dropped m' lines' → AreNamedByPlace m.ends → AreNamedByPlace m'.ends
  taken_named took.Accepted (inl s) h = piece_named None s h
  taken_named took.Accepted (inr s) h = seen_named _ s.0.new_is refl h
  taken_named took.Relayed s h = absurd s
  taken_named (took.Off (causes.NoConnection cep)) s h = seen_named m s.3 refl h
  taken_named (took.Off (causes.Expired left charge)) s h = piece_named _ s h
  taken_named (took.Off (causes.NoRoute dst)) s h = piece_named _ s h
  taken_named (took.Off (causes.QueueFull cap)) s h = piece_named _ s h
  taken_named (took.Off (causes.Duplicate num)) s h = piece_named _ s h
  taken_named (took.Off (causes.Behind number)) s h = piece_named _ s h
  taken_named (took.Off (causes.NoState drf)) s h = piece_named _ s h
  taken_named (took.Off (causes.NoRoom cap)) s h = piece_named _ s h
  taken_named (took.Off (causes.StateGone last_in)) s h = piece_named _ s h
  taken_named (took.Off (causes.Broken missing)) s h = piece_named _ s h
  taken_named (took.Off (causes.LinkDown down)) s h = piece_named _ s h
