-- A time-out comes when the ask has waited its whole time, and a late yes is given back.
use Rattle.std.proofs.Common.{List, Ok, refl, sym, ap, subst, inl, inr}
use Rattle.rina_alloc.specs.declared.answer.FlowAnswer.TheVariants as answers
use Rattle.rina_alloc.specs.declared.message.FlowWord.{FlowWord}
use Rattle.rina_alloc.specs.declared.message.FlowWord.TheVariants as words
use Rattle.rina_dif_law.specs.Dif.{DifSeen}
use Rattle.rina_iface.specs.declared.ends.End.{End}
use Rattle.rina_iface.specs.declared.state.PortState.TheVariants.{Refused}
use Rattle.rina_iface.specs.declared.state.Why.TheVariants.{Timeout}
use Rattle.rina_iface.specs.Journal.{At}
use Rattle.rina_iface.proofs.Changed.{slice_get-set_same}
use Rattle.rina_dif.specs.FlowMessages.{HandlesWord}
use Rattle.rina_asked.specs.Late.{LateYesesGoBack, TimeOutsComeLate}

pub time_outs_come_late : TimeOutsComeLate
time_outs_come_late d d' lines below below' node port c =
    let t = c.keeps in
    let w = t.first.is_late.waited in
    let turned = t.turns_down.turned in
    let ends = ap (λ (s : DifSeen). s.ends) turned.new_is in
    let after : End = record turned.end { state = Refused (Timeout w.end.flow.tick d.clock) } in
    record {
      place = t.first.is_late.ask.place;
      end = w.end;
      stands = w.is_end;
      port_is = sym t.port_is;
      waits = w.waits;
      whole = w.late;
      after = after;
      is_after = subst (λ (es : List End). At es t.first.is_late.ask.place after) (sym ends) (slice_get-set_same d.flows.journal.ends t.first.is_late.ask.place turned.end after turned.is_end);
      refused = refl;
    }

pub late_yeses_go_back : LateYesesGoBack
late_yeses_go_back d d' lines lines' below i member m invoke cep scep is to word none h =
    let handled : HandlesWord d lines below i m.from (words.Answer invoke (answers.Yes cep scep)) (Ok tt) d' = subst (λ (w : FlowWord). HandlesWord d lines below i m.from w (Ok tt) d') word (h.own member is to) in
    elim handled [
      | inl t ↦ absurd (none t.which t.first.is_ask)
      | inr n ↦ n.1.ok member is
    ]
