-- What waited is read, and what the piece brings.
use Rattle.std.proofs.Common.{◌∙◌, List, ℕ, ap, drop, subst, sym}
use Rattle.std.proofs.lemmas.List.{take_rest}
use Rattle.rina_base.specs.Pdus.{pdu_of}
use Rattle.rina_law.specs.declared.entry.Entry.{Entry}
use Rattle.rina_dif.specs.Handling.{IsToldAhead}
use Rattle.rina_dif.proofs.FlowMessages.{brings_both}
use Rattle.rina_dif.proofs.dif.Dif.messages_ahead.Goals as goal

pub returns : goal.returns
returns c =
    let d = c.args.self.now in
    let end = c.in-Some.end.now in
    let bodies = c.as_slice-2.result.now in
    let told : IsToldAhead d c.args.place (pdu_of c.args.pdu.now) bodies = subst (λ (bs : List (List ℕ)). IsToldAhead d c.args.place (pdu_of c.args.pdu.now) bs) (sym c.as_slice-2.ensures) c.in_ok-bodies.ensures in
    brings_both d c.args.place (pdu_of c.args.pdu.now) end _ bodies c.new-messages.result.items c.add_came.new.messages.items c.add_bodies.new.messages.items c.in-Some.ensures (take_rest c.as_slice.result.now end.taken ∙ ap (λ (es : List Entry). drop end.taken es) c.as_slice.ensures) c.new-messages.ensures.items c.in_ok-add_came.ensures told c.in_ok-add_bodies.ensures
