-- A piece that begins and ends its SDU, which no held one follows.
use Rattle.std.proofs.Common.{◌≡◌, ◌+◌, ◌∙◌, Bool, true, false, not, refl, sym, ap, subst}
use Rattle.rina_base.specs.Pdus.{pdu_of}
use Rattle.rina_dtp.specs.Accepted.{is_held}
use Rattle.rina_dtp.specs.Receiving.{Receiving}
use Rattle.rina_dtp.proofs.Ahead.{one_ahead}
use Rattle.rina_dtp.proofs.rx.Rx.is_alone.Goals.{then-pdu, else-pdu}
use Rattle.rina_dtp.proofs.rx.Rx.is_alone.Goals as goal

fails : (b : Bool) → not b ≡ true → b ≡ false
fails true e = absurd cc
fails false e = refl

pub returns-then-pdu-2 : goal.returns-then-pdu-2
returns-then-pdu-2 c =
    let pdu = c.args.pdu.now in
    let H : Receiving → Type 0 = λ r. c.holds.result ≡ is_held r.accepted (pdu.seq + 1) in
    let held : c.holds.result ≡ is_held c.args.self.now.accepted (pdu.seq + 1) = subst H c.self.view_is (c.holds.ensures ∙ ap (λ n. is_held c.self.inside.accepted (n + 1)) c.from.ensures) in
    elim c.if-pdu.branch [
      | then-pdu w ↦ record { alone = λ now unpassed free accepted. one_ahead now (pdu_of pdu) unpassed c.args.self.now w.if-pdu.true (sym w.value-is ∙ c.if-pdu-2.true) (sym held ∙ fails c.holds.result free) accepted }
      | else-pdu w ↦ absurd cc
    ]
