use Rattle.std.proofs.Common.{◌≡◌, subst, List, ℕ, Result, Ok, Err, IfOk, ◌<◌, ◌^◌}
use Rattle.rina_base.specs.Pdus.{pdu_of}
use Rattle.rina_base.specs.declared.memory.Memory.{Memory}
use Rattle.rina_base.specs.declared.pdu.Pdu.{Pdu}
use Rattle.rina_dtp.specs.declared.verdict.Verdict.{Verdict}
use Rattle.rina_dtp.specs.Joins.{IsForward, bytes_of}
use Rattle.rina_dtp.specs.Receiving.{Receiving, cleared, Steps}
use Rattle.rina_dtp.specs.Stands.{IsAhead}
use Rattle.rina_dtp.proofs.Ahead.{is_ahead}
use Rattle.rina_dtp.proofs.rx.Rx.ahead_by_copy.Goals as goal

ahead_where : (r : Result (List (List ℕ)) Memory) (now : ℕ) (pdu : Pdu) (unpassed : ℕ) (old copy : Receiving) (answer : Verdict) (new : Receiving) → pdu.seq < 2 ^ 32 → (IsForward old.join.joining.held → copy ≡ cleared old) → Steps now pdu unpassed copy answer new → IfOk r (λ b. b ≡ bytes_of new.join.whole) → IfOk r (IsAhead now pdu unpassed old)
ahead_where (Ok b) now pdu unpassed old copy answer new small same steps h = is_ahead now pdu unpassed old copy answer new b small same steps h
ahead_where (Err e) now pdu unpassed old copy answer new small same steps h = h

pub returns : goal.returns
returns c =
    let P : Receiving → Type 0 = λ r. IfOk c.bodies.result (λ b. b ≡ bytes_of r.join.whole) in
    ahead_where c.bodies.result c.args.now (pdu_of c.args.pdu.now) c.args.unpassed c.args.self.now c.in_ok-copy.copy c.receive-verdict.result c.receive-verdict.new.self c.receive-verdict.ensures.small c.in_ok-copy.ensures c.receive-verdict.ensures.steps (subst P c.copy-2.view_is c.bodies.ensures)
