-- What the receiver tells ahead is of the connection at the place.
use Rattle.std.proofs.Common.{◌∙◌, subst, sym}
use Rattle.std.proofs.lemmas.Option.{same_Some}
use Rattle.std.proofs.lemmas.Result.{IfOk-weaker}
use Rattle.rina_base.specs.Pdus.{pdu_of}
use Rattle.rina_conn.specs.declared.conn.Conn.{Conn}
use Rattle.rina_dtp.specs.Stands.{IsAhead}
use Rattle.rina_dif.specs.Handling.{IsToldAhead}
use Rattle.rina_dif.proofs.dif.Dif.bodies_ahead.Goals as goal

pub returns : goal.returns
returns c =
    IfOk-weaker c.ahead.result (IsAhead c.args.self.now.clock (pdu_of c.args.pdu.now) c.unpassed-unpassed.result c.at.result.now.rx) (IsToldAhead c.args.self.now c.args.place (pdu_of c.args.pdu.now))
    (λ bodies told. record {
      unpassed = c.unpassed-unpassed.result;
      count = c.unpassed-unpassed.ensures;
      ahead = λ conn is. subst (λ (k : Conn). IsAhead c.args.self.now.clock (pdu_of c.args.pdu.now) c.unpassed-unpassed.result k.rx bodies) (same_Some c.at.result.now conn (sym c.at.ensures ∙ is)) told;
    }) c.ahead.ensures
