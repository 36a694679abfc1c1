use Rattle.std.proofs.Common.{arith, slice_get, subst}
use Rattle.std.proofs.lemmas.Option.{slice_get_within}
use Rattle.rina_conn.specs.declared.conn.Conn.{Conn}
use Rattle.rina_iface.specs.declared.ends.End.{End}
use Rattle.rina_flows.specs.Calls.{TellsNext}
use Rattle.rina_flows.proofs.Landed.{same_at}
use Rattle.rina_flows.proofs.flows.Flows.next_passed.Goals as goal

pub returns-in-Some : goal.returns-in-Some
returns-in-Some c = λ e k is.
    let conn = same_at (slice_get c.args.self.now.conns c.args.at) c.at.result.now k c.at.ensures is.conn_is in
    let end = same_at (slice_get c.args.self.now.journal.ends c.args.at) c.in-Some.end.now e c.in-Some.ensures is.end_is in
    subst (λ (x : Conn). TellsNext e x.sending.form c.next_passed.result) conn (subst (λ (x : End). TellsNext x c.at.result.now.sending.form c.next_passed.result) end c.next_passed.ensures)

pub returns-in-None : goal.returns-in-None
returns-in-None c = λ e k is. (let lt = slice_get_within c.args.self.now.journal.ends c.args.at e is.end_is in let le = c.in-None.ensures in absurd (omega arith))
