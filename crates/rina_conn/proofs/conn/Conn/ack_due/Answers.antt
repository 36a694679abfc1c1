use Rattle.std.proofs.Common.{sym, ◌∙◌}
use Rattle.rina_conn.proofs.Acknowledging.{made}
use Rattle.rina_conn.proofs.conn.Conn.ack_due.Goals as goal

pub returns : goal.returns
returns c = rw (c.saturating_sub.ensures, c.right.ensures) (made c.args.now c.in_ok-next.next c.args.self.now c.in_ok-next.ensures.machine (sym c.is_ack_due.ensures ∙ c.if-not-is_ack_due.false))
