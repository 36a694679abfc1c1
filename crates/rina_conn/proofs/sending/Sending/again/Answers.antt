use Rattle.std.proofs.Common.{refl}
use Rattle.std.specs.Prelude.{option_copied}
use Rattle.rina_conn.proofs.Resending.{again_via}
use Rattle.rina_conn.proofs.sending.Sending.again.Goals as goal

pub returns : goal.returns
returns c = ((refl, λ last. tt, again_via c.args.now c.args.self.now c.note_again.new.self (option_copied c.due.result) c.due.follows.lender-at-none c.note_again.ensures.same c.note_again.ensures.numbers c.due.follows.holds-at-none), tt)
