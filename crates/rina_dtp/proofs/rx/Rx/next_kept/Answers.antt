use Rattle.std.proofs.Common.{subst}
use Rattle.rina_dtp.specs.Fetching.{GoesOn}
use Rattle.rina_dtp.specs.Receiving.{Receiving}
use Rattle.rina_dtp.proofs.Fetched.{takes_kept, changes_kept}
use Rattle.rina_dtp.proofs.rx.Rx.next_kept.Goals as goal

pub returns-clause-taken : goal.returns-clause-taken
returns-clause-taken c =
    let G : Receiving → Type 0 = λ g. GoesOn g.going g c.next_leftover.result c.next_leftover.new.self in
    takes_kept c.args.self.now c.next_leftover.result c.next_leftover.new.self (subst G c.empty_joiner.ensures c.next_leftover.ensures)

pub returns-clause-rest : goal.returns-clause-rest
returns-clause-rest c =
    let G : Receiving → Type 0 = λ g. GoesOn g.going g c.next_leftover.result c.next_leftover.new.self in
    changes_kept c.args.self.now c.next_leftover.result c.next_leftover.new.self (subst G c.empty_joiner.ensures c.next_leftover.ensures)
