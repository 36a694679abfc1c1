use Rattle.std.proofs.Common.{ℕ, ◌+◌, ◌*◌, Bool, ap, ◌∙◌, subst}
use Rattle.rina_dtp.proofs.Senders.{takes}
use Rattle.rina_dtp.specs.Numbers.{next_from, IsTaken}
use Rattle.rina_dtp.proofs.numbers.Numbers.take.Goals as goal

pub returns-clause-taken : goal.returns-clause-taken
returns-clause-taken c =
    let old = c.args.self.now in
    let P : ℕ → Type 0 = λ first. IsTaken c.args.now c.args.count (old.last_out + 3 * c.args.delta) first old c.take_from.result c.take_from.new.self in
    let first = c.next_from-first.ensures.next ∙ ap (λ (b : Bool). next_from b old) c.is_absent-absent.ensures in
    takes c.args.now c.args.count c.args.idle c.args.delta old c.take_from.result c.take_from.new.self c.requires.count (subst P first c.take_from.ensures.taken)
