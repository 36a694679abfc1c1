use Rattle.rina_tower.proofs.Serving.{rank_binds}
use Rattle.rina_tower_tests.proofs.drawn_again.bind_dif.Goals as goal

pub returns-in-Rank : goal.returns-in-Rank
returns-in-Rank c =
    let v = rw c.in-Rank.is at c.requires.stands in
    let h = rw c.deref_mut.ensures.value at c.bind.ensures.does in
    let old = c.in-Rank.rank.value in
    rw c.deref_mut.ensures.value (rank_binds c.args.fixed.now c.bind.result old.difs c.bind.new.self old.below v.0 v.1 h, v.1)

pub bind-requires-clause-may : goal.bind-requires-clause-may
bind-requires-clause-may c =
    let may = rw c.in-Rank.is at c.requires.may in
    rw c.deref_mut.ensures.value may
