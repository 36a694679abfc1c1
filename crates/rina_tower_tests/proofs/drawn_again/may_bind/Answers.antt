use Rattle.rina_tower_tests.proofs.drawn_again.may_bind.Goals as goal

pub returns : goal.returns
returns c = λ h. rw c.in-Rank.is (record { dif = c.in-Some.dif.now; is_dif = rw c.deref.ensures at c.in-Some.ensures; may = c.may_bind.ensures.0 h })
