use Rattle.std.proofs.Common.{sym, subst}
use Rattle.rina_dif.specs.declared.dif.Dif.{Dif}
use Rattle.rina_dif.specs.Binding.{MayBind}
use Rattle.rina_tower.proofs.Failed.{failed_at}
use Rattle.rina_tower.proofs.Serving.{at_one, one_at, same_binder}
use Rattle.rina_tower.proofs.difs.Difs.bind.Goals as goal

pub bind-requires-clause-may : goal.bind-requires-clause-may
bind-requires-clause-may c =
    let one = c.index_mut-one.result.now in
    let at = one_at c.args.fixed.now.fac c.args.self.now c.self.inside.items.items c.in-Some._dif.now _ one c.self.view_is c.in-Some.ensures c.index_mut-one.ensures.value in
    subst (λ (d : Dif). MayBind d c.args.fixed.now) (sym (same_binder c.args.self.now c.args.fixed.now one at c.requires.may)) c.requires.may.may

pub returns-clause-does : goal.returns-clause-does
returns-clause-does c =
    let k = c.bind.ensures in
    at_one _ c.args.fixed.now.fac c.args.self.now c.self.inside.items.items c.in-Some._dif.now _ c.index_mut-one.result.now c.bind.new.self c.self.view_is c.in-Some.ensures c.index_mut-one.ensures.value (record { serves = record { shown = k.shown; goes_on = k.goes_on; stands = k.stands; settings = k.settings; laid = k.laid; rest = k.whole }; does = k.does; managed = k.manages; notes = record { failed = k.failed; fails = k.fails }; leaves = k.keeps })

pub returns-clause-fails : goal.returns-clause-fails
returns-clause-fails c = λ h. failed_at c.args.fixed.now.fac c.args.self.now c.self.inside.items.items c.in-Some._dif.now c.bind.new.self c.self.view_is c.in-Some.ensures (c.bind.ensures.fails.1 h)
