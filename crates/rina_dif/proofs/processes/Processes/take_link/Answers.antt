use Rattle.rina_dif.proofs.TakenLinks.{changes_one, links_one, shows_one}
use Rattle.rina_dif.proofs.processes.Processes.take_link.Goals as goal

pub returns-clause-ok : goal.returns-clause-ok
returns-clause-ok c =
    let x = c.index_mut-process.result.now in
    rw (← c.self.view_is) (links_one c.args.at c.self.inside.items.items x c.take_link.new.process (rw (← c.self.view_is) at c.requires) c.index_mut-process.ensures.value c.args.link c.take_link.result c.take_link.ensures.ok)

pub returns-clause-err : goal.returns-clause-err
returns-clause-err c =
    let x = c.index_mut-process.result.now in
    rw (← c.self.view_is) (shows_one c.args.at c.self.inside.items.items x c.take_link.new.process (rw (← c.self.view_is) at c.requires) c.index_mut-process.ensures.value c.take_link.result c.take_link.ensures.err c.take_link.ensures.kept)

pub returns-clause-leaves : goal.returns-clause-leaves
returns-clause-leaves c =
    let x = c.index_mut-process.result.now in
    rw (← c.self.view_is) (changes_one c.args.at c.self.inside.items.items x c.take_link.new.process (rw (← c.self.view_is) at c.requires) c.index_mut-process.ensures.value c.take_link.ensures.kept)
