use Rattle.std.proofs.Common.{inl, inr, refl}
use Rattle.std.proofs.lemmas.Result.{err_from_is_err_and}
use Rattle.rina_dif.proofs.TakenLinks.{connects_members, joins_not, links_up, none_shows}
use Rattle.rina_dif.proofs.dif.Dif.take_asked.Goals as goal

pub returns-in_err-connect_joiner-clause-joins : goal.returns-in_err-connect_joiner-clause-joins
returns-in_err-connect_joiner-clause-joins c =
    let err = err_from_is_err_and c.from_residual.result c.from_residual.ensures.1 in
    joins_not c.args.self.now c.args.at c.args.peer c.args.link c.args.after c.from_residual.result err.0 _ err.1 err.2 (record { connects = inl c.in_err-connect_joiner.ensures.err; processes = none_shows c.args.at c.args.self.now.processes; only = refl })

pub returns-in_err-take_link-clause-joins : goal.returns-in_err-take_link-clause-joins
returns-in_err-take_link-clause-joins c =
    let d = c.args.self.now in
    let err = err_from_is_err_and c.from_residual-in_err-take_link.result c.from_residual-in_err-take_link.ensures.1 in
    joins_not d c.args.at c.args.peer c.args.link c.args.after c.from_residual-in_err-take_link.result err.0 _ err.1 err.2
    (record { connects = inr (connects_members d c.args.at c.args.peer c.args.link c.connect_joiner.new.self c.requires.joiner c.requires.member c.in_ok-connect_joiner.ensures.ok); processes = c.in_err-take_link.ensures.err; only = refl })

pub returns-clause-joins : goal.returns-clause-joins
returns-clause-joins c =
    let d = c.args.self.now in
    record {
      links = links_up c.args.at c.args.link d.processes c.take_link.new.self c.requires.joins.process c.requires.joins.is_process c.requires.joins.least c.in_ok-take_link.ensures.ok;
      connects = connects_members d c.args.at c.args.peer c.args.link c.connect_joiner.new.self c.requires.joiner c.requires.member c.in_ok-connect_joiner.ensures.ok;
      managements = c.set.ensures;
      only = refl;
    }
