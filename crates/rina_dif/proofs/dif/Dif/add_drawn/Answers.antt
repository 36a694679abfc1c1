use Rattle.std.proofs.Common.{refl}
use Rattle.rina_iface.specs.Bind.{with_name_once}
use Rattle.rina_dif.specs.declared.dif.Dif.{Dif}
use Rattle.rina_dif.proofs.Drawing.{added_ids, have_drawn, undone_added}
use Rattle.rina_dif.proofs.dif.Dif.add_drawn.Goals as goal

pub returns-else-is_err-clause-ids : goal.returns-else-is_err-clause-ids
returns-else-is_err-clause-ids c =
    let d = c.args.self.now in
    let d1 : Dif = record d { ids = c.draw_both.new.self } in
    let r = c.requires in
    added_ids d d1 c.add_named-added.new.self c.args.places c.args.peer c.add_named-added.result c.add_named-added.new.self.flows (with_name_once d.names c.args.far.port.node c.args.far.app) (have_drawn d.ids c.draw_both.new.self d.clock c.args.places c.args.peer c.in_ok-draws.draws r.a r.b r.apart c.in_ok-draws.ensures.ok) c.add_named-added.ensures.rest

pub returns-then-is_err-clause-err : goal.returns-then-is_err-clause-err
returns-then-is_err-clause-err c =
    let d = c.args.self.now in
    let d1 : Dif = record d { ids = c.draw_both.new.self } in
    let same = c.add_named-added.ensures.err in
    undone_added d d1 c.add_named-added.new.self c.undo_both.new.self c.args.places c.in_ok-draws.draws c.add_named-added.result refl c.in_ok-draws.ensures.ok c.undo_both.ensures same
