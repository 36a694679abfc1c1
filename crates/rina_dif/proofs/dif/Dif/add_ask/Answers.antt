use Rattle.std.proofs.Common.{refl}
use Rattle.rina_dif.specs.Requesting.{with_invoke_at}
use Rattle.rina_dif.proofs.Requested.{asks_all, cube_there, left_waiting, place_there, requests_all}
use Rattle.rina_dif.proofs.dif.Dif.add_ask.Goals as goal

pub add_drawn_end-requires-clause-cube : goal.add_drawn_end-requires-clause-cube
add_drawn_end-requires-clause-cube c = cube_there c.args.self.now c.args.ask.now c.args.flow c.request.new.self c.requires.valid c.requires.wanted c.in_ok-request.ensures.ok

pub draw_invoke-requires-clause-at : goal.draw_invoke-requires-clause-at
draw_invoke-requires-clause-at c = place_there c.args.self.now c.args.ask.now c.args.flow c.request.new.self c.add_drawn_end.new.self c.requires.valid c.requires.wanted c.in_ok-request.ensures.ok c.in_ok-add_drawn_end.ensures.rest

pub draw_invoke-requires-clause-left : goal.draw_invoke-requires-clause-left
draw_invoke-requires-clause-left c =
    let d3 = c.add_drawn_end.new.self in
    left_waiting c.args.self.now c.args.ask.now c.args.flow c.requires.wanted c.request.new.self d3 c.in_ok-request.ensures.ok c.in_ok-add_drawn_end.ensures.rest (with_invoke_at c.args.flow.near.place d3.managements) refl

pub returns-clause-ok : goal.returns-clause-ok
returns-clause-ok c = λ lines below h.
    let d3 = c.add_drawn_end.new.self in
    let added = c.in_ok-add_drawn_end.ensures in
    asks_all c.args.self.now c.args.ask.now c.args.flow c.requires.wanted c.request.new.self d3 c.in_ok-request.ensures.ok added.rest c.draw_invoke.new.self c.draw_invoke.ensures c.peer.result c.in_ok-end.end c.peer.ensures c.in_ok-end.ensures added.ok added.ids lines below h (c.in_ok-request.ensures.holds lines below h)

pub returns-clause-asks_for : goal.returns-clause-asks_for
returns-clause-asks_for c = requests_all c.args.self.now c.args.ask.now c.args.flow c.requires.wanted c.request.new.self c.add_drawn_end.new.self c.in_ok-request.ensures.ok c.in_ok-add_drawn_end.ensures.rest c.draw_invoke.new.self c.draw_invoke.ensures
