use Rattle.std.proofs.Common.{◌∙◌, ap, sym}
use Rattle.rina_iface.specs.Ends.{drawn_at}
use Rattle.rina_dif.proofs.Room.{room_from}
use Rattle.rina_dif.proofs.dif.Dif.has_room.Goals as goal

pub returns-then-is_some : goal.returns-then-is_some
returns-then-is_some c = room_from c.args.self.now c.args.node c.enrolled_place.result c.drawn.result c.enrolled_place.ensures.place c.enrolled_place.ensures.within (sym c.is_some.ensures ∙ c.if-is_some.true) (c.drawn.ensures ∙ ap (drawn_at c.args.node) c.as_slice-ends.ensures)
