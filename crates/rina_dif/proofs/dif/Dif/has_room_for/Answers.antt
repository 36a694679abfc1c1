use Rattle.rina_dif.proofs.Undue.{room_told}
use Rattle.rina_dif.proofs.dif.Dif.has_room_for.Goals as goal

pub returns : goal.returns
returns c = record {
  need = c.need-need.result;
  told_need = c.need-need.ensures;
  process = c.in-Some.process.now;
  is_process = c.in-Some.ensures;
  room = room_told c.args.number c.need-need.result c.room.result c.in-Some.process.now (c.requires.there c.in-Some.process.now c.in-Some.ensures) c.room.ensures.room c.room.ensures.within;
}
