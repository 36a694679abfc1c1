use Rattle.rina_data.specs.Deciding.{process_of}
use Rattle.rina_data.specs.Hops.{hop_of}
use Rattle.rina_dif.proofs.Settling.{noted_by, notes_one}
use Rattle.rina_dif.proofs.processes.Processes.write_off.Goals as goal

pub returns : goal.returns
returns c =
    let x = c.index_mut-process.result.now in
    rw (← c.self.view_is) (notes_one (hop_of c.args.hop.now).pdu c.args.cause c.write_off.result c.args.at c.self.inside.items.items x c.write_off.new.self (rw (← c.self.view_is) at c.requires) c.index_mut-process.ensures.value (noted_by (process_of x) (hop_of c.args.hop.now).pdu c.args.cause c.write_off.result (process_of c.write_off.new.self) c.write_off.ensures.ok c.write_off.ensures.err) c.write_off.ensures.kept)
