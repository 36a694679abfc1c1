use Rattle.std.proofs.Common.{Result, Ok, Err, IfOk}
use Rattle.rina_base.specs.declared.memory.Memory.{Memory}
use Rattle.rina_cube.specs.declared.Cube.{Cube}
use Rattle.rina_dtp.specs.Observed.{IsNew}
use Rattle.rina_dtp.specs.Receiving.{Receiving, StartsFresh}
use Rattle.rina_dtp.proofs.Observing.{is_new}
use Rattle.rina_dtp.proofs.rx.Rx.new.Goals as goal

new_where : (cube : Cube) (size : _) (r : Result Receiving Memory) → IfOk r (StartsFresh cube size) → IfOk r (IsNew cube size)
new_where cube size (Ok r) f = is_new cube size r f
new_where cube size (Err e) f = f

pub returns : goal.returns
returns c = new_where c.args.cube.now c.args.piece c.fresh.result c.fresh.ensures
