use Rattle.std.proofs.Common.{◌∙◌}
use Rattle.rina_dif.proofs.Named.{ipc_named}
use Rattle.rina_dif.proofs.plan.ipc_name.Goals as goal

pub returns-in-Ok : goal.returns-in-Ok
returns-in-Ok c = ipc_named c.args.plan.now c.args.dif.now c.args.node c.in-Some.system.now c.as_slice.result.now c.in-Ok.name c.as_bytes.result.now c.as_bytes-2.result.now c.in-Some.ensures c.in-Ok.ensures (c.as_slice.ensures.value ∙ c.in_ok-text.ensures) c.as_bytes.ensures c.as_bytes-2.ensures
