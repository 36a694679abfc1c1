-- The folder first, and then the name.
use Rattle.std.proofs.Common.{arith}
use Rattle.std.proofs.lemmas.Grind.{common_steps}
use Rattle.rina_dir.proofs.Keys.{folder, key_done}
use Rattle.rina_dir.proofs.key.write_key.Goals as goal

pub loop-at-init : goal.loop-at-init
loop-at-init c = (folder c.args.key.now (omega (arith, c.requires)), grind (arith, common_steps))

pub returns-clause-written : goal.returns-clause-written
returns-clause-written c = key_done c.args.app.now c.loop-at.key c.loop-at.at (omega (arith, c.loop-at-test.false, c.loop-at.auto.at-end)) c.loop-at.invariant.0
