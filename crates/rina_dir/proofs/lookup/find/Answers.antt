-- No entry has so long a key.
use Rattle.std.proofs.Common.{◌<◌, length, sym, arith}
use Rattle.std.proofs.lemmas.Grind.{common_steps}
use Rattle.rina_dir.proofs.Keys.{too_long}
use Rattle.rina_dir.proofs.lookup.find.Goals as goal

pub returns-then-name : goal.returns-then-name
returns-then-name c =
    let long : 129 < length c.args.app.now = grind (arith, common_steps, c.as_bytes-name.ensures) in
    sym (too_long c.args.states.now c.args.app.now c.requires long)
