use Rattle.std.proofs.Common.{Global, List, String, map, ℕ}
use Rattle.std.specs.Prelude.{string_bytes}
use Rattle.rina_promises.proofs.Told.{looked_shown}
use Rattle.rina_promises.proofs.program.look.Goals as goal

pub returns-in-Shown : goal.returns-in-Shown
returns-in-Shown g c = looked_shown (map {A = String Global} {B = List ℕ} (λ w. string_bytes w) c.args.words.now) c.command_in.result c.in-Shown.table c.name_in.result.now _ _ _ _ c.promises.result c.command_in.ensures c.in-Shown.is c.name_in.ensures c.promises.ensures
