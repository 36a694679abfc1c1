use Rattle.std.proofs.Common.{◌≡◌, ◌++◌, drop}
use Rattle.std.specs.List.{flat_map}
use Rattle.rina_schedule.specs.Spelling.{hex_pair}
use Rattle.rina_schedule.proofs.text.Text.pairs.Given as goal

abbrev pub invariant-bytes : goal.invariant-bytes
invariant-bytes l = l.self ++ flat_map hex_pair (drop l.byte-index l.bytes) ≡ l.initial.self ++ flat_map hex_pair l.bytes
