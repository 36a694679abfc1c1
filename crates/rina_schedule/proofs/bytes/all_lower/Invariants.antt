use Rattle.std.proofs.Common.{◌≡◌, drop}
use Rattle.std.specs.List.{list_all}
use Rattle.rina_schedule.specs.Bytes.{is_lower}
use Rattle.rina_schedule.proofs.bytes.all_lower.Given as goal

abbrev pub invariant-text : goal.invariant-text
invariant-text l = list_all is_lower (drop l.byte-index l.text) ≡ list_all is_lower l.text
