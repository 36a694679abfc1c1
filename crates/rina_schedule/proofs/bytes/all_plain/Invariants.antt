use Rattle.std.proofs.Common.{◌≡◌, drop}
use Rattle.std.specs.List.{list_all}
use Rattle.rina_schedule.specs.Bytes.{is_plain}
use Rattle.rina_schedule.proofs.bytes.all_plain.Given as goal

abbrev pub invariant-bytes : goal.invariant-bytes
invariant-bytes l = list_all is_plain (drop l.byte-index l.bytes) ≡ list_all is_plain l.bytes
