use Rattle.std.proofs.Common.{◌≡◌, ◌++◌, map, take, drop}
use Rattle.rina_channel.specs.Names.{unnamed}
use Rattle.rina_channel.proofs.names.unname.Given as goal

abbrev pub invariant-loop-pdu : goal.invariant-loop-pdu
invariant-loop-pdu l = l.pdus ≡ map unnamed (take l.pdu-index l.initial.pdus) ++ drop l.pdu-index l.initial.pdus
