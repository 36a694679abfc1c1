-- What a contract sees of a DIF.
use Rattle.std.specs.Prelude.{map}
use Rattle.rina_data.specs.Configs.{config_of}
use Rattle.rina_data.specs.Deciding.{process_of}
use Rattle.rina_dif_law.specs.Dif.{DifSeen}
use Rattle.rina_flows.specs.Tied.{conns_of}
use Rattle.rina_dif.specs.declared.dif.Dif.{Dif}

abbrev pub seen_of : Dif → DifSeen
seen_of d = record {
  config = config_of d.settings;
  manage = d.connections.manage;
  clock = d.clock;
  processes = map process_of d.processes;
  ends = d.flows.journal.ends;
  conns = conns_of d.flows.conns;
  ids = d.ids;
  waiting = d.waiting.items;
  names = d.names;
  enrolled = d.enrolled;
}
