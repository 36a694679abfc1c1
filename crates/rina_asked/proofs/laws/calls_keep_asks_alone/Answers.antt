use Rattle.rina_asked.specs.Alone.{AreAlone}
use Rattle.rina_asked.proofs.Allocates.{allocate_keeps_alone}
use Rattle.rina_asked.proofs.Calls.{bind_keeps, cdap_keeps, free_keeps, incoming_keeps, pass_keeps, register_keeps, send_keeps, unregister_keeps}
use Rattle.rina_asked.proofs.Enrols.{enrol_keeps}
use Rattle.rina_asked.proofs.Quiet.{alone_lasts}
use Rattle.rina_asked.proofs.laws.calls_keep_asks_alone.Goals as goal

pub returns : goal.returns
returns c = record {
  allocate = allocate_keeps_alone;
  incoming = incoming_keeps AreAlone alone_lasts;
  bind = bind_keeps AreAlone alone_lasts;
  send = send_keeps AreAlone alone_lasts;
  pass = pass_keeps AreAlone alone_lasts;
  free = free_keeps AreAlone alone_lasts;
  register = register_keeps AreAlone alone_lasts;
  unregister = unregister_keeps AreAlone alone_lasts;
  cdap = cdap_keeps AreAlone alone_lasts;
  enrol = enrol_keeps AreAlone alone_lasts;
}
