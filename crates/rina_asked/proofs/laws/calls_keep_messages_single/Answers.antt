use Rattle.rina_asked.specs.Single.{AreSingle}
use Rattle.rina_asked.proofs.AllocatesOnce.{allocate_keeps_single}
use Rattle.rina_asked.proofs.Calls.{bind_keeps, cdap_keeps, free_keeps, incoming_keeps, pass_keeps, register_keeps, send_keeps, unregister_keeps}
use Rattle.rina_asked.proofs.Enrols.{enrol_keeps}
use Rattle.rina_asked.proofs.Once.{single_lasts}
use Rattle.rina_asked.proofs.laws.calls_keep_messages_single.Goals as goal

pub returns : goal.returns
returns c = record {
  allocate = allocate_keeps_single;
  incoming = incoming_keeps AreSingle single_lasts;
  bind = bind_keeps AreSingle single_lasts;
  send = send_keeps AreSingle single_lasts;
  pass = pass_keeps AreSingle single_lasts;
  free = free_keeps AreSingle single_lasts;
  register = register_keeps AreSingle single_lasts;
  unregister = unregister_keeps AreSingle single_lasts;
  cdap = cdap_keeps AreSingle single_lasts;
  enrol = enrol_keeps AreSingle single_lasts;
}
