use Rattle.rina_asked.specs.Ends.{HaveEnds}
use Rattle.rina_asked.proofs.Allocates.{allocate_keeps_ends}
use Rattle.rina_asked.proofs.Calls.{bind_keeps, cdap_keeps, free_keeps, incoming_keeps, pass_keeps, register_keeps, send_keeps, unregister_keeps}
use Rattle.rina_asked.proofs.Enrols.{enrol_keeps}
use Rattle.rina_asked.proofs.Quiet.{ends_last}
use Rattle.rina_asked.proofs.laws.calls_keep_ends.Goals as goal

pub returns : goal.returns
returns c = record {
  allocate = allocate_keeps_ends;
  incoming = incoming_keeps HaveEnds ends_last;
  bind = bind_keeps HaveEnds ends_last;
  send = send_keeps HaveEnds ends_last;
  pass = pass_keeps HaveEnds ends_last;
  free = free_keeps HaveEnds ends_last;
  register = register_keeps HaveEnds ends_last;
  unregister = unregister_keeps HaveEnds ends_last;
  cdap = cdap_keeps HaveEnds ends_last;
  enrol = enrol_keeps HaveEnds ends_last;
}
