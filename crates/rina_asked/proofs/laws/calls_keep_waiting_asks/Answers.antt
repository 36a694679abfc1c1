use Rattle.rina_asked.proofs.AllocatesOwn.{allocate_keeps_awaited}
use Rattle.rina_asked.proofs.Awaits.{bind_awaited, cdap_awaited, enrol_awaited, free_awaited, incoming_awaited, pass_awaited, register_awaited, send_awaited, unregister_awaited}
use Rattle.rina_asked.proofs.laws.calls_keep_waiting_asks.Goals as goal

pub returns : goal.returns
returns c = record {
  allocate = allocate_keeps_awaited;
  incoming = incoming_awaited;
  bind = bind_awaited;
  send = send_awaited;
  pass = pass_awaited;
  free = free_awaited;
  register = register_awaited;
  unregister = unregister_awaited;
  cdap = cdap_awaited;
  enrol = enrol_awaited;
}
