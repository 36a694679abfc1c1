use Rattle.rina_known.specs.Entries.{IsKnown}
use Rattle.rina_known.proofs.Calls.{allocate_keeps, cdap_keeps, enrol_keeps, free_keeps, incoming_keeps, pass_keeps, send_keeps}
use Rattle.rina_known.proofs.Keeping.{own_known}
use Rattle.rina_known.proofs.Names.{bind_adds, none_known, register_adds, unregister_keeps}
use Rattle.rina_known.proofs.laws.calls_keep_known_names.Goals as goal

pub returns : goal.returns
returns c = record {
  allocate = λ names. allocate_keeps (IsKnown names) (own_known names);
  incoming = λ names. incoming_keeps (IsKnown names) (own_known names);
  bind = bind_adds;
  send = λ names. send_keeps (IsKnown names) (own_known names);
  pass = λ names. pass_keeps (IsKnown names) (own_known names);
  free = λ names. free_keeps (IsKnown names) (own_known names);
  register = register_adds;
  unregister = λ names. unregister_keeps (IsKnown names) (own_known names) (none_known names);
  cdap = λ names. cdap_keeps (IsKnown names) (own_known names);
  enrol = λ names. enrol_keeps (IsKnown names) (own_known names);
}
