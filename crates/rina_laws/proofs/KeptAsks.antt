-- Each call and each step of a DIF keeps that the messages of an ask that waits are of its own flow, so a run does.
use Rattle.rina_asked.proofs.AllocatesOwn.{allocate_keeps_awaited}
use Rattle.rina_asked.proofs.Awaits.{bind_awaited, cdap_awaited, enrol_awaited, free_awaited, incoming_awaited, out_awaited, pass_awaited, register_awaited, send_awaited, time_awaited, unregister_awaited}
use Rattle.rina_asked.proofs.OwnIns.{clock_awaited, in_awaited}
use Rattle.rina_asked.proofs.Starts.{new_awaited}
use Rattle.rina_asked.specs.Awaited.{AreAwaited}
use Rattle.rina_laws.specs.Messages.{AsksAreAwaited}
use Rattle.rina_laws.proofs.KeptDifs.{clock_set, enrol_set, in_set}
use Rattle.rina_laws.proofs.KeptRun.{IsAlways, holds_in_runs}

awaited_are_kept : IsAlways AreAwaited
awaited_are_kept = record {
  made = new_awaited;
  bound = bind_awaited;
  registered = register_awaited;
  others = record {
    allocated = allocate_keeps_awaited;
    claimed = incoming_awaited;
    sent = send_awaited;
    passed = pass_awaited;
    freed = free_awaited;
    unregistered = unregister_awaited;
    answered = cdap_awaited;
    enrolled = enrol_set AreAwaited enrol_awaited;
    taken = in_set AreAwaited in_awaited;
    left = out_awaited;
    clocked = clock_set AreAwaited clock_awaited;
    timed = time_awaited;
  };
}

pub asks_are_awaited : AsksAreAwaited
asks_are_awaited = holds_in_runs AreAwaited awaited_are_kept
