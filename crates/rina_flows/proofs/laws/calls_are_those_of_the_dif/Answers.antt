use Rattle.rina_flows.proofs.ArrivesAt.{is_arrived}
use Rattle.rina_flows.proofs.Gone.{is_ended, is_forgotten}
use Rattle.rina_flows.proofs.Plain.{offers_are, passes_are, takers_are, tellings_are}
use Rattle.rina_flows.proofs.laws.calls_are_those_of_the_dif.Goals as goal

pub returns-clause-offer : goal.returns-clause-offer
returns-clause-offer c = offers_are

pub returns-clause-pass : goal.returns-clause-pass
returns-clause-pass c = passes_are

pub returns-clause-taker : goal.returns-clause-taker
returns-clause-taker c = takers_are

pub returns-clause-on_data : goal.returns-clause-on_data
returns-clause-on_data c = is_arrived

pub returns-clause-on_ack : goal.returns-clause-on_ack
returns-clause-on_ack c = tellings_are

pub returns-clause-forget : goal.returns-clause-forget
returns-clause-forget c = is_forgotten

pub returns-clause-stop : goal.returns-clause-stop
returns-clause-stop c = is_ended
