use Rattle.rina_channel.proofs.Arriving.{calls_for_pieces_arrive, calls_that_pass_do}
use Rattle.rina_channel.proofs.Calls.{calls_change_ends, calls_that_acknowledge_do, calls_that_offer_do, calls_that_send_again_do}
use Rattle.rina_channel.proofs.laws.calls_are_those_of_channels.Goals as goal

pub returns-clause-same : goal.returns-clause-same
returns-clause-same c = calls_change_ends

pub returns-clause-on_data : goal.returns-clause-on_data
returns-clause-on_data c = calls_for_pieces_arrive

pub returns-clause-pass : goal.returns-clause-pass
returns-clause-pass c = calls_that_pass_do

pub returns-clause-offer : goal.returns-clause-offer
returns-clause-offer c = calls_that_offer_do

pub returns-clause-acknowledged : goal.returns-clause-acknowledged
returns-clause-acknowledged c = calls_that_acknowledge_do

pub returns-clause-sent_again : goal.returns-clause-sent_again
returns-clause-sent_again c = calls_that_send_again_do
