use Rattle.rina_channel.proofs.Asking.{asked_flows_are_new}
use Rattle.rina_channel.proofs.Claiming.{claiming_stands}
use Rattle.rina_channel.proofs.Linking.{linking_stands, none_stand}
use Rattle.rina_channel.proofs.Making.{made_stands}
use Rattle.rina_channel.proofs.laws.links_get_channels.Goals as goal

pub returns-clause-none : goal.returns-clause-none
returns-clause-none c = none_stand

pub returns-clause-ask : goal.returns-clause-ask
returns-clause-ask c = λ m lines processes old new near far link kept kept' st lifted asked link_is none. asked_flows_are_new m lines processes old new near far link kept kept' st lifted asked link_is none

pub returns-clause-make : goal.returns-clause-make
returns-clause-make c = λ m lines processes below near far asker end m' lines' st new made. made_stands m lines processes below near far asker end m' lines' st new made

pub returns-clause-claim : goal.returns-clause-claim
returns-clause-claim c = λ m lines processes below k link m' kept st claimed. claiming_stands m lines processes below k link m' kept st claimed

pub returns-clause-link : goal.returns-clause-link
returns-clause-link c = λ m lines processes processes' below k channel link st stands link_is live. linking_stands m lines processes processes' below k channel link st stands link_is live
