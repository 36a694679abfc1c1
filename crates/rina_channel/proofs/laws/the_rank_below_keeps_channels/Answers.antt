use Rattle.rina_channel.proofs.Frame.{beside_stands, sends_of_others_stand, taking_stands, time_stands}
use Rattle.rina_channel.proofs.Others.{ins_other, outs_other}
use Rattle.rina_channel.proofs.laws.the_rank_below_keeps_channels.Goals as goal

pub returns-clause-time : goal.returns-clause-time
returns-clause-time c = time_stands

pub returns-clause-beside : goal.returns-clause-beside
returns-clause-beside c = beside_stands

pub returns-clause-send : goal.returns-clause-send
returns-clause-send c = sends_of_others_stand

pub returns-clause-take : goal.returns-clause-take
returns-clause-take c = taking_stands

pub returns-clause-out : goal.returns-clause-out
returns-clause-out c = λ refuses m lines processes o flows below i n result o' below' kept kept' st others apart s. outs_other m lines processes o flows below below' kept kept' st refuses others apart i n result o' s

pub returns-clause-in_ : goal.returns-clause-in_
returns-clause-in_ c = λ m lines processes o flows below i n result o' flows' below' kept kept' st s. ins_other m lines processes o flows below below' kept kept' st i n result o' flows' s
