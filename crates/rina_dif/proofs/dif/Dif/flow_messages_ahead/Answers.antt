-- The messages are read of what waits at the end that takes the piece, and of what the piece makes whole there.
use Rattle.rina_dif.proofs.Learned.{taken_at}
use Rattle.rina_dif.proofs.dif.Dif.flow_messages_ahead.Goals as goal

pub messages_ahead-requires-clause-taken : goal.messages_ahead-requires-clause-taken
messages_ahead-requires-clause-taken c = taken_at c.args.self.now c.in-Some.place (c.requires.valid.below, c.requires.valid.stands)
