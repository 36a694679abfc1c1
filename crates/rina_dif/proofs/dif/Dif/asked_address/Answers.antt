use Rattle.rina_dif.proofs.MessageSteps.{tell_short}
use Rattle.rina_dif.proofs.dif.Dif.asked_address.Goals as goal

pub address_of-requires-clause-entries : goal.address_of-requires-clause-entries
address_of-requires-clause-entries c = λ m is_m. c.its_items_are_entries.ensures m.agent (tell_short c.args.self.now c.requires.valid.below c.requires.valid.stands c.args.at m is_m)
