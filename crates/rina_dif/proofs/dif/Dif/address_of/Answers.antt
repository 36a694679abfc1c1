use Rattle.rina_dif.proofs.dif.Dif.address_of.Goals as goal

pub find-requires : goal.find-requires
find-requires c = c.requires.entries c.in-Some.management.now c.in-Some.ensures
