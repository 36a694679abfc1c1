use Rattle.rina_dif.proofs.dif.Dif.flows_end.Goals as goal

pub returns-in-None : goal.returns-in-None
returns-in-None c = λ lines below h. (let idle = c.in-None.ensures lines below h in (idle.gone, idle.give_up))
