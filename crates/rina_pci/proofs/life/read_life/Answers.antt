use Rattle.std.proofs.Common.{ap, ◌∙◌, arith}
use Rattle.rina_pci.specs.Life.{life_at}
use Rattle.rina_pci.proofs.Lifetimes.{is_found, life_again}
use Rattle.rina_pci.proofs.life.read_life.Goals as goal

pub returns-clause-found : goal.returns-clause-found
returns-clause-found c = is_found c.args.bytes.now c.split_life.result (λ i. omega (arith, c.type_inv.bytes i)) c.split_life.ensures.exact

pub returns-clause-only : goal.returns-clause-only
returns-clause-only c = λ life pdu lt spelled. c.split_life.ensures.exact ∙ ap life_at spelled ∙ life_again life pdu lt
