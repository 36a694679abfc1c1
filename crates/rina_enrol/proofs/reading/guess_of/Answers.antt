use Rattle.std.proofs.Common.{◌∙◌, sym}
use Rattle.rina_cdap.proofs.Faults.{no_message}
use Rattle.rina_enrol.specs.Messages.{message_of}
use Rattle.rina_enrol.proofs.Guesses.{guess_is, message_ranged}
use Rattle.rina_enrol.proofs.reading.guess_of.Goals as goal

pub returns-in-Ok : goal.returns-in-Ok
returns-in-Ok c = λ m range spelled. guess_is c.guess.result c.in-Ok.m m c.guess.ensures (c.in-Ok.ensures.only (message_of m) (message_ranged m range) spelled) range

pub returns-else-is_memory : goal.returns-else-is_memory
returns-else-is_memory c = λ m range spelled. absurd (no_message c.in-Err.e (message_of m) (sym c.is_memory.ensures ∙ c.if-is_memory.false) (c.in-Err.ensures.only (message_of m) (message_ranged m range) spelled))
