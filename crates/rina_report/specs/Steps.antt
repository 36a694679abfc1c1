-- Printed results of single steps.
use Rattle.std.specs.Prelude.{ℕ, List, [], ◌∷◌, codes}
use Rattle.std.specs.Fmt.{decimal}
use Rattle.rina_report.specs.declared.step.TookNote.{TookNote}
use Rattle.rina_report.specs.declared.step.TookNote.TheVariants as tooks
use Rattle.rina_report.specs.declared.step.ClockNote.{ClockNote}
use Rattle.rina_report.specs.declared.step.ClockNote.TheVariants as clocks
use Rattle.rina_report.specs.Values.{num_text, port_text}
use Rattle.rina_report.specs.Causes.{cause_fields}

-- what a step did with a PDU
unfoldable pub took_fields : TookNote → List (List ℕ)
took_fields tooks.Accepted = codes "accepted" ∷ []
took_fields tooks.Relayed = codes "relayed" ∷ []
took_fields (tooks.Off cause) = codes "off" ∷ cause_fields cause

-- the result of a step of the clock
unfoldable pub clock_fields : ClockNote → List (List ℕ)
clock_fields (clocks.LinkLost link) = codes "link-lost" ∷ decimal link ∷ []
clock_fields (clocks.LinkNew link) = codes "link-new" ∷ decimal link ∷ []
clock_fields (clocks.Gone cep) = codes "gone" ∷ decimal cep ∷ []
clock_fields (clocks.GaveUp num) = codes "gave-up" ∷ num_text num ∷ []
clock_fields (clocks.Timeout port) = codes "timeout" ∷ port_text port ∷ []
clock_fields (clocks.Ack cep) = codes "ack" ∷ decimal cep ∷ []
clock_fields (clocks.Again num) = codes "again" ∷ num_text num ∷ []
clock_fields (clocks.Message link) = codes "message" ∷ decimal link ∷ []
