-- The numbers of an answer to an ask.
use Rattle.std.specs.Prelude.{ℕ, ◌==◌, ◌&&◌, Option, Some, None, if◌then◌else◌}
use Rattle.rina_alloc.specs.declared.answer.FlowAnswer.{FlowAnswer}
use Rattle.rina_alloc.specs.declared.answer.FlowAnswer.TheVariants as answers

-- 0 yes, 1 denied, 2 not here, 3 no ids
abbrev pub code_of : FlowAnswer → ℕ
code_of (answers.Yes dcep scep) = 0
code_of (answers.Denied rule) = 1
code_of answers.NotHere = 2
code_of (answers.NoIds used) = 3

-- the far end's CEP-id, 0 where the answer is not yes
abbrev pub dcep_of : FlowAnswer → ℕ
dcep_of (answers.Yes dcep scep) = dcep
dcep_of a = 0

-- the asker's CEP-id, the rule or the used ids
abbrev pub number_of : FlowAnswer → ℕ
number_of (answers.Yes dcep scep) = scep
number_of (answers.Denied rule) = rule
number_of answers.NotHere = 0
number_of (answers.NoIds used) = used

-- the answer of these numbers
unfoldable pub answer_at : ℕ → ℕ → ℕ → Option FlowAnswer
answer_at code dcep number =
    if code == 0 then Some (answers.Yes dcep number)
    else (if (code == 1) && (dcep == 0) then Some (answers.Denied number)
    else (if (code == 2) && ((dcep == 0) && (number == 0)) then Some answers.NotHere
    else (if (code == 3) && (dcep == 0) then Some (answers.NoIds number)
    else None)))
