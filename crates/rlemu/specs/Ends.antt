-- How the program ends: what it read and wrote, and its exit status.
use Rattle.std.specs.Prelude.{ℕ, Bool, List, Option}
use Rattle.rina_policy.specs.Slots.{Slot}
use Rattle.rina_report.specs.declared.note.Note.{Note}
use Rattle.rina_run.specs.Command.{command_of}
use Rattle.rina_run.specs.Outcomes.{RunOutcomes, WrittenBy}
use Rattle.rina_run.specs.declared.outcome.Status.{Status}
use Rattle.rina_run.specs.declared.outcome.Status.TheVariants as statuses
use Rattle.rina_tower.specs.declared.tower.Tower.{Tower}

-- the exit status that stands for a status: 0 where all was done, 1 for words that are no command, 2 for an input
-- that is refused, 3 for reading, 4 for writing, 5 for memory
abbrev pub exit_of : Status → ℕ
exit_of statuses.Done = 0
exit_of (statuses.Usage word) = 1
exit_of statuses.TooLarge = 2
exit_of statuses.NotToml = 2
exit_of (statuses.StackRule n item) = 2
exit_of (statuses.Schedule line n field) = 2
exit_of statuses.ReadFault = 3
exit_of statuses.WriteFault = 4
exit_of statuses.Memory = 5

-- the run of these words over this input: how it ended, and what it wrote
pub record IsRun (words : List (List ℕ)) (left left' took took' : Option (List ℕ)) (status : Status) : Type 0 where
  pub known : List ℕ → Bool
  pub shelf : List Slot
  pub shelf' : List Slot
  pub trace : List Note
  pub tower : Option Tower
  pub unwritten : List Note
  pub outcome : RunOutcomes known (command_of words) left left' shelf status trace tower unwritten shelf'
  pub written : WrittenBy (command_of words) took took' trace status
