-- What was told of a stack, and by which words.
use Rattle.std.proofs.Common.{◌≡◌, ◌∙◌, ℕ, List, Option, Some, None, Result, Ok, Err, refl, sym, subst}
use Rattle.std.proofs.KnownBytes.{Appends-nil}
use Rattle.rina_report.specs.declared.note.Fault.TheVariants as faults
use Rattle.rina_report.specs.declared.note.Note.TheVariants as notes
use Rattle.rina_report.specs.Notes.{line_of}
use Rattle.rina_table.specs.declared.error.StackError.{StackError}
use Rattle.rina_table.specs.declared.error.StackError.TheVariants.{Memory, NotToml, StackRule}
use Rattle.rina_stack.specs.declared.plan.Plan.{Plan}
use Rattle.rina_stack.specs.Policies.{is_built_in}
use Rattle.rina_stack.specs.Stack.{Reads}
use Rattle.rina_view.specs.declared.ending.Status.{Status}
use Rattle.rina_view.specs.declared.ending.Status.TheVariants as statuses
use Rattle.rina_view.specs.Outcome.{Tells, TellsInput}
use Rattle.rina_view.specs.Written.{Writes}
use Rattle.rina_promises.specs.declared.program.Command.{Command}
use Rattle.rina_promises.specs.declared.program.Command.TheVariants.{Shown, More, Other}
use Rattle.rina_promises.specs.declared.program.Table.{Table}
use Rattle.rina_promises.specs.Looking.{Looks, LooksBy, TellsPairs, TellsRead, TellsStack, TellsTable, TellsText, command_of, name_in, shown, unfound}
use Rattle.rina_promises.specs.Pairs.{ShowsPairs}

-- A stack that was read

pub text_shown : (Shows : List ℕ → Type 0) (text wrote : List ℕ) (old new : Option (List ℕ)) (status : Status) → Shows text → wrote ≡ text → Writes wrote statuses.Done old new status → TellsText Shows old new status
text_shown Shows text wrote old new status shows same w = shown text shows (subst (λ (t : List ℕ). Writes t statuses.Done old new status) same w)

pub text_unfound : (Shows : List ℕ → Type 0) (old : Option (List ℕ)) (status : Status) → status ≡ statuses.Memory → TellsText Shows old old status
text_unfound Shows old status is = unfound is (Appends-nil old)

pub pairs_there : (plan : Plan) (found : Option ℕ) (at : ℕ) (old new : Option (List ℕ)) (status : Status) → found ≡ Some at → TellsText (ShowsPairs plan at) old new status → TellsPairs found plan old new status
pairs_there plan found at old new status is told = subst (λ (o : Option ℕ). TellsPairs o plan old new status) (sym is) told

pub pairs_none : (plan : Plan) (found : Option ℕ) (old new : Option (List ℕ)) (status : Status) → found ≡ None → Writes (line_of (notes.Fault (faults.Usage 1))) statuses.Usage old new status → TellsPairs found plan old new status
pairs_none plan found old new status is w = subst (λ (o : Option ℕ). TellsPairs o plan old new status) (sym is) w

-- An input

told_as : (table : Table) (name bytes : List ℕ) (read is : Result Plan StackError) (old new : Option (List ℕ)) (status : Status) → Reads is_built_in read bytes → read ≡ is → TellsRead table name is old new status → TellsStack table name bytes old new status
told_as table name bytes read is old new status reads same told = record { read = read; reads = reads; told = subst (λ (r : Result Plan StackError). TellsRead table name r old new status) (sym same) told }

pub told_plan : (table : Table) (name bytes : List ℕ) (read : Result Plan StackError) (plan : Plan) (old new : Option (List ℕ)) (status : Status) → Reads is_built_in read bytes → read ≡ Ok plan → TellsTable table name plan old new status → TellsStack table name bytes old new status
told_plan table name bytes read plan old new status reads same told = told_as table name bytes read (Ok plan) old new status reads same told

pub told_nothing : (table : Table) (name bytes : List ℕ) (read : Result Plan StackError) (old : Option (List ℕ)) (status : Status) → Reads is_built_in read bytes → read ≡ Err Memory → status ≡ statuses.Memory → TellsStack table name bytes old old status
told_nothing table name bytes read old status reads same is = told_as table name bytes read (Err Memory) old old status reads same (is, Appends-nil old)

pub told_no_toml : (table : Table) (name bytes : List ℕ) (read : Result Plan StackError) (old new : Option (List ℕ)) (status : Status) → Reads is_built_in read bytes → read ≡ Err NotToml → Writes (line_of (notes.Fault faults.NotToml)) statuses.Refused old new status → TellsStack table name bytes old new status
told_no_toml table name bytes read old new status reads same w = told_as table name bytes read (Err NotToml) old new status reads same w

pub told_rule : (table : Table) (name bytes : List ℕ) (read : Result Plan StackError) (n item : ℕ) (old new : Option (List ℕ)) (status : Status) → Reads is_built_in read bytes → read ≡ Err (StackRule n item) → Writes (line_of (notes.Fault (faults.StackRule n item))) statuses.Refused old new status → TellsStack table name bytes old new status
told_rule table name bytes read n item old new status reads same w = told_as table name bytes read (Err (StackRule n item)) old new status reads same w

-- Words

looked_as : (words : List (List ℕ)) (command is : Command) (left left' old new : Option (List ℕ)) (status : Status) → command ≡ command_of words → command ≡ is → LooksBy is words left left' old new status → Looks words left left' old new status
looked_as words command is left left' old new status asks same done = subst (λ (c : Command). LooksBy c words left left' old new status) (sym same ∙ asks) done

pub looked_shown : (words : List (List ℕ)) (command : Command) (table : Table) (name : List ℕ) (left left' old new : Option (List ℕ)) (status : Status) → command ≡ command_of words → command ≡ Shown table → name ≡ name_in words → TellsInput (TellsStack table name) left left' old new status → Looks words left left' old new status
looked_shown words command table name left left' old new status asks same named told = looked_as words command (Shown table) left left' old new status asks same (subst (λ (n : List ℕ). TellsInput (TellsStack table n) left left' old new status) named told)

pub looked_more : (words : List (List ℕ)) (command : Command) (left old new : Option (List ℕ)) (status : Status) → command ≡ command_of words → command ≡ More → Writes (line_of (notes.Fault (faults.Usage 2))) statuses.Usage old new status → Looks words left left old new status
looked_more words command left old new status asks same w = looked_as words command More left left old new status asks same (refl, w)

pub looked_other : (words : List (List ℕ)) (command : Command) (left left' old new : Option (List ℕ)) (status : Status) → command ≡ command_of words → command ≡ Other → Tells words left left' old new status → Looks words left left' old new status
looked_other words command left left' old new status asks same told = looked_as words command Other left left' old new status asks same told
