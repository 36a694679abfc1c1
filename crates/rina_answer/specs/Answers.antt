-- What a RIB answers to a message, and what it is afterwards.
use Rattle.std.specs.Prelude.{◌≡◌, ℕ, ◌+◌, Bool, true, false, ◌||◌, ◌==◌, List, [], Option, Some, None, unwrap_or, Result, Ok, Err, if◌then◌else◌}
use Rattle.rina_base.specs.declared.memory.Memory.{Memory}
use Rattle.rina_base.specs.ObjectNames.{is_object_name}
use Rattle.rina_cdap.specs.declared.message.Message.{Message}
use Rattle.rina_cdap.specs.Messages.{is_response}
use Rattle.rina_cdap.specs.Plain.{plain}
use Rattle.rina_base.specs.declared.class.Class.{Class}
use Rattle.rina_rib.specs.declared.error.RibError.{RibError}
use Rattle.rina_rib.specs.declared.error.RibError.TheVariants as errors
use Rattle.rina_rib.specs.declared.caller.Caller.TheVariants.{Cdap}
use Rattle.rina_base.specs.Classes.{class_text, class_of}
use Rattle.rina_rib.specs.Things.{Thing, thing, made_value, switched, with_value}
use Rattle.rina_rib.specs.Objects.{object_at}
use Rattle.rina_rib.specs.Rows.{Tree, created, deleted, written, turned}

-- the number of a refusal
abbrev pub code_of : RibError → ℕ
code_of errors.Memory = 0
code_of errors.NoObject = 1
code_of errors.Exists = 2
code_of errors.NoParent = 3
code_of errors.HasChildren = 4
code_of (errors.WrongClass kept) = 5
code_of (errors.NotAllowed op) = 6

-- the response of a request; a response is answered by its own number
unfoldable pub response_of : ℕ → ℕ
response_of op = if is_response op then op else op + 1

-- what each answer has: the response's number, and the invoke id and the name that were asked with
unfoldable pub begun : Message → Message
begun m = record (plain (response_of m.operation) m.invoke) { name = m.name }

abbrev pub refused : Message → ℕ → Message
refused b n = record b { result = Some n }

-- the answer of an operation that was done: the object as well
abbrev pub succeeded : Message → Thing → Message
succeeded b o = record b { class = Some (class_text o.class); instance = Some o.instance; value = Some o.value; result = Some 0 }

-- a RIB, and an answer
pub record Told : Type 0 where
  pub tree : Tree
  pub message : Message

abbrev pub told_as : Tree → Message → Told
told_as tree message = record { tree = tree; message = message }

-- nothing was done
abbrev pub refusal : Tree → Message → ℕ → Told
refusal t m n = told_as t (refused (begun m) n)

-- an operation was done on an object, or refused
abbrev pub reply : Tree → Message → Result Tree RibError → Thing → Told
reply t m (Ok after) o = told_as after (succeeded (begun m) o)
reply t m (Err e) o = refusal t m (code_of e)

abbrev pub value_of : Message → List ℕ
value_of m = unwrap_or m.value []

abbrev pub create_as : Tree → Message → List ℕ → Option Class → Told
create_as t m name None = refusal t m 6
create_as t m name (Some class) = reply t m (created t Cdap name class (value_of m)) (thing class t.next (made_value class (value_of m)))

abbrev pub class_in : Option (List ℕ) → Option Class
class_in None = None
class_in (Some text) = class_of text

-- create: without a class that is known it is not allowed
unfoldable pub create_told : Tree → Message → List ℕ → Told
create_told t m name = create_as t m name (class_in m.class)

abbrev pub delete_of : Tree → Message → List ℕ → Option Thing → Told
delete_of t m name None = refusal t m 1
delete_of t m name (Some o) = reply t m (deleted t Cdap name) o

-- delete answers the object as it was
unfoldable pub delete_told : Tree → Message → List ℕ → Told
delete_told t m name = delete_of t m name (object_at t.objects name)

abbrev pub read_of : Tree → Message → Option Thing → Told
read_of t m None = refusal t m 1
read_of t m (Some o) = told_as t (succeeded (begun m) o)

unfoldable pub read_told : Tree → Message → List ℕ → Told
read_told t m name = read_of t m (object_at t.objects name)

-- the class that is written: that of the object, where none is given
abbrev pub class_or : Class → Option (List ℕ) → Option Class
class_or kept None = Some kept
class_or kept (Some text) = class_of text

abbrev pub write_as : Tree → Message → List ℕ → Thing → Option Class → Told
write_as t m name o None = refusal t m 5
write_as t m name o (Some class) = reply t m (written t Cdap name class (value_of m)) (with_value o (value_of m))

abbrev pub write_of : Tree → Message → List ℕ → Option Thing → Told
write_of t m name None = refusal t m 1
write_of t m name (Some o) = write_as t m name o (class_or o.class m.class)

-- write: a class that is unknown is not that of the object
unfoldable pub write_told : Tree → Message → List ℕ → Told
write_told t m name = write_of t m name (object_at t.objects name)

abbrev pub turn_of : Tree → Message → ℕ → List ℕ → Bool → Option Thing → Told
turn_of t m op name on None = refusal t m 1
turn_of t m op name on (Some o) = reply t m (turned t Cdap op name on) (switched o on)

-- start (14) and stop (16)
unfoldable pub turn_told : Tree → Message → ℕ → List ℕ → Bool → Told
turn_told t m op name on = turn_of t m op name on (object_at t.objects name)

-- the name of an object
abbrev pub named : Option (List ℕ) → Option (List ℕ)
named None = None
named (Some name) = if is_object_name name then Some name else None

abbrev pub at_name : Tree → Message → Option (List ℕ) → Told
at_name t m None = refusal t m 1
at_name t m (Some name) =
    if m.operation == 4 then create_told t m name
    else (if m.operation == 6 then delete_told t m name
    else (if m.operation == 8 then read_told t m name
    else (if m.operation == 12 then write_told t m name
    else (if m.operation == 14 then turn_told t m 14 name true
    else turn_told t m 16 name false))))

-- create, delete, read, write, start and stop
unfoldable pub is_asked : ℕ → Bool
is_asked op = (op == 4) || (op == 6) || (op == 8) || (op == 12) || (op == 14) || (op == 16)

-- what a RIB is after a message, and the answer: no other operation is allowed
unfoldable pub told : Tree → Message → Told
told t m = if is_asked m.operation then at_name t m (named m.name) else refusal t m 6

-- a call did what is told; where memory ran out all is as before
abbrev pub Answers : Result Message Memory → Tree → Tree → Told → Type 0
Answers (Ok x) old new told = told ≡ told_as new x
Answers (Err _) old new told = new ≡ old

-- the answer after a refusal, where memory did not run out
abbrev pub failed : Message → RibError → Option Message
failed b errors.Memory = None
failed b errors.NoObject = Some (refused b 1)
failed b errors.Exists = Some (refused b 2)
failed b errors.NoParent = Some (refused b 3)
failed b errors.HasChildren = Some (refused b 4)
failed b (errors.WrongClass kept) = Some (refused b 5)
failed b (errors.NotAllowed op) = Some (refused b 6)
