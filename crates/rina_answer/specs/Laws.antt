-- What the law says of answers: whose answer one is, and what it shows.
use Rattle.std.specs.Prelude.{◌≡◌, ℕ, true, List, Some, None, codes}
use Rattle.rina_cdap.specs.declared.message.Message.{Message}
use Rattle.rina_base.specs.Classes.{class_text}
use Rattle.rina_rib.specs.Things.{Thing, made_value}
use Rattle.rina_rib.specs.Objects.{object_at}
use Rattle.rina_rib.specs.Rows.{Tree}
use Rattle.rina_rib.specs.Laws.{Has}
use Rattle.rina_answer.specs.Answers.{response_of, value_of, is_asked}

-- an answer has the invoke id and the name that were asked with, and the number of the response, and says how the request ended
pub record IsAnswerTo (m answer : Message) : Type 0 where
  pub invoke : answer.invoke ≡ m.invoke
  pub name : answer.name ≡ m.name
  pub operation : answer.operation ≡ response_of m.operation
  pub result : (n : ℕ) × (answer.result ≡ Some n)

-- an answer shows an object: its class, its number and its value
pub record Shows (answer : Message) (o : Thing) : Type 0 where
  pub class : answer.class ≡ Some (class_text o.class)
  pub instance : answer.instance ≡ Some o.instance
  pub value : answer.value ≡ Some o.value

-- a request was done: the answer shows the object that a read of the name gives then, and after delete the one that it gave before; no other object changed
pub record IsDone (old new : Tree) (m answer : Message) : Type 0 where
  pub asked : is_asked m.operation ≡ true
  pub name : List ℕ
  pub named : m.name ≡ Some name
  pub object : Thing
  pub shows : Shows answer object
  pub create : m.operation ≡ 4 → (object_at old.objects name ≡ None) × Has new name object × (object.value ≡ made_value object.class (value_of m))
  pub delete : m.operation ≡ 6 → Has old name object × (object_at new.objects name ≡ None)
  pub read : m.operation ≡ 8 → Has old name object × (new ≡ old)
  pub write : m.operation ≡ 12 → Has new name object × (object.value ≡ value_of m)
  pub start : m.operation ≡ 14 → Has new name object × (object.value ≡ codes "on")
  pub stop : m.operation ≡ 16 → Has new name object × (object.value ≡ codes "off")
  pub others : (other : List ℕ) → (other ≡ name → ⊥) → object_at new.objects other ≡ object_at old.objects other
