-- What the laws speak of: which names lie under another, what objects stand in a tree, and what an operation changes.
use Rattle.std.specs.Prelude.{◌≡◌, ℕ, ◌<◌, ◌⊎◌, List, ◌∷◌, ◌++◌, length, Option, Some, codes}
use Rattle.std.specs.List.{AllByRecursion}
use Rattle.std.specs.Map.{keys_of}
use Rattle.rina_base.specs.declared.class.Class.TheVariants.{Folder}
use Rattle.rina_base.specs.ObjectNames.{IsObjectName}
use Rattle.rina_rib.specs.Things.{Thing}
use Rattle.rina_rib.specs.Objects.{object_at, AreInOrder}
use Rattle.rina_rib.specs.Rows.{Tree}

-- a name begins with that of a folder and a slash
abbrev pub LiesBelow : List ℕ → List ℕ → Type 0
LiesBelow folder name = (rest : List ℕ) × (name ≡ folder ++ 47 ∷ rest)

-- a name is another one, or lies below it
abbrev pub LiesAt : List ℕ → List ℕ → Type 0
LiesAt under name = (name ≡ under) ⊎ LiesBelow under name

-- an object has the name
abbrev pub Has : Tree → List ℕ → Thing → Type 0
Has t name o = object_at t.objects name ≡ Some o

-- a part of a name is not empty, and has no slash
pub record IsPart (part : List ℕ) : Type 0 where
  pub some : 0 < length part
  pub no_slash : AllByRecursion (λ (b : ℕ). b ≡ 47 → ⊥) part

-- a name stands right in a folder: it is the folder's name, a slash and one part; the root's name is itself a slash, and no second one follows it
pub record StandsIn (folder name : List ℕ) : Type 0 where
  pub part : List ℕ
  pub is_part : IsPart part
  pub joined : ((folder ≡ codes "/") × (name ≡ folder ++ part)) ⊎ (name ≡ folder ++ 47 ∷ part)

-- the name stands in a folder that is there
pub record HasItsFolder (t : Tree) (name : List ℕ) : Type 0 where
  pub folder : List ℕ
  pub stands : StandsIn folder name
  pub object : Thing
  pub there : Has t folder object
  pub is_folder : object.class ≡ Folder

-- a folder has the name
abbrev pub IsFolderAt : Tree → List ℕ → Type 0
IsFolderAt t folder = (o : Thing) × Has t folder o × (o.class ≡ Folder)

-- the objects of a RIB stand in a tree: their names ascend, byte by byte, and are object names, and each but the root stands in a folder
pub record StandInTree (t : Tree) : Type 0 where
  pub ordered : AreInOrder t.objects
  pub named : AllByRecursion (λ (name : List ℕ). IsObjectName name) (keys_of t.objects)
  pub folders : (name : List ℕ) (o : Thing) → Has t name o → (name ≡ codes "/") ⊎ HasItsFolder t name

-- an operation changed the object of one name and no other: what it was, and what it is
pub record Changes (name : List ℕ) (old new : Tree) (was is : Option Thing) : Type 0 where
  pub before : object_at old.objects name ≡ was
  pub after : object_at new.objects name ≡ is
  pub others : (other : List ℕ) → (other ≡ name → ⊥) → object_at new.objects other ≡ object_at old.objects other

-- each object that does not lie below a name is as it was
abbrev pub KeepsOutside : List ℕ → Tree → Tree → Type 0
KeepsOutside under old new = (name : List ℕ) → (LiesBelow under name → ⊥) → object_at new.objects name ≡ object_at old.objects name

-- each object whose name is another one, and does not lie below it, is as it was
abbrev pub KeepsAround : List ℕ → Tree → Tree → Type 0
KeepsAround under old new = (name : List ℕ) → (LiesAt under name → ⊥) → object_at new.objects name ≡ object_at old.objects name

-- the numbers of the objects are below the next one, and no two are the same
pub record AreNumbered (t : Tree) : Type 0 where
  pub below : (name : List ℕ) (o : Thing) → Has t name o → o.instance < t.next
  pub apart : (name other : List ℕ) (o p : Thing) → Has t name o → Has t other p → o.instance ≡ p.instance → name ≡ other
