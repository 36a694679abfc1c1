-- Walks over objects.
use Rattle.std.specs.Prelude.{ℕ, List, filter}
use Rattle.rina_rib.specs.declared.object.Object.{Object}
use Rattle.rina_rib.specs.declared.walk.Walk.{Walk}
use Rattle.rina_rib.specs.Names.{is_within}
use Rattle.rina_rib.specs.Things.{thing_of}
use Rattle.rina_rib.specs.Objects.{Named, seen}
use denote.Bor.{Bor}

-- the objects at or under a name, in the order of names
abbrev pub within : List ℕ → List Named → List Named
within name objects = filter (λ e. is_within name e.0) objects

-- a name and its object, which are lent
abbrev pub named_of : Bor (List ℕ) × Object → Named
named_of x = (x.0.now, thing_of x.1)

-- what a walk has left
abbrev pub left_of : Walk → List Named
left_of w = within w.under.now (seen w.rest)
