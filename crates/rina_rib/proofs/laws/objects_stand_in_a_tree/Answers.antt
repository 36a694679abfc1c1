use Rattle.rina_rib.proofs.Growth.{first_in_tree, created_tree, deleted_tree, written_tree, turned_tree}
use Rattle.rina_rib.proofs.Ancestors.{in_front, made_in_folder, nothing_below}
use Rattle.rina_rib.proofs.laws.objects_stand_in_a_tree.Goals as goal

pub returns-clause-first : goal.returns-clause-first
returns-clause-first c = first_in_tree

pub returns-clause-created : goal.returns-clause-created
returns-clause-created c = created_tree

pub returns-clause-deleted : goal.returns-clause-deleted
returns-clause-deleted c = deleted_tree

pub returns-clause-written : goal.returns-clause-written
returns-clause-written c = written_tree

pub returns-clause-turned : goal.returns-clause-turned
returns-clause-turned c = turned_tree

pub returns-clause-in_front : goal.returns-clause-in_front
returns-clause-in_front c = in_front

pub returns-clause-made : goal.returns-clause-made
returns-clause-made c = made_in_folder

pub returns-clause-nothing_below : goal.returns-clause-nothing_below
returns-clause-nothing_below c = nothing_below
