-- Which rules are tried over a whole stack, and which names its references may have.
use Rattle.std.specs.Prelude.{ℕ, [], Option, None}
use Rattle.rina_table.specs.declared.scope.Scope.{Scope}
use Rattle.rina_table.specs.declared.sketch.Sketch.{Sketch}
use Rattle.rina_stack.specs.Rules.{wire_names, dif_names}

-- the rules on single values up to `upto` are tried, and no reference is resolved
abbrev pub unresolved_scope : ℕ → Scope
unresolved_scope upto = record { upto = upto; nodes = []; wires = []; difs = []; unknown = None }

-- all rules on single values are tried, and references are resolved among the names of the stack
abbrev pub resolved_scope : Sketch → Option ℕ → Scope
resolved_scope named unknown = record { upto = 7; nodes = named.nodes; wires = wire_names named.wires; difs = dif_names named.difs; unknown = unknown }
