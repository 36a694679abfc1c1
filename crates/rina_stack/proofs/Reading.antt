-- What was read of a whole stack.
use Rattle.std.proofs.Common.{◌≡◌, ℕ, ◌+◌, List, length, Option, Result, Ok, Err, IfOk, subst}
use Rattle.std.specs.Prelude.{codes}
use Rattle.toml.specs.Data.{Data, get}
use Rattle.rina_base.specs.Traverse.{traverse}
use Rattle.rina_table.specs.declared.scope.Scope.{Scope}
use Rattle.rina_table.specs.declared.sketch.Sketch.{Sketch}
use Rattle.rina_table.specs.declared.error.StackError.{StackError}
use Rattle.rina_table.specs.Faults.{Gives}
use Rattle.rina_table.specs.Values.{rows_in, tables_in}
use Rattle.rina_table.specs.Rows.{wire_at}
use Rattle.rina_table.specs.Items.{node_row, rounds_or, dif_at, sketch_at}
use Rattle.rina_stack.specs.Scopes.{resolved_scope}
use Rattle.rina_stack.specs.Ranges.{IsRangedWire, IsRangedDif, IsNamed, IsSoundSketch}
use Rattle.rina_stack.proofs.Inversion.{bind_ok, all_read}
use Rattle.rina_stack.proofs.SoundDif.{dif_7, named_7}
use Rattle.rina_stack.proofs.SoundWire.{wire_7}

-- how the parts of a stack were read
pub record WasRead (s : Scope) (d : Data) (k : Sketch) : Type 0 where
  pub wire_tables : List Data
  pub dif_tables : List Data
  pub nodes : rows_in (node_row s 0) 0 (codes "nodes") d ≡ Ok k.nodes
  pub are_wires : tables_in 0 (codes "wire") d ≡ Ok wire_tables
  pub are_difs : tables_in 0 (codes "dif") d ≡ Ok dif_tables
  pub wires : traverse (wire_at s) 1 wire_tables ≡ Ok k.wires
  pub difs : traverse (dif_at s) (1 + length wire_tables) dif_tables ≡ Ok k.difs

pub parts : (s : Scope) (d : Data) (k : Sketch) → sketch_at s d ≡ Ok k → WasRead s d k
unfolding sketch_at
parts s d k h =
    let (nodes, is_nodes, h1) = bind_ok (rows_in (node_row s 0) 0 (codes "nodes") d) _ k h in
    let (rounds, _, h2) = bind_ok (rounds_or (get (codes "rounds") d)) _ k h1 in
    let (wts, is_wts, h3) = bind_ok (tables_in 0 (codes "wire") d) _ k h2 in
    let (dts, is_dts, h4) = bind_ok (tables_in 0 (codes "dif") d) _ k h3 in
    let (wires, is_wires, h5) = bind_ok (traverse (wire_at s) 1 wts) _ k h4 in
    let (difs, is_difs, h6) = bind_ok (traverse (dif_at s) (1 + length wts) dts) _ k h5 in
    let whole : record { nodes = nodes; rounds = rounds; wires = wires; difs = difs } ≡ k = cc in
    subst (WasRead s d) whole (record { wire_tables = wts; dif_tables = dts; nodes = is_nodes; are_wires = is_wts; are_difs = is_dts; wires = is_wires; difs = is_difs })

-- what was read with its references is in range, and refers to what is there
pub sound : (known : Sketch) (u : Option ℕ) (d : Data) (s : Sketch) → sketch_at (resolved_scope known u) d ≡ Ok s → IsSoundSketch known s
sound known u d s h =
    let read = parts (resolved_scope known u) d s h in
    record {
      wires = all_read (IsRangedWire (length known.nodes)) (wire_at (resolved_scope known u)) 1 read.wire_tables s.wires (λ n x y. wire_7 known u n x y) read.wires;
      difs = all_read (IsRangedDif (length known.nodes) (length known.wires) (length known.difs)) (dif_at (resolved_scope known u)) (1 + length read.wire_tables) read.dif_tables s.difs (λ n x y. dif_7 known u n x y) read.difs;
      are_named = all_read IsNamed (dif_at (resolved_scope known u)) (1 + length read.wire_tables) read.dif_tables s.difs (λ n x y. named_7 known u n x y) read.difs;
    }

-- so it is with what a call gives
pub sound_where_read : (known : Sketch) (u : Option ℕ) (d : Data) (r : Result Sketch StackError) → Gives (λ s. s) r (sketch_at (resolved_scope known u) d) → IfOk r (IsSoundSketch known)
sound_where_read known u d (Ok s) h = sound known u d s h
sound_where_read known u d (Err e) h = tt
