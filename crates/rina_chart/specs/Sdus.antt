-- The SDUs of a facility, as a chart shows them: between which lifelines, and at which ticks.
use Rattle.std.specs.Prelude.{ℕ, ◌*◌, ◌/◌, ◌&&◌, Bool, not, nat_le, min, max, List, [], ◌∷◌, ◌++◌, find, map, position, unwrap_or, Option, Some, None, if◌then◌else◌}
use Rattle.std.specs.List.{flat_map, list_any}
use Rattle.std.specs.Str.{bytes_eq}
use Rattle.rina_view.specs.declared.row.Row.{Row}
use Rattle.rina_view.specs.declared.shown.End.{End}
use Rattle.rina_view.specs.declared.shown.Off.{Off}
use Rattle.rina_view.specs.Rows.{is_other_end, rows_of}
use Rattle.rina_chart.specs.declared.sdu.Sdu.{Sdu}
use Rattle.rina_chart.specs.declared.window.Window.{Window}
use Rattle.rina_chart.specs.Windows.{window}

-- an end of a flow of the facility
unfoldable pub is_of : List ℕ → End → Bool
is_of fac end = bytes_eq end.fac fac

-- an end of a flow of the facility, at a node that is not among these
unfoldable pub is_new : List ℕ → List (List ℕ) → End → Bool
is_new fac nodes end = is_of fac end && not (list_any (λ other. bytes_eq end.node other) nodes)

abbrev pub with_node : List ℕ → List (List ℕ) → End → List (List ℕ)
with_node fac nodes end = if is_new fac nodes end then nodes ++ end.node ∷ [] else nodes

abbrev pub nodes_from : List ℕ → List (List ℕ) → List End → List (List ℕ)
nodes_from fac nodes [] = nodes
nodes_from fac nodes (end ∷ ends) = nodes_from fac (with_node fac nodes end) ends

-- the nodes that have an end of a flow of the facility, each once, in the order of the ends
abbrev pub nodes_of : List ℕ → List End → List (List ℕ)
nodes_of fac ends = nodes_from fac [] ends

-- the place of a node among the lifelines, 0 where it has none
unfoldable pub place_of : List (List ℕ) → List ℕ → ℕ
place_of nodes node = unwrap_or (position (λ other. bytes_eq node other) nodes) 0

abbrev pub node_by : End → Option End → List ℕ
node_by end None = end.node
node_by end (Some other) = other.node

-- the node at the other end of the flow, in the same journal
unfoldable pub receiver : List End → End → List ℕ
receiver ends end = node_by end (find (is_other_end end) ends)

-- the SDU of a row of an end
abbrev pub sdu_of : List (List ℕ) → List End → End → Row → Sdu
sdu_of nodes ends end row = record {
  flow = end.flow;
  num = row.sent.num;
  from = place_of nodes end.node;
  to = place_of nodes (receiver ends end);
  sent = row.sent.at;
  got = row.got;
}

-- the SDUs that an end sent, where it is one of a flow of the facility: one for each of its rows
abbrev pub end_sdus : List ℕ → List (List ℕ) → List End → List Off → End → List Sdu
end_sdus fac nodes ends offs end = if is_of fac end then map (sdu_of nodes ends end) (rows_of ends offs end) else []

-- the SDUs that were sent over flows of the facility: one for each row of an end of one, in their order
abbrev pub sdus_of : List ℕ → List (List ℕ) → List End → List Off → List Sdu
sdus_of fac nodes ends offs = flat_map (end_sdus fac nodes ends offs) ends

-- the tick at which an SDU arrived, or at which it was sent where it did not arrive
unfoldable pub last_tick : Sdu → ℕ
last_tick s = unwrap_or s.got s.sent

-- an SDU is sent, under way or got in a window
unfoldable pub meets : Window → Sdu → Bool
meets w s = nat_le w.from (last_tick s) && nat_le s.sent w.to

-- the least of a tick and those at which SDUs were sent
abbrev pub least_sent : ℕ → List Sdu → ℕ
least_sent least [] = least
least_sent least (s ∷ ss) = least_sent (min least s.sent) ss

-- the first tick at which an SDU was sent, 0 where there is none
abbrev pub earliest : List Sdu → ℕ
earliest [] = 0
earliest (s ∷ ss) = least_sent s.sent ss

-- the greatest of a tick and the last ticks of SDUs
abbrev pub latest : ℕ → List Sdu → ℕ
latest last [] = last
latest last (s ∷ ss) = latest (max last (last_tick s)) ss

abbrev pub window_from : ℕ → List Sdu → Window
window_from from ss = window from (latest from ss)

-- the window of all SDUs: from the first sending, rounded down to tens, to the last tick of an SDU
abbrev pub whole : List Sdu → Window
whole ss = window_from (earliest ss / 10 * 10) ss

-- the window that is asked for, else that of all SDUs
abbrev pub window_or : Option Window → List Sdu → Window
window_or None ss = whole ss
window_or (Some w) ss = w
