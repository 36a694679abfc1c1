-- The printed text of a stack and its schedule.
use Rattle.std.specs.Prelude.{ℕ, ◌+◌, List, [], ◌∷◌, ◌++◌, codes}
use Rattle.std.specs.Fmt.{decimal}
use Rattle.std.specs.List.{flat_map}
use Rattle.rina_gen.specs.declared.input.Wire.{Wire}
use Rattle.rina_gen.specs.declared.input.Link.{Link}
use Rattle.rina_gen.specs.declared.input.Flow.{Flow}
use Rattle.rina_gen.specs.declared.input.Line.{Line}
use Rattle.rina_gen.specs.declared.input.Line.TheVariants as lines
use Rattle.rina_gen.specs.declared.input.Input.{Input}
use Rattle.rina_gen.specs.declared.listed.Column.{Column}
use Rattle.rina_gen.specs.declared.listed.Column.TheVariants as columns

-- words, and a number behind them
unfoldable pub led : List ℕ → ℕ → List ℕ
led words n = words ++ decimal n

-- a letter and a number between quotation marks
unfoldable pub quoted : List ℕ → ℕ → List ℕ
quoted letter n = 34 ∷ led letter n ++ 34 ∷ []

-- elements, separated by a comma and a space
abbrev pub divided : {X : Type 0} → (X → List ℕ) → List X → List ℕ
divided text [] = []
divided text (x ∷ xs) = text x ++ flat_map (λ y. codes ", " ++ text y) xs

-- a line with a key and a list of tables
abbrev pub list_of : {X : Type 0} → List ℕ → (X → List ℕ) → List X → List ℕ
list_of key text xs = key ++ codes " = [ " ++ divided text xs ++ codes " ]\n"

-- a node by its number
abbrev pub node_text : ℕ → List ℕ
node_text n = quoted (codes "n") n

-- Wires

-- its two nodes
unfoldable pub ends_text : ℕ → ℕ → List ℕ
ends_text a b = node_text a ++ codes ", " ++ node_text b

unfoldable pub storm_text : Wire → List ℕ
storm_text w = led (codes "storm = { seed = ") w.seed ++ led (codes ", lose = ") w.lose ++ led (codes ", repeat = ") w.repeat ++ codes ", spread = 4 }\n"

-- how each wire begins
unfoldable pub wire_head : List ℕ
wire_head = codes "[[wire]]\nname = \"w"

-- its lifetime and its longest frame
unfoldable pub wire_limits : List ℕ
wire_limits = codes "\nlife = 12\nlargest = 1500\n"

unfoldable pub delay_text : Wire → List ℕ
delay_text w = led (codes "]\ndelay = ") w.delay ++ wire_limits

-- a wire as a table
unfoldable pub wire_text : Wire → List ℕ
wire_text w = led wire_head w.number ++ codes "\"\nends = [" ++ ends_text w.number w.to ++ delay_text w ++ storm_text w

-- Elements of lists

-- the two nodes of a link
unfoldable pub link_ends : ℕ → ℕ → List ℕ
link_ends a b = codes "a = " ++ node_text a ++ codes ", b = " ++ node_text b

-- the member at the first node of a wire
unfoldable pub member_text : Wire → List ℕ
member_text w = codes "{ node = " ++ node_text w.number ++ led (codes ", addr = ") (w.number + 1) ++ codes " }"

-- the link of the lower DIF on a wire
unfoldable pub low_link_text : Wire → List ℕ
low_link_text w = led (codes "{ on = \"w") w.number ++ codes "\", " ++ link_ends w.number w.to ++ codes " }"

-- how each link of the upper DIF begins
unfoldable pub link_head : List ℕ
link_head = codes "{ on = \"low\", "

-- a link of the upper DIF
unfoldable pub link_text : Link → List ℕ
link_text l = link_head ++ link_ends l.from l.to ++ led (codes ", cube = ") l.cube ++ codes " }"

-- an end of a flow
unfoldable pub end_text : ℕ → List ℕ → List ℕ → ℕ → List ℕ
end_text node app label n = codes "{ node = " ++ node_text node ++ codes ", app = " ++ quoted app n ++ codes ", label = " ++ quoted label n ++ codes " }"

-- a flow of the upper DIF
unfoldable pub flow_text : Flow → List ℕ
flow_text f =
    led (codes "{ cube = ") f.cube ++ codes ", from = " ++ end_text f.from (codes "a") (codes "p") f.number
    ++ codes ", to = " ++ end_text f.to (codes "b") (codes "q") f.number ++ codes " }"

-- what a list shows of each wire
abbrev pub column_text : Column → Wire → List ℕ
column_text columns.Node w = node_text w.number
column_text columns.Member w = member_text w
column_text columns.Link w = low_link_text w

-- The stack

unfoldable pub low_head : List ℕ
low_head = codes "[[dif]]\nname = \"low\"\nrank = 1\nstatic = true\npdu = 300\nwidths = { addr = 1, cep = 2, len = 2, seq = 2 }\nqueue = 64\npolicy = \"round\"\nwait = 500\nmanage = { mpl = 200, r = 60, a = 2, retry = 15, window = 16 }\ncube = [ { id = 1, kind = \"datagram\", mpl = 200, window = 64, largest = 250 }, { id = 2, kind = \"reliable\", mpl = 200, window = 16, largest = 250, r = 60, a = 2, retry = 15 } ]\n"

unfoldable pub high_head : List ℕ
high_head = codes "[[dif]]\nname = \"high\"\nrank = 2\nstatic = true\npdu = 250\nwidths = { addr = 1, cep = 2, len = 2, seq = 2 }\nqueue = 64\npolicy = \"weighted\"\nwait = 2000\nmanage = { mpl = 900, r = 200, a = 4, retry = 60, window = 16 }\ncube = [ { id = 1, kind = \"loose\", mpl = 900, window = 64, largest = 1000 }, { id = 2, kind = \"reliable\", mpl = 900, window = 16, largest = 1000, r = 200, a = 4, retry = 60 } ]\n"

-- the lower DIF, on the wires
unfoldable pub low_text : Input → List ℕ
low_text i = low_head ++ list_of (codes "member") (column_text columns.Member) i.wires ++ list_of (codes "link") (column_text columns.Link) i.wires

-- the upper DIF, on the lower one
unfoldable pub high_text : Input → List ℕ
high_text i =
    high_head ++ list_of (codes "member") (column_text columns.Member) i.wires ++ list_of (codes "link") link_text i.links
    ++ list_of (codes "flow") flow_text i.flows

unfoldable pub stack_text : Input → List ℕ
stack_text i = codes "nodes = [" ++ divided (column_text columns.Node) i.wires ++ codes "]\n" ++ flat_map wire_text i.wires ++ low_text i ++ high_text i

-- The schedule

unfoldable pub line_text : Line → List ℕ
line_text (lines.Send flow zeros) = led (codes "send p") flow ++ led (codes " z") zeros ++ 10 ∷ []
line_text (lines.Read flow) = led (codes "read q") flow ++ 10 ∷ []
line_text (lines.Tick ticks) = led (codes "tick ") ticks ++ 10 ∷ []

-- the end of each schedule: time for all that is in flight to arrive, and a read on each flow
unfoldable pub last_lines : List ℕ
last_lines = codes "tick 2000\nread q0\nread q1\nread q2\nread q3\nread q4\nread q5\n"

-- stack and schedule
unfoldable pub input_text : Input → List ℕ
input_text i = stack_text i ++ codes "%%\n" ++ flat_map line_text i.lines ++ last_lines
