-- The ends of flows, in the order in which they were made.
use Rattle.std.specs.Prelude.{ℕ, ◌+◌, ◌==◌, ◌&&◌, Bool, List, [], ◌∷◌, ◌++◌, position, count_by, option_and_then, slice_get, Option}
use Rattle.rina_base.specs.declared.number.Port.{Port}
use Rattle.rina_law.specs.declared.entry.Entry.{Entry}
use Rattle.rina_iface.specs.declared.ends.End.{End}

-- an end has this port
abbrev pub has_port : Port → End → Bool
has_port port e = (e.port.fac == port.fac) && (e.port.node == port.node) && (e.port.n == port.n)

-- the place of a port's end
abbrev pub place_in : Port → List End → Option ℕ
place_in port ends = position (has_port port) ends

-- the end of a port
abbrev pub end_in : Port → List End → Option End
end_in port ends = option_and_then (λ i. slice_get ends i) (place_in port ends)

-- how many ports were drawn at a node: as many as it has ends
abbrev pub drawn_at : ℕ → List End → ℕ
drawn_at node ends = count_by (λ (e : End). e.port.node == node) ends

-- the end after its `send` accepted an SDU
abbrev pub with_sent : End → Entry → End
with_sent e x = record e { sent = e.sent ++ x ∷ [] }

-- the end after an SDU was delivered to it
abbrev pub with_got : End → Entry → End
with_got e x = record e { got = e.got ++ x ∷ [] }

-- the end after its oldest entry was passed to the application
abbrev pub with_passed : End → End
with_passed e = record e { taken = e.taken + 1 }
