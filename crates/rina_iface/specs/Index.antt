-- The index of ends by their ports.
use Rattle.std.specs.Prelude.{◌≡◌, ℕ, List}
use Rattle.std.specs.BTreeMap.{BTreeMap, get_by}
use Rattle.std.specs.declared.cmp.Ordering.{Ordering}
use Rattle.std.specs.Ordering.{nat_cmp, ordering_then}
use Rattle.rina_base.specs.declared.number.Port.{Port}
use Rattle.rina_iface.specs.declared.ends.End.{End}
use Rattle.rina_iface.specs.Ends.{place_in}

-- a port against a key of the index: by facility, then by node, then by number
abbrev pub port_cmp : Port → ℕ × ℕ × ℕ → Ordering
port_cmp port key = ordering_then (ordering_then (nat_cmp port.fac key.0) (nat_cmp port.node key.1)) (nat_cmp port.n key.2)

-- the index has the place of each port's end, and of no other port
abbrev pub IsIndex : BTreeMap (ℕ × ℕ × ℕ) ℕ → List End → Type 0
IsIndex places ends = (port : Port) → get_by (port_cmp port) places ≡ place_in port ends
