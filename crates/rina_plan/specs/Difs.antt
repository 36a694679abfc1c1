-- The rules that one DIF breaks by itself, or by the ranks of the others.
use Rattle.std.specs.Prelude.{ℕ, ◌+◌, ◌-◌, ◌*◌, ◌==◌, ◌&&◌, ◌||◌, not, Bool, false, nat_lt, nat_le, List, [], ◌∷◌, length, map, if◌then◌else◌}
use Rattle.std.specs.List.{list_any}
use Rattle.rina_base.specs.declared.pdu.PduKind.TheVariants.{Piece, Ack}
use Rattle.rina_cube.specs.declared.Cube.{Cube}
use Rattle.rina_cube.specs.declared.Kind.{Kind}
use Rattle.rina_cube.specs.declared.Kind.TheVariants.{Datagram, Reliable}
use Rattle.rina_pci.specs.Spelling.{pci_size}
use Rattle.rina_plan.specs.declared.dif.MemberPlan.{MemberPlan}
use Rattle.rina_plan.specs.declared.dif.DifPlan.{DifPlan}

-- rule 9: a DIF of a rank above 1 where no DIF has the rank below
unfoldable pub lacks_lower : List DifPlan → DifPlan → Bool
lacks_lower difs d = nat_lt 1 d.rank && not (list_any (λ (e : DifPlan). e.rank + 1 == d.rank) difs)

-- a list has a number twice
unfoldable pub has_twice : List ℕ → Bool
has_twice [] = false
has_twice (x ∷ xs) = list_any (λ y. y == x) xs || has_twice xs

-- rule 10: no cube, or two cubes of one id
unfoldable pub lacks_cubes : DifPlan → Bool
lacks_cubes d = (length d.cubes == 0) || has_twice (map (λ (c : Cube). c.id) d.cubes)

abbrev pub is_mistimed_by : Kind → Cube → Bool
is_mistimed_by Reliable c = (c.retry == 0) || (c.r == 0) || nat_lt c.r c.retry
is_mistimed_by _ c = not ((c.r == 0) && (c.a == 0) && (c.retry == 0))

-- rule 11: a reliable cube sends again, and within `r`; no other cube has `r`, `a` or `retry`
unfoldable pub is_mistimed : Cube → Bool
is_mistimed c = is_mistimed_by c.kind c

unfoldable pub has_mistimed : DifPlan → Bool
has_mistimed d = is_mistimed d.manage || list_any is_mistimed d.cubes

-- the greatest number that so many bytes hold
unfoldable pub greatest_of : ℕ → ℕ
greatest_of width = if width == 1 then 255 else (if width == 2 then 65535 else 4294967295)

-- a member has no address, or one that is too wide
unfoldable pub is_misaddressed : ℕ → MemberPlan → Bool
is_misaddressed width m = (m.addr == 0) || nat_lt (greatest_of width) m.addr

-- rule 12: no member, two members on one node or of one address, or an address that is 0 or too wide
unfoldable pub is_misplaced : DifPlan → Bool
is_misplaced d = (length d.members == 0) || has_twice (map (λ (m : MemberPlan). m.node) d.members) || has_twice (map (λ (m : MemberPlan). m.addr) d.members) || list_any (is_misaddressed d.widths.addr) d.members

-- the bytes of a protected PDU before its piece: 4 of lifetime, and the PCI
abbrev pub head_of : DifPlan → ℕ
head_of d = 4 + pci_size Piece d.widths

-- rule 13: the largest PDU does not fit its length field, leaves no byte for a piece, or is too short for an acknowledgement
unfoldable pub has_unfit_pdu : DifPlan → Bool
has_unfit_pdu d = nat_lt (greatest_of d.widths.len) d.pdu || nat_le d.pdu (head_of d) || nat_lt d.pdu (4 + pci_size Ack d.widths)

-- the most bytes of a piece
abbrev pub piece_of : DifPlan → ℕ
piece_of d = d.pdu - head_of d

-- so many bytes do not fit into so many pieces
abbrev pub is_over : ℕ → ℕ → ℕ → Bool
is_over piece pieces bytes = nat_lt (pieces * piece) bytes

abbrev pub is_oversized_by : Kind → ℕ → ℕ → Cube → Bool
is_oversized_by Datagram piece queue c = nat_lt piece c.largest
is_oversized_by _ piece queue c = is_over piece c.window c.largest || is_over piece queue c.largest

-- rule 14: the largest SDU of a datagram cube fits into one piece; that of another cube into as many pieces as the window and as the queue hold
unfoldable pub is_oversized : ℕ → ℕ → Cube → Bool
is_oversized piece queue c = is_oversized_by c.kind piece queue c

unfoldable pub has_oversized : DifPlan → Bool
has_oversized d = is_oversized (piece_of d) d.queue d.manage || list_any (is_oversized (piece_of d) d.queue) d.cubes

-- too many members, cubes or rules
unfoldable pub is_crowded : DifPlan → Bool
is_crowded d = nat_lt 64 (length d.members) || nat_lt 8 (length d.cubes) || nat_lt 256 (length d.rules)
