-- What became of each SDU that an end of a flow sent, as far as the notes show it.
use Rattle.std.specs.Prelude.{ℕ, ◌==◌, ◌&&◌, Bool, true, false, nat_lt, nat_le, not, List, [], ◌∷◌, find, position, count_by, option_map, Option, Some, None}
use Rattle.std.specs.List.{list_any}
use Rattle.std.specs.Str.{bytes_eq}
use Rattle.rina_base.specs.declared.number.FlowName.{FlowName}
use Rattle.rina_base.specs.declared.number.Key.{Key}
use Rattle.rina_base.specs.declared.number.Num.{Num}
use Rattle.rina_base.specs.declared.pdu.PduKind.{PduKind}
use Rattle.rina_base.specs.declared.pdu.PduKind.TheVariants.{Piece, Ack}
use Rattle.rina_iface.specs.declared.state.Role.{Role}
use Rattle.rina_iface.specs.declared.state.Role.TheVariants as roles
use Rattle.rina_view.specs.declared.shown.Entry.{Entry}
use Rattle.rina_view.specs.declared.shown.End.{End}
use Rattle.rina_view.specs.declared.shown.Off.{Off}
use Rattle.rina_view.specs.declared.row.Row.{Row}

unfoldable pub same_num : Num → Num → Bool
same_num a b = (a.cep == b.cep) && (a.seq == b.seq)

unfoldable pub same_flow : FlowName → FlowName → Bool
same_flow a b = (a.src == b.src) && (a.tick == b.tick) && (a.count == b.count)

unfoldable pub are_opposite : Role → Role → Bool
are_opposite roles.Asker roles.Far = true
are_opposite roles.Far roles.Asker = true
are_opposite a b = false

-- the other end of a flow, in the same journal
unfoldable pub is_other_end : End → End → Bool
is_other_end end other = (end.line == other.line) && bytes_eq end.fac other.fac && same_flow end.flow other.flow && are_opposite end.role other.role

abbrev pub got_by : Option End → List Entry
got_by None = []
got_by (Some end) = end.got

-- what the other end of a flow got; nothing where the journal does not show that end
unfoldable pub got_there : List End → End → List Entry
got_there ends end = got_by (find (is_other_end end) ends)

-- the number of an SDU was used again by then
unfoldable pub is_used_by : Entry → ℕ → Entry → Bool
is_used_by sent tick other = same_num other.num sent.num && nat_le other.at tick

-- an SDU that was got is this one, which was sent before those of `later`: it has the number, and came once this one was sent and before the
-- number was used again
unfoldable pub is_got : Entry → List Entry → Entry → Bool
is_got sent later got = same_num got.num sent.num && nat_le sent.at got.at && not (list_any (is_used_by sent got.at) later)

-- the tick at which an SDU was first got
unfoldable pub got_at : Entry → List Entry → List Entry → Option ℕ
got_at sent later got = option_map (λ (entry : Entry). entry.at) (find (is_got sent later) got)

unfoldable pub is_piece : PduKind → Bool
is_piece Piece = true
is_piece Ack = false

-- the address is that of the end; of the asker it is in the name of the flow, and the far end has another one
unfoldable pub has_address : Role → FlowName → ℕ → Bool
has_address roles.Asker flow src = src == flow.src
has_address roles.Far flow src = not (src == flow.src)

-- another SDU of the end begins between this one and the PDU of that number, or there
unfoldable pub is_between : Num → ℕ → Entry → Bool
is_between num seq other = (other.num.cep == num.cep) && nat_lt num.seq other.num.seq && nat_le other.num.seq seq

-- the PDU is data, with the CEP-id and the address of the end that sent the SDU of this number; an SDU of a wire, which has CEP-id 0, has no PDUs
unfoldable pub is_from : End → Num → Key → Bool
is_from end num key = is_piece key.kind && nat_lt 0 num.cep && (key.scep == num.cep) && has_address end.role end.flow key.src

-- what was written off is a PDU of an SDU: it is from the end that sent it, and has a number from that of the SDU on, before that of the end's next
unfoldable pub is_off_of : End → Num → Off → Bool
is_off_of end num off = is_from end num off.key && nat_le num.seq off.key.seq && not (list_any (is_between num off.key.seq) end.sent)

-- the row of an SDU that an end sent
abbrev pub row_of : List Entry → List Off → End → Entry → List Entry → Row
row_of got offs end sent later = record {
  sent = sent;
  got = got_at sent later got;
  off = position (is_off_of end sent.num) offs;
  offs = count_by (is_off_of end sent.num) offs;
}

-- a row for each SDU, in order
abbrev pub rows_from : List Entry → List Off → End → List Entry → List Row
rows_from got offs end [] = []
rows_from got offs end (sent ∷ later) = row_of got offs end sent later ∷ rows_from got offs end later

-- the rows of an end: one for each SDU that it sent, in order
abbrev pub rows_of : List End → List Off → End → List Row
rows_of ends offs end = rows_from (got_there ends end) offs end end.sent
