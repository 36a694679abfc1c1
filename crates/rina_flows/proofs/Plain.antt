-- What the calls do at a place is what becomes of the DIF.
use Rattle.std.proofs.Common.{◌≡◌, ℕ, suc, List, [], ◌∷◌, length, map, slice_set, refl, sym, ◌∙◌, ap, arith}
use Rattle.std.proofs.lemmas.List.{length-map}
use Rattle.rina_base.specs.declared.pdu.Pdu.{Pdu}
use Rattle.rina_dif_law.specs.Dif.{constants}
use Rattle.rina_data.specs.Process.{with_put}
use Rattle.rina_dif_law.specs.Ids.{Ids, pdu_of_piece}
use Rattle.rina_dif_law.specs.Sending.{made_items, offered_entry, offered_pieces}
use Rattle.rina_iface.specs.Ends.{with_sent}
use Rattle.rina_law.specs.Constants.{Constants}
use Rattle.rina_law.specs.Pieces.{Part}
use Rattle.rina_law.specs.Receiver.{Piece}
use Rattle.rina_law.specs.Sender.{Sender, pieces_for, sender_with}
use Rattle.rina_queue.specs.declared.queue.Queued.{Queued}
use Rattle.rina_flows.specs.Laws.{OffersAreOffers, PassesArePasses, TakersAreTakers, TellingsAreTold, waiting_now}

items_are : (ids : Ids) (mpl now : ℕ) (ps : List Piece) → made_items ids mpl now ps ≡ waiting_now mpl now (map (pdu_of_piece ids) ps)
items_are ids mpl now [] = refl
items_are ids mpl now (p ∷ ps) = ap (λ (xs : List Queued). record { pdu = pdu_of_piece ids p; left = mpl; since = now } ∷ xs) (items_are ids mpl now ps)

pieces_count : (c : Constants) (now : ℕ) (parts : List Part) (tx : Sender) → length (pieces_for c now parts tx) ≡ length parts
pieces_count c now [] tx = refl
pieces_count c now (part ∷ parts) tx = ap suc (pieces_count c now parts (sender_with c now part tx))

pub offers_are : OffersAreOffers
offers_are d lines at parts num pdus ends' lines' i process link place queue d' o allocated at_home is_process hop is_queue room is =
    let c : Constants = constants d.config o.cube o.its_ids in
    let pieces : List Piece = offered_pieces c parts o.line in
    let items : waiting_now o.cube.mpl d.clock pdus ≡ made_items o.its_ids o.cube.mpl d.clock pieces = ap (waiting_now o.cube.mpl d.clock) o.offered.2 ∙ sym (items_are o.its_ids o.cube.mpl d.clock pieces) in
    let count : length pdus ≡ length parts = ap (λ (xs : List Pdu). length xs) o.offered.2 ∙ length-map pieces (pdu_of_piece o.its_ids) ∙ pieces_count c o.line.line.clock parts _ in
    record {
      end = o.end;
      ids = o.its_ids;
      line = o.line;
      cube = o.cube;
      is_conn = o.place.is_conn;
      is_line = o.is_line;
      is_cube = o.place.is_cube;
      allocated = allocated;
      free = o.offered.0;
      i = i;
      process = process;
      at_home = at_home;
      is_process = is_process;
      link = link;
      hop = hop;
      place = place;
      queue = queue;
      is_queue = is_queue;
      room = omega arith;
      num_is = o.offered.1;
      lines_are = o.offered.4;
      new_is = is ∙ ap (λ es. record d { ends = es; processes = slice_set d.processes i (with_put process place queue (waiting_now o.cube.mpl d.clock pdus)) }) o.offered.3 ∙ ap (λ xs. record d { ends = slice_set d.ends at (with_sent o.end (offered_entry c parts o.line)); processes = slice_set d.processes i (with_put process place queue xs) }) items;
    }

pub passes_are : PassesArePasses
passes_are d lines at ends' lines' d' p is = record {
  end = p.end;
  ids = p.its_ids;
  is_conn = p.place.is_conn;
  waits = p.waits;
  from = p.from;
  line = p.line;
  inbound = record { partner = p.inbound.partner; is_partner = p.inbound.is_partner; partners = p.inbound.partners; is_line = p.inbound.is_line };
  cube = p.cube;
  is_cube = p.place.is_cube;
  lines_are = p.lines_are;
  new_is = is ∙ ap (λ es. record d { ends = es }) p.ends_are;
}

pub takers_are : TakersAreTakers
takers_are d pdu at end ids = (
  (λ t. record { is_conn = t.is_conn; allocated = t.allocated; names = t.names }),
  (λ t. record { is_conn = t.is_conn; allocated = t.allocated; names = t.names }),
)

pub tellings_are : TellingsAreTold
tellings_are d lines pdu at end ids lines' kind t told = record {
  ack = kind;
  place = at;
  end = end;
  ids = ids;
  taker = record { is_conn = t.is_conn; allocated = t.allocated; names = t.names };
  line = told.line;
  is_line = told.is_line;
  lines_are = told.lines_are;
  new_is = refl;
}
