-- The refusals of an SDU are those of the machine.
use Rattle.std.proofs.Common.{◌≡◌, ℕ, suc, ◌+◌, ◌<◌, ◌≤◌, Bool, true, false, ltb, List, [], ◌∷◌, length, map, Some, Ok, Err, refl, sym, ◌∙◌, ap, subst, arith}
use Rattle.std.proofs.lemmas.Bool.{lt-ltb, le-ltb}
use Rattle.std.proofs.lemmas.List.{length-map}
use Rattle.rina_cube.specs.Cubes.{is_reliable, delta_of}
use Rattle.rina_cube.specs.declared.Kind.{Kind}
use Rattle.rina_cube.specs.declared.Kind.TheVariants.{Datagram, Loose, Reliable}
use Rattle.rina_delim.specs.declared.part.Part as delim
use Rattle.rina_delim.specs.Parts.{part_count, parts_of}
use Rattle.rina_dtcp.specs.Rows.{ready, NotesAll, IsTold}
use Rattle.rina_dtcp.specs.Senders.{Kept, flag_of}
use Rattle.rina_law.specs.Constants.{Constants}
use Rattle.rina_law.specs.Line.{HasRoom}
use Rattle.rina_law.specs.Pieces.{Part, IsCut, join}
use Rattle.rina_law.specs.Receiver.{Piece}
use Rattle.rina_law.specs.Sender as law
use Rattle.rina_law.specs.Sender.{Sender, refusal, room_of, pieces_for, sender_told}
use Rattle.rina_base.specs.declared.pdu.Pdu.{Pdu}
use Rattle.rina_conn.specs.declared.made.Made.{Made}
use Rattle.rina_conn.specs.declared.made.OfferError.{OfferError}
use Rattle.rina_conn.specs.declared.made.OfferError.TheVariants.{Memory}
use Rattle.rina_conn.specs.declared.sending.Admitted.{Admitted}
use Rattle.rina_conn.specs.declared.sending.Sending.{Sending}
use Rattle.rina_conn.specs.Carrying.{carry, part_in, parts_in, made_from}
use Rattle.rina_conn.specs.Sending.{IsSender, ChecksLength, ChecksWindow, IsPartsOf, Numbered, Admits, IsCutOf, Offers}
use Rattle.rina_conn.proofs.Making.{made_is}
use Rattle.rina_conn.proofs.Cutting.{parts_cut, parts_few, parts_lie_within}

too_long : (c : Constants) (tx : Sender) (parts : List Part) (len : ℕ) → length (join parts) ≡ len → c.cube.largest < len → refusal c tx parts ≡ Some (law.TooLong len c.cube.largest)
too_long c tx parts len e lt = (let long : ltb c.cube.largest len ≡ true = lt-ltb c.cube.largest len lt in rw (e, long) refl)

shut : (c : Constants) (tx : Sender) (parts : List Part) → length (join parts) ≤ c.cube.largest → is_reliable c.cube.kind ≡ true → room_of tx < length parts → refusal c tx parts ≡ Some (law.WindowShut (length parts) (room_of tx))
shut c tx parts short rel lt =
    let long : ltb c.cube.largest (length (join parts)) ≡ false = le-ltb c.cube.largest (length (join parts)) short in
    let full : ltb (room_of tx) (length parts) ≡ true = lt-ltb (room_of tx) (length parts) lt in
    rw (long, rel, full) refl

has_room : (kind : Kind) (room need : ℕ) → (is_reliable kind ≡ true → need ≤ room) → kind ≡ Reliable → need ≤ room
has_room Datagram room need h e = cc
has_room Loose room need h e = cc
has_room Reliable room need h e = h refl

parts_length : (size : ℕ) (sdu : List ℕ) (parts : List delim.Part) → parts ≡ parts_of (length sdu) size → length (parts_in size sdu) ≡ length parts
parts_length size sdu parts e = length-map (parts_of (length sdu) size) (part_in sdu) ∙ ap length (sym e)

pub long_refused : (now : ℕ) (sdu : List ℕ) (s : Sending) (e : OfferError) → 1 ≤ s.form.piece → ChecksLength (length sdu) s.form.cube.largest (Err e) → Admits now sdu s (Err e)
long_refused now sdu s e one (lt, is) c m st =
    let cut = (parts_cut sdu s.form.piece one).1 in
    rw (is, st.cube) (too_long c (ready c now m) (parts_in s.form.piece sdu) (length sdu) (ap length cut) (rw st.cube at lt))

pub shut_refused : (now : ℕ) (sdu : List ℕ) (s : Sending) (parts : List delim.Part) (e : OfferError) → 1 ≤ s.form.piece → parts ≡ parts_of (length sdu) s.form.piece → length sdu ≤ s.form.cube.largest → ChecksWindow now (length parts) s (Err e) → Admits now sdu s (Err e)
shut_refused now sdu s parts e one are short (room, tells, rel, lt, is) c m st =
    let cut = (parts_cut sdu s.form.piece one).1 in
    let room_is : room ≡ room_of (ready c now m) = tells c (carry s.form.peer s.form.cube.id) m st.tx in
    let need = parts_length s.form.piece sdu parts are in
    let short' : length (join (parts_in s.form.piece sdu)) ≤ c.cube.largest = rw (cut, ← st.cube) short in
    let told = shut c (ready c now m) (parts_in s.form.piece sdu) short' (rw st.cube at rel) (rw (need, ← room_is) lt) in
    rw (is, room_is, ← need) told

-- the window and the length are right, so that the numbers alone may refuse it
window_has_room : (c : Constants) (now need : ℕ) (s : Sending) (m : Sender) (parts : List Part) → IsSender c m s → length parts ≡ need → 1 ≤ need → ChecksWindow now need s (Ok tt) → HasRoom c (ready c now m) (length parts)
window_has_room c now need s m parts st count one (room, tells, fits) rel =
    let room_is : room ≡ room_of (ready c now m) = tells c (carry s.form.peer s.form.cube.id) m st.tx in
    let within : need ≤ room = has_room c.cube.kind room need (rw st.cube at fits) rel in
    omega arith

pub spent_refused : (now : ℕ) (sdu : List ℕ) (s : Sending) (parts : List delim.Part) (e : OfferError) → 1 ≤ s.form.piece → parts ≡ parts_of (length sdu) s.form.piece → 1 ≤ length parts → length sdu ≤ s.form.cube.largest → ChecksWindow now (length parts) s (Ok tt) → Numbered now (length parts) s (Err e) → Admits now sdu s (Err e)
spent_refused now sdu s parts e one are some short shut (idle, why, numbers, tells, takes, is) c m st =
    let cut = (parts_cut sdu s.form.piece one).1 in
    let need = parts_length s.form.piece sdu parts are in
    let room = window_has_room c now (length parts) s m (parts_in s.form.piece sdu) st need some shut in
    let short' : length (join (parts_in s.form.piece sdu)) ≤ c.cube.largest = rw (cut, ← st.cube) short in
    let told = takes c m (parts_in s.form.piece sdu) (sym st.max) (ap delta_of (sym st.cube)) (sym (tells c (carry s.form.peer s.form.cube.id) m st.tx)) need st.numbers in
    rw is (told.refused short' room)

pub admitted : (now : ℕ) (sdu : List ℕ) (s : Sending) (a : Admitted) → 1 ≤ s.form.piece → a.parts.items ≡ parts_of (length sdu) s.form.piece → 1 ≤ length a.parts.items → length sdu ≤ s.form.cube.largest → ChecksWindow now (length a.parts.items) s (Ok tt) → Numbered now (length a.parts.items) s (Ok (a.first, a.numbers)) → Admits now sdu s (Ok a)
admitted now sdu s a one are some short shut (idle, tells, takes) c m st =
    let cut = (parts_cut sdu s.form.piece one).1 in
    let need = parts_length s.form.piece sdu a.parts.items are in
    let room = window_has_room c now (length a.parts.items) s m (parts_in s.form.piece sdu) st need some shut in
    let short' : length (join (parts_in s.form.piece sdu)) ≤ c.cube.largest = rw (cut, ← st.cube) short in
    let told = takes c m (parts_in s.form.piece sdu) (sym st.max) (ap delta_of (sym st.cube)) (sym (tells c (carry s.form.peer s.form.cube.id) m st.tx)) need st.numbers in
    let after = told.after in
    record { accepted = told.refused short' room; first = after.0; max = after.1; counts = after.2 }

-- what `cut` gives
pub are_parts : (len size : ℕ) (parts : List delim.Part) → 1 ≤ size → len ≤ 65535 → parts ≡ parts_of len size → length parts ≡ part_count len size → IsPartsOf len size parts
are_parts len size parts h short are count =
    let few = parts_few len size in
    let one = few.0 in
    let most = few.1 in
    record { are = are; some = omega arith; few = omega arith; within = rw are (parts_lie_within len size h) }

-- What an offer answers

cut_is : (c : Constants) (m : Sender) (sdu : List ℕ) (s : Sending) → 1 ≤ s.form.piece → IsSender c m s → IsCutOf c sdu (parts_in s.form.piece sdu)
cut_is c m sdu s one st = (let cut = parts_cut sdu s.form.piece one in (let P : ℕ → Type 0 = λ n. IsCut n true (parts_in s.form.piece sdu) in subst P st.piece cut.0, cut.1))

pub offer_refused : (now : ℕ) (sdu : List ℕ) (s : Sending) (e : OfferError) → 1 ≤ s.form.piece → Admits now sdu s (Err e) → Offers now sdu s (Err e) s
offer_refused now sdu s e one admits c m st = (parts_in s.form.piece sdu, cut_is c m sdu s one st, (admits c m st, refl))

pub offer_memory : (now : ℕ) (sdu : List ℕ) (old new : Sending) → 1 ≤ old.form.piece → new ≡ old → Offers now sdu old (Err Memory) new
offer_memory now sdu old new one same c m st = (parts_in old.form.piece sdu, cut_is c m sdu old one st, (tt, same))

pub offer_made : (now : ℕ) (sdu : List ℕ) (old : Sending) (a : Admitted) (made : Made) (tx : Kept) → 1 ≤ old.form.piece → Admits now sdu old (Ok a) → a.parts.items ≡ parts_of (length sdu) old.form.piece → made.pdus ≡ made_from (λ n. flag_of now n old.tx) (carry old.form.peer old.form.cube.id) a.first (map (part_in sdu) a.parts.items) → made.num ≡ record { cep = old.form.peer.scep; seq = a.first } → NotesAll now a.first made.pdus old.tx tx →
    Offers now sdu old (Ok made) (record { form = old.form; numbers = a.numbers; tx = tx })
offer_made now sdu old a made tx one admits are pdus num notes c m st =
    let ad = admits c m st in
    let form = carry old.form.peer old.form.cube.id in
    let parts = parts_in old.form.piece sdu in
    let all : made.pdus ≡ map form (pieces_for c now parts (ready c now m)) = pdus ∙ ap (λ ps. made_from (λ n. flag_of now n old.tx) form a.first (map (part_in sdu) ps)) are ∙ made_is c form now m old.tx st.tx parts a.first (ready c now m) ad.first refl in (
      parts,
      cut_is c m sdu old one st,
      record {
        accepted = ad.accepted;
        num = num ∙ rw (st.cep, ad.first) refl;
        pdus = all;
        form = refl;
        stands = record {
          cube = st.cube;
          piece = st.piece;
          max = ad.max ∙ st.max;
          cep = st.cep;
          tx = notes c form m parts st.tx ad.first all;
          numbers = ad.counts;
        };
      },
    )

pub made_count : (flag : ℕ → Bool) (form : Piece → Pdu) (seq : ℕ) (parts : List Part) → length (made_from flag form seq parts) ≡ length parts
made_count flag form seq [] = refl
made_count flag form seq (p ∷ ps) = ap suc (made_count flag form (seq + 1) ps)

pub pdus_count : (flag : ℕ → Bool) (form : Piece → Pdu) (seq : ℕ) (f : delim.Part → Part) (parts : List delim.Part) (pdus : List Pdu) → pdus ≡ made_from flag form seq (map f parts) → length pdus ≡ length parts
pdus_count flag form seq f parts pdus e = ap length e ∙ made_count flag form seq (map f parts) ∙ length-map parts f

-- What is told

pub told_row : (ack right : ℕ) (old : Sending) (tx : Kept) → IsTold ack right old.tx tx → (c : Constants) (m : Sender) → IsSender c m old → IsSender c (sender_told (record { ack = ack; right = right }) m) (record old { tx = tx })
told_row ack right old tx told c m st = record {
  cube = st.cube;
  piece = st.piece;
  max = st.max;
  cep = st.cep;
  tx = told c (carry old.form.peer old.form.cube.id) m st.tx;
  numbers = record { next = st.numbers.next; last_out = st.numbers.last_out };
}
