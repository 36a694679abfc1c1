-- Lines that are read one after the other.
use Rattle.std.proofs.Common.{◌≡◌, ℕ, ◌+◌, ◌<◌, ◌≤◌, List, [], ◌∷◌, ◌++◌, length, map, drop, get_or, Bor, Result, Ok, Err, ap, ◌∙◌, arith}
use Rattle.std.proofs.lemmas.List.{length-map, get_or-map}
use Rattle.rina_base.specs.Traverse.{traverse}
use Rattle.rina_base.proofs.Loop.{with_front, goes_on, stops, is_done}
use Rattle.rina_report.specs.declared.note.Note.{Note}
use Rattle.rina_view.specs.declared.read.Unread.{Unread}
use Rattle.rina_view.specs.declared.read.Unread.TheVariants.{Memory, Line}
use Rattle.rina_view.specs.Reading.{note_in, Gives}

abbrev pub bytes_of : List (Bor (List ℕ)) → List (List ℕ)
bytes_of ls = map (λ l. l.now) ls

-- the line at a place
pub line_seen : (ls : List (Bor (List ℕ))) (i : ℕ) (d : Bor (List ℕ)) → i < length ls → get_or (bytes_of ls) i d.now ≡ (get_or ls i d).now
line_seen ls i d lt = get_or-map (λ (s : Bor (List ℕ)). s.now) ls i d d.now lt

pub is_within : (ls : List (Bor (List ℕ))) (i : ℕ) → i < length ls → i < length (bytes_of ls)
is_within ls i lt = omega (arith, length-map ls (λ (s : Bor (List ℕ)). s.now))

-- one more line was read
pub line_on : (ls : List (Bor (List ℕ))) (i k : ℕ) (d : Bor (List ℕ)) (front : List Note) (note : Note) (total : Result (List Note) Unread) → i < length ls → note_in k (get_or ls i d).now ≡ Ok note
    → with_front front (traverse note_in k (drop i (bytes_of ls))) ≡ total → with_front (front ++ note ∷ []) (traverse note_in (k + 1) (drop (i + 1) (bytes_of ls))) ≡ total
line_on ls i k d front note total lt h so_far = goes_on note_in i k (bytes_of ls) d.now front note total (is_within ls i lt) (ap (note_in k) (line_seen ls i d lt) ∙ h) so_far

-- a line was no note
pub line_stops : (ls : List (Bor (List ℕ))) (i k : ℕ) (d : Bor (List ℕ)) (front : List Note) (e : Unread) (total : Result (List Note) Unread) → i < length ls → Gives {X = Note} {Y = Note} (λ x. x) (Err e) (note_in k (get_or ls i d).now)
    → with_front front (traverse note_in k (drop i (bytes_of ls))) ≡ total → Gives {X = List Note} {Y = List Note} (λ x. x) (Err e) total
line_stops ls i k d front Memory total lt h so_far = tt
line_stops ls i k d front (Line line n field) total lt h so_far = stops note_in i k (bytes_of ls) d.now front (Line line n field) total (is_within ls i lt) (ap (note_in k) (line_seen ls i d lt) ∙ h) so_far

-- all lines were read
pub lines_done : (ls : List (Bor (List ℕ))) (i k : ℕ) (front : List Note) (total : Result (List Note) Unread) → length ls ≤ i → with_front front (traverse note_in k (drop i (bytes_of ls))) ≡ total → total ≡ Ok front
lines_done ls i k front total le so_far = is_done note_in i k (bytes_of ls) front total (omega (arith, length-map ls (λ (s : Bor (List ℕ)). s.now))) so_far
