-- The text of notes, and what was written of it.
use Rattle.std.proofs.Common.{◌≡◌, ℕ, ◌+◌, List, [], ◌∷◌, ◌++◌, length, take, drop, get_or, ◌<◌, Option, Result, Ok, Err, is_err, IfErr, OnOk, false, inl, sym, ap, subst, ◌∙◌}
use Rattle.std.proofs.lemmas.List.{append-nil, take_more, take-append-drop}
use Rattle.std.proofs.lemmas.List.Concat.{flat_map-append, flat_map-cons}
use Rattle.std.specs.Io.KnownBytes.{Appends}
use Rattle.std.proofs.KnownBytes.{Appends-trans}
use Rattle.rina_report.specs.declared.note.Note.{Note}
use Rattle.rina_report.specs.Notes.{line_of, text_of}
use Rattle.rina_run.specs.declared.output.Stop.{Stop}
use Rattle.rina_run.specs.Top.{status_stopped}
use Rattle.rina_run.specs.Written.{IsCut, IsLeftOut, IsPiece, Written}
use Rattle.rina_run.proofs.Pieces.{none_of}

-- the text of the notes up to a place, and from there on
text_parts : (from : ℕ) (ns : List Note) → text_of ns ≡ text_of (take from ns) ++ text_of (drop from ns)
text_parts from ns = ap text_of (sym (take-append-drop from ns)) ∙ flat_map-append line_of (take from ns) (drop from ns)

-- the rest was written whole
pub wrote_more : (base mid new : Option (List ℕ)) (from : ℕ) (ns : List Note) (piece : List ℕ) → Appends base mid (text_of (take from ns)) → piece ≡ text_of (drop from ns) → Appends mid new piece → Appends base new (text_of ns)
wrote_more base mid new from ns piece p is q = rw (text_parts from ns, sym is) (Appends-trans base mid new (text_of (take from ns)) piece p q)

-- the rest was written in part
pub wrote_part : (base mid new : Option (List ℕ)) (from : ℕ) (ns : List Note) (piece : List ℕ) (k : ℕ) → Appends base mid (text_of (take from ns)) → IsPiece (drop from ns) → piece ≡ text_of (drop from ns) → k < length piece → Appends mid new (take k piece) → IsCut base new ns
wrote_part base mid new from ns piece k p one is short q = record {
  whole = take from ns;
  piece = drop from ns;
  are = sym (take-append-drop from ns);
  one = one;
  mid = mid;
  before = p;
  cut = rw (sym is) (record { len = k; short = short; wrote = q });
}

-- nothing of the rest was written
pub wrote_none : (base mid : Option (List ℕ)) (from : ℕ) (ns : List Note) → Appends base mid (text_of (take from ns)) → IsPiece (drop from ns) → IsLeftOut base mid ns
wrote_none base mid from ns p one = record { whole = take from ns; piece = drop from ns; are = sym (take-append-drop from ns); one = one; wrote = p }

-- one more note was printed
pub printed_more : (ns : List Note) (i : ℕ) (d : Note) (text : List ℕ) → i < length ns → text ≡ text_of (take i ns) → text ++ line_of (get_or ns i d) ≡ text_of (take (i + 1) ns)
printed_more ns i d text lt so_far =
    let one : text_of (take (i + 1) ns) ≡ text_of (take i ns) ++ line_of (get_or ns i d) =
    ap text_of (take_more ns i d lt) ∙ flat_map-append line_of (take i ns) (get_or ns i d ∷ []) ∙ ap (λ (bs : List ℕ). text_of (take i ns) ++ bs) (flat_map-cons line_of (get_or ns i d) [] ∙ append-nil (line_of (get_or ns i d))) in
    rw so_far (sym one)

-- all notes were written, and none was left out
pub wrote_all : (base new : Option (List ℕ)) (ns : List Note) → Appends base new (text_of ns) → IsLeftOut base new ns
wrote_all base new ns p = record { whole = ns; piece = []; are = sym (append-nil ns); one = inl (0, none_of 0); wrote = p }

-- what was written by a part that stopped: the notes before were written whole, and the rest is one piece
pub stop_wrote : (result : Result (Unit {0}) Stop) (took took' : Option (List ℕ)) (old new : List Note) (from : ℕ) → from ≡ length old → take (length old) new ≡ old → IsPiece (drop (length old) new) → IfErr result (λ stop. (base : Option (List ℕ)) → Appends base took (text_of (take from new)) → IsPiece (drop from new) → Written base took' new (status_stopped stop)) → IfErr result (λ stop. (base : Option (List ℕ)) → Appends base took (text_of old) → Written base took' new (status_stopped stop))
stop_wrote (Ok done) took took' old new from is front one h = tt
stop_wrote (Err stop) took took' old new from is front one h = λ base p. h base (subst (λ (ns : List Note). Appends base took (text_of ns)) (sym (ap (λ (k : ℕ). take k new) is ∙ front)) p) (subst (λ (k : ℕ). IsPiece (drop k new)) (sym is) one)

-- what holds of a call that did not fail
pub if_done : {T E P : Type 0} (result : Result T E) → is_err result ≡ false → OnOk result P → P
if_done (Ok x) h p = p
if_done (Err e) h p = cc
