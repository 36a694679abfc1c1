-- What `show` wrote.
use Rattle.std.proofs.Common.{◌≡◌, ◌<◌, ℕ, List, [], length, take, Option, sym}
use Rattle.std.proofs.KnownBytes.{Appends-nil}
use Rattle.std.specs.Io.KnownBytes.{Appends}
use Rattle.rina_run.specs.Written.{IsCutText}

-- nothing of it
pub wrote_no_text : (base : Option (List ℕ)) → Appends base base []
wrote_no_text base = Appends-nil base

-- a front of it
pub wrote_some_text : (base new : Option (List ℕ)) (text piece : List ℕ) (k : ℕ) → piece ≡ text → k < length piece → Appends base new (take k piece) → IsCutText base new text
wrote_some_text base new text piece k is short p = rw (sym is) (record { len = k; short = short; wrote = p })

-- all of it
pub wrote_text : (base new : Option (List ℕ)) (text piece : List ℕ) → piece ≡ text → Appends base new piece → Appends base new text
wrote_text base new text piece is p = rw (sym is) p
