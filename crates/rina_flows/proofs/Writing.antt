-- Pieces that are given up are written off, one after the other.
use Rattle.std.proofs.Common.{◌≡◌, ℕ, ◌+◌, ◌≤◌, List, [], ◌∷◌, ◌++◌, length, length-append, append_assoc, Some, None, Result, Ok, Err, refl, sym, ◌∙◌, ap, subst, arith}
use Rattle.std.proofs.lemmas.List.{append-nil}
use Rattle.std.specs.Result.{OnErr, is_ok}
use Rattle.std.specs.Prelude.{if◌then◌else◌}
use Rattle.rina_account.specs.declared.ledger.Off.{Off}
use Rattle.rina_base.specs.declared.cause.Cause.{Cause}
use Rattle.rina_base.specs.declared.number.Key.{Key}
use Rattle.rina_dtp.specs.Fetching.{KeepsNoMore, StandsAsBefore, TakesFirst}
use Rattle.rina_dtp.proofs.Fetched.{keeps_on, keeps_same}
use Rattle.rina_dtp.specs.Receiving.{Receiving, drops}
use Rattle.rina_flows.specs.Arriving.{IsDrained, offs_of}
use Rattle.rina_flows.specs.Delivering.{IsWriting, WritesOff}
use Rattle.rina_flows.proofs.Given.{offs_of-append, offs_of-length}

pub writing_none : (now : ℕ) (r : Receiving) (lines : List Off) (room : ℕ) → IsWriting now r lines room r lines
writing_none now r lines room = record {
  taken = [];
  drained = record { taken_is = refl; stands = λ c m j st. st; kept = keeps_same now r; whole = refl };
  noted = λ fits. sym (append-nil lines);
}

drained_more : (now : ℕ) (old k k' : Receiving) (taken more : List (Key × Cause)) → IsDrained now old taken k → drops now k ≡ more ++ drops now k' → StandsAsBefore now k k' → KeepsNoMore now k k' → k'.join.whole ≡ k.join.whole → IsDrained now old (taken ++ more) k'
drained_more now old k k' taken more d takes stands keeps whole = record {
  taken_is = d.taken_is ∙ ap (λ (xs : List (Key × Cause)). taken ++ xs) takes ∙ sym (append_assoc taken more (drops now k'));
  stands = λ c m j st. stands c m j (d.stands c m j st);
  kept = keeps_on now old k k' d.kept keeps;
  whole = whole ∙ d.whole;
}

-- a line for which there is room is written
pub pushed : {X A E : Type 0} (xs ys : List X) (x : X) (cap len : ℕ) (r : Result A E) → len ≡ length xs → ys ≡ (if is_ok r then xs ++ x ∷ [] else xs) → OnErr r (cap ≤ len) → length xs + 1 ≤ cap → ys ≡ xs ++ x ∷ []
pushed xs ys x cap len (Ok u) same is full fits = is
pushed xs ys x cap len (Err e) same is full fits = absurd (omega arith)

pub writing_more : {A E : Type 0} (now : ℕ) (old : Receiving) (lines : List Off) (room : ℕ) (k k' : Receiving) (lines1 lines2 : List Off) (cap len : ℕ) (key : Key) (cause : Cause) (r : Result A E) → IsWriting now old lines room k lines1 → room ≤ cap → TakesFirst (Some (key, cause)) (drops now k) (drops now k') → StandsAsBefore now k k' → KeepsNoMore now k k' → k'.join.whole ≡ k.join.whole → lines2 ≡ (if is_ok r then lines1 ++ record { key = key; cause = cause } ∷ [] else lines1) → len ≡ length lines1 → OnErr r (cap ≤ len) → IsWriting now old lines room k' lines2
writing_more now old lines room k k' lines1 lines2 cap len key cause r w wide takes stands keeps whole is same full =
    let off : Off = record { key = key; cause = cause } in
    let d = drained_more now old k k' w.taken ((key, cause) ∷ []) w.drained takes stands keeps whole in
    record {
      taken = w.taken ++ (key, cause) ∷ [];
      drained = d;
      noted = λ fits.
          let so_far : lines1 ≡ lines ++ offs_of w.taken = w.noted fits in
          let count : length lines1 ≡ length lines + length w.taken = ap (λ (xs : List Off). length xs) so_far ∙ length-append lines (offs_of w.taken) ∙ ap (λ n. length lines + n) (offs_of-length w.taken) in
          let all : length (drops now old) ≡ length w.taken + (1 + length (drops now k')) = ap (λ (xs : List (Key × Cause)). length xs) (w.drained.taken_is ∙ ap (λ (xs : List (Key × Cause)). w.taken ++ xs) takes) ∙ length-append w.taken ((key, cause) ∷ drops now k') ∙ ap (λ n. length w.taken + n) (omega arith) in
          let put : lines2 ≡ lines1 ++ off ∷ [] = pushed lines1 lines2 off cap len r same is full (omega arith) in
          put ∙ ap (λ (xs : List Off). xs ++ off ∷ []) so_far ∙ append_assoc lines (offs_of w.taken) (off ∷ []) ∙ ap (λ (xs : List Off). lines ++ xs) (sym (offs_of-append w.taken ((key, cause) ∷ [])));
    }

pub writes_all : (now : ℕ) (old : Receiving) (lines : List Off) (room : ℕ) (k k' : Receiving) (lines1 : List Off) → IsWriting now old lines room k lines1 → TakesFirst None (drops now k) (drops now k') → StandsAsBefore now k k' → KeepsNoMore now k k' → k'.join.whole ≡ k.join.whole → WritesOff now old lines room k' lines1
writes_all now old lines room k k' lines1 w none stands keeps whole =
    let d = drained_more now old k k' w.taken [] w.drained (none.0 ∙ sym none.1) stands keeps whole in
    let same : w.taken ++ [] ≡ w.taken = append-nil w.taken in
    record {
      taken = w.taken;
      drained = subst (λ (xs : List (Key × Cause)). IsDrained now old xs k') same d;
      none = none.1;
      noted = λ fits.
          let all : length (drops now old) ≡ length w.taken = ap (λ (xs : List (Key × Cause)). length xs) (w.drained.taken_is ∙ ap (λ (xs : List (Key × Cause)). w.taken ++ xs) none.0 ∙ same) in
          w.noted (omega arith);
    }
