-- A joiner holds the pieces since the last first one, exactly where they are in order.
use Rattle.std.proofs.Common.{◌≡◌, ◌↔◌, ℕ, Bool, true, false, eqb, List, [], ◌∷◌, ◌++◌, Option, Some, None, refl, sym, ap, ◌∙◌, subst}
use Rattle.std.specs.Prelude.{if◌then◌else◌}
use Rattle.std.proofs.lemmas.Bool.{eqb-true, eq-eqb}
use Rattle.rina_delim.specs.declared.joiner.Run.{Run}
use Rattle.rina_delim.specs.declared.joiner.Joined.{Joined}
use Rattle.rina_delim.specs.declared.joiner.Joined.TheVariants.{More, Whole, Broken}
use Rattle.rina_delim.specs.Joining.{Piece, piece, Joining, after, before, missing_after, answer_for, held_after, answer, joined}
use Rattle.rina_delim.specs.Pieces.{after_all, since_first, ArePieces, concatenation}

-- what is held, and the bytes of it, are those of pieces
abbrev pub Holds : Option Run → List ℕ → List Piece → Type 0
Holds None bytes pieces = ArePieces false pieces → ⊥
Holds (Some run) bytes pieces = (p : Piece) × (older : List Piece) × (pieces ≡ p ∷ older) × (run.last ≡ p.seq) × ArePieces false pieces × (bytes ≡ concatenation pieces)

-- what one more piece makes of it
pub record Steps (held : Option Run) (kept : List ℕ) (a : Joined) (pieces : List Piece) : Type 0 where
  pub holds : Holds held kept pieces
  pub whole : (a ≡ Whole) ↔ ArePieces true pieces
  pub more : (a ≡ More) ↔ ArePieces false pieces
  pub bytes : (last : Bool) → ArePieces last pieces → kept ≡ concatenation pieces

-- a piece that is not first and does not follow those before
broken : (n : ℕ) (p : Piece) (older : List Piece) → p.first ≡ false → ((q : Piece) (rest : List Piece) → older ≡ q ∷ rest → ArePieces false older → p.seq ≡ after q.seq → ⊥) → Steps None [] (Broken n) (p ∷ older)
broken n p [] first not_next = record { holds = λ h. absurd cc; whole = ((λ e. absurd cc), (λ h. absurd cc)); more = ((λ e. absurd cc), (λ h. absurd cc)); bytes = λ last h. absurd cc }
broken n p (q ∷ rest) first not_next = record {
  holds = λ h. not_next q rest refl h.3 h.2;
  whole = ((λ e. absurd cc), (λ h. absurd (not_next q rest refl h.3 h.2)));
  more = ((λ e. absurd cc), (λ h. absurd (not_next q rest refl h.3 h.2)));
  bytes = λ last h. absurd (not_next q rest refl h.3 h.2);
}

-- a first piece
begun : (seq : ℕ) (last : Bool) (body : List ℕ) → Steps (held_after seq seq last) body (answer_for None last) (piece seq true last body ∷ [])
begun seq true body = record { holds = λ h. absurd cc; whole = ((λ e. (refl, refl)), (λ h. refl)); more = ((λ e. absurd cc), (λ h. absurd cc)); bytes = λ last h. refl }
begun seq false body = record { holds = (piece seq true false body, [], refl, refl, (refl, refl), refl); whole = ((λ e. absurd cc), (λ h. absurd cc)); more = ((λ e. (refl, refl)), (λ h. refl)); bytes = λ last h. refl }

-- a piece that follows those before
followed : (from seq : ℕ) (last : Bool) (body kept : List ℕ) (q : Piece) (rest : List Piece) → seq ≡ after q.seq → ArePieces false (q ∷ rest) → kept ≡ concatenation (q ∷ rest)
    → Steps (held_after from seq last) (kept ++ body) (answer_for None last) (piece seq false last body ∷ q ∷ rest)
followed from seq true body kept q rest follows begun is = record { holds = λ h. absurd cc; whole = ((λ e. (refl, refl, follows, begun)), (λ h. refl)); more = ((λ e. absurd cc), (λ h. absurd cc)); bytes = λ last h. ap (λ (x : List ℕ). x ++ body) is }
followed from seq false body kept q rest follows begun is = record { holds = (piece seq false false body, q ∷ rest, refl, refl, (refl, refl, follows, begun), ap (λ (x : List ℕ). x ++ body) is); whole = ((λ e. absurd cc), (λ h. absurd cc)); more = ((λ e. (refl, refl, follows, begun)), (λ h. refl)); bytes = λ last h. ap (λ (x : List ℕ). x ++ body) is }

abbrev with_piece : Joining → Piece → List Piece → Type 0
with_piece j p pieces = Steps (joined j p).held (joined j p).bytes (answer j p) pieces

-- a piece that is not first, where pieces wait
goes_on : (b : Bool) (largest : ℕ) (run : Run) (kept : List ℕ) (q : Piece) (rest : List Piece) (seq : ℕ) (last : Bool) (body : List ℕ) → eqb seq (after run.last) ≡ b → run.last ≡ q.seq → ArePieces false (q ∷ rest) → kept ≡ concatenation (q ∷ rest)
    → with_piece (record { largest = largest; held = Some run; bytes = kept }) (piece seq false last body) (piece seq false last body ∷ q ∷ rest)
unfolding joined answer missing_after
goes_on true largest run kept q rest seq last body e newest begun is = rw e (followed run.from seq last body kept q rest (eqb-true _ _ e ∙ ap after newest) begun is)
goes_on false largest run kept q rest seq last body e newest begun is =
    rw e (broken (after run.last) (piece seq false last body) (q ∷ rest) refl (λ r others same h follows.
    (let head : q ≡ r = cc in
    let yes : eqb seq (after run.last) ≡ true = eq-eqb _ _ (follows ∙ ap (λ (x : Piece). after x.seq) (sym head) ∙ ap after (sym newest)) in
    absurd cc)))

step_with : (largest : ℕ) (held : Option Run) (kept : List ℕ) (pieces : List Piece) (seq : ℕ) (first last : Bool) (body : List ℕ) → Holds held kept pieces
    → with_piece (record { largest = largest; held = held; bytes = kept }) (piece seq first last body) (piece seq first last body ∷ (if first then [] else pieces))
unfolding joined answer missing_after
step_with largest held kept pieces seq true last body h = begun seq last body
step_with largest None kept pieces seq false last body h = broken (before seq) (piece seq false last body) pieces refl (λ q rest is begun follows. h begun)
step_with largest (Some run) kept pieces seq false last body h =
    let P : List Piece → Type 0 = λ ps. with_piece (record { largest = largest; held = Some run; bytes = kept }) (piece seq false last body) (piece seq false last body ∷ ps) in
    let B : List Piece → Type 0 = λ ps. ArePieces false ps in
    subst P (sym h.2) (goes_on (eqb seq (after run.last)) largest run kept h.0 h.1 seq last body refl h.3 (subst B h.2 h.4) (h.5 ∙ ap concatenation h.2))

step : (j : Joining) (p : Piece) (pieces : List Piece) → Holds j.held j.bytes pieces → with_piece j p (p ∷ (if p.first then [] else pieces))
step j p pieces h = step_with j.largest j.held j.bytes pieces p.seq p.first p.last p.body h

all_held : (largest : ℕ) (older : List Piece) → Holds (after_all largest older).held (after_all largest older).bytes (since_first older)
all_held largest [] = λ h. h
all_held largest (p ∷ older) = (step (after_all largest older) p (since_first older) (all_held largest older)).holds

pub all_steps : (largest : ℕ) (p : Piece) (older : List Piece) → with_piece (after_all largest older) p (since_first (p ∷ older))
all_steps largest p older = step (after_all largest older) p (since_first older) (all_held largest older)
