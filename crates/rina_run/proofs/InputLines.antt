-- Lines that are lent, and those of them behind the mark.
use Rattle.std.proofs.Common.{◌≡◌, ℕ, ◌+◌, ◌-◌, List, length, length-drop, map, drop, option_map, Bool, true, not, cond, Some, None, [], ◌∷◌, Bor, refl, sym, ap, arith}
use Rattle.std.specs.List.{prefix_len, position}
use Rattle.std.proofs.lemmas.List.{length-map}
use Rattle.bstr.specs.Text.{without_terminator}
use Rattle.rina_run.specs.Script.{Script, is_mark, script_of}

abbrev pub bytes_of : List (Bor (List ℕ)) → List (List ℕ)
bytes_of ls = map (λ l. l.now) ls

prefix_len_seen : (p : List ℕ → Bool) (ls : List (Bor (List ℕ))) → prefix_len p (bytes_of ls) ≡ prefix_len (λ l. p l.now) ls
prefix_len_seen p [] = refl
prefix_len_seen p (l ∷ ls) = ap (λ n. cond (p l.now) (1 + n) 0) (prefix_len_seen p ls)

pub position_seen : (p : List ℕ → Bool) (ls : List (Bor (List ℕ))) → position p (bytes_of ls) ≡ position (λ l. p l.now) ls
position_seen p ls = rw (prefix_len_seen (λ d. not (p d)) ls, length-map ls (λ (l : Bor (List ℕ)). l.now)) refl

-- how many lines stand behind the mark
pub behind_mark : (ls : List (Bor (List ℕ))) (k count : ℕ) → Some k ≡ position is_mark (bytes_of ls) → count ≡ length ls - k - 1 → option_map (λ (s : Script). length s.lines) (script_of true (bytes_of ls)) ≡ Some count
unfolding script_of
behind_mark ls k count at is =
    let long : length (map without_terminator (drop (k + 1) (bytes_of ls))) ≡ count = omega (arith, is, length-map (drop (k + 1) (bytes_of ls)) without_terminator, length-drop (k + 1) (bytes_of ls), length-map ls (λ (l : Bor (List ℕ)). l.now)) in
    rw (sym at) (ap Some long)

-- and where no line is
pub no_mark : (ls : List (Bor (List ℕ))) → None ≡ position is_mark (bytes_of ls) → option_map (λ (s : Script). length s.lines) (script_of true (bytes_of ls)) ≡ Some 0
unfolding script_of
no_mark ls at = rw (sym at) refl
