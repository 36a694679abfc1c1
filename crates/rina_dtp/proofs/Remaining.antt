-- Whether any piece is given up.
use Rattle.std.proofs.Common.{◌≡◌, ◌≢◌, ℕ, suc, ◌+◌, ◌-◌, ◌≤◌, ◌&&◌, ltb, List, [], ◌∷◌, ◌++◌, length, Bool, true, false, Option, Some, None, is_some, refl, sym, ◌∙◌, ap, subst, arith}
use Rattle.std.proofs.lemmas.Bool.{le-ltb}
use Rattle.rina_base.specs.declared.cause.Cause.{Cause}
use Rattle.rina_base.specs.declared.number.Key.{Key}
use Rattle.rina_delim.specs.declared.joiner.Run.{Run}
use Rattle.rina_dtp.specs.declared.gap.Gap.{Gap}
use Rattle.rina_dtp.specs.declared.source.Source.{Source}
use Rattle.rina_dtp.specs.Fetching.{HasSome}
use Rattle.rina_dtp.specs.Lost.{numbers_from}
use Rattle.rina_dtp.specs.Observed.{KeepsFrom}
use Rattle.rina_dtp.specs.Receiving.{Receiving, broken_with, drops, end_cause, ended_with, held_numbers, kept_numbers, lost_in, run_numbers}

more_than_none : {X : Type 0} (x : X) (xs : List X) → x ∷ xs ≢ []
more_than_none x xs = λ h. absurd (let l : suc (length xs) ≡ 0 = ap (λ ys. length ys) h in omega (arith, l))

-- a gap has a piece
lost_first : (source : Source) (gs : List Gap) (rest : List (Key × Cause)) → 1 ≤ length gs → broken_with source (lost_in gs) ++ rest ≢ []
lost_first source [] rest some = absurd (omega arith)
lost_first source (g ∷ gs) rest some = more_than_none _ _

no_gaps : (source : Source) (gs : List Gap) → (1 ≤ length gs → ⊥) → broken_with source (lost_in gs) ≡ []
no_gaps source [] none = refl
no_gaps source (g ∷ gs) none = absurd (none (omega arith))

pub drops_lost : (now : ℕ) (r : Receiving) → 1 ≤ length r.join.gaps → HasSome (drops now r) true
drops_lost now r some = lost_first r.source r.join.gaps (ended_with r.source (end_cause now r) (kept_numbers r)) some

pub drops_ended : (now : ℕ) (r : Receiving) (b : Bool) → (1 ≤ length r.join.gaps → ⊥) → HasSome (ended_with r.source (end_cause now r) (kept_numbers r)) b → HasSome (drops now r) b
drops_ended now r b none h = subst (λ (ls : List (Key × Cause)). HasSome (ls ++ ended_with r.source (end_cause now r) (kept_numbers r)) b) (sym (no_gaps r.source r.join.gaps none)) h

pub ended_none : (source : Source) (why : Option Cause) (ns : List ℕ) → why ≡ None → HasSome (ended_with source why ns) false
ended_none source why ns is = ap (λ (w : Option Cause). ended_with source w ns) is

pub ended_as : (source : Source) (why : Option Cause) (cause : Cause) (ns : List ℕ) (b : Bool) → why ≡ Some cause → HasSome ns b → HasSome (ended_with source why ns) b
ended_as source None cause ns b is h = absurd cc
ended_as source (Some w) cause [] true is h = absurd (h refl)
ended_as source (Some w) cause (n ∷ ns) true is h = more_than_none _ _
ended_as source (Some w) cause ns false is h = ap (λ (ms : List ℕ). ended_with source (Some w) ms) h

-- Whether any piece is kept

after_some : (xs : List ℕ) (y : ℕ) (ys zs : List ℕ) → (xs ++ (y ∷ ys)) ++ zs ≢ []
after_some [] y ys zs = more_than_none y (ys ++ zs)
after_some (x ∷ xs) y ys zs = more_than_none x ((xs ++ (y ∷ ys)) ++ zs)

some_going : (going joining : Option Run) (held : List ℕ) → is_some going ≡ true → HasSome (run_numbers going ++ run_numbers joining ++ held) true
some_going None joining held is = absurd cc
some_going (Some run) joining held is = more_than_none _ _

some_joining : (going joining : Option Run) (held : List ℕ) → is_some joining ≡ true → HasSome (run_numbers going ++ run_numbers joining ++ held) true
some_joining going None held is = absurd cc
some_joining going (Some run) held is = after_some (run_numbers going) run.from (numbers_from (run.from + 1) (run.last - run.from)) held

some_held : (going joining : Option Run) (held : List ℕ) (b : Bool) → is_some going ≡ false → is_some joining ≡ false → HasSome held b → HasSome (run_numbers going ++ run_numbers joining ++ held) b
some_held (Some run) joining held b going_is joining_is h = absurd cc
some_held None (Some run) held b going_is joining_is h = absurd cc
some_held None None held b going_is joining_is h = h

pub kept_going : (r : Receiving) → is_some r.going ≡ true → HasSome (kept_numbers r) true
kept_going r is = some_going r.going r.join.joining.held (held_numbers r.accepted) is

pub kept_joining : (r : Receiving) → is_some r.join.joining.held ≡ true → HasSome (kept_numbers r) true
kept_joining r is = some_joining r.going r.join.joining.held (held_numbers r.accepted) is

pub kept_held : (r : Receiving) (b : Bool) → is_some r.going ≡ false → is_some r.join.joining.held ≡ false → HasSome (held_numbers r.accepted) b → HasSome (kept_numbers r) b
kept_held r b going joining h = some_held r.going r.join.joining.held (held_numbers r.accepted) b going joining h

-- the tick from which on pieces are kept of a state that has ended

not_before : (n : ℕ) → ltb n n ≡ false
not_before n = le-ltb n n (omega arith)

pub keeps_after : (r : Receiving) → r.made ≡ true → HasSome (kept_numbers r) true → KeepsFrom (r.last_in + r.rest) r
keeps_after r made some = λ low. (ap (λ b. b && ltb (r.last_in + r.rest) (r.last_in + r.rest)) made ∙ not_before (r.last_in + r.rest), some)

pub keeps_at_once : (r : Receiving) → r.made ≡ false → HasSome (kept_numbers r) true → KeepsFrom 0 r
keeps_at_once r made some = λ low. (ap (λ b. b && ltb 0 (r.last_in + r.rest)) made, some)
