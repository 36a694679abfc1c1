-- How a joiner comes to hold what another holds.
use Rattle.std.proofs.Common.{◌≡◌, ℕ, ◌+◌, ◌^◌, ◌<◌, ◌≤◌, List, [], length, Bool, true, false, eqb, Some, refl, sym, ap, arith}
use Rattle.std.proofs.lemmas.Bool.{eq-eqb, false≢true}
use Rattle.std.proofs.lemmas.List.{append-nil}
use Rattle.std.proofs.Math.Nat.{mod-eq_of_lt}
use Rattle.rina_delim.specs.declared.joiner.Run.{Run}
use Rattle.rina_delim.specs.Joining.{Joining, piece, after, missing_after, joined, held_after, HasRoom}

pub begun_alone : (j : Joining) (n : ℕ) (last : Bool) (bytes : List ℕ) → joined j (piece n true last bytes) ≡ record { largest = j.largest; held = held_after n n last; bytes = bytes }
unfolding joined
begun_alone j n last bytes = refl

follows : (run : Run) → run.last + 1 < 2 ^ 32 → eqb (run.last + 1) (after run.last) ≡ true
follows run h = eq-eqb (run.last + 1) (after run.last) (sym (mod-eq_of_lt h))

pub goes_on_empty : (j : Joining) (run : Run) → j.held ≡ Some run → run.last + 1 < 2 ^ 32 → joined j (piece (run.last + 1) false false []) ≡ record j { held = Some (record { from = run.from; last = run.last + 1 }) }
unfolding joined missing_after
goes_on_empty j run is h = (let e = follows run h in rw (is, e) (ap (λ (xs : List ℕ). record { largest = j.largest; held = Some (record { from = run.from; last = run.last + 1 }); bytes = xs }) (append-nil j.bytes)))

pub has_room_empty : (j : Joining) (n : ℕ) → length j.bytes ≤ j.largest → HasRoom j n false 0
has_room_empty j n h = record { begins = λ e. absurd (false≢true e); follows = λ f none. omega arith }
