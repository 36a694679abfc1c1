-- What a receiver shows is what the machine says.
use Rattle.std.proofs.Common.{◌≡◌, ℕ, zero, suc, ◌+◌, ◌≤◌, List, [], ◌++◌, length, filter, All, Bool, true, false, cond, ltb, Option, Some, None, refl, sym, ◌∙◌, ap, subst, arith}
use Rattle.std.proofs.lemmas.Bool.{lt-ltb, le-ltb, false≢true}
use Rattle.rina_cube.specs.declared.Cube.{Cube}
use Rattle.rina_cube.specs.declared.Kind.{Kind}
use Rattle.rina_delim.specs.declared.joiner.Run.{Run}
use Rattle.rina_dtp.specs.declared.accepted.Accepted.{Accepted}
use Rattle.rina_dtp.specs.declared.accepted.Accepted.TheVariants.{Datagram, Loose, Reliable}
use Rattle.rina_dtp.specs.Accepted.{kind_of, IsFresh}
use Rattle.rina_dtp.specs.Joins.{Joins}
use Rattle.rina_dtp.specs.Lost.{numbers_from}
use Rattle.rina_dtp.specs.Observed.{IsNew, TellsPresence, number_after, TellsNext, TellsJoining, TellsLastIn, next_kept, from_kept}
use Rattle.rina_dtp.specs.Receiving.{Receiving, present_at, lost_in, run_numbers, held_numbers, kept_numbers, end_cause, ended_with, StartsFresh}
use Rattle.rina_dtp.specs.Shelf.{Place, holds, IsUnused}
use Rattle.rina_dtp.specs.Stands.{HasPlacesFor, IsRun, Knows, Stands}
use Rattle.rina_dtp.proofs.Came.{present_same, none_ended}
use Rattle.rina_dtp.proofs.Settled.{unused_not_held}
use Rattle.rina_law.specs.Constants.{Constants}
use Rattle.rina_law.specs.Pieces.{Joiner, empty_joiner}
use Rattle.rina_law.specs.Receiver.{Receiver, no_state, is_present}

-- A new receiver

fresh_kind : (cube : Cube) (size : ℕ) (a : Accepted) → IsFresh cube size a → cube.kind ≡ kind_of a
fresh_kind cube size (Datagram r) h = h
fresh_kind cube size (Loose x) h = h
fresh_kind cube size (Reliable s) h = h.0

fresh_places : (c : Constants) (a : Accepted) → IsFresh c.cube c.piece a → HasPlacesFor c a
fresh_places c (Datagram r) h = tt
fresh_places c (Loose x) h = tt
fresh_places c (Reliable s) h = (h.1, h.2)

none_held : (places : List Place) (n count : ℕ) → 1 ≤ length places → All IsUnused places → filter (holds places) (numbers_from n count) ≡ []
none_held places n zero some h = refl
none_held places n (suc count) some h = (let f = unused_not_held places n some h in rw f (none_held places (n + 1) count some h))

fresh_held : (cube : Cube) (size : ℕ) (a : Accepted) → 1 ≤ cube.window → IsFresh cube size a → held_numbers a ≡ []
fresh_held cube size (Datagram r) some h = refl
fresh_held cube size (Loose x) some h = refl
fresh_held cube size (Reliable s) some h = none_held s.places s.next (length s.places) (let e = h.1 in omega arith) h.3

fresh_stands : (cube : Cube) (size : ℕ) (r : Receiving) → StartsFresh cube size r → (c : Constants) (now : ℕ) → c.cube ≡ cube → c.piece ≡ size → Stands c now no_state empty_joiner r
fresh_stands cube size r f c now same piece =
    let F : Cube → Type 0 = λ x. StartsFresh x size r in
    let g = subst F (sym same) f in
    let P : ℕ → Type 0 = λ x. IsFresh c.cube x r.accepted in
    record {
      of = record {
        cube = g.cube_is;
        kind = fresh_kind c.cube size r.accepted g.accepted;
        window = g.window;
        rest = g.rest;
        largest = ap (λ (x : Joins). x.joining.largest) g.join;
        places = fresh_places c r.accepted (subst P (sym piece) g.accepted);
      };
      not_closed = g.closed;
      made = sym g.made;
      last_in = sym g.last_in;
      known = λ e. absurd (false≢true e);
      joiner = λ e. absurd (false≢true e);
      reach = λ e. absurd (false≢true e);
    }

pub is_new : (cube : Cube) (size : ℕ) (r : Receiving) → StartsFresh cube size r → IsNew cube size r
is_new cube size r f =
    let gaps : lost_in r.join.gaps ≡ [] = ap (λ (x : Joins). lost_in x.gaps) f.join in
    let held : run_numbers r.join.joining.held ≡ [] = ap (λ (x : Joins). run_numbers x.joining.held) f.join in
    let shelf : held_numbers r.accepted ≡ [] = fresh_held cube size r.accepted f.cube_is.least_window f.accepted in
    let kept : kept_numbers r ≡ [] = (let P : run_numbers r.going ++ run_numbers r.join.joining.held ++ held_numbers r.accepted ≡ [] = rw (f.going, held, shelf) refl in P) in
    record {
      stands = fresh_stands cube size r f;
      fetched = λ now. record {
        whole = ap (λ (x : Joins). x.whole) f.join;
        dropped = rw gaps (ap (ended_with r.source (end_cause now r)) kept ∙ none_ended r.source (end_cause now r));
      };
    }

-- What is shown

pub tells_presence : (now : ℕ) (r : Receiving) (result : Bool) → result ≡ present_at now r → TellsPresence now r result
tells_presence now r result e c m j st = e ∙ sym (present_same c now m j r st)

after_same : (a : Accepted) (m : Receiver) → Knows a m → next_kept a ≡ number_after (kind_of a) m
after_same (Datagram r) m k = ap (λ n. n + 1) (sym k.top)
after_same (Loose h) m k = ap (λ n. n + 1) (sym k)
after_same (Reliable s) m k = sym k.0

next_by : (c : Constants) (now : ℕ) (m : Receiver) (j : Joiner) (r : Receiving) (b : Bool) → Stands c now m j r → is_present c now m ≡ b → cond b (Some (next_kept r.accepted)) None ≡ cond b (Some (number_after c.cube.kind m)) None
next_by c now m j r true st e = ap (λ n. Some n) (after_same r.accepted m (st.known e) ∙ ap (λ (k : Kind). number_after k m) (sym st.of.kind))
next_by c now m j r false st e = refl

pub tells_next : (now : ℕ) (r : Receiving) (result : Option ℕ) → result ≡ cond (present_at now r) (Some (next_kept r.accepted)) None → TellsNext now r result
tells_next now r result e c m j st =
    let same = present_same c now m j r st in
    e ∙ ap (λ (b : Bool). cond b (Some (next_kept r.accepted)) None) (sym same) ∙ next_by c now m j r (is_present c now m) st refl

joining_by : (j : Joiner) (held : Option Run) → IsRun j held → from_kept held ≡ cond (ltb 0 j.count) (Some j.from) None
joining_by j None h = (let f : ltb 0 j.count ≡ false = le-ltb 0 j.count (omega arith) in rw f refl)
joining_by j (Some run) h = (let t : ltb 0 j.count ≡ true = lt-ltb 0 j.count h.0 in rw (t, h.1) refl)

pub tells_joining : (r : Receiving) (result : Option ℕ) → result ≡ from_kept r.join.joining.held → TellsJoining r result
tells_joining r result e c now m j st present = e ∙ joining_by j r.join.joining.held (st.joiner present).run

pub tells_last_in : (r : Receiving) (result : Option ℕ) → result ≡ cond r.made (Some r.last_in) None → TellsLastIn r result
tells_last_in r result e c now m j st = e ∙ (rw (st.made, st.last_in) refl)
