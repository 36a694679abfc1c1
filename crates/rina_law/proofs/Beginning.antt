-- A sender that begins again keeps what holds of a direction.
use Rattle.std.proofs.Common.{◌≡◌, ℕ, zero, suc, ◌+◌, ◌*◌, length, Bool, true, false, cond, ◌&&◌, leb, refl, sym, ◌∙◌, subst, arith, inl, inr}
use Rattle.std.proofs.lemmas.Bool.{or_cases, and_parts, false≢true, leb-true}
use Rattle.rina_cube.specs.declared.Kind.{Kind}
use Rattle.rina_cube.specs.declared.Kind.TheVariants.{Reliable}
use Rattle.rina_cube.specs.Cubes.{IsCube}
use Rattle.rina_law.specs.Constants.{Constants, delta}
use Rattle.rina_law.specs.Direction.{Direction}
use Rattle.rina_law.specs.DirectionHolds.{reached, DirectionHolds}
use Rattle.rina_law.specs.Line.{Line, begun}
use Rattle.rina_law.specs.LineHolds.{LineHolds}
use Rattle.rina_law.specs.Sender.{is_empty, is_idle, is_absent}
use Rattle.rina_law.proofs.Agreeing.{done_le}
use Rattle.rina_law.proofs.Quiet.{empty_length, quiet_from, fresh_holds}
use Rattle.rina_law.proofs.Standing.{absent_after}

idle_done : (c : Constants) (line : Line) → LineHolds c line → c.cube.kind ≡ Reliable → is_absent c line.clock line.sender ≡ true → length line.done ≡ length line.sender.run
idle_done c line h e absent =
    let le = done_le c line h e in
    let acked = (h.gapless e).acked in
    elim (or_cases (is_empty line.sender.run) (is_idle c.cube.kind line.sender && leb (line.sender.last_out + 3 * delta c) line.clock) absent) [
      | inl none ↦ (let z = empty_length line.sender.run none in omega arith)
      | inr idle ↦
          (let P : Kind → Type 0 = λ k. is_idle k line.sender ≡ true in
          let i = leb-true (length line.sender.run) line.sender.acked (subst P e ((and_parts (is_idle c.cube.kind line.sender) (leb (line.sender.last_out + 3 * delta c) line.clock) idle).0)) in
          omega arith)
    ]

pub all_reached : (c : Constants) (d : Direction) → DirectionHolds c d → (n : ℕ) → n ≡ length d.line.sender.run → reached d.line.sender.run d.base n ≡ length d.sent
all_reached c d h zero is = sym (h.core.sent.none (sym is))
all_reached c d h (suc n) is = (let s = h.core.sent.size n is in let e = h.closed n is in rw e (sym s))

direction_fresh : (c : Constants) (d : Direction) → IsCube c.cube → DirectionHolds c d → is_absent c d.line.clock d.line.sender ≡ true → DirectionHolds c (record d { line = begun true c d.line; base = length d.sent; since = d.line.clock })
direction_fresh c d cube h absent =
    let k = h.core in
    let q = quiet_from c d.line cube k.line absent in
    let size = k.got.size in
    record {
      core = record {
        line = fresh_holds c d.line cube k.line q;
        run = record {
          begins = λ lt. absurd (omega arith);
          goes_on = λ n lt. absurd (omega arith);
          first = λ n lt. absurd (omega arith);
          drf = λ e n lt. absurd (omega arith);
          sized = λ n lt. absurd (omega arith);
          fits = λ n lt. absurd (omega arith);
          numbers = omega arith;
        };
        sent = record {
          none = λ e. refl;
          size = λ n e. absurd (omega arith);
          num = λ n lt. absurd (omega arith);
          tick = λ n lt. absurd (omega arith);
          bytes = λ n lt. absurd (omega arith);
          cep = k.sent.cep;
          below = λ j b lt. absurd (omega arith);
          rising = λ j x b lt lt'. absurd (omega arith);
        };
        base = omega arith;
        since = omega arith;
        join = λ b. absurd (false≢true (sym q.absent ∙ b));
        got = record {
          size = k.got.size;
          is = k.got.is;
          age = λ i lt. (let t = k.ticks i lt in let a = absent_after c d.line.clock d.line.receiver q.absent t.0 in let lives = cube.least_mpl in inr (omega (arith, t.1)));
          known = λ i lt. inl ((k.got.is i lt).stands);
          shape = k.got.shape;
        };
        ticks = k.ticks;
        count = λ e. k.count e ∙ all_reached c d h (length d.line.done) (idle_done c d.line k.line e absent);
        reach = λ e b. absurd (false≢true (sym q.absent ∙ b));
      };
      closed = λ n e. absurd (omega arith);
    }

pub direction_begun : (c : Constants) (d : Direction) (b : Bool) → IsCube c.cube → DirectionHolds c d → is_absent c d.line.clock d.line.sender ≡ b →
    DirectionHolds c (record d { line = begun b c d.line; base = cond b (length d.sent) d.base; since = cond b d.line.clock d.since })
direction_begun c d true cube h e = direction_fresh c d cube h e
direction_begun c d false cube h e = h
