use Rattle.std.proofs.Common.{◌≡◌, ◌∙◌, ℕ, ◌-◌, ◌++◌, List, length, take, drop, arith, subst, length-drop}
use Rattle.std.proofs.KnownBytes.{Appends-trans}
use Rattle.std.proofs.Math.Seq.{take-add}
use Rattle.std.specs.Io.KnownBytes.{Appends}
use Rattle.std.proofs.lemmas.List.{length-take, take_all}
use Rattle.rina_io.proofs.whole.write_all.Goals as goal

-- `&xs[n..]` is what is left past n
whole_rest : (xs : List ℕ) (n : ℕ) → take (length xs - n) (drop n xs) ≡ drop n xs
whole_rest xs n = take_all (length xs - n) (drop n xs) (omega (arith, length-drop n xs))

pub pieces-preserved : goal.pieces-preserved
pieces-preserved g c =
    let piece = c.args.piece.now in
    let done = c.pieces.done in
    let count = c.in_ok-count.count in
    let took = g.K.Sink.took in
    let rest = take (length piece - done) (drop done piece) in
    let joined : Appends (took c.args.out.now) (took c.write.new.self) (take done piece ++ take count rest) =
    Appends-trans _ (took c.pieces.out) _ _ _ c.pieces.invariant.wrote c.in_ok-count.ensures.bytes in
    record {
      within = omega (arith, c.in_ok-count.ensures.bound, length-take (length piece - done) (drop done piece), length-drop done piece);
      wrote = rw (take-add done count piece) (subst (λ bs. Appends (took c.args.out.now) (took c.write.new.self) (take done piece ++ take count bs)) (whole_rest piece done) joined);
      fine = c.in_ok-count.ensures.some (omega arith) ∙ c.pieces.invariant.fine;
      steady = c.in_ok-count.ensures.turns.0 (omega arith) ∙ c.pieces.invariant.steady;
    }
