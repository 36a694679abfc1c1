use Rattle.std.proofs.Common.{◌≡◌, [], ◌++◌, List, ℕ, take, length, length-take, ◌≤◌, refl, ap, sym, arith}
use Rattle.std.proofs.KnownBytes.{Consumes-kept, Consumes-nil}
use Rattle.rina_io.proofs.line_reader.LineReader.refill.Goals as goal

pub returns-then-count-self-clause-refills : goal.returns-then-count-self-clause-refills
returns-then-count-self-clause-refills g c =
    let read = take c.in-Ok.count c.read.new.buf in
    let long : length read ≡ c.in-Ok.count = sym c.in-Ok.ensures.bound.1 in
    let few : length c.read.new.buf ≤ c.min-most.result = grind (arith, length-take, c.read.auto.buf) in
    let room : c.args.self.now.room ≡ c.self.inside.room = sym (ap (λ r. r.room) c.self.view_is) in
    record {
      part = [];
      behind = read;
      read = read;
      consumed = c.in-Ok.ensures.bytes.0;
      bytes = ap (λ (bs : List ℕ). bs ++ read) c.requires;
      unended = λ k lt. absurd (omega arith);
      breaks = (omega (arith, long, few, c.in-Ok.ensures.bound.0), omega (arith, long, few, room, c.in-Ok.ensures.bound.0));
      kept = λ is. cc;
    }

pub returns-then-is_err-clause-refills : goal.returns-then-is_err-clause-refills
returns-then-is_err-clause-refills g c =
    let read = take c.in-Ok.count c.read.new.buf in
    let long : length read ≡ c.in-Ok.count = sym c.in-Ok.ensures.bound.1 in
    let few : length c.read.new.buf ≤ c.min-most.result = grind (arith, length-take, c.read.auto.buf) in
    record {
      part = [];
      behind = read;
      read = read;
      consumed = c.in-Ok.ensures.bytes.0;
      bytes = ap (λ (bs : List ℕ). bs ++ read) c.requires;
      unended = λ k lt. absurd (omega arith);
      breaks = (omega (arith, long, few, c.in-Ok.ensures.bound.0), omega (arith, long, ap (λ r. r.room) c.self.view_is));
      kept = λ is. omega (arith, long);
    }

pub returns-in-Err-clause-refills : goal.returns-in-Err-clause-refills
returns-in-Err-clause-refills g c = record {
  part = [];
  behind = [];
  read = [];
  consumed = Consumes-kept _ _ _ [] (Consumes-nil _) c.in-Err.ensures.bytes;
  bytes = ap (λ (bs : List ℕ). bs ++ []) c.requires;
  unended = λ k lt. absurd (omega arith);
  breaks = (refl, omega arith);
  kept = λ is. cc;
}
