-- What was put behind a list is taken away again.
use Rattle.std.proofs.Common.{◌≡◌, List, ◌++◌, length, take}
use Rattle.std.proofs.Math.Seq.{take-append_seam}
use Rattle.rina_wire.specs.declared.flight.Flight.{Flight}

pub taken_back : (xs ys : List Flight) → take (length xs) (xs ++ ys) ≡ xs
taken_back xs ys = take-append_seam xs ys
