use Rattle.std.proofs.Common.{◌≡◌, ◌+◌, ◌++◌, drop, map}
use Rattle.rina_dtcp.specs.Senders.{flag_of}
use Rattle.rina_conn.specs.Carrying.{carry, part_in, made_from}
use Rattle.rina_conn.proofs.sending.Sending.make_pdus.Given as goal

abbrev pub invariant-loop-place : goal.invariant-loop-place
invariant-loop-place l =
    l.pdus ++ made_from (λ n. flag_of l.now n l.self.tx) (carry l.self.form.peer l.self.form.cube.id) (l.first + l.place) (map (part_in l.sdu) (drop l.place l.parts)) ≡ made_from (λ n. flag_of l.now n l.self.tx) (carry l.self.form.peer l.self.form.cube.id) l.first (map (part_in l.sdu) l.parts)
