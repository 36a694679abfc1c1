-- The key is written up to here.
use Rattle.std.proofs.Common.{◌≡◌, ◌+◌, take, map, length, codes, ◌++◌}
use Rattle.rina_dir.specs.Directory.{key_byte}
use Rattle.rina_dir.proofs.key.write_key.Given as goal

abbrev pub invariant-loop-at : goal.invariant-loop-at
invariant-loop-at l = (take (l.at + 5) l.key ≡ codes "/dir/" ++ map key_byte (take l.at l.app)) × (length l.key ≡ length l.fn.key)
