-- Drawing with the random generator.
use Rattle.std.specs.Prelude.{ℕ, ◌%◌}
use Rattle.rand_core.specs.Pcg32Seed.{pcg32_seed}
use Rattle.rand_pcg.specs.Lcg.{Lcg}
use Rattle.rand_pcg.specs.Pcg.{pcg32, pcg32_of_seed}

-- the generator with this seed
unfoldable pub seeded : ℕ → Lcg
seeded seed = pcg32_of_seed (pcg32_seed 16 seed)

-- a number below a limit, which is the next output of the generator modulo the limit, and the generator after it
abbrev pub drawn : ℕ → Lcg → ℕ × Lcg
drawn limit g = ((pcg32 g).0 % limit, (pcg32 g).1)
