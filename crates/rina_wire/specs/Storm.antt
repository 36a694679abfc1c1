-- What a storm does on a wire.
use Rattle.std.specs.Prelude.{ℕ, Option, Some, None}
use Rattle.rand_pcg.specs.Lcg.{Lcg}
use Rattle.rina_base.specs.declared.storm.Storm.{Storm}
use Rattle.rina_draws.specs.declared.storm.Fate.{Fate}
use Rattle.rina_draws.specs.declared.storm.Fate.TheVariants.{Sent}
use Rattle.rina_draws.specs.Draws.{seeded}
use Rattle.rina_draws.specs.Storm.{after_frames, fate_drawn}

-- what becomes of the next frame, and the generator after it; without a storm the frame arrives once, in time
abbrev pub fate_under : Option Storm → Lcg → Fate × Lcg
fate_under None g = (Sent 0 None, g)
fate_under (Some storm) g = fate_drawn storm g

-- the generator of a wire that has accepted so many frames: its storm has drawn for each of them, from its seed on, and for nothing else
abbrev pub draws_at : Option Storm → ℕ → Lcg
draws_at None frames = seeded 0
draws_at (Some storm) frames = after_frames storm frames

-- what becomes of frame k of the wire, where the first is frame 0
abbrev pub fate_at : Option Storm → ℕ → Fate
fate_at storm k = (fate_under storm (draws_at storm k)).0
