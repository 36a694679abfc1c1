-- What is found in lists, and what stands beside it.
use Rattle.std.proofs.Common.{None, Option, ◌≡◌, ℕ, List, length, slice_get, Some, option_and_then, sym, ◌∙◌, ap, arith}
use Rattle.std.specs.Prelude.{position}
use Rattle.std.proofs.lemmas.Option.{slice_get_within}
use Rattle.rina_base.specs.declared.number.Port.{Port}
use Rattle.rina_cube.specs.declared.Cube.{Cube}
use Rattle.rina_cube.specs.Cubes.{IsCube}
use Rattle.rina_iface.specs.declared.ends.End.{End}
use Rattle.rina_iface.specs.Seen.{Seen, end_of, unpassed}
use Rattle.rina_law.specs.declared.entry.Entry.{Entry}
use Rattle.rina_data.specs.declared.link.Link.{Link}
use Rattle.rina_data.specs.Configs.{Config, cube_by}
use Rattle.rina_data.specs.Process.{Process, link_by, is_link}
use Rattle.rina_dif_law.specs.Standing.{HasLink, IsConfig}
use Rattle.rina_data.proofs.Finding.{found_in, there}

pub cube_limits : (g : Config) (id : ℕ) (cube : Cube) → IsConfig g → cube_by id g.cubes ≡ Some cube → IsCube cube
cube_limits g id cube config h = (let f = found_in _ g.cubes cube h in config.cubes f.0 cube f.1)

-- the element at a place that was found
pub at_place : {X : Type 0} → (xs : List X) (o : Option ℕ) (x : X) → option_and_then (λ i. slice_get xs i) o ≡ Some x → (k : ℕ) × (slice_get xs k ≡ Some x)
at_place xs None x h = cc
at_place xs (Some k) x h = (k, h)

pub live_link : (processes : List Process) (i n : ℕ) (process : Process) (link : Link) → slice_get processes i ≡ Some process → link_by n process.links ≡ Some link → HasLink processes i link
live_link processes i n process link is h = (let f = at_place process.links (position (is_link n) process.links) link h in record { process = process; is_process = is; place = f.0; stands = f.1 })

-- lists of one length have elements at the same places
pub beside : {X Y : Type 0} → (xs : List X) (ys : List Y) (i : ℕ) (x : X) → length ys ≡ length xs → slice_get xs i ≡ Some x → (y : Y) × (slice_get ys i ≡ Some y)
beside xs ys i x same h = (let lt = slice_get_within xs i x h in there ys i (omega (arith, lt, same)))

-- the oldest entry of a port stands behind those that were passed
pub oldest_at : (s : Seen) (port : Port) (e : End) (x : Entry) → end_of s port ≡ Some e → unpassed s port ≡ Some x → slice_get e.got e.taken ≡ Some x
oldest_at s port e x here h = sym (ap (option_and_then (λ (z : End). slice_get z.got z.taken)) here) ∙ h
