-- What it means to take an SDU from an end of a DIF, and what time does to it.
use Rattle.std.specs.Prelude.{◌≡◌, ℕ, ◌-◌, ◌<◌, ◌≤◌, List, length, map, slice_set, Some}
use Rattle.rina_cube.specs.declared.Cube.{Cube}
use Rattle.rina_iface.specs.declared.ends.End.{End}
use Rattle.rina_iface.specs.Ends.{with_passed}
use Rattle.rina_law.specs.Direction.{Direction, Pass, happens}
use Rattle.rina_dif_law.specs.Dif.{DifSeen, constants}
use Rattle.rina_data.specs.Configs.{cube_by}
use Rattle.rina_dif_law.specs.Ids.{Ids, flipped}
use Rattle.rina_dif_law.specs.Incoming.{IsInbound}
use Rattle.rina_dif_law.specs.Lifting.{ticked}
use Rattle.rina_dif_law.specs.Standing.{IsConn}

-- the oldest SDU of the end at a place was taken
pub record IsPassed (d : DifSeen) (lines : List Direction) (at : ℕ) (d' : DifSeen) (lines' : List Direction) : Type 0 where
  pub end : End
  pub ids : Ids
  pub is_conn : IsConn d.ends d.conns at end ids
  pub waits : end.taken < length end.got
  pub from : ℕ
  pub line : Direction
  pub inbound : IsInbound d lines end from line
  pub cube : Cube
  pub is_cube : cube_by ids.qos d.config.cubes ≡ Some cube
  pub lines_are : lines' ≡ slice_set lines from (happens (constants d.config cube (flipped ids)) line Pass)
  pub new_is : d' ≡ record d { ends = slice_set d.ends at (with_passed end) }

-- the clock goes on to that of the rank below
pub record IsTicked (d : DifSeen) (lines : List Direction) (now : ℕ) (d' : DifSeen) (lines' : List Direction) : Type 0 where
  pub later : d.clock ≤ now
  pub lines_are : lines' ≡ map (ticked (now - d.clock)) lines
  pub new_is : d' ≡ record d { clock = now }
