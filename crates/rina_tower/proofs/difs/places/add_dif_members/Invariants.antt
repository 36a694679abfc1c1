use Rattle.std.proofs.Common.{◌≡◌, ◌++◌, map, take}
use Rattle.rina_tower.specs.Rounds.{member_place}
use Rattle.rina_tower.proofs.difs.places.add_dif_members.Given as goal

-- the first IPC processes were added
abbrev pub invariant-loop-member : goal.invariant-loop-member
invariant-loop-member l = l.places ≡ l.fn.places ++ map (member_place l.rank l.dif.settings.fac) (take l.member-index l.dif.settings.members)
