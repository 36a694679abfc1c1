use Rattle.std.proofs.Common.{◌≡◌, map}
use Rattle.rina_policy.specs.Slots.{Slot}
use Rattle.rina_tower.specs.Rounds.{Follows, OutMove, has_left}
use Rattle.rina_tower.proofs.Rounding.{IsGoing}
use Rattle.rina_tower.proofs.tower.Tower.out_steps.Given as goal

-- by each step so far a PDU left
abbrev pub invariant-steps : goal.invariant-steps
invariant-steps g l = record {
  follows : Follows l.fn.self l.self;
  names : map (λ (x : Slot). x.name) (g.S.Picks.slots l.shelf) ≡ map (λ (x : Slot). x.name) (g.S.Picks.slots l.fn.shelf);
  going : IsGoing has_left (OutMove l.place) (g.S.Picks.slots l.fn.shelf) l.fn.self (g.S.Picks.slots l.shelf) l.self;
}
