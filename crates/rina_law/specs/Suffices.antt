-- When bounds suffice, and when a list of rows breaks them.
use Rattle.std.specs.Prelude.{◌≡◌, ℕ, ◌+◌, ◌*◌, ◌≤◌, true, List, ◌∷◌}
use Rattle.rina_cube.specs.Cubes.{IsCube, promise_of}
use Rattle.rina_law.specs.declared.entry.Entry.{Entry}
use Rattle.rina_law.specs.Bounds.{Bounds}
use Rattle.rina_law.specs.Constants.{Constants, delta}
use Rattle.rina_law.specs.Direction.{Direction, start, Row, Arrive, happens, May, IsRun, after, IsRunBy, after_by}
use Rattle.rina_law.specs.DirectionHolds.{DirectionHolds}
use Rattle.rina_law.specs.Journal.{Keeps}
use Rattle.rina_law.specs.Lawful.{IsAlive}
use Rattle.rina_law.specs.Laws.{IsReached}
use Rattle.rina_law.specs.Line.{InFlight, opening}
use Rattle.rina_law.specs.Lists.{In}
use Rattle.rina_law.specs.Receiver.{Piece}
use Rattle.rina_law.specs.Sender.{Ack}

-- bounds suffice where on each cube, whatever rows come, the two journals keep what the cube promises
abbrev pub Suffice : (Constants → Bounds) → Type 0
Suffice bounds = (c : Constants) (rows : List Row) → IsCube c.cube → IsRunBy (bounds c) c (start c) rows →
    Keeps c.cube.kind (promise_of c.cube) (after_by (bounds c) c (start c) rows).sent (after_by (bounds c) c (start c) rows).inbox.got

-- they do not where on some cube some rows, each of which may come, make two journals that do not
pub record Breaks (bounds : Constants → Bounds) (c : Constants) (rows : List Row) (sent got : List Entry) : Type 0 where
  pub cube : IsCube c.cube
  pub run : IsRunBy (bounds c) c (start c) rows
  pub sent_is : (after_by (bounds c) c (start c) rows).sent ≡ sent
  pub got_is : (after_by (bounds c) c (start c) rows).inbox.got ≡ got
  pub broken : Keeps c.cube.kind (promise_of c.cube) sent got → ⊥
  pub insufficient : Suffice bounds → ⊥

-- Ids that are used again

-- a new direction whose two ends have the CEP-ids of an old one: its state and its journals are its own, and what is
-- in flight of the old one is in flight still
abbrev pub reused : Constants → Direction → Direction
reused c old = record (start c) { line = record (opening c) { clock = old.line.clock; pieces = old.line.pieces; acks = old.line.acks } }

-- nothing of a direction is in flight that is not dead
pub record IsOver (d : Direction) : Type 0 where
  pub pieces : (p : InFlight Piece) → IsAlive d.line d.line.pieces p → ⊥
  pub acks : (k : InFlight Ack) → IsAlive d.line d.line.acks k → ⊥

-- then a direction that uses its ids has what every row keeps
abbrev pub ReusedHolds : Type 0
ReusedHolds = (next : Constants) (old : Direction) → IsCube next.cube → IsOver old → DirectionHolds next (reused next old)

-- and this is so `3 * delta` after its sender last made a piece
abbrev pub RestedIsOver : Type 0
RestedIsOver = (c : Constants) (old : Direction) → IsCube c.cube → DirectionHolds c old → old.line.sender.last_out + 3 * delta c ≤ old.line.clock → IsOver old

-- it suffices that ids rest so long after the sender last made a piece: whatever became of the old direction, the new
-- one keeps what its cube promises
abbrev pub RestSuffices : (Constants → ℕ) → Type 0
RestSuffices rest = (c next : Constants) (old : Direction) (rows : List Row) → IsReached c old → old.line.sender.last_out + rest c ≤ old.line.clock → IsCube next.cube → IsRun next (reused next old) rows →
    Keeps next.cube.kind (promise_of next.cube) (after next (reused next old) rows).sent (after next (reused next old) rows).inbox.got

-- it does not where some rows of an old direction, and then some of a new one with its ids, break the new one's journals
pub record RestBreaks (rest : Constants → ℕ) (c : Constants) (before rows : List Row) (sent got : List Entry) : Type 0 where
  pub cube : IsCube c.cube
  pub old_run : IsRun c (start c) before
  pub rested : (after c (start c) before).line.sender.last_out + rest c ≤ (after c (start c) before).line.clock
  pub run : IsRun c (reused c (after c (start c) before)) rows
  pub sent_is : (after c (reused c (after c (start c) before)) rows).sent ≡ sent
  pub got_is : (after c (reused c (after c (start c) before)) rows).inbox.got ≡ got
  pub broken : Keeps c.cube.kind (promise_of c.cube) sent got → ⊥
  pub insufficient : RestSuffices rest → ⊥

-- A flag that should not stand

-- a piece more in flight
abbrev pub with_piece : InFlight Piece → Direction → Direction
with_piece p d = record d { line = record d.line { pieces = p ∷ d.line.pieces } }

-- some rows, a piece of the run that is in flight with a data run flag that it was not made with, and its arrival break
-- the journals
pub record FlagBreaks (c : Constants) (rows : List Row) (made flagged : InFlight Piece) (sent got : List Entry) : Type 0 where
  pub cube : IsCube c.cube
  pub run : IsRun c (start c) rows
  pub stands : In made (after c (start c) rows).line.pieces
  pub is_flagged : flagged ≡ record made { pdu = record made.pdu { drf = true } }
  pub may : May c (with_piece flagged (after c (start c) rows)) (Arrive flagged)
  pub sent_is : (happens c (with_piece flagged (after c (start c) rows)) (Arrive flagged)).sent ≡ sent
  pub got_is : (happens c (with_piece flagged (after c (start c) rows)) (Arrive flagged)).inbox.got ≡ got
  pub broken : Keeps c.cube.kind (promise_of c.cube) sent got → ⊥
