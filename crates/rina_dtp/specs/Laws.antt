-- How a layer above keeps what a receiver stands for.
use Rattle.std.specs.Prelude.{◌≡◌, ℕ, ◌≤◌, false, []}
use Rattle.rina_dtp.specs.Receiving.{Receiving}
use Rattle.rina_dtp.specs.Stands.{Stands}
use Rattle.rina_law.specs.Constants.{Constants}
use Rattle.rina_law.specs.Pieces.{Joiner, empty_joiner}
use Rattle.rina_law.specs.Receiver.{Receiver, is_present}

-- a receiver stands for the same when time goes on
abbrev pub StandsLater : Type 0
StandsLater = (c : Constants) (now later : ℕ) (m : Receiver) (j : Joiner) (r : Receiving) → Stands c now m j r → now ≤ later → Stands c later m j r

-- and also for the machine's receiver and joiner that gave up what an absent state held
abbrev pub StandsForgotten : Type 0
StandsForgotten = (c : Constants) (now : ℕ) (m : Receiver) (j : Joiner) (r : Receiving) → Stands c now m j r → is_present c now m ≡ false → Stands c now (record m { held = [] }) empty_joiner r
