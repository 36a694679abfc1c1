-- What a receiver shows, in the terms of the machine's receiver and joiner for which it stands.
use Rattle.std.specs.Prelude.{◌≡◌, ◌≢◌, ℕ, ◌+◌, ◌-◌, ◌^◌, ◌<◌, Bool, true, false, nat_lt, [], Option, Some, None, if◌then◌else◌}
use Rattle.rina_cube.specs.declared.Cube.{Cube}
use Rattle.rina_cube.specs.declared.Kind.{Kind}
use Rattle.rina_cube.specs.declared.Kind.TheVariants.{Reliable}
use Rattle.rina_delim.specs.declared.joiner.Run.{Run}
use Rattle.rina_dtp.specs.declared.accepted.Accepted.{Accepted}
use Rattle.rina_dtp.specs.declared.accepted.Accepted.TheVariants as accepted
use Rattle.rina_dtp.specs.Receiving.{Receiving, kept_numbers, present_at}
use Rattle.rina_dtp.specs.Stands.{Stands, IsFetched}
use Rattle.rina_law.specs.Constants.{Constants}
use Rattle.rina_law.specs.Lists.{highest}
use Rattle.rina_law.specs.Pieces.{Joiner, empty_joiner}
use Rattle.rina_law.specs.Receiver.{Receiver, no_state, is_present, next_of}

-- a new receiver stands for one without state, and nothing waits there
pub record IsNew (cube : Cube) (size : ℕ) (r : Receiving) : Type 0 where
  pub stands : (c : Constants) (now : ℕ) → c.cube ≡ cube → c.piece ≡ size → Stands c now no_state empty_joiner r
  pub fetched : (now : ℕ) → IsFetched now r

-- whether state stands
abbrev pub TellsPresence : ℕ → Receiving → Bool → Type 0
TellsPresence now r result = (c : Constants) (m : Receiver) (j : Joiner) → Stands c now m j r → result ≡ is_present c now m

-- the number after the greatest one that was accepted; on a reliable flow no lower one is missing
abbrev pub number_after : Kind → Receiver → ℕ
number_after Reliable m = next_of m
number_after _ m = highest m.accepted + 1

abbrev pub TellsNext : ℕ → Receiving → Option ℕ → Type 0
TellsNext now r result = (c : Constants) (m : Receiver) (j : Joiner) → Stands c now m j r → result ≡ (if is_present c now m then Some (number_after c.cube.kind m) else None)

-- the first number that the joiner holds
abbrev pub TellsJoining : Receiving → Option ℕ → Type 0
TellsJoining r result = (c : Constants) (now : ℕ) (m : Receiver) (j : Joiner) → Stands c now m j r → is_present c now m ≡ true → result ≡ (if nat_lt 0 j.count then Some j.from else None)

-- when the last piece came that counted, where any did
abbrev pub TellsLastIn : Receiving → Option ℕ → Type 0
TellsLastIn r result = (c : Constants) (now : ℕ) (m : Receiver) (j : Joiner) → Stands c now m j r → result ≡ (if m.made then Some m.last_in else None)

-- before this tick no piece is kept of a state that has ended
abbrev pub KeepsNoneUntil : ℕ → Receiving → Type 0
KeepsNoneUntil until r = (t : ℕ) → t < until → present_at t r ≡ false → kept_numbers r ≡ []

-- at this tick pieces are kept of a state that has ended, unless it is the greatest u32
abbrev pub KeepsFrom : ℕ → Receiving → Type 0
KeepsFrom tick r = tick < 2 ^ 32 - 1 → (present_at tick r ≡ false) × (kept_numbers r ≢ [])

-- in the terms of what is kept
abbrev pub next_kept : Accepted → ℕ
next_kept (accepted.Datagram r) = r.top + 1
next_kept (accepted.Loose h) = h + 1
next_kept (accepted.Reliable s) = s.next

abbrev pub from_kept : Option Run → Option ℕ
from_kept None = None
from_kept (Some run) = Some run.from
