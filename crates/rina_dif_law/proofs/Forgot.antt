-- What a piece finds, once what is left of a state that is gone was given up.
use Rattle.std.proofs.Common.{◌≡◌, Bool, true, false, cond, refl}
use Rattle.rina_law.specs.Constants.{Constants}
use Rattle.rina_law.specs.Direction.{Direction, Forget, happens}
use Rattle.rina_law.specs.Receiver.{is_present}
use Rattle.rina_dif_law.specs.Incoming.{found}

-- what holds of a direction, and of it without what is left of a state that is gone, holds of what a piece finds
pub by_found : (P : Direction → Type 0) (c : Constants) (line : Direction) → P line → (is_present c line.line.clock line.line.receiver ≡ false → P (happens c line Forget)) → P (found c line)
by_found P c line here gone = go (is_present c line.line.clock line.line.receiver) refl
  where
    go : (b : Bool) → is_present c line.line.clock line.line.receiver ≡ b → P (cond b line (happens c line Forget))
    go true e = here
    go false e = gone e

pub found_clock : (c : Constants) (line : Direction) → (found c line).line.clock ≡ line.line.clock
found_clock c line = by_found (λ l. l.line.clock ≡ line.line.clock) c line refl (λ gone. refl)

pub found_got : (c : Constants) (line : Direction) → (found c line).inbox.got ≡ line.inbox.got
found_got c line = by_found (λ l. l.inbox.got ≡ line.inbox.got) c line refl (λ gone. refl)
