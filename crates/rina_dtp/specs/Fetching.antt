-- Pieces that were given up, and how they are fetched.
use Rattle.std.specs.Prelude.{◌≡◌, ◌≢◌, ℕ, ◌+◌, ◌<◌, ◌≤◌, Bool, true, false, nat_lt, List, [], ◌∷◌, length, Option, Some, None, if◌then◌else◌}
use Rattle.rina_delim.specs.declared.joiner.Run.{Run}
use Rattle.rina_delim.specs.Joining.{empty}
use Rattle.rina_dtp.specs.declared.accepted.Accepted.{Accepted}
use Rattle.rina_dtp.specs.declared.gap.Gap.{Gap}
use Rattle.rina_dtp.specs.declared.gap.Lost.{Lost}
use Rattle.rina_dtp.specs.Accepted.{kind_of, HasSlotsFor}
use Rattle.rina_dtp.specs.Receiving.{Receiving, end_cause, held_numbers, kept_numbers}
use Rattle.rina_dtp.specs.Shelf.{Shelved, holds}
use Rattle.rina_dtp.specs.Stands.{HasPlacesFor, Stands}
use Rattle.rina_law.specs.Constants.{Constants}
use Rattle.rina_law.specs.Lists.{In}
use Rattle.rina_law.specs.Pieces.{Joiner}
use Rattle.rina_law.specs.Receiver.{Receiver}

-- the first of a list is given and taken away, and None where the list is empty
abbrev pub TakesFirst : {X : Type 0} → Option X → List X → List X → Type 0
TakesFirst None old new = (old ≡ []) × (new ≡ [])
TakesFirst (Some x) old new = old ≡ x ∷ new

-- whether a list has anything
abbrev pub HasSome : {X : Type 0} → List X → Bool → Type 0
HasSome xs true = xs ≢ []
HasSome xs false = xs ≡ []

-- the gaps when one piece was taken from the first
abbrev pub first_lost : List Gap → Option Lost
first_lost [] = None
first_lost (g ∷ gs) = Some (record { number = g.from; missing = g.missing })

abbrev pub after_lost : List Gap → List Gap
after_lost [] = []
after_lost (g ∷ gs) = if nat_lt g.from g.last then record g { from = g.from + 1 } ∷ gs else gs

-- a run without its first piece
abbrev pub after_first : Run → Option Run
after_first run = if nat_lt run.from run.last then Some (record run { from = run.from + 1 }) else None

-- the pieces of the joiner are given up before those that are held
abbrev pub gathered_by : Option Run → Receiving → Receiving
gathered_by None r = record r { going = r.join.joining.held; join = record r.join { joining = empty r.join.joining.largest } }
gathered_by (Some run) r = r

abbrev pub gathered : Receiving → Receiving
gathered r = gathered_by r.going r

-- the first number that is held, from the next one on, where any is
abbrev pub FindsHeld : Option ℕ → Shelved → Type 0
FindsHeld None s = (i : ℕ) → s.next ≤ i → i < s.next + length s.places → holds s.places i ≡ false
FindsHeld (Some k) s = (holds s.places k ≡ true) × (s.next ≤ k) × (k < s.next + length s.places) × ((i : ℕ) → s.next ≤ i → i < k → holds s.places i ≡ false)

-- what a receiver is for stays
pub record SameShape (old new : Accepted) : Type 0 where
  pub kind : kind_of new ≡ kind_of old
  pub places : (c : Constants) → HasPlacesFor c old → HasPlacesFor c new
  pub slots : (count : ℕ) → HasSlotsFor old count → HasSlotsFor new count

-- the first piece was taken of those that were in the joiner, or else of those that are held
abbrev pub GoesOn : Option Run → Receiving → Option ℕ → Receiving → Type 0
GoesOn (Some run) old result new = (result ≡ Some run.from) × (new ≡ record old { going = after_first run })
GoesOn None old result new = TakesFirst result (held_numbers old.accepted) (held_numbers new.accepted) × SameShape old.accepted new.accepted × (new ≡ record old { accepted = new.accepted })

-- nothing changed but what is kept
pub record ChangesKept (old new : Receiving) : Type 0 where
  pub new_is : new ≡ record old { accepted = new.accepted; going = new.going; join = record old.join { joining = new.join.joining } }
  pub shape : SameShape old.accepted new.accepted
  pub largest : new.join.joining.largest ≡ old.join.joining.largest

-- no more is kept than before, and it comes from the same source; all of it is, while neither state nor connection has ended
pub record KeepsNoMore (now : ℕ) (old new : Receiving) : Type 0 where
  pub source : new.source ≡ old.source
  pub kept : (n : ℕ) → In n (kept_numbers new) → In n (kept_numbers old)
  pub why : end_cause now new ≡ end_cause now old
  pub all : end_cause now old ≡ None → kept_numbers new ≡ kept_numbers old

-- it stands for the same receiver and joiner of the machine
abbrev pub StandsAsBefore : ℕ → Receiving → Receiving → Type 0
StandsAsBefore now old new = (c : Constants) (m : Receiver) (j : Joiner) → Stands c now m j old → Stands c now m j new
