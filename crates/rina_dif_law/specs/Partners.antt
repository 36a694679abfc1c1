-- What an end got, by the end that sent it.
use Rattle.std.specs.Prelude.{◌≡◌, ℕ, slice_get, Some}
use Rattle.rina_base.specs.declared.number.Port.{Port}
use Rattle.rina_iface.specs.declared.ends.End.{End}
use Rattle.rina_iface.specs.Journal.{AreKept, IsNamed, IsPartner}
use Rattle.rina_iface.specs.Seen.{Seen, end_of, promise_at}
use Rattle.rina_law.specs.declared.entry.Entry.{Entry}
use Rattle.rina_law.specs.Journal.{IsBorn}

-- an entry that the end of a port got: the end has a partner, whose port has the same promise, and the entry is born
-- of what the partner sent
pub record IsMet (s : Seen) (port : Port) (end : End) (x : Entry) : Type 0 where
  pub its_port : Port
  pub other : End
  pub here : end_of s its_port ≡ Some other
  pub partner : IsPartner end other
  pub named : IsNamed end other
  pub promise : ℕ
  pub promised : promise_at s port ≡ Some promise
  pub its_promise : promise_at s its_port ≡ Some promise
  pub born : IsBorn promise other.sent x

-- whatever an end of a kept facility got has a sender
abbrev pub EachIsMet : Type 0
EachIsMet = (s : Seen) (port : Port) (end : End) (i : ℕ) (x : Entry) → AreKept s → end_of s port ≡ Some end → slice_get end.got i ≡ Some x → IsMet s port end x
