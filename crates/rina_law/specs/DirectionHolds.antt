-- What every row of a direction keeps: the journals beside the line.
use Rattle.std.specs.Prelude.{◌≡◌, ◌≢◌, ℕ, zero, suc, ◌+◌, ◌<◌, ◌≤◌, ◌⊎◌, true, false, if◌then◌else◌, List, ◌++◌, length, get_or}
use Rattle.rina_cube.specs.declared.Kind.{Kind}
use Rattle.rina_cube.specs.declared.Kind.TheVariants.{Datagram, Loose, Reliable}
use Rattle.rina_law.specs.declared.entry.Entry.{Entry}
use Rattle.rina_law.specs.Constants.{Constants}
use Rattle.rina_law.specs.Direction.{start_of, place_of, entry, Inbox, Direction}
use Rattle.rina_law.specs.LineHolds.{LineHolds}
use Rattle.rina_law.specs.Lists.{In}
use Rattle.rina_law.specs.Pieces.{Part, IsSized, Joiner}
use Rattle.rina_law.specs.Receiver.{Piece, is_present}
use Rattle.rina_law.specs.Sender.{Member, member}

-- Of a run

abbrev pub part_at : List Member → ℕ → Part
part_at run n = (member run n).part

-- the bytes of the SDU of a number, up to that number
abbrev pub bytes_of : List Member → ℕ → List ℕ
bytes_of run zero = (part_at run zero).body
bytes_of run (suc n) = if (part_at run (suc n)).begins then (part_at run (suc n)).body else bytes_of run n ++ (part_at run (suc n)).body

-- how many entries are complete by the numbers below n, with all those of earlier runs
abbrev pub reached : List Member → ℕ → ℕ → ℕ
reached run base zero = base
reached run base (suc n) = if (part_at run n).ends then suc (place_of run base n) else place_of run base n

-- SDU follows SDU: a piece begins one exactly where the one before it ends one, and all pieces of an SDU are first
-- made at one tick. On a reliable flow the data run flag stands only on the first of them
pub record RunHolds (c : Constants) (run : List Member) : Type 0 where
  pub begins : 0 < length run → (part_at run 0).begins ≡ true
  pub goes_on : (n : ℕ) → suc n < length run → (part_at run (suc n)).begins ≡ (part_at run n).ends
  pub first : (n : ℕ) → suc n < length run → (part_at run (suc n)).begins ≡ false → (member run (suc n)).first ≡ (member run n).first
  pub drf : c.cube.kind ≡ Reliable → (n : ℕ) → n < length run → (member run n).drf ≡ true → (part_at run n).begins ≡ true
  pub sized : (n : ℕ) → n < length run → IsSized c.piece (part_at run n)
  pub fits : (n : ℕ) → n < length run → length (bytes_of run n) ≤ c.cube.largest
  pub numbers : length run ≤ c.max + 1

-- between rows each SDU has all its pieces
abbrev pub IsClosed : List Member → Type 0
IsClosed run = (n : ℕ) → suc n ≡ length run → (part_at run n).ends ≡ true

-- the run is what was sent from the place `base` on: each of its SDUs is an entry, with its first number, tick and
-- bytes
pub record SentHolds (c : Constants) (run : List Member) (base : ℕ) (sent : List Entry) : Type 0 where
  pub none : length run ≡ 0 → length sent ≡ base
  pub size : (n : ℕ) → suc n ≡ length run → length sent ≡ suc (place_of run base n)
  pub num : (n : ℕ) → n < length run → (entry sent (place_of run base n)).num.seq ≡ start_of run n
  pub tick : (n : ℕ) → n < length run → (entry sent (place_of run base n)).tick ≡ (member run n).first
  pub bytes : (n : ℕ) → n < length run → (part_at run n).ends ≡ true → (entry sent (place_of run base n)).bytes ≡ bytes_of run n
  pub cep : (j : ℕ) → j < length sent → (entry sent j).num.cep ≡ c.cep
  pub below : (j : ℕ) → base ≤ j → j < length sent → (entry sent j).num.seq < length run
  pub rising : (j k : ℕ) → base ≤ j → j < k → k < length sent → (entry sent j).num.seq < (entry sent k).num.seq

-- what the joiner holds are the pieces of one SDU of the run, up to `last`, which does not end it
pub record IsJoinedTo (run : List Member) (j : Joiner) (last : ℕ) : Type 0 where
  pub is : j.from + j.count ≡ suc last
  pub within : last < length run
  pub waits : (part_at run last).ends ≡ false
  pub begins : start_of run last ≡ j.from
  pub bytes : j.bytes ≡ bytes_of run last

abbrev pub JoinHolds : List Member → Joiner → Type 0
JoinHolds run j = 0 < j.count → (last : ℕ) × IsJoinedTo run j last

-- an entry that was got is one that was sent, at the place q, which is its greatest source, and it came in time
pub record IsGot (c : Constants) (sent : List Entry) (g : Entry) (q : ℕ) : Type 0 where
  pub stands : q < length sent
  pub num : (entry sent q).num.seq ≡ g.num.seq
  pub cep : g.num.cep ≡ c.cep
  pub before : (entry sent q).tick ≤ g.tick
  pub bytes : g.bytes ≡ (entry sent q).bytes
  pub in_time : g.tick ≤ (entry sent q).tick + c.cube.r + c.cube.mpl
  pub greatest : (k : ℕ) → k < length sent → (entry sent k).num.seq ≡ g.num.seq → (entry sent k).tick ≤ g.tick → k ≤ q

abbrev pub nth : List ℕ → ℕ → ℕ
nth ns i = get_or ns i 0

-- the places, by kind: apart, rising, or all from 0 on
abbrev pub ArePlaces : Kind → List ℕ → Type 0
ArePlaces Datagram qs = (i k : ℕ) → i < k → k < length qs → nth qs i ≢ nth qs k
ArePlaces Loose qs = (i k : ℕ) → i < k → k < length qs → nth qs i < nth qs k
ArePlaces Reliable qs = (i : ℕ) → i < length qs → nth qs i ≡ i

-- each entry got has its place. It is of an earlier run, or of an SDU of this run whose last number was accepted;
-- and its number is one of this run, or its tick is of an earlier one, so that no entry that is sent later takes its
-- place
pub record GotHolds (c : Constants) (run : List Member) (base since : ℕ) (sent : List Entry) (done : List ℕ) (inbox : Inbox) : Type 0 where
  pub size : length inbox.places ≡ length inbox.got
  pub is : (i : ℕ) → i < length inbox.got → IsGot c sent (entry inbox.got i) (nth inbox.places i)
  pub age : (i : ℕ) → i < length inbox.got → ((entry inbox.got i).num.seq < length run) ⊎ ((entry inbox.got i).tick < since)
  pub known : (i : ℕ) → i < length inbox.got → (nth inbox.places i < base) ⊎ ((n : ℕ) × In n done × ((part_at run n).ends ≡ true) × (place_of run base n ≡ nth inbox.places i))
  pub shape : ArePlaces c.cube.kind inbox.places

-- of the receiver's side of a reliable flow while its state stands, with m numbers accepted: what is held is of the
-- run, entries of this state have accepted numbers, and the joiner has exactly the accepted pieces of an SDU that is
-- not whole
pub record ReachHolds (run : List Member) (held : List Piece) (m state_from : ℕ) (inbox : Inbox) : Type 0 where
  pub held_is : (q : Piece) → In q held → q.part ≡ part_at run q.number
  pub mine : (i : ℕ) → state_from ≤ i → i < length inbox.got → (entry inbox.got i).num.seq < m
  pub joined : 0 < inbox.joiner.count → inbox.joiner.from + inbox.joiner.count ≡ m
  pub waits : (n : ℕ) → m ≡ suc n → (part_at run n).ends ≡ false → 0 < inbox.joiner.count

-- a direction between two pieces of one SDU
pub record CoreHolds (c : Constants) (d : Direction) : Type 0 where
  pub line : LineHolds c d.line
  pub run : RunHolds c d.line.sender.run
  pub sent : SentHolds c d.line.sender.run d.base d.sent
  pub base : d.base ≤ length d.sent
  pub since : d.since ≤ d.line.clock
  pub join : is_present c d.line.clock d.line.receiver ≡ true → JoinHolds d.line.sender.run d.inbox.joiner
  pub got : GotHolds c d.line.sender.run d.base d.since d.sent d.line.done d.inbox
  pub ticks : (i : ℕ) → i < length d.inbox.got → (d.line.receiver.made ≡ true) × ((entry d.inbox.got i).tick ≤ d.line.receiver.last_in)
  pub count : c.cube.kind ≡ Reliable → length d.inbox.places ≡ reached d.line.sender.run d.base (length d.line.done)
  pub reach : c.cube.kind ≡ Reliable → is_present c d.line.clock d.line.receiver ≡ true → ReachHolds d.line.sender.run d.line.receiver.held (length d.line.done) d.state_from d.inbox

-- a direction between two rows
pub record DirectionHolds (c : Constants) (d : Direction) : Type 0 where
  pub core : CoreHolds c d
  pub closed : IsClosed d.line.sender.run
