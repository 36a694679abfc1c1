-- What a direction of a flow keeps: facts about what one end sent and what the other end got.
use Rattle.std.specs.Prelude.{◌≡◌, ℕ, ◌+◌, ◌<◌, ◌≤◌, List, slice_get, Some}
use Rattle.rina_cube.specs.declared.Kind.{Kind}
use Rattle.rina_cube.specs.declared.Kind.TheVariants.{Datagram, Loose, Reliable}
use Rattle.rina_law.specs.declared.entry.Entry.{Entry}

-- entry j of what was sent, which is source, has the number of e, and is no later
pub record IsSource (sent : List Entry) (e : Entry) (j : ℕ) (source : Entry) : Type 0 where
  pub stands : slice_get sent j ≡ Some source
  pub same : source.num ≡ e.num
  pub before : source.tick ≤ e.tick

-- the place of e among what was sent: its greatest source
pub record IsPlace (sent : List Entry) (e : Entry) (j : ℕ) (source : Entry) : Type 0 where
  pub is_source : IsSource sent e j source
  pub greatest : (k : ℕ) (s : Entry) → IsSource sent e k s → k ≤ j

-- e has a place, its bytes are those that were sent, and it came within the promise
pub record IsBorn (promise : ℕ) (sent : List Entry) (e : Entry) : Type 0 where
  pub place : ℕ
  pub source : Entry
  pub is_place : IsPlace sent e place source
  pub bytes : e.bytes ≡ source.bytes
  pub in_time : e.tick ≤ source.tick + promise

-- every entry that was got is born of one that was sent
abbrev pub Born : ℕ → List Entry → List Entry → Type 0
Born promise sent got = (i : ℕ) (e : Entry) → slice_get got i ≡ Some e → IsBorn promise sent e

-- different entries that were got have different places
abbrev pub Once : List Entry → List Entry → Type 0
Once sent got = (i k j : ℕ) (e f s : Entry) → slice_get got i ≡ Some e → slice_get got k ≡ Some f → IsPlace sent e j s → IsPlace sent f j s → i ≡ k

-- the places rise strictly along what was got
abbrev pub Ordered : List Entry → List Entry → Type 0
Ordered sent got = (i k p q : ℕ) (e f s t : Entry) → slice_get got i ≡ Some e → slice_get got k ≡ Some f → IsPlace sent e p s → IsPlace sent f q t → i < k → p < q

-- the place of the i-th entry that was got is i: what was got is a prefix of what was sent
abbrev pub Prefix : List Entry → List Entry → Type 0
Prefix sent got = (i : ℕ) (e : Entry) → slice_get got i ≡ Some e → (s : Entry) × IsPlace sent e i s

-- what a direction of a flow keeps beside being born, by the kind of its cube
abbrev pub KeepsOrder : Kind → List Entry → List Entry → Type 0
KeepsOrder Datagram sent got = Once sent got
KeepsOrder Loose sent got = Ordered sent got
KeepsOrder Reliable sent got = Prefix sent got

-- what a direction of a flow of a cube keeps: within the promise, and by kind once, in order, or a prefix
pub record Keeps (kind : Kind) (promise : ℕ) (sent got : List Entry) : Type 0 where
  pub born : Born promise sent got
  pub order : KeepsOrder kind sent got
