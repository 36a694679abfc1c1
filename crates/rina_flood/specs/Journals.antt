-- The texts that were offered at the ends of connections and those that were passed on there, out of a journal of the ends.
use Rattle.std.specs.Prelude.{◌≡◌, ℕ, ◌≤◌, List, [], length, map, slice_get, slice_set, take, Option, Some, None}
use Rattle.rina_law.specs.declared.entry.Entry.{Entry}
use Rattle.rina_iface.specs.declared.ends.End.{End}
use Rattle.rina_iface.specs.Ends.{with_got, with_passed, with_sent}
use Rattle.rina_flood.specs.Members.{Adds, AreSame}

-- the bytes of entries
abbrev pub texts_of : List Entry → List (List ℕ)
texts_of entries = map (λ (e : Entry). e.bytes) entries

-- what an end offered; nothing where there is no such end
abbrev pub offered_by : Option End → List (List ℕ)
offered_by None = []
offered_by (Some e) = texts_of e.sent

-- of what came to an end, that which was passed on
abbrev pub passed_by : Option End → List (List ℕ)
passed_by None = []
passed_by (Some e) = texts_of (take e.taken e.got)

-- by the place of an end
abbrev pub offered_in : List End → ℕ → List (List ℕ)
offered_in ends place = offered_by (slice_get ends place)

abbrev pub passed_in : List End → ℕ → List (List ℕ)
passed_in ends place = passed_by (slice_get ends place)

-- What changes in a journal

-- one text more was offered, and no more was passed on
pub record AddsOffered (ends ends' : List End) (place : ℕ) (text : List ℕ) : Type 0 where
  pub offered : Adds place text (offered_in ends) (offered_in ends')
  pub passed : AreSame (passed_in ends) (passed_in ends')

-- one text more was passed on, and no more was offered
pub record AddsPassed (ends ends' : List End) (place : ℕ) (text : List ℕ) : Type 0 where
  pub offered : AreSame (offered_in ends) (offered_in ends')
  pub passed : Adds place text (passed_in ends) (passed_in ends')

-- no more was offered or passed on
pub record AddsNone (ends ends' : List End) : Type 0 where
  pub offered : AreSame (offered_in ends) (offered_in ends')
  pub passed : AreSame (passed_in ends) (passed_in ends')

-- an end offers an entry
abbrev pub OffersAdd : Type 0
OffersAdd = (ends : List End) (place : ℕ) (end : End) (entry : Entry) → slice_get ends place ≡ Some end → AddsOffered ends (slice_set ends place (with_sent end entry)) place entry.bytes

-- an end passes on the next entry that came
abbrev pub PassesAdd : Type 0
PassesAdd = (ends : List End) (place : ℕ) (end : End) (entry : Entry) → slice_get ends place ≡ Some end → slice_get end.got end.taken ≡ Some entry → AddsPassed ends (slice_set ends place (with_passed end)) place entry.bytes

-- an entry comes to an end
abbrev pub ArrivalsAddNone : Type 0
ArrivalsAddNone = (ends : List End) (place : ℕ) (end : End) (entry : Entry) → slice_get ends place ≡ Some end → end.taken ≤ length end.got → AddsNone ends (slice_set ends place (with_got end entry))

-- something else happens to an end
abbrev pub OthersAddNone : Type 0
OthersAddNone = (ends : List End) (place : ℕ) (end end' : End) → slice_get ends place ≡ Some end → end'.sent ≡ end.sent → end'.got ≡ end.got → end'.taken ≡ end.taken → AddsNone ends (slice_set ends place end')
