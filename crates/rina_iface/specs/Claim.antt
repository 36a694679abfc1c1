-- What `incoming` does.
use Rattle.std.specs.Prelude.{◌≡◌, ℕ, List, [], remove, slice_get, Option, Some, None}
use Rattle.rina_base.specs.declared.number.Port.{Port}
use Rattle.rina_iface.specs.declared.ends.End.{End}
use Rattle.rina_iface.specs.Seen.{Fac, Seen, oldest_in, with_fac}

-- no end waits for this application at this node
abbrev pub NoneWaits : Option Fac → ℕ → List ℕ → Type 0
NoneWaits None node app = Unit {0}
NoneWaits (Some f) node app = oldest_in f.ends f.waiting node app ≡ None

-- the oldest far end of the application at the node was claimed; it has this port
pub record IsClaimed (old : Seen) (fac node : ℕ) (app : List ℕ) (port : Port) (new : Seen) : Type 0 where
  pub facility : Fac
  pub stands : slice_get old.facs fac ≡ Some facility
  pub at : ℕ
  pub oldest : oldest_in facility.ends facility.waiting node app ≡ Some at
  pub place : ℕ
  pub waits : slice_get facility.waiting at ≡ Some place
  pub end : End
  pub is : slice_get facility.ends place ≡ Some end
  pub its_port : port ≡ end.port
  pub new_is : new ≡ with_fac old fac (record facility { waiting = remove facility.waiting at })

-- what `incoming` does
abbrev pub Claims : Seen → ℕ → ℕ → List ℕ → Option Port → Seen → Type 0
Claims old fac node app None new = NoneWaits (slice_get old.facs fac) node app × (new ≡ old)
Claims old fac node app (Some port) new = IsClaimed old fac node app port new

-- no far end waits at any facility to be claimed
abbrev pub AreClaimed : Seen → Type 0
AreClaimed s = (n : ℕ) (f : Fac) → slice_get s.facs n ≡ Some f → f.waiting ≡ []
