-- Chains of ids, and how their links lie.
use Rattle.std.specs.Prelude.{◌≡◌, ◌≢◌, ℕ, ◌<◌, ◌≤◌, ◌⊎◌, ◌&&◌, ◌||◌, ◌==◌, Bool, nat_lt, List, Option, Some, None, length, slice_index, slice_index_or, slice_set}

-- the number of the chain in which an id stands, 0 for none
abbrev pub chain_of : List ℕ → ℕ → ℕ
chain_of chains id = slice_index chains id

-- some id of a chain; None where there is none
abbrev pub IsMember : List ℕ → ℕ → Option ℕ → Type 0
IsMember chains c (Some id) = chain_of chains id ≡ c
IsMember chains c None = (id : ℕ) → chain_of chains id ≢ c

-- the least number of a chain in which an id stands; None where there is none
abbrev pub IsFirstChain : List ℕ → Option ℕ → Type 0
IsFirstChain chains (Some c) = (c ≢ 0) × (c < 514) × ((id : ℕ) × (chain_of chains id ≡ c)) × ((id : ℕ) → chain_of chains id ≢ 0 → c ≤ chain_of chains id)
IsFirstChain chains None = (id : ℕ) → chain_of chains id ≡ 0

-- a tick or a link, None past the end
abbrev pub link : List (Option ℕ) → ℕ → Option ℕ
link links i = slice_index_or links i None

-- the first place from one on that has a link, the end where there is none
pub record IsFirstSome (links : List (Option ℕ)) (from at : ℕ) : Type 0 where
  pub before : (k : ℕ) → from ≤ k → k < at → link links k ≡ None
  pub within : at ≤ length links
  pub here : at < length links → link links at ≢ None

-- the chain that an id leads, which has this one before it
abbrev pub led_by : ℕ → Option ℕ → Option ℕ
led_by c None = Some c
led_by c (Some prev) = None

-- a link may be written here
abbrev pub Within : Option ℕ → ℕ → Type 0
Within (Some at) size = at < size
Within None size = Unit {0}

-- a link written where there is a place
abbrev pub set_link : Option ℕ → Option ℕ → List (Option ℕ) → List (Option ℕ)
set_link (Some at) x links = slice_set links at x
set_link None x links = links

-- each chain goes down in rank from its first id to its last, and passes none by
pub record Linked (chain rank : ℕ → ℕ) (next prev first : ℕ → Option ℕ) (stamp : ℕ) : Type 0 where
  pub fresh : (m : ℕ) → chain m ≢ 0 → rank m < stamp
  pub apart : (m k : ℕ) → chain m ≢ 0 → chain m ≡ chain k → rank m ≡ rank k → m ≡ k
  pub first_in : (c h : ℕ) → first c ≡ Some h → (chain h ≡ c) × (c ≢ 0)
  pub first_any : (m : ℕ) → chain m ≢ 0 → first (chain m) ≢ None
  pub first_top : (m h : ℕ) → chain m ≢ 0 → first (chain m) ≡ Some h → rank m ≤ rank h
  pub next_in : (p n : ℕ) → chain p ≢ 0 → next p ≡ Some n → (chain n ≡ chain p) × (rank n < rank p)
  pub next_any : (p m : ℕ) → chain p ≢ 0 → chain m ≡ chain p → rank m < rank p → next p ≢ None
  pub next_top : (p m n : ℕ) → chain p ≢ 0 → chain m ≡ chain p → rank m < rank p → next p ≡ Some n → rank m ≤ rank n
  pub prev_in : (m p : ℕ) → chain m ≢ 0 → prev m ≡ Some p → (chain p ≡ chain m) × (next p ≡ Some m)
  pub prev_none : (m : ℕ) → chain m ≢ 0 → prev m ≡ None → first (chain m) ≡ Some m

-- the links of 514 chains, and a rank that shows their order
pub record Chained (chain : List ℕ) (next prev first : List (Option ℕ)) : Type 0 where
  pub next_long : length next ≡ length chain
  pub prev_long : length prev ≡ length chain
  pub first_long : length first ≡ 514
  pub within : (id : ℕ) → chain_of chain id < 514
  pub rank : ℕ → ℕ
  pub stamp : ℕ
  pub linked : Linked (chain_of chain) rank (link next) (link prev) (link first) stamp

-- these links, and no id stands in a chain before one
pub record ChainedFrom (chain : List ℕ) (next prev first : List (Option ℕ)) (low : ℕ) : Type 0 where
  pub links : Chained chain next prev first
  pub least : (id : ℕ) → chain_of chain id ≢ 0 → low ≤ chain_of chain id

-- the tick at which a timer is set, 0 where it is not
abbrev pub tick : Option ℕ → ℕ
tick (Some at) = at
tick None = 0

abbrev pub tick_of : List (Option ℕ) → ℕ → ℕ
tick_of times id = tick (link times id)

-- whether a timer is due before another
abbrev pub is_before : List (Option ℕ) → ℕ → ℕ → Bool
is_before times id other = nat_lt (tick_of times id) (tick_of times other) || ((tick_of times id == tick_of times other) && nat_lt id other)

-- a timer is due no later than another, by its tick and then its id
abbrev pub IsNoLater : List (Option ℕ) → ℕ → ℕ → Type 0
IsNoLater times id other = (tick_of times id < tick_of times other) ⊎ ((tick_of times id ≡ tick_of times other) × (id ≤ other))

-- of the ids of a chain the one that is due no later than any
abbrev pub IsEarliestOf : List (Option ℕ) → List ℕ → ℕ → Option ℕ → Type 0
IsEarliestOf times chains c (Some id) = (chain_of chains id ≡ c) × ((other : ℕ) → chain_of chains other ≡ c → IsNoLater times id other)
IsEarliestOf times chains c None = (id : ℕ) → chain_of chains id ≢ c
