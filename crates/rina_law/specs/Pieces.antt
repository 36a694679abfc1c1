-- The pieces of an SDU, and how a receiver joins them.
use Rattle.std.specs.Prelude.{◌≡◌, ℕ, ◌+◌, ◌≤◌, Bool, true, false, ◌&&◌, nat_lt, ◌==◌, if◌then◌else◌, List, [], ◌∷◌, ◌++◌, length}

-- what a piece carries of its SDU: whether it is the first of it, whether it is the last, and its bytes
pub record Part : Type 0 where
  pub begins : Bool
  pub ends : Bool
  pub body : List ℕ

-- a part is as long as the size at which its SDU is cut; the last one may be shorter, and is empty only alone
pub record IsSized (size : ℕ) (part : Part) : Type 0 where
  pub fits : length part.body ≤ size
  pub full : part.ends ≡ false → length part.body ≡ size
  pub some : part.begins ≡ false → part.ends ≡ true → 1 ≤ length part.body

-- these are the parts of one SDU in order, or what is left of them where `begins` is false: the first
-- alone begins, and the last alone ends
abbrev pub IsCut : ℕ → Bool → List Part → Type 0
IsCut size begins [] = ⊥
IsCut size begins (p ∷ []) = (p.begins ≡ begins) × (p.ends ≡ true) × IsSized size p
IsCut size begins (p ∷ q ∷ ps) = (p.begins ≡ begins) × (p.ends ≡ false) × IsSized size p × IsCut size false (q ∷ ps)

-- the bytes of parts, one after the other
abbrev pub join : List Part → List ℕ
join [] = []
join (p ∷ ps) = p.body ++ join ps

-- the pieces that wait for the last one of their SDU: `count` of them, from the number `from` on
pub record Joiner : Type 0 where
  pub from : ℕ
  pub count : ℕ
  pub bytes : List ℕ

abbrev pub empty_joiner : Joiner
empty_joiner = record { from = 0; count = 0; bytes = [] }

-- whether a number is the next one of the SDU that waits
abbrev pub goes_on : ℕ → Joiner → Bool
goes_on n j = nat_lt 0 j.count && (j.from + j.count == n)

-- the joiner with one more piece: a piece that begins drops what waits; one that neither begins nor goes on is
-- dropped with it
abbrev pub with_part : ℕ → Part → Joiner → Joiner
with_part n part j =
    if part.begins then record { from = n; count = 1; bytes = part.body }
    else (if goes_on n j then record { from = j.from; count = j.count + 1; bytes = j.bytes ++ part.body } else empty_joiner)

-- an SDU that is whole: the number of its first piece, how many pieces it had, and its bytes
pub record Sdu : Type 0 where
  pub first : ℕ
  pub pieces : ℕ
  pub bytes : List ℕ

-- pieces are given to a joiner: the joiner after them, and the SDUs that became whole
pub record Joined : Type 0 where
  pub joiner : Joiner
  pub whole : List Sdu

abbrev pub finished : Bool → Joiner → List Sdu → Joined
finished true j whole = record { joiner = empty_joiner; whole = whole ++ record { first = j.from; pieces = j.count; bytes = j.bytes } ∷ [] }
finished false j whole = record { joiner = j; whole = whole }

-- with one more piece: the last one of an SDU makes it whole, where all before it are there
abbrev pub joined_with : ℕ → Part → Joined → Joined
joined_with n part j = finished (part.ends && nat_lt 0 (with_part n part j.joiner).count) (with_part n part j.joiner) j.whole

-- a joiner with room for so many bytes takes the piece: the bytes of its SDU, up to it, are no more
abbrev pub HasRoomFor : ℕ → ℕ → Part → Joiner → Type 0
HasRoomFor largest n part j = length (with_part n part j).bytes ≤ largest
