-- Many pieces, and what a joiner holds after them.
use Rattle.std.specs.Prelude.{◌≡◌, ℕ, zero, suc, ◌+◌, ◌^◌, ◌%◌, Bool, true, false, List, [], ◌∷◌, ◌++◌, length, take, drop, if◌then◌else◌}
use Rattle.rina_delim.specs.declared.part.Part.{Part}
use Rattle.rina_delim.specs.Parts.{part_at}
use Rattle.rina_delim.specs.Joining.{Piece, piece, Joining, empty, after, joined}

-- what a new joiner holds after pieces; pieces stand newest first here
abbrev pub after_all : ℕ → List Piece → Joining
after_all largest [] = empty largest
after_all largest (p ∷ older) = joined (after_all largest older) p

-- the pieces since the last first one, with it
abbrev pub since_first : List Piece → List Piece
since_first [] = []
since_first (p ∷ older) = p ∷ (if p.first then [] else since_first older)

-- pieces of one SDU in order: the oldest alone is first, the numbers rise by one, and none but the newest
-- may be last, which `ends` tells
abbrev pub ArePieces : Bool → List Piece → Type 0
ArePieces ends [] = ⊥
ArePieces ends (p ∷ []) = (p.first ≡ true) × (p.last ≡ ends)
ArePieces ends (p ∷ q ∷ older) = (p.first ≡ false) × (p.last ≡ ends) × (p.seq ≡ after q.seq) × ArePieces false (q ∷ older)

abbrev pub concatenation : List Piece → List ℕ
concatenation [] = []
concatenation (p ∷ older) = concatenation older ++ p.body

-- the piece that carries part i of an SDU whose first piece has this number
abbrev pub piece_with : List ℕ → ℕ → Part → Piece
piece_with sdu seq part = piece (seq % 2 ^ 32) part.first part.last (take part.len (drop part.at sdu))

abbrev pub piece_of : List ℕ → ℕ → ℕ → ℕ → Piece
piece_of sdu size number i = piece_with sdu (number + i) (part_at (length sdu) size i)

-- what is held after so many parts of an SDU
abbrev pub after_parts : Joining → List ℕ → ℕ → ℕ → ℕ → Joining
after_parts j sdu size number zero = j
after_parts j sdu size number (suc i) = joined (after_parts j sdu size number i) (piece_of sdu size number i)
