-- Which pieces the machine gives up because their SDU cannot be joined, and what is told of a piece that came.
use Rattle.std.specs.Prelude.{ℕ, zero, suc, ◌+◌, ◌-◌, ◌^◌, ◌%◌, Bool, true, false, not, ◌&&◌, ◌||◌, nat_lt, List, [], ◌∷◌, ◌++◌, length, map, if◌then◌else◌}
use Rattle.rina_base.specs.declared.cause.Cause.TheVariants as cause
use Rattle.rina_base.specs.declared.pdu.Pdu.{Pdu}
use Rattle.rina_cube.specs.declared.Kind.{Kind}
use Rattle.rina_cube.specs.declared.Kind.TheVariants.{Reliable}
use Rattle.rina_dtp.specs.declared.gap.Lost.{Lost}
use Rattle.rina_dtp.specs.declared.verdict.Verdict.{Verdict}
use Rattle.rina_dtp.specs.declared.verdict.Verdict.TheVariants.{Accept, Hold, Off}
use Rattle.rina_law.specs.Lists.{has, highest}
use Rattle.rina_law.specs.Pdus.{piece_in}
use Rattle.rina_law.specs.Pieces.{Part, Joiner, empty_joiner, goes_on, Sdu, Joined, joined_with}
use Rattle.rina_law.specs.Receiver as law
use Rattle.rina_law.specs.Receiver.{Piece, Receiver, numbers, part_in}

-- so many numbers from n on
abbrev pub numbers_from : ℕ → ℕ → List ℕ
numbers_from n zero = []
numbers_from n (suc count) = n ∷ numbers_from (n + 1) count

-- what is missing before n: the number after the last piece that waits, or the one before n where none waits
abbrev pub missing_before : ℕ → Joiner → ℕ
missing_before n j = if nat_lt 0 j.count then (j.from + j.count) % 2 ^ 32 else (n + (2 ^ 32 - 1)) % 2 ^ 32

-- a piece that neither begins an SDU nor goes on with the one that waits
abbrev pub is_broken : ℕ → Part → Joiner → Bool
is_broken n part j = not part.begins && not (goes_on n j)

abbrev pub lost_with : ℕ → List ℕ → List Lost
lost_with missing ns = map (λ k. record { number = k; missing = missing }) ns

-- the pieces that wait when a piece begins an SDU, or does not go on with theirs
abbrev pub given_up : ℕ → Part → Joiner → List Lost
given_up n part j = if part.begins || not (goes_on n j) then lost_with (missing_before n j) (numbers_from j.from j.count) else []

-- and the piece itself
abbrev pub itself : ℕ → Part → Joiner → List Lost
itself n part j = if is_broken n part j then record { number = n; missing = missing_before n j } ∷ [] else []

-- what the held pieces that follow give up, from n on
abbrev pub lost_held : ℕ → ℕ → List Piece → Joined → List Lost
lost_held zero n held j = []
lost_held (suc steps) n held j =
    if has n (numbers held) then given_up n (part_in n held) j.joiner ++ itself n (part_in n held) j.joiner ++ lost_held steps (n + 1) held (joined_with n (part_in n held) j) else []

abbrev pub lost_on : Kind → ℕ → List Piece → Joined → List Lost
lost_on Reliable n held j = lost_held (highest (numbers held)) (n + 1) held j
lost_on _ n held j = []

-- the pieces that an arrival gives up, besides the one that came
abbrev pub lost_after : law.Verdict → Kind → Bool → Piece → List Piece → Joiner → List Lost
lost_after law.Accepted kind true p held j = given_up p.number p.part j ++ lost_on kind p.number held (joined_with p.number p.part (record { joiner = j; whole = [] }))
lost_after v kind present p held j = []

-- the joiner to which an accepted piece goes
abbrev pub joiner_for : Bool → Joiner → Joiner
joiner_for true j = j
joiner_for false j = empty_joiner

-- a piece that is accepted is written off itself where its SDU cannot be joined
abbrev pub told_accepted : Bool → ℕ → ℕ → Verdict
told_accepted true missing whole = Off (cause.Broken missing)
told_accepted false missing whole = Accept whole

-- what is told of a piece, by the machine's verdict, the window, the PDU, the receiver, the joiner that it goes to, and the
-- SDUs that became whole
abbrev pub told : law.Verdict → ℕ → Pdu → Receiver → Joiner → List Sdu → Verdict
told law.Accepted window pdu m j whole = told_accepted (is_broken pdu.seq (piece_in pdu).part j) (missing_before pdu.seq j) (length whole)
told law.Held window pdu m j whole = Hold
told law.Duplicate window pdu m j whole = Off (cause.Duplicate (record { cep = pdu.scep; seq = pdu.seq }))
told law.Behind window pdu m j whole = Off (cause.Behind (highest m.accepted))
told law.NoState window pdu m j whole = Off (cause.NoState pdu.drf)
told law.NoRoom window pdu m j whole = Off (cause.NoRoom window)
