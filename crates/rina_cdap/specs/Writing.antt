-- Writing a message from left to right, up to its first field that may not stand there.
use Rattle.std.specs.Prelude.{◌≡◌, ℕ, ◌+◌, Bool, not, ◌||◌, ◌&&◌, ◌==◌, nat_lt, List, [], ◌∷◌, ◌++◌, Option, Some, None, is_some, Result, Ok, Err, if◌then◌else◌}
use Rattle.std.specs.Global.{Vec}
use Rattle.rina_base.specs.Traverse.{◌>>=◌}
use Rattle.rina_cdap.specs.declared.error.CdapError.{CdapError}
use Rattle.rina_cdap.specs.declared.error.CdapError.TheVariants.{Memory, Short, BadTag, BadOp, Twice, Missing, BadValue}
use Rattle.rina_cdap.specs.declared.message.Message.{Message}
use Rattle.rina_cdap.specs.Messages.{field, has_form, field_text, is_response, contents}

-- the bytes of the field of a tag, where there is one: its content has its form, and a request has no result
unfoldable pub cell_written : Bool → ℕ → Option (List ℕ) → Result (List ℕ) CdapError
cell_written response tag None = Ok []
cell_written response tag (Some content) =
    if has_form tag content && (response || not (tag == 7)) then Ok (field_text (field tag content)) else Err (BadValue tag)

-- the bytes of the fields of contents, the first of which has this tag
abbrev pub cells_written : Bool → ℕ → List (Option (List ℕ)) → Result (List ℕ) CdapError
cells_written response tag [] = Ok []
cells_written response tag (c ∷ cells) =
    cell_written response tag c >>= λ bytes. cells_written response (tag + 1) cells >>= λ others. Ok (bytes ++ others)

-- the bytes of a message, or its fault: an unknown operation, a response without a result, or the first field that may not stand there
unfoldable pub written : Message → Result (List ℕ) CdapError
written m =
    if nat_lt 17 m.operation then Err (BadOp m.operation)
    else (if is_response m.operation && not (is_some m.result) then Err (Missing 7)
    else cells_written (is_response m.operation) 1 (contents m))

-- a call added to a row of bytes what a definition gives, unless memory ran out
abbrev pub Adds : Result (Unit {0}) CdapError → List ℕ → List ℕ → Result (List ℕ) CdapError → Type 0
Adds (Ok _) old new made = (bytes : List ℕ) × (made ≡ Ok bytes) × (new ≡ old ++ bytes)
Adds (Err Memory) old new made = Unit {0}
Adds (Err (Short at)) old new made = made ≡ Err (Short at)
Adds (Err (BadTag at)) old new made = made ≡ Err (BadTag at)
Adds (Err (BadOp n)) old new made = made ≡ Err (BadOp n)
Adds (Err (Twice tag)) old new made = made ≡ Err (Twice tag)
Adds (Err (Missing tag)) old new made = made ≡ Err (Missing tag)
Adds (Err (BadValue tag)) old new made = made ≡ Err (BadValue tag)

-- a call made what a definition gives, unless memory ran out
abbrev pub Makes : Result (Vec ℕ) CdapError → Result (List ℕ) CdapError → Type 0
Makes (Ok v) made = made ≡ Ok v.items
Makes (Err Memory) made = Unit {0}
Makes (Err (Short at)) made = made ≡ Err (Short at)
Makes (Err (BadTag at)) made = made ≡ Err (BadTag at)
Makes (Err (BadOp n)) made = made ≡ Err (BadOp n)
Makes (Err (Twice tag)) made = made ≡ Err (Twice tag)
Makes (Err (Missing tag)) made = made ≡ Err (Missing tag)
Makes (Err (BadValue tag)) made = made ≡ Err (BadValue tag)
