-- What a name is, and the first fault of a text that is none.
use Rattle.std.specs.Prelude.{◌≡◌, ℕ, ◌+◌, Bool, true, ◌||◌, ◌&&◌, ◌==◌, not, List, length, position, take, drop, nat_le, Result, Ok, Err, is_ok, Option, Some, None, if◌then◌else◌}
use Rattle.rina_base.specs.declared.name.NameError.{NameError}
use Rattle.rina_base.specs.declared.name.NameError.TheVariants.{Memory, BadLength, BadByte}
use Rattle.rina_base.specs.Traverse.{◌>>=◌}

-- a to z, 0 to 9, '-', '.' and '_'
unfoldable pub is_name_byte : ℕ → Bool
is_name_byte b = (nat_le 97 b && nat_le b 122) || (nat_le 48 b && nat_le b 57) || (b == 45) || (b == 46) || (b == 95)

-- a part of a name has 1 to 64 bytes
unfoldable pub length_at : List ℕ → Result (Unit {0}) NameError
length_at text = if nat_le 1 (length text) && nat_le (length text) 64 then Ok tt else Err (BadLength (length text))

-- where the first byte stands that no name has
unfoldable pub bad_at : List ℕ → Option ℕ
bad_at text = position (λ b. not (is_name_byte b)) text

abbrev pub unless_bad : ℕ → Option ℕ → Result (Unit {0}) NameError
unless_bad before None = Ok tt
unless_bad before (Some at) = Err (BadByte (before + at))

-- all bytes may stand in a name, where so many bytes stand before these
unfoldable pub bytes_at : ℕ → List ℕ → Result (Unit {0}) NameError
bytes_at before text = unless_bad before (bad_at text)

-- the name that a text is, or its first fault
unfoldable pub name_at : List ℕ → Result (List ℕ) NameError
name_at text = do
  _ ← length_at text
  _ ← bytes_at 0 text
  Ok text

-- the parts of the name of an IPC process: that of its DIF and that of its node
unfoldable pub ipc_at : List ℕ → List ℕ → Result (Unit {0}) NameError
ipc_at dif node = do
  _ ← length_at dif
  _ ← length_at node
  _ ← bytes_at 0 dif
  bytes_at (length dif + 1) node

-- the place of the first slash
unfoldable pub slash_in : List ℕ → Option ℕ
slash_in text = position (λ b. b == 47) text

abbrev pub app_cut : Option ℕ → List ℕ → Result (List ℕ) NameError
app_cut None text = name_at text
app_cut (Some k) text = ipc_at (take k text) (drop (k + 1) text) >>= λ _. Ok text

-- the application name that a text is, or its first fault
unfoldable pub app_at : List ℕ → Result (List ℕ) NameError
app_at text = app_cut (slash_in text) text

-- what a call returned, seen by view, is what reading gives; or memory ran out for a text that can be read
abbrev pub Gives : {X Y : Type 0} → (X → Y) → Result X NameError → Result Y NameError → Type 0
Gives view (Ok x) read = read ≡ Ok (view x)
Gives view (Err Memory) read = is_ok read ≡ true
Gives view (Err (BadLength n)) read = read ≡ Err (BadLength n)
Gives view (Err (BadByte n)) read = read ≡ Err (BadByte n)
