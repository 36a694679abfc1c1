-- The plan of the next acknowledgement, and how it stands for the machine's mark.
use Rattle.std.specs.Prelude.{◌≡◌, ℕ, ◌+◌, Bool, nat_le, if◌then◌else◌, Option, Some, None, unwrap_or}
use Rattle.rina_law.specs.Constants.{Constants, delta}
use Rattle.rina_law.specs.Receiver.{Receiver, kept_mark, or_mark, mark_passed}

-- the tick at which it is due, where one is planned
pub record Plan : Type 0 where
  pub a : ℕ
  pub delta : ℕ
  pub mark : Option ℕ

-- `delta` has not gone by since the last piece that counted
abbrev pub is_young : ℕ → ℕ → ℕ → Bool
is_young now last_in delta = nat_le now (last_in + delta)

abbrev pub with_mark : ℕ → Plan → Plan
with_mark now p = record p { mark = or_mark p.mark (now + p.a) }

abbrev pub without : Plan → Plan
without p = record p { mark = None }

abbrev pub noted_plan : ℕ → ℕ → Plan → Plan
noted_plan now last_in p = with_mark now (if is_young now last_in p.delta then p else without p)

abbrev pub passed_plan : ℕ → Option ℕ → Plan → Plan
passed_plan now (Some last_in) p = if is_young now last_in p.delta then with_mark now p else without p
passed_plan now None p = without p

-- the plan is that of a connection whose mark is so
abbrev pub IsPlanOf : Constants → Option ℕ → Plan → Type 0
IsPlanOf c mark p = p ≡ record { a = c.cube.a; delta = delta c; mark = mark }

-- what a receiver tells of its last piece that counted: its tick, None where it never had state
abbrev pub IsLastIn : Receiver → Option ℕ → Type 0
IsLastIn rx last_in = (last_in ≡ (if rx.made then Some rx.last_in else None)) × (unwrap_or last_in 0 ≡ rx.last_in)

-- a piece that needs an acknowledgement, and an SDU that is passed, by the machine's rules

abbrev pub TellsNote : ℕ → Option ℕ → Plan → Plan → Type 0
TellsNote now last_in old new =
    (c : Constants) (rx : Receiver) (mark : Option ℕ) → IsPlanOf c mark old → IsLastIn rx last_in → IsPlanOf c (or_mark (kept_mark c now rx mark) (now + c.cube.a)) new

abbrev pub TellsPass : ℕ → Option ℕ → Plan → Plan → Type 0
TellsPass now last_in old new =
    (c : Constants) (rx : Receiver) (mark : Option ℕ) → IsPlanOf c mark old → IsLastIn rx last_in → IsPlanOf c (mark_passed c now rx mark) new
