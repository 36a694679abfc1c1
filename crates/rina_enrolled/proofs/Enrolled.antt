-- Enrolled: as START is handled no STOP is on its way to the joiner, so every item that the member keeps then comes before STOP.
use Rattle.std.proofs.Common.{◌≡◌, ℕ, ◌+◌, List, [], ◌∷◌, ◌++◌, Some, refl, sym, ap, subst, inl, inr, arith}
use Rattle.rina_newest.specs.declared.item.Item.{Item}
use Rattle.rina_newest.specs.Newest.{kept_at}
use Rattle.rina_agent.specs.declared.message.ManagementMessage.{ManagementMessage}
use Rattle.rina_agent.specs.Enrolled.{IsAtLeast}
use Rattle.rina_flood.specs.Network.{Side, other, Network, waiting_at, unhandled, Row, happens, May, IsRun, after_rows}
use Rattle.rina_flood.proofs.All.{begin_holds, found_key, rows_hold}
use Rattle.rina_flood.proofs.Flow.{itself_least}
use Rattle.rina_enrolled.specs.Enrolled.{AllLoseNone, BothHaveLink, EnrolledHasAll, NoneIsLost, start_row, stop_row}
use Rattle.rina_enrolled.proofs.Asked.{AsksOnce, rows_ask, start_asks}
use Rattle.rina_enrolled.proofs.Led.{IsLed, row_keeps, rows_led, unmade_not}
use Rattle.rina_enrolled.proofs.Lost.{both_lose_none}
use Rattle.rina_enrolled.proofs.Marks.{Leads, none_before_stop, none_leads, starts, starts_both}

-- Runs in two parts

pub run_parts : (n : Network) (rows more : List Row) → IsRun n (rows ++ more) → IsRun n rows × IsRun (after_rows n rows) more
run_parts n [] more run = (tt, run)
run_parts n (row ∷ rows) more run = (let r = run_parts (happens n row) rows more run.1 in ((run.0, r.0), r.1))

pub after_parts : (n : Network) (rows more : List Row) → after_rows n (rows ++ more) ≡ after_rows (after_rows n rows) more
after_parts n [] more = refl
after_parts n (row ∷ rows) more = after_parts (happens n row) rows more

pub lose_parts : (l : ℕ) (rows more : List Row) → AllLoseNone l (rows ++ more) → AllLoseNone l rows × AllLoseNone l more
lose_parts l [] more none = (tt, none)
lose_parts l (row ∷ rows) more none = (let r = lose_parts l rows more none.1 in ((none.0, r.0), r.1))

module _ (l : ℕ) (joiner : Side) (x : Item) where
  -- as START comes
  start_led : (n : Network) (number invoke address : ℕ) (rest : List ManagementMessage) (key : List ℕ) → AsksOnce l joiner n → May n (start_row l joiner number invoke address rest) → kept_at (n.agents (n.ends l (other joiner))).items key ≡ Some x → IsLed l joiner x n
  start_led n number invoke address rest key once may e =
      let items = (n.agents (n.ends l (other joiner))).items in
      let a = starts_both (n.sent l joiner) (waiting_at (n.states l joiner) (n.agents (n.ends l joiner)).agenda) in
      let b : starts (n.sent l joiner) ≡ 1 + starts rest = ap starts may.1 in
      record {
        made = λ u. unmade_not (n.states l (other joiner)) number may.0 u;
        kept = itself_least items key x e (found_key items key x e);
        ahead = inr (none_leads x (unhandled n l (other joiner)) (omega (arith, once, a, b)));
      }

  -- as STOP comes
  stop_has : (n : Network) (number invoke : ℕ) (rest : List ManagementMessage) → IsLed l joiner x n → May n (stop_row l joiner number invoke rest) → IsAtLeast ((happens n (stop_row l joiner number invoke rest)).agents (n.ends l joiner)).items x
  stop_has n number invoke rest s may =
      let behind = waiting_at (n.states l (other joiner)) (n.agents (n.ends l (other joiner))).agenda in
      let P : List ManagementMessage → Type 0 = λ ms. Leads x (ms ++ behind) in
      elim s.ahead [
        | inl has ↦ row_keeps x n (stop_row l joiner number invoke rest) (n.ends l joiner) has
        | inr e ↦ absurd (none_before_stop x invoke (rest ++ behind) (subst P may.1 e))
      ]

pub none_is_lost : EnrolledHasAll NoneIsLost
none_is_lost n told before between l joiner number invoke address rest number' invoke' rest' key x s run none e =
    let start = start_row l joiner number invoke address rest in
    let stop = stop_row l joiner number' invoke' rest' in
    let a = run_parts n (before ++ start ∷ between) (stop ∷ []) run in
    let b = run_parts n before (start ∷ between) a.0 in
    let c = lose_parts l before (start ∷ between) none in
    let asking = after_rows n before in
    let held = rows_hold n before (begin_holds n told s) b.0 in
    let once = rows_ask l joiner n before (begin_holds n told s) b.0 c.0 (start_asks l joiner n told s) in
    let led = start_led l joiner x asking number invoke address rest key once b.1.0 e in
    let end = rows_led l joiner x asking (start ∷ between) held b.1 c.1 led in
    let there = after_parts n before (start ∷ between) in
    let P : Network → Type 0 = λ m. IsLed l joiner x m in
    let Q : Network → Type 0 = λ m. IsAtLeast (m.agents (m.ends l joiner)).items x in
    subst Q (sym (after_parts n (before ++ start ∷ between) (stop ∷ []))) (stop_has l joiner x (after_rows n (before ++ start ∷ between)) number' invoke' rest' (subst P (sym there) end) a.1.0)

-- where both ends have the link still, nothing was lost on it
pub both_have_link : EnrolledHasAll BothHaveLink
both_have_link n told before between l joiner number invoke address rest number' invoke' rest' key x s run both e =
    let rows = before ++ start_row l joiner number invoke address rest ∷ between in
    let parts = run_parts n rows (stop_row l joiner number' invoke' rest' ∷ []) run in
    none_is_lost n told before between l joiner number invoke address rest number' invoke' rest' key x s run (both_lose_none n rows l (begin_holds n told s) parts.0 both.0 both.1) e
