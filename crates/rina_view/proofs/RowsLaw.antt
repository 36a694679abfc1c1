-- Each SDU that was sent has one row, and is counted once.
use Rattle.std.proofs.Common.{◌≡◌, ℕ, ◌+◌, ◌<◌, cond, ◌&&◌, List, [], ◌∷◌, ◌++◌, length, map, drop, get_or, Option, Some, None, Result, Ok, Err, IfOk, is_some, is_none, refl, sym, ap, ◌∙◌, append_assoc, arith}
use Rattle.std.specs.List.{count_by}
use Rattle.std.proofs.lemmas.List.{drop_more}
use Rattle.std.proofs.lemmas.List.Sums.{sum_by-cons}
use Rattle.rina_view.specs.declared.row.Row.{Row}
use Rattle.rina_view.specs.declared.shown.Entry.{Entry}
use Rattle.rina_view.specs.declared.shown.End.{End}
use Rattle.rina_view.specs.declared.shown.Off.{Off}
use Rattle.rina_view.specs.Rows.{row_of, rows_from}
use Rattle.rina_view.specs.Sums.{is_got, is_off, is_unseen}

-- the rows are of the SDUs that were sent, in their order
pub sent_of_rows : (got : List Entry) (offs : List Off) (end : End) (sent : List Entry) → map (λ (r : Row). r.sent) (rows_from got offs end sent) ≡ sent
sent_of_rows got offs end [] = refl
sent_of_rows got offs end (s ∷ later) = ap (λ (es : List Entry). s ∷ es) (sent_of_rows got offs end later)

-- rows that were made are of the SDUs that were sent
pub each_row : {E : Type 0} (made : Result (List Row) E) (all : List Row) (sent : List Entry) → map (λ (r : Row). r.sent) all ≡ sent → IfOk made (λ rows. rows ≡ all) → IfOk made (λ rows. map (λ (r : Row). r.sent) rows ≡ sent)
each_row (Ok rows) all sent each is = ap (map (λ (r : Row). r.sent)) is ∙ each
each_row (Err e) all sent each is = tt

-- one more row was made
pub row_on : (got : List Entry) (offs : List Off) (end : End) (sent : List Entry) (i : ℕ) (d : Entry) (rows total : List Row) → i < length sent → rows ++ rows_from got offs end (drop i sent) ≡ total
    → (rows ++ row_of got offs end (get_or sent i d) (drop (i + 1) sent) ∷ []) ++ rows_from got offs end (drop (i + 1) sent) ≡ total
row_on got offs end sent i d rows total lt so_far =
    let s = get_or sent i d in
    let later = drop (i + 1) sent in
    append_assoc rows (row_of got offs end s later ∷ []) (rows_from got offs end later) ∙ sym (ap (λ (es : List Entry). rows ++ rows_from got offs end es) (drop_more sent i d lt)) ∙ so_far

-- one test of a row holds
ones : (g o : Option ℕ) → (cond (is_some g) 1 0 + cond (is_none g && is_some o) 1 0) + cond (is_none g && is_none o) 1 0 ≡ 1
ones None None = refl
ones None (Some n) = refl
ones (Some m) None = refl
ones (Some m) (Some n) = refl

-- each row is counted once
pub each_once : (rows : List Row) → (count_by is_got rows + count_by is_off rows) + count_by is_unseen rows ≡ length rows
unfolding is_got is_off is_unseen
each_once [] = refl
each_once (r ∷ rs) =
    let a : count_by is_got (r ∷ rs) ≡ cond (is_got r) 1 0 + count_by is_got rs = sum_by-cons (λ (x : Row). cond (is_got x) 1 0) r rs in
    let b : count_by is_off (r ∷ rs) ≡ cond (is_off r) 1 0 + count_by is_off rs = sum_by-cons (λ (x : Row). cond (is_off x) 1 0) r rs in
    let d : count_by is_unseen (r ∷ rs) ≡ cond (is_unseen r) 1 0 + count_by is_unseen rs = sum_by-cons (λ (x : Row). cond (is_unseen x) 1 0) r rs in
    let one : (cond (is_got r) 1 0 + cond (is_off r) 1 0) + cond (is_unseen r) 1 0 ≡ 1 = ones r.got r.off in
    omega (arith, a, b, d, one, each_once rs)
