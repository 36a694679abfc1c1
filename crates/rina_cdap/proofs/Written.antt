-- What is written is what a message is spelled by.
use Rattle.std.proofs.Common.{◌≡◌, ℕ, ◌+◌, ◌<◌, ◌≤◌, Bool, true, false, cond, not, ◌&&◌, ◌||◌, eqb, ltb, List, [], ◌∷◌, ◌++◌, length, Option, Some, None, is_some, option_map, Result, Ok, Err, IfOk, refl, sym, ap, subst, ◌∙◌, append_assoc, append-nil, arith}
use Rattle.std.proofs.lemmas.Bool.{le-ltb}
use Rattle.std.specs.Global.{Vec}
use Rattle.rina_base.specs.Traverse.{◌>>=◌}
use Rattle.rina_cdap.specs.declared.error.CdapError.{CdapError}
use Rattle.rina_cdap.specs.declared.error.CdapError.TheVariants.{BadOp, Missing, BadValue}
use Rattle.rina_cdap.specs.declared.message.Message.{Message}
use Rattle.rina_cdap.specs.Messages.{Field, field, byte, has_form, IsLawful, IsRow, field_text, text, is_response, whole_fault, content_of, row_fault, row, contents, fields, Spells}
use Rattle.rina_cdap.specs.Writing.{cell_written, cells_written, written, Makes}
use Rattle.rina_cdap.proofs.Fields.{form_operation}
use Rattle.rina_cdap.proofs.Rows.{content_row}

abbrev Cells : Type 0
Cells = List (Option (List ℕ))

abbrev done : List ℕ → Result (List ℕ) CdapError
done bytes = Ok bytes

-- a call that added what a definition gives
abbrev pub Added : List ℕ → List ℕ → Result (List ℕ) CdapError → Type 0
Added old new made = (bytes : List ℕ) × (made ≡ Ok bytes) × (new ≡ old ++ bytes)

pub added_then : (response : Bool) (t : ℕ) (c : Option (List ℕ)) (cells : Cells) (old mid new : List ℕ) → Added old mid (cell_written response t c) → Added mid new (cells_written response (t + 1) cells) → Added old new (cells_written response t (c ∷ cells))
added_then response t c cells old mid new a b =
    (a.0 ++ b.0, rw (a.1, b.1) refl, b.2 ∙ ap (λ (xs : List ℕ). xs ++ b.0) a.2 ∙ append_assoc old a.0 b.0)

pub added_none : (response : Bool) (t : ℕ) (old : List ℕ) → Added old old (cells_written response t [])
added_none response t old = ([], refl, sym (append-nil old))

-- the same, twelve times
pub added_twelve : (response : Bool) (c1 c2 c3 c4 c5 c6 c7 c8 c9 c10 c11 c12 : Option (List ℕ)) (old n1 n2 n3 n4 n5 n6 n7 n8 n9 n10 n11 n12 : List ℕ)
    → Added old n1 (cell_written response 1 c1)
    → Added n1 n2 (cell_written response 2 c2)
    → Added n2 n3 (cell_written response 3 c3)
    → Added n3 n4 (cell_written response 4 c4)
    → Added n4 n5 (cell_written response 5 c5)
    → Added n5 n6 (cell_written response 6 c6)
    → Added n6 n7 (cell_written response 7 c7)
    → Added n7 n8 (cell_written response 8 c8)
    → Added n8 n9 (cell_written response 9 c9)
    → Added n9 n10 (cell_written response 10 c10)
    → Added n10 n11 (cell_written response 11 c11)
    → Added n11 n12 (cell_written response 12 c12)
    → Added old n12 (cells_written response 1 (c1 ∷ c2 ∷ c3 ∷ c4 ∷ c5 ∷ c6 ∷ c7 ∷ c8 ∷ c9 ∷ c10 ∷ c11 ∷ c12 ∷ []))
added_twelve response c1 c2 c3 c4 c5 c6 c7 c8 c9 c10 c11 c12 old n1 n2 n3 n4 n5 n6 n7 n8 n9 n10 n11 n12 h1 h2 h3 h4 h5 h6 h7 h8 h9 h10 h11 h12 =
    let s13 = added_none response 13 n12 in
    let s12 = added_then response 12 c12 ([]) n11 n12 n12 h12 s13 in
    let s11 = added_then response 11 c11 (c12 ∷ []) n10 n11 n12 h11 s12 in
    let s10 = added_then response 10 c10 (c11 ∷ c12 ∷ []) n9 n10 n12 h10 s11 in
    let s9 = added_then response 9 c9 (c10 ∷ c11 ∷ c12 ∷ []) n8 n9 n12 h9 s10 in
    let s8 = added_then response 8 c8 (c9 ∷ c10 ∷ c11 ∷ c12 ∷ []) n7 n8 n12 h8 s9 in
    let s7 = added_then response 7 c7 (c8 ∷ c9 ∷ c10 ∷ c11 ∷ c12 ∷ []) n6 n7 n12 h7 s8 in
    let s6 = added_then response 6 c6 (c7 ∷ c8 ∷ c9 ∷ c10 ∷ c11 ∷ c12 ∷ []) n5 n6 n12 h6 s7 in
    let s5 = added_then response 5 c5 (c6 ∷ c7 ∷ c8 ∷ c9 ∷ c10 ∷ c11 ∷ c12 ∷ []) n4 n5 n12 h5 s6 in
    let s4 = added_then response 4 c4 (c5 ∷ c6 ∷ c7 ∷ c8 ∷ c9 ∷ c10 ∷ c11 ∷ c12 ∷ []) n3 n4 n12 h4 s5 in
    let s3 = added_then response 3 c3 (c4 ∷ c5 ∷ c6 ∷ c7 ∷ c8 ∷ c9 ∷ c10 ∷ c11 ∷ c12 ∷ []) n2 n3 n12 h3 s4 in
    let s2 = added_then response 2 c2 (c3 ∷ c4 ∷ c5 ∷ c6 ∷ c7 ∷ c8 ∷ c9 ∷ c10 ∷ c11 ∷ c12 ∷ []) n1 n2 n12 h2 s3 in
    added_then response 1 c1 (c2 ∷ c3 ∷ c4 ∷ c5 ∷ c6 ∷ c7 ∷ c8 ∷ c9 ∷ c10 ∷ c11 ∷ c12 ∷ []) old n1 n12 h1 s2

-- ---- what was written is spelled so

and_true : (a b : Bool) → (a && b) ≡ true → (a ≡ true) × (b ≡ true)
and_true true b e = (refl, e)
and_true false b e = absurd cc

bind_done : (r : Result (List ℕ) CdapError) (f : List ℕ → Result (List ℕ) CdapError) (bytes : List ℕ) → (r >>= f) ≡ Ok bytes → (x : List ℕ) × (r ≡ Ok x) × (f x ≡ Ok bytes)
bind_done (Ok x) f bytes e = (x, refl, e)
bind_done (Err _) f bytes e = absurd cc

done_is : (x y : List ℕ) → done x ≡ done y → x ≡ y
done_is x y e = cc

cond_done : (b : Bool) (x y : List ℕ) (d : CdapError) → cond b (done x) (Err d) ≡ Ok y → (b ≡ true) × (x ≡ y)
cond_done true x y d e = (refl, done_is x y e)
cond_done false x y d e = absurd cc

some_cell : (response : Bool) (t : ℕ) (c bytes : List ℕ) → cell_written response t (Some c) ≡ Ok bytes → (has_form t c ≡ true) × ((response || not (eqb t 7)) ≡ true) × (field_text (field t c) ≡ bytes)
unfolding cell_written
some_cell response t c bytes e =
    let p = cond_done (has_form t c && (response || not (eqb t 7))) (field_text (field t c)) bytes (BadValue t) e in
    let q = and_true (has_form t c) (response || not (eqb t 7)) p.0 in
    (q.0, q.1, p.1)

none_cell : (response : Bool) (t : ℕ) → cell_written response t None ≡ Ok []
unfolding cell_written
none_cell response t = refl

pub record IsWritten (response : Bool) (last : ℕ) (fs : List Field) (bytes : List ℕ) : Type 0 where
  pub rises : IsRow last fs
  pub spelled : bytes ≡ text fs
  pub resultless : response ≡ false → content_of 7 fs ≡ None

passes_seven : (t : ℕ) → (false || not (eqb t 7)) ≡ true → eqb t 7 ≡ false
passes_seven t e = by_test (eqb t 7) e
  where
    by_test : (b : Bool) → (false || not b) ≡ true → b ≡ false
    by_test true e = absurd cc
    by_test false e = refl

pub cells_are : (response : Bool) (last t : ℕ) (cells : Cells) (bytes : List ℕ) → last < t → t + length cells ≤ 13 → cells_written response t cells ≡ Ok bytes → IsWritten response last (row t cells) bytes
cells_are response last t [] bytes lt le e = record { rises = tt; spelled = sym (done_is [] bytes e); resultless = λ _. refl }
cells_are response last t (None ∷ cells) bytes lt le e =
    let b = bind_done (cell_written response t None) (λ x. cells_written response (t + 1) cells >>= λ others. Ok (x ++ others)) bytes e in
    let d = bind_done (cells_written response (t + 1) cells) (λ others. Ok (b.0 ++ others)) bytes b.2 in
    let nothing : [] ≡ b.0 = done_is [] b.0 (sym (none_cell response t) ∙ b.1) in
    let same : d.0 ≡ bytes = ap (λ (x : List ℕ). x ++ d.0) nothing ∙ done_is (b.0 ++ d.0) bytes d.2 in
    let rest = cells_are response last (t + 1) cells d.0 (omega arith) (omega arith) d.1 in
    record { rises = rest.rises; spelled = sym same ∙ rest.spelled; resultless = rest.resultless }
cells_are response last t (Some c ∷ cells) bytes lt le e =
    let b = bind_done (cell_written response t (Some c)) (λ x. cells_written response (t + 1) cells >>= λ others. Ok (x ++ others)) bytes e in
    let d = bind_done (cells_written response (t + 1) cells) (λ others. Ok (b.0 ++ others)) bytes b.2 in
    let cell = some_cell response t c b.0 b.1 in
    let rest = cells_are response t (t + 1) cells d.0 (omega arith) (omega arith) d.1 in
    let same : b.0 ++ d.0 ≡ bytes = done_is (b.0 ++ d.0) bytes d.2 in
    let lawful : IsLawful last (field t c) = record { above = lt; known = omega arith; form = cell.0 } in
    record {
      rises = (lawful, rest.rises);
      spelled = sym same ∙ ap (λ (x : List ℕ). x ++ d.0) (sym cell.2) ∙ ap (λ (x : List ℕ). field_text (field t c) ++ x) rest.spelled;
      resultless = λ no. (let other : eqb t 7 ≡ false = passes_seven t (subst (λ (r : Bool). (r || not (eqb t 7)) ≡ true) no cell.1) in rw other (rest.resultless no));
    }

cell_again : (response : Bool) (t : ℕ) (c : List ℕ) → has_form t c ≡ true → (response || not (eqb t 7)) ≡ true → cell_written response t (Some c) ≡ Ok (field_text (field t c))
unfolding cell_written
cell_again response t c form may = rw (form, may) refl

may_stand : (response : Bool) (t : ℕ) (c : List ℕ) (o : Option (List ℕ)) → (response ≡ false → cond (eqb t 7) (Some c) o ≡ None) → ((response || not (eqb t 7)) ≡ true) × (response ≡ false → o ≡ None)
may_stand true t c o h = (refl, λ no. absurd cc)
may_stand false t c o h = by_test (eqb t 7) (h refl)
  where
    by_test : (b : Bool) → cond b (Some c) o ≡ None → ((false || not b) ≡ true) × (false ≡ false → o ≡ None)
    by_test true e = absurd cc
    by_test false e = (refl, λ _. e)

pub cells_again : (response : Bool) (last t : ℕ) (cells : Cells) → IsRow last (row t cells) → (response ≡ false → content_of 7 (row t cells) ≡ None) → cells_written response t cells ≡ Ok (text (row t cells))
cells_again response last t [] rises none = refl
cells_again response last t (None ∷ cells) rises none = rw (none_cell response t, cells_again response last (t + 1) cells rises none) refl
cells_again response last t (Some c ∷ cells) rises none =
    let may = may_stand response t c (content_of 7 (row (t + 1) cells)) none in
    rw (cell_again response t c rises.0.form may.0, cells_again response t (t + 1) cells rises.1 may.1) refl

-- ---- whole messages

is_some-map : (o : Option ℕ) → is_some (option_map byte o) ≡ is_some o
is_some-map None = refl
is_some-map (Some x) = refl

contents_at : (m : Message) → content_of 7 (fields m) ≡ option_map byte m.result
unfolding contents
contents_at m = content_row 1 6 7 (contents m) refl

pub row_fault-message : (m : Message) → row_fault (fields m) ≡ whole_fault (Some m.operation) true (is_some m.result)
unfolding row_fault contents
row_fault-message m =
    let ended = content_row 1 6 7 (contents m) refl in
    rw (ended, is_some-map m.result) refl

mapped_none : (o : Option ℕ) → option_map byte o ≡ None → is_some o ≡ false
mapped_none None e = refl
mapped_none (Some x) e = absurd cc

none_mapped : (o : Option ℕ) → is_some o ≡ false → option_map byte o ≡ None
none_mapped None e = refl
none_mapped (Some x) e = absurd cc

whole_parts : (response ended : Bool) → (response && not ended) ≡ false → (response ≡ false → ended ≡ false) → cond response (cond ended None (Some (Missing 7))) (cond ended (Some (BadValue 7)) None) ≡ None
whole_parts true true a b = refl
whole_parts true false a b = absurd cc
whole_parts false true a b = absurd (let h = b refl in cc)
whole_parts false false a b = refl

parts_whole : (response ended : Bool) → cond response (cond ended None (Some (Missing 7))) (cond ended (Some (BadValue 7)) None) ≡ None → ((response && not ended) ≡ false) × (response ≡ false → ended ≡ false)
parts_whole true true e = (refl, λ no. absurd cc)
parts_whole true false e = absurd cc
parts_whole false true e = absurd cc
parts_whole false false e = (refl, λ _. refl)

refuses : (b : Bool) (d : CdapError) (r : Result (List ℕ) CdapError) (bytes : List ℕ) → cond b (Err d) r ≡ Ok bytes → (b ≡ false) × (r ≡ Ok bytes)
refuses true d r bytes e = absurd cc
refuses false d r bytes e = (refl, e)

length-contents : (m : Message) → length (contents m) ≡ 12
unfolding contents
length-contents m = refl

pub written_spells : (m : Message) (bytes : List ℕ) → written m ≡ Ok bytes → Spells m bytes
unfolding written
written_spells m bytes e =
    let response = is_response m.operation in
    let a = refuses (ltb 17 m.operation) (BadOp m.operation) (cond (response && not (is_some m.result)) (Err (Missing 7)) (cells_written response 1 (contents m))) bytes e in
    let b = refuses (response && not (is_some m.result)) (Missing 7) (cells_written response 1 (contents m)) bytes a.1 in
    let w = cells_are response 0 1 (contents m) bytes (omega arith) (omega (arith, length-contents m)) b.1 in
    let none : response ≡ false → is_some m.result ≡ false = λ no. mapped_none m.result (sym (contents_at m) ∙ w.resultless no) in
    record { rises = w.rises; whole = row_fault-message m ∙ whole_parts response (is_some m.result) b.0 none; spelled = w.spelled }

first_lawful : (m : Message) → IsRow 0 (fields m) → ltb 17 m.operation ≡ false
unfolding contents
first_lawful m rises = le-ltb _ _ (form_operation (byte m.operation) rises.0.form)

pub spells_written : (m : Message) (bytes : List ℕ) → Spells m bytes → written m ≡ Ok bytes
unfolding written
spells_written m bytes h =
    let response = is_response m.operation in
    let parts = parts_whole response (is_some m.result) (sym (row_fault-message m) ∙ h.whole) in
    let cells = cells_again response 0 1 (contents m) h.rises (λ no. contents_at m ∙ none_mapped m.result (parts.1 no)) in
    rw (first_lawful m h.rises, parts.0) (cells ∙ ap done (sym h.spelled))

pub spelled : (r : Result (Vec ℕ) CdapError) (m : Message) → Makes r (written m) → IfOk r (λ v. Spells m v.items)
spelled (Ok v) m h = written_spells m v.items h
spelled (Err e) m h = tt

pub only : (r : Result (Vec ℕ) CdapError) (m : Message) → Makes r (written m) → (bytes : List ℕ) → Spells m bytes → Makes r (Ok bytes)
only r m h bytes s = subst (λ (x : Result (List ℕ) CdapError). Makes r x) (spells_written m bytes s) h
