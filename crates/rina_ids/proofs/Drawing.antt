-- The ids of several IPC processes, one of which draws, or gives back.
use Rattle.std.proofs.Common.{◌≡◌, ◌≢◌, ℕ, zero, suc, ◌+◌, ◌-◌, ◌<◌, ◌≤◌, List, [], ◌∷◌, get_or, length, position, slice_get, slice_set, Option, Some, None, IfOk, Result, Ok, Err, refl, sym, ◌∙◌, ap, arith}
use Rattle.std.proofs.lemmas.List.Quantifiers.{position-Some}
use Rattle.std.proofs.lemmas.Option.{none-some, same_Some, cond_some, slice_get_read, slice_get_within}
use Rattle.rina_base.specs.declared.memory.Memory.{Memory}
use Rattle.rina_ids.specs.declared.members.Draw.{Draw}
use Rattle.rina_ids.specs.declared.slot.Slot.{Slot}
use Rattle.rina_ids.specs.declared.slot.Slot.TheVariants.{InUse}
use Rattle.rina_ids.specs.Ids.{is_free, drawn, free_id, fresh_id, free_or, given_back, HasDrawn}
use Rattle.rina_ids.specs.Members.{CepIds, DrawsAt, IsDrawn, IsDrawnAt, with_rest}

-- how far a free id goes
free_next : (greatest now : ℕ) (slots : List Slot) (cep : ℕ) (o : Option ℕ) → position (is_free now) slots ≡ o → free_or o (fresh_id greatest slots) ≡ Some cep → (1 ≤ cep) × (cep ≤ length slots + 1)
free_next greatest now slots cep None is e = (let same = (cond_some _ (length slots + 1) cep e).1 in (omega arith, omega arith))
free_next greatest now slots cep (Some k) is e =
    let same = same_Some (k + 1) cep e in
    let lt = (position-Some (is_free now) slots k InUse is).0 in
    (omega arith, omega arith)

pub free_within : (greatest now : ℕ) (slots : List Slot) (cep : ℕ) → free_id greatest now slots ≡ Some cep → (1 ≤ cep) × (cep ≤ length slots + 1)
unfolding free_id
free_within greatest now slots cep e = free_next greatest now slots cep (position (is_free now) slots) refl e

pub has_drawn : (now : ℕ) (ids : CepIds) (draw : Draw) (after : CepIds) → IsDrawn now ids draw after → HasDrawn ids.1 draw.cep draw.was after.1
has_drawn now ids draw after h =
    let within = free_within ids.0 now ids.1 draw.cep h.least in
    record { some = within.0; next = within.1; was_is = h.was_is; after_is = ap (λ (z : CepIds). z.1) h.after_is }

-- the ids at a place, which are read and written there
pub read_at : (held : List CepIds) (at : ℕ) (ids : CepIds) → at < length held → ids ≡ get_or held at ids → slice_get held at ≡ Some ids
read_at held at ids lt read = slice_get_read held (length held) at ids refl lt read

pub set_back : (held : List CepIds) (at : ℕ) (ids after : CepIds) → slice_get held at ≡ Some ids → slice_set (slice_set held at after) at ids ≡ held
set_back [] at ids after is = absurd (none-some ids is)
set_back (x ∷ held) zero ids after is = (let same : x ≡ ids = cc in ap (λ (z : CepIds). z ∷ held) (sym same))
set_back (x ∷ held) (suc at) ids after is = ap (λ (zs : List CepIds). x ∷ zs) (set_back held at ids after is)

pub there_set : (held : List CepIds) (at : ℕ) (ids after : CepIds) → slice_get held at ≡ Some ids → slice_get (slice_set held at after) at ≡ Some after
there_set [] at ids after is = absurd (none-some ids is)
there_set (x ∷ held) zero ids after is = refl
there_set (x ∷ held) (suc at) ids after is = there_set held at ids after is

pub other_set : (held : List CepIds) (at k : ℕ) (after : CepIds) → k ≢ at → slice_get (slice_set held at after) k ≡ slice_get held k
other_set [] at k after ne = refl
other_set (x ∷ held) zero zero after ne = absurd (ne refl)
other_set (x ∷ held) zero (suc k) after ne = refl
other_set (x ∷ held) (suc at) zero after ne = refl
other_set (x ∷ held) (suc at) (suc k) after ne = other_set held at k after (λ e. ne (ap suc e))

-- what the other one would draw stays
pub draws_still : (held after : List CepIds) (now a b cep : ℕ) (draw : Draw) → IsDrawnAt held now a draw after → b ≢ a → DrawsAt held now b cep → DrawsAt after now b cep
draws_still held after now a b cep draw drew ne d = record { ids = d.ids; are_ids = ap (λ (zs : List CepIds). slice_get zs b) drew.after_is ∙ other_set held a b _ ne ∙ d.are_ids; least = d.least }

-- what was drawn at a place, of the ids there
pub drawn_there : (held after : List CepIds) (now at : ℕ) (draw : Draw) (ids : CepIds) → IsDrawnAt held now at draw after → slice_get after at ≡ Some ids → (before : CepIds) × IsDrawn now before draw ids × (slice_get held at ≡ Some before)
drawn_there held after now at draw ids h is =
    let there = ap (λ (zs : List CepIds). slice_get zs at) h.after_is ∙ there_set held at h.draws.ids (h.draws.ids.0, drawn h.draws.ids.1 draw.cep) h.draws.are_ids in
    let same : ids ≡ (h.draws.ids.0, drawn h.draws.ids.1 draw.cep) = same_Some ids (h.draws.ids.0, drawn h.draws.ids.1 draw.cep) (sym is ∙ there) in
    (h.draws.ids, record { least = h.draws.least; was_is = h.was_is; after_is = same }, h.draws.are_ids)

pub undone : (held after : List CepIds) (now at : ℕ) (draw : Draw) (before : CepIds) → IsDrawnAt held now at draw after → slice_get held at ≡ Some before → slice_set after at before ≡ held
undone held after now at draw before h is = ap (λ (zs : List CepIds). slice_set zs at before) h.after_is ∙ set_back held at before (h.draws.ids.0, drawn h.draws.ids.1 draw.cep) is

pub draws_within : (held : List CepIds) (now at cep : ℕ) → DrawsAt held now at cep → at < length held
draws_within held now at cep d = slice_get_within held at d.ids d.are_ids

pub undone_one : (now : ℕ) (before : CepIds) (draw : Draw) (after : CepIds) → IsDrawn now before draw after → (after.0, before.1) ≡ before
undone_one now before draw after h = ap (λ (z : CepIds). (z.0, before.1)) h.after_is

-- ---- the calls, by the ids that are read at a place, and written there

pub draw_at : (held : List CepIds) (now at : ℕ) (x : CepIds) (r : Result Draw Memory) (new : CepIds) → (cep : ℕ) × DrawsAt held now at cep → x ≡ get_or held at x → IfOk r (λ draw. IsDrawn now x draw new) → IfOk r (λ draw. IsDrawnAt held now at draw (slice_set held at new))
draw_at held now at x (Ok draw) new may read did =
    let is = read_at held at x (draws_within held now at may.0 may.1) read in
    record {
      draws = record { ids = x; are_ids = is; least = did.least };
      was_is = did.was_is;
      after_is = ap (λ (z : CepIds). slice_set held at z) did.after_is;
    }
draw_at held now at x (Err e) new may read did = tt

pub gave_at : (held : List CepIds) (at cep until : ℕ) (x new : CepIds) → at < length held → x ≡ get_or held at x → new ≡ (x.0, given_back x.1 cep until) → (ids : CepIds) → slice_get held at ≡ Some ids → slice_set held at new ≡ with_rest at ids cep until held
gave_at held at cep until x new lt read did ids is =
    let same : x ≡ ids = same_Some x ids (sym (read_at held at x lt read) ∙ is) in
    ap (λ (z : CepIds). slice_set held at z) did ∙ ap (λ (z : CepIds). slice_set held at (z.0, given_back z.1 cep until)) same

at_within : (held after : List CepIds) (now at : ℕ) (draw : Draw) → IsDrawnAt held now at draw after → at < length after
at_within held after now at draw h =
    let there = ap (λ (zs : List CepIds). slice_get zs at) h.after_is ∙ there_set held at h.draws.ids (h.draws.ids.0, drawn h.draws.ids.1 draw.cep) h.draws.are_ids in
    slice_get_within after at _ there

pub undo_may : (after : List CepIds) (at : ℕ) (draw : Draw) (x : CepIds) → (held : List CepIds) × (now : ℕ) × IsDrawnAt held now at draw after → x ≡ get_or after at x → (before : CepIds) × (now : ℕ) × IsDrawn now before draw x
undo_may after at draw x r read =
    let d = drawn_there r.0 after r.1 at draw x r.2 (read_at after at x (at_within r.0 after r.1 at draw r.2) read) in
    (d.0, r.1, d.1)

pub undo_at : (after : List CepIds) (at : ℕ) (draw : Draw) (x new : CepIds) → x ≡ get_or after at x → ((before : CepIds) (now : ℕ) → IsDrawn now before draw x → new ≡ before) → (held : List CepIds) (now : ℕ) → IsDrawnAt held now at draw after → slice_set after at new ≡ held
undo_at after at draw x new read undid held now h =
    let d = drawn_there held after now at draw x h (read_at after at x (at_within held after now at draw h) read) in
    ap (λ (z : CepIds). slice_set after at z) (undid d.0 now d.1) ∙ undone held after now at draw d.0 h d.2
