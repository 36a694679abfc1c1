-- What is on the links of a DIF after the ends of their management connections changed.
use Rattle.std.proofs.Common.{◌<◌, ◌≡◌, ◌∙◌, ◌⊎◌, inl, inr, ⊎_elim, ℕ, zero, suc, ◌≤◌, List, [], ◌∷◌, ◌++◌, Contains, drop, length, slice_get, slice_set, take, Option, Some, None, refl, sym, ap, subst, arith, ◌+◌, sum_by}
use Rattle.std.proofs.lemmas.Bool.Decides.{eqb_tells}
use Rattle.std.proofs.lemmas.List.{length-map, length-take-le, map-append}
use Rattle.std.proofs.lemmas.List.Elements.{Contains-push_cases}
use Rattle.rina_law.specs.declared.entry.Entry.{Entry}
use Rattle.rina_iface.specs.declared.ends.End.{End}
use Rattle.rina_iface.specs.Ends.{with_sent}
use Rattle.rina_iface.specs.Journal.{At}
use Rattle.rina_iface.proofs.Changed.{slice_get-set_other, slice_get-set_same}
use Rattle.rina_route.proofs.Lists.{in_none, tail}
use Rattle.rina_flood.specs.Network.{Far, Near, Side, other}
use Rattle.rina_flood.specs.Static.{end_place}
use Rattle.rina_dif.specs.declared.dif.Dif.{Dif}
use Rattle.rina_dif.specs.Flooding.{handled_at, offered_at, texts_of}
use Rattle.rina_dif.proofs.Flooding.{SameTexts, none_said}
use Rattle.rina_asked.specs.Alone.{all_on_links}
use Rattle.rina_asked.specs.Messages.{IsOnLink, on_link}
use Rattle.rina_asked.proofs.Counting.{sum_drop}

-- Lists

pub contains_drop : (k : ℕ) (xs : List (List ℕ)) (x : List ℕ) → Contains (drop k xs) x → Contains xs x
contains_drop zero xs x h = h
contains_drop (suc k) [] x h = h
contains_drop (suc k) (y ∷ ys) x h = tail y ys x (contains_drop k ys x h)

-- behind fewer there is as much
pub drop_less : (m n : ℕ) (xs : List (List ℕ)) (x : List ℕ) → m ≤ n → Contains (drop n xs) x → Contains (drop m xs) x
drop_less zero n xs x le h = contains_drop n xs x h
drop_less (suc m) zero xs x le h = absurd (omega (arith, le))
drop_less (suc m) (suc n) [] x le h = h
drop_less (suc m) (suc n) (y ∷ ys) x le h = drop_less m n ys x (omega (arith, le)) h

drop_push : (k : ℕ) (xs : List (List ℕ)) (y x : List ℕ) → Contains (drop k (xs ++ y ∷ [])) x → Contains (drop k xs) x ⊎ (y ≡ x)
drop_push zero xs y x h = Contains-push_cases xs y x h
drop_push (suc k) [] y x h = absurd (in_none x (contains_drop k [] x h))
drop_push (suc k) (z ∷ zs) y x h = drop_push k zs y x h

-- No text more

-- what is on a link was on it before, and there is no more of it
pub record NoMoreOnLinks (d d' : Dif) : Type 0 where
  pub more : (text : List ℕ) → IsOnLink d' text → IsOnLink d text
  pub fewer : (F : List ℕ → ℕ) (links : ℕ) → all_on_links F d' links ≤ all_on_links F d links

pub links_on : (d mid d' : Dif) → NoMoreOnLinks d mid → NoMoreOnLinks mid d' → NoMoreOnLinks d d'
links_on d mid d' f g = record { more = λ text is. f.more text (g.more text is); fewer = λ F links. (let x = f.fewer F links in let y = g.fewer F links in omega (arith, x, y)) }

each_fewer : (F : List ℕ → ℕ) (d d' : Dif) → ((l : ℕ) (side : Side) → sum_by F (on_link d' l side) ≤ sum_by F (on_link d l side)) → (links : ℕ) → all_on_links F d' links ≤ all_on_links F d links
each_fewer F d d' each zero = omega arith
each_fewer F d d' each (suc l) = (let rest = each_fewer F d d' each l in let near = each l Near in let far = each l Far in omega (arith, rest, near, far))

pub said_path : (d d' : Dif) → SameTexts d.connections.flows.journal.ends d'.connections.flows.journal.ends → (l : ℕ) (side : Side) → on_link d' l side ≡ on_link d l side
said_path d d' same l side i = drop (length (same.got (end_place l (other side)) i)) (same.sent (end_place l side) i)

pub said_links : (d d' : Dif) → SameTexts d.connections.flows.journal.ends d'.connections.flows.journal.ends → NoMoreOnLinks d d'
said_links d d' same = record {
  more = λ text is. record { link = is.link; side = is.side; among = subst (λ (ts : List (List ℕ)). Contains ts text) (said_path d d' same is.link is.side) is.among };
  fewer = λ F links. each_fewer F d d' (λ l side. (let is : sum_by F (on_link d' l side) ≡ sum_by F (on_link d l side) = ap (sum_by F) (said_path d d' same l side) in omega (arith, is))) links;
}

-- and less of it where one link has less
pub one_fewer : (F : List ℕ → ℕ) (d d' : Dif) → ((l : ℕ) (side : Side) → sum_by F (on_link d' l side) ≤ sum_by F (on_link d l side)) → (l : ℕ) (side : Side) (h : ℕ) → sum_by F (on_link d' l side) + h ≤ sum_by F (on_link d l side) → (links : ℕ) → l < links → all_on_links F d' links + h ≤ all_on_links F d links
one_fewer F d d' each l side h here zero lt = absurd (omega (arith, lt))
one_fewer F d d' each l side h here (suc n) lt = ⊎_elim
    (λ t. (let rest = each_fewer F d d' each n in let both = of_side side (subst (λ (k : ℕ). sum_by F (on_link d' k side) + h ≤ sum_by F (on_link d k side)) t.1 here) in omega (arith, rest, both)))
    (λ u. (let apart = u.1 in let rest = one_fewer F d d' each l side h here n (omega (arith, lt, apart)) in let near = each n Near in let far = each n Far in omega (arith, rest, near, far)))
    (eqb_tells l n)
  where
    of_side : (s : Side) → sum_by F (on_link d' n s) + h ≤ sum_by F (on_link d n s) → sum_by F (on_link d' n Near) + sum_by F (on_link d' n Far) + h ≤ sum_by F (on_link d n Near) + sum_by F (on_link d n Far)
    of_side Near less = (let far = each n Far in omega (arith, less, far))
    of_side Far less = (let near = each n Near in omega (arith, less, near))

-- more links have as much
pub more_links : (F : List ℕ → ℕ) (d : Dif) (m n : ℕ) → m ≤ n → all_on_links F d m ≤ all_on_links F d n
more_links F d zero zero le = omega arith
more_links F d (suc m) zero le = absurd (omega (arith, le))
more_links F d m (suc n) le = ⊎_elim
    (λ t. (let same : all_on_links F d m ≡ all_on_links F d (suc n) = ap (all_on_links F d) t.1 in omega (arith, same)))
    (λ u. (let apart = u.1 in let rest = more_links F d m n (omega (arith, le, apart)) in omega (arith, rest)))
    (eqb_tells m (suc n))

pub ends_links : (d d' : Dif) → d'.connections.flows.journal.ends ≡ d.connections.flows.journal.ends → NoMoreOnLinks d d'
ends_links d d' same = said_links d d' (subst (SameTexts d.connections.flows.journal.ends) (sym same) (none_said d.connections.flows.journal.ends))

pub links_same : (d d' : Dif) → d'.connections ≡ d.connections → NoMoreOnLinks d d'
links_same d d' same = ends_links d d' (λ i. (same i).flows.journal.ends)

-- Both ends of a link are made

more_reads : {X : Type 0} (f : Option End → X) (ends : List End) (x y : End) (k : ℕ) → f (Some x) ≡ f None → f (Some y) ≡ f None → f (slice_get (ends ++ x ∷ y ∷ []) k) ≡ f (slice_get ends k)
more_reads f [] x y zero hx hy = hx
more_reads f [] x y (suc zero) hx hy = hy
more_reads f [] x y (suc (suc k)) hx hy = refl
more_reads f (e ∷ ends) x y zero hx hy = refl
more_reads f (e ∷ ends) x y (suc k) hx hy = more_reads f ends x y k hx hy

pub made_said : (ends ends' : List End) (x y : End) → ends' ≡ ends ++ x ∷ y ∷ [] → offered_at (Some x) ≡ [] → offered_at (Some y) ≡ [] → handled_at (Some x) ≡ [] → handled_at (Some y) ≡ [] → SameTexts ends ends'
made_said ends ends' x y same sx sy gx gy = subst (SameTexts ends) (sym same) (record { sent = λ k. more_reads offered_at ends x y k sx sy; got = λ k. more_reads handled_at ends x y k gx gy })

-- What came is handled

-- another end with as much offered
pub set_offers : (ends : List End) (at : ℕ) (e e' : End) → At ends at e → e'.sent ≡ e.sent → (k : ℕ) → offered_at (slice_get (slice_set ends at e') k) ≡ offered_at (slice_get ends k)
set_offers ends at e e' is sent k = elim (eqb_tells k at) [
  | inl t ↦ ap (λ (j : ℕ). offered_at (slice_get (slice_set ends at e') j)) t.1 ∙ ap offered_at (slice_get-set_same ends at e e' is) ∙ ap texts_of sent ∙ ap offered_at (sym is) ∙ ap (λ (j : ℕ). offered_at (slice_get ends j)) (sym t.1)
  | inr u ↦ ap offered_at (slice_get-set_other ends at k e' u.1)
]

pub handled_length : (e : End) → e.taken ≤ length e.got → length (handled_at (Some e)) ≡ e.taken
handled_length e le = length-map (take e.taken e.got) (λ (x : Entry). x.bytes) ∙ length-take-le e.taken e.got le

set_handles : (ends : List End) (at : ℕ) (e e' : End) → At ends at e → e.taken ≤ length e.got → e'.taken ≤ length e'.got → e.taken ≤ e'.taken → (k : ℕ) → length (handled_at (slice_get ends k)) ≤ length (handled_at (slice_get (slice_set ends at e') k))
set_handles ends at e e' is le le' more k = elim (eqb_tells k at) [
  | inl t ↦
      (let old : length (handled_at (slice_get ends k)) ≡ e.taken = ap (λ (o : Option End). length (handled_at o)) (ap (slice_get ends) t.1 ∙ is) ∙ handled_length e le in
      let new : length (handled_at (slice_get (slice_set ends at e') k)) ≡ e'.taken = ap (λ (o : Option End). length (handled_at o)) (ap (slice_get (slice_set ends at e')) t.1 ∙ slice_get-set_same ends at e e' is) ∙ handled_length e' le' in
      omega (arith, old, new, more))
  | inr u ↦ (let same : length (handled_at (slice_get (slice_set ends at e') k)) ≡ length (handled_at (slice_get ends k)) = ap (λ (o : Option End). length (handled_at o)) (slice_get-set_other ends at k e' u.1) in omega (arith, same))
]

module _ (d d' : Dif) (at : ℕ) (e e' : End) (is : At d.connections.flows.journal.ends at e) (ends : d'.connections.flows.journal.ends ≡ slice_set d.connections.flows.journal.ends at e') (sent : e'.sent ≡ e.sent) (le : e.taken ≤ length e.got) (le' : e'.taken ≤ length e'.got) (later : e.taken ≤ e'.taken) where
  abbrev old : List End
  old = d.connections.flows.journal.ends

  abbrev new : List End
  new = d'.connections.flows.journal.ends

  abbrev handled : List End → ℕ → Side → ℕ
  handled es l side = length (handled_at (slice_get es (end_place l (other side))))

  offers : (l : ℕ) (side : Side) → offered_at (slice_get new (end_place l side)) ≡ offered_at (slice_get old (end_place l side))
  offers l side = ap (λ (es : List End). offered_at (slice_get es (end_place l side))) ends ∙ set_offers old at e e' is sent (end_place l side)

  handles : (l : ℕ) (side : Side) → handled old l side ≤ handled new l side
  handles l side = subst (λ (es : List End). handled old l side ≤ handled es l side) (sym ends) (set_handles old at e e' is le le' later (end_place l (other side)))

  pub handled_each : (F : List ℕ → ℕ) (l : ℕ) (side : Side) → sum_by F (on_link d' l side) ≤ sum_by F (on_link d l side)
  handled_each F l side =
      let same : sum_by F (on_link d' l side) ≡ sum_by F (drop (handled new l side) (offered_at (slice_get old (end_place l side)))) = ap (λ (ts : List (List ℕ)). sum_by F (drop (handled new l side) ts)) (offers l side) in
      let less = sum_drop F (handled old l side) (handled new l side) (offered_at (slice_get old (end_place l side))) (handles l side) in
      omega (arith, same, less)

  pub handled_links : NoMoreOnLinks d d'
  handled_links = record {
    more = λ text on. record {
      link = on.link;
      side = on.side;
      among = drop_less (handled old on.link on.side) (handled new on.link on.side) (offered_at (slice_get old (end_place on.link on.side))) text (handles on.link on.side) (subst (λ (ts : List (List ℕ)). Contains (drop (handled new on.link on.side) ts) text) (offers on.link on.side) on.among);
    };
    fewer = λ F links. each_fewer F d d' (handled_each F) links;
  }

-- A text is offered

pub set_sends : (ends : List End) (at : ℕ) (e : End) (entry : Entry) → At ends at e → (k : ℕ) → handled_at (slice_get (slice_set ends at (with_sent e entry)) k) ≡ handled_at (slice_get ends k)
set_sends ends at e entry is k = elim (eqb_tells k at) [
  | inl t ↦ ap (λ (j : ℕ). handled_at (slice_get (slice_set ends at (with_sent e entry)) j)) t.1 ∙ ap handled_at (slice_get-set_same ends at e (with_sent e entry) is) ∙ ap handled_at (sym is) ∙ ap (λ (j : ℕ). handled_at (slice_get ends j)) (sym t.1)
  | inr u ↦ ap handled_at (slice_get-set_other ends at k (with_sent e entry) u.1)
]

pub offered_links : (d d' : Dif) (at : ℕ) (e : End) (entry : Entry) → At d.connections.flows.journal.ends at e → d'.connections.flows.journal.ends ≡ slice_set d.connections.flows.journal.ends at (with_sent e entry) → (text : List ℕ) → IsOnLink d' text → IsOnLink d text ⊎ (entry.bytes ≡ text)
offered_links d d' at e entry is ends text on =
    let old = d.connections.flows.journal.ends in
    let new = d'.connections.flows.journal.ends in
    let to = end_place on.link (other on.side) in
    let from = end_place on.link on.side in
    let n : ℕ = length (handled_at (slice_get old to)) in
    let handles : handled_at (slice_get new to) ≡ handled_at (slice_get old to) = ap (λ (es : List End). handled_at (slice_get es to)) ends ∙ set_sends old at e entry is to in
    let among : Contains (drop n (offered_at (slice_get new from))) text = subst (λ (ts : List (List ℕ)). Contains (drop (length ts) (offered_at (slice_get new from))) text) handles on.among in
    elim (eqb_tells from at) [
      | inl t ↦
          (let was : offered_at (slice_get old from) ≡ texts_of e.sent = ap (λ (o : Option End). offered_at o) (ap (slice_get old) t.1 ∙ is) in
          let now : offered_at (slice_get new from) ≡ texts_of e.sent ++ entry.bytes ∷ [] =
          ap (λ (es : List End). offered_at (slice_get es from)) ends ∙ ap (λ (o : Option End). offered_at o) (ap (slice_get (slice_set old at (with_sent e entry))) t.1 ∙ slice_get-set_same old at e (with_sent e entry) is) ∙ map-append (λ (x : Entry). x.bytes) e.sent (entry ∷ []) in
          ⊎_elim (λ still. inl (record { link = on.link; side = on.side; among = subst (λ (ts : List (List ℕ)). Contains (drop n ts) text) (sym was) still })) (λ same. inr same) (drop_push n (texts_of e.sent) entry.bytes text (subst (λ (ts : List (List ℕ)). Contains (drop n ts) text) now among)))
      | inr u ↦
          (let same : offered_at (slice_get new from) ≡ offered_at (slice_get old from) = ap (λ (es : List End). offered_at (slice_get es from)) ends ∙ ap offered_at (slice_get-set_other old at from (with_sent e entry) u.1) in
          inl (record { link = on.link; side = on.side; among = subst (λ (ts : List (List ℕ)). Contains (drop n ts) text) same among }))
    ]
