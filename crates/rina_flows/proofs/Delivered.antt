-- SDUs that became whole are delivered, one after the other.
use Rattle.std.proofs.Common.{◌≡◌, ℕ, ◌+◌, ◌≤◌, List, [], ◌∷◌, ◌++◌, length, length-append, append_assoc, map, Some, None, Result, refl, sym, ◌∙◌, ap, arith}
use Rattle.std.proofs.lemmas.List.{append-nil, length-map}
use Rattle.std.specs.Result.{OnErr, is_ok}
use Rattle.std.specs.Prelude.{if◌then◌else◌}
use Rattle.rina_base.specs.declared.number.Num.{Num}
use Rattle.rina_conn.specs.declared.conn.Conn.{Conn}
use Rattle.rina_conn.specs.Waiting.{Waits, with_whole}
use Rattle.rina_dif_law.specs.Ids.{Ids}
use Rattle.rina_dtp.specs.Joins.{bytes_of}
use Rattle.rina_law.specs.declared.entry.Entry.{Entry}
use Rattle.rina_law.specs.Pieces.{Sdu}
use Rattle.rina_flows.specs.Arriving.{entry_from, noted}
use Rattle.rina_flows.specs.Delivering.{Delivers, IsDelivering, next_num, with_fetched}
use Rattle.rina_flows.specs.Tied.{ids_of}
use Rattle.rina_flows.proofs.Writing.{pushed}

map_append : {X Y : Type 0} (f : X → Y) (xs ys : List X) → map f (xs ++ ys) ≡ map f xs ++ map f ys
map_append f [] ys = refl
map_append f (x ∷ xs) ys = ap (λ (zs : List _). f x ∷ zs) (map_append f xs ys)

after_same : {X : Type 0} (xs ys zs : List X) → xs ++ ys ≡ xs ++ zs → ys ≡ zs
after_same [] ys zs e = e
after_same (x ∷ xs) ys zs e = after_same xs ys zs cc

bytes_append : (xs ys : List Sdu) → bytes_of (xs ++ ys) ≡ bytes_of xs ++ bytes_of ys
bytes_append xs ys = map_append (λ (w : Sdu). w.bytes) xs ys

noted_append : (xs ys : List Sdu) (w : Waits) → noted (xs ++ ys) w ≡ noted ys (noted xs w)
noted_append [] ys w = refl
noted_append (x ∷ xs) ys w = noted_append xs ys (with_whole (Some x.first) w)

pub delivering_none : (now : ℕ) (old : Conn) (got : List Entry) (room : ℕ) → IsDelivering now old got room [] old got
delivering_none now old got room = record { done = []; rest = old.rx.join.whole; all = refl; bodies_are = refl; conn = refl; noted = λ fits. sym (append-nil got) }

entry_same : (ids : Ids) (now : ℕ) (num : Num) (bytes : List ℕ) (w : Sdu) → num ≡ record { cep = ids.dcep; seq = w.first } → bytes ≡ w.bytes → record { tick = now; num = num; bytes = bytes } ≡ entry_from ids now w
entry_same ids now num bytes w a b = ap (λ (n : Num). record { tick = now; num = n; bytes = bytes }) a ∙ ap (λ (bs : List ℕ). record { tick = now; num = record { cep = ids.dcep; seq = w.first }; bytes = bs }) b

pub delivering_more : {A E : Type 0} (now : ℕ) (old : Conn) (got : List Entry) (room : ℕ) (y : List (List ℕ)) (b : List ℕ) (rest' : List (List ℕ)) (k k' : Conn) (got1 got2 : List Entry) (cap len : ℕ) (num : Num) (r : Result A E) → (y ++ b ∷ []) ++ rest' ≡ bytes_of old.rx.join.whole → IsDelivering now old got room y k got1 → room ≤ cap → Some num ≡ next_num (ids_of k) k.rx.join.whole → ((w : Sdu) (ws : List Sdu) → k.rx.join.whole ≡ w ∷ ws → k' ≡ with_fetched (w ∷ []) ws k) → got2 ≡ (if is_ok r then got1 ++ record { tick = now; num = num; bytes = b } ∷ [] else got1) → len ≡ length got1 → OnErr r (cap ≤ len) → IsDelivering now old got room (y ++ b ∷ []) k' got2
delivering_more now old got room y b rest' k k' got1 got2 cap len num r bodies d wide is fetched put same full = go d.rest refl
  where
    ids_same : ids_of k ≡ ids_of old
    ids_same = ap ids_of d.conn

    whole_is : k.rx.join.whole ≡ d.rest
    whole_is = ap (λ (x : Conn). x.rx.join.whole) d.conn

    go : (rest : List Sdu) → d.rest ≡ rest → IsDelivering now old got room (y ++ b ∷ []) k' got2
    go [] e = (let none : Some num ≡ None = is ∙ ap (next_num (ids_of k)) (whole_is ∙ e) in absurd cc)
    go (w ∷ ws) e =
        let here : k.rx.join.whole ≡ w ∷ ws = whole_is ∙ e in
        let all : old.rx.join.whole ≡ d.done ++ w ∷ ws = d.all ∙ ap (λ (xs : List Sdu). d.done ++ xs) e in
        let bytes : y ++ (b ∷ rest') ≡ y ++ (w.bytes ∷ bytes_of ws) = sym (append_assoc y (b ∷ []) rest') ∙ bodies ∙ ap bytes_of all ∙ bytes_append d.done (w ∷ ws) ∙ ap (λ (xs : List (List ℕ)). xs ++ (w.bytes ∷ bytes_of ws)) (sym d.bodies_are) in
        let tail : b ∷ rest' ≡ w.bytes ∷ bytes_of ws = after_same y (b ∷ rest') (w.bytes ∷ bytes_of ws) bytes in
        let b_is : b ≡ w.bytes = cc in
        let some : Some num ≡ Some (record { cep = (ids_of k).dcep; seq = w.first }) = is ∙ ap (next_num (ids_of k)) here in
        let num_is : num ≡ record { cep = (ids_of old).dcep; seq = w.first } = (let this : num ≡ record { cep = (ids_of k).dcep; seq = w.first } = cc in this ∙ ap (λ (i : Ids). record { cep = i.dcep; seq = w.first }) ids_same) in
        record {
          done = d.done ++ w ∷ [];
          rest = ws;
          all = all ∙ sym (append_assoc d.done (w ∷ []) ws);
          bodies_are = ap (λ (xs : List (List ℕ)). xs ++ b ∷ []) d.bodies_are ∙ ap (λ (x : List ℕ). bytes_of d.done ++ x ∷ []) b_is ∙ sym (bytes_append d.done (w ∷ []));
          conn = fetched w ws here ∙ ap (with_fetched (w ∷ []) ws) d.conn ∙ ap (λ (x : Waits). record (with_fetched [] ws old) { waiting = x }) (sym (noted_append d.done (w ∷ []) old.waiting));
          noted = λ fits.
              let so_far : got1 ≡ got ++ map (entry_from (ids_of old) now) d.done = d.noted fits in
              let count : length got1 ≡ length got + length d.done = ap (λ (xs : List Entry). length xs) so_far ∙ length-append got (map (entry_from (ids_of old) now) d.done) ∙ ap (λ n. length got + n) (length-map d.done (entry_from (ids_of old) now)) in
              let total : length old.rx.join.whole ≡ length d.done + (1 + length ws) = ap (λ (xs : List Sdu). length xs) all ∙ length-append d.done (w ∷ ws) ∙ ap (λ n. length d.done + n) (omega arith) in
              let done : got2 ≡ got1 ++ record { tick = now; num = num; bytes = b } ∷ [] = pushed got1 got2 (record { tick = now; num = num; bytes = b }) cap len r same put full (omega arith) in
              done ∙ ap (λ (xs : List Entry). xs ++ record { tick = now; num = num; bytes = b } ∷ []) so_far ∙ append_assoc got (map (entry_from (ids_of old) now) d.done) (record { tick = now; num = num; bytes = b } ∷ [])
              ∙ ap (λ (x : Entry). got ++ (map (entry_from (ids_of old) now) d.done ++ x ∷ [])) (entry_same (ids_of old) now num b w num_is b_is) ∙ ap (λ (xs : List Entry). got ++ xs) (sym (map_append (entry_from (ids_of old) now) d.done (w ∷ [])));
        }

nothing : (ws : List Sdu) → bytes_of ws ≡ [] → ws ≡ []
nothing [] e = refl
nothing (w ∷ ws) e = absurd cc

-- what was delivered is all where all bytes are used up
pub delivered_all : (now : ℕ) (old : Conn) (got : List Entry) (room : ℕ) (y : List (List ℕ)) (k : Conn) (got' : List Entry) → y ≡ bytes_of old.rx.join.whole → IsDelivering now old got room y k got' → Delivers now old got room k got'
delivered_all now old got room y k got' bodies d =
    let bytes : y ++ [] ≡ y ++ bytes_of d.rest = append-nil y ∙ bodies ∙ ap bytes_of d.all ∙ bytes_append d.done d.rest ∙ ap (λ (xs : List (List ℕ)). xs ++ bytes_of d.rest) (sym d.bodies_are) in
    let none : d.rest ≡ [] = nothing d.rest (sym (after_same y [] (bytes_of d.rest) bytes)) in
    let all : d.done ≡ old.rx.join.whole = sym (append-nil d.done) ∙ ap (λ (xs : List Sdu). d.done ++ xs) (sym none) ∙ sym d.all in
    record {
      conn = d.conn ∙ ap (λ (xs : List Sdu). with_fetched d.done xs old) none ∙ ap (λ (xs : List Sdu). with_fetched xs [] old) all;
      noted = λ fits. d.noted fits ∙ ap (λ (ws : List Sdu). got ++ map (entry_from (ids_of old) now) ws) all;
    }

pub empty_by : {X : Type 0} (xs : List X) → length xs ≡ 0 → xs ≡ []
empty_by [] e = refl
empty_by (x ∷ xs) e = absurd (omega arith)
