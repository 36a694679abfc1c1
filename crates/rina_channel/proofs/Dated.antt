-- The journal of an end as SDUs are delivered to it.
use Rattle.std.proofs.Common.{◌≡◌, ℕ, List, [], ◌∷◌, ◌++◌, length-append, append-nil, append_assoc, map, sym, ◌∙◌, subst, arith, refl}
use Rattle.rina_iface.specs.declared.ends.End.{End}
use Rattle.rina_iface.specs.Journal.{IsDated, IsWhole}
use Rattle.rina_iface.proofs.Grown.{dated_push}
use Rattle.rina_law.specs.declared.entry.Entry.{Entry}
use Rattle.rina_law.specs.Constants.{Constants}
use Rattle.rina_law.specs.Direction.{Direction, entry_for}
use Rattle.rina_law.specs.Pieces.{Sdu}
use Rattle.rina_law.specs.Receiver.{Piece}
use Rattle.rina_dif_law.specs.Incoming.{arrived, found, joined_by}
use Rattle.rina_dif_law.proofs.Forgot.{found_clock, found_got}

-- entries that come now are dated
dated_more : (c : Constants) (now : ℕ) (xs : List Entry) (whole : List Sdu) → IsDated now xs → IsDated now (xs ++ map (entry_for c now) whole)
dated_more c now xs [] d = subst (IsDated now) (sym (append-nil xs)) d
dated_more c now xs (s ∷ ss) d = subst (IsDated now) (append_assoc xs (entry_for c now s ∷ []) (map (entry_for c now) ss)) (dated_more c now (xs ++ entry_for c now s ∷ []) ss (dated_push now xs (entry_for c now s) d refl))

more_whole : (c : Constants) (now : ℕ) (end : End) (whole : List Sdu) → IsWhole now end → IsWhole now (record end { got = end.got ++ map (entry_for c now) whole })
more_whole c now end whole w = record {
  sent = w.sent;
  got = dated_more c now end.got whole w.got;
  taken = let taken = w.taken in omega (arith, length-append end.got (map (entry_for c now) whole));
}

pub arrived_whole : (k : Constants) (now : ℕ) (p : Piece) (line : Direction) (end : End) → line.line.clock ≡ now → line.inbox.got ≡ end.got → IsWhole now end → IsWhole now (record end { got = (arrived k p line).inbox.got })
arrived_whole k now p line end clock got w =
    let x : Direction = found k line in
    let whole = joined_by k p line in
    let P : ℕ → Type 0 = λ t. IsWhole now (record end { got = x.inbox.got ++ map (entry_for k t) whole }) in
    let Q : List Entry → Type 0 = λ xs. IsWhole now (record end { got = xs ++ map (entry_for k now) whole }) in
    subst P (sym (found_clock k line ∙ clock)) (subst Q (sym (found_got k line ∙ got)) (more_whole k now end whole w))
