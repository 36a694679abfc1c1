-- What is known of fields where a reader fails: the error is that of all fields with the same beginning, is true, and the fields in front of the one that it names begin fields that are read.
use Rattle.std.proofs.Common.{◌≡◌, ℕ, zero, suc, ◌+◌, ◌≤◌, Bool, true, false, cond, List, [], ◌∷◌, length, take, Result, Ok, Err, refl, sym, ap, subst, ◌∙◌, arith}
use Rattle.std.specs.Str.{bytes_eq}
use Rattle.rina_base.specs.Traverse.{◌>>=◌}
use Rattle.rina_schedule.specs.Errors.{field_of}
use Rattle.rina_schedule.specs.declared.error.LineError.{LineError}
use Rattle.rina_schedule.specs.declared.error.LineError.TheVariants as errors
use Rattle.rina_report.specs.Fields.{end_at}

abbrev pub Fields : Type 0
Fields = List (List ℕ)

-- ---- what an error tells

abbrev IsExtra : LineError → Type 0
IsExtra (errors.Extra n) = Unit {0}
IsExtra e = ⊥

-- a field that is missing is the one behind so many fields; any other of the first fields is there
abbrev Stands : LineError → ℕ → ℕ → Type 0
Stands errors.Memory len seen = ⊥
Stands errors.UnknownWord len seen = Unit {0}
Stands (errors.MissingField n) len seen = len + 1 ≡ seen
Stands (errors.BadNumber n) len seen = seen ≤ len
Stands (errors.BadName n) len seen = seen ≤ len
Stands (errors.Extra n) len seen = seen ≤ len
Stands (errors.BadBytes n) len seen = seen ≤ len

stands_more : (e : LineError) (len seen : ℕ) → Stands e len seen → Stands e (suc len) (suc seen)
stands_more errors.Memory len seen h = h
stands_more errors.UnknownWord len seen h = tt
stands_more (errors.MissingField n) len seen h = omega (arith, h)
stands_more (errors.BadNumber n) len seen h = omega (arith, h)
stands_more (errors.BadName n) len seen h = omega (arith, h)
stands_more (errors.Extra n) len seen h = omega (arith, h)
stands_more (errors.BadBytes n) len seen h = omega (arith, h)

-- an error that a field tells which is there
abbrev pub Refuses : ℕ → LineError → Type 0
Refuses n errors.Memory = ⊥
Refuses n errors.UnknownWord = 0 ≡ n
Refuses n (errors.MissingField m) = ⊥
Refuses n (errors.BadNumber m) = m ≡ n
Refuses n (errors.BadName m) = m ≡ n
Refuses n (errors.Extra m) = ⊥
Refuses n (errors.BadBytes m) = m ≡ n

refused_field : (n : ℕ) (e : LineError) → Refuses n e → field_of e ≡ n
refused_field n errors.Memory h = absurd h
refused_field n errors.UnknownWord h = h
refused_field n (errors.MissingField m) h = absurd h
refused_field n (errors.BadNumber m) h = h
refused_field n (errors.BadName m) h = h
refused_field n (errors.Extra m) h = absurd h
refused_field n (errors.BadBytes m) h = h

refused_stands : (n : ℕ) (e : LineError) (len : ℕ) → Refuses n e → Stands e len 0
refused_stands n errors.Memory len h = h
refused_stands n errors.UnknownWord len h = tt
refused_stands n (errors.MissingField m) len h = absurd h
refused_stands n (errors.BadNumber m) len h = omega arith
refused_stands n (errors.BadName m) len h = omega arith
refused_stands n (errors.Extra m) len h = absurd h
refused_stands n (errors.BadBytes m) len h = omega arith

refused_not_extra : (n : ℕ) (e : LineError) → Refuses n e → IsExtra e → ⊥
refused_not_extra n errors.Memory h x = x
refused_not_extra n errors.UnknownWord h x = x
refused_not_extra n (errors.MissingField m) h x = x
refused_not_extra n (errors.BadNumber m) h x = x
refused_not_extra n (errors.BadName m) h x = x
refused_not_extra n (errors.Extra m) h x = h
refused_not_extra n (errors.BadBytes m) h x = x

pub err_same : {A : Type 0} (d e : LineError) → ◌≡◌ {A = Result A LineError} (Err d) (Err e) → d ≡ e
err_same d e h = cc

pub no_err : {A G : Type 0} (x : A) (e : LineError) → ◌≡◌ {A = Result A LineError} (Ok x) (Err e) → G
no_err x e h = cc

pub err_also : {A : Type 0} (d e : LineError) → d ≡ e → ◌≡◌ {A = Result A LineError} (Err d) (Err e)
err_also d e h = cc

-- ---- what is known where a reader fails

-- some fields are read
pub record Reads {A : Type 0} (q : Fields → Result A LineError) : Type 0 where
  pub fields : Fields
  pub value : A
  pub is : q fields ≡ Ok value

-- fields that are read begin with the first i fields; they are these alone where the next one is extra
pub record GoesOn {A : Type 0} (q : Fields → Result A LineError) (i : ℕ) (a : Fields) (e : LineError) : Type 0 where
  pub fields : Fields
  pub value : A
  pub is : q fields ≡ Ok value
  pub same : take i a ≡ take i fields
  pub whole : IsExtra e → fields ≡ take i a

abbrev GoesFrom : {A : Type 0} → (Fields → Result A LineError) → ℕ → Fields → LineError → Type 0
GoesFrom q zero a e = IsExtra e → ⊥
GoesFrom q (suc i) a e = GoesOn q i a e

-- the error is that of all fields that begin with the same ones, as many as were seen; it is true of the last of these; and fields that are read begin with those in front of it
pub record Seen {A : Type 0} (q : Fields → Result A LineError) (a : Fields) (e : LineError) (seen : ℕ) : Type 0 where
  pub stays : (b : Fields) → take seen a ≡ take seen b → q b ≡ Err e
  pub so : Stands e (length a) seen
  pub goes : GoesFrom q seen a e

-- the error of fields of which the first has number n names the last one that was seen, or, where none was, the one in front of them
pub record Fails {A : Type 0} (n : ℕ) (q : Fields → Result A LineError) (a : Fields) (e : LineError) : Type 0 where
  pub seen : ℕ
  pub names : field_of e + 1 ≡ n + seen
  pub is : Seen q a e seen

pub record Known {A : Type 0} (n : ℕ) (q : Fields → Result A LineError) : Type 0 where
  pub fails : (a : Fields) (e : LineError) → q a ≡ Err e → Fails n q a e

pub record Settled {A : Type 0} (n : ℕ) (q : Fields → Result A LineError) : Type 0 where
  pub known : Known n q
  pub reads : Reads q

-- ---- one field more

pub same_head : (f g : List ℕ) (t s : Fields) → f ∷ t ≡ g ∷ s → f ≡ g
same_head f g t s h = cc

pub same_tail : (f g : List ℕ) (t s : Fields) → f ∷ t ≡ g ∷ s → t ≡ s
same_tail f g t s h = cc

pub no_fields : {G : Type 0} (f : List ℕ) (t : Fields) → ◌≡◌ {A = Fields} [] (f ∷ t) → G
no_fields f t h = cc

module _ {A : Type 0} (q : Fields → Result A LineError) (sample : Reads q) where
  stays_on : (f : List ℕ) (t : Fields) (e : LineError) (k : ℕ) → ((s : Fields) → take k t ≡ take k s → q (f ∷ s) ≡ Err e)
      → (b : Fields) → take (suc k) (f ∷ t) ≡ take (suc k) b → q b ≡ Err e
  stays_on f t e k h [] same = no_fields f (take k t) (sym same)
  stays_on f t e k h (g ∷ s) same = subst (λ (x : List ℕ). q (x ∷ s) ≡ Err e) (same_head f g (take k t) (take k s) same) (h s (same_tail f g (take k t) (take k s) same))

  goes_on : (f : List ℕ) (t : Fields) (e : LineError) (k : ℕ) → GoesFrom (λ (s : Fields). q (f ∷ s)) k t e → GoesOn q k (f ∷ t) e
  goes_on f t e zero bare = record { fields = sample.fields; value = sample.value; is = sample.is; same = refl; whole = λ x. absurd (bare x) }
  goes_on f t e (suc i) g = record { fields = f ∷ g.fields; value = g.value; is = g.is; same = ap (λ (x : Fields). f ∷ x) g.same; whole = λ x. ap (λ (y : Fields). f ∷ y) (g.whole x) }

  -- the first field has been read
  pub seen_more : (f : List ℕ) (t : Fields) (e : LineError) (k : ℕ) → Seen (λ (s : Fields). q (f ∷ s)) t e k → Seen q (f ∷ t) e (suc k)
  seen_more f t e k h = record { stays = stays_on f t e k h.stays; so = stands_more e (length t) k h.so; goes = goes_on f t e k h.goes }

  -- no field is there
  pub seen_end : (d : LineError) → q [] ≡ Err d → Stands d 0 1 → (IsExtra d → ⊥) → Seen q [] d 1
  seen_end d is so bare = record { stays = ended; so = so; goes = record { fields = sample.fields; value = sample.value; is = sample.is; same = refl; whole = λ x. absurd (bare x) } }
    where
      ended : (b : Fields) → take 1 [] ≡ take 1 b → q b ≡ Err d
      ended [] same = is
      ended (g ∷ s) same = no_fields g [] same

-- the error does not look at the fields
pub seen_now : {A : Type 0} (n : ℕ) (q : Fields → Result A LineError) (t : Fields) (d : LineError) → ((s : Fields) → q s ≡ Err d) → Refuses n d → Seen q t d 0
seen_now n q t d is bad = record { stays = λ b same. is b; so = refused_stands n d (length t) bad; goes = refused_not_extra n d bad }

-- what the field in front is refused for
pub never : {A : Type 0} (n : ℕ) (d : LineError) → Refuses n d → Known {A = A} (n + 1) (λ (t : Fields). Err d)
never {A = A} n d bad = record {
  fails = λ a e h. subst (λ (x : LineError). Fails {A = A} (n + 1) (λ (t : Fields). Err d) a x) (err_same d e h)
      (record { seen = 0; names = omega (arith, refused_field n d bad); is = seen_now n (λ (t : Fields). Err d) a d (λ s. refl) bad });
}

-- a field in front, and then what is told of the others
pub chosen : {A : Type 0} (n : ℕ) (q : Fields → Result A LineError) → q [] ≡ Err (errors.MissingField n) → ((f : List ℕ) → Known (n + 1) (λ (t : Fields). q (f ∷ t))) → Reads q → Settled n q
chosen {A = A} n q none some sample = record { known = record { fails = by_fields }; reads = sample }
  where
    more : (f : List ℕ) (t : Fields) (e : LineError) → Fails (n + 1) (λ (s : Fields). q (f ∷ s)) t e → Fails n q (f ∷ t) e
    more f t e h = record { seen = suc h.seen; names = omega (arith, h.names); is = seen_more q sample f t e h.seen h.is }

    by_fields : (a : Fields) (e : LineError) → q a ≡ Err e → Fails n q a e
    by_fields [] e h = subst (λ (x : LineError). Fails n q [] x) (err_same (errors.MissingField n) e (sym none ∙ h))
        (record { seen = 1; names = refl; is = seen_end q sample (errors.MissingField n) none refl (λ x. x) })
    by_fields (f ∷ t) e h = more f t e ((some f).fails t e h)

module _ {A : Type 0} (n : ℕ) (x : A) where
  abbrev ended : Fields → Result A LineError
  ended t = end_at n t >>= λ _. Ok x

  extra : (f : List ℕ) (t b : Fields) → take 1 (f ∷ t) ≡ take 1 b → ended b ≡ Err (errors.Extra n)
  extra f t [] same = no_fields f [] (sym same)
  extra f t (g ∷ s) same = refl

  fails_end : (a : Fields) (e : LineError) → ended a ≡ Err e → Fails n (λ (t : Fields). ended t) a e
  fails_end [] e h = no_err x e h
  fails_end (f ∷ t) e h = subst (λ (d : LineError). Fails n (λ (t : Fields). ended t) (f ∷ t) d) (err_same (errors.Extra n) e h)
      (record { seen = 1; names = refl; is = record { stays = extra f t; so = omega arith; goes = record { fields = []; value = x; is = refl; same = refl; whole = λ _. refl } } })

  -- the end
  pub end_then : Settled n (λ (t : Fields). ended t)
  end_then = record { known = record { fails = fails_end }; reads = record { fields = []; value = x; is = refl } }

-- a value is made of what was read
abbrev made_of : {A B : Type 0} → (A → B) → Result A LineError → Result B LineError
made_of f r = r >>= λ x. Ok (f x)

pub failed_so : {A B : Type 0} (f : A → B) (r : Result A LineError) (e : LineError) → made_of f r ≡ Err e → r ≡ Err e
failed_so f (Ok x) e is = no_err (f x) e is
failed_so f (Err d) e is = err_also d e (err_same d e is)

made_ok : {A B : Type 0} (f : A → B) (r : Result A LineError) (x : A) → r ≡ Ok x → made_of f r ≡ Ok (f x)
made_ok {A = A} f r x is = ap (λ (z : Result A LineError). made_of f z) is

made_err : {A B : Type 0} (f : A → B) (r : Result A LineError) (e : LineError) → r ≡ Err e → made_of f r ≡ Err e
made_err {A = A} f r e is = ap (λ (z : Result A LineError). made_of f z) is

goes_made : {A B : Type 0} (q : Fields → Result A LineError) (f : A → B) (k : ℕ) (a : Fields) (e : LineError) → GoesFrom q k a e → GoesFrom (λ (t : Fields). made_of f (q t)) k a e
goes_made q f zero a e bare = bare
goes_made q f (suc i) a e g = record { fields = g.fields; value = f g.value; is = made_ok f (q g.fields) g.value g.is; same = g.same; whole = g.whole }

fails_made : {A B : Type 0} (n : ℕ) (q : Fields → Result A LineError) (f : A → B) (a : Fields) (e : LineError) → Fails n q a e → Fails n (λ (t : Fields). made_of f (q t)) a e
fails_made n q f a e h = record { seen = h.seen; names = h.names; is = record { stays = λ b same. made_err f (q b) e (h.is.stays b same); so = h.is.so; goes = goes_made q f h.seen a e h.is.goes } }

pub known_made : {A B : Type 0} {n : ℕ} {q : Fields → Result A LineError} (f : A → B) → Known n q → Known n (λ (t : Fields). made_of f (q t))
known_made {n = n} {q = q} f h = record { fails = λ a e is. fails_made n q f a e (h.fails a e (failed_so f (q a) e is)) }

pub made : {A B : Type 0} {n : ℕ} {q : Fields → Result A LineError} (f : A → B) → Settled n q → Settled n (λ (t : Fields). made_of f (q t))
made {q = q} f h = record { known = known_made f h.known; reads = record { fields = h.reads.fields; value = f h.reads.value; is = made_ok f (q h.reads.fields) h.reads.value h.reads.is } }

-- a test of a word
pub word_in : {A : Type 0} {n : ℕ} {p q : Fields → Result A LineError} (word other : List ℕ) → Settled n p → Known n q → Known n (λ (t : Fields). cond (bytes_eq word other) (p t) (q t))
word_in {n = n} {p = p} {q = q} word other h g = by_word (bytes_eq word other)
  where
    by_word : (b : Bool) → Known n (λ (t : Fields). cond b (p t) (q t))
    by_word true = record { fails = h.known.fails }
    by_word false = record { fails = g.fails }

-- a value that the field in front gives, or is refused for
pub given : {X A : Type 0} (n : ℕ) (r : Result X LineError) (g : X → Fields → Result A LineError) → ((e : LineError) → r ≡ Err e → Refuses n e) → ((x : X) → Known (n + 1) (g x)) → Known (n + 1) (λ (t : Fields). r >>= λ x. g x t)
given n (Ok x) g bad h = record { fails = (h x).fails }
given n (Err d) g bad h = record { fails = (never n d (bad d refl)).fails }
