-- A name of a DIF comes to stand there by its registration alone.
use Rattle.std.proofs.Common.{◌≡◌, ◌∙◌, ◌⊎◌, ℕ, ◌==◌, ◌&&◌, suc, Bool, true, false, List, [], ◌∷◌, ◌++◌, take, drop, Option, Some, None, Result, Ok, Err, refl, sym, ap, subst, inl, inr}
use Rattle.std.specs.List.{list_any, remove}
use Rattle.std.specs.Str.{bytes_eq}
use Rattle.std.proofs.lemmas.Bool.{and_parts, false≢true, or_cases, or_left, or_right}
use Rattle.std.proofs.lemmas.Bool.Decides.{Decides-eqb}
use Rattle.std.proofs.lemmas.List.{take-append-drop}
use Rattle.std.proofs.lemmas.List.Folds.{list_any-append}
use Rattle.std.proofs.lemmas.Option.{same_Some}
use Rattle.std.proofs.lemmas.Slice.Eq.{bytes_eq-Decides}
use Rattle.rina_iface.specs.declared.ask.Registered.{Registered}
use Rattle.rina_iface.specs.declared.error.RegisterError.{RegisterError}
use Rattle.rina_iface.specs.declared.error.RegisterError.TheVariants as register
use Rattle.rina_iface.specs.declared.error.UnregisterError.{UnregisterError}
use Rattle.rina_iface.specs.declared.error.UnregisterError.TheVariants as unregister
use Rattle.rina_iface.specs.Register.{Registers, with_name}
use Rattle.rina_iface.specs.Seen.{Fac, is_registered, with_fac}
use Rattle.rina_iface.specs.Unregister.{Unregisters, name_place, without_at, without_name}
use Rattle.rina_data.specs.declared.step.InStep.{InStep}
use Rattle.rina_data.specs.declared.step.StepError.{StepError}
use Rattle.rina_dif_law.specs.Dif.{fac_of}
use Rattle.rina_dif.specs.declared.dif.Dif.{Dif}
use Rattle.rina_dif.specs.Registering.{register_refusal, unregister_refusal}
use Rattle.rina_dif.specs.Shown.{seen_of as seen_of_dif}
use Rattle.rina_tower.specs.declared.applications.AppError.{AppError}
use Rattle.rina_tower.specs.declared.applications.AppError.TheVariants.{NoRank, NotYours, Call}
use Rattle.rina_tower.specs.declared.tower.Tower.{Tower, Wires, Rank'}
use Rattle.rina_tower.specs.Applications.{Answers}
use Rattle.rina_tower.specs.Bystanders.{IsIpc, is_ipc}
use Rattle.rina_tower.specs.Calls.{RegistersAtTop, RegistersFrom, UnregistersFrom}
use Rattle.rina_tower.specs.Ranks.{height_of}
use Rattle.rina_laws.proofs.NamedCalls.{Stays}
use Rattle.rina_laws.proofs.NamedComes.{Comes, Fact, Never, Reason, any_comes, any_stays, comes_is}
use Rattle.rina_laws.proofs.NamedShown.{pad_at, rank_with, set_alike, set_nothing, shown_there}
use Rattle.rina_laws.proofs.NamedSteps.{IpcsStay, TakesFor}

-- an application is registered at a node
abbrev pub HasName : ℕ → List ℕ → Fact
HasName node app d = is_registered d.names node app ≡ true

-- ---- tests of lists

any_last : {X : Type 0} (p : X → Bool) (xs : List X) (y : X) → list_any p (xs ++ y ∷ []) ≡ true → (list_any p xs ≡ true) ⊎ (p y ≡ true)
any_last p [] y h = elim (or_cases (p y) false h) [ inl t ↦ inr t | inr never ↦ absurd (false≢true never) ]
any_last p (x ∷ xs) y h = elim (or_cases (p x) (list_any p (xs ++ y ∷ [])) h) [
  | inl t ↦ inl (or_left (p x) (list_any p xs) t)
  | inr more ↦ elim (any_last p xs y more) [ inl t ↦ inl (or_right (p x) (list_any p xs) t) | inr t ↦ inr t ]
]

any_take : {X : Type 0} (p : X → Bool) (xs : List X) (i : ℕ) → list_any p (take i xs) ≡ true → list_any p xs ≡ true
any_take p xs i h = ap (list_any p) (sym (take-append-drop i xs)) ∙ list_any-append p (take i xs) (drop i xs) ∙ or_left (list_any p (take i xs)) (list_any p (drop i xs)) h

any_drop : {X : Type 0} (p : X → Bool) (xs : List X) (i : ℕ) → list_any p (drop i xs) ≡ true → list_any p xs ≡ true
any_drop p xs i h = ap (list_any p) (sym (take-append-drop i xs)) ∙ list_any-append p (take i xs) (drop i xs) ∙ or_right (list_any p (take i xs)) (list_any p (drop i xs)) h

any_removed : {X : Type 0} (p : X → Bool) (xs : List X) (i : ℕ) → list_any p (remove xs i) ≡ true → list_any p xs ≡ true
any_removed p xs i h = elim (or_cases (list_any p (take i xs)) (list_any p (drop (suc i) xs)) (sym (list_any-append p (take i xs) (drop (suc i) xs)) ∙ h)) [
  | inl t ↦ any_take p xs i t
  | inr t ↦ any_drop p xs (suc i) t
]

-- ---- lists of names

-- where one more is registered
pub named_by : (names : List Registered) (place : ℕ) (name : List ℕ) (node : ℕ) (app : List ℕ) → is_registered (with_name names place name) node app ≡ true → (is_registered names node app ≡ true) ⊎ ((place ≡ node) × (name ≡ app))
named_by names place name node app h = elim (any_last (λ (r : Registered). (r.node == node) && bytes_eq r.app app) names (record { node = place; app = name }) h) [
  | inl t ↦ inl t
  | inr t ↦ (let both = and_parts (place == node) (bytes_eq name app) t in inr ((Decides-eqb place node).0 both.0, (bytes_eq-Decides name app).0 both.1))
]

-- where one is taken back
pub named_still : (names : List Registered) (o : Option ℕ) (node : ℕ) (app : List ℕ) → is_registered (without_at names o) node app ≡ true → is_registered names node app ≡ true
named_still names None node app h = h
named_still names (Some at) node app h = any_removed (λ (r : Registered). (r.node == node) && bytes_eq r.app app) names at h

-- ---- what `register` and `unregister` make of the names

abbrev NamesAfter : Result (Unit {0}) RegisterError → List Registered → ℕ → List ℕ → List Registered → Type 0
NamesAfter (Ok done) old place name new = new ≡ with_name old place name
NamesAfter (Err e) old place name new = new ≡ old

names_after : (own : Option RegisterError) (now n place : ℕ) (name : List ℕ) (x : Result (Unit {0}) RegisterError) (f g : Fac) → Registers own (rank_with now n f) n place name x (with_fac (rank_with now n f) n g) → NamesAfter x f.names place name g.names
names_after own now n place name (Ok done) f g r =
    let s = r.1 in
    let is : s.facility ≡ f = same_Some s.facility f (sym s.stands ∙ pad_at n f) in
    ap (λ (z : Fac). z.names) (set_alike now n f g (record s.facility { names = with_name s.facility.names place name }) s.new_is) ∙ ap (λ (z : Fac). with_name z.names place name) is
names_after own now n place name (Err register.Memory) f g r = ap (λ (z : Fac). z.names) (set_nothing now n f g r)
names_after own now n place name (Err e) f g r = ap (λ (z : Fac). z.names) (set_nothing now n f g r.1)

abbrev NamesLeft : Result (Unit {0}) UnregisterError → List Registered → ℕ → List ℕ → List Registered → Type 0
NamesLeft (Ok done) old place name new = new ≡ without_name old place name
NamesLeft (Err e) old place name new = new ≡ old

names_left : (own : Option UnregisterError) (now n place : ℕ) (name : List ℕ) (x : Result (Unit {0}) UnregisterError) (f g : Fac) → Unregisters own (rank_with now n f) n place name x (with_fac (rank_with now n f) n g) → NamesLeft x f.names place name g.names
names_left own now n place name (Ok done) f g r =
    let s = r.1 in
    let is : s.facility ≡ f = same_Some s.facility f (sym s.stands ∙ pad_at n f) in
    ap (λ (z : Fac). z.names) (set_alike now n f g (record s.facility { names = without_name s.facility.names place name }) s.new_is) ∙ ap (λ (z : Fac). without_name z.names place name) is
names_left own now n place name (Err unregister.Memory) f g r = ap (λ (z : Fac). z.names) (set_nothing now n f g r)
names_left own now n place name (Err e) f g r = ap (λ (z : Fac). z.names) (set_nothing now n f g r.1)

-- ---- one DIF

-- it was done
abbrev pub IsDone : {E : Type 0} → Result (Unit {0}) E → Type 0
IsDone (Ok done) = Unit {0}
IsDone (Err e) = ⊥

came_by : (x : Result (Unit {0}) RegisterError) (old new : List Registered) (place : ℕ) (name : List ℕ) (node : ℕ) (app : List ℕ) → NamesAfter x old place name new → is_registered new node app ≡ true → (is_registered old node app ≡ true) ⊎ ((place ≡ node) × (name ≡ app) × IsDone x)
came_by (Ok done) old new place name node app is h = elim (named_by old place name node app (subst (λ (ns : List Registered). is_registered ns node app ≡ true) is h)) [
  | inl t ↦ inl t
  | inr t ↦ inr (t.0, t.1, tt)
]
came_by (Err e) old new place name node app is h = inl (subst (λ (ns : List Registered). is_registered ns node app ≡ true) is h)

stays_by : (x : Result (Unit {0}) UnregisterError) (old new : List Registered) (place : ℕ) (name : List ℕ) (node : ℕ) (app : List ℕ) → NamesLeft x old place name new → is_registered new node app ≡ true → is_registered old node app ≡ true
stays_by (Ok done) old new place name node app is h = named_still old (name_place old place name) node app (subst (λ (ns : List Registered). is_registered ns node app ≡ true) is h)
stays_by (Err e) old new place name node app is h = subst (λ (ns : List Registered). is_registered ns node app ≡ true) is h

module _ (node : ℕ) (app : List ℕ) where
  names_same : (d d' : Dif) → d'.names ≡ d.names → HasName node app d' → HasName node app d
  names_same d d' is h = subst (λ (ns : List Registered). is_registered ns node app ≡ true) is h

  dif_registers : (fac place : ℕ) (name : List ℕ) (x : Result (Unit {0}) RegisterError) (d d' : Dif) → RegistersFrom fac place name x d d' → HasName node app d' → HasName node app d ⊎ ((place ≡ node) × (name ≡ app) × IsDone x)
  dif_registers fac place name x d d' s h =
      let f : Fac = fac_of (seen_of_dif d) in
      let g : Fac = fac_of (seen_of_dif d') in
      came_by x d.names d'.names place name node app (names_after (register_refusal d place) d.clock fac place name x f g (s.serves.shown (rank_with d.clock fac f) (shown_there d fac))) h

  dif_unregisters : (fac place : ℕ) (name : List ℕ) (x : Result (Unit {0}) UnregisterError) (d d' : Dif) → UnregistersFrom fac place name x d d' → HasName node app d' → HasName node app d
  dif_unregisters fac place name x d d' s h =
      let f : Fac = fac_of (seen_of_dif d) in
      let g : Fac = fac_of (seen_of_dif d') in
      stays_by x d.names d'.names place name node app (names_left (unregister_refusal d place) d.clock fac place name x f g (s.serves.shown (rank_with d.clock fac f) (shown_there d fac))) h

  pub names_stay : Stays (HasName node app)
  names_stay = record {
    clocked = λ now d d' is. names_same d d' (ap (λ (z : Dif). z.names) is);
    claimed = λ d d' is. names_same d d' (ap (λ (z : Dif). z.names) is);
    left = λ d d' is. names_same d d' (ap (λ (z : Dif). z.names) is);
    joined = λ d d' is. names_same d d' (ap (λ (z : Dif). z.names) is);
    answered = λ d d' s. names_same d d' (ap (λ (z : Dif). z.names) s.is);
    unregistered = λ fac place name x d d' s. dif_unregisters fac place name x d d' s;
    allocated = λ ask x d d' its s. names_same d d' (ap (λ (z : Dif). z.names) s.serves.rest);
    sent = λ port bytes x d d' s. names_same d d' (ap (λ (z : Dif). z.names) s.serves.rest);
    passed = λ port d d' s. names_same d d' (ap (λ (z : Dif). z.names) s.serves.rest);
    freed = λ port x d d' s. names_same d d' (ap (λ (z : Dif). z.names) s.serves.rest);
    stepped = λ below place x below' d d' s. names_same d d' (ap (λ (z : Dif). z.names) s.rest);
  }

  pub takes_names : (x : Result InStep StepError) → TakesFor (HasName node app) Never x
  takes_names x r n place link d d' below below' st s h = inl (names_same d d' (ap (λ (z : Dif). z.names) s.rest) h)

-- ---- at a rank

-- this is the name that is registered, at this node of this DIF of this rank
pub record IsThis (node : ℕ) (app : List ℕ) (rank fac place : ℕ) (name : List ℕ) (r n : ℕ) : Type 0 where
  pub its_rank : r ≡ rank
  pub its_fac : n ≡ fac
  pub its_node : place ≡ node
  pub its_app : name ≡ app

-- it is registered
abbrev pub ByName : {E : Type 0} → ℕ → List ℕ → ℕ → ℕ → ℕ → List ℕ → Result (Unit {0}) E → Reason
ByName node app rank fac place name x r n d below = IsThis node app rank fac place name r n × IsDone x

module _ (node : ℕ) (app : List ℕ) where
  pub registers : (rank fac place : ℕ) (name : List ℕ) (x : Result (Unit {0}) RegisterError) (u u' : Tower) → height_of u ≡ rank → RegistersAtTop fac place name x u u' → Comes (HasName node app) (ByName node app rank fac place name x) u u'
  registers rank fac place name x (Wires a) (Wires a') high d = tt
  registers rank fac place name x (Rank' p difs below) (Rank' p' difs' below') high d = (
    any_comes (HasName node app) (ByName node app rank fac place name x) (RegistersFrom fac place name x) fac _ difs difs' below (λ y y' at s f. elim (dif_registers node app fac place name x y y' s f) [
      | inl t ↦ inl t
      | inr t ↦ inr (record { its_rank = high; its_fac = refl; its_node = t.0; its_app = t.1 }, t.2)
    ]) d.0,
    comes_is (HasName node app) (ByName node app rank fac place name x) below below' d.1,
  )
  registers rank fac place name x (Wires a) (Rank' p difs below) high d = absurd d
  registers rank fac place name x (Rank' p difs below) (Wires a) high d = absurd d

  -- the call of an application
  pub app_registers : (ipc : Bool) (rank fac place : ℕ) (name : List ℕ) (x : Result (Unit {0}) (AppError RegisterError)) (u u' : Tower) → height_of u ≡ rank → Answers ipc (λ y. RegistersAtTop fac place name y u u') (u' ≡ u) x → Comes (HasName node app) (ByName node app rank fac place name x) u u'
  app_registers ipc rank fac place name (Ok done) u u' high d = registers rank fac place name (Ok done) u u' high d.1
  app_registers ipc rank fac place name (Err (Call e)) u u' high d = registers rank fac place name (Err e) u u' high d.1
  app_registers ipc rank fac place name (Err NotYours) u u' high d = comes_is (HasName node app) (ByName {E = AppError RegisterError} node app rank fac place name (Err NotYours)) u u' d.1
  app_registers ipc rank fac place name (Err NoRank) u u' high d = absurd d

  -- the name of an IPC process is another one
  other_app : (name : List ℕ) → is_ipc app ≡ false → IsIpc name → name ≡ app → ⊥
  other_app name plain ipc is = false≢true (sym plain ∙ subst IsIpc is ipc)

  pub ipcs_stay : is_ipc app ≡ false → (fac place : ℕ) → IpcsStay (HasName node app) fac place
  ipcs_stay plain fac place name x (Wires a) (Wires a') ipc d = tt
  ipcs_stay plain fac place name x (Rank' p difs below) (Rank' p' difs' below') ipc d = (
    any_stays (HasName node app) (RegistersFrom fac place name x) fac _ difs difs' below (λ y y' at s f. elim (dif_registers node app fac place name x y y' s f) [
      | inl t ↦ t
      | inr t ↦ absurd (other_app name plain ipc t.1)
    ]) d.0,
    comes_is (HasName node app) Never below below' d.1,
  )
  ipcs_stay plain fac place name x (Wires a) (Rank' p difs below) ipc d = absurd d
  ipcs_stay plain fac place name x (Rank' p difs below) (Wires a) ipc d = absurd d
