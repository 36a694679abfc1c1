-- A member handles SDUs one after the other.
use Rattle.std.proofs.Common.{◌≡◌, ◌∙◌, ℕ, ◌+◌, ◌<◌, List, [], ◌∷◌, ◌++◌, drop, get_or, length, take, Option, Some, None, Result, Ok, Err, refl, sym, ap, subst, inl, inr}
use Rattle.std.proofs.lemmas.List.{map-append, take-append-drop, take_more}
use Rattle.rina_law.specs.declared.entry.Entry.{Entry}
use Rattle.rina_agent.specs.declared.state.AgentError.{AgentError}
use Rattle.rina_agent.specs.declared.state.AgentError.TheVariants.{CountSpent, Memory}
use Rattle.rina_agent.specs.declared.state.MemberState.TheVariants.{Enrolled}
use Rattle.rina_member.specs.declared.management.Management.{Management}
use Rattle.rina_member.specs.Managements.{HandlesSdu}
use Rattle.rina_member.proofs.Enrolled.{handles_enrolled}
use Rattle.rina_dif.specs.Flooding.{texts_of}
use Rattle.rina_dif.specs.Handling.{AnswersInTurn, HandlesInTurn, HandlesOne, LacksInTurn, or_same}

-- One more

pub turn_more : (now number : ℕ) (sdus : List (List ℕ)) (sdu : List ℕ) (m mid m' : Management) → HandlesInTurn now number sdus m mid → HandlesOne now number sdu mid m' → HandlesInTurn now number (sdus ++ sdu ∷ []) m m'
turn_more now number [] sdu m mid m' same one = (m', subst (λ (g : Management). HandlesOne now number sdu g m') same one, refl)
turn_more now number (x ∷ xs) sdu m mid m' h one = (h.0, h.1, turn_more now number xs sdu h.0 mid m' h.2 one)

texts_more : (came : List Entry) (n : ℕ) (d : Entry) → n < length came → texts_of (take (n + 1) came) ≡ texts_of (take n came) ++ (get_or came n d).bytes ∷ []
texts_more came n d lt = ap texts_of (take_more came n d lt) ∙ map-append (λ (x : Entry). x.bytes) (take n came) (get_or came n d ∷ [])

pub turn_next : (now number : ℕ) (came : List Entry) (n : ℕ) (d : Entry) (sdu : List ℕ) (m mid m' : Management) → n < length came → sdu ≡ (get_or came n d).bytes → HandlesInTurn now number (texts_of (take n came)) m mid → HandlesOne now number sdu mid m' → HandlesInTurn now number (texts_of (take (n + 1) came)) m m'
turn_next now number came n d sdu m mid m' lt is h one =
    subst (λ (ts : List (List ℕ)). HandlesInTurn now number ts m m') (sym (texts_more came n d lt)) (turn_more now number (texts_of (take n came)) (get_or came n d).bytes m mid m' h (subst (λ (t : List ℕ). HandlesOne now number t mid m') is one))

-- Several after several

pub turns_on : (now number : ℕ) (xs ys : List (List ℕ)) (m mid m' : Management) → HandlesInTurn now number xs m mid → HandlesInTurn now number ys mid m' → HandlesInTurn now number (xs ++ ys) m m'
turns_on now number [] ys m mid m' same h = subst (λ (g : Management). HandlesInTurn now number ys g m') same h
turns_on now number (x ∷ xs) ys m mid m' g h = (g.0, g.1, turns_on now number xs ys g.0 mid m' g.2 h)

pub body_next : (now number : ℕ) (bodies : List (List ℕ)) (n : ℕ) (d sdu : List ℕ) (m mid m' : Management) → n < length bodies → sdu ≡ get_or bodies n d → HandlesInTurn now number (take n bodies) m mid → HandlesOne now number sdu mid m' → HandlesInTurn now number (take (n + 1) bodies) m m'
body_next now number bodies n d sdu m mid m' lt is h one =
    subst (λ (ts : List (List ℕ)). HandlesInTurn now number ts m m') (sym (take_more bodies n d lt)) (turn_more now number (take n bodies) (get_or bodies n d) m mid m' h (subst (λ (t : List ℕ). HandlesOne now number t mid m') is one))

-- Counts are spent

lacks_end : (now number need left : ℕ) (sdus : List (List ℕ)) (sdu : List ℕ) (m mid : Management) → HandlesInTurn now number sdus m mid → HandlesSdu now number sdu mid (Err (CountSpent need left)) → LacksInTurn now number need left (sdus ++ sdu ∷ []) m
lacks_end now number need left [] sdu m mid same spent = inl (subst (λ (g : Management). HandlesSdu now number sdu g (Err (CountSpent need left))) same spent)
lacks_end now number need left (x ∷ xs) sdu m mid h spent = inr (h.0, h.1, lacks_end now number need left xs sdu h.0 mid h.2 spent)

pub lacks_more : (now number need left : ℕ) (xs ys : List (List ℕ)) (m : Management) → LacksInTurn now number need left xs m → LacksInTurn now number need left (xs ++ ys) m
lacks_more now number need left [] ys m none = absurd none
lacks_more now number need left (x ∷ xs) ys m (inl spent) = inl spent
lacks_more now number need left (x ∷ xs) ys m (inr later) = inr (later.0, later.1, lacks_more now number need left xs ys later.0 later.2)

-- of several after several, the second ones
lacks_on : (now number need left : ℕ) (xs ys : List (List ℕ)) (m mid : Management) → HandlesInTurn now number xs m mid → LacksInTurn now number need left ys mid → LacksInTurn now number need left (xs ++ ys) m
lacks_on now number need left [] ys m mid same lacks = subst (λ (g : Management). LacksInTurn now number need left ys g) same lacks
lacks_on now number need left (x ∷ xs) ys m mid h lacks = inr (h.0, h.1, lacks_on now number need left xs ys h.0 mid h.2 lacks)

-- at one of these bodies, after those before
pub body_stops : (now number : ℕ) (bodies : List (List ℕ)) (n : ℕ) (d sdu : List ℕ) (first m mid : Management) (e : AgentError) → n < length bodies → sdu ≡ get_or bodies n d → HandlesInTurn now number (take n bodies) m mid → HandlesSdu now number sdu mid (Err e) → AnswersInTurn now number bodies first m (Err e)
body_stops now number bodies n d sdu first m mid Memory lt is h one = tt
body_stops now number bodies n d sdu first m mid (CountSpent need left) lt is h one =
    let here : LacksInTurn now number need left (take (n + 1) bodies) m = subst (λ (ts : List (List ℕ)). LacksInTurn now number need left ts m) (sym (take_more bodies n d lt)) (lacks_end now number need left (take n bodies) (get_or bodies n d) m mid h (subst (λ (t : List ℕ). HandlesSdu now number t mid (Err (CountSpent need left))) is one)) in
    subst (λ (ts : List (List ℕ)). LacksInTurn now number need left ts m) (take-append-drop (n + 1) bodies) (lacks_more now number need left (take (n + 1) bodies) (drop (n + 1) bodies) m here)

-- at one of these entries
pub turn_stops : (now number : ℕ) (came : List Entry) (n : ℕ) (d : Entry) (sdu : List ℕ) (first m mid : Management) (e : AgentError) → n < length came → sdu ≡ (get_or came n d).bytes → HandlesInTurn now number (texts_of (take n came)) m mid → HandlesSdu now number sdu mid (Err e) → AnswersInTurn now number (texts_of came) first m (Err e)
turn_stops now number came n d sdu first m mid Memory lt is h one = tt
turn_stops now number came n d sdu first m mid (CountSpent need left) lt is h one =
    let here : LacksInTurn now number need left (texts_of (take (n + 1) came)) m = subst (λ (ts : List (List ℕ)). LacksInTurn now number need left ts m) (sym (texts_more came n d lt)) (lacks_end now number need left (texts_of (take n came)) (get_or came n d).bytes m mid h (subst (λ (t : List ℕ). HandlesSdu now number t mid (Err (CountSpent need left))) is one)) in
    let both : texts_of came ≡ texts_of (take (n + 1) came) ++ texts_of (drop (n + 1) came) = ap texts_of (sym (take-append-drop (n + 1) came)) ∙ map-append (λ (x : Entry). x.bytes) (take (n + 1) came) (drop (n + 1) came) in
    subst (λ (ts : List (List ℕ)). LacksInTurn now number need left ts m) (sym both) (lacks_more now number need left (texts_of (take (n + 1) came)) (texts_of (drop (n + 1) came)) m here)

-- whichever of two runs of SDUs it is
pub stops_first : (now number : ℕ) (xs ys : List (List ℕ)) (first m : Management) (e : AgentError) → AnswersInTurn now number xs first m (Err e) → AnswersInTurn now number (xs ++ ys) first m (Err e)
stops_first now number xs ys first m Memory h = tt
stops_first now number xs ys first m (CountSpent need left) h = lacks_more now number need left xs ys m h

pub answers_on : (now number : ℕ) (xs ys : List (List ℕ)) (first m mid : Management) (r : Result (Option Management) AgentError) → HandlesInTurn now number xs m mid → AnswersInTurn now number ys first mid r → AnswersInTurn now number (xs ++ ys) first m r
answers_on now number xs ys first m mid (Ok told) g h = turns_on now number xs ys m mid (or_same first told) g h
answers_on now number xs ys first m mid (Err Memory) g h = tt
answers_on now number xs ys first m mid (Err (CountSpent need left)) g h = lacks_on now number need left xs ys m mid g h

-- It stays enrolled

sdu_enrolled : (now number : ℕ) (sdu : List ℕ) (m : Management) (after : Option Management) → HandlesSdu now number sdu m (Ok after) → m.agent.state ≡ Enrolled → (or_same m after).agent.state ≡ Enrolled
sdu_enrolled now number sdu m None h is = is
sdu_enrolled now number sdu m (Some m') h is = handles_enrolled now number h.0 m m' h.2 is

one_enrolled : (now number : ℕ) (sdu : List ℕ) (m m' : Management) → HandlesOne now number sdu m m' → m.agent.state ≡ Enrolled → m'.agent.state ≡ Enrolled
one_enrolled now number sdu m m' h is = subst (λ (g : Management). g.agent.state ≡ Enrolled) (sym h.is) (sdu_enrolled now number sdu m h.after h.handles is)

pub turns_enrolled : (now number : ℕ) (sdus : List (List ℕ)) (m m' : Management) → HandlesInTurn now number sdus m m' → m.agent.state ≡ Enrolled → m'.agent.state ≡ Enrolled
turns_enrolled now number [] m m' same is = subst (λ (g : Management). g.agent.state ≡ Enrolled) (sym same) is
turns_enrolled now number (sdu ∷ sdus) m m' h is = turns_enrolled now number sdus h.0 m' h.2 (one_enrolled now number sdu m h.0 h.1 is)
