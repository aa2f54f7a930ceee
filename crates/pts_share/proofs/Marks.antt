-- The lock's history, and the events in it.
use Rattle.std.proofs.Common.{◌≡◌, ◌≢◌, ℕ, suc, List, [], ◌∷◌, ◌++◌, length, map, refl, sym, ap, ◌∙◌, subst}
use Rattle.std.specs.List.{AllByRecursion}
use Rattle.std.proofs.lemmas.List.{map-append}
use Rattle.pts_names.specs.Lists.{In}
use Rattle.pts_lock.specs.Histories.{SawItsOwn, AddedBy}
use Rattle.pts_ctx.specs.System.{Specification}
use Rattle.pts_core.specs.Histories.{Past}
use Rattle.pts_share.specs.declared.mark.Mark.TheVariants.{System, Event}
use Rattle.pts_share.specs.Marks.{Marks, event_mark, marks, with_event, events_of}
use Rattle.pts_share.specs.Passes.{GoesOn, AddedTo}

events_marked : (h : List Past) → events_of (map event_mark h) ≡ h
events_marked [] = refl
events_marked (e ∷ h) = ap (λ k. e ∷ k) (events_marked h)

pub events_in_marks : (S : Specification) (h : List Past) → events_of (marks S h) ≡ h
events_in_marks S h = events_marked h

marks_length : (h : List Past) → length (map event_mark h) ≡ length h
marks_length [] = refl
marks_length (e ∷ h) = ap suc (marks_length h)

pub marks_long : (S : Specification) (h : List Past) → length (marks S h) ≡ suc (length h)
marks_long S h = ap suc (marks_length h)

pub marks_more : (S : Specification) (h k : List Past) → marks S h ++ map event_mark k ≡ marks S (h ++ k)
marks_more S h k = ap (λ ms. (0, System S) ∷ ms) (sym (map-append event_mark h k))

first_events : Marks → List Past
first_events [] = []
first_events (m ∷ ms) = with_event m.1 []

event_same : (d e : Past) (ms ns : Marks) → event_mark d ∷ ms ≡ event_mark e ∷ ns → d ≡ e
unfolding first_events
event_same d e ms ns q = let one : d ∷ [] ≡ e ∷ [] = ap first_events q in cc one

rest_of : Marks → Marks
rest_of [] = []
rest_of (m ∷ ms) = ms

-- What follows the marks of events is the marks of the events that follow.
events_go_on : (h k : List Past) (rest : Marks) → map event_mark h ++ rest ≡ map event_mark k → (more : List Past) × (h ++ more ≡ k) × (rest ≡ map event_mark more)
unfolding rest_of
events_go_on [] k rest q = (k, refl, q)
events_go_on (d ∷ h) [] rest q = absurd (cc q)
events_go_on (d ∷ h) (e ∷ k) rest q =
    let r = events_go_on h k rest (ap rest_of q) in
    (r.0, ap (λ z. d ∷ z) r.1 ∙ ap (λ z. z ∷ k) (event_same d e (map event_mark h ++ rest) (map event_mark k) q), r.2)

system_in : Specification → Marks → Specification
system_in S [] = S
system_in S ((n, System T) ∷ ms) = T
system_in S ((n, Event e) ∷ ms) = S

pub marks_go_on : (S T : Specification) (h k : List Past) (rest : Marks) → marks S h ++ rest ≡ marks T k → (T ≡ S) × (more : List Past) × (h ++ more ≡ k) × (rest ≡ map event_mark more)
unfolding system_in rest_of
marks_go_on S T h k rest q = let r = events_go_on h k rest (ap rest_of q) in (sym (ap (system_in S) q), r.0, r.1, r.2)

all_events : (P : ℕ → Type 0) (h : List Past) → AllByRecursion (λ m. P m.0) (map event_mark h) → AllByRecursion (λ e. P e.session) h
all_events P [] a = tt
all_events P (e ∷ h) a = (a.0, all_events P h a.1)

all_marks : (P : ℕ → Type 0) (h : List Past) → AllByRecursion (λ e. P e.session) h → AllByRecursion (λ m. P m.0) (map event_mark h)
all_marks P [] a = tt
all_marks P (e ∷ h) a = (a.0, all_marks P h a.1)

pub own_marks : (n : ℕ) (h : List Past) → AllByRecursion (λ e. e.session ≡ n) h → AllByRecursion (λ m. m.0 ≡ n) (map event_mark h)
own_marks n h a = all_marks (λ o. o ≡ n) h a

-- What the lock says of entries, said of events.
pub goes_on : (n : ℕ) (S T : Specification) (h k : List Past) → SawItsOwn n (marks S h) (marks T k) → (T ≡ S) × GoesOn n h k
goes_on n S T h k saw =
    let r = marks_go_on S T h k saw.0 saw.1 in
    (r.0, (r.1, r.2, all_events (λ o. o ≢ n) r.1 (subst (AllByRecursion (λ m. m.0 ≢ n)) r.3 saw.2)))

pub added_to : (ns : List ℕ) (S T : Specification) (h k : List Past) → AddedBy ns (marks S h) (marks T k) → (T ≡ S) × AddedTo ns h k
added_to ns S T h k added =
    let r = marks_go_on S T h k added.0 added.1 in
    (r.0, (r.1, r.2, all_events (λ o. In o ns) r.1 (subst (AllByRecursion (λ m. In m.0 ns)) r.3 added.2)))
