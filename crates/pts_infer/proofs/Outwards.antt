-- Flaws that are told from the whole, and what work comes to that stops with them.
use Rattle.std.proofs.Common.{◌≡◌, ℕ, refl, sym, ap, ◌∙◌, subst, List, [], ◌∷◌, ◌++◌, length, reverse, Result, Ok, Err}
use Rattle.std.specs.Result.{IsErr, IsErrAnd}
use Rattle.std.proofs.lemmas.List.{reverse-append}
use Rattle.pts_names.specs.Name.{Name}
use Rattle.pts_record.specs.declared.shape.Shape.{Shape}
use Rattle.pts_record.specs.Table.{named_at}
use Rattle.pts_reduce_cost.specs.Run.{Run, fails, turned, and_then}
use Rattle.pts_infer_cost.specs.Typing.{Flaw, FitFlaw, here, into, under, unsorted, wanted, judged, not_a_sort, not_product, of_argument, of_definition}
use Rattle.pts_infer_cost.proofs.ByParts.{part_fails, part_deep, part_spent, turned_fails, turned_deep, turned_spent}
use Rattle.pts_infer.specs.declared.fault.What.{What}
use Rattle.pts_infer.specs.declared.fault.FoundFlaw.{FoundFlaw}
use Rattle.pts_infer.specs.declared.fault.Fault.{Fault}
use Rattle.pts_infer.specs.declared.fault.Fault.TheVariants.{Spent, Deep, Memory, Flawed}
use Rattle.pts_infer.specs.declared.fault.Misfit.{Misfit}
use Rattle.pts_infer.specs.declared.fault.Misfit.TheVariants as misfit
use Rattle.pts_infer.specs.Given.{ShownBelow, kind_of, flaw_of, FoundAs, StopsWith, MisfitsWith, Gives, ToldAs, ToldWanted, ToldOf}

more : {A : Type 0} (xs : List A) (x : A) → reverse (xs ++ x ∷ []) ≡ x ∷ reverse xs
more xs x = reverse-append xs (x ∷ [])

-- A flaw without a place is here.
pub shown_here : (ss : List Shape) (f : FoundFlaw) (w : What) → f.place.items ≡ [] → f.names.items ≡ [] → f.what ≡ w → ShownBelow (length ss) w → FoundAs ss (here (kind_of ss w)) (Flawed f)
shown_here ss f w p q e h =
    let x : reverse f.place.items ≡ [] = ap reverse p in
    let y : reverse f.names.items ≡ [] = ap reverse q in
    let z : kind_of ss f.what ≡ kind_of ss w = ap (kind_of ss) e in
    (subst (ShownBelow (length ss)) (sym e) h, cc)

-- A flaw of a part.
pub outwards : (ss : List Shape) (f h : FoundFlaw) (i : ℕ) → h.place.items ≡ f.place.items ++ i ∷ [] → h.names.items ≡ f.names.items → h.what ≡ f.what → ToldAs (into i) ss (Flawed f) (Flawed h)
outwards ss f h i p q e =
    let x : reverse h.place.items ≡ i ∷ reverse f.place.items = ap reverse p ∙ more f.place.items i in
    let y : reverse h.names.items ≡ reverse f.names.items = ap reverse q in
    let z : kind_of ss h.what ≡ kind_of ss f.what = ap (kind_of ss) e in
    (subst (ShownBelow (length ss)) (sym e), cc)

pub outwards_under : (ss : List Shape) (f h : FoundFlaw) (i : ℕ) (x : Name) → h.place.items ≡ f.place.items ++ i ∷ [] → h.names.items ≡ f.names.items ++ x ∷ [] → h.what ≡ f.what → ToldAs (under i x) ss (Flawed f) (Flawed h)
outwards_under ss f h i n p q e =
    let x : reverse h.place.items ≡ i ∷ reverse f.place.items = ap reverse p ∙ more f.place.items i in
    let y : reverse h.names.items ≡ n ∷ reverse f.names.items = ap reverse q ∙ more f.names.items n in
    let z : kind_of ss h.what ≡ kind_of ss f.what = ap (kind_of ss) e in
    (subst (ShownBelow (length ss)) (sym e), cc)

-- A flaw in place of any other.
pub replaced : (g : Flaw → Flaw) (ss : List Shape) (f : FoundFlaw) (e : Fault) (k : Flaw) → FoundAs ss k e → k ≡ g (flaw_of ss f) → ToldAs g ss (Flawed f) e
replaced g ss f Memory k h q = tt
replaced g ss f Spent k h q = absurd h
replaced g ss f Deep k h q = absurd h
replaced g ss f (Flawed d) k h q = (λ _. h.0, h.1 ∙ q)

pub unproduct_told : (ss : List Shape) (f : FoundFlaw) (e : Fault) (t : ℕ) → FoundAs ss (here (not_product (named_at ss t))) e → ToldAs (λ f. here (not_product (named_at ss t))) ss (Flawed f) e
unproduct_told ss f e t h = replaced (λ f. here (not_product (named_at ss t))) ss f e (here (not_product (named_at ss t))) h refl

pub found_told : (g : Flaw → Flaw) (ss : List Shape) (k : Flaw) (e h : Fault) → FoundAs ss k e → ToldAs g ss e h → FoundAs ss (g k) h
found_told g ss k e Memory p q = tt
found_told g ss k (Flawed d) (Flawed f) p q = (q.0 p.0, q.1 ∙ ap g p.1)
found_told g ss k Spent h p q = absurd p
found_told g ss k Deep h p q = absurd p
found_told g ss k Memory (Flawed f) p q = absurd q
found_told g ss k Memory Spent p q = absurd q
found_told g ss k Memory Deep p q = absurd q
found_told g ss k (Flawed d) Spent p q = absurd q
found_told g ss k (Flawed d) Deep p q = absurd q

pub unsorted_told : (ss : List Shape) (f : FoundFlaw) (e : Fault) (i t : ℕ) (x : Name) → FoundAs ss (under i x (here (not_a_sort (named_at ss t)))) e → ToldAs (unsorted i x (named_at ss t)) ss (Flawed f) e
unsorted_told ss f e i t x h = replaced (unsorted i x (named_at ss t)) ss f e (under i x (here (not_a_sort (named_at ss t)))) h refl

-- The flaws of fits.
fit_replaced : (g : FitFlaw → Flaw) (ss : List Shape) (f : FoundFlaw) (e : Fault) (k : Flaw) → FoundAs ss k e → k ≡ g (wanted (flaw_of ss f)) → ToldOf g ss (misfit.Wanted f) e
fit_replaced g ss f Memory k h q = tt
fit_replaced g ss f Spent k h q = absurd h
fit_replaced g ss f Deep k h q = absurd h
fit_replaced g ss f (Flawed d) k h q = (λ _. h.0, h.1 ∙ q)

pub unfitting : (ss : List Shape) (f : FoundFlaw) (d e : Fault) (t : ℕ) → FoundAs ss (here (not_a_sort (named_at ss t))) d → ToldAs (into 1) ss d e → ToldOf (of_argument (named_at ss t)) ss (misfit.Wanted f) e
unfitting ss f d e t h q = fit_replaced (of_argument (named_at ss t)) ss f e (into 1 (here (not_a_sort (named_at ss t)))) (found_told (into 1) ss (here (not_a_sort (named_at ss t))) d e h q) refl

pub own_argument : (ss : List Shape) (f : FoundFlaw) (e : Fault) (t : ℕ) → ToldAs (into 1) ss (Flawed f) e → ToldOf (of_argument (named_at ss t)) ss (misfit.Own f) e
own_argument ss f Memory t h = tt
own_argument ss f (Flawed d) t h = h
own_argument ss f Spent t h = absurd h
own_argument ss f Deep t h = absurd h

pub ruleset argument_told = (unfitting, own_argument)

pub wanted_type : (ss : List Shape) (f : FoundFlaw) (e : Fault) → ToldAs (into 1) ss (Flawed f) e → ToldOf of_definition ss (misfit.Wanted f) e
wanted_type ss f Memory h = tt
wanted_type ss f (Flawed d) h = h
wanted_type ss f Spent h = absurd h
wanted_type ss f Deep h = absurd h

pub own_value : (ss : List Shape) (f : FoundFlaw) (e : Fault) → ToldAs (into 0) ss (Flawed f) e → ToldOf of_definition ss (misfit.Own f) e
own_value ss f Memory h = tt
own_value ss f (Flawed d) h = h
own_value ss f Spent h = absurd h
own_value ss f Deep h = absurd h

pub ruleset definition_told = (wanted_type, own_value)

-- A flaw of a fit that is here.
pub own_here : (ss : List Shape) (g : Flaw) (f : FoundFlaw) (k : ℕ) → FoundAs ss g (Flawed f) → MisfitsWith {A = Unit {0}} ss (misfit.Own f) k (fails (judged g) k)
own_here ss g f k h = (h.0, ap (λ x. fails (judged x) k) (sym h.1))

-- Work that stops here.
pub found : {A : Type 0} (ss : List Shape) (g : Flaw) (e : Fault) (k : ℕ) (r : Run Flaw A) → FoundAs ss g e → r ≡ fails g k → StopsWith ss e k r
found ss g Memory k r h q = tt
found ss g Spent k r h q = absurd h
found ss g Deep k r h q = absurd h
found ss g (Flawed f) k r h q = (h.0, q ∙ ap (λ x. fails x k) (sym h.1))

-- A part that stops, as it is told from the whole, ends the whole.
pub stopped : {A B : Type 0} (g : Flaw → Flaw) (ss : List Shape) (e h : Fault) (k : ℕ) (r : Run Flaw A) (next : A → ℕ → Run Flaw B) → ToldAs g ss e h → StopsWith ss e k r → StopsWith ss h k (and_then (turned g r) next)
stopped g ss e Memory k r next t s = tt
stopped g ss Spent Spent k r next t s = (part_spent (turned g r) next (turned_spent g r s.0), s.1)
stopped g ss Deep Deep k r next t s = part_deep (turned g r) next k (turned_deep g r k s)
stopped g ss (Flawed f) (Flawed d) k r next t s = (t.0 s.0, part_fails (turned g r) next (flaw_of ss d) k (turned_fails g r (flaw_of ss f) k s.1 ∙ ap (λ x. fails x k) (sym t.1)))
stopped g ss Spent Deep k r next t s = absurd t
stopped g ss Spent (Flawed d) k r next t s = absurd t
stopped g ss Deep Spent k r next t s = absurd t
stopped g ss Deep (Flawed d) k r next t s = absurd t
stopped g ss Memory Spent k r next t s = absurd t
stopped g ss Memory Deep k r next t s = absurd t
stopped g ss Memory (Flawed d) k r next t s = absurd t
stopped g ss (Flawed f) Spent k r next t s = absurd t
stopped g ss (Flawed f) Deep k r next t s = absurd t

pub stopped_fit : {A B : Type 0} (g : FitFlaw → Flaw) (ss : List Shape) (e : Misfit) (h : Fault) (k : ℕ) (r : Run FitFlaw A) (next : A → ℕ → Run Flaw B) → ToldOf g ss e h → MisfitsWith ss e k r → StopsWith ss h k (and_then (turned g r) next)
stopped_fit g ss e Memory k r next t s = tt
stopped_fit g ss misfit.Spent Spent k r next t s = (part_spent (turned g r) next (turned_spent g r s.0), s.1)
stopped_fit g ss misfit.Deep Deep k r next t s = part_deep (turned g r) next k (turned_deep g r k s)
stopped_fit g ss (misfit.Wanted f) (Flawed d) k r next t s = (t.0 s.0, part_fails (turned g r) next (flaw_of ss d) k (turned_fails g r (wanted (flaw_of ss f)) k s.1 ∙ ap (λ x. fails x k) (sym t.1)))
stopped_fit g ss (misfit.Own f) (Flawed d) k r next t s = (t.0 s.0, part_fails (turned g r) next (flaw_of ss d) k (turned_fails g r (judged (flaw_of ss f)) k s.1 ∙ ap (λ x. fails x k) (sym t.1)))
stopped_fit g ss misfit.Spent Deep k r next t s = absurd t
stopped_fit g ss misfit.Spent (Flawed d) k r next t s = absurd t
stopped_fit g ss misfit.Deep Spent k r next t s = absurd t
stopped_fit g ss misfit.Deep (Flawed d) k r next t s = absurd t
stopped_fit g ss misfit.Memory Spent k r next t s = absurd t
stopped_fit g ss misfit.Memory Deep k r next t s = absurd t
stopped_fit g ss misfit.Memory (Flawed d) k r next t s = absurd t
stopped_fit g ss (misfit.Wanted f) Spent k r next t s = absurd t
stopped_fit g ss (misfit.Wanted f) Deep k r next t s = absurd t
stopped_fit g ss (misfit.Own f) Spent k r next t s = absurd t
stopped_fit g ss (misfit.Own f) Deep k r next t s = absurd t

-- An inference inside a fit.
pub stopped_wanted : {A B : Type 0} (ss : List Shape) (e : Fault) (h : Misfit) (k : ℕ) (r : Run Flaw A) (next : A → ℕ → Run FitFlaw B) → ToldWanted ss e h → StopsWith ss e k r → MisfitsWith ss h k (and_then (turned wanted r) next)
stopped_wanted ss e misfit.Memory k r next t s = tt
stopped_wanted ss Spent misfit.Spent k r next t s = (part_spent (turned wanted r) next (turned_spent wanted r s.0), s.1)
stopped_wanted ss Deep misfit.Deep k r next t s = part_deep (turned wanted r) next k (turned_deep wanted r k s)
stopped_wanted ss (Flawed f) (misfit.Wanted d) k r next t s = (t.0 s.0, part_fails (turned wanted r) next (wanted (flaw_of ss d)) k (turned_fails wanted r (flaw_of ss f) k s.1 ∙ ap (λ x. fails (wanted x) k) (sym t.1)))
stopped_wanted ss Spent misfit.Deep k r next t s = absurd t
stopped_wanted ss Spent (misfit.Wanted d) k r next t s = absurd t
stopped_wanted ss Spent (misfit.Own d) k r next t s = absurd t
stopped_wanted ss Deep misfit.Spent k r next t s = absurd t
stopped_wanted ss Deep (misfit.Wanted d) k r next t s = absurd t
stopped_wanted ss Deep (misfit.Own d) k r next t s = absurd t
stopped_wanted ss Memory misfit.Spent k r next t s = absurd t
stopped_wanted ss Memory misfit.Deep k r next t s = absurd t
stopped_wanted ss Memory (misfit.Wanted d) k r next t s = absurd t
stopped_wanted ss Memory (misfit.Own d) k r next t s = absurd t
stopped_wanted ss (Flawed f) misfit.Spent k r next t s = absurd t
stopped_wanted ss (Flawed f) misfit.Deep k r next t s = absurd t
stopped_wanted ss (Flawed f) (misfit.Own d) k r next t s = absurd t

-- A part that stops without being told from elsewhere.
pub stopped_plain : {A B : Type 0} (ss : List Shape) (e : Fault) (k : ℕ) (r : Run Flaw A) (next : A → ℕ → Run Flaw B) → StopsWith ss e k r → StopsWith ss e k (and_then r next)
stopped_plain ss Memory k r next s = tt
stopped_plain ss Spent k r next s = (part_spent r next s.0, s.1)
stopped_plain ss Deep k r next s = part_deep r next k s
stopped_plain ss (Flawed f) k r next s = (s.0, part_fails r next (flaw_of ss f) k s.1)

-- A fault that is handed on is the same.
pub handed_on : {X A : Type 0} (ss : List Shape) (value : X → A) (r : Result X Fault) (e : Fault) (k : ℕ) (a : Run Flaw A) → IsErr r → IsErrAnd r (λ x. x ≡ e) → StopsWith ss e k a → Gives ss value r k a
handed_on ss value (Ok x) e k a i p h = absurd (cc i)
handed_on ss value (Err f) e k a i p h = subst (λ x. StopsWith ss x k a) (sym p) h
