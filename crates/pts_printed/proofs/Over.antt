-- The names of locals: each is found as its local, and hides no constant.
use Rattle.std.proofs.Common.{ℕ, zero, suc, ◌+◌, ◌^◌, ◌<◌, ◌≡◌, refl, sym, ◌∙◌, ap, subst, List, [], ◌∷◌, ◌++◌, Bool, true, false, cond, ◌||◌, eqb-true, None, Some, option_map, length, get_or, reverse, append_assoc, arith}
use Rattle.std.specs.List.{AllByRecursion}
use Rattle.std.proofs.lemmas.List.{reverse-append, append-nil, length-append}
use Rattle.pts_names.specs.Name.{Name, same_name, is_plain}
use Rattle.pts_names.proofs.Same.{same_name-self}
use Rattle.pts_terms.specs.Tree.{Tree, Named, sort, const, var, app, named_lam, named_pi, named_let, Below}
use Rattle.pts_parser.specs.Resolution.{place_of}
use Rattle.pts_printed.specs.Choice.{occurs, constants, is_among, choice}
use Rattle.pts_printed.specs.Locals.{named_locals, uses}
use Rattle.pts_printed.specs.Laws.{IsName}
use Rattle.pts_printed.proofs.Found.{or_true, true_or, or_false, Findable}
use Rattle.pts_printed.proofs.Chosen.{among_apart, choice_free, choice_plain, choice_is_name}

-- A variable that occurs free is below the bound.
of_either : {P : Type 0} (a b : Bool) → (a || b) ≡ true → (a ≡ true → P) → (b ≡ true → P) → P
of_either true b e f g = f refl
of_either false b e f g = g e

occurs_below : {B : Type 0} (n i : ℕ) (t : Tree B) → Below n t → occurs i t ≡ true → i < n
occurs_below n i (sort s) b o = absurd (cc o)
occurs_below n i (const c) b o = absurd (cc o)
occurs_below n i (var j) b o = let e : j ≡ i = eqb-true j i o in omega arith
occurs_below n i (app f a) b o = of_either (occurs i f) (occurs i a) o (occurs_below n i f b.0) (occurs_below n i a b.1)
occurs_below n i (named_lam x A t) b o =
    of_either (occurs i A) (occurs (suc i) t) o (occurs_below n i A b.0) (λ q. let l = occurs_below (suc n) (suc i) t b.1 q in omega arith)
occurs_below n i (named_pi x A t) b o =
    of_either (occurs i A) (occurs (suc i) t) o (occurs_below n i A b.0) (λ q. let l = occurs_below (suc n) (suc i) t b.1 q in omega arith)
occurs_below n i (named_let x a A t) b o =
    of_either (occurs i a) (occurs i A || occurs (suc i) t) o (occurs_below n i a b.0)
    (λ p. of_either (occurs i A) (occurs (suc i) t) p (occurs_below n i A b.1) (λ q. let l = occurs_below (suc n) (suc i) t b.2 q in omega arith))

-- What is among none.
pub among_split : (y : Name) (F G : List Name) → is_among y (F ++ G) ≡ false → (is_among y F ≡ false) × (is_among y G ≡ false)
among_split y [] G e = (refl, e)
among_split y (z ∷ F) G e =
    let (p, q) = or_false (same_name y z) (is_among y (F ++ G)) e in
    let (r, s) = among_split y F G q in
    (ap (λ b. b || is_among y F) p ∙ r, s)

among_neither : (y : Name) (F G : List Name) → is_among y F ≡ false → is_among y G ≡ false → is_among y (F ++ G) ≡ false
among_neither y [] G e f = f
among_neither y (z ∷ F) G e f =
    let (p, q) = or_false (same_name y z) (is_among y F) e in
    ap (λ b. b || is_among y (F ++ G)) p ∙ among_neither y F G q f

among_reversed : (y : Name) (F : List Name) → is_among y F ≡ false → is_among y (reverse F) ≡ false
among_reversed y [] e = refl
among_reversed y (z ∷ F) e =
    let (p, q) = or_false (same_name y z) (is_among y F) e in
    ap (is_among y) (reverse-append (z ∷ []) F) ∙ among_neither y (reverse F) (z ∷ []) (among_reversed y F q) (ap (λ b. b || false) p)

-- Names of which none stands twice, and none of which is a constant.
Apart : List Name → List Name → Type 0
Apart cs [] = Unit {0}
Apart cs (y ∷ L) = (is_among y L ≡ false) × (is_among y cs ≡ false) × Apart cs L

inside : (L : List Name) (i : ℕ) → i < length L → is_among (get_or L i []) L ≡ true
inside [] i l = absurd (omega arith)
inside (y ∷ L) zero l = or_true (same_name y y) _ (same_name-self y)
inside (y ∷ L) (suc i) l = true_or (same_name (get_or L i []) y) _ (inside L i (omega arith))

own_place : (cs L : List Name) (i : ℕ) → Apart cs L → i < length L → place_of (get_or L i []) L ≡ Some i
unfolding Apart
own_place cs [] i a l = absurd (omega arith)
own_place cs (y ∷ L) zero a l = ap (λ b. cond b (Some 0) (option_map suc (place_of y L))) (same_name-self y)
own_place cs (y ∷ L) (suc i) a l =
    let other = among_apart (get_or L i []) y L (inside L i (omega arith)) a.0 in
    ap (λ b. cond b (Some 0) (option_map suc (place_of (get_or L i []) L))) other ∙ ap (option_map suc) (own_place cs L i a.2 (omega arith))

no_place : (cs L : List Name) (c : Name) → Apart cs L → is_among c cs ≡ true → place_of c L ≡ None
unfolding Apart
no_place cs [] c a among = refl
no_place cs (y ∷ L) c a among =
    ap (λ b. cond b (Some 0) (option_map suc (place_of c L))) (among_apart c y cs among a.1) ∙ ap (option_map suc) (no_place cs L c a.2 among)

-- Names, the innermost first, of which those that are used are plain.
pub record Ready (cs : List Name) (used : ℕ → Bool) (L : List Name) : Type 0 where
  apart : Apart cs L
  plain : (i : ℕ) → i < length L → used i ≡ true → is_plain (get_or L i []) ≡ true
  pub names : (i : ℕ) → i < length L → IsName (get_or L i [])

pub ready_fits : (cs L : List Name) (used : ℕ → Bool) (t : Named) → Ready cs used L → ((i : ℕ) → occurs i t ≡ true → used i ≡ true) → ((c : Name) → is_among c (constants t) ≡ true → is_among c cs ≡ true) → Below (length L) t → Findable L t
ready_fits cs L used t r u k b = record {
  variables = λ i o. let l = occurs_below (length L) i t b o in ap (λ p. cond p (place_of (get_or L i []) L) None) (r.plain i l (u i o)) ∙ own_place cs L i r.apart l;
  constant = λ c among. by c (is_plain c) (no_place cs L c r.apart (k c among));
}
  where
    by : (c : Name) (p : Bool) → place_of c L ≡ None → cond p (place_of c L) None ≡ None
    by c true e = e
    by c false e = refl

pub none_ready : (cs : List Name) (used : ℕ → Bool) → Ready cs used []
unfolding Apart
none_ready cs used = record { apart = tt; plain = λ i l u. absurd (omega arith); names = λ i l. absurd (omega arith) }

-- One local more.
pub one_ready : (cs done : List Name) (used later : ℕ → Bool) (x : Name) (u : Bool) → IsName x → 1 + length (done ++ cs) < 10 ^ 64 → u ≡ later 0 → ((i : ℕ) → later (suc i) ≡ true → used i ≡ true) → Ready cs used (reverse done) → Ready cs later (reverse (done ++ choice x u (done ++ cs) ∷ []))
unfolding Apart
one_ready cs done used later x u name fits e h r = subst (Ready cs later) (sym (reverse-append done (choice x u (done ++ cs) ∷ []))) (record { apart = (among_reversed _ done (among_split _ done cs free).0, (among_split _ done cs free).1, r.apart); plain = plain; names = names })
  where
    free : is_among (choice x u (done ++ cs)) (done ++ cs) ≡ false
    free = choice_free x u (done ++ cs) fits

    plain : (i : ℕ) → i < length (choice x u (done ++ cs) ∷ reverse done) → later i ≡ true → is_plain (get_or (choice x u (done ++ cs) ∷ reverse done) i []) ≡ true
    plain zero l o = choice_plain x u (done ++ cs) fits name.0 (e ∙ o)
    plain (suc i) l o = r.plain i (omega arith) (h i o)

    names : (i : ℕ) → i < length (choice x u (done ++ cs) ∷ reverse done) → IsName (get_or (choice x u (done ++ cs) ∷ reverse done) i [])
    names zero l = (choice_is_name x u (done ++ cs) fits name.0).0
    names (suc i) l = r.names i (omega arith)

pub ready_by : (cs L : List Name) (used later : ℕ → Bool) → Ready cs used L → ((i : ℕ) → later i ≡ true → used i ≡ true) → Ready cs later L
ready_by cs L used later r h = record { apart = r.apart; plain = λ i l o. r.plain i l (h i o); names = r.names }

pub same_length : (cs done : List Name) (xs : List (Name × Bool)) → length (named_locals cs done xs) ≡ length xs
same_length cs done [] = refl
same_length cs done (x ∷ xs) = ap suc (same_length cs (done ++ choice x.0 x.1 (done ++ cs) ∷ []) xs)

pub uses_length : (names : List Name) (t : Named) → length (uses names t) ≡ length names
uses_length [] t = refl
uses_length (x ∷ names) t = ap suc (uses_length names t)

-- The locals of a term.
pub locals_ready : (cs : List Name) (t : Named) (names done : List Name) → AllByRecursion IsName names → 1 + (length done + length names + length cs) < 10 ^ 64 → Ready cs (λ i. occurs (i + length names) t) (reverse done) → Ready cs (λ i. occurs i t) (reverse (done ++ named_locals cs done (uses names t)))
locals_ready cs t [] done all b r = subst (λ l. Ready cs (λ i. occurs i t) (reverse l)) (sym (append-nil done)) (ready_by cs (reverse done) _ _ r (λ i o. ap (λ j. occurs j t) (let m : i + 0 ≡ i = omega arith in m) ∙ o))
locals_ready cs t (x ∷ names) done all b r =
    let y = choice x (occurs (length names) t) (done ++ cs) in
    let l = length-append done cs in
    let m = length-append done (y ∷ []) in
    let next = one_ready cs done (λ i. occurs (i + suc (length names)) t) (λ i. occurs (i + length names) t) x (occurs (length names) t) all.0 (omega arith) (ap (λ j. occurs j t) (let e : length names ≡ 0 + length names = omega arith in e)) (λ i o. ap (λ j. occurs j t) (let e : i + suc (length names) ≡ suc i + length names = omega arith in e) ∙ o) r in
    subst (λ l. Ready cs (λ i. occurs i t) (reverse l)) (append_assoc done (y ∷ []) (named_locals cs (done ++ y ∷ []) (uses names t))) (locals_ready cs t names (done ++ y ∷ []) all.1 (omega arith) next)
