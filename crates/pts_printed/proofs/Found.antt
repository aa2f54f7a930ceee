-- The names of a spelled term are found again: it is resolved to the term with its chosen names.
use Rattle.std.proofs.Common.{ℕ, zero, suc, ◌<◌, ◌+◌, ◌≡◌, refl, sym, ◌∙◌, ap, List, [], ◌∷◌, ◌++◌, Bool, true, false, cond, not, ◌&&◌, ◌||◌, nat_eq, Option, Some, None, option_map, Ok, length, get_or, arith}
use Rattle.pts_names.specs.Name.{Name, same_name, is_identifier, underscore, is_plain}
use Rattle.pts_names.proofs.Same.{same_name-self}
use Rattle.pts_terms.specs.Tree.{Named, sort, const, var, app, named_lam, named_pi, named_let, bare}
use Rattle.pts_terms.specs.Limits.{size_of}
use Rattle.pts_grammar.proofs.Underscore.{underscore_is_identifier}
use Rattle.pts_parser.specs.Resolution.{place_of, binder_of, constant_at, name_at, sort_at, resolved}
use Rattle.pts_printed.specs.Choice.{occurs, if_one_part, constants, occurring, forbidden, is_among, chosen}
use Rattle.pts_printed.specs.Spelled.{product_name, spelled}
use Rattle.pts_printed.specs.Laws.{IsName, HasNames, SortsBelow, Stands, SpellSorts}

-- Booleans.
pub or_true : (a b : Bool) → a ≡ true → (a || b) ≡ true
or_true true b e = refl
or_true false b e = absurd (cc e)

pub true_or : (a b : Bool) → b ≡ true → (a || b) ≡ true
true_or true b e = refl
true_or false b e = e

pub or_false : (a b : Bool) → (a || b) ≡ false → (a ≡ false) × (b ≡ false)
or_false true b e = absurd (cc e)
or_false false b e = (refl, e)

-- What is among names.
pub among_front : (x : Name) (F G : List Name) → is_among x F ≡ true → is_among x (F ++ G) ≡ true
among_front x [] G e = absurd (cc e)
among_front x (y ∷ F) G e = by (same_name x y) e (among_front x F G)
  where
    by : (b : Bool) → (b || is_among x F) ≡ true → (is_among x F ≡ true → is_among x (F ++ G) ≡ true) → (b || is_among x (F ++ G)) ≡ true
    by true e h = refl
    by false e h = h e

pub among_back : (x : Name) (F G : List Name) → is_among x G ≡ true → is_among x (F ++ G) ≡ true
among_back x [] G e = e
among_back x (y ∷ F) G e = true_or (same_name x y) _ (among_back x F G e)

-- A chosen name y, over the names L and before a body: it is an identifier; where the variable occurs it can be found;
-- and it is no other name that is looked up in the body.
pub record Suits (y : Name) (L : List Name) (body : Named) : Type 0 where
  pub one_part : is_identifier y ≡ true
  pub found : occurs 0 body ≡ true → is_plain y ≡ true
  pub free : (z : Name) → is_among z (forbidden L body) ≡ true → is_plain z ≡ true → same_name z y ≡ false

-- Each variable that occurs in the term is found by its name, and no constant's name is that of a variable.
pub record Findable (L : List Name) (t : Named) : Type 0 where
  pub variables : (i : ℕ) → occurs i t ≡ true → binder_of (get_or L i []) L ≡ Some i
  pub constant : (c : Name) → is_among c (constants t) ≡ true → binder_of c L ≡ None

-- Looking up a name behind one binder more.
looks_past_as : (z y : Name) (L : List Name) (p : Bool) → is_plain z ≡ p → (is_plain z ≡ true → same_name z y ≡ false) → cond p (place_of z (y ∷ L)) None ≡ option_map suc (cond p (place_of z L) None)
looks_past_as z y L true e h = ap (λ b. cond b (Some 0) (option_map suc (place_of z L))) (h e)
looks_past_as z y L false e h = refl

pub looks_past : (z y : Name) (L : List Name) → (is_plain z ≡ true → same_name z y ≡ false) → binder_of z (y ∷ L) ≡ option_map suc (binder_of z L)
looks_past z y L h = looks_past_as z y L (is_plain z) refl h

pub found_first : (y : Name) (L : List Name) → is_plain y ≡ true → binder_of y (y ∷ L) ≡ Some 0
found_first y L p = rw (binder_of, p, place_of, same_name-self y) refl

found_is_plain : (z : Name) (L : List Name) (i : ℕ) → binder_of z L ≡ Some i → is_plain z ≡ true
found_is_plain z L i e = by (is_plain z) e
  where
    by : (p : Bool) → cond p (place_of z L) None ≡ Some i → p ≡ true
    by true e = refl
    by false e = absurd (cc e)

place_is_inside : (z : Name) (L : List Name) (i : ℕ) → place_of z L ≡ Some i → i < length L
place_is_inside z [] i e = absurd (cc e)
place_is_inside z (y ∷ L) i e = by (same_name z y) (place_of z L) (λ j h. place_is_inside z L j h) e
  where
    by : (b : Bool) (o : Option ℕ) → ((j : ℕ) → o ≡ Some j → j < length L) → cond b (Some 0) (option_map suc o) ≡ Some i → i < length (y ∷ L)
    by true o h e = let m : 0 ≡ i = cc e in omega arith
    by false None h e = absurd (cc e)
    by false (Some j) h e = let m : suc j ≡ i = cc e in let l = h j refl in omega arith

found_is_inside : (z : Name) (L : List Name) (i : ℕ) → binder_of z L ≡ Some i → i < length L
found_is_inside z L i e = place_is_inside z L i (ap (λ p. cond p (place_of z L) None) (sym (found_is_plain z L i e)) ∙ e)

-- The name of an outer variable that occurs is among those that occur.
pub name_occurs : (k : ℕ) (L : List Name) (t : Named) (i : ℕ) → i < length L → occurs (k + i) t ≡ true → is_among (get_or L i []) (occurring k L t) ≡ true
name_occurs k [] t i l o = absurd (omega arith)
name_occurs k (x ∷ L) t zero l o = by (occurs k t) (ap (λ j. occurs j t) (let m : k ≡ k + 0 = omega arith in m) ∙ o)
  where
    by : (b : Bool) → b ≡ true → is_among x (cond b (x ∷ occurring (suc k) L t) (occurring (suc k) L t)) ≡ true
    by true e = or_true (same_name x x) _ (same_name-self x)
    by false e = absurd (cc e)
name_occurs k (x ∷ L) t (suc i) l o = by (occurs k t) (name_occurs (suc k) L t i (omega arith) (ap (λ j. occurs j t) (let m : suc k + i ≡ k + suc i = omega arith in m) ∙ o))
  where
    by : (b : Bool) → is_among (get_or L i []) (occurring (suc k) L t) ≡ true → is_among (get_or L i []) (cond b (x ∷ occurring (suc k) L t) (occurring (suc k) L t)) ≡ true
    by true e = true_or (same_name (get_or L i []) x) _ e
    by false e = e

-- Behind a binder with a good name.
module _ (y : Name) (L : List Name) (body : Named) (good : Suits y L body) where
  variables_under : ((i : ℕ) → occurs (suc i) body ≡ true → binder_of (get_or L i []) L ≡ Some i) → (i : ℕ) → occurs i body ≡ true → binder_of (get_or (y ∷ L) i []) (y ∷ L) ≡ Some i
  variables_under outer zero o = found_first y L (good.found o)
  variables_under outer (suc i) o =
      let e = outer i o in
      let among : is_among (get_or L i []) (forbidden L body) ≡ true = among_front _ (occurring 1 L body) (constants body) (name_occurs 1 L body i (found_is_inside _ L i e) (ap (λ j. occurs j body) (let m : 1 + i ≡ suc i = omega arith in m) ∙ o)) in
      looks_past (get_or L i []) y L (good.free (get_or L i []) among) ∙ ap (option_map suc) e

  constants_under : ((c : Name) → is_among c (constants body) ≡ true → binder_of c L ≡ None) → (c : Name) → is_among c (constants body) ≡ true → binder_of c (y ∷ L) ≡ None
  constants_under outer c among = looks_past c y L (good.free c (among_back c (occurring 1 L body) (constants body) among)) ∙ ap (option_map suc) (outer c among)

  pub under : ((i : ℕ) → occurs (suc i) body ≡ true → binder_of (get_or L i []) L ≡ Some i) → ((c : Name) → is_among c (constants body) ≡ true → binder_of c L ≡ None) → Findable (y ∷ L) body
  under v c = record { variables = variables_under v; constant = constants_under c }

-- A product whose variable does not occur may be called `_`.
pub arrow_good : (L : List Name) (body : Named) → occurs 0 body ≡ false → Suits underscore L body
arrow_good L body e = record {
  one_part = underscore_is_identifier;
  found = λ o. absurd (let m : true ≡ false = sym o ∙ e in cc m);
  free = λ z among plain. not_underscore z plain;
}
  where
    not_underscore : (z : Name) → is_plain z ≡ true → same_name z underscore ≡ false
    not_underscore z plain = by (is_identifier z) (same_name z underscore) plain
      where
        by : (a b : Bool) → (a && not b) ≡ true → b ≡ false
        by a false e = refl
        by true true e = absurd (cc e)
        by false true e = absurd (cc e)

pub product_good : (x : Name) (L : List Name) (body : Named) → (occurs 0 body ≡ true → Suits (chosen x L body) L body) → Suits (product_name x L body) L body
product_good x L body h = by (occurs 0 body) refl
  where
    by : (b : Bool) → occurs 0 body ≡ b → Suits (cond b (chosen x L body) underscore) L body
    by true e = h e
    by false e = arrow_good L body e

-- The term with its chosen names.
abbrev pub renamed : List Name → Named → Named
renamed L (sort s) = sort s
renamed L (const c) = const c
renamed L (var i) = var i
renamed L (app f a) = app (renamed L f) (renamed L a)
renamed L (named_lam x A b) = named_lam (chosen x L b) (renamed L A) (renamed (chosen x L b ∷ L) b)
renamed L (named_pi x A B) = named_pi (product_name x L B) (renamed L A) (renamed (product_name x L B ∷ L) B)
renamed L (named_let x a A b) = named_let (chosen x L b) (renamed L a) (renamed L A) (renamed (chosen x L b ∷ L) b)

pub renamed_bare : (L : List Name) (t : Named) → bare (renamed L t) ≡ bare t
renamed_bare L (sort s) = refl
renamed_bare L (const c) = refl
renamed_bare L (var i) = refl
renamed_bare L (app f a) = rw (renamed_bare L f, renamed_bare L a) refl
renamed_bare L (named_lam x A b) = rw (renamed_bare L A, renamed_bare (chosen x L b ∷ L) b) refl
renamed_bare L (named_pi x A B) = rw (renamed_bare L A, renamed_bare (product_name x L B ∷ L) B) refl
renamed_bare L (named_let x a A b) = rw (renamed_bare L a, renamed_bare L A, renamed_bare (chosen x L b ∷ L) b) refl

-- Parts of what fits.
fits_function : (L : List Name) (f a : Named) → Findable L (app f a) → Findable L f
fits_function L f a h = record {
  variables = λ i o. h.variables i (or_true (occurs i f) (occurs i a) o);
  constant = λ c m. h.constant c (among_front c (constants f) (constants a) m);
}

fits_argument : (L : List Name) (f a : Named) → Findable L (app f a) → Findable L a
fits_argument L f a h = record {
  variables = λ i o. h.variables i (true_or (occurs i f) (occurs i a) o);
  constant = λ c m. h.constant c (among_back c (constants f) (constants a) m);
}

-- A binder with its type and its body.
record FitsParts (L : List Name) (A b : Named) : Type 0 where
  type_fits : Findable L A
  outer_variables : (i : ℕ) → occurs (suc i) b ≡ true → binder_of (get_or L i []) L ≡ Some i
  outer_constants : (c : Name) → is_among c (constants b) ≡ true → binder_of c L ≡ None

binder_parts : (L : List Name) (A b : Named) → ((i : ℕ) → (occurs i A || occurs (suc i) b) ≡ true → binder_of (get_or L i []) L ≡ Some i) → ((c : Name) → is_among c (constants A ++ constants b) ≡ true → binder_of c L ≡ None) → FitsParts L A b
binder_parts L A b v c = record {
  type_fits = record { variables = λ i o. v i (or_true (occurs i A) (occurs (suc i) b) o); constant = λ d m. c d (among_front d (constants A) (constants b) m) };
  outer_variables = λ i o. v i (true_or (occurs i A) (occurs (suc i) b) o);
  outer_constants = λ d m. c d (among_back d (constants A) (constants b) m);
}

let_fits : (L : List Name) (x : Name) (a A b : Named) → Findable L (named_let x a A b) → Findable L a × FitsParts L A b
let_fits L x a A b h = (
  record { variables = λ i o. h.variables i (or_true (occurs i a) (occurs i A || occurs (suc i) b) o); constant = λ c m. h.constant c (among_front c (constants a) (constants A ++ constants b) m) },
  binder_parts L A b (λ i o. h.variables i (true_or (occurs i a) (occurs i A || occurs (suc i) b) o)) (λ c m. h.constant c (among_back c (constants a) (constants A ++ constants b) m)),
)

-- The names are good that are chosen for bodies of such a size.
abbrev pub ChoosesWell : ℕ → Type 0
ChoosesWell most = (x : Name) (L : List Name) (body : Named) → IsName x → length L + size_of body < most → Suits (chosen x L body) L body

itself : (i : ℕ) → nat_eq i i ≡ true
itself i = grind arith

module _ (sorts : List (List ℕ)) (scope : Name → Option Name) (spellings : SpellSorts sorts) (most : ℕ) (well : ChoosesWell most) where
  pub found_again : (t : Named) (L : List Name) → length L + size_of t < most → HasNames t → SortsBelow (length sorts) t → Stands scope t → Findable L t → resolved sorts scope L (spelled sorts L t) ≡ Ok (renamed L t)
  found_again (sort s) L l n b k h = ap (λ o. sort_at o 0 (get_or sorts s [])) (spellings.1 s b)
  found_again (const c) L l n b k h = constant_again (is_identifier c) refl
    where
      constant_again : (p : Bool) → is_identifier c ≡ p → name_at (binder_of c L) (scope c) 0 c ≡ Ok (const c)
      constant_again true e = ap (λ o. name_at o (scope c) 0 c) (h.constant c (rw (constants, if_one_part, e, is_among, same_name-self c) refl)) ∙ ap (λ o. constant_at o 0 c) k
      constant_again false e = ap (λ o. name_at o (scope c) 0 c) (let m : binder_of c L ≡ None = rw (binder_of, is_plain, e) refl in m) ∙ ap (λ o. constant_at o 0 c) k
  found_again (var i) L l n b k h = ap (λ o. name_at o (scope (get_or L i [])) 0 (get_or L i [])) (h.variables i (itself i))
  found_again (app f a) L l n b k h =
      let e = found_again f L (omega arith) n.0 b.0 k.0 (fits_function L f a h) in
      let e2 = found_again a L (omega arith) n.1 b.1 k.1 (fits_argument L f a h) in
      rw (e, e2) refl
  found_again (named_lam x A t) L l n b k h =
      let p = binder_parts L A t h.variables h.constant in
      let good = well x L t n.0 (omega arith) in
      let e = found_again A L (omega arith) n.1 b.0 k.0 p.type_fits in
      let e2 = found_again t (chosen x L t ∷ L) (omega arith) n.2 b.1 k.1 (under (chosen x L t) L t good p.outer_variables p.outer_constants) in
      rw (e, e2) refl
  found_again (named_pi x A t) L l n b k h =
      let p = binder_parts L A t h.variables h.constant in
      let good = product_good x L t (λ o. well x L t n.0 (omega arith)) in
      let e = found_again A L (omega arith) n.1 b.0 k.0 p.type_fits in
      let e2 = found_again t (product_name x L t ∷ L) (omega arith) n.2 b.1 k.1 (under (product_name x L t) L t good p.outer_variables p.outer_constants) in
      rw (e, e2) refl
  found_again (named_let x a A t) L l n b k h =
      let (ha, p) = let_fits L x a A t h in
      let good = well x L t n.0 (omega arith) in
      let e0 = found_again a L (omega arith) n.1 b.0 k.0 ha in
      let e = found_again A L (omega arith) n.2 b.1 k.1 p.type_fits in
      let e2 = found_again t (chosen x L t ∷ L) (omega arith) n.3 b.2 k.2 (under (chosen x L t) L t good p.outer_variables p.outer_constants) in
      rw (e0, e, e2) refl
