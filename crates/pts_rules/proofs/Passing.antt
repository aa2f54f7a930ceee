-- What it means that no test of a list fails, and what the tests of the table of forms say.
use Rattle.std.proofs.Common.{ℕ, List, [], ◌∷◌, Bool, true, false, ◌≡◌, refl, sym, ap, ◌∙◌, Option, Some, None}
use Rattle.std.specs.Prelude.{is_some}
use Rattle.std.specs.Option.{option_map, option_and_then}
use Rattle.pts_terms.specs.Tree.{Bare, sort, const, var, pi, same_term}
use Rattle.pts_terms.proofs.Same.{same_term_eq, same_term_self}
use Rattle.pts_ctx.proofs.Find.{some_same}
use Rattle.pts_rules.specs.declared.why.Why.{Why}
use Rattle.pts_rules.specs.Parts.{sort_in, const_in, var_in, domain_in, codomain_in, is_that}
use Rattle.pts_rules.specs.Conditions.{first_failing, or_fault, in_order}

abbrev pub AllPass : List (Bool × Why) → Type 0
AllPass [] = Unit {0}
AllPass (t ∷ ts) = (t.0 ≡ true) × AllPass ts

first_passes : (b : Bool) (w : Why) (ts : List (Bool × Why)) → first_failing ((b, w) ∷ ts) ≡ None → (b ≡ true) × (first_failing ts ≡ None)
first_passes true w ts h = (refl, h)
first_passes false w ts h = absurd (cc h)

pub all_pass : (ts : List (Bool × Why)) → first_failing ts ≡ None → AllPass ts
all_pass [] h = tt
all_pass (t ∷ ts) h = let p = first_passes t.0 t.1 ts h in (p.0, all_pass ts p.1)

pub none_fails : (ts : List (Bool × Why)) → AllPass ts → first_failing ts ≡ None
none_fails [] h = refl
none_fails (t ∷ ts) h = rw h.0 (none_fails ts h.1)

pub neither : (v w : Option Why) → or_fault v w ≡ None → (v ≡ None) × (w ≡ None)
neither None w h = (refl, h)
neither (Some v) w h = absurd (cc h)

pub all_in_order : (kinds places terms : List (Bool × Why)) → AllPass kinds → AllPass places → AllPass terms → in_order kinds places terms ≡ None
all_in_order kinds places terms k p t = rw (none_fails kinds k, none_fails places p, none_fails terms t) refl

pub ordered_pass : (kinds places terms : List (Bool × Why)) → in_order kinds places terms ≡ None → AllPass kinds × AllPass places × AllPass terms
ordered_pass kinds places terms h =
    let (k, r) = neither (first_failing kinds) (or_fault (first_failing places) (first_failing terms)) h in
    let (p, t) = neither (first_failing places) (first_failing terms) r in
    (all_pass kinds k, all_pass places p, all_pass terms t)

pub pair_passes : (kinds terms : List (Bool × Why)) → or_fault (first_failing kinds) (first_failing terms) ≡ None → AllPass kinds × AllPass terms
pair_passes kinds terms h =
    let (k, t) = neither (first_failing kinds) (first_failing terms) h in
    (all_pass kinds k, all_pass terms t)

pub some_is : {A : Type 0} (o : Option A) → is_some o ≡ true → (a : A) × (o ≡ Some a)
some_is None h = absurd (cc h)
some_is (Some a) h = (a, refl)

pub map_is : {A B : Type 0} (f : A → B) (o : Option A) (b : B) → option_map f o ≡ Some b → (a : A) × (o ≡ Some a) × (f a ≡ b)
map_is f None b h = absurd (cc h)
map_is f (Some a) b h = (a, refl, some_same h)

pub then_is : {A B : Type 0} (f : A → Option B) (o : Option A) (b : B) → option_and_then f o ≡ Some b → (a : A) × (o ≡ Some a) × (f a ≡ Some b)
then_is f None b h = absurd (cc h)
then_is f (Some a) b h = (a, refl, h)

-- What is made of a known part.
pub map_of : {A B : Type 0} (f : A → B) {o : Option A} {a : A} {b : B} → o ≡ Some a → option_map f o ≡ Some b → f a ≡ b
map_of f p q = some_same (sym (ap (option_map f) p) ∙ q)

pub is_same : {t u : Bare} → t ≡ u → same_term t u ≡ true
is_same {t} {u} e = rw e (same_term_self u)

pub that_is : (t : Bare) (o : Option Bare) → is_that t o ≡ true → o ≡ Some t
that_is t None h = absurd (cc h)
that_is t (Some u) h = ap Some (sym (same_term_eq t u h))

pub sort_is : (t : Bare) (s : ℕ) → sort_in t ≡ Some s → t ≡ sort s
sort_is (sort r) s h = ap sort (some_same h)
sort_is _ s h = absurd (cc h)

pub const_is : (t : Bare) (x : List ℕ) → const_in t ≡ Some x → t ≡ const x
const_is (const y) x h = ap const (some_same h)
const_is _ x h = absurd (cc h)

pub var_is : (t : Bare) (i : ℕ) → var_in t ≡ Some i → t ≡ var i
var_is (var j) i h = ap var (some_same h)
var_is _ i h = absurd (cc h)

-- A term that has a domain and a codomain is their product.
pub pi_is : (t A B : Bare) → domain_in t ≡ Some A → codomain_in t ≡ Some B → t ≡ pi A B
pi_is (pi C D) A B p q = cc (some_same p, some_same q)
pi_is _ A B p q = absurd (cc p)
