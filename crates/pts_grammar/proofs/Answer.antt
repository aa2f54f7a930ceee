-- The parser's answer, in terms of the grammar.
use Rattle.std.proofs.Common.{ℕ, ◌≡◌, ◌≤◌, ◌<◌, refl, sym, ◌∙◌, ap, subst, arith, List, [], ◌∷◌, Bool, true, false, cond, Some, None, max, ◌+◌, nat_le, length, drop, zero, suc}
use Rattle.pts_names.specs.Name.{Name}
use Rattle.pts_tokens.specs.declared.token.Token.{Token}
use Rattle.pts_tokens.specs.Tokens.{Spot}
use Rattle.pts_grammar.specs.declared.kind.Kind.{Kind}
use Rattle.pts_grammar.specs.declared.kind.Kind.TheVariants as kind
use Rattle.pts_grammar.specs.declared.frame.Binder.{Binder}
use Rattle.pts_grammar.specs.declared.frame.Binder.TheVariants.{Lam, Pi}
use Rattle.pts_grammar.specs.Syntax.{Syntax, app, let_in, depth_of}
use Rattle.pts_grammar.specs.Grammar.{Reads}
use Rattle.pts_grammar.specs.Machine.{syntax, bound_syntax, ParseOutcome, read, expected, too_deep, begin, run}
use Rattle.pts_grammar.specs.Refusals.{Refused, NoneTooMany, FirstTooMany, TooDeepTerm}
use Rattle.pts_grammar.specs.Seen.{Subtree, within, with_two, with_three, parts}
use Rattle.pts_grammar.specs.Open.{more}
use Rattle.pts_grammar.proofs.Carried.{on_outcome, same_run}
use Rattle.pts_grammar.proofs.Sound.{machine_sound}
use Rattle.pts_grammar.proofs.Refusals.{refusals_are_the_grammars, end_is_wanted}
use Rattle.pts_grammar.proofs.TooDeep.{too_deep_is_too_many, none_too_many}

deeper : (n m k : ℕ) (P : ℕ → ℕ → ℕ → ℕ) → n ≤ k → nat_le n 2000 ≡ false → nat_le k 2000 ≡ false
deeper n m k P h e = grind (arith, e, h)

-- A part is kept if the syntax is not too deep.
of_two : (f : Syntax → Syntax → Syntax) → ((T U : Syntax) → depth_of (f T U) ≡ max (depth_of T) (depth_of U) + 1) → (T U : Syntax) → within (f T U) ≡ with_two f (within T) (within U)
of_two f d T U = by (nat_le (depth_of T) 2000) (nat_le (depth_of U) 2000) refl refl
  where
    shallow : (n m k : ℕ) → k ≡ max n m + 1 → nat_le n 2000 ≡ false → nat_le k 2000 ≡ false
    shallow n m k h e = grind (arith, e, h)

    shallow_right : (n m k : ℕ) → k ≡ max n m + 1 → nat_le m 2000 ≡ false → nat_le k 2000 ≡ false
    shallow_right n m k h e = grind (arith, e, h)

    none : nat_le (depth_of (f T U)) 2000 ≡ false → within (f T U) ≡ None
    none e = ap (λ b. cond b (Some (f T U)) None) e

    by : (a b : Bool) → nat_le (depth_of T) 2000 ≡ a → nat_le (depth_of U) 2000 ≡ b → within (f T U) ≡ with_two f (cond a (Some T) None) (cond b (Some U) None)
    by true true e g = refl
    by true false e g = none (shallow_right (depth_of T) (depth_of U) (depth_of (f T U)) (d T U) g)
    by false b e g = none (shallow (depth_of T) (depth_of U) (depth_of (f T U)) (d T U) e)

of_three : (f : Syntax → Syntax → Syntax → Syntax) → ((T U V : Syntax) → depth_of (f T U V) ≡ max (max (depth_of T) (depth_of U)) (depth_of V) + 1) → (T U V : Syntax) → within (f T U V) ≡ with_three f (within T) (within U) (within V)
of_three f d T U V = by (nat_le (depth_of T) 2000) (nat_le (depth_of U) 2000) (nat_le (depth_of V) 2000) refl refl refl
  where
    first : (n m l k : ℕ) → k ≡ max (max n m) l + 1 → nat_le n 2000 ≡ false → nat_le k 2000 ≡ false
    first n m l k h e = grind (arith, e, h)

    second : (n m l k : ℕ) → k ≡ max (max n m) l + 1 → nat_le m 2000 ≡ false → nat_le k 2000 ≡ false
    second n m l k h e = grind (arith, e, h)

    third : (n m l k : ℕ) → k ≡ max (max n m) l + 1 → nat_le l 2000 ≡ false → nat_le k 2000 ≡ false
    third n m l k h e = grind (arith, e, h)

    none : nat_le (depth_of (f T U V)) 2000 ≡ false → within (f T U V) ≡ None
    none e = ap (λ b. cond b (Some (f T U V)) None) e

    by : (a b c : Bool) → nat_le (depth_of T) 2000 ≡ a → nat_le (depth_of U) 2000 ≡ b → nat_le (depth_of V) 2000 ≡ c → within (f T U V) ≡ with_three f (cond a (Some T) None) (cond b (Some U) None) (cond c (Some V) None)
    by true true true e g h = refl
    by true true false e g h = none (third (depth_of T) (depth_of U) (depth_of V) (depth_of (f T U V)) (d T U V) h)
    by true false c e g h = none (second (depth_of T) (depth_of U) (depth_of V) (depth_of (f T U V)) (d T U V) g)
    by false b c e g h = none (first (depth_of T) (depth_of U) (depth_of V) (depth_of (f T U V)) (d T U V) e)

bound_depth : (b : Binder) (x : Name) (A T : Syntax) → depth_of (bound_syntax b x A T) ≡ max (depth_of A) (depth_of T) + 1
bound_depth Lam x A T = refl
bound_depth Pi x A T = refl

-- What the parser builds is the syntax, if that is not too deep.
carried : (length : ℕ) (ts : List Spot) → run parts more length (begin []) ts ≡ on_outcome syntax parts within (λ p s. refl) (λ p x. refl) (of_two app (λ T U. refl)) (λ b x. of_two (bound_syntax b x) (bound_depth b x)) (λ x. of_three (let_in x) (λ T U V. refl)) (run syntax more length (begin []) ts)
carried length ts = same_run syntax parts within (λ p s. refl) (λ p x. refl) (of_two app (λ T U. refl)) (λ b x. of_two (bound_syntax b x) (bound_depth b x)) (λ x. of_three (let_in x) (λ T U V. refl)) more length ts (begin [])

-- Each outcome of the parser, by that for syntax.
pub answers_expected : (length p : ℕ) (k : Kind) (ts : List Spot) → expected p k ≡ run parts more length (begin []) ts → Refused length ts k p × NoneTooMany 2000 ts
answers_expected length p k ts h = by (run syntax more length (begin []) ts) refl (h ∙ carried length ts)
  where
    by : (o : ParseOutcome Syntax) → run syntax more length (begin []) ts ≡ o → expected p k ≡ on_outcome syntax parts within (λ p s. refl) (λ p x. refl) (of_two app (λ T U. refl)) (λ b x. of_two (bound_syntax b x) (bound_depth b x)) (λ x. of_three (let_in x) (λ T U V. refl)) o → Refused length ts k p × NoneTooMany 2000 ts
    by (expected q j) e g =
        let places : p ≡ q = cc g in
        let kinds : k ≡ j = cc g in
        (refusals_are_the_grammars more length p k ts (e ∙ sym (ap (λ x. expected x k) places ∙ ap (expected q) kinds)), none_too_many 2000 length ts (expected q j) e (λ n h. absurd (cc h)))
    by (read T us) e g = absurd (cc g)
    by (too_deep q) e g = absurd (cc g)

pub answers_too_deep : (length p : ℕ) (ts : List Spot) → too_deep p ≡ run parts more length (begin []) ts → FirstTooMany 2000 ts p
answers_too_deep length p ts h = by (run syntax more length (begin []) ts) refl (h ∙ carried length ts)
  where
    by : (o : ParseOutcome Syntax) → run syntax more length (begin []) ts ≡ o → too_deep p ≡ on_outcome syntax parts within (λ p s. refl) (λ p x. refl) (of_two app (λ T U. refl)) (λ b x. of_two (bound_syntax b x) (bound_depth b x)) (λ x. of_three (let_in x) (λ T U V. refl)) o → FirstTooMany 2000 ts p
    by (too_deep q) e g = let places : p ≡ q = cc g in too_deep_is_too_many 2000 length p ts (e ∙ sym (ap too_deep places))
    by (read T us) e g = absurd (cc g)
    by (expected q k) e g = absurd (cc g)

-- What was read, with its syntax.
pub record IsRead (length : ℕ) (ts : List Spot) (t : Subtree) (rest : List Spot) : Type 0 where
  pub whole : Syntax
  pub is_read : run syntax more length (begin []) ts ≡ read whole rest
  pub kept : t ≡ within whole

pub answers_read : (length : ℕ) (ts : List Spot) (t : Subtree) (rest : List Spot) → read t rest ≡ run parts more length (begin []) ts → IsRead length ts t rest
answers_read length ts t rest h = by (run syntax more length (begin []) ts) refl (h ∙ carried length ts)
  where
    by : (o : ParseOutcome Syntax) → run syntax more length (begin []) ts ≡ o → read t rest ≡ on_outcome syntax parts within (λ p s. refl) (λ p x. refl) (of_two app (λ T U. refl)) (λ b x. of_two (bound_syntax b x) (bound_depth b x)) (λ x. of_three (let_in x) (λ T U V. refl)) o → IsRead length ts t rest
    by (read T us) e g =
        let parts_same : t ≡ within T = cc g in
        let rests : rest ≡ us = cc g in
        record { whole = T; is_read = e ∙ ap (read T) (sym rests); kept = parts_same }
    by (expected q k) e g = absurd (cc g)
    by (too_deep q) e g = absurd (cc g)

-- The tree is the syntax, and not too deep; or there is none.
kept_is : (T U : Syntax) → Some U ≡ within T → (U ≡ T) × (depth_of T ≤ 2000)
kept_is T U = by (nat_le (depth_of T) 2000) refl
  where
    by : (b : Bool) → nat_le (depth_of T) 2000 ≡ b → Some U ≡ cond b (Some T) None → (U ≡ T) × (depth_of T ≤ 2000)
    by true e h = (cc h, grind (arith, e))
    by false e h = absurd (cc h)

not_kept : (T : Syntax) → None ≡ within T → 2000 < depth_of T
not_kept T = by (nat_le (depth_of T) 2000) refl
  where
    by : (b : Bool) → nat_le (depth_of T) 2000 ≡ b → None ≡ cond b (Some T) None → 2000 < depth_of T
    by true e h = absurd (cc h)
    by false e h = grind (arith, e)

none_read : (length : ℕ) (ts : List Spot) (T : Syntax) (rest : List Spot) → run syntax more length (begin []) ts ≡ read T rest → NoneTooMany 2000 ts
none_read length ts T rest e = none_too_many 2000 length ts (read T rest) e (λ n h. absurd (cc h))

pub answers_tree : (length : ℕ) (ts : List Spot) (U : Syntax) → read (Some U) [] ≡ run parts more length (begin []) ts → Reads ts U [] × (depth_of U ≤ 2000) × NoneTooMany 2000 ts
answers_tree length ts U h =
    let r = answers_read length ts (Some U) [] h in
    let (same, shallow) = kept_is r.whole U r.kept in
    (subst (λ T. Reads ts T []) (sym same) (machine_sound more length ts r.whole [] r.is_read), subst (λ T. depth_of T ≤ 2000) (sym same) shallow, none_read length ts r.whole [] r.is_read)

pub answers_deep : (length : ℕ) (ts : List Spot) → read None [] ≡ run parts more length (begin []) ts → TooDeepTerm 2000 ts × NoneTooMany 2000 ts
answers_deep length ts h =
    let r = answers_read length ts None [] h in
    ((r.whole, machine_sound more length ts r.whole [] r.is_read, not_kept r.whole r.kept), none_read length ts r.whole [] r.is_read)

pub answers_more : (length p : ℕ) (ts rest : List Spot) (t : Subtree) (u : Token) → read t ((p, u) ∷ rest) ≡ run parts more length (begin []) ts → Refused length ts kind.End p × NoneTooMany 2000 ts
answers_more length p ts rest t u h =
    let r = answers_read length ts t ((p, u) ∷ rest) h in
    (end_is_wanted more length p u r.whole ts rest r.is_read, none_read length ts r.whole ((p, u) ∷ rest) r.is_read)

pub drop_all : {A : Type 0} (n : ℕ) (xs : List A) → length xs ≤ n → drop n xs ≡ []
drop_all zero [] h = refl
drop_all (suc n) [] h = refl
drop_all zero (x ∷ xs) h = absurd (omega arith)
drop_all (suc n) (x ∷ xs) h = drop_all n xs (omega arith)
