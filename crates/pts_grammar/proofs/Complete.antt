-- What the grammar reads, the machine reads.
use Rattle.std.proofs.Common.{ℕ, ◌≡◌, refl, ◌∙◌, ap, List, [], ◌∷◌, Bool, true, false, cond, Option, Some, None, ◌⊎◌, inl, inr}
use Rattle.pts_names.specs.Name.{Name, is_identifier, underscore}
use Rattle.pts_tokens.specs.declared.token.Token.{Token}
use Rattle.pts_tokens.specs.declared.token.Token.TheVariants.{Colon, Assign, Arrow, Open, Sort, Name as Word}
use Rattle.pts_tokens.specs.Tokens.{Spot}
use Rattle.pts_grammar.specs.declared.kind.Kind.TheVariants.{Name as name_wanted}
use Rattle.pts_grammar.specs.declared.frame.Binder.{Binder}
use Rattle.pts_grammar.specs.declared.frame.Binder.TheVariants.{Lam, Pi}
use Rattle.pts_grammar.specs.Syntax.{Syntax, pi, let_in}
use Rattle.pts_grammar.specs.Grammar.{Reads, abstraction, product, definition, application, arrow, App, atoms, Args, no_more, one_more, Atom, a_sort, a_name, parentheses}
use Rattle.pts_grammar.specs.Machine.{syntax, bound_syntax, Frame, in_parens, at_type, at_body, let_value, let_type, let_body, behind_arrow, State, begin, binder, binder_sign, let_name, let_sign, after, Move, go, stay, fail, deep, ParseOutcome, read, expected, too_deep, opened, applied_to, closing, opening, if_plain, step, whole, run}

-- The open constructs, with syntax.
abbrev pub Frames : Type 0
Frames = List (Frame Syntax)

-- Whether a token goes on with an application or makes a product of it.
unfoldable pub continues : Token → Bool
continues (Sort s) = true
continues (Word x) = true
continues Open = true
continues Arrow = true
continues _ = false

-- No token there goes on with a term.
unfoldable pub Ends : List Spot → Type 0
Ends [] = Unit {0}
Ends (t ∷ us) = continues t.1 ≡ false

-- One outcome is the other, or a parenthesis was open too many.
pub data Agrees : ParseOutcome Syntax → ParseOutcome Syntax → Type 0 where
  exactly : {a b : ParseOutcome Syntax} → a ≡ b → Agrees a b
  cut_off : {a b : ParseOutcome Syntax} (p : ℕ) → a ≡ too_deep p → Agrees a b

pub and_so : {a b c : ParseOutcome Syntax} → Agrees a b → Agrees b c → Agrees a c
and_so (exactly e) (exactly f) = exactly (e ∙ f)
and_so (exactly e) (cut_off p f) = cut_off p (e ∙ f)
and_so (cut_off p f) _ = cut_off p f

pub plain_goes : (x : Name) (S : State Syntax) → is_identifier x ≡ true → if_plain syntax x S ≡ go S
plain_goes x S e = ap (λ b. cond b (go S) (fail name_wanted)) e

pub plain_fails : (x : Name) (S : State Syntax) → is_identifier x ≡ false → if_plain syntax x S ≡ fail name_wanted
plain_fails x S e = ap (λ b. cond b (go S) (fail name_wanted)) e

pub opening_is : (more : ℕ → Bool) (f : Option Syntax) (K : Frames) → (opening syntax more f K ≡ go (begin (in_parens f ∷ K))) ⊎ (opening syntax more f K ≡ deep)
opening_is more f K = cases (more (opened K))
  where
    cases : (b : Bool) → (cond b (go (begin (in_parens f ∷ K))) deep ≡ go (begin (in_parens f ∷ K))) ⊎ (cond b (go (begin (in_parens f ∷ K))) deep ≡ deep)
    cases true = inl refl
    cases false = inr refl

module _ (more : ℕ → Bool) (length : ℕ) where
  -- What comes of a token, given what it does.
  unfoldable pub follow : Move Syntax → Spot → List Spot → ParseOutcome Syntax
  follow m t us = elim m [ go R ↦ run syntax more length R us | stay T ↦ read T (t ∷ us) | fail k ↦ expected t.0 k | deep ↦ too_deep t.0 ]

  -- What comes of a whole term behind which no token goes on.
  unfoldable pub ended : Frames → Syntax → List Spot → ParseOutcome Syntax
  ended K T [] = whole syntax length K T
  ended K T (t ∷ us) = follow (closing syntax K T t.1) t us

  -- Before a term, or behind a function.
  unfoldable pub start : Option Syntax → Frames → State Syntax
  start None K = begin K
  start (Some f) K = after K f

  pub step_ends : (K : Frames) (f : Syntax) (p : ℕ) (t : Token) → continues t ≡ false → step syntax more (after K f) (p, t) ≡ closing syntax K f t
  unfolding continues
  step_ends K f p Arrow e = absurd (cc e)
  step_ends K f p Open e = absurd (cc e)
  step_ends K f p (Sort s) e = absurd (cc e)
  step_ends K f p (Word x) e = absurd (cc e)
  step_ends K f p t e = refl

  pub run_ends : (K : Frames) (f : Syntax) (us : List Spot) → Ends us → run syntax more length (after K f) us ≡ ended K f us
  unfolding ended Ends follow
  run_ends K f [] e = refl
  run_ends K f (t ∷ us) e = ap (λ m. follow m t us) (step_ends K f t.0 t.1 e)

  pub ended_body : (K : Frames) (b : Binder) (x : Name) (A T : Syntax) (us : List Spot) → ended (at_body b x A ∷ K) T us ≡ ended K (bound_syntax b x A T) us
  unfolding ended
  ended_body K b x A T [] = refl
  ended_body K b x A T (t ∷ us) = refl

  pub ended_let : (K : Frames) (x : Name) (d A T : Syntax) (us : List Spot) → ended (let_body x d A ∷ K) T us ≡ ended K (let_in x d A T) us
  unfolding ended
  ended_let K x d A T [] = refl
  ended_let K x d A T (t ∷ us) = refl

  pub ended_arrow : (K : Frames) (A T : Syntax) (us : List Spot) → ended (behind_arrow A ∷ K) T us ≡ ended K (pi underscore A T) us
  unfolding ended
  ended_arrow K A T [] = refl
  ended_arrow K A T (t ∷ us) = refl

  pub binds : (b : Binder) (x : Name) (K : Frames) (q : ℕ) (us : List Spot) → is_identifier x ≡ true → run syntax more length (binder b K) ((q, Word x) ∷ us) ≡ run syntax more length (binder_sign b x K) us
  unfolding follow
  binds b x K q us e = ap (λ m. follow m (q, Word x) us) (plain_goes x (binder_sign b x K) e)

  pub defines : (x : Name) (K : Frames) (q : ℕ) (us : List Spot) → is_identifier x ≡ true → run syntax more length (let_name K) ((q, Word x) ∷ us) ≡ run syntax more length (let_sign x K) us
  unfolding follow
  defines x K q us e = ap (λ m. follow m (q, Word x) us) (plain_goes x (let_sign x K) e)

  opens_as : (f : Option Syntax) (K : Frames) (p : ℕ) (us : List Spot) → run syntax more length (start f K) ((p, Open) ∷ us) ≡ follow (opening syntax more f K) (p, Open) us
  unfolding start follow
  opens_as None K p us = refl
  opens_as (Some f) K p us = refl

  opens : (f : Option Syntax) (K : Frames) (p : ℕ) (us : List Spot) → Agrees (run syntax more length (start f K) ((p, Open) ∷ us)) (run syntax more length (begin (in_parens f ∷ K)) us)
  unfolding follow
  opens f K p us = elim (opening_is more f K) [
    | inl e ↦ exactly (opens_as f K p us ∙ ap (λ m. follow m (p, Open) us) e)
    | inr e ↦ cut_off p (opens_as f K p us ∙ ap (λ m. follow m (p, Open) us) e)
  ]

  mutual
    unfolding ended follow continues Ends start

    pub reads_run : {ts us : List Spot} {T : Syntax} → Reads ts T us → Ends us → (K : Frames) → Agrees (run syntax more length (begin K) ts) (ended K T us)
    reads_run (abstraction {ts} {us} {vs} {A} {b} {p} {q} {r} {o} {x} e d1 d2) n K =
        and_so (exactly (binds Lam x K q ((r, Colon) ∷ ts) e)) (and_so (reads_run d1 refl (at_type Lam x ∷ K)) (and_so (reads_run d2 n (at_body Lam x A ∷ K)) (exactly (ended_body K Lam x A b vs))))
    reads_run (product {ts} {us} {vs} {A} {B} {p} {q} {r} {o} {x} e d1 d2) n K =
        and_so (exactly (binds Pi x K q ((r, Colon) ∷ ts) e)) (and_so (reads_run d1 refl (at_type Pi x ∷ K)) (and_so (reads_run d2 n (at_body Pi x A ∷ K)) (exactly (ended_body K Pi x A B vs))))
    reads_run (definition {ts} {us} {vs} {ws} {d} {A} {b} {p} {q} {r} {o} {n = m} {x} e d0 d1 d2) n K =
        and_so (exactly (defines x K q ((r, Assign) ∷ ts) e)) (and_so (reads_run d0 refl (let_value x ∷ K)) (and_so (reads_run d1 refl (let_type x d ∷ K)) (and_so (reads_run d2 n (let_body x d A ∷ K)) (exactly (ended_let K x d A b ws)))))
    reads_run (application {ts} {us} {f} d) n K = and_so (app_run d K) (exactly (run_ends K f us n))
    reads_run (arrow {ts} {us} {vs} {A} {B} {o} d1 d2) n K = and_so (app_run d1 K) (and_so (reads_run d2 n (behind_arrow A ∷ K)) (exactly (ended_arrow K A B vs)))

    pub app_run : {ts us : List Spot} {f : Syntax} → App ts f us → (K : Frames) → Agrees (run syntax more length (begin K) ts) (run syntax more length (after K f) us)
    app_run (atoms d1 d2) K = and_so (atom_run d1 None K) (args_run d2 K)

    pub args_run : {us vs : List Spot} {f g : Syntax} → Args f us g vs → (K : Frames) → Agrees (run syntax more length (after K f) us) (run syntax more length (after K g) vs)
    args_run no_more K = exactly refl
    args_run (one_more {us} {vs} {ws} {a} {f} {g} d1 d2) K = and_so (atom_run d1 (Some f) K) (args_run d2 K)

    pub atom_run : {ts us : List Spot} {a : Syntax} → Atom ts a us → (f : Option Syntax) (K : Frames) → Agrees (run syntax more length (start f K) ts) (run syntax more length (after K (applied_to syntax f a)) us)
    atom_run a_sort None K = exactly refl
    atom_run a_sort (Some f) K = exactly refl
    atom_run a_name None K = exactly refl
    atom_run a_name (Some f) K = exactly refl
    atom_run (parentheses {ts} {us} {T} {p} {o} d) f K = and_so (opens f K p ts) (reads_run d refl (in_parens f ∷ K))
