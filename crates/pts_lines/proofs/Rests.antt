-- What stands behind a term that was read.
use Rattle.std.proofs.Common.{ℕ, ◌≡◌, refl, sym, ◌∙◌, ap, List, [], ◌∷◌, Bool, false, Option, Some, None, ◌⊎◌, inl, inr}
use Rattle.pts_tokens.specs.declared.token.Token.{Token}
use Rattle.pts_tokens.specs.declared.token.Token.TheVariants.{Lambda, At, Let, Colon, Assign, Arrow, Open, Sort, Name as Word}
use Rattle.pts_tokens.specs.Tokens.{Spot}
use Rattle.pts_grammar.specs.declared.kind.Kind.TheVariants as kind
use Rattle.pts_grammar.specs.Syntax.{Syntax}
use Rattle.pts_grammar.specs.Machine.{syntax, in_parens, State, begin, binder, binder_sign, let_name, let_sign, after, Move, go, stay, fail, deep, read, opening, step, run}
use Rattle.pts_grammar.proofs.Stays.{plain_stays, end_rest}
use Rattle.pts_grammar.proofs.Complete.{Frames, follow, Ends, continues, opening_is}

module _ (more : ℕ → Bool) where
  open_stays : (f : Option Syntax) (K : Frames) (U : Syntax) → ¬ (opening syntax more f K ≡ stay U)
  open_stays f K U h = by (opening_is more f K)
    where
      by : (opening syntax more f K ≡ go (begin (in_parens f ∷ K))) ⊎ (opening syntax more f K ≡ deep) → ⊥
      by (inl e) = let m : go (begin (in_parens f ∷ K)) ≡ stay U = sym e ∙ h in cc m
      by (inr e) = let m : deep ≡ stay U = sym e ∙ h in cc m

  step_stays : (S : State Syntax) (p : ℕ) (t : Token) (U : Syntax) → step syntax more S (p, t) ≡ stay U → continues t ≡ false
  unfolding continues
  step_stays (begin K) p Lambda U h = absurd (cc h)
  step_stays (begin K) p At U h = absurd (cc h)
  step_stays (begin K) p Let U h = absurd (cc h)
  step_stays (begin K) p (Sort s) U h = absurd (cc h)
  step_stays (begin K) p (Word x) U h = absurd (cc h)
  step_stays (begin K) p Open U h = absurd (open_stays None K U h)
  step_stays (begin K) p t U h = absurd (cc h)
  step_stays (binder b K) p (Word x) U h = absurd (plain_stays x (binder_sign b x K) U h)
  step_stays (binder b K) p t U h = absurd (cc h)
  step_stays (binder_sign b x K) p Colon U h = absurd (cc h)
  step_stays (binder_sign b x K) p t U h = absurd (cc h)
  step_stays (let_name K) p (Word x) U h = absurd (plain_stays x (let_sign x K) U h)
  step_stays (let_name K) p t U h = absurd (cc h)
  step_stays (let_sign x K) p Assign U h = absurd (cc h)
  step_stays (let_sign x K) p t U h = absurd (cc h)
  step_stays (after K f) p (Sort s) U h = absurd (cc h)
  step_stays (after K f) p (Word x) U h = absurd (cc h)
  step_stays (after K f) p Open U h = absurd (open_stays (Some f) K U h)
  step_stays (after K f) p Arrow U h = absurd (cc h)
  step_stays (after K f) p t U h = refl

  module _ (length : ℕ) (T : Syntax) (x : Spot) (rest : List Spot) where
    move_stays : (m : Move Syntax) (S : State Syntax) (t : Spot) (us : List Spot) → step syntax more S t ≡ m → ((R : State Syntax) → run syntax more length R us ≡ read T (x ∷ rest) → continues x.1 ≡ false) → follow more length m t us ≡ read T (x ∷ rest) → continues x.1 ≡ false
    unfolding follow
    move_stays (go R) S t us e ih h = ih R h
    move_stays (stay U) S t us e ih h =
        let l : t ∷ us ≡ x ∷ rest = cc h in
        let m : ◌≡◌ {A = Spot} t x = cc l in
        ap (λ y. continues y.1) (sym m) ∙ step_stays S t.0 t.1 U e
    move_stays (fail k) S t us e ih h = absurd (cc h)
    move_stays deep S t us e ih h = absurd (cc h)

    pub run_stays : (us : List Spot) (S : State Syntax) → run syntax more length S us ≡ read T (x ∷ rest) → continues x.1 ≡ false
    unfolding follow
    run_stays [] S h = absurd (end_rest length S T x rest h)
    run_stays (t ∷ us) S h = move_stays (step syntax more S t) S t us refl (λ R g. run_stays us R g) h

-- No token behind it goes on with the term.
pub rest_ends : (more : ℕ → Bool) (length : ℕ) (ts us : List Spot) (T : Syntax) → run syntax more length (begin []) ts ≡ read T us → Ends us
unfolding Ends
rest_ends more length ts [] T h = tt
rest_ends more length ts (x ∷ rest) T h = run_stays more length T x rest ts (begin []) h
