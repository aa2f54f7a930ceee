-- What the machine does inside a term that stands in a longer text.
use Rattle.std.proofs.Common.{ℕ, ◌≡◌, ◌≢◌, ◌⊎◌, inl, inr, refl, sym, ◌∙◌, ap, subst, List, [], ◌∷◌, ◌++◌, Bool, Some, append_assoc}
use Rattle.std.proofs.lemmas.List.{append-nil}
use Rattle.std.specs.Prelude.{codes}
use Rattle.pts_tokens.specs.declared.token.Token.{Token}
use Rattle.pts_tokens.specs.declared.token.Token.TheVariants.{In, Colon, Assign, Dot, Arrow, Open, Close, Semicolon, Sort, Name as Word}
use Rattle.pts_tokens.specs.Tokens.{Spot}
use Rattle.pts_grammar.specs.declared.kind.Kind.{Kind}
use Rattle.pts_grammar.specs.declared.kind.Kind.TheVariants as kind
use Rattle.pts_grammar.specs.Syntax.{Syntax}
use Rattle.pts_grammar.specs.Grammar.{Reads}
use Rattle.pts_names.specs.Name.{underscore}
use Rattle.pts_grammar.specs.Machine.{syntax, in_parens, at_type, at_body, let_value, let_type, let_body, behind_arrow, State, begin, binder, binder_sign, let_name, let_sign, after, Move, go, stay, fail, deep, read, expected, too_deep, closing, step, whole, at_end as end_of, run}
use Rattle.pts_grammar.specs.Refusals.{Viable}
use Rattle.pts_grammar.specs.Refusals as grammar
use Rattle.pts_grammar.proofs.Complete.{Frames, follow, Ends, ended, plain_goes, Agrees, exactly, cut_off, reads_run}
use Rattle.pts_grammar.proofs.Sound.{always, read_always, run_shallow, step_shallow}
use Rattle.pts_grammar.proofs.Reach.{bound_cuts, reach, reach_run, reach_more}
use Rattle.pts_grammar.proofs.Refusals.{closer, kind_at, wants_at, viable_here, can, ended_here, Closes, by_close, by_dot, by_colon, by_in, by_end, closes, refusals_are_the_grammars}
use Rattle.pts_grammar.proofs.TooDeep.{reach_viable}
use Rattle.pts_grammar.proofs.Determined.{determined}
use Rattle.pts_grammar.proofs.Underscore.{underscore_is_identifier}
use Rattle.pts_lines.specs.Refusals.{CanGoOn, CanFollow, Wants, an_assign, a_colon, a_dot, an_in, a_close, a_name, a_term, Refused, at_token, at_end}

-- What the machine reads, however many parentheses are open.
pub read_freely : (n : ℕ) (ts us : List Spot) (T : Syntax) → Reads ts T us → Ends us → run syntax always n (begin []) ts ≡ read T us
unfolding ended follow
read_freely n ts us T d e = answer us (reads_run always n d e [])
  where
    answer : (us : List Spot) → Agrees (run syntax always n (begin []) ts) (ended always n [] T us) → run syntax always n (begin []) ts ≡ read T us
    answer [] (exactly h) = h
    answer (t ∷ us) (exactly h) = h
    answer us (cut_off p h) = absurd (run_shallow n p ts (begin []) h)

-- Either nothing is open that needs a token, or something is, which neither `:=` nor the end closes.
abbrev pub Loose : Frames → Syntax → Type 0
Loose K f = ((t : Token) → (U : Syntax) × (closing syntax K f t ≡ stay U)) × ((U : Syntax) × (whole syntax 0 K f ≡ read U []))

abbrev pub Held : Frames → Syntax → Type 0
Held K f = (closer K ≢ kind.End) × (closing syntax K f Assign ≡ fail (closer K)) × (whole syntax 0 K f ≡ expected 0 (closer K))

innermost : (K : Frames) (f : Syntax) → Loose K f ⊎ Held K f
innermost [] f = inl ((λ t. (f, refl)), (f, refl))
innermost (at_body b x A ∷ K) f = innermost K _
innermost (let_body x d A ∷ K) f = innermost K _
innermost (behind_arrow A ∷ K) f = innermost K _
innermost (in_parens g ∷ K) f = inr ((λ h. cc h), refl, refl)
innermost (at_type b x ∷ K) f = inr ((λ h. cc h), refl, refl)
innermost (let_value x ∷ K) f = inr ((λ h. cc h), refl, refl)
innermost (let_type x d ∷ K) f = inr ((λ h. cc h), refl, refl)

-- The same of a state: something is open there, or a term has yet to begin.
abbrev pub Pending : State Syntax → Type 0
Pending (after K f) = Held K f
Pending S = Unit {0}

-- Something is open where the machine refuses a token.
pending_fail : (R : State Syntax) (p : ℕ) (t : Token) (k : Kind) → step syntax always R (p, t) ≡ fail k → Pending R
pending_fail (begin K) p t k h = tt
pending_fail (binder b K) p t k h = tt
pending_fail (binder_sign b x K) p t k h = tt
pending_fail (let_name K) p t k h = tt
pending_fail (let_sign x K) p t k h = tt
pending_fail (after K f) p (Sort s) k h = absurd (cc h)
pending_fail (after K f) p (Word x) k h = absurd (cc h)
pending_fail (after K f) p Open k h = absurd (cc h)
pending_fail (after K f) p Arrow k h = absurd (cc h)
pending_fail (after K f) p t k h = by (innermost K f)
  where
    by : Loose K f ⊎ Held K f → Held K f
    by (inr g) = g
    by (inl g) = let m : stay (g.0 t).0 ≡ fail k = sym (g.0 t).1 ∙ h in absurd (cc m)

pub pending_end : (R : State Syntax) → Pending R → end_of syntax 0 R ≡ expected 0 (kind_at R)
pending_end (begin K) h = refl
pending_end (binder b K) h = refl
pending_end (binder_sign b x K) h = refl
pending_end (let_name K) h = refl
pending_end (let_sign x K) h = refl
pending_end (after K f) h = h.2

-- Or the tokens are a whole term.
pub pending_or_whole : (R : State Syntax) → Pending R ⊎ ((U : Syntax) × (end_of syntax 0 R ≡ read U []))
pending_or_whole (begin K) = inl tt
pending_or_whole (binder b K) = inl tt
pending_or_whole (binder_sign b x K) = inl tt
pending_or_whole (let_name K) = inl tt
pending_or_whole (let_sign x K) = inl tt
pending_or_whole (after K f) = by (innermost K f)
  where
    by : Loose K f ⊎ Held K f → Held K f ⊎ ((U : Syntax) × (whole syntax 0 K f ≡ read U []))
    by (inr g) = inl g
    by (inl g) = inr g.1

-- A language of texts that begin with a term: a term's tokens can go on to one, and the machine reads a term from each.
module _ (Is : List Spot → Type 0)
    (inside : (vs us : List Spot) (T : Syntax) → Reads (vs ++ us) T [] → CanGoOn Is vs)
    (begins : (ts : List Spot) → Is ts → (T : Syntax) × (rest : List Spot) × (run syntax always 0 (begin []) ts ≡ read T rest)) where
  pub goes_on : (vs : List Spot) → Viable vs → CanGoOn Is vs
  goes_on vs v = inside vs v.0 v.1 v.2

  module _ (vs : List Spot) (R : State Syntax) (e : reach (begin []) vs ≡ Some R) where
    cannot : (p : ℕ) (t : Token) (k : Kind) → step syntax always R (p, t) ≡ fail k → ¬ CanGoOn Is (vs ++ (p, t) ∷ [])
    unfolding follow
    cannot p t k h (us, d) =
        let b = begins _ d in
        let r : run syntax always 0 (begin []) (vs ++ (p, t) ∷ us) ≡ read b.0 b.1 = ap (run syntax always 0 (begin [])) (sym (append_assoc vs ((p, t) ∷ []) us)) ∙ b.2 in
        let s : run syntax always 0 R ((p, t) ∷ us) ≡ read b.0 b.1 = sym (reach_run vs ((p, t) ∷ us) 0 (begin []) R e) ∙ r in
        let u : expected p k ≡ read b.0 b.1 = ap (λ m. follow always 0 m (p, t) us) (sym h) ∙ s in
        absurd (cc u)

    pub follows : (t : Token) (Q : State Syntax) → step syntax always R (0, t) ≡ go Q → CanFollow Is vs t
    follows t Q h = goes_on (vs ++ (0, t) ∷ []) (can vs R e t Q h)

    pub unended : (p : ℕ) (k : Kind) → end_of syntax 0 R ≡ expected p k → ¬ Is vs
    unended p k h d =
        let b = begins vs d in
        let u : expected p k ≡ read b.0 b.1 = sym h ∙ (sym (reach_run vs [] 0 (begin []) R e) ∙ (ap (run syntax always 0 (begin [])) (append-nil vs) ∙ b.2)) in
        absurd (cc u)

  wants_closer : (vs : List Spot) (K : Frames) (f : Syntax) (k : Kind) → reach (begin []) vs ≡ Some (after K f) → k ≡ closer K → Held K f → Closes (λ t. closing syntax K f t) (whole syntax 0 K f) k → Wants Is vs k
  wants_closer vs K f _ e q h (by_close Q g) = a_close (follows vs (after K f) e Close Q g)
  wants_closer vs K f _ e q h (by_dot Q g) = a_dot (follows vs (after K f) e Dot Q g)
  wants_closer vs K f _ e q h (by_colon Q g) = a_colon (unended vs (after K f) e 0 (closer K) h.2) (cannot vs (after K f) e 0 Assign (closer K) h.1) (follows vs (after K f) e Colon Q g)
  wants_closer vs K f _ e q h (by_in Q g) = an_in (follows vs (after K f) e In Q g)
  wants_closer vs K f _ e q h (by_end T g) = absurd (h.0 (sym q))

  wants : (vs : List Spot) (R : State Syntax) → reach (begin []) vs ≡ Some R → Pending R → Wants Is vs (kind_at R)
  wants vs (begin K) e h =
      let cant : (t : Token) → step syntax always (begin K) (0, t) ≡ fail kind.Term → ¬ CanFollow Is vs t = λ t g. cannot vs (begin K) e 0 t kind.Term g in
      a_term (codes "*") (follows vs (begin K) e (Sort (codes "*")) _ refl) (cant Colon refl) (cant Dot refl) (cant Assign refl) (cant In refl) (cant Close refl) (cant Semicolon refl) (unended vs (begin K) e 0 kind.Term refl)
  wants vs (binder b K) e h = a_name (follows vs (binder b K) e (Word underscore) (binder_sign b underscore K) (plain_goes underscore _ underscore_is_identifier)) (λ s. cannot vs (binder b K) e 0 (Sort s) kind.Name refl)
  wants vs (binder_sign b x K) e h = a_colon (unended vs (binder_sign b x K) e 0 kind.Colon refl) (cannot vs (binder_sign b x K) e 0 Assign kind.Colon refl) (follows vs (binder_sign b x K) e Colon _ refl)
  wants vs (let_name K) e h = a_name (follows vs (let_name K) e (Word underscore) (let_sign underscore K) (plain_goes underscore _ underscore_is_identifier)) (λ s. cannot vs (let_name K) e 0 (Sort s) kind.Name refl)
  wants vs (let_sign x K) e h = an_assign (unended vs (let_sign x K) e 0 kind.Assign refl) (follows vs (let_sign x K) e Assign _ refl)
  wants vs (after K f) e h = wants_closer vs K f (closer K) e refl h (closes K f)

  module _ (length : ℕ) (ts : List Spot) (k : Kind) where
    refused_token : (p : ℕ) (vs us : List Spot) (t : Token) (R : State Syntax) → run syntax always length (begin []) ts ≡ expected p k → ts ≡ vs ++ (p, t) ∷ us → reach (begin []) vs ≡ Some R → Viable vs → ¬ Viable (vs ++ (p, t) ∷ []) → grammar.Wants vs k → (m : Move Syntax) → step syntax always R (p, t) ≡ m → Refused Is length ts k p
    unfolding follow
    refused_token p vs us t R h s e v nv w (go Q) g = absurd (nv (viable_here (vs ++ (p, t) ∷ []) Q (reach_more vs (p, t) (begin []) R Q e g)))
    refused_token p vs us t R h s e v nv w (stay U) g =
        let m : expected p k ≡ read U ((p, t) ∷ us) = sym h ∙ (ap (run syntax always length (begin [])) s ∙ (reach_run vs ((p, t) ∷ us) length (begin []) R e ∙ ap (λ n. follow always length n (p, t) us) g)) in
        absurd (cc m)
    refused_token p vs us t R h s e v nv w (fail j) g =
        let kinds = determined length ts (kind_at R) k p p (grammar.at_token vs us p t s v nv (wants_at vs R e)) (grammar.at_token vs us p t s v nv w) in
        at_token vs us p t s (goes_on vs v) (cannot vs R e p t j g) (subst (Wants Is vs) kinds.1 (wants vs R e (pending_fail R p t j g)))
    refused_token p vs us t R h s e v nv w deep g = absurd (step_shallow R (p, t) g)

    refused_end : (R : State Syntax) → reach (begin []) ts ≡ Some R → Viable ts → ((T : Syntax) → ¬ Reads ts T []) → grammar.Wants ts k → Pending R ⊎ ((U : Syntax) × (end_of syntax 0 R ≡ read U [])) → Refused Is length ts k length
    refused_end R e v n w (inr g) = absurd (n g.0 (ended_here ts R e g.0 g.1))
    refused_end R e v n w (inl g) =
        let kinds = determined length ts (kind_at R) k length length (grammar.at_length v n (wants_at ts R e)) (grammar.at_length v n w) in
        at_end (goes_on ts v) (unended ts R e 0 (kind_at R) (pending_end R g)) (subst (Wants Is ts) kinds.1 (wants ts R e g))

    refused_by : (p : ℕ) → run syntax always length (begin []) ts ≡ expected p k → grammar.Refused length ts k p → Refused Is length ts k p
    refused_by p h (grammar.at_token vs us _ t s v nv w) =
        let r = reach_viable vs v.0 v.1 (begin []) (read_always 0 _ v.1 v.2) in
        refused_token p vs us t r.0 h s r.1 v nv w (step syntax always r.0 (p, t)) refl
    refused_by _ h (grammar.at_length v n w) =
        let r = reach_viable ts v.0 v.1 (begin []) (read_always 0 _ v.1 v.2) in
        refused_end r.0 r.1 v n w (pending_or_whole r.0)

    -- The machine's refusals are those of the language.
    pub machine_refuses : (more : ℕ → Bool) (p : ℕ) → run syntax more length (begin []) ts ≡ expected p k → Refused Is length ts k p
    machine_refuses more p h = refused_by p (by (bound_cuts more length ts (begin []))) (refusals_are_the_grammars more length p k ts h)
      where
        by : Agrees (run syntax more length (begin []) ts) (run syntax always length (begin []) ts) → run syntax always length (begin []) ts ≡ expected p k
        by (exactly e) = sym e ∙ h
        by (cut_off q e) = let m : expected p k ≡ too_deep q = sym h ∙ e in absurd (cc m)
