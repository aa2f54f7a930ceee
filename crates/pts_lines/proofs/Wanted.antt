-- In a language whose texts begin with a term, one kind of token must stand behind tokens that are inside that term.
use Rattle.std.proofs.Common.{ℕ, ◌≡◌, ◌≢◌, ◌⊎◌, inl, inr, refl, sym, ◌∙◌, ap, subst, List, [], ◌∷◌, ◌++◌, Some, append_assoc}
use Rattle.std.proofs.lemmas.List.{append-nil, append_cancel_right}
use Rattle.std.specs.Prelude.{codes}
use Rattle.pts_names.specs.Name.{Name as Text, underscore}
use Rattle.pts_tokens.specs.declared.token.Token.{Token}
use Rattle.pts_tokens.specs.declared.token.Token.TheVariants.{In, Colon, Assign, Dot, Close, Semicolon, Sort, Name as Word, Number}
use Rattle.pts_tokens.specs.Tokens.{Spot}
use Rattle.pts_grammar.specs.declared.kind.Kind.{Kind}
use Rattle.pts_grammar.specs.declared.kind.Kind.TheVariants as kind
use Rattle.pts_grammar.specs.Syntax.{Syntax}
use Rattle.pts_grammar.specs.Grammar.{Reads}
use Rattle.pts_grammar.specs.Machine.{syntax, in_parens, at_type, at_body, let_value, let_type, let_body, behind_arrow, State, begin, binder, binder_sign, let_name, let_sign, after, Move, go, stay, fail, deep, read, expected, too_deep, closing, step, at_end as end_of, run}
use Rattle.pts_grammar.specs.Refusals as grammar
use Rattle.pts_grammar.proofs.Complete.{Frames, follow, plain_goes}
use Rattle.pts_grammar.proofs.Sound.{always, read_always}
use Rattle.pts_grammar.proofs.Reach.{reach, reach_run}
use Rattle.pts_grammar.proofs.Refusals.{kind_at, viable_here, cannot_cases, can, ended_here}
use Rattle.pts_grammar.proofs.TooDeep.{reach_viable}
use Rattle.pts_grammar.proofs.Determined.{determined}
use Rattle.pts_grammar.proofs.Underscore.{underscore_is_identifier}
use Rattle.pts_lines.specs.Items.{wanted}
use Rattle.pts_lines.specs.Refusals.{CanGoOn, CanFollow, Wants, the_end, an_assign, a_colon, a_semicolon, a_dot, an_in, a_close, a_number, a_name, a_plain, a_term}
use Rattle.pts_lines.specs.Forms.{Sign, by_assign, by_semicolon, item_of}
use Rattle.pts_lines.proofs.Machine.{Pending, pending_end, goes_on, follows, unended}
use Rattle.pts_lines.proofs.Languages.{wants_to}
use Rattle.pts_lines.proofs.Fits.{sign_of}
use Rattle.pts_lines.proofs.Told.{first_of}

-- At most one kind must stand behind these tokens, if they can go on.
abbrev pub OneKind : (List Spot → Type 0) → List Spot → Type 0
OneKind Is vs = (k j : Kind) → CanGoOn Is vs → Wants Is vs k → Wants Is vs j → k ≡ j

-- Behind tokens with which each text of the one language begins that is looked at, its rest being a text of the other.
module _ (Is Js : List Spot → Type 0) (pre : List Spot) (to : (us : List Spot) → Js us → Is (pre ++ us)) (from : (us : List Spot) → Is (pre ++ us) → Js us) (vs ws : List Spot) (e : vs ≡ pre ++ ws) where
  moved : (us : List Spot) → vs ++ us ≡ pre ++ (ws ++ us)
  moved us = ap (λ l. l ++ us) e ∙ append_assoc pre ws us

  rest_from : (us : List Spot) → Is (vs ++ us) → Js (ws ++ us)
  rest_from us d = from (ws ++ us) (subst Is (moved us) d)

  rest_to : (us : List Spot) → Js (ws ++ us) → Is (vs ++ us)
  rest_to us d = subst Is (sym (moved us)) (to (ws ++ us) d)

  pub one_behind : OneKind Js ws → OneKind Is vs
  one_behind one k j (us, d) w v = one k j (us, rest_from us d) (wants_to Js Is ws vs rest_from rest_to w) (wants_to Js Is ws vs rest_from rest_to v)

-- Tokens that stand in no term.
data Stranger : Token → Type 0 where
  parting : Stranger Semicolon
  counting : {ds : List ℕ} → Stranger (Number ds)

closing_strange : (K : Frames) (f : Syntax) (t : Token) → Stranger t → (Q : State Syntax) → ¬ (closing syntax K f t ≡ go Q)
closing_strange [] f t s Q h = cc h
closing_strange (at_body b x A ∷ K) f t s Q h = closing_strange K _ t s Q h
closing_strange (let_body x d A ∷ K) f t s Q h = closing_strange K _ t s Q h
closing_strange (behind_arrow A ∷ K) f t s Q h = closing_strange K _ t s Q h
closing_strange (in_parens g ∷ K) f _ parting Q h = cc h
closing_strange (in_parens g ∷ K) f _ counting Q h = cc h
closing_strange (at_type b x ∷ K) f _ parting Q h = cc h
closing_strange (at_type b x ∷ K) f _ counting Q h = cc h
closing_strange (let_value x ∷ K) f _ parting Q h = cc h
closing_strange (let_value x ∷ K) f _ counting Q h = cc h
closing_strange (let_type x d ∷ K) f _ parting Q h = cc h
closing_strange (let_type x d ∷ K) f _ counting Q h = cc h

step_strange : (R : State Syntax) (t : Token) → Stranger t → (Q : State Syntax) → ¬ (step syntax always R (0, t) ≡ go Q)
step_strange (begin K) _ parting Q h = cc h
step_strange (begin K) _ counting Q h = cc h
step_strange (binder b K) _ parting Q h = cc h
step_strange (binder b K) _ counting Q h = cc h
step_strange (binder_sign b x K) _ parting Q h = cc h
step_strange (binder_sign b x K) _ counting Q h = cc h
step_strange (let_name K) _ parting Q h = cc h
step_strange (let_name K) _ counting Q h = cc h
step_strange (let_sign x K) _ parting Q h = cc h
step_strange (let_sign x K) _ counting Q h = cc h
step_strange (after K f) _ parting Q h = closing_strange K f Semicolon parting Q h
step_strange (after K f) _ (counting {ds}) Q h = closing_strange K f (Number ds) counting Q h

-- Where a name can stand, `_` can.
underscore_goes : (R : State Syntax) (x : Text) (Q : State Syntax) → step syntax always R (0, Word x) ≡ go Q → (P : State Syntax) × (step syntax always R (0, Word underscore) ≡ go P)
underscore_goes (begin K) x Q h = (_, refl)
underscore_goes (after K f) x Q h = (_, refl)
underscore_goes (binder b K) x Q h = (binder_sign b underscore K, plain_goes underscore _ underscore_is_identifier)
underscore_goes (let_name K) x Q h = (let_sign underscore K, plain_goes underscore _ underscore_is_identifier)
underscore_goes (binder_sign b y K) x Q h = absurd (cc h)
underscore_goes (let_sign y K) x Q h = absurd (cc h)

-- Behind a whole term an argument can stand.
sort_goes : (R : State Syntax) (U : Syntax) → end_of syntax 0 R ≡ read U [] → (s : Text) → (Q : State Syntax) × (step syntax always R (0, Sort s) ≡ go Q)
sort_goes (after K f) U h s = (_, refl)
sort_goes (begin K) U h s = absurd (cc h)
sort_goes (binder b K) U h s = absurd (cc h)
sort_goes (let_name K) U h s = absurd (cc h)
sort_goes (binder_sign b y K) U h s = absurd (cc h)
sort_goes (let_sign y K) U h s = absurd (cc h)

-- The grammar of terms wants one kind.
grammar_kind : (vs : List Spot) → grammar.Viable vs → (k j : Kind) → grammar.Wants vs k → grammar.Wants vs j → k ≡ j
grammar_kind vs v k j w u = (determined 0 (vs ++ (0, Semicolon) ∷ []) k j 0 0 (grammar.at_token vs [] 0 Semicolon refl v stop w) (grammar.at_token vs [] 0 Semicolon refl v stop u)).1
  where
    stop : ¬ grammar.Viable (vs ++ (0, Semicolon) ∷ [])
    stop =
        let r = reach_viable vs v.0 v.1 (begin []) (read_always 0 _ v.1 v.2) in
        cannot_cases vs r.0 r.1 0 Semicolon (step syntax always r.0 (0, Semicolon)) refl (step_strange r.0 Semicolon parting)

whole_before : (vs us : List Spot) (x : Spot) (U : Syntax) → run syntax always 0 (begin []) (vs ++ x ∷ us) ≡ read U (x ∷ us) → Reads vs U []
whole_before vs us x U h =
    let f = first_of always 0 (vs ++ x ∷ us) (x ∷ us) U h in
    subst (λ l. Reads l U []) (sym (append_cancel_right vs f.before (x ∷ us) f.whole)) f.alone

-- Which tokens can stand behind the term is given.
module _ (Is : List Spot → Type 0)
    (inside : (vs us : List Spot) (T : Syntax) → Reads (vs ++ us) T [] → CanGoOn Is vs)
    (begins : (ts : List Spot) → Is ts → (T : Syntax) × (rest : List Spot) × (run syntax always 0 (begin []) ts ≡ read T rest))
    (Stands : Token → Type 0)
    (stops : (ts : List Spot) → Is ts → (T : Syntax) (s : Spot) (us : List Spot) → run syntax always 0 (begin []) ts ≡ read T (s ∷ us) → Stands s.1)
    (vs : List Spot) (R : State Syntax) (e : reach (begin []) vs ≡ Some R) where
  -- A token that can follow goes on with the term, or stands behind it.
  goes_or_stands : (t : Token) → CanFollow Is vs t → ((Q : State Syntax) × (step syntax always R (0, t) ≡ go Q)) ⊎ (Stands t × ((U : Syntax) × Reads vs U []))
  unfolding follow
  goes_or_stands t (us, d) = by (begins _ d).0 (begins _ d).1 (begins _ d).2 (step syntax always R (0, t)) refl
    where
      here : (T : Syntax) (rest : List Spot) → run syntax always 0 (begin []) ((vs ++ (0, t) ∷ []) ++ us) ≡ read T rest → (m : Move Syntax) → step syntax always R (0, t) ≡ m → follow always 0 m (0, t) us ≡ read T rest
      here T rest g m h = ap (λ n. follow always 0 n (0, t) us) (sym h) ∙ (sym (reach_run vs ((0, t) ∷ us) 0 (begin []) R e) ∙ (ap (run syntax always 0 (begin [])) (sym (append_assoc vs ((0, t) ∷ []) us)) ∙ g))

      by : (T : Syntax) (rest : List Spot) → run syntax always 0 (begin []) ((vs ++ (0, t) ∷ []) ++ us) ≡ read T rest → (m : Move Syntax) → step syntax always R (0, t) ≡ m → ((Q : State Syntax) × (step syntax always R (0, t) ≡ go Q)) ⊎ (Stands t × ((U : Syntax) × Reads vs U []))
      by T rest g (go Q) h = inl (Q, h)
      by T rest g (stay U) h =
          let w : read U ((0, t) ∷ us) ≡ read T rest = here T rest g (stay U) h in
          let r : run syntax always 0 (begin []) ((vs ++ (0, t) ∷ []) ++ us) ≡ read U ((0, t) ∷ us) = g ∙ sym w in
          inr (stops _ d U (0, t) us r, (U, whole_before vs us (0, t) U (ap (run syntax always 0 (begin [])) (sym (append_assoc vs ((0, t) ∷ []) us)) ∙ r)))
      by T rest g (fail k) h = let w : expected 0 k ≡ read T rest = here T rest g (fail k) h in absurd (cc w)
      by T rest g deep h = let w : too_deep 0 ≡ read T rest = here T rest g deep h in absurd (cc w)

  -- Where something is open, what is wanted is what the grammar of terms wants.
  module _ (h : Pending R) where
    not_whole : (U : Syntax) → ¬ Reads vs U []
    not_whole U d =
        let m : expected 0 (kind_at R) ≡ read U [] = sym (pending_end R h) ∙ (sym (reach_run vs [] 0 (begin []) R e) ∙ (ap (run syntax always 0 (begin [])) (append-nil vs) ∙ read_always 0 vs U d)) in
        cc m

    goes : (t : Token) → CanFollow Is vs t → (Q : State Syntax) × (step syntax always R (0, t) ≡ go Q)
    goes t c = by (goes_or_stands t c)
      where
        by : ((Q : State Syntax) × (step syntax always R (0, t) ≡ go Q)) ⊎ (Stands t × ((U : Syntax) × Reads vs U [])) → (Q : State Syntax) × (step syntax always R (0, t) ≡ go Q)
        by (inl q) = q
        by (inr d) = absurd (not_whole d.1.0 d.1.1)

    fits : (t : Token) → CanFollow Is vs t → grammar.CanFollow vs t
    fits t c = let q = goes t c in can vs R e t q.0 q.1

    cant : (t : Token) → ¬ CanFollow Is vs t → ¬ grammar.CanFollow vs t
    cant t n d = n (goes_on Is inside begins _ d)

    to_grammar : (k : Kind) → Wants Is vs k → grammar.Wants vs k
    to_grammar _ (the_end d) = absurd (unended Is inside begins vs R e 0 (kind_at R) (pending_end R h) d)
    to_grammar _ (an_assign n c) = grammar.an_assign (fits Assign c)
    to_grammar _ (a_colon n m c) = grammar.a_colon (fits Colon c)
    to_grammar _ (a_semicolon n c) = let q = goes Semicolon c in absurd (step_strange R Semicolon parting q.0 q.1)
    to_grammar _ (a_dot c) = grammar.a_dot (fits Dot c)
    to_grammar _ (an_in c) = grammar.an_in (fits In c)
    to_grammar _ (a_close c) = grammar.a_close (fits Close c)
    to_grammar _ (a_number ds c) = let q = goes (Number ds) c in absurd (step_strange R (Number ds) counting q.0 q.1)
    to_grammar _ (a_name c n) = grammar.a_name underscore (fits (Word underscore) c) (λ s. cant (Sort s) (n s))
    to_grammar _ (a_plain x c m n) =
        let q = goes (Word x) c in
        let r = underscore_goes R x q.0 q.1 in
        absurd (m (follows Is inside begins vs R e (Word underscore) r.0 r.1))
    to_grammar _ (a_term s c n1 n2 n3 n4 n5 n6 n) = grammar.a_term s (fits (Sort s) c) (cant Colon n1) (cant Dot n2) (cant Assign n3) (cant In n4) (cant Close n5) not_whole

    pub pending_kind : (k j : Kind) → Wants Is vs k → Wants Is vs j → k ≡ j
    pending_kind k j w v = grammar_kind vs (viable_here vs R e) k j (to_grammar k w) (to_grammar j v)

  -- Behind a whole term stands a token that can stand there, if it does not go on with the term.
  module _ (U : Syntax) (whole : end_of syntax 0 R ≡ read U []) where
    stands : (t : Token) (k : Kind) → (grammar.CanFollow vs t → grammar.Wants vs k) → k ≢ kind.End → CanFollow Is vs t → Stands t
    stands t k f n c = by (goes_or_stands t c)
      where
        by : ((Q : State Syntax) × (step syntax always R (0, t) ≡ go Q)) ⊎ (Stands t × ((V : Syntax) × Reads vs V [])) → Stands t
        by (inl q) = absurd (n (grammar_kind vs (viable_here vs R e) k kind.End (f (can vs R e t q.0 q.1)) (grammar.the_end U (ended_here vs R e U whole))))
        by (inr d) = d.0

    strange : (t : Token) → Stranger t → CanFollow Is vs t → Stands t
    strange t s c = by (goes_or_stands t c)
      where
        by : ((Q : State Syntax) × (step syntax always R (0, t) ≡ go Q)) ⊎ (Stands t × ((V : Syntax) × Reads vs V [])) → Stands t
        by (inl q) = absurd (step_strange R t s q.0 q.1)
        by (inr d) = d.0

    a_sort_can : (s : Text) → CanFollow Is vs (Sort s)
    a_sort_can s = let q = sort_goes R U whole s in follows Is inside begins vs R e (Sort s) q.0 q.1

    -- Where a text can end there, the end.
    module _ (is : Is vs) (no_dot : ¬ Stands Dot) (no_in : ¬ Stands In) (no_close : ¬ Stands Close) (no_number : (ds : List ℕ) → ¬ Stands (Number ds)) where
      pub end_kind : (k : Kind) → Wants Is vs k → k ≡ kind.End
      end_kind _ (the_end d) = refl
      end_kind _ (an_assign n c) = absurd (n is)
      end_kind _ (a_colon n m c) = absurd (n is)
      end_kind _ (a_semicolon n c) = absurd (n is)
      end_kind _ (a_dot c) = absurd (no_dot (stands Dot kind.Dot grammar.a_dot (λ h. cc h) c))
      end_kind _ (an_in c) = absurd (no_in (stands In kind.In grammar.an_in (λ h. cc h) c))
      end_kind _ (a_close c) = absurd (no_close (stands Close kind.Close grammar.a_close (λ h. cc h) c))
      end_kind _ (a_number ds c) = absurd (no_number ds (strange (Number ds) counting c))
      end_kind _ (a_name c n) = absurd (n (codes "*") (a_sort_can (codes "*")))
      end_kind _ (a_plain x c m n) = absurd (n (codes "*") (a_sort_can (codes "*")))
      end_kind _ (a_term s c n1 n2 n3 n4 n5 n6 n) = absurd (n is)

-- The signs.
unsigned : (a : Sign) (t : Token) → ¬ (t ≡ Assign) → ¬ (t ≡ Semicolon) → ¬ (t ≡ sign_of a)
unsigned by_assign t n m e = n e
unsigned by_semicolon t n m e = m e

assign_sign : (a : Sign) → Assign ≡ sign_of a → kind.Assign ≡ wanted (item_of a)
assign_sign by_assign e = refl
assign_sign by_semicolon e = absurd (cc e)

semicolon_sign : (a : Sign) → Semicolon ≡ sign_of a → kind.Semicolon ≡ wanted (item_of a)
semicolon_sign by_assign e = absurd (cc e)
semicolon_sign by_semicolon e = refl

signed : (Is : List Spot → Type 0) (vs : List Spot) (a : Sign) → CanFollow Is vs (sign_of a) → ¬ CanFollow Is vs Assign → ¬ CanFollow Is vs Semicolon → ⊥
signed Is vs by_assign c n m = n c
signed Is vs by_semicolon c n m = m c

-- Where a sign must stand behind the term, that sign.
module _ (Is : List Spot → Type 0)
    (inside : (vs us : List Spot) (T : Syntax) → Reads (vs ++ us) T [] → CanGoOn Is vs)
    (begins : (ts : List Spot) → Is ts → (T : Syntax) × (rest : List Spot) × (run syntax always 0 (begin []) ts ≡ read T rest))
    (a : Sign)
    (stops : (ts : List Spot) → Is ts → (T : Syntax) (s : Spot) (us : List Spot) → run syntax always 0 (begin []) ts ≡ read T (s ∷ us) → s.1 ≡ sign_of a)
    (vs : List Spot) (R : State Syntax) (e : reach (begin []) vs ≡ Some R) (U : Syntax) (whole : end_of syntax 0 R ≡ read U []) (no : ¬ Is vs) (can_sign : CanFollow Is vs (sign_of a)) where
  is_sign : (t : Token) (k : Kind) → (grammar.CanFollow vs t → grammar.Wants vs k) → k ≢ kind.End → CanFollow Is vs t → t ≡ sign_of a
  is_sign = stands Is inside begins (λ t. t ≡ sign_of a) stops vs R e U whole

  stranger_is_sign : (t : Token) → Stranger t → CanFollow Is vs t → t ≡ sign_of a
  stranger_is_sign = strange Is inside begins (λ t. t ≡ sign_of a) stops vs R e U whole

  sort_can : (s : Text) → CanFollow Is vs (Sort s)
  sort_can = a_sort_can Is inside begins (λ t. t ≡ sign_of a) stops vs R e U whole

  pub sign_kind : (k : Kind) → Wants Is vs k → k ≡ wanted (item_of a)
  sign_kind _ (the_end d) = absurd (no d)
  sign_kind _ (an_assign n c) = assign_sign a (is_sign Assign kind.Assign grammar.an_assign (λ h. cc h) c)
  sign_kind _ (a_colon n m c) = absurd (unsigned a Colon (λ h. cc h) (λ h. cc h) (is_sign Colon kind.Colon grammar.a_colon (λ h. cc h) c))
  sign_kind _ (a_semicolon n c) = semicolon_sign a (stranger_is_sign Semicolon parting c)
  sign_kind _ (a_dot c) = absurd (unsigned a Dot (λ h. cc h) (λ h. cc h) (is_sign Dot kind.Dot grammar.a_dot (λ h. cc h) c))
  sign_kind _ (an_in c) = absurd (unsigned a In (λ h. cc h) (λ h. cc h) (is_sign In kind.In grammar.an_in (λ h. cc h) c))
  sign_kind _ (a_close c) = absurd (unsigned a Close (λ h. cc h) (λ h. cc h) (is_sign Close kind.Close grammar.a_close (λ h. cc h) c))
  sign_kind _ (a_number ds c) = absurd (unsigned a (Number ds) (λ h. cc h) (λ h. cc h) (stranger_is_sign (Number ds) counting c))
  sign_kind _ (a_name c n) = absurd (n (codes "*") (sort_can (codes "*")))
  sign_kind _ (a_plain x c m n) = absurd (n (codes "*") (sort_can (codes "*")))
  sign_kind _ (a_term s c n1 n2 n3 n4 n5 n6 n) = absurd (signed Is vs a can_sign n3 n6)
