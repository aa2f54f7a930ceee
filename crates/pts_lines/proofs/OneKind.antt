-- In the language of each form one kind of token must stand behind tokens that can go on.
use Rattle.std.proofs.Common.{ℕ, suc, ◌≡◌, ◌⊎◌, ◌≤◌, ◌<◌, inl, inr, refl, sym, ◌∙◌, ap, arith, List, [], ◌∷◌, ◌++◌, length, true, false, cond, Option, zero, Some, None}
use Rattle.std.proofs.lemmas.List.{append-nil}
use Rattle.std.specs.Prelude.{codes}
use Rattle.pts_tokens.specs.declared.token.Token.{Token}
use Rattle.pts_tokens.specs.declared.token.Token.TheVariants.{In, Colon, Assign, Dot, Close, Semicolon, Sort, Name as Word, Number}
use Rattle.pts_tokens.specs.Tokens.{Spot}
use Rattle.pts_grammar.specs.declared.kind.Kind.{Kind}
use Rattle.pts_grammar.specs.declared.kind.Kind.TheVariants as kind
use Rattle.pts_grammar.specs.Syntax.{Syntax}
use Rattle.pts_names.specs.Name.{underscore}
use Rattle.pts_grammar.specs.Machine.{syntax, State, begin, read, at_end as end_of, run}
use Rattle.pts_grammar.specs.Seen.{Subtree, within}
use Rattle.pts_grammar.proofs.Complete.{Ends, continues}
use Rattle.pts_grammar.proofs.Sound.{always}
use Rattle.pts_grammar.proofs.Reach.{reach}
use Rattle.pts_grammar.proofs.Refusals.{ended_here}
use Rattle.pts_lines.specs.Items.{Item, plain, label, placed, number, colon, assign, semicolon, sign, Value, wanted, said}
use Rattle.pts_lines.specs.Lines.{last_term, more_terms}
use Rattle.pts_lines.specs.Refusals.{CanFollow, Wants, the_end, an_assign, a_colon, a_semicolon, a_dot, an_in, a_close, a_number, a_name, a_plain, a_term}
use Rattle.pts_lines.specs.Forms.{Sign, item_of, LineForm, ends, item, term, term_then, terms, is_semicolon}
use Rattle.pts_lines.proofs.Frames.{reads_shorter}
use Rattle.pts_lines.proofs.Letter.{underscore_is_none, underscore_is_no_label}
use Rattle.pts_lines.proofs.Machine.{Pending, pending_or_whole, read_freely}
use Rattle.pts_lines.proofs.Languages.{wants_to}
use Rattle.pts_lines.proofs.Many.{Comes, comes_to, comes_behind, comes}
use Rattle.pts_lines.proofs.Fits.{sign_of, Texts, can, empty}
use Rattle.pts_lines.proofs.Told.{First, first_of, Several, several_inside, several_begins, whole_then, others_from, others_to, begun, any_to, any_from, none_begins, no_more, item_to, item_from, term_inside, term_begins, closed, then_inside, then_begins, not_ended, then_to, then_from, stops_at}
use Rattle.pts_lines.proofs.Wanted.{OneKind, one_behind, pending_kind, end_kind, sign_kind}

-- The term that is before a token at which the machine stays.
behind_first : (vs ws : List Spot) (T : Syntax) (x : Spot) → ((n : ℕ) (xs : List Spot) → run syntax always n (begin []) (vs ++ xs) ≡ read T (x ∷ (ws ++ xs))) → First vs T (x ∷ ws)
behind_first vs ws T x f = first_of always 0 vs (x ∷ ws) T (ap (run syntax always 0 (begin [])) (sym (append-nil vs)) ∙ (f 0 [] ∙ ap (λ l. read T (x ∷ l)) (append-nil ws)))

-- Several terms.
several_stops : (ts : List Spot) → Several ts → (T : Syntax) (s : Spot) (us : List Spot) → run syntax always 0 (begin []) ts ≡ read T (s ∷ us) → s.1 ≡ Semicolon
unfolding Ends continues
several_stops ts (Ts, last_term {T = U} d) T s us e =
    let m : read U [] ≡ read T (s ∷ us) = sym (read_freely 0 ts [] U d tt) ∙ e in
    let r : [] ≡ s ∷ us = cc m in
    absurd (cc r)
several_stops ts (Ts, more_terms {us = ws} {T = U} {p = p} d r) T s us e =
    let m : read U ((p, Semicolon) ∷ ws) ≡ read T (s ∷ us) = sym (read_freely 0 ts ((p, Semicolon) ∷ ws) U d refl) ∙ e in
    let l : (p, Semicolon) ∷ ws ≡ s ∷ us = cc m in
    let q : ◌≡◌ {A = Spot} (p, Semicolon) s = cc l in
    ap (λ x. x.1) (sym q)

several_here : (vs : List Spot) (R : State Syntax) → reach (begin []) vs ≡ Some R → Pending R ⊎ ((U : Syntax) × (end_of syntax 0 R ≡ read U [])) → OneKind Several vs
several_here vs R e (inl h) k j c w v = pending_kind Several several_inside several_begins (λ t. t ≡ Semicolon) several_stops vs R e h k j w v
several_here vs R e (inr (U, g)) k j c w v = end k w ∙ sym (end j v)
  where
    end : (i : Kind) → Wants Several vs i → i ≡ kind.End
    end = end_kind Several several_inside several_begins (λ t. t ≡ Semicolon) several_stops vs R e U g (U ∷ [], last_term (ended_here vs R e U g)) (λ h. cc h) (λ h. cc h) (λ h. cc h) (λ ds h. cc h)

several_step : (n : ℕ) (vs us : List Spot) → length vs ≤ suc n → ((ws : List Spot) → length ws ≤ n → OneKind Several ws) → Several (vs ++ us) → (T : Syntax) (rest : List Spot) → Comes (begin []) vs us T rest → OneKind Several vs
several_step n vs us h ih d T rest (comes_to R e) = several_here vs R e (pending_or_whole R)
several_step n vs us h ih d T rest (comes_behind x ws r f) =
    let g = behind_first vs ws T x f in
    let short : length (x ∷ ws) < length vs = reads_shorter g.reads in
    let s : x.1 ≡ Semicolon = several_stops (vs ++ us) d T x (ws ++ us) (f 0 us) in
    let b : is_semicolon x.1 ≡ true = ap (λ t. is_semicolon t) s in
    one_behind Several Several (g.before ++ x ∷ []) (λ ys (Us, q). (T ∷ Us, others_to 0 vs T x ws g b ys Us q)) (others_from 0 vs T x ws g) vs ws (whole_then 0 vs T x ws g) (ih ws (omega (arith, short, h)))

pub several_one : (n : ℕ) (vs : List Spot) → length vs ≤ n → OneKind Several vs
several_one n [] h k j c w v = let b = several_begins _ c.1 in first b.0 b.1 (comes [] c.0 b.0 b.1 (begin []) b.2)
  where
    first : (T : Syntax) (rest : List Spot) → Comes (begin []) [] c.0 T rest → k ≡ j
    first T rest (comes_to R e) = several_here [] R e (pending_or_whole R) k j c w v
    first T rest (comes_behind x ws r f) = let short : length (x ∷ ws) < 0 = reads_shorter (behind_first [] ws T x f).reads in absurd (omega (arith, short))
several_one (suc n) (s ∷ vs) h k j c w v = let b = several_begins _ c.1 in several_step n (s ∷ vs) c.0 h (λ ws g. several_one n ws g) c.1 b.0 b.1 (comes (s ∷ vs) c.0 b.0 b.1 (begin []) b.2) k j c w v
several_one zero (s ∷ vs) h k j c w v = absurd (omega arith)

-- Any number of terms.
any_sort : {R : Type 0} (F : List Subtree → Option R) → CanFollow (Texts (terms F)) [] (Sort (codes "*"))
any_sort F = let c = begun 0 (Sort (codes "*")) refl in (c.0, any_to 0 F _ c.1)

any_kind : {R : Type 0} (F : List Subtree → Option R) (k : Kind) → Wants (Texts (terms F)) [] k → k ≡ kind.End
any_kind F _ (the_end d) = refl
any_kind F _ (an_assign n c) = absurd (n (F [], inl (refl, refl)))
any_kind F _ (a_colon n m c) = absurd (n (F [], inl (refl, refl)))
any_kind F _ (a_semicolon n c) = absurd (n (F [], inl (refl, refl)))
any_kind F _ (a_dot c) = absurd (none_begins 0 F (0, Dot) refl c)
any_kind F _ (an_in c) = absurd (none_begins 0 F (0, In) refl c)
any_kind F _ (a_close c) = absurd (none_begins 0 F (0, Close) refl c)
any_kind F _ (a_number ds c) = absurd (none_begins 0 F (0, Number ds) refl c)
any_kind F _ (a_name c n) = absurd (n (codes "*") (any_sort F))
any_kind F _ (a_plain x c m n) = absurd (n (codes "*") (any_sort F))
any_kind F _ (a_term s c n1 n2 n3 n4 n5 n6 n) = absurd (n (F [], inl (refl, refl)))

any_one : {R : Type 0} (F : List Subtree → Option R) (vs : List Spot) → OneKind (Texts (terms F)) vs
any_one F [] k j c w v = any_kind F k w ∙ sym (any_kind F j v)
any_one F (s ∷ vs) k j (us, d) w v = several_one (length (s ∷ vs)) (s ∷ vs) (omega arith) k j (us, any_from 0 F s _ d) (rest w) (rest v)
  where
    rest : {i : Kind} → Wants (Texts (terms F)) (s ∷ vs) i → Wants Several (s ∷ vs) i
    rest = wants_to Several (Texts (terms F)) (s ∷ vs) (s ∷ vs) (λ ys d. any_from 0 F s _ d) (λ ys d. any_to 0 F _ d)

-- A term.
term_stops : {R : Type 0} (F : Subtree → Option R) (ts : List Spot) → Texts (term F) ts → (T : Syntax) (s : Spot) (us : List Spot) → run syntax always 0 (begin []) ts ≡ read T (s ∷ us) → ⊥
unfolding Ends
term_stops F ts (o, (U, d, h)) T s us e =
    let m : read U [] ≡ read T (s ∷ us) = sym (read_freely 0 ts [] U d tt) ∙ e in
    let r : [] ≡ s ∷ us = cc m in
    cc r

term_one : {R : Type 0} (F : Subtree → Option R) (vs : List Spot) → OneKind (Texts (term F)) vs
term_one F vs k j c w v = let b = term_begins 0 F _ c.1 in by b.0 b.1 (comes vs c.0 b.0 b.1 (begin []) b.2)
  where
    here : (R : State Syntax) → reach (begin []) vs ≡ Some R → Pending R ⊎ ((U : Syntax) × (end_of syntax 0 R ≡ read U [])) → k ≡ j
    here R e (inl h) = pending_kind (Texts (term F)) (term_inside 0 F) (term_begins 0 F) (λ t. ⊥) (term_stops F) vs R e h k j w v
    here R e (inr (U, g)) =
        let end : (i : Kind) → Wants (Texts (term F)) vs i → i ≡ kind.End = end_kind (Texts (term F)) (term_inside 0 F) (term_begins 0 F) (λ t. ⊥) (term_stops F) vs R e U g (F (within U), (U, ended_here vs R e U g, refl)) (λ h. h) (λ h. h) (λ h. h) (λ ds h. h) in
        end k w ∙ sym (end j v)

    by : (T : Syntax) (rest : List Spot) → Comes (begin []) vs c.0 T rest → k ≡ j
    by T rest (comes_to R e) = here R e (pending_or_whole R)
    by T rest (comes_behind x ws r f) = absurd (term_stops F (vs ++ c.0) c.1 T x (ws ++ c.0) (f 0 c.0))

-- A term and a sign behind it.
then_stops : {R : Type 0} (a : Sign) (F : Subtree → LineForm R) (ts : List Spot) → Texts (term_then a F) ts → (T : Syntax) (s : Spot) (us : List Spot) → run syntax always 0 (begin []) ts ≡ read T (s ∷ us) → s.1 ≡ sign_of a
then_stops a F ts (o, (U, x, xs, d, e, g)) T s us h =
    let m : read U (x ∷ xs) ≡ read T (s ∷ us) = sym (read_freely 0 ts (x ∷ xs) U d (stops_at a x xs e)) ∙ h in
    let l : x ∷ xs ≡ s ∷ us = cc m in
    let q : x ≡ s = cc l in
    ap (λ y. y.1) (sym q) ∙ e

then_here : {R : Type 0} (a : Sign) (F : Subtree → LineForm R) (vs : List Spot) (Q : State Syntax) → reach (begin []) vs ≡ Some Q → Pending Q ⊎ ((U : Syntax) × (end_of syntax 0 Q ≡ read U [])) → OneKind (Texts (term_then a F)) vs
then_here a F vs Q e (inl h) k j c w v = pending_kind (Texts (term_then a F)) (then_inside 0 a F) (then_begins 0 a F) (λ t. t ≡ sign_of a) (then_stops a F) vs Q e h k j w v
then_here a F vs Q e (inr (U, g)) k j c w v = signs k w ∙ sym (signs j v)
  where
    signs : (i : Kind) → Wants (Texts (term_then a F)) vs i → i ≡ wanted (item_of a)
    signs = sign_kind (Texts (term_then a F)) (then_inside 0 a F) (then_begins 0 a F) a (then_stops a F) vs Q e U g (not_ended 0 a F vs U (ended_here vs Q e U g)) (closed 0 a F vs U (ended_here vs Q e U g))

then_one : {R : Type 0} (a : Sign) (F : Subtree → LineForm R) (vs : List Spot) → ((P : Subtree) (ws : List Spot) → OneKind (Texts (F P)) ws) → OneKind (Texts (term_then a F)) vs
then_one a F vs ih k j c w v = let b = then_begins 0 a F _ c.1 in by b.0 b.1 (comes vs c.0 b.0 b.1 (begin []) b.2)
  where
    by : (T : Syntax) (rest : List Spot) → Comes (begin []) vs c.0 T rest → k ≡ j
    by T rest (comes_to Q e) = then_here a F vs Q e (pending_or_whole Q) k j c w v
    by T rest (comes_behind x ws r f) =
        let g = behind_first vs ws T x f in
        one_behind (Texts (term_then a F)) (Texts (F (within T))) (g.before ++ x ∷ []) (then_to 0 a F vs T x ws g (then_stops a F (vs ++ c.0) c.1 T x (ws ++ c.0) (f 0 c.0))) (then_from 0 a F vs T x ws g) vs ws (whole_then 0 vs T x ws g) (ih (within T) ws) k j c w v

-- One token. Its kind is the one that is wanted, but for a name that need not be plain, and for the first of two signs.
kind_of : Token → Kind
kind_of Colon = kind.Colon
kind_of Assign = kind.Assign
kind_of Semicolon = kind.Semicolon
kind_of Dot = kind.Dot
kind_of In = kind.In
kind_of Close = kind.Close
kind_of (Number ds) = kind.Number
kind_of (Word x) = kind.Plain
kind_of (Sort s) = kind.Term
kind_of _ = kind.End

data Other : Item → Token → Type 0 where
  any_name : {x : List ℕ} → Other placed (Word x)
  first_sign : Other sign Colon

said_kind : (i : Item) (t : Token) (v : Value i) → said i (0, t) ≡ Some v → (kind_of t ≡ wanted i) ⊎ Other i t
unfolding kind_of
said_kind plain (Word x) v e = inl refl
said_kind plain t v e = absurd (cc e)
said_kind label (Word x) v e = inl refl
said_kind label t v e = absurd (cc e)
said_kind placed (Word x) v e = inr any_name
said_kind placed t v e = absurd (cc e)
said_kind number (Number ds) v e = inl refl
said_kind number t v e = absurd (cc e)
said_kind colon Colon v e = inl refl
said_kind colon t v e = absurd (cc e)
said_kind assign Assign v e = inl refl
said_kind assign t v e = absurd (cc e)
said_kind semicolon Semicolon v e = inl refl
said_kind semicolon t v e = absurd (cc e)
said_kind sign Colon v e = inr first_sign
said_kind sign Assign v e = inl refl
said_kind sign t v e = absurd (cc e)

underscore_kind : (i : Item) (v : Value i) → said i (0, Word underscore) ≡ Some v → kind.Name ≡ wanted i
underscore_kind plain v e = let m : None ≡ Some v = sym (ap (λ b. cond b (Some underscore) None) underscore_is_none) ∙ e in absurd (cc m)
underscore_kind label v e = let m : None ≡ Some v = sym (ap (λ b. cond b (Some underscore) None) underscore_is_no_label) ∙ e in absurd (cc m)
underscore_kind placed v e = refl
underscore_kind number v e = absurd (cc e)
underscore_kind colon v e = absurd (cc e)
underscore_kind assign v e = absurd (cc e)
underscore_kind semicolon v e = absurd (cc e)
underscore_kind sign v e = absurd (cc e)

module _ {R : Type 0} (i : Item) (F : Value i → LineForm R) where
  token_kind : (t : Token) → CanFollow (Texts (item i F)) [] t → (kind_of t ≡ wanted i) ⊎ Other i t
  token_kind t (us, (o, (v, e, d))) = said_kind i t v e

same_kind : (i : Item) (t : Token) → ¬ Other i t → (kind_of t ≡ wanted i) ⊎ Other i t → kind_of t ≡ wanted i
same_kind i t n (inl e) = e
same_kind i t n (inr o) = absurd (n o)

no_other : (i : Item) (t : Token) → ¬ (t ≡ Colon) → ((x : List ℕ) → ¬ (t ≡ Word x)) → ¬ Other i t
no_other _ _ n m any_name = m _ refl
no_other _ _ n m first_sign = n refl

-- Where one of the two stands, another can.
other_sign : {R : Type 0} (i : Item) (F : Value i → LineForm R) → Other i Colon → CanFollow (Texts (item i F)) [] Assign
other_sign _ F first_sign = can sign F Assign false refl

other_name : {R : Type 0} (i : Item) (F : Value i → LineForm R) (x : List ℕ) → Other i (Word x) → CanFollow (Texts (item i F)) [] (Word underscore)
other_name _ F x any_name = can placed F (Word underscore) (0, underscore) refl

item_kind : {R : Type 0} (i : Item) (F : Value i → LineForm R) (k : Kind) → Wants (Texts (item i F)) [] k → k ≡ wanted i
unfolding kind_of
item_kind i F _ (the_end d) = absurd (empty i F d)
item_kind i F _ (an_assign n c) = same_kind i Assign (no_other i Assign (λ h. cc h) (λ x h. cc h)) (token_kind i F Assign c)
item_kind i F _ (a_colon n m c) = same_kind i Colon (λ o. m (other_sign i F o)) (token_kind i F Colon c)
item_kind i F _ (a_semicolon n c) = same_kind i Semicolon (no_other i Semicolon (λ h. cc h) (λ x h. cc h)) (token_kind i F Semicolon c)
item_kind i F _ (a_dot c) = same_kind i Dot (no_other i Dot (λ h. cc h) (λ x h. cc h)) (token_kind i F Dot c)
item_kind i F _ (an_in c) = same_kind i In (no_other i In (λ h. cc h) (λ x h. cc h)) (token_kind i F In c)
item_kind i F _ (a_close c) = same_kind i Close (no_other i Close (λ h. cc h) (λ x h. cc h)) (token_kind i F Close c)
item_kind i F _ (a_number ds c) = same_kind i (Number ds) (no_other i (Number ds) (λ h. cc h) (λ x h. cc h)) (token_kind i F (Number ds) c)
item_kind i F _ (a_name (us, (o, (v, e, d))) n) = underscore_kind i v e
item_kind i F _ (a_plain x c m n) = same_kind i (Word x) (λ o. m (other_name i F x o)) (token_kind i F (Word x) c)
item_kind i F _ (a_term s c n1 n2 n3 n4 n5 n6 n) = same_kind i (Sort s) (no_other i (Sort s) (λ h. cc h) (λ x h. cc h)) (token_kind i F (Sort s) c)

item_one : {R : Type 0} (i : Item) (F : Value i → LineForm R) (vs : List Spot) → ((v : Value i) (ws : List Spot) → OneKind (Texts (F v)) ws) → OneKind (Texts (item i F)) vs
item_one i F [] ih k j c w v = item_kind i F k w ∙ sym (item_kind i F j v)
item_one i F (s ∷ ws) ih k j (us, (o, (x, e, d))) w v = one_behind (Texts (item i F)) (Texts (F x)) (s ∷ []) (item_to 0 i F s x e) (item_from 0 i F s x e) (s ∷ ws) ws refl (ih x ws) k j (us, (o, (x, e, d))) w v

-- Nothing.
ends_kind : {R : Type 0} (o : Option R) (k : Kind) → Wants (Texts (ends o)) [] k → k ≡ kind.End
ends_kind o _ (the_end d) = refl
ends_kind o _ (an_assign n c) = absurd (n (o, (refl, refl)))
ends_kind o _ (a_colon n m c) = absurd (n (o, (refl, refl)))
ends_kind o _ (a_semicolon n c) = absurd (n (o, (refl, refl)))
ends_kind o _ (a_dot c) = absurd (no_more 0 o (0, Dot) c)
ends_kind o _ (an_in c) = absurd (no_more 0 o (0, In) c)
ends_kind o _ (a_close c) = absurd (no_more 0 o (0, Close) c)
ends_kind o _ (a_number ds c) = absurd (no_more 0 o (0, Number ds) c)
ends_kind o _ (a_name c n) = absurd (no_more 0 o (0, Word underscore) c)
ends_kind o _ (a_plain x c m n) = absurd (no_more 0 o (0, Word x) c)
ends_kind o _ (a_term s c n1 n2 n3 n4 n5 n6 n) = absurd (n (o, (refl, refl)))

ends_one : {R : Type 0} (o : Option R) (vs : List Spot) → OneKind (Texts (ends o)) vs
ends_one o [] k j c w v = ends_kind o k w ∙ sym (ends_kind o j v)
ends_one o (s ∷ vs) k j (us, d) w v = absurd (no_more 0 o s (vs ++ us, d))

-- Each form.
pub one_kind : {R : Type 0} (F : LineForm R) (vs : List Spot) → OneKind (Texts F) vs
one_kind (ends o) vs = ends_one o vs
one_kind (item i F) vs = item_one i F vs (λ v ws. one_kind (F v) ws)
one_kind (term F) vs = term_one F vs
one_kind (term_then a F) vs = then_one a F vs (λ P ws. one_kind (F P) ws)
one_kind (terms F) vs = any_one F vs
