-- A line has one answer.
use Rattle.std.proofs.Common.{◌≡◌, ◌≢◌, refl, sym, ap, subst, ◌∙◌, arith, ℕ, zero, suc, ◌<◌, ◌≤◌, ◌⊎◌, inl, inr, List, [], ◌∷◌, ◌++◌, length, Result, Ok, Err, append_assoc}
use Rattle.std.specs.Io.BufRead.{first_line, drop_through}
use Rattle.pts_terms.specs.Tree.{Named}
use Rattle.pts_tokens.specs.declared.token.Token.TheVariants.{Open}
use Rattle.pts_tokens.specs.declared.fault.TokenFault.{TokenFault}
use Rattle.pts_tokens.specs.declared.fault.TokenFault.TheVariants as token
use Rattle.pts_tokens.specs.Tokens.{Spot}
use Rattle.pts_grammar.specs.declared.kind.Kind.{Kind}
use Rattle.pts_grammar.specs.declared.fault.SyntaxFault.TheVariants as syntax
use Rattle.pts_grammar.specs.Syntax.{Syntax, depth_of}
use Rattle.pts_grammar.specs.Grammar.{Reads}
use Rattle.pts_grammar.specs.Refusals.{Viable, Refused, open_behind, at_token, at_length, too_many, NoneTooMany, FirstTooMany, first_too_many}
use Rattle.pts_grammar.proofs.Sound.{one_syntax}
use Rattle.pts_grammar.proofs.Determined.{determined}
use Rattle.pts_parser.specs.declared.fault.ReadFault.{ReadFault}
use Rattle.pts_parser.specs.declared.fault.ReadFault.TheVariants.{BadChar, LongName, Expected, TooDeep, UnknownName, UnknownSort, Memory}
use Rattle.pts_parser.specs.Resolution.{resolved}
use Rattle.pts_parser.specs.Reading.{tokens_from, Says, IsRefused, RefusesTree, Means, RefusesTerm}
use Rattle.pts_format.specs.Words.{refusal_line}
use Rattle.pts_format.specs.Lines.{no_constants, term_line, TextSays, a_term, refused, LineSays, a_text, no_text, Answered, none_yet, one_more, AnswersAll}

-- Two fronts of one list, each with what stands behind it, are the same, or one is a front of the other.
Fronts : {A : Type 0} → List A → List A → A → A → Type 0
Fronts {A} vs ws a b = ((vs ≡ ws) × (a ≡ b)) ⊎ (((zs : List A) × (ws ≡ vs ++ a ∷ zs)) ⊎ ((zs : List A) × (vs ≡ ws ++ b ∷ zs)))

longer : {A : Type 0} (v w : A) (vs ws : List A) (a b : A) → v ≡ w → Fronts vs ws a b → Fronts (v ∷ vs) (w ∷ ws) a b
unfolding Fronts
longer v w vs ws a b e (inl h) = inl (let p : v ∷ vs ≡ w ∷ ws = cc (e, h.0) in p, h.1)
longer v w vs ws a b e (inr (inl h)) = inr (inl (h.0, let p : w ∷ ws ≡ v ∷ (vs ++ a ∷ h.0) = cc (e, h.1) in p))
longer v w vs ws a b e (inr (inr h)) = inr (inr (h.0, let p : v ∷ vs ≡ w ∷ (ws ++ b ∷ h.0) = cc (e, h.1) in p))

two_fronts : {A : Type 0} (vs ws us xs : List A) (a b : A) → vs ++ a ∷ us ≡ ws ++ b ∷ xs → Fronts vs ws a b
unfolding Fronts
two_fronts [] [] us xs a b h = inl (refl, let e : a ≡ b = cc h in e)
two_fronts [] (w ∷ ws) us xs a b h = inr (inl (ws, let e : w ∷ ws ≡ a ∷ ws = cc h in e))
two_fronts (v ∷ vs) [] us xs a b h = inr (inr (vs, let e : v ∷ vs ≡ b ∷ vs = cc h in e))
two_fronts (v ∷ vs) (w ∷ ws) us xs a b h =
    longer v w vs ws a b (let e : v ≡ w = cc h in e) (two_fronts vs ws us xs a b (let e : vs ++ a ∷ us ≡ ws ++ b ∷ xs = cc h in e))

none_among : (limit : ℕ) (vs ws zs : List Spot) (p : ℕ) → ws ≡ vs ++ (p, Open) ∷ zs → Viable (vs ++ (p, Open) ∷ []) → limit ≤ open_behind 0 vs → NoneTooMany limit ws → ⊥
none_among limit vs ws zs p e v l none = none p (too_many vs zs e v l)

first_once : (limit : ℕ) (ts : List Spot) (p q : ℕ) → FirstTooMany limit ts p → FirstTooMany limit ts q → p ≡ q
unfolding Fronts
first_once limit ts p q (first_too_many vs us e v l none) (first_too_many ws xs f w m bare) = by_fronts (two_fronts vs ws us xs (p, Open) (q, Open) (sym e ∙ f))
  where
    by_fronts : Fronts vs ws (p, Open) (q, Open) → p ≡ q
    by_fronts (inl h) = ap (λ s. s.0) h.1
    by_fronts (inr (inl h)) = absurd (none_among limit vs ws h.0 p h.1 v l bare)
    by_fronts (inr (inr h)) = absurd (none_among limit ws vs h.0 q h.1 w m none)

first_is_one : (limit : ℕ) (ts : List Spot) (p : ℕ) → FirstTooMany limit ts p → NoneTooMany limit ts → ⊥
first_is_one limit ts p (first_too_many vs us e v l none) bare = bare p (too_many vs us e v l)

-- A term is not refused by the grammar.
term_passes : (length : ℕ) (ts : List Spot) (k : Kind) (p : ℕ) (T : Syntax) → Reads ts T [] → Refused length ts k p → ⊥
term_passes length ts k p T r (at_token vs us _ t e v n w) = n (us, T, subst (λ xs. Reads xs T []) (e ∙ sym (append_assoc vs ((p, t) ∷ []) us)) r)
term_passes length ts k _ T r (at_length v n w) = n T r

-- What the tokens of a text say.
same_tokens : (text : List ℕ) (ts us : List Spot) → tokens_from text 0 ≡ Ok ts → tokens_from text 0 ≡ Ok us → ts ≡ us
same_tokens text ts us p q = let e : ts ≡ us = cc (sym p ∙ q) in e

no_tokens : (text : List ℕ) (ts : List Spot) (e : TokenFault) → tokens_from text 0 ≡ Ok ts → tokens_from text 0 ≡ Err e → ⊥
no_tokens text ts e p q = absurd (cc (sym p ∙ q))

same_said : (text : List ℕ) (T U : Syntax) → Says text 0 T → Says text 0 U → T ≡ U
same_said text T U (ts, p, r) (us, q, s) = one_syntax ts T U r (subst (λ xs. Reads xs U []) (sym (same_tokens text ts us p q)) s)

module _ (sorts : List (List ℕ)) (text : List ℕ) where
  Meaning : Result Named ReadFault → Type 0
  Meaning r = Means text 0 sorts no_constants [] r

  same_meaning : (r s : Result Named ReadFault) → Meaning r → Meaning s → r ≡ s
  unfolding Meaning
  same_meaning r s (T, said, depth, shallow, is) (U, says, deep, flat, are) =
      sym is ∙ (ap (resolved sorts no_constants []) (same_said text T U said says) ∙ are)

  -- a text that has a meaning is not refused as a text
  not_refused : (r : Result Named ReadFault) (e : ReadFault) → e ≢ Memory → Meaning r → RefusesTree text 0 e → ⊥
  unfolding Meaning
  not_refused r (BadChar p) n (T, (ts, q, read), depth, shallow, is) h = no_tokens text ts (token.BadChar p) q h
  not_refused r (LongName p) n (T, (ts, q, read), depth, shallow, is) h = no_tokens text ts (token.LongName p) q h
  not_refused r (Expected p k) n (T, (ts, q, read), depth, shallow, is) (us, w, h) =
      term_passes (length text) us k p T (subst (λ xs. Reads xs T []) (same_tokens text ts us q w) read) h.0
  not_refused r (TooDeep p) n (T, (ts, q, read), depth, (vs, v, none), is) (us, w, inl h) =
      first_is_one 2000 us p h (subst (NoneTooMany 2000) (same_tokens text vs us v w) none)
  not_refused r (TooDeep p) n (T, said, depth, shallow, is) (us, w, inr h) =
      let (at_end, (U, reads, deep), none) = h in
      let e = same_said text T U said (us, w, reads) in
      let d = ap depth_of e in
      omega (arith, depth, deep, d)
  not_refused r (UnknownName p x) n m h = h
  not_refused r (UnknownSort p w) n m h = h
  not_refused r Memory n m h = n refl

  expected_apart : (p q : ℕ) (k : Kind) → IsRefused text 0 (syntax.Expected p k) → IsRefused text 0 (syntax.TooDeep q) → ⊥
  expected_apart p q k (ts, w, g) (us, v, inl h) = first_is_one 2000 us q h (subst (NoneTooMany 2000) (same_tokens text ts us w v) g.1)
  expected_apart p q k (ts, w, g) (us, v, inr h) =
      let (at_end, (U, reads, deep), none) = h in
      term_passes (length text) us k p U reads (subst (λ xs. Refused (length text) xs k p) (same_tokens text ts us w v) g.0)

  -- and a text has one refusal as a text
  tree_refused_once : (e f : ReadFault) → e ≢ Memory → f ≢ Memory → RefusesTree text 0 e → RefusesTree text 0 f → e ≡ f
  tree_refused_once (BadChar p) (BadChar q) n m g h = let w : token.BadChar p ≡ token.BadChar q = cc (sym g ∙ h) in let v : p ≡ q = cc w in ap BadChar v
  tree_refused_once (BadChar p) (LongName q) n m g h = absurd (cc (sym g ∙ h))
  tree_refused_once (BadChar p) (Expected q k) n m g (ts, w, h) = absurd (no_tokens text ts (token.BadChar p) w g)
  tree_refused_once (BadChar p) (TooDeep q) n m g (ts, w, h) = absurd (no_tokens text ts (token.BadChar p) w g)
  tree_refused_once (LongName p) (BadChar q) n m g h = absurd (cc (sym g ∙ h))
  tree_refused_once (LongName p) (LongName q) n m g h = let w : token.LongName p ≡ token.LongName q = cc (sym g ∙ h) in let v : p ≡ q = cc w in ap LongName v
  tree_refused_once (LongName p) (Expected q k) n m g (ts, w, h) = absurd (no_tokens text ts (token.LongName p) w g)
  tree_refused_once (LongName p) (TooDeep q) n m g (ts, w, h) = absurd (no_tokens text ts (token.LongName p) w g)
  tree_refused_once (Expected p k) (BadChar q) n m (ts, w, g) h = absurd (no_tokens text ts (token.BadChar q) w h)
  tree_refused_once (Expected p k) (LongName q) n m (ts, w, g) h = absurd (no_tokens text ts (token.LongName q) w h)
  tree_refused_once (Expected p k) (Expected q j) n m (ts, w, g) (us, v, h) =
      let d = determined (length text) ts k j p q g.0 (subst (λ xs. Refused (length text) xs j q) (same_tokens text us ts v w) h.0) in
      ap (λ x. Expected x k) d.0 ∙ ap (Expected q) d.1
  tree_refused_once (Expected p k) (TooDeep q) n m g h = absurd (expected_apart p q k g h)
  tree_refused_once (TooDeep p) (BadChar q) n m (ts, w, g) h = absurd (no_tokens text ts (token.BadChar q) w h)
  tree_refused_once (TooDeep p) (LongName q) n m (ts, w, g) h = absurd (no_tokens text ts (token.LongName q) w h)
  tree_refused_once (TooDeep p) (Expected q k) n m g h = absurd (expected_apart q p k h g)
  tree_refused_once (TooDeep p) (TooDeep q) n m (ts, w, inl g) (us, v, inl h) =
      ap TooDeep (first_once 2000 ts p q g (subst (λ xs. FirstTooMany 2000 xs q) (same_tokens text us ts v w) h))
  tree_refused_once (TooDeep p) (TooDeep q) n m (ts, w, inl g) (us, v, inr h) =
      absurd (first_is_one 2000 ts p g (subst (NoneTooMany 2000) (same_tokens text us ts v w) h.2))
  tree_refused_once (TooDeep p) (TooDeep q) n m (ts, w, inr g) (us, v, inl h) =
      absurd (first_is_one 2000 us q h (subst (NoneTooMany 2000) (same_tokens text ts us w v) g.2))
  tree_refused_once (TooDeep p) (TooDeep q) n m (ts, w, inr g) (us, v, inr h) = ap TooDeep (g.0 ∙ sym h.0)
  tree_refused_once (UnknownName p x) f n m g h = absurd g
  tree_refused_once (UnknownSort p x) f n m g h = absurd g
  tree_refused_once Memory f n m g h = absurd (n refl)
  tree_refused_once e (UnknownName p x) n m g h = absurd h
  tree_refused_once e (UnknownSort p x) n m g h = absurd h
  tree_refused_once e Memory n m g h = absurd (m refl)

  -- A refusal is of the text itself, or of a name or a sort in it.
  refusal_is : (e : ReadFault) → RefusesTerm text 0 sorts no_constants [] e → Meaning (Err e) ⊎ RefusesTree text 0 e
  unfolding Meaning
  refusal_is (UnknownName p x) h = inl h
  refusal_is (UnknownSort p x) h = inl h
  refusal_is (BadChar p) h = inr h
  refusal_is (LongName p) h = inr h
  refusal_is (Expected p k) h = inr h
  refusal_is (TooDeep p) h = inr h
  refusal_is Memory h = inr h

  refused_once : (e f : ReadFault) → e ≢ Memory → f ≢ Memory → Meaning (Err e) ⊎ RefusesTree text 0 e → Meaning (Err f) ⊎ RefusesTree text 0 f → e ≡ f
  refused_once e f n m (inl g) (inl h) = let d : e ≡ f = cc (same_meaning (Err e) (Err f) g h) in d
  refused_once e f n m (inl g) (inr h) = absurd (not_refused (Err e) f m g h)
  refused_once e f n m (inr g) (inl h) = absurd (not_refused (Err f) e n h g)
  refused_once e f n m (inr g) (inr h) = tree_refused_once e f n m g h

  no_term : (t : Named) (e : ReadFault) → e ≢ Memory → Meaning (Ok t) → Meaning (Err e) ⊎ RefusesTree text 0 e → ⊥
  no_term t e n g (inl h) = absurd (cc (same_meaning (Ok t) (Err e) g h))
  no_term t e n g (inr h) = not_refused (Ok t) e n g h

  said_once : (a b : List ℕ) → TextSays sorts text a → TextSays sorts text b → a ≡ b
  unfolding Meaning
  said_once a b (a_term t g p) (a_term u h q) = let e : t ≡ u = cc (same_meaning (Ok t) (Ok u) g h) in p ∙ (ap (term_line sorts) e ∙ sym q)
  said_once a b (a_term t g p) (refused f m h q) = absurd (no_term t f m g (refusal_is f h))
  said_once a b (refused e n g p) (a_term u h q) = absurd (no_term u e n h (refusal_is e g))
  said_once a b (refused e n g p) (refused f m h q) = p ∙ (ap refusal_line (refused_once e f n m (refusal_is e g) (refusal_is f h)) ∙ sym q)

pub line_once : (sorts : List (List ℕ)) (k : ℕ) (bytes a b : List ℕ) → LineSays sorts k bytes a → LineSays sorts k bytes b → a ≡ b
line_once sorts k bytes a b (a_text g p) (a_text h q) = said_once sorts bytes a b p q
line_once sorts k bytes a b (a_text g p) (no_text h q) = absurd (h g)
line_once sorts k bytes a b (no_text g p) (a_text h q) = absurd (g h)
line_once sorts k bytes a b (no_text g p) (no_text h q) = p ∙ sym q

-- So many lines have one answer, and leave the same.
answered_once : (sorts : List (List ℕ)) (bytes : List ℕ) (k : ℕ) (l m a b : List ℕ) → Answered sorts bytes k l a → Answered sorts bytes k m b → (l ≡ m) × (a ≡ b)
answered_once sorts bytes zero _ _ _ _ none_yet none_yet = (refl, refl)
answered_once sorts bytes (suc k) _ _ _ _ (one_more {left = l} {out = a} {line = v} d some p) (one_more {left = m} {out = b} {line = w} e more q) =
    let i = answered_once sorts bytes k l m a b d e in
    let s : v ≡ w = line_once sorts (suc k) (first_line m) v w (subst (λ z. LineSays sorts (suc k) (first_line z) v) i.0 p) q in
    (ap (drop_through 10) i.0, ap (λ z. z ++ v) i.1 ∙ ap (λ z. b ++ z) s)

-- One number is the other, or below it, or above it.
ordered : (k j : ℕ) → (k ≡ j) ⊎ ((k < j) ⊎ (j < k))
ordered zero zero = inl refl
ordered zero (suc j) = inr (inl (omega arith))
ordered (suc k) zero = inr (inr (omega arith))
ordered (suc k) (suc j) = up (ordered k j)
  where
    up : (k ≡ j) ⊎ ((k < j) ⊎ (j < k)) → (suc k ≡ suc j) ⊎ ((suc k < suc j) ⊎ (suc j < suc k))
    up (inl e) = inl (ap suc e)
    up (inr (inl h)) = inr (inl (omega (arith, h)))
    up (inr (inr h)) = inr (inr (omega (arith, h)))

-- Behind fewer lines something is left.
Some_left : List (List ℕ) → List ℕ → ℕ → Type 0
Some_left sorts bytes k = (m : List ℕ) × (b : List ℕ) × Answered sorts bytes k m b × (0 < length m)

by_place : (sorts : List (List ℕ)) (bytes : List ℕ) (j k : ℕ) (l a : List ℕ) → Answered sorts bytes j l a → 0 < length l → k < suc j → (k ≡ j) ⊎ ((k < j) ⊎ (j < k)) → (k < j → Some_left sorts bytes k) → Some_left sorts bytes k
unfolding Some_left
by_place sorts bytes j k l a d some below (inl e) f = (l, a, subst (λ n. Answered sorts bytes n l a) (sym e) d, some)
by_place sorts bytes j k l a d some below (inr (inl h)) f = f h
by_place sorts bytes j k l a d some below (inr (inr h)) f = absurd (omega (arith, h, below))

left_before : (sorts : List (List ℕ)) (bytes : List ℕ) (j k : ℕ) (l a : List ℕ) → Answered sorts bytes j l a → k < j → Some_left sorts bytes k
left_before sorts bytes zero k _ _ none_yet below = absurd (omega (arith, below))
left_before sorts bytes (suc j) k _ _ (one_more {left = l} {out = a} d some p) below = by_place sorts bytes j k l a d some below (ordered k j) (λ h. left_before sorts bytes j k l a d h)

none_left : (sorts : List (List ℕ)) (bytes : List ℕ) (k j : ℕ) (a b : List ℕ) → Answered sorts bytes k [] a → Answered sorts bytes j [] b → k < j → ⊥
unfolding Some_left
none_left sorts bytes k j a b d e below = by_left (left_before sorts bytes j k [] b e below)
  where
    by_left : Some_left sorts bytes k → ⊥
    by_left (m, c, f, some) = let n = ap length (answered_once sorts bytes k [] m a c d f).0 in omega (arith, n, some)

pub text_once : (sorts : List (List ℕ)) (bytes a b : List ℕ) → AnswersAll sorts bytes a → AnswersAll sorts bytes b → a ≡ b
text_once sorts bytes a b (k, d) (j, e) = by_order (ordered k j)
  where
    by_order : (k ≡ j) ⊎ ((k < j) ⊎ (j < k)) → a ≡ b
    by_order (inl h) = (answered_once sorts bytes k [] [] a b d (subst (λ n. Answered sorts bytes n [] b) (sym h) e)).1
    by_order (inr (inl h)) = absurd (none_left sorts bytes k j a b d e h)
    by_order (inr (inr h)) = absurd (none_left sorts bytes j k b a e d h)
