-- A text has one refusal as a line, or none.
use Rattle.std.proofs.Common.{ℕ, ◌≡◌, ◌≢◌, ◌≤◌, refl, sym, ◌∙◌, ap, subst, arith, List, [], ◌∷◌, ◌++◌, length, Option, Some, Ok, Err, append_assoc}
use Rattle.pts_names.specs.Name.{Name}
use Rattle.pts_tokens.specs.declared.token.Token.{Token}
use Rattle.pts_tokens.specs.declared.token.Token.TheVariants.{Open, Name as Word}
use Rattle.pts_tokens.specs.declared.fault.TokenFault.{TokenFault}
use Rattle.pts_tokens.specs.declared.fault.TokenFault.TheVariants as token
use Rattle.pts_tokens.specs.Tokens.{Spot}
use Rattle.pts_grammar.specs.declared.kind.Kind.{Kind}
use Rattle.pts_grammar.specs.Refusals.{open_behind}
use Rattle.pts_parser.specs.declared.fault.ReadFault.{ReadFault}
use Rattle.pts_parser.specs.declared.fault.ReadFault.TheVariants.{BadChar, LongName, Expected, TooDeep, UnknownName, UnknownSort, Memory}
use Rattle.pts_parser.specs.Reading.{tokens_from}
use Rattle.pts_lines.specs.declared.command.Command.{Command}
use Rattle.pts_lines.specs.Lines.{Line, Follows, LineReads, a_line}
use Rattle.pts_lines.specs.Seen.{deepest, terms_of}
use Rattle.pts_lines.specs.Refusals.{CanGoOn, Wants, Refused, at_token, at_end, TooMany, too_many, NoneTooMany, FirstTooMany, first_too_many}
use Rattle.pts_lines.specs.Reading.{Behind, IsLine, RefusesLine, no_word, no_command, behind_word, many_open, deep_term, IsRefusedLine, RefusesText, LineRefusalsAreDetermined, LinesAreNotRefused}
use Rattle.pts_lines.proofs.Marks.{nothing_marked, Marks, same_mark, sooner, later, marks, front_goes}
use Rattle.pts_lines.proofs.Wanted.{OneKind}
use Rattle.pts_lines.proofs.Rows.{behind_one}
use Rattle.pts_lines.proofs.Unambiguous.{one_line}

-- A language refuses tokens once.
module _ (Is : List Spot → Type 0) where
  inside : (vs us ts : List Spot) (x : Spot) → ts ≡ vs ++ x ∷ us → CanGoOn Is ts → CanGoOn Is (vs ++ x ∷ [])
  inside vs us ts x e v = front_goes Is (vs ++ x ∷ []) us (subst (CanGoOn Is) (e ∙ sym (append_assoc vs (x ∷ []) us)) v)

  by_marks : ((vs : List Spot) → OneKind Is vs) → (vs ws : List Spot) (p q : ℕ) (t u : Token) (k j : Kind) → CanGoOn Is vs → ¬ CanGoOn Is (vs ++ (p, t) ∷ []) → Wants Is vs k → CanGoOn Is ws → ¬ CanGoOn Is (ws ++ (q, u) ∷ []) → Wants Is ws j → Marks vs ws (p, t) (q, u) → (p ≡ q) × (k ≡ j)
  by_marks one vs ws p q t u k j a n w b m v (same_mark e f) = (ap (λ s. s.0) f, one vs k j a w (subst (λ l. Wants Is l j) (sym e) v))
  by_marks one vs ws p q t u k j a n w b m v (sooner zs e) = absurd (n (front_goes Is (vs ++ (p, t) ∷ []) zs (subst (CanGoOn Is) e b)))
  by_marks one vs ws p q t u k j a n w b m v (later zs e) = absurd (m (front_goes Is (ws ++ (q, u) ∷ []) zs (subst (CanGoOn Is) e a)))

  refused_once : ((vs : List Spot) → OneKind Is vs) → (end : ℕ) (ts : List Spot) (k j : Kind) (p q : ℕ) → Refused Is end ts k p → Refused Is end ts j q → (p ≡ q) × (k ≡ j)
  refused_once one end ts k j p q (at_token vs us _ t e a n w) (at_token ws zs _ u f b m v) = by_marks one vs ws p q t u k j a n w b m v (marks vs ws us zs (p, t) (q, u) (sym e ∙ f))
  refused_once one end ts k j p _ (at_token vs us _ t e a n w) (at_end b m v) = absurd (n (inside vs us ts (p, t) e b))
  refused_once one end ts k j _ q (at_end a n w) (at_token ws zs _ u f b m v) = absurd (m (inside ws zs ts (q, u) f a))
  refused_once one end ts k j _ _ (at_end a n w) (at_end b m v) = (refl, one ts k j a w v)

  refused_not : (end : ℕ) (ts : List Spot) (k : Kind) (p : ℕ) → Refused Is end ts k p → ¬ Is ts
  refused_not end ts k p (at_token vs us _ t e a n w) d = n (us, subst Is (e ∙ sym (append_assoc vs ((p, t) ∷ []) us)) d)
  refused_not end ts k _ (at_end a n w) d = n d

  first_is : (limit : ℕ) (ts : List Spot) (p : ℕ) → FirstTooMany Is limit ts p → TooMany Is limit ts p
  first_is limit ts p (first_too_many vs us e v n none) = too_many vs us e v n

  none_among : (limit : ℕ) (vs ws zs : List Spot) (p : ℕ) → ws ≡ (vs ++ (p, Open) ∷ []) ++ zs → CanGoOn Is (vs ++ (p, Open) ∷ []) → limit ≤ open_behind 0 vs → ¬ NoneTooMany Is limit ws
  none_among limit vs ws zs p e v n none = none p (too_many vs zs (e ∙ append_assoc vs ((p, Open) ∷ []) zs) v n)

  first_once : (limit : ℕ) (ts : List Spot) (p q : ℕ) → FirstTooMany Is limit ts p → FirstTooMany Is limit ts q → p ≡ q
  first_once limit ts p q (first_too_many vs us e v n few) (first_too_many ws xs f w m none) = by (marks vs ws us xs (p, Open) (q, Open) (sym e ∙ f))
    where
      by : Marks vs ws (p, Open) (q, Open) → p ≡ q
      by (same_mark h g) = ap (λ s. s.0) g
      by (sooner zs h) = absurd (none_among limit vs ws zs p h v n none)
      by (later zs h) = absurd (none_among limit ws vs zs q h w m few)

  -- A text with such a parenthesis has one that begins as these tokens do.
  many_begins : (limit : ℕ) (s : Spot) (us : List Spot) (p : ℕ) → TooMany Is limit (s ∷ us) p → CanGoOn Is (s ∷ [])
  many_begins limit s us p (too_many [] xs e v n) = let m : ◌≡◌ {A = Spot} s (p, Open) = cc e in subst (λ x. CanGoOn Is (x ∷ [])) (sym m) v
  many_begins limit s us p (too_many (x ∷ vs) xs e v n) = let m : s ≡ x = cc e in subst (λ y. CanGoOn Is (y ∷ [])) (sym m) (front_goes Is (x ∷ []) (vs ++ (p, Open) ∷ []) v)

-- The tokens of a line. The first token is the word of no command, or is one.
module _ (words : Name → Option Command) (size : ℕ) where
  NoCommand : Spot → Type 0
  NoCommand s = (w : Name) (c : Command) → s.1 ≡ Word w → words w ≡ Some c → ⊥

  no_line : (s : Spot) (us : List Spot) → NoCommand s → ¬ IsLine words (s ∷ us)
  unfolding NoCommand
  no_line _ us n (L, a_line {w = w} {c = c} e d) = n w c refl e

  not_many : (s : Spot) (us : List Spot) (q : ℕ) → NoCommand s → ¬ FirstTooMany (IsLine words) 2000 (s ∷ us) q
  not_many s us q n d = let c = many_begins (IsLine words) 2000 s us q (first_is (IsLine words) 2000 (s ∷ us) q d) in no_line s c.0 n c.1

  nothing_many : (q : ℕ) → ¬ FirstTooMany (IsLine words) 2000 [] q
  nothing_many q (first_too_many vs us e v n none) = nothing_marked vs us (q, Open) e

  none_many : (ts : List Spot) (q : ℕ) → NoneTooMany (IsLine words) 2000 ts → ¬ FirstTooMany (IsLine words) 2000 ts q
  none_many ts q none d = none q (first_is (IsLine words) 2000 ts q d)

  stands_not : (p q : ℕ) (w : Name) (c : Command) (us : List Spot) (k : Kind) (L : Line) → words w ≡ Some c → Refused (Behind c) size us k q → ¬ LineReads words ((p, Word w) ∷ us) L
  stands_not p q w c us k L e r (a_line {c = b} f d) =
      let m : Some b ≡ Some c = sym f ∙ e in
      let same : b ≡ c = cc m in
      refused_not (Behind c) size us k q r (L, subst (λ x. Follows x us L) same d)

  words_once : (q r : ℕ) (c b : Command) (us : List Spot) (k j : Kind) → c ≡ b → Refused (Behind c) size us k q → Refused (Behind b) size us j r → (q ≡ r) × (k ≡ j)
  words_once q r c b us k j same d g = refused_once (Behind c) (behind_one c) size us k j q r d (subst (λ x. Refused (Behind x) size us j r) (sym same) g)

  once : {ts : List Spot} {e f : ReadFault} → RefusesLine words size ts e → RefusesLine words size ts f → e ≡ f
  unfolding NoCommand
  once no_word no_word = refl
  once no_word (many_open {q = q} d) = absurd (nothing_many q d)
  once no_word (deep_term r g n) = elim r [ ]
  once (no_command n) (no_command m) = refl
  once (no_command n) (behind_word {w = w} {c = c} e r m) = absurd (n w c refl e)
  once (no_command {s} {us} n) (many_open {q = q} d) = absurd (not_many s us q n d)
  once (no_command {s} {us} n) (deep_term {L = L} r g m) = absurd (no_line s us n (L, r))
  once (behind_word {w = w} {c = c} e r m) (no_command n) = absurd (n w c refl e)
  once (behind_word {q = q} {c = c} {us = us} {k = k} e d n) (behind_word {q = r} {c = b} {k = j} f g m) =
      let h : Some c ≡ Some b = sym e ∙ f in
      let same : c ≡ b = cc h in
      let both = words_once q r c b us k j same d g in
      ap (λ x. Expected x k) both.0 ∙ ap (Expected r) both.1
  once (behind_word e d n) (many_open {q = r} g) = absurd (none_many _ r n g)
  once (behind_word {p = p} {q = q} {w = w} {c = c} {us = us} {k = k} e d n) (deep_term {L = L} r g m) = absurd (stands_not p q w c us k L e d r)
  once (many_open {q = q} d) no_word = absurd (nothing_many q d)
  once (many_open {q = q} d) (no_command {s} {us} n) = absurd (not_many s us q n d)
  once (many_open {q = r} g) (behind_word e d n) = absurd (none_many _ r n g)
  once (many_open {ts} {q} d) (many_open {q = r} g) = ap TooDeep (first_once (IsLine words) 2000 ts q r d g)
  once (many_open {ts} {q} d) (deep_term r g n) = absurd (none_many ts q n d)
  once (deep_term r g n) no_word = elim r [ ]
  once (deep_term {L = L} r g m) (no_command {s} {us} n) = absurd (no_line s us n (L, r))
  once (deep_term {L = L} r g m) (behind_word {p = p} {q = q} {w = w} {c = c} {us = us} {k = k} e d n) = absurd (stands_not p q w c us k L e d r)
  once (deep_term {ts} r g n) (many_open {q = q} d) = absurd (none_many ts q n d)
  once (deep_term r g n) (deep_term q h m) = refl

  never : {ts : List Spot} {L : Line} {e : ReadFault} → LineReads words ts L → NoneTooMany (IsLine words) 2000 ts → deepest (terms_of L) ≤ 2000 → ¬ RefusesLine words size ts e
  unfolding NoCommand
  never r none low no_word = elim r [ ]
  never {L = L} r none low (no_command {s} {us} n) = no_line s us n (L, r)
  never {L = L} r none low (behind_word {p = p} {q = q} {w = w} {c = c} {us = us} {k = k} e d n) = stands_not p q w c us k L e d r
  never r none low (many_open {ts} {q} d) = none_many ts q none d
  never {L = L} r none low (deep_term {ts} {L = M} d g n) =
      let same : deepest (terms_of L) ≡ deepest (terms_of M) = ap (λ N. deepest (terms_of N)) (one_line words ts L M r d) in
      omega (arith, low, g, same)

-- The tokens of a text.
same_tokens : (text : List ℕ) (ts us : List Spot) → tokens_from text 0 ≡ Ok ts → tokens_from text 0 ≡ Ok us → ts ≡ us
same_tokens text ts us p q = let e : ts ≡ us = cc (sym p ∙ q) in e

no_tokens : (text : List ℕ) (ts : List Spot) (e : TokenFault) → tokens_from text 0 ≡ Ok ts → tokens_from text 0 ≡ Err e → ⊥
no_tokens text ts e p q = absurd (cc (sym p ∙ q))

module _ (words : Name → Option Command) (text : List ℕ) where
  grammar_once : (e f : ReadFault) → IsRefusedLine words text e → IsRefusedLine words text f → e ≡ f
  grammar_once e f (ts, g, d) (us, h, r) = once words (length text) d (subst (λ x. RefusesLine words (length text) x f) (same_tokens text us ts h g) r)

  no_refusal : (e : ReadFault) (fault : TokenFault) → tokens_from text 0 ≡ Err fault → ¬ IsRefusedLine words text e
  no_refusal e fault h (ts, g, d) = no_tokens text ts fault g h

  text_once : (e f : ReadFault) → e ≢ Memory → f ≢ Memory → RefusesText words text e → RefusesText words text f → e ≡ f
  text_once (BadChar p) (BadChar q) n m g h = let w : token.BadChar p ≡ token.BadChar q = cc (sym g ∙ h) in let v : p ≡ q = cc w in ap BadChar v
  text_once (BadChar p) (LongName q) n m g h = absurd (cc (sym g ∙ h))
  text_once (BadChar p) (Expected q k) n m g h = absurd (no_refusal (Expected q k) (token.BadChar p) g h)
  text_once (BadChar p) (TooDeep q) n m g h = absurd (no_refusal (TooDeep q) (token.BadChar p) g h)
  text_once (LongName p) (BadChar q) n m g h = absurd (cc (sym g ∙ h))
  text_once (LongName p) (LongName q) n m g h = let w : token.LongName p ≡ token.LongName q = cc (sym g ∙ h) in let v : p ≡ q = cc w in ap LongName v
  text_once (LongName p) (Expected q k) n m g h = absurd (no_refusal (Expected q k) (token.LongName p) g h)
  text_once (LongName p) (TooDeep q) n m g h = absurd (no_refusal (TooDeep q) (token.LongName p) g h)
  text_once (Expected p k) (BadChar q) n m g h = absurd (no_refusal (Expected p k) (token.BadChar q) h g)
  text_once (Expected p k) (LongName q) n m g h = absurd (no_refusal (Expected p k) (token.LongName q) h g)
  text_once (Expected p k) (Expected q j) n m g h = grammar_once (Expected p k) (Expected q j) g h
  text_once (Expected p k) (TooDeep q) n m g h = grammar_once (Expected p k) (TooDeep q) g h
  text_once (TooDeep p) (BadChar q) n m g h = absurd (no_refusal (TooDeep p) (token.BadChar q) h g)
  text_once (TooDeep p) (LongName q) n m g h = absurd (no_refusal (TooDeep p) (token.LongName q) h g)
  text_once (TooDeep p) (Expected q k) n m g h = grammar_once (TooDeep p) (Expected q k) g h
  text_once (TooDeep p) (TooDeep q) n m g h = grammar_once (TooDeep p) (TooDeep q) g h
  text_once (UnknownName p x) f n m g h = absurd g
  text_once (UnknownSort p x) f n m g h = absurd g
  text_once Memory f n m g h = absurd (n refl)
  text_once e (UnknownName p x) n m g h = absurd h
  text_once e (UnknownSort p x) n m g h = absurd h
  text_once e Memory n m g h = absurd (m refl)

  grammar_never : (ts : List Spot) (L : Line) (e : ReadFault) → tokens_from text 0 ≡ Ok ts → LineReads words ts L → NoneTooMany (IsLine words) 2000 ts → deepest (terms_of L) ≤ 2000 → ¬ IsRefusedLine words text e
  grammar_never ts L e g r none low (us, h, d) = never words (length text) r none low (subst (λ x. RefusesLine words (length text) x e) (same_tokens text us ts h g) d)

pub refused_once_only : LineRefusalsAreDetermined
refused_once_only words text e f n m g h = text_once words text e f n m g h

pub read_not_refused : LinesAreNotRefused
read_not_refused words text ts L (BadChar p) n g r none low h = no_tokens text ts (token.BadChar p) g h
read_not_refused words text ts L (LongName p) n g r none low h = no_tokens text ts (token.LongName p) g h
read_not_refused words text ts L (Expected p k) n g r none low h = grammar_never words text ts L (Expected p k) g r none low h
read_not_refused words text ts L (TooDeep p) n g r none low h = grammar_never words text ts L (TooDeep p) g r none low h
read_not_refused words text ts L (UnknownName p x) n g r none low h = h
read_not_refused words text ts L (UnknownSort p x) n g r none low h = h
read_not_refused words text ts L Memory n g r none low h = n refl
