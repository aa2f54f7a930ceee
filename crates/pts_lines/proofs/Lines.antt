-- The reader of lines, in terms of the grammar.
use Rattle.std.proofs.Common.{ℕ, ◌≡◌, ◌≤◌, inl, inr, refl, sym, ◌∙◌, ap, subst, arith, List, [], ◌∷◌, length, take, min, Option, Some, None, option_map, Result, Ok, Err}
use Rattle.std.specs.Prelude.{IfOk, IfErr, OnOk}
use Rattle.std.proofs.lemmas.List.{take_min}
use Rattle.pts_names.specs.Name.{Name}
use Rattle.pts_tokens.specs.declared.token.Token.TheVariants.{Name as Word}
use Rattle.pts_tokens.specs.Tokens.{Spot}
use Rattle.pts_grammar.specs.Seen.{within}
use Rattle.pts_grammar.specs.Open.{more}
use Rattle.pts_parser.specs.declared.fault.ReadFault.{ReadFault}
use Rattle.pts_parser.specs.declared.fault.ReadFault.TheVariants.{BadChar, LongName, Expected, TooDeep, UnknownName, UnknownSort, Memory}
use Rattle.pts_parser.specs.Reading.{tokens_from}
use Rattle.pts_parser.specs.Resolution.{UnlessMemory, and_then}
use Rattle.pts_lines.specs.declared.command.Command.{Command}
use Rattle.pts_lines.specs.declared.command.Declaring.{Declaring}
use Rattle.pts_lines.specs.declared.declaration.DeclaringLine.{DeclaringLine}
use Rattle.pts_lines.specs.Words.{command, declared, declaring, rest_of}
use Rattle.pts_lines.specs.Lines.{Line, Follows, LineReads, a_line, DeclarationReads, a_declaration}
use Rattle.pts_lines.specs.Seen.{line_of, declaration_of, deepest, terms_of}
use Rattle.pts_lines.specs.Reading.{Behind, IsLine, RefusesLine, no_word, no_command, behind_word, many_open, deep_term, SaysLine, SaysDeclaration, RefusesText, FewOpen, after_tokens, line_said, declaration_said}
use Rattle.pts_lines.specs.Forms.{AnswersAs, run_command, run_line, run_declaration}
use Rattle.pts_lines.specs.declared.line.Line.{Line as TheLine}
use Rattle.pts_lines.specs.Forms as forms
use Rattle.pts_lines.specs.Refusals.{NoneTooMany, FirstTooMany}
use Rattle.pts_lines.proofs.Languages.{none_of_one, lift_none, lift_first}
use Rattle.pts_lines.proofs.Told.{Told}
use Rattle.pts_lines.proofs.Shallow.{Gives}
use Rattle.pts_lines.proofs.Rows.{behind_told}

-- What an answer says of the tokens of a line.
abbrev pub LineTold : (Name → Option Command) → ℕ → List Spot → Result Line ReadFault → Type 0
LineTold words size ts (Ok L) = LineReads words ts L × (deepest (terms_of L) ≤ 2000) × NoneTooMany (IsLine words) 2000 ts
LineTold words size ts (Err e) = RefusesLine words size ts e

-- Behind the word of a command.
module _ (words : Name → Option Command) (p : ℕ) (w : Name) (c : Command) (e : words w ≡ Some c) where
  pub line_to : (us : List Spot) → Behind c us → IsLine words ((p, Word w) ∷ us)
  line_to us (L, d) = (L, a_line e d)

  pub line_from : (us : List Spot) → IsLine words ((p, Word w) ∷ us) → Behind c us
  line_from us (L, a_line {c = b} f d) =
      let q : Some b ≡ Some c = sym f ∙ e in
      let same : b ≡ c = cc q in
      (L, subst (λ x. Follows x us L) same d)

  word_alone : NoneTooMany (IsLine words) 2000 ((p, Word w) ∷ [])
  word_alone = none_of_one (IsLine words) 2000 (p, Word w) (omega arith)

  none_in_line : (us : List Spot) → NoneTooMany (Behind c) 2000 us → NoneTooMany (IsLine words) 2000 ((p, Word w) ∷ us)
  none_in_line = lift_none (IsLine words) (Behind c) ((p, Word w) ∷ []) line_to line_from 2000 refl word_alone

  first_in_line : (us : List Spot) (q : ℕ) → FirstTooMany (Behind c) 2000 us q → FirstTooMany (IsLine words) 2000 ((p, Word w) ∷ us) q
  first_in_line = lift_first (IsLine words) (Behind c) ((p, Word w) ∷ []) line_to line_from 2000 refl word_alone

worded : (words : Name → Option Command) (size p : ℕ) (w : Name) (c : Command) (us : List Spot) → words w ≡ Some c → (r : Result Line ReadFault) → Told (Behind c) size (Gives c) us r → LineTold words size ((p, Word w) ∷ us) r
worded words size p w c us e (Ok L) d = (a_line e d.0.0, d.0.1, none_in_line words p w c e us d.1)
worded words size p w c us e (Err (Expected q k)) d = behind_word e d.0 (none_in_line words p w c e us d.1)
worded words size p w c us e (Err (TooDeep q)) (inl d) = many_open (first_in_line words p w c e us q d)
worded words size p w c us e (Err (TooDeep q)) (inr d) = subst (λ x. RefusesLine words size ((p, Word w) ∷ us) (TooDeep x)) (sym d.0) (deep_term (a_line e d.1.1) d.1.2 (none_in_line words p w c e us d.2))
worded words size p w c us e (Err (BadChar q)) d = absurd d
worded words size p w c us e (Err (LongName q)) d = absurd d
worded words size p w c us e (Err (UnknownName q x)) d = absurd d
worded words size p w c us e (Err (UnknownSort q x)) d = absurd d
worded words size p w c us e (Err Memory) d = absurd d

begun : (size p : ℕ) (w : Name) (us : List Spot) (o : Option Command) → command w ≡ o → LineTold command size ((p, Word w) ∷ us) (forms.behind_word within more size o us)
begun size p w us (Some c) e = worded command size p w c us e (run_command within more size c us) (behind_told size c us)
begun size p w us None e = no_command wrong
  where
    wrong : (v : Name) (c : Command) → Word w ≡ Word v → command v ≡ Some c → ⊥
    wrong v c h g =
        let same : w ≡ v = cc h in
        let m : None ≡ Some c = sym e ∙ (ap (λ x. command x) same ∙ g) in
        absurd (cc m)

pub line_told : (size : ℕ) (ts : List Spot) → LineTold command size ts (run_line within more size ts)
unfolding run_line
line_told size [] = no_word
line_told size ((p, Word w) ∷ us) = begun size p w us (command w) refl
line_told size ((p, t) ∷ us) = no_command (λ w c e h. absurd (cc e))

-- Only the grammar's refusals come of tokens.
no_bad : {words : Name → Option Command} {n p : ℕ} {us : List Spot} → RefusesLine words n us (BadChar p) → ⊥
no_bad d = elim d [ ]

no_long : {words : Name → Option Command} {n p : ℕ} {us : List Spot} → RefusesLine words n us (LongName p) → ⊥
no_long d = elim d [ ]

no_name : {words : Name → Option Command} {n p : ℕ} {x : Name} {us : List Spot} → RefusesLine words n us (UnknownName p x) → ⊥
no_name d = elim d [ ]

no_sort : {words : Name → Option Command} {n p : ℕ} {x : Name} {us : List Spot} → RefusesLine words n us (UnknownSort p x) → ⊥
no_sort d = elim d [ ]

-- The tokens that a text has, and what is said of them.
pub text_refused : (words : Name → Option Command) (text : List ℕ) (ts : List Spot) (e : ReadFault) → tokens_from text 0 ≡ Ok ts → UnlessMemory e (RefusesLine words (length text) ts e) → RefusesText words text e
text_refused words text ts (Expected p k) g h = (ts, g, h)
text_refused words text ts (TooDeep p) g h = (ts, g, h)
text_refused words text ts (BadChar p) g h = absurd (no_bad h)
text_refused words text ts (LongName p) g h = absurd (no_long h)
text_refused words text ts (UnknownName p x) g h = no_name h
text_refused words text ts (UnknownSort p x) g h = no_sort h
text_refused words text ts Memory g h = tt

unless : (e : ReadFault) {P Q : Type 0} → (P → Q) → UnlessMemory e P → UnlessMemory e Q
unless (Expected p k) f h = f h
unless (TooDeep p) f h = f h
unless (BadChar p) f h = f h
unless (LongName p) f h = f h
unless (UnknownName p x) f h = f h
unless (UnknownSort p x) f h = f h
unless Memory f h = tt

-- Declarations.
abbrev pub DeclarationTold : ℕ → List Spot → Result (Declaring × Line) ReadFault → Type 0
DeclarationTold size ts (Ok d) = DeclarationReads ts d.0 d.1 × (deepest (terms_of d.1) ≤ 2000) × NoneTooMany (IsLine declaring) 2000 ts
DeclarationTold size ts (Err e) = RefusesLine declaring size ts e

with_word : (size p : ℕ) (w : Name) (d : Declaring) (us : List Spot) → declared w ≡ Some d → (r : Result Line ReadFault) → LineTold declaring size ((p, Word w) ∷ us) r → ((L : Line) → r ≡ Ok L → Follows (rest_of d) us L) → DeclarationTold size ((p, Word w) ∷ us) (and_then r (λ L. Ok (d, L)))
with_word size p w d us e (Ok L) h f = (a_declaration e (f L refl), h.1, h.2)
with_word size p w d us e (Err x) h f = h

follows_told : (size : ℕ) (c : Command) (us : List Spot) (r : Result Line ReadFault) → Told (Behind c) size (Gives c) us r → (L : Line) → r ≡ Ok L → Follows c us L
follows_told size c us (Ok M) d L e = let m : M ≡ L = cc e in subst (λ x. Follows c us x) m d.0.0
follows_told size c us (Err x) d L e = absurd (cc e)

begun_declaration : (size p : ℕ) (w : Name) (us : List Spot) (o : Option Declaring) → declared w ≡ o → DeclarationTold size ((p, Word w) ∷ us) (forms.behind_declared within more size o us)
begun_declaration size p w us (Some d) e = with_word size p w d us e (run_command within more size (rest_of d) us) (worded declaring size p w (rest_of d) us (ap (option_map rest_of) e) (run_command within more size (rest_of d) us) (behind_told size (rest_of d) us)) (follows_told size (rest_of d) us (run_command within more size (rest_of d) us) (behind_told size (rest_of d) us))
begun_declaration size p w us None e = no_command wrong
  where
    wrong : (v : Name) (c : Command) → Word w ≡ Word v → declaring v ≡ Some c → ⊥
    wrong v c h g =
        let same : w ≡ v = cc h in
        let m : None ≡ Some c = sym (ap (option_map rest_of) e) ∙ (ap (λ x. declaring x) same ∙ g) in
        absurd (cc m)

pub declaration_told : (size : ℕ) (ts : List Spot) → DeclarationTold size ts (run_declaration within more size ts)
unfolding run_declaration
declaration_told size [] = no_word
declaration_told size ((p, Word w) ∷ us) = begun_declaration size p w us (declared w) refl
declaration_told size ((p, t) ∷ us) = no_command (λ w c e h. absurd (cc e))

-- A call's answer, that is the reader's.
module _ (text : List ℕ) (ts : List Spot) (e : tokens_from text 0 ≡ Ok ts) where
  pub says : (r : Result TheLine ReadFault) → AnswersAs line_of r (run_line within more (length text) ts) → IfOk r (λ l. SaysLine text (line_of l))
  says (Ok l) h = (ts, e, (subst (λ r. LineTold command (length text) ts r) h (line_told (length text) ts)).0)
  says (Err f) h = tt

  pub shallow : (r : Result TheLine ReadFault) → AnswersAs line_of r (run_line within more (length text) ts) → IfOk r (λ l. deepest (terms_of (line_of l)) ≤ 2000)
  shallow (Ok l) h = (subst (λ r. LineTold command (length text) ts r) h (line_told (length text) ts)).1
  shallow (Err f) h = tt

  pub line_few : (r : Result TheLine ReadFault) → AnswersAs line_of r (run_line within more (length text) ts) → OnOk r (FewOpen command text)
  line_few (Ok l) h = (ts, e, (subst (λ r. LineTold command (length text) ts r) h (line_told (length text) ts)).2)
  line_few (Err f) h = tt

  pub refuses : (r : Result TheLine ReadFault) → AnswersAs line_of r (run_line within more (length text) ts) → IfErr r (λ f. RefusesText command text f)
  refuses (Ok l) h = tt
  refuses (Err f) h = text_refused command text ts f e (unless f (λ q. subst (λ r. LineTold command (length text) ts r) q (line_told (length text) ts)) h)

  pub declares : (r : Result DeclaringLine ReadFault) → AnswersAs declaration_of r (run_declaration within more (length text) ts) → IfOk r (λ d. SaysDeclaration text (declaration_of d))
  declares (Ok d) h = (ts, e, (subst (λ r. DeclarationTold (length text) ts r) h (declaration_told (length text) ts)).0)
  declares (Err f) h = tt

  pub declares_shallow : (r : Result DeclaringLine ReadFault) → AnswersAs declaration_of r (run_declaration within more (length text) ts) → IfOk r (λ d. deepest (terms_of (declaration_of d).1) ≤ 2000)
  declares_shallow (Ok d) h = (subst (λ r. DeclarationTold (length text) ts r) h (declaration_told (length text) ts)).1
  declares_shallow (Err f) h = tt

  pub declaration_few : (r : Result DeclaringLine ReadFault) → AnswersAs declaration_of r (run_declaration within more (length text) ts) → OnOk r (FewOpen declaring text)
  declaration_few (Ok d) h = (ts, e, (subst (λ r. DeclarationTold (length text) ts r) h (declaration_told (length text) ts)).2)
  declaration_few (Err f) h = tt

  pub declares_not : (r : Result DeclaringLine ReadFault) → AnswersAs declaration_of r (run_declaration within more (length text) ts) → IfErr r (λ f. RefusesText declaring text f)
  declares_not (Ok d) h = tt
  declares_not (Err f) h = text_refused declaring text ts f e (unless f (λ q. subst (λ r. DeclarationTold (length text) ts r) q (declaration_told (length text) ts)) h)

  pub line_exact : (r : Result TheLine ReadFault) → AnswersAs line_of r (run_line within more (length text) ts) → AnswersAs line_of r (line_said text)
  line_exact r h = subst (λ x. AnswersAs line_of r (after_tokens x (run_line within more (length text)))) (sym e) h

  pub declaration_exact : (r : Result DeclaringLine ReadFault) → AnswersAs declaration_of r (run_declaration within more (length text) ts) → AnswersAs declaration_of r (declaration_said text)
  declaration_exact r h = subst (λ x. AnswersAs declaration_of r (after_tokens x (run_declaration within more (length text)))) (sym e) h

-- The front of a text up to a place that may lie behind its end.
pub front_is : (n : ℕ) (text : List ℕ) → take (min n (length text)) text ≡ take n text
front_is n text = take_min n text
