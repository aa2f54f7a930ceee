-- A line of a session has one outcome at most, and so has an answer.
use Rattle.std.proofs.Common.{◌≡◌, ◌≢◌, ◌<◌, ◌+◌, ℕ, List, [], ◌∷◌, codes, Option, Some, None, length, option_map, refl, sym, ap, ◌∙◌, subst, arith, Ok}
use Rattle.std.proofs.lemmas.Option.{same_Some}
use Rattle.pts_names.specs.Name.{Name}
use Rattle.pts_ctx.specs.System.{Specification}
use Rattle.pts_ctx.specs.Front.{find}
use Rattle.pts_grammar.specs.Seen.{syntax_of}
use Rattle.pts_parser.specs.declared.fault.ReadFault.{ReadFault}
use Rattle.pts_parser.specs.declared.fault.ReadFault.TheVariants.{Memory}
use Rattle.pts_parser.specs.FaultText.{read_text}
use Rattle.pts_lines.specs.declared.line.Line.{Line}
use Rattle.pts_lines.specs.declared.line.Line.TheVariants as line
use Rattle.pts_lines.specs.Lines.{Line as Said, of_type, definition, LineReads}
use Rattle.pts_lines.specs.Words.{command}
use Rattle.pts_lines.specs.Reading.{IsLine as IsLineOf, RefusesText}
use Rattle.pts_lines.specs.Refusals.{NoneTooMany}
use Rattle.pts_lines.specs.Seen.{line_of}
use Rattle.pts_lines.proofs.Unambiguous.{one_line}
use Rattle.pts_lines.proofs.Determined.{refused_once_only, read_not_refused}
use Rattle.pts_reduce_cost.specs.Laws.{WithinBudget, AboveBudget}
use Rattle.pts_infer_cost.specs.Typing.{moved, comes, stops}
use Rattle.pts_declare.specs.Stated.{Stated}
use Rattle.pts_declare.specs.Checking.{DeclareOutcome, Checks}
use Rattle.pts_declare.proofs.Once.{checks_once}
use Rattle.pts_statement.specs.Statements.{Statement, assumes, defines, name_of}
use Rattle.pts_statement.specs.Declaring.{unread, taken, ill_typed}
use Rattle.pts_statement.specs.Words.{reason_text, stop_text}
use Rattle.pts_play.specs.Machines.{done}
use Rattle.pts_core.specs.declared.port.Answer.{Answer}
use Rattle.pts_core.specs.declared.reply.Reply.TheVariants.{Seen, Committed}
use Rattle.pts_core.specs.declared.finding.Finding.TheVariants.{Sound}
use Rattle.pts_core.specs.Replies.{LabelledFront}
use Rattle.pts_core.specs.Histories.{submission}
use Rattle.pts_core.specs.Cores.{SeenExamined, submitted}
use Rattle.pts_core.specs.ReplyText.{reply_text}
use Rattle.pts_queries.specs.Replies.{refusal, declared_line}
use Rattle.pts_queries.specs.Queries.{AnswersInfer, AnswersReduce, AnswersEqual, found_line}
use Rattle.pts_queries.proofs.Once.{infer_once, reduce_once, equal_once}
use Rattle.pts_session.specs.State.{State, Waiting, Came, scope, changed, settled, OffersDraft}
use Rattle.pts_session.specs.Replies.{count_line, name_text, place_text, taken_line}
use Rattle.pts_session.specs.Declaring.{Declares, unknown_word, name_is_taken, is_stopped, is_spent, enters, with_entry, word_of}
use Rattle.pts_session.specs.Renaming.{RenamesEntry, is_not_there, new_name_is_taken, gets_new_name, with_new_name}
use Rattle.pts_session.specs.Lines.{tests, first_failing, IsLine, Does, looks, commits, assumes_type, defines_name, sets_budget, infers, reduces, compares, renames, discards, shows, lists_draft, ComesTo, is_no_line, is_refused, is_done}
use Rattle.pts_session.specs.Answers.{first_taken, Resume, moves, stays, has_entered, has_not_entered}
use Rattle.pts_session.specs.Laws.{IsOneOutcome, both_done, both_ask}

one_done : (k l : List (List ℕ)) (t u : State) → (k ≡ l) × (t ≡ u) → IsOneOutcome (done k t) (done l u)
one_done k l t u e = subst (λ m. IsOneOutcome (done k t) (done m u)) e.0 (subst (λ v. IsOneOutcome (done k t) (done k v)) e.1 both_done)

-- What is tested of a line is said by its command.
tests_once : (s : State) (c d : Line) → line_of c ≡ line_of d → tests s c ≡ tests s d
tests_once s line.Look line.Look h = refl
tests_once s line.Commit line.Commit h = refl
tests_once s (line.Load m) (line.Load n) h = refl
tests_once s (line.Instance m l ts) (line.Instance n k us) h = refl
tests_once s (line.Accept m) (line.Accept n) h = refl
tests_once s (line.Assume x t) (line.Assume y v) h = refl
tests_once s (line.Define x a t) (line.Define y b v) h = refl
tests_once s (line.Theorem x t) (line.Theorem y v) h = refl
tests_once s (line.Intro x) (line.Intro y) h = refl
tests_once s (line.Exact t) (line.Exact v) h = refl
tests_once s (line.Apply t) (line.Apply v) h = refl
tests_once s (line.Cut x t) (line.Cut y v) h = refl
tests_once s (line.Unfold p x) (line.Unfold q y) h = refl
tests_once s (line.Convert t) (line.Convert v) h = refl
tests_once s line.Goals line.Goals h = refl
tests_once s line.Qed line.Qed h = refl
tests_once s line.Abort line.Abort h = refl
tests_once s line.Undo line.Undo h = refl
tests_once s (line.Budget n) (line.Budget i) h = refl
tests_once s (line.Infer t) (line.Infer v) h = refl
tests_once s (line.Reduce t) (line.Reduce v) h = refl
tests_once s (line.Equal t u) (line.Equal v w) h = refl
tests_once s (line.Rename x y) (line.Rename v w) h = refl
tests_once s line.Discard line.Discard h = refl
tests_once s (line.Show p x) (line.Show q y) h = refl
tests_once s line.Draft line.Draft h = refl
tests_once s c d h = absurd (cc h)

-- A text is one line at most, and no line that is refused.
module _ (text : List ℕ) where
  same_line : (c d : Line) → IsLine text c → IsLine text d → line_of c ≡ line_of d
  same_line c d l m =
      let e : Ok l.says.0 ≡ Ok m.says.0 = sym l.says.1 ∙ m.says.1 in
      let same : l.says.0 ≡ m.says.0 = cc e in
      one_line command m.says.0 (line_of c) (line_of d) (subst (λ ts. LineReads command ts (line_of c)) same l.says.2) m.says.2

  never_refused : {P : Type 0} (c : Line) (e : ReadFault) → IsLine text c → e ≢ Memory → RefusesText command text e → P
  never_refused c e l n r =
      let f : Ok l.parentheses.0 ≡ Ok l.says.0 = sym l.parentheses.1 ∙ l.says.1 in
      let same : l.parentheses.0 ≡ l.says.0 = cc f in
      absurd (read_not_refused command text l.says.0 (line_of c) e n l.says.1 l.says.2 (subst (NoneTooMany (IsLineOf command) 2000) same l.parentheses.2) l.depth r)

-- The statement of a line that declares.
abbrev statement_of : Said → Option Statement
statement_of (of_type c x A) = Some (assumes x A)
statement_of (definition x A t) = Some (defines x A t)
statement_of L = None

module _ (S : Specification) (s : State) where
  -- A declaration.
  not_both : {P : Type 0} (m k b : ℕ) → m + k ≡ b → b < m → P
  not_both m k b e h = absurd (omega (arith, e, h))

  within_once : (d : Statement) (t u : Stated) (o p : DeclareOutcome) (k j : ℕ) → t ≡ u → WithinBudget (Checks S (scope s) (name_of d) t) s.budget o k → WithinBudget (Checks S (scope s) (name_of d) u) s.budget p j → o ≡ p
  within_once d t u o p k j same (m, h, e) (n, i, f) = (checks_once S (scope s) (name_of d) u o p m n (subst (λ v. Checks S (scope s) (name_of d) v o m) same h) i).0

  never_above : {P : Type 0} (d : Statement) (t u : Stated) (o : DeclareOutcome) (k : ℕ) → t ≡ u → WithinBudget (Checks S (scope s) (name_of d) t) s.budget o k → AboveBudget (Checks S (scope s) (name_of d) u) s.budget → P
  never_above d t u o k same (m, h, e) a = not_both m k s.budget e (a o m (subst (λ v. Checks S (scope s) (name_of d) v o m) same h))

  declares_once : (d : Statement) (k l : List (List ℕ)) (t u : State) → Declares S s d k t → Declares S s d l u → (k ≡ l) × (t ≡ u)
  declares_once d k l t u (unknown_word {e = e} q) (unknown_word {e = f} r) = let h : e ≡ f = cc in (ap (λ g. refusal (reason_text S.sorts (unread g)) ∷ []) h, refl)
  declares_once d k l t u (unknown_word q) (name_is_taken r a) = absurd (cc)
  declares_once d k l t u (unknown_word q) (is_stopped n r a w) = absurd (cc)
  declares_once d k l t u (unknown_word q) (is_spent r a w) = absurd (cc)
  declares_once d k l t u (unknown_word q) (enters n r a w) = absurd (cc)
  declares_once d k l t u (name_is_taken r a) (unknown_word q) = absurd (cc)
  declares_once d k l t u (name_is_taken {p = p} q a) (name_is_taken {p = i} r b) = let h : p ≡ i = cc in (ap (λ g. refusal (reason_text S.sorts (taken (name_of d) g)) ∷ []) h, refl)
  declares_once d k l t u (name_is_taken q a) (is_stopped n r b w) = absurd (cc)
  declares_once d k l t u (name_is_taken q a) (is_spent r b w) = absurd (cc)
  declares_once d k l t u (name_is_taken q a) (enters n r b w) = absurd (cc)
  declares_once d k l t u (is_stopped n r a w) (unknown_word q) = absurd (cc)
  declares_once d k l t u (is_stopped n r b w) (name_is_taken q a) = absurd (cc)
  declares_once d k l t u (is_stopped {t = v} {e = e} n q a w) (is_stopped {t = x} {e = f} m r b y) =
      let same : v ≡ x = cc in
      let o : stops e ≡ stops f = within_once d v x (stops e) (stops f) n m same w y in
      let h : e ≡ f = cc o in
      (ap (λ g. refusal (stop_text S.sorts (moved ill_typed g)) ∷ []) h, refl)
  declares_once d k l t u (is_stopped {t = v} {e = e} n q a w) (is_spent {t = x} r b y) = let same : v ≡ x = cc in never_above d v x (stops e) n same w y
  declares_once d k l t u (is_stopped {t = v} {e = e} n q a w) (enters {t = x} {e = f} m r b y) =
      let same : v ≡ x = cc in
      let o : stops e ≡ comes f = within_once d v x (stops e) (comes f) n m same w y in
      absurd (cc o)
  declares_once d k l t u (is_spent r a w) (unknown_word q) = absurd (cc)
  declares_once d k l t u (is_spent r b w) (name_is_taken q a) = absurd (cc)
  declares_once d k l t u (is_spent {t = x} r b y) (is_stopped {t = v} {e = e} n q a w) = let same : v ≡ x = cc in never_above d v x (stops e) n same w y
  declares_once d k l t u (is_spent q a w) (is_spent r b y) = (refl, refl)
  declares_once d k l t u (is_spent {t = x} r b y) (enters {t = v} {e = e} n q a w) = let same : v ≡ x = cc in never_above d v x (comes e) n same w y
  declares_once d k l t u (enters n r a w) (unknown_word q) = absurd (cc)
  declares_once d k l t u (enters n r b w) (name_is_taken q a) = absurd (cc)
  declares_once d k l t u (enters {t = v} {e = e} n q a w) (is_stopped {t = x} {e = f} m r b y) =
      let same : v ≡ x = cc in
      let o : comes e ≡ stops f = within_once d v x (comes e) (stops f) n m same w y in
      absurd (cc o)
  declares_once d k l t u (enters {t = v} {e = e} n q a w) (is_spent {t = x} r b y) = let same : v ≡ x = cc in never_above d v x (comes e) n same w y
  declares_once d k l t u (enters {t = v} {e = e} n q a w) (enters {t = x} {e = f} m r b y) =
      let same : v ≡ x = cc in
      let o : comes e ≡ comes f = within_once d v x (comes e) (comes f) n m same w y in
      let h : e ≡ f = cc o in
      (ap (λ g. declared_line S.sorts (word_of d) g ∷ []) h, ap (λ g. changed s (with_entry S s g)) h)

  -- A renaming.
  renames_once : (x y : Name) (k l : List (List ℕ)) (t u : State) → RenamesEntry s x y k t → RenamesEntry s x y l u → (k ≡ l) × (t ≡ u)
  renames_once x y k l t u (is_not_there e) (is_not_there f) = (refl, refl)
  renames_once x y k l t u (is_not_there e) (new_name_is_taken f g) = absurd (cc)
  renames_once x y k l t u (is_not_there e) (gets_new_name f g) = absurd (cc)
  renames_once x y k l t u (new_name_is_taken f g) (is_not_there e) = absurd (cc)
  renames_once x y k l t u (new_name_is_taken {p = p} e f) (new_name_is_taken {p = q} g h) = let i : p ≡ q = cc in (ap (λ z. refusal (place_text (codes "Taken") y z) ∷ []) i, refl)
  renames_once x y k l t u (new_name_is_taken e f) (gets_new_name g h) = absurd (cc)
  renames_once x y k l t u (gets_new_name f g) (is_not_there e) = absurd (cc)
  renames_once x y k l t u (gets_new_name e f) (new_name_is_taken g h) = absurd (cc)
  renames_once x y k l t u (gets_new_name e f) (gets_new_name g h) = (refl, refl)

  -- What is offered of a draft is one event.
  offers_event : (x : SeenExamined) (n : ℕ) (F : LabelledFront) → OffersDraft S s x → submitted n x F ≡ submission n (length s.base.entries) s.draft None Sound F
  offers_event x n F o = rw (sym (ap (λ G. length G.entries) o.front), sym o.entries, o.label, o.finding) refl

  -- A line that may be given.
  same_statement : (L M : Said) (d e : Statement) → L ≡ M → statement_of L ≡ Some d → statement_of M ≡ Some e → d ≡ e
  same_statement L M d e h q r = same_Some d e (sym q ∙ (ap statement_of h ∙ r))

  declaring_once : (L M : Said) (d e : Statement) (k l : List (List ℕ)) (t u : State) → L ≡ M → statement_of L ≡ Some d → statement_of M ≡ Some e → Declares S s d k t → Declares S s e l u → IsOneOutcome (done k t) (done l u)
  declaring_once L M d e k l t u h q r D E = one_done k l t u (declares_once d k l t u D (subst (λ c. Declares S s c l u) (sym (same_statement L M d e h q r)) E))

  does_once : (c d : Line) (o p : Came) → line_of c ≡ line_of d → Does S s c o → Does S s d p → IsOneOutcome o p
  does_once c d o p h looks looks = both_ask (λ n F. refl)
  does_once c d o p h (commits {x = x} X) (commits {x = y} Y) = both_ask (λ n F. offers_event x n F X ∙ sym (offers_event y n F Y))
  does_once c d o p h (assumes_type {x = x} {A = A} {replies = k} {t = t} D) (assumes_type {x = y} {A = B} {replies = l} {t = u} E) = declaring_once _ _ (assumes x (syntax_of A)) (assumes y (syntax_of B)) k l t u h refl refl D E
  does_once c d o p h (defines_name {x = x} {A = A} {b = a} {replies = k} {t = t} D) (defines_name {x = y} {A = B} {b = b} {replies = l} {t = u} E) = declaring_once _ _ (defines x (option_map syntax_of A) (syntax_of a)) (defines y (option_map syntax_of B) (syntax_of b)) k l t u h refl refl D E
  does_once c d o p h (sets_budget {n = n}) (sets_budget {n = m}) = let e : n ≡ m = cc h in one_done _ _ _ _ (ap (λ i. count_line (codes "budget") i ∷ []) e, ap (λ i. changed s (record s { budget = i })) e)
  does_once c d o p h (infers {t = t} {line = k} a) (infers {t = u} {line = l} b) =
      let e : syntax_of t ≡ syntax_of u = cc h in
      one_done _ _ _ _ (ap (λ m. m ∷ []) (infer_once S (scope s) s.budget (syntax_of u) k l (subst (λ T. AnswersInfer S (scope s) s.budget T k) e a) b), refl)
  does_once c d o p h (reduces {t = t} {line = k} a) (reduces {t = u} {line = l} b) =
      let e : syntax_of t ≡ syntax_of u = cc h in
      one_done _ _ _ _ (ap (λ m. m ∷ []) (reduce_once S (scope s) s.budget (syntax_of u) k l (subst (λ T. AnswersReduce S (scope s) s.budget T k) e a) b), refl)
  does_once c d o p h (compares {t = t} {u = v} {line = k} a) (compares {t = u} {u = w} {line = l} b) =
      let e : syntax_of t ≡ syntax_of u = cc h in
      let f : syntax_of v ≡ syntax_of w = cc h in
      one_done _ _ _ _ (ap (λ m. m ∷ []) (equal_once S (scope s) s.budget (syntax_of u) (syntax_of w) k l (subst (λ T. AnswersEqual S (scope s) s.budget T (syntax_of w) k) e (subst (λ T. AnswersEqual S (scope s) s.budget (syntax_of t) T k) f a)) b), refl)
  does_once c d o p h (renames {x = x} {y = y} {replies = k} {t = t} D) (renames {x = v} {y = w} {replies = l} {t = u} E) =
      let e : v ≡ x = cc h in
      let f : w ≡ y = cc h in
      one_done k l t u (renames_once x y k l t u D (subst (λ z. RenamesEntry s z y l u) e (subst (λ z. RenamesEntry s v z l u) f E)))
  does_once c d o p h discards discards = both_done
  does_once c d o p h (shows {p = q} {x = x} {line = k} a) (shows {p = r} {x = y} {line = l} b) =
      let e : q ≡ r = cc h in
      let f : x ≡ y = cc h in
      one_done _ _ _ _ (ap (λ m. m ∷ []) (a ∙ (ap (λ i. found_line S.sorts i x (find x (scope s))) e ∙ (ap (λ z. found_line S.sorts r z (find z (scope s))) f ∙ sym b))), refl)
  does_once c d o p h lists_draft lists_draft = both_done
  does_once c d o p h f g = absurd (cc h)

  pub lines_once : (text : List ℕ) (o p : Came) → ComesTo S s text o → ComesTo S s text p → IsOneOutcome o p
  lines_once text o p (is_no_line {e = e} n r) (is_no_line {e = f} m q) = one_done _ _ _ _ (ap (λ g. refusal (read_text g) ∷ []) (refused_once_only command text e f n m r q), refl)
  lines_once text o p (is_no_line {e = e} n r) (is_refused {c = c} l f) = never_refused text c e l n r
  lines_once text o p (is_no_line {e = e} n r) (is_done {c = c} l f D) = never_refused text c e l n r
  lines_once text o p (is_refused {c = c} l f) (is_no_line {e = e} n r) = never_refused text c e l n r
  lines_once text o p (is_refused {c = c} {why = why} l f) (is_refused {c = d} {why = wherefore} m g) =
      let h = tests_once s c d (same_line text c d l m) in
      one_done _ _ _ _ (ap (λ w. refusal w ∷ []) (same_Some why wherefore (sym f ∙ (ap first_failing h ∙ g))), refl)
  lines_once text o p (is_refused {c = c} {why = why} l f) (is_done {c = d} m g D) =
      let e : Some why ≡ None = sym f ∙ (ap first_failing (tests_once s c d (same_line text c d l m)) ∙ g) in
      absurd (cc e)
  lines_once text o p (is_done {c = c} l f D) (is_no_line {e = e} n r) = never_refused text c e l n r
  lines_once text o p (is_done {c = d} m g D) (is_refused {c = c} {why = why} l f) =
      let e : Some why ≡ None = sym f ∙ (ap first_failing (tests_once s c d (same_line text c d l m)) ∙ g) in
      absurd (cc e)
  lines_once text o p (is_done {c = c} l f D) (is_done {c = d} m g E) = does_once c d o p (same_line text c d l m) D E

pub answers_once : (w : Waiting) (a : Answer) (k l : List (List ℕ)) (t u : State) → Resume w a k t → Resume w a l u → (k ≡ l) × (t ≡ u)
answers_once w a k l t u (moves {n = n} {F = F} i r f e) (moves {n = m} {F = G} j q g h) =
    let same : F ≡ G = cc in
    let number : n ≡ m = cc in
    (ap (λ x. reply_text (Seen x) ∷ []) number, ap (λ H. settled (record w.state { base = H })) same)
answers_once w a k l t u (moves {n = n} {F = F} i r f e) (stays {n = m} {F = G} {x = x} {p = p} j q g h) =
    let same : F ≡ G = cc in
    let z : None ≡ Some (x, p) = sym e ∙ (ap (λ H. first_taken H.entries w.state.draft) same ∙ h) in
    absurd (cc z)
answers_once w a k l t u (moves i r f e) (has_entered j q g) = absurd (cc)
answers_once w a k l t u (moves i r f e) (has_not_entered j q g) = absurd (cc)
answers_once w a k l t u (stays {n = m} {F = G} {x = x} {p = p} j q g h) (moves {n = n} {F = F} i r f e) =
    let same : F ≡ G = cc in
    let z : None ≡ Some (x, p) = sym e ∙ (ap (λ H. first_taken H.entries w.state.draft) same ∙ h) in
    absurd (cc z)
answers_once w a k l t u (stays {n = n} {F = F} {x = x} {p = p} i r f e) (stays {n = m} {F = G} {x = y} {p = v} j q g h) =
    let same : F ≡ G = cc in
    let number : n ≡ m = cc in
    let z : Some (x, p) ≡ Some (y, v) = sym e ∙ (ap (λ H. first_taken H.entries w.state.draft) same ∙ h) in
    let pair : (x, p) ≡ (y, v) = same_Some (x, p) (y, v) z in
    (ap (λ b. reply_text (Seen b) ∷ taken_line x p ∷ []) number ∙ ap (λ b. reply_text (Seen m) ∷ taken_line b.0 b.1 ∷ []) pair, refl)
answers_once w a k l t u (stays i r f e) (has_entered j q g) = absurd (cc)
answers_once w a k l t u (stays i r f e) (has_not_entered j q g) = absurd (cc)
answers_once w a k l t u (has_entered j q g) (moves i r f e) = absurd (cc)
answers_once w a k l t u (has_entered j q g) (stays i r f e) = absurd (cc)
answers_once w a k l t u (has_entered {n = n} {m = m} {F = F} i r f) (has_entered {n = p} {m = q} {F = G} j x g) =
    let same : F ≡ G = cc in
    let reply : Committed n m ≡ Committed p q = sym r ∙ x in
    (ap (λ b. reply_text b ∷ []) reply, ap (λ H. settled (record w.state { base = H; draft = [] })) same)
answers_once w a k l t u (has_entered i r f) (has_not_entered j q g) = absurd (cc)
answers_once w a k l t u (has_not_entered j q g) (moves i r f e) = absurd (cc)
answers_once w a k l t u (has_not_entered j q g) (stays i r f e) = absurd (cc)
answers_once w a k l t u (has_not_entered j q g) (has_entered i r f) = absurd (cc)
answers_once w a k l t u (has_not_entered {r = x} i r f) (has_not_entered {r = y} j q g) = (ap (λ b. reply_text b ∷ []) (sym r ∙ q), refl)
