-- What a line does, with equal replies and an equal state; and what becomes of a line that is tested.
use Rattle.std.proofs.Common.{◌≡◌, ◌≢◌, ℕ, List, [], ◌∷◌, ◌++◌, Option, Some, None, Result, Ok, Err, IfOk, OnOk, refl, sym, ap, ◌∙◌, subst}
use Rattle.std.specs.Prelude.{length, map, drop, codes}
use Rattle.std.proofs.lemmas.List.{length-map}
use Rattle.pts_names.specs.Name.{Name}
use Rattle.pts_ctx.specs.System.{Specification}
use Rattle.pts_ctx.specs.Front.{Global}
use Rattle.pts_check.specs.Entered.{declared, declared_entries}
use Rattle.pts_core.specs.declared.finding.Finding.TheVariants.{Sound}
use Rattle.pts_core.specs.Cores.{SeenExamined, labelled}
use Rattle.pts_draft.specs.Drafts.{SeenDraft, scope}
use Rattle.pts_lines.specs.declared.line.Line.TheVariants as line
use Rattle.pts_play.specs.declared.machines.Local.{Local}
use Rattle.pts_play.specs.declared.machines.Local.TheVariants.{Ask}
use Rattle.pts_session.specs.declared.request.Request.{Request}
use Rattle.pts_session.specs.Replies.{count_line}
use Rattle.pts_session.specs.Seen.{state_of, came_to}
use Rattle.pts_parser.specs.declared.fault.ReadFault.{ReadFault}
use Rattle.pts_parser.specs.declared.fault.ReadFault.TheVariants.{Memory}
use Rattle.pts_parser.specs.FaultText.{read_text}
use Rattle.pts_lines.specs.declared.line.Line.{Line}
use Rattle.pts_lines.specs.Words.{command}
use Rattle.pts_lines.specs.Reading.{RefusesText}
use Rattle.pts_play.specs.Machines.{done, asks}
use Rattle.pts_queries.specs.Replies.{refusal, shown_line}
use Rattle.pts_grammar.specs.Seen.{syntax_of}
use Rattle.pts_grammar.specs.declared.tree.Tree.{Tree}
use Rattle.pts_queries.specs.Queries.{AnswersInfer, AnswersReduce, AnswersEqual, AnswersShow}
use Rattle.pts_session.specs.State.{State, Came, awaited_after, OffersDraft}
use Rattle.pts_session.specs.Lines.{IsLine, Does, sets_budget, infers, reduces, compares, discards, shows, lists_draft, draft_lines, ComesTo, is_no_line, is_refused, is_done, tests, first_failing}
use Rattle.pts_session.specs.Tested.{AfterTests, Tested}

module _ (S : Specification) (s : State) where
  pub done_as : (t u : State) (c : Line) (out given : List (List ℕ)) → out ≡ given → t ≡ u → Does S s c (done given u) → Does S s c (done out t)
  done_as t u c out given e f d = subst (λ l. Does S s c (done l t)) (sym e) (subst (λ v. Does S s c (done given v)) (sym f) d)

  pub tested_is : (text : List ℕ) (c : Line) (o : Came) → IsLine text c → Tested S s c o → ComesTo S s text o
  tested_is text c o l t = by (first_failing (tests s c)) refl t
    where
      by : (r : Option (List ℕ)) → first_failing (tests s c) ≡ r → AfterTests r s (Does S s c) o → ComesTo S s text o
      by None e d = is_done l e d
      by (Some why) e d = subst (λ p. ComesTo S s text p) (sym d) (is_refused l e)

  pub unread_is : (text : List ℕ) (e : ReadFault) (o : Came) → e ≢ Memory → RefusesText command text e → o ≡ done (refusal (read_text e) ∷ []) s → ComesTo S s text o
  unread_is text e o m r is = subst (λ p. ComesTo S s text p) (sym is) (is_no_line m r)

-- The same of what a call answers.
module _ {X E : Type 0} (came : X → State → Came) (S : Specification) (s t : State) (r : Result X E) where
  pub run_refused : (c : Line) (why : List ℕ) → Some why ≡ first_failing (tests s c) → t ≡ s → IfOk r (λ l. (u : State) → came l u ≡ done (refusal why ∷ []) u) → IfOk r (λ l. Tested S s c (came l t))
  run_refused c why fails kept = by r
    where
      by : (r : Result X E) → IfOk r (λ l. (u : State) → came l u ≡ done (refusal why ∷ []) u) → IfOk r (λ l. Tested S s c (came l t))
      by (Err e) all = tt
      by (Ok l) all = subst (λ u. Tested S s c (came l u)) (sym kept) (subst (λ o. AfterTests o s (Does S s c) (came l s)) fails (all s))

  pub run_done : (c : Line) → None ≡ first_failing (tests s c) → IfOk r (λ l. Does S s c (came l t)) → IfOk r (λ l. Tested S s c (came l t))
  run_done c passes = by r
    where
      by : (r : Result X E) → IfOk r (λ l. Does S s c (came l t)) → IfOk r (λ l. Tested S s c (came l t))
      by (Err e) d = tt
      by (Ok l) d = subst (λ o. AfterTests o s (Does S s c) (came l t)) passes d

  pub line_read : (text : List ℕ) (c : Line) → IsLine text c → IfOk r (λ l. Tested S s c (came l t)) → IfOk r (λ l. ComesTo S s text (came l t))
  line_read text c is = by r
    where
      by : (r : Result X E) → IfOk r (λ l. Tested S s c (came l t)) → IfOk r (λ l. ComesTo S s text (came l t))
      by (Err e) d = tt
      by (Ok l) d = tested_is S s text c (came l t) is d

  pub line_unread : (text : List ℕ) (e : ReadFault) → OnOk r (e ≢ Memory) → RefusesText command text e → t ≡ s → IfOk r (λ l. (u : State) → came l u ≡ done (refusal (read_text e) ∷ []) u) → IfOk r (λ l. ComesTo S s text (came l t))
  line_unread text e m refuses kept = by r m
    where
      by : (r : Result X E) → OnOk r (e ≢ Memory) → IfOk r (λ l. (u : State) → came l u ≡ done (refusal (read_text e) ∷ []) u) → IfOk r (λ l. ComesTo S s text (came l t))
      by (Err f) m all = tt
      by (Ok l) m all = unread_is S s text e (came l t) m refuses (subst (λ u. came l u ≡ done (refusal (read_text e) ∷ []) s) (sym kept) (all s))

-- What asks.
pub asks_as : (S : Specification) (s t : State) (c : Line) (r : Local Request) (q : Request) → r ≡ Ask q → t ≡ s → Does S s c (asks q (record { state = s; awaited = awaited_after q })) → Does S s c (came_to r t)
asks_as S s t c r q e f d = subst (λ l. Does S s c (came_to l t)) (sym e) (subst (λ u. Does S s c (asks q (record { state = u; awaited = awaited_after q }))) (sym f) d)

pub offers_is : (S : Specification) (d : SeenDraft) (b : ℕ) (x : SeenExamined) → d.system ≡ S → x.system ≡ d.system → x.offer.front.entries ≡ d.entries → x.offer.front.labels ≡ d.labels → x.offer.declarations ≡ d.declarations → x.offer.label ≡ None → x.finding ≡ Sound → OffersDraft S (state_of d b) x
offers_is S d b x same system entries labels declarations label sound = record {
  system = system ∙ same;
  front = λ i. record { entries = entries i; labels = labels i };
  entries = ap declared_entries declarations;
  label = label;
  finding = sound;
}

-- What changes the draft or the budget.
pub budget_as : (S : Specification) (d : SeenDraft) (b n : ℕ) (out : List (List ℕ)) (l : List ℕ) → out ≡ l ∷ [] → l ≡ count_line (codes "budget") n → Does S (state_of d b) (line.Budget n) (done out (state_of d n))
budget_as S d b n out l e f = done_as S (state_of d b) (state_of d n) (state_of d n) (line.Budget n) out (count_line (codes "budget") n ∷ []) (e ∙ ap (λ k. k ∷ []) f) refl sets_budget

pub discards_as : (S : Specification) (d n : SeenDraft) (b k : ℕ) (out : List (List ℕ)) (l : List ℕ) → out ≡ l ∷ [] → l ≡ count_line (codes "discarded") k → k ≡ length d.declarations → n.declarations ≡ [] → n.entries ≡ d.entries → n.labels ≡ d.labels → Does S (state_of d b) line.Discard (done out (state_of n b))
discards_as S d n b k out l e f g none entries labels =
    let count : k ≡ length (declared_entries d.declarations) = g ∙ sym (length-map d.declarations declared) in
    done_as S (state_of d b) (state_of n b) (record (state_of d b) { draft = [] }) line.Discard out (count_line (codes "discarded") (length (declared_entries d.declarations)) ∷ [])
    (e ∙ ap (λ k. k ∷ []) (f ∙ ap (count_line (codes "discarded")) count))
    (λ i. record { base = record { entries = entries i; labels = labels i }; draft = declared_entries (none i); budget = b })
    discards

-- What lists the draft.
drop_all : {A : Type 0} (xs ys : List A) → drop (length xs) (xs ++ ys) ≡ ys
drop_all [] ys = refl
drop_all (x ∷ xs) ys = drop_all xs ys

pub lists_as : (S : Specification) (d : SeenDraft) (b k m : ℕ) (G : List (Global Name)) (out first shown : List (List ℕ)) (l : List ℕ) → out ≡ first ++ shown → first ≡ l ∷ [] → l ≡ count_line (codes "draft") k → k ≡ length d.declarations → G ≡ scope d → m ≡ length d.entries → shown ≡ map (shown_line S.sorts) (drop m G) → out ≡ draft_lines S (state_of d b)
lists_as S d b k m G out first shown l e f g count is at lines =
    let c : k ≡ length (declared_entries d.declarations) = count ∙ sym (length-map d.declarations declared) in
    let head : first ≡ count_line (codes "draft") (length (declared_entries d.declarations)) ∷ [] = f ∙ ap (λ x. x ∷ []) (g ∙ ap (count_line (codes "draft")) c) in
    let tail : shown ≡ map (shown_line S.sorts) (declared_entries d.declarations) = lines ∙ ap (map (shown_line S.sorts)) (ap (λ n. drop n G) at ∙ (ap (drop (length d.entries)) is ∙ drop_all d.entries (declared_entries d.declarations))) in
    e ∙ (ap (λ x. x ++ shown) head ∙ ap (λ x. count_line (codes "draft") (length (declared_entries d.declarations)) ∷ x) tail)

-- What asks about the scope.
module _ {E : Type 0} (S : Specification) (d : SeenDraft) (b : ℕ) (s : State) (same : state_of d b ≡ s) (G : List (Global Name)) (is : G ≡ scope d) (l : Line) (r : Result (List ℕ) E) where
  at_scope : (P : List (Global Name) → ℕ → List ℕ → Type 0) (c : Line) → l ≡ c → ((x : List ℕ) → P (scope d) b x → Does S (state_of d b) c (done (x ∷ []) (state_of d b))) → IfOk r (P G b) → IfOk r (λ x. Does S s l (done (x ∷ []) s))
  at_scope P c e does = by r
    where
      by : (r : Result (List ℕ) E) → IfOk r (P G b) → IfOk r (λ x. Does S s l (done (x ∷ []) s))
      by (Err f) p = tt
      by (Ok x) p =
          subst (λ k. Does S s k (done (x ∷ []) s)) (sym e)
          (subst (λ u. Does S u c (done (x ∷ []) u)) same (does x (subst (λ H. P H b x) is p)))

  pub infers_as : (t : Tree) → l ≡ line.Infer t → IfOk r (AnswersInfer S G b (syntax_of t)) → IfOk r (λ x. Does S s l (done (x ∷ []) s))
  infers_as t e = at_scope (λ H c x. AnswersInfer S H c (syntax_of t) x) (line.Infer t) e (λ x p. infers p)

  pub reduces_as : (t : Tree) → l ≡ line.Reduce t → IfOk r (AnswersReduce S G b (syntax_of t)) → IfOk r (λ x. Does S s l (done (x ∷ []) s))
  reduces_as t e = at_scope (λ H c x. AnswersReduce S H c (syntax_of t) x) (line.Reduce t) e (λ x p. reduces p)

  pub compares_as : (t u : Tree) → l ≡ line.Equal t u → IfOk r (AnswersEqual S G b (syntax_of t) (syntax_of u)) → IfOk r (λ x. Does S s l (done (x ∷ []) s))
  compares_as t u e = at_scope (λ H c x. AnswersEqual S H c (syntax_of t) (syntax_of u) x) (line.Equal t u) e (λ x p. compares p)

  pub shows_as : (p : ℕ) (x : Name) → l ≡ line.Show p x → IfOk r (AnswersShow S G p x) → IfOk r (λ y. Does S s l (done (y ∷ []) s))
  shows_as p x e = at_scope (λ H c y. AnswersShow S H p x y) (line.Show p x) e (λ y q. shows q)

pub drafts_as : {X E : Type 0} (items : X → List (List ℕ)) (S : Specification) (s : State) (l : Line) (r : Result X E) → l ≡ line.Draft → IfOk r (λ v. items v ≡ draft_lines S s) → IfOk r (λ v. Does S s l (done (items v) s))
drafts_as items S s l (Err f) e p = tt
drafts_as items S s l (Ok v) e p = subst (λ k. Does S s k (done (items v) s)) (sym e) (done_as S s s s line.Draft (items v) (draft_lines S s) p refl lists_draft)
