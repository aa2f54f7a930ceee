-- What nodes judge stays so while a record grows, and what they say without printed names.
use Rattle.std.proofs.Common.{◌≡◌, ℕ, ◌<◌, List, [], ◌∷◌, length, map, refl, sym, ap, ◌∙◌, true, Some}
use Rattle.pts_terms.specs.Tree.{Bare, bare, let_in}
use Rattle.pts_ctx.specs.Front.{Local, assumed, defined, unknown}
use Rattle.pts_record.specs.Table.{Tables, named_at, bare_at}
use Rattle.pts_record.specs.declared.shape.Form.{Form}
use Rattle.pts_record.specs.declared.shape.Form.TheVariants.{Empty, Assume, Define, Bare as BareForm, Same, Left, Right, CongApp, CongLam, CongPi}
use Rattle.pts_record.specs.Said.{by_assume, by_define, Said, Row, nothing, context, judgement, comparison, scope_of, told, named_told, bare_local, bare_said, say_as, is_context, is_judgement, has_terms, all_known}
use Rattle.pts_record.proofs.Named.{told_bare, scope_bare}
use Rattle.pts_record.proofs.Trees.{bare_of_named}
use Rattle.pts_rules.specs.Parts.{is_typed_context, newest_assumption, let_with}
use Rattle.pts_grow.specs.Keeps.{Keeps, IsNode}
use Rattle.pts_grow.proofs.Instances.{scope_at}
use Rattle.pts_grow.proofs.Grow.{stays, node_stays, tree_stays, bare_stays, told_stays}
use Rattle.pts_grow.specs.declared.judged.Judged.{Judged}
use Rattle.pts_grow.specs.Judges.{IsTypedContext, Judges, IsAssumeOf, IsDefineOf, IsSort}

-- What is judged stays so while the record grows.
pub still_judges : (a b : Tables) (c : ℕ) (j : Judged) → Keeps a b → c < length a.nodes → Judges a c j → Judges b c j
still_judges a b c j g h q =
    let x = tree_stays a b j.subject g q.0 in
    let y = tree_stays a b j.claim g q.1 in
    let s = told_stays a b c g h in
    let n = told_stays a b j.node g q.2.0 in
    (stays a b j.subject g q.0, stays a b j.claim g q.1, (node_stays a b j.node g q.2.0, rw (n, s, x, y) q.2.1))

pub still_typed : (a b : Tables) (c : ℕ) → Keeps a b → c < length a.nodes → IsTypedContext a c → IsTypedContext b c
still_typed a b c g h q =
    let s = told_stays a b c g h in
    (rw s q.0, rw s q.1)

pub still_sort : (a b : Tables) (t : ℕ) → Keeps a b → t < length a.shapes → IsSort a t → IsSort b t
still_sort a b t g h q =
    let x = bare_stays a b t g h in
    rw x q

pub still_assume : (a b : Tables) (c : ℕ) (j : Judged) (n : ℕ) → Keeps a b → c < length a.nodes → j.subject < length a.shapes → IsAssumeOf a c j n → IsAssumeOf b c j n
still_assume a b c j n g h k q =
    let x = tree_stays a b j.subject g k in
    let s = told_stays a b c g h in
    let m = told_stays a b n g q.0 in
    (node_stays a b n g q.0, rw (m, s, x) q.1)

pub still_define : (a b : Tables) (c : ℕ) (j : Judged) (n : ℕ) → Keeps a b → c < length a.nodes → j.subject < length a.shapes → j.claim < length a.shapes → IsDefineOf a c j n → IsDefineOf b c j n
still_define a b c j n g h k l q =
    let x = tree_stays a b j.subject g k in
    let y = tree_stays a b j.claim g l in
    let s = told_stays a b c g h in
    let m = told_stays a b n g q.0 in
    (node_stays a b n g q.0, rw (m, s, x, y) q.1)

pub ruleset still = (still_judges, still_typed, still_sort, still_assume, still_define)

-- A node that says so judges a term.
pub new_judges : (a b : Tables) (c subject claim n : ℕ) → Keeps a b → b.shapes ≡ a.shapes → c < length a.nodes → subject < length a.shapes → claim < length a.shapes → IsNode b n (judgement c (scope_of (named_told a c)) (named_at a.shapes subject) (named_at a.shapes claim)) → Judges b c (record { subject = subject; claim = claim; node = n })
new_judges a b c subject claim n g e h l r q =
    let x = tree_stays a b subject g l in
    let y = tree_stays a b claim g r in
    let s = told_stays a b c g h in
    (stays a b subject g l, stays a b claim g r, (q.0, rw (s, x, y) q.1))

-- Terms, contexts and sayings without printed names.
known_bare : {B : Type 0} (L : List (Local B)) → all_known (map bare_local L) ≡ all_known L
known_bare [] = refl
known_bare (assumed A ∷ L) = known_bare L
known_bare (defined a A ∷ L) = known_bare L
known_bare (unknown ∷ L) = refl

typed_bare : {B : Type 0} (m : Said B) → is_context m ≡ true → all_known (scope_of m).entries ≡ true → is_typed_context (bare_said m) ≡ true
typed_bare nothing h k = absurd (cc h)
typed_bare (context s) h k = known_bare s.entries ∙ k
typed_bare (judgement c s t T) h k = absurd (cc h)
typed_bare (comparison c s t u) h k = absurd (cc h)

-- What a judgement says without printed names.
abbrev pub judging : Tables → ℕ → Judged → Said (Unit {0})
judging r c j = judgement c (scope_at r c) (bare_at r.shapes j.subject) (bare_at r.shapes j.claim)

pub typed_at : (r : Tables) (c : ℕ) → IsTypedContext r c → is_typed_context (told r c) ≡ true
typed_at r c k = ap is_typed_context (told_bare r c) ∙ typed_bare (named_told r c) k.0 k.1

pub scope_told : (r : Tables) (c : ℕ) → scope_of (told r c) ≡ scope_at r c
scope_told r c = ap scope_of (told_bare r c) ∙ scope_bare (named_told r c)

pub judged_bare : (r : Tables) (c : ℕ) (j : Judged) → Judges r c j → told r j.node ≡ judging r c j
judged_bare r c j q =
    told_bare r j.node ∙ ap bare_said q.2.1
    ∙ ap (λ t. judgement c (scope_at r c) t (bare (named_at r.shapes j.claim))) (bare_of_named r.shapes j.subject)
    ∙ ap (judgement c (scope_at r c) (bare_at r.shapes j.subject)) (bare_of_named r.shapes j.claim)

-- How a context with one entry more was made, and its newest entry.
module _ (r : Tables) (c : ℕ) (j : Judged) (i : ℕ) where
  pub assume_made : IsAssumeOf r c j i → (scope_at r i).made ≡ by_assume j.node c
  assume_made n = ap (λ m. (scope_of m).made) n.1

  pub assume_newest : IsAssumeOf r c j i → newest_assumption (scope_at r i).entries ≡ Some (bare_at r.shapes j.subject)
  assume_newest n = ap (λ m. newest_assumption (map bare_local (scope_of m).entries)) n.1 ∙ ap Some (bare_of_named r.shapes j.subject)

  pub define_made : IsDefineOf r c j i → (scope_at r i).made ≡ by_define j.node c
  define_made n = ap (λ m. (scope_of m).made) n.1

  pub define_newest : IsDefineOf r c j i → (t : Bare) → let_with (scope_at r i).entries t ≡ Some (let_in (bare_at r.shapes j.subject) (bare_at r.shapes j.claim) t)
  define_newest n t =
      ap (λ m. let_with (map bare_local (scope_of m).entries) t) n.1
      ∙ ap (λ d. Some (let_in d (bare (named_at r.shapes j.claim)) t)) (bare_of_named r.shapes j.subject)
      ∙ ap (λ A. Some (let_in (bare_at r.shapes j.subject) A t)) (bare_of_named r.shapes j.claim)

-- What a judgement says, by the line that it is.
pub judgement_told : {B : Type 0} (m : Said B) (f : Form) (k : ℕ) (l : Row B) (c p : Said B) → m ≡ say_as f k l c p → is_judgement m ≡ true → (m ≡ judgement l.ctx (scope_of c) l.subject l.claim) × (has_terms f ≡ true)
judgement_told m Empty k l c p e h = absurd (cc (sym (ap is_judgement e) ∙ h))
judgement_told m Assume k l c p e h = absurd (cc (sym (ap is_judgement e) ∙ h))
judgement_told m Define k l c p e h = absurd (cc (sym (ap is_judgement e) ∙ h))
judgement_told m BareForm k l c p e h = absurd (cc (sym (ap is_judgement e) ∙ h))
judgement_told m Same k l c p e h = absurd (cc (sym (ap is_judgement e) ∙ h))
judgement_told m Left k l c p e h = absurd (cc (sym (ap is_judgement e) ∙ h))
judgement_told m Right k l c p e h = absurd (cc (sym (ap is_judgement e) ∙ h))
judgement_told m CongApp k l c p e h = absurd (cc (sym (ap is_judgement e) ∙ h))
judgement_told m CongLam k l c p e h = absurd (cc (sym (ap is_judgement e) ∙ h))
judgement_told m CongPi k l c p e h = absurd (cc (sym (ap is_judgement e) ∙ h))
judgement_told m _ k l c p e h = (e, refl)
