-- Nodes that are contexts are instances of their forms, and typed.
use Rattle.std.proofs.Common.{◌≡◌, ℕ, ◌<◌, length, refl, ap, ◌∙◌, None}
use Rattle.pts_ctx.specs.System.{Specification}
use Rattle.pts_ctx.specs.Front.{Front}
use Rattle.pts_record.specs.declared.shape.Form.TheVariants.{Assume, Define}
use Rattle.pts_record.specs.Table.{Tables, bare_trees}
use Rattle.pts_record.specs.Said.{context, assumed_by, defined_by, place_of, named_told, told, scope_of, longer, by_assume, by_define, row_of_node, is_context, all_known}
use Rattle.pts_rules.specs.Conditions.{form_fault, assume_conditions, define_conditions}
use Rattle.pts_rules.proofs.Passing.{none_fails}
use Rattle.pts_grow.specs.Keeps.{Keeps, IsNode}
use Rattle.pts_grow.proofs.Grow.{tree_stays, told_stays}
use Rattle.pts_grow.specs.declared.judged.Judged.{Judged}
use Rattle.pts_grow.specs.Judges.{IsTypedContext, Judges, IsEmpty, IsAssumeOf, IsDefineOf, IsSort}
use Rattle.pts_grow.proofs.Judgements.{judging, judged_bare}

pub empty_typed : (r : Tables) (n : ℕ) → IsEmpty r n → IsTypedContext r n
empty_typed r n q = (ap is_context q.1, ap (λ m. all_known (scope_of m).entries) q.1)

pub assume_typed : (r : Tables) (c : ℕ) (j : Judged) (n : ℕ) → IsTypedContext r c → IsAssumeOf r c j n → IsTypedContext r n
assume_typed r c j n k q = (ap is_context q.1, ap (λ m. all_known (scope_of m).entries) q.1 ∙ k.1)

pub define_typed : (r : Tables) (c : ℕ) (j : Judged) (n : ℕ) → IsTypedContext r c → IsDefineOf r c j n → IsTypedContext r n
define_typed r c j n k q = (ap is_context q.1, ap (λ m. all_known (scope_of m).entries) q.1 ∙ k.1)

-- What `assume` and `define` say of a judgement.
pub new_assume : (a b : Tables) (c : ℕ) (j : Judged) (n : ℕ) → Keeps a b → c < length a.nodes → Judges a c j → IsNode b n (context (longer n (by_assume j.node (place_of (named_told a j.node))) (assumed_by (named_told a j.node)) (scope_of (named_told a j.node)))) → IsAssumeOf b c j n
new_assume a b c j n g h k q =
    let x = tree_stays a b j.subject g k.0 in
    let s = told_stays a b c g h in
    let e = ap (λ m. context (longer n (by_assume j.node (place_of m)) (assumed_by m) (scope_of m))) k.2.1 in
    (q.0, rw (s, x) (q.1 ∙ e))

pub new_define : (a b : Tables) (c : ℕ) (j : Judged) (n : ℕ) → Keeps a b → c < length a.nodes → Judges a c j → IsNode b n (context (longer n (by_define j.node (place_of (named_told a j.node))) (defined_by (named_told a j.node)) (scope_of (named_told a j.node)))) → IsDefineOf b c j n
new_define a b c j n g h k q =
    let x = tree_stays a b j.subject g k.0 in
    let y = tree_stays a b j.claim g k.1 in
    let s = told_stays a b c g h in
    let e = ap (λ m. context (longer n (by_define j.node (place_of m)) (defined_by m) (scope_of m))) k.2.1 in
    (q.0, rw (s, x, y) (q.1 ∙ e))

pub assume_ok : (r : Tables) (c : ℕ) (S : Specification) (G : Front) (j : Judged) → Judges r c j → IsSort r j.claim → form_fault S G Assume (row_of_node (bare_trees r.shapes) (record { form = Assume; ctx = 0; subject = 0; claim = 0; first = j.node; second = 0; third = 0 })) (told r 0) (told r j.node) (told r 0) (told r 0) ≡ None
assume_ok r c S G j h s = rw (judged_bare r c j h) (none_fails (assume_conditions (judging r c j)) (refl, (s, tt)))

pub define_ok : (r : Tables) (c : ℕ) (S : Specification) (G : Front) (j : Judged) → Judges r c j → form_fault S G Define (row_of_node (bare_trees r.shapes) (record { form = Define; ctx = 0; subject = 0; claim = 0; first = j.node; second = 0; third = 0 })) (told r 0) (told r j.node) (told r 0) (told r 0) ≡ None
define_ok r c S G j h = rw (judged_bare r c j h) (none_fails (define_conditions (judging r c j)) (refl, tt))

pub ruleset made = (empty_typed, assume_typed, define_typed, new_assume, new_define)
