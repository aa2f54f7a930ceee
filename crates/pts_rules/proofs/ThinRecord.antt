-- A record that is valid over a front is valid over every front that has its entries.
use Rattle.std.proofs.Common.{List, [], ◌∷◌, ◌++◌, true, ◌≡◌, refl, sym, ap, ◌∙◌, Option, Some, None}
use Rattle.std.specs.Prelude.{is_some}
use Rattle.std.specs.Option.{option_map, option_and_then}
use Rattle.pts_names.specs.Name.{Name}
use Rattle.pts_terms.specs.Tree.{Bare, sort, const, var, app, lam, pi, let_in}
use Rattle.pts_ctx.specs.System.{Specification}
use Rattle.pts_ctx.specs.Front.{Global, Front, HasEntries, find, Locals}
use Rattle.pts_record.specs.declared.shape.Form.{Form}
use Rattle.pts_record.specs.declared.shape.Form.TheVariants.{ConstAt, Left, Right}
use Rattle.pts_record.specs.Table.{Tables}
use Rattle.pts_record.specs.Said.{look, scope_of, subject_of, claim_of, say, rows_of}
use Rattle.pts_rules.specs.Step.{head_step, body_of, apply_to}
use Rattle.pts_rules.specs.Parts.{const_in, is_that}
use Rattle.pts_rules.specs.Conditions.{Plain, Link, form_fault, const_conditions, left_conditions, right_conditions}
use Rattle.pts_rules.specs.Valid.{first_fault_behind, first_fault, IsValid}
use Rattle.pts_rules.proofs.Passing.{all_pass, none_fails, some_is, that_is}
use Rattle.pts_rules.proofs.Sound.{faultless}

body_thin : (G H : Front) (x : Name) (u : Bare) (o : Option (Global (Unit {0}))) → HasEntries G H → find x G ≡ o → body_of o ≡ Some u → body_of (find x H) ≡ Some u
body_thin G H x u None h p q = absurd (cc q)
body_thin G H x u (Some e) h p q = rw (h x e p) q

apply_thin : (a u : Bare) (o q : Option Bare) → ((f : Bare) → o ≡ Some f → q ≡ Some f) → apply_to a o ≡ Some u → apply_to a q ≡ Some u
apply_thin a u None q k h = absurd (cc h)
apply_thin a u (Some f) q k h = rw (k f refl) h

pub thin_head_step : (G H : Front) (L : Locals) (t u : Bare) → HasEntries G H → head_step G L t ≡ Some u → head_step H L t ≡ Some u
unfolding head_step
thin_head_step G H L (sort s) u h p = p
thin_head_step G H L (const x) u h p = body_thin G H x u (find x G) h refl p
thin_head_step G H L (var i) u h p = p
thin_head_step G H L (app (lam A b) a) u h p = p
thin_head_step G H L (app f a) u h p = apply_thin a u (head_step G L f) (head_step H L f) (λ g q. thin_head_step G H L f g h q) p
thin_head_step G H L (lam A b) u h p = p
thin_head_step G H L (pi A b) u h p = p
thin_head_step G H L (let_in a A b) u h p = p

step_thin : (G H : Front) (L : Locals) (t u : Bare) → HasEntries G H → is_that u (head_step G L t) ≡ true → is_that u (head_step H L t) ≡ true
step_thin G H L t u h p =
    let e = that_is u (head_step G L t) p in
    ap (is_that u) (thin_head_step G H L t u h e ∙ sym e) ∙ p

-- The entry that a subject names is the same in both fronts.
entry_thin : (G H : Front) (o : Option Name) → HasEntries G H → is_some (option_and_then (λ x. find x G) o) ≡ true → option_and_then (λ x. find x H) o ≡ option_and_then (λ x. find x G) o
entry_thin G H None h p = refl
entry_thin G H (Some x) h p = let (e, q) = some_is (find x G) p in h x e q ∙ sym q

thin_form : (S : Specification) (G H : Front) (f : Form) (l : Plain) (c p q r : Link) → HasEntries G H → form_fault S G f l c p q r ≡ None → form_fault S H f l c p q r ≡ None
thin_form S G H ConstAt l c p q r h v =
    let a = all_pass (const_conditions G l c) v in
    let e = entry_thin G H (const_in l.subject) h a.1.1.0 in
    none_fails (const_conditions H l c) (a.0, (a.1.0, (ap is_some e ∙ a.1.1.0, (ap (λ o. is_that l.claim (option_map (λ d. d.type) o)) e ∙ a.1.1.1.0, tt))))
thin_form S G H Left l c p q r h v =
    let a = all_pass (left_conditions G l c p) v in
    none_fails (left_conditions H l c p) (a.0, (a.1.0, (a.1.1.0, (a.1.1.1.0, (step_thin G H (scope_of c).entries l.subject (subject_of p) h a.1.1.1.1.0, tt)))))
thin_form S G H Right l c p q r h v =
    let a = all_pass (right_conditions G l c p) v in
    none_fails (right_conditions H l c p) (a.0, (a.1.0, (a.1.1.0, (a.1.1.1.0, (step_thin G H (scope_of c).entries l.claim (claim_of p) h a.1.1.1.1.0, tt)))))
thin_form S G H _ l c p q r h v = v

thin_behind : (S : Specification) (G H : Front) (ms : List Link) (ls : List Plain) → HasEntries G H → first_fault_behind S G ms ls ≡ None → first_fault_behind S H ms ls ≡ None
thin_behind S G H ms [] h v = refl
thin_behind S G H ms (l ∷ ls) h v =
    let (p, q) = faultless S G ms l ls v in
    rw (thin_form S G H l.form l (look ms l.ctx) (look ms l.first) (look ms l.second) (look ms l.third) h p) (thin_behind S G H (ms ++ say ms l ∷ []) ls h q)

pub thin_record : (S : Specification) (G H : Front) (r : Tables) → HasEntries G H → IsValid S G r → IsValid S H r
unfolding first_fault
thin_record S G H r h v = thin_behind S G H [] (rows_of r) h v
