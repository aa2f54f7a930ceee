-- What a batch answers.
use Rattle.std.proofs.Common.{◌≡◌, ℕ, ◌+◌, ◌≤◌, List, [], ◌++◌, map, sym, ap, ◌∙◌, subst, arith, Some, None, Result, Ok, Err, IfOk}
use Rattle.std.specs.Prelude.{codes}
use Rattle.std.specs.Fmt.{decimal}
use Rattle.pts_names.specs.Name.{Name}
use Rattle.pts_ctx.specs.System.{Specification}
use Rattle.pts_ctx.specs.Front.{bare_front}
use Rattle.pts_rules.specs.Derives.{Legal, legal_empty}
use Rattle.pts_rules.specs.Meter.{Units, left}
use Rattle.pts_reduce.specs.Given.{Later}
use Rattle.pts_check.specs.Entered.{declared_entries, MayFollow}
use Rattle.pts_reduce_cost.specs.Costs.{Globals}
use Rattle.pts_module_file.specs.declared.file.ModuleFile.{ModuleFile}
use Rattle.pts_module_file.specs.declared.fault.FileFault.{FileFault}
use Rattle.pts_module_file.specs.File.{File, module_file_of, module_of, RefusesModule}
use Rattle.pts_infer.specs.declared.answer.InferFault.TheVariants as infer
use Rattle.pts_declare.specs.declared.fault.DeclareFault.TheVariants as declare
use Rattle.pts_statement.specs.declared.fault.StatementFault.{StatementFault}
use Rattle.pts_statement.specs.declared.fault.StatementFault.TheVariants.{Read, Taken, Declare, Memory}
use Rattle.pts_statement.specs.Words.{fault_text}
use Rattle.pts_batch.specs.declared.world.Batch.{Batch}
use Rattle.pts_batch.specs.Loading.{Loaded, entered, Loads}
use Rattle.pts_batch.specs.Batches.{BatchAnswer, BatchAnswers, bad_file, not_built, loaded, Batches, file_is_bad, line_is_not_built, file_is_loaded, refusal, at_line, with_entries, answer_loaded, unbuilt_line}
use Rattle.pts_batch.specs.Evidence.{numbered}
use Rattle.pts_batch.specs.Shown.{Evident}
use Rattle.pts_batch.specs.Calls.{RefusedAt, Stops, AnswersBadFile, AnswersFault}
use Rattle.pts_batch.specs.declared.loading.LoadFault.{LoadFault}
use Rattle.pts_batch.specs.declared.loading.LoadFault.TheVariants as load
use Rattle.pts_check.proofs.Entering.{follow_legal}
use Rattle.pts_batch.proofs.Short.{statements_seen}

pub both_ok : {T E : Type 0} (r : Result T E) (P Q R : T → Type 0) → ((x : T) → P x → Q x → R x) → IfOk r P → IfOk r Q → IfOk r R
both_ok (Ok x) P Q R f p q = f x p q
both_ok (Err e) P Q R f p q = tt

pub nothing_entered : (S : Specification) (r : Batch) → r.declarations ≡ [] → r.context.entries ≡ [] → Evident S r
nothing_entered S r d e = record {
  entries = e ∙ sym (ap declared_entries d);
  evidence = subst (MayFollow S []) (sym d) tt;
  legal = subst (λ G. Legal S (bare_front G)) (sym e) legal_empty;
}

pub nothing_evident : {E : Type 0} (S : Specification) (r : Result Batch E) → IfOk r (λ x. (x.declarations ≡ []) × (x.context.entries ≡ [])) → IfOk r (Evident S)
nothing_evident S (Ok x) h = nothing_entered S x h.0 h.1
nothing_evident S (Err e) h = tt

all_entered : (S : Specification) (r : Batch) → r.context.entries ≡ declared_entries r.declarations → MayFollow S [] r.declarations → Evident S r
all_entered S r e m = record {
  entries = e;
  evidence = m;
  legal = subst (λ G. Legal S (bare_front G)) (sym e) (follow_legal S r.declarations [] m legal_empty);
}

pub all_evident : {E : Type 0} (S : Specification) (r : Result Batch E) → IfOk r (λ x. x.context.entries ≡ declared_entries x.declarations) → IfOk r (λ x. MayFollow S [] x.declarations) → IfOk r (Evident S)
all_evident S (Ok x) e m = all_entered S x e m
all_evident S (Err f) e m = tt

module _ (S : Specification) (M : Name) (bytes : List ℕ) (b : ℕ) (a : BatchAnswer) (u : ℕ) where
  pub bad_file_answer : (e : FileFault) → RefusesModule M bytes e → AnswersBadFile M e a → u ≡ 0 → BatchAnswers S M bytes b a u
  bad_file_answer (FileFault.BadFile n w) r q z = (bad_file n w, (b, file_is_bad r, omega (arith, z)), q)
  bad_file_answer FileFault.Memory r q z = absurd q

  pub not_built_answer : (f : File) (n : ℕ) → module_of M bytes ≡ Ok f → unbuilt_line f ≡ Some n → a ≡ refusal M (codes "NotBuilt " ++ decimal n) → u ≡ 0 → BatchAnswers S M bytes b a u
  not_built_answer f n e l q z = (not_built n, (b, line_is_not_built e l, omega (arith, z)), q)

  loaded_so : (m : ModuleFile) (o : Loaded) (k : ℕ) → module_of M bytes ≡ Ok (module_file_of m) → unbuilt_line (module_file_of m) ≡ None → Loads S M [] (map numbered m.declarations.items) b o k → Batches S M bytes b (loaded o) k
  loaded_so m o k e l h = file_is_loaded e l (subst (λ ds. Loads S M [] ds b o k) (sym (statements_seen m.declarations.items)) h)

  pub entered_answer : (m : ModuleFile) (G : Globals) (k : ℕ) → module_of M bytes ≡ Ok (module_file_of m) → unbuilt_line (module_file_of m) ≡ None → Loads S M [] (map numbered m.declarations.items) b (entered G) k → u + k ≡ b → a ≡ with_entries S.sorts M G → BatchAnswers S M bytes b a u
  entered_answer m G k e l h v q = (loaded (entered G), (k, loaded_so m _ k e l h, v), q)

  stopped_so : (m : ModuleFile) (o : Loaded) (k : ℕ) → module_of M bytes ≡ Ok (module_file_of m) → unbuilt_line (module_file_of m) ≡ None → Loads S M [] (map numbered m.declarations.items) b o k → u + k ≡ b → a ≡ answer_loaded S.sorts M o → BatchAnswers S M bytes b a u
  stopped_so m o k e l h v q = (loaded o, (k, loaded_so m o k e l h, v), q)

  refused_at : (m : ModuleFile) (n : ℕ) (t : StatementFault) (k : ℕ) → module_of M bytes ≡ Ok (module_file_of m) → unbuilt_line (module_file_of m) ≡ None → RefusedAt (Loads S M [] (map numbered m.declarations.items)) b k n t → u + k ≡ b → a ≡ refusal M (at_line n (fault_text S.sorts t)) → BatchAnswers S M bytes b a u
  refused_at m n (Read x) k e l h v q = stopped_so m _ k e l h v q
  refused_at m n (Taken x p) k e l h v q = stopped_so m _ k e l h v q
  refused_at m n (Declare (declare.Infer part (infer.Flaw f))) k e l h v q = stopped_so m _ k e l h v q
  refused_at m n (Declare (declare.Infer part infer.Spent)) k e l h v q = stopped_so m _ k e l h v q
  refused_at m n (Declare (declare.Infer part infer.Deep)) k e l h v q = stopped_so m _ k e l h v q
  refused_at m n (Declare (declare.Infer part infer.Memory)) k e l h v q = absurd h
  refused_at m n (Declare declare.Memory) k e l h v q = absurd h
  refused_at m n Memory k e l h v q = absurd h

  pub fault_answer : (m : ModuleFile) (t : LoadFault) (k : ℕ) → module_of M bytes ≡ Ok (module_file_of m) → unbuilt_line (module_file_of m) ≡ None → Stops (Loads S M [] (map numbered m.declarations.items)) b k t → u + k ≡ b → AnswersFault S.sorts M t a → BatchAnswers S M bytes b a u
  fault_answer m (load.Refused n t) k e l h v q = refused_at m n t k e l h v q
  fault_answer m load.Memory k e l h v q = absurd q

new_left : (m : Units) (b : ℕ) → m ≡ record { limit = b; spent = 0 } → left m ≡ b
new_left m b e = let p : m.limit ≡ b = ap (λ x. x.limit) e in let q : m.spent ≡ 0 = ap (λ x. x.spent) e in omega (arith, p, q)

pub from_new : {A : Type 0} (m : Units) (b : ℕ) (x y : List A) → m ≡ record { limit = b; spent = 0 } → x ≡ y → (P : List A → ℕ → Type 0) → P x (left m) → P y b
from_new m b x y e q P h = subst (P y) (new_left m b e) (subst (λ z. P z (left m)) q h)

pub spent_and_left : (m n : Units) (b s u : ℕ) → m ≡ record { limit = b; spent = 0 } → Later m n → s ≡ n.spent → s ≤ n.limit → u ≡ s → u + left n ≡ b
spent_and_left m n b s u e l q w z = let p : m.limit ≡ b = ap (λ x. x.limit) e in let h : n.limit ≡ m.limit = l.0 in omega (arith, p, h, q, w, z)
