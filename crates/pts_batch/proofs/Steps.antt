-- One line after another.
use Rattle.std.proofs.Common.{◌≡◌, ◌≤◌, ◌+◌, ℕ, suc, List, [], ◌∷◌, ◌++◌, map, length, refl, sym, ap, ◌∙◌, subst, arith}
use Rattle.std.proofs.lemmas.List.{map-append}
use Rattle.pts_names.specs.Name.{Name}
use Rattle.pts_ctx.specs.System.{Specification}
use Rattle.pts_record.specs.declared.declaration.Declaration.{Declaration}
use Rattle.pts_check.specs.Entered.{declared, declared_entries, MayFollow, MayEnter}
use Rattle.pts_reduce_cost.specs.Costs.{Globals}
use Rattle.pts_reduce_cost.specs.Laws.{WithinBudget}
use Rattle.pts_infer_cost.specs.Typing.{comes}
use Rattle.pts_module_file.specs.declared.file.ModuleLine.{ModuleLine}
use Rattle.pts_statement.specs.declared.fault.StatementFault.{StatementFault}
use Rattle.pts_statement.specs.Declaring.{Declares}
use Rattle.pts_statement.specs.Refusals.{RefusesStatement}
use Rattle.pts_batch.specs.Loading.{Loaded, entered, Loads, no_statement}
use Rattle.pts_batch.specs.Evidence.{numbered, statement_of}
use Rattle.pts_batch.specs.declared.loading.LoadFault.{LoadFault}
use Rattle.pts_batch.specs.Calls.{Stops, fault_at}
use Rattle.pts_check.proofs.Entering.{follow_more}
use Rattle.pts_batch.proofs.Follow.{goes_on, ends_at, passed_on}

-- what is so of the lines ls, over the front G and on b units, is so of all
module _ (S : Specification) (M : Name) (all : ℕ → Loaded → ℕ → Type 0) (c : ℕ) (G : Globals) (b : ℕ) (ls : List (ℕ × ModuleLine)) (f : (o : Loaded) (k : ℕ) → Loads S M G (map numbered ls) b o k → all c o k) where
  pub step_kept : (x : ℕ × ModuleLine) (rest : List (ℕ × ModuleLine)) → ls ≡ x ∷ rest → (H : Globals) (r : Declaration) (j : ℕ) → WithinBudget (Declares S M G (statement_of x.1)) b (comes (declared r)) j → H ≡ G ++ declared r ∷ [] → (o : Loaded) (k : ℕ) → Loads S M H (map numbered rest) j o k → all c o k
  step_kept x rest p H r j w e o k l = f o k (subst (λ zs. Loads S M G (map numbered zs) b o k) (sym p) (goes_on S M G x.0 (statement_of x.1) (map numbered rest) b H r j w e o k l))

  pub step_stops : (x : ℕ × ModuleLine) (rest : List (ℕ × ModuleLine)) → ls ≡ x ∷ rest → (e : StatementFault) (t : LoadFault) (k : ℕ) → t ≡ fault_at x.0 e → RefusesStatement S M G (statement_of x.1) e b k → Stops all c k t
  step_stops x rest p e t k q h =
      subst (Stops all c k) (sym q) (passed_on (fault_at x.0 e) c b k (λ d o j. Loads S M G (numbered x ∷ map numbered rest) d o j) all (λ o j l. f o j (subst (λ zs. Loads S M G (map numbered zs) b o j) (sym p) l)) (ends_at S M G x.0 (statement_of x.1) (map numbered rest) b e k h))

  pub end_kept : ls ≡ [] → all c (entered G) b
  end_kept p = f (entered G) b (subst (λ zs. Loads S M G (map numbered zs) b (entered G) b) (sym p) no_statement)

pub none_left : (ls : List (ℕ × ModuleLine)) (n : ℕ) → n ≡ length ls → n ≡ 0 → ls ≡ []
none_left [] n e h = refl
none_left (x ∷ ls) n e h = absurd (omega (arith, e, h))

pub entries_kept : (ds es : List Declaration) (d : Declaration) (G H : Globals) → G ≡ declared_entries ds → H ≡ G ++ declared d ∷ [] → es ≡ ds ++ d ∷ [] → H ≡ declared_entries es
entries_kept ds es d G H g h e = h ∙ ap (λ F. F ++ declared d ∷ []) g ∙ sym (map-append declared ds (d ∷ [])) ∙ ap declared_entries (sym e)

pub evidence_kept : (S : Specification) (ds es : List Declaration) (d : Declaration) (G : Globals) → G ≡ declared_entries ds → es ≡ ds ++ d ∷ [] → MayFollow S [] ds → MayEnter S G d → MayFollow S [] es
evidence_kept S ds es d G g e h m = subst (MayFollow S []) (sym e) (follow_more S ds [] d h (subst (λ F. MayEnter S F d) g m))

pub room_kept : (ls : List (ℕ × ModuleLine)) (x : ℕ × ModuleLine) (rest : List (ℕ × ModuleLine)) (s t : ℕ) → ls ≡ x ∷ rest → length ls ≤ s → s ≤ t + 1 → length rest ≤ t
room_kept ls x rest s t p h k = let q : length ls ≡ suc (length rest) = ap length p in omega (arith, q, h, k)
