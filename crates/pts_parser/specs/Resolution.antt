-- The names of a syntax, looked up.
use Rattle.std.specs.Prelude.{◌≡◌, ℕ, suc, List, [], ◌∷◌, not, ◌&&◌, if◌then◌else◌, Option, Some, None, option_map, Result, Ok, Err}
use Rattle.pts_names.specs.Name.{Name, same_name, is_plain}
use Rattle.pts_terms.specs.Tree.{Named, sort, const, var, app, named_lam, named_pi, named_let}
use Rattle.pts_terms.specs.Seen.{named}
use Rattle.pts_terms.specs.declared.term.Term.{Term}
use Rattle.pts_ctx.specs.System.{sort_of}
use Rattle.pts_grammar.specs.Syntax.{Syntax, sort as a_sort, name as a_name, app as applied, lam, pi, let_in}
use Rattle.pts_parser.specs.declared.fault.ReadFault.{ReadFault}
use Rattle.pts_parser.specs.declared.fault.ReadFault.TheVariants.{BadChar, LongName, Expected, TooDeep, UnknownName, UnknownSort, Memory}

-- The place of the first of these names that is x.
abbrev pub place_of : Name → List Name → Option ℕ
place_of x [] = None
place_of x (y ∷ L) = if same_name x y then Some 0 else option_map suc (place_of x L)

-- The innermost of the binders that binds x, these being their names with the innermost first. Only a plain name is bound.
abbrev pub binder_of : Name → List Name → Option ℕ
binder_of x L = if is_plain x then place_of x L else None

abbrev pub and_then : {A B : Type 0} → Result A ReadFault → (A → Result B ReadFault) → Result B ReadFault
and_then (Ok a) f = f a
and_then (Err e) f = Err e

-- A name that is not bound is what the scope has for it.
abbrev pub constant_at : Option Name → ℕ → Name → Result Named ReadFault
constant_at (Some c) p x = Ok (const c)
constant_at None p x = Err (UnknownName p x)

abbrev pub name_at : Option ℕ → Option Name → ℕ → Name → Result Named ReadFault
name_at (Some i) c p x = Ok (var i)
name_at None c p x = constant_at c p x

abbrev pub sort_at : Option ℕ → ℕ → Name → Result Named ReadFault
sort_at (Some s) p w = Ok (sort s)
sort_at None p w = Err (UnknownSort p w)

-- The term of a syntax, or its first fault from the left. `sorts` are the system's spellings, `scope` the constants, and
-- L the names of the binders around it, the innermost first.
module _ (sorts : List (List ℕ)) (scope : Name → Option Name) where
  abbrev pub resolved : List Name → Syntax → Result Named ReadFault
  resolved L (a_sort p w) = sort_at (sort_of sorts w) p w
  resolved L (a_name p x) = name_at (binder_of x L) (scope x) p x
  resolved L (applied f a) = and_then (resolved L f) (λ g. and_then (resolved L a) (λ b. Ok (app g b)))
  resolved L (lam x A t) = and_then (resolved L A) (λ B. and_then (resolved (x ∷ L) t) (λ u. Ok (named_lam x B u)))
  resolved L (pi x A t) = and_then (resolved L A) (λ B. and_then (resolved (x ∷ L) t) (λ u. Ok (named_pi x B u)))
  resolved L (let_in x d A t) = and_then (resolved L d) (λ e. and_then (resolved L A) (λ B. and_then (resolved (x ∷ L) t) (λ u. Ok (named_let x e B u))))

-- What a fault means, unless memory ran out.
abbrev pub UnlessMemory : ReadFault → Type 0 → Type 0
UnlessMemory Memory P = Unit {0}
UnlessMemory (BadChar p) P = P
UnlessMemory (LongName p) P = P
UnlessMemory (Expected p k) P = P
UnlessMemory (TooDeep p) P = P
UnlessMemory (UnknownName p x) P = P
UnlessMemory (UnknownSort p w) P = P

-- A call answers what is said, unless memory is wanting.
abbrev pub Answers : Result Term ReadFault → Result Named ReadFault → Type 0
Answers (Ok t) said = said ≡ Ok (named t)
Answers (Err e) said = UnlessMemory e (said ≡ Err e)
