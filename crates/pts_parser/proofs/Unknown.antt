-- Resolution refuses names and sorts alone.
use Rattle.std.proofs.Common.{◌≡◌, ap, ℕ, ◌≤◌, List, ◌∷◌, Bool, true, false, Option, Some, None, Ok, Err, reverse}
use Rattle.std.specs.Prelude.{Result}
use Rattle.pts_names.specs.Name.{Name}
use Rattle.pts_terms.specs.Tree.{app, named_lam, named_pi, named_let}
use Rattle.pts_ctx.specs.System.{sort_of}
use Rattle.pts_grammar.specs.Syntax.{Syntax, sort as a_sort, name as a_name, app as applied, lam, pi, let_in, depth_of}
use Rattle.pts_parser.specs.declared.fault.ReadFault.{ReadFault}
use Rattle.pts_parser.specs.declared.fault.ReadFault.TheVariants.{BadChar, LongName, Expected, TooDeep, UnknownName, UnknownSort, Memory}
use Rattle.pts_parser.specs.Resolution.{and_then, constant_at, name_at, sort_at, binder_of, resolved, UnlessMemory}
use Rattle.pts_parser.specs.Reading.{Says, IsShallow, RefusesTerm}

is_unknown : ReadFault → Bool
is_unknown (UnknownName p x) = true
is_unknown (UnknownSort p w) = true
is_unknown _ = false

-- A fault of a result is one of these.
Unknown : {A : Type 0} → Result A ReadFault → Type 0
Unknown {A} r = (e : ReadFault) → r ≡ Err e → is_unknown e ≡ true

then_unknown : {A B : Type 0} (r : Result A ReadFault) (f : A → Result B ReadFault) → Unknown r → ((a : A) → Unknown (f a)) → Unknown (and_then r f)
unfolding Unknown
then_unknown (Ok a) f h g e q = g a e q
then_unknown (Err d) f h g e q = h e (ap Err (let m : d ≡ e = cc q in m))

ok_unknown : {A : Type 0} (a : A) → Unknown (Ok a)
unfolding Unknown
ok_unknown a e q = absurd (cc q)

sort_unknown : (o : Option ℕ) (p : ℕ) (w : Name) → Unknown (sort_at o p w)
unfolding Unknown is_unknown
sort_unknown (Some s) p w e q = absurd (cc q)
sort_unknown None p w e q = ap is_unknown (let m : e ≡ UnknownSort p w = cc q in m)

constant_unknown : (o : Option Name) (p : ℕ) (x : Name) → Unknown (constant_at o p x)
unfolding Unknown is_unknown
constant_unknown (Some c) p x e q = absurd (cc q)
constant_unknown None p x e q = ap is_unknown (let m : e ≡ UnknownName p x = cc q in m)

name_unknown : (i : Option ℕ) (o : Option Name) (p : ℕ) (x : Name) → Unknown (name_at i o p x)
unfolding Unknown
name_unknown (Some i) o p x e q = absurd (cc q)
name_unknown None o p x e q = constant_unknown o p x e q

module _ (sorts : List (List ℕ)) (scope : Name → Option Name) where
  resolved_unknown : (T : Syntax) (L : List Name) → Unknown (resolved sorts scope L T)
  resolved_unknown (a_sort p w) L = sort_unknown (sort_of sorts w) p w
  resolved_unknown (a_name p x) L = name_unknown (binder_of x L) (scope x) p x
  resolved_unknown (applied f a) L = then_unknown _ _ (resolved_unknown f L) (λ g. then_unknown _ _ (resolved_unknown a L) (λ b. ok_unknown (app g b)))
  resolved_unknown (lam x A t) L = then_unknown _ _ (resolved_unknown A L) (λ B. then_unknown _ _ (resolved_unknown t (x ∷ L)) (λ u. ok_unknown (named_lam x B u)))
  resolved_unknown (pi x A t) L = then_unknown _ _ (resolved_unknown A L) (λ B. then_unknown _ _ (resolved_unknown t (x ∷ L)) (λ u. ok_unknown (named_pi x B u)))
  resolved_unknown (let_in x d A t) L = then_unknown _ _ (resolved_unknown d L) (λ c. then_unknown _ _ (resolved_unknown A L) (λ B. then_unknown _ _ (resolved_unknown t (x ∷ L)) (λ u. ok_unknown (named_let x c B u))))

  -- So what it refuses is refused of the text.
  pub resolution_refuses : (text : List ℕ) (from : ℕ) (locals : List Name) (T : Syntax) (e : ReadFault) → Says text from T → depth_of T ≤ 2000 → IsShallow text from → UnlessMemory e (resolved sorts scope (reverse locals) T ≡ Err e) → RefusesTerm text from sorts scope locals e
  unfolding Unknown is_unknown
  resolution_refuses text from locals T (UnknownName p x) s d f r = (T, s, d, f, r)
  resolution_refuses text from locals T (UnknownSort p w) s d f r = (T, s, d, f, r)
  resolution_refuses text from locals T (BadChar p) s d f r = let m : false ≡ true = resolved_unknown T (reverse locals) (BadChar p) r in absurd (cc m)
  resolution_refuses text from locals T (LongName p) s d f r = let m : false ≡ true = resolved_unknown T (reverse locals) (LongName p) r in absurd (cc m)
  resolution_refuses text from locals T (Expected p k) s d f r = let m : false ≡ true = resolved_unknown T (reverse locals) (Expected p k) r in absurd (cc m)
  resolution_refuses text from locals T (TooDeep p) s d f r = let m : false ≡ true = resolved_unknown T (reverse locals) (TooDeep p) r in absurd (cc m)
  resolution_refuses text from locals T Memory s d f r = tt
