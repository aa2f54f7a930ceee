-- Names and sorts are resolved alike at whatever places they stand.
use Rattle.std.proofs.Common.{ℕ, ◌≡◌, refl, sym, ◌∙◌, ap, List, ◌∷◌, Option, Some, None, Result, Ok, Err}
use Rattle.pts_names.specs.Name.{Name}
use Rattle.pts_terms.specs.Tree.{Named}
use Rattle.pts_ctx.specs.System.{sort_of}
use Rattle.pts_grammar.specs.Syntax.{Syntax, sort as a_sort, name as a_name, app as applied, lam, pi, let_in}
use Rattle.pts_parser.specs.declared.fault.ReadFault.{ReadFault}
use Rattle.pts_parser.specs.Resolution.{and_then, binder_of, constant_at, name_at, sort_at, resolved}
use Rattle.pts_printed.proofs.Written.{unplaced}

-- The term, if there is one.
said : Result Named ReadFault → Option Named
said (Ok t) = Some t
said (Err e) = None

then_alike : (r q : Result Named ReadFault) (f g : Named → Result Named ReadFault) → said r ≡ said q → ((t : Named) → said (f t) ≡ said (g t)) → said (and_then r f) ≡ said (and_then q g)
unfolding said
then_alike (Ok t) (Ok u) f g e h = h t ∙ ap (λ v. said (g v)) (let m : t ≡ u = cc e in m)
then_alike (Ok t) (Err b) f g e h = absurd (cc e)
then_alike (Err a) (Ok u) f g e h = absurd (cc e)
then_alike (Err a) (Err b) f g e h = refl

is_read : (r : Result Named ReadFault) (t : Named) → said r ≡ Some t → r ≡ Ok t
unfolding said
is_read (Ok u) t e = ap Ok (let m : u ≡ t = cc e in m)
is_read (Err a) t e = absurd (cc e)

sort_alike : (o : Option ℕ) (p : ℕ) (w : Name) → said (sort_at o p w) ≡ said (sort_at o 0 w)
unfolding said
sort_alike (Some s) p w = refl
sort_alike None p w = refl

constant_alike : (o : Option Name) (p : ℕ) (x : Name) → said (constant_at o p x) ≡ said (constant_at o 0 x)
unfolding said
constant_alike (Some c) p x = refl
constant_alike None p x = refl

name_alike : (o : Option ℕ) (c : Option Name) (p : ℕ) (x : Name) → said (name_at o c p x) ≡ said (name_at o c 0 x)
name_alike (Some i) c p x = refl
name_alike None c p x = constant_alike c p x

module _ (sorts : List (List ℕ)) (scope : Name → Option Name) where
  alike : (T : Syntax) (L : List Name) → said (resolved sorts scope L T) ≡ said (resolved sorts scope L (unplaced T))
  alike (a_sort p w) L = sort_alike (sort_of sorts w) p w
  alike (a_name p x) L = name_alike (binder_of x L) (scope x) p x
  alike (applied f a) L = then_alike _ _ _ _ (alike f L) (λ g. then_alike _ _ _ _ (alike a L) (λ b. refl))
  alike (lam x A t) L = then_alike _ _ _ _ (alike A L) (λ B. then_alike _ _ _ _ (alike t (x ∷ L)) (λ u. refl))
  alike (pi x A t) L = then_alike _ _ _ _ (alike A L) (λ B. then_alike _ _ _ _ (alike t (x ∷ L)) (λ u. refl))
  alike (let_in x d A t) L = then_alike _ _ _ _ (alike d L) (λ e. then_alike _ _ _ _ (alike A L) (λ B. then_alike _ _ _ _ (alike t (x ∷ L)) (λ u. refl)))

  pub resolved_alike : (M T : Syntax) (L : List Name) (t : Named) → unplaced M ≡ unplaced T → resolved sorts scope L T ≡ Ok t → resolved sorts scope L M ≡ Ok t
  unfolding said
  resolved_alike M T L t e r = is_read _ t (alike M L ∙ (ap (λ S. said (resolved sorts scope L S)) e ∙ (sym (alike T L) ∙ ap said r)))
