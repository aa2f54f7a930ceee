-- What is read over no locals and no constants is closed, has no constants, and its sorts are the system's.
use Rattle.std.proofs.Common.{◌≡◌, refl, subst, arith, ℕ, suc, ◌<◌, List, [], ◌∷◌, length, Bool, true, false, Option, Some, None, option_map, Ok, Err}
use Rattle.std.specs.Prelude.{Result, if◌then◌else◌}
use Rattle.std.proofs.lemmas.List.Quantifiers.{position-Some}
use Rattle.pts_names.specs.Name.{Name, same_name, is_plain}
use Rattle.pts_terms.specs.Tree.{Named, sort, var, app, named_lam, named_pi, named_let, Below}
use Rattle.pts_ctx.specs.System.{sort_of}
use Rattle.pts_grammar.specs.Syntax.{Syntax, sort as a_sort, name as a_name, app as applied, lam, pi, let_in}
use Rattle.pts_parser.specs.declared.fault.ReadFault.{ReadFault}
use Rattle.pts_parser.specs.Resolution.{place_of, binder_of, and_then, name_at, sort_at, resolved}
use Rattle.pts_parser.specs.Reading.{Means}
use Rattle.pts_printed.specs.Laws.{SortsBelow, Stands, PrintedTermsAreReadBack}
use Rattle.pts_printed.specs.Locals.{chosen_locals}
use Rattle.pts_format.specs.Lines.{no_constants}
use Rattle.pts_format.specs.Laws.{PrintedLinesAreReadBack}

-- The sorts are below n, the free indices below k, and there is no constant.
abbrev pub Fits : ℕ → ℕ → Named → Type 0
Fits n k t = SortsBelow n t × Below k t × Stands no_constants t

place_at : (b : Bool) (o : Option ℕ) (n i : ℕ) → ((j : ℕ) → o ≡ Some j → j < n) → (if b then Some 0 else option_map suc o) ≡ Some i → i < suc n
place_at true o n i f h = let e : 0 ≡ i = cc h in omega (arith, e)
place_at false None n i f h = absurd (cc h)
place_at false (Some j) n i f h = let e : suc j ≡ i = cc h in let l = f j refl in omega (arith, e, l)

place_below : (x : Name) (L : List Name) (i : ℕ) → place_of x L ≡ Some i → i < length L
place_below x [] i h = absurd (cc h)
place_below x (y ∷ L) i h = place_at (same_name x y) (place_of x L) (length L) i (λ j q. place_below x L j q) h

bound_below : (b : Bool) (x : Name) (L : List Name) (i : ℕ) → (if b then place_of x L else None) ≡ Some i → i < length L
bound_below true x L i h = place_below x L i h
bound_below false x L i h = absurd (cc h)

name_fits : (o : Option ℕ) (p n k : ℕ) (x : Name) (t : Named) → ((i : ℕ) → o ≡ Some i → i < k) → name_at o None p x ≡ Ok t → Fits n k t
name_fits (Some i) p n k x t f h = let e : var i ≡ t = cc h in subst (Fits n k) e (tt, f i refl, tt)
name_fits None p n k x t f h = absurd (cc h)

sort_fits : (o : Option ℕ) (p n k : ℕ) (w : Name) (t : Named) → ((s : ℕ) → o ≡ Some s → s < n) → sort_at o p w ≡ Ok t → Fits n k t
sort_fits (Some s) p n k w t f h = let e : sort s ≡ t = cc h in subst (Fits n k) e (f s refl, tt, tt)
sort_fits None p n k w t f h = absurd (cc h)

-- What is read of a part fits.
abbrev Reads : ℕ → ℕ → Result Named ReadFault → Type 0
Reads n k r = (t : Named) → r ≡ Ok t → Fits n k t

app_fits : (n k : ℕ) (r s : Result Named ReadFault) → Reads n k r → Reads n k s → Reads n k (and_then r (λ g. and_then s (λ b. Ok (app g b))))
app_fits n k (Ok g) (Ok b) f a t h = let e : app g b ≡ t = cc h in subst (Fits n k) e (((f g refl).0, (a b refl).0), ((f g refl).1, (a b refl).1), ((f g refl).2, (a b refl).2))
app_fits n k (Ok g) (Err e) f a t h = absurd (cc h)
app_fits n k (Err e) s f a t h = absurd (cc h)

lam_fits : (x : Name) (n k : ℕ) (r s : Result Named ReadFault) → Reads n k r → Reads n (suc k) s → Reads n k (and_then r (λ B. and_then s (λ u. Ok (named_lam x B u))))
lam_fits x n k (Ok g) (Ok b) f a t h = let e : named_lam x g b ≡ t = cc h in subst (Fits n k) e (((f g refl).0, (a b refl).0), ((f g refl).1, (a b refl).1), ((f g refl).2, (a b refl).2))
lam_fits x n k (Ok g) (Err e) f a t h = absurd (cc h)
lam_fits x n k (Err e) s f a t h = absurd (cc h)

pi_fits : (x : Name) (n k : ℕ) (r s : Result Named ReadFault) → Reads n k r → Reads n (suc k) s → Reads n k (and_then r (λ B. and_then s (λ u. Ok (named_pi x B u))))
pi_fits x n k (Ok g) (Ok b) f a t h = let e : named_pi x g b ≡ t = cc h in subst (Fits n k) e (((f g refl).0, (a b refl).0), ((f g refl).1, (a b refl).1), ((f g refl).2, (a b refl).2))
pi_fits x n k (Ok g) (Err e) f a t h = absurd (cc h)
pi_fits x n k (Err e) s f a t h = absurd (cc h)

let_fits : (x : Name) (n k : ℕ) (q r s : Result Named ReadFault) → Reads n k q → Reads n k r → Reads n (suc k) s → Reads n k (and_then q (λ d. and_then r (λ B. and_then s (λ u. Ok (named_let x d B u)))))
let_fits x n k (Ok d) (Ok g) (Ok b) c f a t h = let e : named_let x d g b ≡ t = cc h in subst (Fits n k) e (((c d refl).0, (f g refl).0, (a b refl).0), ((c d refl).1, (f g refl).1, (a b refl).1), ((c d refl).2, (f g refl).2, (a b refl).2))
let_fits x n k (Ok d) (Ok g) (Err e) c f a t h = absurd (cc h)
let_fits x n k (Ok d) (Err e) s c f a t h = absurd (cc h)
let_fits x n k (Err e) r s c f a t h = absurd (cc h)

module _ (sorts : List (List ℕ)) where
  resolved_fits : (T : Syntax) (L : List Name) → Reads (length sorts) (length L) (resolved sorts no_constants L T)
  resolved_fits (a_sort p w) L t h = sort_fits (sort_of sorts w) p (length sorts) (length L) w t (λ s q. (position-Some (same_name w) sorts s [] q).0) h
  resolved_fits (a_name p x) L t h = name_fits (binder_of x L) p (length sorts) (length L) x t (λ i q. bound_below (is_plain x) x L i q) h
  resolved_fits (applied f a) L t h = app_fits (length sorts) (length L) _ _ (λ u q. resolved_fits f L u q) (λ u q. resolved_fits a L u q) t h
  resolved_fits (lam x A b) L t h = lam_fits x (length sorts) (length L) _ _ (λ u q. resolved_fits A L u q) (λ u q. resolved_fits b (x ∷ L) u q) t h
  resolved_fits (pi x A b) L t h = pi_fits x (length sorts) (length L) _ _ (λ u q. resolved_fits A L u q) (λ u q. resolved_fits b (x ∷ L) u q) t h
  resolved_fits (let_in x d A b) L t h = let_fits x (length sorts) (length L) _ _ _ (λ u q. resolved_fits d L u q) (λ u q. resolved_fits A L u q) (λ u q. resolved_fits b (x ∷ L) u q) t h

  pub read_fits : (text : List ℕ) (from : ℕ) (t : Named) → Means text from sorts no_constants [] (Ok t) → Fits (length sorts) 0 t
  read_fits text from t m = let (T, said, depth, shallow, is) = m in resolved_fits T [] t is

-- So what is printed of it is read back, as other terms are.
pub lines_read_back : PrintedTermsAreReadBack → PrintedLinesAreReadBack
unfolding chosen_locals
lines_read_back law sorts text t spelled small names m =
    let fits = read_fits sorts text 0 t m in
    law sorts [] t no_constants spelled tt (omega arith) (small, fits.0, fits.1, names) fits.2
