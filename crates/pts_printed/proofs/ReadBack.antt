-- What is printed is read back.
use Rattle.std.proofs.Common.{ℕ, zero, suc, ◌+◌, ◌^◌, ◌<◌, ◌≤◌, ◌≡◌, refl, sym, ◌∙◌, ap, subst, List, [], ◌∷◌, Bool, true, false, cond, ◌&&◌, nat_le, Option, Ok, length, get_or, reverse, arith}
use Rattle.std.specs.Prelude.{chars}
use Rattle.std.proofs.lemmas.Bool.{leb-true}
use Rattle.std.proofs.lemmas.List.{length-reverse}
use Rattle.pts_names.specs.Name.{Name, is_identifier, underscore}
use Rattle.pts_terms.specs.Tree.{Named, sort, const, var, app, named_lam, named_pi, named_let, Below}
use Rattle.pts_terms.specs.Limits.{depth_of, size_of}
use Rattle.pts_tokens.specs.Tokens.{tokens_of}
use Rattle.pts_grammar.specs.Syntax.{depth_of as syntax_depth}
use Rattle.pts_grammar.proofs.Underscore.{underscore_is_identifier}
use Rattle.pts_printed.specs.Choice.{occurs, constants, chosen}
use Rattle.pts_printed.specs.Spelled.{product_name, spelled}
use Rattle.pts_printed.specs.Text.{text_of}
use Rattle.pts_printed.specs.Locals.{named_locals, uses, chosen_locals, printed}
use Rattle.pts_printed.specs.Laws.{IsName, HasNames, SortsBelow, Stands, SpellSorts, IsPrintable, MeansEqual, PrintedTermsAreReadBack, text_over, ChosenNamesCaptureNothing}
use Rattle.pts_printed.proofs.Written.{BindsIdentifiers, reads_what_is_written}
use Rattle.pts_printed.proofs.Shallow.{none_too_many, same_depth}
use Rattle.pts_printed.proofs.Found.{Findable, renamed, renamed_bare, found_again}
use Rattle.pts_printed.proofs.Chosen.{chosen_good, chosen_is_name, chosen_free, underscore_is_name, constants_length}
use Rattle.pts_printed.proofs.Over.{ready_fits, none_ready, locals_ready, same_length, uses_length}
use Rattle.pts_printed.proofs.Lexed.{HasWords, all_lexed}
use Rattle.pts_printed.proofs.Characters.{text_characters}
use Rattle.pts_printed.proofs.Places.{resolved_alike}

-- The names of variables are names.
abbrev pub AllNames : List Name → Type 0
AllNames L = (i : ℕ) → i < length L → IsName (get_or L i [])

one_name : (y : Name) (L : List Name) → IsName y → AllNames L → AllNames (y ∷ L)
one_name y L n all zero l = n
one_name y L n all (suc i) l = all i (omega arith)

product_is_name : (x : Name) (L : List Name) (body : Named) → IsName x → length L + size_of body < 10 ^ 63 → IsName (product_name x L body) × (is_identifier (product_name x L body) ≡ true)
product_is_name x L body n l = by (occurs 0 body)
  where
    by : (b : Bool) → IsName (cond b (chosen x L body) underscore) × (is_identifier (cond b (chosen x L body) underscore) ≡ true)
    by true = chosen_is_name x L body n l
    by false = (underscore_is_name, underscore_is_identifier)

module _ (sorts : List (List ℕ)) (spellings : SpellSorts sorts) where
  has_words : (t : Named) (L : List Name) → length L + size_of t < 10 ^ 63 → SortsBelow (length sorts) t → Below (length L) t → HasNames t → AllNames L → HasWords (spelled sorts L t)
  has_words (sort k) L l s b n all = spellings.0 k s
  has_words (const c) L l s b n all = n
  has_words (var i) L l s b n all = all i b
  has_words (app f a) L l s b n all = (has_words f L (omega arith) s.0 b.0 n.0 all, has_words a L (omega arith) s.1 b.1 n.1 all)
  has_words (named_lam x A t) L l s b n all =
      let y = (chosen_is_name x L t n.0 (omega arith)).0 in
      (y, has_words A L (omega arith) s.0 b.0 n.1 all, has_words t (chosen x L t ∷ L) (omega arith) s.1 b.1 n.2 (one_name _ L y all))
  has_words (named_pi x A t) L l s b n all =
      let y = (product_is_name x L t n.0 (omega arith)).0 in
      (y, has_words A L (omega arith) s.0 b.0 n.1 all, has_words t (product_name x L t ∷ L) (omega arith) s.1 b.1 n.2 (one_name _ L y all))
  has_words (named_let x a A t) L l s b n all =
      let y = (chosen_is_name x L t n.0 (omega arith)).0 in
      (y, has_words a L (omega arith) s.0 b.0 n.1 all, has_words A L (omega arith) s.1 b.1 n.2 all, has_words t (chosen x L t ∷ L) (omega arith) s.2 b.2 n.3 (one_name _ L y all))

binds_identifiers : (sorts : List (List ℕ)) (t : Named) (L : List Name) → length L + size_of t < 10 ^ 63 → HasNames t → BindsIdentifiers (spelled sorts L t)
binds_identifiers sorts (sort s) L l n = tt
binds_identifiers sorts (const c) L l n = tt
binds_identifiers sorts (var i) L l n = tt
binds_identifiers sorts (app f a) L l n = (binds_identifiers sorts f L (omega arith) n.0, binds_identifiers sorts a L (omega arith) n.1)
binds_identifiers sorts (named_lam x A t) L l n = ((chosen_is_name x L t n.0 (omega arith)).1, binds_identifiers sorts A L (omega arith) n.1, binds_identifiers sorts t (chosen x L t ∷ L) (omega arith) n.2)
binds_identifiers sorts (named_pi x A t) L l n = ((product_is_name x L t n.0 (omega arith)).1, binds_identifiers sorts A L (omega arith) n.1, binds_identifiers sorts t (product_name x L t ∷ L) (omega arith) n.2)
binds_identifiers sorts (named_let x a A t) L l n = ((chosen_is_name x L t n.0 (omega arith)).1, binds_identifiers sorts a L (omega arith) n.1, binds_identifiers sorts A L (omega arith) n.2, binds_identifiers sorts t (chosen x L t ∷ L) (omega arith) n.3)

spelled_depth : (sorts : List (List ℕ)) (t : Named) (L : List Name) → syntax_depth (spelled sorts L t) ≡ depth_of t
spelled_depth sorts (sort s) L = refl
spelled_depth sorts (const c) L = refl
spelled_depth sorts (var i) L = refl
spelled_depth sorts (app f a) L = rw (spelled_depth sorts f L, spelled_depth sorts a L) refl
spelled_depth sorts (named_lam x A t) L = rw (spelled_depth sorts A L, spelled_depth sorts t (chosen x L t ∷ L)) refl
spelled_depth sorts (named_pi x A t) L = rw (spelled_depth sorts A L, spelled_depth sorts t (product_name x L t ∷ L)) refl
spelled_depth sorts (named_let x a A t) L = rw (spelled_depth sorts a L, spelled_depth sorts A L, spelled_depth sorts t (chosen x L t ∷ L)) refl

pub limits : (d s : ℕ) → (nat_le d 2000 && nat_le s 1000000) ≡ true → (d ≤ 2000) × (s ≤ 1000000)
limits d s e = by (nat_le d 2000) (nat_le s 1000000) refl refl e
  where
    by : (a b : Bool) → nat_le d 2000 ≡ a → nat_le s 1000000 ≡ b → (a && b) ≡ true → (d ≤ 2000) × (s ≤ 1000000)
    by true true p q e = (leb-true d 2000 p, leb-true s 1000000 q)
    by true false p q e = absurd (cc e)
    by false b p q e = absurd (cc e)

-- A text over locals that are ready means its term.
module _ (sorts : List (List ℕ)) (scope : Name → Option Name) (spellings : SpellSorts sorts) (locals : List Name) (t : Named) where
  pub text_means : length locals < 2 ^ 63 → IsPrintable sorts (length locals) t → Stands scope t → AllNames (reverse locals) → Findable (reverse locals) t → MeansEqual sorts scope locals (text_over sorts locals t) t
  unfolding tokens_of
  text_means few p k all fits =
      let L = reverse locals in
      let T = spelled sorts L t in
      let len : length L ≡ length locals = length-reverse locals in
      let lim = limits (depth_of t) (size_of t) p.0 in
      let small : length L + size_of t < 10 ^ 63 = omega arith in
      let words = has_words sorts spellings t L small p.1 (subst (λ n. Below n t) (sym len) p.2) p.3 all in
      let (ts, cut, holds) = all_lexed T words in
      let lexed : tokens_of 0 (chars (text_of T)) ≡ Ok ts = ap (tokens_of 0) (text_characters T words) ∙ cut in
      let (M, reads, same) = reads_what_is_written T ts (binds_identifiers sorts t L small p.3) holds in
      let deep = spelled_depth sorts t L in
      let deep2 = same_depth M T same in
      (renamed L t, (M, (ts, lexed, reads), omega arith, (ts, lexed, none_too_many 2000 T ts (omega arith) holds), resolved_alike sorts scope M T L (renamed L t) same (found_again sorts scope spellings (10 ^ 63) chosen_good t L small p.3 p.1 k fits)), renamed_bare L t)

pub terms_read_back : PrintedTermsAreReadBack
unfolding printed chosen_locals
terms_read_back sorts locals t scope spellings names few p k =
    let cs = constants t in
    let ys = named_locals cs [] (uses locals t) in
    let lim = limits (depth_of t) (size_of t) p.0 in
    let c = constants_length t in
    let r = locals_ready cs t locals [] names (omega arith) (none_ready cs (λ i. occurs (i + length locals) t)) in
    let len : length ys ≡ length locals = same_length cs [] (uses locals t) ∙ uses_length locals t in
    let rlen : length (reverse ys) ≡ length locals = length-reverse ys ∙ len in
    text_means sorts scope spellings ys t (omega arith) (subst (λ n. IsPrintable sorts n t) (sym len) p) k r.names
    (ready_fits cs (reverse ys) (λ i. occurs i t) t r (λ i o. o) (λ c among. among) (subst (λ n. Below n t) (sym rlen) p.2))

pub names_capture_nothing : ChosenNamesCaptureNothing
names_capture_nothing x L body n few w =
    let lim = limits (depth_of body) (size_of body) w in
    let small : length L + size_of body < 10 ^ 63 = omega arith in
    let y = chosen_is_name x L body n small in
    (y.0, y.1, chosen_free x L body small, (chosen_good x L body n small).found)
