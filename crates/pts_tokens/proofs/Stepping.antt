-- One token further in the text.
use Rattle.std.proofs.Common.{◌≡◌, refl, sym, ◌∙◌, ap, subst, ℕ, pred, ◌+◌, ◌<◌, List, [], ◌∷◌, ◌++◌, Bool, true, false, cond, ◌||◌, ◌==◌, Some, Ok, Err, length, append_assoc, arith, eqb-true}
use Rattle.std.specs.Prelude.{Result}
use Rattle.std.specs.Char.{len_utf8}
use Rattle.std.proofs.lemmas.Str.{len_utf8_bounds}
use Rattle.pts_names.specs.Name.{width}
use Rattle.pts_tokens.specs.declared.token.Token.{Token}
use Rattle.pts_tokens.specs.declared.fault.TokenFault.{TokenFault}
use Rattle.pts_tokens.specs.declared.fault.TokenFault.TheVariants.{BadChar, LongName, Memory}
use Rattle.pts_tokens.specs.Tokens.{Spot, First, blank, token, long_name, no_token, is_blank, token_first, first, with_spot, from_first, tokens_behind}
use Rattle.pts_tokens.specs.Calls.{UnlessMemory, sized, fault_at}
use Rattle.pts_tokens.proofs.Begun.{Begun, begun}

-- The tokens so far, and those of the rest.
abbrev pub prefixed : List Spot → Result (List Spot) TokenFault → Result (List Spot) TokenFault
prefixed ts (Ok us) = Ok (ts ++ us)
prefixed ts (Err e) = Err e

pub prefixed_none : (r : Result (List Spot) TokenFault) → prefixed [] r ≡ r
prefixed_none (Ok us) = refl
prefixed_none (Err e) = refl

pub prefixed_more : (ts : List Spot) (s : Spot) (r : Result (List Spot) TokenFault) → prefixed (ts ++ (s ∷ [])) r ≡ prefixed ts (with_spot s r)
prefixed_more ts s (Ok us) = ap Ok (append_assoc ts (s ∷ []) us)
prefixed_more ts s (Err e) = refl

pub prefixed_all : (ts : List Spot) → prefixed ts (Ok []) ≡ Ok ts
prefixed_all ts = ap Ok (append_nil ts)
  where
    append_nil : (ts : List Spot) → ts ++ [] ≡ ts
    append_nil [] = refl
    append_nil (t ∷ ts) = ap (λ l. t ∷ l) (append_nil ts)

-- Characters of a token are passed over.
tokens_skip : (w v : List ℕ) (place : ℕ) → tokens_behind (length w) place (w ++ v) ≡ tokens_behind 0 (place + width w) v
tokens_skip [] v place = let e : place ≡ place + 0 = omega arith in ap (λ p. tokens_behind 0 p v) e
tokens_skip (c ∷ w) v place = tokens_skip w v (place + len_utf8 c) ∙ (let e : (place + len_utf8 c) + width w ≡ place + (len_utf8 c + width w) = omega arith in ap (λ p. tokens_behind 0 p v) e)

narrow : (c : ℕ) → is_blank c ≡ true → len_utf8 c ≡ 1
narrow c e = by (c == 32) refl e
  where
    by : (a : Bool) → (c == 32) ≡ a → (a || (c == 9)) ≡ true → len_utf8 c ≡ 1
    by true f e = ap len_utf8 (eqb-true c 32 f)
    by false f e = ap len_utf8 (eqb-true c 9 e)

-- Behind a blank.
pub blank_step : (place c : ℕ) (cs : List ℕ) → is_blank c ≡ true → tokens_behind 0 place (c ∷ cs) ≡ tokens_behind 0 (place + 1) cs
unfolding first
blank_step place c cs e =
    ap (λ b. from_first place (cond b blank (token_first c cs)) (λ n. tokens_behind n (place + len_utf8 c) cs)) e
    ∙ ap (λ n. tokens_behind 0 (place + n) cs) (narrow c e)

pub blank_long : (c : ℕ) → is_blank c ≡ true → len_utf8 c ≡ 1
blank_long c e = narrow c e

no_blank : (place c : ℕ) (cs : List ℕ) → is_blank c ≡ false → tokens_behind 0 place (c ∷ cs) ≡ from_first place (token_first c cs) (λ n. tokens_behind n (place + len_utf8 c) cs)
unfolding first
no_blank place c cs e = ap (λ b. from_first place (cond b blank (token_first c cs)) (λ n. tokens_behind n (place + len_utf8 c) cs)) e

-- Behind a token.
pub record Step (place c : ℕ) (cs : List ℕ) (t : Token) (n : ℕ) : Type 0 where
  pub text : List ℕ
  pub behind : List ℕ
  pub cut : c ∷ cs ≡ text ++ behind
  pub size : n ≡ width text
  pub some : 0 < n
  pub rest : tokens_behind 0 place (c ∷ cs) ≡ with_spot (place, t) (tokens_behind 0 (place + n) behind)

pub token_step : (place c : ℕ) (cs : List ℕ) (t : Token) (n : ℕ) → is_blank c ≡ false → sized (token_first c cs) ≡ Some (t, n) → Step place c cs t n
unfolding Begun
token_step place c cs t n e s = by (token_first c cs) (begun c cs) s (no_blank place c cs e)
  where
    long : (w : List ℕ) → 0 < length w → 0 < width w
    long [] h = absurd (omega arith)
    long (d ∷ w) h = omega (arith, len_utf8_bounds d)

    behind_first : (w v : List ℕ) → c ∷ cs ≡ w ++ v → 0 < length w → tokens_behind (pred (length w)) (place + len_utf8 c) cs ≡ tokens_behind 0 (place + width w) v
    behind_first [] v q h = absurd (omega arith)
    behind_first (d ∷ w) v q h =
        let same : c ≡ d = cc q in
        let rest : cs ≡ w ++ v = cc q in
        let here : place + len_utf8 c + width w ≡ place + (len_utf8 d + width w) = omega (arith, ap len_utf8 same) in
        ap (tokens_behind (length w) (place + len_utf8 c)) rest ∙ (tokens_skip w v (place + len_utf8 c) ∙ ap (λ p. tokens_behind 0 p v) here)

    by : (f : First) → Begun f (c ∷ cs) → sized f ≡ Some (t, n) → tokens_behind 0 place (c ∷ cs) ≡ from_first place f (λ m. tokens_behind m (place + len_utf8 c) cs) → Step place c cs t n
    by (token u w) b s h =
        let pair : ◌≡◌ {A = Token × ℕ} (u, width w) (t, n) = cc s in
        let same : u ≡ t = ap (λ p. p.0) pair in
        let size : width w ≡ n = ap (λ p. p.1) pair in
        record {
          text = w;
          behind = b.behind;
          cut = b.whole;
          size = sym size;
          some = subst (λ m. 0 < m) size (long w b.some);
          rest = h ∙ (ap (with_spot (place, u)) (behind_first w b.behind b.whole b.some) ∙ (ap (λ m. with_spot (place, u) (tokens_behind 0 (place + m) b.behind)) size ∙ ap (λ x. with_spot (place, x) (tokens_behind 0 (place + n) b.behind)) same));
        }
    by blank b s h = absurd (cc s)
    by long_name b s h = absurd (cc s)
    by no_token b s h = absurd (cc s)

-- No token.
pub fault_step : (place c : ℕ) (cs : List ℕ) (e : TokenFault) → is_blank c ≡ false → fault_at place (token_first c cs) ≡ Some e → tokens_behind 0 place (c ∷ cs) ≡ Err e
fault_step place c cs e ordinary s = no_blank place c cs ordinary ∙ by (token_first c cs) s
  where
    by : (f : First) → fault_at place f ≡ Some e → from_first place f (λ m. tokens_behind m (place + len_utf8 c) cs) ≡ Err e
    by (token u w) s = absurd (cc s)
    by blank s = absurd (cc s)
    by long_name s = ap Err (cc s)
    by no_token s = ap Err (cc s)

pub unless_map : (e : TokenFault) (P Q : Type 0) → (P → Q) → UnlessMemory e P → UnlessMemory e Q
unless_map Memory P Q f p = tt
unless_map (BadChar place) P Q f p = f p
unless_map (LongName place) P Q f p = f p
