-- The names that a line gives to declarations are plain, and no plain name is inner.
use Rattle.std.proofs.Common.{◌≡◌, ◌<◌, ℕ, zero, suc, Bool, true, false, List, [], ◌∷◌, ◌++◌, get_or, refl, sym, ap, ◌∙◌, subst, eqb-true, ◌==◌, lit<}
use Rattle.std.specs.Prelude.{chars, ◌&&◌}
use Rattle.std.proofs.lemmas.Str.{chars-append, chars-IsAscii, IsUtf8-from_ascii}
use Rattle.pts_names.specs.Name.{Name, is_plain, is_identifier}
use Rattle.pts_names.proofs.Parts.{NoDot}
use Rattle.pts_names.proofs.OnePart.{identifier_no_dot, identifier_has_no_fault}
use Rattle.pts_lines.specs.Lines.{Line, nothing, a_plain, a_name, a_term, a_type, two_names, a_number, two_terms, untyped, with_type, no_terms, some_terms, a_line}
use Rattle.pts_lines.specs.Reading.{SaysLine}
use Rattle.pts_core.specs.InnerNames.{is_inner}
use Rattle.pts_session.specs.Plain.{NamesArePlain}

pub said_plain : (text : List ℕ) (L : Line) → SaysLine text L → NamesArePlain L
said_plain text L (ts, e, a_line w (nothing)) = tt
said_plain text L (ts, e, a_line w (a_plain p)) = tt
said_plain text L (ts, e, a_line w (a_name)) = tt
said_plain text L (ts, e, a_line w (a_term r)) = tt
said_plain text L (ts, e, a_line w (a_type p r)) = p
said_plain text L (ts, e, a_line w (two_names p q)) = q
said_plain text L (ts, e, a_line w (a_number u)) = tt
said_plain text L (ts, e, a_line w (two_terms r s)) = tt
said_plain text L (ts, e, a_line w (untyped p r)) = p
said_plain text L (ts, e, a_line w (with_type p r s)) = p
said_plain text L (ts, e, a_line w (no_terms p q)) = tt
said_plain text L (ts, e, a_line w (some_terms p q r)) = tt

begins : List ℕ
begins = 95 ∷ 46 ∷ []

low : (i : ℕ) → get_or begins i 0 < 128
unfolding begins
low zero = lit< tt
low (suc zero) = lit< tt
low (suc (suc i)) = lit< tt

both : (a b : Bool) → (a && b) ≡ true → (a ≡ true) × (b ≡ true)
both true true e = (refl, refl)
both true false e = absurd (cc e)
both false b e = absurd (cc e)

-- No identifier begins with `_.`.
dotted : (rest : List ℕ) → is_identifier (95 ∷ 46 ∷ rest) ≡ true → ⊥
unfolding begins
dotted rest i =
    let spelled : chars (95 ∷ 46 ∷ rest) ≡ 95 ∷ 46 ∷ chars rest = chars-append begins rest (IsUtf8-from_ascii begins low) ∙ ap (λ l. l ++ chars rest) (chars-IsAscii begins low) in
    let none = subst NoDot spelled (identifier_no_dot 0 (chars (95 ∷ 46 ∷ rest)) (identifier_has_no_fault (95 ∷ 46 ∷ rest) i)) in
    let wrong : true ≡ false = none.1.0 in
    cc wrong

no_identifier : (x : Name) → is_identifier x ≡ true → is_inner x ≡ true → ⊥
no_identifier [] i e = cc e
no_identifier (b ∷ []) i e = let s = both (95 == b) false e in cc s.1
no_identifier (b ∷ c ∷ rest) i e =
    let s = both (95 == b) ((46 == c) && true) e in
    let t = both (46 == c) true s.1 in
    let p = eqb-true 95 b s.0 in
    let q = eqb-true 46 c t.0 in
    dotted rest (subst (λ y. is_identifier (95 ∷ y ∷ rest) ≡ true) (sym q) (subst (λ y. is_identifier (y ∷ c ∷ rest) ≡ true) (sym p) i))

pub plain_not_inner : (x : Name) → is_plain x ≡ true → is_inner x ≡ false
plain_not_inner x p = by (is_inner x) refl
  where
    by : (b : Bool) → is_inner x ≡ b → b ≡ false
    by false e = refl
    by true e = absurd (no_identifier x (both (is_identifier x) _ p).0 e)
