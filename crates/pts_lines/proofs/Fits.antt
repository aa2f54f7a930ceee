-- What texts a form of line has.
use Rattle.std.proofs.Common.{◌≡◌, ◌⊎◌, inl, refl, sym, ◌∙◌, ap, List, [], ◌∷◌, map, true, false, if◌then◌else◌, Option, Some, None}
use Rattle.std.specs.Prelude.{codes}
use Rattle.pts_tokens.specs.declared.token.Token.{Token}
use Rattle.pts_tokens.specs.declared.token.Token.TheVariants.{Colon, Assign, Semicolon, Sort, Name as Word, Number}
use Rattle.pts_tokens.specs.Tokens.{Spot}
use Rattle.pts_grammar.specs.Syntax.{Syntax, sort}
use Rattle.pts_grammar.specs.Grammar.{Reads, application, atoms, no_more, a_sort}
use Rattle.pts_names.specs.Name.{underscore}
use Rattle.pts_grammar.specs.Seen.{within}
use Rattle.pts_lines.specs.Items.{Item, plain, label, placed, number, colon, assign, semicolon, sign, Value, wanted, said}
use Rattle.pts_lines.specs.Lines.{Terms}
use Rattle.pts_lines.specs.Refusals.{CanGoOn, CanFollow, Wants, an_assign, a_colon, a_semicolon, a_number, a_name, a_plain}
use Rattle.pts_lines.specs.Forms.{Sign, by_assign, by_semicolon, LineForm, ends, item, term, term_then, terms}
use Rattle.pts_lines.proofs.Letter.{letter, letter_is_plain, letter_is_label, underscore_is_none, underscore_is_no_label}

abbrev pub sign_of : Sign → Token
sign_of by_assign = Assign
sign_of by_semicolon = Semicolon

-- The tokens are a text of the form, and this comes of it.
abbrev pub Fits : {R : Type 0} → LineForm R → List Spot → Option R → Type 0
Fits (ends o) ts r = (ts ≡ []) × (r ≡ o)
Fits (item i F) [] r = ⊥
Fits (item i F) (s ∷ us) r = (v : Value i) × (said i s ≡ Some v) × Fits (F v) us r
Fits (term F) ts r = (T : Syntax) × Reads ts T [] × (r ≡ F (within T))
Fits (term_then a F) ts r = (T : Syntax) × (s : Spot) × (us : List Spot) × Reads ts T (s ∷ us) × (s.1 ≡ sign_of a) × Fits (F (within T)) us r
Fits (terms F) ts r = ((ts ≡ []) × (r ≡ F [])) ⊎ ((Ts : List Syntax) × Terms ts Ts × (r ≡ F (map within Ts)))

abbrev pub Texts : {R : Type 0} → LineForm R → List Spot → Type 0
Texts F ts = (o : Option _) × Fits F ts o

-- A token of each kind.
pub record Example (i : Item) : Type 0 where
  pub token : Spot
  pub value : Value i
  pub fits : said i token ≡ Some value

pub example : (i : Item) → Example i
example plain = record { token = (0, Word letter); value = letter; fits = ap (λ b. if b then Some letter else None) letter_is_plain }
example label = record { token = (0, Word letter); value = letter; fits = ap (λ b. if b then Some letter else None) letter_is_label }
example placed = record { token = (0, Word letter); value = (0, letter); fits = refl }
example number = record { token = (0, Number (codes "0")); value = 0; fits = refl }
example colon = record { token = (0, Colon); value = tt; fits = refl }
example assign = record { token = (0, Assign); value = tt; fits = refl }
example semicolon = record { token = (0, Semicolon); value = tt; fits = refl }
example sign = record { token = (0, Colon); value = true; fits = refl }

abbrev pub star : List Spot → List Spot
star us = (0, Sort (codes "*")) ∷ us

star_reads : (us : List Spot) → Reads (star us) (sort 0 (codes "*")) us
star_reads us = application (atoms a_sort no_more)

-- Each form has a text.
pub finish : {R : Type 0} (F : LineForm R) → (us : List Spot) × Texts F us
finish (ends o) = ([], (o, (refl, refl)))
finish (item i F) = let e = example i in let f = finish (F e.value) in (e.token ∷ f.0, (f.1.0, (e.value, e.fits, f.1.1)))
finish (term F) = (star [], (F (within (sort 0 (codes "*"))), (sort 0 (codes "*"), star_reads [], refl)))
finish (term_then a F) = let f = finish (F (within (sort 0 (codes "*")))) in (star ((0, sign_of a) ∷ f.0), (f.1.0, (sort 0 (codes "*"), (0, sign_of a), f.0, star_reads ((0, sign_of a) ∷ f.0), refl, f.1.1)))
finish (terms F) = ([], (F [], inl (refl, refl)))

module _ {R : Type 0} (i : Item) (F : Value i → LineForm R) where
  pub can : (t : Token) (v : Value i) → said i (0, t) ≡ Some v → CanFollow (Texts (item i F)) [] t
  can t v e = let f = finish (F v) in (f.0, (f.1.0, (v, e, f.1.1)))

  pub cannot : (s : Spot) → said i s ≡ None → ¬ CanGoOn (Texts (item i F)) (s ∷ [])
  cannot s e (us, (o, (v, h, d))) = let m : None ≡ Some v = sym e ∙ h in absurd (cc m)

  pub empty : ¬ Texts (item i F) []
  empty (o, d) = d

-- What is wanted before a token.
pub item_wants : {R : Type 0} (i : Item) (F : Value i → LineForm R) → Wants (Texts (item i F)) [] (wanted i)
item_wants plain F = a_plain letter (can plain F (Word letter) letter (ap (λ b. if b then Some letter else None) letter_is_plain)) (cannot plain F (0, Word underscore) (ap (λ b. if b then Some underscore else None) underscore_is_none)) (λ s. cannot plain F (0, Sort s) refl)
item_wants label F = a_plain letter (can label F (Word letter) letter (ap (λ b. if b then Some letter else None) letter_is_label)) (cannot label F (0, Word underscore) (ap (λ b. if b then Some underscore else None) underscore_is_no_label)) (λ s. cannot label F (0, Sort s) refl)
item_wants placed F = a_name (can placed F (Word underscore) (0, underscore) refl) (λ s. cannot placed F (0, Sort s) refl)
item_wants number F = a_number (codes "0") (can number F (Number (codes "0")) 0 refl)
item_wants colon F = a_colon (empty colon F) (cannot colon F (0, Assign) refl) (can colon F Colon tt refl)
item_wants assign F = an_assign (empty assign F) (can assign F Assign tt refl)
item_wants semicolon F = a_semicolon (empty semicolon F) (can semicolon F Semicolon tt refl)
item_wants sign F = an_assign (empty sign F) (can sign F Assign false refl)
