-- The forms behind the words are the rules of the grammar.
use Rattle.std.proofs.Common.{ℕ, ◌≡◌, ◌⊎◌, inl, inr, refl, ◌∙◌, ap, subst, List, [], ◌∷◌, map, Bool, true, false, Option, Some, None, option_map, Result, Ok, Err}
use Rattle.pts_names.specs.Name.{Name}
use Rattle.pts_tokens.specs.declared.token.Token.TheVariants.{Colon, Assign, Semicolon, Name as Word, Number}
use Rattle.pts_tokens.specs.Tokens.{Spot}
use Rattle.pts_grammar.specs.Syntax.{Syntax}
use Rattle.pts_grammar.specs.Grammar.{Reads}
use Rattle.pts_grammar.specs.Seen.{within}
use Rattle.pts_grammar.specs.Open.{more}
use Rattle.pts_parser.specs.declared.fault.ReadFault.{ReadFault}
use Rattle.pts_parser.specs.declared.fault.ReadFault.TheVariants.{BadChar, LongName, Expected, TooDeep, UnknownName, UnknownSort, Memory}
use Rattle.pts_parser.specs.Resolution.{and_then}
use Rattle.pts_lines.specs.declared.command.Alone.{Alone}
use Rattle.pts_lines.specs.declared.command.Named.{Named}
use Rattle.pts_lines.specs.declared.command.Placed.{Placed}
use Rattle.pts_lines.specs.declared.command.Asked.{Asked}
use Rattle.pts_lines.specs.declared.command.WithType.{WithType}
use Rattle.pts_lines.specs.declared.command.Command.{Command}
use Rattle.pts_lines.specs.declared.command.Command.TheVariants.{OfNothing, OfPlain, OfName, OfTerm, OfType, Rename, Budget, Equal, Define, Instance}
use Rattle.pts_lines.specs.Lines.{Line, alone, of_plain, of_name, of_term, of_type, renaming, budget, equality, definition, instantiation, Terms, Follows, nothing, a_plain, a_name, a_term, a_type, two_names, a_number, two_terms, untyped, with_type, no_terms, some_terms}
use Rattle.pts_lines.specs.Reading.{Behind}
use Rattle.pts_lines.specs.Forms.{LineForm, run_form, run_command, alone_form, plain_form, placed_form, number_form, names_form, term_form, typed_form, terms_form, body_form, definition_form, instance_form, pair, all_of}
use Rattle.pts_lines.specs.Refusals.{NoneTooMany}
use Rattle.pts_lines.proofs.Languages.{none_of_nothing, lift_refused, lift_none, lift_first}
use Rattle.pts_lines.proofs.Fits.{Fits, Texts}
use Rattle.pts_lines.proofs.Told.{Told, told}
use Rattle.pts_lines.proofs.Wanted.{OneKind, one_behind}
use Rattle.pts_lines.proofs.OneKind.{one_kind}
use Rattle.pts_lines.proofs.Views.{PlainAt, plain_at, LabelAt, label_at, NameAt, name_at, NumberAt, number_at, ColonAt, colon_at, SignAt, sign_colon, sign_assign, is_plain_at, is_label_at, is_name_at, is_number_at, is_colon_at, is_sign_at, plain_said, label_said}
use Rattle.pts_lines.proofs.Shallow.{kept, Gives, gives_kept, moved_gives, mapped, none_kept, one_kept, many_kept, two_kept}

-- A form that has the texts of the grammar has its answers.
behind_of : (c : Command) (ts : List Spot) (o : Option Line) → Gives c ts o → Behind c ts
behind_of c ts (Some L) d = (L, d.0)
behind_of c ts None d = (d.0, d.1)

module _ {R : Type 0} (size : ℕ) (c : Command) (F : LineForm R) (make : R → Line) (to : (ts : List Spot) (o : Option R) → Fits F ts o → Gives c ts (option_map make o)) (from : (ts : List Spot) (L : Line) → Follows c ts L → Texts F ts) where
  texts_to : (ts : List Spot) → Texts F ts → Behind c ts
  texts_to ts (o, d) = behind_of c ts (option_map make o) (to ts o d)

  texts_from : (ts : List Spot) → Behind c ts → Texts F ts
  texts_from ts (L, d) = from ts L d

  none : (ts : List Spot) → NoneTooMany (Texts F) 2000 ts → NoneTooMany (Behind c) 2000 ts
  none = lift_none (Behind c) (Texts F) [] texts_to texts_from 2000 refl (none_of_nothing (Behind c) 2000)

  made : (ts : List Spot) (r : Result R ReadFault) → Told (Texts F) size (Fits F) ts r → Told (Behind c) size (Gives c) ts (and_then r (λ a. Ok (make a)))
  made ts (Ok a) d = (to ts (Some a) d.0, none ts d.1)
  made ts (Err (Expected p k)) d = (lift_refused (Behind c) (Texts F) [] texts_to texts_from size ts k p d.0, none ts d.1)
  made ts (Err (TooDeep p)) (inl d) = inl (lift_first (Behind c) (Texts F) [] texts_to texts_from 2000 refl (none_of_nothing (Behind c) 2000) ts p d)
  made ts (Err (TooDeep p)) (inr d) = inr (d.0, to ts None d.1, none ts d.2)
  made ts (Err (BadChar p)) d = d
  made ts (Err (LongName p)) d = d
  made ts (Err (UnknownName p x)) d = d
  made ts (Err (UnknownSort p x)) d = d
  made ts (Err Memory) d = d

  row_one : (vs : List Spot) → OneKind (Behind c) vs
  row_one vs = one_behind (Behind c) (Texts F) [] texts_to texts_from vs vs refl (one_kind F vs)

  row : (ts : List Spot) → Told (Behind c) size (Gives c) ts (and_then (run_form within more size F ts) (λ a. Ok (make a)))
  row ts = made ts (run_form within more size F ts) (told size F ts)

-- This line comes of it, or nothing where a term is too deep.
comes : (c : Command) (L : Line) (ts us : List Spot) (o : Option Line) → ts ≡ us → o ≡ kept L → Follows c us L → Gives c ts o
comes c L ts us o e h d = moved_gives c ts us o (kept L) e h (gives_kept c us L d)

-- Nothing.
alone_to : (c : Alone) (ts : List Spot) (o : Option (Unit {0})) → Fits alone_form ts o → Gives (OfNothing c) ts (option_map (λ u. alone c) o)
alone_to c ts o (e, h) = comes (OfNothing c) (alone c) ts [] (option_map (λ u. alone c) o) e (ap (option_map (λ u. alone c)) h ∙ none_kept (alone c) refl) nothing

alone_from : (c : Alone) (ts : List Spot) (L : Line) → Follows (OfNothing c) ts L → Texts alone_form ts
alone_from c _ _ nothing = (Some tt, (refl, refl))

-- A plain name.
plain_to_at : (c : Named) (s : Spot) (us : List Spot) (o : Option Name) (v : Name) → PlainAt s v → us ≡ [] → o ≡ Some v → Gives (OfPlain c) (s ∷ us) (option_map (of_plain c) o)
plain_to_at c _ us o _ (plain_at {p} {x} e) h g = comes (OfPlain c) (of_plain c x) ((p, Word x) ∷ us) ((p, Word x) ∷ []) (option_map (of_plain c) o) (ap (λ xs. (p, Word x) ∷ xs) h) (ap (option_map (of_plain c)) g ∙ none_kept (of_plain c x) refl) (a_plain e)

plain_to : (c : Named) (ts : List Spot) (o : Option Name) → Fits plain_form ts o → Gives (OfPlain c) ts (option_map (of_plain c) o)
plain_to c [] o d = absurd d
plain_to c (s ∷ us) o (v, e, d) = plain_to_at c s us o v (is_plain_at s v e) d.0 d.1

plain_from : (c : Named) (ts : List Spot) (L : Line) → Follows (OfPlain c) ts L → Texts plain_form ts
plain_from c _ _ (a_plain {p = p} {x = x} e) = (Some x, (x, plain_said p x e, (refl, refl)))

-- Any name.
name_to_at : (c : Placed) (s : Spot) (us : List Spot) (o : Option (ℕ × Name)) (v : ℕ × Name) → NameAt s v → us ≡ [] → o ≡ Some v → Gives (OfName c) (s ∷ us) (option_map (λ x. of_name c x.0 x.1) o)
name_to_at c _ us o _ (name_at {p} {x}) h g = comes (OfName c) (of_name c p x) ((p, Word x) ∷ us) ((p, Word x) ∷ []) (option_map (λ x. of_name c x.0 x.1) o) (ap (λ xs. (p, Word x) ∷ xs) h) (ap (option_map (λ x. of_name c x.0 x.1)) g ∙ none_kept (of_name c p x) refl) a_name

name_to : (c : Placed) (ts : List Spot) (o : Option (ℕ × Name)) → Fits placed_form ts o → Gives (OfName c) ts (option_map (λ x. of_name c x.0 x.1) o)
name_to c [] o d = absurd d
name_to c (s ∷ us) o (v, e, d) = name_to_at c s us o v (is_name_at s v e) d.0 d.1

name_from : (c : Placed) (ts : List Spot) (L : Line) → Follows (OfName c) ts L → Texts placed_form ts
name_from c _ _ (a_name {p = p} {x = x}) = (Some (p, x), ((p, x), refl, (refl, refl)))

-- A number.
number_to_at : (s : Spot) (us : List Spot) (o : Option ℕ) (v : ℕ) → NumberAt s v → us ≡ [] → o ≡ Some v → Gives Budget (s ∷ us) (option_map budget o)
number_to_at _ us o _ (number_at {p} {n} {ds} e) h g = comes Budget (budget n) ((p, Number ds) ∷ us) ((p, Number ds) ∷ []) (option_map budget o) (ap (λ xs. (p, Number ds) ∷ xs) h) (ap (option_map budget) g ∙ none_kept (budget n) refl) (a_number e)

number_to : (ts : List Spot) (o : Option ℕ) → Fits number_form ts o → Gives Budget ts (option_map budget o)
number_to [] o d = absurd d
number_to (s ∷ us) o (v, e, d) = number_to_at s us o v (is_number_at s v e) d.0 d.1

number_from : (ts : List Spot) (L : Line) → Follows Budget ts L → Texts number_form ts
number_from _ _ (a_number {n = n} e) = (Some n, (n, e, (refl, refl)))

-- Two plain names.

names_to_at : (s t : Spot) (us : List Spot) (o : Option (Name × Name)) (v w : Name) → PlainAt s v → PlainAt t w → us ≡ [] → o ≡ Some (v, w) → Gives Rename (s ∷ t ∷ us) (option_map (λ r. renaming r.0 r.1) o)
names_to_at _ _ us o _ _ (plain_at {p} {x} e) (plain_at {p = q} {x = y} f) h g = comes Rename (renaming x y) ((p, Word x) ∷ (q, Word y) ∷ us) ((p, Word x) ∷ (q, Word y) ∷ []) (option_map (λ r. renaming r.0 r.1) o) (ap (λ xs. (p, Word x) ∷ (q, Word y) ∷ xs) h) (ap (option_map (λ r. renaming r.0 r.1)) g ∙ none_kept (renaming x y) refl) (two_names e f)

names_to : (ts : List Spot) (o : Option (Name × Name)) → Fits names_form ts o → Gives Rename ts (option_map (λ r. renaming r.0 r.1) o)
names_to [] o d = absurd d
names_to (s ∷ []) o (v, e, d) = absurd d
names_to (s ∷ t ∷ us) o (v, e, (w, f, d)) = names_to_at s t us o v w (is_plain_at s v e) (is_plain_at t w f) d.0 d.1

names_from : (ts : List Spot) (L : Line) → Follows Rename ts L → Texts names_form ts
names_from _ _ (two_names {p = p} {q = q} {x = x} {y = y} e f) = (Some (x, y), (x, plain_said p x e, (y, plain_said q y f, (refl, refl))))

-- A term.
term_to : (c : Asked) (ts : List Spot) (o : Option Syntax) → Fits term_form ts o → Gives (OfTerm c) ts (option_map (of_term c) o)
term_to c ts o (T, d, h) = comes (OfTerm c) (of_term c T) ts ts (option_map (of_term c) o) refl (ap (option_map (of_term c)) h ∙ one_kept (of_term c) T refl) (a_term d)

term_from : (c : Asked) (ts : List Spot) (L : Line) → Follows (OfTerm c) ts L → Texts term_form ts
term_from c ts _ (a_term {T = T} d) = (within T, (T, d, refl))

-- A plain name with its type.
typed_to_at : (c : WithType) (s t : Spot) (us : List Spot) (o : Option (Name × Syntax)) (v : Name) (T : Syntax) → PlainAt s v → ColonAt t → Reads us T [] → o ≡ option_map (λ A. (v, A)) (within T) → Gives (OfType c) (s ∷ t ∷ us) (option_map (λ r. of_type c r.0 r.1) o)
typed_to_at c _ _ us o _ T (plain_at {p} {x} e) (colon_at {p = q}) d h = comes (OfType c) (of_type c x T) ((p, Word x) ∷ (q, Colon) ∷ us) ((p, Word x) ∷ (q, Colon) ∷ us) (option_map (λ r. of_type c r.0 r.1) o) refl (ap (option_map (λ r. of_type c r.0 r.1)) h ∙ (mapped (λ A. (x, A)) (λ r. of_type c r.0 r.1) (within T) ∙ one_kept (of_type c x) T refl)) (a_type e d)

typed_to : (c : WithType) (ts : List Spot) (o : Option (Name × Syntax)) → Fits typed_form ts o → Gives (OfType c) ts (option_map (λ r. of_type c r.0 r.1) o)
typed_to c [] o d = absurd d
typed_to c (s ∷ []) o (v, e, d) = absurd d
typed_to c (s ∷ t ∷ us) o (v, e, (u, f, (T, d, h))) = typed_to_at c s t us o v T (is_plain_at s v e) (is_colon_at t u f) d h

typed_from : (c : WithType) (ts : List Spot) (L : Line) → Follows (OfType c) ts L → Texts typed_form ts
typed_from c _ _ (a_type {p = p} {x = x} {T = T} e d) = (option_map (λ A. (x, A)) (within T), (x, plain_said p x e, (tt, refl, (T, d, refl))))

-- Two terms.
semicolon_moved : (s : Spot) → s.1 ≡ Semicolon → s ≡ (s.0, Semicolon)
semicolon_moved s e = ap (λ t. (s.0, t)) e

assign_moved : (s : Spot) → s.1 ≡ Assign → s ≡ (s.0, Assign)
assign_moved s e = ap (λ t. (s.0, t)) e

terms_to : (ts : List Spot) (o : Option (Syntax × Syntax)) → Fits terms_form ts o → Gives Equal ts (option_map (λ r. equality r.0 r.1) o)
terms_to ts o (T, s, us, d, e, (U, g, h)) = comes Equal (equality T U) ts ts (option_map (λ r. equality r.0 r.1) o) refl (ap (option_map (λ r. equality r.0 r.1)) h ∙ two_kept equality T U refl) (two_terms (subst (λ x. Reads ts T (x ∷ us)) (semicolon_moved s e) d) g)

terms_from : (ts : List Spot) (L : Line) → Follows Equal ts L → Texts terms_form ts
terms_from ts _ (two_terms {p = p} {us = us} {T = T} {U = U} d g) = (pair (within T) (within U), (T, (p, Semicolon), us, d, refl, (U, g, refl)))

-- A definition.
bodied : (x : Name) (o : Option Syntax) → option_map (λ (r : Name × Option Syntax × Syntax). definition r.0 r.1 r.2) (option_map (λ T. (x, None, T)) o) ≡ option_map (definition x None) o
bodied x (Some T) = refl
bodied x None = refl

typed_bodied : (x : Name) (o : Option (Syntax × Syntax)) → option_map (λ (r : Name × Option Syntax × Syntax). definition r.0 r.1 r.2) (option_map (λ (r : Syntax × Syntax). (x, Some r.0, r.1)) o) ≡ option_map (λ (r : Syntax × Syntax). definition x (Some r.0) r.1) o
typed_bodied x (Some T) = refl
typed_bodied x None = refl

definition_to_at : (s t : Spot) (us : List Spot) (o : Option (Name × Option Syntax × Syntax)) (v : Name) (b : Bool) → PlainAt s v → SignAt t b → Fits (body_form v b) us o → Gives Define (s ∷ t ∷ us) (option_map (λ r. definition r.0 r.1 r.2) o)
definition_to_at _ _ us o _ _ (plain_at {p} {x} e) (sign_assign {p = q}) (T, d, h) = comes Define (definition x None T) ((p, Word x) ∷ (q, Assign) ∷ us) ((p, Word x) ∷ (q, Assign) ∷ us) (option_map (λ r. definition r.0 r.1 r.2) o) refl (ap (option_map (λ r. definition r.0 r.1 r.2)) h ∙ (bodied x (within T) ∙ one_kept (definition x None) T refl)) (untyped e d)
definition_to_at _ _ us o _ _ (plain_at {p} {x} e) (sign_colon {p = q}) (A, s, vs, d, f, (T, g, h)) = comes Define (definition x (Some A) T) ((p, Word x) ∷ (q, Colon) ∷ us) ((p, Word x) ∷ (q, Colon) ∷ us) (option_map (λ r. definition r.0 r.1 r.2) o) refl (ap (option_map (λ r. definition r.0 r.1 r.2)) h ∙ (typed_bodied x (pair (within A) (within T)) ∙ two_kept (λ B U. definition x (Some B) U) A T refl)) (with_type e (subst (λ y. Reads us A (y ∷ vs)) (assign_moved s f) d) g)

definition_to : (ts : List Spot) (o : Option (Name × Option Syntax × Syntax)) → Fits definition_form ts o → Gives Define ts (option_map (λ r. definition r.0 r.1 r.2) o)
definition_to [] o d = absurd d
definition_to (s ∷ []) o (v, e, d) = absurd d
definition_to (s ∷ t ∷ us) o (v, e, (b, f, d)) = definition_to_at s t us o v b (is_plain_at s v e) (is_sign_at t b f) d

definition_from : (ts : List Spot) (L : Line) → Follows Define ts L → Texts definition_form ts
definition_from _ _ (untyped {p = p} {x = x} {T = T} e d) = (option_map (λ U. (x, None, U)) (within T), (x, plain_said p x e, (false, refl, (T, d, refl))))
definition_from _ _ (with_type {p = p} {r = r} {x = x} {us = us} {A = A} {T = T} e d g) = (option_map (λ r. (x, Some r.0, r.1)) (pair (within A) (within T)), (x, plain_said p x e, (true, refl, (A, (r, Assign), us, d, refl, (T, g, refl)))))

-- A module's instance.
instance_to_at : (s t : Spot) (us : List Spot) (o : Option (Name × Name × List Syntax)) (m l : Name) → PlainAt s m → LabelAt t l → ((us ≡ []) × (o ≡ option_map (λ Us. (m, l, Us)) (all_of []))) ⊎ ((Ts : List Syntax) × Terms us Ts × (o ≡ option_map (λ Us. (m, l, Us)) (all_of (map within Ts)))) → Gives Instance (s ∷ t ∷ us) (option_map (λ r. instantiation r.0 r.1 r.2) o)
instance_to_at _ _ us o _ _ (plain_at {p} {x} e) (label_at {p = q} {x = l} f) (inl (h, g)) = comes Instance (instantiation x l []) ((p, Word x) ∷ (q, Word l) ∷ us) ((p, Word x) ∷ (q, Word l) ∷ []) (option_map (λ r. instantiation r.0 r.1 r.2) o) (ap (λ xs. (p, Word x) ∷ (q, Word l) ∷ xs) h) (ap (option_map (λ r. instantiation r.0 r.1 r.2)) g ∙ none_kept (instantiation x l []) refl) (no_terms e f)
instance_to_at _ _ us o _ _ (plain_at {p} {x} e) (label_at {p = q} {x = l} f) (inr (Ts, d, g)) = comes Instance (instantiation x l Ts) ((p, Word x) ∷ (q, Word l) ∷ us) ((p, Word x) ∷ (q, Word l) ∷ us) (option_map (λ r. instantiation r.0 r.1 r.2) o) refl (ap (option_map (λ r. instantiation r.0 r.1 r.2)) g ∙ (mapped (λ Us. (x, l, Us)) (λ r. instantiation r.0 r.1 r.2) (all_of (map within Ts)) ∙ many_kept (instantiation x l) Ts refl)) (some_terms e f d)

instance_to : (ts : List Spot) (o : Option (Name × Name × List Syntax)) → Fits instance_form ts o → Gives Instance ts (option_map (λ r. instantiation r.0 r.1 r.2) o)
instance_to [] o d = absurd d
instance_to (s ∷ []) o (v, e, d) = absurd d
instance_to (s ∷ t ∷ us) o (m, e, (l, f, d)) = instance_to_at s t us o m l (is_plain_at s m e) (is_label_at t l f) d

instance_from : (ts : List Spot) (L : Line) → Follows Instance ts L → Texts instance_form ts
instance_from _ _ (no_terms {p = p} {q = q} {m = m} {l = l} e f) = (Some (m, l, []), (m, plain_said p m e, (l, label_said q l f, inl (refl, refl))))
instance_from _ _ (some_terms {p = p} {q = q} {m = m} {l = l} {Ts = Ts} e f d) = (option_map (λ Us. (m, l, Us)) (all_of (map within Ts)), (m, plain_said p m e, (l, label_said q l f, inr (Ts, d, refl))))

-- What stands behind each word.
pub behind_told : (size : ℕ) (c : Command) (ts : List Spot) → Told (Behind c) size (Gives c) ts (run_command within more size c ts)
behind_told size (OfNothing c) ts = row size (OfNothing c) alone_form (λ u. alone c) (alone_to c) (alone_from c) ts
behind_told size (OfPlain c) ts = row size (OfPlain c) plain_form (of_plain c) (plain_to c) (plain_from c) ts
behind_told size (OfName c) ts = row size (OfName c) placed_form (λ x. of_name c x.0 x.1) (name_to c) (name_from c) ts
behind_told size (OfTerm c) ts = row size (OfTerm c) term_form (of_term c) (term_to c) (term_from c) ts
behind_told size (OfType c) ts = row size (OfType c) typed_form (λ r. of_type c r.0 r.1) (typed_to c) (typed_from c) ts
behind_told size Rename ts = row size Rename names_form (λ r. renaming r.0 r.1) names_to names_from ts
behind_told size Budget ts = row size Budget number_form budget number_to number_from ts
behind_told size Equal ts = row size Equal terms_form (λ r. equality r.0 r.1) terms_to terms_from ts
behind_told size Define ts = row size Define definition_form (λ r. definition r.0 r.1 r.2) definition_to definition_from ts
behind_told size Instance ts = row size Instance instance_form (λ r. instantiation r.0 r.1 r.2) instance_to instance_from ts

-- And one kind of token must stand there.
pub behind_one : (c : Command) (vs : List Spot) → OneKind (Behind c) vs
behind_one (OfNothing c) vs = row_one 0 (OfNothing c) alone_form (λ u. alone c) (alone_to c) (alone_from c) vs
behind_one (OfPlain c) vs = row_one 0 (OfPlain c) plain_form (of_plain c) (plain_to c) (plain_from c) vs
behind_one (OfName c) vs = row_one 0 (OfName c) placed_form (λ x. of_name c x.0 x.1) (name_to c) (name_from c) vs
behind_one (OfTerm c) vs = row_one 0 (OfTerm c) term_form (of_term c) (term_to c) (term_from c) vs
behind_one (OfType c) vs = row_one 0 (OfType c) typed_form (λ r. of_type c r.0 r.1) (typed_to c) (typed_from c) vs
behind_one Rename vs = row_one 0 Rename names_form (λ r. renaming r.0 r.1) names_to names_from vs
behind_one Budget vs = row_one 0 Budget number_form budget number_to number_from vs
behind_one Equal vs = row_one 0 Equal terms_form (λ r. equality r.0 r.1) terms_to terms_from vs
behind_one Define vs = row_one 0 Define definition_form (λ r. definition r.0 r.1 r.2) definition_to definition_from vs
behind_one Instance vs = row_one 0 Instance instance_form (λ r. instantiation r.0 r.1 r.2) instance_to instance_from vs
