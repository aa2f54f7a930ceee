-- What the readers of single tokens answer.
use Rattle.std.proofs.Common.{◌≡◌, ◌≢◌, refl, sym, ◌∙◌, ap, subst, ℕ, List, [], ◌∷◌, ◌++◌, Bool, true, false, cond, ◌||◌, ◌==◌, Some, None, length, take, drop, nat_lt, nat_eq, arith, eqb-true}
use Rattle.std.specs.Prelude.{chars, codes, IsUtf8}
use Rattle.std.specs.Str as str
use Rattle.std.specs.Cmp.Lexicographic.{pointwise}
use lib.Utf8.{encode, encodes, scalars}
use Rattle.std.proofs.lemmas.Bool.{le-ltb, ltb-false}
use Rattle.pts_names.specs.Name.{same_name, is_keyword, is_sort_spelling, name_fault, width}
use Rattle.pts_names.specs.Name as names
use Rattle.pts_names.specs.declared.fault.NameFault.{NameFault}
use Rattle.pts_names.specs.declared.fault.NameFault.TheVariants.{Empty, BadStart, BadPart, TooLong, Memory}
use Rattle.pts_names.proofs.Keywords.{same_characters, let_characters, in_characters, let_bytes, in_bytes}
use Rattle.pts_names.proofs.Sound.{name_is_sound as sound_name}
use Rattle.pts_tokens.specs.declared.token.Token.TheVariants.{Let, In, Name, Sort}
use Rattle.pts_tokens.specs.declared.fault.TokenFault.TheVariants.{LongName, BadChar}
use Rattle.pts_tokens.specs.Tokens.{word, begins_identifier, name, token, long_name, no_token, named, worded, sort_text, sort_at}
use Rattle.pts_tokens.specs.Calls.{sized, fault_at}
use Rattle.pts_tokens.proofs.Words.{cut_word, word_cut}
use Rattle.pts_tokens.proofs.Named.{name_is_sound, word_is_sound}

-- The word of a text, as the bytes that are cut off.
word_is : (text front kw : List ℕ) (n : ℕ) → IsUtf8 text → n ≡ width (word (chars text)) → front ≡ take n text → encodes kw ≡ kw → chars kw ≡ kw → same_name (word (chars text)) kw ≡ pointwise nat_eq front kw
word_is text front kw n utf8 size e bytes characters =
    let off = cut_word text utf8 in
    let here : front ≡ take (width (word (chars text))) text = e ∙ ap (λ m. take m text) size in
    ap (λ w. same_name w kw) (sym (ap chars here ∙ off.front_chars))
    ∙ same_characters front kw (subst IsUtf8 (sym here) off.front_utf8) bytes characters

pub is_let : (text front : List ℕ) (n : ℕ) → IsUtf8 text → n ≡ width (word (chars text)) → front ≡ take n text → same_name (word (chars text)) (codes "let") ≡ pointwise nat_eq front (codes "let")
is_let text front n utf8 size e = word_is text front (codes "let") n utf8 size e let_bytes let_characters

pub is_in : (text front : List ℕ) (n : ℕ) → IsUtf8 text → n ≡ width (word (chars text)) → front ≡ take n text → same_name (word (chars text)) (codes "in") ≡ pointwise nat_eq front (codes "in")
is_in text front n utf8 size e = word_is text front (codes "in") n utf8 size e in_bytes in_characters

pub let_word : (cs : List ℕ) (n : ℕ) → same_name (word cs) (codes "let") ≡ true → n ≡ width (word cs) → sized (worded cs) ≡ Some (Let, n)
let_word cs n e size = ap (λ b. sized (cond b (token Let (word cs)) (cond (same_name (word cs) (codes "in")) (token In (word cs)) (named (name cs))))) e ∙ ap (λ m. Some (Let, m)) (sym size)

pub in_word : (cs : List ℕ) (n : ℕ) → same_name (word cs) (codes "let") ≡ false → same_name (word cs) (codes "in") ≡ true → n ≡ width (word cs) → sized (worded cs) ≡ Some (In, n)
in_word cs n e f size =
    ap (λ b. sized (cond b (token Let (word cs)) (cond (same_name (word cs) (codes "in")) (token In (word cs)) (named (name cs))))) e
    ∙ (ap (λ b. sized (cond b (token In (word cs)) (named (name cs)))) f
    ∙ ap (λ m. Some (In, m)) (sym size))

pub name_word : (cs : List ℕ) → same_name (word cs) (codes "let") ≡ false → same_name (word cs) (codes "in") ≡ false → worded cs ≡ named (name cs)
name_word cs e f =
    ap (λ b. cond b (token Let (word cs)) (cond (same_name (word cs) (codes "in")) (token In (word cs)) (named (name cs)))) e
    ∙ ap (λ b. cond b (token In (word cs)) (named (name cs))) f

pub no_keyword : (cs : List ℕ) → word cs ≢ [] → same_name (word cs) (codes "let") ≡ false → same_name (word cs) (codes "in") ≡ false → begins_identifier cs ≡ true
no_keyword cs some e f = word_is_sound cs some (ap (λ b. b || same_name (word cs) (codes "in")) e ∙ f)

-- A name that was read, and one that was not.
pub named_ok : (cs x : List ℕ) (n : ℕ) → x ≡ encodes (name cs) → n ≡ width (name cs) → name_fault x ≡ None → sized (named (name cs)) ≡ Some (Name x, n)
named_ok cs x n e size good =
    let fits = (sound_name (encodes (name cs)) (ap name_fault (sym e) ∙ good)).fits in
    ap (λ b. sized (cond b long_name (token (Name (encodes (name cs))) (name cs)))) (le-ltb 128 (length (encodes (name cs))) fits)
    ∙ (ap (λ m. Some (Name (encodes (name cs)), m)) (sym size) ∙ ap (λ y. Some (Name y, n)) (sym e))

pub named_long : (cs : List ℕ) (e : NameFault) (place : ℕ) → scalars cs ≡ true → begins_identifier cs ≡ true → name_fault (encodes (name cs)) ≡ Some e → fault_at place (named (name cs)) ≡ Some (LongName place)
named_long cs e place s begins bad = by (nat_lt 128 (length (encodes (name cs)))) refl
  where
    by : (b : Bool) → nat_lt 128 (length (encodes (name cs))) ≡ b → fault_at place (cond b long_name (token (Name (encodes (name cs))) (name cs))) ≡ Some (LongName place)
    by true f = refl
    by false f =
        let none : Some e ≡ None = sym bad ∙ name_is_sound cs s begins (omega (arith, ltb-false 128 (length (encodes (name cs))) f)) in
        absurd (cc none)

pub unless : (e : NameFault) (P : Type 0) → e ≢ Memory → names.UnlessMemory e P → P
unless Empty P other p = p
unless (BadStart place) P other p = p
unless (BadPart place) P other p = p
unless (TooLong n) P other p = p
unless Memory P other p = absurd (other refl)

-- Sorts.
pub sort_cut : (c : ℕ) (cs : List ℕ) → (v : List ℕ) × (c ∷ cs ≡ sort_text c cs ++ v)
sort_cut c cs = by (c == 39) refl
  where
    by : (b : Bool) → (c == 39) ≡ b → (v : List ℕ) × (c ∷ cs ≡ cond b (39 ∷ word cs) (c ∷ []) ++ v)
    by true e = (drop (length (word cs)) cs, ap (λ d. d ∷ cs) (eqb-true c 39 e) ∙ ap (λ l. 39 ∷ l) (sym (word_cut cs)))
    by false e = (cs, refl)

pub sort_ok : (c : ℕ) (cs x : List ℕ) (n : ℕ) → x ≡ encodes (sort_text c cs) → n ≡ width (sort_text c cs) → is_sort_spelling x ≡ true → sized (sort_at c cs) ≡ Some (Sort x, n)
sort_ok c cs x n e size good =
    ap (λ b. sized (cond b (token (Sort (encodes (sort_text c cs))) (sort_text c cs)) no_token)) (ap is_sort_spelling (sym e) ∙ good)
    ∙ (ap (λ m. Some (Sort (encodes (sort_text c cs)), m)) (sym size) ∙ ap (λ y. Some (Sort y, n)) (sym e))

pub sort_bad : (c : ℕ) (cs x : List ℕ) (place : ℕ) → x ≡ encodes (sort_text c cs) → is_sort_spelling x ≡ false → fault_at place (sort_at c cs) ≡ Some (BadChar place)
sort_bad c cs x place e bad = ap (λ b. fault_at place (cond b (token (Sort (encodes (sort_text c cs))) (sort_text c cs)) no_token)) (ap is_sort_spelling (sym e) ∙ bad)
