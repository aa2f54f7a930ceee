-- Words and names at the beginning of a text.
use Rattle.std.proofs.Common.{◌≡◌, refl, sym, ◌∙◌, ap, subst, ℕ, zero, suc, ◌+◌, ◌≤◌, ◌<◌, List, [], ◌∷◌, ◌++◌, Bool, true, false, eqb-true, cond, ◌&&◌, ◌==◌, Some, None, length, take, drop, append_assoc, arith, lit<}
use Rattle.std.specs.Prelude.{chars, IsUtf8, take_while, ◌≢◌, is_none}
use lib.Utf8.{encode, encodes}
use Rattle.std.proofs.lemmas.Str.{chars_past_char, encode_ascii, encodes-chars, IsUtf8-past_char}
use Rattle.std.proofs.Math.Seq.{take-append_seam}
use Rattle.std.proofs.lemmas.List.Sums.{take_while-cons}
use Rattle.pts_names.specs.Name.{starts_identifier, continues_identifier, identifier_fault, is_identifier, width}
use Rattle.pts_names.specs.Dotted.{dotted}
use Rattle.pts_names.proofs.Walk.{starts_continues}
use Rattle.pts_tokens.specs.Tokens.{word, begins_identifier, further, name}
use Rattle.pts_tokens.specs.Calls.{part_size}
use Rattle.pts_tokens.proofs.Cuts.{width_append, Cut, cut}

-- A word is a run, if it begins right.
pub word_runs : (c : ℕ) (text new : List ℕ) → IsUtf8 text → text ≡ encode c ++ new → starts_identifier c ≡ true → take_while continues_identifier (chars text) ≡ word (chars text)
word_runs c text new utf8 step starts =
    let e = chars_past_char text new c utf8 step in
    ap (take_while continues_identifier) e
    ∙ (take_while-cons continues_identifier c (chars new)
    ∙ (ap (λ b. cond b (c ∷ take_while continues_identifier (chars new)) []) (starts_continues c starts)
    ∙ (ap (λ b. cond b (c ∷ take_while continues_identifier (chars new)) []) (sym starts)
    ∙ ap word (sym e))))

pub no_word : (c : ℕ) (text new : List ℕ) → IsUtf8 text → text ≡ encode c ++ new → starts_identifier c ≡ false → word (chars text) ≡ []
no_word c text new utf8 step starts =
    ap word (chars_past_char text new c utf8 step) ∙ ap (λ b. cond b (c ∷ take_while continues_identifier (chars new)) []) starts

-- The characters behind the word.
pub run_cut : (p : ℕ → Bool) (cs : List ℕ) → take_while p cs ++ drop (length (take_while p cs)) cs ≡ cs
run_cut p [] = refl
run_cut p (c ∷ cs) = by (p c) (take_while p (c ∷ cs)) (take_while-cons p c cs) (run_cut p cs)
  where
    by : (b : Bool) (w : List ℕ) → w ≡ cond b (c ∷ take_while p cs) [] → take_while p cs ++ drop (length (take_while p cs)) cs ≡ cs → w ++ drop (length w) (c ∷ cs) ≡ c ∷ cs
    by true w e rest = subst (λ v. v ++ drop (length v) (c ∷ cs) ≡ c ∷ cs) (sym e) (ap (λ l. c ∷ l) rest)
    by false w e rest = subst (λ v. v ++ drop (length v) (c ∷ cs) ≡ c ∷ cs) (sym e) refl

pub word_cut : (cs : List ℕ) → word cs ++ drop (length (word cs)) cs ≡ cs
word_cut [] = refl
word_cut (c ∷ cs) = by (starts_identifier c)
  where
    by : (b : Bool) → let w = cond b (c ∷ take_while continues_identifier cs) [] in w ++ drop (length w) (c ∷ cs) ≡ c ∷ cs
    by true = ap (λ l. c ∷ l) (run_cut continues_identifier cs)
    by false = refl

pub word_fits : (cs : List ℕ) → length (word cs) ≤ length cs
word_fits cs = fits (word cs) (drop (length (word cs)) cs) cs (word_cut cs)
  where
    fits : (w v cs : List ℕ) → w ++ v ≡ cs → length w ≤ length cs
    fits [] v cs e = omega arith
    fits (c ∷ w) v cs e = subst (λ l. suc (length w) ≤ length l) e (let h = fits w v (w ++ v) refl in omega arith)

-- The further parts are those behind the part.
pub further_skips : (n : ℕ) (cs : List ℕ) → further n cs ≡ further 0 (drop n cs)
further_skips zero cs = refl
further_skips (suc n) [] = refl
further_skips (suc n) (c ∷ cs) = further_skips n cs

-- The parts with a dot before each.
abbrev pub tail : List (List ℕ) → List ℕ
tail [] = []
tail (p ∷ ps) = 46 ∷ (p ++ tail ps)

pub dotted_tail : (w : List ℕ) (ps : List (List ℕ)) → dotted (w ∷ ps) ≡ w ++ tail ps
dotted_tail w [] = sym (append_nil w)
  where
    append_nil : (w : List ℕ) → w ++ [] ≡ w
    append_nil [] = refl
    append_nil (c ∷ w) = ap (λ l. c ∷ l) (append_nil w)
dotted_tail w (p ∷ ps) = ap (λ l. w ++ (46 ∷ l)) (dotted_tail p ps)

pub name_width : (cs : List ℕ) → width (name cs) ≡ width (word cs) + width (tail (further 0 (drop (length (word cs)) cs)))
name_width cs =
    ap width (dotted_tail (word cs) (further (length (word cs)) cs))
    ∙ (width_append (word cs) (tail (further (length (word cs)) cs))
    ∙ ap (λ ps. width (word cs) + width (tail ps)) (further_skips (length (word cs)) cs))

-- One further part, and none.
pub record Part (cs : List ℕ) (n : ℕ) : Type 0 where
  pub text : List ℕ
  pub behind : List ℕ
  pub cut : cs ≡ text ++ behind
  pub size : n ≡ width text
  pub some : 0 < n
  pub more : width (tail (further 0 cs)) ≡ n + width (tail (further 0 behind))

pub part_goes : (cs : List ℕ) (n : ℕ) → part_size cs ≡ Some n → Part cs n
part_goes [] n e = absurd (cc e)
part_goes (c ∷ cs) n e = by (c == 46) (begins_identifier cs) refl refl e
  where
    by : (a b : Bool) → (c == 46) ≡ a → begins_identifier cs ≡ b → cond (a && b) (Some (suc (width (word cs)))) None ≡ Some n → Part (c ∷ cs) n
    by true true f g e =
        let dot : c ≡ 46 = eqb-true c 46 f in
        let size : n ≡ suc (width (word cs)) = cc e in
        let behind = drop (length (word cs)) cs in
        let joins : further 0 (c ∷ cs) ≡ word cs ∷ further 0 behind =
        ap (λ b. cond (b && begins_identifier cs) (word cs ∷ further (length (word cs)) cs) []) f
        ∙ (ap (λ b. cond b (word cs ∷ further (length (word cs)) cs) []) g
        ∙ ap (λ ps. word cs ∷ ps) (further_skips (length (word cs)) cs)) in
        record {
          text = 46 ∷ word cs;
          behind = behind;
          cut = ap (λ d. d ∷ cs) dot ∙ ap (λ l. 46 ∷ l) (sym (word_cut cs));
          size = omega arith;
          some = omega arith;
          more = ap (λ ps. width (tail ps)) joins ∙ (let w = width_append (word cs) (tail (further 0 behind)) in omega arith);
        }
    by true false f g e = absurd (cc e)
    by false b f g e = absurd (cc e)

pub part_ends : (cs : List ℕ) → part_size cs ≡ None → tail (further 0 cs) ≡ []
part_ends [] e = refl
part_ends (c ∷ cs) e = by ((c == 46) && begins_identifier cs) e
  where
    by : (b : Bool) → cond b (Some (suc (width (word cs)))) None ≡ None → tail (cond b (word cs ∷ further (length (word cs)) cs) []) ≡ []
    by true e = absurd (cc e)
    by false e = refl

-- The text begins with a dot, or not.
pub dot_first : (text behind : List ℕ) → IsUtf8 text → text ≡ 46 ∷ behind → (chars text ≡ 46 ∷ chars behind) × IsUtf8 behind
dot_first text behind utf8 e =
    let step : text ≡ encode 46 ++ behind = e ∙ ap (λ l. l ++ behind) (sym (encode_ascii 46 (lit< tt))) in
    (chars_past_char text behind 46 utf8 step, IsUtf8-past_char text behind 46 utf8 step)

pub no_dot_first : (text : List ℕ) → IsUtf8 text → ((rest : List ℕ) → text ≢ 46 ∷ rest) → part_size (chars text) ≡ None
no_dot_first text utf8 other = by (chars text) (encodes-chars text utf8)
  where
    with_dot : (c : ℕ) (cs : List ℕ) → encodes (c ∷ cs) ≡ text → (c == 46) ≡ true → text ≡ 46 ∷ encodes cs
    with_dot c cs e f = sym e ∙ ap (λ l. l ++ encodes cs) (ap encode (eqb-true c 46 f) ∙ encode_ascii 46 (lit< tt))

    on : (c : ℕ) (cs : List ℕ) (a : Bool) → (c == 46) ≡ a → encodes (c ∷ cs) ≡ text → cond (a && begins_identifier cs) (Some (suc (width (word cs)))) None ≡ None
    on c cs true f e = absurd (other (encodes cs) (with_dot c cs e f))
    on c cs false f e = refl

    by : (cs : List ℕ) → encodes cs ≡ text → part_size cs ≡ None
    by [] e = refl
    by (c ∷ cs) e = on c cs (c == 46) refl e

-- The size of a further part, by what stands behind the dot.
pub part_is : (text behind : List ℕ) → chars text ≡ 46 ∷ chars behind → begins_identifier (chars behind) ≡ true → part_size (chars text) ≡ Some (suc (width (word (chars behind))))
part_is text behind e f = ap part_size e ∙ ap (λ b. cond b (Some (suc (width (word (chars behind))))) None) f

pub part_is_not : (text behind : List ℕ) → chars text ≡ 46 ∷ chars behind → begins_identifier (chars behind) ≡ false → part_size (chars text) ≡ None
part_is_not text behind e f = ap part_size e ∙ ap (λ b. cond b (Some (suc (width (word (chars behind))))) None) f

-- The word at the beginning of a text, cut off.
pub cut_word : (text : List ℕ) → IsUtf8 text → Cut text (word (chars text)) (drop (length (word (chars text))) (chars text))
cut_word text utf8 = cut text (word (chars text)) (drop (length (word (chars text))) (chars text)) utf8 (sym (word_cut (chars text)))

-- Whether it is an identifier.
pub word_is_identifier : (text : List ℕ) (n : ℕ) → IsUtf8 text → n ≡ width (word (chars text)) → is_identifier (take n text) ≡ begins_identifier (chars text)
unfolding is_identifier
word_is_identifier text n utf8 e = ap (λ m. is_identifier (take m text)) e ∙ ap (λ cs. is_none (identifier_fault 0 cs)) (cut_word text utf8).front_chars

-- The name at the beginning, and what is behind it.
taken : (w v cs : List ℕ) → w ++ v ≡ cs → take (length w) cs ≡ w
taken w v cs e = ap (take (length w)) (sym e) ∙ take-append_seam w v

further_cut : (n : ℕ) (cs : List ℕ) → (v : List ℕ) × (take n cs ++ (tail (further n cs) ++ v) ≡ cs)
further_cut zero [] = ([], refl)
further_cut (suc n) [] = ([], refl)
further_cut (suc n) (c ∷ cs) = let (v, e) = further_cut n cs in (v, ap (λ l. c ∷ l) e)
further_cut zero (c ∷ cs) = by (c == 46) (begins_identifier cs) refl (further_cut (length (word cs)) cs)
  where
    by : (a b : Bool) → (c == 46) ≡ a → (v : List ℕ) × (take (length (word cs)) cs ++ (tail (further (length (word cs)) cs) ++ v) ≡ cs) → (v : List ℕ) × (tail (cond (a && b) (word cs ∷ further (length (word cs)) cs) []) ++ v ≡ c ∷ cs)
    by true true f (v, e) =
        let t = tail (further (length (word cs)) cs) in
        let all : word cs ++ (t ++ v) ≡ cs = ap (λ w. w ++ (t ++ v)) (sym (taken (word cs) (drop (length (word cs)) cs) cs (word_cut cs))) ∙ e in
        (v, ap (λ l. 46 ∷ l) (append_assoc (word cs) t v ∙ all) ∙ ap (λ d. d ∷ cs) (sym (eqb-true c 46 f)))
    by true false f rest = (c ∷ cs, refl)
    by false b f rest = (c ∷ cs, refl)

pub name_cut : (cs : List ℕ) → (v : List ℕ) × (name cs ++ v ≡ cs)
name_cut cs =
    let (v, e) = further_cut (length (word cs)) cs in
    let t = tail (further (length (word cs)) cs) in (
      v,
      ap (λ l. l ++ v) (dotted_tail (word cs) (further (length (word cs)) cs))
          ∙ (append_assoc (word cs) t v
          ∙ (ap (λ w. w ++ (t ++ v)) (sym (taken (word cs) (drop (length (word cs)) cs) cs (word_cut cs))) ∙ e)),
    )
