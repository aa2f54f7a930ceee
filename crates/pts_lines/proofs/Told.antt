-- The answers of the reader of a form, in terms of its texts.
use Rattle.std.proofs.Common.{ℕ, zero, suc, ◌≡◌, ◌⊎◌, ◌≤◌, ◌<◌, inl, inr, refl, sym, ◌∙◌, ap, subst, arith, List, [], ◌∷◌, ◌++◌, map, length, Bool, true, false, Option, Some, None, Result, Ok, Err, append_assoc}
use Rattle.std.proofs.lemmas.List.{append-nil}
use Rattle.pts_tokens.specs.declared.token.Token.{Token}
use Rattle.pts_tokens.specs.declared.token.Token.TheVariants.{Lambda, At, Let, Assign, Semicolon, Open, Close, Sort, Name as Word}
use Rattle.pts_tokens.specs.Tokens.{Spot}
use Rattle.pts_grammar.specs.declared.kind.Kind.{Kind}
use Rattle.pts_grammar.specs.declared.kind.Kind.TheVariants as kind
use Rattle.pts_grammar.specs.Syntax.{Syntax}
use Rattle.pts_grammar.specs.Grammar.{Reads}
use Rattle.pts_grammar.specs.Machine.{syntax, State, begin, go, stay, fail, ParseOutcome, read, expected, too_deep, step, run}
use Rattle.pts_grammar.specs.Seen.{Subtree, within}
use Rattle.pts_grammar.specs.Open.{more}
use Rattle.pts_grammar.specs.Refusals.{open_behind}
use Rattle.pts_grammar.specs.Refusals as grammar
use Rattle.pts_grammar.proofs.Complete.{Ends, continues, follow}
use Rattle.pts_grammar.proofs.Sound.{always, machine_sound}
use Rattle.pts_grammar.proofs.Refusals.{viable_here}
use Rattle.pts_grammar.proofs.TooDeep.{none_too_many}
use Rattle.pts_parser.specs.declared.fault.ReadFault.{ReadFault}
use Rattle.pts_parser.specs.declared.fault.ReadFault.TheVariants.{BadChar, LongName, Expected, TooDeep, UnknownName, UnknownSort, Memory}
use Rattle.pts_parser.specs.Resolution.{and_then}
use Rattle.pts_lines.specs.Items.{Item, plain, label, placed, number, colon, assign, semicolon, sign, Value, wanted, said, first_item, or_expected}
use Rattle.pts_lines.specs.Lines.{Terms, last_term, more_terms}
use Rattle.pts_lines.specs.Refusals.{CanGoOn, CanFollow, Wants, the_end, an_assign, a_semicolon, Refused, at_token, at_end, too_many, NoneTooMany, FirstTooMany, first_too_many}
use Rattle.pts_lines.specs.Forms.{Sign, by_assign, by_semicolon, item_of, LineForm, ends, item, term, term_then, terms, is_semicolon, begins_term, of_outcome, first_term, behind_term, with_others, some_of, ended, shallow, run_form}
use Rattle.pts_lines.proofs.Frames.{reads_framed, reads_shorter, opened_through}
use Rattle.pts_lines.proofs.Machine.{read_freely, machine_refuses}
use Rattle.pts_lines.proofs.Rests.{rest_ends}
use Rattle.pts_lines.proofs.Languages.{none_of_nothing, none_of_one, none_behind, wants_to, lift_refused, lift_none, lift_first}
use Rattle.pts_lines.proofs.Many.{none_inside, first_inside, none_before}
use Rattle.pts_lines.proofs.Fits.{sign_of, Fits, Texts, finish, cannot, empty, item_wants}

-- One token list has one term before tokens that don't go on with it.
pub record Same (T U : Syntax) (us vs : List Spot) : Type 0 where
  pub terms : T ≡ U
  pub rests : us ≡ vs

pub one_term : (ts us vs : List Spot) (T U : Syntax) → Reads ts T us → Ends us → Reads ts U vs → Ends vs → Same T U us vs
one_term ts us vs T U d e h g =
    let m : read T us ≡ read U vs = sym (read_freely 0 ts us T d e) ∙ read_freely 0 ts vs U h g in
    record { terms = cc m; rests = cc m }

-- A term that was read, with the tokens that it has.
pub record First (ts : List Spot) (T : Syntax) (us : List Spot) : Type 0 where
  pub before : List Spot
  pub whole : ts ≡ before ++ us
  pub reads : Reads ts T us
  pub again : (vs : List Spot) → Reads (before ++ vs) T vs
  pub alone : Reads before T []
  pub level : (n : ℕ) → open_behind n before ≡ n
  pub stops : Ends us

pub first_of : (bound : ℕ → Bool) (size : ℕ) (ts us : List Spot) (T : Syntax) → run syntax bound size (begin []) ts ≡ read T us → First ts T us
first_of bound size ts us T h =
    let d = machine_sound bound size ts T us h in
    let f = reads_framed d in
    record { before = f.before; whole = f.whole; reads = d; again = f.again; alone = subst (λ x. Reads x T []) (append-nil f.before) (f.again []); level = f.level; stops = rest_ends bound size ts us T h }

-- No parenthesis of its tokens is one too many.
few_in : (size : ℕ) (ts : List Spot) (T : Syntax) (us : List Spot) → run syntax more size (begin []) ts ≡ read T us → grammar.NoneTooMany 2000 ts
few_in size ts T us h = none_too_many 2000 size ts (read T us) h (λ q e. cc e)

-- What an answer says of a language, given what a text of it gives.
abbrev pub Told : {A : Type 0} → (List Spot → Type 0) → ℕ → (List Spot → Option A → Type 0) → List Spot → Result A ReadFault → Type 0
Told Is size gives ts (Ok a) = gives ts (Some a) × NoneTooMany Is 2000 ts
Told Is size gives ts (Err (Expected p k)) = Refused Is size ts k p × NoneTooMany Is 2000 ts
Told Is size gives ts (Err (TooDeep p)) = FirstTooMany Is 2000 ts p ⊎ ((p ≡ size) × gives ts None × NoneTooMany Is 2000 ts)
Told Is size gives ts (Err (BadChar p)) = ⊥
Told Is size gives ts (Err (LongName p)) = ⊥
Told Is size gives ts (Err (UnknownName p x)) = ⊥
Told Is size gives ts (Err (UnknownSort p x)) = ⊥
Told Is size gives ts (Err Memory) = ⊥

-- Behind tokens with which each such text begins.
pub lift : {A : Type 0} (Is Js : List Spot → Type 0) (size : ℕ) (gives takes : List Spot → Option A → Type 0) (pre ts : List Spot) → ((us : List Spot) → Js us → Is (pre ++ us)) → ((us : List Spot) → Is (pre ++ us) → Js us) → ((o : Option A) → takes ts o → gives (pre ++ ts) o) → open_behind 0 pre ≡ 0 → NoneTooMany Is 2000 pre → (r : Result A ReadFault) → Told Js size takes ts r → Told Is size gives (pre ++ ts) r
lift Is Js size gives takes pre ts to from give level none (Ok a) d = (give (Some a) d.0, lift_none Is Js pre to from 2000 level none ts d.1)
lift Is Js size gives takes pre ts to from give level none (Err (Expected p k)) d = (lift_refused Is Js pre to from size ts k p d.0, lift_none Is Js pre to from 2000 level none ts d.1)
lift Is Js size gives takes pre ts to from give level none (Err (TooDeep p)) (inl d) = inl (lift_first Is Js pre to from 2000 level none ts p d)
lift Is Js size gives takes pre ts to from give level none (Err (TooDeep p)) (inr d) = inr (d.0, give None d.1, lift_none Is Js pre to from 2000 level none ts d.2)
lift Is Js size gives takes pre ts to from give level none (Err (BadChar p)) d = d
lift Is Js size gives takes pre ts to from give level none (Err (LongName p)) d = d
lift Is Js size gives takes pre ts to from give level none (Err (UnknownName p x)) d = d
lift Is Js size gives takes pre ts to from give level none (Err (UnknownSort p x)) d = d
lift Is Js size gives takes pre ts to from give level none (Err Memory) d = d

-- No parenthesis is such a token.
pub item_level : (i : Item) (s : Spot) (v : Value i) → said i s ≡ Some v → (n : ℕ) → open_behind n (s ∷ []) ≡ n
item_level plain (p, Open) v e n = absurd (cc e)
item_level plain (p, Close) v e n = absurd (cc e)
item_level plain (p, t) v e n = refl
item_level label (p, Open) v e n = absurd (cc e)
item_level label (p, Close) v e n = absurd (cc e)
item_level label (p, t) v e n = refl
item_level placed (p, Open) v e n = absurd (cc e)
item_level placed (p, Close) v e n = absurd (cc e)
item_level placed (p, t) v e n = refl
item_level number (p, Open) v e n = absurd (cc e)
item_level number (p, Close) v e n = absurd (cc e)
item_level number (p, t) v e n = refl
item_level colon (p, Open) v e n = absurd (cc e)
item_level colon (p, Close) v e n = absurd (cc e)
item_level colon (p, t) v e n = refl
item_level assign (p, Open) v e n = absurd (cc e)
item_level assign (p, Close) v e n = absurd (cc e)
item_level assign (p, t) v e n = refl
item_level semicolon (p, Open) v e n = absurd (cc e)
item_level semicolon (p, Close) v e n = absurd (cc e)
item_level semicolon (p, t) v e n = refl
item_level sign (p, Open) v e n = absurd (cc e)
item_level sign (p, Close) v e n = absurd (cc e)
item_level sign (p, t) v e n = refl

-- Several terms.
abbrev pub Several : List Spot → Type 0
Several ts = (Ts : List Syntax) × Terms ts Ts

pub several_inside : (vs us : List Spot) (T : Syntax) → Reads (vs ++ us) T [] → CanGoOn Several vs
several_inside vs us T d = (us, (T ∷ [], last_term d))

pub several_begins : (ts : List Spot) → Several ts → (T : Syntax) × (rest : List Spot) × (run syntax always 0 (begin []) ts ≡ read T rest)
unfolding Ends continues
several_begins ts (Ts, last_term {T = T} d) = (T, [], read_freely 0 ts [] T d tt)
several_begins ts (Ts, more_terms {us = us} {T = T} {p = p} d r) = (T, (p, Semicolon) ∷ us, read_freely 0 ts ((p, Semicolon) ∷ us) T d refl)

semicolon_is : (t : Token) → is_semicolon t ≡ true → t ≡ Semicolon
semicolon_is Semicolon e = refl
semicolon_is t e = absurd (cc e)

-- What several terms give: never `None`.
abbrev pub Parts : List Spot → Option (List Subtree) → Type 0
Parts ts (Some Ps) = (Ts : List Syntax) × Terms ts Ts × (Ps ≡ map within Ts)
Parts ts None = ⊥

module _ (size : ℕ) (ts : List Spot) (T : Syntax) (s : Spot) (us : List Spot) (f : First ts T (s ∷ us)) where
  pub whole_then : ts ≡ (f.before ++ s ∷ []) ++ us
  whole_then = f.whole ∙ sym (append_assoc f.before (s ∷ []) us)

  pub reads_then : (vs : List Spot) → Reads ((f.before ++ s ∷ []) ++ vs) T (s ∷ vs)
  reads_then vs = subst (λ x. Reads x T (s ∷ vs)) (sym (append_assoc f.before (s ∷ []) vs)) (f.again (s ∷ vs))

  pub one_then : (vs ws : List Spot) (U : Syntax) → Reads ((f.before ++ s ∷ []) ++ vs) U ws → Ends ws → Same T U (s ∷ vs) ws
  unfolding Ends
  one_then vs ws U d e = one_term ((f.before ++ s ∷ []) ++ vs) (s ∷ vs) ws T U (reads_then vs) f.stops d e

  pub none_then : (Is : List Spot → Type 0) → grammar.NoneTooMany 2000 ts → NoneTooMany Is 2000 (f.before ++ s ∷ [])
  none_then Is few = none_before Is ts f.before us s T few f.whole f.alone f.stops

  -- Nor where that token can't stand.
  pub none_stray : (Is : List Spot → Type 0) → grammar.NoneTooMany 2000 ts → ¬ CanGoOn Is (f.before ++ s ∷ []) → NoneTooMany Is 2000 ts
  none_stray Is few stop = subst (NoneTooMany Is 2000) (sym whole_then) (none_behind Is 2000 (f.before ++ s ∷ []) us (none_then Is few) stop)

  pub level_then : ((n : ℕ) → open_behind n (s ∷ []) ≡ n) → open_behind 0 (f.before ++ s ∷ []) ≡ 0
  level_then h = opened_through 0 f.before (s ∷ []) ∙ (h (open_behind 0 f.before) ∙ f.level 0)

  -- Behind a semicolon.
  pub others_from : (vs : List Spot) → Several ((f.before ++ s ∷ []) ++ vs) → Several vs
  unfolding Ends continues
  others_from vs (Ts, last_term {T = U} d) = let m = one_then vs [] U d tt in let n : s ∷ vs ≡ [] = m.rests in absurd (cc n)
  others_from vs (Ts, more_terms {us = ws} {T = U} {Ts = Us} {p = p} d r) = let m = one_then vs ((p, Semicolon) ∷ ws) U d refl in let n : s ∷ vs ≡ (p, Semicolon) ∷ ws = m.rests in let q : vs ≡ ws = cc n in (Us, subst (λ x. Terms x Us) (sym q) r)

  pub others_to : is_semicolon s.1 ≡ true → (vs : List Spot) (Us : List Syntax) → Terms vs Us → Terms ((f.before ++ s ∷ []) ++ vs) (T ∷ Us)
  others_to e vs Us r =
      let t : s ≡ (s.0, Semicolon) = ap (λ x. (s.0, x)) (semicolon_is s.1 e) in
      more_terms (subst (λ x. Reads ((f.before ++ s ∷ []) ++ vs) T (x ∷ vs)) t (reads_then vs)) r

  semicolon_level : is_semicolon s.1 ≡ true → (n : ℕ) → open_behind n (s ∷ []) ≡ n
  semicolon_level e n = ap (λ x. open_behind n ((s.0, x) ∷ [])) (semicolon_is s.1 e)

  -- Another token behind a term of several.
  not_several : is_semicolon s.1 ≡ false → ¬ CanGoOn Several (f.before ++ s ∷ [])
  unfolding Ends continues
  not_several e (vs, (Ts, last_term {T = U} d)) = let m = one_then vs [] U d tt in let n : s ∷ vs ≡ [] = m.rests in absurd (cc n)
  not_several e (vs, (Ts, more_terms {us = ws} {T = U} {p = p} d r)) =
      let m = one_then vs ((p, Semicolon) ∷ ws) U d refl in
      let n : s ∷ vs ≡ (p, Semicolon) ∷ ws = m.rests in
      let q : ◌≡◌ {A = Spot} s (p, Semicolon) = cc n in
      let b : true ≡ false = sym (ap (λ x. is_semicolon x.1) q) ∙ e in
      absurd (cc b)

  stray : is_semicolon s.1 ≡ false → Refused Several size ts kind.End s.0
  stray e = at_token f.before us s.0 s.1 f.whole ([], (T ∷ [], last_term (f.again []))) (not_several e) (the_end (T ∷ [], last_term f.alone))

several_sign : (size n : ℕ) (ts : List Spot) (T : Syntax) (s : Spot) (us : List Spot) → First ts T (s ∷ us) → grammar.NoneTooMany 2000 ts → Told Several size Parts us (some_of within more size n us) → (b : Bool) → is_semicolon s.1 ≡ b → Told Several size Parts ts (and_then {A = Subtree × Option (List Spot)} (elim b [ true ↦ Ok (within T, Some us) | false ↦ Err (Expected s.0 kind.End) ]) (λ r. with_others within more size r.0 r.1 (some_of within more size n)))
several_sign size n ts T s us f few ih false e = (stray size ts T s us f e, none_stray size ts T s us f Several few (not_several size ts T s us f e))
several_sign size n ts T s us f few ih true e = subst (λ x. Told Several size Parts x (and_then (some_of within more size n us) (λ Ts. Ok (within T ∷ Ts)))) (sym (whole_then size ts T s us f)) (by (some_of within more size n us) ih)
  where
    pre : List Spot
    pre = f.before ++ s ∷ []

    give : (o : Option (List Subtree)) → Parts us o → Parts (pre ++ us) (elim o [ Some Ps ↦ Some (within T ∷ Ps) | None ↦ None ])
    give (Some Ps) d = (T ∷ d.0, others_to size ts T s us f e us d.0 d.1, ap (λ x. within T ∷ x) d.2)
    give None d = d

    to : (vs : List Spot) → Several vs → Several (pre ++ vs)
    to vs d = (T ∷ d.0, others_to size ts T s us f e vs d.0 d.1)

    level : open_behind 0 pre ≡ 0
    level = level_then size ts T s us f (semicolon_level size ts T s us f e)

    none : NoneTooMany Several 2000 us → NoneTooMany Several 2000 (pre ++ us)
    none = lift_none Several Several pre to (others_from size ts T s us f) 2000 level (none_then size ts T s us f Several few) us

    by : (r : Result (List Subtree) ReadFault) → Told Several size Parts us r → Told Several size Parts (pre ++ us) (and_then r (λ Ts. Ok (within T ∷ Ts)))
    by (Ok Ps) d = (give (Some Ps) d.0, none d.1)
    by (Err (Expected p k)) d = (lift_refused Several Several pre to (others_from size ts T s us f) size us k p d.0, none d.1)
    by (Err (TooDeep p)) (inl d) = inl (lift_first Several Several pre to (others_from size ts T s us f) 2000 level (none_then size ts T s us f Several few) us p d)
    by (Err (TooDeep p)) (inr d) = absurd d.1
    by (Err (BadChar p)) d = d
    by (Err (LongName p)) d = d
    by (Err (UnknownName p x)) d = d
    by (Err (UnknownSort p x)) d = d
    by (Err Memory) d = d

whole_ends : (T U : Syntax) (x : Spot) (ws : List Spot) → ¬ (read T [] ≡ read U (x ∷ ws))
whole_ends T U x ws e = let m : [] ≡ x ∷ ws = cc e in cc m

several_step : (size n : ℕ) (ts : List Spot) → length ts ≤ suc n → ((us : List Spot) → length us ≤ n → Told Several size Parts us (some_of within more size n us)) → (o : ParseOutcome Syntax) → run syntax more size (begin []) ts ≡ o → Told Several size Parts ts (and_then (and_then (of_outcome within more size o) (λ r. behind_term within more size r.0 r.1)) (λ r. with_others within more size r.0 r.1 (some_of within more size n)))
several_step size n ts h ih (expected p k) e = (machine_refuses Several several_inside several_begins size ts k more p e, none_inside Several several_begins size ts (expected p k) e (λ q g. cc g) (λ T x ws g. cc g))
several_step size n ts h ih (too_deep p) e = inl (first_inside Several several_inside size ts p e)
several_step size n ts h ih (read T []) e = ((T ∷ [], last_term (machine_sound more size ts T [] e), refl), none_inside Several several_begins size ts (read T []) e (λ q g. cc g) (whole_ends T))
several_step size n ts h ih (read T (s ∷ us)) e =
    let f = first_of more size ts (s ∷ us) T e in
    let short : length (s ∷ us) < length ts = reads_shorter f.reads in
    several_sign size n ts T s us f (few_in size ts T (s ∷ us) e) (ih us (omega (arith, short, h))) (is_semicolon s.1) refl

pub several_told : (size n : ℕ) (ts : List Spot) → length ts ≤ n → Told Several size Parts ts (some_of within more size n ts)
unfolding first_term
several_told size zero [] h = (machine_refuses Several several_inside several_begins size [] kind.Term more size refl, none_of_nothing Several 2000)
several_told size zero (t ∷ ts) h = absurd (omega arith)
several_told size (suc n) ts h = several_step size n ts h (λ us g. several_told size n us g) (run syntax more size (begin []) ts) refl

-- Tokens that begin no term, and those that do.
begins_or_not : (p : ℕ) (t : Token) → begins_term t ≡ false → step syntax always (begin []) (p, t) ≡ fail kind.Term
begins_or_not p Lambda e = absurd (cc e)
begins_or_not p At e = absurd (cc e)
begins_or_not p Let e = absurd (cc e)
begins_or_not p Open e = absurd (cc e)
begins_or_not p (Sort s) e = absurd (cc e)
begins_or_not p (Word x) e = absurd (cc e)
begins_or_not p t e = refl

begins_as : (p : ℕ) (t : Token) → begins_term t ≡ true → (Q : State Syntax) × (step syntax always (begin []) (p, t) ≡ go Q)
begins_as p Lambda e = (_, refl)
begins_as p At e = (_, refl)
begins_as p Let e = (_, refl)
begins_as p Open e = (_, refl)
begins_as p (Sort s) e = (_, refl)
begins_as p (Word x) e = (_, refl)
begins_as p t e = absurd (cc e)

pub begun : (p : ℕ) (t : Token) → begins_term t ≡ true → CanGoOn Several ((p, t) ∷ [])
begun p t e =
    let q = begins_as p t e in
    let v = viable_here ((p, t) ∷ []) q.0 (ap (λ m. elim m [ go P ↦ Some P | stay T ↦ None | fail k ↦ None | Rattle.pts_grammar.specs.Machine.deep ↦ None ]) q.1) in
    several_inside ((p, t) ∷ []) v.0 v.1 v.2

not_begun : (p : ℕ) (t : Token) → begins_term t ≡ false → ¬ CanGoOn Several ((p, t) ∷ [])
unfolding follow
not_begun p t e (us, d) =
    let b = several_begins ((p, t) ∷ us) d in
    let m : expected p kind.Term ≡ read b.0 b.1 = ap (λ m. follow always 0 m (p, t) us) (sym (begins_or_not p t e)) ∙ b.2 in
    absurd (cc m)

-- Any number of terms: no tokens, or those of several.
module _ {R : Type 0} (size : ℕ) (F : List Subtree → Option R) where
  pub any_to : (us : List Spot) → Several us → Texts (terms F) us
  any_to us (Ts, d) = (F (map within Ts), inr (Ts, d, refl))

  pub any_from : (t : Spot) (us : List Spot) → Texts (terms F) (t ∷ us) → Several (t ∷ us)
  any_from t us (o, inl d) = let m = d.0 in absurd (cc m)
  any_from t us (o, inr d) = (d.0, d.1)

  any_refused : (s : Spot) (us : List Spot) (k : Kind) (p : ℕ) → begins_term s.1 ≡ true → Refused Several size (s ∷ us) k p → Refused (Texts (terms F)) size (s ∷ us) k p
  any_refused s us k p b (at_token [] xs _ t e v n w) =
      let m : ◌≡◌ {A = Spot} s (p, t) = cc e in
      absurd (n (begun p t (ap (λ x. begins_term x.1) (sym m) ∙ b)))
  any_refused s us k p b (at_token (x ∷ vs) xs _ t e v n w) =
      at_token (x ∷ vs) xs p t e (v.0, any_to _ v.1) (λ d. n (d.0, any_from x _ d.1)) (wants_to (Texts (terms F)) Several (x ∷ vs) (x ∷ vs) (λ ys d. any_to _ d) (λ ys d. any_from x _ d) w)
  any_refused s us k _ b (at_end v n w) =
      at_end (v.0, any_to _ v.1) (λ d. n (any_from s us d)) (wants_to (Texts (terms F)) Several (s ∷ us) (s ∷ us) (λ ys d. any_to _ d) (λ ys d. any_from s _ d) w)

  any_few : (ts : List Spot) → NoneTooMany Several 2000 ts → NoneTooMany (Texts (terms F)) 2000 ts
  any_few ts few p (too_many [] xs e v n) = omega (arith, n)
  any_few ts few p (too_many (x ∷ vs) xs e v n) = few p (too_many (x ∷ vs) xs e (v.0, any_from x _ v.1) n)

  gives_any : (ts : List Spot) (Us : List Syntax) → Terms ts Us → (Ps : List Subtree) → Ps ≡ map within Us → NoneTooMany (Texts (terms F)) 2000 ts → (o : Option R) → F Ps ≡ o → Told (Texts (terms F)) size (Fits (terms F)) ts (shallow size o)
  gives_any ts Us d Ps e few (Some r) h = (inr (Us, d, sym h ∙ ap F e), few)
  gives_any ts Us d Ps e few None h = inr (refl, inr (Us, d, sym h ∙ ap F e), few)

  any_some : (s : Spot) (us : List Spot) → begins_term s.1 ≡ true → (r : Result (List Subtree) ReadFault) → Told Several size Parts (s ∷ us) r → Told (Texts (terms F)) size (Fits (terms F)) (s ∷ us) (and_then r (λ Ts. shallow size (F Ts)))
  any_some s us b (Ok Ps) ((Us, d, e), few) = gives_any (s ∷ us) Us d Ps e (any_few (s ∷ us) few) (F Ps) refl
  any_some s us b (Err (Expected p k)) d = (any_refused s us k p b d.0, any_few (s ∷ us) d.1)
  any_some s us b (Err (TooDeep p)) (inl (first_too_many vs xs e v n few)) = inl (first_too_many vs xs e (v.0, any_to _ v.1) n (any_few vs few))
  any_some s us b (Err (TooDeep p)) (inr d) = absurd d.1
  any_some s us b (Err (BadChar p)) d = d
  any_some s us b (Err (LongName p)) d = d
  any_some s us b (Err (UnknownName p x)) d = d
  any_some s us b (Err (UnknownSort p x)) d = d
  any_some s us b (Err Memory) d = d

  any_none : (o : Option R) → F [] ≡ o → Told (Texts (terms F)) size (Fits (terms F)) [] (shallow size o)
  any_none (Some r) h = (inl (refl, sym h), none_of_nothing (Texts (terms F)) 2000)
  any_none None h = inr (refl, inl (refl, sym h), none_of_nothing (Texts (terms F)) 2000)

  pub none_begins : (s : Spot) → begins_term s.1 ≡ false → ¬ CanGoOn (Texts (terms F)) (s ∷ [])
  none_begins s e d = not_begun s.0 s.1 e (d.0, any_from s d.0 d.1)

  any_begins : (s : Spot) (us : List Spot) (b : Bool) → begins_term s.1 ≡ b → Told (Texts (terms F)) size (Fits (terms F)) (s ∷ us) (and_then (elim b [ true ↦ some_of within more size (suc (length us)) (s ∷ us) | false ↦ Err (Expected s.0 kind.End) ]) (λ Ts. shallow size (F Ts)))
  any_begins s us true e = any_some s us e (some_of within more size (suc (length us)) (s ∷ us)) (several_told size (suc (length us)) (s ∷ us) (omega arith))
  any_begins s us false e = (at_token [] us s.0 s.1 refl ([], (F [], inl (refl, refl))) (none_begins s e) (the_end (F [], inl (refl, refl))), none_behind (Texts (terms F)) 2000 (s ∷ []) us (none_of_one (Texts (terms F)) 2000 s (omega arith)) (none_begins s e))

  pub any_told : (ts : List Spot) → Told (Texts (terms F)) size (Fits (terms F)) ts (run_form within more size (terms F) ts)
  any_told [] = any_none (F []) refl
  any_told (s ∷ us) = any_begins s us (begins_term s.1) refl

-- The signs behind a term.
sign_stops : (a : Sign) → continues (sign_of a) ≡ false
unfolding continues
sign_stops by_assign = refl
sign_stops by_semicolon = refl

pub stops_at : (a : Sign) (x : Spot) (xs : List Spot) → x.1 ≡ sign_of a → Ends (x ∷ xs)
unfolding Ends
stops_at a x xs e = ap (λ t. continues t) e ∙ sign_stops a

sign_said : (a : Sign) (s : Spot) → s.1 ≡ sign_of a → (v : Value (item_of a)) × (said (item_of a) s ≡ Some v)
sign_said by_assign s e = (tt, ap (λ t. said assign (s.0, t)) e)
sign_said by_semicolon s e = (tt, ap (λ t. said semicolon (s.0, t)) e)

said_is : (a : Sign) (s : Spot) (v : Value (item_of a)) → said (item_of a) s ≡ Some v → s.1 ≡ sign_of a
said_is by_assign (p, Assign) v e = refl
said_is by_assign (p, t) v e = absurd (cc e)
said_is by_semicolon (p, Semicolon) v e = refl
said_is by_semicolon (p, t) v e = absurd (cc e)

not_said : (a : Sign) (s : Spot) → said (item_of a) s ≡ None → ¬ (s.1 ≡ sign_of a)
not_said a s e h = let q = sign_said a s h in let m : None ≡ Some q.0 = sym e ∙ q.1 in absurd (cc m)

module _ {R : Type 0} (size : ℕ) where
  end_told : (o : Option R) (p : Option R) → o ≡ p → Told (Texts (ends o)) size (Fits (ends o)) [] (shallow size p)
  end_told o (Some r) e = ((refl, sym e), none_of_nothing (Texts (ends o)) 2000)
  end_told o None e = inr (refl, (refl, sym e), none_of_nothing (Texts (ends o)) 2000)

  pub no_more : (o : Option R) (s : Spot) → ¬ CanGoOn (Texts (ends o)) (s ∷ [])
  no_more o s (vs, (r, d)) = let m = d.0 in absurd (cc m)

  ended_told : (o : Option R) (s : Spot) (us : List Spot) → Refused (Texts (ends o)) size (s ∷ us) kind.End s.0 × NoneTooMany (Texts (ends o)) 2000 (s ∷ us)
  ended_told o s us = (at_token [] us s.0 s.1 refl ([], (o, (refl, refl))) (no_more o s) (the_end (o, (refl, refl))), none_behind (Texts (ends o)) 2000 (s ∷ []) us (none_of_one (Texts (ends o)) 2000 s (omega arith)) (no_more o s))

  module _ (i : Item) (F : Value i → LineForm R) where
    goes : CanGoOn (Texts (item i F)) []
    goes = finish (item i F)

    -- Behind the token.
    pub item_to : (s : Spot) (v : Value i) → said i s ≡ Some v → (xs : List Spot) → Texts (F v) xs → Texts (item i F) (s ∷ xs)
    item_to s v e xs (o, d) = (o, (v, e, d))

    pub item_from : (s : Spot) (v : Value i) → said i s ≡ Some v → (xs : List Spot) → Texts (item i F) (s ∷ xs) → Texts (F v) xs
    item_from s v e xs (o, (w, h, d)) =
        let m : Some v ≡ Some w = sym e ∙ h in
        let q : v ≡ w = cc m in
        (o, subst (λ x. Fits (F x) xs o) (sym q) d)

    item_step : (s : Spot) (us : List Spot) → ((v : Value i) → Told (Texts (F v)) size (Fits (F v)) us (run_form within more size (F v) us)) → (o : Option (Value i)) → said i s ≡ o → Told (Texts (item i F)) size (Fits (item i F)) (s ∷ us) (and_then (or_expected s.0 (wanted i) us o) (λ r. run_form within more size (F r.0) r.1))
    item_step s us ih None e = (at_token [] us s.0 s.1 refl goes (cannot i F s e) (item_wants i F), none_behind (Texts (item i F)) 2000 (s ∷ []) us (none_of_one (Texts (item i F)) 2000 s (omega arith)) (cannot i F s e))
    item_step s us ih (Some v) e = lift (Texts (item i F)) (Texts (F v)) size (Fits (item i F)) (Fits (F v)) (s ∷ []) us (item_to s v e) (item_from s v e) (λ o d. (v, e, d)) (item_level i s v e 0) (none_of_one (Texts (item i F)) 2000 s (omega arith)) (run_form within more size (F v) us) (ih v)

  module _ (F : Subtree → Option R) where
    pub term_inside : (vs us : List Spot) (T : Syntax) → Reads (vs ++ us) T [] → CanGoOn (Texts (term F)) vs
    term_inside vs us T d = (us, (F (within T), (T, d, refl)))

    pub term_begins : (ts : List Spot) → Texts (term F) ts → (T : Syntax) × (rest : List Spot) × (run syntax always 0 (begin []) ts ≡ read T rest)
    unfolding Ends
    term_begins ts (o, (T, d, h)) = (T, [], read_freely 0 ts [] T d tt)

    term_gives : (ts : List Spot) (T : Syntax) → Reads ts T [] → NoneTooMany (Texts (term F)) 2000 ts → (o : Option R) → F (within T) ≡ o → Told (Texts (term F)) size (Fits (term F)) ts (shallow size o)
    term_gives ts T d few (Some r) h = ((T, d, sym h), few)
    term_gives ts T d few None h = inr (refl, (T, d, sym h), few)

    stray_not : (ts : List Spot) (T : Syntax) (s : Spot) (us : List Spot) (f : First ts T (s ∷ us)) → ¬ CanGoOn (Texts (term F)) (f.before ++ s ∷ [])
    unfolding Ends
    stray_not ts T s us f (vs, (o, (U, d, h))) = let m = one_then size ts T s us f vs [] U d tt in let n : s ∷ vs ≡ [] = m.rests in absurd (cc n)

    term_stray : (ts : List Spot) (T : Syntax) (s : Spot) (us : List Spot) → First ts T (s ∷ us) → grammar.NoneTooMany 2000 ts → Refused (Texts (term F)) size ts kind.End s.0 × NoneTooMany (Texts (term F)) 2000 ts
    term_stray ts T s us f few = (at_token f.before us s.0 s.1 f.whole (term_inside f.before [] T (f.again [])) (stray_not ts T s us f) (the_end (F (within T), (T, f.alone, refl))), none_stray size ts T s us f (Texts (term F)) few (stray_not ts T s us f))

    term_step : (ts : List Spot) (o : ParseOutcome Syntax) → run syntax more size (begin []) ts ≡ o → Told (Texts (term F)) size (Fits (term F)) ts (and_then (of_outcome within more size o) (λ r. and_then (ended size r.1) (λ u. shallow size (F r.0))))
    term_step ts (expected p k) e = (machine_refuses (Texts (term F)) term_inside term_begins size ts k more p e, none_inside (Texts (term F)) term_begins size ts (expected p k) e (λ q g. cc g) (λ T x ws g. cc g))
    term_step ts (too_deep p) e = inl (first_inside (Texts (term F)) term_inside size ts p e)
    term_step ts (read T []) e = term_gives ts T (machine_sound more size ts T [] e) (none_inside (Texts (term F)) term_begins size ts (read T []) e (λ q g. cc g) (whole_ends T)) (F (within T)) refl
    term_step ts (read T (s ∷ us)) e = term_stray ts T s us (first_of more size ts (s ∷ us) T e) (few_in size ts T (s ∷ us) e)

  module _ (a : Sign) (F : Subtree → LineForm R) where
    pub closed : (vs : List Spot) (T : Syntax) → Reads vs T [] → CanFollow (Texts (term_then a F)) vs (sign_of a)
    closed vs T d =
        let f = finish (F (within T)) in
        let g = reads_framed d in
        let same : vs ≡ g.before = g.whole ∙ append-nil g.before in
        let r : Reads ((vs ++ (0, sign_of a) ∷ []) ++ f.0) T ((0, sign_of a) ∷ f.0) = subst (λ x. Reads x T ((0, sign_of a) ∷ f.0)) (ap (λ x. x ++ (0, sign_of a) ∷ f.0) (sym same) ∙ sym (append_assoc vs ((0, sign_of a) ∷ []) f.0)) (g.again ((0, sign_of a) ∷ f.0)) in
        (f.0, (f.1.0, (T, (0, sign_of a), f.0, r, refl, f.1.1)))

    shorter_goes : (vs : List Spot) (t : Spot) → CanGoOn (Texts (term_then a F)) (vs ++ t ∷ []) → CanGoOn (Texts (term_then a F)) vs
    shorter_goes vs t (us, d) = (t ∷ us, subst (Texts (term_then a F)) (append_assoc vs (t ∷ []) us) d)

    pub then_inside : (vs us : List Spot) (T : Syntax) → Reads (vs ++ us) T [] → CanGoOn (Texts (term_then a F)) vs
    then_inside vs us T d =
        let c = closed (vs ++ us) T d in
        (us ++ (0, sign_of a) ∷ c.0, subst (Texts (term_then a F)) (append_assoc (vs ++ us) ((0, sign_of a) ∷ []) c.0 ∙ append_assoc vs us ((0, sign_of a) ∷ c.0)) c.1)

    pub then_begins : (ts : List Spot) → Texts (term_then a F) ts → (T : Syntax) × (rest : List Spot) × (run syntax always 0 (begin []) ts ≡ read T rest)
    then_begins ts (o, (T, s, us, d, e, h)) = (T, s ∷ us, read_freely 0 ts (s ∷ us) T d (stops_at a s us e))

    pub not_ended : (vs : List Spot) (T : Syntax) → Reads vs T [] → ¬ Texts (term_then a F) vs
    unfolding Ends
    not_ended vs T d (o, (U, s, us, h, e, g)) = let m = one_term vs [] (s ∷ us) T U d tt h (stops_at a s us e) in let n : [] ≡ s ∷ us = m.rests in absurd (cc n)

  then_wants : (a : Sign) (F : Subtree → LineForm R) (vs : List Spot) (T : Syntax) → Reads vs T [] → Wants (Texts (term_then a F)) vs (wanted (item_of a))
  then_wants by_assign F vs T d = an_assign (not_ended by_assign F vs T d) (closed by_assign F vs T d)
  then_wants by_semicolon F vs T d = a_semicolon (not_ended by_semicolon F vs T d) (closed by_semicolon F vs T d)

  module _ (a : Sign) (F : Subtree → LineForm R) (ts : List Spot) (T : Syntax) (s : Spot) (us : List Spot) (f : First ts T (s ∷ us)) where
    -- Behind the sign.
    pub then_to : s.1 ≡ sign_of a → (xs : List Spot) → Texts (F (within T)) xs → Texts (term_then a F) ((f.before ++ s ∷ []) ++ xs)
    then_to e xs (o, d) = (o, (T, s, xs, reads_then size ts T s us f xs, e, d))

    pub then_from : (xs : List Spot) → Texts (term_then a F) ((f.before ++ s ∷ []) ++ xs) → Texts (F (within T)) xs
    then_from xs (o, (U, x, ys, d, h, g)) =
        let m = one_then size ts T s us f xs (x ∷ ys) U d (stops_at a x ys h) in
        let n : s ∷ xs ≡ x ∷ ys = m.rests in
        let q : xs ≡ ys = cc n in
        (o, subst (λ y. Fits (F (within T)) y o) (sym q) (subst (λ V. Fits (F (within V)) ys o) (sym m.terms) g))

    then_not : said (item_of a) s ≡ None → ¬ CanGoOn (Texts (term_then a F)) (f.before ++ s ∷ [])
    then_not e (vs, (o, (U, x, xs, d, h, g))) =
        let m = one_then size ts T s us f vs (x ∷ xs) U d (stops_at a x xs h) in
        let n : s ∷ vs ≡ x ∷ xs = m.rests in
        let q : ◌≡◌ {A = Spot} s x = cc n in
        absurd (not_said a s e (ap (λ y. y.1) q ∙ h))

    then_sign : grammar.NoneTooMany 2000 ts → ((P : Subtree) (us : List Spot) → Told (Texts (F P)) size (Fits (F P)) us (run_form within more size (F P) us)) → (o : Option (Value (item_of a))) → said (item_of a) s ≡ o → Told (Texts (term_then a F)) size (Fits (term_then a F)) ts (and_then (or_expected s.0 (wanted (item_of a)) us o) (λ q. run_form within more size (F (within T)) q.1))
    then_sign few ih None e = (at_token f.before us s.0 s.1 f.whole (then_inside a F f.before [] T (f.again [])) (then_not e) (then_wants a F f.before T f.alone), none_stray size ts T s us f (Texts (term_then a F)) few (then_not e))
    then_sign few ih (Some v) e =
        let sign = said_is a s v e in
        subst (λ x. Told (Texts (term_then a F)) size (Fits (term_then a F)) x (run_form within more size (F (within T)) us)) (sym (whole_then size ts T s us f)) (lift (Texts (term_then a F)) (Texts (F (within T))) size (Fits (term_then a F)) (Fits (F (within T))) (f.before ++ s ∷ []) us (then_to sign) then_from (λ o d. (T, s, us, reads_then size ts T s us f us, sign, d)) (level_then size ts T s us f (item_level (item_of a) s v e)) (none_then size ts T s us f (Texts (term_then a F)) few) (run_form within more size (F (within T)) us) (ih (within T) us))

  module _ (a : Sign) (F : Subtree → LineForm R) where
    then_step : (ts : List Spot) → ((P : Subtree) (us : List Spot) → Told (Texts (F P)) size (Fits (F P)) us (run_form within more size (F P) us)) → (o : ParseOutcome Syntax) → run syntax more size (begin []) ts ≡ o → Told (Texts (term_then a F)) size (Fits (term_then a F)) ts (and_then (of_outcome within more size o) (λ r. and_then (first_item (item_of a) size r.1) (λ q. run_form within more size (F r.0) q.1)))
    then_step ts ih (expected p k) e = (machine_refuses (Texts (term_then a F)) (then_inside a F) (then_begins a F) size ts k more p e, none_inside (Texts (term_then a F)) (then_begins a F) size ts (expected p k) e (λ q g. cc g) (λ T x ws g. cc g))
    then_step ts ih (too_deep p) e = inl (first_inside (Texts (term_then a F)) (then_inside a F) size ts p e)
    then_step ts ih (read T []) e =
        let d = machine_sound more size ts T [] e in
        (at_end (then_inside a F ts [] T (subst (λ x. Reads x T []) (sym (append-nil ts)) d)) (not_ended a F ts T d) (then_wants a F ts T d), none_inside (Texts (term_then a F)) (then_begins a F) size ts (read T []) e (λ q g. cc g) (whole_ends T))
    then_step ts ih (read T (s ∷ us)) e = then_sign a F ts T s us (first_of more size ts (s ∷ us) T e) (few_in size ts T (s ∷ us) e) ih (said (item_of a) s) refl

-- The reader's answers are those of the texts.
pub told : {R : Type 0} (size : ℕ) (F : LineForm R) (ts : List Spot) → Told (Texts F) size (Fits F) ts (run_form within more size F ts)
unfolding first_term
told size (ends o) [] = end_told size o o refl
told size (ends o) (s ∷ us) = ended_told size o s us
told size (item i F) [] = (at_end (goes size i F) (empty i F) (item_wants i F), none_of_nothing (Texts (item i F)) 2000)
told size (item i F) (s ∷ us) = item_step size i F s us (λ v. told size (F v) us) (said i s) refl
told size (term F) ts = term_step size F ts (run syntax more size (begin []) ts) refl
told size (term_then a F) ts = then_step size a F ts (λ P us. told size (F P) us) (run syntax more size (begin []) ts) refl
told size (terms F) ts = any_told size F ts
