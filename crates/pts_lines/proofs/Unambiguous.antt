-- Tokens are at most one line.
use Rattle.std.proofs.Common.{ℕ, ◌≡◌, refl, sym, ◌∙◌, ap, subst, arith, false, List, [], ◌∷◌, Option, Some, None}
use Rattle.pts_names.specs.Name.{Name}
use Rattle.pts_tokens.specs.declared.token.Token.{Token}
use Rattle.pts_tokens.specs.declared.token.Token.TheVariants.{Assign, Semicolon}
use Rattle.pts_tokens.specs.Tokens.{Spot}
use Rattle.pts_grammar.specs.Syntax.{Syntax}
use Rattle.pts_grammar.specs.Grammar.{Reads}
use Rattle.pts_grammar.proofs.Complete.{Ends, continues}
use Rattle.pts_grammar.proofs.Sound.{one_syntax}
use Rattle.pts_lines.specs.declared.command.Command.{Command}
use Rattle.pts_lines.specs.Lines.{Line, of_term, of_type, budget, equality, definition, instantiation, Terms, last_term, more_terms, Follows, nothing, a_plain, a_name, a_term, a_type, two_names, a_number, two_terms, untyped, with_type, no_terms, some_terms, LineReads, a_line}
use Rattle.pts_lines.proofs.Frames.{reads_shorter}
use Rattle.pts_lines.proofs.Told.{one_term}

nothing_read : {T : Syntax} {us : List Spot} → Reads [] T us → ⊥
nothing_read d = let n = reads_shorter d in omega arith

no_list : {Ts : List Syntax} → Terms [] Ts → ⊥
no_list (last_term d) = nothing_read d
no_list (more_terms d r) = nothing_read d

one_list : {ts : List Spot} {Ts Us : List Syntax} → Terms ts Ts → Terms ts Us → Ts ≡ Us
unfolding Ends continues
one_list {ts} (last_term {T = T} d) (last_term {T = U} g) = ap (λ V. V ∷ []) (one_syntax ts T U d g)
one_list {ts} (last_term {T = T} d) (more_terms {us = us} {T = U} {p = p} g r) =
    let m = one_term ts [] ((p, Semicolon) ∷ us) T U d tt g refl in
    let n : [] ≡ (p, Semicolon) ∷ us = m.rests in
    absurd (cc n)
one_list {ts} (more_terms {us = us} {T = T} {p = p} d r) (last_term {T = U} g) =
    let m = one_term ts ((p, Semicolon) ∷ us) [] T U d refl g tt in
    let n : (p, Semicolon) ∷ us ≡ [] = m.rests in
    absurd (cc n)
one_list {ts} (more_terms {us = us} {T = T} {Ts = Ts} {p = p} d r) (more_terms {us = vs} {T = U} {Ts = Us} {p = q} g h) =
    let m = one_term ts ((p, Semicolon) ∷ us) ((q, Semicolon) ∷ vs) T U d refl g refl in
    let n : (p, Semicolon) ∷ us ≡ (q, Semicolon) ∷ vs = m.rests in
    let e : us ≡ vs = cc n in
    ap (λ V. V ∷ Ts) m.terms ∙ ap (λ Vs. U ∷ Vs) (one_list r (subst (λ x. Terms x Us) (sym e) h))

-- Two terms with a sign between them.
one_pair : (t : Token) → continues t ≡ false → (ts us vs : List Spot) (p q : ℕ) (T U V W : Syntax) → Reads ts T ((p, t) ∷ us) → Reads us U [] → Reads ts V ((q, t) ∷ vs) → Reads vs W [] → (T ≡ V) × (U ≡ W)
unfolding Ends
one_pair t s ts us vs p q T U V W d g h k =
    let m = one_term ts ((p, t) ∷ us) ((q, t) ∷ vs) T V d s h s in
    let n : (p, t) ∷ us ≡ (q, t) ∷ vs = m.rests in
    let e : us ≡ vs = cc n in
    (m.terms, one_syntax us U W g (subst (λ x. Reads x W []) (sym e) k))

one_behind : {c : Command} {ts : List Spot} {L M : Line} → Follows c ts L → Follows c ts M → L ≡ M
unfolding continues
one_behind nothing nothing = refl
one_behind (a_plain e) (a_plain f) = refl
one_behind a_name a_name = refl
one_behind (a_term {c = c} {ts = ts} {T = T} d) (a_term {T = U} g) = ap (of_term c) (one_syntax ts T U d g)
one_behind (a_type {c = c} {x = x} {ts = ts} {T = T} e d) (a_type {T = U} f g) = ap (of_type c x) (one_syntax ts T U d g)
one_behind (two_names e f) (two_names g h) = refl
one_behind (a_number {n = n} {ds = ds} e) (a_number {n = m} f) = let q : Some n ≡ Some m = sym e ∙ f in let r : n ≡ m = cc q in ap budget r
one_behind (two_terms {p = p} {ts = ts} {us = us} {T = T} {U = U} d g) (two_terms {p = q} {us = vs} {T = V} {U = W} h k) = let m = one_pair Semicolon refl ts us vs p q T U V W d g h k in ap (λ X. equality X U) m.0 ∙ ap (equality V) m.1
one_behind (untyped {x = x} {ts = ts} {T = T} e d) (untyped {T = U} f g) = ap (definition x None) (one_syntax ts T U d g)
one_behind (with_type {r = p} {x = x} {ts = ts} {us = us} {A = T} {T = U} e d g) (with_type {r = q} {us = vs} {A = V} {T = W} f h k) = let m = one_pair Assign refl ts us vs p q T U V W d g h k in ap (λ X. definition x (Some X) U) m.0 ∙ ap (definition x (Some V)) m.1
one_behind (no_terms e f) (no_terms g h) = refl
one_behind (no_terms e f) (some_terms g h r) = absurd (no_list r)
one_behind (some_terms e f r) (no_terms g h) = absurd (no_list r)
one_behind (some_terms {m = m} {l = l} e f r) (some_terms g h s) = ap (instantiation m l) (one_list r s)

pub one_line : (words : Name → Option Command) (ts : List Spot) (L M : Line) → LineReads words ts L → LineReads words ts M → L ≡ M
one_line words _ L M (a_line {c = c} {ts = ts} e d) (a_line {c = b} f g) =
    let q : Some c ≡ Some b = sym e ∙ f in
    let r : c ≡ b = cc q in
    one_behind d (subst (λ x. Follows x ts M) (sym r) g)
