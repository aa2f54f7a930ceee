-- A text of a term is the tokens before what is behind it, whatever that is.
use Rattle.std.proofs.Common.{ℕ, ◌≡◌, ◌<◌, ◌≤◌, refl, sym, ◌∙◌, ap, subst, List, [], ◌∷◌, ◌++◌, append_assoc, arith, suc, pred, length}
use Rattle.pts_tokens.specs.Tokens.{Spot}
use Rattle.pts_tokens.specs.declared.token.Token.TheVariants.{Lambda, At, Let, In, Colon, Assign, Dot, Arrow, Open, Close, Sort, Name as Word}
use Rattle.pts_grammar.specs.Syntax.{Syntax}
use Rattle.pts_grammar.specs.Refusals.{open_behind}
use Rattle.pts_grammar.specs.Grammar.{Reads, abstraction, product, definition, application, arrow, App, atoms, Args, no_more, one_more, Atom, a_sort, a_name, parentheses}

-- Those tokens.
pub record Framed (R : List Spot → List Spot → Type 0) (ts us : List Spot) : Type 0 where
  pub before : List Spot
  pub whole : ts ≡ before ++ us
  pub again : (vs : List Spot) → R (before ++ vs) vs
  pub level : (n : ℕ) → open_behind n before ≡ n

pub opened_through : (n : ℕ) (vs us : List Spot) → open_behind n (vs ++ us) ≡ open_behind (open_behind n vs) us
opened_through n [] us = refl
opened_through n ((p, Open) ∷ vs) us = opened_through (suc n) vs us
opened_through n ((p, Close) ∷ vs) us = opened_through (pred n) vs us
opened_through n ((p, t) ∷ vs) us = opened_through n vs us

-- One token between two parts.
through : (n : ℕ) (vs us : List Spot) (t : Spot) → open_behind n vs ≡ n → open_behind n (t ∷ us) ≡ n → open_behind n (vs ++ t ∷ us) ≡ n
through n vs us t e h = opened_through n vs (t ∷ us) ∙ (ap (λ m. open_behind m (t ∷ us)) e ∙ h)

moved_reads : {ts us vs : List Spot} {T : Syntax} → ts ≡ us → Reads ts T vs → Reads us T vs
moved_reads {vs = vs} {T = T} e d = subst (λ x. Reads x T vs) e d

moved_app : {ts us vs : List Spot} {T : Syntax} → ts ≡ us → App ts T vs → App us T vs
moved_app {vs = vs} {T = T} e d = subst (λ x. App x T vs) e d

moved_args : {ts us vs : List Spot} {f g : Syntax} → ts ≡ us → Args f ts g vs → Args f us g vs
moved_args {vs = vs} {f = f} {g = g} e d = subst (λ x. Args f x g vs) e d

moved_atom : {ts us vs : List Spot} {T : Syntax} → ts ≡ us → Atom ts T vs → Atom us T vs
moved_atom {vs = vs} {T = T} e d = subst (λ x. Atom x T vs) e d

mutual
  pub reads_framed : {ts us : List Spot} {T : Syntax} → Reads ts T us → Framed (λ x y. Reads x T y) ts us
  reads_framed (abstraction {p = p} {q = q} {r = r} {o = o} {x = x} e a b) =
      let f = reads_framed a in
      let g = reads_framed b in
      record {
        before = (p, Lambda) ∷ (q, Word x) ∷ (r, Colon) ∷ (f.before ++ (o, Dot) ∷ g.before);
        whole = ap (λ ts. (p, Lambda) ∷ (q, Word x) ∷ (r, Colon) ∷ ts) (f.whole ∙ (ap (λ us. f.before ++ (o, Dot) ∷ us) g.whole ∙ sym (append_assoc f.before ((o, Dot) ∷ g.before) _)));
        again = λ vs. moved_reads (ap (λ ts. (p, Lambda) ∷ (q, Word x) ∷ (r, Colon) ∷ ts) (sym (append_assoc f.before ((o, Dot) ∷ g.before) vs))) (abstraction e (f.again ((o, Dot) ∷ (g.before ++ vs))) (g.again vs));
        level = λ n. through n f.before g.before (o, Dot) (f.level n) (g.level n);
      }
  reads_framed (product {p = p} {q = q} {r = r} {o = o} {x = x} e a b) =
      let f = reads_framed a in
      let g = reads_framed b in
      record {
        before = (p, At) ∷ (q, Word x) ∷ (r, Colon) ∷ (f.before ++ (o, Dot) ∷ g.before);
        whole = ap (λ ts. (p, At) ∷ (q, Word x) ∷ (r, Colon) ∷ ts) (f.whole ∙ (ap (λ us. f.before ++ (o, Dot) ∷ us) g.whole ∙ sym (append_assoc f.before ((o, Dot) ∷ g.before) _)));
        again = λ vs. moved_reads (ap (λ ts. (p, At) ∷ (q, Word x) ∷ (r, Colon) ∷ ts) (sym (append_assoc f.before ((o, Dot) ∷ g.before) vs))) (product e (f.again ((o, Dot) ∷ (g.before ++ vs))) (g.again vs));
        level = λ n. through n f.before g.before (o, Dot) (f.level n) (g.level n);
      }
  reads_framed (definition {p = p} {q = q} {r = r} {o = o} {n = n} {x = x} e d a b) =
      let f = reads_framed d in
      let g = reads_framed a in
      let h = reads_framed b in
      record {
        before = (p, Let) ∷ (q, Word x) ∷ (r, Assign) ∷ (f.before ++ (o, Colon) ∷ (g.before ++ (n, In) ∷ h.before));
        whole = ap (λ ts. (p, Let) ∷ (q, Word x) ∷ (r, Assign) ∷ ts) (f.whole ∙ (ap (λ us. f.before ++ (o, Colon) ∷ us) (g.whole ∙ (ap (λ vs. g.before ++ (n, In) ∷ vs) h.whole ∙ sym (append_assoc g.before ((n, In) ∷ h.before) _))) ∙ sym (append_assoc f.before ((o, Colon) ∷ (g.before ++ (n, In) ∷ h.before)) _)));
        again = λ vs. moved_reads (ap (λ ts. (p, Let) ∷ (q, Word x) ∷ (r, Assign) ∷ ts) (ap (λ us. f.before ++ (o, Colon) ∷ us) (sym (append_assoc g.before ((n, In) ∷ h.before) vs)) ∙ sym (append_assoc f.before ((o, Colon) ∷ (g.before ++ (n, In) ∷ h.before)) vs))) (definition e (f.again ((o, Colon) ∷ (g.before ++ (n, In) ∷ (h.before ++ vs)))) (g.again ((n, In) ∷ (h.before ++ vs))) (h.again vs));
        level = λ m. through m f.before (g.before ++ (n, In) ∷ h.before) (o, Colon) (f.level m) (through m g.before h.before (n, In) (g.level m) (h.level m));
      }
  reads_framed (application a) =
      let f = app_framed a in
      record { before = f.before; whole = f.whole; again = λ vs. application (f.again vs); level = f.level }
  reads_framed (arrow {o = o} a b) =
      let f = app_framed a in
      let g = reads_framed b in
      record {
        before = f.before ++ (o, Arrow) ∷ g.before;
        whole = f.whole ∙ (ap (λ us. f.before ++ (o, Arrow) ∷ us) g.whole ∙ sym (append_assoc f.before ((o, Arrow) ∷ g.before) _));
        again = λ vs. moved_reads (sym (append_assoc f.before ((o, Arrow) ∷ g.before) vs)) (arrow (f.again ((o, Arrow) ∷ (g.before ++ vs))) (g.again vs));
        level = λ n. through n f.before g.before (o, Arrow) (f.level n) (g.level n);
      }

  pub app_framed : {ts us : List Spot} {f : Syntax} → App ts f us → Framed (λ x y. App x f y) ts us
  app_framed (atoms a b) =
      let f = atom_framed a in
      let g = args_framed b in
      record {
        before = f.before ++ g.before;
        whole = f.whole ∙ (ap (λ us. f.before ++ us) g.whole ∙ sym (append_assoc f.before g.before _));
        again = λ vs. moved_app (sym (append_assoc f.before g.before vs)) (atoms (f.again (g.before ++ vs)) (g.again vs));
        level = λ n. opened_through n f.before g.before ∙ (ap (λ m. open_behind m g.before) (f.level n) ∙ g.level n);
      }

  pub args_framed : {us vs : List Spot} {f g : Syntax} → Args f us g vs → Framed (λ x y. Args f x g y) us vs
  args_framed no_more = record { before = []; whole = refl; again = λ vs. no_more; level = λ n. refl }
  args_framed (one_more a b) =
      let f = atom_framed a in
      let g = args_framed b in
      record {
        before = f.before ++ g.before;
        whole = f.whole ∙ (ap (λ us. f.before ++ us) g.whole ∙ sym (append_assoc f.before g.before _));
        again = λ vs. moved_args (sym (append_assoc f.before g.before vs)) (one_more (f.again (g.before ++ vs)) (g.again vs));
        level = λ n. opened_through n f.before g.before ∙ (ap (λ m. open_behind m g.before) (f.level n) ∙ g.level n);
      }

  pub atom_framed : {ts us : List Spot} {a : Syntax} → Atom ts a us → Framed (λ x y. Atom x a y) ts us
  atom_framed (a_sort {p = p} {s = s}) = record { before = (p, Sort s) ∷ []; whole = refl; again = λ vs. a_sort; level = λ n. refl }
  atom_framed (a_name {p = p} {x = x}) = record { before = (p, Word x) ∷ []; whole = refl; again = λ vs. a_name; level = λ n. refl }
  atom_framed (parentheses {p = p} {o = o} a) =
      let f = reads_framed a in
      record {
        before = (p, Open) ∷ (f.before ++ (o, Close) ∷ []);
        whole = ap (λ ts. (p, Open) ∷ ts) (f.whole ∙ sym (append_assoc f.before ((o, Close) ∷ []) _));
        again = λ vs. moved_atom (ap (λ ts. (p, Open) ∷ ts) (sym (append_assoc f.before ((o, Close) ∷ []) vs))) (parentheses (f.again ((o, Close) ∷ vs)));
        level = λ n. opened_through (suc n) f.before ((o, Close) ∷ []) ∙ ap (λ m. pred m) (f.level (suc n));
      }

-- Fewer tokens are behind a term.
mutual
  pub reads_shorter : {ts us : List Spot} {T : Syntax} → Reads ts T us → length us < length ts
  reads_shorter (abstraction e a b) = let m = reads_shorter a in let n = reads_shorter b in omega arith
  reads_shorter (product e a b) = let m = reads_shorter a in let n = reads_shorter b in omega arith
  reads_shorter (definition e d a b) = let l = reads_shorter d in let m = reads_shorter a in let n = reads_shorter b in omega arith
  reads_shorter (application a) = app_shorter a
  reads_shorter (arrow a b) = let m = app_shorter a in let n = reads_shorter b in omega arith

  app_shorter : {ts us : List Spot} {f : Syntax} → App ts f us → length us < length ts
  app_shorter (atoms a b) = let m = atom_shorter a in let n = args_shorter b in omega arith

  args_shorter : {us vs : List Spot} {f g : Syntax} → Args f us g vs → length vs ≤ length us
  args_shorter no_more = omega arith
  args_shorter (one_more a b) = let m = atom_shorter a in let n = args_shorter b in omega arith

  atom_shorter : {ts us : List Spot} {a : Syntax} → Atom ts a us → length us < length ts
  atom_shorter a_sort = omega arith
  atom_shorter a_name = omega arith
  atom_shorter (parentheses a) = let m = reads_shorter a in omega arith
