-- No parenthesis of a written text is one too many, where the syntax is not too deep.
use Rattle.std.proofs.Common.{ℕ, suc, pred, ◌+◌, ◌≤◌, ◌<◌, ◌≡◌, refl, sym, ◌∙◌, ap, subst, List, [], ◌∷◌, ◌++◌, Bool, true, false, cond, arith}
use Rattle.pts_names.specs.Name.{same_name, underscore}
use Rattle.pts_tokens.specs.declared.token.Token.{Token}
use Rattle.pts_tokens.specs.declared.token.Token.TheVariants.{Lambda, At, Let, In, Colon, Assign, Dot, Arrow, Open, Close, Semicolon, Sort, Name as Word, Number}
use Rattle.pts_tokens.specs.Tokens.{Spot}
use Rattle.pts_grammar.specs.Syntax.{Syntax, sort, name, app, lam, pi, let_in, depth_of}
use Rattle.pts_grammar.specs.Refusals.{open_behind, too_many, NoneTooMany}
use Rattle.pts_printed.specs.Text.{is_binding, is_compound, between_parens, tokens_before}
use Rattle.pts_printed.proofs.Written.{Holds, also, unplaced}

-- Where n parentheses are open, each further one is opened where fewer than k are.
abbrev pub Shallow : ℕ → ℕ → List Token → Type 0
Shallow k n [] = Unit {0}
Shallow k n (Open ∷ ws) = (n < k) × Shallow k (suc n) ws
Shallow k n (Close ∷ ws) = Shallow k (pred n) ws
Shallow k n (t ∷ ws) = Shallow k n ws

opened_before : (k n : ℕ) (vs us : List Spot) (p : ℕ) (ws : List Token) → Holds (vs ++ (p, Open) ∷ us) ws → Shallow k n ws → open_behind n vs < k
opened_before k n [] us p _ (also h) s = s.0
opened_before k n ((q, Open) ∷ vs) us p _ (also h) s = opened_before k (suc n) vs us p _ h s.1
opened_before k n ((q, Close) ∷ vs) us p _ (also h) s = opened_before k (pred n) vs us p _ h s
opened_before k n ((q, Lambda) ∷ vs) us p _ (also h) s = opened_before k n vs us p _ h s
opened_before k n ((q, At) ∷ vs) us p _ (also h) s = opened_before k n vs us p _ h s
opened_before k n ((q, Let) ∷ vs) us p _ (also h) s = opened_before k n vs us p _ h s
opened_before k n ((q, In) ∷ vs) us p _ (also h) s = opened_before k n vs us p _ h s
opened_before k n ((q, Colon) ∷ vs) us p _ (also h) s = opened_before k n vs us p _ h s
opened_before k n ((q, Assign) ∷ vs) us p _ (also h) s = opened_before k n vs us p _ h s
opened_before k n ((q, Dot) ∷ vs) us p _ (also h) s = opened_before k n vs us p _ h s
opened_before k n ((q, Arrow) ∷ vs) us p _ (also h) s = opened_before k n vs us p _ h s
opened_before k n ((q, Semicolon) ∷ vs) us p _ (also h) s = opened_before k n vs us p _ h s
opened_before k n ((q, Sort x) ∷ vs) us p _ (also h) s = opened_before k n vs us p _ h s
opened_before k n ((q, Word x) ∷ vs) us p _ (also h) s = opened_before k n vs us p _ h s
opened_before k n ((q, Number x) ∷ vs) us p _ (also h) s = opened_before k n vs us p _ h s

-- Depth that is left above n open parentheses is enough for what is written.
abbrev IsShallow : ℕ → (List Token → List Token) → ℕ → Type 0
IsShallow k tokens depth = (n : ℕ) (ws : List Token) → depth + n ≤ k → Shallow k n ws → Shallow k n (tokens ws)

parens : (k : ℕ) (b : Bool) (tokens : List Token → List Token) (depth : ℕ) → IsShallow k tokens depth → IsShallow k (between_parens b tokens) (depth + 1)
parens k true tokens depth h n ws fits s = (omega arith, h (suc n) (Close ∷ ws) (omega arith) s)
parens k false tokens depth h n ws fits s = h n ws (omega arith) s

either : (k n : ℕ) (b : Bool) (ws vs : List Token) → Shallow k n ws → Shallow k n vs → Shallow k n (cond b ws vs)
either k n true ws vs s t = s
either k n false ws vs s t = t

written_shallow : (k : ℕ) (T : Syntax) → IsShallow k (tokens_before T) (depth_of T)
written_shallow k (sort p x) n ws fits s = s
written_shallow k (name p x) n ws fits s = s
written_shallow k (app f a) n ws fits s =
    parens k (is_binding f) (tokens_before f) (depth_of f) (written_shallow k f) n _ (omega arith)
    (parens k (is_compound a) (tokens_before a) (depth_of a) (written_shallow k a) n ws (omega arith) s)
written_shallow k (lam x A b) n ws fits s = written_shallow k A n (Dot ∷ tokens_before b ws) (omega arith) (written_shallow k b n ws (omega arith) s)
written_shallow k (pi x A b) n ws fits s =
    let body = written_shallow k b n ws (omega arith) s in
    either k n (same_name x underscore) _ _
    (parens k (is_binding A) (tokens_before A) (depth_of A) (written_shallow k A) n (Arrow ∷ tokens_before b ws) (omega arith) body)
    (written_shallow k A n (Dot ∷ tokens_before b ws) (omega arith) body)
written_shallow k (let_in x d A b) n ws fits s =
    written_shallow k d n (Colon ∷ tokens_before A (In ∷ tokens_before b ws)) (omega arith)
    (written_shallow k A n (In ∷ tokens_before b ws) (omega arith)
    (written_shallow k b n ws (omega arith) s))

none_in : (k : ℕ) (ts : List Spot) (ws : List Token) → Holds ts ws → Shallow k 0 ws → NoneTooMany k ts
none_in k ts ws h s p (too_many vs us e viable full) = let few = opened_before k 0 vs us p ws (subst (λ l. Holds l ws) e h) s in omega arith

pub none_too_many : (k : ℕ) (T : Syntax) (ts : List Spot) → depth_of T ≤ k → Holds ts (tokens_before T []) → NoneTooMany k ts
none_too_many k T ts fits h = none_in k ts _ h (written_shallow k T 0 [] (omega arith) tt)

-- Places add no depth.
unplaced_depth : (T : Syntax) → depth_of (unplaced T) ≡ depth_of T
unplaced_depth (sort p x) = refl
unplaced_depth (name p x) = refl
unplaced_depth (app f a) = rw (unplaced_depth f, unplaced_depth a) refl
unplaced_depth (lam x A b) = rw (unplaced_depth A, unplaced_depth b) refl
unplaced_depth (pi x A b) = rw (unplaced_depth A, unplaced_depth b) refl
unplaced_depth (let_in x d A b) = rw (unplaced_depth d, unplaced_depth A, unplaced_depth b) refl

pub same_depth : (M T : Syntax) → unplaced M ≡ unplaced T → depth_of M ≡ depth_of T
same_depth M T e = sym (unplaced_depth M) ∙ ap depth_of e ∙ unplaced_depth T
