-- A line is answered if none of its terms is too deep.
use Rattle.std.proofs.Common.{ℕ, ◌≡◌, ◌≤◌, ◌<◌, refl, sym, ◌∙◌, ap, subst, arith, List, [], ◌∷◌, map, Bool, true, false, cond, Option, Some, None, option_map, max, nat_le}
use Rattle.pts_tokens.specs.Tokens.{Spot}
use Rattle.pts_grammar.specs.Syntax.{Syntax, depth_of}
use Rattle.pts_grammar.specs.Seen.{within}
use Rattle.pts_lines.specs.declared.command.Command.{Command}
use Rattle.pts_lines.specs.Lines.{Line, Follows}
use Rattle.pts_lines.specs.Seen.{deepest, terms_of}
use Rattle.pts_lines.specs.Forms.{pair, all_of}

abbrev pub kept : Line → Option Line
kept L = cond (nat_le (deepest (terms_of L)) 2000) (Some L) None

-- What comes of a line: the line, or nothing where a term is too deep.
abbrev pub Gives : Command → List Spot → Option Line → Type 0
Gives c ts (Some L) = Follows c ts L × (deepest (terms_of L) ≤ 2000)
Gives c ts None = (L : Line) × Follows c ts L × (2000 < deepest (terms_of L))

pub gives_kept : (c : Command) (ts : List Spot) (L : Line) → Follows c ts L → Gives c ts (kept L)
gives_kept c ts L d = by (nat_le (deepest (terms_of L)) 2000) refl
  where
    by : (b : Bool) → nat_le (deepest (terms_of L)) 2000 ≡ b → Gives c ts (cond b (Some L) None)
    by true e = (d, grind (arith, e))
    by false e = (L, d, grind (arith, e))

pub moved_gives : (c : Command) (ts us : List Spot) (o r : Option Line) → ts ≡ us → o ≡ r → Gives c us r → Gives c ts o
moved_gives c ts us o r e h g = subst (λ x. Gives c x o) (sym e) (subst (λ x. Gives c us x) (sym h) g)

pub mapped : {A B C : Type 0} (f : A → B) (g : B → C) (o : Option A) → option_map g (option_map f o) ≡ option_map (λ a. g (f a)) o
mapped f g (Some a) = refl
mapped f g None = refl

pub none_kept : (L : Line) → terms_of L ≡ [] → Some L ≡ kept L
none_kept L e = ap (λ n. cond (nat_le n 2000) (Some L) None) (sym (ap deepest e))

pub one_kept : (f : Syntax → Line) (T : Syntax) → terms_of (f T) ≡ T ∷ [] → option_map f (within T) ≡ kept (f T)
one_kept f T e = by (nat_le (depth_of T) 2000) refl
  where
    deep : (n m : ℕ) (b : Bool) → m ≡ max n 0 → nat_le n 2000 ≡ b → nat_le m 2000 ≡ b
    deep n m b h g = grind (arith, h, g)

    by : (b : Bool) → nat_le (depth_of T) 2000 ≡ b → option_map f (cond b (Some T) None) ≡ kept (f T)
    by true h = ap (λ b. cond b (Some (f T)) None) (sym (deep (depth_of T) (deepest (terms_of (f T))) true (ap deepest e) h))
    by false h = ap (λ b. cond b (Some (f T)) None) (sym (deep (depth_of T) (deepest (terms_of (f T))) false (ap deepest e) h))

-- Several terms are kept if none is too deep.
abbrev pub all_kept : List Syntax → Option (List Syntax)
all_kept Ts = cond (nat_le (deepest Ts) 2000) (Some Ts) None

pub all_are_kept : (Ts : List Syntax) → all_of (map within Ts) ≡ all_kept Ts
all_are_kept [] = refl
all_are_kept (T ∷ Ts) = ap (λ o. option_map (λ r. r.0 ∷ r.1) (pair (within T) o)) (all_are_kept Ts) ∙ by (nat_le (depth_of T) 2000) (nat_le (deepest Ts) 2000) refl refl
  where
    low : (n m k : ℕ) → k ≡ max n m → nat_le n 2000 ≡ true → nat_le m 2000 ≡ true → nat_le k 2000 ≡ true
    low n m k h a b = grind (arith, h, a, b)

    left : (n m k : ℕ) → k ≡ max n m → nat_le n 2000 ≡ false → nat_le k 2000 ≡ false
    left n m k h a = grind (arith, h, a)

    right : (n m k : ℕ) → k ≡ max n m → nat_le m 2000 ≡ false → nat_le k 2000 ≡ false
    right n m k h a = grind (arith, h, a)

    by : (a b : Bool) → nat_le (depth_of T) 2000 ≡ a → nat_le (deepest Ts) 2000 ≡ b → option_map (λ r. r.0 ∷ r.1) (pair (cond a (Some T) None) (cond b (Some Ts) None)) ≡ all_kept (T ∷ Ts)
    by true true e h = ap (λ b. cond b (Some (T ∷ Ts)) None) (sym (low (depth_of T) (deepest Ts) (deepest (T ∷ Ts)) refl e h))
    by true false e h = ap (λ b. cond b (Some (T ∷ Ts)) None) (sym (right (depth_of T) (deepest Ts) (deepest (T ∷ Ts)) refl h))
    by false b e h = ap (λ b. cond b (Some (T ∷ Ts)) None) (sym (left (depth_of T) (deepest Ts) (deepest (T ∷ Ts)) refl e))

pub many_kept : (f : List Syntax → Line) (Ts : List Syntax) → terms_of (f Ts) ≡ Ts → option_map f (all_of (map within Ts)) ≡ kept (f Ts)
many_kept f Ts e = ap (option_map f) (all_are_kept Ts) ∙ (by (nat_le (deepest Ts) 2000) ∙ ap (λ n. cond (nat_le n 2000) (Some (f Ts)) None) (sym (ap deepest e)))
  where
    by : (b : Bool) → option_map f (cond b (Some Ts) None) ≡ cond b (Some (f Ts)) None
    by true = refl
    by false = refl

-- Two terms.
pub two_kept : (f : Syntax → Syntax → Line) (T U : Syntax) → terms_of (f T U) ≡ T ∷ U ∷ [] → option_map (λ r. f r.0 r.1) (pair (within T) (within U)) ≡ kept (f T U)
two_kept f T U e = by (nat_le (depth_of T) 2000) (nat_le (depth_of U) 2000) refl refl
  where
    low : (n m k : ℕ) → k ≡ max n (max m 0) → nat_le n 2000 ≡ true → nat_le m 2000 ≡ true → nat_le k 2000 ≡ true
    low n m k h a b = grind (arith, h, a, b)

    left : (n m k : ℕ) → k ≡ max n (max m 0) → nat_le n 2000 ≡ false → nat_le k 2000 ≡ false
    left n m k h a = grind (arith, h, a)

    right : (n m k : ℕ) → k ≡ max n (max m 0) → nat_le m 2000 ≡ false → nat_le k 2000 ≡ false
    right n m k h a = grind (arith, h, a)

    by : (a b : Bool) → nat_le (depth_of T) 2000 ≡ a → nat_le (depth_of U) 2000 ≡ b → option_map (λ r. f r.0 r.1) (pair (cond a (Some T) None) (cond b (Some U) None)) ≡ kept (f T U)
    by true true g h = ap (λ b. cond b (Some (f T U)) None) (sym (low (depth_of T) (depth_of U) (deepest (terms_of (f T U))) (ap deepest e) g h))
    by true false g h = ap (λ b. cond b (Some (f T U)) None) (sym (right (depth_of T) (depth_of U) (deepest (terms_of (f T U))) (ap deepest e) h))
    by false b g h = ap (λ b. cond b (Some (f T U)) None) (sym (left (depth_of T) (depth_of U) (deepest (terms_of (f T U))) (ap deepest e) g))
