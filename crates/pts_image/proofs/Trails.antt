-- Trails of contexts fall, and so a number has one place in its image.
use Rattle.std.proofs.Common.{ℕ, suc, zero, List, [], ◌∷◌, ◌++◌, map, length, Bool, true, false, ◌≡◌, ◌<◌, ◌≤◌, refl, sym, ap, ◌∙◌, arith, subst, Option, Some, None}
use Rattle.std.specs.Prelude.{is_some, nat_eq, position, if◌then◌else◌}
use Rattle.std.specs.Option.{option_map}
use Rattle.pts_record.specs.declared.shape.Form.{Form}
use Rattle.pts_record.specs.declared.shape.Form.TheVariants.{Empty, Assume, Define, Bare as BareForm}
use Rattle.pts_record.specs.declared.shape.FormKind.{FormKind}
use Rattle.pts_record.specs.declared.shape.FormKind.TheVariants.{Context, Judgement, Comparison}
use Rattle.pts_record.specs.Table.{kind_of}
use Rattle.pts_record.specs.Said.{Said, nothing, look, made_by, say_of_kind, say, said_behind, scope_of}
use Rattle.pts_record.proofs.Looked.{look_before, look_at, look_past, one_longer}
use Rattle.pts_terms.proofs.Same.{nat_eq_same, nat_eq_self}
use Rattle.pts_rules.specs.Conditions.{Plain, Link}
use Rattle.pts_rules.proofs.Passing.{some_is}
use Rattle.pts_rules.proofs.Sound.{all_more}
use Rattle.pts_ctx.proofs.Find.{some_same}

-- The numbers are below n, and each is below the one before it.
abbrev pub Falls : ℕ → List ℕ → Type 0
Falls n [] = Unit {0}
Falls n (x ∷ xs) = (x < n) × Falls x xs

falls_more : (m n : ℕ) (xs : List ℕ) → m ≤ n → Falls m xs → Falls n xs
falls_more m n [] le h = tt
falls_more m n (x ∷ xs) le h = let l : x < m = h.0 in (omega (arith, l, le), h.1)

abbrev pub TrailFalls : ℕ → Link → Type 0
TrailFalls n m = Falls n (scope_of m).trail

trail_made : (f : Form) (n : ℕ) (l : Plain) (c p : Link) → TrailFalls n c → TrailFalls n p → Falls (suc n) (made_by f n l c p).trail
trail_made Assume n l c p h g = (omega arith, g)
trail_made Define n l c p h g = (omega arith, g)
trail_made BareForm n l c p h g = (omega arith, h)
trail_made Empty n l c p h g = (omega arith, tt)
trail_made _ n l c p h g = (omega arith, tt)

trail_says : (i : FormKind) (f : Form) (n : ℕ) (l : Plain) (c p : Link) → TrailFalls n c → TrailFalls n p → TrailFalls (suc n) (say_of_kind i f n l c p)
trail_says Context f n l c p h g = trail_made f n l c p h g
trail_says Judgement f n l c p h g = falls_more n (suc n) (scope_of c).trail (omega arith) h
trail_says Comparison f n l c p h g = falls_more n (suc n) (scope_of c).trail (omega arith) h

abbrev pub AllFall : List Link → Type 0
AllFall ms = (k : ℕ) → TrailFalls (length ms) (look ms k)

pub fall_more : (ms : List Link) (l : Plain) → AllFall ms → AllFall (ms ++ say ms l ∷ [])
fall_more ms l h =
    let up : (m : Link) → TrailFalls (length ms) m → TrailFalls (suc (length ms)) m = λ m g. falls_more (length ms) (suc (length ms)) (scope_of m).trail (omega arith) g in
    subst (λ n. (k : ℕ) → TrailFalls n (look (ms ++ say ms l ∷ []) k)) (sym (one_longer ms (say ms l)))
    (all_more (TrailFalls (suc (length ms))) tt ms (say ms l) (λ k. up (look ms k) (h k)) (trail_says (kind_of l.form) l.form (length ms) l (look ms l.ctx) (look ms l.first) (h l.ctx) (h l.first)))

pub fall_after : (ms : List Link) (ls : List Plain) → AllFall ms → AllFall (said_behind ms ls)
fall_after ms [] h = h
fall_after ms (l ∷ ls) h = fall_after (ms ++ say ms l ∷ []) ls (fall_more ms l h)

pub fall_first : AllFall []
fall_first k = subst (TrailFalls 0) (sym (look_past [] k (omega arith))) tt

-- Places.
pub position_first : (x y : ℕ) (ys : List ℕ) → nat_eq x y ≡ true → position (nat_eq x) (y ∷ ys) ≡ Some 0
position_first x y ys h = grind arith

pub position_later : (x y : ℕ) (ys : List ℕ) → nat_eq x y ≡ false → position (nat_eq x) (y ∷ ys) ≡ option_map suc (position (nat_eq x) ys)
position_later x y ys h = grind arith

later_some : (o : Option ℕ) (d : ℕ) → option_map suc o ≡ Some d → (k : ℕ) × (o ≡ Some k) × (suc k ≡ d)
later_some None d h = absurd (cc h)
later_some (Some k) d h = (k, refl, some_same h)

pub place_falls : (n x : ℕ) (xs : List ℕ) (d : ℕ) → Falls n xs → position (nat_eq x) xs ≡ Some d → x < n
place_falls n x [] d f h = absurd (cc h)
place_falls n x (y ∷ ys) d f h = by_case (nat_eq x y) refl (λ k o. place_falls y x ys k f.1 o)
  where
    by_case : (b : Bool) → nat_eq x y ≡ b → ((k : ℕ) → position (nat_eq x) ys ≡ Some k → x < y) → x < n
    by_case true e i = let l : y < n = f.0 in let q = nat_eq_same x y e in omega (arith, l, q)
    by_case false e i =
        let (k, o, s) = later_some (position (nat_eq x) ys) d (sym (position_later x y ys e) ∙ h) in
        let l : y < n = f.0 in let g = i k o in omega (arith, l, g)

pub place_image : (r : ℕ → ℕ) (n x : ℕ) (xs : List ℕ) (d : ℕ) → Falls n (map r xs) → position (nat_eq x) xs ≡ Some d → position (nat_eq (r x)) (map r xs) ≡ Some d
place_image r n x [] d f h = absurd (cc h)
place_image r n x (y ∷ ys) d f h = by_case (nat_eq x y) refl (λ k. place_image r (r y) x ys k f.1)
  where
    apart : (i j : ℕ) → i < j → nat_eq i j ≡ false
    apart i j l = grind arith

    by_case : (b : Bool) → nat_eq x y ≡ b → ((k : ℕ) → position (nat_eq x) ys ≡ Some k → position (nat_eq (r x)) (map r ys) ≡ Some k) → position (nat_eq (r x)) (map r (y ∷ ys)) ≡ Some d
    by_case true e i = position_first (r x) (r y) (map r ys) (ap (λ z. nat_eq (r x) (r z)) (sym (nat_eq_same x y e)) ∙ nat_eq_self (r x)) ∙ sym (position_first x y ys e) ∙ h
    by_case false e i =
        let (k, o, s) = later_some (position (nat_eq x) ys) d (sym (position_later x y ys e) ∙ h) in
        let at = i k o in
        position_later (r x) (r y) (map r ys) (apart (r x) (r y) (place_falls (r y) (r x) (map r ys) k f.1 at)) ∙ ap (option_map suc) at ∙ ap Some s

-- A number that stands in a longer list too.
pub still_placed : (x y : ℕ) (ys : List ℕ) → is_some (position (nat_eq x) ys) ≡ true → is_some (position (nat_eq x) (y ∷ ys)) ≡ true
still_placed x y ys h = by_case (nat_eq x y) refl
  where
    has : (o : Option ℕ) → is_some o ≡ true → is_some (option_map suc o) ≡ true
    has None h = h
    has (Some k) h = refl

    by_case : (b : Bool) → nat_eq x y ≡ b → is_some (position (nat_eq x) (y ∷ ys)) ≡ true
    by_case true e = ap is_some (position_first x y ys e)
    by_case false e = ap is_some (position_later x y ys e) ∙ has (position (nat_eq x) ys) h
