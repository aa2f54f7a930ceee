-- The walk to a weak head normal form, and its chain.
use Rattle.std.proofs.Common.{◌≡◌, ℕ, zero, suc, ◌-◌, ◌<◌, ◌≤◌, ◌++◌, length, refl, sym, ◌∙◌, ap, subst, ◌∷◌, List, [], drop, get_or, Some, None, arith}
use Rattle.pts_record.specs.declared.shape.Shape.{Shape}
use Rattle.pts_record.specs.Table.{Tables, named_at}
use Rattle.pts_record.specs.Said.{scope_of}
use Rattle.pts_rules.specs.Step.{head_step}
use Rattle.pts_reduce_cost.specs.Costs.{Globals, Entries}
use Rattle.pts_reduce_cost.specs.Run.{ends}
use Rattle.pts_reduce_cost.specs.Work.{stepped, reduced}
use Rattle.pts_reduce_cost.proofs.Steps.{was_made, reduced_stops, reduced_goes_on, reduced_deep, reduced_spent}
use Rattle.pts_grow.specs.Keeps.{Keeps, StaysValid}
use Rattle.pts_grow.proofs.Grow.{keeps_refl, keeps_trans, valid_refl, valid_trans, stays, tree_stays}
use Rattle.pts_reduce.specs.declared.fault.Fault.{Fault}
use Rattle.pts_reduce.specs.declared.fault.Fault.TheVariants.{Spent, Deep, Memory, Differ}
use Rattle.pts_reduce.specs.Given.{PlainFault}
use Rattle.pts_reduce.specs.Chain.{first_of, Leads, EachBelow, IsChain, entries_of, Walk}

all_stay : (a b : Tables) (ks : List ℕ) → Keeps a b → EachBelow (length a.shapes) ks → EachBelow (length b.shapes) ks
all_stay a b [] g h = tt
all_stay a b (k ∷ ks) g h = (stays a b k g h.0, all_stay a b ks g h.1)

first_below : (n : ℕ) (ks : List ℕ) (f : ℕ) → EachBelow n ks → f < n → first_of ks f < n
first_below n [] f b h = h
first_below n (k ∷ ks) f b h = b.0

leads_stay : (G : Globals) (L : Entries) (a b : Tables) (ks : List ℕ) (f : ℕ) → Keeps a b → EachBelow (length a.shapes) ks → f < length a.shapes → Leads G L a.shapes ks f → Leads G L b.shapes ks f
leads_stay G L a b [] f g s h l = tt
leads_stay G L a b (k ∷ ks) f g s h l =
    let x = tree_stays a b k g s.0 in
    let y = tree_stays a b (first_of ks f) g (first_below (length a.shapes) ks f s.1 h) in
    (rw (x, y) l.0, leads_stay G L a b ks f g s.1 h l.1)

-- A chain stays one while the record grows.
pub still_chain : (G : Globals) (L : Entries) (a b : Tables) (t : ℕ) (ks : List ℕ) (f : ℕ) → Keeps a b → IsChain G L a.shapes t ks f → IsChain G L b.shapes t ks f
still_chain G L a b t ks f g c = record {
  form = stays a b f g c.form;
  stand = all_stay a b ks g c.stand;
  leads = leads_stay G L a b ks f g c.stand c.form c.leads;
  first = c.first;
}

below_more : (n : ℕ) (ks : List ℕ) (f : ℕ) → EachBelow n ks → f < n → EachBelow n (ks ++ f ∷ [])
below_more n [] f b h = (h, tt)
below_more n (k ∷ ks) f b h = (b.0, below_more n ks f b.1 h)

first_more : (ks : List ℕ) (f n : ℕ) → first_of (ks ++ f ∷ []) n ≡ first_of ks f
first_more [] f n = refl
first_more (k ∷ ks) f n = refl

leads_more : (G : Globals) (L : Entries) (ss : List Shape) (ks : List ℕ) (f n : ℕ) → Leads G L ss ks f → head_step G L (named_at ss f) ≡ Some (named_at ss n) → Leads G L ss (ks ++ f ∷ []) n
leads_more G L ss [] f n l h = (h, tt)
leads_more G L ss (k ∷ ks) f n l h = (l.0 ∙ ap (λ i. Some (named_at ss i)) (sym (first_more ks f n)), leads_more G L ss ks f n l.1 h)

pub walk_first : (G : Globals) (a : Tables) (c t k : ℕ) → t < length a.shapes → Walk G a c t k a t [] k
walk_first G a c t k h = record { keeps = keeps_refl a; valid = valid_refl a; nodes = refl; chain = record { form = h; stand = tt; leads = tt; first = refl }; run = refl }

pub walk_next : (G : Globals) (a : Tables) (c t k : ℕ) (b : Tables) (f : ℕ) (ks : List ℕ) (j : ℕ) (d : Tables) (n i : ℕ) → Walk G a c t k b f ks j → stepped (head_step G (entries_of a c) (named_at b.shapes f)) j ≡ ends (Some (named_at d.shapes n)) i → n < length d.shapes → Keeps b d → StaysValid b d → d.nodes ≡ b.nodes → Walk G a c t k d n (ks ++ f ∷ []) i
walk_next G a c t k b f ks j d n i w e h g v s =
    let L = entries_of a c in
    let same = tree_stays b d f g w.chain.form in
    let made = (was_made _ _ _ _ e).0 in
    let old = still_chain G L b d t ks f g w.chain in
    record {
      keeps = keeps_trans a b d w.keeps g;
      valid = valid_trans a b d w.valid v;
      nodes = s ∙ w.nodes;
      chain = record {
        form = h;
        stand = below_more (length d.shapes) ks f old.stand old.form;
        leads = leads_more G L d.shapes ks f n old.leads (ap (head_step G L) same ∙ made);
        first = first_more ks f n ∙ old.first;
      };
      run = w.run ∙ reduced_goes_on G L (named_at b.shapes f) (named_at d.shapes n) j i e;
    }

-- The same step in the record that the walk has come to.
pub entries_stay : (G : Globals) (a : Tables) (c t k : ℕ) (b : Tables) (f : ℕ) (ks : List ℕ) (j : ℕ) → Walk G a c t k b f ks j → c < length a.nodes → entries_of b c ≡ entries_of a c
entries_stay G a c t k b f ks j w h = ap (λ m. (scope_of m).entries) (w.keeps.says c h)

-- How a reduction ends, by its last step.
pub walk_stops : (G : Globals) (a : Tables) (c t k : ℕ) (b : Tables) (f : ℕ) (ks : List ℕ) (j i : ℕ) → Walk G a c t k b f ks j → stepped (head_step G (entries_of a c) (named_at b.shapes f)) j ≡ ends None i → reduced G (entries_of a c) k (named_at a.shapes t) ≡ ends (named_at b.shapes f) i
walk_stops G a c t k b f ks j i w e = w.run ∙ reduced_stops G (entries_of a c) (named_at b.shapes f) j i e

pub walk_fails : (G : Globals) (a : Tables) (c t k : ℕ) (b : Tables) (f : ℕ) (ks : List ℕ) (j i : ℕ) (e : Fault) → Walk G a c t k b f ks j → PlainFault e i (stepped (head_step G (entries_of a c) (named_at b.shapes f)) j) → PlainFault e i (reduced G (entries_of a c) k (named_at a.shapes t))
walk_fails G a c t k b f ks j i Spent w h = (w.run ∙ reduced_spent G (entries_of a c) (named_at b.shapes f) j h.0, h.1)
walk_fails G a c t k b f ks j i Deep w h = w.run ∙ reduced_deep G (entries_of a c) (named_at b.shapes f) j i h
walk_fails G a c t k b f ks j i Memory w h = tt
walk_fails G a c t k b f ks j i (Differ d) w h = h

pub ruleset endings = (walk_first, walk_stops, walk_fails, still_chain)

-- A term of a chain steps to the next.
pub leads_at : (G : Globals) (L : Entries) (ss : List Shape) (ks : List ℕ) (f k d : ℕ) → Leads G L ss ks f → k < length ks → head_step G L (named_at ss (get_or ks k d)) ≡ Some (named_at ss (first_of (drop (suc k) ks) f))
leads_at G L ss [] f k d l h = absurd (omega (arith, h))
leads_at G L ss (i ∷ ks) f zero d l h = l.0
leads_at G L ss (i ∷ ks) f (suc k) d l h = leads_at G L ss ks f k d l.1 (omega (arith, h))

pub first_at : (ks : List ℕ) (f k d : ℕ) → k < length ks → first_of (drop k ks) f ≡ get_or ks k d
first_at [] f k d h = absurd (omega (arith, h))
first_at (i ∷ ks) f zero d h = refl
first_at (i ∷ ks) f (suc k) d h = first_at ks f k d (omega (arith, h))

pub stands_at : (n : ℕ) (ks : List ℕ) (k d : ℕ) → EachBelow n ks → k < length ks → get_or ks k d < n
stands_at n [] k d b h = absurd (omega (arith, h))
stands_at n (i ∷ ks) zero d b h = b.0
stands_at n (i ∷ ks) (suc k) d b h = stands_at n ks k d b.1 (omega (arith, h))

-- The step of a chain that a loop from its end comes to, in a record that has grown by nodes.
pub join_step : (G : Globals) (a b : Tables) (c : ℕ) (ks : List ℕ) (f at i j : ℕ) → c < length a.nodes → Keeps a b → b.shapes ≡ a.shapes → Leads G (entries_of a c) a.shapes ks f → at ≤ length ks → 0 < at → i ≡ get_or ks (at - 1) i → j ≡ first_of (drop at ks) f → head_step G (entries_of b c) (named_at b.shapes i) ≡ Some (named_at b.shapes j)
join_step G a b c ks f at i j h g s l m z p q =
    let k : at - 1 < length ks = omega (arith, m, z) in
    let e : suc (at - 1) ≡ at = omega (arith, z) in
    let step = leads_at G (entries_of a c) a.shapes ks f (at - 1) i l k in
    ap (λ m. head_step G (scope_of m).entries (named_at b.shapes i)) (g.says c h)
    ∙ ap (λ ss. head_step G (entries_of a c) (named_at ss i)) s
    ∙ ap (λ n. head_step G (entries_of a c) (named_at a.shapes n)) p
    ∙ step
    ∙ ap (λ n. Some (named_at a.shapes (first_of (drop n ks) f))) e
    ∙ ap (λ n. Some (named_at a.shapes n)) (sym q)
    ∙ ap (λ ss. Some (named_at ss j)) (sym s)

pub join_stands : (a b : Tables) (ks : List ℕ) (at i : ℕ) → b.shapes ≡ a.shapes → EachBelow (length a.shapes) ks → at ≤ length ks → 0 < at → i ≡ get_or ks (at - 1) i → i < length b.shapes
join_stands a b ks at i s d m z p =
    let k : at - 1 < length ks = omega (arith, m, z) in
    let h = stands_at (length a.shapes) ks (at - 1) i d k in
    let g : i < length a.shapes = subst (λ n. n < length a.shapes) (sym p) h in
    subst (λ ss. i < length ss) (sym s) g

pub join_first : (ks : List ℕ) (f at i : ℕ) → at ≤ length ks → 0 < at → i ≡ get_or ks (at - 1) i → i ≡ first_of (drop (at - 1) ks) f
join_first ks f at i m z p = p ∙ sym (first_at ks f (at - 1) i (omega (arith, m, z)))

pub ruleset joins = (join_step, join_stands, join_first)
