-- The image of a record that is valid over one front is valid over each front in which that one is interpreted.
use Rattle.std.proofs.Common.{ℕ, suc, zero, List, [], ◌∷◌, ◌++◌, ◌⊎◌, inl, inr, map, length, Bool, true, false, ◌≡◌, ◌<◌, ◌≤◌, ◌+◌, refl, sym, ap, ◌∙◌, arith, subst, Option, Some, None}
use Rattle.std.specs.Prelude.{is_some, nat_eq, position, ◌&&◌, if◌then◌else◌}
use Rattle.std.specs.Option.{option_map}
use Rattle.std.proofs.lemmas.List.{map-append, length-append}
use mathlib.Core.Path.{ap₂}
use mathlib.Core.List.{append_assoc}
use Rattle.pts_names.specs.Name.{Name}
use Rattle.pts_terms.specs.Tree.{Bare, sort, const, Below, lift}
use Rattle.pts_terms.specs.Replaced.{replaced}
use Rattle.pts_terms.proofs.Same.{same_term_self, nat_eq_self}
use Rattle.pts_ctx.specs.System.{Specification}
use Rattle.pts_ctx.specs.Front.{Global, Front, find}
use Rattle.pts_record.specs.declared.shape.Form.{Form}
use Rattle.pts_record.specs.declared.shape.Form.TheVariants.{Empty, Assume, Define, Bare as BareForm, ConstAt, Thin}
use Rattle.pts_record.specs.declared.shape.FormKind.{FormKind}
use Rattle.pts_record.specs.declared.shape.FormKind.TheVariants.{Context, Judgement, Comparison}
use Rattle.pts_record.specs.declared.shape.Node.{Node}
use Rattle.pts_record.specs.Table.{Tables, at, bare_trees, AllBelow, contexts_as, premises_as, node_links, NodesLinked, kept_node, kind_of}
use Rattle.pts_record.proofs.Grow.{lines_same}
use Rattle.pts_record.specs.Said.{Row, row_of_node, has_terms, rows_of, Said, nothing, context, judgement, comparison, look, made_by, say_of_kind, say_as, say, said_behind, scope_of, place_of, told, is_context, is_judgement}
use Rattle.pts_record.proofs.Looked.{look_before, look_at, look_past, one_longer, said_length, said_parts, said_stays}
use Rattle.pts_record.proofs.Told.{say_by_links, lines_long}
use Rattle.pts_rules.specs.Step.{body_of}
use Rattle.pts_rules.specs.Parts.{const_in, is_typed_context, distance}
use Rattle.pts_rules.specs.Conditions.{Plain, Link, first_failing, form_fault, const_conditions, thin_conditions, assume_conditions, define_conditions}
use Rattle.pts_rules.specs.Valid.{first_fault_behind, first_fault, fault, IsValid}
use Rattle.pts_rules.proofs.Passing.{all_pass, none_fails, some_is, const_is}
use Rattle.pts_rules.proofs.Sound.{faultless}
use Rattle.pts_image.specs.declared.replacement.Replacement.{Replacement}
use Rattle.pts_image.specs.declared.replacement.Replacement.TheVariants.{Constant, Argument}
use Rattle.pts_image.specs.Image.{entry_image, empty_scope, Closed, local_image, scope_image, said_image, row_image}
use Rattle.pts_image.specs.Appending.{IsLinked, replacement_in, term_of, term_for, is_empty_form, is_empty_node, renumbered_node, image_as, node_image, with_image}
use Rattle.pts_image.specs.Interpretation.{Interprets, Interpretation}
use Rattle.pts_image.specs.Graft.{without_numbers}
use Rattle.pts_image.proofs.Replacing.{lift_closed}
use Rattle.pts_image.proofs.Saying.{that_of, typed_im, scope_im, place_judged, assumed_im, defined_im}
use Rattle.pts_image.proofs.Heads.{heads}
use Rattle.pts_image.proofs.Rows.{row_faultless}
use Rattle.pts_image.proofs.Renamed.{entry_named}
use Rattle.pts_image.proofs.UsedFields.{kept_faults, kept_says, fault_by_links}
use Rattle.pts_image.proofs.ImageTrees.{at_new_number, at_old_number}
use Rattle.pts_image.proofs.Trails.{Falls, AllFall, fall_more, fall_after, fall_first, place_image, still_placed, position_first}

-- A node's image has its form, or it is a constant that an argument replaces.
image_kind : (g : Form) (x : Node) (i : Replacement) → ((image_as g x i ≡ kept_node x) × (g ≡ ConstAt → (y : Name) × (i ≡ Constant y))) ⊎ ((t : ℕ) × (p : ℕ) × (g ≡ ConstAt) × (i ≡ Argument t p))
image_kind ConstAt x (Constant y) = inl (refl, λ h. (y, refl))
image_kind ConstAt x (Argument t p) = inr (t, p, refl, refl)
image_kind _ x i = inl (refl, λ h. absurd (cc h))

-- Faults of lines in two parts.
faultless_parts : (S : Specification) (G : Front) (ms : List Link) (ls ks : List Plain) → first_fault_behind S G ms ls ≡ None → first_fault_behind S G (said_behind ms ls) ks ≡ None → first_fault_behind S G ms (ls ++ ks) ≡ None
faultless_parts S G ms [] ks v h = h
faultless_parts S G ms (l ∷ ls) ks v h =
    let (p, q) = faultless S G ms l ls v in
    rw p (faultless_parts S G (ms ++ say ms l ∷ []) ls ks q h)

-- The form of a node in the middle.
empty_middle : (done : List Node) (n : Node) (ns : List Node) → is_empty_node (done ++ n ∷ ns) (length done) ≡ is_empty_form n.form
empty_middle [] n ns = refl
empty_middle (d ∷ done) n ns = empty_middle done n ns

pub there : (a : Tables) (k : ℕ) (m : Link) → told a k ≡ m → (m ≡ nothing → ⊥) → (k < length a.nodes) ⊎ (length a.nodes ≤ k) → k < length a.nodes
unfolding told
there a k m p q (inl h) = h
there a k m p q (inr h) = absurd (q (sym p ∙ look_past (said_behind [] (rows_of a)) k (let n = said_length [] (rows_of a) in let o = lines_long a in omega (arith, h, n, o))))

pub below_or : (k n : ℕ) → (k < n) ⊎ (n ≤ k)
below_or k n = grind arith

earlier_or : (k n m : ℕ) → m ≡ suc n → k < m → (k < n) ⊎ (k ≡ n)
earlier_or k n m e h = grind arith

-- What says the same but for numbers.
same_said : (k j : ℕ) (i : FormKind) (g : Form) (l : Plain) (b p : Link) → without_numbers (say_of_kind i g k l b p) ≡ without_numbers (say_of_kind i g j l b p)
same_said k j Context g l b p = same_made g
  where
    same_made : (g : Form) → without_numbers (say_of_kind Context g k l b p) ≡ without_numbers (say_of_kind Context g j l b p)
    same_made Assume = refl
    same_made Define = refl
    same_made BareForm = refl
    same_made Empty = refl
    same_made _ = refl
same_said k j Judgement g l b p = refl
same_said k j Comparison g l b p = refl

module _ (S : Specification) (F H : Front) (a r : Tables) (e : ℕ) (w : Name → Replacement) (ρ : ℕ → ℕ) (c : Interpretation H a e w F) (va : IsValid S H a)
    (leads : (k : ℕ) → k < length r.nodes → (ρ k ≡ length a.nodes + k) ⊎ ((ρ k < length a.nodes) × (told a (ρ k) ≡ said_image (term_for (bare_trees a.shapes) w) ρ (told r k))))
    (empties : (k : ℕ) → is_empty_node r.nodes k ≡ true → ρ k ≡ e) where
  abbrev ta : List Bare
  ta = bare_trees a.shapes

  abbrev tr : List Bare
  tr = bare_trees r.shapes

  abbrev f : Name → Bare
  f = term_for ta w

  abbrev θ : Bare → Bare
  θ = replaced f

  abbrev im : Link → Link
  im = said_image f ρ

  abbrev row : Plain → Plain
  row = row_image f ρ

  abbrev T : List Bare
  T = bare_trees (with_image a w ρ r).shapes

  abbrev image : Node → Node
  image = node_image ρ (length a.shapes) w r

  -- Trees.
  at_new : (k : ℕ) → at T (length a.shapes + k) ≡ θ (at tr k)
  at_new k = at_new_number a.shapes w c.linked.shapes c.terms r.shapes k

  at_old : (k : ℕ) → k < length a.shapes → at T k ≡ at ta k
  at_old k h = at_old_number a.shapes w c.linked.shapes c.terms r.shapes k h

  -- Rows.
  chosen : (b : Bool) (k : ℕ) → (if b then at T (length a.shapes + k) else sort 0) ≡ θ (if b then at tr k else sort 0)
  chosen true k = at_new k
  chosen false k = refl

  row_renumbered : (n : Node) → row_of_node T (renumbered_node ρ (length a.shapes) n) ≡ row (row_of_node tr n)
  row_renumbered n =
      ap₂ (λ (t u : Bare). record { form = n.form; ctx = ρ n.ctx; subject = t; claim = u; first = ρ n.first; second = ρ n.second; third = ρ n.third }) (chosen (has_terms n.form) n.subject) (chosen (has_terms n.form) n.claim)

  rows_first : map (row_of_node T) a.nodes ≡ rows_of a
  rows_first = lines_same T ta a.nodes (length a.shapes) 0 c.linked.nodes at_old

  -- What was said, ms by the nodes of r and qs by those of a and by the images: numbers that are asked for lead to
  -- images, and the place of an image says the same but for its own number.
  abbrev Ends : Link → Type 0
  Ends m = is_some (position (nat_eq e) (map ρ (scope_of m).trail)) ≡ true

  abbrev Says : Link → Link → Type 0
  Says q m = (without_numbers q ≡ without_numbers (im m)) × (is_context m ≡ false → q ≡ im m)

  pub record Inv (ms qs : List Link) : Type 0 where
    pub long : length qs ≡ length a.nodes + length ms
    pub old : (k : ℕ) → k < length a.nodes → look qs k ≡ told a k
    pub below : (k : ℕ) → k < length ms → ρ k < length qs
    pub maps : (k : ℕ) → k < length ms → look qs (ρ k) ≡ im (look ms k)
    pub own : (k : ℕ) → k < length ms → Says (look qs (length a.nodes + k)) (look ms k)
    pub falls : AllFall qs
    pub ends : (k : ℕ) → k < length ms → Ends (look ms k)

  root_below : e < length a.nodes
  root_below = there a e (context (empty_scope e)) c.empty (λ h. cc h) (below_or e (length a.nodes))

  -- Head steps.
  const_by : (x : Name) (u : Bare) (i : Global (Unit {0})) (o : Replacement) → w x ≡ o → i.body ≡ Some u → Interprets H a e f i o → (y : Name) × (f x ≡ const y) × (body_of (find y H) ≡ Some (θ u))
  const_by x u i (Constant y) p q s = (y, ap (term_of ta) p, rw s (ap (option_map θ) q))
  const_by x u i (Argument t n) p q s = absurd (cc (sym q ∙ s.0))

  const_body : (x : Name) (u : Bare) (o : Option (Global (Unit {0}))) → find x F ≡ o → body_of o ≡ Some u → (y : Name) × (f x ≡ const y) × (body_of (find y H) ≡ Some (θ u))
  const_body x u None p q = absurd (cc q)
  const_body x u (Some i) p q = const_by x u i (w x) refl q (c.entries x i p)

  const_head : (x : Name) (u : Bare) → body_of (find x F) ≡ Some u → (y : Name) × (f x ≡ const y) × (body_of (find y H) ≡ Some (θ u))
  const_head x u h = const_body x u (find x F) refl h

  -- The line of a constant that is replaced by a constant.
  const_named : (l : Plain) (b : Link) (x y : Name) (i : Global (Unit {0})) → θ l.subject ≡ const y → find y H ≡ Some (entry_image f y i) → l.claim ≡ i.type → is_typed_context (im b) ≡ true → first_failing (const_conditions H (row l) (im b)) ≡ None
  const_named l b x y i s to claim t =
      none_fails (const_conditions H (row l) (im b)) (t, (rw s refl, (rw (s, to) refl, (rw (s, to, claim) (same_term_self (replaced f i.type)), tt))))

  const_row : (l : Plain) (b p q v : Link) → ((x : Name) → const_in l.subject ≡ Some x → (y : Name) × (w x ≡ Constant y)) → form_fault S F ConstAt l b p q v ≡ None → form_fault S H ConstAt (row l) (im b) (im p) (im q) (im v) ≡ None
  const_row l b p q v other h =
      let g = all_pass (const_conditions F l b) h in
      let (x, i, o, at, claim) = entry_named F l.claim (const_in l.subject) g.1.0 g.1.1.0 g.1.1.1.0 in
      let (y, is) = other x o in
      const_named l b x y i (ap θ (const_is l.subject x o) ∙ ap (term_of ta) is) (subst (Interprets H a e f i) is (c.entries x i at)) claim (typed_im f ρ b ∙ g.0)

  -- Distances.
  far_here : (ms qs : List Link) → Inv ms qs → (b q : ℕ) → is_judgement (look ms q) ≡ true → (d : ℕ) → distance (look ms b) (look ms q) ≡ Some d → (b < length ms) ⊎ (length ms ≤ b) → distance (im (look ms b)) (im (look ms q)) ≡ Some d
  far_here ms qs v b q j d h (inl l) =
      let falls = v.falls (ρ b) in
      let at = v.maps b l in
      let g : Falls (length qs) (map ρ (scope_of (look ms b)).trail) = subst (Falls (length qs)) (ap (λ m. (scope_of m).trail) at ∙ ap (λ s. s.trail) (scope_im f ρ (look ms b))) falls in
      rw (place_judged f ρ (look ms q) j, scope_im f ρ (look ms b)) (place_image ρ (length qs) (place_of (look ms q)) (scope_of (look ms b)).trail d g h)
  far_here ms qs v b q j d h (inr l) = absurd (cc (sym (ap (λ m. distance m (look ms q)) (look_past ms b l)) ∙ h))

  -- A node that is renumbered.
  kept_line : (ms qs : List Link) → Inv ms qs → (n : Node) → AllBelow (length ms) (node_links n) → (n.form ≡ ConstAt → (y : Name) × (replacement_in w (const_in (at tr n.subject)) ≡ Constant y)) → fault S F ms (row_of_node tr n) ≡ None → fault S H qs (row_of_node T (kept_node (renumbered_node ρ (length a.shapes) n))) ≡ None
  kept_line ms qs v n b other h =
      let l = row_of_node tr n in
      let N = renumbered_node ρ (length a.shapes) n in
      kept_faults S H qs T N.form N.ctx N.subject N.claim N.first N.second N.third
      ∙ ap (fault S H qs) (row_renumbered n)
      ∙ fault_by_links S H n.form (row l) (look qs (ρ n.ctx)) (look qs (ρ n.first)) (look qs (ρ n.second)) (look qs (ρ n.third)) (im (look ms n.ctx)) (im (look ms n.first)) (im (look ms n.second)) (im (look ms n.third)) (length ms) n.ctx n.first n.second n.third b (v.maps n.ctx) (v.maps n.first) (v.maps n.second) (v.maps n.third)
      ∙ row_faultless S F H f c.closed ρ (heads F H f c.closed const_head) l (look ms n.ctx) (look ms n.first) (look ms n.second) (look ms n.third)
      (λ j d g. far_here ms qs v n.ctx n.first j d g (below_or n.ctx (length ms))) n.form
      (λ is. const_row l (look ms n.ctx) (look ms n.first) (look ms n.second) (look ms n.third)
      (λ x o. let (y, i) = other is in (y, sym (ap (replacement_in w) (sym (ap (λ g. const_in (if has_terms g then at tr n.subject else sort 0)) is) ∙ o)) ∙ i))) h

  -- The line of a constant that an argument replaces.
  thinned : (l : Plain) (b p : Link) (d : ℕ) (s U : Bare) → is_typed_context b ≡ true → p ≡ judgement e (empty_scope e) s U → position (nat_eq e) (scope_of b).trail ≡ Some d → l.subject ≡ s → l.claim ≡ U → Below 0 s → Below 0 U → first_failing (thin_conditions l b p) ≡ None
  thinned l b p d s U t j at x y m n =
      rw j (none_fails (thin_conditions l b (judgement e (empty_scope e) s U)) (
        t,
        (
          refl,
          (
            ap is_some at,
            (
              that_of l.subject _ (ap (option_map (λ k. lift 0 k s)) at ∙ ap Some (lift_closed 0 0 d s (omega arith) m ∙ sym x)),
              (that_of l.claim _ (ap (option_map (λ k. lift 0 k U)) at ∙ ap Some (lift_closed 0 0 d U (omega arith) n ∙ sym y)), tt),
            ),
          ),
        ),
      ))

  abbrev thinning : Node → ℕ → Node
  thinning n p = record { form = Thin; ctx = ρ n.ctx; subject = length a.shapes + n.subject; claim = length a.shapes + n.claim; first = p; second = 0; third = 0 }

  -- What is known of such a line.
  record ArgumentLine (ms : List Link) (n : Node) (t p : ℕ) : Type 0 where
    typed : is_typed_context (look ms n.ctx) ≡ true
    judged : told a p ≡ judgement e (empty_scope e) (at ta t) (θ (at tr n.claim))
    subject : θ (at tr n.subject) ≡ at ta t
    closed : Below 0 (at ta t)
    closed_type : Below 0 (θ (at tr n.claim))

  argument_by : (ms : List Link) (n : Node) (t p : ℕ) (x : Name) (i : Global (Unit {0})) → is_typed_context (look ms n.ctx) ≡ true → at tr n.subject ≡ const x → find x F ≡ Some i → at tr n.claim ≡ i.type → w x ≡ Argument t p → ArgumentLine ms n t p
  argument_by ms n t p x i typed s found claim is =
      let (o, j, k) = subst (Interprets H a e f i) is (c.entries x i found) in
      record {
        typed = typed;
        judged = j ∙ ap (λ U. judgement e (empty_scope e) (at ta t) (θ U)) (sym claim);
        subject = ap θ s ∙ ap (term_of ta) is;
        closed = subst (Below 0) (ap (term_of ta) is) (c.closed x);
        closed_type = subst (λ U. Below 0 (θ U)) (sym claim) k;
      }

  argument_known : (ms : List Link) (n : Node) (t p : ℕ) → n.form ≡ ConstAt → replacement_in w (const_in (at tr n.subject)) ≡ Argument t p → fault S F ms (row_of_node tr n) ≡ None → ArgumentLine ms n t p
  argument_known ms n t p is o h =
      let l = row_of_node tr n in
      let g = all_pass (const_conditions F l (look ms n.ctx)) (ap (λ g. form_fault S F g l (look ms n.ctx) (look ms n.first) (look ms n.second) (look ms n.third)) (sym is) ∙ h) in
      let s : l.subject ≡ at tr n.subject = ap (λ g. if has_terms g then at tr n.subject else sort 0) is in
      let u : l.claim ≡ at tr n.claim = ap (λ g. if has_terms g then at tr n.claim else sort 0) is in
      let (x, i, q, found, claim) = entry_named F l.claim (const_in l.subject) g.1.0 g.1.1.0 g.1.1.1.0 in
      argument_by ms n t p x i g.0 (sym s ∙ const_is l.subject x q) found (sym u ∙ claim) (sym (ap (replacement_in w) (ap const_in (sym s) ∙ q)) ∙ o)

  here_placed : (ms qs : List Link) → Inv ms qs → (b : ℕ) → b < length ms → (d : ℕ) × (position (nat_eq e) (scope_of (look qs (ρ b))).trail ≡ Some d)
  here_placed ms qs v b l =
      let (d, h) = some_is (position (nat_eq e) (map ρ (scope_of (look ms b)).trail)) (v.ends b l) in
      (d, ap (λ m. position (nat_eq e) (scope_of m).trail) (v.maps b l) ∙ ap (λ s. position (nat_eq e) s.trail) (scope_im f ρ (look ms b)) ∙ h)

  argument_line : (ms qs : List Link) → Inv ms qs → (n : Node) (t p : ℕ) → n.ctx < length ms → ArgumentLine ms n t p → fault S H qs (row_of_node T (thinning n p)) ≡ None
  argument_line ms qs v n t p l g =
      let (d, found) = here_placed ms qs v n.ctx l in
      let low = there a p (judgement e (empty_scope e) (at ta t) (θ (at tr n.claim))) g.judged (λ h. cc h) (below_or p (length a.nodes)) in
      thinned (row_of_node T (thinning n p)) (look qs (ρ n.ctx)) (look qs p) d (at ta t) (θ (at tr n.claim))
      (ap is_typed_context (v.maps n.ctx l) ∙ typed_im f ρ (look ms n.ctx) ∙ g.typed) (v.old p low ∙ g.judged) found
      (at_new n.subject ∙ g.subject) (at_new n.claim) g.closed g.closed_type

  -- What a line says.
  made_image_of : (g : Form) (k : ℕ) (l : Plain) (b p q v : Link) → form_fault S F g l b p q v ≡ None → made_by g (ρ k) (row l) (im b) (im p) ≡ scope_image f ρ (made_by g k l b p)
  made_image_of Assume k l b p q v h = let o = (all_pass (assume_conditions p) h).0 in rw (place_judged f ρ p o, assumed_im f ρ p o, scope_im f ρ p) refl
  made_image_of Define k l b p q v h = let o = (all_pass (define_conditions p) h).0 in rw (place_judged f ρ p o, defined_im f ρ p o, scope_im f ρ p) refl
  made_image_of BareForm k l b p q v h = rw (scope_im f ρ b) refl
  made_image_of Empty k l b p q v h = refl
  made_image_of _ k l b p q v h = refl

  say_image : (i : FormKind) (g : Form) (k : ℕ) (l : Plain) (b p q v : Link) → form_fault S F g l b p q v ≡ None → say_of_kind i g (ρ k) (row l) (im b) (im p) ≡ im (say_of_kind i g k l b p)
  say_image Context g k l b p q v h = ap context (made_image_of g k l b p q v h)
  say_image Judgement g k l b p q v h = ap (λ s. judgement (ρ l.ctx) s (θ l.subject) (θ l.claim)) (scope_im f ρ b)
  say_image Comparison g k l b p q v h = ap (λ s. comparison (ρ l.ctx) s (θ l.subject) (θ l.claim)) (scope_im f ρ b)

  -- What is no context says the same under each number.
  say_anywhere : (i : FormKind) (g : Form) (k j : ℕ) (l : Plain) (b p c' p' : Link) → is_context (say_of_kind i g k l c' p') ≡ false → say_of_kind i g j (row l) b p ≡ say_of_kind i g (ρ k) (row l) b p
  say_anywhere Context g k j l b p c' p' n = absurd (cc n)
  say_anywhere Judgement g k j l b p c' p' n = refl
  say_anywhere Comparison g k j l b p c' p' n = refl

  -- What the line after n lines says for the node k: the image of what k says, if k has that number; and else the same
  -- but for its number.
  record SaysImage (j k : ℕ) (q m : Link) : Type 0 where
    numbered : ρ k ≡ j → q ≡ im m
    same : Says q m

  kept_say : (ms qs : List Link) → Inv ms qs → (n : Node) → AllBelow (length ms) (node_links n) → fault S F ms (row_of_node tr n) ≡ None → SaysImage (length qs) (length ms) (say qs (row_of_node T (kept_node (renumbered_node ρ (length a.shapes) n)))) (say ms (row_of_node tr n))
  kept_say ms qs v n b h =
      let l = row_of_node tr n in
      let N = renumbered_node ρ (length a.shapes) n in
      let linked : say qs (row_of_node T (kept_node N)) ≡ say_as n.form (length qs) (row l) (im (look ms n.ctx)) (im (look ms n.first)) =
      kept_says qs T N.form N.ctx N.subject N.claim N.first N.second N.third
      ∙ ap (say qs) (row_renumbered n)
      ∙ say_by_links n.form (length qs) (row l) (look qs (ρ n.ctx)) (look qs (ρ n.first)) (im (look ms n.ctx)) (im (look ms n.first)) (length ms) n.ctx n.first n.second n.third b (v.maps n.ctx) (v.maps n.first) in
      let is = say_image (kind_of n.form) n.form (length ms) l (look ms n.ctx) (look ms n.first) (look ms n.second) (look ms n.third) h in
      record {
        numbered = λ s. linked ∙ ap (λ j. say_as n.form j (row l) (im (look ms n.ctx)) (im (look ms n.first))) (sym s) ∙ is;
        same = (
          ap without_numbers linked ∙ same_said (length qs) (ρ (length ms)) (kind_of n.form) n.form (row l) (im (look ms n.ctx)) (im (look ms n.first)) ∙ ap without_numbers is,
          λ o. linked ∙ say_anywhere (kind_of n.form) n.form (length ms) (length qs) l (im (look ms n.ctx)) (im (look ms n.first)) (look ms n.ctx) (look ms n.first) o ∙ is,
        );
      }

  argument_say : (ms qs : List Link) → Inv ms qs → (n : Node) (p : ℕ) → n.ctx < length ms → n.form ≡ ConstAt → say qs (row_of_node T (thinning n p)) ≡ im (say ms (row_of_node tr n))
  argument_say ms qs v n p l is =
      let m = row_of_node tr n in
      let s : m.subject ≡ at tr n.subject = ap (λ g. if has_terms g then at tr n.subject else sort 0) is in
      let u : m.claim ≡ at tr n.claim = ap (λ g. if has_terms g then at tr n.claim else sort 0) is in
      ap (λ q. judgement (ρ n.ctx) (scope_of q) (at T (length a.shapes + n.subject)) (at T (length a.shapes + n.claim))) (v.maps n.ctx l)
      ∙ ap (λ o. judgement (ρ n.ctx) o (at T (length a.shapes + n.subject)) (at T (length a.shapes + n.claim))) (scope_im f ρ (look ms n.ctx))
      ∙ ap₂ (λ x y. judgement (ρ n.ctx) (scope_image f ρ (scope_of (look ms n.ctx))) x y) (at_new n.subject ∙ ap θ (sym s)) (at_new n.claim ∙ ap θ (sym u))
      ∙ ap (λ g. im (say_as g (length ms) m (look ms n.ctx) (look ms n.first))) (sym is)

  made_ends : (g : Form) (k : ℕ) (l : Plain) (b p : Link) (n x y z u : ℕ) → AllBelow n (contexts_as g x ++ premises_as g y z u) → (x < n → Ends b) → (y < n → Ends p) → kind_of g ≡ Context → (is_empty_form g ≡ true → ρ k ≡ e) → is_some (position (nat_eq e) (map ρ (made_by g k l b p).trail)) ≡ true
  made_ends Assume k l b p n x y z u i h j c s = still_placed e (ρ k) (map ρ (scope_of p).trail) (j i.0)
  made_ends Define k l b p n x y z u i h j c s = still_placed e (ρ k) (map ρ (scope_of p).trail) (j i.0)
  made_ends BareForm k l b p n x y z u i h j c s = still_placed e (ρ k) (map ρ (scope_of b).trail) (h i.0)
  made_ends Empty k l b p n x y z u i h j c s = ap is_some (position_first e (ρ k) [] (ap (nat_eq e) (s refl) ∙ nat_eq_self e))
  made_ends _ k l b p n x y z u i h j c s = absurd (cc c)

  -- What is no context has one.
  context_below : (g : Form) (n x y z u : ℕ) → (kind_of g ≡ Context → ⊥) → AllBelow n (contexts_as g x ++ premises_as g y z u) → x < n
  context_below Empty n x y z u c i = absurd (c refl)
  context_below Assume n x y z u c i = absurd (c refl)
  context_below Define n x y z u c i = absurd (c refl)
  context_below _ n x y z u c i = i.0

  say_ends : (i : FormKind) (g : Form) (k : ℕ) (l : Plain) (b p : Link) (n x y z u : ℕ) → kind_of g ≡ i → AllBelow n (contexts_as g x ++ premises_as g y z u) → (x < n → Ends b) → (y < n → Ends p) → (is_empty_form g ≡ true → ρ k ≡ e) → Ends (say_of_kind i g k l b p)
  say_ends Context g k l b p n x y z u o i h j s = made_ends g k l b p n x y z u i h j o s
  say_ends Judgement g k l b p n x y z u o i h j s = h (context_below g n x y z u (λ q. cc (sym o ∙ q)) i)
  say_ends Comparison g k l b p n x y z u o i h j s = h (context_below g n x y z u (λ q. cc (sym o ∙ q)) i)

  -- One line more.
  module _ (ms qs : List Link) (v : Inv ms qs) (n n' : Node) (few : length ms < length r.nodes) (here : is_empty_node r.nodes (length ms) ≡ is_empty_form n.form) (b : AllBelow (length ms) (node_links n))
      (is_told : told r (length ms) ≡ say ms (row_of_node tr n)) (says : SaysImage (length qs) (length ms) (say qs (row_of_node T n')) (say ms (row_of_node tr n))) where
    abbrev m1 : Link
    m1 = say ms (row_of_node tr n)

    abbrev q1 : Link
    q1 = say qs (row_of_node T n')

    maps_old : (k : ℕ) → k < length ms → look (qs ++ q1 ∷ []) (ρ k) ≡ im (look (ms ++ m1 ∷ []) k)
    maps_old k h = look_before qs (q1 ∷ []) (ρ k) (v.below k h) ∙ v.maps k h ∙ ap im (sym (look_before ms (m1 ∷ []) k h))

    -- The new line's number is its place, or that of a node which says its image.
    new_at : (ρ (length ms) ≡ length a.nodes + length ms) ⊎ ((ρ (length ms) < length a.nodes) × (told a (ρ (length ms)) ≡ im (told r (length ms)))) → (ρ (length ms) < length (qs ++ q1 ∷ [])) × (look (qs ++ q1 ∷ []) (ρ (length ms)) ≡ im m1)
    new_at (inl o) =
        let l = v.long in let z = one_longer qs q1 in
        let s : ρ (length ms) ≡ length qs = o ∙ sym l in
        (omega (arith, l, z, o), ap (look (qs ++ q1 ∷ [])) s ∙ look_at qs q1 [] ∙ says.numbered s)
    new_at (inr (o, t)) =
        let l = v.long in let z = one_longer qs q1 in
        (omega (arith, l, z, o), look_before qs (q1 ∷ []) (ρ (length ms)) (omega (arith, l, o)) ∙ v.old (ρ (length ms)) o ∙ t ∙ ap im is_told)

    new_line : (ρ (length ms) < length (qs ++ q1 ∷ [])) × (look (qs ++ q1 ∷ []) (ρ (length ms)) ≡ im m1)
    new_line = new_at (leads (length ms) few)

    maps_all : (k : ℕ) → (k < length ms) ⊎ (k ≡ length ms) → look (qs ++ q1 ∷ []) (ρ k) ≡ im (look (ms ++ m1 ∷ []) k)
    maps_all k (inl h) = maps_old k h
    maps_all k (inr h) = subst (λ j. look (qs ++ q1 ∷ []) (ρ j) ≡ im (look (ms ++ m1 ∷ []) j)) (sym h) (new_line.1 ∙ ap im (sym (look_at ms m1 [])))

    below_all : (k : ℕ) → (k < length ms) ⊎ (k ≡ length ms) → ρ k < length (qs ++ q1 ∷ [])
    below_all k (inl h) = let l = v.below k h in let z = one_longer qs q1 in omega (arith, l, z)
    below_all k (inr h) = subst (λ j. ρ j < length (qs ++ q1 ∷ [])) (sym h) new_line.0

    own_all : (k : ℕ) → (k < length ms) ⊎ (k ≡ length ms) → Says (look (qs ++ q1 ∷ []) (length a.nodes + k)) (look (ms ++ m1 ∷ []) k)
    own_all k (inl h) =
        let l = v.long in
        let x = look_before qs (q1 ∷ []) (length a.nodes + k) (omega (arith, l, h)) in
        subst (λ q. Says q (look (ms ++ m1 ∷ []) k)) (sym x) (subst (Says (look qs (length a.nodes + k))) (sym (look_before ms (m1 ∷ []) k h)) (v.own k h))
    own_all k (inr h) =
        let s : length a.nodes + k ≡ length qs = ap (λ j. length a.nodes + j) h ∙ sym v.long in
        subst (λ q. Says q (look (ms ++ m1 ∷ []) k)) (sym (ap (look (qs ++ q1 ∷ [])) s ∙ look_at qs q1 []))
        (subst (Says q1) (sym (ap (look (ms ++ m1 ∷ [])) h ∙ look_at ms m1 [])) says.same)

    ends_new : Ends m1
    ends_new = say_ends (kind_of n.form) n.form (length ms) (row_of_node tr n) (look ms n.ctx) (look ms n.first) (length ms) n.ctx n.first n.second n.third refl b (v.ends n.ctx) (v.ends n.first) (λ h. empties (length ms) (here ∙ h))

    ends_all : (k : ℕ) → (k < length ms) ⊎ (k ≡ length ms) → Ends (look (ms ++ m1 ∷ []) k)
    ends_all k (inl h) = subst Ends (sym (look_before ms (m1 ∷ []) k h)) (v.ends k h)
    ends_all k (inr h) = subst Ends (sym (ap (look (ms ++ m1 ∷ [])) h ∙ look_at ms m1 [])) ends_new

    more : Inv (ms ++ m1 ∷ []) (qs ++ q1 ∷ [])
    more =
        let split : (k : ℕ) → k < length (ms ++ m1 ∷ []) → (k < length ms) ⊎ (k ≡ length ms) = λ k h. earlier_or k (length ms) (length (ms ++ m1 ∷ [])) (one_longer ms m1) h in
        record {
          long = let x = one_longer ms m1 in let y = one_longer qs q1 in let l = v.long in omega (arith, x, y, l);
          old = λ k h. look_before qs (q1 ∷ []) k (let l = v.long in omega (arith, l, h)) ∙ v.old k h;
          below = λ k h. below_all k (split k h);
          maps = λ k h. maps_all k (split k h);
          own = λ k h. own_all k (split k h);
          falls = fall_more qs (row_of_node T n') v.falls;
          ends = λ k h. ends_all k (split k h);
        }

  -- The context of a constant is among its links.
  first_below : (g : Form) (n x y z u : ℕ) → g ≡ ConstAt → AllBelow n (contexts_as g x ++ premises_as g y z u) → x < n
  first_below g n x y z u is b = (subst (λ g. AllBelow n (contexts_as g x ++ premises_as g y z u)) is b).0

  record LineImage (ms qs : List Link) (n n' : Node) : Type 0 where
    faultless_line : fault S H qs (row_of_node T n') ≡ None
    says_image : SaysImage (length qs) (length ms) (say qs (row_of_node T n')) (say ms (row_of_node tr n))

  line_image : (ms qs : List Link) → Inv ms qs → (n : Node) → AllBelow (length ms) (node_links n) → fault S F ms (row_of_node tr n) ≡ None → LineImage ms qs n (image n)
  line_image ms qs v n b h = by_kind (image_kind n.form (renumbered_node ρ (length a.shapes) n) (replacement_in w (const_in (at tr n.subject))))
    where
      by_kind : ((image n ≡ kept_node (renumbered_node ρ (length a.shapes) n)) × (n.form ≡ ConstAt → (y : Name) × (replacement_in w (const_in (at tr n.subject)) ≡ Constant y))) ⊎ ((t : ℕ) × (p : ℕ) × (n.form ≡ ConstAt) × (replacement_in w (const_in (at tr n.subject)) ≡ Argument t p)) → LineImage ms qs n (image n)
      by_kind (inl k) = subst (LineImage ms qs n) (sym k.0) (record { faultless_line = kept_line ms qs v n b k.1 h; says_image = kept_say ms qs v n b h })
      by_kind (inr k) =
          let (t, p, is, o) = k in
          let l = first_below n.form (length ms) n.ctx n.first n.second n.third is b in
          let x : image n ≡ thinning n p = ap₂ (λ g i. image_as g (renumbered_node ρ (length a.shapes) n) i) is o in
          let s = argument_say ms qs v n p l is in
          subst (LineImage ms qs n) (sym x) (record {
            faultless_line = argument_line ms qs v n t p l (argument_known ms n t p is o h);
            says_image = record { numbered = λ q. s; same = (ap without_numbers s, λ q. s) };
          })

  abbrev rows : List Node → List Plain
  rows ns = map (row_of_node tr) ns

  abbrev image_rows : List Node → List Plain
  image_rows ns = map (row_of_node T) (map image ns)

  told_middle : (ms : List Link) (n : Node) (ns : List Node) → said_behind ms (rows (n ∷ ns)) ≡ said_behind [] (rows_of r) → told r (length ms) ≡ say ms (row_of_node tr n)
  unfolding told
  told_middle ms n ns whole =
      let m1 = say ms (row_of_node tr n) in
      let z = one_longer ms m1 in
      ap (λ qs. look qs (length ms)) (sym whole) ∙ said_stays (ms ++ m1 ∷ []) (rows ns) (length ms) (omega (arith, z)) ∙ look_at ms m1 []

  images_after : (ms qs : List Link) (done ns : List Node) → done ++ ns ≡ r.nodes → length done ≡ length ms → said_behind ms (rows ns) ≡ said_behind [] (rows_of r) → Inv ms qs → NodesLinked (length r.shapes) (length ms) ns → first_fault_behind S F ms (rows ns) ≡ None →
      (first_fault_behind S H qs (image_rows ns) ≡ None) × Inv (said_behind ms (rows ns)) (said_behind qs (image_rows ns))
  images_after ms qs done [] all long whole v b h = (refl, v)
  images_after ms qs done (n ∷ ns) all long whole v b h =
      let (p, q) = faultless S F ms (row_of_node tr n) (rows ns) h in
      let here : is_empty_node r.nodes (length ms) ≡ is_empty_form n.form = ap₂ is_empty_node (sym all) (sym long) ∙ empty_middle done n ns in
      let few : length ms < length r.nodes = (let x = ap length (sym all) in let y = length-append done (n ∷ ns) in omega (arith, long, x, y)) in
      let i = line_image ms qs v n b.0.0 p in
      let m1 = say ms (row_of_node tr n) in
      let next : length (ms ++ m1 ∷ []) ≡ suc (length ms) = one_longer ms m1 in
      let (z, j) = images_after (ms ++ m1 ∷ []) (qs ++ say qs (row_of_node T (image n)) ∷ []) (done ++ n ∷ []) ns (append_assoc done (n ∷ []) ns ∙ all) (length-append done (n ∷ []) ∙ omega (arith, long, next)) whole
      (more ms qs v n (image n) few here b.0.0 (told_middle ms n ns whole) i.says_image) (subst (λ k. NodesLinked (length r.shapes) k ns) (sym next) b.1) q in
      (rw i.faultless_line z, j)

  first_inv : Inv [] (said_behind [] (rows_of a))
  unfolding told
  first_inv = record {
    long = let x = said_length [] (rows_of a) in let y = lines_long a in omega (arith, x, y);
    old = λ k h. refl;
    below = λ k h. absurd (omega (arith, h));
    maps = λ k h. absurd (omega (arith, h));
    own = λ k h. absurd (omega (arith, h));
    falls = fall_after [] (rows_of a) fall_first;
    ends = λ k h. absurd (omega (arith, h));
  }

  all_rows : rows_of (with_image a w ρ r) ≡ rows_of a ++ image_rows r.nodes
  all_rows = map-append (row_of_node T) a.nodes (map image r.nodes) ∙ ap (λ ls. ls ++ image_rows r.nodes) rows_first

  module _ (linked : IsLinked r) (vr : IsValid S F r) where
    all_images : (first_fault_behind S H (said_behind [] (rows_of a)) (image_rows r.nodes) ≡ None) × Inv (said_behind [] (rows_of r)) (said_behind (said_behind [] (rows_of a)) (image_rows r.nodes))
    unfolding first_fault
    all_images = images_after [] (said_behind [] (rows_of a)) [] r.nodes refl refl refl first_inv linked.nodes vr

    pub image_valid : IsValid S H (with_image a w ρ r)
    unfolding first_fault
    image_valid = ap (first_fault_behind S H []) all_rows ∙ faultless_parts S H [] (rows_of a) (image_rows r.nodes) va all_images.0

    said_image_rows : (k : ℕ) → told (with_image a w ρ r) k ≡ look (said_behind (said_behind [] (rows_of a)) (image_rows r.nodes)) k
    unfolding told
    said_image_rows k = ap (λ ls. look (said_behind [] ls) k) all_rows ∙ ap (λ qs. look qs k) (said_parts [] (rows_of a) (image_rows r.nodes))

    short : (k : ℕ) → k < length r.nodes → k < length (said_behind [] (rows_of r))
    short k h = let x = said_length [] (rows_of r) in let y = lines_long r in omega (arith, h, x, y)

    -- A new number says the image of what the node said.
    pub told_image : (k : ℕ) → k < length r.nodes → told (with_image a w ρ r) (ρ k) ≡ im (told r k)
    unfolding told
    told_image k h = said_image_rows (ρ k) ∙ all_images.1.maps k (short k h)

    -- The place of an image says the same but for its number.
    pub told_own : (k : ℕ) → k < length r.nodes → Says (told (with_image a w ρ r) (length a.nodes + k)) (told r k)
    unfolding told
    told_own k h = subst (λ q. Says q (told r k)) (sym (said_image_rows (length a.nodes + k))) (all_images.1.own k (short k h))

    -- What was said before is said.
    pub told_before : (k : ℕ) → k < length a.nodes → told (with_image a w ρ r) k ≡ told a k
    told_before k h = said_image_rows k ∙ all_images.1.old k h

    pub root_stays : told (with_image a w ρ r) e ≡ context (empty_scope e)
    root_stays = told_before e root_below ∙ c.empty
