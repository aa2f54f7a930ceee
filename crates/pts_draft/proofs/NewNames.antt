-- A draft under a new name: the names of its scope still differ, and its declarations may still follow its front.
use Rattle.std.proofs.Common.{◌≡◌, ◌<◌, ◌+◌, ℕ, List, [], ◌∷◌, ◌++◌, map, drop, Bool, true, false, Some, refl, sym, ap, ◌∙◌, subst}
use Rattle.std.specs.Prelude.{◌||◌, length, slice_index_or, if◌then◌else◌}
use Rattle.std.specs.Option.{option_map}
use Rattle.std.proofs.lemmas.List.{append-nil, append_assoc, map-append, drop_more}
use mathlib.Core.Path.{ap₂}
use Rattle.pts_names.specs.Name.{Name, same_name}
use Rattle.pts_names.proofs.Same.{same_name-true}
use Rattle.pts_terms.specs.Seen.{named}
use Rattle.pts_terms.proofs.Lifting.{ap₃}
use Rattle.pts_ctx.specs.System.{Specification}
use Rattle.pts_ctx.specs.Front.{Global, Fresh, find, bare_global, bare_front}
use Rattle.pts_ctx.specs.Seen.{NamesDiffer, global_within}
use Rattle.pts_ctx.proofs.Lookups.{same_name-sym, find-none, place-fresh, fresh-front, fresh-before, fresh-right}
use Rattle.pts_record.specs.declared.declaration.Declaration.{Declaration}
use Rattle.pts_record.specs.Renaming.{renamed_record}
use Rattle.pts_rules.specs.Valid.{IsValid, concludes}
use Rattle.pts_check.specs.Entered.{declared, bare_declared, declared_entries, MayEnter, MayFollow}
use Rattle.pts_check.proofs.Entering.{fresh_bare}
use Rattle.pts_image.specs.Renaming.{new_name, renamed_term, renamed_entry, Renames}
use Rattle.pts_image.proofs.Renamed.{renamed_valid, renamed_concludes}
use Rattle.pts_image.proofs.RenamedFronts.{differ}
use Rattle.pts_image.proofs.RenamedTerms.{bare_renamed_entry, entry_within_renamed}
use Rattle.pts_image.proofs.Fixed.{base_renamed, renames_more}
use Rattle.pts_core.specs.Replies.{LabelledFront}
use Rattle.pts_core.proofs.Places.{in_neither, not_in_parts}
use Rattle.pts_draft.specs.Drafts.{KeepsDraft}
use Rattle.pts_draft.specs.Renaming.{declares, proofs_of, AreRenamed}

-- The name of an entry is fresh in what is before it.
head_fresh : (H : List (Global Name)) (e : Global Name) (E : List (Global Name)) → NamesDiffer (H ++ e ∷ E) → Fresh e.name H
head_fresh H e E n = subst (Fresh e.name) (append-nil H) (fresh-before H (e ∷ E) 0 e refl n)

module _ (g : Name → Name) where
  abbrev pub new_entries : List Declaration → List (Global Name)
  new_entries ds = map (renamed_entry g) (declared_entries ds)

  pub declared_renamed : (d e : Declaration) → e.name ≡ g d.name → option_map named e.body ≡ option_map (renamed_term g) (option_map named d.body) → named e.ty ≡ renamed_term g (named d.ty) → declared e ≡ renamed_entry g (declared d)
  declared_renamed d e n b t = ap₃ (λ x a A. record { name = x; body = a; type = A }) n b t

  -- The next of the declarations, where G is a scope with the entries of those before it under their new names.
  pub next_fresh : (F G : List (Global Name)) (ds : List Declaration) (i : ℕ) (d : Declaration) → i < length ds → d ≡ slice_index_or ds i d → G ++ new_entries (drop i ds) ≡ F ++ new_entries ds → NamesDiffer (F ++ new_entries ds) → Fresh (g d.name) G
  next_fresh F G ds i d l at same n =
      let rest : drop i ds ≡ d ∷ drop (i + 1) ds = drop_more ds i d l ∙ ap (λ e. e ∷ drop (i + 1) ds) (sym at) in
      head_fresh G (renamed_entry g (declared d)) (new_entries (drop (i + 1) ds)) (subst NamesDiffer (ap (λ es. G ++ new_entries es) rest) (subst NamesDiffer (sym same) n))

  enter_renamed : (S : Specification) (F H : List (Global Name)) (d e : Declaration) → Renames g (bare_front F) (bare_front H) → MayEnter S F d → declared e ≡ renamed_entry g (declared d) → e.proof ≡ renamed_record g d.proof → Fresh e.name H → MayEnter S H e
  enter_renamed S F H d e n m p q f =
      let bare_is : bare_declared e ≡ renamed_entry g (bare_declared d) = ap bare_global p ∙ bare_renamed_entry g (declared d) in
      record {
        fresh = f;
        within = ap global_within p ∙ (entry_within_renamed g (declared d) ∙ m.within);
        valid = subst (IsValid S (bare_front H)) (sym q) (renamed_valid S (bare_front F) (bare_front H) g d.proof n m.valid);
        concluded = ap₂ concludes q bare_is ∙ renamed_concludes g d.proof (bare_declared d) m.concluded;
      }

  more_renamed : (F H : List (Global Name)) (d e : Declaration) → Renames g (bare_front F) (bare_front H) → declared e ≡ renamed_entry g (declared d) → Fresh e.name H → Renames g (bare_front (F ++ declared d ∷ [])) (bare_front (H ++ declared e ∷ []))
  more_renamed F H d e n p f =
      let bare_is : bare_declared e ≡ renamed_entry g (bare_declared d) = ap bare_global p ∙ bare_renamed_entry g (declared d) in
      let fresh = fresh_bare (g d.name) H (subst (λ x. Fresh x H) (ap (λ i. i.name) p) f) in
      let more = renames_more g (bare_front F) (bare_front H) (bare_declared d) n fresh in
      subst (λ G. Renames g G (bare_front (H ++ declared e ∷ []))) (sym (map-append bare_global F (declared d ∷ [])))
      (subst (Renames g (bare_front F ++ bare_declared d ∷ [])) (ap (λ i. bare_front H ++ i ∷ []) (sym bare_is) ∙ sym (map-append bare_global H (declared e ∷ []))) more)

  -- What may follow the front F may follow the front H with new names.
  pub renamed_follow : (S : Specification) (F H : List (Global Name)) (ds es : List Declaration) → Renames g (bare_front F) (bare_front H) → MayFollow S F ds → declared_entries es ≡ new_entries ds → proofs_of es ≡ map (renamed_record g) (proofs_of ds) → NamesDiffer (H ++ declared_entries es) → MayFollow S H es
  renamed_follow S F H [] [] n m p q w = tt
  renamed_follow S F H [] (e ∷ es) n m p q w = absurd (cc p)
  renamed_follow S F H (d ∷ ds) [] n m p q w = absurd (cc p)
  renamed_follow S F H (d ∷ ds) (e ∷ es) n m p q w =
      let here : declared e ≡ renamed_entry g (declared d) = cc p in
      let rest : declared_entries es ≡ new_entries ds = cc p in
      let proof_here : e.proof ≡ renamed_record g d.proof = cc q in
      let proof_rest : proofs_of es ≡ map (renamed_record g) (proofs_of ds) = cc q in
      let fresh = head_fresh H (declared e) (declared_entries es) w in (
        enter_renamed S F H d e n m.0 here proof_here fresh,
        renamed_follow S (F ++ declared d ∷ []) (H ++ declared e ∷ []) ds es (more_renamed F H d e n here fresh) m.1 rest proof_rest
            (subst NamesDiffer (sym (append_assoc H (declared e ∷ []) (declared_entries es))) w),
      )

-- A name that is declared is not the name of what is fresh, and does not exist in the front.
declared_apart : (y x : Name) (ds : List Declaration) → Fresh y (declared_entries ds) → declares ds x ≡ true → same_name y x ≡ false
declared_apart y x [] f h = absurd (cc h)
declared_apart y x (d ∷ ds) f h =
    let (here, rest) = fresh-front y (declared d) (declared_entries ds) f in
    by (same_name x d.name) refl h here (declared_apart y x ds rest)
  where
    by : (b : Bool) → same_name x d.name ≡ b → (b || declares ds x) ≡ true → same_name y d.name ≡ false → (declares ds x ≡ true → same_name y x ≡ false) → same_name y x ≡ false
    by true q h here later = ap (same_name y) (same_name-true x d.name q) ∙ here
    by false q h here later = later h

pub not_in_front : (x : Name) (F : List (Global Name)) (ds : List Declaration) → declares ds x ≡ true → NamesDiffer (F ++ declared_entries ds) → Fresh x F
unfolding find
not_in_front x [] ds h n = refl
not_in_front x (e ∷ F) ds h n =
    ap (λ b. if b then Some e else find x F) (same_name-sym x e.name ∙ declared_apart e.name x ds (fresh-right e.name F (declared_entries ds) n.0) h)
    ∙ not_in_front x F ds h n.1

fresh_left : (x : Name) (F D : List (Global Name)) → Fresh x (F ++ D) → Fresh x F
fresh_left x F D f = find-none x F (not_in_parts x F D (place-fresh x (F ++ D) f)).0

fresh_both : (x : Name) (F D : List (Global Name)) → Fresh x F → Fresh x D → Fresh x (F ++ D)
fresh_both x F D f h = find-none x (F ++ D) (in_neither x F D (place-fresh x F f) (place-fresh x D h))

module _ (old new : Name) where
  abbrev pub g : Name → Name
  g = new_name old new

  stays : (x : Name) → same_name old x ≡ false → g x ≡ x
  stays x h = ap (λ b. if b then new else x) h

  fresh_renamed : (x : Name) (D : List (Global Name)) → Fresh x D → Fresh new D → same_name x new ≡ false → Fresh (g x) (map (renamed_entry g) D)
  unfolding find
  fresh_renamed x [] f n o = refl
  fresh_renamed x (d ∷ D) f n o =
      let (here, rest) = fresh-front x d D f in
      let (new_here, new_rest) = fresh-front new d D n in
      ap (λ b. if b then Some (renamed_entry g d) else find (g x) (map (renamed_entry g) D)) (differ old new x d.name here new_here o)
      ∙ fresh_renamed x D rest new_rest o

  both_differ : (D : List (Global Name)) → NamesDiffer D → Fresh new D → NamesDiffer (map (renamed_entry g) D)
  both_differ [] n f = tt
  both_differ (d ∷ D) n f =
      let (here, rest) = fresh-front new d D f in
      (fresh_renamed d.name D n.0 rest (same_name-sym d.name new ∙ here), both_differ D n.1 rest)

  pub renamed_differ : (F D : List (Global Name)) → NamesDiffer (F ++ D) → Fresh old F → Fresh new (F ++ D) → NamesDiffer (F ++ map (renamed_entry g) D)
  renamed_differ [] D n o f = both_differ D n f
  renamed_differ (e ∷ F) D n o f =
      let (new_here, new_rest) = fresh-front new e (F ++ D) f in
      let (old_here, old_rest) = fresh-front old e F o in
      let right = fresh_renamed e.name D (fresh-right e.name F D n.0) (fresh-right new F D new_rest) (same_name-sym e.name new ∙ new_here) in (
        fresh_both e.name F (map (renamed_entry g) D) (fresh_left e.name F D n.0) (subst (λ y. Fresh y (map (renamed_entry g) D)) (stays e.name old_here) right),
        renamed_differ F D n.1 old_rest new_rest,
      )

  -- The draft with the front F and the declarations ds, one of which has the old name, and its scope G, in which the new one is free.
  module _ (S : Specification) (F G : LabelledFront) (ds : List Declaration) (k : KeepsDraft S F G ds) (there : declares ds old ≡ true) (free : Fresh new G.entries) (orderly : NamesDiffer G.entries) where
    scope_differ : NamesDiffer (F.entries ++ declared_entries ds)
    scope_differ = subst NamesDiffer k.scope_entries orderly

    old_free : Fresh old F.entries
    old_free = not_in_front old F.entries ds there scope_differ

    pub kept_differ : NamesDiffer (F.entries ++ map (renamed_entry g) (declared_entries ds))
    kept_differ = renamed_differ F.entries (declared_entries ds) scope_differ old_free (subst (Fresh new) k.scope_entries free)

    front_stays : Renames g (bare_front F.entries) (bare_front F.entries)
    front_stays = base_renamed S (bare_front F.entries) (bare_front F.entries) g k.sure.legal (λ x e p. p) stay
      where
        stay : (x : Name) (e : Global (Unit {0})) → find x (bare_front F.entries) ≡ Some e → g x ≡ x
        stay x e p = by (same_name old x) refl
          where
            by : (b : Bool) → same_name old x ≡ b → g x ≡ x
            by true q = absurd (cc (sym p ∙ (ap (λ y. find y (bare_front F.entries)) (sym (same_name-true old x q)) ∙ fresh_bare old F.entries old_free)))
            by false q = stays x q

    pub kept_renamed : (es : List Declaration) (H : LabelledFront) → AreRenamed g ds es → H.entries ≡ F.entries ++ map (renamed_entry g) (declared_entries ds) → H.labels ≡ F.labels → KeepsDraft S F H es
    kept_renamed es H a h l = record {
      sure = record {
        legal = k.sure.legal;
        follow =
            renamed_follow g S F.entries F.entries ds es front_stays k.sure.follow a.entries a.proofs
            (subst (λ E. NamesDiffer (F.entries ++ E)) (sym a.entries) kept_differ);
      };
      scope_entries = h ∙ ap (λ E. F.entries ++ E) (sym a.entries);
      scope_labels = l;
    }
