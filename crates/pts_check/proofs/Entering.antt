-- Declarations without a fault, and fronts to which declarations are added.
use Rattle.std.proofs.Common.{◌≡◌, ℕ, List, [], ◌∷◌, ◌++◌, Bool, true, false, Option, Some, None, refl, sym, ap, ◌∙◌, subst}
use Rattle.std.specs.Option.{option_map}
use Rattle.std.proofs.lemmas.List.{append-nil, append_assoc, map-append}
use Rattle.pts_names.specs.Name.{Name}
use Rattle.pts_ctx.specs.System.{Specification}
use Rattle.pts_ctx.specs.Front.{Global, Fresh, bare_global, bare_front}
use Rattle.pts_record.specs.Table.{Tables}
use Rattle.pts_record.specs.declared.declaration.Declaration.{Declaration}
use Rattle.pts_rules.specs.declared.why.Why.{Why}
use Rattle.pts_rules.specs.Derives.{Legal}
use Rattle.pts_rules.specs.Valid.{IsValid, first_fault, concludes}
use Rattle.pts_rules.proofs.HeadBare.{find_bare}
use Rattle.pts_rules.proofs.Sound.{conclusion_legal}
use Rattle.pts_check.specs.Entered.{declared, declared_entries, unless_concluded, or_conclusion, declaration_fault, MayEnter, MayFollow}

concluded_by : (r : Tables) (b : Bool) → unless_concluded r b ≡ None → b ≡ true
concluded_by r true h = refl
concluded_by r false h = cc

neither : (r : Tables) (e : Global Name) (o : Option (ℕ × Why)) → or_conclusion r e o ≡ None → (o ≡ None) × (concludes r (bare_global e) ≡ true)
neither r e (Some f) h = cc
neither r e None h = (refl, concluded_by r (concludes r (bare_global e)) h)

-- A record without a fault is valid, and concludes its entry.
pub without_fault : (S : Specification) (G : List (Global Name)) (r : Tables) (e : Global Name) → declaration_fault S G r e ≡ None → IsValid S (bare_front G) r × (concludes r (bare_global e) ≡ true)
unfolding declaration_fault
without_fault S G r e h = neither r e (first_fault S (bare_front G) r) h

-- A name that is new is new without printed names.
pub fresh_bare : (x : Name) (G : List (Global Name)) → Fresh x G → Fresh x (bare_front G)
fresh_bare x G f = find_bare x G ∙ ap (option_map bare_global) f

-- One more declaration follows.
pub follow_more : (S : Specification) (ds : List Declaration) (G : List (Global Name)) (d : Declaration) → MayFollow S G ds → MayEnter S (G ++ declared_entries ds) d → MayFollow S G (ds ++ d ∷ [])
follow_more S [] G d h m = (subst (λ H. MayEnter S H d) (append-nil G) m, tt)
follow_more S (e ∷ ds) G d h m = (h.0, follow_more S ds (G ++ declared e ∷ []) d h.1 (subst (λ H. MayEnter S H d) (sym (append_assoc G (declared e ∷ []) (declared_entries ds))) m))

-- A legal front stays legal as declarations enter.
pub enter_legal : (S : Specification) (G : List (Global Name)) (d : Declaration) → MayEnter S G d → Legal S (bare_front G) → Legal S (bare_front (G ++ declared d ∷ []))
enter_legal S G d m l = subst (Legal S) (sym (map-append bare_global G (declared d ∷ []))) (conclusion_legal S (bare_front G) d.proof (bare_global (declared d)) l m.valid (fresh_bare d.name G m.fresh) m.concluded)

pub follow_legal : (S : Specification) (ds : List Declaration) (G : List (Global Name)) → MayFollow S G ds → Legal S (bare_front G) → Legal S (bare_front (G ++ declared_entries ds))
follow_legal S [] G h l = subst (λ H. Legal S (bare_front H)) (sym (append-nil G)) l
follow_legal S (d ∷ ds) G h l = subst (λ H. Legal S (bare_front H)) (append_assoc G (declared d ∷ []) (declared_entries ds)) (follow_legal S ds (G ++ declared d ∷ []) h.1 (enter_legal S G d h.0 l))
