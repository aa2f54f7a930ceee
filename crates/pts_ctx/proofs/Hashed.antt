-- The place of a name, found by its hash.
use Rattle.std.proofs.Common.{◌≡◌, ℕ, zero, suc, ◌+◌, ◌≤◌, ◌<◌, Bool, true, false, if◌then◌else◌, nat_eq, List, [], ◌∷◌, ◌++◌, length, take, drop, get_or, slice_get, Some, None, refl, sym, ap, ◌∙◌, subst, arith}
use Rattle.std.specs.Option.{option_map}
use Rattle.std.proofs.lemmas.List.{map-append, take-map, drop-map, take-append-drop, length-take-le, length-map}
use Rattle.std.proofs.lemmas.Option.{get_or_from_slice_get, slice_get-map, slice_get_within}
use Rattle.pts_names.specs.Name.{Name, same_name}
use Rattle.pts_names.proofs.Same.{same_name-true}
use Rattle.pts_ctx.specs.Front.{Global, Fresh}
use Rattle.pts_ctx.specs.Seen.{place_of, NamesDiffer}
use Rattle.pts_ctx.specs.Index.{hash_of, hashes_of, last_before}
use Rattle.pts_ctx.specs.Chunks.{IsPart}
use Rattle.std.proofs.Math.Seq.{take-length}
use Rattle.pts_ctx.proofs.Chains.{last-inside, last-passes, last-twice}
use Rattle.pts_ctx.proofs.Clashes.{equal-numbers}
use Rattle.pts_ctx.proofs.Find.{some_same}
use Rattle.pts_ctx.proofs.Lookups.{differ-behind, differ-left, differ-right, place-right}
use Rattle.pts_ctx.proofs.Parts.{around}
use Rattle.pts_ctx.proofs.Positions.{position-step}

pub hash-at : (G : List (Global Name)) (k : ℕ) (e : Global Name) → slice_get G k ≡ Some e → get_or (hashes_of G) k 0 ≡ hash_of e.name
hash-at G k e at =
    get_or_from_slice_get (hashes_of G) k (hash_of e.name) 0 (slice_get-map (λ d. hash_of d.name) G k ∙ ap (option_map (λ d. hash_of d.name)) at)

-- An entry with another hash has another name.
other-name : (x y : Name) → nat_eq (hash_of x) (hash_of y) ≡ false → same_name x y ≡ false
other-name x y other = by (same_name x y) refl
  where
    by : (b : Bool) → same_name x y ≡ b → b ≡ false
    by false e = refl
    by true e = absurd (cc (sym other ∙ ap (λ z. nat_eq (hash_of x) (hash_of z)) (sym (same_name-true x y e)) ∙ itself (hash_of x)))
      where
        itself : (n : ℕ) → nat_eq n n ≡ true
        itself n = grind arith

-- One more entry, which has another name.
pub pass : (x : Name) (G : List (Global Name)) (n : ℕ) → ((e : Global Name) → slice_get G n ≡ Some e → same_name x e.name ≡ false) → place_of x (take (suc n) G) ≡ place_of x (take n G)
pass x [] zero other = refl
pass x [] (suc n) other = refl
pass x (d ∷ G) zero other = position-step (λ e. same_name x e.name) d [] ∙ ap (λ b. if b then Some 0 else None) (other d refl)
pass x (d ∷ G) (suc n) other =
    position-step (λ e. same_name x e.name) d (take (suc n) G)
    ∙ (ap (λ r. if same_name x d.name then Some 0 else option_map suc r) (pass x G n other) ∙ sym (position-step (λ e. same_name x e.name) d (take n G)))

-- Places after the last of the hash have other names.
pub skip : (x : Name) (G : List (Global Name)) (n : ℕ) → place_of x (take (last_before (nat_eq (hash_of x)) (hashes_of G) n) G) ≡ place_of x (take n G)
skip x G zero = refl
skip x G (suc n) = by (nat_eq (hash_of x) (get_or (hashes_of G) n 0)) refl (skip x G n)
  where
    by : (b : Bool) → nat_eq (hash_of x) (get_or (hashes_of G) n 0) ≡ b → place_of x (take (last_before (nat_eq (hash_of x)) (hashes_of G) n) G) ≡ place_of x (take n G)
        → place_of x (take (if b then suc n else last_before (nat_eq (hash_of x)) (hashes_of G) n) G) ≡ place_of x (take (suc n) G)
    by true e rest = refl
    by false e rest =
        rest ∙ sym (pass x G n (λ d at. other-name x d.name (ap (nat_eq (hash_of x)) (sym (hash-at G n d at)) ∙ e)))

-- The place where the name is, as the names differ.
pub found : (x : Name) (G : List (Global Name)) (k : ℕ) (e : Global Name) → NamesDiffer G → slice_get G k ≡ Some e → same_name x e.name ≡ true → place_of x G ≡ Some k
found x G k e differ at same =
    let whole : take k G ++ e ∷ drop (k + 1) G ≡ G = around G k e at in
    let inside : k < length G = slice_get_within G k e at in
    let here : place_of x (e ∷ drop (k + 1) G) ≡ Some 0 =
    position-step (λ d. same_name x d.name) e (drop (k + 1) G) ∙ ap (λ b. if b then Some 0 else option_map suc (place_of x (drop (k + 1) G))) same in
    let len : length (take k G) + 0 ≡ k = let n = length-take-le k G (omega (arith, inside)) in omega (arith, n) in
    ap (place_of x) (sym whole)
    ∙ (place-right x (take k G) (e ∷ drop (k + 1) G) 0 (subst NamesDiffer (sym whole) differ) here ∙ ap Some len)

-- What is sure of a part stays so as entries come and go.
module _ (G : List (Global Name)) (hashes : List ℕ) (sure : IsPart G hashes) where
  pub part-push : (e : Global Name) (hash : ℕ) → hash ≡ hash_of e.name → Fresh e.name G → IsPart (G ++ e ∷ []) (hashes ++ hash ∷ [])
  part-push e hash same fresh =
      record {
        hashed = (λ j. sure.hashed j ++ same j ∷ []) ∙ sym (map-append (λ d. hash_of d.name) G (e ∷ []));
        names = differ-behind G e sure.names fresh;
      }

  pub part-first : (n : ℕ) → IsPart (take n G) (take n hashes)
  part-first n =
      record {
        hashed = ap (take n) sure.hashed ∙ take-map (λ d. hash_of d.name) n G;
        names = differ-left (take n G) (drop n G) (subst NamesDiffer (sym (take-append-drop n G)) sure.names);
      }

  pub part-rest : (n : ℕ) → IsPart (drop n G) (drop n hashes)
  part-rest n =
      record {
        hashed = ap (drop n) sure.hashed ∙ drop-map (λ d. hash_of d.name) n G;
        names = differ-right (take n G) (drop n G) (subst NamesDiffer (sym (take-append-drop n G)) sure.names);
      }

  pub part-same : (H : List (Global Name)) (others : List ℕ) → H ≡ G → others ≡ hashes → IsPart H others
  part-same H others entries same =
      record {
        hashed = same ∙ (sure.hashed ∙ ap hashes_of (sym entries));
        names = subst NamesDiffer (sym entries) sure.names;
      }

-- Where the look-up of a name has come to: no place from here on has it, and the one before has its hash.
pub record IsSearch (x : Name) (G : List (Global Name)) (after : ℕ) : Type 0 where
  pub inside : after ≤ length G
  pub last : after ≡ last_before (nat_eq (hash_of x)) (hashes_of G) after
  pub rest : place_of x (take after G) ≡ place_of x G

module _ (x : Name) (G : List (Global Name)) (hashes : List ℕ) (sure : IsPart G hashes) where
  pub search-start : (hash after : ℕ) → hash ≡ hash_of x → after ≡ last_before (nat_eq hash) hashes (length hashes) → IsSearch x G after
  search-start hash after same start =
      let n = length-map G (λ d. hash_of d.name) in
      let t : ℕ → Bool = nat_eq (hash_of x) in
      let e : after ≡ last_before t (hashes_of G) (length (hashes_of G)) =
      start ∙ (λ j. last_before (nat_eq (same j)) (sure.hashed j) (length (sure.hashed j))) in
      let small = last-inside t (hashes_of G) (length (hashes_of G)) in
      record {
        inside = omega (arith, e, n, small);
        last = e ∙ (last-twice t (hashes_of G) (length (hashes_of G)) ∙ ap (last_before t (hashes_of G)) (sym e));
        rest =
            ap (λ k. place_of x (take k G)) e
            ∙ (skip x G (length (hashes_of G)) ∙ (ap (λ k. place_of x (take k G)) n ∙ ap (place_of x) (take-length G)));
      }

  pub search-on : (after place next : ℕ) (e : Global Name) → IsSearch x G after → after ≡ suc place → slice_get G place ≡ Some e → same_name x e.name ≡ false
      → next ≡ last_before (nat_eq (get_or hashes place 0)) hashes place → IsSearch x G next
  search-on after place next e search here at other step =
      let t : ℕ → Bool = nat_eq (hash_of x) in
      let passes = last-passes t (hashes_of G) after place here search.last in
      let same : hash_of x ≡ get_or (hashes_of G) place 0 = equal-numbers (hash_of x) (get_or (hashes_of G) place 0) passes in
      let n : next ≡ last_before t (hashes_of G) place =
      step ∙ ((λ j. last_before (nat_eq (get_or (sure.hashed j) place 0)) (sure.hashed j) place) ∙ ap (λ h. last_before (nat_eq h) (hashes_of G) place) (sym same)) in
      let small = last-inside t (hashes_of G) place in
      let inside = search.inside in
      record {
        inside = omega (arith, n, small, inside, here);
        last = n ∙ (last-twice t (hashes_of G) place ∙ ap (last_before t (hashes_of G)) (sym n));
        rest =
            ap (λ k. place_of x (take k G)) n
            ∙ (skip x G place
            ∙ (sym (pass x G place (λ d there. ap (λ g. same_name x g.name) (some_same (sym there ∙ at)) ∙ other))
            ∙ (ap (λ k. place_of x (take k G)) (sym here) ∙ search.rest)));
      }

pub search-end : (x : Name) (G : List (Global Name)) (after : ℕ) → IsSearch x G after → after ≡ 0 → None ≡ place_of x G
search-end x G after search none = ap (λ k. place_of x (take k G)) (sym none) ∙ search.rest
