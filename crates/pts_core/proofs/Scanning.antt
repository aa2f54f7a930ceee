-- One step of the search for a clash.
use Rattle.std.proofs.Common.{◌≡◌, ◌≢◌, ◌≤◌, ◌<◌, ℕ, ◌+◌, ◌-◌, ◌^◌, List, map, length, take, get_or, slice_get, Some, None, refl, sym, ap, ◌∙◌, subst, arith}
use Rattle.std.specs.Option.{option_map}
use Rattle.std.proofs.lemmas.List.{length-map, length-take}
use Rattle.std.proofs.lemmas.Option.{slice_get_read, slice_get-map}
use Rattle.pts_names.specs.Name.{Name}
use Rattle.pts_ctx.specs.declared.entry.Entry.{Entry}
use Rattle.pts_ctx.specs.Front.{Global}
use Rattle.pts_ctx.specs.Seen.{place_of, IsPrefix}
use Rattle.pts_ctx.specs.Entries.{global_of}
use Rattle.pts_check.specs.Entered.{declared_entries}
use Rattle.pts_core.specs.declared.offer.Offer.{Offer}
use Rattle.pts_core.specs.declared.finding.Finding.{Finding}
use Rattle.pts_core.specs.declared.finding.Finding.TheVariants.{Sound, Faulty, Doubled}
use Rattle.pts_core.specs.Copies.{ClashesAt}
use Rattle.pts_core.specs.Obstacles.{IsFaultless, NoClashBefore}
use Rattle.pts_core.specs.Replies.{first_clash}
use Rattle.pts_core.proofs.Places.{place_inside}
use Rattle.pts_core.proofs.Clashes.{same_pair, clash_before}
use Rattle.pts_core.proofs.Numbers.{entries_long}

-- The entry that is kept for the declaration with a number, of the offer d, which is e.
pub entry_at_number : (xs : List Entry) (d e : Offer) (i : ℕ) (x : Entry) → map global_of xs ≡ declared_entries d.declarations → d ≡ e → i < length e.declarations → x ≡ get_or xs i x → slice_get (declared_entries e.declarations) i ≡ Some (global_of x)
entry_at_number xs d e i x same o inside h =
    let all = same ∙ ap (λ f. declared_entries f.declarations) o in
    let long = sym (length-map xs global_of) ∙ (ap length all ∙ entries_long e.declarations) in
    ap (λ ys. slice_get ys i) (sym all) ∙ (slice_get-map global_of xs i ∙ ap (option_map global_of) (slice_get_read xs (length xs) i x refl (omega (arith, long, inside)) h))

pub number_fits : (xs : List Entry) (d e : Offer) (i : ℕ) → map global_of xs ≡ declared_entries d.declarations → d ≡ e → i < length e.declarations → length xs < 2 ^ 63 → i < 2 ^ 63
number_fits xs d e i same o inside short =
    let long = sym (length-map xs global_of) ∙ (ap length (same ∙ ap (λ f. declared_entries f.declarations) o) ∙ entries_long e.declarations) in
    omega (arith, long, inside, short)

-- A name is there twice where that was found, and nowhere else.
pub twice_there : (f : Finding) (d p : ℕ) (F es : List (Global Name)) → f ≡ Doubled d → ClashesAt f p F es → first_clash F es ≡ Some (d, p)
twice_there f d p F es e c = subst (λ g. ClashesAt g p F es) e c

pub once_elsewhere : (f : Finding) (d n p : ℕ) (F es : List (Global Name)) → f ≡ Doubled d → d ≢ n → ClashesAt f p F es → (q : ℕ) → first_clash F es ≢ Some (n, q)
once_elsewhere f d n p F es e other c = λ q h. other (same_pair (sym (twice_there f d p F es e c) ∙ h)).0

pub once_else : (f : Finding) (n p : ℕ) (F es : List (Global Name)) → ((d : ℕ) → f ≡ Doubled d → ⊥) → ClashesAt f p F es → IsFaultless f → (q : ℕ) → first_clash F es ≢ Some (n, q)
once_else Sound n p F es never c j = λ q h. absurd (cc (sym c ∙ h))
once_else (Doubled d) n p F es never c j = absurd (never d refl)
once_else (Faulty k m w) n p F es never c j = absurd j

-- The place of a name that an entry before has, in numbers of the program.
pub moved_place : (F G es : List (Global Name)) (k : ℕ) (e : Global Name) (p front : ℕ) → slice_get es k ≡ Some e → front ≡ length F → length G ≤ 200000 → k < 2 ^ 63 → IsPrefix F G → NoClashBefore k F es → NoClashBefore k G es → first_clash F es ≡ Some (k, p) → place_of e.name G ≡ None
    → (front ≤ p) × (length G + (p - front) < 2 ^ 64) × (first_clash G es ≡ Some (k, length G + (p - front)))
moved_place F G es k e p front at same few short pre f g d new =
    let (j, q, t, r) = clash_before F G es k e at p pre f g d new in
    let l = place_inside e.name (take k es) j t in
    let s : length (take k es) ≤ k = omega (arith, length-take k es) in
    let i : j ≡ p - front = omega (arith, q, same) in
    (omega (arith, q, same), omega (arith, i, l, s, few, short), r ∙ ap (λ m. Some (k, length G + m)) i)
