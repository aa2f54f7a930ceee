-- What an examined offer keeps, beside what contracts see.
use Rattle.std.specs.Prelude.{◌≡◌, ℕ, List, map, length, true, Option, Some, None}
use Rattle.std.specs.Option.{option_map}
use Rattle.pts_names.specs.Name.{Name}
use Rattle.pts_ctx.specs.System.{Specification}
use Rattle.pts_ctx.specs.Front.{Global}
use Rattle.pts_ctx.specs.Seen.{globals_within}
use Rattle.pts_check.specs.Entered.{declared_entries}
use Rattle.pts_core.specs.declared.finding.Finding.{Finding}
use Rattle.pts_core.specs.declared.finding.Finding.TheVariants.{Sound, Faulty, Doubled}
use Rattle.pts_core.specs.declared.offer.Offer.{Offer}
use Rattle.pts_core.specs.declared.copies.Copies.{Copies}
use Rattle.pts_core.specs.InnerNames.{NoneInner}
use Rattle.pts_core.specs.Findings.{finding_of}
use Rattle.pts_core.specs.Replies.{first_clash}

-- Where the name that is there twice is, over the front of the offer.
abbrev pub ClashesAt : Finding → ℕ → List (Global Name) → List (Global Name) → Type 0
ClashesAt Sound place G es = first_clash G es ≡ None
ClashesAt (Doubled k) place G es = first_clash G es ≡ Some (k, place)
ClashesAt (Faulty k node why) place G es = Unit {0}

-- The entries of the offer, two copies of each of their names and of the label, and where the name is that is there twice.
pub record KeepsOffer (S : Specification) (offer : Offer) (front : ℕ) (entries : List (Global Name)) (names : List Copies) (label : Option Copies) (finding : Finding) (place : ℕ) : Type 0 where
  pub front_length : front ≡ length offer.front.entries
  pub same_entries : entries ≡ declared_entries offer.declarations
  pub names_kept : map (λ c. c.kept) names ≡ map (λ e. e.name) entries
  pub names_shown : map (λ c. c.shown) names ≡ map (λ e. e.name) entries
  pub label_kept : option_map (λ c. c.kept) label ≡ offer.label
  pub label_shown : option_map (λ c. c.shown) label ≡ offer.label
  pub found : finding ≡ finding_of S offer.front.entries offer.declarations
  pub clash : ClashesAt finding place offer.front.entries entries
  pub within : finding ≡ Sound → globals_within entries ≡ true
  pub not_inner : NoneInner entries
