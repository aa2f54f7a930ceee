-- The lines of a text after its first.
use Rattle.std.proofs.Common.{◌≡◌, ℕ, List, [], ◌∷◌, refl, ◌∙◌, ap, true, false, ◌==◌, if◌then◌else◌}
use Rattle.pts_names.specs.Name.{with_first}
use Rattle.pts_bytes.specs.Pieces.{pieces, lines_among, without_return}

module _ (last : List ℕ → List (List ℕ)) where
  line_kept : (line : List ℕ) (c : ℕ) (ps : List (List ℕ)) → lines_among last (line ∷ with_first c ps) ≡ without_return line ∷ lines_among last (with_first c ps)
  line_kept line c [] = refl
  line_kept line c (p ∷ ps) = refl

  lines_after : (line : List ℕ) (b : ℕ) (rest : List ℕ) → lines_among last (line ∷ pieces b rest) ≡ without_return line ∷ lines_among last (pieces b rest)
  lines_after line b [] = refl
  lines_after line b (c ∷ cs) = elim (c == b) as (λ v. lines_among last (line ∷ (if v then [] ∷ pieces b cs else with_first c (pieces b cs))) ≡ without_return line ∷ lines_among last (if v then [] ∷ pieces b cs else with_first c (pieces b cs))) [ true ↦ refl | false ↦ line_kept line c (pieces b cs) ]

  pub lines_more : (text line rest : List ℕ) → pieces 10 text ≡ line ∷ pieces 10 rest → lines_among last (pieces 10 text) ≡ without_return line ∷ lines_among last (pieces 10 rest)
  lines_more text line rest cut = ap (lines_among last) cut ∙ lines_after line 10 rest
