use Rattle.std.proofs.Common.{◌≡◌, sym, ◌∙◌, ap, false, ◌||◌, ◌++◌, lit<}
use Rattle.std.specs.Prelude.{codes}
use Rattle.std.proofs.lemmas.Str.{encode_ascii}
use Rattle.pts_names.specs.Name.{same_name, is_quoted, is_sort_spelling}
use Rattle.pts_names.proofs.Same.{same_name-pointwise}
use Rattle.pts_names.proofs.Spelling.{not_quoted}
use Rattle.pts_names.proofs.sort_name.is_sort_spelling.Goals as goal

pub returns-in-None : goal.returns-in-None
unfolding is_sort_spelling
returns-in-None c =
    let star : same_name c.args.text.now (codes "*") ≡ false = same_name-pointwise c.args.text.now (codes "*") ∙ sym c.eq.ensures ∙ c.if-eq.false in
    let hash : same_name c.args.text.now (codes "#") ≡ false = same_name-pointwise c.args.text.now (codes "#") ∙ sym c.eq-else-eq.ensures ∙ c.if-eq-2.false in
    sym (ap (λ x. (x || same_name c.args.text.now (codes "#")) || is_quoted c.args.text.now) star
    ∙ ap (λ x. x || is_quoted c.args.text.now) hash
    ∙ not_quoted c.args.text.now (λ rest e. c.in-None.ensures.cases rest (e ∙ ap (λ l. l ++ rest) (sym (encode_ascii 39 (lit< tt))))))
