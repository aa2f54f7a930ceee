use Rattle.std.proofs.Common.{◌≡◌, sym, ◌∙◌, ap, inl, inr, refl, [], ◌∷◌, drop, length, suc, ◌<◌, ◌≤◌}
use Rattle.std.proofs.Math.Seq.{drop-cons}
use Rattle.std.proofs.lemmas.Bool.{ltb-true, ltb-false}
use Rattle.pts_grammar.specs.Machine.{read, run, begin}
use Rattle.pts_grammar.specs.Seen.{part_of, parts, syntax_of}
use Rattle.pts_grammar.specs.Open.{more, outcome_of}
use Rattle.pts_grammar.proofs.Answer.{answers_expected, answers_too_deep, answers_tree, answers_deep, answers_more, drop_all}
use Rattle.pts_grammar.proofs.whole.parse_term.Goals as goal

pub returns-in-Some-clause-refused : goal.returns-in-Some-clause-refused
returns-in-Some-clause-refused c =
    let ts = c.args.tokens.now in
    let inside : c.in-Read.count < length ts = ltb-true c.in-Read.count (length ts) (sym c.in-Some.ensures.lookup.0) in
    let here : drop c.in-Read.count ts ≡ c.in-Some.spot.now ∷ drop (suc c.in-Read.count) ts = drop-cons ts c.in-Read.count c.in-Some.spot.now inside ∙ ap (λ s. s ∷ drop (suc c.in-Read.count) ts) (sym c.in-Some.ensures.lookup.1) in
    let outcome : read (part_of c.in-Read.tree) (drop c.in-Read.count ts) ≡ run parts more c.args.length (begin []) ts = ap (outcome_of ts) (sym c.in-Read.is) ∙ c.in_ok-place.ensures in
    answers_more c.args.length c.in-Some.spot.now.0 ts (drop (suc c.in-Read.count) ts) (part_of c.in-Read.tree) c.in-Some.spot.now.1 (ap (read (part_of c.in-Read.tree)) (sym here) ∙ outcome)

pub returns-in-Expected-clause-refused : goal.returns-in-Expected-clause-refused
returns-in-Expected-clause-refused c = answers_expected c.args.length c.in-Expected.place c.in-Expected.kind c.args.tokens.now (ap (outcome_of c.args.tokens.now) (sym c.in-Expected.is) ∙ c.in_ok-place.ensures)

pub returns-in-TooDeep-clause-refused : goal.returns-in-TooDeep-clause-refused
returns-in-TooDeep-clause-refused c = inl (answers_too_deep c.args.length c.in-TooDeep.place c.args.tokens.now (ap (outcome_of c.args.tokens.now) (sym c.in-TooDeep.is) ∙ c.in_ok-place.ensures))

pub returns-in-Some-tree-clause-term : goal.returns-in-Some-tree-clause-term
returns-in-Some-tree-clause-term c =
    let ts = c.args.tokens.now in
    let past : length ts ≤ c.in-Read.count = ltb-false c.in-Read.count (length ts) (sym c.in_default.ensures.lookup.0) in
    let outcome : read (part_of c.in-Read.tree) (drop c.in-Read.count ts) ≡ run parts more c.args.length (begin []) ts = ap (outcome_of ts) (sym c.in-Read.is) ∙ c.in_ok-place.ensures in
    (answers_tree c.args.length ts (syntax_of c.in-Some-tree.tree) (ap (λ t. read (part_of t) []) (sym c.in-Some-tree.is) ∙ (ap (read (part_of c.in-Read.tree)) (sym (drop_all c.in-Read.count ts past)) ∙ outcome))).0

pub returns-in-Some-tree-clause-depth : goal.returns-in-Some-tree-clause-depth
returns-in-Some-tree-clause-depth c =
    let ts = c.args.tokens.now in
    let past : length ts ≤ c.in-Read.count = ltb-false c.in-Read.count (length ts) (sym c.in_default.ensures.lookup.0) in
    let outcome : read (part_of c.in-Read.tree) (drop c.in-Read.count ts) ≡ run parts more c.args.length (begin []) ts = ap (outcome_of ts) (sym c.in-Read.is) ∙ c.in_ok-place.ensures in
    (answers_tree c.args.length ts (syntax_of c.in-Some-tree.tree) (ap (λ t. read (part_of t) []) (sym c.in-Some-tree.is) ∙ (ap (read (part_of c.in-Read.tree)) (sym (drop_all c.in-Read.count ts past)) ∙ outcome))).1

pub returns-in-Some-tree-clause-parentheses : goal.returns-in-Some-tree-clause-parentheses
returns-in-Some-tree-clause-parentheses c =
    let ts = c.args.tokens.now in
    let past : length ts ≤ c.in-Read.count = ltb-false c.in-Read.count (length ts) (sym c.in_default.ensures.lookup.0) in
    let outcome : read (part_of c.in-Read.tree) (drop c.in-Read.count ts) ≡ run parts more c.args.length (begin []) ts = ap (outcome_of ts) (sym c.in-Read.is) ∙ c.in_ok-place.ensures in
    (answers_tree c.args.length ts (syntax_of c.in-Some-tree.tree) (ap (λ t. read (part_of t) []) (sym c.in-Some-tree.is) ∙ (ap (read (part_of c.in-Read.tree)) (sym (drop_all c.in-Read.count ts past)) ∙ outcome))).2

pub returns-in-None-clause-refused : goal.returns-in-None-clause-refused
returns-in-None-clause-refused c =
    let ts = c.args.tokens.now in
    let past : length ts ≤ c.in-Read.count = ltb-false c.in-Read.count (length ts) (sym c.in_default.ensures.lookup.0) in
    let outcome : read (part_of c.in-Read.tree) (drop c.in-Read.count ts) ≡ run parts more c.args.length (begin []) ts = ap (outcome_of ts) (sym c.in-Read.is) ∙ c.in_ok-place.ensures in
    let (deep, none) = answers_deep c.args.length ts (ap (λ t. read (part_of t) []) (sym c.in-None.is) ∙ (ap (read (part_of c.in-Read.tree)) (sym (drop_all c.in-Read.count ts past)) ∙ outcome)) in
    inr (refl, deep, none)
