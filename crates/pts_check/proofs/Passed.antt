-- What is known where the kinds of the links are right.
use Rattle.std.proofs.Common.{◌≡◌, Bool, true, false, None, refl, ap}
use Rattle.std.specs.Prelude.{◌||◌}
use Rattle.pts_record.specs.Said.{is_judgement, is_comparison}
use Rattle.pts_rules.specs.Conditions.{Plain, Link, first_failing, judgement_kinds, comparison_kinds, let_kinds, conv_places}
use Rattle.pts_rules.proofs.Passing.{all_pass}
use Rattle.pts_check.specs.Stated.{has_statement}

pub or_left : (a b : Bool) → a ≡ true → (a || b) ≡ true
or_left a b h = ap (λ x. x || b) h

pub or_right : (a b : Bool) → b ≡ true → (a || b) ≡ true
or_right true b h = refl
or_right false b h = h

pub first_is_judgement : (c p q : Link) → first_failing (judgement_kinds c p q) ≡ None → has_statement p ≡ true
first_is_judgement c p q h = or_left (is_judgement p) (is_comparison p) (all_pass (judgement_kinds c p q) h).1.0

pub second_is_judgement : (c p q : Link) → first_failing (judgement_kinds c p q) ≡ None → has_statement q ≡ true
second_is_judgement c p q h = or_left (is_judgement q) (is_comparison q) (all_pass (judgement_kinds c p q) h).1.1.0

pub only_is_judgement : (c p : Link) → first_failing (let_kinds c p) ≡ None → has_statement p ≡ true
only_is_judgement c p h = or_left (is_judgement p) (is_comparison p) (all_pass (let_kinds c p) h).1.0

pub third_is_comparison : (l : Plain) (p q r : Link) → first_failing (conv_places l p q r) ≡ None → has_statement r ≡ true
third_is_comparison l p q r h = or_right (is_judgement r) (is_comparison r) (all_pass (conv_places l p q r) h).0

pub first_is_comparison : (c p q : Link) → first_failing (comparison_kinds c p q) ≡ None → has_statement p ≡ true
first_is_comparison c p q h = or_right (is_judgement p) (is_comparison p) (all_pass (comparison_kinds c p q) h).1.0

pub second_is_comparison : (c p q : Link) → first_failing (comparison_kinds c p q) ≡ None → has_statement q ≡ true
second_is_comparison c p q h = or_right (is_judgement q) (is_comparison q) (all_pass (comparison_kinds c p q) h).1.1.0
