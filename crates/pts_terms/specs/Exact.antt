-- Whether two terms are one, with their printed names.
use Rattle.std.specs.Prelude.{Bool, false, ◌&&◌, nat_eq}
use Rattle.pts_names.specs.Name.{same_name}
use Rattle.pts_terms.specs.Tree.{Named, sort, const, var, app, named_lam, named_pi, named_let}

abbrev pub same_named : Named → Named → Bool
same_named (sort s) (sort r) = nat_eq s r
same_named (const c) (const d) = same_name c d
same_named (var i) (var j) = nat_eq i j
same_named (app f a) (app g b) = same_named f g && same_named a b
same_named (named_lam x A b) (named_lam y C d) = same_name x y && (same_named A C && same_named b d)
same_named (named_pi x A b) (named_pi y C d) = same_name x y && (same_named A C && same_named b d)
same_named (named_let x a A b) (named_let y c C d) = same_name x y && (same_named a c && (same_named A C && same_named b d))
same_named _ _ = false
