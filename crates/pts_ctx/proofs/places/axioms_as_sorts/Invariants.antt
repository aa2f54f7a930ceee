use Rattle.std.proofs.Common.{◌≡◌, drop, take, map, not, length}
use Rattle.std.specs.List.{AllByRecursion, position_from, position}
use Rattle.pts_ctx.specs.System.{axiom_is_declared, axiom_at, AxiomBelow}
use Rattle.pts_ctx.specs.Tables.{axiom_places}
use Rattle.pts_ctx.proofs.places.axioms_as_sorts.Given as goal

abbrev pub invariant-loop-place : goal.invariant-loop-place
invariant-loop-place l =
    record {
      places : map axiom_places l.found.items ≡ map (axiom_at l.sorts) (take l.place l.axioms);
      below : AllByRecursion (AxiomBelow (length l.sorts)) (map axiom_places l.found.items);
      declared :
          position_from (λ a. not (axiom_is_declared l.sorts a)) l.place (drop l.place l.axioms) ≡ position (λ a. not (axiom_is_declared l.sorts a)) l.axioms;
    }
