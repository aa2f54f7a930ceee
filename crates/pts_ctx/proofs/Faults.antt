-- The first fault of a written system, stage by stage.
use Rattle.std.proofs.Common.{Result, Ok, Err, IfErr, IfOk, subst, ◌≡◌, ℕ, ◌<◌, ◌≤◌, not, if◌then◌else◌, nat_lt, map, length, position, Option, Some, None, refl, sym, ap, ◌∙◌, lt-ltb, le-ltb}
use Rattle.std.specs.Result.{IsErrAnd}
use Rattle.std.specs.Option.{option_map}
use Rattle.pts_names.specs.Name.{same_name}
use Rattle.pts_ctx.specs.declared.system.SystemPart.TheVariants.{Axiom, Rule}
use Rattle.pts_ctx.specs.declared.system.SystemFault.{SystemFault}
use Rattle.pts_ctx.specs.declared.system.SystemFault.TheVariants.{TooManySorts, DuplicateSort, UnknownSort, AxiomClash, RuleClash, Memory}
use Rattle.pts_ctx.specs.System.{Spelled, first_pair, axioms_clash, rules_clash, axiom_is_declared, rule_is_declared, or_system_fault, system_fault, UnlessMemory, axiom_at, rule_at}
use Rattle.pts_ctx.specs.Firsts.{clash_fault}
use Rattle.pts_ctx.proofs.Written.{axioms-clash, rules-clash}

abbrev pub many : Spelled → Option SystemFault
many w = if nat_lt 64 (length w.sorts) then Some (TooManySorts (length w.sorts)) else None

abbrev pub twice : Spelled → Option SystemFault
twice w = option_map (λ p. DuplicateSort p.0 p.1) (first_pair same_name 0 w.sorts)

abbrev pub unknown_in_axiom : Spelled → Option SystemFault
unknown_in_axiom w = option_map (UnknownSort Axiom) (position (λ a. not (axiom_is_declared w.sorts a)) w.axioms)

abbrev pub unknown_in_rule : Spelled → Option SystemFault
unknown_in_rule w = option_map (UnknownSort Rule) (position (λ r. not (rule_is_declared w.sorts r)) w.rules)

abbrev pub clash_as_written : Spelled → Option SystemFault
clash_as_written w =
    or_system_fault (option_map (λ p. AxiomClash p.0 p.1) (first_pair axioms_clash 0 w.axioms))
    (option_map (λ p. RuleClash p.0 p.1) (first_pair rules_clash 0 w.rules))

staged : (w : Spelled) (a b c d : Option SystemFault) → many w ≡ a → twice w ≡ b → unknown_in_axiom w ≡ c → unknown_in_rule w ≡ d
    → system_fault w ≡ or_system_fault a (or_system_fault b (or_system_fault c (or_system_fault d (clash_as_written w))))
unfolding system_fault
staged w a b c d p q r s = λ j. or_system_fault (p j) (or_system_fault (q j) (or_system_fault (r j) (or_system_fault (s j) (clash_as_written w))))

not_many : (w : Spelled) → length w.sorts ≤ 64 → many w ≡ None
not_many w few = ap (λ b. if b then Some (TooManySorts (length w.sorts)) else None) (le-ltb 64 (length w.sorts) few)

pub fault-many : (w : Spelled) → 64 < length w.sorts → system_fault w ≡ Some (TooManySorts (length w.sorts))
fault-many w great =
    staged w (Some (TooManySorts (length w.sorts))) (twice w) (unknown_in_axiom w) (unknown_in_rule w) (ap (λ b. if b then Some (TooManySorts (length w.sorts)) else None) (lt-ltb 64 (length w.sorts) great)) refl refl refl

module _ (w : Spelled) (few : length w.sorts ≤ 64) where
  pub fault-twice : (p : ℕ × ℕ) → first_pair same_name 0 w.sorts ≡ Some p → system_fault w ≡ Some (DuplicateSort p.0 p.1)
  fault-twice p at =
      staged w None (Some (DuplicateSort p.0 p.1)) (unknown_in_axiom w) (unknown_in_rule w) (not_many w few) (ap (option_map (λ p. DuplicateSort p.0 p.1)) at) refl refl

  module _ (once : first_pair same_name 0 w.sorts ≡ None) where
    not_twice : twice w ≡ None
    not_twice = ap (option_map (λ p. DuplicateSort p.0 p.1)) once

    pub fault-axiom : (e : SystemFault) → unknown_in_axiom w ≡ Some e → system_fault w ≡ Some e
    fault-axiom e at = staged w None None (Some e) (unknown_in_rule w) (not_many w few) not_twice at refl

    module _ (declared : position (λ a. not (axiom_is_declared w.sorts a)) w.axioms ≡ None) where
      pub fault-rule : (e : SystemFault) → unknown_in_rule w ≡ Some e → system_fault w ≡ Some e
      fault-rule e at = staged w None None None (Some e) (not_many w few) not_twice (ap (option_map (UnknownSort Axiom)) declared) at

      pub fault-clash : position (λ r. not (rule_is_declared w.sorts r)) w.rules ≡ None → system_fault w ≡ clash_fault (map (axiom_at w.sorts) w.axioms) (map (rule_at w.sorts) w.rules)
      fault-clash rules =
          staged w None None None None (not_many w few) not_twice (ap (option_map (UnknownSort Axiom)) declared) (ap (option_map (UnknownSort Rule)) rules)
          ∙ (λ j. or_system_fault (option_map (λ p. AxiomClash p.0 p.1) (axioms-clash w.sorts w.axioms declared j)) (option_map (λ p. RuleClash p.0 p.1) (rules-clash w.sorts w.rules few rules j)))

pub unless-map : {P Q : Type 0} (e : SystemFault) → (P → Q) → UnlessMemory e P → UnlessMemory e Q
unless-map Memory f h = tt
unless-map (TooManySorts n) f h = f h
unless-map (DuplicateSort i j) f h = f h
unless-map (UnknownSort part i) f h = f h
unless-map (AxiomClash i j) f h = f h
unless-map (RuleClash i j) f h = f h

pub err-from : {T : Type 0} (r : Result T SystemFault) (e : SystemFault) (P : SystemFault → Type 0) → IsErrAnd r (λ y. y ≡ e) → P e → IfErr r P
err-from (Ok x) e P h p = tt
err-from (Err y) e P h p = subst P (sym h) p

pub ok-map : {T E : Type 0} (r : Result T E) (P Q : T → Type 0) → IfOk r P → ((x : T) → P x → Q x) → IfOk r Q
ok-map (Ok x) P Q h f = f x h
ok-map (Err e) P Q h f = tt
