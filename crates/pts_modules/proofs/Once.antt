-- Modules have one order at most.
use Rattle.std.proofs.Common.{ℕ, List, [], ◌∷◌, ◌++◌, ◌≡◌, refl, sym, ap, ◌∙◌, subst}
use Rattle.std.specs.Prelude.{Result, Ok, Err}
use Rattle.pts_names.specs.Name.{Name}
use Rattle.pts_module_file.specs.File.{File}
use Rattle.pts_modules.specs.declared.fault.OrderFault.{OrderFault}
use Rattle.pts_modules.specs.Orders.{Order, Orders, none_left, has_place, stops, uses_stop, takes_place, Turn, passed, stopped, opens, turn_of, used_by}

one_stop : {t : Turn} {e f : OrderFault} → t ≡ stopped e → t ≡ stopped f → e ≡ f
one_stop p q = cc (sym p ∙ q)

one_file : {t : Turn} {f g : File} → t ≡ opens f → t ≡ opens g → f ≡ g
one_file p q = cc (sym p ∙ q)

not_both : {X : Type 0} {t : Turn} {f : File} → t ≡ passed → t ≡ opens f → X
not_both p q = absurd (cc (sym p ∙ q))

not_stopped : {X : Type 0} {t : Turn} {e : OrderFault} → t ≡ passed → t ≡ stopped e → X
not_stopped p q = absurd (cc (sym p ∙ q))

not_opened : {X : Type 0} {t : Turn} {e : OrderFault} {f : File} → t ≡ stopped e → t ≡ opens f → X
not_opened p q = absurd (cc (sym p ∙ q))

ok_same : {x y : List Name} → ◌≡◌ {A = Order} (Ok x) (Ok y) → x ≡ y
ok_same p = cc p

not_err : {X : Type 0} {x : List Name} {e : OrderFault} → ◌≡◌ {A = Order} (Ok x) (Err e) → X
not_err p = absurd (cc p)

module _ (files : List (Name × List ℕ)) where
  by_file : {open_now done : List Name} {f g : File} {o : Order} → f ≡ g → Orders files open_now done (used_by f) o → Orders files open_now done (used_by g) o
  by_file {open_now} {done} {f} {g} {o} p d = subst (λ h. Orders files open_now done (used_by h) o) p d

  after_same : {open_now ms a b : List Name} {o : Order} (m : Name) → a ≡ b → Orders files open_now (a ++ m ∷ []) ms o → Orders files open_now (b ++ m ∷ []) ms o
  after_same {open_now} {ms} {a} {b} {o} m p d = subst (λ l. Orders files open_now (l ++ m ∷ []) ms o) p d

  pub once : {open_now done names : List Name} {o p : Order} → Orders files open_now done names o → Orders files open_now done names p → o ≡ p
  once none_left none_left = refl
  once (has_place t d) (has_place u e) = once d e
  once (has_place t d) (stops u) = not_stopped t u
  once (has_place t d) (uses_stop u e) = not_both t u
  once (has_place t d) (takes_place u e k) = not_both t u
  once (stops t) (has_place u e) = not_stopped u t
  once (stops t) (stops u) = ap Err (one_stop t u)
  once (stops t) (uses_stop u e) = not_opened t u
  once (stops t) (takes_place u e k) = not_opened t u
  once (uses_stop t d) (has_place u e) = not_both u t
  once (uses_stop t d) (stops u) = not_opened u t
  once (uses_stop t d) (uses_stop u e) = once d (by_file (one_file u t) e)
  once (uses_stop t d) (takes_place u e k) = not_err (sym (once d (by_file (one_file u t) e)))
  once (takes_place t d l) (has_place u e) = not_both u t
  once (takes_place t d l) (stops u) = not_opened u t
  once (takes_place t d l) (uses_stop u e) = not_err (once d (by_file (one_file u t) e))
  once (takes_place {m = m} t d l) (takes_place u e k) = once l (after_same m (ok_same (sym (once d (by_file (one_file u t) e)))) k)
