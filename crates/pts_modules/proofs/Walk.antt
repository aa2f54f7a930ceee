-- The steps of the loop over a stack.
use Rattle.std.proofs.Common.{ℕ, ◌+◌, ◌≤◌, length, drop, zero, suc, arith, List, [], ◌∷◌, ◌++◌, ◌⊎◌, inl, inr, Option, Some, None, ◌≡◌, refl, sym, ap, ◌∙◌, subst}
use Rattle.std.specs.Prelude.{Result, Ok, Err, slice_get}
use Rattle.pts_names.specs.Name.{Name}
use Rattle.pts_module_file.specs.File.{File}
use Rattle.pts_modules.specs.declared.fault.OrderFault.{OrderFault}
use Rattle.pts_modules.specs.declared.fault.OrderFault.TheVariants as fault
use Rattle.pts_modules.specs.Orders.{Order, Orders, UnlessMemory, none_left, has_place, stops, uses_stop, takes_place, Turn, passed, stopped, opens, turn_of, used_by}
use Rattle.pts_modules.specs.declared.uses.Opened.{Opened}
use Rattle.pts_modules.specs.Stacks.{Open, names_of, open_of, Ends, EndsWith}
use Rattle.pts_modules.proofs.Stack.{open_last}

ok_same : {x y : List Name} → ◌≡◌ {A = Order} (Ok x) (Ok y) → x ≡ y
ok_same p = cc p

err_same : {e f : OrderFault} → ◌≡◌ {A = Order} (Err e) (Err f) → e ≡ f
err_same p = cc p

module _ (files : List (Name × List ℕ)) where
  -- A name whose module has its place is passed over.
  pub pass : (s : List Open) (done : List Name) (x : Name) (o : Order) → turn_of files (names_of s) done x ≡ passed → Ends files s done o → EndsWith files s done x o
  pass [] done x o t e = subst (Orders files [] done (x ∷ [])) (sym e) (has_place t none_left)
  pass (m ∷ s) done x o t (inl (f, e, d)) = inl (f, e, has_place t d)
  pass (m ∷ s) done x o t (inr (before, d, k)) = inr (before, has_place t d, k)

  -- A name at which all stops.
  pub stop : (s : List Open) (done : List Name) (x : Name) (e : OrderFault) → turn_of files (names_of s) done x ≡ stopped e → EndsWith files s done x (Err e)
  stop [] done x e t = stops t
  stop (m ∷ s) done x e t = inl (e, refl, stops t)

  -- A module is opened.
  pub begin : (s : List Open) (done : List Name) (x : Name) (f : File) (o : Order) → turn_of files (names_of s) done x ≡ opens f → Ends files ((x, used_by f) ∷ s) done o → EndsWith files s done x o
  begin [] done x f o t (inl (e, r, d)) = subst (Orders files [] done (x ∷ [])) (sym r) (uses_stop t d)
  begin [] done x f o t (inr (before, d, k)) = subst (Orders files [] done (x ∷ [])) (sym k) (takes_place t d none_left)
  begin (m ∷ s) done x f o t (inl (e, r, d)) = inl (e, r, uses_stop t d)
  begin (m ∷ s) done x f o t (inr (before, d, inl (e, r, k))) = inl (e, r, takes_place t d k)
  begin (m ∷ s) done x f o t (inr (before, d, inr (more, k, l))) = inr (more, takes_place t d k, l)

  -- A module whose uses are all gone through takes its place.
  pub finish : (s : List Open) (done : List Name) (m : Name) (o : Order) → Ends files s (done ++ m ∷ []) o → Ends files ((m, []) ∷ s) done o
  finish s done m o k = inr (done, none_left, k)

  -- One word after the other.
  ends_ok : {open_now done : List Name} {o : Order} → Orders files open_now done [] o → o ≡ Ok done
  ends_ok none_left = refl

  from_same : {open_now ms a b : List Name} {o : Order} → a ≡ b → Orders files open_now b ms o → Orders files open_now a ms o
  from_same {open_now} {ms} {a} {b} {o} p d = subst (λ l. Orders files open_now l ms o) (sym p) d

  pub words_go : {open_now done d ms : List Name} {x : Name} {o p : Order} → Orders files open_now done (x ∷ []) p → p ≡ Ok d → Orders files open_now d ms o → Orders files open_now done (x ∷ ms) o
  words_go (has_place t r) e k = has_place t (from_same (ok_same (sym (ends_ok r) ∙ e)) k)
  words_go (stops t) e k = absurd (cc e)
  words_go (uses_stop t u) e k = absurd (cc e)
  words_go (takes_place t u r) e k = takes_place t u (from_same (ok_same (sym (ends_ok r) ∙ e)) k)

  pub words_stop : {open_now done ms : List Name} {x : Name} {f : OrderFault} {p : Order} → Orders files open_now done (x ∷ []) p → p ≡ Err f → Orders files open_now done (x ∷ ms) (Err f)
  words_stop (has_place t r) e = absurd (cc (sym e ∙ ends_ok r))
  words_stop (stops t) e = stops (t ∙ ap stopped (err_same e))
  words_stop {open_now} {done} {ms} {x} (uses_stop {f = g} t u) e = uses_stop t (subst (λ w. Orders files (x ∷ open_now) done (used_by g) (Err w)) (err_same e) u)
  words_stop (takes_place t u r) e = absurd (cc (sym e ∙ ends_ok r))

-- The rest of a list from a place on.
pub nothing_left : {A : Type 0} (xs : List A) (n : ℕ) → length xs ≤ n → drop n xs ≡ []
nothing_left [] zero h = refl
nothing_left [] (suc n) h = refl
nothing_left (x ∷ xs) zero h = absurd (omega (arith, h))
nothing_left (x ∷ xs) (suc n) h = nothing_left xs n (omega (arith, h))

pub next_one : {A : Type 0} (xs : List A) (n : ℕ) (x : A) → slice_get xs n ≡ Some x → drop n xs ≡ x ∷ drop (n + 1) xs
next_one [] n x h = absurd (cc h)
next_one (y ∷ ys) zero x h = ap (λ z. z ∷ ys) (some_same h)
  where
    some_same : Some y ≡ Some x → y ≡ x
    some_same p = cc p
next_one (y ∷ ys) (suc n) x h =
    let e : suc n + 1 ≡ suc (n + 1) = omega arith in
    next_one ys n x h ∙ ap (λ k. x ∷ drop k (y ∷ ys)) (sym e)

-- The stack after one module more.
pub opened_new : (ms ns : List Opened) (m : Opened) (x : Name) (us : List Name) → ns ≡ ms ++ m ∷ [] → m.name ≡ x → drop m.next m.uses.items ≡ us → open_of ns ≡ (x, us) ∷ open_of ms
opened_new ms ns m x us p q r =
    ap open_of p
    ∙ open_last ms m
    ∙ ap (λ a. (a, drop m.next m.uses.items) ∷ open_of ms) q
    ∙ ap (λ b. (x, b) ∷ open_of ms) r

-- A fault is moved with what it means.
pub moved : {P Q : OrderFault → Type 0} (e : OrderFault) → ((e : OrderFault) → P e → Q e) → UnlessMemory P e → UnlessMemory Q e
moved (fault.NoModule m) k h = k (fault.NoModule m) h
moved (fault.BadFile n w) k h = k (fault.BadFile n w) h
moved (fault.CycleOfUses m) k h = k (fault.CycleOfUses m) h
moved fault.Memory k h = tt
