-- The word of a module.
use Rattle.std.proofs.Common.{◌≡◌, ℕ, ◌≤◌, List, [], ◌∷◌, length, nat_le, refl, sym, ap, ◌∙◌, arith, Bool, true, false, ◌&&◌, Some, None}
use Rattle.std.specs.Prelude.{if◌then◌else◌, codes}
use Rattle.pts_names.specs.Name.{Name, same_name, is_identifier, name_fault, UnlessMemory}
use Rattle.pts_names.specs.declared.fault.NameFault.{NameFault}
use Rattle.pts_names.specs.declared.fault.NameFault.TheVariants.{Empty, BadStart, BadPart, TooLong, Memory}
use Rattle.pts_names.proofs.OnePart.{identifier_is_name}
use Rattle.yarrow.specs.Commands.{batch, is_module, check_with, format_with, batch_with, replay_with, command_of}

both : (a b c : Bool) → ((a && b) && c) ≡ true → (a ≡ true) × (c ≡ true)
both true true c h = (refl, h)
both true false c h = absurd (cc h)
both false b c h = absurd (cc h)

pub module_is_name : (x : Name) → is_module x ≡ true → name_fault x ≡ None
module_is_name x h =
    let a = both (is_identifier x) _ (nat_le (length x) 128) h in
    let k : nat_le (length x) 128 ≡ true = a.1 in
    let small : length x ≤ 128 = grind (arith, k) in
    identifier_is_name x small a.0

unlike : (x : Name) (e : NameFault) → is_module x ≡ true → name_fault x ≡ Some e → ⊥
unlike x e h f = let m : None ≡ Some e = sym (module_is_name x h) ∙ f in cc m

-- The name of a module is refused for want of memory alone.
pub only_memory : (x : Name) (e : NameFault) → is_module x ≡ true → (e ≡ Memory → ⊥) → UnlessMemory e (name_fault x ≡ Some e) → ⊥
only_memory x Empty h n f = unlike x Empty h f
only_memory x (BadStart p) h n f = unlike x (BadStart p) h f
only_memory x (BadPart p) h n f = unlike x (BadPart p) h f
only_memory x (TooLong p) h n f = unlike x (TooLong p) h f
only_memory x Memory h n f = n refl

batch_same : {v w x y : List ℕ} → Some (batch v w) ≡ Some (batch x y) → w ≡ y
batch_same h = cc h

behind : (ws : List (List ℕ)) (v x : List ℕ) → batch_with ws ≡ Some (batch v x) → is_module x ≡ true
behind [] v x h = absurd (cc h)
behind ([] ∷ ws) v x h = absurd (cc h)
behind ((b ∷ bs) ∷ []) v x h = absurd (cc h)
behind ((b ∷ bs) ∷ (y ∷ [])) v x h = by (is_module y) refl h
  where
    by : (m : Bool) → is_module y ≡ m → (if m then Some (batch (b ∷ bs) y) else None) ≡ Some (batch v x) → is_module x ≡ true
    by true e q = sym (ap is_module (batch_same q)) ∙ e
    by false e q = absurd (cc q)
behind ((b ∷ bs) ∷ (y ∷ (z ∷ ws))) v x h = absurd (cc h)

check_not : (ws : List (List ℕ)) (v x : List ℕ) → check_with ws ≡ Some (batch v x) → ⊥
check_not [] v x h = cc h
check_not (w ∷ ws) v x h = cc h

format_not : (ws : List (List ℕ)) (v x : List ℕ) → format_with ws ≡ Some (batch v x) → ⊥
format_not [] v x h = cc h
format_not ([] ∷ ws) v x h = cc h
format_not ((b ∷ bs) ∷ []) v x h = cc h
format_not ((b ∷ bs) ∷ (w ∷ ws)) v x h = cc h

replay_not : (ws : List (List ℕ)) (v x : List ℕ) → replay_with ws ≡ Some (batch v x) → ⊥
replay_not [] v x h = cc h
replay_not ([] ∷ ws) v x h = cc h
replay_not ((b ∷ bs) ∷ []) v x h = cc h
replay_not ((b ∷ bs) ∷ (w ∷ ws)) v x h = cc h

-- After `batch` comes the word of a module.
pub batch_names_module : (ws : List (List ℕ)) (v x : List ℕ) → command_of ws ≡ Some (batch v x) → is_module x ≡ true
unfolding command_of
batch_names_module [] v x h = absurd (cc h)
batch_names_module (w ∷ ws) v x h = by (same_name w (codes "check")) (same_name w (codes "format")) (same_name w (codes "batch")) (same_name w (codes "replay")) h
  where
    by : (a b c d : Bool) → (if a then check_with ws else (if b then format_with ws else (if c then batch_with ws else (if d then replay_with ws else None)))) ≡ Some (batch v x) → is_module x ≡ true
    by true b c d q = absurd (check_not ws v x q)
    by false true c d q = absurd (format_not ws v x q)
    by false false true d q = behind ws v x q
    by false false false true q = absurd (replay_not ws v x q)
    by false false false false q = absurd (cc q)
