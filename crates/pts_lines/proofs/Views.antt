-- The tokens that a form of line takes.
use Rattle.std.proofs.Common.{ℕ, ◌≡◌, refl, ap, subst, List, Bool, true, false, cond, Some, None}
use Rattle.pts_names.specs.Name.{Name, is_plain}
use Rattle.pts_tokens.specs.declared.token.Token.TheVariants.{Colon, Assign, Name as Word, Number}
use Rattle.pts_tokens.specs.Tokens.{Spot}
use Rattle.pts_lines.specs.Items.{plain, label, placed, number, colon, sign, said, is_label, units}

pub data PlainAt : Spot → Name → Type 0 where
  plain_at : {p : ℕ} {x : Name} → is_plain x ≡ true → PlainAt (p, Word x) x

pub data LabelAt : Spot → Name → Type 0 where
  label_at : {p : ℕ} {x : Name} → is_label x ≡ true → LabelAt (p, Word x) x

pub data NameAt : Spot → ℕ × Name → Type 0 where
  name_at : {p : ℕ} {x : Name} → NameAt (p, Word x) (p, x)

pub data NumberAt : Spot → ℕ → Type 0 where
  number_at : {p n : ℕ} {ds : List ℕ} → units ds ≡ Some n → NumberAt (p, Number ds) n

pub data ColonAt : Spot → Type 0 where
  colon_at : {p : ℕ} → ColonAt (p, Colon)

pub data SignAt : Spot → Bool → Type 0 where
  sign_colon : {p : ℕ} → SignAt (p, Colon) true
  sign_assign : {p : ℕ} → SignAt (p, Assign) false

if_some : (b : Bool) (x y : Name) → cond b (Some x) None ≡ Some y → (b ≡ true) × (x ≡ y)
if_some true x y e = (refl, cc e)
if_some false x y e = absurd (cc e)

pub is_plain_at : (s : Spot) (v : Name) → said plain s ≡ Some v → PlainAt s v
is_plain_at (p, Word x) v e = let q = if_some (is_plain x) x v e in subst (λ y. PlainAt (p, Word x) y) q.1 (plain_at q.0)
is_plain_at (p, t) v e = absurd (cc e)

pub is_label_at : (s : Spot) (v : Name) → said label s ≡ Some v → LabelAt s v
is_label_at (p, Word x) v e = let q = if_some (is_label x) x v e in subst (λ y. LabelAt (p, Word x) y) q.1 (label_at q.0)
is_label_at (p, t) v e = absurd (cc e)

pub is_name_at : (s : Spot) (v : ℕ × Name) → said placed s ≡ Some v → NameAt s v
is_name_at (p, Word x) v e = let q : ◌≡◌ {A = ℕ × Name} (p, x) v = cc e in subst (λ y. NameAt (p, Word x) y) q name_at
is_name_at (p, t) v e = absurd (cc e)

pub is_number_at : (s : Spot) (v : ℕ) → said number s ≡ Some v → NumberAt s v
is_number_at (p, Number ds) v e = number_at e
is_number_at (p, t) v e = absurd (cc e)

pub is_colon_at : (s : Spot) (v : Unit {0}) → said colon s ≡ Some v → ColonAt s
is_colon_at (p, Colon) v e = colon_at
is_colon_at (p, t) v e = absurd (cc e)

pub is_sign_at : (s : Spot) (v : Bool) → said sign s ≡ Some v → SignAt s v
is_sign_at (p, Colon) v e = let q : true ≡ v = cc e in subst (λ y. SignAt (p, Colon) y) q sign_colon
is_sign_at (p, Assign) v e = let q : false ≡ v = cc e in subst (λ y. SignAt (p, Assign) y) q sign_assign
is_sign_at (p, t) v e = absurd (cc e)

pub plain_said : (p : ℕ) (x : Name) → is_plain x ≡ true → said plain (p, Word x) ≡ Some x
plain_said p x e = ap (λ b. cond b (Some x) None) e

pub label_said : (p : ℕ) (x : Name) → is_label x ≡ true → said label (p, Word x) ≡ Some x
label_said p x e = ap (λ b. cond b (Some x) None) e
