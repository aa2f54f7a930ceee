-- Words that begin with no command.
use Rattle.std.proofs.Common.{◌≡◌, refl, ap, ◌∙◌, arith, ℕ, ◌≤◌, List, [], ◌∷◌, length, map, get_or, Bool, true, false, Option, None}
use Rattle.std.specs.Prelude.{if◌then◌else◌, codes}
use Rattle.pts_names.specs.Name.{same_name}
use Rattle.pts_names.proofs.Same.{same_name-true}
use Rattle.yarrow.specs.Commands.{Command, check_with, format_with, batch_with, replay_with, command_of}

other_name : (v w : List ℕ) → (v ≡ w → ⊥) → same_name v w ≡ false
other_name v w h = by (same_name v w) refl
  where
    by : (b : Bool) → same_name v w ≡ b → b ≡ false
    by true e = absurd (h (same_name-true v w e))
    by false e = refl

none_of : (b c d e : Bool) (r s t u : Option Command) → b ≡ false → c ≡ false → d ≡ false → e ≡ false → (if b then r else (if c then s else (if d then t else (if e then u else None)))) ≡ None
none_of true c d e r s t u p q v w = absurd (cc p)
none_of false true d e r s t u p q v w = absurd (cc q)
none_of false false true e r s t u p q v w = absurd (cc v)
none_of false false false true r s t u p q v w = absurd (cc w)
none_of false false false false r s t u p q v w = refl

pub no_form : {A : Type 0} (f : A → List ℕ) (ws : List A) (x : A) (v : List ℕ) → 1 ≤ length ws → x ≡ get_or ws 0 x → v ≡ f x → (v ≡ codes "check" → ⊥) → (v ≡ codes "format" → ⊥) → (v ≡ codes "batch" → ⊥) → (v ≡ codes "replay" → ⊥) → command_of (map f ws) ≡ None
unfolding command_of
no_form f [] x v some e p n m k l = absurd (omega (arith, some))
no_form f (y ∷ ws) x v some e p n m k l =
    let q : v ≡ f y = p ∙ ap f e in
    none_of (same_name (f y) (codes "check")) (same_name (f y) (codes "format")) (same_name (f y) (codes "batch")) (same_name (f y) (codes "replay"))
    (check_with (map f ws)) (format_with (map f ws)) (batch_with (map f ws)) (replay_with (map f ws))
    (other_name (f y) (codes "check") (λ h. n (q ∙ h)))
    (other_name (f y) (codes "format") (λ h. m (q ∙ h)))
    (other_name (f y) (codes "batch") (λ h. k (q ∙ h)))
    (other_name (f y) (codes "replay") (λ h. l (q ∙ h)))
