-- `_` is a name.
use Rattle.std.proofs.Common.{◌≡◌, ◌≢◌, refl, sym, ◌∙◌, Bool, true, false, cond, not, ◌||◌, is_none, Some, None, arith}
use Rattle.std.specs.Str as str
use Rattle.pts_names.specs.Name.{is_identifier, name_fault, UnlessMemory, underscore}
use Rattle.pts_names.specs.declared.fault.NameFault.{NameFault}
use Rattle.pts_names.specs.declared.fault.NameFault.TheVariants.{Empty, BadStart, BadPart, TooLong, Memory}
use Rattle.pts_names.proofs.OnePart.{identifier_is_name}

pub underscore_is_identifier : is_identifier underscore ≡ true
unfolding is_identifier str.chars
underscore_is_identifier = by _
  where
    by : (b : Bool) → is_none (cond (not (b || true)) (Some (BadStart 0)) None) ≡ true
    by true = refl
    by false = refl

-- So only memory can be wanted for it.
pub only_memory : (fault : NameFault) → fault ≢ Memory → UnlessMemory fault (name_fault underscore ≡ Some fault) → ⊥
only_memory fault other refused = by fault other refused
  where
    sound : name_fault underscore ≡ None
    sound = identifier_is_name underscore (omega arith) underscore_is_identifier

    wrong : (e : NameFault) → name_fault underscore ≡ Some e → ⊥
    wrong e q = let m : None ≡ Some e = sym sound ∙ q in cc m

    by : (e : NameFault) → e ≢ Memory → UnlessMemory e (name_fault underscore ≡ Some e) → ⊥
    by Empty o q = wrong Empty q
    by (BadStart p) o q = wrong (BadStart p) q
    by (BadPart p) o q = wrong (BadPart p) q
    by (TooLong n) o q = wrong (TooLong n) q
    by Memory o q = o refl
