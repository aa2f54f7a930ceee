-- Two files are read one after another.
use Rattle.std.proofs.Common.{◌≡◌, ap, ◌∙◌, ℕ, List, sym, subst}
use Rattle.std.specs.Prelude.{IfSome, IsSomeAnd, Option, None, Some, length, ◌<◌}
use Rattle.pts_io.specs.Counts.{raised, Rose}
use Rattle.pts_io.specs.Files.{file_of}
use Rattle.pts_io.specs.States.{LibraryState}
use Rattle.yarrow.specs.declared.system.Unready.{Unready}
use Rattle.yarrow.specs.declared.system.Unready.TheVariants.{LibraryFailed, NoFile, TooLong, Refused, NoMemory}
use Rattle.yarrow.specs.Systems.{HasFile, IsUnread}

-- the files are the same at the second reading
pub has_again : (old mid : LibraryState) (name items bytes : List ℕ) → mid.files ≡ old.files → bytes ≡ items → HasFile mid name items → HasFile old name bytes
has_again old mid name items bytes same is h =
    subst (λ b. IfSome old.files (λ files. file_of files name ≡ Some b)) (sym is) (subst (λ F. IfSome F (λ files. file_of files name ≡ Some items)) same h)

-- the first reading counted nothing
module _ (old mid new : LibraryState) (name : List ℕ) (files : mid.files ≡ old.files) (faults : mid.faults ≡ old.faults) (missing : mid.missing ≡ old.missing) (too_long : mid.too_long ≡ old.too_long) where
  unread_by : (why : Unready) → IsUnread mid new name why → IsUnread old new name why
  unread_by LibraryFailed h = subst (λ f. Rose f new.faults) faults h
  unread_by NoFile h = (h.0 ∙ faults, h.1 ∙ ap (λ m. raised m 1) missing, subst (λ F. IfSome F (λ fs. file_of fs name ≡ None)) files h.2)
  unread_by TooLong h = (h.0 ∙ faults, h.1 ∙ ap (λ m. raised m 1) too_long, subst (λ F. IfSome F (λ fs. IsSomeAnd (file_of fs name) (λ bytes. 16777216 < length bytes))) files h.2)
  unread_by (Refused e) h = absurd h
  unread_by NoMemory h = tt

  pub unread_later : (other : List ℕ) (why : Unready) → name ≡ other → IsUnread mid new name why → IsUnread old new other why
  unread_later other why is h = subst (λ z. IsUnread old new z why) is (unread_by why h)
