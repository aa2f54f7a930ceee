-- A file is read line by line.
use Rattle.std.proofs.Common.{ℕ, suc, ◌≡◌, ◌≢◌, ◌≤◌, refl, sym, ◌∙◌, ap, arith, List, ◌∷◌, length, Bool, true, false, ◌&&◌, cond, nat_le, Some, None, Ok, Err}
use Rattle.std.specs.Str.{is_utf8}
use Rattle.pts_names.specs.Name.{Name, is_identifier, name_fault, UnlessMemory, is_plain}
use Rattle.pts_names.specs.declared.fault.NameFault.{NameFault}
use Rattle.pts_names.specs.declared.fault.NameFault.TheVariants.{Empty, BadStart, BadPart, TooLong, Memory as NoMemory}
use Rattle.pts_names.proofs.OnePart.{identifier_is_name}
use Rattle.pts_module_file.specs.declared.fault.FileWhy.TheVariants.{Form}
use Rattle.pts_module_file.specs.declared.fault.FileLineFault.{FileLineFault}
use Rattle.pts_module_file.specs.declared.fault.FileLineFault.TheVariants.{Because, Memory}
use Rattle.pts_module_file.specs.declared.stage.Stage.{Stage}
use Rattle.pts_module_file.specs.declared.stage.Stage.TheVariants.{Format, Module, Uses, Parameters, Declarations, Ended}
use Rattle.pts_module_file.specs.declared.stage.Item.{Item}
use Rattle.pts_module_file.specs.Lines.{FileLine, line_at, is_short_text}
use Rattle.pts_module_file.specs.File.{File, with_entry, at_last, behind_line, read_lines, module_of, file_line_of, AnswersAs, fault_at, RefusesModule}

module _ (asked : Name) (s : Stage) (n : ℕ) (f : File) (line : List ℕ) (lines : List (List ℕ)) where
  pub next_is : (r : Stage) (e : FileLine) → line_at asked s line ≡ Ok (r, e) → read_lines asked s n f (line ∷ lines) ≡ read_lines asked r (suc n) (with_entry f n e) lines
  next_is r e h = ap (λ x. behind_line n f x (λ q g. read_lines asked q (suc n) g lines)) h

  pub refused_is : (bytes : List ℕ) → read_lines asked s n f (line ∷ lines) ≡ module_of asked bytes → (w : FileLineFault) → AnswersAs {A = Stage × Item} (λ r. (r.0, file_line_of r.1)) (Err w) (line_at asked s line) → RefusesModule asked bytes (fault_at n w)
  refused_is bytes same (Because w) h = sym same ∙ ap (λ x. behind_line n f x (λ q g. read_lines asked q (suc n) g lines)) h
  refused_is bytes same Memory h = tt

pub ended_is : (s : Stage) (n : ℕ) (f : File) → s ≡ Ended → at_last s n f ≡ Ok f
ended_is s n f e = ap (λ r. at_last r n f) e

pub not_ended : (s : Stage) (n : ℕ) (f : File) → s ≢ Ended → at_last s n f ≡ Err (n, Form)
not_ended Format n f h = refl
not_ended Module n f h = refl
not_ended Uses n f h = refl
not_ended Parameters n f h = refl
not_ended Declarations n f h = refl
not_ended Ended n f h = absurd (h refl)

-- A text that is no name is no short one.
pub no_name : (x : Name) (fault : NameFault) → name_fault x ≡ Some fault → None ≡ cond (is_short_text x) (Some x) None
no_name x fault e = by (is_utf8 x) (is_plain x) (nat_le (length x) 63) refl refl
  where
    whole : is_plain x ≡ true → is_identifier x ≡ true
    whole h = grind (arith, h)

    by : (a b c : Bool) → is_plain x ≡ b → nat_le (length x) 63 ≡ c → None ≡ cond (a && (b && c)) (Some x) None
    by true true true g h =
        let small : length x ≤ 128 = grind (arith, h) in
        let m : None ≡ Some fault = sym (identifier_is_name x small (whole g)) ∙ e in
        absurd (cc m)
    by true true false g h = refl
    by true false c g h = refl
    by false b c g h = refl

pub unread : (x : Name) (fault : NameFault) → fault ≢ NoMemory → UnlessMemory fault (name_fault x ≡ Some fault) → None ≡ cond (is_short_text x) (Some x) None
unread x Empty n h = no_name x Empty h
unread x (BadStart p) n h = no_name x (BadStart p) h
unread x (BadPart p) n h = no_name x (BadPart p) h
unread x (TooLong p) n h = no_name x (TooLong p) h
unread x NoMemory n h = absurd (n refl)
