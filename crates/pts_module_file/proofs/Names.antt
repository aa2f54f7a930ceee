-- The names in a file that is read are short.
use Rattle.std.proofs.Common.{ℕ, suc, ◌≡◌, refl, subst, List, [], ◌∷◌, ◌++◌, Bool, true, false, ◌&&◌, cond, Option, Some, None, Result, Ok, Err}
use Rattle.std.specs.Prelude.{take, drop, codes}
use Rattle.std.specs.Str.{is_utf8}
use Rattle.pts_names.specs.Name.{Name, same_name, is_short}
use Rattle.pts_parser.specs.declared.fault.ReadFault.{ReadFault}
use Rattle.pts_lines.specs.declared.command.Declaring.{Declaring}
use Rattle.pts_lines.specs.declared.command.Declaring.TheVariants as declaring
use Rattle.pts_lines.specs.Lines.{Line}
use Rattle.pts_lines.specs.Reading.{declaration_said, declared_first}
use Rattle.pts_module_file.specs.declared.fault.FileWhy.{FileWhy}
use Rattle.pts_module_file.specs.declared.fault.FileWhy.TheVariants.{Form}
use Rattle.pts_module_file.specs.declared.stage.Stage.{Stage}
use Rattle.pts_module_file.specs.declared.stage.Stage.TheVariants.{Format, Module, Uses, Parameters, Declarations, Ended}
use Rattle.pts_module_file.specs.Text.{lines_of}
use Rattle.pts_module_file.specs.Lines.{FileLine, passed, fixed, uses, declares, is_short_text, is_passed, may_declare, behind, name_of, has_short_name, with_short_name, declared, ending, declaring_line, later_line, uses_line, format_line, module_line, staged_line, line_at}
use Rattle.pts_module_file.specs.File.{File, AllShort, with_entry, at_last, behind_line, read_lines, module_of}

abbrev EntryShort : FileLine → Type 0
EntryShort (declares d) = has_short_name (name_of d.1) ≡ true
EntryShort e = Unit {0}

-- behind the line with the module's name, this name is short
abbrev Named : Name → Stage → Type 0
Named asked Format = Unit {0}
Named asked Module = Unit {0}
Named asked s = is_short asked ≡ true

abbrev Fine : Name → Stage → Result (Stage × FileLine) FileWhy → Type 0
Fine asked s (Ok r) = EntryShort r.1 × (Named asked s → Named asked r.0)
Fine asked s (Err w) = Unit {0}

named_at : (asked : Name) (s : Stage) → is_short asked ≡ true → Named asked s
named_at asked Format h = tt
named_at asked Module h = tt
named_at asked Uses h = h
named_at asked Parameters h = h
named_at asked Declarations h = h
named_at asked Ended h = h

left_of : (a b : Bool) → a && b ≡ true → a ≡ true
left_of true b h = refl
left_of false b h = h

module _ (asked : Name) where
  -- at a stage behind the heading
  module _ (s : Stage) (short : Named asked s → is_short asked ≡ true) where
    fine_with : (d : Declaring × Line) → Fine asked s (with_short_name d)
    fine_with d = go (has_short_name (name_of d.1)) refl
      where
        go : (b : Bool) → has_short_name (name_of d.1) ≡ b → Fine asked s (cond b (Ok (behind d.0, declares d)) (Err Form))
        go true h = (h, λ n. named_at asked (behind d.0) (short n))
        go false h = tt

    fine_declared : (x : Result (Declaring × Line) ReadFault) → Fine asked s (declared x)
    fine_declared (Ok d) = fine_with d
    fine_declared (Err e) = tt

    fine_ending : (line : List ℕ) → Fine asked s (ending s line)
    fine_ending line = go (may_declare s declaring.Assume && same_name line (codes "end"))
      where
        go : (b : Bool) → Fine asked s (cond b (Ok (Ended, fixed)) (Err Form))
        go true = (tt, short)
        go false = tt

    fine_declaring : (line : List ℕ) (o : Option Declaring) → Fine asked s (declaring_line s line o)
    fine_declaring line (Some d) = go (may_declare s d)
      where
        go : (b : Bool) → Fine asked s (cond b (declared (declaration_said line)) (Err Form))
        go true = fine_declared (declaration_said line)
        go false = tt
    fine_declaring line None = fine_ending line

    fine_later : (line : List ℕ) → Fine asked s (later_line s line)
    fine_later line = fine_declaring line (declared_first line)

  fine_uses : (line : List ℕ) → Fine asked Uses (uses_line line)
  fine_uses line = go (same_name (take 5 line) (codes "uses ") && is_short_text (drop 5 line))
    where
      go : (b : Bool) → Fine asked Uses (cond b (Ok (Uses, uses (drop 5 line))) (later_line Uses line))
      go true = (tt, λ n. n)
      go false = fine_later Uses (λ n. n) line

  fine_format : (line : List ℕ) → Fine asked Format (format_line line)
  fine_format line = go (same_name line (codes "yarrow-module 1"))
    where
      go : (b : Bool) → Fine asked Format (cond b (Ok (Module, fixed)) (Err Form))
      go true = (tt, λ n. tt)
      go false = tt

  fine_module : (line : List ℕ) → Fine asked Module (module_line asked line)
  fine_module line = go (is_short asked && (same_name (take 7 line) (codes "module ") && same_name (drop 7 line) asked)) refl
    where
      go : (b : Bool) → is_short asked && (same_name (take 7 line) (codes "module ") && same_name (drop 7 line) asked) ≡ b → Fine asked Module (cond b (Ok (Uses, fixed)) (Err Form))
      go true h = (tt, λ n. left_of (is_short asked) (same_name (take 7 line) (codes "module ") && same_name (drop 7 line) asked) h)
      go false h = tt

  fine_staged : (s : Stage) (line : List ℕ) → Fine asked s (staged_line asked s line)
  fine_staged Format line = fine_format line
  fine_staged Module line = fine_module line
  fine_staged Uses line = fine_uses line
  fine_staged Parameters line = fine_later Parameters (λ n. n) line
  fine_staged Declarations line = fine_later Declarations (λ n. n) line
  fine_staged Ended line = tt

  fine_line : (s : Stage) (line : List ℕ) → Fine asked s (line_at asked s line)
  fine_line s line = go (is_utf8 line) (is_passed line)
    where
      go : (a b : Bool) → Fine asked s (cond a (cond b (Ok (s, passed)) (staged_line asked s line)) (Err Form))
      go true true = (tt, λ n. n)
      go true false = fine_staged s line
      go false b = tt

short_more : (ds : List (ℕ × (Declaring × Line))) (n : ℕ) (d : Declaring × Line) → has_short_name (name_of d.1) ≡ true → AllShort ds → AllShort (ds ++ (n, d) ∷ [])
short_more [] n d h a = (h, tt)
short_more (r ∷ rs) n d h a = (a.0, short_more rs n d h a.1)

short_with : (f : File) (n : ℕ) (e : FileLine) → EntryShort e → AllShort f.stated → AllShort (with_entry f n e).stated
short_with f n passed h a = a
short_with f n fixed h a = a
short_with f n (uses x) h a = a
short_with f n (declares (declaring.Parameter, L)) h a = a
short_with f n (declares (declaring.Assume, L)) h a = short_more f.stated n (declaring.Assume, L) h a
short_with f n (declares (declaring.Define, L)) h a = short_more f.stated n (declaring.Define, L) h a

abbrev Both : Name → File → Type 0
Both asked g = (is_short asked ≡ true) × AllShort g.stated

ended_short : (asked : Name) (s : Stage) (n : ℕ) (f g : File) → at_last s n f ≡ Ok g → Named asked s → AllShort f.stated → Both asked g
ended_short asked Ended n f g h short a = let e : f ≡ g = cc h in subst (Both asked) e (short, a)
ended_short asked Format n f g h short a = absurd (cc h)
ended_short asked Module n f g h short a = absurd (cc h)
ended_short asked Uses n f g h short a = absurd (cc h)
ended_short asked Parameters n f g h short a = absurd (cc h)
ended_short asked Declarations n f g h short a = absurd (cc h)

behind_short : (asked : Name) (s : Stage) (n : ℕ) (f g : File) (others : Stage → File → Result File (ℕ × FileWhy)) → ((r : Stage) (e : File) → others r e ≡ Ok g → Named asked r → AllShort e.stated → Both asked g) → (x : Result (Stage × FileLine) FileWhy) → Fine asked s x → behind_line n f x others ≡ Ok g → Named asked s → AllShort f.stated → Both asked g
behind_short asked s n f g others later (Ok r) fine h short a = later r.0 (with_entry f n r.1) h (fine.1 short) (short_with f n r.1 fine.0 a)
behind_short asked s n f g others later (Err w) fine h short a = absurd (cc h)

read_short : (asked : Name) (s : Stage) (n : ℕ) (f g : File) (lines : List (List ℕ)) → read_lines asked s n f lines ≡ Ok g → Named asked s → AllShort f.stated → Both asked g
read_short asked s n f g [] h short a = ended_short asked s n f g h short a
read_short asked s n f g (line ∷ lines) h short a = behind_short asked s n f g (λ r e. read_lines asked r (suc n) e lines) (λ r e k. read_short asked r (suc n) e g lines k) (line_at asked s line) (fine_line asked s line) h short a

-- The names of a module that is read, and its own, are short.
pub all_short : (asked : Name) (bytes : List ℕ) (g : File) → module_of asked bytes ≡ Ok g → (is_short asked ≡ true) × AllShort g.stated
unfolding module_of
all_short asked bytes g h = read_short asked Format 1 (record { used = []; assumed = []; stated = [] }) g (lines_of bytes) (unfolded asked bytes g h) tt tt
  where
    unfolded : (x : Name) (bs : List ℕ) (f : File) → module_of x bs ≡ Ok f → read_lines x Format 1 (record { used = []; assumed = []; stated = [] }) (lines_of bs) ≡ Ok f
    unfolded x bs f e = e
