-- The ways in which a run of `batch` ends.
use Rattle.std.proofs.Common.{◌≡◌, ℕ, inl, inr, List, [], ◌++◌, length, take, refl, sym, ap, ◌∙◌, subst, arith, true, false, Option, Some, None, Result, Ok, Err, append-nil}
use Rattle.std.specs.Prelude.{IfSome, if◌then◌else◌}
use Rattle.std.specs.Io.KnownBytes.{append_known}
use Rattle.std.proofs.lemmas.List.{take_all}
use Rattle.pts_names.specs.Name.{Name}
use Rattle.pts_ctx.specs.System.{Specification}
use Rattle.pts_ctx.specs.Front.{Global, bare_front}
use Rattle.pts_rules.specs.Derives.{Legal, legal_empty}
use Rattle.pts_io.specs.States.{SinkState, LibraryState}
use Rattle.pts_io.specs.Files.{file_of}
use Rattle.pts_io.proofs.Known.{append_known-nil}
use Rattle.pts_spec.specs.declared.fault.SpecFault.{SpecFault}
use Rattle.pts_spec.specs.SpecFile.{system_of}
use Rattle.pts_batch.specs.Batches.{BatchAnswer, BatchAnswers}
use Rattle.yarrow.specs.declared.system.Unready.{Unready}
use Rattle.yarrow.specs.declared.system.Unready.TheVariants.{LibraryFailed, NoFile, TooLong, Refused, NoMemory}
use Rattle.yarrow.specs.Runs.{Prints, PrintsPart, PrintsLine, Writes}
use Rattle.yarrow.specs.Systems.{HasFile, IsUnread, RefusesFile, UnreadyPrints, shown, no_memory_to_show, unready_line, unready_status}
use Rattle.yarrow.specs.Batches.{file_name, text_of, done_line, answer_text, answer_status, AnswerPrints, whole, no_memory, ModulePrints, answered, no_answer, FilesPrint, no_system, in_system, no_memory_for_it, BatchPrints, no_specification, no_file, both_read, no_memory_at_all, IsLegalIn, IsBatchRun}
use Rattle.yarrow.proofs.LegalEnd.{none_legal}
use Rattle.yarrow.proofs.FormatEnds.{writes_after, writes_line, writes_nothing}

-- What is printed counts as what Q says, where all that P says does.
pub writes_map : (P Q : ℕ → List ℕ → Type 0) (old new : SinkState) (st : ℕ) → ((s : ℕ) (t : List ℕ) → P s t → Q s t) → Writes P old new st → Writes Q old new st
writes_map P Q old new st f (inl (text, p, w)) = inl (text, f st text p, w)
writes_map P Q old new st f (inr (e, (wanted, text, p, w))) = inr (e, (wanted, text, f wanted text p, w))

-- a line says what is not there
pub shown_end : (name : List ℕ) (why : Unready) (old new : SinkState) (st status : ℕ) (line : List ℕ) → status ≡ unready_status why → line ≡ unready_line name why → PrintsLine status line old new st → Writes (UnreadyPrints name why) old new st
shown_end name why old new st status line s l w =
    writes_line (UnreadyPrints name why) old new st (unready_status why) (unready_line name why) shown
    (subst (λ k. PrintsLine k (unready_line name why) old new st) s (subst (λ x. PrintsLine status x old new st) l w))

pub unshown_end : (name : List ℕ) (why : Unready) (old : SinkState) (st : ℕ) → st ≡ 7 → Writes (UnreadyPrints name why) old old st
unshown_end name why old st e = writes_nothing (UnreadyPrints name why) old st 7 e no_memory_to_show

-- the lines of an answer
moved : (a : BatchAnswer) (s r : ℕ) (t u : List ℕ) → s ≡ r → t ≡ u → AnswerPrints a s t → AnswerPrints a r u
moved a s r t u e f p = subst (λ k. AnswerPrints a k u) e (subst (AnswerPrints a s) f p)

all_lines : (a : BatchAnswer) → AnswerPrints a 7 (text_of a.lines)
all_lines a = moved a 7 7 (text_of (take (length a.lines) a.lines)) (text_of a.lines) refl (ap text_of (take_all (length a.lines) a.lines (omega arith))) (no_memory (length a.lines))

-- The lines that were printed are those of the answer.
module _ (a : BatchAnswer) (old mid : SinkState) (st : ℕ) (lines : List (List ℕ)) (same : lines ≡ a.lines) where
  pub lines_failed : st ≡ 5 → PrintsPart old mid (text_of lines) → Writes (AnswerPrints a) old mid st
  lines_failed e f = inr (e, (7, text_of a.lines, all_lines a, subst (λ ls. PrintsPart old mid (text_of ls)) same f))

  pub lines_unmade : st ≡ 7 → ((n : ℕ) × Prints old mid (text_of (take n lines))) → Writes (AnswerPrints a) old mid st
  lines_unmade e f =
      let n : ℕ = f.0 in
      let text : List ℕ = text_of (take n a.lines) in
      inl (text, moved a 7 st text text (sym e) refl (no_memory n), subst (λ ls. Prints old mid (text_of (take n ls))) same f.1)

  printed_lines : Prints old mid (text_of lines) → Prints old mid (text_of a.lines)
  printed_lines w = subst (λ ls. Prints old mid (text_of ls)) same w

  pub done_unmade : st ≡ 7 → Prints old mid (text_of lines) → Writes (AnswerPrints a) old mid st
  done_unmade e f = inl (text_of a.lines, moved a 7 st (text_of a.lines) (text_of a.lines) (sym e) refl (all_lines a), printed_lines f)

  pub refused_end : a.refused ≡ true → st ≡ 1 → Prints old mid (text_of lines) → Writes (AnswerPrints a) old mid st
  refused_end r e f =
      let s : answer_status a ≡ 1 = ap (λ b. if b then 1 else 0) r in
      let t : answer_text a ≡ text_of a.lines = ap (λ b. text_of a.lines ++ (if b then [] else done_line (length a.entries))) r ∙ append-nil (text_of a.lines) in
      inl (text_of a.lines, moved a (answer_status a) st (answer_text a) (text_of a.lines) (s ∙ sym e) t whole, printed_lines f)

  pub done_end : (new : SinkState) (line : List ℕ) → a.refused ≡ false → line ≡ done_line (length a.entries) → Prints old mid (text_of lines) → PrintsLine 0 line mid new st → Writes (AnswerPrints a) old new st
  done_end new line r l f w =
      let s : answer_status a ≡ 0 = ap (λ b. if b then 1 else 0) r in
      let t : answer_text a ≡ text_of a.lines ++ line = ap (λ b. text_of a.lines ++ (if b then [] else done_line (length a.entries))) r ∙ ap (λ d. text_of a.lines ++ d) (sym l) in
      writes_after (AnswerPrints a) old mid new st 0 (text_of a.lines) line (printed_lines f) (moved a (answer_status a) 0 (answer_text a) (text_of a.lines ++ line) s t whole) w

-- the answer to a module
pub module_answered : (S : Specification) (M bytes : List ℕ) (old new : SinkState) (st : ℕ) (a : BatchAnswer) (units : ℕ) (G : List (Global Name)) (L : List (Name × ℕ)) → BatchAnswers S M bytes 1000000 a units → G ≡ a.entries → L ≡ a.labels → Writes (AnswerPrints a) old new st → Writes (λ s t. ModulePrints S M bytes s t G L) old new st
module_answered S M bytes old new st a units G L is g l w =
    subst (λ K. Writes (λ s t. ModulePrints S M bytes s t G K) old new st) (sym l)
    (subst (λ H. Writes (λ s t. ModulePrints S M bytes s t H a.labels) old new st) (sym g)
    (writes_map (AnswerPrints a) (λ s t. ModulePrints S M bytes s t a.entries a.labels) old new st (λ s t p. answered a units is p) w))

pub entered_legal : (S : Specification) (G H : List (Global Name)) → G ≡ H → Legal S (bare_front H) → Legal S (bare_front G)
entered_legal S G H e l = subst (λ K. Legal S (bare_front K)) (sym e) l

pub module_unanswered : (S : Specification) (M bytes : List ℕ) (old : SinkState) (st : ℕ) (G : List (Global Name)) (L : List (Name × ℕ)) → st ≡ 7 → G ≡ [] → L ≡ [] → Writes (λ s t. ModulePrints S M bytes s t G L) old old st
module_unanswered S M bytes old st G L e g l =
    writes_nothing (λ s t. ModulePrints S M bytes s t G L) old st 7 e (subst (λ K. ModulePrints S M bytes 7 [] G K) (sym l) (subst (λ H. ModulePrints S M bytes 7 [] H []) (sym g) no_answer))

pub none_entered_legal : (S : Specification) (G : List (Global Name)) → G ≡ [] → Legal S (bare_front G)
none_entered_legal S G e = subst (λ H. Legal S (bare_front H)) (sym e) legal_empty

empty_in : (r : Result Specification SpecFault) → IsLegalIn r []
empty_in (Ok S) = legal_empty
empty_in (Err e) = refl

pub none_legal_in : (r : Result Specification SpecFault) (G : List (Global Name)) → G ≡ [] → IsLegalIn r G
none_legal_in r G e = subst (IsLegalIn r) (sym e) (empty_in r)

pub in_system_end : (name M text bytes : List ℕ) (old new : SinkState) (st : ℕ) (S : Specification) (G : List (Global Name)) (L : List (Name × ℕ)) → system_of text ≡ Ok S → Writes (λ s t. ModulePrints S M bytes s t G L) old new st → Writes (λ s t. FilesPrint name M text bytes s t G L) old new st
in_system_end name M text bytes old new st S G L e w =
    writes_map (λ s t. ModulePrints S M bytes s t G L) (λ s t. FilesPrint name M text bytes s t G L) old new st (λ s t p. in_system S e p) w

unmade : (name M text bytes : List ℕ) (s : ℕ) (t : List ℕ) → UnreadyPrints name NoMemory s t → FilesPrint name M text bytes s t [] []
unmade name M text bytes s t shown = no_memory_for_it
unmade name M text bytes s t no_memory_to_show = no_memory_for_it

no_system_prints : (name M text bytes : List ℕ) (why : Unready) → RefusesFile text why → (s : ℕ) (t : List ℕ) → UnreadyPrints name why s t → FilesPrint name M text bytes s t [] []
no_system_prints name M text bytes (Refused e) h s t p = no_system e h p
no_system_prints name M text bytes NoMemory h s t p = unmade name M text bytes s t p
no_system_prints name M text bytes LibraryFailed h s t p = absurd h
no_system_prints name M text bytes NoFile h s t p = absurd h
no_system_prints name M text bytes TooLong h s t p = absurd h

pub no_system_end : (name M text bytes : List ℕ) (why : Unready) (old new : SinkState) (st : ℕ) (G : List (Global Name)) (L : List (Name × ℕ)) → RefusesFile text why → G ≡ [] → L ≡ [] → Writes (UnreadyPrints name why) old new st → Writes (λ s t. FilesPrint name M text bytes s t G L) old new st
no_system_end name M text bytes why old new st G L h g l w =
    subst (λ K. Writes (λ s t. FilesPrint name M text bytes s t G K) old new st) (sym l)
    (subst (λ H. Writes (λ s t. FilesPrint name M text bytes s t H []) old new st) (sym g)
    (writes_map (UnreadyPrints name why) (λ s t. FilesPrint name M text bytes s t [] []) old new st (no_system_prints name M text bytes why h) w))

-- a whole run
some_legal_in : (r : Result Specification SpecFault) (G : List (Global Name)) → IsLegalIn r G → (S : Specification) × Legal S (bare_front G)
some_legal_in (Ok S) G l = (S, l)
some_legal_in (Err e) G l = none_legal G l

chosen_by : (name : List ℕ) (files : Option (List (List ℕ × List ℕ))) (text : List ℕ) (G : List (Global Name)) → IfSome files (λ files. file_of files name ≡ Some text) → IsLegalIn (system_of text) G → IfSome files (λ files. IfSome (file_of files name) (λ text. IsLegalIn (system_of text) G))
chosen_by name None text G has l = tt
chosen_by name (Some files) text G has l = subst (λ f. IfSome f (λ text. IsLegalIn (system_of text) G)) (sym has) l

if_file : (f : Option (List ℕ)) (G : List (Global Name)) → G ≡ [] → IfSome f (λ text. IsLegalIn (system_of text) G)
if_file None G e = tt
if_file (Some text) G e = none_legal_in (system_of text) G e

none_chosen_by : (name : List ℕ) (files : Option (List (List ℕ × List ℕ))) (G : List (Global Name)) → G ≡ [] → IfSome files (λ files. IfSome (file_of files name) (λ text. IsLegalIn (system_of text) G))
none_chosen_by name None G e = tt
none_chosen_by name (Some files) G e = if_file (file_of files name) G e

module _ (name M : List ℕ) (h i : LibraryState) (old : SinkState) (st : ℕ) (G : List (Global Name)) (L : List (Name × ℕ)) where
  nothing_entered : (new : SinkState) → G ≡ [] → L ≡ [] → Writes (λ s t. BatchPrints name M h i s t [] []) old new st → IsBatchRun name M h i old new st G L
  nothing_entered new g l w = record {
    prints = subst (λ K. Writes (λ s t. BatchPrints name M h i s t G K) old new st) (sym l) (subst (λ H. Writes (λ s t. BatchPrints name M h i s t H []) old new st) (sym g) w);
    legal = none_legal G g;
    chosen = none_chosen_by name h.files G g;
  }

  pub no_specification_run : (new : SinkState) (why : Unready) → IsUnread h i name why → G ≡ [] → L ≡ [] → Writes (UnreadyPrints name why) old new st → IsBatchRun name M h i old new st G L
  no_specification_run new why is g l w = nothing_entered new g l (writes_map (UnreadyPrints name why) (λ s t. BatchPrints name M h i s t [] []) old new st (λ s t p. no_specification why is p) w)

  pub no_file_run : (new : SinkState) (why : Unready) (text file : List ℕ) → file ≡ file_name M → HasFile h name text → IsUnread h i file why → G ≡ [] → L ≡ [] → Writes (UnreadyPrints file why) old new st → IsBatchRun name M h i old new st G L
  no_file_run new why text file f has is g l w =
      nothing_entered new g l (writes_map (UnreadyPrints file why) (λ s t. BatchPrints name M h i s t [] []) old new st (λ s t p. no_file why text has (subst (λ n. IsUnread h i n why) f is) (subst (λ n. UnreadyPrints n why s t) f p)) w)

  pub no_memory_run : st ≡ 7 → G ≡ [] → L ≡ [] → IsBatchRun name M h i old old st G L
  no_memory_run e g l = nothing_entered old g l (writes_nothing (λ s t. BatchPrints name M h i s t [] []) old st 7 e no_memory_at_all)

  pub both_read_run : (new : SinkState) (text bytes file : List ℕ) → file ≡ file_name M → HasFile h name text → HasFile h file bytes → i.faults ≡ h.faults → IsLegalIn (system_of text) G → Writes (λ s t. FilesPrint name M text bytes s t G L) old new st → IsBatchRun name M h i old new st G L
  both_read_run new text bytes file f has more quiet l w = record {
    prints = writes_map (λ s t. FilesPrint name M text bytes s t G L) (λ s t. BatchPrints name M h i s t G L) old new st (λ s t p. both_read text bytes has (subst (λ n. HasFile h n bytes) f more) quiet p) w;
    legal = some_legal_in (system_of text) G l;
    chosen = chosen_by name h.files text G has l;
  }
