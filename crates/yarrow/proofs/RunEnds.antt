-- The ways in which a run of `check` ends.
use Rattle.std.proofs.Common.{◌≡◌, ℕ, ◌≤◌, List, [], length, sym, ap, ◌∙◌, subst, Option, Some, None, arith}
use Rattle.std.specs.Prelude.{◌<◌, IfSome, codes}
use Rattle.std.specs.Io.KnownBytes.{IsAtEnd}
use Rattle.pts_io.specs.Counts.{raised, Rose}
use Rattle.pts_io.specs.States.{SourceState, SinkState}
use Rattle.pts_names.specs.Name.{Name}
use Rattle.pts_ctx.specs.System.{Specification}
use Rattle.pts_ctx.specs.Front.{Global, bare_front}
use Rattle.pts_rules.specs.Derives.{Legal}
use Rattle.pts_certificate.specs.Certificate.{certificate_of}
use Rattle.yarrow.specs.Answers.{answer_to, IsLegalBy}
use Rattle.yarrow.specs.Runs.{Takes, PrintsLine, Writes, CheckPrints, answered, read_failed, too_long, no_memory, IsCheckRun}
use Rattle.yarrow.proofs.LegalEnd.{answer_legal, some_legal, none_legal, none_chosen}
use Rattle.yarrow.proofs.FormatEnds.{writes_line, writes_nothing}

if_some : {A : Type 0} (o : Option A) (P : A → Type 0) → ((a : A) → P a) → IfSome o P
if_some None P f = tt
if_some (Some a) P f = f a

if_some_map : {A : Type 0} (o : Option A) (P Q : A → Type 0) → ((a : A) → P a → Q a) → IfSome o P → IfSome o Q
if_some_map None P Q f p = tt
if_some_map (Some a) P Q f p = f a p

module _ (s t : SourceState) (old : SinkState) (st : ℕ) where
  nothing_entered : (new : SinkState) (G : List (Global Name)) (L : List (Name × ℕ)) → G ≡ [] → L ≡ [] → Writes (λ z out. CheckPrints s t z out [] []) old new st → IsCheckRun s t old new st G L
  nothing_entered new G L g l w = record {
    prints = subst (λ M. Writes (λ z out. CheckPrints s t z out G M) old new st) (sym l) (subst (λ H. Writes (λ z out. CheckPrints s t z out H []) old new st) (sym g) w);
    legal = none_legal G g;
    chosen = if_some s.left (λ text. IsLegalBy (certificate_of text) G) (λ text. none_chosen text G g);
  }

  pub failed_run : (new : SinkState) (G : List (Global Name)) (L : List (Name × ℕ)) (n : ℕ) → n ≤ 16777216 → t.given ≡ raised s.given n → Rose s.faults t.faults → G ≡ [] → L ≡ [] → PrintsLine 4 (codes "read failed\n") old new st → IsCheckRun s t old new st G L
  failed_run new G L n few given rose g l w =
      nothing_entered new G L g l (writes_line (λ z out. CheckPrints s t z out [] []) old new st 4 (codes "read failed\n") (read_failed n few given rose) w)

  pub long_run : (new : SinkState) (G : List (Global Name)) (L : List (Name × ℕ)) → Takes s t 16777217 → IfSome s.left (λ all. 16777216 < length all) → G ≡ [] → L ≡ [] → PrintsLine 8 (codes "input too long\n") old new st → IsCheckRun s t old new st G L
  long_run new G L taken long g l w =
      nothing_entered new G L g l (writes_line (λ z out. CheckPrints s t z out [] []) old new st 8 (codes "input too long\n") (too_long taken long) w)

  pub memory_run : (G : List (Global Name)) (L : List (Name × ℕ)) (n : ℕ) → n ≤ 16777216 → t.given ≡ raised s.given n → st ≡ 7 → G ≡ [] → L ≡ [] → IsCheckRun s t old old st G L
  memory_run G L n few given e g l =
      nothing_entered old G L g l (writes_nothing (λ z out. CheckPrints s t z out [] []) old st 7 e (no_memory n few given))

  -- The bytes that were read, and the answer to them.
  pub answered_run : (new : SinkState) (wanted : ℕ) (G : List (Global Name)) (L : List (Name × ℕ)) (line bytes items : List ℕ) (n : ℕ) → bytes ≡ items → length items ≡ n → n ≤ 16777216 → t.given ≡ raised s.given n → t.faults ≡ s.faults → IfSome s.left (λ all. items ≡ all) → IsAtEnd t.left → wanted ≡ (answer_to bytes).status → line ≡ (answer_to bytes).line → G ≡ (answer_to bytes).entries → L ≡ [] → PrintsLine wanted line old new st → IsCheckRun s t old new st G L
  answered_run new wanted G L line bytes items n is count few given faults all ended es el eg none w =
      let long : length bytes ≡ n = ap length is ∙ count in
      let same : IfSome s.left (λ all. bytes ≡ all) = if_some_map s.left (λ all. items ≡ all) (λ all. bytes ≡ all) (λ all e. is ∙ e) all in
      let prints : CheckPrints s t (answer_to bytes).status (answer_to bytes).line (answer_to bytes).entries [] = answered bytes (omega (arith, long, few)) (given ∙ ap (raised s.given) (sym long), faults) same ended in
      let shown : CheckPrints s t wanted line (answer_to bytes).entries [] = subst (λ x. CheckPrints s t wanted x (answer_to bytes).entries []) (sym el) (subst (λ z. CheckPrints s t z (answer_to bytes).line (answer_to bytes).entries []) (sym es) prints) in
      record {
        prints = writes_line (λ z out. CheckPrints s t z out G L) old new st wanted line (subst (λ M. CheckPrints s t wanted line G M) (sym none) (subst (λ H. CheckPrints s t wanted line H []) (sym eg) shown)) w;
        legal = subst (λ H. (S : Specification) × Legal S (bare_front H)) (sym eg) (some_legal bytes);
        chosen = if_some_map s.left (λ text. bytes ≡ text) (λ text. IsLegalBy (certificate_of text) G) (λ text e. subst (IsLegalBy (certificate_of text)) (sym (eg ∙ ap (λ x. (answer_to x).entries) e)) (answer_legal text)) same;
      }
