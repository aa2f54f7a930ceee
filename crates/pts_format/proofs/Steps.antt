-- What is answered to one line.
use Rattle.std.proofs.Common.{◌≡◌, ◌≢◌, subst, arith, ℕ, ◌<◌, List, [], length, Result, Ok, Err, IfOk, OnOk, inl, inr}
use Rattle.std.specs.Io.BufRead.{first_line}
use Rattle.std.proofs.lemmas.List.{length-take}
use Rattle.pts_terms.specs.Tree.{Named}
use Rattle.pts_parser.specs.declared.fault.ReadFault.{ReadFault}
use Rattle.pts_parser.specs.declared.fault.ReadFault.TheVariants.{Memory}
use Rattle.pts_parser.specs.Reading.{Means, RefusesTerm}
use Rattle.pts_io.specs.declared.lines.Input.{Input}
use Rattle.pts_io.specs.declared.lines.Input.TheVariants.{Text, Bad, TooMuch, End}
use Rattle.pts_io.specs.Lines.{IsNext}
use Rattle.pts_io.proofs.Turns.{has_bytes}
use Rattle.pts_format.specs.Words.{refusal_line}
use Rattle.pts_format.specs.Lines.{no_constants, term_line, TextSays, a_term, refused, LineSays, a_text, no_text}
use Rattle.pts_format.specs.Calls.{Replies}

pub term_said : {A E : Type 0} (seen : A → List ℕ) (r : Result A E) (sorts : List (List ℕ)) (text : List ℕ) (t : Named) → Means text 0 sorts no_constants [] (Ok t) → IfOk r (λ a. seen a ≡ term_line sorts t) → IfOk r (λ a. TextSays sorts text (seen a))
term_said seen (Ok a) sorts text t m e = a_term t m e
term_said seen (Err f) sorts text t m e = tt

pub refusal_said : {A E : Type 0} (seen : A → List ℕ) (r : Result A E) (sorts : List (List ℕ)) (text : List ℕ) (e : ReadFault) → RefusesTerm text 0 sorts no_constants [] e → IfOk r (λ a. seen a ≡ refusal_line e) → OnOk r (e ≢ Memory) → IfOk r (λ a. TextSays sorts text (seen a))
refusal_said seen (Ok a) sorts text e m h n = refused e n m h
refusal_said seen (Err f) sorts text e m h n = tt

-- A reply to what was read of the bytes ahead is the answer to their first line.
pub reply_says : (sorts : List (List ℕ)) (k most : ℕ) (bytes line : List ℕ) (input : Input) → IsNext most bytes input → Replies sorts k input line → (0 < length bytes) × LineSays sorts k (first_line bytes) line
reply_says sorts k most bytes line (Text text) n r =
    (has_bytes most bytes n.0, a_text n.1.0 (subst (λ b. TextSays sorts b line) n.1.1 r))
reply_says sorts k most bytes line Bad n r = (has_bytes most bytes n.0, no_text n.1 r)
reply_says sorts k most bytes line TooMuch n r = absurd r
reply_says sorts k most bytes line End n r = absurd r
