-- The ways in which a run of `format` ends.
use Rattle.std.proofs.Common.{◌≡◌, ℕ, ◌+◌, ◌≤◌, ◌⊎◌, inl, inr, List, [], ◌++◌, length, take, refl, sym, ap, ◌∙◌, subst, arith, Option, length-append}
use Rattle.std.specs.Prelude.{IfSome, codes}
use Rattle.std.specs.Io.KnownBytes.{append_known, IsAtEnd}
use Rattle.std.proofs.Math.Seq.{take-append-add}
use Rattle.pts_ctx.specs.System.{Specification}
use Rattle.pts_io.specs.Counts.{raised, Rose}
use Rattle.pts_io.specs.States.{SourceState, SinkState, LibraryState}
use Rattle.pts_io.proofs.Known.{append_known-nil, append_known-append}
use Rattle.pts_io.specs.declared.ended.Ended.{Ended}
use Rattle.pts_io.specs.declared.ended.Ended.TheVariants.{Whole, ReadFailed, TooMuch, WriteFailed, NoMemory}
use Rattle.pts_io.specs.Ends.{IsCount}
use Rattle.pts_format.specs.Ends.{Shows, EndAnswers}
use Rattle.yarrow.specs.declared.system.Unready.{Unready}
use Rattle.yarrow.specs.declared.system.Unready.TheVariants as unready
use Rattle.yarrow.specs.Runs.{Takes, TakesNothing, Prints, PrintsPart, PrintsLine, Writes}
use Rattle.yarrow.specs.Systems.{IsReady, IsUnready, unready_line, unready_status}
use Rattle.yarrow.specs.Formats.{LinesPrint, answered, read_failed, too_long, no_memory, FormatPrints, no_system, lines}

-- What the lines came to, where the sink was `old` and is then `mid`.
abbrev pub Reported : (sorts : List (List ℕ)) (s t : SourceState) (old mid : SinkState) → Ended → Type 0
Reported sorts s t old mid e =
    (n : ℕ) × (t.given ≡ raised s.given n) × IsCount 16777216 e n × ((bytes : List ℕ) × (out : List ℕ) × IfSome s.left (λ all. bytes ≡ all) × (n ≤ length bytes) × Shows e old.written mid.written out × EndAnswers sorts 16777216 e n bytes out)

-- Two texts, one after the other.
joined : (old mid new : Option (List ℕ)) (out line : List ℕ) → mid ≡ append_known old out → new ≡ append_known mid line → new ≡ append_known old (out ++ line)
joined old mid new out line first second = second ∙ (ap (λ w. append_known w line) first ∙ append_known-append old out line)

-- a line that is printed after a text
pub writes_after : (P : ℕ → List ℕ → Type 0) (old mid new : SinkState) (st wanted : ℕ) (out line : List ℕ) → Prints old mid out → P wanted (out ++ line) → PrintsLine wanted line mid new st → Writes P old new st
writes_after P old mid new st wanted out line first p (inl (e, w)) =
    inl (out ++ line, subst (λ k. P k (out ++ line)) (sym e) p, (joined old.written mid.written new.written out line first.0 w.0, w.1 ∙ first.1))
writes_after P old mid new st wanted out line first p (inr (e, part)) =
    let (n, below, more) = part.1 in
    inr (
      e,
      (
        wanted,
        out ++ line,
        p,
        (
          subst (λ f. Rose f new.faults) first.1 part.0,
          (length out + n, omega (arith, below, length-append out line), joined old.written mid.written new.written out (take n line) first.0 more ∙ ap (append_known old.written) (sym (take-append-add out line n))),
        ),
      ),
    )

-- a line that is printed alone
pub writes_line : (P : ℕ → List ℕ → Type 0) (old new : SinkState) (st wanted : ℕ) (line : List ℕ) → P wanted line → PrintsLine wanted line old new st → Writes P old new st
writes_line P old new st wanted line p (inl (e, w)) = inl (line, subst (λ k. P k line) (sym e) p, w)
writes_line P old new st wanted line p (inr (e, part)) = inr (e, (wanted, line, p, part))

pub writes_nothing : (P : ℕ → List ℕ → Type 0) (old : SinkState) (st wanted : ℕ) → st ≡ wanted → P wanted [] → Writes P old old st
writes_nothing P old st wanted e p = inl ([], subst (λ k. P k []) (sym e) p, (sym (append_known-nil old.written), refl))

-- The ends of the lines.
module _ (sorts : List (List ℕ)) (s t : SourceState) (old mid : SinkState) where
  pub whole_end : (st : ℕ) → st ≡ 0 → t.faults ≡ s.faults → mid.faults ≡ old.faults → IsAtEnd t.left → Reported sorts s t old mid Whole → Writes (LinesPrint sorts s t) old mid st
  whole_end st e reads writes last r =
      let (n, given, few, rest) = r in
      let (bytes, out, all, inside, shown, says) = rest in
      let count : n ≡ length bytes = says.0 in
      inl (out, subst (λ k. LinesPrint sorts s t k out) (sym e) (answered bytes out (omega (arith, few, count)) (given ∙ ap (raised s.given) count, reads) all last says.1), (shown, writes))

  pub memory_end : (st : ℕ) → st ≡ 7 → t.faults ≡ s.faults → mid.faults ≡ old.faults → Reported sorts s t old mid NoMemory → Writes (LinesPrint sorts s t) old mid st
  memory_end st e reads writes r =
      let (n, given, few, rest) = r in
      let (bytes, out, all, inside, shown, says) = rest in
      inl (out, subst (λ k. LinesPrint sorts s t k out) (sym e) (no_memory n bytes out few inside (given, reads) all says), (shown, writes))

  pub write_failed_end : (st : ℕ) → st ≡ 5 → t.faults ≡ s.faults → Rose old.faults mid.faults → Reported sorts s t old mid WriteFailed → Writes (LinesPrint sorts s t) old mid st
  write_failed_end st e reads rose r =
      let (n, given, few, rest) = r in
      let (bytes, out, all, inside, shown, says) = rest in
      inr (e, (7, out, no_memory n bytes out few inside (given, reads) all says, (rose, shown)))

  pub read_failed_end : (new : SinkState) (st : ℕ) → Rose s.faults t.faults → mid.faults ≡ old.faults → Reported sorts s t old mid ReadFailed → PrintsLine 4 (codes "read failed\n") mid new st → Writes (LinesPrint sorts s t) old new st
  read_failed_end new st rose quiet r w =
      let (n, given, few, rest) = r in
      let (bytes, out, all, inside, shown, says) = rest in
      writes_after (LinesPrint sorts s t) old mid new st 4 out (codes "read failed\n") (shown, quiet) (read_failed n bytes out few inside given rose all says) w

  pub too_long_end : (new : SinkState) (st : ℕ) → t.faults ≡ s.faults → mid.faults ≡ old.faults → Reported sorts s t old mid TooMuch → PrintsLine 8 (codes "input too long\n") mid new st → Writes (LinesPrint sorts s t) old new st
  too_long_end new st reads quiet r w =
      let (n, given, count, rest) = r in
      let (bytes, out, all, inside, shown, says) = rest in
      writes_after (LinesPrint sorts s t) old mid new st 8 out (codes "input too long\n") (shown, quiet) (too_long bytes out (omega (arith, count, inside)) (given ∙ ap (raised s.given) count, reads) all says) w

-- nothing was taken
untouched : (s t : SourceState) → TakesNothing s t → Takes s t 0
untouched s t h = (omega (arith, h.0), h.1)

-- The ends of a run.
module _ (name : List ℕ) (h i : LibraryState) (s t : SourceState) (old : SinkState) where
  -- where there is a system
  pub ready_end : (new : SinkState) (st : ℕ) (S : Specification) → IsReady h i name S → Writes (LinesPrint S.sorts s t) old new st → Writes (FormatPrints name h i s t) old new st
  ready_end new st S ready (inl (text, p, w)) = inl (text, lines S ready p, w)
  ready_end new st S ready (inr (e, (wanted, text, p, w))) = inr (e, (wanted, text, lines S ready p, w))

  -- where there is none
  pub unready_end : (new : SinkState) (st : ℕ) (why : Unready) → IsUnready h i name why → TakesNothing s t → (status : ℕ) (line : List ℕ) → status ≡ unready_status why → line ≡ unready_line name why → PrintsLine status line old new st → Writes (FormatPrints name h i s t) old new st
  unready_end new st why is taken status line e l w =
      writes_line (FormatPrints name h i s t) old new st (unready_status why) (unready_line name why) (no_system why is (untouched s t taken))
      (subst (λ k. PrintsLine k (unready_line name why) old new st) e (subst (λ x. PrintsLine status x old new st) l w))

  pub unprinted_end : (st : ℕ) → st ≡ 7 → TakesNothing s t → Writes (FormatPrints name h i s t) old old st
  unprinted_end st e taken = writes_nothing (FormatPrints name h i s t) old st 7 e (no_system unready.NoMemory tt (untouched s t taken))
