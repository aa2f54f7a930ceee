-- What is reported where the lines come to their end.
use Rattle.std.proofs.Common.{◌≡◌, refl, sym, ap, subst, ◌∙◌, arith, ℕ, suc, ◌+◌, ◌-◌, ◌<◌, ◌≤◌, ◌↔◌, Bool, true, false, List, [], ◌++◌, length, take, Contains, Option, Result, Ok, IfSome, length-append}
use Rattle.std.specs.Io.KnownBytes.{prepend_known, append_known, IsAtEnd}
use Rattle.std.proofs.Math.Seq.{take-append-add}
use Rattle.std.proofs.lemmas.List.{take_all}
use Rattle.pts_io.specs.Counts.{raised}
use Rattle.pts_io.specs.declared.faults.ReadFail.{ReadFail}
use Rattle.pts_io.specs.declared.lines.Input.{Input}
use Rattle.pts_io.specs.declared.lines.Input.TheVariants.{Text, Bad, TooMuch, End}
use Rattle.pts_io.specs.Lines.{Reading, within, IsNext, Took}
use Rattle.pts_io.proofs.Known.{append_known-nil}
use Rattle.pts_io.specs.declared.ended.Ended.{Ended}
use Rattle.pts_io.specs.declared.ended.Ended.TheVariants as ended
use Rattle.pts_format.specs.Calls.{Replies, EndsBy}
use Rattle.pts_io.specs.Ends.{IsCount}
use Rattle.pts_format.specs.Ends.{Shows, EndAnswers}
use Rattle.pts_io.proofs.Turns.{not_over, line_written}
use Rattle.pts_format.proofs.Steps.{reply_says}
use Rattle.pts_format.proofs.Progress.{Stands, begins, takes_on, behind_line, answers_on, HasText, answers_some, answers_all, answers_first}

-- What is said of a call that came to this end.
abbrev pub Report : (sorts : List (List ℕ)) (limit : ℕ) (given given_after : ℕ) (left written written_after : Option (List ℕ)) → Ended → Type 0
Report sorts limit given given_after left written written_after e =
    (n : ℕ) × (given_after ≡ raised given n) × IsCount limit e n × ((bytes : List ℕ) × (out : List ℕ) × IfSome left (λ all. bytes ≡ all) × (n ≤ length bytes) × Shows e written written_after out × EndAnswers sorts limit e n bytes out)

report : (sorts : List (List ℕ)) (limit given given_after : ℕ) (left written written_after : Option (List ℕ)) (e : Ended) (n : ℕ) (out : List ℕ) → given_after ≡ raised given n → IsCount limit e n → Shows e written written_after out → HasText left n (λ bytes. EndAnswers sorts limit e n bytes out) → Report sorts limit given given_after left written written_after e
report sorts limit given given_after left written written_after e n out g count shown (bytes, all, few, says) = (n, g, count, (bytes, out, all, few, shown, says))

pub nothing_report : (sorts : List (List ℕ)) (limit given : ℕ) (left written : Option (List ℕ)) → Report sorts limit given given left written written ended.NoMemory
nothing_report sorts limit given left written =
    report sorts limit given given left written written ended.NoMemory 0 [] (omega arith) (omega arith) (sym (append_known-nil written))
    (answers_some sorts left left 0 0 [] [] false (begins sorts left 0 [] false refl refl) (λ e. absurd (cc e)))

pub memory_report : (sorts : List (List ℕ)) (limit given given_after : ℕ) (left after written written_after : Option (List ℕ)) (n k : ℕ) (held out : List ℕ) (finished : Bool) → given_after ≡ raised given n → n ≤ limit → written_after ≡ append_known written out → Stands sorts left after n k held out finished → (finished ≡ true → IsAtEnd after × (held ≡ [])) → Report sorts limit given given_after left written written_after ended.NoMemory
memory_report sorts limit given given_after left after written written_after n k held out finished g few w s at_end =
    report sorts limit given given_after left written written_after ended.NoMemory n out g few w (answers_some sorts left after n k held out finished s at_end)

-- a line was written in part
pub write_report : (sorts : List (List ℕ)) (limit given given_after : ℕ) (left after written now written_after : Option (List ℕ)) (n k : ℕ) (held out line bytes : List ℕ) (finished : Bool) → bytes ≡ line → given_after ≡ raised given n → n ≤ limit → now ≡ append_known written out → ((m : ℕ) × (m ≤ length bytes) × (written_after ≡ append_known now (take m bytes))) → Stands sorts left after n k held (out ++ line) finished → (finished ≡ true → IsAtEnd after × (held ≡ [])) → Report sorts limit given given_after left written written_after ended.WriteFailed
write_report sorts limit given given_after left after written now written_after n k held out line bytes finished same g few is part s at_end =
    let (m, below, more) = subst (λ b. (m : ℕ) × (m ≤ length b) × (written_after ≡ append_known now (take m b))) same part in
    report sorts limit given given_after left written written_after ended.WriteFailed n (out ++ line) g few
    (length out + m, omega (arith, below, length-append out line), line_written written now written_after out (take m line) is more ∙ ap (append_known written) (sym (take-append-add out line m)))
    (answers_some sorts left after n k held (out ++ line) finished s at_end)

-- where the end was answered, no other answer comes
pub is_open : {A : Type 0} (ended : Bool) → (ended ≡ true → A) → ¬ A → ended ≡ false
is_open true answered other = absurd (other (answered refl))
is_open false answered other = refl

not_end : (sorts : List (List ℕ)) (k : ℕ) (input : Input) (line : List ℕ) → Replies sorts k input line → ¬ (◌≡◌ {A = Result Input ReadFail} (Ok input) (Ok End))
not_end sorts k (Text text) line r e = cc e
not_end sorts k Bad line r e = cc e
not_end sorts k TooMuch line r e = absurd r
not_end sorts k End line r e = absurd r

-- A reader that was `old` took more, and is `new`.
module _ (sorts : List (List ℕ)) (limit : ℕ) (left now after : Option (List ℕ)) (old new : Reading) (k : ℕ) (out more : List ℕ) (moved : now ≡ prepend_known more after) (s : Stands sorts left now old.taken k old.held out old.ended) where
  stood : new.taken ≡ old.taken + length more → Stands sorts left after new.taken k (old.held ++ more) out old.ended
  stood count = takes_on sorts left now after old.taken new.taken k old.held more out old.ended s moved count

  -- the first line was answered
  pub line_stood : (next : ℕ) (line : List ℕ) (input : Input) → next ≡ suc k → Replies sorts next input line → Took old new (Ok input) more → old.taken ≤ old.limit → (old.ended ≡ true → ◌≡◌ {A = Result Input ReadFail} (Ok input) (Ok End)) → Stands sorts left after new.taken next new.held (out ++ line) new.ended
  line_stood next line input is r took inside done =
      let goes = is_open old.ended done (not_end sorts next input line r) in
      let reply : Replies sorts (suc k) input line = subst (λ n. Replies sorts n input line) is r in
      let says = reply_says sorts (suc k) (within old) (old.held ++ more) line input (took.answer inside) reply in
      subst (λ n. Stands sorts left after new.taken n new.held (out ++ line) new.ended) (sym is)
      (answers_on sorts left after new.taken k (old.held ++ more) _ new.held out line old.ended new.ended (stood took.count) goes says.0 says.1 (behind_line sorts (suc k) (old.held ++ more) line input reply) took.rest took.fed)

  module _ (given given_after : ℕ) (written written_after : Option (List ℕ)) (g : given_after ≡ raised given new.taken) (w : written_after ≡ append_known written out) where
    pub no_memory_report : new.taken ≡ old.taken + length more → old.ended ≡ false → new.taken ≤ limit → Report sorts limit given given_after left written written_after ended.NoMemory
    no_memory_report count goes few = memory_report sorts limit given given_after left after written written_after new.taken k (old.held ++ more) out old.ended g few w (stood count) (λ e. absurd (cc (e, goes)))

    -- reading failed where no line feed is held
    pub failed_report : (fail : ReadFail) → Took old new (Result.Err fail) more → old.ended ≡ false → new.taken ≤ limit → ¬ Contains new.held 10 → Report sorts limit given given_after left written written_after ended.ReadFailed
    failed_report fail took goes few none =
        let t = stood took.count in
        let count : new.taken - length t.whole ≡ length (old.held ++ more) = omega (arith, t.count, length-append t.whole (old.held ++ more)) in
        let held : new.held ≡ take (new.taken - length t.whole) (old.held ++ more) = took.rest ∙ sym (ap (λ m. take m (old.held ++ more)) count ∙ take_all (length (old.held ++ more)) (old.held ++ more) (omega arith)) in
        report sorts limit given given_after left written written_after ended.ReadFailed new.taken out g few w
        (answers_first sorts left after new.taken k (old.held ++ more) out old.ended t new.taken goes (omega arith) (omega (arith, t.count, length-append t.whole (old.held ++ more))) (subst (λ bytes. ¬ Contains bytes 10) held none))

    -- a byte after the limit was taken
    over_report : new.taken ≡ old.taken + length more → old.ended ≡ false → old.taken ≤ limit → old.limit ≡ limit → new.taken ≡ suc limit → IsNext (within old) (old.held ++ more) TooMuch → Report sorts limit given given_after left written written_after ended.TooMuch
    over_report count goes inside same most next =
        let t = stood count in
        let first : limit - length t.whole ≡ within old = omega (arith, t.count, count, same, inside, length-append t.whole (old.held ++ more), length-append old.held more) in
        report sorts limit given given_after left written written_after ended.TooMuch new.taken out g most w
        (answers_first sorts left after new.taken k (old.held ++ more) out old.ended t limit goes (omega (arith, most)) (omega (arith, t.count, count, inside, length-append t.whole (old.held ++ more), length-append old.held more)) (subst (λ m. ¬ Contains (take m (old.held ++ more)) 10) (sym first) next.1))

    -- no line was answered
    pub ended_report : (input : Input) (e : Ended) → EndsBy input e → Took old new (Ok input) more → old.taken ≤ limit → old.limit ≡ limit → new.limit ≡ limit → ((◌≡◌ {A = Result Input ReadFail} (Ok input) (Ok TooMuch)) ↔ (new.limit < new.taken)) → new.taken ≤ suc limit → (old.ended ≡ true → ◌≡◌ {A = Result Input ReadFail} (Ok input) (Ok End)) → (◌≡◌ {A = Result Input ReadFail} (Ok input) (Ok End) → IsAtEnd after) → Report sorts limit given given_after left written written_after e
    ended_report (Text text) e is took inside was lim over most done last =
        subst (Report sorts limit given given_after left written written_after) (sym is)
        (no_memory_report took.count (is_open old.ended done (λ h. cc h)) (not_over limit new.taken (λ h. absurd (cc (over.1 (omega (arith, h, lim)))))))
    ended_report Bad e is took inside was lim over most done last =
        subst (Report sorts limit given given_after left written written_after) (sym is)
        (no_memory_report took.count (is_open old.ended done (λ h. cc h)) (not_over limit new.taken (λ h. absurd (cc (over.1 (omega (arith, h, lim)))))))
    ended_report TooMuch e is took inside was lim over most done last =
        let past = over.0 refl in
        subst (Report sorts limit given given_after left written written_after) (sym is)
        (over_report took.count (is_open old.ended done (λ h. cc h)) inside was (omega (arith, past, most, lim)) (took.answer (omega (arith, inside, was))))
    ended_report End e is took inside was lim over most done last =
        subst (Report sorts limit given given_after left written written_after) (sym is)
        (report sorts limit given given_after left written written_after ended.Whole new.taken out g (not_over limit new.taken (λ h. absurd (cc (over.1 (omega (arith, h, lim)))))) w (answers_all sorts left after new.taken k (old.held ++ more) out old.ended (stood took.count) (last refl) (took.answer (omega (arith, inside, was)))))

-- the lines are whole where the source is at its end
pub whole_at_end : (input : Input) (e : Ended) → EndsBy input e → e ≡ ended.Whole → ◌≡◌ {A = Result Input ReadFail} (Ok input) (Ok End)
whole_at_end (Text text) e is same = absurd (cc (is, same))
whole_at_end Bad e is same = absurd (cc (is, same))
whole_at_end TooMuch e is same = absurd (cc (is, same))
whole_at_end End e is same = refl
