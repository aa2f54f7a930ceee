-- What is reported where the play of an input comes to its end.
use Rattle.std.proofs.Common.{◌≡◌, refl, sym, ap, subst, ◌∙◌, arith, ℕ, suc, ◌+◌, ◌-◌, ◌<◌, ◌≤◌, ◌↔◌, Bool, true, false, List, [], ◌++◌, map, length, take, Contains, Option, Result, Ok, IfSome, length-append}
use Rattle.std.specs.Io.KnownBytes.{prepend_known, append_known, IsAtEnd}
use Rattle.std.proofs.Math.Seq.{take-append-add}
use Rattle.std.proofs.lemmas.List.{take_all}
use Rattle.pts_io.specs.Counts.{raised}
use Rattle.pts_io.specs.declared.faults.ReadFail.{ReadFail}
use Rattle.pts_io.specs.declared.lines.Input.{Input}
use Rattle.pts_io.specs.declared.lines.Input.TheVariants.{Text, Bad, TooMuch, End}
use Rattle.pts_io.specs.Lines.{Reading, within, IsNext, Took}
use Rattle.pts_io.proofs.Known.{append_known-nil}
use Rattle.pts_io.specs.declared.ended.Ended.{Ended}
use Rattle.pts_io.specs.declared.ended.Ended.TheVariants as ended
use Rattle.pts_io.specs.Ends.{IsCount}
use Rattle.pts_io.proofs.Turns.{not_over, line_written}
use Rattle.pts_play.specs.Play.{Playing, full_line, text_of}
use Rattle.pts_replay.specs.Endings.{PlaysWhole, PlaysSome, all_lines, EndPlays, Shows, LeftAt}
use Rattle.pts_replay.specs.Replies.{joined, InputLeads, EndsBy}
use Rattle.pts_replay.proofs.Printing.{lines_joined}
use Rattle.pts_replay.proofs.Progress.{Stands, begins, takes_on, HasText, NextLeads, next_leads, plays_some, plays_first, plays_on, plays_whole}

-- where the end was answered, no other answer comes
pub is_open : {A : Type 0} (ended : Bool) → (ended ≡ true → A) → ¬ A → ended ≡ false
is_open true answered other = absurd (other (answered refl))
is_open false answered other = refl

-- and no byte is held
has_more : (most : ℕ) (bytes : List ℕ) (input : Input) → IsNext most bytes input → 0 < length bytes → ¬ (◌≡◌ {A = Result Input ReadFail} (Ok input) (Ok End))
has_more most bytes (Text text) next some e = cc e
has_more most bytes Bad next some e = cc e
has_more most bytes TooMuch next some e = cc e
has_more most bytes End next some e = absurd (omega (arith, ap length next, some))

has_text_by : (left : Option (List ℕ)) (n : ℕ) (P Q : List ℕ → Type 0) → ((bytes : List ℕ) → P bytes → Q bytes) → HasText left n P → HasText left n Q
has_text_by left n P Q f (bytes, all, few, says) = (bytes, all, few, f bytes says)

module _ {Core State : Type 0} (Round : Playing Core State → (numbers : List ℕ) → (out : List (List ℕ)) → Playing Core State → Type 0) (numbered : Bool) (limit : ℕ) (left : Option (List ℕ)) (start : Playing Core State) where
  -- What is said of a call that came to this end.
  abbrev pub Report : (given given_after : ℕ) (written written_after : Option (List ℕ)) → (now : Playing Core State) → Ended → Type 0
  Report given given_after written written_after now e =
      (n : ℕ) × (given_after ≡ raised given n) × IsCount limit e n × ((bytes : List ℕ) × (out : List ℕ) × (q : Playing Core State) × IfSome left (λ all. bytes ≡ all) × (n ≤ length bytes) × Shows e written written_after out × EndPlays Round numbered limit e n bytes start out q × LeftAt e q now)

  report : (given given_after : ℕ) (written written_after : Option (List ℕ)) (now : Playing Core State) (e : Ended) (n : ℕ) (out : List ℕ) (q : Playing Core State) → given_after ≡ raised given n → IsCount limit e n → Shows e written written_after out → HasText left n (λ bytes. EndPlays Round numbered limit e n bytes start out q) → LeftAt e q now → Report given given_after written written_after now e
  report given given_after written written_after now e n out q g count shown (bytes, all, few, plays) at = (n, g, count, (bytes, out, q, all, few, shown, plays, at))

  pub nothing_report : (given : ℕ) (written : Option (List ℕ)) → Report given given written written start ended.NoMemory
  nothing_report given written =
      report given given written written start ended.NoMemory 0 [] start (omega arith) (omega arith) (sym (append_known-nil written))
      (plays_some Round numbered left left start 0 0 [] [] start false (begins Round numbered left start 0 [] false refl refl) (λ e. absurd (cc e))) refl

  pub memory_report : (given given_after : ℕ) (after written written_after : Option (List ℕ)) (n k : ℕ) (held printed : List ℕ) (p now : Playing Core State) (finished : Bool) → given_after ≡ raised given n → n ≤ limit → written_after ≡ append_known written printed → Stands Round numbered left after start n k held printed p finished → (finished ≡ true → IsAtEnd after × (held ≡ [])) → now.orders ≡ p.orders → Report given given_after written written_after now ended.NoMemory
  memory_report given given_after after written written_after n k held printed p now finished g few w s at_end orders =
      report given given_after written written_after now ended.NoMemory n printed p g few w (plays_some Round numbered left after start n k held printed p finished s at_end) orders

  -- A reader that was `old` took more, and is `new`.
  module _ (here after : Option (List ℕ)) (old new : Reading) (k : ℕ) (printed more : List ℕ) (p : Playing Core State) (moved : here ≡ prepend_known more after) (s : Stands Round numbered left here start old.taken k old.held printed p old.ended) where
    stood : new.taken ≡ old.taken + length more → Stands Round numbered left after start new.taken k (old.held ++ more) printed p old.ended
    stood count = takes_on Round numbered left here after start old.taken new.taken k old.held more printed p old.ended s moved count

    module _ (given given_after : ℕ) (written written_after : Option (List ℕ)) (g : given_after ≡ raised given new.taken) (w : written_after ≡ append_known written printed) where
      pub no_memory_report : (now : Playing Core State) → now.orders ≡ p.orders → new.taken ≡ old.taken + length more → old.ended ≡ false → new.taken ≤ limit → Report given given_after written written_after now ended.NoMemory
      no_memory_report now orders count goes few = memory_report given given_after after written written_after new.taken k (old.held ++ more) printed p now old.ended g few w (stood count) (λ e. absurd (cc (e, goes))) orders

      -- reading failed where no line feed is held
      pub failed_report : (fail : ReadFail) → Took old new (Result.Err fail) more → old.ended ≡ false → new.taken ≤ limit → ¬ Contains new.held 10 → Report given given_after written written_after p ended.ReadFailed
      failed_report fail took goes few none =
          let t = stood took.count in
          let count : new.taken - length t.whole ≡ length (old.held ++ more) = omega (arith, t.count, length-append t.whole (old.held ++ more)) in
          let held : new.held ≡ take (new.taken - length t.whole) (old.held ++ more) = took.rest ∙ sym (ap (λ m. take m (old.held ++ more)) count ∙ take_all (length (old.held ++ more)) (old.held ++ more) (omega arith)) in
          report given given_after written written_after p ended.ReadFailed new.taken printed p g few w
          (plays_first Round numbered left after start new.taken k (old.held ++ more) printed p old.ended t new.taken goes (omega arith) (omega (arith, t.count, length-append t.whole (old.held ++ more))) (subst (λ bytes. ¬ Contains bytes 10) held none)) refl

      -- a byte after the limit was taken
      over_report : (now : Playing Core State) → now ≡ p → new.taken ≡ old.taken + length more → old.ended ≡ false → old.taken ≤ limit → old.limit ≡ limit → new.taken ≡ suc limit → IsNext (within old) (old.held ++ more) TooMuch → Report given given_after written written_after now ended.TooMuch
      over_report now kept count goes inside same most next =
          let t = stood count in
          let first : limit - length t.whole ≡ within old = omega (arith, t.count, count, same, inside, length-append t.whole (old.held ++ more), length-append old.held more) in
          report given given_after written written_after now ended.TooMuch new.taken printed p g most w
          (plays_first Round numbered left after start new.taken k (old.held ++ more) printed p old.ended t limit goes (omega (arith, most)) (omega (arith, t.count, count, inside, length-append t.whole (old.held ++ more), length-append old.held more)) (subst (λ m. ¬ Contains (take m (old.held ++ more)) 10) (sym first) next.1)) kept

      -- nothing is printed for the answer of the reader
      pub ended_report : (now : Playing Core State) (input : Input) (e : Ended) → EndsBy input e → now.orders ≡ p.orders → (e ≡ ended.TooMuch → now ≡ p) → Took old new (Ok input) more → old.taken ≤ limit → old.limit ≡ limit → new.limit ≡ limit → ((◌≡◌ {A = Result Input ReadFail} (Ok input) (Ok TooMuch)) ↔ (new.limit < new.taken)) → new.taken ≤ suc limit → (old.ended ≡ true → ◌≡◌ {A = Result Input ReadFail} (Ok input) (Ok End)) → (◌≡◌ {A = Result Input ReadFail} (Ok input) (Ok End) → IsAtEnd after) → Report given given_after written written_after now e
      ended_report now (Text text) e is orders kept took inside was lim over most done last =
          subst (Report given given_after written written_after now) (sym is)
          (no_memory_report now orders took.count (is_open old.ended done (λ h. cc h)) (not_over limit new.taken (λ h. absurd (cc (over.1 (omega (arith, h, lim)))))))
      ended_report now Bad e is orders kept took inside was lim over most done last =
          subst (Report given given_after written written_after now) (sym is)
          (no_memory_report now orders took.count (is_open old.ended done (λ h. cc h)) (not_over limit new.taken (λ h. absurd (cc (over.1 (omega (arith, h, lim)))))))
      ended_report now TooMuch e is orders kept took inside was lim over most done last =
          let past = over.0 refl in
          subst (Report given given_after written written_after now) (sym is)
          (over_report now (kept is) took.count (is_open old.ended done (λ h. cc h)) inside was (omega (arith, past, most, lim)) (took.answer (omega (arith, inside, was))))
      ended_report now End e is orders kept took inside was lim over most done last =
          subst (Report given given_after written written_after now) (sym is)
          (memory_report given given_after after written written_after new.taken k (old.held ++ more) printed p now old.ended g (not_over limit new.taken (λ h. absurd (cc (over.1 (omega (arith, h, lim)))))) w (stood took.count) (λ e. (last refl, took.answer (omega (arith, inside, was)))) orders)

    -- The reader answered, and this is what is printed for it and where the play is then.
    module _ (input : Input) (lines out : List (List ℕ)) (now : Playing Core State) (b : Bool) (number : ℕ) (counted : number ≡ suc k) (same : lines ≡ map full_line out) (leads : InputLeads Round numbered number input p b out now) (took : Took old new (Ok input) more) (inside : old.taken ≤ old.limit) (done : old.ended ≡ true → ◌≡◌ {A = Result Input ReadFail} (Ok input) (Ok End)) (closes : ◌≡◌ {A = Result Input ReadFail} (Ok input) (Ok End) → IsAtEnd after) (last : new.ended ≡ true → IsAtEnd after) where
      text : printed ++ text_of out ≡ printed ++ joined lines
      text = ap (λ t. printed ++ t) (sym (ap joined same ∙ lines_joined out))

      leads_next : NextLeads Round numbered (suc k) input (old.held ++ more) p b out now
      leads_next = next_leads Round numbered (suc k) (within old) input (old.held ++ more) p b out now (took.answer inside) (subst (λ n. InputLeads Round numbered n input p b out now) counted leads)

      open_ : 0 < length (old.held ++ more) → old.ended ≡ false
      open_ some = is_open old.ended done (has_more (within old) (old.held ++ more) input (took.answer inside) some)

      -- the play goes on
      pub stood_further : b ≡ false → Stands Round numbered left after start new.taken number new.held (printed ++ joined lines) now new.ended
      stood_further going =
          subst (λ n. Stands Round numbered left after start new.taken n new.held (printed ++ joined lines) now new.ended) (sym counted)
          (subst (λ t. Stands Round numbered left after start new.taken (suc k) new.held t now new.ended) text (plays_on Round numbered left after start new.taken k (old.held ++ more) printed p old.ended (stood took.count) input _ new.held new.ended refl took.rest took.fed last took.empty open_ (λ e. closes (ap Ok e)) b out now going leads_next))

      played_all : b ≡ true → HasText left new.taken (λ bytes. PlaysWhole Round numbered new.taken bytes start (printed ++ joined lines) now)
      played_all over =
          subst (λ t. HasText left new.taken (λ bytes. PlaysWhole Round numbered new.taken bytes start t now)) text (plays_whole Round numbered left after start new.taken k (old.held ++ more) printed p old.ended (stood took.count) input _ new.held new.ended refl took.rest took.fed last took.empty open_ (λ e. closes (ap Ok e)) b out now over leads_next)

      played_some : (c : Bool) → b ≡ c → HasText left new.taken (λ bytes. PlaysSome Round numbered new.taken bytes start (printed ++ joined lines) now)
      played_some false e = plays_some Round numbered left after start new.taken number new.held (printed ++ joined lines) now new.ended (stood_further e) (λ f. (last f, took.empty f))
      played_some true e =
          has_text_by left new.taken (λ bytes. PlaysWhole Round numbered new.taken bytes start (printed ++ joined lines) now) (λ bytes. PlaysSome Round numbered new.taken bytes start (printed ++ joined lines) now) (λ bytes plays. all_lines plays) (played_all e)

      module _ (given given_after : ℕ) (written now_written written_after : Option (List ℕ)) (bytes : List ℕ) (is : bytes ≡ joined lines) (g : given_after ≡ raised given new.taken) (few : new.taken ≤ limit) (w : now_written ≡ append_known written printed) where
        -- it was printed in part
        pub write_report : ((m : ℕ) × (m ≤ length bytes) × (written_after ≡ append_known now_written (take m bytes))) → Report given given_after written written_after now ended.WriteFailed
        write_report part =
            let (m, below, wrote) = subst (λ t. (m : ℕ) × (m ≤ length t) × (written_after ≡ append_known now_written (take m t))) is part in
            report given given_after written written_after now ended.WriteFailed new.taken (printed ++ joined lines) now g few
            (length printed + m, omega (arith, below, length-append printed (joined lines)), line_written written now_written written_after printed (take m (joined lines)) w wrote ∙ ap (append_known written) (sym (take-append-add printed (joined lines) m)))
            (played_some b refl) refl

        -- it was printed, and ended the run
        pub whole_report : b ≡ true → written_after ≡ append_known now_written bytes → Report given given_after written written_after now ended.Whole
        whole_report over wrote =
            report given given_after written written_after now ended.Whole new.taken (printed ++ joined lines) now g few
            (line_written written now_written written_after printed (joined lines) w (wrote ∙ ap (append_known now_written) is))
            (played_all over) refl
