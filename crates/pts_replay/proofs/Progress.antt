-- How far an input is played.
use Rattle.std.proofs.Common.{◌≡◌, refl, sym, ap, subst, ◌∙◌, arith, ℕ, suc, ◌+◌, ◌-◌, ◌<◌, ◌≤◌, ◌⊎◌, inl, inr, Bool, true, false, List, [], ◌++◌, length, take, Contains, Option, Some, None, Ok, IfSome, append_assoc, append-nil, length-append}
use Rattle.std.specs.Io.KnownBytes.{prepend_known, IsAtEnd}
use Rattle.std.specs.Io.BufRead.{take_through, drop_through, first_line}
use Rattle.std.proofs.Math.Seq.{take-append-add}
use Rattle.std.proofs.lemmas.List.{take-append-le}
use Rattle.pts_io.specs.declared.faults.ReadFail.{ReadFail}
use Rattle.pts_io.specs.declared.lines.Input.{Input}
use Rattle.pts_io.specs.declared.lines.Input.TheVariants.{Text, Bad, TooMuch, End}
use Rattle.pts_io.specs.Lines.{IsText, IsNext, behind}
use Rattle.pts_io.proofs.Known.{prepend_known-append}
use Rattle.pts_io.proofs.Turns.{drop_less, through_parts, has_bytes}
use Rattle.pts_play.specs.Inputs.{end_, Says}
use Rattle.pts_play.specs.Play.{Playing, text_of, PlaysLine, Played, none_yet, no_byte, end_line, PlaysRest}
use Rattle.pts_replay.specs.Endings.{IsFed, PlaysWhole, PlaysSome, first_lines, PlaysFirst}
use Rattle.pts_replay.specs.Replies.{LineLeads, goes_on, ends_run, InputLeads}
use Rattle.pts_replay.proofs.Feeds.{fed_through, line_kept, played_more, played_line}

-- The bytes of the source: those that are left after what was taken, where they are shown.
abbrev left_of : Option (List ℕ) → List ℕ
left_of None = []
left_of (Some bytes) = bytes

none_left : (now : Option (List ℕ)) → IsAtEnd now → left_of now ≡ []
none_left None ended = refl
none_left (Some bytes) ended = ended

is_text : (before now : Option (List ℕ)) (taken : List ℕ) → before ≡ prepend_known taken now → IfSome before (λ all. taken ++ left_of now ≡ all)
is_text before None taken moved = subst (λ o. IfSome o (λ all. taken ++ [] ≡ all)) (sym moved) tt
is_text before (Some bytes) taken moved = subst (λ o. IfSome o (λ all. taken ++ bytes ≡ all)) (sym moved) refl

-- A text of which n bytes were taken, and what is said of it.
abbrev pub HasText : (before : Option (List ℕ)) → ℕ → (List ℕ → Type 0) → Type 0
HasText before n P = (bytes : List ℕ) × IfSome before (λ all. bytes ≡ all) × (n ≤ length bytes) × P bytes

feed_of : (bytes rest : List ℕ) → rest ≡ drop_through 10 bytes → 0 < length bytes → Contains bytes 10 ⊎ (rest ≡ bytes) → Contains bytes 10
feed_of bytes rest is some (inl c) = c
feed_of bytes rest is some (inr same) = absurd (omega (arith, ap length (sym is ∙ same), drop_less bytes some))

-- Whether the first line is the last one: a line feed ends it, or nothing is left after it.
closed_by : (ended : Bool) (bytes rest : List ℕ) (now : Option (List ℕ)) → rest ≡ drop_through 10 bytes → 0 < length bytes → (ended ≡ false → Contains bytes 10 ⊎ (rest ≡ bytes)) → (ended ≡ true → IsAtEnd now) → Contains bytes 10 ⊎ (left_of now ≡ [])
closed_by true bytes rest now is some fed last = inr (none_left now (last refl))
closed_by false bytes rest now is some fed last = inl (feed_of bytes rest is some (fed refl))

module _ {Core State : Type 0} (Round : Playing Core State → (numbers : List ℕ) → (out : List (List ℕ)) → Playing Core State → Type 0) (numbered : Bool) where
  -- Of the source, whose bytes were `before` and are `now`, n bytes were taken. Of these k lines are played, which printed this
  -- and led to p, and these are held.
  pub record Stands (before now : Option (List ℕ)) (start : Playing Core State) (n k : ℕ) (held printed : List ℕ) (p : Playing Core State) (ended : Bool) : Type 0 where
    pub whole : List ℕ
    pub count : length (whole ++ held) ≡ n
    pub moved : before ≡ prepend_known (whole ++ held) now
    pub fed : ended ≡ false → IsFed whole
    pub done : Played Round IsText numbered whole start k [] printed p

  -- as it begins
  pub begins : (source : Option (List ℕ)) (start : Playing Core State) (n : ℕ) (held : List ℕ) (ended : Bool) → n ≡ 0 → held ≡ [] → Stands source source start n 0 held [] start ended
  begins source start n held ended none empty = record {
    whole = [];
    count = omega (arith, ap length empty, none);
    moved = nothing source ∙ ap (λ bytes. prepend_known bytes source) (sym empty);
    fed = λ e. inl refl;
    done = none_yet;
  }
    where
      nothing : (o : Option (List ℕ)) → o ≡ prepend_known [] o
      nothing None = refl
      nothing (Some bytes) = refl

  -- more was taken
  pub takes_on : (before now after : Option (List ℕ)) (start : Playing Core State) (n m k : ℕ) (held more printed : List ℕ) (p : Playing Core State) (ended : Bool) → Stands before now start n k held printed p ended → now ≡ prepend_known more after → m ≡ n + length more → Stands before after start m k (held ++ more) printed p ended
  takes_on before now after start n m k held more printed p ended s moved count = record {
    whole = s.whole;
    count = omega (arith, s.count, count, length-append s.whole held, length-append s.whole (held ++ more), length-append held more);
    moved = prepend_known-append before now after (s.whole ++ held) more s.moved moved ∙ ap (λ bytes. prepend_known bytes after) (append_assoc s.whole held more);
    fed = s.fed;
    done = s.done;
  }

  -- What the answer of the reader to these bytes leads to: their first line is played or ends the run, or there is none.
  pub data NextLeads (k : ℕ) (input : Input) (bytes : List ℕ) (p : Playing Core State) : Bool → (out : List (List ℕ)) → Playing Core State → Type 0 where
    line_next : {out : List (List ℕ)} {q : Playing Core State} → 0 < length bytes → behind {E = ReadFail} (Ok input) bytes ≡ drop_through 10 bytes → PlaysLine Round IsText numbered k (first_line bytes) p out q → NextLeads k input bytes p false out q
    last_next : {out : List (List ℕ)} {q : Playing Core State} → 0 < length bytes → behind {E = ReadFail} (Ok input) bytes ≡ drop_through 10 bytes → Says IsText numbered (first_line bytes) end_ → PlaysRest Round IsText numbered p out q → NextLeads k input bytes p true out q
    none_next : {out : List (List ℕ)} {q : Playing Core State} → input ≡ End → bytes ≡ [] → PlaysRest Round IsText numbered p out q → NextLeads k input bytes p true out q

  by_line : (k : ℕ) (input : Input) (bytes : List ℕ) (p : Playing Core State) (b : Bool) (out : List (List ℕ)) (q : Playing Core State) → 0 < length bytes → behind {E = ReadFail} (Ok input) bytes ≡ drop_through 10 bytes → LineLeads Round numbered k (first_line bytes) p b out q → NextLeads k input bytes p b out q
  by_line k input bytes p _ out q some past (goes_on line) = line_next some past line
  by_line k input bytes p _ out q some past (ends_run says rest) = last_next some past says rest

  pub next_leads : (k most : ℕ) (input : Input) (bytes : List ℕ) (p : Playing Core State) (b : Bool) (out : List (List ℕ)) (q : Playing Core State) → IsNext most bytes input → InputLeads Round numbered k input p b out q → NextLeads k input bytes p b out q
  next_leads k most (Text text) bytes p b out q n leads =
      by_line k (Text text) bytes p b out q (has_bytes most bytes n.0) refl (subst (λ line. LineLeads Round numbered k line p b out q) n.1.1 (leads (subst IsText (sym n.1.1) n.1.0)))
  next_leads k most Bad bytes p b out q n leads = by_line k Bad bytes p b out q (has_bytes most bytes n.0) refl (leads (first_line bytes) n.1)
  next_leads k most TooMuch bytes p b out q n leads = absurd leads
  next_leads k most End bytes p b out q n leads = subst (λ last. NextLeads k End bytes p last out q) (sym leads.0) (none_next refl n leads.1)

  module _ (before now : Option (List ℕ)) (start : Playing Core State) (n k : ℕ) (held printed : List ℕ) (p : Playing Core State) (ended : Bool) (s : Stands before now start n k held printed p ended) where
    has_text : (P : List ℕ → Type 0) → P ((s.whole ++ held) ++ left_of now) → HasText before n P
    has_text P says = ((s.whole ++ held) ++ left_of now, is_text before now (s.whole ++ held) s.moved, omega (arith, s.count, length-append (s.whole ++ held) (left_of now)), says)

    -- at the end of the source nothing follows what was played
    at_end : IsAtEnd now → held ≡ [] → (s.whole ++ held) ++ left_of now ≡ s.whole
    at_end last none =
        ap (λ bytes. (s.whole ++ held) ++ bytes) (none_left now last) ∙ (append-nil (s.whole ++ held) ∙ (ap (λ bytes. s.whole ++ bytes) none ∙ append-nil s.whole))

    played_here : ended ≡ false → Played Round IsText numbered ((s.whole ++ held) ++ left_of now) start k (held ++ left_of now) printed p
    played_here more = subst (λ bytes. Played Round IsText numbered bytes start k (held ++ left_of now) printed p) (sym (append_assoc s.whole held (left_of now))) (played_more Round numbered s.whole (s.fed more) start (held ++ left_of now) s.done)

    -- some lines were played
    pub plays_some : (ended ≡ true → IsAtEnd now × (held ≡ [])) → HasText before n (λ bytes. PlaysSome Round numbered n bytes start printed p)
    plays_some finished = has_text (λ bytes. PlaysSome Round numbered n bytes start printed p) (by_end ended refl)
      where
        by_end : (b : Bool) → ended ≡ b → PlaysSome Round numbered n ((s.whole ++ held) ++ left_of now) start printed p
        by_end false e = first_lines k (held ++ left_of now) (played_here e) (omega (arith, s.count, length-append (s.whole ++ held) (left_of now), length-append held (left_of now)))
        by_end true e =
            let (last, none) = finished e in
            let same = at_end last none in
            first_lines k [] (subst (λ bytes. Played Round IsText numbered bytes start k [] printed p) (sym same) s.done) (omega (arith, s.count, ap length same, length-append s.whole held))

    -- of what was taken, or of its first bytes, what a line feed ends was played, and nothing else was
    pub plays_first : (most : ℕ) → ended ≡ false → most ≤ n → length s.whole ≤ most → ¬ Contains (take (most - length s.whole) held) 10 → HasText before n (λ bytes. PlaysFirst Round numbered (take most bytes) start printed p)
    plays_first most more few fits none =
        let inside : most ≤ length (s.whole ++ held) = omega (arith, few, s.count) in
        let count : most ≡ length s.whole + (most - length s.whole) = omega (arith, fits) in
        let parts : take most ((s.whole ++ held) ++ left_of now) ≡ s.whole ++ take (most - length s.whole) held =
        take-append-le most (s.whole ++ held) (left_of now) inside ∙ (ap (λ m. take m (s.whole ++ held)) count ∙ take-append-add s.whole held (most - length s.whole)) in
        has_text (λ bytes. PlaysFirst Round numbered (take most bytes) start printed p) (s.whole, take (most - length s.whole) held, parts, s.fed more, none, (k, s.done))

    -- the end of the source was read
    plays_none : (out : List (List ℕ)) (q : Playing Core State) → IsAtEnd now → held ≡ [] → PlaysRest Round IsText numbered p out q → HasText before n (λ bytes. PlaysWhole Round numbered n bytes start (printed ++ text_of out) q)
    plays_none out q last none rest =
        let same = at_end last none in
        has_text (λ bytes. PlaysWhole Round numbered n bytes start (printed ++ text_of out) q) (
          record { count = k; left = []; before = printed; last = p; out = out; played = subst (λ bytes. Played Round IsText numbered bytes start k [] printed p) (sym same) s.done; ends = no_byte refl; rest = rest; whole = refl },
          omega (arith, s.count, ap length same, length-append s.whole held),
        )

    -- the line that ends the run was read
    plays_last : (out : List (List ℕ)) (q : Playing Core State) → ended ≡ false → 0 < length held → Contains held 10 ⊎ (left_of now ≡ []) → Says IsText numbered (first_line held) end_ → PlaysRest Round IsText numbered p out q → HasText before n (λ bytes. PlaysWhole Round numbered n bytes start (printed ++ text_of out) q)
    plays_last out q more some closed says rest =
        let kept = line_kept held (left_of now) closed in
        has_text (λ bytes. PlaysWhole Round numbered n bytes start (printed ++ text_of out) q) (
          record {
            count = k;
            left = held ++ left_of now;
            before = printed;
            last = p;
            out = out;
            played = played_here more;
            ends = end_line (omega (arith, some, length-append held (left_of now))) (subst (λ line. Says IsText numbered line end_) (sym kept.0) says);
            rest = rest;
            whole = refl;
          },
          omega (arith, kept.1, s.count, length-append (s.whole ++ held) (left_of now)),
        )

    module _ (input : Input) (rest after : List ℕ) (ended_after : Bool) (is : rest ≡ behind {E = ReadFail} (Ok input) held) (kept : after ≡ rest) (feeds : ended_after ≡ false → Contains held 10 ⊎ (rest ≡ held)) (last : ended_after ≡ true → IsAtEnd now) (empty : ended_after ≡ true → after ≡ []) (open_ : 0 < length held → ended ≡ false) (closes : input ≡ End → IsAtEnd now) where
      line_on : (out : List (List ℕ)) (q : Playing Core State) → 0 < length held → behind {E = ReadFail} (Ok input) held ≡ drop_through 10 held → PlaysLine Round IsText numbered (suc k) (first_line held) p out q → Stands before now start n (suc k) after (printed ++ text_of out) q ended_after
      line_on out q some past line =
          let piece : List ℕ = take_through 10 held in
          let parts : s.whole ++ held ≡ (s.whole ++ piece) ++ after =
          ap (λ bytes. s.whole ++ bytes) (sym (through_parts held)) ∙ (sym (append_assoc s.whole piece (drop_through 10 held)) ∙ ap (λ bytes. (s.whole ++ piece) ++ bytes) (sym (kept ∙ (is ∙ past)))) in
          record {
            whole = s.whole ++ piece;
            count = ap length (sym parts) ∙ s.count;
            moved = s.moved ∙ ap (λ bytes. prepend_known bytes now) parts;
            fed = λ e. fed_through s.whole held (feed_of held rest (is ∙ past) some (feeds e));
            done = played_line Round numbered s.whole (s.fed (open_ some)) start k held printed p out q s.done some line;
          }

      -- the first line that is held was played
      pub plays_on : (b : Bool) (out : List (List ℕ)) (q : Playing Core State) → b ≡ false → NextLeads (suc k) input held p b out q → Stands before now start n (suc k) after (printed ++ text_of out) q ended_after
      plays_on _ out q going (line_next some past line) = line_on out q some past line
      plays_on _ out q going (last_next some past says more) = absurd (cc going)
      plays_on _ out q going (none_next end none more) = absurd (cc going)

      -- the whole input was played
      pub plays_whole : (b : Bool) (out : List (List ℕ)) (q : Playing Core State) → b ≡ true → NextLeads (suc k) input held p b out q → HasText before n (λ bytes. PlaysWhole Round numbered n bytes start (printed ++ text_of out) q)
      plays_whole _ out q done (line_next some past line) = absurd (cc done)
      plays_whole _ out q done (last_next some past says more) = plays_last out q (open_ some) some (closed_by ended_after held rest now (is ∙ past) some feeds last) says more
      plays_whole _ out q done (none_next end none more) = plays_none out q (closes end) none more
