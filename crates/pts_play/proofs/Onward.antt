-- A seat goes on by a line, by an answer, by a turn.
use Rattle.std.proofs.Common.{ℕ, suc, ◌+◌, ◌<◌, ◌≤◌, ◌≡◌, true, false, refl, sym, ap, subst, ◌∙◌, List, [], ◌∷◌, ◌++◌, drop, length, get_or, Option, Some, None, Result, Ok, Err, OnOk, is_some, arith}
use Rattle.std.proofs.lemmas.List.{drop_more, append-nil}
use Rattle.pts_play.specs.Machines.{Outcome, done, asks, Call, Position, ready, waits, Runs, begins, line_is_done, line_asks, is_answered}
use Rattle.pts_play.specs.Seen.{outcome_of}
use Rattle.pts_play.specs.Seats.{position_with, position_of, RunsOn, Hears, RunsOnBy, Turn, taken, passed_over, Rests, Settled, rank, asked_rank, replies_in, asked_in}
use Rattle.pts_play.specs.declared.seat.Seat.{Seat}
use Rattle.pts_play.specs.declared.machines.Local.{Local}
use Rattle.pts_play.specs.declared.machines.Local.TheVariants.{Done, Ask}

pub asks_nothing : {Q : Type 0} (o : Option Q) → is_some o ≡ false → o ≡ None
asks_nothing None e = refl
asks_nothing (Some q) e = absurd (cc e)

module _ {P Q A : Type 0} (Line : P → List ℕ → Outcome P P Q → Type 0) (Resume : P → A → List (List ℕ) → P → Type 0) where
  -- A run goes on by one line.
  pub next_line : (u : P) (lines : List (List ℕ)) (calls : List (Call Q A)) (out left : List (List ℕ)) (text : List ℕ) (p q : P) (l : Local Q) → Runs Line Resume u lines calls out (ready p (text ∷ left)) → Line p text (outcome_of l q) → Runs Line Resume u lines calls (out ++ replies_in l) (position_with q left (asked_in l))
  next_line u lines calls out left text p q (Done more) r d = line_is_done r d
  next_line u lines calls out left text p q (Ask a) r d = subst (λ o. Runs Line Resume u lines calls o (waits a q left)) (sym (append-nil out)) (line_asks r d)

  pub line_was_run : (s t : Seat P Q) (text : List ℕ) (l : Local Q) → s.asked ≡ None → s.next < length s.lines.items → text ≡ get_or s.lines.items s.next text → Line s.player text (outcome_of l t.player) → t.lines.items ≡ s.lines.items → t.next ≡ s.next + 1 → t.replies.items ≡ s.replies.items ++ replies_in l → t.asked ≡ asked_in l → RunsOn Line Resume s t
  line_was_run s t text l idle some here d same next replies asked u lines calls r =
      let left = ap (λ x. x ∷ drop (s.next + 1) s.lines.items) (sym here) in
      let before = drop_more s.lines.items s.next text some ∙ left in
      let r1 = subst (λ xs. Runs Line Resume u lines calls s.replies.items (ready s.player xs)) before (subst (λ o. Runs Line Resume u lines calls s.replies.items (position_with s.player (drop s.next s.lines.items) o)) idle r) in
      let r2 = next_line u lines calls s.replies.items (drop (s.next + 1) s.lines.items) text s.player t.player l r1 d in
      let r3 = subst (λ o. Runs Line Resume u lines calls (s.replies.items ++ replies_in l) (position_with t.player (drop (s.next + 1) s.lines.items) o)) (sym asked) r2 in
      let r4 = subst (λ o. Runs Line Resume u lines calls o (position_with t.player (drop (s.next + 1) s.lines.items) t.asked)) (sym replies) r3 in
      let r5 = subst (λ n. Runs Line Resume u lines calls t.replies.items (position_with t.player (drop n s.lines.items) t.asked)) (sym next) r4 in
      subst (λ xs. Runs Line Resume u lines calls t.replies.items (position_with t.player (drop t.next xs) t.asked)) (sym same) r5

  -- The same after a call that may have failed.
  pub line_was_run_ok : {E : Type 0} (r : Result (Unit {0}) E) (s t : Seat P Q) (text : List ℕ) (l : Local Q) → s.asked ≡ None → s.next < length s.lines.items → text ≡ get_or s.lines.items s.next text → Line s.player text (outcome_of l t.player) → t.lines.items ≡ s.lines.items → t.next ≡ s.next + 1 → OnOk r (t.replies.items ≡ s.replies.items ++ replies_in l) → OnOk r (t.asked ≡ asked_in l) → OnOk r (RunsOn Line Resume s t)
  line_was_run_ok (Ok x) s t text l idle some here d same next replies asked = line_was_run s t text l idle some here d same next replies asked
  line_was_run_ok (Err e) s t text l idle some here d same next replies asked = tt

  -- An answer was taken, and the seat ran on.
  pub answer_was_taken : (s m t : Seat P Q) (a : A) (out : List (List ℕ)) → m.asked ≡ None → m.lines.items ≡ s.lines.items → m.next ≡ s.next → Resume s.player a out m.player → m.replies.items ≡ s.replies.items ++ out → RunsOn Line Resume m t → Hears Line Resume s a t
  answer_was_taken s m t a out idle same next resumed replies on q u lines calls r =
      let calls' = calls ++ record { request = q; answer = a } ∷ [] in
      let r1 : Runs Line Resume u lines calls' (s.replies.items ++ out) (ready m.player (drop s.next s.lines.items)) = is_answered a r resumed in
      let r2 = subst (λ o. Runs Line Resume u lines calls' o (ready m.player (drop s.next s.lines.items))) (sym replies) r1 in
      let r3 = subst (λ n. Runs Line Resume u lines calls' m.replies.items (ready m.player (drop n s.lines.items))) (sym next) r2 in
      let r4 = subst (λ xs. Runs Line Resume u lines calls' m.replies.items (ready m.player (drop m.next xs))) (sym same) r3 in
      on u lines calls' (subst (λ o. Runs Line Resume u lines calls' m.replies.items (position_with m.player (drop m.next m.lines.items) o)) (sym idle) r4)

  pub answer_was_taken_ok : {E : Type 0} (r : Result (Unit {0}) E) (s m t : Seat P Q) (a : A) (out : List (List ℕ)) → m.asked ≡ None → m.lines.items ≡ s.lines.items → m.next ≡ s.next → Resume s.player a out m.player → m.replies.items ≡ s.replies.items ++ out → OnOk r (RunsOn Line Resume m t) → OnOk r (Hears Line Resume s a t)
  answer_was_taken_ok (Ok x) s m t a out idle same next resumed replies on = answer_was_taken s m t a out idle same next resumed replies on
  answer_was_taken_ok (Err e) s m t a out idle same next resumed replies on = tt

  -- A seat that rests and has asked waits for the answer.
  pub awaiting : (free : P → Type 0) (awaits : P → Q → Type 0) (s : Seat P Q) (q : Q) → s.asked ≡ Some q → Rests free awaits s → awaits s.player q
  awaiting free awaits s q asking rests = subst (λ o. Settled free awaits s o) asking rests

  module _ {C : Type 0} (Step : C → ℕ → Q → A → C → Type 0) (free : P → Type 0) (awaits : P → Q → Type 0) (fits : P → C → Type 0) where
    -- A call was made.
    pub call_was_made : (n : ℕ) (core core' : C) (s t : Seat P Q) (o : Option Q) (q : Q) (a : A) → s.asked ≡ Some q → o ≡ None → Step core n q a core' → Hears Line Resume (record { player = s.player; lines = s.lines; next = s.next; replies = s.replies; asked = o }) a t → Rests free awaits t → fits t.player core' → rank t ≤ rank {P = P} {Q = Q} (record { player = s.player; lines = s.lines; next = s.next; replies = s.replies; asked = o }) → Turn Line Resume Step free awaits fits n core s true core' t
    call_was_made n core core' s t o q a asking none steps hears rests fit less =
        let on : RunsOnBy Line Resume s (record { request = q; answer = a }) t = λ u lines calls r. hears q u lines calls (subst (λ o. Runs Line Resume u lines calls s.replies.items (position_with s.player (drop s.next s.lines.items) o)) asking r) in
        let e : asked_rank o ≡ 0 = ap (λ o. asked_rank o) none in
        let f : asked_rank s.asked ≡ 1 = ap (λ o. asked_rank o) asking in
        let up : rank t < rank s = omega (arith, e, f, less) in
        taken (record { request = q; answer = a }) asking steps on rests fit up
