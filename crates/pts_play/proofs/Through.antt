-- A session that runs its lines, turn after turn.
use Rattle.std.proofs.Common.{ℕ, ◌<◌, ◌≡◌, true, false, sym, subst, List, [], ◌∷◌, ◌++◌, drop, None}
use Rattle.pts_play.specs.Machines.{Outcome, done, asks, Call, Position, ready, Runs, begins, line_is_done, line_asks, is_answered}
use Rattle.pts_play.specs.Ports.{History, PortStep, no_call, one_call}
use Rattle.pts_play.proofs.Merges.{makes_seen}
use Rattle.pts_play.specs.declared.seat.Seat.{Seat}
use Rattle.pts_play.specs.Seats.{position_with, Rests, Settled, RunsOn, Turn, passed_over, taken, rank}
use Rattle.pts_play.specs.Turns.{IsClear}
use Rattle.pts_play.specs.Alone.{RunsThrough, RanThrough}

module _ {P Q A C : Type 0} (Local : P → List ℕ → Outcome P P Q → Type 0) (Resume : P → A → List (List ℕ) → P → Type 0) (Step : C → ℕ → Q → A → C → Type 0) (free : P → Type 0) (awaits : P → Q → Type 0) (fits : P → C → Type 0) where
  pub works_first : (n : ℕ) (core : C) (s t : Seat P Q) → IsClear s → RunsOn Local Resume s t → RunsThrough Local Resume Step n core s core t
  works_first n core s t f on =
      let r1 : Runs Local Resume s.player s.lines.items [] [] (ready s.player s.lines.items) = begins in
      let r2 = subst (λ o. Runs Local Resume s.player s.lines.items [] o (ready s.player s.lines.items)) (sym f.2) r1 in
      let r3 = subst (λ k. Runs Local Resume s.player s.lines.items [] s.replies.items (ready s.player (drop k s.lines.items))) (sym f.1) r2 in
      let r4 = subst (λ o. Runs Local Resume s.player s.lines.items [] s.replies.items (position_with s.player (drop s.next s.lines.items) o)) (sym f.0) r3 in
      record { calls = []; runs = on s.player s.lines.items [] r4; makes = no_call }

  pub works_on : (n : ℕ) (start core core' : C) (s t u : Seat P Q) → Turn Local Resume Step free awaits fits n core t true core' u → RunsThrough Local Resume Step n start s core t → RunsThrough Local Resume Step n start s core' u
  works_on n start core core' s t u (taken c asking step on rests fit less) w =
      record { calls = w.calls ++ c ∷ []; runs = on s.player s.lines.items w.calls w.runs; makes = one_call c w.makes step }

  pub turn_rests : (n : ℕ) (core core' : C) (t u : Seat P Q) → Turn Local Resume Step free awaits fits n core t true core' u → Rests free awaits u × fits u.player core' × (rank u < rank t)
  turn_rests n core core' t u (taken c asking step on rests fit less) = (rests, fit, less)

  pub worked : (n : ℕ) (start core core' : C) (s t u : Seat P Q) → Turn Local Resume Step free awaits fits n core t false core' u → Rests free awaits t → RunsThrough Local Resume Step n start s core t → RanThrough Local Resume Step n start s core' u
  worked n start core core' s t u (passed_over none) rests w =
      let settled = subst (λ o. Settled free awaits t o) none rests in
      let r1 = subst (λ o. Runs Local Resume s.player s.lines.items w.calls t.replies.items (position_with t.player (drop t.next t.lines.items) o)) none w.runs in
      let r2 = subst (λ ls. Runs Local Resume s.player s.lines.items w.calls t.replies.items (ready t.player ls)) settled.1 r1 in
      record { calls = w.calls; runs = r2; makes = w.makes }

  -- It waits for nothing, and may go on.
  pub may_go_on : (n : ℕ) (core core' : C) (t u : Seat P Q) → Turn Local Resume Step free awaits fits n core t false core' u → Rests free awaits t → fits t.player core → (u.asked ≡ None) × free u.player × fits u.player core'
  may_go_on n core core' t u (passed_over none) rests fit = let settled = subst (λ o. Settled free awaits t o) none rests in (none, settled.0, fit)

-- What a session did through a pass, said of the histories that the pass has seen.
pub worked_seen : {P Q A Pass Core Entry : Type 0} (Local : P → List ℕ → Outcome P P Q → Type 0) (Resume : P → A → List (List ℕ) → P → Type 0) (Step : Core → ℕ → Q → A → Core → Type 0) (at : History Entry → Core) (Calls : Pass → ℕ → Q → A → Pass → Type 0) (owner_of : Pass → ℕ) (seen_by : Pass → History Entry) → ((p q : Pass) (n : ℕ) (r : Q) (a : A) → Calls p n r a q → (owner_of q ≡ owner_of p) × PortStep Step at (seen_by p) (owner_of p) r a (seen_by q)) → (n : ℕ) (p q : Pass) (s t : Seat P Q) → RanThrough Local Resume Calls n p s q t → RanThrough Local Resume (PortStep Step at) (owner_of p) (seen_by p) s (seen_by q) t
worked_seen Local Resume Step at Calls owner_of seen_by tells n p q s t w = record { calls = w.calls; runs = w.runs; makes = (makes_seen Step at Calls owner_of seen_by tells w.makes).1 }
