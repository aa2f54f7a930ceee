-- The lines of a round are given to their sessions.
use Rattle.std.proofs.Common.{ℕ, suc, ◌<◌, ◌≡◌, refl, sym, ap, subst, ◌∙◌, List, [], ◌∷◌, ◌++◌, map, length, take, drop, arith, All, append_assoc, append-nil}
use Rattle.std.specs.List.{AllByRecursion}
use Rattle.std.proofs.lemmas.List.{take-append-le, take_all}
use Rattle.std.proofs.lemmas.List.{length-map, map-append}
use Rattle.pts_play.specs.Machines.{Outcome}
use Rattle.pts_play.specs.Rounds.{order_line, done_line, OrderFrom}
use Rattle.pts_play.specs.Inputs.{IsSession}
use Rattle.pts_play.specs.Play.{Playing, PlaysRound, full_line}
use Rattle.pts_play.specs.declared.seat.Seat.{Seat}
use Rattle.pts_play.specs.Turns.{IsClear, AllClear, AllFit, HaveLines, NoLines, PlayedRound, players, replies_of}
use Rattle.pts_play.proofs.Recorded.{plays_round}
use Rattle.pts_replay.specs.declared.replay.Replay.{Replay}
use Rattle.pts_replay.specs.Games.{MayGoOn}

-- No line is given yet.
pub have_none : {P Q : Type 0} (n : ℕ) (seats : List (Seat P Q)) → NoLines seats → HaveLines n [] seats
have_none n [] bare = tt
have_none n (s ∷ ss) bare = (bare.0, have_none (suc n) ss bare.1)

-- The lines that are left begin with this one.
pub first_known : (lines more : List (ℕ × List ℕ)) (l : ℕ × List ℕ) → lines ≡ l ∷ more → All (λ m. IsSession m.0) lines → IsSession l.0 × All (λ m. IsSession m.0) more
first_known lines more l is known =
    let all = subst (λ ls. All (λ m. IsSession m.0) ls) is known in
    (all 0 l (omega arith), λ k d small. all (suc k) d (omega (arith, small)))

pub given_on : (done lines more : List (ℕ × List ℕ)) (l : ℕ × List ℕ) (all : List (ℕ × List ℕ)) → lines ≡ l ∷ more → done ++ lines ≡ all → (done ++ l ∷ []) ++ more ≡ all
given_on done lines more l all is before = append_assoc done (l ∷ []) more ∙ (ap (λ ls. done ++ ls) (sym is) ∙ before)

pub all_given : (done lines all : List (ℕ × List ℕ)) → lines ≡ [] → done ++ lines ≡ all → done ≡ all
all_given done lines all none before = sym (append-nil done) ∙ (ap (λ ls. done ++ ls) (sym none) ∙ before)

-- Where no element is to come, the elements that are left are none.
pub none_left : {X : Type 0} (xs : List X) (n : ℕ) → n ≡ length xs → (0 < n → ⊥) → xs ≡ []
none_left [] n long none = refl
none_left (x ∷ xs) n long none = absurd (none (omega (arith, long)))

-- One more seat.
pub clear_push : {P Q : Type 0} (seats : List (Seat P Q)) (s : Seat P Q) → AllClear seats → IsClear s → AllClear (seats ++ s ∷ [])
clear_push [] s clear own = (own, tt)
clear_push (x ∷ seats) s clear own = (clear.0, clear_push seats s clear.1 own)

pub bare_push : {P Q : Type 0} (seats : List (Seat P Q)) (s : Seat P Q) → NoLines seats → s.lines.items ≡ [] → NoLines (seats ++ s ∷ [])
bare_push [] s bare own = (own, tt)
bare_push (x ∷ seats) s bare own = (bare.0, bare_push seats s bare.1 own)

pub seated_on : {P Q : Type 0} (seats : List (Seat P Q)) (s : Seat P Q) (session : P) (rest more all : List P) → rest ≡ session ∷ more → s.player ≡ session → players seats ++ rest ≡ all → players (seats ++ s ∷ []) ++ more ≡ all
seated_on seats s session rest more all is own before =
    ap (λ ps. ps ++ more) (map-append (λ x. x.player) seats (s ∷ [])) ∙ (append_assoc (players seats) (s.player ∷ []) more ∙ (ap (λ p. players seats ++ p ∷ more) own ∙ (ap (λ ps. players seats ++ ps) (sym is) ∙ before)))

-- What was written through a slice of the whole is the whole.
pub written_back : {X : Type 0} (old new : List X) (len : ℕ) → length new ≡ length old → len ≡ length old → take len (new ++ drop (length new) old) ≡ new
written_back old new len long is = take-append-le len new (drop (length new) old) (omega (arith, long, is)) ∙ take_all len new (omega (arith, long, is))

-- As many players, as many seats.
pub same_length : {P Q : Type 0} (seats others : List (Seat P Q)) → players others ≡ players seats → length others ≡ length seats
same_length seats others same = sym (length-map others (λ s. s.player)) ∙ (ap length same ∙ length-map seats (λ s. s.player))

pub fit_same : {P Q C : Type 0} (fits : P → C → Type 0) (core : C) (seats others : List (Seat P Q)) → players others ≡ players seats → AllFit fits core seats → AllFit fits core others
fit_same fits core seats others same fit = subst (λ ps. AllByRecursion (λ p. fits p core) ps) (sym same) fit

-- A play of 64 sessions may begin.
pub may_begin : {P Q C : Type 0} (Free : P → Type 0) (Fits : P → C → Type 0) (g : Replay P Q C) (sessions : List P) → players g.seats.items ≡ sessions → length sessions ≡ 64 → g.lines.items ≡ [] → AllClear g.seats.items → NoLines g.seats.items → AllByRecursion Free sessions → AllByRecursion (λ p. Fits p g.core) sessions → MayGoOn Free Fits g
may_begin Free Fits g sessions same long none clear bare free fits = record {
  sessions = sym (length-map g.seats.items (λ s. s.player)) ∙ (ap length same ∙ long);
  numbers = subst (All (λ l. IsSession l.0)) (sym none) (λ k d small. absurd (omega (arith, small)));
  clear = clear;
  bare = bare;
  free = subst (AllByRecursion Free) (sym same) free;
  fits = subst (AllByRecursion (λ p. Fits p g.core)) (sym same) fits;
}

module _ {P Q A C : Type 0} (Local : P → List ℕ → Outcome P P Q → Type 0) (Resume : P → A → List (List ℕ) → P → Type 0) (Step : C → ℕ → Q → A → C → Type 0) where
  -- The lines of a round that has run, and what it does to the play.
  pub round_done : (lines : List (ℕ × List ℕ)) (numbers : List ℕ) (core core' : C) (bare starts seats clear : List (Seat P Q)) (order : List ℕ) (number : ℕ) (printed : List (List ℕ)) → players starts ≡ players bare → players clear ≡ players seats → PlayedRound Local Resume Step lines numbers core starts core' seats order → printed ≡ map full_line (replies_of 1 seats ++ order_line order ∷ done_line number ∷ [])
      → (orders : List (List ℕ)) → suc (length orders) ≡ number → (out : List (List ℕ)) × (printed ≡ map full_line out) × PlaysRound Step Local Resume OrderFrom (record { core = core; sessions = players bare; lines = lines; orders = orders }) numbers out (record { core = core'; sessions = players clear; lines = []; orders = orders ++ order ∷ [] })
  round_done lines numbers core core' bare starts seats clear order number printed began ended played text orders count =
      let round = plays_round Local Resume Step lines numbers core core' starts seats orders order played in
      let from = subst (λ ps. PlaysRound Step Local Resume OrderFrom (record { core = core; sessions = ps; lines = lines; orders = orders }) numbers (replies_of 1 seats ++ order_line order ∷ done_line (suc (length orders)) ∷ []) (record { core = core'; sessions = players seats; lines = []; orders = orders ++ order ∷ [] })) began round in
      let to = subst (λ ps. PlaysRound Step Local Resume OrderFrom (record { core = core; sessions = players bare; lines = lines; orders = orders }) numbers (replies_of 1 seats ++ order_line order ∷ done_line (suc (length orders)) ∷ []) (record { core = core'; sessions = ps; lines = []; orders = orders ++ order ∷ [] })) (sym ended) from in
      (replies_of 1 seats ++ order_line order ∷ done_line (suc (length orders)) ∷ [], text ∙ ap (λ n. map full_line (replies_of 1 seats ++ order_line order ∷ done_line n ∷ [])) (sym count), to)

-- A relation between two states of a play holds of equal states.
pub round_same : {P C : Type 0} (Round : Playing C P → (numbers : List ℕ) → (out : List (List ℕ)) → Playing C P → Type 0) (numbers : List ℕ) (out : List (List ℕ)) (core core' : C) (s s' t t' : List P) (l l' m m' : List (ℕ × List ℕ)) (o p p' : List (List ℕ)) → s ≡ s' → l ≡ l' → t ≡ t' → m ≡ m' → p ≡ p' → Round (record { core = core; sessions = s; lines = l; orders = o }) numbers out (record { core = core'; sessions = t; lines = m; orders = p }) → Round (record { core = core; sessions = s'; lines = l'; orders = o }) numbers out (record { core = core'; sessions = t'; lines = m'; orders = p' })
round_same Round numbers out core core' s s' t t' l l' m m' o p p' es el et em ep round =
    subst (λ x. Round (record { core = core; sessions = x; lines = l'; orders = o }) numbers out (record { core = core'; sessions = t'; lines = m'; orders = p' })) es
    (subst (λ x. Round (record { core = core; sessions = s; lines = x; orders = o }) numbers out (record { core = core'; sessions = t'; lines = m'; orders = p' })) el
    (subst (λ x. Round (record { core = core; sessions = s; lines = l; orders = o }) numbers out (record { core = core'; sessions = x; lines = m'; orders = p' })) et
    (subst (λ x. Round (record { core = core; sessions = s; lines = l; orders = o }) numbers out (record { core = core'; sessions = t; lines = x; orders = p' })) em
    (subst (λ x. Round (record { core = core; sessions = s; lines = l; orders = o }) numbers out (record { core = core'; sessions = t; lines = m; orders = x })) ep round))))
