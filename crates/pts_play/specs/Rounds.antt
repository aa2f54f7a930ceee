-- A round: each session runs its lines, and its calls are its own among the events of one core.
use Rattle.std.specs.Prelude.{ℕ, suc, ◌≤◌, ◌≡◌, List, [], ◌∷◌, ◌++◌, map, length, nat_eq, if◌then◌else◌, Contains, All, codes}
use Rattle.std.specs.Fmt.{decimal}
use Rattle.pts_play.specs.Machines.{Outcome, Call, Position, ready, Event, Runs, Happens}

-- The lines of the session n among those of a round, in order.
abbrev pub lines_of : ℕ → List (ℕ × List ℕ) → List (List ℕ)
lines_of n [] = []
lines_of n (l ∷ ls) = if nat_eq l.0 n then l.1 ∷ lines_of n ls else lines_of n ls

-- The calls of the session n among events, in order.
abbrev pub calls_of : {Request Answer : Type 0} → ℕ → List (Event Request Answer) → List (Call Request Answer)
calls_of n [] = []
calls_of n (e ∷ es) = if nat_eq e.session n then e.call ∷ calls_of n es else calls_of n es

-- The sessions of the events, in order.
abbrev pub order_of : {Request Answer : Type 0} → List (Event Request Answer) → List ℕ
order_of es = map (λ e. e.session) es

-- What is printed for a reply of the session n.
abbrev pub reply_line : ℕ → List ℕ → List ℕ
reply_line n reply = codes "@" ++ (decimal n ++ (codes " " ++ reply))

-- Numbers, each after a blank.
abbrev pub numbers_text : List ℕ → List ℕ
numbers_text [] = []
numbers_text (n ∷ ns) = codes " " ++ (decimal n ++ numbers_text ns)

-- The last two lines of a round: the sessions of its events, and its number.
abbrev pub order_line : List ℕ → List ℕ
order_line order = codes "order" ++ numbers_text order

abbrev pub done_line : ℕ → List ℕ
done_line n = codes "done " ++ decimal n

-- No number is less than an earlier one.
pub data Rising : List ℕ → Type 0 where
  no_number : Rising []
  least : {n : ℕ} {ns : List ℕ} → All (λ m. n ≤ m) ns → Rising ns → Rising (n ∷ ns)

-- The order that is made from the numbers after `go`. Each number is the session of the next event, and is passed over where
-- no event of that session is left. After the numbers the sessions have what is left of their events, the least number first.
pub data OrderFrom : (numbers order : List ℕ) → Type 0 where
  is_next : {n : ℕ} {ns order : List ℕ} → OrderFrom ns order → OrderFrom (n ∷ ns) (n ∷ order)
  passes_over : {n : ℕ} {ns order : List ℕ} → ¬ Contains order n → OrderFrom ns order → OrderFrom (n ∷ ns) order
  used_up : {order : List ℕ} → Rising order → OrderFrom [] order

module _ {State Waiting Request Answer : Type 0} (Local : State → List ℕ → Outcome State Waiting Request → Type 0) (Resume : Waiting → Answer → List (List ℕ) → State → Type 0) (lines : List (ℕ × List ℕ)) (events : List (Event Request Answer)) where
  -- The sessions ss, whose numbers are n, n + 1 and so on, run their lines of the round to the end; the calls of each are its
  -- own among the events. They come to the states ts, and out has the replies of each, with its number.
  pub data EachRuns : ℕ → List State → (out : List (List ℕ)) → List State → Type 0 where
    no_session : {n : ℕ} → EachRuns n [] [] []
    one_session : {n : ℕ} {s t : State} {ss ts : List State} {replies out : List (List ℕ)} → Runs Local Resume s (lines_of n lines) (calls_of n events) replies (ready t []) → EachRuns (suc n) ss out ts → EachRuns n (s ∷ ss) (map (reply_line n) replies ++ out) (t ∷ ts)
