-- The replies at seats, as they are printed.
use Rattle.std.proofs.Common.{ℕ, suc, ◌≡◌, refl, sym, ap, subst, ◌∙◌, List, [], ◌∷◌, ◌++◌, map, append_assoc}
use Rattle.std.proofs.lemmas.List.{map-append}
use Rattle.pts_play.specs.Rounds.{reply_line}
use Rattle.pts_play.specs.Play.{full_line}
use Rattle.pts_play.specs.declared.seat.Seat.{Seat}
use Rattle.pts_play.specs.Turns.{replies_of}

-- Those of the first seat, and then those of the others.
pub replies_added : {P Q : Type 0} (n m : ℕ) (seats : List (Seat P Q)) (s : Seat P Q) (ss : List (Seat P Q)) (before middle after : List (List ℕ)) → seats ≡ s ∷ ss → m ≡ suc n → middle ≡ before ++ map full_line (map (reply_line n) s.replies.items) → after ≡ middle ++ map full_line (replies_of m ss) → after ≡ before ++ map full_line (replies_of n seats)
replies_added n m seats s ss before middle after first next own others =
    let all : map full_line (replies_of n seats) ≡ map full_line (map (reply_line n) s.replies.items) ++ map full_line (replies_of m ss) =
    ap (λ xs. map full_line (replies_of n xs)) first ∙ (map-append full_line (map (reply_line n) s.replies.items) (replies_of (suc n) ss) ∙ ap (λ k. map full_line (map (reply_line n) s.replies.items) ++ map full_line (replies_of k ss)) (sym next)) in
    others ∙ (ap (λ xs. xs ++ map full_line (replies_of m ss)) own ∙ (append_assoc before (map full_line (map (reply_line n) s.replies.items)) (map full_line (replies_of m ss)) ∙ ap (λ xs. before ++ xs) (sym all)))
