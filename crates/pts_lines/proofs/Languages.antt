-- Refusals of one language as those of another.
use Rattle.std.proofs.Common.{ℕ, ◌≡◌, ◌≤◌, ◌<◌, sym, ◌∙◌, ap, subst, arith, List, [], ◌∷◌, ◌++◌, append_assoc}
use Rattle.std.proofs.lemmas.List.{append-nil}
use Rattle.pts_tokens.specs.declared.token.Token.TheVariants.{Open}
use Rattle.pts_tokens.specs.Tokens.{Spot}
use Rattle.pts_grammar.specs.declared.kind.Kind.{Kind}
use Rattle.pts_grammar.specs.Refusals.{open_behind}
use Rattle.pts_lines.specs.Refusals.{CanGoOn, Wants, the_end, an_assign, a_colon, a_semicolon, a_dot, an_in, a_close, a_number, a_name, a_plain, a_term, Refused, at_token, at_end, too_many, NoneTooMany, FirstTooMany, first_too_many}
use Rattle.pts_lines.proofs.Frames.{opened_through}
use Rattle.pts_lines.proofs.Marks.{nothing_marked, Side, in_front, in_rest, side, front_goes}

-- No parenthesis of these is one too many: of none, and of one token.
pub none_of_nothing : (Is : List Spot → Type 0) (limit : ℕ) → NoneTooMany Is limit []
none_of_nothing Is limit p (too_many vs us e v n) = nothing_marked vs us (p, Open) e

pub none_of_one : (Is : List Spot → Type 0) (limit : ℕ) (s : Spot) → 0 < limit → NoneTooMany Is limit (s ∷ [])
none_of_one Is limit s some p (too_many [] us e v n) = omega (arith, some, n)
none_of_one Is limit s some p (too_many (x ∷ vs) us e v n) = let rest : [] ≡ vs ++ (p, Open) ∷ us = cc e in nothing_marked vs us (p, Open) rest

-- Nor of tokens with which nothing can go on, if none of these is.
pub none_behind : (Is : List Spot → Type 0) (limit : ℕ) (pre ts : List Spot) → NoneTooMany Is limit pre → ¬ CanGoOn Is pre → NoneTooMany Is limit (pre ++ ts)
none_behind Is limit pre ts none stop p (too_many vs us e v n) = by (side pre ts vs us (p, Open) e)
  where
    by : Side pre ts vs us (p, Open) → ⊥
    by (in_front zs h) = none p (too_many vs zs (h ∙ append_assoc vs ((p, Open) ∷ []) zs) v n)
    by (in_rest zs h g) = stop (front_goes Is pre (zs ++ (p, Open) ∷ []) (subst (CanGoOn Is) (ap (λ w. w ++ (p, Open) ∷ []) h ∙ append_assoc pre zs ((p, Open) ∷ [])) v))

module _ (Is Js : List Spot → Type 0) where
  module _ (vs ws : List Spot) (to : (us : List Spot) → Js (ws ++ us) → Is (vs ++ us)) (from : (us : List Spot) → Is (vs ++ us) → Js (ws ++ us)) where
    pub is_to : Js ws → Is vs
    is_to d = subst Is (append-nil vs) (to [] (subst Js (sym (append-nil ws)) d))

    pub is_from : Is vs → Js ws
    is_from d = subst Js (append-nil ws) (from [] (subst Is (sym (append-nil vs)) d))

    pub one_to : (t : Spot) → CanGoOn Js (ws ++ t ∷ []) → CanGoOn Is (vs ++ t ∷ [])
    one_to t (us, d) = (us, subst Is (sym (append_assoc vs (t ∷ []) us)) (to (t ∷ us) (subst Js (append_assoc ws (t ∷ []) us) d)))

    pub one_from : (t : Spot) → CanGoOn Is (vs ++ t ∷ []) → CanGoOn Js (ws ++ t ∷ [])
    one_from t (us, d) = (us, subst Js (sym (append_assoc ws (t ∷ []) us)) (from (t ∷ us) (subst Is (append_assoc vs (t ∷ []) us) d)))

    pub wants_to : {k : Kind} → Wants Js ws k → Wants Is vs k
    wants_to (the_end d) = the_end (is_to d)
    wants_to (an_assign n c) = an_assign (λ d. n (is_from d)) (one_to _ c)
    wants_to (a_colon n m c) = a_colon (λ d. n (is_from d)) (λ d. m (one_from _ d)) (one_to _ c)
    wants_to (a_semicolon n c) = a_semicolon (λ d. n (is_from d)) (one_to _ c)
    wants_to (a_dot c) = a_dot (one_to _ c)
    wants_to (an_in c) = an_in (one_to _ c)
    wants_to (a_close c) = a_close (one_to _ c)
    wants_to (a_number ds c) = a_number ds (one_to _ c)
    wants_to (a_name c n) = a_name (one_to _ c) (λ s d. n s (one_from _ d))
    wants_to (a_plain x c m n) = a_plain x (one_to _ c) (λ d. m (one_from _ d)) (λ s d. n s (one_from _ d))
    wants_to (a_term s c n1 n2 n3 n4 n5 n6 n) = a_term s (one_to _ c) (λ d. n1 (one_from _ d)) (λ d. n2 (one_from _ d)) (λ d. n3 (one_from _ d)) (λ d. n4 (one_from _ d)) (λ d. n5 (one_from _ d)) (λ d. n6 (one_from _ d)) (λ d. n (is_from d))

  -- Behind tokens with which each text of the one begins that is looked at, its rest being a text of the other.
  module _ (pre : List Spot) (to : (us : List Spot) → Js us → Is (pre ++ us)) (from : (us : List Spot) → Is (pre ++ us) → Js us) where
    here : (ws us : List Spot) → Js (ws ++ us) → Is ((pre ++ ws) ++ us)
    here ws us d = subst Is (sym (append_assoc pre ws us)) (to (ws ++ us) d)

    back : (ws us : List Spot) → Is ((pre ++ ws) ++ us) → Js (ws ++ us)
    back ws us d = from (ws ++ us) (subst Is (append_assoc pre ws us) d)

    pub goes_to : (ws : List Spot) → CanGoOn Js ws → CanGoOn Is (pre ++ ws)
    goes_to ws (us, d) = (us, here ws us d)

    pub lift_refused : (end : ℕ) (ts : List Spot) (k : Kind) (p : ℕ) → Refused Js end ts k p → Refused Is end (pre ++ ts) k p
    lift_refused end ts k p (at_token ws us _ t e v n w) = at_token (pre ++ ws) us p t (ap (λ x. pre ++ x) e ∙ sym (append_assoc pre ws ((p, t) ∷ us))) (goes_to ws v) (λ d. n (one_from (pre ++ ws) ws (here ws) (back ws) (p, t) d)) (wants_to (pre ++ ws) ws (here ws) (back ws) w)
    lift_refused end ts k _ (at_end v n w) = at_end (goes_to ts v) (λ d. n (from ts d)) (wants_to (pre ++ ts) ts (here ts) (back ts) w)

    module _ (limit : ℕ) (level : open_behind 0 pre ≡ 0) (none : NoneTooMany Is limit pre) where
      level_of : (ws : List Spot) → open_behind 0 (pre ++ ws) ≡ open_behind 0 ws
      level_of ws = opened_through 0 pre ws ∙ ap (λ m. open_behind m ws) level

      pub lift_none : (ts : List Spot) → NoneTooMany Js limit ts → NoneTooMany Is limit (pre ++ ts)
      lift_none ts few p (too_many vs us e v n) = by (side pre ts vs us (p, Open) e)
        where
          by : Side pre ts vs us (p, Open) → ⊥
          by (in_front zs h) = none p (too_many vs zs (h ∙ append_assoc vs ((p, Open) ∷ []) zs) v n)
          by (in_rest zs h g) = few p (too_many zs us g (one_from (pre ++ zs) zs (here zs) (back zs) (p, Open) (subst (λ w. CanGoOn Is (w ++ (p, Open) ∷ [])) h v)) (subst (λ m. limit ≤ m) (ap (open_behind 0) h ∙ level_of zs) n))

      pub lift_first : (ts : List Spot) (p : ℕ) → FirstTooMany Js limit ts p → FirstTooMany Is limit (pre ++ ts) p
      lift_first ts p (first_too_many ws us e v n few) =
          first_too_many (pre ++ ws) us (ap (λ x. pre ++ x) e ∙ sym (append_assoc pre ws ((p, Open) ∷ us))) (one_to (pre ++ ws) ws (here ws) (back ws) (p, Open) v) (subst (λ m. limit ≤ m) (sym (level_of ws)) n) (lift_none ws few)
