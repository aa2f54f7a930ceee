-- What a line leads to, by its form.
use Rattle.std.proofs.Common.{ℕ, ◌≤◌, ◌≡◌, Bool, true, false, sym, subst, ◌∙◌, arith, List, [], ◌∷◌, ◌++◌, length, map, All, Result, Ok, Err, IfOk, ◌≢◌, string_bytes}
use Rattle.pts_io.specs.Lines.{IsText}
use Rattle.pts_play.specs.Inputs.{of_session, go, end_, unknown_, IsSession, a_line, plain_go, numbered_go, has_form, no_form, no_text}
use Rattle.pts_play.specs.Play.{Playing, full_line, refused_line, is_added, runs_round, is_refused, PlaysRest, last_round}
use Rattle.pts_replay.specs.Lines.{HasForm}
use Rattle.pts_io.specs.declared.lines.Input.{Input}
use Rattle.pts_io.specs.declared.lines.Input.TheVariants.{Text, Bad, End}
use Rattle.pts_replay.specs.Replies.{LineLeads, goes_on, ends_run, InputLeads}

pub is_session : (numbered : Bool) (line : List ℕ) (n : ℕ) (text : List ℕ) → HasForm numbered line (of_session n text) → IsSession n
is_session numbered line n text (a_line m s e) = s

pub takes_numbers : (takes : List ℕ → Type 0) (numbered : Bool) (line ns : List ℕ) → takes [] → (numbered ≡ true → (ms : List ℕ) → All IsSession ms → takes ms) → HasForm numbered line (go ns) → takes ns
takes_numbers takes numbered line _ none some (plain_go e) = none
takes_numbers takes numbered line ns none some (numbered_go is all e) = some is ns all

module _ {Core State : Type 0} (Round : Playing Core State → (numbers : List ℕ) → (out : List (List ℕ)) → Playing Core State → Type 0) (numbered : Bool) (k : ℕ) (line : List ℕ) (p q : Playing Core State) where
  -- The lines that are printed, and what the line leads to.
  abbrev pub Leads : (lines : List (List ℕ)) → (is_last : Bool) → Type 0
  Leads lines is_last = (out : List (List ℕ)) × (lines ≡ map full_line out) × (IsText line → LineLeads Round numbered k line p is_last out q)

  pub adds : (lines : List (List ℕ)) (last : Bool) (n : ℕ) (text : List ℕ) → HasForm numbered line (of_session n text) → length p.sessions ≡ 64 → q ≡ record p { lines = p.lines ++ (n, text) ∷ [] } → lines ≡ [] → last ≡ false → Leads lines last
  adds lines last n text asks here is none more =
      let s = is_session numbered line n text asks in
      let high = s.1 in
      let small : n ≤ length p.sessions = omega (arith, high, here) in
      ([], none, λ t. subst (λ b. LineLeads Round numbered k line p b [] q) (sym more) (subst (λ r. LineLeads Round numbered k line p false [] r) (sym is) (goes_on (is_added small (has_form t asks)))))

  pub runs : (lines printed : List (List ℕ)) (last : Bool) (ns : List ℕ) (out : List (List ℕ)) → HasForm numbered line (go ns) → lines ≡ printed → printed ≡ map full_line out → Round p ns out q → last ≡ false → Leads lines last
  runs lines printed last ns out asks same text round more =
      (out, same ∙ text, λ t. subst (λ b. LineLeads Round numbered k line p b out q) (sym more) (goes_on (runs_round (has_form t asks) round)))

  pub ends : (lines printed : List (List ℕ)) (last : Bool) (out : List (List ℕ)) → HasForm numbered line end_ → lines ≡ printed → printed ≡ map full_line out → PlaysRest Round IsText numbered p out q → last ≡ true → Leads lines last
  ends lines printed last out asks same text rest no_more =
      (out, same ∙ text, λ t. subst (λ b. LineLeads Round numbered k line p b out q) (sym no_more) (ends_run (has_form t asks) rest))

  -- A line that is text is refused where it has no form, and one that is no text always.
  pub refuses : (lines printed : List (List ℕ)) (last : Bool) → HasForm numbered line unknown_ → lines ≡ printed → printed ≡ map full_line (refused_line k ∷ []) → q ≡ p → last ≡ false → Leads lines last
  refuses lines printed last none same text is more =
      (refused_line k ∷ [], same ∙ text, λ t. subst (λ b. LineLeads Round numbered k line p b (refused_line k ∷ []) q) (sym more) (subst (λ r. LineLeads Round numbered k line p false (refused_line k ∷ []) r) (sym is) (goes_on (is_refused (no_form none)))))

module _ {Core State : Type 0} (Round : Playing Core State → (numbers : List ℕ) → (out : List (List ℕ)) → Playing Core State → Type 0) (p q : Playing Core State) where
  -- At the end the round runs that has a line.
  pub rest_runs : {A E : Type 0} (r : Result A E) (items : A → List (List ℕ)) → p.lines ≢ [] → IfOk r (λ v. (out : List (List ℕ)) × (items v ≡ map full_line out) × Round p [] out q) → IfOk r (λ v. (out : List (List ℕ)) × (items v ≡ map full_line out) × ((numbered : Bool) → PlaysRest Round IsText numbered p out q))
  rest_runs (Ok v) items some played = (played.0, played.1, λ b. last_round some played.2)
  rest_runs (Err e) items some played = tt

  module _ (numbered : Bool) (k : ℕ) where
    -- The lines that are printed, and what the answer of the reader leads to.
    abbrev pub Replies : Input → (lines : List (List ℕ)) → (is_last : Bool) → Type 0
    Replies input lines is_last = (out : List (List ℕ)) × (lines ≡ map full_line out) × InputLeads Round numbered k input p is_last out q

    pub replies_text : (input : Input) (text : _) (line : List ℕ) (lines : List (List ℕ)) (last : Bool) → input ≡ Text text → line ≡ string_bytes text → (out : List (List ℕ)) × (lines ≡ map full_line out) × (IsText line → LineLeads Round numbered k line p last out q) → Replies input lines last
    replies_text input text line lines last is same leads =
        subst (λ i. Replies i lines last) (sym is) (leads.0, leads.1, subst (λ l. IsText l → LineLeads Round numbered k l p last leads.0 q) same leads.2)

    pub replies_bad : (input : Input) (lines printed : List (List ℕ)) (last : Bool) → input ≡ Bad → lines ≡ printed → printed ≡ map full_line (refused_line k ∷ []) → q ≡ p → last ≡ false → Replies input lines last
    replies_bad input lines printed last is same text stays more =
        subst (λ i. Replies i lines last) (sym is)
        (refused_line k ∷ [], same ∙ text, λ line isnt. subst (λ b. LineLeads Round numbered k line p b (refused_line k ∷ []) q) (sym more) (subst (λ r. LineLeads Round numbered k line p false (refused_line k ∷ []) r) (sym stays) (goes_on (is_refused (no_text isnt)))))

    pub replies_end : (input : Input) (lines printed : List (List ℕ)) (last : Bool) → input ≡ End → lines ≡ printed → (out : List (List ℕ)) × (printed ≡ map full_line out) × ((b : Bool) → PlaysRest Round IsText b p out q) → last ≡ true → Replies input lines last
    replies_end input lines printed last is same rest no_more = subst (λ i. Replies i lines last) (sym is) (rest.0, same ∙ rest.1, (no_more, rest.2 numbered))
