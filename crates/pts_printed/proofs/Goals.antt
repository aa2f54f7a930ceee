-- Each type of a printed goal, and its statement, is read back.
use Rattle.std.proofs.Common.{ℕ, suc, ◌+◌, ◌*◌, ◌^◌, ◌<◌, ◌≤◌, ◌≡◌, refl, sym, ◌∙◌, ap, subst, List, [], ◌∷◌, ◌++◌, true, Option, length, reverse, append_assoc, arith}
use Rattle.std.specs.Prelude.{IsTrue}
use Rattle.std.specs.List.{AllByRecursion}
use Rattle.std.proofs.lemmas.List.{append-nil, length-append, length-reverse}
use Rattle.pts_names.specs.Name.{Name}
use Rattle.pts_terms.specs.Tree.{Named, Below}
use Rattle.pts_terms.specs.Limits.{depth_of, size_of, within}
use Rattle.pts_printed.specs.Choice.{occurs, constants, is_among, choice}
use Rattle.pts_printed.specs.Locals.{named_locals, occurs_behind, goal_uses, goal_constants, goal_locals}
use Rattle.pts_printed.specs.Laws.{IsName, Stands, SpellSorts, IsPrintable, MeansEqual, text_over, ArePrintable, TypesAreMeant, PrintedGoalsAreReadBack}
use Rattle.pts_printed.proofs.Found.{or_true, true_or, among_front, among_back}
use Rattle.pts_printed.proofs.Chosen.{constants_length}
use Rattle.pts_printed.proofs.Over.{Ready, ready_fits, none_ready, one_ready, same_length}
use Rattle.pts_printed.proofs.ReadBack.{text_means, limits}

goal_uses_length : (names : List Name) (types : List Named) (statement : Named) → length names ≡ length types → length (goal_uses names types statement) ≡ length names
goal_uses_length [] types G e = refl
goal_uses_length (x ∷ names) [] G e = absurd (omega arith)
goal_uses_length (x ∷ names) (A ∷ types) G e = ap suc (goal_uses_length names types G (omega arith))

term_constants : (t : Named) → IsTrue (within t) → length (constants t) ≤ 1000000
term_constants t w = let l = limits (depth_of t) (size_of t) w in let c = constants_length t in omega arith

goal_constants_length : (sorts : List (List ℕ)) (n : ℕ) (types : List Named) (statement : Named) → ArePrintable sorts n types → IsTrue (within statement) → length (goal_constants types statement) ≤ 1000000 * length types + 1000000
goal_constants_length sorts n [] G p w = let c = term_constants G w in omega arith
goal_constants_length sorts n (A ∷ types) G p w =
    let c = term_constants A p.0.0 in
    let h = goal_constants_length sorts (suc n) types G p.1 w in
    let l = length-append (constants A) (goal_constants types G) in
    omega arith

module _ (sorts : List (List ℕ)) (scope : Name → Option Name) (spellings : SpellSorts sorts) (cs : List Name) (statement : Named) where
  chosen_for : List Name → List Name → List Named → List Name
  chosen_for done names types = named_locals cs done (goal_uses names types statement)

  -- What is known of the types that are still to come.
  record Coming (done names : List Name) (types : List Named) : Type 0 where
    named : AllByRecursion IsName names
    as_many : length names ≡ length types
    printable : ArePrintable sorts (length done) types
    stand : AllByRecursion (Stands scope) types
    covered : (c : Name) → is_among c (goal_constants types statement) ≡ true → is_among c cs ≡ true
    few : length done + length names < 2 ^ 63
    few_constants : 1 + (length done + length names + length cs) < 10 ^ 64
    ready : Ready cs (λ i. occurs_behind i types statement) (reverse done)

  first_meant : (done : List Name) (x : Name) (names : List Name) (A : Named) (types : List Named) → Coming done (x ∷ names) (A ∷ types) → MeansEqual sorts scope done (text_over sorts done A) A
  first_meant done x names A types c =
      let few = c.few in
      let p = c.printable.0 in
      text_means sorts scope spellings done A (omega arith) p c.stand.0 c.ready.names
      (ready_fits cs (reverse done) (λ i. occurs_behind i (A ∷ types) statement) A c.ready
      (λ i o. or_true (occurs i A) (occurs_behind (suc i) types statement) o)
      (λ k among. c.covered k (among_front k (constants A) (goal_constants types statement) among))
      (subst (λ n. Below n A) (sym (length-reverse done)) p.2))

  next_coming : (done : List Name) (x : Name) (names : List Name) (A : Named) (types : List Named) → Coming done (x ∷ names) (A ∷ types) → Coming (done ++ choice x (occurs_behind 0 types statement) (done ++ cs) ∷ []) names types
  next_coming done x names A types c =
      let y = choice x (occurs_behind 0 types statement) (done ++ cs) in
      let few = c.few in
      let few_constants = c.few_constants in
      let as_many = c.as_many in
      let l = length-append done cs in
      let m = length-append done (y ∷ []) in
      record {
        named = c.named.1;
        as_many = omega arith;
        printable = subst (λ n. ArePrintable sorts n types) (let e : suc (length done) ≡ length (done ++ y ∷ []) = omega arith in e) c.printable.1;
        stand = c.stand.1;
        covered = λ k among. c.covered k (among_back k (constants A) (goal_constants types statement) among);
        few = omega arith;
        few_constants = omega arith;
        ready = one_ready cs done (λ i. occurs_behind i (A ∷ types) statement) (λ i. occurs_behind i types statement) x (occurs_behind 0 types statement) c.named.0 (omega arith) refl (λ i o. true_or (occurs i A) (occurs_behind (suc i) types statement) o) c.ready;
      }

  types_meant : (done names : List Name) (types : List Named) → Coming done names types → TypesAreMeant sorts scope done (chosen_for done names types) types
  unfolding chosen_for
  types_meant done [] types c = tt
  types_meant done (x ∷ names) [] c = let e = c.as_many in absurd (omega arith)
  types_meant done (x ∷ names) (A ∷ types) c = (first_meant done x names A types c, types_meant (done ++ choice x (occurs_behind 0 types statement) (done ++ cs) ∷ []) names types (next_coming done x names A types c))

  all_ready : (done names : List Name) (types : List Named) → Coming done names types → Ready cs (λ i. occurs i statement) (reverse (done ++ chosen_for done names types))
  unfolding chosen_for
  all_ready done [] [] c = subst (λ l. Ready cs (λ i. occurs i statement) (reverse l)) (sym (append-nil done)) c.ready
  all_ready done [] (A ∷ types) c = let e = c.as_many in absurd (omega arith)
  all_ready done (x ∷ names) [] c = let e = c.as_many in absurd (omega arith)
  all_ready done (x ∷ names) (A ∷ types) c =
      let y = choice x (occurs_behind 0 types statement) (done ++ cs) in
      subst (λ l. Ready cs (λ i. occurs i statement) (reverse l)) (append_assoc done (y ∷ []) (chosen_for (done ++ y ∷ []) names types)) (all_ready (done ++ y ∷ []) names types (next_coming done x names A types c))

statement_covered : (types : List Named) (statement : Named) (c : Name) → is_among c (constants statement) ≡ true → is_among c (goal_constants types statement) ≡ true
statement_covered [] G c among = among
statement_covered (A ∷ types) G c among = among_back c (constants A) (goal_constants types G) (statement_covered types G c among)

pub goals_read_back : PrintedGoalsAreReadBack
unfolding goal_locals chosen_for
goals_read_back sorts names types G scope spellings all e few ps p ks k =
    let cs = goal_constants types G in
    let ys = named_locals cs [] (goal_uses names types G) in
    let l = goal_constants_length sorts 0 types G ps p.0 in
    let c : Coming sorts scope spellings cs G [] names types = record { named = all; as_many = e; printable = ps; stand = ks; covered = λ d among. among; few = omega arith; few_constants = omega arith; ready = none_ready cs (λ i. occurs_behind i types G) } in
    let r = all_ready sorts scope spellings cs G [] names types c in
    let len : length ys ≡ length names = same_length cs [] (goal_uses names types G) ∙ goal_uses_length names types G e in
    let rlen : length (reverse ys) ≡ length names = length-reverse ys ∙ len in (
      types_meant sorts scope spellings cs G [] names types c,
      text_means sorts scope spellings ys G (omega arith) (subst (λ n. IsPrintable sorts n G) (sym len) p) k r.names
          (ready_fits cs (reverse ys) (λ i. occurs i G) G r (λ i o. o) (statement_covered types G) (subst (λ n. Below n G) (sym rlen) p.2)),
    )
