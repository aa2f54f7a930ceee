-- Passes that are handed out, that end their turn, and that are given back.
use Rattle.std.proofs.Common.{◌≡◌, suc, List, [], ◌∷◌, ◌++◌, length, map, Some, sym, ap, ◌∙◌, subst}
use Rattle.std.specs.List.{AllByRecursion}
use Rattle.atomic_table.specs.Seated.{TableId}
use Rattle.pts_lock.specs.Histories.{SawItsOwn}
use Rattle.pts_lock.specs.Seats.{seat_at_rest, history_seen}
use Rattle.pts_ctx.specs.System.{Specification}
use Rattle.pts_core.specs.Replies.{LabelledFront}
use Rattle.pts_core.specs.Histories.{Past, replay}
use Rattle.pts_core.specs.Cores.{IsLegalCore}
use Rattle.pts_share.specs.Marks.{Marks, event_mark, marks, events_of}
use Rattle.pts_share.specs.Passes.{Pass, GoesOn, GrowsByOwn, HasTurn, IsPassOf, history_of}
use Rattle.pts_share.proofs.Marks.{events_in_marks, marks_long, marks_more, goes_on, own_marks}

-- What is sure of a core is sure of its history.
pub legal_history : (S T : Specification) (F : LabelledFront) (h : List Past) → IsLegalCore T F h → T ≡ S → IsLegalCore S (replay h) h
legal_history S T F h l e = subst (λ U. IsLegalCore U (replay h) h) e (subst (λ G. IsLegalCore T G h) (sym l.replayed) l)

pub at_rest : (table : TableId) (S : Specification) (h : List Past) (p : Pass) → p.in_table.table_id ≡ table → p.in_table.me ≡ seat_at_rest p.owner (marks S h) → p.count ≡ length (marks S h) → IsLegalCore S (replay h) h
    → IsPassOf table S p × (history_of p ≡ h)
at_rest table S h p own me count legal =
    let same : history_of p ≡ h = ap (λ m. events_of (history_seen m)) me ∙ events_in_marks S h in (
      record {
        of_lock = own;
        at_rest = me ∙ ap (λ k. seat_at_rest p.owner (marks S k)) (sym same);
        count = count ∙ (marks_long S h ∙ ap (λ k. suc (length k)) (sym same));
        legal = subst (λ k. IsLegalCore S (replay k) k) (sym same) legal;
      },
      same,
    )

pub all_at_rest : (table : TableId) (S : Specification) (h : List Past) (ps : List Pass) → IsLegalCore S (replay h) h → AllByRecursion (λ p. p.in_table.table_id ≡ table) ps
    → AllByRecursion (λ p. p.in_table.me ≡ seat_at_rest p.owner (marks S h)) ps → AllByRecursion (λ p. p.count ≡ length (marks S h)) ps → AllByRecursion (λ p. IsPassOf table S p × (history_of p ≡ h)) ps
all_at_rest table S h [] legal own idle count = tt
all_at_rest table S h (p ∷ ps) legal own idle count = (at_rest table S h p own.0 idle.0 count.0 legal, all_at_rest table S h ps legal own.1 idle.1 count.1)

-- What the lock says of a history that a pass has seen.
pub saw_marks : (table : TableId) (S : Specification) (p : Pass) (T : Specification) (k : List Past) → IsPassOf table S p → SawItsOwn p.owner (history_seen p.in_table.me) (marks T k) → GoesOn p.owner (history_of p) k
saw_marks table S p T k i saw = (goes_on p.owner S T (history_of p) k (subst (λ m. SawItsOwn p.owner m (marks T k)) (ap history_seen i.at_rest) saw)).1

pub all_go_on : (table : TableId) (S T : Specification) (k : List Past) (ps : List Pass) → AllByRecursion (IsPassOf table S) ps → AllByRecursion (λ p. SawItsOwn p.owner (history_seen p.in_table.me) (marks T k)) ps
    → AllByRecursion (λ p. GoesOn p.owner (history_of p) k) ps
all_go_on table S T k [] a saw = tt
all_go_on table S T k (p ∷ ps) a saw = (saw_marks table S p T k a.0 saw.0, all_go_on table S T k ps a.1 saw.1)

-- What the lock asks of a pass that ends its turn, when its session made events of a core.
pub put_back : (table : TableId) (S T : Specification) (k : List Past) (p : Pass) → GrowsByOwn (HasTurn table S) p k → T ≡ S
    → (old : Marks) × (mine : Marks) × (p.in_table.me.0.turn ≡ Some old) × (p.count ≡ length old) × (old ++ mine ≡ marks T k) × AllByRecursion (λ m. m.0 ≡ p.owner) mine
put_back table S T k p (old, mine, has, whole, own) same =
    (marks S old, map event_mark mine, has.turn, has.count, marks_more S old mine ∙ (ap (marks S) whole ∙ ap (λ U. marks U k) (sym same)), own_marks p.owner mine own)

-- The pass p is q then.
pub rests_again : (table : TableId) (S T : Specification) (F : LabelledFront) (k : List Past) (p q : Pass) → GrowsByOwn (HasTurn table S) p k → T ≡ S → IsLegalCore T F k → q.in_table.table_id ≡ p.in_table.table_id → q.owner ≡ p.owner
    → q.in_table.me ≡ seat_at_rest p.owner (marks T k) → q.count ≡ length (marks T k) → IsPassOf table S q × (history_of q ≡ k)
rests_again table S T F k p q grows same legal own owner me count =
    at_rest table S k q (own ∙ grows.2.of_lock) (me ∙ (ap (λ n. seat_at_rest n (marks T k)) (sym owner) ∙ ap (λ U. seat_at_rest q.owner (marks U k)) same)) (count ∙ ap (λ U. length (marks U k)) same) (legal_history S T F k legal same)
