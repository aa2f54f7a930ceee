-- The work of a step that comes later, seen from the beginning.
use Rattle.std.proofs.Common.{◌≡◌, ℕ, ◌<◌, refl, sym, ap, length, Ok}
use Rattle.pts_record.specs.Table.{Tables}
use Rattle.pts_record.specs.Said.{scope_of}
use Rattle.pts_infer_cost.specs.Typing.{comes, Infers, Sorts, Fits, inference_nesting}
use Rattle.pts_grow.specs.Keeps.{Keeps}
use Rattle.pts_grow.proofs.Grow.{tree_stays, told_stays}
use Rattle.pts_reduce.specs.Chain.{entries_of}
use Rattle.pts_infer.specs.declared.part.Part.{Part as AnswerPart}
use Rattle.pts_prove_cost.specs.Combining.{Turned, Free}
use Rattle.pts_prove_cost.specs.Commands.{flawed, misfit_in, Agrees}
use Rattle.pts_prove_cost.proofs.OnBudget.{free_as}
use Rattle.pts_prove.specs.declared.work.Work.{Work}
use Rattle.pts_prove.specs.declared.work.Place.{Place}
use Rattle.pts_prove.specs.Answered.{part_seen}
use Rattle.pts_rules.specs.Meter.{left}
use Rattle.pts_prove.specs.Works.{Grown, IsPlace, HasTerm, IsAsked, Came, term_in, sequent_at, inferring, sorting, fitting, agreeing}

pub entries_stay : (a b : Tables) (c : ℕ) → Keeps a b → c < length a.nodes → entries_of b c ≡ entries_of a c
entries_stay a b c k l = ap (λ m. (scope_of m).entries) (told_stays a b c k l)

pub term_stays : {a b : Work} {t : ℕ} → Grown a b → HasTerm a t → term_in b t ≡ term_in a t
term_stays {a} {b} {t} g h = tree_stays a.proof.now b.proof.now t g.keeps h.there

module _ {a b : Work} {c : ℕ} (p : AnswerPart) (t : ℕ) (g : Grown a b) (h : IsPlace a c) where
  pub inferring_since : inferring b c p t ≡ Turned (flawed (part_seen p)) (Infers a.system.now a.front.now.entries inference_nesting (entries_of a.proof.now c) (term_in b t))
  inferring_since =
      let s = g.system in
      let f = g.front in
      let e = entries_stay a.proof.now b.proof.now c g.keeps h.there in
      rw (s, f, e) refl

  pub sorting_since : sorting b c p t ≡ Turned (flawed (part_seen p)) (Sorts a.system.now a.front.now.entries inference_nesting (entries_of a.proof.now c) (term_in b t))
  sorting_since =
      let s = g.system in
      let f = g.front in
      let e = entries_stay a.proof.now b.proof.now c g.keeps h.there in
      rw (s, f, e) refl

  pub fitting_since : {want : ℕ} → HasTerm a want → fitting b c p t want ≡ Turned (misfit_in (part_seen p)) (Fits a.system.now a.front.now.entries inference_nesting (entries_of a.proof.now c) (term_in b t) (term_in a want))
  fitting_since {want} w =
      let s = g.system in
      let f = g.front in
      let e = entries_stay a.proof.now b.proof.now c g.keeps h.there in
      let x = term_stays g w in
      rw (s, f, e, x) refl

pub agreeing_since : {a b : Work} {p : Place} (t : ℕ) → Grown a b → IsAsked a p → agreeing b p t ≡ Agrees a.front.now.entries (entries_of a.proof.now p.ctx) (term_in b t) (term_in a p.statement)
agreeing_since {a} {b} {p} t g h =
    let f = g.front in
    let e = entries_stay a.proof.now b.proof.now p.ctx g.keeps h.place.there in
    let x = term_stays g h.statement in
    rw (f, e, x) refl

pub sequent_since : {a b : Work} {p : Place} → Grown a b → IsAsked a p → sequent_at b p ≡ sequent_at a p
sequent_since {a} {b} {p} g h =
    let n = g.names in
    let e = entries_stay a.proof.now b.proof.now p.ctx g.keeps h.place.there in
    let x = term_stays g h.statement in
    rw (n, e, x) refl

-- The end of a command.
pub ended : {X A : Type 0} {a : Work} {value : X → A} {x : X} (v : A) → value x ≡ v → Came a a value (Ok x) (Free (comes v))
ended {a = a} v e = record { answers = free_as _ _ (left a.meter.now) (ap comes (sym e)) }
