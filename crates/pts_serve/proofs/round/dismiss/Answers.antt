use Rattle.std.proofs.Common.{◌≡◌, ◌∙◌, ◌++◌, ◌∷◌, [], ap, sym, refl, subst, arith, map, true}
use Rattle.std.specs.List.{AllByRecursion}
use Rattle.pts_serve.specs.Workers.{turned, finish_of, finish_with}
use Rattle.pts_serve.proofs.Turned.{given, given_itself, all_back}
use Rattle.pts_serve.proofs.round.dismiss.Goals as goal

pub loop-worker-preserved : goal.loop-worker-preserved
loop-worker-preserved g c =
    let i = c.loop-worker.invariant in
    let front = c.pop.new.self.items in
    let worker = c.in-Some.worker in
    let popped : c.loop-worker.workers.items ≡ front ++ worker ∷ [] = c.in-Some.ensures.items in
    let passes = c.loop-worker.passes.items in
    let staff = c.loop-worker.staff.items in
    let left = c.in-Some.ensures.len in
    let longer = c.in-Ok.ensures.len in
    let kept = c.push-pushed.ensures.capacity in
    let enough = i.room in
    let longer' = c.in-Ok-pushed.ensures.len in
    let kept' = c.push-pushed-in-Some.ensures.capacity in
    let enough' = i.places in
    record {
      passes = ap (λ z. z ++ turned (map (λ w. w.pass) front)) c.in-Ok.ensures.items
          ∙ (given_itself (λ w. w.pass) passes worker.pass front worker refl ∙ (ap (λ z. passes ++ turned (map (λ w. w.pass) z)) (sym popped) ∙ i.passes));
      finishes = ap (λ z. map finish_of z ++ turned (map finish_with front)) c.in-Ok-pushed.ensures.items
          ∙ (given finish_of finish_with staff _ front worker refl ∙ (ap (λ z. map finish_of staff ++ turned (map finish_with z)) (sym popped) ∙ i.finishes));
      numbers = ap (λ z. map (λ s. s.number) z ++ turned (map (λ w. w.pass.owner) front)) c.in-Ok-pushed.ensures.items
          ∙ (given (λ s. s.number) (λ w. w.pass.owner) staff _ front worker refl ∙ (ap (λ z. map (λ s. s.number) staff ++ turned (map (λ w. w.pass.owner) z)) (sym popped) ∙ i.numbers));
      ended = λ t all. let b = c.both-all.ensures t in i.ended b.0 (subst (AllByRecursion (λ w. w.ended ≡ true)) (sym popped) (all_back (λ w. w.ended ≡ true) front worker all b.1));
      room = omega arith;
      places = omega arith;
    }
