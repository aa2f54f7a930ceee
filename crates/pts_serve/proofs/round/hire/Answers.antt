use Rattle.std.proofs.Common.{◌≡◌, ◌∙◌, ◌++◌, ◌∷◌, [], ap, sym, refl, subst, arith, map}
use Rattle.std.specs.List.{AllByRecursion}
use Rattle.pts_play.specs.Ports.{job}
use Rattle.pts_serve.specs.Workers.{turned, job_of, job_with}
use Rattle.pts_serve.proofs.Turned.{map_back, moved, moved_itself, backs_same, all_back}
use Rattle.pts_serve.proofs.round.hire.Goals as goal

pub loop-pass-preserved : goal.loop-pass-preserved
loop-pass-preserved g c =
    let i = c.loop-pass.invariant in
    let staff = c.pop-last.new.self.items in
    let last = c.in-Some-last.last in
    let passes = c.pop.new.self.items in
    let pass = c.in-Some.pass in
    let workers = c.loop-pass.workers.items in
    let popped : c.loop-pass.staff.items ≡ staff ++ last ∷ [] = c.in-Some-last.ensures.items in
    let taken : c.loop-pass.passes.items ≡ passes ++ pass ∷ [] = c.in-Some.ensures.items in
    let hired = c.in-Ok.ensures.items in
    let same = backs_same (map (λ p. p.owner) passes) (map (λ s. s.number) staff) pass.owner last.number
    (sym (map_back (λ p. p.owner) passes pass) ∙ (ap (map (λ p. p.owner)) (sym taken) ∙ (i.owners ∙ (ap (map (λ s. s.number)) popped ∙ map_back (λ s. s.number) staff last)))) in
    let left = c.in-Some-last.ensures.len in
    let longer = c.in-Ok.ensures.len in
    let room = c.push-pushed.ensures.capacity in
    let enough = i.room in
    record {
      jobs = ap (λ z. map job_of staff ++ turned (map job_with z)) hired
          ∙ (moved job_of job_with staff last workers _ (ap (λ n. job n last.session last.lines.items) (sym same.1)) ∙ (ap (λ z. map job_of z ++ turned (map job_with workers)) (sym popped) ∙ i.jobs));
      passes = ap (λ z. passes ++ turned (map (λ w. w.pass) z)) hired ∙ (moved_itself (λ w. w.pass) passes pass workers _ refl ∙ (ap (λ z. z ++ turned (map (λ w. w.pass) workers)) (sym taken) ∙ i.passes));
      owners = same.0;
      shared = subst (AllByRecursion (λ w. w.shared.now ≡ c.args.shared.now)) (sym hired) (all_back _ workers _ i.shared refl);
      world = subst (AllByRecursion (λ w. w.world.now ≡ c.args.world.now)) (sym hired) (all_back _ workers _ i.world refl);
      capacity = c.pop.ensures.capacity ∙ i.capacity;
      room = omega arith;
    }
