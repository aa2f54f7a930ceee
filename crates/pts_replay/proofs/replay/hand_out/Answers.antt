use Rattle.std.proofs.Common.{◌≡◌, ◌∙◌, ◌+◌, ◌-◌, ◌∷◌, ◌++◌, [], arith, rules, ap, length, refl, sym, subst, All}
use Rattle.std.specs.Vec.Iter.{into_iter_items}
use Rattle.pts_play.specs.Inputs.{IsSession}
use Rattle.pts_play.specs.Turns.{HaveLines}
use Rattle.pts_replay.proofs.Handing.{have_none, first_known, given_on, all_given, none_left, same_length}
use Rattle.pts_replay.proofs.replay.hand_out.Goals as goal

pub loop-number-init : goal.loop-number-init
loop-number-init g c = record {
  handed = ([], c.into_iter-rest.ensures.rest, have_none 1 c.args.seats.now c.requires.bare);
  known = subst (All (λ m. IsSession m.0)) (sym c.into_iter-rest.ensures.rest) c.requires.known;
  clear = c.requires.clear;
  players = refl;
  long = search rules;
}

pub loop-number-preserved : goal.loop-number-preserved
loop-number-preserved g c =
    let i = c.loop-number.invariant in
    let (done, all, have) = i.handed in
    let known = first_known (into_iter_items c.loop-number.rest) (into_iter_items c.next.new.self) (c.in-Some.number, c.in-Some.text) c.in-Some.ensures.items i.known in
    let low = known.0.0 in
    let number : (c.in-Some.number - 1) + 1 ≡ c.in-Some.number = omega (arith, low) in
    record {
      handed = (done ++ (c.in-Some.number, c.in-Some.text) ∷ [], given_on done _ _ (c.in-Some.number, c.in-Some.text) _ c.in-Some.ensures.items all, subst (λ n. HaveLines 1 (done ++ (n, c.in-Some.text) ∷ []) c.add_line.new.seats) number (c.in_ok-add_line.ensures.lines done have));
      known = known.1;
      clear = c.in_ok-add_line.ensures.clear i.clear;
      players = c.in_ok-add_line.ensures.players ∙ i.players;
      long = let long = i.long in let len = c.in-Some.ensures.len in let items = ap length c.in-Some.ensures.items in omega (arith, long, len, items);
    }

pub add_line-requires : goal.add_line-requires
add_line-requires g c =
    let i = c.loop-number.invariant in
    let known = first_known (into_iter_items c.loop-number.rest) (into_iter_items c.next.new.self) (c.in-Some.number, c.in-Some.text) c.in-Some.ensures.items i.known in
    let low = known.0.0 in
    let high = known.0.1 in
    let long = same_length c.args.seats.now c.loop-number.seats i.players in
    let all = c.requires.sessions in
    record { known = omega (arith, low, high, long, all); few = omega (arith, long, all) }

pub returns-clause-lines : goal.returns-clause-lines
returns-clause-lines g c =
    let (done, all, have) = c.loop-number.invariant.handed in
    subst (λ ls. HaveLines 1 ls c.loop-number.seats) (all_given done (into_iter_items c.loop-number.rest) c.args.lines.items (none_left (into_iter_items c.loop-number.rest) _ c.loop-number.invariant.long (λ some. absurd (cc (c.in_default.ensures.variant.1 some)))) all) have

pub overflow_sub-number : goal.overflow_sub-number
overflow_sub-number g c =
    let known = first_known (into_iter_items c.loop-number.rest) (into_iter_items c.next.new.self) (c.in-Some.number, c.in-Some.text) c.in-Some.ensures.items c.loop-number.invariant.known in
    known.0.0
