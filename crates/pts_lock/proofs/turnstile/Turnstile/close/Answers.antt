use Rattle.std.proofs.Common.{rules, List, refl, ◌≡◌, ℕ, [], ◌∷◌, ◌++◌, ap, ◌∙◌, ⊎_elim, inr, subst, None, map, sym}
use Rattle.std.specs.List.{AllByRecursion}
use Rattle.pts_names.specs.Lists.{In}
use Rattle.pts_lock.specs.Histories.{SawItsOwn}
use Rattle.pts_lock.specs.Views.{Owns, EachSawItsOwn, view}
use Rattle.pts_lock.specs.Seats.{seat_at_rest, history_seen}
use Rattle.pts_lock.proofs.Gathering.{all_parts, none_in, owners_taken, seen_taken}
use Rattle.pts_lock.proofs.turnstile.Turnstile.close.Goals as goal

pub loop-seat-init : goal.loop-seat-init
loop-seat-init g c =
    let popped : c.args.seats.items ≡ c.pop-first.new.self.items ++ c.in-Some.first ∷ [] = c.in-Some.ensures.items in
    let own = all_parts (λ s. s.in_table.table_id ≡ c.args.self.table.shared.table_id) c.pop-first.new.self.items (c.in-Some.first ∷ []) (subst (AllByRecursion (λ s. s.in_table.table_id ≡ c.args.self.table.shared.table_id)) popped c.requires.own) in
    let idle = all_parts (λ s. s.in_table.me ≡ seat_at_rest s.owner (history_seen s.in_table.me)) c.pop-first.new.self.items (c.in-Some.first ∷ []) (subst (AllByRecursion (λ s. s.in_table.me ≡ seat_at_rest s.owner (history_seen s.in_table.me))) popped c.requires.idle) in
    let one = ap (λ m. m.0.pairs) idle.1.0 in (
      refl,
      own.1.0,
      idle.1.0 ∙ ap (λ p. (view p None None, [])) (sym one),
      own.0,
      idle.0,
      owners_taken (λ s. s.owner) (λ s. s.in_table.me.0.pairs) c.in-Some.first c.args.seats.items c.pop-first.new.self.items [] c.in-Some.first.in_table.me.0.pairs popped one refl c.args.seats.items (λ o i. inr i),
      seen_taken (λ s. s.owner) (λ s. s.in_table.me.0.pairs) c.in-Some.first c.args.seats.items c.pop-first.new.self.items [] c.in-Some.first.in_table.me.0.pairs popped one refl (λ now. AllByRecursion (λ s. SawItsOwn s.owner (history_seen s.in_table.me) now) c.args.seats.items) (λ now f a. a),
    )

pub gather-requires-clause-own : goal.gather-requires-clause-own
gather-requires-clause-own g c =
    let i = c.loop-seat.invariant in
    let popped : c.loop-seat.seats.items ≡ c.pop.new.self.items ++ c.in-Some-pop.seat ∷ [] = c.in-Some-pop.ensures.items in
    let own = all_parts (λ s. s.in_table.table_id ≡ c.args.self.table.shared.table_id) c.pop.new.self.items (c.in-Some-pop.seat ∷ []) (subst (AllByRecursion (λ s. s.in_table.table_id ≡ c.args.self.table.shared.table_id)) popped i.3) in
    (i.1, own.1.0)

pub gather-requires-clause-other_idle : goal.gather-requires-clause-other_idle
gather-requires-clause-other_idle g c =
    let i = c.loop-seat.invariant in
    let popped : c.loop-seat.seats.items ≡ c.pop.new.self.items ++ c.in-Some-pop.seat ∷ [] = c.in-Some-pop.ensures.items in
    let idle = all_parts (λ s. s.in_table.me ≡ seat_at_rest s.owner (history_seen s.in_table.me)) c.pop.new.self.items (c.in-Some-pop.seat ∷ []) (subst (AllByRecursion (λ s. s.in_table.me ≡ seat_at_rest s.owner (history_seen s.in_table.me))) popped i.4) in
    (ap (λ m. m.1) idle.1.0, ap (λ m. m.0.ticket) idle.1.0, ap (λ m. m.0.turn) idle.1.0)

pub loop-seat-preserved : goal.loop-seat-preserved
loop-seat-preserved g c =
    let i = c.loop-seat.invariant in
    let popped : c.loop-seat.seats.items ≡ c.pop.new.self.items ++ c.in-Some-pop.seat ∷ [] = c.in-Some-pop.ensures.items in
    let own = all_parts (λ s. s.in_table.table_id ≡ c.args.self.table.shared.table_id) c.pop.new.self.items (c.in-Some-pop.seat ∷ []) (subst (AllByRecursion (λ s. s.in_table.table_id ≡ c.args.self.table.shared.table_id)) popped i.3) in
    let idle = all_parts (λ s. s.in_table.me ≡ seat_at_rest s.owner (history_seen s.in_table.me)) c.pop.new.self.items (c.in-Some-pop.seat ∷ []) (subst (AllByRecursion (λ s. s.in_table.me ≡ seat_at_rest s.owner (history_seen s.in_table.me))) popped i.4) in
    let one = ap (λ m. m.0.pairs) idle.1.0 in
    let both = ap (λ m. m.0.pairs) c.gather.ensures.both in (
      refl,
      c.gather.ensures.own ∙ i.1,
      c.gather.ensures.both ∙ ap (λ p. (view p None None, [])) (sym both),
      own.0,
      idle.0,
      owners_taken (λ s. s.owner) (λ s. s.in_table.me.0.pairs) c.in-Some-pop.seat c.loop-seat.seats.items c.pop.new.self.items c.loop-seat.all.me.0.pairs c.gather.new.seat.me.0.pairs popped one both c.args.seats.items i.5,
      seen_taken (λ s. s.owner) (λ s. s.in_table.me.0.pairs) c.in-Some-pop.seat c.loop-seat.seats.items c.pop.new.self.items c.loop-seat.all.me.0.pairs c.gather.new.seat.me.0.pairs popped one both (λ now. AllByRecursion (λ s. SawItsOwn s.owner (history_seen s.in_table.me) now) c.args.seats.items) i.6,
    )

pub close_with-requires-clause-all : goal.close_with-requires-clause-all
close_with-requires-clause-all g c o given =
    let i = c.loop-seat.invariant in
    ⊎_elim (λ h. h) (λ h. absurd (none_in (λ s. s.owner) o c.loop-seat.seats.items (search rules) h)) (i.5 o (c.requires.all o given))
