use Rattle.std.proofs.Common.{◌≡◌, ℕ, ◌+◌, ◌-◌, ◌<◌, length, refl, sym, ap, ap₂, ◌∙◌, arith, length-set, below_none}
use Rattle.std.proofs.lemmas.List.Edits.{fill_by_more}
use Rattle.quantities.specs.Sums.{sum}
use Rattle.quantities.specs.Cut.{cut_up_to, part}
use Rattle.quantities.proofs.Listed.{row_from}
use Rattle.quantities.proofs.Sums.{sum_none, sum_next}
use Rattle.quantities.proofs.Parts.{cut_grows, cut_none, part_le}
use Rattle.settlement.specs.Points.{brings, feeds_of, left_in, share_in}
use Rattle.settlement.specs.Quarter.{feeds}
use Rattle.settlement.proofs.Points.{feeding_at}
use Rattle.settlement.proofs.Steps.{cut_next, step_grows, step_is}
use Rattle.settlement.proofs.quarter_hour.QuarterHour.settled_feeds.Goals as goal
use Rattle.settlement.proofs.quarter_hour.QuarterHour.settled_feeds.Goals.{After-from}

-- the feeds, what they have of the surplus, and this feed's part of it
cut_in : After-from → ℕ → ℕ
cut_in c = cut_up_to c.saturating_sub-surplus.result (feeds_of c.args.self.now) c.generation-generation.result

feed_is : (c : After-from) → c.brought-feed.result ≡ feeds_of c.args.self.now c.loop-i.i
unfolding feeds
feed_is c =
    c.brought-feed.ensures ∙ ap brings (feeding_at c.args.self.now _ c.feeding-point-items.ensures.points c.feeding-point-items.ensures.count c.loop-i.i)

sum_with : (c : After-from) → c.loop-i.sum + c.from-sum.result ≡ sum (feeds_of c.args.self.now) (c.loop-i.i + 1)
sum_with c = sum_next _ _ _ _ c.loop-i.invariant.sum (c.from-sum.ensures ∙ feed_is c)

before_is : (c : After-from) → c.loop-i.before ≡ cut_up_to c.saturating_sub-surplus.result (feeds_of c.args.self.now) c.generation-generation.result c.loop-i.i
before_is c = c.loop-i.invariant.before

after_is : (c : After-from) → c.cut_up_to-after.result ≡ cut_up_to c.saturating_sub-surplus.result (feeds_of c.args.self.now) c.generation-generation.result (c.loop-i.i + 1)
after_is c = cut_next _ (feeds_of c.args.self.now) _ c.loop-i.i _ _ (sum_with c) c.cut_up_to-after.ensures.value

part_is : (c : After-from) → c.cut_up_to-after.result - c.loop-i.before ≡ part c.saturating_sub-surplus.result (feeds_of c.args.self.now) c.generation-generation.result c.loop-i.i
unfolding part cut_in
part_is c = step_is (cut_in c) c.loop-i.i _ _ (before_is c) (after_is c)

pub loop-i-init : goal.loop-i-init
loop-i-init c =
    record { sum = sym (sum_none _); before = sym (cut_none _ _ _); settled = below_none _; long = refl; fits = omega arith }

pub overflow_sub-settled : goal.overflow_sub-settled
unfolding cut_in
overflow_sub-settled c =
    step_grows (cut_in c) c.loop-i.i _ _ (before_is c) (after_is c) (cut_grows c.saturating_sub-surplus.result (feeds_of c.args.self.now) c.generation-generation.result c.loop-i.i)

pub overflow_sub-settled-in-loop-i : goal.overflow_sub-settled-in-loop-i
overflow_sub-settled-in-loop-i c =
    omega (arith, part_is c, feed_is c, part_le c.saturating_sub-surplus.result (feeds_of c.args.self.now) c.generation-generation.result c.loop-i.i (omega arith))

pub loop-i-preserved : goal.loop-i-preserved
loop-i-preserved c =
    let n = ap₂ ◌-◌ (c.from.ensures ∙ feed_is c) (part_is c) in
    let lt : c.loop-i.i < length c.loop-i.settled = omega arith in
    record {
      sum = sum_with c;
      before = after_is c;
      settled = rw n (fill_by_more (λ k. feeds_of c.args.self.now k - part c.saturating_sub-surplus.result (feeds_of c.args.self.now) c.generation-generation.result k) _ _ 0 lt c.loop-i.invariant.settled);
      long = simp length-set c.loop-i.invariant.long;
      fits = omega arith;
    }

pub returns : goal.returns
returns c =
    let feed = feeds (share_in c.args.self.now) (left_in c.args.self.now) in
    let all = c.generation-generation.ensures in
    let surplus = c.saturating_sub-surplus.ensures ∙ ap (λ g. g - c.args.used) all in
    row_from _ _ _ c.loop-i.invariant.long
    (λ k h. c.loop-i.invariant.settled k (omega (arith, c.feeding-point-items.ensures.count)) ∙ (λ i. feed k - part (surplus i) feed (all i) k))
