use Rattle.std.proofs.Common.{◌≡◌, ℕ, ◌+◌, ◌<◌, get_or, length, refl, sym, ap, ◌∙◌, arith, length-set, below_none}
use Rattle.std.proofs.lemmas.List.Edits.{fill_by_more}
use Rattle.quantities.specs.Limits.{drawing}
use Rattle.quantities.specs.Sums.{sum}
use Rattle.quantities.proofs.Listed.{row_from}
use Rattle.quantities.proofs.Sums.{sum_none, sum_next}
use Rattle.settlement.specs.Points.{brings, left_in, nobody, point_at, share_in, weight}
use Rattle.settlement.specs.Quarter.{draws, entitlement, promised_up_to, shares}
use Rattle.settlement.proofs.Balance.{up_to_grows, up_to_none}
use Rattle.settlement.proofs.Points.{drawing_at}
use Rattle.settlement.proofs.Steps.{sums_are, promised_next, step_is, step_grows}
use Rattle.settlement.proofs.quarter_hour.QuarterHour.entitlements.Given.{Over}
use Rattle.settlement.proofs.quarter_hour.QuarterHour.entitlements.Goals as goal

-- what the key promises here, by place; this place, and the sums and the key's answer with it
promised_in : (g : Over) (c : goal.After-promise-after g) → ℕ → ℕ
promised_in g c = promised_up_to (g.K.Key.promised c.args.key.now) (share_in c.args.self.now) (left_in c.args.self.now)

low : (g : Over) (c : goal.After-promise-after g) → c.loop-place.place < drawing
low g c = omega (arith, c.drawing-point-items.ensures.count)

point_is : (g : Over) (c : goal.After-promise-after g) → get_or c.drawing-point-items.result.now c.loop-place.place nobody ≡ point_at c.args.self.now c.loop-place.place
point_is g c = drawing_at c.args.self.now _ c.drawing-point-items.ensures.points c.drawing-point-items.ensures.count c.loop-place.place (low g c)

shares_next : (g : Over) (c : goal.After-promise-after g) → c.loop-place.running.share + c.from.result ≡ sum (shares (share_in c.args.self.now)) (c.loop-place.place + 1)
unfolding shares
shares_next g c = sum_next _ _ _ _ c.loop-place.invariant.share (c.from.ensures ∙ c.weight.ensures ∙ ap weight (point_is g c))

draws_next : (g : Over) (c : goal.After-promise-after g) → c.loop-place.running.draw + c.from-in-loop-place.result ≡ sum (draws (share_in c.args.self.now) (left_in c.args.self.now)) (c.loop-place.place + 1)
unfolding draws
draws_next g c = sum_next _ _ _ _ c.loop-place.invariant.draw (c.from-in-loop-place.ensures ∙ c.brought.ensures ∙ ap brings (point_is g c))

answer_next : (g : Over) (c : goal.After-promise-after g) → c.promise-after.result ≡ promised_up_to (g.K.Key.promised c.args.key.now) (share_in c.args.self.now) (left_in c.args.self.now) (c.loop-place.place + 1)
answer_next g c =
    promised_next _ _ _ c.loop-place.place _ _ _ _ c.division-division.ensures.generation
    (sums_are _ _ (c.loop-place.place + 1) _ _ (shares_next g c) (draws_next g c)) c.division-division.ensures.whole
    c.promise-after.ensures

pub loop-place-init : goal.loop-place-init
loop-place-init g c = record {
  share = c.default-running.ensures.0 ∙ sym (sum_none _);
  draw = c.default-running.ensures.1 ∙ sym (sum_none _);
  before = sym (up_to_none _ (g.K.Key.lawful c.args.key.now) _ _);
  entitled = below_none _;
  long = refl;
  share_fits = omega (arith, c.default-running.ensures.0);
  draw_fits = omega (arith, c.default-running.ensures.1);
}

pub overflow_sub-entitled : goal.overflow_sub-entitled
unfolding promised_in
overflow_sub-entitled g c =
    step_grows (promised_in g c) c.loop-place.place _ _ c.loop-place.invariant.before (answer_next g c)
    (up_to_grows (g.K.Key.promised c.args.key.now) (g.K.Key.lawful c.args.key.now) (share_in c.args.self.now) (left_in c.args.self.now) c.loop-place.place (low g c))

pub loop-place-preserved : goal.loop-place-preserved
unfolding entitlement promised_in
loop-place-preserved g c =
    let lt : c.loop-place.place < length c.loop-place.entitled = omega arith in
    record {
      share = shares_next g c;
      draw = draws_next g c;
      before = answer_next g c;
      entitled = rw (step_is (promised_in g c) c.loop-place.place _ _ c.loop-place.invariant.before (answer_next g c)) (fill_by_more (entitlement (g.K.Key.promised c.args.key.now) (share_in c.args.self.now) (left_in c.args.self.now)) _ _ 0 lt c.loop-place.invariant.entitled);
      long = simp length-set c.loop-place.invariant.long;
      share_fits = omega arith;
      draw_fits = omega arith;
    }

pub returns : goal.returns
returns g c = row_from _ _ _ c.loop-place.invariant.long (λ p h. c.loop-place.invariant.entitled p (omega (arith, c.drawing-point-items.ensures.count)))
