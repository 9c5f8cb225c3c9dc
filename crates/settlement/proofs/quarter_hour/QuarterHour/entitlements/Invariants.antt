use Rattle.std.proofs.Common.{◌≡◌, ℕ, ◌*◌, ◌<◌, ◌≤◌, length}
use Rattle.quantities.specs.Limits.{drawing}
use Rattle.quantities.specs.Sums.{sum}
use Rattle.settlement.specs.Quarter.{shares, draws, promised_up_to, entitlement}
use Rattle.quantities.specs.Rows.{at}
use Rattle.settlement.specs.Points.{share_in, left_in}
use Rattle.settlement.proofs.quarter_hour.QuarterHour.entitlements.Given as goal

abbrev pub invariant-loop-place : goal.invariant-loop-place
invariant-loop-place g l = record {
  share : l.running.share ≡ sum (shares (share_in l.self)) l.place;
  draw : l.running.draw ≡ sum (draws (share_in l.self) (left_in l.self)) l.place;
  before : l.before ≡ promised_up_to (g.K.Key.promised l.key) (share_in l.self) (left_in l.self) l.place;
  entitled : (k : ℕ) → k < l.place → at l.entitled k ≡ entitlement (g.K.Key.promised l.key) (share_in l.self) (left_in l.self) k;
  long : length l.entitled ≡ drawing;
  share_fits : l.running.share ≤ 4294967295 * l.place;
  draw_fits : l.running.draw ≤ 4294967295 * l.place;
}
