use Rattle.std.proofs.Common.{◌≡◌, ℕ, ◌-◌, ◌*◌, ◌<◌, ◌≤◌, length}
use Rattle.quantities.specs.Limits.{feeding}
use Rattle.quantities.specs.Rows.{at}
use Rattle.quantities.specs.Sums.{sum}
use Rattle.quantities.specs.Cut.{cut_up_to, part}
use Rattle.settlement.specs.Points.{share_in, left_in}
use Rattle.settlement.specs.Quarter.{feeds}
use Rattle.settlement.proofs.quarter_hour.QuarterHour.settled_feeds.Given as goal

abbrev pub invariant-loop-i : goal.invariant-loop-i
invariant-loop-i l = record {
  sum : l.sum ≡ sum (feeds (share_in l.self) (left_in l.self)) l.i;
  before : l.before ≡ cut_up_to l.surplus (feeds (share_in l.self) (left_in l.self)) l.generation l.i;
  settled : (k : ℕ) → k < l.i → at l.settled k ≡ feeds (share_in l.self) (left_in l.self) k - part l.surplus (feeds (share_in l.self) (left_in l.self)) l.generation k;
  long : length l.settled ≡ feeding;
  fits : l.sum ≤ 4294967295 * l.i;
}
