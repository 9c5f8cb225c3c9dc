-- The worked examples, computed. Assumes nothing.
use Rattle.std.proofs.Common.{ℕ, refl}
use Rattle.quantities.specs.Sums.{sum}
use Rattle.quantities.specs.Cut.{part, cut_up_to}
use Rattle.quantities.specs.Shares.{corrected}
use Rattle.settlement.specs.Quarter.{shares, draws, feeds, generated, sums_up_to, promised_up_to, entitlement, draw_settled, used, feed_remaining, feed_settled, settled, remaining}
use Rattle.specimens.specs.Specimens.{Specimens, TwoCommunities, Overfull, Halves, LastDay}

-- all that a settlement computes with
computes : ℕ
unfolding sum part cut_up_to corrected shares draws feeds generated sums_up_to promised_up_to entitlement draw_settled used feed_remaining feed_settled settled remaining
computes = 0

two_communities : TwoCommunities
unfolding computes
two_communities =
    record {
      lower_first = refl;
      lower_second = refl;
      lower_third = refl;
      lower_feed = refl;
      upper_first = refl;
      upper_second = refl;
      upper_low_feed = refl;
      upper_high_feed = refl;
    }

overfull : Overfull
unfolding computes
overfull =
    record {
      first = refl;
      second = refl;
      third = refl;
      total = refl;
      first_share = refl;
      second_share = refl;
      third_share = refl;
    }

halves : Halves
unfolding computes
halves = record { first = refl; second = refl; feed = refl }

last_day : LastDay
last_day =
    record {
      last_day = refl;
      day_after = refl;
      start_too_early = refl;
      start_refused_with = refl;
      start_again = refl;
    }

pub specimens : Specimens
specimens = record { two_communities = two_communities; overfull = overfull; halves = halves; last_day = last_day }
