-- One quarter hour's settlement in one community, over functions of the place. Assumes nothing.
use Rattle.std.specs.Prelude.{ℕ, suc, ◌+◌, ◌-◌, min, cond, Some, None, Option, nat_lt}
use Rattle.quantities.specs.Limits.{drawing, feeding}
use Rattle.quantities.specs.Sums.{sum}
use Rattle.quantities.specs.Optional.{or_zero}
use Rattle.quantities.specs.Cut.{part}
use Rattle.keys.specs.declared.sums.Sums.{Sums}
use Rattle.keys.specs.Keys.{KeyMeaning}

-- one number for a member, another for any other place
abbrev pub if_member : Option ℕ → ℕ → ℕ → ℕ
if_member (Some share) member other = member
if_member None member other = other

-- In what follows `share p` is the share of place p, none where it is no member, and `left p` is what place p has
-- left below. A place that is no member counts with share 0, draw 0 and feed 0.
unfoldable pub shares : (ℕ → Option ℕ) → ℕ → ℕ
shares share p = or_zero (share p)

module _ (share : ℕ → Option ℕ) (left : ℕ → ℕ) where
  unfoldable pub draws : ℕ → ℕ
  draws p = if_member (share p) (left p) 0

  -- by feeding place, counted from 0
  unfoldable pub feeds : ℕ → ℕ
  feeds i = if_member (share (drawing + i)) (left (drawing + i)) 0

  -- what the members feed together, P
  unfoldable pub generated : ℕ
  generated = sum feeds feeding

  -- the running sums over the members before place p
  unfoldable pub sums_up_to : ℕ → Sums
  sums_up_to p = record { share = sum (shares share) p; draw = sum draws p }

module _ (key : KeyMeaning) (share : ℕ → Option ℕ) (left : ℕ → ℕ) where
  -- what the key promises to the members before place p
  unfoldable pub promised_up_to : ℕ → ℕ
  promised_up_to p = key (generated share left) (sums_up_to share left p) (sums_up_to share left drawing)

  unfoldable pub entitlement : ℕ → ℕ
  entitlement p = promised_up_to (suc p) - promised_up_to p

  unfoldable pub draw_settled : ℕ → ℕ
  draw_settled p = min (entitlement p) (draws share left p)

  -- what the drawing places settle together, U
  unfoldable pub used : ℕ
  used = sum draw_settled drawing

  -- the surplus P − U, cut over the feeds
  unfoldable pub feed_remaining : ℕ → ℕ
  feed_remaining i = part (generated share left - used) (feeds share left) (generated share left) i

  unfoldable pub feed_settled : ℕ → ℕ
  feed_settled i = feeds share left i - feed_remaining i

  -- at every place; who is no member settles 0 and keeps what it has left
  unfoldable pub settled : ℕ → ℕ
  settled p = cond (nat_lt p drawing) (draw_settled p) (feed_settled (p - drawing))

  unfoldable pub remaining : ℕ → ℕ
  remaining p =
      if_member (share p) (cond (nat_lt p drawing) (draws share left p - draw_settled p) (feed_remaining (p - drawing))) (left p)
