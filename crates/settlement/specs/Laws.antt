-- What every settlement of a quarter hour keeps. Assumes nothing.
use Rattle.std.specs.Prelude.{◌≡◌, ℕ, ◌+◌, ◌<◌, ◌≤◌, Option}
use Rattle.quantities.specs.Limits.{drawing, feeding, places}
use Rattle.quantities.specs.Sums.{sum}
use Rattle.keys.specs.Keys.{KeyMeaning, KeyLaw}
use Rattle.settlement.specs.Quarter.{generated, entitlement, settled, remaining}

-- no watt hour is made or lost: by place, what was left, what is settled and what remains
pub record Conserves (left settled remaining : ℕ → ℕ) : Type 0 where
  -- what a place has left below is what it settles plus what remains
  pub whole : (p : ℕ) → p < places → settled p + remaining p ≡ left p
  -- nothing settled or remaining exceeds what was there
  pub settled_within : (p : ℕ) → p < places → settled p ≤ left p
  pub remaining_within : (p : ℕ) → p < places → remaining p ≤ left p
  -- the drawing places settle together what the feeding places settle
  pub equal : sum settled drawing ≡ sum (λ i. settled (drawing + i)) feeding

-- under every lawful key, whatever the members and what they have left:
-- nobody is entitled to what is not there, nobody settles above its entitlement, and nothing is made or lost
pub record SettlementLaws : Type 0 where
  pub entitled : (key : KeyMeaning) → KeyLaw key → (share : ℕ → Option ℕ) (left : ℕ → ℕ) → sum (entitlement key share left) drawing ≤ generated share left
  pub drawn : (key : KeyMeaning) → KeyLaw key → (share : ℕ → Option ℕ) (left : ℕ → ℕ) (p : ℕ) → p < drawing → settled key share left p ≤ entitlement key share left p
  pub conserves : (key : KeyMeaning) → KeyLaw key → (share : ℕ → Option ℕ) (left : ℕ → ℕ) → Conserves left (settled key share left) (remaining key share left)
