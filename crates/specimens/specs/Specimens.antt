-- Worked examples: one list for the whole project. Assumes nothing.
use Rattle.std.specs.Prelude.{◌≡◌, ℕ, ◌-◌, cond, List, [], ◌∷◌, Some, None, Ok, Err, Option, nat_lt, slice_index, slice_index_or}
use Rattle.quantities.specs.Limits.{drawing}
use Rattle.quantities.specs.Refusals.{number}
use Rattle.quantities.specs.declared.refusal.Refusal.TheVariants.{DoesNotFollow}
use Rattle.keys.specs.Keys.{static, dynamic}
use Rattle.settlement.specs.Quarter.{entitlement, settled, remaining}
use Rattle.register.specs.declared.entry.Entry.{Entry}
use Rattle.register.specs.declared.entry.Entry.TheVariants.{Start, End}
use Rattle.register.specs.Calls.{answer, empty_rows, later}
use Rattle.register.specs.Shares.{corrected_answer, share_answer, total_answer}

-- members by their shares: those of the drawing places from 0 on, then those of the feeding places from 48 on
abbrev pub shares_of : List (Option ℕ) → List (Option ℕ) → ℕ → Option ℕ
shares_of drawers feeders p = cond (nat_lt p drawing) (slice_index_or drawers p None) (slice_index_or feeders (p - drawing) None)

-- what those places have left
abbrev pub amounts_of : List ℕ → List ℕ → ℕ → ℕ
amounts_of drawn fed p = cond (nat_lt p drawing) (slice_index drawn p) (slice_index fed (p - drawing))

-- A quarter hour in two communities. The lower one divides by shares of 40, 30 and 20 percent what place 48 feeds.
-- The upper one divides by draws what place 48 has left then and what place 49 feeds.
abbrev pub lower_shares : ℕ → Option ℕ
lower_shares = shares_of (Some 400000 ∷ Some 300000 ∷ Some 200000 ∷ []) (Some 0 ∷ [])

abbrev pub readings : ℕ → ℕ
readings = amounts_of (40000 ∷ 29000 ∷ 19000 ∷ 26000 ∷ 13000 ∷ []) (55000 ∷ 82000 ∷ [])

abbrev pub upper_shares : ℕ → Option ℕ
upper_shares = shares_of (None ∷ None ∷ None ∷ Some 0 ∷ Some 0 ∷ []) (Some 0 ∷ Some 0 ∷ [])

abbrev pub left_by_lower : ℕ → ℕ
left_by_lower = remaining static lower_shares readings

pub record TwoCommunities : Type 0 where
  pub lower_first : settled static lower_shares readings 0 ≡ 22000
  pub lower_second : settled static lower_shares readings 1 ≡ 16500
  pub lower_third : settled static lower_shares readings 2 ≡ 11000
  pub lower_feed : left_by_lower 48 ≡ 5500
  pub upper_first : settled dynamic upper_shares left_by_lower 3 ≡ 26000
  pub upper_second : settled dynamic upper_shares left_by_lower 4 ≡ 13000
  pub upper_low_feed : remaining dynamic upper_shares left_by_lower 48 ≡ 3048
  pub upper_high_feed : remaining dynamic upper_shares left_by_lower 49 ≡ 45452

-- shares of 107 percent together: the entitlements still add up to the generation of 1,000, and the corrected shares
-- are those of a register in which these members start on day 0
abbrev pub overfull_shares : ℕ → Option ℕ
overfull_shares = shares_of (Some 600000 ∷ Some 100000 ∷ Some 370000 ∷ []) (Some 0 ∷ [])

abbrev pub overfull_amounts : ℕ → ℕ
overfull_amounts = amounts_of [] (1000 ∷ [])

abbrev pub overfull_rows : List (List Entry)
overfull_rows = later (later (later empty_rows 0 (Start 0 600000)) 1 (Start 0 100000)) 2 (Start 0 370000)

pub record Overfull : Type 0 where
  pub first : entitlement static overfull_shares overfull_amounts 0 ≡ 560
  pub second : entitlement static overfull_shares overfull_amounts 1 ≡ 94
  pub third : entitlement static overfull_shares overfull_amounts 2 ≡ 346
  pub total : total_answer overfull_rows 0 ≡ Ok 1070000
  pub first_share : corrected_answer overfull_rows 0 0 ≡ Ok (Some 560748)
  pub second_share : corrected_answer overfull_rows 1 0 ≡ Ok (Some 93458)
  pub third_share : corrected_answer overfull_rows 2 0 ≡ Ok (Some 345794)

-- halves of a generation of 100: one member draws less than its half, the other more; what the first leaves is not passed on
abbrev pub half_shares : ℕ → Option ℕ
half_shares = shares_of (Some 500000 ∷ Some 500000 ∷ []) (Some 0 ∷ [])

abbrev pub half_amounts : ℕ → ℕ
half_amounts = amounts_of (20 ∷ 80 ∷ []) (100 ∷ [])

pub record Halves : Type 0 where
  pub first : settled static half_shares half_amounts 0 ≡ 20
  pub second : settled static half_shares half_amounts 1 ≡ 50
  pub feed : remaining static half_shares half_amounts 48 ≡ 30

-- a member from day 100 to day 120: the last day counts, and the next membership starts after it
abbrev pub ended_rows : List (List Entry)
ended_rows = later (later empty_rows 0 (Start 100 500000)) 0 (End 120)

pub record LastDay : Type 0 where
  pub last_day : share_answer ended_rows 0 120 ≡ Ok (Some 500000)
  pub day_after : share_answer ended_rows 0 121 ≡ Ok None
  pub start_too_early : answer ended_rows 0 (Start 120 500000) ≡ Err DoesNotFollow
  pub start_refused_with : number DoesNotFollow ≡ 8
  pub start_again : answer ended_rows 0 (Start 121 500000) ≡ Ok tt

-- the list
pub record Specimens : Type 0 where
  pub two_communities : TwoCommunities
  pub overfull : Overfull
  pub halves : Halves
  pub last_day : LastDay
