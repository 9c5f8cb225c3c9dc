-- Bounds on the share of a place, and what a chain over rows adds up on a day. Assumes nothing.
use Rattle.std.proofs.Common.{◌≡◌, ℕ, ◌+◌, ◌^◌, ◌<◌, ◌≤◌, true, cond, ltb, leb, List, [], ◌∷◌, Some, None, Option, get_or, take, sum, sym, ap, ◌∙◌, refl, arith}
use Rattle.std.proofs.lemmas.Bool.{cond_both}
use Rattle.std.proofs.lemmas.Bool.Decides.{nat_tests}
use Rattle.std.proofs.lemmas.List.Sums.{sum_by-cons, sum_by-take-le}
use Rattle.std.specs.List.{cons_option, filter_map, sum_by}
use Rattle.quantities.proofs.Chains.{sum_by_all, sum_by_first}
use Rattle.quantities.proofs.Sums.{sum_bound, sum_same}
use Rattle.quantities.specs.Limits.{drawing, places, whole_share}
use Rattle.quantities.specs.Optional.{or_zero}
use Rattle.register.specs.Calls.{rows_of}
use Rattle.register.specs.Rows.{after, entries, lawful, most_share, ordered_from, share_of}
use Rattle.register.specs.Shares.{any_set_by, counts_with, ended, set_by, share_on, total}
use Rattle.register.specs.declared.entry.Entry.{Entry}
use Rattle.register.specs.declared.entry.Entry.TheVariants.{Start, Change, End}
use Rattle.register.specs.declared.register.Register.{Register}
use Rattle.register.specs.declared.row.Row.{Row}
use Rattle.register.specs.declared.entry.Standing.{Standing}
use Rattle.register.specs.declared.entry.Standing.TheVariants.{Empty}
use Rattle.register.proofs.Held.{no_row, row_is}

set_most : (day : ℕ) (e : Entry) → or_zero (set_by day e) ≤ share_of e
set_most day (Start since share) = cond_both (leb since day) (Some share) None (λ o. or_zero o ≤ share) (λ h. omega arith) (λ h. omega arith)
set_most day (Change since share) = cond_both (leb since day) (Some share) None (λ o. or_zero o ≤ share) (λ h. omega arith) (λ h. omega arith)
set_most day (End last) = omega arith

share_most : (place : ℕ) (s : Standing) (es : List Entry) (day : ℕ) → ordered_from place s es ≡ true → or_zero (share_on es day) ≤ most_share place
share_most place s [] day h = omega arith
share_most place s (e ∷ es) day h =
    let rest : ordered_from place (after e) es ≡ true = grind (arith, nat_tests) in
    let here : share_of e ≤ most_share place = grind (arith, nat_tests) in
    let ih = share_most place (after e) es day rest in
    let own = set_most day e in
    cond_both (any_set_by day es) (share_on es day) (cond (ended day es) None (set_by day e)) (λ o. or_zero o ≤ most_share place)
    (λ _. ih)
    (λ _. cond_both (ended day es) None (set_by day e) (λ o. or_zero o ≤ most_share place) (λ _. omega arith) (λ _. omega arith))

-- the share of a lawful row is at most the whole
pub lawful_most : (place : ℕ) (es : List Entry) (day : ℕ) → lawful place es ≡ true → or_zero (share_on es day) ≤ whole_share
lawful_most place es day h =
    let order : ordered_from place Empty es ≡ true = grind (arith, nat_tests) in
    let most : most_share place ≤ whole_share = cond_both (ltb place drawing) whole_share 0 (λ n. n ≤ whole_share) (λ _. omega arith) (λ _. omega arith) in
    omega (arith, share_most place Empty es day order)

-- what a row counts with on a day
abbrev counts : ℕ → Row → ℕ
counts day row = or_zero (share_on (entries row) day)

sum-filter_map : {A : Type 0} (f : A → Option ℕ) (xs : List A) → sum (filter_map f xs) ≡ sum_by (λ x. or_zero (f x)) xs
sum-filter_map f [] = refl
sum-filter_map f (x ∷ xs) = step (f x) (filter_map f xs)
    ∙ ap (λ n. or_zero (f x) + n) (sum-filter_map f xs)
    ∙ sym (sum_by-cons (λ x. or_zero (f x)) x xs)
  where
    step : (o : Option ℕ) (ns : List ℕ) → sum (cons_option o ns) ≡ or_zero o + sum ns
    step None ns = omega arith
    step (Some n) ns = sum_by-cons (λ x. x) n ns

module _ (register : Register) (day : ℕ) where
  row_counts : (k : ℕ) → k < places → counts day (get_or register.rows k no_row) ≡ counts_with (rows_of register) day k
  row_counts k low = ap (λ es. or_zero (share_on es day)) (row_is register.rows k no_row (omega (arith, register.whole)))

  -- what the drawing rows' shares add up to
  pub total_by_rows : sum (filter_map (λ row. share_on (entries row) day) (take drawing register.rows)) ≡ total (rows_of register) day
  total_by_rows =
      sum-filter_map _ (take drawing register.rows)
      ∙ sum_by_first (counts day) register.rows no_row drawing (omega (arith, register.whole))
      ∙ sum_same _ _ drawing (λ k low. row_counts k (omega arith))

  -- those of the first rows fit 32 bits
  pub first_fit : (n : ℕ) → sum (filter_map (λ row. share_on (entries row) day) (take n register.rows)) < 2 ^ 32
  first_fit n =
      let each : (k : ℕ) → k < places → counts day (get_or register.rows k no_row) ≤ whole_share = λ k low. lawful_most k (entries (get_or register.rows k no_row)) day (register.order k no_row (omega (arith, register.whole))) in
      omega (
        arith,
        sum-filter_map (λ row. share_on (entries row) day) (take n register.rows),
        sum_by-take-le (counts day) register.rows n,
        sum_by_all (counts day) register.rows no_row places register.whole,
        sum_bound (λ k. counts day (get_or register.rows k no_row)) whole_share places each,
      )
