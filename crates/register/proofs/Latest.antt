-- The share on a day is found by going back from the last entry. Assumes nothing.
use Rattle.std.proofs.Common.{◌≡◌, ℕ, Bool, true, false, cond, not, ◌||◌, List, [], ◌∷◌, ◌++◌, is_some, Some, None, sym, refl, ap, ◌∙◌, append_assoc, arith}
use Rattle.std.proofs.lemmas.Bool.Decides.{nat_tests}
use Rattle.std.specs.Bool.{then_some}
use Rattle.register.specs.Shares.{any_set_by, ended, set_by, share_on}
use Rattle.register.specs.declared.entry.Entry.{Entry}

when_not : (b : Bool) (x : ℕ) → then_some (not b) x ≡ cond b None (Some x)
when_not true x = refl
when_not false x = refl

-- an entry that sets a share by the day, with others before it
any_here : (es : List Entry) (e : Entry) (later : List Entry) (day share : ℕ) → set_by day e ≡ Some share → any_set_by day (es ++ e ∷ later) ≡ true
any_here [] e later day share sets = ap (λ o. is_some o || any_set_by day later) sets
any_here (x ∷ es) e later day share sets = let ih = any_here es e later day share sets in grind (arith, nat_tests)

-- the last one that does
pub share_found : (es : List Entry) (e : Entry) (later : List Entry) (day share : ℕ) → set_by day e ≡ Some share → any_set_by day later ≡ false → share_on (es ++ e ∷ later) day ≡ cond (ended day later) None (Some share)
share_found [] e later day share sets none =
    ap (λ b. cond b (share_on later day) (cond (ended day later) None (set_by day e))) none ∙ ap (λ o. cond (ended day later) None o) sets
share_found (x ∷ es) e later day share sets none =
    ap (λ b. cond b (share_on (es ++ e ∷ later) day) (cond (ended day (es ++ e ∷ later)) None (set_by day x))) (any_here es e later day share sets)
    ∙ share_found es e later day share sets none

-- a loop that goes back through a row has these entries left; those after them set no share by the day
pub record Back (row left : List Entry) (day : ℕ) (over : Bool) : Type 0 where
  pub later : List Entry
  pub split : row ≡ left ++ later
  pub none : any_set_by day later ≡ false
  pub ends : over ≡ ended day later

module _ (row left before : List Entry) (e : Entry) (day : ℕ) (over : Bool) (back : Back row left day over) (last : left ≡ before ++ e ∷ []) where
  split : row ≡ before ++ (e ∷ back.later)
  split = back.split ∙ ap (λ es. es ++ back.later) last ∙ append_assoc before (e ∷ []) back.later

  pub back_found : (share : ℕ) → Some share ≡ set_by day e → then_some (not over) share ≡ share_on row day
  back_found share sets =
      when_not over share
      ∙ ap (λ b. cond b None (Some share)) back.ends
      ∙ sym (share_found before e back.later day share (sym sets) back.none)
      ∙ sym (ap (λ es. share_on es day) split)
