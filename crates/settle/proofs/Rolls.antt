-- The members by the calls of the two communities, computed. Assumes nothing.
use Rattle.std.proofs.Common.{◌≡◌, ℕ, List, [], ◌∷◌, Option, refl, ap, ◌∙◌}
use Rattle.register.specs.Calls.{empty_rows}
use Rattle.register.specs.Shares.{shares_on}
use Rattle.register.specs.declared.entry.Entry.{Entry}
use Rattle.register.specs.declared.entry.Entry.TheVariants.{Start, Change, End}
use Rattle.settle.specs.Filled.{entered, lower_members, members_by, profile_day, upper_members}
use Rattle.settle.specs.declared.membership.Call.{Call}

abbrev call : ℕ → Entry → Call
call place entry = record { place = place; entry = entry }

pub lower_members_lem : members_by (call 0 (Start 1096 500000) ∷ (call 1 (Start 1096 300000) ∷ (call 5 (Start 1096 300000) ∷ (call 48 (Start 1096 0) ∷ (call 5 (End 1276) ∷ (call 5 (Start 1276 200000) ∷ (call 0 (Change 1277 400000) ∷ (call 2 (Start 1277 200000) ∷ [])))))))) ≡ lower_members
unfolding members_by
lower_members_lem = refl

pub upper_members_lem : members_by (call 3 (Start 1277 0) ∷ (call 4 (Start 1277 0) ∷ (call 48 (Start 1277 0) ∷ (call 49 (Start 1277 500000) ∷ (call 49 (Start 1277 0) ∷ []))))) ≡ upper_members
unfolding members_by
upper_members_lem = refl

-- a register that the calls have filled has the members by these calls
pub filled : (calls : List Call) (rows : List (List Entry)) (members : List (Option ℕ)) → rows ≡ entered empty_rows calls → members_by calls ≡ members → shares_on rows profile_day ≡ members
unfolding members_by
filled calls rows members e h = ap (λ table. shares_on table profile_day) e ∙ h
