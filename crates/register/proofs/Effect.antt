-- An entry that follows on a row brings its share while it is in effect. Assumes nothing.
use Rattle.std.proofs.Common.{◌≡◌, ℕ, ◌<◌, ◌≤◌, true, false, cond, ◌||◌, ltb, leb, List, [], ◌∷◌, ◌++◌, is_some, Some, None, sym, refl, ap, ◌∙◌, ⊎_elim, arith}
use Rattle.std.proofs.Math.Bool.{or-false, or-true}
use Rattle.std.proofs.lemmas.Bool.{cases_Bool, or_right, ltb-true, leb-true, true≢false}
use Rattle.std.proofs.lemmas.Bool.Decides.{nat_tests}
use Rattle.register.specs.Effects.{TakesEffect}
use Rattle.register.specs.Rows.{after, follows, stands, standing_from}
use Rattle.register.specs.Shares.{any_set_by, ended, set_by, share_on}
use Rattle.register.specs.declared.entry.Entry.{Entry}
use Rattle.register.specs.declared.entry.Entry.TheVariants.{Start, Change, End}
use Rattle.register.specs.declared.entry.Standing.{Standing}
use Rattle.register.specs.declared.entry.Standing.TheVariants.{Empty, Open, Ended}

pub any_push : (es : List Entry) (e : Entry) (day : ℕ) → any_set_by day (es ++ e ∷ []) ≡ (any_set_by day es || is_some (set_by day e))
any_push [] e day = grind (arith, nat_tests)
any_push (x ∷ es) e day = let ih = any_push es e day in grind (arith, nat_tests)

pub ended_push : (es : List Entry) (e : Entry) (day : ℕ) → ended day (e ∷ []) ≡ false → ended day (es ++ e ∷ []) ≡ ended day es
ended_push [] e day h = h
ended_push (Start since share ∷ es) e day h = refl
ended_push (Change since share ∷ es) e day h = refl
ended_push (End last ∷ es) e day h = refl

-- not in effect: as before
pub share_before : (es : List Entry) (e : Entry) (day : ℕ) → set_by day e ≡ None → ended day (e ∷ []) ≡ false → share_on (es ++ e ∷ []) day ≡ share_on es day
share_before [] e day none free = none
share_before (x ∷ es) e day none free =
    let any : any_set_by day (es ++ e ∷ []) ≡ any_set_by day es = any_push es e day ∙ (ap (λ o. any_set_by day es || is_some o) none ∙ or-false (any_set_by day es)) in
    let ih = share_before es e day none free in
    let end = ended_push es e day free in
    ap (λ b. cond b (share_on (es ++ e ∷ []) day) (cond (ended day (es ++ e ∷ [])) None (set_by day x))) any
    ∙ (ap (λ o. cond (any_set_by day es) o (cond (ended day (es ++ e ∷ [])) None (set_by day x))) ih
    ∙ ap (λ b. cond (any_set_by day es) (share_on es day) (cond b None (set_by day x))) end)

-- a start or change in effect: its share
pub share_set : (es : List Entry) (e : Entry) (day share : ℕ) → set_by day e ≡ Some share → share_on (es ++ e ∷ []) day ≡ Some share
share_set [] e day share h = h
share_set (x ∷ es) e day share h =
    let any : any_set_by day (es ++ e ∷ []) ≡ true = any_push es e day ∙ (ap (λ o. any_set_by day es || is_some o) h ∙ or-true (any_set_by day es)) in
    ap (λ b. cond b (share_on (es ++ e ∷ []) day) (cond (ended day (es ++ e ∷ [])) None (set_by day x))) any ∙ share_set es e day share h

-- an open row has a start or change dated as early as its last
pub any_open : (x : Entry) (es : List Entry) (last day : ℕ) → standing_from (after x) es ≡ Open last → last ≤ day → any_set_by day (x ∷ es) ≡ true
any_open (Start since share) [] last day e h = let same : since ≡ last = cc in grind (arith, nat_tests)
any_open (Change since share) [] last day e h = let same : since ≡ last = cc in grind (arith, nat_tests)
any_open (End z) [] last day e h = let z : ◌≡◌ {A = ℕ} 0 1 = cc in absurd (omega arith)
any_open x (y ∷ es) last day e h = or_right (is_some (set_by day x)) (any_set_by day (y ∷ es)) (any_open y es last day e h)

-- an end in effect: none
pub closed : (x : Entry) (es : List Entry) (last z day : ℕ) → standing_from (after x) es ≡ Open last → last ≤ z → z < day → share_on ((x ∷ es) ++ End z ∷ []) day ≡ None
closed x [] last z day e low high = grind (arith, nat_tests)
closed x (y ∷ es) last z day e low high =
    let some : any_set_by day (y ∷ es) ≡ true = any_open y es last day e (omega arith) in
    let any : any_set_by day ((y ∷ es) ++ End z ∷ []) ≡ true = any_push (y ∷ es) (End z) day ∙ (or-false (any_set_by day (y ∷ es)) ∙ some) in
    ap (λ b. cond b (share_on ((y ∷ es) ++ End z ∷ []) day) (cond (ended day ((y ∷ es) ++ End z ∷ [])) None (set_by day x))) any ∙ closed y es last z day e low high

-- an end follows on an open row alone
pub record OpenBy (s : Standing) (day : ℕ) : Type 0 where
  pub since : ℕ
  pub open-since : s ≡ Open since
  pub by : since ≤ day

pub end_follows : (s : Standing) (z : ℕ) → follows s (End z) ≡ true → OpenBy s z
end_follows Empty z h = absurd (true≢false (sym h))
end_follows (Open last) z h = record { since = last; open-since = refl; by = leb-true last z h }
end_follows (Ended last) z h = absurd (true≢false (sym h))

dated : (es : List Entry) (e : Entry) (since day share : ℕ) → ended day (e ∷ []) ≡ false → set_by day e ≡ cond (leb since day) (Some share) None → share_on (es ++ e ∷ []) day ≡ cond (leb since day) (Some share) (share_on es day)
dated es e since day share free sets =
    ⊎_elim
    (λ yes-by. share_set es e day share (sets ∙ ap (λ b. cond b (Some share) None) yes-by) ∙ sym (ap (λ b. cond b (Some share) (share_on es day)) yes-by))
    (λ not-by. share_before es e day (sets ∙ ap (λ b. cond b (Some share) None) not-by) free ∙ sym (ap (λ b. cond b (Some share) (share_on es day)) not-by))
    (cases_Bool (leb since day))

pub takes_effect : (es : List Entry) (e : Entry) → follows (stands es) e ≡ true → TakesEffect e es (es ++ e ∷ [])
takes_effect es (Start since share) h day = dated es (Start since share) since day share refl refl
takes_effect es (Change since share) h day = dated es (Change since share) since day share refl refl
takes_effect [] (End z) h day = absurd (true≢false (sym h))
takes_effect (x ∷ es) (End z) h day =
    let at = end_follows (stands (x ∷ es)) z h in
    ⊎_elim
    (λ past. closed x es at.since z day at.open-since at.by (ltb-true z day past) ∙ sym (ap (λ b. cond b None (share_on (x ∷ es) day)) past))
    (λ by. share_before (x ∷ es) (End z) day refl by ∙ sym (ap (λ b. cond b None (share_on (x ∷ es) day)) by))
    (cases_Bool (ltb z day))
