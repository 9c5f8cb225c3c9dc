-- In a lawful row the share on a day is what the entries in effect by then leave. Assumes nothing.
use Rattle.std.proofs.Common.{◌≡◌, ℕ, true, cond, List, [], ◌∷◌, ◌++◌, None, Option, sym, refl, ap, ◌∙◌, append_assoc, arith}
use Rattle.std.proofs.lemmas.List.{append-nil}
use Rattle.std.proofs.lemmas.Bool.Decides.{nat_tests}
use Rattle.register.specs.Effects.{brings, in_effect}
use Rattle.register.specs.Rows.{after, follows, ordered_from, stands}
use Rattle.register.specs.Shares.{share_on}
use Rattle.register.specs.declared.entry.Entry.{Entry}
use Rattle.register.specs.declared.entry.Standing.TheVariants.{Empty}
use Rattle.register.proofs.Effect.{takes_effect}
use Rattle.register.proofs.Order.{stands_push}

-- what the entries in effect on a day leave of what was held, taken in order
abbrev pub history : ℕ → Option ℕ → List Entry → Option ℕ
history day held [] = held
history day held (e ∷ es) = history day (cond (in_effect e day) (brings e) held) es

pub history_append : (day : ℕ) (held : Option ℕ) (xs ys : List Entry) → history day held (xs ++ ys) ≡ history day (history day held xs) ys
history_append day held [] ys = refl
history_append day held (x ∷ xs) ys = history_append day (cond (in_effect x day) (brings x) held) xs ys

history_from : (place : ℕ) (pre es : List Entry) (day : ℕ) → ordered_from place (stands pre) es ≡ true → share_on (pre ++ es) day ≡ history day (share_on pre day) es
history_from place pre [] day h = ap (λ l. share_on l day) (append-nil pre)
history_from place pre (e ∷ es) day h =
    let next : follows (stands pre) e ≡ true = grind (arith, nat_tests) in
    let rest : ordered_from place (after e) es ≡ true = grind (arith, nat_tests) in
    let rest-on : ordered_from place (stands (pre ++ e ∷ [])) es ≡ true = ap (λ s. ordered_from place s es) (stands_push pre e) ∙ rest in
    ap (λ l. share_on l day) (sym (append_assoc pre (e ∷ []) es))
    ∙ (history_from place (pre ++ e ∷ []) es day rest-on
    ∙ ap (λ o. history day o es) (takes_effect pre e next day))

pub share_history : (place : ℕ) (es : List Entry) (day : ℕ) → ordered_from place Empty es ≡ true → share_on es day ≡ history day None es
share_history place es day h = history_from place [] es day h
