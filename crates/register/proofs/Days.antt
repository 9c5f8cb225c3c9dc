-- What memberships leave on a day. Assumes nothing.
use Rattle.std.proofs.Common.{◌≡◌, ℕ, ◌<◌, ◌≤◌, Bool, true, false, cond, leb, List, [], ◌∷◌, ◌++◌, Some, None, Option, refl, ap, ◌∙◌, ⊎_elim, arith}
use Rattle.std.proofs.ByRecursion.{All-weaker}
use Rattle.std.proofs.lemmas.Bool.{cases_lt, le-leb, le-ltb, lt-leb, lt-ltb}
use Rattle.std.specs.List.{flat_map, AllByRecursion}
use Rattle.register.specs.Memberships.{Apart, Ascending, EndedBefore, InOrder, Includes, Lasts, Membership, changing, ending, latest, share_in, written}
use Rattle.register.proofs.History.{history, history_append}

-- the days after a last one
abbrev Over : Option ℕ → ℕ → Type 0
Over None day = ⊥
Over (Some last) day = last < day

some_cond : (b : Bool) (x y : ℕ) → cond b (Some x) (Some y) ≡ Some (cond b x y)
some_cond true x y = refl
some_cond false x y = refl

changed : (day share : ℕ) (cs : List (ℕ × ℕ)) → history day (Some share) (changing cs) ≡ Some (latest day share cs)
changed day share [] = refl
changed day share (c ∷ cs) =
    ap (λ o. history day o (changing cs)) (some_cond (leb c.0 day) c.1 share)
    ∙ changed day (cond (leb c.0 day) c.1 share) cs

-- an end that is not yet in effect, and one that is
lasting : (day : ℕ) (held : Option ℕ) (last : Option ℕ) → Lasts last day → history day held (ending last) ≡ held
lasting day held None h = refl
lasting day held (Some last) h = ap (λ b. cond b None held) (le-ltb last day h)

over : (day : ℕ) (held : Option ℕ) (last : Option ℕ) → Over last day → history day held (ending last) ≡ None
over day held None h = absurd h
over day held (Some last) h = ap (λ b. cond b None held) (lt-ltb last day h)

-- a last day is not before the changes
lasts_by : (since day : ℕ) (cs : List (ℕ × ℕ)) (last : Option ℕ) → Ascending since cs last → day ≤ since → Lasts last day
lasts_by since day [] None up h = tt
lasts_by since day [] (Some last) up h = omega arith
lasts_by since day (c ∷ cs) last up h = lasts_by c.0 day cs last up.1 (omega (arith, up.0))

not_yet : (since day : ℕ) (held : Option ℕ) (cs : List (ℕ × ℕ)) (last : Option ℕ) → Ascending since cs last → day < since → history day held (changing cs ++ ending last) ≡ held
not_yet since day held [] last up h = lasting day held last (lasts_by since day [] last up (omega arith))
not_yet since day held (c ∷ cs) last up h =
    ap (λ b. history day (cond b (Some c.1) held) (changing cs ++ ending last)) (lt-leb c.0 day (omega (arith, up.0)))
    ∙ not_yet c.0 day held cs last up.1 (omega (arith, up.0))

-- a membership on a day before it, in it, and after it
module _ (m : Membership) (day : ℕ) (held : Option ℕ) where
  before_it : InOrder m → day < m.first → history day held (written m) ≡ held
  before_it up h =
      ap (λ b. history day (cond b (Some m.share) held) (changing m.changes ++ ending m.last)) (lt-leb m.first day h)
      ∙ not_yet m.first day held m.changes m.last up h

  in_it : Includes m day → history day held (written m) ≡ Some (share_in m day)
  in_it h =
      ap (λ b. history day (cond b (Some m.share) held) (changing m.changes ++ ending m.last)) (le-leb m.first day h.0)
      ∙ (history_append day (Some m.share) (changing m.changes) (ending m.last)
      ∙ (ap (λ o. history day o (ending m.last)) (changed day m.share m.changes)
      ∙ lasting day (Some (share_in m day)) m.last h.1))

  after_it : Over m.last day → history day held (written m) ≡ None
  after_it h =
      history_append day (cond (leb m.first day) (Some m.share) held) (changing m.changes) (ending m.last)
      ∙ over day (history day (cond (leb m.first day) (Some m.share) held) (changing m.changes)) m.last h

-- those that start after a last day start after each day up to it
starts_later : (day : ℕ) (last : Option ℕ) (ms : List Membership) → EndedBefore last ms → Lasts last day → EndedBefore (Some day) ms
starts_later day last [] apart h = tt
starts_later day None (m ∷ ms) apart h = absurd apart
starts_later day (Some last) (m ∷ ms) apart h = omega arith

-- memberships that all start after a day leave what was held
none_yet : (day : ℕ) (held : Option ℕ) (ms : List Membership) → EndedBefore (Some day) ms → AllByRecursion InOrder ms → Apart ms → history day held (flat_map written ms) ≡ held
none_yet day held [] h up apart = refl
none_yet day held (m ∷ ms) h up apart =
    history_append day held (written m) (flat_map written ms)
    ∙ (ap (λ o. history day o (flat_map written ms)) (before_it m day held up.0 h)
    ∙ none_yet day held ms (starts_later day m.last ms apart.0 (lasts_by m.first day m.changes m.last up.0 (omega arith))) up.1 apart.1)

-- once a membership has started, those before it are over
over_more : (last : Option ℕ) (n : Membership) (ms : List Membership) (day : ℕ) → EndedBefore last (n ∷ ms) → InOrder n → Over n.last day → Over last day
over_more None n ms day apart up h = absurd apart
over_more (Some last) n ms day apart up h = go n.last h (lasts_by n.first n.first n.changes n.last up (omega arith))
  where
    go : (z : Option ℕ) → Over z day → Lasts z n.first → last < day
    go None o l = absurd o
    go (Some z) o l = omega (arith, apart)

over_now : (last : Option ℕ) (n : Membership) (ms : List Membership) (day : ℕ) → EndedBefore last (n ∷ ms) → n.first ≤ day → Over last day
over_now None n ms day apart h = absurd apart
over_now (Some last) n ms day apart h = omega (arith, apart)

all_both : (P Q R : Membership → Type 0) → ((m : Membership) → P m → Q m → R m) → (ms : List Membership) → AllByRecursion P ms → AllByRecursion Q ms → AllByRecursion R ms
all_both P Q R f [] p q = tt
all_both P Q R f (m ∷ ms) p q = (f m p.0 q.0, all_both P Q R f ms p.1 q.1)

all_over : (last : Option ℕ) (ms : List Membership) (day : ℕ) → EndedBefore last ms → AllByRecursion InOrder ms → Apart ms → AllByRecursion (λ n. n.first ≤ day → Over last day) ms
all_over last [] day apart up aparts = tt
all_over last (n ∷ ms) day apart up aparts = (
  over_now last n ms day apart,
  All-weaker (λ k. k.first ≤ day → Over n.last day) (λ k. k.first ≤ day → Over last day) (λ k h l. over_more last n ms day apart up.0 (h l)) ms (all_over n.last ms day aparts.0 up.1 aparts.1),
)

-- a day that a membership includes has its share
pub inside : (day : ℕ) (ms : List Membership) → AllByRecursion InOrder ms → Apart ms → AllByRecursion (λ m. Includes m day → history day None (flat_map written ms) ≡ Some (share_in m day)) ms
inside day [] up apart = tt
inside day (m ∷ ms) up apart = (
  λ h. history_append day None (written m) (flat_map written ms)
      ∙ (ap (λ o. history day o (flat_map written ms)) (in_it m day None h)
      ∙ none_yet day (Some (share_in m day)) ms (starts_later day m.last ms apart.0 h.1) up.1 apart.1),
  all_both
      (λ n. Includes n day → history day None (flat_map written ms) ≡ Some (share_in n day))
      (λ n. n.first ≤ day → Over m.last day)
      (λ n. Includes n day → history day None (flat_map written (m ∷ ms)) ≡ Some (share_in n day))
      (λ n ih ended h.
      history_append day None (written m) (flat_map written ms)
      ∙ (ap (λ o. history day o (flat_map written ms)) (after_it m day None (ended h.0)) ∙ ih h))
      ms
      (inside day ms up.1 apart.1)
      (all_over m.last ms day apart.0 up.1 apart.1),
)

-- a membership that does not include a day from its first on is over by then
over_since : (last : Option ℕ) (day : ℕ) → (Lasts last day → ⊥) → Over last day
over_since None day h = h tt
over_since (Some last) day h = ⊎_elim (λ (l : last < day). l) (λ (l : day ≤ last). absurd (h l)) (cases_lt last day)

-- a day that none includes has no share
pub outside : (day : ℕ) (ms : List Membership) → AllByRecursion InOrder ms → Apart ms → AllByRecursion (λ m. Includes m day → ⊥) ms → history day None (flat_map written ms) ≡ None
outside day [] up apart none = refl
outside day (m ∷ ms) up apart none =
    ⊎_elim
    (λ (early : day < m.first). none_yet day None (m ∷ ms) early up apart)
    (λ (since : m.first ≤ day).
    history_append day None (written m) (flat_map written ms)
    ∙ (ap (λ o. history day o (flat_map written ms)) (after_it m day None (over_since m.last day (λ l. none.0 (since, l))))
    ∙ outside day ms up.1 apart.1 none.1))
    (cases_lt day m.first)
