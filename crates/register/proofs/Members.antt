-- A row falls into memberships. Assumes nothing.
use Rattle.std.proofs.Common.{◌≡◌, ℕ, ◌<◌, ◌≤◌, true, List, [], ◌∷◌, ◌++◌, length, Some, None, Option, sym, refl, ap, ◌∙◌, subst, append_assoc, arith}
use Rattle.std.proofs.ByRecursion.{All-weaker}
use Rattle.std.proofs.lemmas.Bool.{leb-true, ltb-true, true≢false}
use Rattle.std.proofs.lemmas.Bool.Decides.{nat_tests}
use Rattle.std.specs.List.{flat_map, AllByRecursion}
use Rattle.quantities.specs.Limits.{places}
use Rattle.register.specs.Calls.{row_of, rows_of}
use Rattle.register.specs.Memberships.{Apart, Ascending, EndedBefore, InOrder, Includes, Membership, MembershipsOf, changing, ending, share_in, written}
use Rattle.register.specs.Rows.{after, follows, lawful, ordered_from}
use Rattle.register.specs.Shares.{share_on}
use Rattle.register.specs.declared.entry.Entry.{Entry}
use Rattle.register.specs.declared.entry.Entry.TheVariants.{Start, Change, End}
use Rattle.register.specs.declared.entry.Standing.{Standing}
use Rattle.register.specs.declared.entry.Standing.TheVariants.{Empty, Open, Ended}
use Rattle.register.specs.declared.register.Register.{Register}
use Rattle.register.proofs.Held.{no_row, row_is}
use Rattle.register.proofs.Days.{inside, outside}
use Rattle.register.proofs.History.{history, share_history}

-- no membership is open: neither a change nor an end comes before the next start
record Between (changes : List (ℕ × ℕ)) (last : Option ℕ) : Type 0 where
  pub no_changes : changes ≡ []
  pub no_end : last ≡ None

-- what a row's further entries say of the membership that it stands in
abbrev Goes_on : Standing → List (ℕ × ℕ) → Option ℕ → List Membership → Type 0
Goes_on Empty changes last later = Between changes last
Goes_on (Open day) changes last later = Ascending day changes last × EndedBefore last later
Goes_on (Ended day) changes last later = Between changes last × EndedBefore (Some day) later

between : Between [] None
between = record { no_changes = refl; no_end = refl }

only_later : (changes : List (ℕ × ℕ)) (last : Option ℕ) (later : List Membership) → Between changes last → changing changes ++ (ending last ++ flat_map written later) ≡ flat_map written later
only_later changes last later none =
    ap (λ cs. changing cs ++ (ending last ++ flat_map written later)) none.no_changes
    ∙ ap (λ o. ending o ++ flat_map written later) none.no_end

record Rest (s : Standing) (es : List Entry) : Type 0 where
  pub changes : List (ℕ × ℕ)
  pub last : Option ℕ
  pub later : List Membership
  pub splits : es ≡ changing changes ++ (ending last ++ flat_map written later)
  pub goes_on : Goes_on s changes last later
  pub in_order : AllByRecursion InOrder later
  pub apart : Apart later

-- a start begins a membership, to which the changes and the end after it belong
starts : (s : Standing) (day share : ℕ) (es : List Entry) → ((later : List Membership) (m : Membership) → m.first ≡ day → Goes_on s [] None (m ∷ later)) → Rest (Open day) es → Rest s (Start day share ∷ es)
starts s day share es on rest =
    let m : Membership = record { first = day; share = share; changes = rest.changes; last = rest.last } in
    record {
      changes = [];
      last = None;
      later = m ∷ rest.later;
      splits = ap (λ l. Start day share ∷ l) (rest.splits ∙ sym (append_assoc (changing rest.changes) (ending rest.last) (flat_map written rest.later)));
      goes_on = on rest.later m refl;
      in_order = (rest.goes_on.0, rest.in_order);
      apart = (rest.goes_on.1, rest.apart);
    }

changes_on : (before day share : ℕ) (es : List Entry) → before < day → Rest (Open day) es → Rest (Open before) (Change day share ∷ es)
changes_on before day share es low rest =
    record {
      changes = (day, share) ∷ rest.changes;
      last = rest.last;
      later = rest.later;
      splits = ap (λ l. Change day share ∷ l) rest.splits;
      goes_on = ((low, rest.goes_on.0), rest.goes_on.1);
      in_order = rest.in_order;
      apart = rest.apart;
    }

ends_on : (before day : ℕ) (es : List Entry) → before ≤ day → Rest (Ended day) es → Rest (Open before) (End day ∷ es)
ends_on before day es low rest =
    record {
      changes = [];
      last = Some day;
      later = rest.later;
      splits = ap (λ l. End day ∷ l) (rest.splits ∙ only_later rest.changes rest.last rest.later rest.goes_on.0);
      goes_on = (low, rest.goes_on.1);
      in_order = rest.in_order;
      apart = rest.apart;
    }

-- the memberships of a row, from a standing on
rest_of : (place : ℕ) (s : Standing) (es : List Entry) → ordered_from place s es ≡ true → Rest s es
rest_of place Empty [] h = record { changes = []; last = None; later = []; splits = refl; goes_on = between; in_order = tt; apart = tt }
rest_of place (Open day) [] h = record { changes = []; last = None; later = []; splits = refl; goes_on = (tt, tt); in_order = tt; apart = tt }
rest_of place (Ended day) [] h = record { changes = []; last = None; later = []; splits = refl; goes_on = (between, tt); in_order = tt; apart = tt }
rest_of place s (e ∷ es) h =
    let next : follows s e ≡ true = grind (arith, nat_tests) in
    let rest : ordered_from place (after e) es ≡ true = grind (arith, nat_tests) in
    step s e next (rest_of place (after e) es rest)
  where
    step : (s : Standing) (e : Entry) → follows s e ≡ true → Rest (after e) es → Rest s (e ∷ es)
    step Empty (Start day share) f r = starts Empty day share es (λ later m e. between) r
    step Empty (Change day share) f r = absurd (true≢false (sym f))
    step Empty (End day) f r = absurd (true≢false (sym f))
    step (Open before) (Start day share) f r = absurd (true≢false (sym f))
    step (Open before) (Change day share) f r = changes_on before day share es (ltb-true before day f) r
    step (Open before) (End day) f r = ends_on before day es (leb-true before day f) r
    step (Ended before) (Start day share) f r = starts (Ended before) day share es (λ later m e. (between, omega (arith, ltb-true before day f))) r
    step (Ended before) (Change day share) f r = absurd (true≢false (sym f))
    step (Ended before) (End day) f r = absurd (true≢false (sym f))

-- a lawful row falls into memberships
pub memberships_of : (place : ℕ) (row : List Entry) → lawful place row ≡ true → MembershipsOf row
memberships_of place row h =
    let order : ordered_from place Empty row ≡ true = grind (arith, nat_tests) in
    let rest = rest_of place Empty row order in
    let is : row ≡ flat_map written rest.later =
    rest.splits ∙ only_later rest.changes rest.last rest.later rest.goes_on in
    let told : (day : ℕ) → share_on row day ≡ history day None (flat_map written rest.later) = λ day. share_history place row day order ∙ ap (history day None) is in (
      rest.later,
      record {
        entries = is;
        in_order = rest.in_order;
        apart = rest.apart;
        inside = λ day. All-weaker (λ m. Includes m day → history day None (flat_map written rest.later) ≡ Some (share_in m day)) (λ m. Includes m day → share_on row day ≡ Some (share_in m day)) (λ m h i. told day ∙ h i) rest.later (inside day rest.later rest.in_order rest.apart);
        outside = λ day none. told day ∙ outside day rest.later rest.in_order rest.apart none;
      },
    )

-- so does each row of a register
pub memberships_in : (register : Register) (place : ℕ) → place < places → MembershipsOf (row_of (rows_of register) place)
memberships_in register place low =
    let inside : place < length register.rows = omega (arith, register.whole) in
    subst MembershipsOf (row_is register.rows place no_row inside) (memberships_of place _ (register.order place no_row inside))
