-- The sums of a choice of users alone, name by name.
use Rattle.std.proofs.Common.{◌≡◌, ◌∙◌, ℕ, ◌+◌, ◌≤◌, Bool, true, false, cond, List, [], ◌∷◌, Option, Some, None, All, filter, sum_by, refl, sym, ap, arith}
use Rattle.std.proofs.lemmas.List.Elements.{All-head, All-tail}
use Rattle.std.proofs.lemmas.List.Sums.{sum_by-cons}
use Rattle.std.proofs.lemmas.Map.Text.{is_eq-slice_cmp}
use Rattle.std.proofs.lemmas.Slice.Eq.{bytes_eq-Decides}
use Rattle.std.specs.Cmp.Lexicographic.{slice_cmp}
use Rattle.std.specs.List.{list_any}
use Rattle.std.specs.Ordering.{is_eq, nat_cmp}
use Rattle.std.specs.Prelude.{◌&&◌, ◌||◌, IfSome, bytes_eq, not}
use Rattle.tally_clock.specs.Days.{seconds_between}
use Rattle.tally_records.specs.Choice.{is_name}
use Rattle.tally_records.specs.Period.{always}
use Rattle.tally_records.specs.declared.choice.LoginChoice.{LoginChoice}
use Rattle.tally_sessions.specs.Sums.{seconds_in, seconds_of_user, session_in, sessions_among}
use Rattle.tally_sessions.specs.declared.entry.Stay.{Stay}
use Rattle.tally_sessions.specs.declared.sums.Session.{Session}
use Rattle.tally_sessions.specs.inside.NamedUsers.{IsOfUsers, own_seconds, seconds_named, seconds_of_names}
use Rattle.tally_sessions.specs.inside.Totals.{counted, seconds_of}
use Rattle.tally_sessions.proofs.sums.Additive.{among_is, of_user_is, part_of}
use Rattle.tally_sessions.proofs.sums.EverySession.{HasLength, always_is}
use Rattle.tally_sessions.proofs.sums.NewNames.{AddsName}
use Rattle.tally_sessions.proofs.track.Names.{same_both_ways}

-- the length of a stay, where it is a session of a user of these names
abbrev part_named : List (Option (List ℕ)) → Stay → ℕ
part_named names s = cond (not s.is_boot && list_any (is_name s.user) names) s.length 0

-- the lengths of the stays that are kept
lengths_kept : (p : Stay → Bool) (stays : List Stay) → sum_by (λ (s : Stay). s.length) (filter p stays) ≡ sum_by (λ (s : Stay). cond (p s) s.length 0) stays
lengths_kept p [] = refl
lengths_kept p (s ∷ stays) = by (p s) (lengths_kept p stays) ∙ sym (sum_by-cons (λ (x : Stay). cond (p x) x.length 0) s stays)
  where
    kept : List Stay
    kept = filter p stays

    by : (b : Bool) → sum_by (λ (x : Stay). x.length) kept ≡ sum_by (λ (x : Stay). cond (p x) x.length 0) stays
        → sum_by (λ (x : Stay). x.length) (cond b (s ∷ kept) kept) ≡ cond b s.length 0 + sum_by (λ (x : Stay). cond (p x) x.length 0) stays
    by true rest = sum_by-cons (λ (x : Stay). x.length) s kept ∙ ap (λ n. s.length + n) rest
    by false rest = omega (arith, rest)

-- a number counts where one of two tests is true as it does for the first and for the second
parts_of_both : (boot a b c : Bool) (n : ℕ) → cond a 1 0 + cond b 1 0 ≡ cond c 1 0 → cond (not boot && c) n 0 ≡ cond (not boot && a) n 0 + cond (not boot && b) n 0
parts_of_both true a b c n h = omega arith
parts_of_both false true true true n h = absurd (omega (arith, h))
parts_of_both false true true false n h = absurd (omega (arith, h))
parts_of_both false true false true n h = omega arith
parts_of_both false true false false n h = absurd (omega (arith, h))
parts_of_both false false true true n h = omega arith
parts_of_both false false true false n h = absurd (omega (arith, h))
parts_of_both false false false true n h = absurd (omega (arith, h))
parts_of_both false false false false n h = omega arith

-- what a stay has of one name
abbrev part_of_name : Option (List ℕ) → Stay → ℕ
part_of_name name s = cond (not s.is_boot && is_name s.user name) s.length 0

-- without a name it has nothing
no_name : (stays : List Stay) → 0 ≡ sum_by (part_of_name None) stays
no_name [] = refl
no_name (s ∷ stays) = omega (arith, no_name stays, sum_by-cons (part_of_name None) s stays, by s.is_boot)
  where
    by : (boot : Bool) → cond (not boot && false) s.length 0 ≡ 0
    by true = refl
    by false = refl

-- the seconds of a named user are the sum of what each stay has of the name
named_is : (name : Option (List ℕ)) (stays : List Stay) → seconds_named name stays ≡ sum_by (part_of_name name) stays
named_is None stays = no_name stays
named_is (Some name) stays =
    lengths_kept (counted (Some name)) stays
    ∙ (λ i. sum_by (λ (s : Stay). cond (not s.is_boot && same_both_ways name s.user (bytes_eq name s.user) refl i) s.length 0) stays)

-- those of names are the sum of what each stay has of them
names_are : (names : List (Option (List ℕ))) (stays : List Stay) → seconds_of_names names stays ≡ sum_by (part_named names) stays
names_are names stays = lengths_kept (λ (s : Stay). not s.is_boot && list_any (is_name s.user) names) stays

-- with one name more there are its seconds more
pub name_added : (some all : List (Option (List ℕ))) (name : Option (List ℕ)) → AddsName some name all → (stays : List Stay)
    → seconds_of_names all stays ≡ seconds_of_names some stays + seconds_named name stays
name_added some all name adds stays = omega (arith, names_are all stays, names_are some stays, named_is name stays, each stays)
  where
    each : (ss : List Stay) → sum_by (part_named all) ss ≡ sum_by (part_named some) ss + sum_by (part_of_name name) ss
    each [] = refl
    each (s ∷ ss) =
        let one : part_named all s ≡ part_named some s + part_of_name name s =
        parts_of_both s.is_boot (list_any (is_name s.user) some) (is_name s.user name) (list_any (is_name s.user) all) s.length (adds s.user) in
        omega (arith, each ss, one, sum_by-cons (part_named all) s ss, sum_by-cons (part_named some) s ss, sum_by-cons (part_of_name name) s ss)

-- no names have no seconds
pub none_named : (stays : List Stay) → 0 ≡ seconds_of_names [] stays
none_named stays = no_name stays ∙ sym (names_are [] stays)

-- names have no more seconds than all
pub named-le : (names : List (Option (List ℕ))) (stays : List Stay) → seconds_of_names names stays ≤ seconds_of None stays
named-le names stays = omega (arith, names_are names stays, each stays, lengths_kept (counted None) stays)
  where
    each : (ss : List Stay) → sum_by (part_named names) ss ≤ sum_by (λ (s : Stay). cond (not s.is_boot) s.length 0) ss
    each [] = omega arith
    each (s ∷ ss) = omega (arith, each ss, by s.is_boot (list_any (is_name s.user) names), sum_by-cons (part_named names) s ss, sum_by-cons (λ (x : Stay). cond (not x.is_boot) x.length 0) s ss)
      where
        by : (boot named : Bool) → cond (not boot && named) s.length 0 ≤ cond (not boot) s.length 0
        by true named = omega arith
        by false true = omega arith
        by false false = omega arith

-- so with a name more they fit where those of all do
pub named_fit : (some all : List (Option (List ℕ))) (name : Option (List ℕ)) → AddsName some name all → (stays : List Stay) (most : ℕ)
    → seconds_of_names some stays ≤ most → IfSome name (λ _. seconds_of None stays ≤ most) → seconds_of_names all stays ≤ most
named_fit some all None adds stays most few fits = omega (arith, few, name_added some all None adds stays)
named_fit some all (Some name) adds stays most few fits = omega (arith, named-le all stays, fits)

-- what one user has of names, with one name more
pub own_added : (some all : List (Option (List ℕ))) (name : Option (List ℕ)) → AddsName some name all → (user : List ℕ) (stays : List Stay)
    → own_seconds user all stays ≡ own_seconds user some stays + cond (is_name user name) (seconds_of (Some user) stays) 0
own_added some all name adds user stays = parts_of_both false (list_any (is_name user) some) (is_name user name) (list_any (is_name user) all) (seconds_of (Some user) stays) (adds user)

-- the seconds that are added to a name's sum are those of the user that has it
pub added_for : (name user : List ℕ) (n : ℕ) (stays : List Stay) → n ≡ seconds_of (Some name) stays
    → cond (is_eq (slice_cmp nat_cmp name user)) n 0 ≡ cond (is_name user (Some name)) (seconds_of (Some user) stays) 0
added_for name user n stays is = ap (λ b. cond b n 0) (is_eq-slice_cmp name user) ∙ by (bytes_eq name user) refl
  where
    by : (b : Bool) → bytes_eq name user ≡ b → cond b n 0 ≡ cond b (seconds_of (Some user) stays) 0
    by true e = is ∙ ap (λ (who : List ℕ). seconds_of (Some who) stays) ((bytes_eq-Decides name user).0 e)
    by false e = refl

-- a sum fits where each of the two does
pub own_fit : (some all : List (Option (List ℕ))) (name : Option (List ℕ)) → AddsName some name all → (user : List ℕ) (stays : List Stay) (most : ℕ)
    → own_seconds user some stays ≤ most → cond (is_name user name) (seconds_of (Some user) stays) 0 ≤ most → own_seconds user all stays ≤ most
own_fit some all name adds user stays most = by (list_any (is_name user) some) (is_name user name) (list_any (is_name user) all) (adds user)
  where
    n : ℕ
    n = seconds_of (Some user) stays

    by : (a b c : Bool) → cond a 1 0 + cond b 1 0 ≡ cond c 1 0 → cond a n 0 ≤ most → cond b n 0 ≤ most → cond c n 0 ≤ most
    by a b false h few more = omega arith
    by true b true h few more = few
    by false true true h few more = more
    by false false true h few more = absurd (omega (arith, h))

-- a choice of users alone
module _ (choice : LoginChoice) (of : IsOfUsers choice) where
  -- counts of a stay what its names have
  part_is : (f : Session → ℕ) (s : Stay) → part_of f choice s ≡ cond (not s.is_boot && list_any (is_name s.user) choice.users) (f (session_in always s)) 0
  part_is f s =
      (λ i. cond (((of.named i || list_any (is_name s.user) choice.users) && (of.lines i || list_any (is_name s.line) choice.lines)) && not s.is_boot) (f (session_in (always_is choice.period of.period i) s)) 0)
      ∙ by (list_any (is_name s.user) choice.users) s.is_boot
    where
      by : (named boot : Bool) → cond ((named && true) && not boot) (f (session_in always s)) 0 ≡ cond (not boot && named) (f (session_in always s)) 0
      by true true = refl
      by true false = refl
      by false true = refl
      by false false = refl

  abbrev length_of : Session → ℕ
  length_of s = seconds_between s.begin s.end_time

  -- so it has of stays the seconds of its names
  pub all_named : (stays : List Stay) → All HasLength stays → seconds_of_names choice.users stays ≡ seconds_in (sessions_among choice stays)
  all_named stays lengths = names_are choice.users stays ∙ sym (among_is length_of choice stays ∙ each stays lengths)
    where
      each : (ss : List Stay) → All HasLength ss → sum_by (part_of length_of choice) ss ≡ sum_by (part_named choice.users) ss
      each [] h = refl
      each (s ∷ ss) h =
          let one : part_of length_of choice s ≡ part_named choice.users s =
          part_is length_of s ∙ ap (λ n. cond (not s.is_boot && list_any (is_name s.user) choice.users) n 0) (sym (All-head HasLength s ss h)) in
          omega (arith, one, each ss (All-tail HasLength s ss h), sum_by-cons (part_of length_of choice) s ss, sum_by-cons (part_named choice.users) s ss)

  module _ (user : List ℕ) where
    abbrev own : Session → ℕ
    own s = cond (bytes_eq s.user user) (length_of s) 0

    abbrev own_part : Stay → ℕ
    own_part s = cond (not s.is_boot && bytes_eq s.user user) s.length 0

    part_is_own : (s : Stay) → HasLength s → part_of own choice s ≡ cond (list_any (is_name user) choice.users) (own_part s) 0
    part_is_own s h =
        part_is own s
        ∙ ap (λ n. cond (not s.is_boot && list_any (is_name s.user) choice.users) (cond (bytes_eq s.user user) n 0) 0) (sym h)
        ∙ by (bytes_eq s.user user) refl
      where
        moved : (boot named : Bool) → cond (not boot && named) s.length 0 ≡ cond named (cond (not boot && true) s.length 0) 0
        moved true true = refl
        moved true false = refl
        moved false true = refl
        moved false false = refl

        none : (boot named named' : Bool) → cond (not boot && named) 0 0 ≡ cond {A = ℕ} named' (cond (not boot && false) s.length 0) 0
        none true named true = refl
        none true named false = refl
        none false true true = refl
        none false true false = refl
        none false false true = refl
        none false false false = refl

        by : (b : Bool) → bytes_eq s.user user ≡ b
            → cond (not s.is_boot && list_any (is_name s.user) choice.users) (cond b s.length 0) 0 ≡ cond (list_any (is_name user) choice.users) (cond (not s.is_boot && b) s.length 0) 0
        by true e =
            ap (λ (name : List ℕ). cond (not s.is_boot && list_any (is_name name) choice.users) s.length 0) ((bytes_eq-Decides s.user user).0 e)
            ∙ moved s.is_boot (list_any (is_name user) choice.users)
        by false e = none s.is_boot (list_any (is_name s.user) choice.users) (list_any (is_name user) choice.users)

    -- a sum is nothing where each part is
    own_each : (named : Bool) (ss : List Stay) → cond named (sum_by own_part ss) 0 ≡ sum_by (λ (s : Stay). cond named (own_part s) 0) ss
    own_each true ss = refl
    own_each false [] = refl
    own_each false (s ∷ ss) = omega (arith, own_each false ss, sum_by-cons (λ (x : Stay). cond false (own_part x) 0) s ss)

    -- and of one user, where that is one of the names, the user's
    pub all_own : (stays : List Stay) → All HasLength stays → own_seconds user choice.users stays ≡ seconds_of_user user (sessions_among choice stays)
    all_own stays lengths =
        ap (λ n. cond (list_any (is_name user) choice.users) n 0) (lengths_kept (counted (Some user)) stays)
        ∙ own_each (list_any (is_name user) choice.users) stays
        ∙ sym (of_user_is length_of user (sessions_among choice stays) ∙ among_is own choice stays ∙ each stays lengths)
      where
        each : (ss : List Stay) → All HasLength ss → sum_by (part_of own choice) ss ≡ sum_by (λ (s : Stay). cond (list_any (is_name user) choice.users) (own_part s) 0) ss
        each [] h = refl
        each (s ∷ ss) h = omega (
          arith,
          part_is_own s (All-head HasLength s ss h),
          each ss (All-tail HasLength s ss h),
          sum_by-cons (part_of own choice) s ss,
          sum_by-cons (λ (x : Stay). cond (list_any (is_name user) choice.users) (own_part x) 0) s ss,
        )
