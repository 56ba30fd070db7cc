-- The rows by user, from a table of the users' sums.
use Rattle.std.proofs.Common.{◌≡◌, ℕ, List, [], ◌∷◌, map, filter, refl, sym, ap, ◌∙◌}
use Rattle.std.proofs.lemmas.Cmp.{nat_list_cmp_total}
use Rattle.std.proofs.lemmas.Map.Text.{is_eq-slice_cmp}
use Rattle.std.proofs.lemmas.Slice.Eq.{bytes_eq-Decides}
use Rattle.std.specs.Cmp.Lexicographic.{slice_cmp}
use Rattle.std.specs.List.Sorted.{IsStrictlySortedBy}
use Rattle.std.specs.Map.{keys_of}
use Rattle.std.specs.Ordering.{is_eq, nat_cmp}
use Rattle.std.specs.Prelude.{nat_lt}
use Rattle.std.specs.declared.cmp.Ordering.TheVariants.{Equal}
use Rattle.tally_records.specs.Sorted.{in_order}
use Rattle.tally_sessions.specs.declared.sums.Session.{Session}
use Rattle.tally_sessions.specs.declared.times.UserTime.{UserTime}
use Rattle.tally_sessions.specs.inside.Sums.{above_zero, user_time_of, sum_at}
use Rattle.tally_sessions.specs.Rows.{user_time, user_time_cmp, user_times}
use Rattle.tally_sessions.specs.Sums.{seconds_of_user}
use Rattle.tally_sessions.proofs.connect.RowLemmas.{rows_are}
use Rattle.tally_sessions.proofs.sums.SumLemmas.{user_of_session}

-- users that tie are one
pub same_user : (a b : List ℕ) → slice_cmp nat_cmp a b ≡ Equal → a ≡ b
same_user a b e = (bytes_eq-Decides a b).0 (sym (is_eq-slice_cmp a b) ∙ ap is_eq e)

users_of : (ss all : List Session) → map (λ (user : List ℕ). user_time all user) (map (λ (s : Session). s.user) ss) ≡ map (λ (s : Session). user_time all s.user) ss
users_of [] all = refl
users_of (s ∷ ss) all = ap (λ rows. user_time all s.user ∷ rows) (users_of ss all)

pub user_rows_are : (ss : List Session) (sums : List (List ℕ × ℕ)) → IsStrictlySortedBy (slice_cmp nat_cmp) (keys_of sums) → ((user : List ℕ) → sum_at (slice_cmp nat_cmp) sums user ≡ seconds_of_user user ss)
    → map user_time_of (filter above_zero sums) ≡ user_times ss
user_rows_are ss sums up at =
    rows_are nat_list_cmp_total same_user (λ user n. record { user = user; seconds = n }) (λ (r : UserTime). r.user) (λ (r : UserTime). r.seconds) (λ user n. refl) (λ user n. refl)
    sums (λ user. seconds_of_user user ss) (map (λ (s : Session). s.user) ss) up
    at
    (λ user lt. user_of_session user ss lt)
    ∙ ap (λ rows. in_order user_time_cmp (filter (λ (r : UserTime). nat_lt 0 r.seconds) rows)) (users_of ss ss)
