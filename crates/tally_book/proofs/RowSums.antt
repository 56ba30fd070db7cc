-- The seconds of rows by user.
use Rattle.std.proofs.Common.{◌≡◌, ◌∙◌, ℕ, ◌+◌, ◌<◌, ◌^◌, List, [], ◌∷◌, map, refl, sum_by, sym, ap, arith}
use Rattle.std.proofs.lemmas.List.Sums.{sum_by-cons}
use Rattle.tally_answers.specs.Answers.{row_of_user}
use Rattle.tally_answers.specs.declared.question.ConnectRow.{ConnectRow}
use Rattle.tally_book.specs.inside.RowSums.{AddUpTo, seconds_of}
use Rattle.tally_sessions.specs.declared.times.UserTime.{UserTime}

abbrev seconds_of_times : List UserTime → ℕ
seconds_of_times times = sum_by (λ (t : UserTime). t.seconds) times

-- a user's row has the user's seconds
same_seconds : (times : List UserTime) → seconds_of (map row_of_user times) ≡ seconds_of_times times
same_seconds [] = refl
same_seconds (t ∷ times) =
    sum_by-cons (λ (row : ConnectRow). row.seconds) (row_of_user t) (map row_of_user times) ∙ ap (λ n. t.seconds + n) (same_seconds times) ∙ sym (sum_by-cons (λ (x : UserTime). x.seconds) t times)

pub user_rows_add_up_to : (times : List UserTime) (rows : List ConnectRow) → rows ≡ map row_of_user times → seconds_of_times times < 2 ^ 56 → AddUpTo (seconds_of_times times) rows
user_rows_add_up_to times rows is few =
    let all : seconds_of rows ≡ seconds_of_times times = ap seconds_of is ∙ same_seconds times in
    record { sum = all; fits = omega (arith, all, few) }
