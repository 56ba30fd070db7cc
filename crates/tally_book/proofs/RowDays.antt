-- The days of rows of connect times.
use Rattle.std.proofs.Common.{◌≡◌, List, map, sym, subst}
use Rattle.std.specs.List.{All}
use Rattle.tally_answers.specs.declared.question.ConnectRow.{ConnectRow}
use Rattle.tally_sessions.specs.declared.times.DayTime.{DayTime}
use Rattle.tally_sessions.specs.declared.times.DayUserTime.{DayUserTime}
use Rattle.tally_sessions.specs.declared.times.UserTime.{UserTime}
use Rattle.tally_sessions.specs.Days.{IsDay}
use Rattle.tally_answers.specs.Answers.{HasDay, row_of_day, row_of_day_user, row_of_user}
use Rattle.tally_book.proofs.Own.{All-mapped}

pub day_rows_have_days : (times : List DayTime) (rows : List ConnectRow) → rows ≡ map row_of_day times → All (λ (t : DayTime). IsDay t.day) times → All HasDay rows
day_rows_have_days times rows e h = subst (All HasDay) (sym e) (All-mapped row_of_day (λ (t : DayTime). IsDay t.day) HasDay (λ t d. d) times h)

pub day_user_rows_have_days : (times : List DayUserTime) (rows : List ConnectRow) → rows ≡ map row_of_day_user times → All (λ (t : DayUserTime). IsDay t.day) times → All HasDay rows
day_user_rows_have_days times rows e h = subst (All HasDay) (sym e) (All-mapped row_of_day_user (λ (t : DayUserTime). IsDay t.day) HasDay (λ t d. d) times h)

pub user_rows_have_days : (times : List UserTime) (rows : List ConnectRow) → rows ≡ map row_of_user times → All HasDay rows
user_rows_have_days times rows e = subst (All HasDay) (sym e) (All-mapped row_of_user (λ (t : UserTime). Unit {0}) HasDay (λ t d. tt) times (λ k d h. tt))
