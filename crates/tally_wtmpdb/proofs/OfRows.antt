-- That the stays of a host are what rows mean, by its entries and by the bytes that these are read from.
use Rattle.std.proofs.Common.{◌≡◌, ℕ, Bool, true, false, not, ◌&&◌, cond, List, [], ◌∷◌, filter, length, ℤ, Option, sum_by, refl, sym, ap, ◌∙◌}
use Rattle.std.specs.Prelude.{bytes_eq, flat_map}
use Rattle.sqlite_value.specs.Order.{Row}
use Rattle.tally_records.specs.declared.login.LoginRecord.{LoginRecord}
use Rattle.tally_sessions.specs.Stays.{stays_from}
use Rattle.tally_sessions.specs.Totals.{session_seconds, stays_of, user_seconds}
use Rattle.tally_sessions.specs.declared.entry.Entry.{Entry}
use Rattle.tally_sessions.specs.declared.entry.Stay.{Stay}
use Rattle.tally_wtmpdb.proofs.Stays.{stays-are}
use Rattle.tally_wtmpdb.specs.Made.{bytes_of, records_of}
use Rattle.tally_wtmpdb.specs.Moments.{AreInOrder, moments}
use Rattle.tally_wtmpdb.specs.Sessions.{HaveIds, stays_of_rows}
use Rattle.tally_wtmpdb.specs.declared.moment.Moment.{Moment}
use Rattle.tally_sessions.specs.Hosts.{of_host}
use Rattle.tally_wtmpdb.proofs.Ids.{table_ids}
use Rattle.tally_wtmpdb.proofs.ReadAll.{made_back}
use Rattle.tally_wtmpdb.specs.Laws.{StaysAreOfRows, StaysAreOfTable, records_read}

-- two tests of one list
filter_twice : {X : Type 0} (p q : X → Bool) (l : List X) → filter (λ x. p x && q x) l ≡ filter q (filter p l)
filter_twice p q [] = refl
filter_twice {X} p q (x ∷ l) = by (p x) (q x) refl (filter_twice p q l)
  where
    by : (a b : Bool) → q x ≡ b → filter (λ x. p x && q x) l ≡ filter q (filter p l)
        → cond (a && b) (x ∷ filter (λ x. p x && q x) l) (filter (λ x. p x && q x) l) ≡ filter q (cond a (x ∷ filter p l) (filter p l))
    by true true e rest = ap (λ (l : List X). x ∷ l) rest ∙ ap (λ (b : Bool). cond b (x ∷ filter q (filter p l)) (filter q (filter p l))) (sym e)
    by true false e rest = rest ∙ ap (λ (b : Bool). cond b (x ∷ filter q (filter p l)) (filter q (filter p l))) (sym e)
    by false b e rest = rest

same : (host : ℕ) (rows : List Row) (ms : List Moment) (entries : List Entry) (until : Option ℤ) → HaveIds rows → AreInOrder (moments rows) ms
    → of_host host entries ≡ records_of rows ms (length ms) → stays_of host entries until ≡ stays_of_rows host rows ms until
same host rows ms entries until ids order is = ap (λ (rs : List LoginRecord). stays_from host [] rs until) is ∙ stays-are host rows ms until ids order

pub of_rows : StaysAreOfRows
of_rows host rows ms entries until ids order is = record {
  stays = same host rows ms entries until ids order is;
  seconds = ap session_seconds (same host rows ms entries until ids order is);
  user_seconds = λ user.
      ap (user_seconds user) (same host rows ms entries until ids order is)
      ∙ ap (λ (l : List Stay). sum_by (λ (s : Stay). s.length) l) (filter_twice (λ (s : Stay). not s.is_boot) (λ (s : Stay). bytes_eq s.user user) (stays_of_rows host rows ms until));
}

pub of_table : StaysAreOfTable
of_table log db bytes its =
    let made = its.made.made in
    let read : records_read bytes ≡ records_of its.rows made.ordered (length made.ordered) =
    ap records_read (its.made.laid ∙ ap (flat_map bytes_of) made.made) ∙ made_back its.rows made.ordered in
    (its.rows, made.ordered, its.table, made.in_order, λ host entries until is. of_rows host its.rows made.ordered entries until (table_ids log db its.rows its.table) made.in_order (is ∙ read))
