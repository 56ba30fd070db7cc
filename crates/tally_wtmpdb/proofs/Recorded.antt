-- The bytes of one record more.
use Rattle.std.proofs.Common.{◌≡◌, ℕ, ◌+◌, ◌<◌, Bool, List, [], ◌∷◌, ◌++◌, Option, Some, map, length, get_or, sym, ap, ◌∙◌, arith}
use Rattle.std.proofs.lemmas.List.Concat.{flat_map-append}
use Rattle.std.proofs.lemmas.List.Elements.{filter_map-append}
use Rattle.std.proofs.lemmas.List.FromFn.{get_or-map-range_with_len, map-range_with_len_more}
use Rattle.std.proofs.lemmas.List.{map-id}
use Rattle.std.proofs.lemmas.Option.{slice_get-get_or}
use Rattle.std.specs.List.{cons_option, range_with_len}
use Rattle.std.specs.Prelude.{filter_map, flat_map}
use Rattle.sqlite_value.specs.Order.{Row}
use Rattle.tally_records.specs.declared.login.LoginRecord.{LoginRecord}
use Rattle.tally_wtmpdb.specs.Lines.{mark_at}
use Rattle.tally_wtmpdb.specs.Made.{bytes_of, made_if, record_at, records_of}
use Rattle.tally_wtmpdb.specs.declared.moment.Moment.{Moment}

range_more : (n : ℕ) → range_with_len 0 (n + 1) ≡ range_with_len 0 n ++ n ∷ []
range_more n =
    sym (map-id (range_with_len 0 (n + 1))) ∙ map-range_with_len_more (λ k. k) 0 n n (omega arith) ∙ ap (λ (l : List ℕ). l ++ n ∷ []) (map-id (range_with_len 0 n))

pub one_more_record : (rows : List Row) (ms : List Moment) (marks : List (Option Bool)) (i : ℕ) (m : Moment) (o : Option Bool) → i < length ms
    → marks ≡ map (mark_at rows ms) (range_with_len 0 (length ms))
    → flat_map bytes_of (records_of rows ms i) ++ flat_map bytes_of (cons_option (made_if rows (get_or marks i o) (Some (get_or ms i m))) []) ≡ flat_map bytes_of (records_of rows ms (i + 1))
one_more_record rows ms marks i m o within is =
    let mark : get_or marks i o ≡ mark_at rows ms i =
    ap (λ (l : List (Option Bool)). get_or l i o) is ∙ get_or-map-range_with_len (mark_at rows ms) 0 (length ms) i i o within (omega arith) in
    let made : made_if rows (get_or marks i o) (Some (get_or ms i m)) ≡ record_at rows ms i =
    ap (λ (b : Option Bool). made_if rows b (Some (get_or ms i m))) mark ∙ ap (made_if rows (mark_at rows ms i)) (sym (slice_get-get_or ms i m within)) in
    ap (λ (r : Option LoginRecord). flat_map bytes_of (records_of rows ms i) ++ flat_map bytes_of (cons_option r [])) made
    ∙ sym (flat_map-append bytes_of (records_of rows ms i) (cons_option (record_at rows ms i) []))
    ∙ ap (flat_map bytes_of) (sym (filter_map-append (record_at rows ms) (range_with_len 0 i) (i ∷ [])))
    ∙ ap (λ (l : List ℕ). flat_map bytes_of (filter_map (record_at rows ms) l)) (sym (range_more i))
