-- That the bytes of one record are read back, and those of all records.
use Rattle.std.proofs.Common.{◌≡◌, ℕ, ◌+◌, ◌*◌, ◌/◌, ◌%◌, ◌^◌, ◌<◌, ◌++◌, ◌∷◌, [], ◌&&◌, Bool, true, false, cond, List, Option, Some, None, filter_map, flat_map, int_le, take, drop, get_or, length, length-append, unwrap_or, if◌then◌else◌, refl, sym, ap, ◌∙◌, arith}
use Rattle.std.specs.Prelude.{ℤ, pos, negsuc, neg_ℤ, codes, slice_get, slice_index_or, FitsSigned}
use Rattle.std.specs.Int.{w32, cast_signed, cast_unsigned, int_div_euclid, to_le_bytes}
use Rattle.std.proofs.lemmas.Int.{ints, to_z-of_z}
use Rattle.std.proofs.Math.Facts.{Fits-of_z}
use Rattle.std.proofs.lemmas.List.{drop_at, get_or-drop, take_at}
use Rattle.tally_records.specs.LoginRecord.{login_fields, login_of}
use Rattle.tally_records.specs.Text.{i16_at, i32_at, text_at, text_of, u16_at, u32_at}
use Rattle.tally_records.specs.declared.login.LoginRecord.{LoginRecord}
use Rattle.tally_wtmpdb.specs.Fields.{field}
use Rattle.tally_wtmpdb.specs.Made.{bytes_of, line_of, login_record, made_if, record_at, record_of, records_of, zeros}
use Rattle.std.proofs.lemmas.Bool.{and_parts}
use Rattle.std.proofs.lemmas.Bool.Decides.{nat_tests}
use Rattle.std.specs.Simd.{first_chunks}
use Rattle.std.specs.List.{cons_option, range_with_len}
use Rattle.sqlite_value.specs.Order.{Row}
use Rattle.tally_wtmpdb.specs.Lines.{mark_at}
use Rattle.tally_wtmpdb.specs.Rows.{remote_of, second_of, user_of}
use Rattle.tally_wtmpdb.specs.declared.moment.Moment.{Moment}
use Rattle.tally_wtmpdb.specs.declared.moment.What.{What}
use Rattle.tally_wtmpdb.specs.declared.moment.What.TheVariants.{Logout, Down, Boot, Login, LogoutAtOnce}
use Rattle.tally_wtmpdb.proofs.ReadBack.{after_parts, joined, kind_read, length-field, length-four, length-six, length-three, line_in, number_read, part, remote_in, text_of-field, user_in}
use Rattle.tally_wtmpdb.specs.Laws.{RecordsReadBack, records_read}

-- the time that four bytes after the others are of
time_read : (all rest : List ℕ) (time : ℤ) → FitsSigned w32 time → drop 340 all ≡ to_le_bytes w32 (cast_unsigned w32 time) ++ rest → i32_at 340 all ≡ time
unfolding i32_at u32_at u16_at
time_read all rest time fits e =
    let n = cast_unsigned w32 time in
    let below : n < 2 ^ 32 = omega (arith, ints, Fits-of_z fits) in
    let at : (i : ℕ) → get_or all (340 + i) 0 ≡ get_or (to_le_bytes w32 n ++ rest) i 0 = λ i. sym (get_or-drop 340 all i 0) ∙ ap (λ (l : List ℕ). get_or l i 0) e in
    let b0 : get_or all 340 0 ≡ n % 256 = at 0 in
    let b1 : get_or all 341 0 ≡ n / 256 % 256 = at 1 in
    let b2 : get_or all 342 0 ≡ n / 65536 % 256 = at 2 in
    let b3 : get_or all 343 0 ≡ n / 16777216 % 256 = at 3 in
    let number : u32_at 340 all ≡ n = (λ i. (b0 i + 256 * b1 i) + 65536 * (b2 i + 256 * b3 i)) ∙ number_read n below in
    ap (cast_signed w32) number ∙ to_z-of_z w32 time fits

pub read_back : RecordsReadBack
unfolding bytes_of i16_at u16_at
read_back kind line user remote time few fits =
    let h = kind ∷ zeros 7 in
    let l = field 32 line in
    let z = zeros 4 in
    let u = field 32 user in
    let r = field 256 remote in
    let y = zeros 8 in
    let t = to_le_bytes w32 (cast_unsigned w32 time) in
    let w = zeros 40 in
    let all = joined h l z u r y t w in
    let ll : length l ≡ 32 = length-field 32 line in
    let lu : length u ≡ 32 = length-field 32 user in
    let lr : length r ≡ 256 = length-field 256 remote in
    let first : text_at 8 32 all ≡ l = ap (text_of 32) (part h l (z ++ (u ++ (r ++ (y ++ (t ++ w))))) all 8 32 (line_in h l z u r y t w) refl ll) ∙ text_of-field 32 line in
    let second : text_at 44 32 all ≡ u = ap (text_of 32) (part (h ++ l ++ z) u (r ++ (y ++ (t ++ w))) all 44 32 (user_in h l z u r y t w) (omega (arith, ll, length-three h l z)) lu) ∙ text_of-field 32 user in
    let third : text_at 76 256 all ≡ r = ap (text_of 256) (part (h ++ l ++ z ++ u) r (y ++ (t ++ w)) all 76 256 (remote_in h l z u r y t w) (omega (arith, ll, lu, length-four h l z u)) lr) ∙ text_of-field 256 remote in
    let last : i32_at 340 all ≡ time = time_read all w time fits (after_parts h l z u r y t w 340 (omega (arith, ll, lu, lr, length-six h l z u r y))) in
    let type = kind_read kind few in
    let fields : login_fields all ≡ login_record kind line user remote time =
    λ i. record { kind = type.1 i; line = first i; user = second i; remote = third i; time = last i } in
    ap (λ (b : Bool). if b then Some (login_fields all) else None) type.0 ∙ ap (λ (x : LoginRecord). Some x) fields

-- ---- the bytes of all records

-- a record of a known type, with a time of 32 bits
pub record IsPlain (r : LoginRecord) : Type 0 where
  kind : ℕ
  line : List ℕ
  user : List ℕ
  remote : List ℕ
  time : ℤ
  is : r ≡ login_record kind line user remote time
  few : kind < 10
  fits : FitsSigned w32 time

abbrev ArePlain : List LoginRecord → Type 0
ArePlain [] = Unit {0}
ArePlain (r ∷ rs) = IsPlain r × ArePlain rs

read_one : (r : LoginRecord) → IsPlain r → login_of (bytes_of r) ≡ Some r
read_one r p = ap (λ (x : LoginRecord). login_of (bytes_of x)) p.is ∙ read_back p.kind p.line p.user p.remote p.time p.few p.fits ∙ ap (λ (x : LoginRecord). Some x) (sym p.is)

length-four_bytes : (time : ℤ) → length (to_le_bytes w32 (cast_unsigned w32 time)) ≡ 4
length-four_bytes time = refl

length-record : (kind : ℕ) (line user remote : List ℕ) (time : ℤ) → length (bytes_of (login_record kind line user remote time)) ≡ 384
unfolding bytes_of
length-record kind line user remote time =
    let h = kind ∷ zeros 7 in
    let l = field 32 line in
    let z = zeros 4 in
    let u = field 32 user in
    let r = field 256 remote in
    let y = zeros 8 in
    let t = to_le_bytes w32 (cast_unsigned w32 time) in
    let w = zeros 40 in
    omega (
      arith,
      length-append (h ++ l ++ z ++ u ++ r ++ y ++ t) w,
      length-append (h ++ l ++ z ++ u ++ r ++ y) t,
      length-six h l z u r y,
      length-field 32 line,
      length-field 32 user,
      length-field 256 remote,
      length-four_bytes time,
    )

length-one : (r : LoginRecord) → IsPlain r → length (bytes_of r) ≡ 384
length-one r p = ap (λ (x : LoginRecord). length (bytes_of x)) p.is ∙ length-record p.kind p.line p.user p.remote p.time

length-all : (rs : List LoginRecord) → ArePlain rs → length (flat_map bytes_of rs) ≡ length rs * 384
length-all [] h = refl
length-all (r ∷ rs) h = omega (arith, length-append (bytes_of r) (flat_map bytes_of rs), length-one r h.0, length-all rs h.1)

first_piece : (a b : List ℕ) → length a ≡ 384 → (take 384 (a ++ b) ≡ a) × (drop 384 (a ++ b) ≡ b)
first_piece a b e = (take_at a b 384 e, drop_at a b 384 e)

pieces : (rs : List LoginRecord) → ArePlain rs → filter_map login_of (first_chunks 384 (length rs) (flat_map bytes_of rs)) ≡ rs
pieces [] h = refl
pieces (r ∷ rs) h =
    let two = first_piece (bytes_of r) (flat_map bytes_of rs) (length-one r h.0) in
    ap (λ (l : List ℕ). cons_option (login_of l) (filter_map login_of (first_chunks 384 (length rs) (drop 384 (bytes_of r ++ flat_map bytes_of rs))))) two.0
    ∙ ap (λ (o : Option LoginRecord). cons_option o (filter_map login_of (first_chunks 384 (length rs) (drop 384 (bytes_of r ++ flat_map bytes_of rs))))) (read_one r h.0)
    ∙ ap (λ (l : List ℕ). r ∷ filter_map login_of (first_chunks 384 (length rs) l)) two.1
    ∙ ap (λ (l : List LoginRecord). r ∷ l) (pieces rs h.1)

read_all : (rs : List LoginRecord) → ArePlain rs → records_read (flat_map bytes_of rs) ≡ rs
read_all rs h =
    let many : length (flat_map bytes_of rs) / 384 ≡ length rs = omega (arith, length-all rs h) in
    ap (λ (n : ℕ). filter_map login_of (first_chunks 384 n (flat_map bytes_of rs))) many ∙ pieces rs h

-- ---- the records that are made are such

range_fits : (x : ℤ) → int_le (neg_ℤ (pos 2147483648)) x ≡ true → int_le x (pos 2147483647) ≡ true → FitsSigned w32 x
range_fits (pos n) e f = record { sfits = grind (arith, nat_tests, ints, e, f) }
range_fits (negsuc n) e f = record { sfits = grind (arith, nat_tests, ints, e, f) }

second_fits : (micros : ℤ) → FitsSigned w32 (unwrap_or (second_of micros) (pos 0))
second_fits micros = by (int_le (neg_ℤ (pos 2147483648)) second && int_le second (pos 2147483647)) refl
  where
    second : ℤ
    second = int_div_euclid micros (pos 1000000)

    by : (b : Bool) → (int_le (neg_ℤ (pos 2147483648)) second && int_le second (pos 2147483647)) ≡ b → FitsSigned w32 (unwrap_or (cond b (Some second) None) (pos 0))
    by true e = let two = and_parts (int_le (neg_ℤ (pos 2147483648)) second) (int_le second (pos 2147483647)) e in range_fits second two.0 two.1
    by false e = range_fits (pos 0) refl refl

plain_of : (row : Row) (line : List ℕ) (w : What) (time : ℤ) → FitsSigned w32 time → IsPlain (record_of row line w time)
plain_of row line Login time fits = record { kind = 7; line = line; user = user_of row; remote = remote_of row; time = time; is = refl; few = omega arith; fits = fits }
plain_of row line Logout time fits = record { kind = 8; line = line; user = []; remote = []; time = time; is = refl; few = omega arith; fits = fits }
plain_of row line LogoutAtOnce time fits = record { kind = 8; line = line; user = []; remote = []; time = time; is = refl; few = omega arith; fits = fits }
plain_of row line Boot time fits = record { kind = 2; line = codes "~"; user = codes "reboot"; remote = remote_of row; time = time; is = refl; few = omega arith; fits = fits }
plain_of row line Down time fits = record { kind = 1; line = codes "~"; user = codes "shutdown"; remote = remote_of row; time = time; is = refl; few = omega arith; fits = fits }

plain_if : (rows : List Row) (mark : Option Bool) (o : Option Moment) (rs : List LoginRecord) → ArePlain rs → ArePlain (cons_option (made_if rows mark o) rs)
plain_if rows mark None rs h = h
plain_if rows None (Some m) rs h = h
plain_if rows (Some marked) (Some m) rs h =
    (plain_of (slice_index_or rows m.place []) (line_of marked (slice_index_or rows m.place [])) m.what (unwrap_or (second_of m.micros) (pos 0)) (second_fits m.micros), h)

plain_all : (rows : List Row) (ms : List Moment) (is : List ℕ) → ArePlain (filter_map (record_at rows ms) is)
plain_all rows ms [] = tt
plain_all rows ms (i ∷ is) = plain_if rows (mark_at rows ms i) (slice_get ms i) (filter_map (record_at rows ms) is) (plain_all rows ms is)

-- the bytes of the records that are made are read back as these
pub made_back : (rows : List Row) (ms : List Moment) → records_read (flat_map bytes_of (records_of rows ms (length ms))) ≡ records_of rows ms (length ms)
made_back rows ms = read_all (records_of rows ms (length ms)) (plain_all rows ms (range_with_len 0 (length ms)))
