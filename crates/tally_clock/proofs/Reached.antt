-- How far the rows of a zone have come.
use Rattle.std.proofs.Common.{◌≡◌, ℕ, ◌^◌, ℤ, pos, neg_ℤ, ◌-ℤ◌, ◌<◌, unsigned_abs, ◌≤ℤ◌, ◌<ℤ◌, Bool, true, false, cond, int_eq, int_le, List, [], ◌∷◌, ◌++◌, length, refl, sym, ap, ◌∙◌, arith, inl, inr}
use Rattle.std.proofs.lemmas.Bool.Decides.{leb_tells}
use Rattle.std.proofs.lemmas.Int.{ints, clamps}
use Rattle.std.specs.Int.{int_max}
use borrow.Author.Differences.{le-true, le-false}
use Rattle.jiff_core.proofs.SignedLemmas.{signed_arith}
use Rattle.jiff_core.specs.declared.Offset.{Offset}
use Rattle.jiff_tz.specs.declared.timezone.TimeZone.{TimeZone}
use Rattle.jiff_tz.proofs.TzifLemmas.{le_yes}
use Rattle.tally_clock.specs.declared.row.Row.{Row}
use Rattle.tally_clock.specs.Rows.{IsBefore, IsRising, offset_in, row_at}
use Rattle.tally_clock.proofs.DayLemmas.{test_same}
use Rattle.tally_clock.proofs.RowLemmas.{new_item, old_item, one_longer}
use Rattle.tally_clock.specs.Time.{IsTime}
use Rattle.tally_clock.specs.Zones.{ChangesAt, zone_offset, ShowsZone}

-- rows that show a zone up to a second, and from then on its offset of the second before
pub record IsReached (zone : TimeZone) (first : Offset) (rows : List Row) (offset time : ℤ) : Type 0 where
  pub begun : neg_ℤ (pos (2 ^ 31)) <ℤ time
  pub near : time ≤ℤ pos (2 ^ 51)
  pub rising : IsRising rows
  pub before : IsBefore rows time
  pub shows : (n : ℤ) → IsTime n → n <ℤ time → offset_in first rows n ≡ zone_offset zone n
  pub goes_on : (n : ℤ) → time ≤ℤ n → offset_in first rows n ≡ offset
  pub last : IsTime (time -ℤ pos 1) → zone_offset zone (time -ℤ pos 1) ≡ offset
  pub changes : (i : ℕ) → i < length rows → ChangesAt (zone_offset zone) (row_at rows i).from

-- what is known of the seconds from one on to another, where the offset stays
abbrev pub Stays : TimeZone → ℤ → ℤ → Type 0
Stays zone time later = (n : ℤ) → IsTime n → time ≤ℤ n → n <ℤ later → zone_offset zone n ≡ zone_offset zone time

-- no rows show a zone up to the second where its first offset ends
pub none_reached : (zone : TimeZone) (first : Offset) (from time : ℤ) → neg_ℤ (pos (2 ^ 31)) ≡ from → from <ℤ time → time ≤ℤ pos (2 ^ 51) → first.seconds ≡ zone_offset zone from → Stays zone from time → IsReached zone first [] first.seconds time
none_reached zone first from time is later near offset stays = record {
  begun = omega (arith, signed_arith);
  near = near;
  rising = λ i l. absurd (omega arith);
  before = λ i l. absurd (omega arith);
  shows = λ n is_n l. let low = is_n.low in offset ∙ sym (stays n is_n (omega (arith, signed_arith)) l);
  goes_on = λ n l. refl;
  last = λ is_n. stays (time -ℤ pos 1) is_n (omega (arith, signed_arith)) (omega (arith, signed_arith)) ∙ sym offset;
  changes = λ i l. absurd (omega arith);
}

-- a row more
pub row_reached : (zone : TimeZone) (first : Offset) (rows new : List Row) (offset next time later : ℤ) → IsReached zone first rows offset time → time <ℤ later → later ≤ℤ pos (2 ^ 51) → Stays zone time later → next ≡ zone_offset zone time
    → IsRising new → IsBefore new later → ((i : ℕ) → i < length new → ChangesAt (zone_offset zone) (row_at new i).from) → ((n : ℤ) → offset_in first new n ≡ cond (int_le time n) next (offset_in first rows n)) → IsReached zone first new next later
row_reached zone first rows new offset next time later old up near stays is rising before changes pushed =
    let begun = old.begun in
    let from_time = λ (n : ℤ) (l : time ≤ℤ n). pushed n ∙ ap (λ b. cond b next (offset_in first rows n)) (le_yes time n l) in
    record {
      begun = omega (arith, signed_arith);
      near = near;
      rising = rising;
      before = before;
      shows = λ n is_n l. by n is_n l (int_le time n) refl;
      goes_on = λ n l. from_time n (omega (arith, signed_arith));
      last = λ is_n. stays (later -ℤ pos 1) is_n (omega (arith, signed_arith)) (omega (arith, signed_arith)) ∙ sym is;
      changes = changes;
    }
  where
    by : (n : ℤ) → IsTime n → n <ℤ later → (b : Bool) → int_le time n ≡ b → offset_in first new n ≡ zone_offset zone n
    by n is_n l true e =
        let le = le-true time n e in
        pushed n ∙ ap (λ b. cond b next (offset_in first rows n)) e ∙ is ∙ sym (stays n is_n (omega (arith, signed_arith)) l)
    by n is_n l false e =
        let over = le-false time n e in
        pushed n ∙ ap (λ b. cond b next (offset_in first rows n)) e ∙ old.shows n is_n (omega (arith, signed_arith))

-- no row more, where the offset is still the same
pub still_reached : (zone : TimeZone) (first : Offset) (rows : List Row) (offset time later : ℤ) → IsReached zone first rows offset time → time <ℤ later → later ≤ℤ pos (2 ^ 51) → Stays zone time later → offset ≡ zone_offset zone time → IsReached zone first rows offset later
still_reached zone first rows offset time later old up near stays is =
    row_reached zone first rows rows offset offset time later old up near stays is old.rising
    (λ i l. let low = old.before i l in omega (arith, signed_arith))
    old.changes
    (λ n. by n (int_le time n) refl)
  where
    by : (n : ℤ) (b : Bool) → int_le time n ≡ b → offset_in first rows n ≡ cond (int_le time n) offset (offset_in first rows n)
    by n true e = let le = le-true time n e in old.goes_on n (omega (arith, signed_arith)) ∙ ap (λ b. cond b offset (offset_in first rows n)) (sym e)
    by n false e = ap (λ b. cond b offset (offset_in first rows n)) (sym e)

-- the changes of rows and of one more
pub one_more_change : (zone : TimeZone) (rows : List Row) (r : Row) → ((i : ℕ) → i < length rows → ChangesAt (zone_offset zone) (row_at rows i).from) → ChangesAt (zone_offset zone) r.from
    → (i : ℕ) → i < length (rows ++ r ∷ []) → ChangesAt (zone_offset zone) (row_at (rows ++ r ∷ []) i).from
one_more_change zone rows r old new i l = elim (leb_tells (length rows) i) [
  | inl at_end ↦
      let longer = one_longer rows r in
      let same : i ≡ length rows = omega arith in
      rw (same, new_item rows r) new
  | inr earlier ↦ rw (old_item rows r i earlier.1) (old i earlier.1)
]

-- where the next offset is another, a zone's offset changes
pub changes_there : (zone : TimeZone) (time next offset : ℤ) → neg_ℤ (pos (2 ^ 31)) <ℤ time → time ≤ℤ pos 2147483647
    → (IsTime (time -ℤ pos 1) → zone_offset zone (time -ℤ pos 1) ≡ offset) → next ≡ zone_offset zone time → int_eq next offset ≡ false → ChangesAt (zone_offset zone) time
changes_there zone time next offset begun test last is other =
    let before : IsTime (time -ℤ pos 1) = record { low = omega (arith, signed_arith); high = omega (arith, signed_arith) } in
    record {
      from = before;
      at = record { low = omega (arith, signed_arith); high = omega (arith, signed_arith) };
      other = λ same. differ (sym (test_same next offset (is ∙ sym same ∙ last before)) ∙ other);
    }
  where
    differ : true ≡ false → ⊥
    differ e = cc

-- past the last time, the rows show the zone
pub all_reached : (zone : TimeZone) (first : Offset) (rows : List Row) (offset time : ℤ) → IsReached zone first rows offset time → pos (2 ^ 31) ≤ℤ time → ShowsZone zone (record { first = first; rows = rows })
all_reached zone first rows offset time reached over = λ n is_n. let high = is_n.high in reached.shows n is_n (omega (arith, signed_arith))

-- how many seconds are left from one on
abbrev pub left_from : ℤ → ℕ
left_from time = unsigned_abs (int_max (pos (2 ^ 31) -ℤ time) (pos 0))

pub fewer_left : (time later : ℤ) → time ≤ℤ pos 2147483647 → time <ℤ later → left_from later < left_from time
fewer_left time later le up = grind (arith, ints, clamps)
