-- The newcomers, as they are dealt, and passes as they are gathered.
use Rattle.std.proofs.Common.{◌≡◌, ℕ, suc, zero, ◌+◌, ◌-◌, ◌<◌, ◌≤◌, List, [], ◌∷◌, length, map, refl, sym, ap, ◌∙◌, arith}
use Rattle.std.proofs.lemmas.List.Elements.{All-nil, All-cons, All-head, All-tail}
use Rattle.std.proofs.lemmas.List.Sums.{sum_by-cons}
use Rattle.std.specs.List.{All, range_with_len, sum_by}
use Rattle.atomic_table.specs.Seated.{TableId}
use Rattle.tally_clock.specs.Rows.{ClockRows}
use Rattle.tally_book.specs.Rooms.{IsRoom}
use Rattle.tally_book.specs.Contents.{Contents}
use Rattle.tally_desk.specs.declared.lock.view.Known.{Known}
use Rattle.tally_desk.specs.Callers.{newcomer}
use Rattle.tally_desk.specs.inside.Views.{AllFit}
use Rattle.tally_desk.specs.Passes.{PassState, first_pass, known_of, Stands, HasDone}
use Rattle.tally_desk.proofs.Done.{has_done}
use Rattle.tally_desk.specs.inside.Knowledge.{IsSound}
use Rattle.tally_desk.proofs.Seats.{empty_legal}

-- the first of the numbers that are left, and the others
pub first_left : (number rest : ℕ) → 0 < rest → range_with_len number rest ≡ number ∷ range_with_len (number + 1) (rest - 1)
first_left number zero h = absurd (omega arith)
first_left number (suc rest) h = let e : rest ≡ suc rest - 1 = omega arith in ap (λ n. number ∷ range_with_len (number + 1) n) e

-- the passes of a desk have its id
pub first_desks : (id : TableId) (clock : ClockRows) (room callers number n : ℕ) → All (λ (p : PassState). p.desk ≡ id) (map (first_pass id clock room callers) (range_with_len number n))
first_desks id clock room callers number zero = All-nil (λ (p : PassState). p.desk ≡ id)
first_desks id clock room callers number (suc n) =
    All-cons (λ (p : PassState). p.desk ≡ id) (first_pass id clock room callers number) (map (first_pass id clock room callers) (range_with_len (number + 1) n)) refl
    (first_desks id clock room callers (number + 1) n)

pub newcomer_sound : (clock : ClockRows) (room callers number : ℕ) → IsRoom room → callers ≤ 128 → number < callers → IsSound (newcomer clock room callers number)
newcomer_sound clock room callers number is few near = record { legal = empty_legal clock room callers is (omega (arith, near)) few; near = near; own = refl; told = omega arith }

pub all_stand : (book : Contents) (ps : List PassState) → AllFit book (map known_of ps) → All (Stands book) ps
all_stand book [] h = All-nil (Stands book)
all_stand book (p ∷ ps) h = All-cons (Stands book) p ps h.0 (all_stand book ps h.1)

-- the calls of all passes, as the closing seat counts them
pub calls_of_all : (ps : List PassState) → sum_by (λ (k : Known). length k.mine) (map known_of ps) ≡ sum_by (λ (p : PassState). length p.mine) ps
calls_of_all [] = refl
calls_of_all (p ∷ ps) = sum_by-cons (λ (k : Known). length k.mine) (known_of p) (map known_of ps) ∙ ap (λ n. length p.mine + n) (calls_of_all ps) ∙ sym (sum_by-cons (λ (q : PassState). length q.mine) p ps)

pub all_done : (book : Contents) (ps : List PassState) → All (Stands book) ps → All (λ p. IsSound (known_of p)) ps → All (HasDone book) ps
all_done book [] h s = All-nil (HasDone book)
all_done book (p ∷ ps) h s = All-cons (HasDone book) p ps
    (has_done book p (All-head (Stands book) p ps h) (All-head (λ (q : PassState). IsSound (known_of q)) p ps s))
    (all_done book ps (All-tail (Stands book) p ps h) (All-tail (λ (q : PassState). IsSound (known_of q)) p ps s))
