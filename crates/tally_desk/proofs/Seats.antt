-- The table as it begins, and as seats are dealt, gathered and closed.
use Rattle.std.proofs.Common.{◌≡◌, ℕ, suc, zero, ◌+◌, ◌≤◌, ◌≢◌, List, [], ◌∷◌, ◌++◌, length, map, get_or, set, sym, refl, ap, ◌∙◌, subst, inl, ⊎_elim, arith}
use mathlib.Core.Option.{some, some-injective, some-ne-none}
use lib.ListN.{get_elem?}
use Rattle.atomic_table.specs.Table.{State, opening, Splits, Joins, Final, Seen}
use Rattle.atomic_table.proofs.Lists.{at_set, at_snoc, at_longer, set_else}
use Rattle.std.proofs.lemmas.List.Elements.{All-nil}
use Rattle.tally_clock.specs.Rows.{ClockRows}
use Rattle.tally_book.specs.Contents.{Contents}
use Rattle.tally_book.specs.Books.{IsLegal, empty_with_room}
use Rattle.tally_book.specs.Rooms.{IsRoom}
use Rattle.tally_desk.specs.declared.lock.rule.Opening.{Opening}
use Rattle.tally_desk.specs.declared.lock.view.Known.{Known}
use Rattle.tally_desk.specs.declared.lock.view.Stage.TheVariants.{Idle}
use Rattle.tally_desk.specs.declared.lock.view.View.{View}
use Rattle.std.specs.Prelude.{sum_by}
use Rattle.std.proofs.lemmas.List.Sums.{sum_by-append, sum_by-cons}
use Rattle.tally_desk.specs.inside.Totals.{below}
use Rattle.tally_desk.specs.inside.Views.{view, AllFit, newcomers, opening_view, dealt, kept, joined, spent, ticket_weight, number_weight, calls_made}
use Rattle.tally_desk.specs.inside.Rule.{Orderly, Knows}
use Rattle.tally_desk.specs.Callers.{newcomer}
use Rattle.tally_desk.specs.Passes.{Sat}
use Rattle.tally_desk.specs.inside.Seats.{idle, standing}
use Rattle.tally_desk.proofs.Totals.{total-set, terms_le, below-one, total-one, total_alone}
use Rattle.tally_desk.proofs.Histories.{follows_self}
use Rattle.tally_desk.proofs.Tickets.{apart_from, placed_by}

-- a seat has one caller's number
pub same_number : (k k' : Known) → idle k ≡ idle k' → k.number ≡ k'.number
same_number k k' e = ap (λ (m : Sat). get_or (map (λ (x : Known). x.number) m.0.known) 0 0) e

newcomers_fit : (clock : ClockRows) (room callers number n : ℕ) → AllFit (empty_with_room clock room callers) (newcomers clock room callers number n)
newcomers_fit clock room callers number zero = tt
newcomers_fit clock room callers number (suc n) = (record { seen = follows_self (empty_with_room clock room callers); own = refl; told = omega arith }, newcomers_fit clock room callers (number + 1) n)

newcomers_numbers : (f : ℕ → ℕ) (clock : ClockRows) (room callers number n : ℕ) → sum_by (λ (k : Known). f k.number) (newcomers clock room callers number n) + below f number ≡ below f (number + n)
newcomers_numbers f clock room callers number zero = let e : number ≡ number + 0 = omega arith in omega (arith, ap (below f) e)
newcomers_numbers f clock room callers number (suc n) =
    let rest = newcomers_numbers f clock room callers (number + 1) n in
    let next : number + 1 ≡ suc number = omega arith in
    let far : number + 1 + n ≡ number + suc n = omega arith in omega (arith, rest, sum_by-cons (λ (k : Known). f k.number) (newcomer clock room callers number) (newcomers clock room callers (number + 1) n), ap (below f) next, ap (below f) far)

newcomers_calls : (clock : ClockRows) (room callers number n : ℕ) → sum_by (λ (k : Known). length k.mine) (newcomers clock room callers number n) ≡ 0
newcomers_calls clock room callers number zero = refl
newcomers_calls clock room callers number (suc n) = omega (arith, newcomers_calls clock room callers (number + 1) n, sum_by-cons (λ (k : Known). length k.mine) (newcomer clock room callers number) (newcomers clock room callers (number + 1) n))

pub empty_legal : (clock : ClockRows) (room callers : ℕ) → IsRoom room → 1 ≤ callers → callers ≤ 128 → IsLegal (empty_with_room clock room callers)
empty_legal clock room callers is least few = record {
  room = is;
  some_callers = least;
  few_callers = few;
  few_calls = omega arith;
  few_logins = omega arith;
  few_procs = omega arith;
  chained = refl;
  sound = All-nil _;
}

pub starts : (o : Opening) → IsRoom o.room → 1 ≤ o.callers → o.callers ≤ 128 → Orderly o.callers (opening (0 ∷ 0 ∷ 0 ∷ []) (empty_with_room o.clock o.room o.callers ∷ []) (opening_view o))
starts o room least few =
    let v : View = opening_view o in record {
      book = empty_with_room o.clock o.room o.callers;
      drawn = 0;
      served = 0;
      words = refl;
      legal = empty_legal o.clock o.room o.callers room least few;
      all = refl;
      numbers = λ f. let e : 0 + o.callers ≡ o.callers = omega arith in omega (arith, newcomers_numbers f o.clock o.room o.callers 0 o.callers, ap (below f) e);
      tickets = λ f. refl;
      counted = omega (arith, newcomers_calls o.clock o.room o.callers 0 o.callers);
      each = λ j u e. ⊎_elim (λ (d : get_elem? [] j ≡ some u). absurd (some-ne-none u (sym d)))
          (λ (same : v ≡ u). subst (Knows (empty_with_room o.clock o.room o.callers) 0 (some (empty_with_room o.clock o.room o.callers) ∷ [])) same record { fit = newcomers_fit o.clock o.room o.callers 0 o.callers; turn = tt; one = omega arith })
          (at_snoc [] v u j e);
      place = inl refl;
    }

all_fit_append : (book : Contents) (ks ls : List Known) → AllFit book ks → AllFit book ls → AllFit book (ks ++ ls)
all_fit_append book [] ls a b = b
all_fit_append book (k ∷ ks) ls a b = (a.0, all_fit_append book ks ls a.1 b)

module _ (callers : ℕ) where
  abbrev Rule : State Contents View → Type 0
  Rule = Orderly callers

  pub deals : (id : ℕ) (v : View) (k : Known) (ks : List Known) → v ≡ view (k ∷ ks) Idle → Splits Rule id v (kept v) (dealt v)
  deals id v k ks e = subst (λ x. Splits Rule id x (kept x) (dealt x)) (sym e) (λ s r at.
      let v : View = view (k ∷ ks) Idle in
      let w : View = view ks Idle in
      let given : View = view (k ∷ []) Idle in
      let mine = r.each id v at in
      let split : (g : View → ℕ) → sum_by g (set s.views id w ++ given ∷ []) + g v ≡ sum_by g s.views + g w + g given = λ g. omega (arith, sum_by-append g (set s.views id w) (given ∷ []), total-set g s.views id v w at) in record {
        book = r.book;
        drawn = r.drawn;
        served = r.served;
        words = r.words;
        legal = r.legal;
        all = r.all;
        numbers = λ f. omega (arith, split (number_weight f), r.numbers f, sum_by-cons (λ (x : Known). f x.number) k ks);
        tickets = λ f. omega (arith, split (λ x. ticket_weight f x.stage), r.tickets f);
        counted = omega (arith, split calls_made, r.counted, sum_by-cons (λ (x : Known). length x.mine) k ks);
        each = λ j u d. ⊎_elim
            (λ (old : get_elem? (set s.views id w) j ≡ some u). ⊎_elim
            (λ (t : (j ≡ id) × (w ≡ u)). subst (Knows r.book r.served s.homes) t.1 record { fit = mine.fit.1; turn = tt; one = omega arith })
            (λ (t : (j ≢ id) × (get_elem? s.views j ≡ some u)). r.each j u t.1) (at_set s.views id j w u old))
            (λ (same : given ≡ u). subst (Knows r.book r.served s.homes) same record { fit = (mine.fit.0, tt); turn = tt; one = omega arith })
            (at_snoc (set s.views id w) given u j d);
        place = placed_by r.book s.homes s.views (set s.views id w ++ given ∷ [])
            (λ j u t b there serves. at_longer (set s.views id w) (given ∷ []) j u (set_else s.views id j w (apart_from s.views id j v u t b at there serves (λ t b e. cc)) ∙ there)) r.place;
      })

  pub gathers : (id : ℕ) (v : View) (other : ℕ) (w : View) → v.stage ≡ Idle → w.stage ≡ Idle → Joins Rule id v other w (joined v w) spent
  gathers id v other w rests ends s r at apart there =
      let both : View = joined v w in
      let mid : List View = set s.views id both in
      let was : get_elem? s.views other ≡ some w = sym (set_else s.views id other both apart) ∙ there in
      let mine = r.each id v at in
      let theirs = r.each other w was in
      let moved : (g : View → ℕ) → sum_by g (set mid other spent) + g w + g v ≡ sum_by g s.views + g both + g spent = λ g. omega (arith, total-set g s.views id v both at, total-set g mid other w spent there) in record {
        book = r.book;
        drawn = r.drawn;
        served = r.served;
        words = r.words;
        legal = r.legal;
        all = r.all;
        numbers = λ f. omega (arith, moved (number_weight f), r.numbers f, sum_by-append (λ (k : Known). f k.number) w.known v.known);
        tickets = λ f. omega (arith, moved (λ x. ticket_weight f x.stage), r.tickets f, ap (ticket_weight f) ends);
        counted = omega (arith, moved calls_made, r.counted, sum_by-append (λ (k : Known). length k.mine) w.known v.known);
        each = λ j u d. ⊎_elim
            (λ (t : (j ≡ other) × (spent ≡ u)). subst (Knows r.book r.served s.homes) t.1 record { fit = tt; turn = tt; one = omega arith })
            (λ (t : (j ≢ other) × (get_elem? mid j ≡ some u)). ⊎_elim
            (λ (q : (j ≡ id) × (both ≡ u)). subst (Knows r.book r.served s.homes) q.1 record {
              fit = all_fit_append r.book w.known v.known theirs.fit mine.fit;
              turn = mine.turn;
              one = omega (arith, mine.one, sum_by-append (λ (k : Known). 1) w.known v.known);
            })
            (λ (q : (j ≢ id) × (get_elem? s.views j ≡ some u)). r.each j u q.1) (at_set s.views id j both u t.1))
            (at_set mid other j spent u d);
        place = placed_by r.book s.homes s.views (set mid other spent)
            (λ j u t b there serves.
            set_else mid other j spent (apart_from s.views other j w u t b was there serves (λ t b e. cc (ends, e)))
            ∙ (set_else s.views id j both (apart_from s.views id j v u t b at there serves (λ t b e. cc (rests, e))) ∙ there)) r.place;
      }

  -- whoever stands for all callers finds the book at home
  pub ends_at_home : (s : State Contents View) (r : Rule s) (id : ℕ) (ks : List Known) → get_elem? s.views id ≡ some (view ks Idle) → callers ≤ length ks
      → (s.homes ≡ some r.book ∷ []) × AllFit r.book ks × (sum_by (λ (k : Known). length k.mine) ks ≡ length r.book.calls)
  ends_at_home s r id ks at whole =
      let v : View = view ks Idle in
      let mine = r.each id v at in
      let numbers = r.numbers (λ _. 1) in
      let nobody : (j : ℕ) (u : View) → j ≢ id → get_elem? s.views j ≡ some u → number_weight (λ _. 1) u ≡ 0 = λ j u apart e.
      omega (arith, terms_le (number_weight (λ _. 1)) s.views id j v u apart at e, below-one callers, total-one ks) in
      let no_calls : (ls : List Known) → sum_by (λ (k : Known). 1) ls ≡ 0 → sum_by (λ (k : Known). length k.mine) ls ≡ 0 = λ ls. elim ls as (λ x. sum_by (λ (k : Known). 1) x ≡ 0 → sum_by (λ (k : Known). length k.mine) x ≡ 0) [ [] ↦ λ e. refl | y ∷ ys ↦ λ e. absurd (omega (arith, sum_by-cons (λ (k : Known). 1) y ys)) ] in (
        ⊎_elim (λ home. home)
            (λ p. let serving = p.1 in
            let apart : serving.0 ≢ id = apart_from s.views id serving.0 v serving.1 serving.2 serving.3 at serving.4 serving.5 (λ t b e. cc) in
            let theirs = r.each serving.0 serving.1 serving.4 in absurd (omega (arith, nobody serving.0 serving.1 apart serving.4, theirs.one, ap (ticket_weight (λ _. 1)) serving.5)))
            r.place,
        mine.fit,
        sym (total_alone calls_made s.views id v at (λ j u apart e. no_calls u.known (nobody j u apart e))) ∙ r.counted,
      )

  -- the book that is found at the end
  pub closes : (id : ℕ) (m : Sat) (ks : List Known) (words : List ℕ) (slots : List Contents) (book : Contents) → Final (Seen Rule id m.0) words slots → m ≡ standing ks → callers ≤ length ks → get_elem? slots 0 ≡ some book
      → IsLegal book × (book.callers ≡ callers) × AllFit book ks × (sum_by (λ (k : Known). length k.mine) ks ≡ length book.calls)
  closes id m ks words slots book final e whole found =
      let s : State Contents View = final.0 in
      let r = final.1.0 in
      let back = final.4 in
      let end = ends_at_home s r id ks (final.1.1 ∙ ap (λ (x : Sat). some x.0) e) whole in
      let same : r.book ≡ book = some-injective r.book book (sym (back 0 r.book (ap (λ hs. get_elem? hs 0) end.0)) ∙ found) in
      subst (λ (b : Contents). IsLegal b × (b.callers ≡ callers) × AllFit b ks × (sum_by (λ (k : Known). length k.mine) ks ≡ length b.calls)) same (r.legal, r.all, end.1, end.2)
