-- Each step of the lock keeps its rule.
use Rattle.std.proofs.Common.{◌≡◌, ℕ, suc, zero, ◌+◌, ◌%◌, ◌^◌, ◌<◌, ◌≤◌, ◌≢◌, Bool, true, false, MatchBool, List, [], ◌∷◌, ◌++◌, length, get_or, set, sum_by, sym, refl, ap, ◌∙◌, subst, inl, inr, ⊎_elim, arith, le_refl, length-append, eq-eqb, ne_eqb}
use mathlib.Core.Logic.{dite}
use Rattle.std.proofs.lemmas.List.Sums.{sum_by-cons}
use mathlib.Core.Option.{Option, none, some, some-injective, some-ne-none}
use native.Mathlib.Decide.{ℕ_discrete}
use lib.ListN.{get_elem?}
use lib.Seq.{set-get_or}
use Rattle.atomic_table.specs.Table.{Act, keeps, takes, gives, step, Allows, homes_after, carried_after}
use Rattle.atomic_table.proofs.Lists.{at_set, set_here, set_again, one_turn}
use Rattle.tally_book.specs.declared.history.Call.{Call}
use Rattle.tally_book.specs.Contents.{Contents}
use Rattle.tally_book.specs.Books.{IsLegal, calls_of, caller_of}
use Rattle.tally_desk.specs.declared.lock.view.Known.{Known}
use Rattle.tally_desk.specs.declared.lock.view.Stage.TheVariants.{Idle, Waiting, Serving}
use Rattle.tally_desk.specs.declared.lock.view.View.{View}
use Rattle.tally_desk.specs.inside.Totals.{below}
use Rattle.tally_desk.specs.Callers.{Follows, Fits}
use Rattle.tally_desk.specs.inside.Views.{view, AllFit, knowing, told_of, ticket_weight, number_weight, calls_made}
use Rattle.tally_desk.specs.inside.Rule.{Orderly, Knows, HasTurn, Placed}
use Rattle.tally_desk.specs.inside.Steps.{Draws, Looks, Counts, Leaves, Tells}
use Rattle.tally_desk.specs.Passes.{Sat}
use Rattle.tally_desk.specs.inside.Seats.{idle, waiting, turn, IsNext}
use Rattle.tally_desk.proofs.Totals.{total-set, below_more, only, only-same}
use Rattle.tally_desk.proofs.Tickets.{St, no_turn, none_serves, still_placed, held_range, held_once, few_wait, alone, not_theirs}
use Rattle.tally_desk.proofs.Histories.{follows_self, follows_trans, follows_next, calls_of_own, calls_of_other}

within : {A : Type 0} (l : List A) (i : ℕ) (a : A) → get_elem? l i ≡ some a → i < length l
within [] i a e = absurd (some-ne-none a (sym e))
within (x ∷ xs) zero a e = omega arith
within (x ∷ xs) (suc i) a e = omega (arith, within xs i a e)

-- a word counts on
next_word : (n : ℕ) → (n % 2 ^ 64 + 1) % 2 ^ 64 ≡ (n + 1) % 2 ^ 64
next_word n = omega arith

at_true : (A B : Type 0) (b : Bool) → b ≡ true → A → MatchBool b A B
at_true A B b e x = subst (λ (c : Bool). MatchBool c A B) (sym e) x

at_false : (A B : Type 0) (b : Bool) → b ≡ false → B → MatchBool b A B
at_false A B b e x = subst (λ (c : Bool). MatchBool c A B) (sym e) x

knowing_fits : (book : Contents) (k : Known) → Fits book (knowing book k)
knowing_fits book k = record { seen = follows_self book; own = refl; told = le_refl (length book.calls) }

-- after a call of one caller, what the others know still fits
fits_after : (before after : Contents) (call : Call) (number : ℕ) → caller_of call ≡ number → after.calls ≡ before.calls ++ call ∷ [] → Follows before after
    → (k : Known) → k.number ≢ number → Fits before k → Fits after k
fits_after before after call number by made more k other fit = record {
  seen = follows_trans k.seen before after fit.seen more;
  own = ap (calls_of k.number) made ∙ (calls_of_other k.number before.calls call (λ e. other (sym e ∙ by)) ∙ fit.own);
  told = omega (arith, fit.told, ap length made, length-append before.calls (call ∷ []));
}

all_fit_after : (before after : Contents) (call : Call) (number : ℕ) → caller_of call ≡ number → after.calls ≡ before.calls ++ call ∷ [] → Follows before after
    → (ks : List Known) → sum_by (λ k. only number k.number) ks ≡ 0 → AllFit before ks → AllFit after ks
all_fit_after before after call number by made more [] weightless fit = tt
all_fit_after before after call number by made more (k ∷ ks) weightless fit =
    let weight = sum_by-cons (λ (x : Known). only number x.number) k ks in (
      fits_after before after call number by made more k (λ e. let one = only-same number k.number e in absurd (omega (arith, weight))) fit.0,
      all_fit_after before after call number by made more ks (omega (arith, weight)) fit.1,
    )

module _ (callers : ℕ) where
  abbrev Rule : St → Type 0
  Rule = Orderly callers

  -- one seat's view changes
  changed : (s : St) (r : Rule s) (id : ℕ) (v w : View) → get_elem? s.views id ≡ some v
      → (book : Contents) (drawn served : ℕ) (words : List ℕ) (homes : List (Option Contents))
      → words ≡ length book.calls ∷ drawn % 2 ^ 64 ∷ served % 2 ^ 64 ∷ [] → IsLegal book → book.callers ≡ callers
      → ((f : ℕ → ℕ) → number_weight f w ≡ number_weight f v)
      → ((f : ℕ → ℕ) → ticket_weight f w.stage + below f served + below f r.drawn ≡ ticket_weight f v.stage + below f r.served + below f drawn)
      → calls_made w + length r.book.calls ≡ calls_made v + length book.calls
      → Knows book served homes w
      → ((j : ℕ) (u : View) → j ≢ id → get_elem? s.views j ≡ some u → Knows book served homes u)
      → Placed book homes (set s.views id w)
      → Rule record { words = words; homes = homes; views = set s.views id w }
  changed s r id v w at book drawn served words homes are legal all same_numbers same_tickets same_calls own others place = record {
    book = book;
    drawn = drawn;
    served = served;
    words = are;
    legal = legal;
    all = all;
    numbers = λ f. omega (arith, total-set (number_weight f) s.views id v w at, same_numbers f, r.numbers f);
    tickets = λ f. omega (arith, total-set (λ (x : View). ticket_weight f x.stage) s.views id v w at, same_tickets f, r.tickets f);
    counted = omega (arith, total-set calls_made s.views id v w at, same_calls, r.counted);
    each = λ j u e. ⊎_elim (λ (t : (j ≡ id) × (w ≡ u)). subst (Knows book served homes) t.1 own)
        (λ (t : (j ≢ id) × (get_elem? s.views j ≡ some u)). others j u t.0 t.1) (at_set s.views id j w u e);
    place = place;
  }

  draws_idle : (slots id : ℕ) (k : Known) → Allows Rule slots id (idle k) 1 (λ n. (n + 1) % 2 ^ 64) (Draws (step slots 1 1 0 none) (idle k))
  draws_idle slots id k s r wide at _ =
      let v : View = view (k ∷ []) Idle in
      let w : View = view (k ∷ []) (Waiting r.drawn) in
      let mine = r.each id v at in
      let words : List ℕ = set s.words 1 ((get_or s.words 1 0 + 1) % 2 ^ 64) in
      let are : words ≡ length r.book.calls ∷ (r.drawn + 1) % 2 ^ 64 ∷ r.served % 2 ^ 64 ∷ [] =
      ap (λ ws. set ws 1 ((get_or ws 1 0 + 1) % 2 ^ 64)) r.words ∙ ap (λ n. length r.book.calls ∷ n ∷ r.served % 2 ^ 64 ∷ []) (next_word r.drawn) in (
        w,
        keeps,
        tt,
        changed s r id v w at r.book (r.drawn + 1) r.served words s.homes are r.legal r.all (λ f. refl) (λ f. omega (arith, below_more f r.drawn)) refl
            record { fit = mine.fit; turn = tt; one = omega arith } (λ j u apart e. r.each j u e) (still_placed callers s r id v w at (λ t b e. cc)),
        (r.drawn, ap (λ ws. get_or ws 1 0) r.words, refl),
      )

  pub draws : (slots id : ℕ) (m : Sat) (k : Known) → m ≡ idle k → Allows Rule slots id m 1 (λ n. (n + 1) % 2 ^ 64) (Draws (step slots 1 1 0 none) m)
  draws slots id m k e = subst (λ x. Allows Rule slots id x 1 (λ n. (n + 1) % 2 ^ 64) (Draws (step slots 1 1 0 none) x)) (sym e) (draws_idle slots id k)

  looks_waiting : (slots id : ℕ) (k : Known) (ticket : ℕ) → Allows Rule slots id (waiting k ticket) 2 (λ n. n) (Looks (step slots 2 0 0 none) (waiting k ticket))
  looks_waiting slots id k ticket s r wide at _ =
      let v : View = view (k ∷ []) (Waiting ticket) in
      let found : get_or s.words 2 0 ≡ r.served % 2 ^ 64 = ap (λ ws. get_or ws 2 0) r.words in
      let mine = r.each id v at in
      let same = set-get_or s.words 2 0 in
      let Told : Act Contents → View → Type 0 = λ a w. Rule record { words = set s.words 2 (get_or s.words 2 0); homes = homes_after s.homes [] a; views = set s.views id w }
      × Looks (step slots 2 0 0 none) (waiting k ticket) (get_or s.words 2 0) (w, carried_after [] a) in
      dite (ℕ_discrete (get_or s.words 2 0) (ticket % 2 ^ 64))
      (λ hit.
      let range = held_range callers s r id v ticket at (only-same ticket ticket refl) in
      let few = few_wait callers s r in
      let now : r.served ≡ ticket = one_turn r.served ticket (2 ^ 64) range.0 (omega (arith, range.1)) (sym found ∙ hit) in
      let w : View = view (k ∷ []) (Serving ticket r.book) in
      ⊎_elim
      (λ (home : s.homes ≡ some r.book ∷ []).
      let out : set s.homes 0 none ≡ none ∷ [] = ap (λ hs. set hs 0 none) home in (
        w,
        takes 0 r.book,
        ap (λ hs. get_elem? hs 0) home,
        changed s r id v w at r.book r.drawn r.served _ (set s.homes 0 none) (same ∙ r.words) r.legal r.all (λ f. refl) (λ f. refl) refl
            record { fit = mine.fit; turn = (sym now, refl, out); one = mine.one }
            (λ j u apart e. let theirs = r.each j u e in record { fit = theirs.fit; turn = no_turn r.book r.served (set s.homes 0 none) u.stage (none_serves r.book r.served s.homes r.book home u.stage theirs.turn); one = theirs.one })
            (inr (out, (id, w, ticket, r.book, set_here s.views id w (within s.views id v at), refl))),
        λ t e. let is : ticket ≡ t = cc in
            at_true _ _ _ (eq-eqb _ _ (hit ∙ ap (λ n. n % 2 ^ 64) is)) (r.book, ap (λ n. (view (k ∷ []) (Serving n r.book), (0, r.book) ∷ [])) is, r.legal, mine.fit),
      ))
      (λ away.
      let serving = away.1 in
      let theirs = r.each serving.0 serving.1 serving.4 in
      let turn : HasTurn r.book r.served s.homes (Serving serving.2 serving.3) = subst (HasTurn r.book r.served s.homes) serving.5 theirs.turn in
      let apart : serving.0 ≢ id = λ e. let both : v ≡ serving.1 = some-injective v serving.1 (sym at ∙ (ap (get_elem? s.views) (sym e) ∙ serving.4)) in cc (ap (λ (x : View). x.stage) both, serving.5) in
      absurd (held_once callers s r id serving.0 v serving.1 ticket apart at serving.4 (only-same ticket ticket refl)
      (ap (ticket_weight (only ticket)) serving.5 ∙ only-same ticket serving.2 (turn.0 ∙ now))))
      r.place)
      (λ miss. (
        v,
        keeps,
        tt,
        subst (λ (x : List ℕ × List View). Rule record { words = x.0; homes = s.homes; views = x.1 }) (λ i. (sym same i, sym (set_again s.views id v at) i)) r,
        λ t e. let is : ticket ≡ t = cc in at_false _ _ _ (ne_eqb _ _ (λ h. miss (h ∙ ap (λ n. n % 2 ^ 64) (sym is)))) refl,
      ))

  pub looks : (slots id : ℕ) (m : Sat) (k : Known) (ticket : ℕ) → m ≡ waiting k ticket → Allows Rule slots id m 2 (λ n. n) (Looks (step slots 2 0 0 none) m)
  looks slots id m k ticket e = subst (λ x. Allows Rule slots id x 2 (λ n. n) (Looks (step slots 2 0 0 none) x)) (sym e) (looks_waiting slots id k ticket)

  counts_turn : (slots id : ℕ) (k : Known) (ticket : ℕ) (before after : Contents) → IsNext k.number before after
      → Allows Rule slots id (turn k ticket before after) 0 (λ n. (n + 1) % 2 ^ 64) (Counts (step slots 0 1 0 none) (turn k ticket before after))
  counts_turn slots id k ticket before after next s r wide at _ =
      let v : View = view (k ∷ []) (Serving ticket before) in
      let w : View = view (knowing after k ∷ []) (Serving ticket after) in
      let mine = r.each id v at in
      let now = mine.turn.0 in
      let same : before ≡ r.book = mine.turn.1 in
      let call : Call = next.call in
      let by : caller_of call ≡ k.number = next.by in
      let made : after.calls ≡ r.book.calls ++ call ∷ [] = next.made ∙ ap (λ (b : Contents). b.calls ++ call ∷ []) same in
      let follows : Follows r.book after = subst (λ b. Follows b after) same (follows_next k.number before after next) in
      let long : length after.calls ≡ length r.book.calls + 1 = ap length made ∙ length-append r.book.calls (call ∷ []) in
      let few = next.legal.few_calls in
      let words : List ℕ = set s.words 0 ((get_or s.words 0 0 + 1) % 2 ^ 64) in
      let are : words ≡ length after.calls ∷ r.drawn % 2 ^ 64 ∷ r.served % 2 ^ 64 ∷ [] =
      ap (λ ws. set ws 0 ((get_or ws 0 0 + 1) % 2 ^ 64)) r.words ∙ ap (λ n. n ∷ r.drawn % 2 ^ 64 ∷ r.served % 2 ^ 64 ∷ []) (omega arith) in
      let one : number_weight (only k.number) v ≡ 1 = omega (arith, only-same k.number k.number refl) in
      let own : calls_of k.number after.calls ≡ k.mine ++ call ∷ [] =
      ap (calls_of k.number) made ∙ (calls_of_own k.number r.book.calls call by ∙ ap (λ cs. cs ++ call ∷ []) mine.fit.0.own) in (
        w,
        keeps,
        tt,
        changed s r id v w at after r.drawn r.served words s.homes are next.legal (next.callers ∙ (ap (λ (b : Contents). b.callers) same ∙ r.all)) (λ f. refl) (λ f. refl)
            (omega (arith, ap length own, length-append k.mine (call ∷ [])))
            record { fit = (knowing_fits after k, tt); turn = (now, refl, mine.turn.2); one = mine.one }
            (λ j u apart e. let theirs = r.each j u e in record {
              fit = all_fit_after r.book after call k.number by made follows u.known (not_theirs callers s r id j v u k.number apart at e one) theirs.fit;
              turn = no_turn after r.served s.homes u.stage (alone callers s r id j v u ticket apart at e (only-same ticket ticket refl) now);
              one = theirs.one;
            })
            (inr (mine.turn.2, (id, w, ticket, after, set_here s.views id w (within s.views id v at), refl))),
        refl,
      )

  pub counts : (slots id : ℕ) (m : Sat) (k : Known) (ticket : ℕ) (before after : Contents) → IsNext k.number before after → m ≡ turn k ticket before after
      → Allows Rule slots id m 0 (λ n. (n + 1) % 2 ^ 64) (Counts (step slots 0 1 0 none) m)
  counts slots id m k ticket before after next e =
      subst (λ x. Allows Rule slots id x 0 (λ n. (n + 1) % 2 ^ 64) (Counts (step slots 0 1 0 none) x)) (sym e) (counts_turn slots id k ticket before after next)

  leaves_turn : (slots id : ℕ) (k : Known) (ticket : ℕ) (book : Contents) → Allows Rule slots id (turn k ticket book book) 2 (λ n. (n + 1) % 2 ^ 64) (Leaves (step slots 2 1 0 none) (turn k ticket book book))
  leaves_turn slots id k ticket book s r wide at _ =
      let v : View = view (k ∷ []) (Serving ticket book) in
      let w : View = view (knowing book k ∷ []) Idle in
      let mine = r.each id v at in
      let now : ticket ≡ r.served = mine.turn.0 in
      let same : book ≡ r.book = mine.turn.1 in
      let words : List ℕ = set s.words 2 ((get_or s.words 2 0 + 1) % 2 ^ 64) in
      let are : words ≡ length r.book.calls ∷ r.drawn % 2 ^ 64 ∷ (r.served + 1) % 2 ^ 64 ∷ [] =
      ap (λ ws. set ws 2 ((get_or ws 2 0 + 1) % 2 ^ 64)) r.words ∙ ap (λ n. length r.book.calls ∷ r.drawn % 2 ^ 64 ∷ n ∷ []) (next_word r.served) in
      let homes : List (Option Contents) = set s.homes 0 (some book) in
      let home : homes ≡ some r.book ∷ [] = ap (λ hs. set hs 0 (some book)) mine.turn.2 ∙ ap (λ b. some b ∷ []) same in
      let own : calls_of k.number book.calls ≡ k.mine = ap (λ (b : Contents). calls_of k.number b.calls) same ∙ mine.fit.0.own in (
        w,
        gives,
        tt,
        changed s r id v w at r.book r.drawn (r.served + 1) words homes are r.legal r.all (λ f. refl)
            (λ f. omega (arith, below_more f r.served, ap f now)) (ap (λ (cs : List Call). 0 + length cs + length r.book.calls) own)
            record { fit = (subst (λ b. Fits b (knowing book k)) same (knowing_fits book k), tt); turn = tt; one = omega arith }
            (λ j u apart e. let theirs = r.each j u e in record {
              fit = theirs.fit;
              turn = no_turn r.book (r.served + 1) homes u.stage (alone callers s r id j v u ticket apart at e (only-same ticket ticket refl) now);
              one = theirs.one;
            })
            (inl home),
        refl,
      )

  pub leaves : (slots id : ℕ) (m : Sat) (k : Known) (ticket : ℕ) (book : Contents) → m ≡ turn k ticket book book
      → Allows Rule slots id m 2 (λ n. (n + 1) % 2 ^ 64) (Leaves (step slots 2 1 0 none) m)
  leaves slots id m k ticket book e =
      subst (λ x. Allows Rule slots id x 2 (λ n. (n + 1) % 2 ^ 64) (Leaves (step slots 2 1 0 none) x)) (sym e) (leaves_turn slots id k ticket book)

  tells_idle : (slots id : ℕ) (k : Known) → Allows Rule slots id (idle k) 0 (λ n. n) (Tells (step slots 0 0 0 none) (idle k))
  tells_idle slots id k s r wide at _ =
      let v : View = view (k ∷ []) Idle in
      let n : ℕ = get_or s.words 0 0 in
      let w : View = view (told_of n k ∷ []) Idle in
      let found : n ≡ length r.book.calls = ap (λ ws. get_or ws 0 0) r.words in
      let mine = r.each id v at in
      let fit = mine.fit.0 in (
        w,
        keeps,
        tt,
        changed s r id v w at r.book r.drawn r.served _ s.homes (set-get_or s.words 0 0 ∙ r.words) r.legal r.all (λ f. refl) (λ f. refl) refl
            record { fit = (record { seen = fit.seen; own = fit.own; told = omega arith }, tt); turn = tt; one = omega arith } (λ j u apart e. r.each j u e) (still_placed callers s r id v w at (λ t b e. cc)),
        (refl, λ k' e. let same : k ≡ k' = cc in subst (λ (x : Known). x.told ≤ n) same (omega (arith, fit.told))),
      )

  pub tells : (slots id : ℕ) (m : Sat) (k : Known) → m ≡ idle k → Allows Rule slots id m 0 (λ n. n) (Tells (step slots 0 0 0 none) m)
  tells slots id m k e = subst (λ x. Allows Rule slots id x 0 (λ n. n) (Tells (step slots 0 0 0 none) x)) (sym e) (tells_idle slots id k)
