-- Who holds which ticket, and where the book is then.
use Rattle.std.proofs.Common.{◌≡◌, ℕ, ◌+◌, ◌<◌, ◌≤◌, ◌≢◌, List, [], ◌∷◌, set, sym, refl, ap, ◌∙◌, subst, inl, inr, ⊎_elim, arith, lt_of_not-le}
use mathlib.Core.Logic.{dite}
use mathlib.Core.Option.{Option, some, some-injective}
use native.Mathlib.Decide.{dec_le}
use lib.ListN.{get_elem?}
use Rattle.atomic_table.specs.Table.{State}
use Rattle.atomic_table.proofs.Lists.{set_else}
use Rattle.tally_book.specs.Contents.{Contents}
use Rattle.tally_desk.specs.declared.lock.view.Stage.{Stage}
use Rattle.tally_desk.specs.declared.lock.view.Stage.TheVariants.{Idle, Waiting, Serving}
use Rattle.tally_desk.specs.declared.lock.view.View.{View}
use Rattle.tally_desk.specs.inside.Views.{ticket_weight, number_weight}
use Rattle.tally_desk.specs.inside.Rule.{Orderly, HasTurn, Placed}
use Rattle.tally_desk.proofs.Totals.{term_le, terms_le, total_le, below-one, only, only-same, below-only}

-- a table of the lock
abbrev pub St : Type 0
St = State Contents View

-- a seat that does not serve has nothing to show of the turn
pub no_turn : (book : Contents) (served : ℕ) (homes : List (Option Contents)) (stage : Stage) → ((ticket : ℕ) (held : Contents) → stage ≢ Serving ticket held) → HasTurn book served homes stage
no_turn book served homes Idle never = tt
no_turn book served homes (Waiting t) never = tt
no_turn book served homes (Serving t held) never = absurd (never t held refl)

-- where the book is at home no seat serves
pub none_serves : (book : Contents) (served : ℕ) (homes : List (Option Contents)) (b : Contents) → homes ≡ some b ∷ [] → (stage : Stage) → HasTurn book served homes stage → (ticket : ℕ) (held : Contents) → stage ≢ Serving ticket held
none_serves book served homes b home Idle h ticket held e = cc
none_serves book served homes b home (Waiting t) h ticket held e = cc
none_serves book served homes b home (Serving t x) h ticket held e = absurd (cc (h.2, home))

-- a seat that serves is none that does not
pub apart_from : (views : List View) (i j : ℕ) (v u : View) (ticket : ℕ) (held : Contents) → get_elem? views i ≡ some v → get_elem? views j ≡ some u → u.stage ≡ Serving ticket held
    → ((t : ℕ) (b : Contents) → v.stage ≢ Serving t b) → j ≢ i
apart_from views i j v u ticket held at there serves never same = never ticket held (ap (λ (x : View). x.stage) (some-injective v u (sym at ∙ (ap (get_elem? views) (sym same) ∙ there))) ∙ serves)

-- the book stays where it is, while no seat changes that serves
pub placed_by : (book : Contents) (homes : List (Option Contents)) (views next : List View)
    → ((j : ℕ) (u : View) (ticket : ℕ) (held : Contents) → get_elem? views j ≡ some u → u.stage ≡ Serving ticket held → get_elem? next j ≡ some u) → Placed book homes views → Placed book homes next
placed_by book homes views next kept = ⊎_elim inl (λ p. inr (p.0, (p.1.0, p.1.1, p.1.2, p.1.3, kept p.1.0 p.1.1 p.1.2 p.1.3 p.1.4 p.1.5, p.1.5)))

module _ (callers : ℕ) where
  abbrev Rule : St → Type 0
  Rule = Orderly callers

  -- the book stays where it is, while a seat changes that does not serve
  pub still_placed : (s : St) (r : Rule s) (id : ℕ) (v w : View) → get_elem? s.views id ≡ some v → ((ticket : ℕ) (held : Contents) → v.stage ≢ Serving ticket held) → Placed r.book s.homes (set s.views id w)
  still_placed s r id v w at never =
      placed_by r.book s.homes s.views (set s.views id w) (λ j u t b there serves. set_else s.views id j w (apart_from s.views id j v u t b at there serves never) ∙ there) r.place

  -- a ticket that is held is one of those that wait
  pub held_range : (s : St) (r : Rule s) (j : ℕ) (v : View) (ticket : ℕ) → get_elem? s.views j ≡ some v → ticket_weight (only ticket) v.stage ≡ 1 → (r.served ≤ ticket) × (ticket < r.drawn)
  held_range s r j v ticket at one =
      let part = term_le (λ (x : View). ticket_weight (only ticket) x.stage) s.views j v at in
      let whole = r.tickets (only ticket) in
      let low = below-only ticket r.served in
      let high = below-only ticket r.drawn in
      let gone = low.2 in
      let later = high.1 in (
        dite (dec_le r.served ticket) (λ y. y) (λ n. let over = gone (lt_of_not-le n) in absurd (omega (arith, high.0))),
        dite (dec_le r.drawn ticket) (λ y. let not-yet = later y in absurd (omega arith)) (λ n. lt_of_not-le n),
      )

  -- no ticket is held twice
  pub held_once : (s : St) (r : Rule s) (i j : ℕ) (v u : View) (ticket : ℕ) → j ≢ i → get_elem? s.views i ≡ some v → get_elem? s.views j ≡ some u
      → ticket_weight (only ticket) v.stage ≡ 1 → ticket_weight (only ticket) u.stage ≡ 1 → ⊥
  held_once s r i j v u ticket apart here there one other =
      let part = terms_le (λ (x : View). ticket_weight (only ticket) x.stage) s.views i j v u apart here there in
      let whole = r.tickets (only ticket) in
      let high = below-only ticket r.drawn in omega (arith, high.0)

  -- no more tickets wait than there are callers
  pub few_wait : (s : St) (r : Rule s) → r.drawn ≤ r.served + 128
  few_wait s r =
      let least = total_le (λ (x : View). ticket_weight (λ _. 1) x.stage) (number_weight (λ _. 1)) s.views (λ j v e. (r.each j v e).one) in
      let tickets = r.tickets (λ _. 1) in
      let numbers = r.numbers (λ _. 1) in
      omega (arith, r.legal.few_callers, r.all, below-one r.served, below-one r.drawn, below-one callers)

  -- no other seat serves
  pub alone : (s : St) (r : Rule s) (id j : ℕ) (v u : View) (ticket : ℕ) → j ≢ id → get_elem? s.views id ≡ some v → get_elem? s.views j ≡ some u
      → ticket_weight (only ticket) v.stage ≡ 1 → ticket ≡ r.served → (t : ℕ) (held : Contents) → u.stage ≢ Serving t held
  alone s r id j v u ticket apart here there one now t held e =
      let theirs = r.each j u there in
      let turn : HasTurn r.book r.served s.homes (Serving t held) = subst (HasTurn r.book r.served s.homes) e theirs.turn in
      held_once s r id j v u ticket apart here there one (ap (ticket_weight (only ticket)) e ∙ only-same ticket t (turn.0 ∙ sym now))

  -- no other seat stands for the caller
  pub not_theirs : (s : St) (r : Rule s) (id j : ℕ) (v u : View) (number : ℕ) → j ≢ id → get_elem? s.views id ≡ some v → get_elem? s.views j ≡ some u
      → number_weight (only number) v ≡ 1 → number_weight (only number) u ≡ 0
  not_theirs s r id j v u number apart here there one =
      let part = terms_le (number_weight (only number)) s.views id j v u apart here there in
      let whole = r.numbers (only number) in
      let most = below-only number callers in omega (arith, most.0)
