-- Steps back, one record more.
use Rattle.std.proofs.Common.{◌≡◌, ℕ, ◌+◌, ◌≤◌, Bool, cond, List, [], ◌∷◌, ◌++◌, length, Option, Some, None, refl, sym, ap, ◌∙◌, arith, ℤ}
use Rattle.std.proofs.lemmas.List.{append-nil, append_assoc, reverse-append}
use Rattle.std.proofs.lemmas.List.Elements.{filter_map-append}
use Rattle.std.proofs.lemmas.List.Sums.{count_by-le-length, fold-append}
use Rattle.std.specs.List.{cons_option, count_by, filter_map, find, fold, last_or}
use Rattle.std.specs.Prelude.{max, nat_lt, option_and_then, option_map, reverse}
use Rattle.tally_check.specs.Logins.{good_login, logins_in}
use Rattle.tally_check.specs.Steps.{last_time, step_back, steps_from, steps_in}
use Rattle.tally_check.specs.declared.steps.Steps.{Steps}
use Rattle.tally_check.specs.inside.Stepping.{after, after_if, pending_after, walk_of, with_step}
use Rattle.tally_records.specs.Event.{event_of}
use Rattle.tally_records.specs.declared.login.Event.{Event}
use Rattle.tally_records.specs.declared.login.Event.TheVariants.{Login, Logout, Boot, Down, OldTime, NewTime, Nothing}
use Rattle.tally_records.specs.declared.login.LoginRecord.{LoginRecord}
use Rattle.tally_sessions.specs.Clock.{is_clock_event, old_time_at, pending_old_time}

last_or-push : (o : Option LoginRecord) (rs : List LoginRecord) (r : LoginRecord) → last_or o (rs ++ r ∷ []) ≡ Some r
last_or-push o [] r = refl
last_or-push o (q ∷ rs) r = last_or-push (Some q) rs r

last_time-push : (rs : List LoginRecord) (r : LoginRecord) → last_time (rs ++ r ∷ []) ≡ Some r.time
last_time-push rs r = ap (λ (o : Option LoginRecord). option_map (λ (q : LoginRecord). q.time) o) (last_or-push None rs r)

steps_from-push : (before rs : List LoginRecord) (r : LoginRecord) → steps_from before (rs ++ r ∷ []) ≡ steps_from before rs ++ step_back (before ++ rs) r ∷ []
steps_from-push before [] r = ap (λ (b : List LoginRecord). step_back b r ∷ []) (sym (append-nil before))
steps_from-push before (q ∷ rs) r =
    ap (λ (xs : List ℕ). step_back before q ∷ xs) (steps_from-push (before ++ q ∷ []) rs r)
    ∙ ap (λ (b : List LoginRecord). step_back before q ∷ (steps_from (before ++ q ∷ []) rs ++ step_back b r ∷ [])) (append_assoc before (q ∷ []) rs)

abbrev is_clock : LoginRecord → Bool
is_clock q = is_clock_event (event_of q)

abbrev old : Option LoginRecord → Option ℤ
old o = option_and_then (λ (q : LoginRecord). old_time_at (event_of q) q.time) o

pending-push : (rs : List LoginRecord) (r : LoginRecord) → pending_old_time (rs ++ r ∷ []) ≡ pending_after (pending_old_time rs) (event_of r) r.time
unfolding pending_old_time
pending-push rs r =
    ap (λ (xs : List LoginRecord). old (find is_clock xs)) (reverse-append rs (r ∷ [])) ∙ by (event_of r) refl
  where
    by : (e : Event) → event_of r ≡ e → old (cond (is_clock_event e) (Some r) (find is_clock (reverse rs))) ≡ pending_after (old (find is_clock (reverse rs))) e r.time
    by OldTime is = ap (λ (e : Event). old_time_at e r.time) is
    by NewTime is = ap (λ (e : Event). old_time_at e r.time) is
    by Login is = refl
    by Logout is = refl
    by Boot is = refl
    by Down is = refl
    by Nothing is = refl

with_step-is : (ss : List ℕ) (s : ℕ) → with_step (record { count = count_by (nat_lt 0) ss; greatest = fold max 0 ss }) s ≡ record { count = count_by (nat_lt 0) (ss ++ s ∷ []); greatest = fold max 0 (ss ++ s ∷ []) }
with_step-is ss s = λ i. record {
  count = sym (fold-append (λ (a x : ℕ). a + cond (nat_lt 0 x) 1 0) 0 ss (s ∷ [])) i;
  greatest = sym (fold-append max 0 ss (s ∷ [])) i;
}

abbrev counted : List ℕ → Steps
counted ss = record { count = count_by (nat_lt 0) ss; greatest = fold max 0 ss }

after-is : (rs : List LoginRecord) (r : LoginRecord) → after (walk_of rs) r ≡ walk_of (rs ++ r ∷ [])
after-is rs r =
    let steps : with_step (steps_in rs) (step_back rs r) ≡ steps_in (rs ++ r ∷ []) = with_step-is (steps_from [] rs) (step_back rs r)
    ∙ ap (λ (ss : List ℕ). counted ss) (sym (steps_from-push [] rs r)) in
    λ i. record {
      last = sym (last_time-push rs r) i;
      pending = sym (pending-push rs r) i;
      steps = steps i;
    }

after_if-is : (rs : List LoginRecord) (o : Option LoginRecord) → after_if (walk_of rs) o ≡ walk_of (rs ++ filter_map (λ (x : Option LoginRecord). x) (o ∷ []))
after_if-is rs None = ap walk_of (sym (append-nil rs))
after_if-is rs (Some r) = after-is rs r

-- nothing is kept of no records
pub walk-none : record { last = None; pending = None; steps = record { count = 0; greatest = 0 } } ≡ walk_of []
unfolding pending_old_time
walk-none = refl

-- one record more
pub walk-push : (records : List (List ℕ)) (b : List ℕ) → after_if (walk_of (logins_in records)) (good_login b) ≡ walk_of (logins_in (records ++ b ∷ []))
walk-push records b =
    after_if-is (logins_in records) (good_login b)
    ∙ ap walk_of (sym (filter_map-append good_login records (b ∷ [])))

length-steps_from : (before rs : List LoginRecord) → length (steps_from before rs) ≡ length rs
length-steps_from before [] = refl
length-steps_from before (r ∷ rs) = (let rest = length-steps_from (before ++ r ∷ []) rs in omega arith)

at-most-one-more : (o : Option LoginRecord) (rest : List LoginRecord) (n : ℕ) → length rest ≤ n → length (cons_option o rest) ≤ n + 1
at-most-one-more None rest n h = omega arith
at-most-one-more (Some r) rest n h = omega arith

pub length-logins_in : (records : List (List ℕ)) → length (logins_in records) ≤ length records
length-logins_in [] = omega arith
length-logins_in (b ∷ records) = (let more = at-most-one-more (good_login b) (logins_in records) (length records) (length-logins_in records) in omega arith)

-- no more steps than records
pub few-steps : (records : List (List ℕ)) → (walk_of (logins_in records)).steps.count ≤ length records
few-steps records =
    omega (arith, count_by-le-length (nat_lt 0) (steps_from [] (logins_in records)), length-steps_from [] (logins_in records), length-logins_in records)
