-- What of sessions weighs, a stay more, and no more stays than records.
use Rattle.std.proofs.Common.{◌≡◌, ◌∙◌, ℕ, ◌+◌, ◌*◌, ◌^◌, ◌<◌, ◌≤◌, Bool, true, false, cond, List, [], ◌∷◌, ◌++◌, None, filter, get_or, length, take, ap, sym, subst, arith}
use Rattle.std.proofs.lemmas.List.{length-map, length-reverse, take_more}
use Rattle.std.proofs.lemmas.List.Elements.{filter-append}
use Rattle.std.proofs.lemmas.List.Sums.{count_by-le-length, length-filter, sum_by-append}
use Rattle.std.specs.List.{count_by, sum_by}
use Rattle.std.specs.Prelude.{◌==◌}
use Rattle.tally_check.proofs.CountLemmas.{count-push}
use Rattle.tally_check.specs.Stays.{is_crashed_session, is_open_session, stayed, stays_among, weighed}
use Rattle.tally_check.specs.declared.stays.Sessions.{Sessions}
use Rattle.tally_check.specs.declared.stays.Stayed.{Stayed}
use Rattle.tally_check.specs.inside.Weights.{AreLight, with_stay, with_stayed}
use Rattle.tally_records.specs.Event.{event_of}
use Rattle.tally_records.specs.declared.login.LoginRecord.{LoginRecord}
use Rattle.tally_sessions.specs.Hosts.{of_host}
use Rattle.tally_sessions.specs.Stays.{starts_stay, stay_of, stays_from}
use Rattle.tally_sessions.specs.Totals.{stays_of}
use Rattle.tally_sessions.specs.declared.entry.Entry.{Entry}
use Rattle.tally_sessions.specs.declared.entry.Stay.{Stay}

abbrev long : Stay → ℕ
long s = s.length

stayed-push : (p : Stay → Bool) (xs : List Stay) (s : Stay) → stayed p (xs ++ s ∷ []) ≡ with_stayed (stayed p xs) (p s) s.length
stayed-push p xs s = (λ i. record { count = count-push p xs s i; seconds = seconds i }) ∙ by (p s) (count_by p xs) (sum_by long (filter p xs))
  where
    seconds : sum_by long (filter p (xs ++ s ∷ [])) ≡ sum_by long (filter p xs) + sum_by long (cond (p s) (s ∷ []) [])
    seconds = ap (sum_by long) (filter-append p xs (s ∷ [])) ∙ sum_by-append long (filter p xs) (filter p (s ∷ []))

    by : (b : Bool) (n m : ℕ) → record { count = n + cond b 1 0; seconds = m + sum_by long (cond b (s ∷ []) []) } ≡ with_stayed (record { count = n; seconds = m }) b s.length
    by true n m = (let same : m + sum_by long (s ∷ []) ≡ m + s.length = omega arith in ap (λ (k : ℕ). record { count = n + 1; seconds = k }) same)
    by false n m =
        (let first : n + 0 ≡ n = omega arith in
        let second : m + 0 ≡ m = omega arith in
        λ i. record { count = first i; seconds = second i })

weighed-push : (xs : List Stay) (s : Stay) → weighed (xs ++ s ∷ []) ≡ with_stay (weighed xs) s
weighed-push xs s = λ i. record { still_open = stayed-push is_open_session xs s i; crashed = stayed-push is_crashed_session xs s i }

pub weighed-next : (xs : List Stay) (k : ℕ) (s : Stay) (now new : Sessions) → k < length xs → s ≡ get_or xs k s → now ≡ weighed (take k xs) → new ≡ with_stay now s → new ≡ weighed (take (k + 1) xs)
weighed-next xs k s now new within at was is =
    is ∙ ap (λ (w : Sessions). with_stay w s) was ∙ sym (weighed-push (take k xs) s)
    ∙ ap (λ (x : Stay). weighed (take k xs ++ x ∷ [])) at ∙ ap weighed (sym (take_more xs k s within))

-- ---- no number is too large

stayed-light : (b : Bool) (old : Stayed) (length k : ℕ) → length < 2 ^ 32 → old.count ≤ k → old.seconds ≤ k * 2 ^ 32
    → ((with_stayed old b length).count ≤ k + 1) × ((with_stayed old b length).seconds ≤ (k + 1) * 2 ^ 32)
stayed-light true old length k short count seconds = (omega (arith, count), omega (arith, seconds, short))
stayed-light false old length k short count seconds = (omega (arith, count), omega (arith, seconds))

-- so many stays weigh no more than this
pub record AreWithin (sessions : Sessions) (k : ℕ) : Type 0 where
  pub open_count : sessions.still_open.count ≤ k
  pub open_seconds : sessions.still_open.seconds ≤ k * 2 ^ 32
  pub crashed_count : sessions.crashed.count ≤ k
  pub crashed_seconds : sessions.crashed.seconds ≤ k * 2 ^ 32

pub within-next : (sessions new : Sessions) (s : Stay) (k : ℕ) → s.length < 2 ^ 32 → AreWithin sessions k → new ≡ with_stay sessions s → AreWithin new (k + 1)
within-next sessions new s k short was is =
    let opened = stayed-light (is_open_session s) sessions.still_open s.length k short was.open_count was.open_seconds in
    let crashed = stayed-light (is_crashed_session s) sessions.crashed s.length k short was.crashed_count was.crashed_seconds in
    subst (λ (w : Sessions). AreWithin w (k + 1)) (sym is)
    (record { open_count = opened.0; open_seconds = opened.1; crashed_count = crashed.0; crashed_seconds = crashed.1 })

pub light-within : (sessions : Sessions) (k : ℕ) → k ≤ 2 ^ 24 → AreWithin sessions k → AreLight sessions
light-within sessions k few within = record {
  open_count = omega (arith, few, within.open_count);
  open_seconds = omega (arith, few, within.open_seconds);
  crashed_count = omega (arith, few, within.crashed_count);
  crashed_seconds = omega (arith, few, within.crashed_seconds);
}

-- ---- no more stays than entries

length-filter-le : {X : Type 0} (p : X → Bool) (xs : List X) → length (filter p xs) ≤ length xs
length-filter-le p xs = omega (arith, length-filter p xs, count_by-le-length p xs)

one-at-most : (b : Bool) (s : Stay) (ss : List Stay) (n : ℕ) → length ss ≤ n → length (cond b (s ∷ ss) ss) ≤ n + 1
one-at-most true s ss n h = omega arith
one-at-most false s ss n h = omega arith

length-stays_from : (before rs : List LoginRecord) → length (stays_from 0 before rs None) ≤ length rs
length-stays_from before [] = omega arith
length-stays_from before (r ∷ rs) =
    (let most = one-at-most (starts_stay (event_of r)) (stay_of 0 before r rs None) (stays_from 0 (before ++ r ∷ []) rs None) (length rs) (length-stays_from (before ++ r ∷ []) rs) in
    omega arith)

pub few-stays : (entries : List Entry) → length (stays_of 0 entries None) ≤ length entries
few-stays entries =
    let own = length-map (filter (λ (e : Entry). e.host == 0) entries) (λ (e : Entry). e.item) in
    omega (arith, length-stays_from [] (of_host 0 entries), own, length-filter-le (λ (e : Entry). e.host == 0) entries)

pub as-many : (entries : List Entry) → length (stays_among entries) ≡ length (stays_of 0 entries None)
as-many entries = length-reverse (stays_of 0 entries None)
