-- The sums of ended sessions, after one stay that is ended.
use Rattle.std.proofs.Common.{◌≡◌, ◌≢◌, ◌⊎◌, inl, inr, ℕ, ◌+◌, ◌*◌, ◌<◌, ◌≤◌, ◌&&◌, Bool, if◌then◌else◌, true, false, cond, List, [], ◌∷◌, ◌++◌, length, get_or, set, Option, Some, None, unwrap_or, ℤ, length-append, refl, sym, ap, subst, ◌∙◌, arith}
use Rattle.std.proofs.lemmas.Bool.{cases_eq}
use Rattle.std.proofs.lemmas.List.{append-nil, get_or_default, get_or-set_same, get_or-set_other, length-set}
use Rattle.std.proofs.lemmas.List.Sums.{sum_by-append, sum_by-set, sum_by-le}
use Rattle.std.specs.Map.{keys_of, lookup}
use Rattle.std.specs.Option.{option_map_or}
use Rattle.std.specs.Prelude.{bytes_eq, slice_get, sum_by}
use Rattle.std.proofs.lemmas.Map.Entries.{length-keys_of}
use Rattle.tally_records.specs.declared.login.Event.TheVariants.{Boot, Login}
use Rattle.tally_records.specs.Event.{event_of}
use Rattle.tally_records.specs.declared.login.LoginRecord.{LoginRecord}
use Rattle.tally_sessions.specs.declared.entry.Entry.{Entry}
use Rattle.tally_sessions.specs.declared.track.ended.EndedSums.{EndedSums}
use Rattle.tally_sessions.specs.declared.track.ending.Ending.{Ending}
use Rattle.tally_sessions.specs.declared.track.ending.TheConstants.{NO_USER}
use Rattle.tally_sessions.specs.declared.track.ending.TrackedStay.{TrackedStay}
use Rattle.tally_sessions.specs.inside.Entries.{entry_at}
use Rattle.tally_sessions.specs.inside.Track.{length_of, no_stay, stay_at, start_of, counts, ended_length, ended_sum, covers, is_login_event, sum_of, started, HasSums, HasUser, LengthFits}
use Rattle.tally_sessions.specs.inside.Numbers.{Numbers, StandsAt}
use Rattle.tally_sessions.specs.Stays.{starts_stay}
use Rattle.tally_sessions.proofs.track.Places.{each-push}

-- whether a login counts
pub counts_alike : (start : LoginRecord) → event_of start ≡ Login → (who : Option (List ℕ)) → counts who start ≡ covers who start.user
counts_alike start login None = ap is_login_event login
counts_alike start login (Some user) = ap (λ e. is_login_event e && bytes_eq start.user user) login

-- tables of the same names are as long
pub same_length : (xs ys : List (List ℕ × ℕ)) → keys_of ys ≡ keys_of xs → length ys ≡ length xs
same_length xs ys h = sym (length-keys_of ys) ∙ ap length h ∙ length-keys_of xs

-- a user stands where it stood, while no name moves
HasUser-kept : (es : List Entry) (old new : Numbers) (t : TrackedStay) → keys_of new.entries ≡ keys_of old.entries → HasUser es old t → HasUser es new t
HasUser-kept es old new t kept h = record {
  login = λ login. subst (λ names. slice_get names t.user ≡ Some (start_of es t).user) (sym kept) (h.login login);
  boot = h.boot;
}

-- one stay is replaced by its next state
pub HasSums-set : (es : List Entry) (sums sums' : EndedSums) (ts : List TrackedStay) (i : ℕ) (before after : TrackedStay) → HasSums es sums ts → i < length ts → stay_at ts i ≡ before → after.entry ≡ before.entry → after.user ≡ before.user
    → ((who : Option (List ℕ)) → sum_of sums' who + ended_length who es before ≡ sum_of sums who + ended_length who es after)
    → keys_of sums'.users.entries ≡ keys_of sums.users.entries → LengthFits after → HasSums es sums' (set ts i after)
HasSums-set es sums sums' ts i before after h lt is same same_user moved kept fits = record {
  at = λ who.
      let f = ended_length who es in
      let step : sum_by f (set ts i after) + f before ≡ sum_by f ts + f after = subst (λ t. sum_by f (set ts i after) + f t ≡ sum_by f ts + f after) is (sum_by-set f ts i after no_stay lt) in
      balance (sum_of sums' who) (sum_of sums who) (sum_by f (set ts i after)) (sum_by f ts) (f before) (f after) (moved who) (h.at who) step;
  entered = λ k within. by_entered k (omega (arith, length-set ts i after)) (cases_eq k i);
  few = omega (arith, h.few, length-set ts i after, same_length sums.users.entries sums'.users.entries kept);
  fits = λ k within. by_fits k (omega (arith, length-set ts i after)) (cases_eq k i);
}
  where
    balance : (n' n s' s b a : ℕ) → n' + b ≡ n + a → n ≡ s → s' + b ≡ s + a → n' ≡ s'
    balance n' n s' s b a p q r = omega arith

    here : stay_at (set ts i after) i ≡ after
    here = get_or-set_same ts i after no_stay lt

    has_user : HasUser es sums'.users after
    has_user =
        let was : HasUser es sums.users before = subst (HasUser es sums.users) is (h.entered i lt) in
        let moved : HasUser es sums.users (record after { entry = before.entry; user = before.user }) = record { login = was.login; boot = was.boot } in
        HasUser-kept es sums.users sums'.users after kept (subst (HasUser es sums.users) (λ j. record after { entry = sym same j; user = sym same_user j }) moved)

    by_entered : (k : ℕ) → k < length ts → (k ≡ i) ⊎ (k ≢ i) → HasUser es sums'.users (stay_at (set ts i after) k)
    by_entered k within (inl e) = subst (λ j. HasUser es sums'.users (stay_at (set ts i after) j)) (sym e) (subst (HasUser es sums'.users) (sym here) has_user)
    by_entered k within (inr other) =
        subst (HasUser es sums'.users) (sym (get_or-set_other ts i k after no_stay other))
        (HasUser-kept es sums.users sums'.users (stay_at ts k) kept (h.entered k within))

    by_fits : (k : ℕ) → k < length ts → (k ≡ i) ⊎ (k ≢ i) → LengthFits (stay_at (set ts i after) k)
    by_fits k within (inl e) = subst (λ j. LengthFits (stay_at (set ts i after) j)) (sym e) (subst LengthFits (sym (get_or-set_same ts i after no_stay lt)) fits)
    by_fits k within (inr other) = subst LengthFits (sym (get_or-set_other ts i k after no_stay other)) (h.fits k within)

-- a pending stay gets an end
pub HasSums-close : (es : List Entry) (sums sums' : EndedSums) (ts : List TrackedStay) (i : ℕ) (ending : Ending) → HasSums es sums ts → i < length ts → (stay_at ts i).ended ≡ None
    → ((who : Option (List ℕ)) → sum_of sums' who ≡ sum_of sums who + (if counts who (start_of es (stay_at ts i)) then length_of ending else 0))
    → keys_of sums'.users.entries ≡ keys_of sums.users.entries → length_of ending < 4294967296 → HasSums es sums' (set ts i (record (stay_at ts i) { ended = Some ending }))
HasSums-close es sums sums' ts i ending h lt pending more kept fits =
    HasSums-set es sums sums' ts i (stay_at ts i) (record (stay_at ts i) { ended = Some ending }) h lt refl refl refl
    (λ who. moved (counts who (start_of es (stay_at ts i))) (sum_of sums' who) (sum_of sums who) (stay_at ts i).ended pending (more who))
    kept (λ e is. subst (λ n. n < 4294967296) (ap (λ o. option_map_or length_of o 0) is) fits)
  where
    moved : (b : Bool) (n' n : ℕ) (o : Option Ending) → o ≡ None → n' ≡ n + cond b (length_of ending) 0 → n' + cond b (option_map_or length_of o 0) 0 ≡ n + cond b (length_of ending) 0
    moved b n' n o none more = ap (λ e. n' + cond b (option_map_or length_of e 0) 0) none ∙ by b more
      where
        by : (b : Bool) → n' ≡ n + cond b (length_of ending) 0 → n' + cond b 0 0 ≡ n + cond b (length_of ending) 0
        by true h = omega arith
        by false h = omega arith

-- a sum is below 2^52
few_seconds : (b : Bool) (o : Option Ending) → ((e : Ending) → o ≡ Some e → length_of e < 4294967296) → cond b (option_map_or length_of o 0) 0 ≤ 4294967295
few_seconds false o h = omega arith
few_seconds true None h = omega arith
few_seconds true (Some e) h = let l = h e refl in omega arith

pub ended_sum-le : (who : Option (List ℕ)) (es : List Entry) (ts : List TrackedStay) → ((k : ℕ) → k < length ts → LengthFits (stay_at ts k)) → ended_sum who es ts ≤ length ts * 4294967295
ended_sum-le who es ts fits =
    sum_by-le (ended_length who es) 4294967295 ts
    (λ k d lt. subst (λ t. ended_length who es t ≤ 4294967295) (get_or_default ts k no_stay d lt) (few_seconds (counts who (start_of es (stay_at ts k))) (stay_at ts k).ended (fits k lt)))

ended_nothing : (who : Option (List ℕ)) (es : List Entry) (n : ℕ) (now : ℤ) (user : ℕ) (b : Bool) → ended_sum who es (cond b (record { entry = n; clock_at = now; ended = None; user = user; start = (entry_at es n).item.time } ∷ []) []) ≡ 0
ended_nothing who es n now user false = refl
ended_nothing who es n now user true = let none = no_length (counts who (entry_at es n).item) 0 in omega arith
  where
    no_length : (b : Bool) (z : ℕ) → cond b z z ≡ z
    no_length true z = refl
    no_length false z = refl

add_nothing : (m n : ℕ) → n ≡ 0 → m + n ≡ m
add_nothing m n h = omega arith

-- the stay that the entry at n starts has ended nothing
pub HasSums-start : (es : List Entry) (n : ℕ) (now : ℤ) (user : ℕ) (sums sums' : EndedSums) (ts : List TrackedStay) → HasSums es sums ts → ((who : Option (List ℕ)) → sum_of sums' who ≡ sum_of sums who)
    → ((place : ℕ) (name : List ℕ) → StandsAt sums.users place name → StandsAt sums'.users place name) → (event_of (entry_at es n).item ≡ Login → StandsAt sums'.users user (entry_at es n).item.user) → (event_of (entry_at es n).item ≡ Boot → user ≡ NO_USER)
    → length sums'.users.entries + length ts ≤ length sums.users.entries + length (ts ++ started es n now user) → HasSums es sums' (ts ++ started es n now user)
HasSums-start es n now user sums sums' ts h same kept entered boot few = by (starts_stay (event_of (entry_at es n).item)) few
  where
    new : TrackedStay
    new = record { entry = n; clock_at = now; ended = None; user = user; start = (entry_at es n).item.time }

    none≢some : (e : Ending) → None ≡ Some e → ⊥
    none≢some e h = cc

    still : (k : ℕ) → k < length ts → HasUser es sums'.users (stay_at ts k)
    still k lt = record { login = λ login. kept _ _ ((h.entered k lt).login login); boot = (h.entered k lt).boot }

    old_has_user : (k : ℕ) (d : TrackedStay) → k < length ts → HasUser es sums'.users (get_or ts k d)
    old_has_user k d lt = subst (HasUser es sums'.users) (get_or_default ts k no_stay d lt) (still k lt)

    by : (b : Bool) → length sums'.users.entries + length ts ≤ length sums.users.entries + length (ts ++ cond b (new ∷ []) []) → HasSums es sums' (ts ++ cond b (new ∷ []) [])
    by true few = record {
      at = λ who. same who ∙ h.at who ∙ sym (sum_by-append (ended_length who es) ts (new ∷ []) ∙ add_nothing (ended_sum who es ts) _ (ended_nothing who es n now user true));
      entered = λ k within. each-push (HasUser es sums'.users) ts (length ts) new refl old_has_user (record { login = entered; boot = boot }) k no_stay (omega (arith, length-append ts (new ∷ [])));
      fits = λ k within. each-push LengthFits ts (length ts) new refl (λ j d lt. subst LengthFits (get_or_default ts j no_stay d lt) (h.fits j lt)) (λ e no. absurd (none≢some e no)) k no_stay (omega (arith, length-append ts (new ∷ [])));
      few = omega (arith, few, h.few);
    }
    by false few =
        subst (HasSums es sums') (sym (append-nil ts))
        (record { at = λ who. same who ∙ h.at who; entered = still; fits = h.fits; few = omega (arith, few, h.few, ap length (append-nil ts)) })

-- the same sums, in a table with more room
pub HasSums-same : (es : List Entry) (a b : EndedSums) (ts : List TrackedStay) → b.all ≡ a.all → b.users.entries ≡ a.users.entries → HasSums es a ts → HasSums es b ts
HasSums-same es a b ts all users h = record {
  at = λ who. by who ∙ h.at who;
  entered = λ k lt. HasUser-kept es a.users b.users (stay_at ts k) (ap keys_of users) (h.entered k lt);
  few = omega (arith, h.few, ap length users);
  fits = h.fits;
}
  where
    by : (who : Option (List ℕ)) → sum_of b who ≡ sum_of a who
    by None = all
    by (Some user) = ap (λ us. unwrap_or (lookup (bytes_eq user) us) 0) users
