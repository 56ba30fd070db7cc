-- Counts of files of login records, in the words of the inputs and of a run.
use Rattle.std.proofs.Common.{◌≡◌, ◌∙◌, ◌≤◌, ◌<◌, ◌+◌, inl, inr, ℕ, zero, suc, Bool, true, List, [], ◌∷◌, Option, map, take, length, get_or, ap, sym, subst, refl, arith}
use Rattle.std.proofs.lemmas.List.{get_or-map, length-map}
use Rattle.std.proofs.lemmas.List.Sums.{sum_by_more, sum_by-take-le}
use Rattle.std.specs.List.{All}
use Rattle.std.specs.Prelude.{sum_by}
use Rattle.tally_book.specs.Rooms.{batches_in}
use Rattle.tally_desk.specs.Batches.{records_in, stored_kind}
use Rattle.tally_desk.specs.Feeds.{good_batches}
use Rattle.tally_desk.specs.LoginCounting.{IsLoginFault, IsOfInput}
use Rattle.tally_desk.specs.declared.fault.FeedFault.{FeedFault}
use Rattle.tally_desk.specs.declared.fault.FeedFault.TheVariants as feed
use Rattle.tally_desk.specs.declared.fault.Uncounted.{Uncounted}
use Rattle.tally_records.specs.Records.{logins_in}
use Rattle.tally_records.specs.declared.batch.Kind.TheVariants.{Login}
use Rattle.tally_sessions.specs.ConnectSums.{Counted, IsCountOf}
use Rattle.tally_sessions.specs.Hosts.{of_host}
use Rattle.tally_sessions.specs.declared.entry.Entry.{Entry}
use Rattle.tally_cli.specs.Output.{login_entries}
use Rattle.tally_cli.specs.Runs.{HasNoRoom, IsAllowed, IsFileCause, IsFullList, IsGood, Tell, Told, good_logins, records_told}
use Rattle.tally_cli.specs.declared.fault.RunFault.{RunFault}
use Rattle.tally_cli.specs.declared.fault.RunFault.TheVariants.{Asker, Callers, File, Memory, Write}
use Rattle.tally_cli.specs.declared.running.source.Source.{Source}
use Rattle.tally_cli.specs.declared.running.files.Count.TheVariants as count
use Rattle.tally_cli.specs.inside.Files.{HasSums}
use Rattle.tally_cli.specs.inside.LoginCounts.{AreCountedIn, AreTaken, CameOf, HasFault, IsLoginRefusal, IsOfLogins, IsTakeFault, LoginCount, StopsAt, counted_before, counted_of, stored_when_full}
use Rattle.tally_cli.specs.Reading.{IsReadCause}
use Rattle.tally_cli.proofs.Counted.{CameEach}
use Rattle.tally_cli.proofs.LoginCounts.{all_taken, counted_next, counted_none}
use Rattle.tally_cli.proofs.Numbered.{of_file, of_no_file}

-- ---- faults

-- a full batch has no room after those that were stored
pub no_room : (room before : ℕ) → before ≤ room → HasNoRoom room (stored_when_full room before)
no_room room before few = (omega (arith, few), omega (arith, few))

-- a fault of an input is one that `run` allows
input_fault : {I : Type 0} (room callers host : ℕ) (sources : List (Source I)) (found : FeedFault) → IsOfInput found → IsAllowed callers (File host found) × IsFullList room sources (File host found)
input_fault room callers host sources feed.Memory is = (tt, tt)
input_fault room callers host sources feed.Read is = (tt, tt)
input_fault room callers host sources (feed.Torn records rest) is = (tt, tt)
input_fault room callers host sources (feed.TooLong limit) is = (tt, tt)
input_fault room callers host sources (feed.Bad at fault) is = (tt, tt)
input_fault room callers host sources (feed.LoginsFull stored) is = absurd is
input_fault room callers host sources (feed.ProcsFull stored) is = absurd is
input_fault room callers host sources feed.CallsFull is = absurd is

-- and the first of the input
file_cause : (room : ℕ) (inputs : List Told) (input : Told) (found : FeedFault) → input.kind ≡ Login → IsLoginFault (batches_in room) input.bytes found → IsFileCause room inputs input found
file_cause room inputs input feed.Memory login own = tt
file_cause room inputs input feed.Read login own = tt
file_cause room inputs input (feed.Torn records rest) login own = rw login own
file_cause room inputs input (feed.TooLong limit) login own = rw login own
file_cause room inputs input (feed.Bad at fault) login own = rw login own
file_cause room inputs input (feed.LoginsFull stored) login own = absurd own
file_cause room inputs input (feed.ProcsFull stored) login own = absurd own
file_cause room inputs input feed.CallsFull login own = absurd own

-- ---- records

-- how many records the good blocks of an input have
abbrev good_of : ℕ → Told → ℕ
good_of room input = sum_by (λ b. length (logins_in b)) (good_batches (batches_in room) input.kind input.bytes)

-- the records so far are of the first inputs
counted_within : (at : ℕ → LoginCount) (g : Told → ℕ) (inputs : List Told) (m : ℕ) → m ≤ length inputs → ((k : ℕ) (i : Told) → k < m → counted_of (at k) ≤ g (get_or inputs k i)) → counted_before at m ≤ sum_by g (take m inputs)
counted_within at g inputs zero few each = let none = counted_none at in omega (arith, none)
counted_within at g [] (suc m) few each = absurd (omega (arith, few))
counted_within at g (i ∷ is) (suc m) few each =
    let e : m + 1 ≡ suc m = omega arith in
    let rest = counted_within at g (i ∷ is) m (omega (arith, few)) (λ k x l. each k x (omega (arith, l))) in
    subst (λ n. counted_before at n ≤ sum_by g (take n (i ∷ is))) e
    (omega (arith, rest, counted_next at m, each m i (omega arith), sum_by_more g (i ∷ is) m i (omega (arith, few))))

some_of : {X : Type 0} (xs : List X) (k : ℕ) → k < length xs → X
some_of [] k l = absurd (omega (arith, l))
some_of (x ∷ xs) k l = x

module _ {I : Type 0} (to_come : I → Option (List ℕ)) (can_fail : I → Bool) (room : ℕ) (keeps_sessions : Bool) (n : ℕ) (sources : List (Source I)) (at : ℕ → LoginCount) (came : CameEach (CameOf to_come can_fail room keeps_sessions) (StopsAt room) n sources at) (logins : All IsOfLogins sources) where
  own_fault : (host : ℕ) (s : Source I) (u : Uncounted) → host < length sources → at host ≡ count.Fault u → CameOf to_come can_fail room keeps_sessions (get_or sources host s) (count.Fault u)
  own_fault host s u near is = subst (CameOf to_come can_fail room keeps_sessions (get_or sources host s)) is (came.each host s near)

  too_many_refusal : (host stored callers : ℕ) → host < length sources → HasNoRoom room stored → IsLoginRefusal can_fail room callers sources (File host (feed.LoginsFull stored))
  too_many_refusal host stored callers near full = record {
    allowed = tt;
    named = near;
    full = (full, λ s. ap stored_kind (logins host s near));
    read = λ at e. cc;
  }

  fault_refusal : (host callers : ℕ) (found : FeedFault) → host < length sources → HasFault (at host) found → IsLoginRefusal can_fail room callers sources (File host found)
  fault_refusal host callers found near own =
      let s = some_of sources host near in
      let stop = (own_fault host s _ near own.1).0 in
      let allowed = input_fault room callers host sources found stop.of_input in
      record {
        allowed = allowed.0;
        named = near;
        full = allowed.1;
        read = λ number e x.
            let same : (number ≡ host) × (found ≡ feed.Read) = read_of number e in
            subst (λ k. can_fail (get_or sources k x).input ≡ true) (sym same.0) ((own_fault host x _ near own.1).1 same.1);
      }
    where
      read_of : (number : ℕ) → ◌≡◌ {A = RunFault} (File host found) (File number feed.Read) → (number ≡ host) × (found ≡ feed.Read)
      read_of number e = (cc, cc)

  pub login_refusal : (callers : ℕ) (f : RunFault) → IsTakeFault room (length sources) at f → IsLoginRefusal can_fail room callers sources f
  login_refusal callers Memory found = record { allowed = tt; named = tt; full = tt; read = λ host e. cc }
  login_refusal callers (Callers count) found = absurd found
  login_refusal callers (File host f) found = elim found.own [
    | inl many ↦ subst (λ (x : FeedFault). IsLoginRefusal can_fail room callers sources (File host x)) (sym many.0) (too_many_refusal host _ callers found.near (no_room room (counted_before at host) found.few))
    | inr own ↦ fault_refusal host callers f found.near own
  ]
  login_refusal callers (Asker caller fault) found = absurd found
  login_refusal callers Write found = absurd found

  -- each count that was taken keeps its sessions as asked
  pub all_kept : (counts : List Counted) → AreTaken (length sources) at counts → All (λ (c : Counted). c.keeps_sessions ≡ keeps_sessions) counts
  all_kept counts taken k c l =
      let near : k < length sources = omega (arith, l, taken.length_is) in
      let s = some_of sources k near in
      (subst (CameOf to_come can_fail room keeps_sessions (get_or sources k s)) (taken.each k c near) (came.each k s near)).0

  module _ (inputs : List Told) (tell : Tell to_come sources inputs) where
    kind_at : (k : ℕ) (i : Told) → k < length sources → (get_or inputs k i).kind ≡ Login
    kind_at k i l =
        let s = some_of sources k l in
        sym (tell.1 k s i l).kind ∙ logins k s l

    own_sums : (k : ℕ) (i : Told) (c : Counted) (l : k < length sources) → at k ≡ count.Sums c → CameOf to_come can_fail room keeps_sessions (get_or sources k (some_of sources k l)) (count.Sums c)
    own_sums k i c l is = subst (CameOf to_come can_fail room keeps_sessions (get_or sources k (some_of sources k l))) is (came.each k (some_of sources k l) l)

    good_at : (k : ℕ) (i : Told) → k < length sources → HasSums (at k) → IsGood room (get_or inputs k i)
    good_at k i l has = by (at k) refl has
      where
        by : (c : LoginCount) → at k ≡ c → HasSums c → IsGood room (get_or inputs k i)
        by count.Untried is has = absurd has
        by (count.Sums c) is has = rw (kind_at k i l) (((own_sums k i c l is).1 (get_or inputs k i).bytes (tell.1 k (some_of sources k l) i l).bytes).no_fault)
        by (count.Fault u) is has = absurd has

    -- no more records were counted of an input than its good blocks have
    counted_at : (k : ℕ) (i : Told) → k < length sources → counted_of (at k) ≤ good_of room (get_or inputs k i)
    counted_at k i l = by (at k) refl
      where
        by : (c : LoginCount) → at k ≡ c → counted_of (at k) ≤ good_of room (get_or inputs k i)
        by count.Untried is = let none = ap counted_of is in omega (arith, none)
        by (count.Sums c) is =
            let own = (own_sums k i c l is).1 (get_or inputs k i).bytes (tell.1 k (some_of sources k l) i l).bytes in
            rw (kind_at k i l, is) (omega (arith, own.counted))
        by (count.Fault u) is =
            let own = (own_fault k (some_of sources k l) u l is).2 (get_or inputs k i).bytes (tell.1 k (some_of sources k l) i l).bytes in
            rw (kind_at k i l, is) own.counted

    too_many_cause : (host : ℕ) → host < length sources → room < counted_before at host + counted_of (at host) → room < good_logins room inputs
    too_many_cause host near over =
        let all = counted_within at (good_of room) inputs (host + 1) (omega (arith, near, tell.0)) (λ k i l. counted_at k i (omega (arith, l, near))) in
        omega (arith, all, over, counted_next at host, sum_by-take-le (good_of room) inputs (host + 1))

    pub login_cause : (f : RunFault) → IsTakeFault room (length sources) at f → IsReadCause room inputs f
    login_cause Memory found = tt
    login_cause (Callers count) found = absurd found
    login_cause (File host f) found = record {
      near = omega (arith, found.near, tell.0);
      earlier = λ k i l. good_at k i (omega (arith, l, found.near)) (found.earlier k l);
      own = λ i. elim found.own [
        | inl many ↦ subst (IsFileCause room inputs (get_or inputs host i)) (sym many.0) (too_many_cause host found.near many.1)
        | inr own ↦
            file_cause room inputs (get_or inputs host i) f (kind_at host i found.near)
            ((own_fault host (some_of sources host found.near) _ found.near own.1).2 (get_or inputs host i).bytes (tell.1 host (some_of sources host found.near) i found.near).bytes).fault
      ];
    }
    login_cause (Asker caller fault) found = absurd found
    login_cause Write found = absurd found

    -- the records of an input, as those of its host
    host_records : (host : ℕ) (i : Told) → host < length sources → of_host host (login_entries (map records_told inputs)) ≡ logins_in (records_in Login (get_or inputs host i).bytes)
    host_records host i near =
        let files = map records_told inputs in
        let there : host < length inputs = omega (arith, near, tell.0) in
        let d = some_of files host (omega (arith, there, length-map inputs records_told)) in
        of_file (λ (e : Entry). e.host) (λ (e : Entry). e.item) (λ n r. record { host = n; item = r }) (λ n r. refl) (λ n r. refl) logins_in files host d (omega (arith, there, length-map inputs records_told))
        ∙ ap logins_in (get_or-map records_told inputs host i d there)
        ∙ ap (λ k. logins_in (records_in k (get_or inputs host i).bytes)) (kind_at host i near)

    pub all_counted : (counts : List Counted) → AreTaken (length sources) at counts → AreCountedIn room inputs counts
    all_counted counts taken = record {
      good = λ k i l.
          let here : k < length sources = omega (arith, l, tell.0) in
          good_at k i here (taken_sums k here);
      counts = record {
        each = λ host c l.
            let near : host < length sources = omega (arith, l, taken.length_is) in
            let i = some_of inputs host (omega (arith, near, tell.0)) in
            subst (IsCountOf (get_or counts host c)) (sym (host_records host i near))
            ((own_sums host i (get_or counts host c) near (taken.each host c near)).1 (get_or inputs host i).bytes (tell.1 host (some_of sources host near) i near).bytes).count;
        others = λ host l. of_no_file (λ (e : Entry). e.host) (λ (e : Entry). e.item) (λ n r. record { host = n; item = r }) (λ n r. refl) (λ n r. refl) logins_in (map records_told inputs) host
            (omega (arith, l, taken.length_is, tell.0, length-map inputs records_told));
      };
    }
      where
        taken_sums : (k : ℕ) → k < length sources → HasSums (at k)
        taken_sums k l = all_taken (length sources) at counts taken k l
