-- What the failure of a caller shows of the files.
use Rattle.std.proofs.Common.{◌≡◌, ℕ, ◌<◌, ◌≤◌, Bool, List, [], Option, Some, None, length, get_or, sym, refl, ap, ◌∙◌, subst, arith, ⊎_elim, true}
use Rattle.std.proofs.lemmas.List.{get_or_default}
use Rattle.std.proofs.lemmas.Option.{slice_get_within, get_or_from_slice_get}
use Rattle.std.proofs.lemmas.List.Elements.{All-contains, All-from_get_or}
use Rattle.std.specs.Prelude.{IfSome, slice_get}
use Rattle.std.specs.List.{flat_map}
use Rattle.tally_book.specs.Contents.{Contents}
use Rattle.tally_book.specs.Deeds.{deeds_of, logins_added, procs_added}
use Rattle.tally_book.specs.Rooms.{batches_in}
use Rattle.tally_desk.specs.Batches.{records_in}
use Rattle.tally_desk.specs.Feeds.{Posts, Stops}
use Rattle.tally_desk.specs.Passes.{HasDone, PassState, Stands, deeds}
use Rattle.tally_records.specs.Records.{logins_in, procs_in}
use Rattle.tally_records.specs.declared.batch.Kind.{Kind}
use Rattle.tally_desk.specs.declared.fault.FeedFault.TheVariants as feed
use Rattle.tally_cli.specs.declared.fault.RunFault.TheVariants as run
use Rattle.tally_sessions.specs.declared.entry.Entry.{Entry}
use Rattle.tally_usage.specs.declared.entry.ProcEntry.{ProcEntry}
use Rattle.tally_cli.specs.declared.running.gather.Cause.TheVariants as cause
use Rattle.tally_cli.specs.declared.running.gather.Failure.{Failure}
use Rattle.tally_cli.specs.declared.running.source.Source.{Source}
use Rattle.tally_cli.specs.declared.running.task.Asking.{Asking}
use Rattle.tally_cli.specs.declared.running.task.Task.{Task}
use Rattle.tally_cli.specs.inside.Deals.{CameOf, task_of, work_of}
use Rattle.tally_cli.specs.inside.Failures.{IsOfOne, failure_of}
use Rattle.tally_cli.specs.Runs.{IsAllowed, IsFileCause, IsFullList, IsGood, IsNamed, Tell, Told}
use Rattle.tally_cli.specs.Reading.{IsReadCause}
use Rattle.tally_cli.specs.inside.RunSteps.{run_fault}
use Rattle.tally_cli.specs.inside.Tasks.{FailedToFeed, IsOutcome}
use Rattle.tally_cli.proofs.Outcomes.{IsBefore}
use Rattle.tally_cli.proofs.Limits.{ask_allowed, feed_allowed, feed_full, few_seen, not_full, prefix_length}
use Rattle.tally_cli.proofs.Shares.{refused_much}
use Rattle.tally_cli.proofs.Faults.{IsAskFailure, IsFailureOf, IsFeedFailure, caller_is, failure_is, file_cause, file_is, no_asker}
use Rattle.tally_cli.proofs.Ended.{Ended, few, good_before, no_input, room_at, source_or_none, told_at}
use Rattle.tally_cli.proofs.TooMany.{too_many}

module _ {I : Type 0} {to_come : I → Option (List ℕ)} {can_fail : I → Bool} {asking : Asking} {sources : List (Source I)} {passes : List PassState} {d : PassState} {b : Contents} {failure : Option Failure}
    (ended : Ended to_come can_fail asking sources passes d b failure) where
  -- whose failure was told
  pub record Failed (f : Failure) : Type 0 where
    pub host : ℕ
    pub near : host < length passes
    pub before : (k : ℕ) → k < host → IsBefore k failure
    pub old : PassState
    pub new : PassState
    pub failure_is : IsFailureOf to_come can_fail asking (slice_get sources host) old new host f
    pub stands : Stands b new
    pub fresh : deeds old ≡ []
    pub room : old.seen.room ≡ b.room
    pub done : deeds_of host b ≡ deeds new

  pub failed : (f : Failure) → failure ≡ Some f → Failed f
  failed f e =
      let least : IsOfOne ended.worked.tasks f = subst (λ o. IfSome o (IsOfOne ended.worked.tasks)) e ended.worked.least.some in
      let t : Task I = least.0 in
      let from = All-contains (CameOf to_come can_fail asking sources passes) ended.worked.tasks t ended.worked.carried.only least.1 in
      let host : ℕ = from.1.0 in
      let near : host < length passes = from.1.2 in
      let p : PassState = get_or passes host from.1.1 in
      let is : from.0 ≡ task_of asking sources host p = from.1.3 in
      let first_number : p.number ≡ host = ap (λ (x : PassState). x.number) (get_or_default passes host from.1.1 d near) ∙ (ended.first host near).0 in
      let number : t.pass.number ≡ host = from.2.keeps.number ∙ ap (λ (x : Task I). x.pass.number) is ∙ first_number in
      let came : IsOutcome to_come can_fail (work_of asking (slice_get sources host)) p t.pass t.outcome = subst (λ (x : Task I). IsOutcome to_come can_fail x.work x.pass t.pass t.outcome) is from.2.outcome_is in
      let told : failure_of host t.outcome ≡ Some f = ap (λ n. failure_of n t.outcome) (sym number) ∙ least.2 in
      let own = failure_is to_come can_fail asking (slice_get sources host) p t.pass t.outcome host f came told in
      record {
        host = host;
        near = near;
        before = λ k l. subst (IsBefore k) (sym e) (omega (arith, l, caller_is to_come can_fail asking (slice_get sources host) p t.pass host f own));
        old = p;
        new = t.pass;
        failure_is = own;
        stands = All-contains (λ (x : Task I). Stands b x.pass) ended.worked.tasks t ended.worked.stand least.1;
        room = ap (λ (x : PassState). x.seen.room) (get_or_default passes host from.1.1 d near) ∙ sym (room_at ended host near);
        fresh = ap deeds (get_or_default passes host from.1.1 d near) ∙ (ended.first host near).1;
        done = ap (λ n. deeds_of n b) (sym number) ∙ All-contains (λ (x : Task I). HasDone b x.pass) ended.worked.tasks t ended.worked.did least.1;
      }

  -- what is so of each feed that fails and each asker that is refused is so of the failure
  by_source : (P : Failure → Type 0) (f : Failure) (own : Failed f)
      → ((source : Source I) → slice_get sources own.host ≡ Some source → (fed : IsFeedFailure to_come can_fail source own.old own.new own.host f) → P (record { caller = own.host; cause = cause.Feed fed.fault }))
      → (length sources ≤ own.host → (ask : IsAskFailure asking own.old own.new own.host f) → P (record { caller = own.host; cause = cause.Ask ask.fault })) → P f
  by_source P f own feeds asks = ⊎_elim
      (λ (found : (s : Source I) × (slice_get sources own.host ≡ Some s)).
      let fed : IsFeedFailure to_come can_fail found.0 own.old own.new own.host f = subst (λ o. IsFailureOf to_come can_fail asking o own.old own.new own.host f) found.1 own.failure_is in
      subst P fed.is (feeds found.0 found.1 fed))
      (λ (never : (slice_get sources own.host ≡ None) × (length sources ≤ own.host)).
      let ask : IsAskFailure asking own.old own.new own.host f = subst (λ o. IsFailureOf to_come can_fail asking o own.old own.new own.host f) never.0 own.failure_is in
      subst P ask.is (asks never.1 ask))
      (source_or_none sources own.host)

  -- what the failure tells of the sources
  pub cause_is : (f : Failure) → failure ≡ Some f → (inputs : List Told) → Tell to_come sources inputs → IsReadCause b.room inputs (run_fault f)
  cause_is f e inputs tell =
      let own = failed f e in
      by_source (λ x. IsReadCause b.room inputs (run_fault x)) f own
      (λ source found fed.
      let l : own.host < length sources = slice_get_within sources own.host source found in
      let in_inputs : own.host < length inputs = omega (arith, l, tell.0) in
      let t = told_at ended inputs own.host source tell found in
      let i : Told = get_or inputs own.host no_input in
      let told : FailedToFeed (Some i.bytes) (can_fail source.input) i.kind own.old own.new fed.fault =
      subst (λ (x : Option (List ℕ) × Kind). FailedToFeed x.0 (can_fail source.input) x.1 own.old own.new fed.fault) (λ j. (t.1 j, t.0 j)) fed.failed in
      record {
        near = in_inputs;
        earlier = λ k x m. subst (IsGood b.room) (get_or_default inputs k no_input x (omega (arith, m, in_inputs))) (good_before ended inputs tell k (omega (arith, m, l)) (own.before k m));
        own = λ x. subst (λ y. IsFileCause b.room inputs y fed.fault) (get_or_default inputs own.host no_input x in_inputs) (file_cause b.room inputs i own.old own.new (can_fail source.input) fed.fault told own.room
            (λ stored is.
            let at = subst (Stops (batches_in b.room) i.kind i.bytes (Posts own.old own.new) own.new.seen) is (subst (λ r. Stops (batches_in r) i.kind i.bytes (Posts own.old own.new) own.new.seen fed.fault) own.room (told.stops i.bytes refl)) in
            let room = too_many ended (λ (x : Entry). x.host) (λ (x : Entry). x.item) logins_added (λ x. length (logins_in x)) (λ x. refl) (λ q. refl) b.logins ended.posts.logins inputs tell own.host (length (logins_in (records_in i.kind at.next))) l
            (omega (arith, ap (λ ds. length (flat_map logins_added ds)) own.done, refused_much logins_added (λ x. length (logins_in x)) (λ x. refl) (λ q. refl) (batches_in b.room) i.kind i.bytes own.old own.new at.next at.left own.fresh at.cut)) in
            omega (arith, at.cause.1, own.stands.seen.room, prefix_length own.new.seen.logins b.logins own.stands.seen.logins, room))
            (λ stored is.
            let at = subst (Stops (batches_in b.room) i.kind i.bytes (Posts own.old own.new) own.new.seen) is (subst (λ r. Stops (batches_in r) i.kind i.bytes (Posts own.old own.new) own.new.seen fed.fault) own.room (told.stops i.bytes refl)) in
            let room = too_many ended (λ (x : ProcEntry). x.host) (λ (x : ProcEntry). x.item) procs_added (λ x. length (procs_in x)) (λ x. refl) (λ q. refl) b.procs ended.posts.procs inputs tell own.host (length (procs_in (records_in i.kind at.next))) l
            (omega (arith, ap (λ ds. length (flat_map procs_added ds)) own.done, refused_much procs_added (λ x. length (procs_in x)) (λ x. refl) (λ q. refl) (batches_in b.room) i.kind i.bytes own.old own.new at.next at.left own.fresh at.cut)) in
            omega (arith, at.cause.1, own.stands.seen.room, prefix_length own.new.seen.procs b.procs own.stands.seen.procs, room))
            (not_full i.kind own.new.seen fed.fault told.full (few_seen b own.new (few ended) own.stands)));
      })
      (λ past ask. All-from_get_or (IsGood b.room) inputs no_input (λ k l.
      let m : k < length sources = omega (arith, l, tell.0) in
      good_before ended inputs tell k m (own.before k (omega (arith, m, past)))))

  -- where a read failed, the input can fail
  pub can_fail_at : (f : Failure) → failure ≡ Some f → (host : ℕ) → run_fault f ≡ run.File host feed.Read → (s : Source I) → can_fail (get_or sources host s).input ≡ true
  can_fail_at f e host told s =
      let own = failed f e in
      by_source (λ x. run_fault x ≡ run.File host feed.Read → can_fail (get_or sources host s).input ≡ true) f own
      (λ source found fed is.
      let same = file_is own.host host fed.fault feed.Read is in
      let at : get_or sources host s ≡ source = ap (λ n. get_or sources n s) (sym same.0) ∙ get_or_from_slice_get sources own.host source s found in
      ap (λ (x : Source I). can_fail x.input) at ∙ fed.failed.read same.1)
      (λ past ask is. absurd (no_asker own.host host ask.fault feed.Read is))
      told

  -- no call was refused for the number of calls
  pub allowed : (f : Failure) → failure ≡ Some f → (n : ℕ) → IsAllowed n (run_fault f)
  allowed f e n =
      let own = failed f e in
      let seen = few_seen b own.new (few ended) own.stands in
      by_source (λ x. IsAllowed n (run_fault x)) f own
      (λ source found fed. feed_allowed n own.host source.kind own.new.seen fed.fault fed.failed.full seen)
      (λ past ask. ask_allowed asking own.old own.new ask.fault ask.stops seen (omega (arith, own.stands.seen.callers, ended.legal.some_callers)))

  -- the failure is of a file, or of an asker
  pub named : (f : Failure) → failure ≡ Some f → (callers : ℕ) → length passes ≡ callers → IsNamed (length sources) callers (run_fault f)
  named f e callers is =
      let own = failed f e in
      by_source (λ x. IsNamed (length sources) callers (run_fault x)) f own (λ source found fed. slice_get_within sources own.host source found) (λ past ask. (past, omega (arith, own.near, is)))

  -- a full list is that of the file's kind
  pub full_list : (f : Failure) → failure ≡ Some f → IsFullList b.room sources (run_fault f)
  full_list f e =
      let own = failed f e in
      by_source (λ x. IsFullList b.room sources (run_fault x)) f own
      (λ source found fed.
      let logins : length own.new.seen.logins ≤ b.room = omega (arith, prefix_length own.new.seen.logins b.logins own.stands.seen.logins, ended.legal.few_logins) in
      let procs : length own.new.seen.procs ≤ b.room = omega (arith, prefix_length own.new.seen.procs b.procs own.stands.seen.procs, ended.legal.few_procs) in
      feed_full b.room sources own.host source (λ s. get_or_from_slice_get sources own.host source s found) own.new.seen fed.fault fed.failed.full (sym own.stands.seen.room) logins procs)
      (λ past ask. tt)
