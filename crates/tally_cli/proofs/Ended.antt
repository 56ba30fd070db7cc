-- What the callers of a desk did, by the closed book.
use Rattle.std.proofs.Common.{◌≡◌, ◌≢◌, ℕ, zero, suc, ◌<◌, ◌≤◌, ◌⊎◌, Bool, List, [], ◌∷◌, Option, Some, None, length, map, get_or, sym, refl, ap, ◌∙◌, subst, arith, cond, ne_eqb, ⊎_elim, inl, inr}
use Rattle.std.proofs.lemmas.Bool.{cases_lt}
use Rattle.std.proofs.lemmas.List.{length-map}
use Rattle.std.proofs.lemmas.Option.{slice_get_within, get_or_from_slice_get}
use Rattle.std.proofs.Math.ListN.{get_or-map}
use Rattle.std.proofs.lemmas.List.Elements.{All-contains, All-from_get_or, All-head, All-tail, All-weaker}
use Rattle.std.specs.Prelude.{slice_get}
use Rattle.std.specs.List.{All, Contains, flat_map}
use Rattle.tally_clock.specs.Rows.{ClockRows}
use Rattle.tally_book.specs.declared.history.Call.{Call}
use Rattle.tally_book.specs.declared.history.Call.TheVariants.{Posted, Asked}
use Rattle.tally_book.specs.Contents.{Contents}
use Rattle.tally_book.specs.Books.{IsCall, IsLegal, calls_of, caller_of}
use Rattle.tally_book.specs.Deeds.{Ask as AskDeed, EntriesArePosts, SameOfEachHost, deed, deeds_of, logins_added, procs_added, procs_of_host}
use Rattle.tally_book.specs.Rooms.{batches_in}
use Rattle.tally_desk.specs.Blocks.{feed_fault}
use Rattle.tally_desk.specs.Batches.{records_in}
use Rattle.tally_desk.specs.Passes.{HasDone, PassState, Stands, deeds, first_pass, first_passes}
use Rattle.tally_records.specs.Records.{Records, logins_in, procs_in}
use Rattle.tally_records.specs.declared.batch.Kind.TheVariants.{Login}
use Rattle.tally_sessions.specs.declared.entry.Entry.{Entry}
use Rattle.tally_sessions.specs.Hosts.{of_host}
use Rattle.tally_usage.specs.declared.entry.ProcEntry.{ProcEntry}
use Rattle.tally_cli.specs.declared.running.gather.Failure.{Failure}
use Rattle.tally_cli.specs.declared.running.source.Source.{Source}
use Rattle.tally_cli.specs.declared.running.task.Asking.{Asking}
use Rattle.tally_cli.specs.declared.running.task.Task.{Task}
use Rattle.tally_cli.specs.inside.Deals.{work_of}
use Rattle.tally_cli.specs.Output.{login_entries, proc_entries}
use Rattle.tally_cli.specs.Runs.{IsGood, Tell, Told, records_told}
use Rattle.tally_cli.specs.inside.RunSteps.{AreWorkedThrough}
use Rattle.tally_cli.specs.inside.Tasks.{IsDone, IsOutcome, asker_questions}
use Rattle.tally_cli.proofs.Outcomes.{IsBefore, done_before}
use Rattle.tally_cli.proofs.Calls.{AreFew, outcome_few}
use Rattle.tally_cli.proofs.Limits.{few_calls}
use Rattle.tally_cli.proofs.Posted.{Added, AddedNothing, FilePosted, asked_whole, logins_of_file, no_logins_past, no_procs_past, posted_file, procs_of_file}
use Rattle.tally_cli.proofs.FirstPasses.{are_first}

caller_in : (callers : ℕ) (clock : ClockRows) (logins : List Entry) (procs : List ProcEntry) (c : Call) → IsCall callers clock logins procs c → caller_of c < callers
caller_in callers clock logins procs (Posted caller before after) h = h.caller_in
caller_in callers clock logins procs (Asked caller at question answer) h = h.caller_in

-- a number that is no caller's made no call
pub no_calls : (callers host : ℕ) (clock : ClockRows) (logins : List Entry) (procs : List ProcEntry) (cs : List Call) → callers ≤ host → All (IsCall callers clock logins procs) cs → calls_of host cs ≡ []
no_calls callers host clock logins procs [] h s = refl
no_calls callers host clock logins procs (c ∷ cs) h s =
    let near : caller_of c < callers = caller_in callers clock logins procs c (All-head (IsCall callers clock logins procs) c cs s) in
    let apart : caller_of c ≢ host = λ e. omega (arith, near, e, h) in
    ap (λ b. cond b (c ∷ calls_of host cs) (calls_of host cs)) (ne_eqb (caller_of c) host apart) ∙ no_calls callers host clock logins procs cs h (All-tail (IsCall callers clock logins procs) c cs s)

pub source_or_none : {I : Type 0} (xs : List I) (k : ℕ) → ((s : I) × (slice_get xs k ≡ Some s)) ⊎ ((slice_get xs k ≡ None) × (length xs ≤ k))
source_or_none [] k = inr (refl, omega arith)
source_or_none (x ∷ xs) zero = inl (x, refl)
source_or_none (x ∷ xs) (suc k) = ⊎_elim (λ l. inl l) (λ r. inr (r.0, omega (arith, r.1))) (source_or_none xs k)

-- an input that no source has
abbrev pub no_input : Told
no_input = record { kind = Login; bytes = [] }

-- the callers of a desk began with fresh passes and worked through their tasks, and this is the closed book
pub record Ended {I : Type 0} (to_come : I → Option (List ℕ)) (can_fail : I → Bool) (asking : Asking) (sources : List (Source I)) (passes : List PassState) (d : PassState) (b : Contents) (failure : Option Failure) : Type 0 where
  pub legal : IsLegal b
  pub all : length passes ≡ b.callers
  pub enough : length sources ≤ length passes
  pub first : (k : ℕ) → k < length passes → ((get_or passes k d).number ≡ k) × (deeds (get_or passes k d) ≡ [])
  pub posts : EntriesArePosts b
  pub worked : AreWorkedThrough to_come can_fail asking sources passes b failure

-- where the passes are those of a new desk
pub ended_of : {I : Type 0} {to_come : I → Option (List ℕ)} {can_fail : I → Bool} {asking : Asking} {sources : List (Source I)} {b : Contents} {failure : Option Failure} (id : _) (clock : ClockRows) (room callers : ℕ) (passes : List PassState) → passes ≡ first_passes id clock room callers → b.callers ≡ callers → length sources ≤ callers
    → IsLegal b → EntriesArePosts b → AreWorkedThrough to_come can_fail asking sources passes b failure → Ended to_come can_fail asking sources passes (first_pass id clock room 0 0) b failure
ended_of id clock room callers passes new same enough legal posts worked =
    let first = are_first (first_pass id clock room callers) callers passes new in
    record {
      legal = legal;
      all = first.count ∙ sym same;
      enough = omega (arith, first.count, enough);
      first = λ k l. let is = first.each k (first_pass id clock room 0 0) l in (ap (λ (p : PassState). p.number) is, ap deeds is);
      posts = posts;
      worked = worked;
    }

module _ {I : Type 0} {to_come : I → Option (List ℕ)} {can_fail : I → Bool} {asking : Asking} {sources : List (Source I)} {passes : List PassState} {d : PassState} {b : Contents} {failure : Option Failure}
    (ended : Ended to_come can_fail asking sources passes d b failure) where
  -- the task of a caller, with what it did in the book
  pub record Did (host : ℕ) : Type 0 where
    pub task : Task I
    pub held : Contains ended.worked.tasks task
    pub number : task.pass.number ≡ host
    pub outcome_is : IsOutcome to_come can_fail (work_of asking (slice_get sources host)) (get_or passes host d) task.pass task.outcome
    pub done : deeds_of host b ≡ deeds task.pass

  pub did : (host : ℕ) → host < b.callers → Did host
  did host l =
      let near : host < length passes = omega (arith, ended.all, l) in
      let r = ended.worked.carried.each host d near in
      let u : Task I = r.0 in
      let mine : u.pass.number ≡ host = r.2.keeps.number ∙ (ended.first host near).0 in
      let has : deeds_of u.pass.number b ≡ deeds u.pass = All-contains (λ (t : Task I). HasDone b t.pass) ended.worked.tasks u ended.worked.did r.1 in
      record { task = u; held = r.1; number = mine; outcome_is = r.2.outcome_is; done = ap (λ n. deeds_of n b) (sym mine) ∙ has }

  -- the book's room is that of each pass
  pub room_at : (host : ℕ) → host < length passes → b.room ≡ (get_or passes host d).seen.room
  room_at host near =
      let r = ended.worked.carried.each host d near in
      let stands = All-contains (λ (t : Task I). Stands b t.pass) ended.worked.tasks r.0 ended.worked.stand r.1 in
      stands.seen.room ∙ r.2.keeps.seen.room

  -- the book's clock is that of the first pass
  pub same_clock : 0 < b.callers → b.clock ≡ (get_or passes 0 d).seen.clock
  same_clock l =
      let near : 0 < length passes = omega (arith, ended.all, l) in
      let r = ended.worked.carried.each 0 d near in
      let stands = All-contains (λ (t : Task I). Stands b t.pass) ended.worked.tasks r.0 ended.worked.stand r.1 in
      stands.seen.clock ∙ r.2.keeps.seen.clock

  -- a caller before the failure is done
  done_at : (host : ℕ) → IsBefore host failure → (m : Did host) → IsDone m.task.outcome
  done_at host before m = done_before ended.worked.tasks failure m.task ended.worked.least ended.worked.explained m.held (subst (λ n. IsBefore n failure) (sym m.number) before)

  -- an asker before the failure asked all its questions, and did nothing else
  pub all_asked : (asker : ℕ) → length sources ≤ asker → asker < b.callers → IsBefore asker failure → deeds_of asker b ≡ map AskDeed (asker_questions asking)
  all_asked asker past l before =
      let m = did asker l in
      let near : asker < length passes = omega (arith, ended.all, l) in
      let none : slice_get sources asker ≡ None = ⊎_elim (λ found. absurd (omega (arith, past, slice_get_within sources asker found.0 found.1))) (λ never. never.0) (source_or_none sources asker) in
      let came : IsOutcome to_come can_fail (work_of asking None) (get_or passes asker d) m.task.pass m.task.outcome =
      subst (λ o. IsOutcome to_come can_fail (work_of asking o) (get_or passes asker d) m.task.pass m.task.outcome) none m.outcome_is in
      m.done ∙ asked_whole to_come can_fail asking (get_or passes asker d) m.task.pass m.task.outcome (ended.first asker near).1 came (done_at asker before m)

  -- what a caller before the failure did is its file
  pub host_posted : (host : ℕ) → host < b.callers → IsBefore host failure → (q : PassState) × FilePosted b.room to_come (slice_get sources host) q × (deeds_of host b ≡ deeds q)
  host_posted host l before =
      let m = did host l in
      let near : host < length passes = omega (arith, ended.all, l) in
      let whole = done_at host before m in (
        m.task.pass,
        subst (λ room. FilePosted room to_come (slice_get sources host) m.task.pass) (sym (room_at host near))
            (posted_file to_come can_fail asking (slice_get sources host) (get_or passes host d) m.task.pass m.task.outcome (ended.first host near).1 m.outcome_is whole),
        m.done,
      )

  -- a source that tells is that of its place
  pub told_at : (inputs : List Told) (k : ℕ) (s : Source I) → Tell to_come sources inputs → slice_get sources k ≡ Some s → (s.kind ≡ (get_or inputs k no_input).kind) × (to_come s.input ≡ Some (get_or inputs k no_input).bytes)
  told_at inputs k s tell e =
      let near : k < length sources = slice_get_within sources k s e in
      let t = tell.1 k s no_input near in
      let is : get_or sources k s ≡ s = get_or_from_slice_get sources k s s e in
      (ap (λ (x : Source I). x.kind) (sym is) ∙ t.kind, ap (λ (x : Source I). to_come x.input) (sym is) ∙ t.bytes)

  -- a source before the failure is good
  pub good_before : (inputs : List Told) → Tell to_come sources inputs → (k : ℕ) → k < length sources → IsBefore k failure → IsGood b.room (get_or inputs k no_input)
  good_before inputs tell k l before =
      let near : k < b.callers = omega (arith, l, ended.enough, ended.all) in
      let p = host_posted k near before in
      ⊎_elim
      (λ (found : (s : Source I) × (slice_get sources k ≡ Some s)).
      let t = told_at inputs k found.0 tell found.1 in
      let file = subst (λ o. FilePosted b.room to_come o p.0) found.1 p.1 in
      subst (λ kind. feed_fault (batches_in b.room) kind (get_or inputs k no_input).bytes ≡ None) t.0 (file (get_or inputs k no_input).bytes t.1).0)
      (λ (never : (slice_get sources k ≡ None) × (length sources ≤ k)). absurd (omega (arith, never.1, l)))
      (source_or_none sources k)

  pub good_all : (inputs : List Told) → Tell to_come sources inputs → ((k : ℕ) → IsBefore k failure) → All (IsGood b.room) inputs
  good_all inputs tell before = All-from_get_or (IsGood b.room) inputs no_input (λ k l. good_before inputs tell k (omega (arith, l, tell.0)) (before k))

  file_at : (inputs : List Told) (k : ℕ) → get_or (map records_told inputs) k (records_told no_input) ≡ records_told (get_or inputs k no_input)
  file_at inputs k = get_or-map records_told inputs k no_input

  host_records : (inputs : List Told) → Tell to_come sources inputs → ((k : ℕ) → IsBefore k failure) → (host : ℕ)
      → (of_host host b.logins ≡ of_host host (login_entries (map records_told inputs))) × (procs_of_host host b.procs ≡ procs_of_host host (proc_entries (map records_told inputs)))
  host_records inputs tell before host =
      let files : List Records = map records_told inputs in
      let count : length files ≡ length sources = length-map inputs records_told ∙ tell.0 in
      ⊎_elim
      (λ (l : host < b.callers).
      let p = host_posted host l (before host) in
      let logins = ended.posts.logins host ∙ ap (flat_map logins_added) p.2 in
      let procs = ended.posts.procs host ∙ ap (flat_map procs_added) p.2 in
      ⊎_elim
      (λ (found : (s : Source I) × (slice_get sources host ≡ Some s)).
      let t = told_at inputs host found.0 tell found.1 in
      let i : Told = get_or inputs host no_input in
      let near : host < length files = omega (arith, count, slice_get_within sources host found.0 found.1) in
      let added : Added (deeds p.0) (records_in found.0.kind i.bytes) = (subst (λ o. FilePosted b.room to_come o p.0) found.1 p.1 i.bytes t.1).1 in
      let file : records_in found.0.kind i.bytes ≡ get_or files host (records_told no_input) = ap (λ kind. records_in kind i.bytes) t.0 ∙ sym (file_at inputs host) in (
        logins ∙ added.logins ∙ ap logins_in file ∙ sym (logins_of_file files host (records_told no_input) near),
        procs ∙ added.procs ∙ ap procs_in file ∙ sym (procs_of_file files host (records_told no_input) near),
      ))
      (λ (never : (slice_get sources host ≡ None) × (length sources ≤ host)).
      let added : AddedNothing (deeds p.0) = subst (λ o. FilePosted b.room to_come o p.0) never.0 p.1 in
      let past : length files ≤ host = omega (arith, count, never.1) in (
        logins ∙ added.logins ∙ sym (no_logins_past files host past),
        procs ∙ added.procs ∙ sym (no_procs_past files host past),
      ))
      (source_or_none sources host))
      (λ (l : b.callers ≤ host).
      let idle : deeds_of host b ≡ [] = ap (map (deed b.logins b.procs)) (no_calls b.callers host b.clock b.logins b.procs b.calls l ended.legal.sound) in
      let past : length files ≤ host = omega (arith, count, ended.enough, ended.all, l) in (
        ended.posts.logins host ∙ ap (flat_map logins_added) idle ∙ sym (no_logins_past files host past),
        ended.posts.procs host ∙ ap (flat_map procs_added) idle ∙ sym (no_procs_past files host past),
      ))
      (cases_lt host b.callers)

  -- where no caller failed, the book has just the records of the files
  pub same_hosts : (inputs : List Told) → Tell to_come sources inputs → ((k : ℕ) → IsBefore k failure) → SameOfEachHost b.logins (login_entries (map records_told inputs)) b.procs (proc_entries (map records_told inputs))
  same_hosts inputs tell before = record {
    same_logins = λ host. (host_records inputs tell before host).0;
    same_procs = λ host. (host_records inputs tell before host).1;
  }

  -- the calls are few
  pub few : length b.calls ≤ 34944
  few = few_calls b ended.legal ended.posts
      (All-weaker (IsCall b.callers b.clock b.logins b.procs) (λ c. caller_of c < b.callers) (λ c h. caller_in b.callers b.clock b.logins b.procs c h) b.calls ended.legal.sound)
      (λ host l.
      let m = did host l in
      let near : host < length passes = omega (arith, ended.all, l) in
      subst AreFew (sym m.done) (outcome_few to_come can_fail asking (slice_get sources host) (get_or passes host d) m.task.pass m.task.outcome (ended.first host near).1 m.outcome_is))
