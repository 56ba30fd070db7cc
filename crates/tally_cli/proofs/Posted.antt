-- The records of a file, as its caller posted them.
use Rattle.std.proofs.Common.{◌≡◌, ℕ, ◌<◌, ◌≤◌, Bool, List, [], ◌∷◌, ◌++◌, Option, Some, None, length, map, get_or, refl, ap, ◌∙◌}
use Rattle.std.specs.List.{flat_map}
use Rattle.tally_answers.specs.declared.question.Question.{Question}
use Rattle.tally_book.specs.Deeds.{Ask as AskDeed, Deed, logins_added, procs_added, procs_of_host}
use Rattle.tally_book.specs.Rooms.{batches_in}
use Rattle.tally_desk.specs.Blocks.{feed_fault}
use Rattle.tally_desk.specs.Batches.{records_in}
use Rattle.tally_desk.specs.Feeds.{good_batches, post_of}
use Rattle.tally_desk.specs.Passes.{PassState, deeds}
use Rattle.tally_records.specs.Records.{Records, logins_in, procs_in}
use Rattle.tally_records.specs.declared.login.LoginRecord.{LoginRecord}
use Rattle.tally_records.specs.declared.process.ProcRecord.{ProcRecord}
use Rattle.tally_sessions.specs.declared.entry.Entry.{Entry}
use Rattle.tally_sessions.specs.Hosts.{of_host}
use Rattle.tally_usage.specs.declared.entry.ProcEntry.{ProcEntry}
use Rattle.tally_cli.specs.declared.running.source.Source.{Source}
use Rattle.tally_cli.specs.declared.running.task.Asking.{Asking}
use Rattle.tally_cli.specs.declared.running.task.Outcome.{Outcome}
use Rattle.tally_cli.specs.declared.running.task.Outcome.TheVariants as outcome
use Rattle.tally_cli.specs.inside.Deals.{work_of}
use Rattle.tally_cli.specs.Output.{login_entries, proc_entries}
use Rattle.tally_cli.specs.inside.Tasks.{IsDone, IsOutcome, asker_questions}
use Rattle.tally_cli.proofs.Numbered.{of_file, of_no_file}

abbrev login_of_parts : ℕ → LoginRecord → Entry
login_of_parts n r = record { host = n; item = r }

abbrev proc_of_parts : ℕ → ProcRecord → ProcEntry
proc_of_parts n r = record { host = n; item = r }

-- a host's records among those of the files
pub logins_of_file : (files : List Records) (k : ℕ) (d : Records) → k < length files → of_host k (login_entries files) ≡ logins_in (get_or files k d)
logins_of_file files k d h = of_file (λ (e : Entry). e.host) (λ (e : Entry). e.item) login_of_parts (λ n r. refl) (λ n r. refl) logins_in files k d h

pub no_logins_past : (files : List Records) (k : ℕ) → length files ≤ k → of_host k (login_entries files) ≡ []
no_logins_past files k h = of_no_file (λ (e : Entry). e.host) (λ (e : Entry). e.item) login_of_parts (λ n r. refl) (λ n r. refl) logins_in files k h

pub procs_of_file : (files : List Records) (k : ℕ) (d : Records) → k < length files → procs_of_host k (proc_entries files) ≡ procs_in (get_or files k d)
procs_of_file files k d h = of_file (λ (e : ProcEntry). e.host) (λ (e : ProcEntry). e.item) proc_of_parts (λ n r. refl) (λ n r. refl) procs_in files k d h

pub no_procs_past : (files : List Records) (k : ℕ) → length files ≤ k → procs_of_host k (proc_entries files) ≡ []
no_procs_past files k h = of_no_file (λ (e : ProcEntry). e.host) (λ (e : ProcEntry). e.item) proc_of_parts (λ n r. refl) (λ n r. refl) procs_in files k h

-- the records of posts, and of questions
posted_records : {R : Type 0} (added : Deed → List R) (of_batch : Records → List R) → ((b : Records) → added (post_of b) ≡ of_batch b) → (batches : List Records) → flat_map added (map post_of batches) ≡ flat_map of_batch batches
posted_records added of_batch same [] = refl
posted_records added of_batch same (b ∷ bs) = λ i. same b i ++ posted_records added of_batch same bs i

asked_records : {R : Type 0} (added : Deed → List R) → ((q : Question) → added (AskDeed q) ≡ []) → (questions : List Question) → flat_map added (map AskDeed questions) ≡ []
asked_records added nothing [] = refl
asked_records added nothing (q ∷ qs) = λ i. nothing q i ++ asked_records added nothing qs i

-- the records that deeds added
pub record Added (ds : List Deed) (file : Records) : Type 0 where
  pub logins : flat_map logins_added ds ≡ logins_in file
  pub procs : flat_map procs_added ds ≡ procs_in file

pub record AddedNothing (ds : List Deed) : Type 0 where
  pub logins : flat_map logins_added ds ≡ []
  pub procs : flat_map procs_added ds ≡ []

-- what a caller posted of its work that was done whole: its file, or nothing where it has none
abbrev pub FilePosted : {I : Type 0} → ℕ → (I → Option (List ℕ)) → Option (Source I) → PassState → Type 0
FilePosted room to_come (Some source) q = (bytes : List ℕ) → to_come source.input ≡ Some bytes
    → (feed_fault (batches_in room) source.kind bytes ≡ None) × Added (deeds q) (records_in source.kind bytes)
FilePosted room to_come None q = AddedNothing (deeds q)

-- an asker that is done has asked all its questions, and did nothing else
pub asked_whole : {I : Type 0} (to_come : I → Option (List ℕ)) (can_fail : I → Bool) (asking : Asking) (p q : PassState) (o : Outcome) → deeds p ≡ [] → IsOutcome to_come can_fail (work_of {I = I} asking None) p q o → IsDone o
    → deeds q ≡ map AskDeed (asker_questions asking)
asked_whole to_come can_fail asking p q outcome.Untried e h d = absurd d
asked_whole to_come can_fail asking p q (outcome.Fed fed) e h d = absurd h
asked_whole to_come can_fail asking p q (outcome.FeedFailed f) e h d = absurd d
asked_whole to_come can_fail asking p q (outcome.Asked n) e h d = h.1 ∙ ap (λ (ds : List Deed). ds ++ map AskDeed (asker_questions asking)) e
asked_whole to_come can_fail asking p q (outcome.AskFailed f) e h d = absurd d

pub posted_file : {I : Type 0} (to_come : I → Option (List ℕ)) (can_fail : I → Bool) (asking : Asking) (source : Option (Source I)) (p q : PassState) (o : Outcome) → deeds p ≡ [] → IsOutcome to_come can_fail (work_of asking source) p q o → IsDone o
    → FilePosted p.seen.room to_come source q
posted_file to_come can_fail asking (Some s) p q outcome.Untried e h d = absurd d
posted_file to_come can_fail asking (Some s) p q (outcome.Fed fed) e h d = λ bytes told.
    let whole = h.whole bytes told in
    let is : deeds q ≡ map post_of (good_batches (batches_in p.seen.room) s.kind bytes) = whole.all ∙ ap (λ (ds : List Deed). ds ++ map post_of (good_batches (batches_in p.seen.room) s.kind bytes)) e in (
      whole.no_fault,
      record {
        logins = ap (flat_map logins_added) is ∙ posted_records logins_added logins_in (λ b. refl) (good_batches (batches_in p.seen.room) s.kind bytes) ∙ whole.joined.logins;
        procs = ap (flat_map procs_added) is ∙ posted_records procs_added procs_in (λ b. refl) (good_batches (batches_in p.seen.room) s.kind bytes) ∙ whole.joined.procs;
      },
    )
posted_file to_come can_fail asking (Some s) p q (outcome.FeedFailed f) e h d = absurd d
posted_file to_come can_fail asking (Some s) p q (outcome.Asked n) e h d = absurd h
posted_file to_come can_fail asking (Some s) p q (outcome.AskFailed f) e h d = absurd d
posted_file to_come can_fail asking None p q outcome.Untried e h d = absurd d
posted_file to_come can_fail asking None p q (outcome.Fed fed) e h d = absurd h
posted_file to_come can_fail asking None p q (outcome.FeedFailed f) e h d = absurd d
posted_file to_come can_fail asking None p q (outcome.Asked n) e h d =
    let is = asked_whole to_come can_fail asking p q (outcome.Asked n) e h d in
    record {
      logins = ap (flat_map logins_added) is ∙ asked_records logins_added (λ q. refl) (asker_questions asking);
      procs = ap (flat_map procs_added) is ∙ asked_records procs_added (λ q. refl) (asker_questions asking);
    }
posted_file to_come can_fail asking None p q (outcome.AskFailed f) e h d = absurd d
