-- What contracts see of a desk and of a pass, and what a call does to a pass.
use Rattle.std.specs.Prelude.{◌≡◌, ℕ, ◌<◌, ◌≤◌, List, [], ◌∷◌, ◌++◌, length, map, take, slice_index_or}
use Rattle.std.specs.List.{range_with_len}
use Rattle.atomic_table.specs.Seated.{TableId}
use Rattle.atomic_table.specs.Table.{Me}
use Rattle.tally_clock.specs.Rows.{ClockRows, utc}
use Rattle.tally_book.specs.declared.history.Call.{Call}
use Rattle.tally_book.specs.declared.history.Counts.{Counts}
use Rattle.tally_book.specs.Contents.{Contents}
use Rattle.tally_book.specs.Books.{IsLegal, calls_of}
use Rattle.tally_book.specs.Deeds.{Deed, deed, deeds_of}
use Rattle.tally_records.specs.Records.{Records, logins_in, procs_in}
use Rattle.tally_sessions.specs.Hosts.{posted_by}
use Rattle.tally_usage.specs.Summary.{entries_of}
use Rattle.tally_desk.specs.declared.lock.view.Known.{Known}
use Rattle.tally_desk.specs.Callers.{Follows, Fits, newcomer}
use Rattle.tally_desk.specs.declared.lock.view.View.{View}

-- which desk it is, and how many callers it has
pub record DeskState : Type 0 where
  pub id : TableId
  pub callers : ℕ

-- the desk that the pass is of, the caller's number, what it has seen of the book, its own calls, and the number of calls that it last learned
pub record PassState : Type 0 where
  pub desk : TableId
  pub number : ℕ
  pub seen : Contents
  pub mine : List Call
  pub told : ℕ

-- the pass of a caller
abbrev pub pass_of : TableId → Known → PassState
pass_of id k = record { desk = id; number = k.number; seen = k.seen; mine = k.mine; told = k.told }

-- a seat: its view, and the slots that are out with it
abbrev pub Sat : Type 0
Sat = Me Contents View

-- the pass of a seat
abbrev pub seen_as : TableId → Sat → PassState
seen_as id m = pass_of id (slice_index_or m.0.known 0 (newcomer utc 0 0 0))

-- what the caller of a pass knows
abbrev pub known_of : PassState → Known
known_of p = record { number = p.number; seen = p.seen; mine = p.mine; told = p.told }

-- the pass of a caller that has seen nothing and made no call
abbrev pub first_pass : TableId → ClockRows → ℕ → ℕ → ℕ → PassState
first_pass id clock room callers number = pass_of id (newcomer clock room callers number)

-- the passes of a new desk, whose book has this clock and room for so many records
abbrev pub first_passes : TableId → ClockRows → ℕ → ℕ → List PassState
first_passes id clock room callers = map (first_pass id clock room callers) (range_with_len 0 callers)

-- it is the same caller's pass of the same desk, it knows no less, and a legal book stays one
pub record Keeps (old new : PassState) : Type 0 where
  pub desk : new.desk ≡ old.desk
  pub number : new.number ≡ old.number
  pub seen : Follows old.seen new.seen
  pub legal : IsLegal old.seen → IsLegal new.seen
  pub told : old.told ≤ new.told

-- the pass has learned of as many calls as it has seen, and its own are those of its number
pub record IsCurrent (p : PassState) : Type 0 where
  pub told : p.told ≡ length p.seen.calls
  pub own : calls_of p.number p.seen.calls ≡ p.mine

-- the call is the last of what is seen, its place in it is above all that was learned, and it is one more of the caller's own
pub record IsAnswered (old : PassState) (call : Call) (place : ℕ) (new : PassState) : Type 0 where
  pub last : (earlier : List Call) × (new.seen.calls ≡ earlier ++ call ∷ [])
  pub counted : place ≡ length new.seen.calls
  pub above : old.told < place
  pub told : new.told ≡ place
  pub mine : new.mine ≡ old.mine ++ call ∷ []

-- both lists are their first entries, as many as there were, and then exactly the batch under the caller
pub record Stores (caller : ℕ) (before : Counts) (batch : Records) (seen : Contents) : Type 0 where
  pub logins : seen.logins ≡ take before.logins seen.logins ++ posted_by caller (logins_in batch)
  pub procs : seen.procs ≡ take before.procs seen.procs ++ entries_of caller (procs_in batch)

-- only the number of calls that the pass has learned is new
abbrev pub told_pass : ℕ → PassState → PassState
told_pass calls p = record { desk = p.desk; number = p.number; seen = p.seen; mine = p.mine; told = calls }

-- the book is one that the pass has seen a beginning of, with just the pass's calls of its number
abbrev pub Stands : Contents → PassState → Type 0
Stands book p = Fits book (known_of p)

-- what the caller did, in order
abbrev pub deeds : PassState → List Deed
deeds p = map (deed p.seen.logins p.seen.procs) p.mine

-- the book has just the pass's deeds of its number
abbrev pub HasDone : Contents → PassState → Type 0
HasDone book p = deeds_of p.number book ≡ deeds p
