-- How much the files hold together.
use Rattle.std.proofs.Common.{◌≡◌, ℕ, ◌+◌, ◌<◌, ◌≤◌, Bool, List, Option, Some, None, length, map, get_or, sym, ap, ◌∙◌, subst, arith, eqb, ⊎_elim}
use Rattle.std.proofs.lemmas.List.{length-map, get_or_default}
use Rattle.std.proofs.lemmas.Option.{slice_get_within}
use Rattle.std.proofs.Math.ListN.{get_or-map}
use Rattle.std.specs.Prelude.{slice_get}
use Rattle.std.specs.List.{filter, flat_map, sum_by}
use Rattle.tally_answers.specs.declared.question.Question.{Question}
use Rattle.tally_book.specs.Contents.{Contents}
use Rattle.tally_book.specs.Deeds.{Ask as AskDeed, Deed, deed, deeds_of}
use Rattle.tally_book.specs.Rooms.{batches_in}
use Rattle.tally_desk.specs.Feeds.{good_batches, post_of}
use Rattle.tally_desk.specs.Passes.{PassState, deeds}
use Rattle.tally_records.specs.Records.{Records}
use Rattle.tally_cli.specs.declared.running.gather.Failure.{Failure}
use Rattle.tally_cli.specs.declared.running.source.Source.{Source}
use Rattle.tally_cli.specs.declared.running.task.Asking.{Asking}
use Rattle.tally_cli.specs.inside.Deals.{work_of}
use Rattle.tally_cli.specs.Runs.{Tell, Told}
use Rattle.tally_cli.specs.inside.Tasks.{IsOutcome}
use Rattle.tally_cli.proofs.Counting.{of_key, shares}
use Rattle.tally_cli.proofs.Shares.{all_below, asker_much, below_list, below_more, file_much}
use Rattle.tally_cli.proofs.Ended.{Ended, did, no_calls, no_input, room_at, source_or_none, told_at}

module _ {I : Type 0} {to_come : I → Option (List ℕ)} {can_fail : I → Bool} {asking : Asking} {sources : List (Source I)} {passes : List PassState} {d : PassState} {b : Contents} {failure : Option Failure}
    (ended : Ended to_come can_fail asking sources passes d b failure) where
  -- what all inputs hold together, where one has so much more than was posted
  pub too_many : {E R : Type 0} (owner : E → ℕ) (item : E → R) (added : Deed → List R) (size : Records → ℕ) → ((x : Records) → length (added (post_of x)) ≡ size x) → ((q : Question) → length (added (AskDeed q)) ≡ 0)
      → (es : List E) → ((h : ℕ) → map item (filter (λ x. eqb (owner x) h) es) ≡ flat_map added (deeds_of h b)) → (inputs : List Told) → Tell to_come sources inputs → (host more : ℕ) → host < length sources
      → length (flat_map added (deeds_of host b)) + more ≤ sum_by size (good_batches (batches_in b.room) (get_or inputs host no_input).kind (get_or inputs host no_input).bytes)
      → length es + more ≤ sum_by (λ i. sum_by size (good_batches (batches_in b.room) i.kind i.bytes)) inputs
  too_many owner item added size posted asked es own_is inputs tell host more near here =
      let held : Told → ℕ = λ i. sum_by size (good_batches (batches_in b.room) i.kind i.bytes) in
      let used : ℕ → ℕ = of_key owner es in
      let cap : ℕ → ℕ = λ h. get_or (map held inputs) h 0 in
      let used_is : (h : ℕ) → used h ≡ length (flat_map added (deeds_of h b)) = λ h. sym (length-map (filter (λ x. eqb (owner x) h) es) item) ∙ ap length (own_is h) in
      let cap_is : (h : ℕ) → h < length inputs → cap h ≡ held (get_or inputs h no_input) = λ h l. get_or_default (map held inputs) h 0 (held no_input) (omega (arith, l, length-map inputs held)) ∙ get_or-map held inputs h no_input in
      let each : (h : ℕ) → h < b.callers → used h ≤ cap h = λ h l.
      let m = did ended h l in
      let inside : h < length passes = omega (arith, ended.all, l) in
      let start = (ended.first h inside).1 in
      let mine : used h ≡ length (flat_map added (deeds m.task.pass)) = used_is h ∙ ap (λ ds. length (flat_map added ds)) m.done in
      ⊎_elim
      (λ (found : (s : Source I) × (slice_get sources h ≡ Some s)).
      let t = told_at ended inputs h found.0 tell found.1 in
      let i : Told = get_or inputs h no_input in
      let few_enough : length (flat_map added (deeds m.task.pass)) ≤ sum_by size (good_batches (batches_in b.room) found.0.kind i.bytes) =
      subst (λ r. length (flat_map added (deeds m.task.pass)) ≤ sum_by size (good_batches (batches_in r) found.0.kind i.bytes)) (sym (room_at ended h inside))
      (file_much added size posted asked to_come can_fail asking found.0 i.bytes (get_or passes h d) m.task.pass m.task.outcome t.1 start (subst (λ o. IsOutcome to_come can_fail (work_of asking o) (get_or passes h d) m.task.pass m.task.outcome) found.1 m.outcome_is)) in
      omega (arith, mine, few_enough, ap (λ kind. sum_by size (good_batches (batches_in b.room) kind i.bytes)) t.0, cap_is h (omega (arith, slice_get_within sources h found.0 found.1, tell.0))))
      (λ (never : (slice_get sources h ≡ None) × (length sources ≤ h)).
      omega (arith, mine, asker_much added size posted asked to_come can_fail asking (get_or passes h d) m.task.pass m.task.outcome start (subst (λ o. IsOutcome to_come can_fail (work_of asking o) (get_or passes h d) m.task.pass m.task.outcome) never.0 m.outcome_is)))
      (source_or_none sources h) in
      let none_past : (h : ℕ) → b.callers ≤ h → used h ≡ 0 = λ h l. used_is h ∙ ap (λ cs. length (flat_map added (map (deed b.logins b.procs) cs))) (no_calls b.callers h b.clock b.logins b.procs b.calls l ended.legal.sound) in
      omega (
        arith,
        shares owner es b.callers (all_below owner es b.callers none_past),
        below_list held inputs b.callers (omega (arith, tell.0, ended.enough, ended.all)),
        below_more used cap host more b.callers (omega (arith, near, ended.enough, ended.all)) (omega (arith, used_is host, here, cap_is host (omega (arith, near, tell.0)))) each,
      )
