-- A book has few calls for the records that its callers posted.
use Rattle.std.proofs.Common.{◌≡◌, ℕ, ◌+◌, ◌-◌, ◌*◌, ◌≤◌, Bool, List, [], ◌∷◌, ◌++◌, Option, Some, None, length, map, take, refl, sym, ap, ◌∙◌, subst, arith, length-append}
use Rattle.std.proofs.lemmas.List.{length-map, length-take-le}
use Rattle.std.proofs.lemmas.List.Elements.{All-head, All-tail}
use Rattle.std.proofs.lemmas.List.Sums.{sum_by-cons, sum_by-take-le}
use Rattle.std.specs.List.{All, flat_map, sum_by}
use Rattle.tally_answers.specs.declared.question.Question.{Question}
use Rattle.tally_book.specs.Deeds.{Ask as AskDeed, Deed, logins_added, procs_added}
use Rattle.tally_desk.specs.Feeds.{IsFull, post_of}
use Rattle.tally_desk.specs.Passes.{PassState, deeds}
use Rattle.tally_records.specs.Records.{Records, Logins, Procs, logins_in, procs_in, record_count}
use Rattle.tally_cli.specs.declared.running.source.Source.{Source}
use Rattle.tally_cli.specs.declared.running.task.Asking.{Asking}
use Rattle.tally_cli.specs.declared.running.task.Outcome.{Outcome}
use Rattle.tally_cli.specs.declared.running.task.Outcome.TheVariants as outcome
use Rattle.tally_cli.specs.inside.Deals.{work_of}
use Rattle.tally_cli.specs.inside.Tasks.{IsOutcome, asker_questions}

-- deeds are few for the records that they added
abbrev pub AreFew : List Deed → Type 0
AreFew ds = 1024 * length ds ≤ length (flat_map logins_added ds) + length (flat_map procs_added ds) + 17408

count_is : (b : Records) → length (logins_in b) + length (procs_in b) ≡ record_count b
count_is (Logins records) = omega arith
count_is (Procs records) = omega arith

added_count : (bs : List Records) → length (flat_map logins_added (map post_of bs)) + length (flat_map procs_added (map post_of bs)) ≡ sum_by record_count bs
added_count [] = refl
added_count (b ∷ bs) = omega (arith, length-append (logins_in b) (flat_map logins_added (map post_of bs)), length-append (procs_in b) (flat_map procs_added (map post_of bs)), count_is b, added_count bs, sum_by-cons record_count b bs)

full_count : (bs : List Records) → All IsFull bs → sum_by record_count bs ≡ 1024 * length bs
full_count [] all = refl
full_count (b ∷ bs) all = omega (arith, sum_by-cons record_count b bs, All-head IsFull b bs all, full_count bs (All-tail IsFull b bs all))

posts_few : (ds : List Deed) (bs : List Records) → ds ≡ map post_of bs → 1024 * length bs ≤ sum_by record_count bs + 1024 → AreFew ds
posts_few ds bs e few = subst AreFew (sym e) (omega (arith, length-map bs post_of, added_count bs, few))

-- all but the last are full
nearly_full : (bs : List Records) → All IsFull (take (length bs - 1) bs) → 1024 * length bs ≤ sum_by record_count bs + 1024
nearly_full bs all =
    let n : ℕ = length bs - 1 in
    let long : length (take n bs) ≡ n = length-take-le n bs (omega arith) in
    omega (arith, full_count (take n bs) all, long, sum_by-take-le record_count bs n)

asks_few : (ds : List Deed) (qs : List Question) → ds ≡ map AskDeed qs → length qs ≤ 16 → AreFew ds
asks_few ds qs e few = subst AreFew (sym e) (omega (arith, length-map qs (λ (q : Question). AskDeed q), few))

pub outcome_few : {I : Type 0} (to_come : I → Option (List ℕ)) (can_fail : I → Bool) (asking : Asking) (source : Option (Source I)) (p q : PassState) (o : Outcome) → deeds p ≡ [] → IsOutcome to_come can_fail (work_of asking source) p q o → AreFew (deeds q)
outcome_few to_come can_fail asking (Some s) p q outcome.Untried e h = subst AreFew (sym (ap deeds h ∙ e)) (omega arith)
outcome_few to_come can_fail asking (Some s) p q (outcome.Fed fed) e h =
    let bs = h.counted.0 in
    posts_few (deeds q) bs (h.counted.1 ∙ ap (λ (ds : List Deed). ds ++ map post_of bs) e) (nearly_full bs h.counted.2.full)
outcome_few to_come can_fail asking (Some s) p q (outcome.FeedFailed f) e h =
    let bs = h.posts.batches in
    posts_few (deeds q) bs (h.posts.posted ∙ ap (λ (ds : List Deed). ds ++ map post_of bs) e) (omega (arith, full_count bs h.posts.full))
outcome_few to_come can_fail asking (Some s) p q (outcome.Asked n) e h = absurd h
outcome_few to_come can_fail asking (Some s) p q (outcome.AskFailed f) e h = absurd h
outcome_few to_come can_fail asking None p q outcome.Untried e h = subst AreFew (sym (ap deeds h ∙ e)) (omega arith)
outcome_few to_come can_fail asking None p q (outcome.Fed fed) e h = absurd h
outcome_few to_come can_fail asking None p q (outcome.FeedFailed f) e h = absurd h
outcome_few to_come can_fail asking None p q (outcome.Asked n) e h = asks_few (deeds q) (asker_questions asking) (h.1 ∙ ap (λ (ds : List Deed). ds ++ map AskDeed (asker_questions asking)) e) (omega arith)
outcome_few to_come can_fail asking None p q (outcome.AskFailed f) e h =
    let total : length (asker_questions asking) ≡ length h.done + length (h.next ∷ h.left) = ap length h.order ∙ length-append h.done (h.next ∷ h.left) in
    asks_few (deeds q) h.done (h.some ∙ ap (λ (ds : List Deed). ds ++ map AskDeed h.done) e) (omega (arith, total))
