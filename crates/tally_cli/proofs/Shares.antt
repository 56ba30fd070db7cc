-- A list is full only where the good blocks of all inputs together are too many.
use Rattle.std.proofs.Common.{◌≡◌, ◌≢◌, ℕ, zero, suc, ◌+◌, ◌<◌, ◌≤◌, List, [], ◌∷◌, ◌++◌, Option, Some, None, length, map, get_or, refl, sym, ap, ◌∙◌, subst, arith, cond, eqb, length-append, true, false, Bool, ⊎_elim}
use Rattle.std.proofs.lemmas.Bool.{cases_eq, cases_lt}
use Rattle.std.proofs.lemmas.List.{map-append}
use Rattle.std.proofs.lemmas.List.Sums.{sum_by-append, sum_by-cons}
use Rattle.std.specs.List.{All, filter, flat_map, sum_by}
use Rattle.tally_answers.specs.declared.question.Question.{Question}
use Rattle.tally_book.specs.Deeds.{Ask as AskDeed, Deed}
use Rattle.tally_book.specs.Rooms.{batches_in}
use Rattle.tally_desk.specs.Batches.{records_in}
use Rattle.tally_desk.specs.Blocks.{good_blocks}
use Rattle.tally_desk.specs.Feeds.{IsCut, good_batches, post_of}
use Rattle.tally_desk.specs.Passes.{PassState, deeds}
use Rattle.tally_desk.specs.inside.Totals.{below}
use Rattle.tally_desk.specs.declared.fault.FeedFault.{FeedFault}
use Rattle.tally_desk.specs.declared.fault.FeedFault.TheVariants as feed
use Rattle.tally_records.specs.Records.{Records}
use Rattle.tally_records.specs.declared.batch.Kind.{Kind}
use Rattle.tally_cli.specs.declared.running.source.Source.{Source}
use Rattle.tally_cli.specs.declared.running.task.Asking.{Asking}
use Rattle.tally_cli.specs.declared.running.task.Outcome.{Outcome}
use Rattle.tally_cli.specs.declared.running.task.Outcome.TheVariants as outcome
use Rattle.tally_cli.specs.inside.Deals.{work_of}
use Rattle.tally_cli.specs.inside.Tasks.{FailedToFeed, IsOutcome, asker_questions}
use Rattle.tally_cli.proofs.Counting.{below_nothing, of_key, same_key}

below_least : (f g : ℕ → ℕ) (n : ℕ) → ((h : ℕ) → h < n → f h ≤ g h) → below f n ≤ below g n
below_least f g zero each = omega arith
below_least f g (suc n) each = omega (arith, below_least f g n (λ h l. each h (omega (arith, l))), each n (omega arith))

-- where one has so much less than it may, all together have
pub below_more : (f g : ℕ → ℕ) (k more n : ℕ) → k < n → f k + more ≤ g k → ((h : ℕ) → h < n → f h ≤ g h) → below f n + more ≤ below g n
below_more f g k more zero near here each = absurd (omega (arith, near))
below_more f g k more (suc n) near here each = ⊎_elim
    (λ (e : n ≡ k).
    let last : f n + more ≤ g n = subst (λ m. f m + more ≤ g m) (sym e) here in
    omega (arith, last, below_least f g n (λ h l. each h (omega (arith, l)))))
    (λ (apart : n ≢ k).
    let inside : k < n = omega (arith, near, apart) in
    omega (arith, below_more f g k more n inside here (λ h l. each h (omega (arith, l))), each n (omega arith)))
    (cases_eq n k)

below_shift : (f : ℕ → ℕ) (n : ℕ) → below f (suc n) ≡ f 0 + below (λ h. f (suc h)) n
below_shift f zero = omega arith
below_shift f (suc n) = omega (arith, below_shift f n)

-- the terms of a sum, by their places
pub below_list : {X : Type 0} (g : X → ℕ) (xs : List X) (n : ℕ) → length xs ≤ n → below (λ h. get_or (map g xs) h 0) n ≡ sum_by g xs
below_list g [] n h = below_nothing n
below_list g (x ∷ xs) zero h = absurd (omega (arith, h))
below_list g (x ∷ xs) (suc n) h = omega (arith, below_shift (λ k. get_or (map g (x ∷ xs)) k 0) n, below_list g xs n (omega (arith, h)), sum_by-cons g x xs)

at_least_rest : {X : Type 0} (b : Bool) (x : X) (rest : List X) → length rest ≤ length (cond b (x ∷ rest) rest)
at_least_rest true x rest = omega arith
at_least_rest false x rest = omega arith

some_of_key : {X : Type 0} (key : X → ℕ) (xs : List X) (k : ℕ) (d : X) → k < length xs → 0 < of_key key xs (key (get_or xs k d))
some_of_key key [] k d h = absurd (omega (arith, h))
some_of_key key (x ∷ xs) zero d h = omega (arith, same_key key x xs)
some_of_key {X} key (x ∷ xs) (suc k) d h =
    let n : ℕ = key (get_or xs k d) in
    omega (arith, some_of_key key xs k d (omega (arith, h)), at_least_rest (eqb (key x) n) x (filter (λ y. eqb (key y) n) xs))

-- where none is of a greater key, all are below
pub all_below : {X : Type 0} (key : X → ℕ) (xs : List X) (n : ℕ) → ((h : ℕ) → n ≤ h → of_key key xs h ≡ 0) → All (λ x. key x < n) xs
all_below key xs n none_past = λ k d l. ⊎_elim
    (λ (less : key (get_or xs k d) < n). less)
    (λ (past : n ≤ key (get_or xs k d)). absurd (omega (arith, some_of_key key xs k d l, none_past (key (get_or xs k d)) past)))
    (cases_lt (key (get_or xs k d)) n)

module _ {R : Type 0} (added : Deed → List R) (size : Records → ℕ) (posted : (b : Records) → length (added (post_of b)) ≡ size b) (asked : (q : Question) → length (added (AskDeed q)) ≡ 0) where
  -- how much deeds added
  abbrev pub much : List Deed → ℕ
  much ds = length (flat_map added ds)

  -- how much the good blocks of an input hold
  abbrev pub good : ℕ → Kind → List ℕ → ℕ
  good most kind bytes = sum_by size (good_batches most kind bytes)

  posted_much : (bs : List Records) → much (map post_of bs) ≡ sum_by size bs
  posted_much [] = refl
  posted_much (b ∷ bs) = omega (arith, length-append (added (post_of b)) (flat_map added (map post_of bs)), posted b, posted_much bs, sum_by-cons size b bs)

  asked_much : (qs : List Question) → much (map AskDeed qs) ≡ 0
  asked_much [] = refl
  asked_much (q ∷ qs) = omega (arith, length-append (added (AskDeed q)) (flat_map added (map AskDeed qs)), asked q, asked_much qs)

  fresh_much : (p q : PassState) (bs : List Records) → deeds p ≡ [] → deeds q ≡ deeds p ++ map post_of bs → much (deeds q) ≡ sum_by size bs
  fresh_much p q bs e h = ap much (h ∙ ap (λ (ds : List Deed). ds ++ map post_of bs) e) ∙ posted_much bs

  split_good : (most : ℕ) (kind : Kind) (bytes : List ℕ) (done left : List (List ℕ)) → good_blocks most kind bytes ≡ done ++ left → good most kind bytes ≡ sum_by size (map (records_in kind) done) + sum_by size (map (records_in kind) left)
  split_good most kind bytes done left e =
      ap (λ l. sum_by size (map (records_in kind) l)) e ∙ ap (sum_by size) (map-append (records_in kind) done left) ∙ sum_by-append size (map (records_in kind) done) (map (records_in kind) left)

  cut_much : (most : ℕ) (kind : Kind) (bytes : List ℕ) (p q : PassState) (left : List (List ℕ)) → deeds p ≡ [] → IsCut most kind bytes (λ bs. deeds q ≡ deeds p ++ map post_of bs) left → much (deeds q) + sum_by size (map (records_in kind) left) ≤ good most kind bytes
  cut_much most kind bytes p q left e cut = omega (arith, fresh_much p q (map (records_in kind) cut.done) e cut.some, split_good most kind bytes cut.done left cut.good)

  stopped_much : (kind : Kind) (bytes : List ℕ) (can_fail : Bool) (p q : PassState) (fault : FeedFault) → deeds p ≡ [] → FailedToFeed (Some bytes) can_fail kind p q fault → much (deeds q) ≤ good (batches_in p.seen.room) kind bytes
  stopped_much kind bytes can_fail p q feed.Memory e h = let cut = h.stops bytes refl in omega (arith, cut_much (batches_in p.seen.room) kind bytes p q cut.0 e cut.1)
  stopped_much kind bytes can_fail p q feed.Read e h = let cut = h.stops bytes refl in omega (arith, cut_much (batches_in p.seen.room) kind bytes p q cut.0 e cut.1)
  stopped_much kind bytes can_fail p q (feed.Torn records rest) e h = omega (arith, fresh_much p q (good_batches (batches_in p.seen.room) kind bytes) e (h.stops bytes refl).all)
  stopped_much kind bytes can_fail p q (feed.TooLong limit) e h = omega (arith, fresh_much p q (good_batches (batches_in p.seen.room) kind bytes) e (h.stops bytes refl).all)
  stopped_much kind bytes can_fail p q (feed.Bad at fault) e h = omega (arith, fresh_much p q (good_batches (batches_in p.seen.room) kind bytes) e (h.stops bytes refl).all)
  stopped_much kind bytes can_fail p q (feed.LoginsFull stored) e h = let at = h.stops bytes refl in omega (arith, cut_much (batches_in p.seen.room) kind bytes p q (at.next ∷ at.left) e at.cut)
  stopped_much kind bytes can_fail p q (feed.ProcsFull stored) e h = let at = h.stops bytes refl in omega (arith, cut_much (batches_in p.seen.room) kind bytes p q (at.next ∷ at.left) e at.cut)
  stopped_much kind bytes can_fail p q feed.CallsFull e h = let at = h.stops bytes refl in omega (arith, cut_much (batches_in p.seen.room) kind bytes p q (at.next ∷ at.left) e at.cut)

  -- what a caller that has a file did is no more than its good blocks
  pub file_much : {I : Type 0} (to_come : I → Option (List ℕ)) (can_fail : I → Bool) (asking : Asking) (s : Source I) (bytes : List ℕ) (p q : PassState) (o : Outcome) → to_come s.input ≡ Some bytes → deeds p ≡ [] → IsOutcome to_come can_fail (work_of asking (Some s)) p q o → much (deeds q) ≤ good (batches_in p.seen.room) s.kind bytes
  file_much to_come can_fail asking s bytes p q outcome.Untried told e h = omega (arith, ap much (ap deeds h ∙ e))
  file_much to_come can_fail asking s bytes p q (outcome.Fed fed) told e h = omega (arith, fresh_much p q (good_batches (batches_in p.seen.room) s.kind bytes) e (h.whole bytes told).all)
  file_much to_come can_fail asking s bytes p q (outcome.FeedFailed f) told e h = stopped_much s.kind bytes (can_fail s.input) p q f e (subst (λ t. FailedToFeed t (can_fail s.input) s.kind p q f) told h)
  file_much to_come can_fail asking s bytes p q (outcome.Asked n) told e h = absurd h
  file_much to_come can_fail asking s bytes p q (outcome.AskFailed f) told e h = absurd h

  -- and one that asks added nothing
  pub asker_much : {I : Type 0} (to_come : I → Option (List ℕ)) (can_fail : I → Bool) (asking : Asking) (p q : PassState) (o : Outcome) → deeds p ≡ [] → IsOutcome to_come can_fail (work_of asking None) p q o → much (deeds q) ≡ 0
  asker_much to_come can_fail asking p q outcome.Untried e h = ap much (ap deeds h ∙ e)
  asker_much to_come can_fail asking p q (outcome.Fed fed) e h = absurd h
  asker_much to_come can_fail asking p q (outcome.FeedFailed f) e h = absurd h
  asker_much to_come can_fail asking p q (outcome.Asked n) e h = ap much (h.1 ∙ ap (λ (ds : List Deed). ds ++ map AskDeed (asker_questions asking)) e) ∙ asked_much (asker_questions asking)
  asker_much to_come can_fail asking p q (outcome.AskFailed f) e h = ap much (h.some ∙ ap (λ (ds : List Deed). ds ++ map AskDeed h.done) e) ∙ asked_much h.done

  -- a refused block and what was posted before it are among the good blocks
  pub refused_much : (most : ℕ) (kind : Kind) (bytes : List ℕ) (p q : PassState) (next : List ℕ) (left : List (List ℕ)) → deeds p ≡ [] → IsCut most kind bytes (λ bs. deeds q ≡ deeds p ++ map post_of bs) (next ∷ left) → much (deeds q) + size (records_in kind next) ≤ good most kind bytes
  refused_much most kind bytes p q next left e cut = omega (arith, cut_much most kind bytes p q (next ∷ left) e cut, sum_by-cons size (records_in kind next) (map (records_in kind) left))
