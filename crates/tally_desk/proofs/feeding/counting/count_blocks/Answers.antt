use Rattle.std.proofs.Common.{◌∙◌, ◌<◌, arith, refl, subst, vec_capacity, vec_len}
use Rattle.std.proofs.lemmas.Result.{err_from_is_err_and}
use Rattle.std.specs.Io.KnownBytes.{IsAtEnd}
use Rattle.tally_records.specs.Records.{record_count}
use Rattle.tally_records.specs.declared.batch.Kind.TheVariants.{Proc}
use Rattle.tally_desk.specs.Blocks.{block_size}
use Rattle.tally_desk.specs.Feeds.{IsFull}
use Rattle.tally_desk.proofs.CountingLemmas.{count_few, count_last, place_after, place_in, turns_all, turns_within, begins_count, block_counted, has_room, nothing_counted, end_is_reading, some_counted, told_block, told_fault, told_last, told_whole}
use Rattle.tally_desk.proofs.ExitLemmas.{ends_at_none, ends_at_short, first_failed, holds_named, memory_is_no_read, still_below, within_named}
use Rattle.tally_desk.proofs.FeedLemmas.{some_batch, takes_end, takes_some}
use Rattle.tally_desk.proofs.TakeLemmas.{takes_next, takes_none}
use Rattle.tally_desk.proofs.TurnLemmas.{last_turn_stops}
use Rattle.tally_desk.proofs.feeding.counting.count_blocks.Goals as goal

pub loop-turn-init : goal.loop-turn-init
loop-turn-init g c = record {
  countable = refl;
  nature = refl;
  taken = takes_none _ _;
  room = holds_named c.block_size.result (block_size Proc) (vec_capacity c.in_ok-block.block) c.block_size.ensures c.in_ok-block.ensures.room;
  ready = within_named c.block_size.result (block_size Proc) (vec_len c.in_ok-block.block) c.block_size.ensures c.in_ok-block.ensures.ready;
  counted = nothing_counted _ c.requires.empty;
  told = λ bytes told. begins_count c.args.choice.now c.args.most bytes _ _ c.requires.empty told;
}

pub next_batch-requires-clause-countable : goal.next_batch-requires-clause-countable
next_batch-requires-clause-countable g c = still_below _ _ _ c.loop-turn.invariant.countable c.requires.countable

pub next_batch-requires-clause-room : goal.next_batch-requires-clause-room
next_batch-requires-clause-room g c = c.loop-turn.invariant.room

pub next_batch-requires-clause-ready : goal.next_batch-requires-clause-ready
next_batch-requires-clause-ready g c = c.loop-turn.invariant.ready

pub next_batch-requires-clause-early : goal.next_batch-requires-clause-early
next_batch-requires-clause-early g c = c.loop-turn-test.true

pub count_batch-requires : goal.count_batch-requires
count_batch-requires g c =
    let batch = some_batch Proc _ c.in-Some.batch c.in-Some.is c.in_ok-batch.ensures.batch in
    record {
      kind = batch.of_kind;
      room = has_room c.args.most _ _ _ c.loop-turn.invariant.counted c.loop-turn-test.true c.requires.few batch;
    }

pub expect_end-requires : goal.expect_end-requires
expect_end-requires g c = still_below _ _ _ c.loop-turn.invariant.countable c.requires.countable

pub returns-in_err-block : goal.returns-in_err-block
returns-in_err-block g c =
    let p = err_from_is_err_and c.from_residual.result c.from_residual.ensures.1 in
    rw (p.1, p.2) (record {
      few = takes_none _ _;
      end = tt;
      nature = refl;
      some = tt;
      whole = tt;
      stops = λ bytes told. tt;
      place = (0, omega arith, tt);
      reading = tt;
      failures = tt;
      unfailed = λ _. refl;
      read = memory_is_no_read;
    })

pub returns-in_err-batch : goal.returns-in_err-batch
returns-in_err-batch g c =
    let p = err_from_is_err_and c.from_residual-in_err-batch.result c.from_residual-in_err-batch.ensures.1 in
    let before = c.loop-turn.invariant in
    let failed = c.in_err-batch.ensures in
    rw (p.1, p.2) (record {
      few = count_few c.args.most c.loop-turn.turn _ _ _ before.taken failed.few c.loop-turn-test.true;
      end = tt;
      nature = failed.nature ∙ before.nature;
      some = tt;
      whole = tt;
      stops = λ bytes told.
          let so_far = before.told bytes told in
          told_fault c.args.choice.now c.args.most bytes _ c.loop-turn.sums c.loop-turn.turn _ so_far (failed.stops so_far.rest so_far.to_come);
      place = (c.loop-turn.turn, turns_within c.args.most _ c.loop-turn-test.true, place_in c.args.most c.loop-turn.turn _ failed.place);
      reading = failed.reading;
      failures = tt;
      unfailed = λ other. failed.unfailed other ∙ before.countable;
      read = λ is. first_failed _ _ _ _ _ before.countable before.nature (failed.read is);
    })

pub returns-in_default : goal.returns-in_default
returns-in_default g c =
    let before = c.loop-turn.invariant in
    let taken = c.in_ok-batch.ensures in
    record {
      few = count_few c.args.most c.loop-turn.turn _ _ _ before.taken taken.few c.loop-turn-test.true;
      end = ends_at_none _ _ taken.end c.in_default.is;
      nature = taken.nature ∙ before.nature;
      some = some_counted c.args.most _ _ before.counted (turns_within c.args.most _ c.loop-turn-test.true);
      whole = λ bytes told.
          let so_far = before.told bytes told in
          let end = takes_end c.args.most Proc _ c.loop-turn.turn so_far.rest _ c.in_default.is (taken.takes so_far.rest so_far.to_come) in
          told_whole c.args.choice.now c.args.most bytes _ c.loop-turn.sums c.loop-turn.turn so_far end;
      stops = tt;
      place = tt;
      reading = tt;
      failures = taken.failures ∙ before.countable;
      unfailed = tt;
      read = tt;
    }

pub returns-in_err-count_batch : goal.returns-in_err-count_batch
returns-in_err-count_batch g c =
    let p = err_from_is_err_and c.from_residual-in_err-count_batch.result c.from_residual-in_err-count_batch.ensures.1 in
    let before = c.loop-turn.invariant in
    let taken = c.in_ok-batch.ensures in
    rw (p.1, p.2, c.in_err-count_batch.ensures.memory) (record {
      few = count_few c.args.most c.loop-turn.turn _ _ _ before.taken taken.few c.loop-turn-test.true;
      end = tt;
      nature = taken.nature ∙ before.nature;
      some = tt;
      whole = tt;
      stops = λ bytes told. tt;
      place = (0, omega arith, tt);
      reading = tt;
      failures = tt;
      unfailed = λ _. taken.failures ∙ before.countable;
      read = memory_is_no_read;
    })

pub returns-then-is_last : goal.returns-then-is_last
returns-then-is_last g c =
    let before = c.loop-turn.invariant in
    let taken = c.in_ok-batch.ensures in
    let more = c.in_ok-count_batch.ensures.counted in
    let short : record_count c.in-Some.batch < 1024 = c.if-is_last.ensures in
    record {
      few = count_few c.args.most c.loop-turn.turn _ _ _ before.taken taken.few c.loop-turn-test.true;
      end = ends_at_short _ _ taken.end c.in-Some.batch c.in-Some.is short;
      nature = taken.nature ∙ before.nature;
      some = some_counted c.args.most _ _ (block_counted c.args.choice.now _ _ c.loop-turn.turn c.in-Some.batch before.counted (some_batch Proc _ c.in-Some.batch c.in-Some.is taken.batch) more) (omega (arith, c.loop-turn-test.true));
      whole = λ bytes told.
          let so_far = before.told bytes told in
          let takes = takes_some c.args.most Proc _ c.loop-turn.turn so_far.rest _ c.in-Some.batch c.in-Some.is (taken.takes so_far.rest so_far.to_come) in
          told_last c.args.choice.now c.args.most bytes _ _ c.loop-turn.sums c.count_batch.new.sums c.loop-turn.turn c.in-Some.batch so_far takes more short;
      stops = tt;
      place = tt;
      reading = tt;
      failures = taken.failures ∙ before.countable;
      unfailed = tt;
      read = tt;
    }

pub loop-turn-preserved : goal.loop-turn-preserved
loop-turn-preserved g c =
    let next = c.in_ok-batch.ensures in
    let before = c.loop-turn.invariant in
    let more = c.in_ok-count_batch.ensures.counted in
    let batch = some_batch Proc _ c.in-Some.batch c.in-Some.is next.batch in
    let full : IsFull c.in-Some.batch = omega (arith, batch.few, c.if-is_last.ensures) in
    record {
      countable = next.failures ∙ before.countable;
      taken = takes_next Proc c.loop-turn.turn _ _ _ before.taken next.few;
      nature = next.nature ∙ before.nature;
      room = next.room;
      ready = next.ready;
      counted = block_counted c.args.choice.now _ _ c.loop-turn.turn c.in-Some.batch before.counted batch more;
      told = λ bytes told.
          let so_far = before.told bytes told in
          let takes = takes_some c.args.most Proc _ c.loop-turn.turn so_far.rest _ c.in-Some.batch c.in-Some.is (next.takes so_far.rest so_far.to_come) in
          told_block c.args.choice.now c.args.most bytes _ _ c.loop-turn.sums c.count_batch.new.sums c.loop-turn.turn c.in-Some.batch so_far takes more full;
    }

pub returns-in_err-expect_end : goal.returns-in_err-expect_end
returns-in_err-expect_end g c =
    let p = err_from_is_err_and c.from_residual-in_err-expect_end.result c.from_residual-in_err-expect_end.ensures.1 in
    let before = c.loop-turn.invariant in
    let failed = c.in_err-expect_end.ensures in
    let last = turns_all c.args.most c.loop-turn.turn c.loop-turn.auto.turn-end c.loop-turn-test.false in
    rw (p.1, p.2) (record {
      few = count_last c.args.most c.loop-turn.turn _ _ _ before.taken failed.few c.loop-turn.auto.turn-end;
      end = tt;
      nature = failed.nature ∙ before.nature;
      some = tt;
      whole = tt;
      stops = λ bytes told.
          let so_far = before.told bytes told in
          told_fault c.args.choice.now c.args.most bytes _ c.loop-turn.sums c.loop-turn.turn _ so_far
          (last_turn_stops c.args.most Proc c.loop-turn.turn so_far.rest _ last failed.err (λ long. failed.long long so_far.rest so_far.to_come));
      place = (c.loop-turn.turn, c.loop-turn.auto.turn-end, place_after c.args.most c.loop-turn.turn _ last failed.err);
      reading = end_is_reading _ _ failed.err;
      failures = tt;
      unfailed = λ other. failed.unfailed other ∙ before.countable;
      read = λ is. first_failed _ _ _ _ _ before.countable before.nature (failed.read is);
    })

pub returns : goal.returns
returns g c =
    let before = c.loop-turn.invariant in
    let ended = c.in_ok-expect_end.ensures in
    record {
      few = count_last c.args.most c.loop-turn.turn _ _ _ before.taken ended.few c.loop-turn.auto.turn-end;
      end = ended.end;
      nature = ended.nature ∙ before.nature;
      some = some_counted c.args.most _ _ before.counted c.loop-turn.auto.turn-end;
      whole = λ bytes told.
          let so_far = before.told bytes told in
          told_whole c.args.choice.now c.args.most bytes _ c.loop-turn.sums c.loop-turn.turn so_far (subst IsAtEnd so_far.to_come ended.ok);
      stops = tt;
      place = tt;
      reading = tt;
      failures = ended.failures ∙ before.countable;
      unfailed = tt;
      read = tt;
    }
