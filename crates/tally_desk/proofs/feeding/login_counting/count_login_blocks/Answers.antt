use Rattle.std.proofs.Common.{◌∙◌, ◌<◌, arith, refl, subst, vec_capacity, vec_len}
use Rattle.std.proofs.lemmas.Result.{err_from_is_err_and}
use Rattle.std.specs.Io.KnownBytes.{IsAtEnd}
use Rattle.tally_records.specs.Records.{record_count}
use Rattle.tally_records.specs.declared.batch.Kind.TheVariants.{Login}
use Rattle.tally_desk.specs.Blocks.{block_size}
use Rattle.tally_desk.specs.Feeds.{IsFull}
use Rattle.tally_desk.specs.declared.fault.FeedFault.TheVariants as fault
use Rattle.tally_desk.proofs.CountLemmas.{after_all, in_block}
use Rattle.tally_desk.proofs.CountingLemmas.{end_is_reading}
use Rattle.tally_desk.proofs.ExitLemmas.{all_turns, ends_at_none, ends_at_short, first_failed, holds_named, memory_is_no_read, still_below, within_named, within_turns}
use Rattle.tally_desk.proofs.Taken.{told_all, told_full, told_last, told_none}
use Rattle.tally_desk.proofs.FeedLemmas.{some_batch, takes_end, takes_some}
use Rattle.tally_desk.proofs.LoginCountLemmas.{CountsIn, count_stops, counts_one, full_counted, has_room, last_counted, nothing_counted, some_counted, still_counted, still_told, stopped_count, whole_count}
use Rattle.tally_desk.proofs.TakeLemmas.{takes_few, takes_last, takes_next, takes_none}
use Rattle.tally_desk.proofs.TurnLemmas.{last_turn_stops}
use Rattle.tally_desk.proofs.feeding.login_counting.count_login_blocks.Goals as goal

pub loop-turn-init : goal.loop-turn-init
loop-turn-init g c = record {
  countable = refl;
  nature = refl;
  taken = takes_none _ _;
  room = holds_named c.block_size.result (block_size Login) (vec_capacity c.in_ok-block.block) c.block_size.ensures c.in_ok-block.ensures.room;
  ready = within_named c.block_size.result (block_size Login) (vec_len c.in_ok-block.block) c.block_size.ensures c.in_ok-block.ensures.ready;
  counted = nothing_counted _ c.requires.empty;
  keeps = refl;
  told = λ bytes told. told_none c.args.most Login bytes _ (CountsIn c.args.sums.now) c.requires.empty told;
}

pub next_logins-requires-clause-countable : goal.next_logins-requires-clause-countable
next_logins-requires-clause-countable g c = still_below _ _ _ c.loop-turn.invariant.countable c.requires.countable

pub next_logins-requires-clause-room : goal.next_logins-requires-clause-room
next_logins-requires-clause-room g c = c.loop-turn.invariant.room

pub next_logins-requires-clause-ready : goal.next_logins-requires-clause-ready
next_logins-requires-clause-ready g c = c.loop-turn.invariant.ready

pub next_logins-requires-clause-early : goal.next_logins-requires-clause-early
next_logins-requires-clause-early g c = c.loop-turn-test.true

pub count_batch-requires : goal.count_batch-requires
count_batch-requires g c =
    let batch = some_batch Login _ c.in-Some.batch c.in-Some.is c.in_ok-batch.ensures.batch in
    record {
      kind = batch.of_kind;
      room = has_room c.args.most _ _ _ c.loop-turn.invariant.counted c.loop-turn-test.true c.requires.few batch;
    }

pub expect_end-requires : goal.expect_end-requires
expect_end-requires g c = still_below _ _ _ c.loop-turn.invariant.countable c.requires.countable

pub returns-in_err-block : goal.returns-in_err-block
returns-in_err-block g c =
    let p = err_from_is_err_and c.from_residual.result c.from_residual.ensures.1 in
    let sums = c.args.sums.now in
    rw (p.1, p.2) (record {
      few = takes_none _ _;
      end = tt;
      nature = refl;
      some = tt;
      whole = tt;
      keeps = refl;
      stops = λ bytes told. count_stops c.args.most bytes _ sums 0 (told_none c.args.most Login bytes _ (CountsIn sums) c.requires.empty told) fault.Memory tt;
      place = stopped_count c.args.most sums 0 fault.Memory (nothing_counted sums c.requires.empty) (omega arith) tt tt;
      failures = tt;
      unfailed = λ _. refl;
      read = memory_is_no_read;
    })

pub returns-in_err-batch : goal.returns-in_err-batch
returns-in_err-batch g c =
    let p = err_from_is_err_and c.from_residual-in_err-batch.result c.from_residual-in_err-batch.ensures.1 in
    let before = c.loop-turn.invariant in
    let failed = c.in_err-batch.ensures in
    rw (p.1, p.2) (record {
      few = takes_few Login c.loop-turn.turn _ _ _ before.taken c.args.most failed.few c.loop-turn-test.true;
      end = tt;
      nature = failed.nature ∙ before.nature;
      some = tt;
      whole = tt;
      keeps = before.keeps;
      stops = λ bytes told.
          let so_far = before.told bytes told in
          count_stops c.args.most bytes _ c.loop-turn.sums c.loop-turn.turn so_far _ (failed.stops so_far.rest so_far.to_come);
      place = stopped_count c.args.most c.loop-turn.sums c.loop-turn.turn _ before.counted (within_turns c.args.most _ c.loop-turn-test.true) (in_block c.args.most Login c.loop-turn.turn _ failed.place) failed.reading;
      failures = tt;
      unfailed = λ other. failed.unfailed other ∙ before.countable;
      read = λ is. first_failed _ _ _ _ _ before.countable before.nature (failed.read is);
    })

pub returns-in_default : goal.returns-in_default
returns-in_default g c =
    let before = c.loop-turn.invariant in
    let taken = c.in_ok-batch.ensures in
    record {
      few = takes_few Login c.loop-turn.turn _ _ _ before.taken c.args.most taken.few c.loop-turn-test.true;
      end = ends_at_none _ _ taken.end c.in_default.is;
      nature = taken.nature ∙ before.nature;
      some = some_counted c.args.most _ _ before.counted (within_turns c.args.most _ c.loop-turn-test.true);
      whole = λ bytes told.
          let so_far = before.told bytes told in
          let end = takes_end c.args.most Login _ c.loop-turn.turn so_far.rest _ c.in_default.is (taken.takes so_far.rest so_far.to_come) in
          whole_count c.args.most bytes c.loop-turn.sums (told_all c.args.most Login bytes _ (CountsIn c.loop-turn.sums) c.loop-turn.turn so_far end);
      keeps = before.keeps;
      stops = tt;
      place = tt;
      failures = taken.failures ∙ before.countable;
      unfailed = tt;
      read = tt;
    }

pub returns-in_err-count_batch : goal.returns-in_err-count_batch
returns-in_err-count_batch g c =
    let p = err_from_is_err_and c.from_residual-in_err-count_batch.result c.from_residual-in_err-count_batch.ensures.1 in
    let before = c.loop-turn.invariant in
    let taken = c.in_ok-batch.ensures in
    let now = c.count_batch.new.sums in
    let same = c.in_err-count_batch.ensures.refused in
    rw (p.1, p.2, c.in_err-count_batch.ensures.memory) (record {
      few = takes_few Login c.loop-turn.turn _ _ _ before.taken c.args.most taken.few c.loop-turn-test.true;
      end = tt;
      nature = taken.nature ∙ before.nature;
      some = tt;
      whole = tt;
      keeps = c.count_batch.ensures.keeps ∙ before.keeps;
      stops = λ bytes told.
          count_stops c.args.most bytes _ now c.loop-turn.turn (still_told c.loop-turn.sums now same c.loop-turn.turn c.args.most _ bytes (before.told bytes told)) fault.Memory tt;
      place = stopped_count c.args.most now c.loop-turn.turn fault.Memory (still_counted c.loop-turn.sums now same c.loop-turn.turn before.counted) (within_turns c.args.most _ c.loop-turn-test.true) tt tt;
      failures = tt;
      unfailed = λ _. taken.failures ∙ before.countable;
      read = memory_is_no_read;
    })

pub returns-then-is_last : goal.returns-then-is_last
returns-then-is_last g c =
    let before = c.loop-turn.invariant in
    let taken = c.in_ok-batch.ensures in
    let now = c.count_batch.new.sums in
    let more = c.in_ok-count_batch.ensures.added in
    let batch = some_batch Login _ c.in-Some.batch c.in-Some.is taken.batch in
    let short : record_count c.in-Some.batch < 1024 = c.if-is_last.ensures in
    record {
      few = takes_few Login c.loop-turn.turn _ _ _ before.taken c.args.most taken.few c.loop-turn-test.true;
      end = ends_at_short _ _ taken.end c.in-Some.batch c.in-Some.is short;
      nature = taken.nature ∙ before.nature;
      some = last_counted c.args.most c.loop-turn.sums now c.loop-turn.turn c.in-Some.batch before.counted c.loop-turn-test.true batch more;
      whole = λ bytes told.
          let so_far = before.told bytes told in
          let takes = takes_some c.args.most Login _ c.loop-turn.turn so_far.rest _ c.in-Some.batch c.in-Some.is (taken.takes so_far.rest so_far.to_come) in
          whole_count c.args.most bytes now
          (told_last c.args.most Login bytes _ (CountsIn c.loop-turn.sums) c.loop-turn.turn so_far _ (CountsIn now) c.in-Some.batch takes (counts_one c.loop-turn.sums now c.in-Some.batch more) short);
      keeps = c.count_batch.ensures.keeps ∙ before.keeps;
      stops = tt;
      place = tt;
      failures = taken.failures ∙ before.countable;
      unfailed = tt;
      read = tt;
    }

pub loop-turn-preserved : goal.loop-turn-preserved
loop-turn-preserved g c =
    let next = c.in_ok-batch.ensures in
    let before = c.loop-turn.invariant in
    let now = c.count_batch.new.sums in
    let more = c.in_ok-count_batch.ensures.added in
    let batch = some_batch Login _ c.in-Some.batch c.in-Some.is next.batch in
    let full : IsFull c.in-Some.batch = omega (arith, batch.few, c.if-is_last.ensures) in
    record {
      countable = next.failures ∙ before.countable;
      taken = takes_next Login c.loop-turn.turn _ _ _ before.taken next.few;
      nature = next.nature ∙ before.nature;
      room = next.room;
      ready = next.ready;
      counted = full_counted c.loop-turn.sums now c.loop-turn.turn c.in-Some.batch before.counted batch full more;
      keeps = c.count_batch.ensures.keeps ∙ before.keeps;
      told = λ bytes told.
          let so_far = before.told bytes told in
          let takes = takes_some c.args.most Login _ c.loop-turn.turn so_far.rest _ c.in-Some.batch c.in-Some.is (next.takes so_far.rest so_far.to_come) in
          told_full c.args.most Login bytes _ (CountsIn c.loop-turn.sums) c.loop-turn.turn so_far _ (CountsIn now) c.in-Some.batch takes (counts_one c.loop-turn.sums now c.in-Some.batch more) full;
    }

pub returns-in_err-expect_end : goal.returns-in_err-expect_end
returns-in_err-expect_end g c =
    let p = err_from_is_err_and c.from_residual-in_err-expect_end.result c.from_residual-in_err-expect_end.ensures.1 in
    let before = c.loop-turn.invariant in
    let failed = c.in_err-expect_end.ensures in
    let last = all_turns c.args.most c.loop-turn.turn c.loop-turn.auto.turn-end c.loop-turn-test.false in
    rw (p.1, p.2) (record {
      few = takes_last Login c.loop-turn.turn _ _ _ before.taken c.args.most failed.few c.loop-turn.auto.turn-end;
      end = tt;
      nature = failed.nature ∙ before.nature;
      some = tt;
      whole = tt;
      keeps = before.keeps;
      stops = λ bytes told.
          let so_far = before.told bytes told in
          count_stops c.args.most bytes _ c.loop-turn.sums c.loop-turn.turn so_far _
          (last_turn_stops c.args.most Login c.loop-turn.turn so_far.rest _ last failed.err (λ long. failed.long long so_far.rest so_far.to_come));
      place = stopped_count c.args.most c.loop-turn.sums c.loop-turn.turn _ before.counted c.loop-turn.auto.turn-end (after_all c.args.most Login c.loop-turn.turn _ last failed.err) (end_is_reading _ _ failed.err);
      failures = tt;
      unfailed = λ other. failed.unfailed other ∙ before.countable;
      read = λ is. first_failed _ _ _ _ _ before.countable before.nature (failed.read is);
    })

pub returns : goal.returns
returns g c =
    let before = c.loop-turn.invariant in
    let ended = c.in_ok-expect_end.ensures in
    record {
      few = takes_last Login c.loop-turn.turn _ _ _ before.taken c.args.most ended.few c.loop-turn.auto.turn-end;
      end = ended.end;
      nature = ended.nature ∙ before.nature;
      some = some_counted c.args.most _ _ before.counted c.loop-turn.auto.turn-end;
      whole = λ bytes told.
          let so_far = before.told bytes told in
          whole_count c.args.most bytes c.loop-turn.sums (told_all c.args.most Login bytes _ (CountsIn c.loop-turn.sums) c.loop-turn.turn so_far (subst IsAtEnd so_far.to_come ended.ok));
      keeps = before.keeps;
      stops = tt;
      place = tt;
      failures = ended.failures ∙ before.countable;
      unfailed = tt;
      read = tt;
    }
