use Rattle.std.proofs.Common.{◌∙◌, ◌<◌, ◌*◌, ap, arith, inl, inr, refl, sym, subst, vec_capacity, vec_len}
use Rattle.std.proofs.lemmas.Result.{err_from_is_err_and}
use Rattle.std.specs.Io.KnownBytes.{IsAtEnd}
use Rattle.tally_records.specs.Records.{record_count}
use Rattle.tally_desk.specs.Blocks.{block_size}
use Rattle.tally_desk.specs.Feeds.{IsFull}
use Rattle.tally_desk.specs.declared.fault.FeedFault.TheVariants as fault
use Rattle.tally_desk.proofs.CountLemmas.{after_all, counts_full, counts_last, full_cut, full_more, full_none, in_block, one_more_batch, unplaced}
use Rattle.tally_desk.proofs.ExitLemmas.{all_turns, end_is_no_refusal, ends_at_none, ends_at_short, first_failed, holds_named, memory_is_no_read, plus_none, post_is_no_read, still_below, within_named, within_turns}
use Rattle.tally_desk.proofs.FeedLemmas.{begins, some_batch, takes_end, takes_some, told_end, told_more, told_short, told_stops, told_unposted}
use Rattle.tally_desk.proofs.KeepLemmas.{keeps_same, keeps_trans}
use Rattle.tally_desk.proofs.RefusalLemmas.{no_refusal, post_refusal}
use Rattle.tally_desk.proofs.TakeLemmas.{takes_few, takes_last, takes_next, takes_none}
use Rattle.tally_desk.proofs.TurnLemmas.{last_turn_stops}
use Rattle.tally_desk.proofs.feeding.feed_blocks.Goals as goal

pub loop-turn-init : goal.loop-turn-init
loop-turn-init g c = record {
  countable = refl;
  nature = refl;
  taken = takes_none _ _;
  room = holds_named c.block_size.result (block_size c.args.kind) (vec_capacity c.in_ok-block.block) c.block_size.ensures c.in_ok-block.ensures.room;
  ready = within_named c.block_size.result (block_size c.args.kind) (vec_len c.in_ok-block.block) c.block_size.ensures c.in_ok-block.ensures.ready;
  keeps = keeps_same c.args.pass.now;
  current = inl refl;
  posts = full_none c.args.kind c.args.pass.now;
  told = λ bytes told. begins c.args.most c.args.kind bytes _ c.args.pass.now told;
}

pub next_batch-requires-clause-countable : goal.next_batch-requires-clause-countable
next_batch-requires-clause-countable g c = still_below _ _ _ c.loop-turn.invariant.countable c.requires.countable

pub next_batch-requires-clause-room : goal.next_batch-requires-clause-room
next_batch-requires-clause-room g c = c.loop-turn.invariant.room

pub next_batch-requires-clause-ready : goal.next_batch-requires-clause-ready
next_batch-requires-clause-ready g c = c.loop-turn.invariant.ready

pub next_batch-requires-clause-early : goal.next_batch-requires-clause-early
next_batch-requires-clause-early g c = c.loop-turn-test.true

pub post-requires : goal.post-requires
post-requires g c = record { desk = c.loop-turn.invariant.keeps.desk ∙ c.requires.desk }

pub expect_end-requires : goal.expect_end-requires
expect_end-requires g c = still_below _ _ _ c.loop-turn.invariant.countable c.requires.countable

pub returns-in_err-block : goal.returns-in_err-block
returns-in_err-block g c =
    let p = err_from_is_err_and c.from_residual.result c.from_residual.ensures.1 in
    let pass = c.args.pass.now in
    rw (p.1, p.2) (record {
      few = takes_none _ _;
      end = tt;
      nature = refl;
      keeps = keeps_same pass;
      current = inl refl;
      counted = tt;
      whole = tt;
      stops = λ bytes told. told_stops c.args.most c.args.kind bytes _ pass pass 0 pass.seen fault.Memory (begins c.args.most c.args.kind bytes _ pass told) tt;
      posts = full_cut c.args.most c.args.kind pass pass pass 0 fault.Memory (full_none c.args.kind pass) (omega arith) refl tt;
      full = tt;
      failures = tt;
      unfailed = λ _. refl;
      read = memory_is_no_read;
    })

pub returns-in_err-batch : goal.returns-in_err-batch
returns-in_err-batch g c =
    let p = err_from_is_err_and c.from_residual-in_err-batch.result c.from_residual-in_err-batch.ensures.1 in
    let before = c.loop-turn.invariant in
    let pass = c.loop-turn.pass in
    let failed = c.in_err-batch.ensures in
    rw (p.1, p.2) (record {
      few = takes_few c.args.kind c.loop-turn.turn _ _ _ before.taken c.args.most failed.few c.loop-turn-test.true;
      end = tt;
      nature = failed.nature ∙ before.nature;
      keeps = before.keeps;
      current = before.current;
      counted = tt;
      whole = tt;
      stops = λ bytes told.
          let so_far = before.told bytes told in
          told_stops c.args.most c.args.kind bytes _ c.args.pass.now pass c.loop-turn.turn pass.seen _ so_far (failed.stops so_far.rest so_far.to_come);
      posts = full_cut c.args.most c.args.kind c.args.pass.now pass pass c.loop-turn.turn _ before.posts (within_turns _ _ c.loop-turn-test.true) refl (in_block c.args.most c.args.kind c.loop-turn.turn _ failed.place);
      full = no_refusal c.args.kind pass.seen _ failed.reading;
      failures = tt;
      unfailed = λ other. failed.unfailed other ∙ before.countable;
      read = λ is. first_failed _ _ _ _ _ before.countable before.nature (failed.read is);
    })

pub returns-in_default : goal.returns-in_default
returns-in_default g c =
    let before = c.loop-turn.invariant in
    let taken = c.in_ok-batch.ensures in
    let fed = c.fed_by.ensures in
    record {
      few = takes_few c.args.kind c.loop-turn.turn _ _ _ before.taken c.args.most taken.few c.loop-turn-test.true;
      end = ends_at_none _ _ taken.end c.in_default.is;
      nature = taken.nature ∙ before.nature;
      keeps = before.keeps;
      current = before.current;
      counted = counts_full c.args.kind _ c.loop-turn.turn c.fed_by.result before.posts (plus_none _ _ fed.batches) (plus_none _ _ fed.records);
      whole = λ bytes told.
          let so_far = before.told bytes told in
          let end = takes_end c.args.most c.args.kind _ c.loop-turn.turn so_far.rest _ c.in_default.is (taken.takes so_far.rest so_far.to_come) in
          told_end c.args.most c.args.kind bytes _ c.args.pass.now c.loop-turn.pass c.loop-turn.turn so_far end;
      stops = tt;
      posts = tt;
      full = tt;
      failures = taken.failures ∙ before.countable;
      unfailed = tt;
      read = tt;
    }

pub returns-in_err-post : goal.returns-in_err-post
returns-in_err-post g c =
    let p = err_from_is_err_and c.from_residual-in_err-post.result c.from_residual-in_err-post.ensures.1 in
    let before = c.loop-turn.invariant in
    let taken = c.in_ok-batch.ensures in
    let post = c.in_err-post.ensures in
    let now = c.post.new.pass in
    let batch = some_batch c.args.kind _ c.in-Some.batch c.in-Some.is taken.batch in
    rw (p.1, p.2) (record {
      few = takes_few c.args.kind c.loop-turn.turn _ _ _ before.taken c.args.most taken.few c.loop-turn-test.true;
      end = tt;
      nature = taken.nature ∙ before.nature;
      keeps = keeps_trans c.args.pass.now c.loop-turn.pass now before.keeps post.keeps;
      current = inr post.current;
      counted = tt;
      whole = tt;
      stops = λ bytes told.
          let so_far = before.told bytes told in
          let takes = takes_some c.args.most c.args.kind _ c.loop-turn.turn so_far.rest _ c.in-Some.batch c.in-Some.is (taken.takes so_far.rest so_far.to_come) in
          told_unposted c.args.most c.args.kind bytes _ c.args.pass.now _ c.loop-turn.pass now c.loop-turn.turn c.in-Some.batch now.seen _ so_far takes post.did post.cause;
      posts = full_cut c.args.most c.args.kind c.args.pass.now c.loop-turn.pass now c.loop-turn.turn _ before.posts (within_turns _ _ c.loop-turn-test.true) post.did (unplaced c.args.most c.args.kind c.loop-turn.turn _);
      full = post_refusal now.seen post.legal c.args.kind c.in-Some.batch _ batch post.cause;
      failures = tt;
      unfailed = λ _. taken.failures ∙ before.countable;
      read = post_is_no_read _;
    })

pub returns-then-is_last : goal.returns-then-is_last
returns-then-is_last g c =
    let before = c.loop-turn.invariant in
    let taken = c.in_ok-batch.ensures in
    let post = c.in_ok-post.ensures in
    let fed = c.fed_by-then-is_last.ensures in
    let batch = some_batch c.args.kind _ c.in-Some.batch c.in-Some.is taken.batch in
    let some : 0 < c.len.result = omega (arith, batch.some, c.len.ensures.count) in
    let short : record_count c.in-Some.batch < 1024 = c.if-is_last.ensures in
    record {
      few = takes_few c.args.kind c.loop-turn.turn _ _ _ before.taken c.args.most taken.few c.loop-turn-test.true;
      end = ends_at_short _ _ taken.end c.in-Some.batch c.in-Some.is short;
      nature = taken.nature ∙ before.nature;
      keeps = keeps_trans c.args.pass.now c.loop-turn.pass c.post.new.pass before.keeps post.keeps;
      current = inr post.current;
      counted = counts_last c.args.kind c.args.pass.now c.loop-turn.pass c.post.new.pass c.loop-turn.turn before.posts c.in-Some.batch batch post.did
          c.fed_by-then-is_last.result
          (omega (arith, fed.records, c.len.ensures.count))
          (one_more_batch c.len.result c.loop-turn.turn _ some fed.batches);
      whole = λ bytes told.
          let so_far = before.told bytes told in
          let takes = takes_some c.args.most c.args.kind _ c.loop-turn.turn so_far.rest _ c.in-Some.batch c.in-Some.is (taken.takes so_far.rest so_far.to_come) in
          told_short c.args.most c.args.kind bytes _ c.args.pass.now _ c.loop-turn.pass c.post.new.pass c.loop-turn.turn c.in-Some.batch so_far takes post.did short;
      stops = tt;
      posts = tt;
      full = tt;
      failures = taken.failures ∙ before.countable;
      unfailed = tt;
      read = tt;
    }

pub loop-turn-preserved : goal.loop-turn-preserved
loop-turn-preserved g c =
    let next = c.in_ok-batch.ensures in
    let batch = some_batch c.args.kind _ c.in-Some.batch c.in-Some.is next.batch in
    let full : IsFull c.in-Some.batch = omega (arith, batch.few, c.if-is_last.ensures) in
    record {
      countable = next.failures ∙ c.loop-turn.invariant.countable;
      taken = takes_next c.args.kind c.loop-turn.turn _ _ _ c.loop-turn.invariant.taken next.few;
      nature = next.nature ∙ c.loop-turn.invariant.nature;
      room = next.room;
      ready = next.ready;
      keeps = keeps_trans c.args.pass.now c.loop-turn.pass c.post.new.pass c.loop-turn.invariant.keeps c.in_ok-post.ensures.keeps;
      current = inr c.in_ok-post.ensures.current;
      posts = full_more c.args.kind c.args.pass.now c.loop-turn.pass c.post.new.pass c.loop-turn.turn c.loop-turn.invariant.posts c.in-Some.batch batch c.in_ok-post.ensures.did full;
      told = λ bytes told.
          let so_far = c.loop-turn.invariant.told bytes told in
          let takes = takes_some c.args.most c.args.kind _ c.loop-turn.turn so_far.rest _ c.in-Some.batch c.in-Some.is (next.takes so_far.rest so_far.to_come) in
          told_more c.args.most c.args.kind bytes _ c.args.pass.now _ c.loop-turn.pass c.post.new.pass c.loop-turn.turn c.in-Some.batch so_far takes c.in_ok-post.ensures.did full;
    }

pub returns-in_err-expect_end : goal.returns-in_err-expect_end
returns-in_err-expect_end g c =
    let p = err_from_is_err_and c.from_residual-in_err-expect_end.result c.from_residual-in_err-expect_end.ensures.1 in
    let before = c.loop-turn.invariant in
    let pass = c.loop-turn.pass in
    let failed = c.in_err-expect_end.ensures in
    let last = all_turns c.args.most c.loop-turn.turn c.loop-turn.auto.turn-end c.loop-turn-test.false in
    rw (p.1, p.2) (record {
      few = takes_last c.args.kind c.loop-turn.turn _ _ _ before.taken c.args.most failed.few c.loop-turn.auto.turn-end;
      end = tt;
      nature = failed.nature ∙ before.nature;
      keeps = before.keeps;
      current = before.current;
      counted = tt;
      whole = tt;
      stops = λ bytes told.
          let so_far = before.told bytes told in
          told_stops c.args.most c.args.kind bytes _ c.args.pass.now pass c.loop-turn.turn pass.seen _ so_far
          (last_turn_stops c.args.most c.args.kind c.loop-turn.turn so_far.rest _ last failed.err (λ long. failed.long long so_far.rest so_far.to_come));
      posts = full_cut c.args.most c.args.kind c.args.pass.now pass pass c.loop-turn.turn _ before.posts c.loop-turn.auto.turn-end refl (after_all c.args.most c.args.kind c.loop-turn.turn _ last failed.err);
      full = end_is_no_refusal _ c.args.kind pass.seen _ failed.err;
      failures = tt;
      unfailed = λ other. failed.unfailed other ∙ before.countable;
      read = λ is. first_failed _ _ _ _ _ before.countable before.nature (failed.read is);
    })

pub returns : goal.returns
returns g c =
    let before = c.loop-turn.invariant in
    let ended = c.in_ok-expect_end.ensures in
    let last = all_turns c.args.most c.loop-turn.turn c.loop-turn.auto.turn-end c.loop-turn-test.false in
    let fed = c.fed_by-2.ensures in
    record {
      few = takes_last c.args.kind c.loop-turn.turn _ _ _ before.taken c.args.most ended.few c.loop-turn.auto.turn-end;
      end = ended.end;
      nature = ended.nature ∙ before.nature;
      keeps = before.keeps;
      current = before.current;
      counted = counts_full c.args.kind _ c.loop-turn.turn _ before.posts (plus_none _ _ fed.batches ∙ sym last) (plus_none _ _ fed.records ∙ ap (λ n. n * 1024) (sym last));
      whole = λ bytes told.
          let so_far = before.told bytes told in
          told_end c.args.most c.args.kind bytes _ c.args.pass.now c.loop-turn.pass c.loop-turn.turn so_far (subst IsAtEnd so_far.to_come ended.ok);
      stops = tt;
      posts = tt;
      full = tt;
      failures = ended.failures ∙ before.countable;
      unfailed = tt;
      read = tt;
    }
