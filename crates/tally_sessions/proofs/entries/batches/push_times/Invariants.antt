use Rattle.std.proofs.Common.{◌≡◌, ◌++◌, ◌+◌, replicate, vec_len, vec_capacity}
use Rattle.tally_sessions.proofs.entries.batches.push_times.Given as goal

abbrev pub invariant-loop-time : goal.invariant-loop-time
invariant-loop-time l = record {
  room : vec_capacity l.marks ≡ vec_capacity l.fn.marks;
  len : vec_len l.marks ≡ vec_len l.fn.marks + l._time;
  items : l.marks.items ≡ l.fn.marks.items ++ replicate l._time l.mark;
}
