use Rattle.std.proofs.Common.{◌<◌, ◌≢◌, None, arith, below_more, codes, get_or-set_other, get_or-set_same, length}
use Rattle.std.proofs.Math.ListN.{length-set}
use Rattle.std.proofs.lemmas.List.FromFn.{fill_by_all}
use Rattle.std.specs.Prelude.{option_map, slice_get}
use Rattle.clap.specs.Words.{found_of, rows_of}
use Rattle.tally_line.specs.Named.{words_of}
use Rattle.tally_line.specs.Options.{number_of}
use Rattle.tally_line.proofs.usage_words.uids_of.Goals as goal

pub loop-at-preserved : goal.loop-at-preserved
loop-at-preserved c = record {
  len = rw length-set c.loop-at.invariant.len;
  filled = below_more _ _
      (λ k h. let ne : k ≢ c.loop-at.at = omega arith in rw get_or-set_other (c.loop-at.invariant.filled k h))
      (let lt : c.loop-at.at < length c.loop-at.uids = omega arith in rw get_or-set_same c.uid_at.ensures);
}

pub returns : goal.returns
returns c = fill_by_all (λ k. option_map (number_of) (slice_get (words_of (codes "uid") (rows_of (found_of c.args.matches.now))) k)) c.loop-at.uids 8 None c.loop-at.invariant.len (λ k h. c.loop-at.invariant.filled k (omega arith))
