use Rattle.std.proofs.Common.{◌≡◌, drop, vec_len, vec_capacity}
use Rattle.tally_records.specs.Decoding.{decoded}
use Rattle.tally_records.specs.LoginRecord.{login_result}
use Rattle.tally_records.proofs.Decoded.{behind}
use Rattle.tally_records.specs.inside.Compact.Layout.{Covers, records}
use Rattle.tally_records.proofs.login.decode.decode_all.Given as goal

abbrev pub invariant-loop-index : goal.invariant-loop-index
invariant-loop-index l = record {
  heads : vec_capacity l.heads ≡ vec_capacity l.fn.heads;
  words : vec_capacity l.words ≡ vec_capacity l.fn.words;
  len : vec_len l.heads ≡ l.index;
  covers : Covers l.heads.items l.words.items;
  told : behind (records l.heads.items l.words.items) (decoded login_result l.index (drop l.index l.blocks)) ≡ decoded login_result 0 l.blocks;
}
