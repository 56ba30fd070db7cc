use Rattle.std.proofs.Common.{◌≡◌, drop, map, take}
use Rattle.tally_records.specs.Decoding.{decoded}
use Rattle.tally_records.specs.FailedLogin.{failed_result}
use Rattle.tally_records.specs.LoginRecord.{login_fields, login_result}
use Rattle.tally_records.proofs.Decoded.{behind}
use Rattle.tally_records.proofs.login.failed.check_failed.Given as goal

abbrev pub invariant-loop-index : goal.invariant-loop-index
invariant-loop-index l = record {
  failed : behind (map login_fields (take l.index l.blocks)) (decoded failed_result l.index (drop l.index l.blocks)) ≡ decoded failed_result 0 l.blocks;
  logins : behind (map login_fields (take l.index l.blocks)) (decoded login_result l.index (drop l.index l.blocks)) ≡ decoded login_result 0 l.blocks;
}
