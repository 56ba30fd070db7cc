use Rattle.std.proofs.Common.{refl, sym, arith}
use Rattle.tally_records.proofs.Compact.NulFlags.{nul_at-none, nul_at-some, nul_at-within}
use Rattle.tally_records.proofs.login.words.nul_flags.Goals as goal

pub returns-clause-none : goal.returns-clause-none
returns-clause-none c = λ e. sym (nul_at-none c.args.word (omega arith) e)

pub returns-clause-lowest : goal.returns-clause-lowest
returns-clause-lowest c = λ some. nul_at-some c.args.word _ (omega arith) some refl

pub returns-clause-within : goal.returns-clause-within
returns-clause-within c = λ some. nul_at-within c.args.word (omega arith) some
