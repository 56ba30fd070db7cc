use Rattle.std.proofs.Common.{rules}
use Rattle.tally_line.specs.Options.{WritesIn}
use Rattle.std.proofs.lemmas.Iterator.{YieldsList-from_slice, cases_from_all}
use Rattle.std.specs.Borrow.{Bor}
use Rattle.clap.specs.Words.{Text}
use Rattle.tally_line.proofs.NamedLemmas.{all_texts}
use Rattle.tally_line.proofs.usage_words.all_uids.Goals as goal

pub returns : goal.returns
returns c =
    all_texts (WritesIn 0 4294967295) c.args.words.now c.all.result
    (cases_from_all _ _ _ (λ (w : Bor Text). WritesIn 0 4294967295 w.now) (λ (w : Bor Text). ¬ WritesIn 0 4294967295 w.now) c.all.ensures.ran (YieldsList-from_slice c.args.words.now cc)
    (λ x q k. search rules) (λ x q k. search rules))
