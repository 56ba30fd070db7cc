use Rattle.std.proofs.Common.{IfOk, subst, sym}
use Rattle.clap.specs.declared.parser.matches.ArgMatches.TheViews.{out-ArgMatches}
use Rattle.tally_line.proofs.LineLemmas.{met_of}
use Rattle.tally_line.specs.inside.LineSteps.{IsLineOf}
use Rattle.tally_line.proofs.words.run_of.Goals as goal

pub returns-clause-ok : goal.returns-clause-ok
returns-clause-ok c =
    let met = met_of (out-ArgMatches c.args.matches.now).subcommand _ _ c.in-Some.ensures.name c.in-Some.ensures.rows in
    subst (λ m. IfOk c.run_under.result (IsLineOf m)) (sym met) c.run_under.ensures.ok
