use Rattle.std.proofs.Common.{rules}
use Rattle.clap.specs.Words.{found_of}
use Rattle.tally_line.proofs.OffsetLemmas.{is_plain_in, none_is_plain, plain_is}
use Rattle.tally_line.proofs.offsets.is_plain_in.Goals as goal

pub returns-in-Some : goal.returns-in-Some
returns-in-Some c =
    let f = found_of c.args.matches.now in
    let id = c.args.id.now in
    let text = c.in-Some.text.now in
    (λ yes. is_plain_in f id text c.in-Some.ensures (c.is_plain.ensures.0 yes), λ plain. c.is_plain.ensures.1 (plain_is f id text c.in-Some.ensures plain))

pub returns-in-None : goal.returns-in-None
returns-in-None c = (λ yes. none_is_plain (found_of c.args.matches.now) c.args.id.now c.in-None.ensures, λ plain. search rules)
