use Rattle.tally_line.proofs.refused.is_negative_refused.Goals as goal

pub returns-in-None : goal.returns-in-None
returns-in-None c = λ is. c.in-None.ensures.cases is.0 is.1
