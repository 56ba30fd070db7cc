use Rattle.std.proofs.Common.{◌∙◌, ap, map}
use Rattle.tally_print.specs.Section.{answer_in}
use Rattle.tally_cli.proofs.running.reporting.sections_of.Goals as goal

pub returns-clause-value : goal.returns-clause-value
returns-clause-value g c =
    ap (λ es. map (answer_in es) c.in_ok-sections.sections.items) (c.in_ok-sessions.ensures.entries ∙ c.in_ok-sections.ensures.logins) ∙ c.in_ok-sections.ensures.value
