use Rattle.std.proofs.Common.{◌∙◌, ◌∷◌, ◌+◌, ◌==◌, ap, sym, take}
use Rattle.tally_usage.specs.Names.{fields_of}
use Rattle.tally_usage.proofs.PasswdLemmas.{rest_whole, split_found, split_whole}
use Rattle.tally_usage.proofs.passwd.first_field.Goals as goal

pub returns-in-Some : goal.returns-in-Some
returns-in-Some c =
    let text = c.args.text.now in
    split_found (λ byte. byte == 58) text c.in-Some.at (sym c.in-Some.ensures) ∙ ap (λ l. take c.in-Some.at text ∷ fields_of l) (sym (rest_whole text (c.in-Some.at + 1)))

pub returns-in-None : goal.returns-in-None
returns-in-None c = split_whole (λ byte. byte == 58) c.args.text.now (sym c.in-None.ensures)
