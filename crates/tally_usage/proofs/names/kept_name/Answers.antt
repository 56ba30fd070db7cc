use Rattle.std.proofs.Common.{◌∙◌, Some, ap, sym}
use Rattle.std.specs.Option.{option_map}
use Rattle.tally_usage.proofs.NameLemmas.{kept_name}
use Rattle.tally_usage.proofs.names.kept_name.Goals as goal

pub returns-in-Some : goal.returns-in-Some
returns-in-Some c =
    ap Some c.as_slice.ensures.value ∙ ap (option_map (λ v. v.items)) c.in-Some.ensures.value ∙ sym (kept_name c.args.names.now.entries c.args.uid)

pub returns-in-None : goal.returns-in-None
returns-in-None c =
    ap (option_map (λ v. v.items)) c.in-None.ensures.value ∙ sym (kept_name c.args.names.now.entries c.args.uid)
