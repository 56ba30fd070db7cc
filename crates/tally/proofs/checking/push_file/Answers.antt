use Rattle.std.proofs.Common.{◌≡◌, ◌∙◌, [], ap, refl}
use Rattle.std.proofs.lemmas.List.{get_or_default}
use Rattle.std.specs.Prelude.{string_bytes}
use Rattle.tally.specs.Checked.{path_at}
use Rattle.tally.specs.Checks.{with_found}
use Rattle.tally_sessions.specs.Days.{local}
use Rattle.tally.proofs.CheckLemmas.{with_found_is}
use Rattle.tally.proofs.checking.push_file.Goals as goal

pub returns-clause-found : goal.returns-clause-found
returns-clause-found g c = record {
  text = with_found c.args.asked.now.form c.args.asked.now.paths (local c.args.clock.now c.args.asked.now.offset) c.number_at.result c.as_str-path.result.now
      c.origin-origin.result c.in_ok-checked.checked.findings [];
  is_part = λ other.
      let named : c.as_str-path.result.now ≡ path_at c.args.asked.now.files.items c.args.at other =
      c.as_str-path.ensures.value ∙ ap string_bytes (c.index.ensures ∙ get_or_default c.args.asked.now.files.items c.args.at _ other c.requires.within) in record {
        found = rw named at c.in_ok-checked.ensures.found;
        text = record { origin = c.origin-origin.result; is_origin = c.origin-origin.ensures; text = rw (c.number_at.ensures, named) refl };
      };
  grown = c.in_ok-push_found.ensures ∙ with_found_is c.args.asked.now.form c.args.asked.now.paths _ c.number_at.result c.as_str-path.result.now c.origin-origin.result
      c.in_ok-checked.checked.findings c.args.text.now.items;
}
