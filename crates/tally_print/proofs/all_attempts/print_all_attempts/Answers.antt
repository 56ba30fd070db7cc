use Rattle.std.proofs.Common.{[], ◌∙◌, ap, flat_map, rules, subst, w32, ℤ}
use Rattle.std.proofs.lemmas.Int.{to_z-of_z}
use Rattle.std.proofs.lemmas.List.{append-nil}
use Rattle.std.specs.List.{range_with_len}
use Rattle.tally_sessions.specs.Days.{local}
use Rattle.tally_sessions.specs.Lent.{entries_in}
use Rattle.tally_print.specs.Output.{Prints}
use Rattle.tally_print.specs.inside.Attempts.{section}
use Rattle.tally_print.specs.inside.Pages.{Fills}
use Rattle.tally_print.proofs.AttemptLemmas.{sections_are}
use Rattle.tally_print.proofs.PageLemmas.{fills_then, page_stop}
use Rattle.tally_print.proofs.all_attempts.print_all_attempts.Goals as goal

pub returns-in_err-put_sections : goal.returns-in_err-put_sections
returns-in_err-put_sections g c =
    let stored = entries_in c.args.entries in
    record {
      writes = λ until.
          let same = ap (λ (x : ℤ). flat_map (section (local c.args.clock.now x) c.args.limit c.args.choice.now stored) (range_with_len 0 c.args.hosts)) (to_z-of_z w32 c.args.offset c.ranges.offset)
          ∙ sections_are (local c.args.clock.now c.args.offset) c.args.limit c.args.choice.now stored c.args.hosts until in
          let begun = subst (Fills _ _ _ _ _) same (rw c.in_ok-page.ensures at c.in_err-put_sections.ensures.fills) in
          subst (Prints _ _ _ _) (append-nil _) (page_stop _ (search rules) [] begun);
    }

pub returns : goal.returns
returns g c =
    let stored = entries_in c.args.entries in
    record {
      writes = λ until.
          let same = ap (λ (x : ℤ). flat_map (section (local c.args.clock.now x) c.args.limit c.args.choice.now stored) (range_with_len 0 c.args.hosts)) (to_z-of_z w32 c.args.offset c.ranges.offset)
          ∙ sections_are (local c.args.clock.now c.args.offset) c.args.limit c.args.choice.now stored c.args.hosts until in
          let lines = subst (Fills _ _ _ _ _) same (rw c.in_ok-page.ensures at c.in_ok-put_sections.ensures.fills) in
          fills_then lines (rw c.as_slice.ensures.value at c.put_all.ensures.writes);
    }
