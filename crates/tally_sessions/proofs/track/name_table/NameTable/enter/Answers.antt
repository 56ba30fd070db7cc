use Rattle.std.proofs.Common.{◌≡◌, None, bytes_eq, unwrap_or, ap, subst, sym, ◌∙◌}
use Rattle.std.specs.Map.{keys_of, lookup}
use Rattle.std.specs.Prelude.{Some, slice_get}
use Rattle.tally_sessions.specs.inside.Numbers.{Numbers}
use Rattle.tally_sessions.proofs.track.EndedTables.{entered_by}
use Rattle.tally_sessions.proofs.track.Names.{stands_before, stands_last}
use Rattle.tally_sessions.proofs.track.name_table.NameTable.enter.Goals as goal

pub returns-clause-place : goal.returns-clause-place
returns-clause-place c = stands_last c.find.new.self.entries c.push.new.self.entries c.args.name 0 c.push.ensures.entries c.push.result c.push.ensures.place

pub returns-clause-sums : goal.returns-clause-sums
returns-clause-sums c other =
    let same = ap (λ (t : Numbers). t.entries) c.find.ensures.same in
    entered_by c.args.name c.find.new.self.entries c.push.new.self.entries c.push.ensures.set (subst (λ es. lookup (bytes_eq c.args.name) es ≡ None) (sym same) c.in_default.ensures.absent) other
    ∙ ap (λ es. unwrap_or (lookup (bytes_eq other) es) 0) same

pub returns-clause-kept : goal.returns-clause-kept
returns-clause-kept c place other there =
    stands_before c.find.new.self.entries c.push.new.self.entries c.args.name 0 c.push.ensures.entries place other
    (subst (λ (t : Numbers). slice_get (keys_of t.entries) place ≡ Some other) (sym c.find.ensures.same) there)
