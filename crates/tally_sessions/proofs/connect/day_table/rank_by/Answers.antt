use Rattle.std.proofs.Common.{◌∙◌, length, Some, refl, ap, sym}
use Rattle.std.proofs.lemmas.Option.{slice_get_read}
use Rattle.std.proofs.lemmas.Slice.Eq.{bytes_eq-Decides}
use Rattle.tally_sessions.proofs.connect.day_table.rank_by.Goals as goal

pub returns-then-eq : goal.returns-then-eq
returns-then-eq c =
    let found = c.index-users-guess.result in
    slice_get_read c.args.users.now (length c.args.users.now) c.from-guess.result found refl c.if-guess-users.true c.index-users-guess.is ∙ ap Some ((bytes_eq-Decides found c.args.user.now).0 (sym c.if-eq.ensures))
