use Rattle.std.proofs.Common.{◌∙◌, sym, arith}
use Rattle.tally_sessions.proofs.track.UserPlaces.{any_alike}
use Rattle.tally_sessions.proofs.track.name_table.NameTable.places_among.Goals as goal

pub returns : goal.returns
returns c place user at lt =
    any_alike user place c.loop-k.places c.args.names.now (c.loop-k.invariant.len ∙ sym c.told-names) (λ k within. c.loop-k.invariant.filled k (omega (arith, within, c.loop-k-test.false, c.told-names)) place user at lt)
