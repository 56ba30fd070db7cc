use Rattle.std.proofs.Common.{◌∙◌, ◌<◌, ℕ, List, ap, sym, arith}
use Rattle.std.proofs.lemmas.Map.Entries.{length-keys_of}
use Rattle.std.proofs.lemmas.Option.{slice_get_within}
use Rattle.std.specs.Map.{keys_of}
use Rattle.std.specs.Prelude.{bytes_eq}
use Rattle.tally_records.specs.Choice.{is_name}
use Rattle.tally_sessions.proofs.track.UserPlaces.{before_is, place_is, unknown_is}
use Rattle.tally_sessions.proofs.track.name_table.NameTable.place_among.Goals as goal

pub returns-in-Some-place_of : goal.returns-in-Some-place_of
returns-in-Some-place_of c place user at lt =
    place_is c.args.self.now c.in-Some-place_of.place place c.of.result user c.len-count.ensures.distinct c.in-Some-place_of.ensures.found at
    ∙ ap (λ (n : List ℕ). bytes_eq n user) c.of.ensures ∙ ap (is_name user) (sym c.in-Some.is)

pub returns-in-None-place_of : goal.returns-in-None-place_of
returns-in-None-place_of c place user at lt =
    let users = c.args.self.now in
    let within : place < c.len-count.result = omega (arith, slice_get_within (keys_of users.entries) place user at, length-keys_of users.entries, c.len-count.ensures.len) in
    before_is c.len-count.result place within
    ∙ sym (unknown_is users place c.of.result user c.in-None-place_of.ensures.absent at)
    ∙ ap (λ (n : List ℕ). bytes_eq n user) c.of.ensures ∙ ap (is_name user) (sym c.in-Some.is)

pub returns-in-None : goal.returns-in-None
returns-in-None c place user at lt =
    let users = c.args.self.now in
    let within : place < c.len-count.result = omega (arith, slice_get_within (keys_of users.entries) place user at, length-keys_of users.entries, c.len-count.ensures.len) in
    before_is c.len-count.result place within ∙ ap (is_name user) (sym c.in-None.is)
