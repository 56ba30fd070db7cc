use Rattle.std.proofs.Common.{ℕ, List, subst}
use Rattle.tally_clock.specs.Files.{IsClockOfFile}
use Rattle.tally_zones.proofs.FrontLemmas.{clock_of_front}
use Rattle.tally_zones.proofs.zone.clock_read.Goals as goal

pub returns-in_ok-of_file-in-Ok : goal.returns-in_ok-of_file-in-Ok
returns-in_ok-of_file-in-Ok g c = clock_of_front (g.F.Read.remaining c.args.file) c.in-Ok.bytes.items _ c.in-Ok.ensures
    (subst (λ (bytes : List ℕ). IsClockOfFile bytes c.in_ok-of_file-in-Ok.field-0) c.as_slice.ensures.value c.in_ok-of_file-in-Ok.ensures.value)
