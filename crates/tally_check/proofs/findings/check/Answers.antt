use Rattle.std.proofs.Common.{◌≡◌, List, Some, [], ℕ, arith, refl, subst, take}
use Rattle.std.proofs.lemmas.List.{take_all}
use Rattle.std.specs.Io.KnownBytes.{Consumes}
use Rattle.tally_check.proofs.FindLemmas.{fault-whole, front-is, full-is, if_err}
use Rattle.tally_check.proofs.findings.check.Goals as goal

pub check_front-requires : goal.check_front-requires
check_front-requires g c =
    record { front = front-is (Some []) c.fill.new.block c.in_ok-filled.filled c.fill.auto.block c.in_ok-filled.ensures.bound (λ short. refl) }

pub check_front-requires-2 : goal.check_front-requires-2
check_front-requires-2 g c = record { front = full-is (g.R.Read.remaining c.fill.new.reader) c.fill.new.block c.fill.auto.block }

pub returns-clause-fault : goal.returns-clause-fault
returns-clause-fault g c =
    let all : take c.in_ok-filled.filled c.fill.new.block ≡ c.fill.new.block = take_all c.in_ok-filled.filled c.fill.new.block (omega arith) in
    let taken = subst (λ (l : List ℕ). Consumes (g.R.Read.remaining c.args.reader) (g.R.Read.remaining c.fill.new.reader) l) all c.in_ok-filled.ensures.bytes in
    if_err c.check_front-2.result (λ fault is. fault-whole (g.R.Read.remaining c.args.reader) (g.R.Read.remaining c.fill.new.reader) c.fill.new.block fault taken is) c.check_front-2.ensures.fault
