use Rattle.std.proofs.Common.{◌≡◌, ◌∙◌, ap, sym, subst, List, ℕ, Option, IfSome}
use Rattle.std.specs.Io.KnownBytes.{prepend_known}
use Rattle.tally_check.proofs.FindLemmas.{found-whole, known-front}
use Rattle.tally_check.specs.Findings.{findings_of}
use Rattle.tally_check.specs.declared.findings.Findings.{Findings}
use Rattle.tally_check.specs.declared.tally.Tally.{Tally}
use Rattle.tally_check.specs.inside.Reading.{IsWhole}
use Rattle.tally_check.proofs.findings.check_front.Goals as goal

pub returns-clause-value : goal.returns-clause-value
returns-clause-value g c =
    let known = prepend_known c.args.front.now (g.R.Read.remaining c.args.rest) in
    let whole = c.in_ok-count_all.ensures.counted in
    let guess = c.in_ok-count_all.ensures.guess ∙ ap (λ (t : Tally). t.guess) c.no_tally-tally.ensures ∙ c.guess_of.ensures in
    subst (λ (f : Findings). IfSome known (λ (bytes : List ℕ). f ≡ findings_of bytes)) (sym c.findings_of.ensures)
    (found-whole known c.args.front.now _ _ c.requires.front guess
    (subst (λ (k : Option (List ℕ)). IsWhole k c.count_all.new.tally c.count_all.new.sessions) (c.chain-whole.ensures.bytes ∙ known-front c.args.front.now (g.R.Read.remaining c.args.rest)) whole))
