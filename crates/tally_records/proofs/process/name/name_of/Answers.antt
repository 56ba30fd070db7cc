use Rattle.std.proofs.Common.{◌∷◌, ◌++◌, [], ℕ, List, get_or, sym, ap, ◌∙◌, arith}
use Rattle.tally_records.proofs.NameLemmas.{name_of_16, name_of_17_cut, name_of_17_full}
use Rattle.tally_records.proofs.process.name.name_of.Goals as goal

pub returns-then-field-eq-LANES : goal.returns-then-field-eq-LANES
returns-then-field-eq-LANES c =
    c.with_last.ensures ∙ ap (λ (t : List ℕ). t ++ (0 ∷ [])) c.short_text-front.ensures ∙ name_of_16 c.args.field.now c.if-field-eq-LANES.true

pub returns-then-front-eq0 : goal.returns-then-front-eq0
returns-then-front-eq0 c =
    c.with_last-then-front-eq0.ensures ∙ ap (λ (t : List ℕ). t ++ (0 ∷ [])) c.short_text-front.ensures
    ∙ name_of_17_cut c.args.field.now (omega arith) (sym (ap (λ (t : List ℕ). get_or t 15 0) c.short_text-front.ensures) ∙ c.if-front-eq0.true)

pub returns : goal.returns
returns c =
    c.with_last-2.ensures ∙ ap (λ (t : List ℕ). t ++ (get_or c.args.field.now 16 0 ∷ [])) c.short_text-front.ensures
    ∙ name_of_17_full c.args.field.now (omega arith) (λ e. c.if-front-eq0.false (ap (λ (t : List ℕ). get_or t 15 0) c.short_text-front.ensures ∙ e))
