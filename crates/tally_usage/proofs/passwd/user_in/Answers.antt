use Rattle.std.proofs.Common.{◌≡◌, ◌∙◌, ◌∷◌, ap, sym}
use Rattle.std.proofs.lemmas.Bool.{eqb-true}
use Rattle.tally_usage.specs.Names.{fields_of}
use Rattle.tally_usage.specs.inside.Names.{fields_left}
use Rattle.tally_usage.proofs.PasswdLemmas.{after_field, some_length, user-no_name, user-not_seven, user-whole}
use Rattle.tally_usage.proofs.passwd.user_in.Goals as goal
use Rattle.tally_usage.proofs.passwd.user_in.Goals.{then-is_empty-via-then-is_empty, then-is_empty-via-else-is_empty+in_ok-rest-3+then-count_colons-ne3}

pub returns-then-is_empty : goal.returns-then-is_empty
returns-then-is_empty c =
    let name = c.first_field.result.0.now in
    let second = c.first_field-2.result.0.now in
    let number = c.first_field-3.result.0.now in
    let whole : fields_of c.args.line.now ≡ name ∷ second ∷ number ∷ fields_left c.first_field-3.result.1 =
    after_field c.args.line.now name _ c.in_ok-rest.field-0 c.first_field.ensures c.in_ok-rest.was ∙ ap (λ l. name ∷ l) (after_field c.in_ok-rest.field-0.now second _ c.in_ok-rest-2.field-0 c.first_field-2.ensures c.in_ok-rest-2.was ∙ ap (λ l. second ∷ l) c.first_field-3.ensures) in
    elim c.then-is_empty.branch [
      | then-is_empty-via-then-is_empty w ↦ user-no_name c.args.line.now name second number _ whole (eqb-true _ 0 (sym c.is_empty.ensures ∙ w.if-is_empty.true))
      | then-is_empty-via-else-is_empty+in_ok-rest-3+then-count_colons-ne3 w ↦
          user-not_seven c.args.line.now name second number w.in_ok-rest-3.field-0.now (whole ∙ ap (λ o. name ∷ second ∷ number ∷ fields_left o) w.in_ok-rest-3.was) (λ three. w.if-count_colons-ne3.true (w.count_colons.ensures ∙ three))
    ]

pub returns : goal.returns
returns c =
    let name = c.first_field.result.0.now in
    let second = c.first_field-2.result.0.now in
    let number = c.first_field-3.result.0.now in
    let whole : fields_of c.args.line.now ≡ name ∷ second ∷ number ∷ fields_left c.first_field-3.result.1 =
    after_field c.args.line.now name _ c.in_ok-rest.field-0 c.first_field.ensures c.in_ok-rest.was ∙ ap (λ l. name ∷ l) (after_field c.in_ok-rest.field-0.now second _ c.in_ok-rest-2.field-0 c.first_field-2.ensures c.in_ok-rest-2.was ∙ ap (λ l. second ∷ l) c.first_field-3.ensures) in
    user-whole c.args.line.now name second number c.in_ok-rest-3.field-0.now c.in_ok-uid_in.field-0 (whole ∙ ap (λ o. name ∷ second ∷ number ∷ fields_left o) c.in_ok-rest-3.was)
    (sym c.count_colons.ensures ∙ c.if-count_colons-ne3.false) (some_length name (sym c.is_empty.ensures ∙ c.if-is_empty.false)) c.in_ok-uid_in.ensures
