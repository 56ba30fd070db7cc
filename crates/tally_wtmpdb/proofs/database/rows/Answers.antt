use Rattle.std.proofs.Common.{All, MatchOption, ap, map, subst, sym, ◌≡◌, ◌∙◌}
use Rattle.std.proofs.lemmas.Result.{IfOk-weaker}
use Rattle.sqlite_store.specs.Catalog.{wanted_of}
use Rattle.tally_wtmpdb.specs.Catalog.{HasTexts, wanted_in, wtmp_place}
use Rattle.tally_wtmpdb.proofs.Clean.{table_of}
use Rattle.tally_wtmpdb.proofs.database.rows.Goals as goal

pub returns-in-Some-2-clause-rows : goal.returns-in-Some-2-clause-rows
returns-in-Some-2-clause-rows c =
    IfOk-weaker c.tree_rows.result _ _ (λ rows are. table_of c.args.log.now c.args.db.now c.in_ok-listed.listed.items _ c.in-Some.place c.in-Ok.tree rows.items c.in_ok-listed.ensures.objects
    (sym (ap wtmp_place c.deref.ensures.value) ∙ sym c.wtmp_place.ensures ∙ c.in-Some.is)
    (ap (map wanted_of) c.deref-in-Some-2.ensures.value ∙ subst (λ f. MatchOption f (¬ All HasTexts c.deref-2.result.now) (λ objects. map wanted_of objects.items ≡ map wanted_in c.deref-2.result.now)) c.in-Some-2.is c.in_ok-objects.ensures ∙ ap (map wanted_in) c.deref-2.ensures.value)
    c.in-Ok.ensures.1 are) c.tree_rows.ensures.rows

pub returns-clause-cause : goal.returns-clause-cause
returns-clause-cause c = record {
  objects = c.in_ok-listed.listed.items;
  are_listed = c.in_ok-listed.ensures.objects;
  unsound = λ texts size pages database. subst (λ f. MatchOption f (¬ All HasTexts c.deref-2.result.now) (λ objects. map wanted_of objects.items ≡ map wanted_in c.deref-2.result.now)) c.in-None.is c.in_ok-objects.ensures
      (subst (All HasTexts) (sym c.deref-2.ensures.value) texts);
}
