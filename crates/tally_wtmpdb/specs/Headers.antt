-- What the first bytes of a database and of its journal say, and why the files give no login records.
use Rattle.std.specs.Prelude.{◌≡◌, ◌⊎◌, ℕ, Bool, List, [], ◌∷◌, ◌++◌, ◌||◌, codes, nat_eq, not, slice_index, true, ◌==◌, ⊤}
use Rattle.std.specs.List.{list_any, starts_with}
use Rattle.tally_wtmpdb.specs.Causes.{IsCauseIn}
use Rattle.tally_wtmpdb.specs.Table.{AreUnsound, HaveNoDatabase}
use Rattle.tally_wtmpdb.specs.declared.refusal.DatabaseFault.{DatabaseFault}
use Rattle.tally_wtmpdb.specs.declared.refusal.DatabaseFault.TheVariants.{Memory, NotRead, Unfinished, Changing, TooLarge, AutoVacuum, OtherTexts, NotMade}

-- what a database begins with
abbrev pub is_database : List ℕ → Bool
is_database front = starts_with nat_eq front (codes "SQLite format 3" ++ 0 ∷ [])

-- a journal's head has a byte that is not 0: the change that it undoes was not finished
abbrev pub is_unfinished : List ℕ → Bool
is_unfinished head = list_any (λ b. not (b == 0)) head

-- a database has auto-vacuum where its header, from byte 52 on, names the largest of its root pages
abbrev pub has_auto_vacuum : List ℕ → Bool
has_auto_vacuum db = not (slice_index db 52 == 0) || not (slice_index db 53 == 0) || not (slice_index db 54 == 0) || not (slice_index db 55 == 0)

-- its texts are in UTF-16 where the number of their encoding, up to byte 59, is 2 or 3
abbrev pub has_other_texts : List ℕ → Bool
has_other_texts db = (slice_index db 59 == 2) || (slice_index db 59 == 3)

-- the files are no sound database, or are unsound as far as what they list is read
abbrev pub AreRefused : (log db : List ℕ) → Type 0
AreRefused log db = HaveNoDatabase log db ⊎ AreUnsound log db

-- why the bytes of a database and of the files beside it give no login records, or more than so many
abbrev pub IsCauseOf : (most : ℕ) (journal log db : List ℕ) → DatabaseFault → Type 0
IsCauseOf most journal log db Memory = ⊤
IsCauseOf most journal log db NotRead = ⊥
IsCauseOf most journal log db Unfinished = is_unfinished journal ≡ true
IsCauseOf most journal log db Changing = ⊥
IsCauseOf most journal log db TooLarge = ⊥
IsCauseOf most journal log db AutoVacuum = (has_auto_vacuum db ≡ true) × AreRefused log db
IsCauseOf most journal log db OtherTexts = (has_other_texts db ≡ true) × AreRefused log db
IsCauseOf most journal log db (NotMade fault) = IsCauseIn log db most fault
