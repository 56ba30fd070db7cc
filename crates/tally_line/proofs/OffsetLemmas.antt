-- The values of offsets.
use Rattle.std.proofs.Common.{◌≡◌, ◌∙◌, Option, None, Some, ap, arith, subst, sym}
use Rattle.clap.specs.Walk.{first_of}
use Rattle.clap.specs.Words.{Text, first_value, rows_of}
use Rattle.clap.specs.declared.parser.matches.Found.{Found}
use Rattle.clap.proofs.WalkLemmas.{first_value-rows}
use Rattle.tally_line.specs.Offsets.{IsPlain, IsPlainIn}

-- what `get_str` gives is the first value in the rows
pub in_rows : (f : Found) (id : Text) (found : Option Text) → found ≡ first_value f id → first_of id (rows_of f) ≡ found
in_rows f id found is = sym (is ∙ first_value-rows f id)

some_is : (t u : Text) → Some t ≡ Some u → t ≡ u
some_is t u e = ap (λ (o : Option Text). elim o [ None ↦ t | Some x ↦ x ]) e

-- the value of an option is plain where it is there and plain
pub is_plain_in : (f : Found) (id text : Text) → Some text ≡ first_value f id → IsPlain text → IsPlainIn id (rows_of f)
is_plain_in f id text is plain = λ other other_is. subst IsPlain (some_is text other (sym (in_rows f id (Some text) is) ∙ other_is)) plain

pub plain_is : (f : Found) (id text : Text) → Some text ≡ first_value f id → IsPlainIn id (rows_of f) → IsPlain text
plain_is f id text is plain = plain text (in_rows f id (Some text) is)

-- and where it is not there
pub none_is_plain : (f : Found) (id : Text) → None ≡ first_value f id → IsPlainIn id (rows_of f)
none_is_plain f id is = λ text text_is. grind (arith, sym (in_rows f id None is) ∙ text_is)
