-- Where the values of options are from.
use Rattle.std.proofs.Common.{◌≡◌, ◌∙◌, Option, None, Some, ap, find, refl, sym}
use Rattle.std.specs.Prelude.{option_and_then, option_map}
use Rattle.clap.specs.Facts.{Entry}
use Rattle.clap.specs.Matches.{matched_of}
use Rattle.clap.specs.Walk.{Row, Text, row_of, rows_of}
use Rattle.clap.specs.declared.parser.matches.Found.{Found}
use Rattle.clap.specs.declared.parser.matches.MatchedArg.{MatchedArg}
use Rattle.std.specs.Str.{bytes_eq}
use Rattle.clap.proofs.WalkLemmas.{find_row}
use Rattle.tally_line.specs.Zones.{source_of}

-- the source that the matches give is that of the row
pub source-rows : (f : Found) (id : Text) → option_and_then (λ (a : MatchedArg). a.source) (matched_of f id) ≡ source_of id (rows_of f)
source-rows f id = go (find (λ e. bytes_eq e.0.now id) f.entries.items) ∙ ap (option_and_then (λ (r : Row). r.source)) (sym (find_row f.entries.items id))
  where
    go : (o : Option Entry) → option_and_then (λ (a : MatchedArg). a.source) (option_map (λ e. e.1) o) ≡ option_and_then (λ (r : Row). r.source) (option_map row_of o)
    go None = refl
    go (Some e) = refl
