-- How a report tells its files apart.
use Rattle.std.specs.Prelude.{◌≡◌, List, codes, false, true}
use Rattle.clap.specs.Words.{Row}
use Rattle.tally_line.specs.Options.{is_set}
use Rattle.tally_line.specs.Times.{is_given}
use Rattle.tally_line.specs.declared.line.FilesAsked.{FilesAsked}

-- what is asked
pub record IsFilesAsked (rows : List Row) (asked : FilesAsked) : Type 0 where
  pub by_file : asked.by_file ≡ is_set (codes "by-file") rows
  pub paths : asked.paths ≡ is_set (codes "paths") rows

-- each row of the report is of one file: the report is a table, not of sums of attempts over all files, and on each file by itself
-- where the subcommand has the flag for that, which its matches then say of as true or false
pub record IsTableOfFiles (rows : List Row) : Type 0 where
  pub csv : is_set (codes "csv") rows ≡ true
  pub no_sum : is_set (codes "sum") rows ≡ false
  pub by_file : is_given (codes "by-file") rows ≡ true → is_set (codes "by-file") rows ≡ true

-- paths are asked for only where each row is of one file
abbrev pub HasRowsOfFiles : List Row → Type 0
HasRowsOfFiles rows = is_set (codes "paths") rows ≡ true → IsTableOfFiles rows
