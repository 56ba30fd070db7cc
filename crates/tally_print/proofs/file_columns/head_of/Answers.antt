use Rattle.tally_print.specs.FileColumns.{path_lent}
use Rattle.tally_print.proofs.FileLemmas.{head_text}
use Rattle.tally_print.proofs.file_columns.head_of.Goals as goal

pub returns : goal.returns
returns c =
    rw (c.in_ok-push_path_column.ensures, c.in_ok-push_file.ensures, c.new-head.ensures.items) (head_text c.args.file.number (path_lent c.args.file.path))
