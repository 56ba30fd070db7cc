-- How much of a file was read, as a line on a terminal says it.
use Rattle.std.specs.Prelude.{ℕ, List}
use Rattle.tally_records.specs.declared.batch.Kind.{Kind}
use Rattle.tally_records.specs.declared.batch.Kind.TheVariants.{FailedLogin, Login, Proc}
use Rattle.tally_terminal.specs.declared.progress.Followed.{Followed}

-- the size of a record: struct utmp of utmp(5), and struct acct of acct(5)
abbrev pub record_size : Kind → ℕ
record_size Login = 384
record_size FailedLogin = 384
record_size Proc = 64

-- the file that is followed, and the path by which a line shows it
abbrev pub followed_file : {R F : Type 0} → Followed R F → F
followed_file followed = followed.file

abbrev pub followed_path : {R F : Type 0} → Followed R F → List ℕ
followed_path followed = followed.line.path.now
