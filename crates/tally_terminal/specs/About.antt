-- Of which files something is said.
use Rattle.std.specs.Prelude.{Bool, true, false}
use Rattle.tally_kinds.specs.declared.kinds.Looks.{Looks}
use Rattle.tally_kinds.specs.declared.kinds.Looks.TheVariants.{FailedLogins, Logins, Nothing, Processes, Unknown}
use Rattle.tally_records.specs.declared.batch.Kind.{Kind}
use Rattle.tally_records.specs.declared.batch.Kind.TheVariants.{FailedLogin, Login, Proc}

-- a file looks as one of its kind does, or like nothing known: nothing is said of it
abbrev pub is_silent : Kind → Looks → Bool
is_silent kind Nothing = true
is_silent kind Unknown = true
is_silent Login Logins = true
is_silent FailedLogin FailedLogins = true
is_silent Proc Processes = true
is_silent kind looks = false
