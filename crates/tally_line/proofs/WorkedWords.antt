-- Worked words of names, numbers, offsets and files, computed by the definitions.
use Rattle.std.proofs.Common.{◌≡◌, ◌∙◌, ◌++◌, ℕ, List, [], ◌∷◌, None, Some, ap, arith, false, map, refl, replicate, slice_index, sym, take, true, true≢false}
use Rattle.std.specs.Prelude.{codes}
use Rattle.std.proofs.lemmas.List.Elements.{All-cons, All-nil}
use Rattle.std.proofs.lemmas.Option.{same_Some}
use Rattle.clap.proofs.OnLiterals.{clap_on_literals}
use Rattle.clap.specs.Words.{Text}
use Rattle.tally_records.specs.Choice.{every_login}
use Rattle.tally_records.specs.Period.{always}
use Rattle.tally_records.specs.Text.{padded}
use Rattle.tally_records.specs.declared.batch.Kind.{Kind}
use Rattle.tally_records.specs.declared.batch.Kind.TheVariants.{FailedLogin, Login, Proc}
use Rattle.tally_usage.specs.declared.order.Order.TheVariants.{Calls, Cpu}
use Rattle.tally_line.specs.CommandLine.{tally_app}
use Rattle.tally_line.specs.FileWords.{HasPrefix, IsFirstBare, Reads, prefix_of, word_of}
use Rattle.tally_line.specs.Lines.{name_of}
use Rattle.tally_line.specs.Named.{AreNames, IsName, login_choice, names_of, words_of}
use Rattle.tally_line.specs.Offsets.{HasPlainOffsets, IsPlain}
use Rattle.tally_line.specs.Options.{WritesIn, is_by_calls, number_of}
use Rattle.tally_line.specs.UsageWords.{AreUids, HasUsersToName, uids_of}
use Rattle.tally_line.specs.Zones.{HasOneClock}
use Rattle.tally_line.specs.declared.job.Report.{Report}
use Rattle.tally_line.specs.declared.job.Report.TheVariants as report
use Rattle.tally_line.proofs.WorkedAsking.{matches_of, writes}

-- ---- reports

-- a report of each kind
abbrev all_reports : List Report
all_reports = report.Last None every_login false ∷ report.Attempts None every_login ∷ report.AttemptSums None every_login ∷ report.Connect false false every_login ∷ report.Commands Cpu false false ∷ report.Users Cpu false ∷ report.All ∷ []

-- the subcommand of each report
subcommands : map name_of all_reports ≡ codes "last" ∷ codes "lastb" ∷ codes "lastb" ∷ codes "ac" ∷ codes "sa" ∷ codes "sa" ∷ codes "all" ∷ []
subcommands = refl

-- `-n` of `sa` orders by calls, and else cpu does
orders : map is_by_calls (Calls ∷ Cpu ∷ []) ≡ true ∷ false ∷ []
orders = refl

-- ---- files

abbrev all_kinds : List Kind
all_kinds = Login ∷ FailedLogin ∷ Proc ∷ []

-- a report of all has login files and files of processes, and no failed logins
prefixes : map prefix_of all_kinds ≡ Some (codes "w:") ∷ None ∷ Some (codes "p:") ∷ []
prefixes = refl

-- no other report has prefixes
paths : map (λ r. map (λ kind. word_of r kind (codes "w:f")) all_kinds) (take 6 all_reports) ≡ replicate 6 (replicate 3 (codes "w:f"))
paths = refl

-- each report reads files of one kind, and that of all reads logins and processes
some_are_read : Reads (report.Last None every_login false) Login × Reads (report.Attempts None every_login) FailedLogin × Reads (report.AttemptSums None every_login) FailedLogin
    × Reads (report.Connect false false every_login) Login × Reads (report.Commands Cpu false false) Proc × Reads (report.Users Cpu false) Proc
some_are_read = (refl, refl, refl, refl, refl, refl)

-- a report of all reads logins and processes
pub both_are_read : Reads report.All Login × Reads report.All Proc
both_are_read = (λ is. cc, λ is. cc)

-- and no failed logins
none_failed : ¬ Reads report.All FailedLogin
none_failed reads = reads refl

-- where a word begins with a prefix, its first byte is that of the prefix
first_byte : (its prefix path : Text) → Some its ≡ Some prefix → codes "x:f" ≡ prefix ++ path → 120 ≡ slice_index (its ++ path) 0
first_byte its prefix path is named = ap (λ (text : Text). slice_index text 0) (named ∙ ap (λ (text : Text). text ++ path) (sym (same_Some its prefix is)))

-- a word that is a path alone has no prefix
pub bare_word : ¬ HasPrefix (codes "x:f")
bare_word (Login, prefix, path, is, named) = omega (arith, first_byte (codes "w:") prefix path is named)
bare_word (FailedLogin, prefix, path, is, named) = cc
bare_word (Proc, prefix, path, is, named) = omega (arith, first_byte (codes "p:") prefix path is named)

-- what follows the first prefix is path
login_word : HasPrefix (codes "w:x:f")
login_word = (Login, codes "w:", codes "x:f", refl, refl)

-- the path may be empty
proc_word : HasPrefix (codes "p:")
proc_word = (Proc, codes "p:", [], refl, refl)

-- the first word without a prefix counts from 0
first_bare : IsFirstBare (codes "w:a" ∷ codes "p:b" ∷ codes "x:f" ∷ codes "y" ∷ []) 2
first_bare = record {
  in_range = omega arith;
  bare = bare_word;
  earlier = All-cons HasPrefix (codes "w:a") (codes "p:b" ∷ []) (Login, codes "w:", codes "a", refl, refl) (All-cons HasPrefix (codes "p:b") [] (Proc, codes "p:", codes "b", refl, refl) (All-nil HasPrefix));
}

-- ---- numbers

-- digits count by tens; a plus and zeros may stand before them
numbers : map number_of (codes "0" ∷ codes "7" ∷ codes "64" ∷ codes "007" ∷ codes "+16" ∷ codes "4294967295" ∷ []) ≡ 0 ∷ 7 ∷ 64 ∷ 7 ∷ 16 ∷ 4294967295 ∷ []
numbers = refl

-- both ends are in the range
in_range : WritesIn 1 64 (codes "1") × WritesIn 1 64 (codes "64")
in_range = (writes 1 64 (codes "1") refl, writes 1 64 (codes "64") refl)

-- what is below the first is not
too_few : ¬ WritesIn 1 64 (codes "0")
too_few is = omega (arith, is.at_least)

-- nor is what is above the last
too_many : ¬ WritesIn 1 64 (codes "65")
too_many is = omega (arith, is.at_most)

-- a letter is no digit
no_digits : ¬ WritesIn 0 64 (codes "1x")
no_digits is = omega (arith, is.digits.1.1.0)

-- no digits are no number
no_number : ¬ WritesIn 0 64 []
no_number is = omega (arith, is.digits.0)

-- ---- offsets

-- a zero alone is plain
pub plain_zero : IsPlain (codes "0")
plain_zero = record { no_plus = λ is. cc; no_minus = λ is. cc; no_zero = λ is. omega arith }

-- so are digits
plain_sixty : IsPlain (codes "60")
plain_sixty = record { no_plus = λ is. cc; no_minus = λ is. cc; no_zero = λ is. cc }

-- a plus is not
signed_east : ¬ IsPlain (codes "+60")
signed_east plain = plain.no_plus refl

-- nor is a minus
signed_west : ¬ IsPlain (codes "-0")
signed_west plain = plain.no_minus refl

-- nor is a zero before other digits
zero_first : ¬ IsPlain (codes "060")
zero_first plain = omega (arith, plain.no_zero refl)

-- nor is one before a zero
two_zeros : ¬ IsPlain (codes "00")
two_zeros plain = omega (arith, plain.no_zero refl)

-- minutes east of UTC are plain
plus_east : ¬ HasPlainOffsets (matches_of (codes "ac" ∷ codes "--east=+1" ∷ []))
unfolding tally_app clap_on_literals
plus_east plain = (plain.0 (codes "+1") refl).no_plus refl

-- and so are minutes west of it
zero_west : ¬ HasPlainOffsets (matches_of (codes "last" ∷ codes "--west=01" ∷ []))
unfolding tally_app clap_on_literals
zero_west plain = omega (arith, (plain.1 (codes "01") refl).no_zero refl)

-- ---- names of users and lines

-- the words of an option that is repeated, in order
words_in_order : map (λ id. words_of id (matches_of (codes "last" ∷ codes "--user=bob" ∷ codes "--line=tty1" ∷ codes "--user" ∷ codes "ann" ∷ []))) (codes "user" ∷ codes "line" ∷ codes "from" ∷ []) ≡ (codes "bob" ∷ codes "ann" ∷ []) ∷ (codes "tty1" ∷ []) ∷ [] ∷ []
unfolding tally_app clap_on_literals
words_in_order = refl

-- eight places, of which names fill the first, each with zeros up to 32 bytes
two_names : names_of (codes "bob" ∷ codes "ann" ∷ []) ≡ Some (padded 32 (codes "bob")) ∷ Some (padded 32 (codes "ann")) ∷ replicate 6 None
two_names = refl

-- all eight places may have one
eight_names : names_of (replicate 8 (codes "a")) ≡ replicate 8 (Some (padded 32 (codes "a")))
eight_names = refl

-- users and lines are chosen by their own options, in all time
choice : login_choice (matches_of (codes "ac" ∷ codes "--line=tty1" ∷ codes "--user=ann" ∷ codes "--from=@5" ∷ []))
    ≡ record { users = Some (padded 32 (codes "ann")) ∷ replicate 7 None; lines = Some (padded 32 (codes "tty1")) ∷ replicate 7 None; period = always }
unfolding tally_app clap_on_literals
choice = refl

-- without these all sessions are
every_choice : map (λ name. login_choice (matches_of (name ∷ []))) (codes "last" ∷ codes "lastb" ∷ codes "ac" ∷ []) ≡ replicate 3 every_login
unfolding tally_app clap_on_literals
every_choice = refl

-- a name has 1 to 32 bytes
abbrev name_with : ℕ → Text
name_with count = replicate count 120

-- both ends are names
names : IsName (name_with 1) × IsName (name_with 32)
names = (record { some = omega arith; fits = omega arith }, record { some = omega arith; fits = omega arith })

-- no bytes are none
no_name : ¬ IsName []
no_name is = omega (arith, is.some)

-- nor are 33
long_name : ¬ IsName (name_with 33)
long_name is = omega (arith, is.fits)

-- none has to be named
no_names : AreNames []
no_names = record { few = omega arith; each = All-nil IsName }

-- eight are the most
nine_names : ¬ AreNames (replicate 9 (codes "a"))
nine_names are = omega (arith, are.few)

-- each of them is one
second_name : ¬ AreNames (codes "a" ∷ [] ∷ [])
second_name are = no_name (are.each 1 [] (omega arith))

-- ---- numbers of users

-- eight places likewise
two_uids : uids_of (codes "1000" ∷ codes "0" ∷ []) ≡ Some 1000 ∷ Some 0 ∷ replicate 6 None
two_uids = refl

-- without numbers there is none
no_uids : uids_of [] ≡ replicate 8 None
no_uids = refl

-- from 0 up to what 32 bits hold
uid_range : AreUids (codes "0" ∷ codes "4294967295" ∷ [])
uid_range = record {
  few = omega arith;
  each = All-cons (WritesIn 0 4294967295) (codes "0") (codes "4294967295" ∷ []) (writes 0 4294967295 (codes "0") refl) (All-cons (WritesIn 0 4294967295) (codes "4294967295") [] (writes 0 4294967295 (codes "4294967295") refl) (All-nil (WritesIn 0 4294967295)));
}

-- one more does not fit
great_uid : ¬ AreUids (codes "4294967296" ∷ [])
great_uid are = omega (arith, (are.each 0 [] (omega arith)).at_most)

-- a name is no number
named_uid : ¬ AreUids (codes "0" ∷ codes "ann" ∷ [])
named_uid are = omega (arith, (are.each 1 [] (omega arith)).digits.1.0)

-- there are eight at most
nine_uids : ¬ AreUids (replicate 9 (codes "0"))
nine_uids are = omega (arith, are.few)

-- names of users are for a report by user alone
names_by_user : HasUsersToName (matches_of (codes "sa" ∷ codes "-m" ∷ codes "--names=f" ∷ []))
unfolding tally_app clap_on_literals
names_by_user given = refl

-- not for one by commands
names_of_commands : ¬ HasUsersToName (matches_of (codes "sa" ∷ codes "-a" ∷ codes "--names=f" ∷ []))
unfolding tally_app clap_on_literals
names_of_commands has = true≢false (sym (has refl))

-- ---- clocks

-- a zone stands alone, and offsets that are not written are in no way
zone_alone : HasOneClock (matches_of (codes "last" ∷ codes "--zone=UTC" ∷ []))
unfolding tally_app clap_on_literals
zone_alone zone = (λ east. cc, λ west. cc)

-- offsets stand beside one another
two_offsets : HasOneClock (matches_of (codes "last" ∷ codes "--east=60" ∷ codes "--west=60" ∷ []))
unfolding tally_app clap_on_literals
two_offsets zone = cc

-- no offset stands beside a zone, not even one of no minutes
zone_and_east : ¬ HasOneClock (matches_of (codes "ac" ∷ codes "--zone=UTC" ∷ codes "--east=0" ∷ []))
unfolding tally_app clap_on_literals
zone_and_east one = (one refl).0 refl

-- nor does one to the west
zone_and_west : ¬ HasOneClock (matches_of (codes "ac" ∷ codes "--west=0" ∷ codes "--zone=UTC" ∷ []))
unfolding tally_app clap_on_literals
zone_and_west one = (one refl).1 refl
