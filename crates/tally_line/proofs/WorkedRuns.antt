-- Worked answers to whole command lines, computed by the definitions.
use Rattle.std.proofs.Common.{◌≡◌, ◌∙◌, ◌++◌, ◌⊎◌, List, [], ◌∷◌, None, Some, Vec, ap, ap₂, arith, codes, false, inl, inr, neg_ℤ, pos, refl, replicate, string_bytes, sym, true, true≢false, ℕ, ℤ}
use Rattle.std.proofs.lemmas.Int.{ints}
use Rattle.std.proofs.lemmas.List.Elements.{All-cons, All-nil}
use Rattle.std.proofs.lemmas.Option.{same_Some}
use Rattle.std.specs.Prelude.{String}
use Rattle.std.specs.declared.alloc.Global.{Global}
use Rattle.clap.proofs.OnLiterals.{clap_on_literals}
use Rattle.clap.specs.Words.{Row, Text}
use Rattle.clap.specs.Walk.{first_of}
use Rattle.clap.specs.declared.error.kind.ErrorKind.TheVariants.{DisplayHelp, DisplayVersion, UnknownArgument, ValueValidation}
use Rattle.tally_moments.specs.declared.moment.Moment.TheVariants.{Second}
use Rattle.tally_records.specs.Choice.{every_login}
use Rattle.tally_records.specs.declared.batch.Kind.TheVariants.{Login, Proc}
use Rattle.tally_usage.specs.declared.order.Order.TheVariants.{Cpu}
use Rattle.tally_line.specs.CommandLine.{tally_app}
use Rattle.tally_line.specs.Apart.{IsFilesAsked}
use Rattle.tally_line.specs.FileWords.{HasPrefix, NamesFiles, Reads}
use Rattle.tally_line.specs.Jobs.{IsRunnable}
use Rattle.tally_line.specs.Lines.{Answers, AreSound, HasNoWord, Refuses}
use Rattle.tally_line.specs.Named.{IsName}
use Rattle.tally_line.specs.Offsets.{IsPlain, IsPlainIn}
use Rattle.tally_line.specs.Options.{WritesIn}
use Rattle.tally_line.specs.UsageWords.{IsUsageAsked}
use Rattle.tally_line.specs.declared.job.Form.TheVariants as form
use Rattle.tally_line.specs.declared.job.Job.{Job}
use Rattle.tally_line.specs.declared.job.Report.{Report}
use Rattle.tally_line.specs.declared.job.Report.TheVariants as report
use Rattle.tally_line.specs.declared.line.FileArg.{FileArg}
use Rattle.tally_line.specs.declared.line.Line.TheVariants as line
use Rattle.tally_line.specs.declared.line.LineFault.TheVariants as fault
use Rattle.tally_line.specs.declared.line.UsageAsked.{UsageAsked}
use Rattle.tally_line.specs.declared.times.Times.{Times}
use Rattle.tally_line.proofs.WorkedWords.{bare_word, both_are_read, plain_zero}
use Rattle.tally_line.proofs.WorkedAsking.{chosen, csv_asked, job_with, matches_of, number_is, offset_of, optional_is}

-- ---- what is sound

-- a number without a sign or a zero before it
plain : (id text : Text) (rows : List Row) → first_of id rows ≡ Some text → IsPlain text → IsPlainIn id rows
plain id text rows is its other other_is = rw⁻¹ (same_Some text other (sym is ∙ other_is)) its

-- an offset with a sign is refused
signed : ¬ AreSound (matches_of (codes "ac" ∷ codes "--east=+1" ∷ []))
unfolding tally_app clap_on_literals
signed sound = (sound.offsets.0 (codes "+1") refl).no_plus refl

-- so is a zone beside an offset
two_clocks : ¬ AreSound (matches_of (codes "ac" ∷ codes "--east=0" ∷ codes "--zone=UTC" ∷ []))
unfolding tally_app clap_on_literals
two_clocks sound = (sound.clock refl).0 refl

-- so is an empty name of a user
nameless : ¬ AreSound (matches_of (codes "ac" ∷ codes "--user=" ∷ []))
unfolding tally_app clap_on_literals
nameless sound = omega (arith, (sound.named.users.each 0 [] (omega arith)).some)

-- and of a line
lineless : ¬ AreSound (matches_of (codes "ac" ∷ codes "--line=" ∷ []))
unfolding tally_app clap_on_literals
lineless sound = omega (arith, (sound.named.lines.each 0 [] (omega arith)).some)

-- so is an empty number of a user
named_user : ¬ AreSound (matches_of (codes "sa" ∷ codes "--uid=" ∷ []))
unfolding tally_app clap_on_literals
named_user sound = omega (arith, (sound.usage.uids.each 0 [] (omega arith)).digits.0)

-- so are names of users for a report on commands
names_of_commands : ¬ AreSound (matches_of (codes "sa" ∷ codes "--names=f" ∷ []))
unfolding tally_app clap_on_literals
names_of_commands sound = true≢false (sym (sound.usage.names refl))

-- so are paths for lines
paths_of_text : ¬ AreSound (matches_of (codes "last" ∷ codes "--paths" ∷ []))
unfolding tally_app clap_on_literals
paths_of_text sound = true≢false (sym (sound.paths refl).csv)

-- so is a word that says no moment
never : ¬ AreSound (matches_of (codes "last" ∷ codes "--from=never" ∷ []))
unfolding tally_app clap_on_literals
never sound = true≢false (sym sound.moments.from)

-- ninety minutes are plain
plain_ninety : IsPlain (codes "90")
plain_ninety = record { no_plus = λ is. cc; no_minus = λ is. cc; no_zero = λ is. cc }

-- ---- runs

abbrev no_usage : UsageAsked
no_usage = record { uids = replicate 8 None; names = None }

-- `last` on the clock of a zone, over one file
abbrev last_words : List Text
last_words = codes "last" ∷ codes "-n3" ∷ codes "--user=ann" ∷ codes "--line=tty1" ∷ codes "--from=@5" ∷ codes "--until=@9" ∷ codes "--csv" ∷ codes "--paths" ∷ codes "--zone=UTC" ∷ codes "f" ∷ []

abbrev last_rows : List Row
last_rows = matches_of last_words

abbrev last_times : Times
last_times = record { until = Some (Second (pos 9)); from = Some (Second (pos 5)); to = None; at = None }

-- the run has each of these words in its place, and the zone and the path as they were given
last_run : (path zone : String Global) (files : Vec FileArg Global) → codes "f" ≡ string_bytes path → string_bytes zone ≡ codes "UTC" → files.items ≡ record { kind = Login; path = path } ∷ []
    → Answers last_words (line.Run (job_with (report.Last (Some 3) chosen true) form.Csv 1 4 0 (pos 0)) last_times no_usage (record { by_file = false; paths = true }) (Some zone) files)
unfolding tally_app clap_on_literals
last_run path zone files path_is zone_is files_are = (
  refl,
  record {
    named = refl;
    runnable = record { offset = record { low = omega (arith, ints); high = omega (arith, ints) }; some_millions = omega arith; few_millions = omega arith; some_feeders = omega arith; few_feeders = omega arith; few_askers = omega arith; until = tt; form = tt };
    form = csv_asked last_rows refl;
    few_askers = omega arith;
    all_is_asked = inl refl;
    options = record {
      report = (optional_is last_rows (codes "limit") (codes "3") refl 1 16777216, refl, refl);
      millions = number_is last_rows (codes "millions") (codes "1") refl 1 16 1;
      feeders = number_is last_rows (codes "feeders") (codes "4") refl 1 64 4;
      askers = refl;
      offset = offset_of last_rows (codes "0") (codes "0") refl refl;
      unsettled = refl;
    };
    moments = refl;
    until = tt;
    usage_words = record { uids = refl; names = refl };
    told_apart = record { by_file = refl; paths = refl };
    zone_word = ap Some zone_is;
    sound = record {
      offsets = (plain (codes "east") (codes "0") last_rows refl plain_zero, plain (codes "west") (codes "0") last_rows refl plain_zero);
      clock = λ written. (λ east. cc, λ west. cc);
      named = record {
        users = record { few = omega arith; each = All-cons IsName (codes "ann") [] (record { some = omega arith; fits = omega arith }) (All-nil IsName) };
        lines = record { few = omega arith; each = All-cons IsName (codes "tty1") [] (record { some = omega arith; fits = omega arith }) (All-nil IsName) };
      };
      usage = record { uids = record { few = omega arith; each = All-nil (WritesIn 0 4294967295) }; names = λ given. absurd (true≢false (sym given)) };
      paths = λ asked. record { csv = refl; no_sum = refl; by_file = λ given. absurd (true≢false (sym given)) };
      moments = record { alone = refl; from = refl; to = refl; period = refl; at = refl; until = refl };
    };
    some_file = λ all. cc;
    names_files = rw files_are (record { each_word = ap (λ (word : Text). word ∷ []) path_is; each_kind = All-cons (λ (file : FileArg). Reads (report.Last (Some 3) chosen true) file.kind) (record { kind = Login; path = path }) [] refl (All-nil (λ (file : FileArg). Reads (report.Last (Some 3) chosen true) file.kind)) });
  },
)

-- `check` with minutes to the west, over two files
abbrev check_words : List Text
check_words = codes "check" ∷ codes "--csv" ∷ codes "--paths" ∷ codes "--west=90" ∷ codes "w:a" ∷ codes "b" ∷ []

abbrev check_rows : List Row
check_rows = matches_of check_words

-- each word without an option is a path, with its prefix
checked : (one other : String Global) (files : Vec (String Global) Global) → string_bytes one ≡ codes "w:a" → string_bytes other ≡ codes "b" → files.items ≡ one ∷ other ∷ []
    → Answers check_words (line.Check (record { form = form.Csv; paths = true; offset = neg_ℤ (pos 90); zone = None; files = files }))
unfolding tally_app clap_on_literals
checked one other files one_is other_is files_are = (
  refl,
  record {
    named = refl;
    form = csv_asked check_rows refl;
    paths = refl;
    offset = offset_of check_rows (codes "0") (codes "90") refl refl;
    in_range = record { low = omega (arith, ints); high = omega (arith, ints) };
    zone_word = refl;
    sound = record {
      offsets = (plain (codes "east") (codes "0") check_rows refl plain_zero, plain (codes "west") (codes "90") check_rows refl plain_ninety);
      clock = λ written. cc;
      named = record { users = record { few = omega arith; each = All-nil IsName }; lines = record { few = omega arith; each = All-nil IsName } };
      usage = record { uids = record { few = omega arith; each = All-nil (WritesIn 0 4294967295) }; names = λ given. absurd (true≢false (sym given)) };
      paths = λ asked. record { csv = refl; no_sum = refl; by_file = λ given. absurd (true≢false (sym given)) };
      moments = record { alone = refl; from = refl; to = refl; period = refl; at = refl; until = refl };
    };
    some_file = rw files_are (omega arith);
    names_files = rw (files_are, one_is, other_is) refl;
  },
)

-- ---- what stands beside a job

-- `sa` has numbers of users and a file of their names
users_of_usage : (file : String Global) → string_bytes file ≡ codes "passwd" → IsUsageAsked (matches_of (codes "sa" ∷ codes "-m" ∷ codes "--uid=1000" ∷ codes "--names=passwd" ∷ codes "--uid=0" ∷ []))
    (record { uids = Some 1000 ∷ Some 0 ∷ replicate 6 None; names = Some file })
unfolding tally_app clap_on_literals
users_of_usage file file_is = record { uids = refl; names = ap Some file_is }

-- `ac` and `sa` are by file, and tables have paths, each by its own flag
by_its_flag : IsFilesAsked (matches_of (codes "ac" ∷ codes "--by-file" ∷ [])) (record { by_file = true; paths = false }) × IsFilesAsked (matches_of (codes "lastb" ∷ codes "--csv" ∷ codes "--paths" ∷ [])) (record { by_file = false; paths = true })
unfolding tally_app clap_on_literals
by_its_flag = (record { by_file = refl; paths = refl }, record { by_file = refl; paths = refl })

-- the prefixes of a report of all are no part of its paths, and say of what kind its files are
files_of_all : (one other : String Global) → codes "w:a" ≡ codes "w:" ++ string_bytes one → codes "p:b" ≡ codes "p:" ++ string_bytes other
    → NamesFiles report.All (codes "w:a" ∷ codes "p:b" ∷ []) (record { kind = Login; path = one } ∷ record { kind = Proc; path = other } ∷ [])
files_of_all one other one_is other_is = record {
  each_word = ap₂ (λ (first second : Text). first ∷ second ∷ []) one_is other_is;
  each_kind = All-cons (λ (file : FileArg). Reads report.All file.kind) (record { kind = Login; path = one }) (record { kind = Proc; path = other } ∷ []) both_are_read.0
      (All-cons (λ (file : FileArg). Reads report.All file.kind) (record { kind = Proc; path = other }) [] both_are_read.1 (All-nil (λ (file : FileArg). Reads report.All file.kind)));
}

-- where `clap` does not accept the words there is none of them
no_word : (text : String Global) → HasNoWord (codes "last" ∷ codes "--feeders=0" ∷ []) (fault.Usage text)
unfolding tally_app clap_on_literals
no_word text = (ValueValidation, inl refl, tt)

-- ---- help and faults

-- words that ask for help or the version are answered with a text
help : (text : String Global) → Answers (codes "--help" ∷ []) (line.Help text) × Answers (codes "--version" ∷ []) (line.Help text) × Answers (codes "sa" ∷ codes "--help" ∷ []) (line.Help text)
unfolding tally_app clap_on_literals
help text = ((DisplayHelp, inl refl, inl refl), (DisplayVersion, inl refl, inr refl), (DisplayHelp, inl refl, inl refl))

-- no feeder is a mistake, and so is an unknown option
mistakes : (text : String Global) → Refuses (codes "last" ∷ codes "--feeders" ∷ codes "0" ∷ codes "f" ∷ []) (fault.Usage text) × Refuses (codes "sa" ∷ codes "--until=@5" ∷ []) (fault.Usage text)
unfolding tally_app clap_on_literals
mistakes text = (inl (ValueValidation, inl refl, not_shown), inl (UnknownArgument, inl refl, not_shown_either))
  where
    not_shown : ¬ ((ValueValidation ≡ DisplayHelp) ⊎ (ValueValidation ≡ DisplayVersion))
    not_shown (inl is) = cc
    not_shown (inr is) = cc

    not_shown_either : ¬ ((UnknownArgument ≡ DisplayHelp) ⊎ (UnknownArgument ≡ DisplayVersion))
    not_shown_either (inl is) = cc
    not_shown_either (inr is) = cc

-- words that are not sound are refused, too
unsound : (text : String Global) → Refuses (codes "ac" ∷ codes "--east=0" ∷ codes "--zone=UTC" ∷ []) (fault.Usage text)
unfolding tally_app clap_on_literals
unsound text = inr (refl, two_clocks)

-- a file of all needs a prefix
no_prefix : Refuses (codes "all" ∷ codes "x:f" ∷ []) (fault.Prefix 0)
unfolding tally_app clap_on_literals
no_prefix = (refl, refl, record { in_range = omega arith; bare = bare_word; earlier = All-nil HasPrefix })

-- ---- jobs that can be run

abbrev text_job : ℕ → ℕ → ℕ → ℤ → Job
text_job millions feeders askers offset = job_with report.All form.Text millions feeders askers offset

-- 16 millions, 64 feeders and 128 askers can be run
greatest : IsRunnable (text_job 16 64 128 (pos 1439))
greatest = record { offset = record { low = omega (arith, ints); high = omega (arith, ints) }; some_millions = omega arith; few_millions = omega arith; some_feeders = omega arith; few_feeders = omega arith; few_askers = omega arith; until = tt; form = refl }

-- and so can one million and one feeder
least : IsRunnable (text_job 1 1 0 (neg_ℤ (pos 1439)))
least = record { offset = record { low = omega (arith, ints); high = omega (arith, ints) }; some_millions = omega arith; few_millions = omega arith; some_feeders = omega arith; few_feeders = omega arith; few_askers = omega arith; until = tt; form = refl }

-- no records and no feeders are too few; 17 millions, 65 feeders, 129 askers and a day of offset are too many
out_of_range : (¬ IsRunnable (text_job 0 1 0 (pos 0))) × (¬ IsRunnable (text_job 17 1 0 (pos 0))) × (¬ IsRunnable (text_job 1 0 0 (pos 0))) × (¬ IsRunnable (text_job 1 65 0 (pos 0))) × (¬ IsRunnable (text_job 1 1 129 (pos 0))) × (¬ IsRunnable (text_job 1 1 0 (pos 1440)))
out_of_range = (λ is. omega (arith, is.some_millions), λ is. omega (arith, is.few_millions), λ is. omega (arith, is.some_feeders), λ is. omega (arith, is.few_feeders), λ is. omega (arith, is.few_askers), λ is. omega (arith, ints, is.offset.high))

-- a report of all is no table, and one without stays is counted to no moment
no_table : ¬ IsRunnable (record (text_job 1 1 0 (pos 0)) { form = form.Csv })
no_table is = table is.form
  where
    table : ¬ (form.Csv ≡ form.Text)
    table is_text = cc

abbrev until_job : Report → Job
until_job its_report = record (job_with its_report form.Text 1 1 0 (pos 0)) { until = Some (pos 5) }

-- no report without stays is counted to a moment
no_moment : (¬ IsRunnable (until_job (report.Attempts None every_login))) × (¬ IsRunnable (until_job (report.AttemptSums None every_login))) × (¬ IsRunnable (until_job (report.Commands Cpu false false))) × (¬ IsRunnable (until_job (report.Users Cpu false)))
no_moment = (λ is. given is.until, λ is. given is.until, λ is. given is.until, λ is. given is.until)
  where
    given : ¬ (Some (pos 5) ≡ None)
    given is = cc
