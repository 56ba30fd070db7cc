-- Matches and the answers to them.
use Rattle.std.proofs.Common.{◌≡◌, ◌∙◌, ◌<◌, ◌⊎◌, inl, inr, ◌≤◌, true, ℕ, List, [], Option, Some, None, Result, Err, ap, sym, subst, refl, length, arith, IfOk, IfErr}
use Rattle.std.specs.Prelude.{Box, String, option_map, unwrap_or, codes, slice_get, slice_index_or}
use Rattle.std.specs.Borrow.{Bor}
use Rattle.std.specs.Box.{box_value}
use Rattle.std.proofs.lemmas.List.{length-map}
use Rattle.std.proofs.lemmas.List.Elements.{All-nil}
use Rattle.std.proofs.lemmas.Option.{slice_get-map, unwrap_or-slice_get}
use Rattle.std.proofs.lemmas.Result.{IfErr-weaker, IfOk-weaker}
use Rattle.clap.specs.Walk.{texts}
use Rattle.clap.specs.Words.{App, HasKind, HasMatchesOf, IsAmong, Row, Text, app_of, fault_of, is_simple, is_simple_and_free, kind_of, one_of, one_text, matched_of, raw_values, rows_of, subcommand_of, subcommand_rows, subcommand_rows_of}
use Rattle.clap.specs.declared.builder.command.Command.{Command}
use Rattle.clap.specs.declared.error.Error.{Error}
use Rattle.clap.specs.declared.error.kind.ErrorKind.TheVariants.{OutOfMemory}
use Rattle.clap.specs.declared.parser.matches.ArgMatches.{ArgMatches}
use Rattle.clap.specs.declared.parser.matches.ArgMatches.TheViews.{out-SubCommand}
use Rattle.clap.specs.declared.parser.matches.Found.{Found}
use Rattle.clap.specs.declared.parser.matches.SubCommand.{SubCommand}
use Rattle.clap.proofs.WalkLemmas.{one_text-rows, raw_values-rows}
use Rattle.tally_line.proofs.Accepted.{accepted_are_complete}
use Rattle.tally_line.specs.Apart.{IsFilesAsked}
use Rattle.tally_line.specs.CommandLine.{tally_app}
use Rattle.tally_line.specs.FileWords.{IsFirstBare, NamesFiles, Reads}
use Rattle.tally_line.specs.Lines.{Answers, AreAccepted, AsksFor, HasNoWord, AreSound, AsksForm, IsCheckOf, IsRunOf, Refuses, file_words, met_in, name_of, rows_met, words_in}
use Rattle.tally_line.specs.inside.LineSteps.{IsComplete, IsFaultFor, IsHelpFor, IsFaultOf, IsFileFault, IsLineOf, IsMemoryOrUsage}
use Rattle.tally_line.specs.Jobs.{IsRunnable, TakesUntil}
use Rattle.tally_line.specs.Times.{times_in}
use Rattle.tally_line.specs.UsageWords.{IsUsageAsked}
use Rattle.tally_line.specs.declared.line.UsageAsked.{UsageAsked}
use Rattle.tally_line.specs.Zones.{IsZoneOf}
use Rattle.std.specs.declared.alloc.Global.{Global}
use Rattle.tally_line.specs.Options.{SetsJob}
use Rattle.tally_line.specs.declared.line.FileArg.{FileArg}
use Rattle.tally_line.specs.declared.line.FilesAsked.{FilesAsked}
use Rattle.tally_line.specs.declared.job.Job.{Job}
use Rattle.tally_line.specs.declared.job.Report.{Report}
use Rattle.tally_line.specs.declared.job.Report.TheVariants as report
use Rattle.tally_line.specs.declared.line.Line.{Line}
use Rattle.tally_line.specs.declared.line.Line.TheVariants as line
use Rattle.tally_line.specs.declared.line.LineFault.{LineFault}
use Rattle.tally_line.specs.declared.line.LineFault.TheVariants as fault
use Rattle.tally_line.specs.declared.times.Times.{Times}

-- ---- the matches of a subcommand

-- those of a subcommand are its name and its rows
pub met_of : (o : Option (Box SubCommand Global)) (name : Text) (rows : List Row) → Some name ≡ option_map (λ (b : Box SubCommand Global). (out-SubCommand (box_value b)).name.now) o
    → Some rows ≡ option_map (λ (p : Text × List Row). p.1) (subcommand_rows o) → subcommand_rows o ≡ Some (name, rows)
met_of None name rows named is = cc
met_of (Some b) name rows named is = cc

-- the file words are those that `get_raw` gives
pub no_file_words : (f : Found) → None ≡ option_map raw_values (matched_of f (codes "file")) → words_in (rows_of f) ≡ []
no_file_words f none = ap (λ (o : Option (List Text)). unwrap_or o []) (sym (none ∙ raw_values-rows f (codes "file")))

pub some_file_words : (f : Found) (words : List (Bor Text)) → Some (texts words) ≡ option_map raw_values (matched_of f (codes "file"))
    → words_in (rows_of f) ≡ texts words
some_file_words f words some = ap (λ (o : Option (List Text)). unwrap_or o []) (sym (some ∙ raw_values-rows f (codes "file")))

-- what a flag says stands in the rows
pub flag_in_rows : (f : Found) (id : Text) (t : Option Text) → one_of id (rows_of f) ≡ t → one_text f id ≡ t
flag_in_rows f id t is = one_text-rows f id ∙ is

-- no word stands at any place of none
pub no_word : (words : List Text) (i : ℕ) → words ≡ [] → [] ≡ slice_index_or words i []
no_word words i none = ap (λ (ws : List Text). slice_index_or ws i []) (sym none)

-- the word at a place, or none where that is past the last
pub word_found : (words : List Text) (borrowed : List (Bor Text)) (i : ℕ) (found : Option (Bor Text)) → words ≡ texts borrowed
    → slice_get borrowed i ≡ found → unwrap_or (option_map (λ b. b.now) found) [] ≡ slice_index_or words i []
word_found words borrowed i found are at =
    ap (λ (o : Option (Bor Text)). unwrap_or (option_map (λ b. b.now) o) []) (sym at)
    ∙ ap (λ (o : Option Text). unwrap_or o []) (sym (slice_get-map (λ b. b.now) borrowed i))
    ∙ ap (λ (ws : List Text). unwrap_or (slice_get ws i) []) (sym are)
    ∙ unwrap_or-slice_get words i []

-- where there are no file words, these name no files
pub no_files : (r : Report) (f : Found) (files : List FileArg) → None ≡ option_map raw_values (matched_of f (codes "file")) → files ≡ [] → NamesFiles r (words_in (rows_of f)) files
no_files r f files none empty = rw (no_file_words f none, empty) (record { each_word = refl; each_kind = All-nil (λ (file : FileArg). Reads r file.kind) })

-- ---- the answers of one subcommand

pub file_fault : (name : Text) (rows : List Row) (r : Report) (f : LineFault) → name ≡ name_of r
    → IsFileFault r (words_in rows) f → IsFaultOf (Some (name, rows)) f
file_fault name rows r fault.Memory named h = tt
file_fault name rows r (fault.Usage text) named h = absurd h
file_fault name rows r (fault.Prefix index) named h = (ap Some (named ∙ ap name_of h.0), h.1)

-- a report of all has a file where its words have one
some_file_named : (name : Text) (rows : List Row) (r : Report) (files : List FileArg) → name ≡ name_of r → (AsksFor report.All (Some (name, rows)) → 0 < length (words_in rows))
    → NamesFiles r (words_in rows) files → r ≡ report.All → 0 < length files
some_file_named name rows r files named some names all =
    omega (arith, some (ap Some (named ∙ ap name_of all)), length-map {A = FileArg} {B = Text}, ap length names.each_word)

pub run_found : (name : Text) (rows : List Row) (r : Report) (job : Job) (times : Times) (usage : UsageAsked) (apart : FilesAsked) (zone : Option (String Global)) (files : List FileArg) → name ≡ name_of r
    → (AsksFor report.All (Some (name, rows)) → 0 < length (words_in rows)) → job.report ≡ r → IsRunnable job → job.askers ≤ 64 → (job.askers ≡ 0) ⊎ (r ≡ report.All)
    → AsksForm r rows job.form → SetsJob rows job → times ≡ times_in r rows → TakesUntil r times.until → IsUsageAsked rows usage → IsFilesAsked rows apart → IsZoneOf rows zone → AreSound rows → NamesFiles r (words_in rows) files
    → IsRunOf (Some (name, rows)) job times usage apart zone files
run_found name rows r job times usage apart word files named some is runnable few asked form options moments until usage_words told_apart zone_word sound names = record {
  named = ap Some (named ∙ ap name_of (sym is));
  runnable = runnable;
  form = rw is form;
  few_askers = few;
  all_is_asked = rw is asked;
  options = options;
  moments = rw is moments;
  until = rw is until;
  usage_words = usage_words;
  told_apart = told_apart;
  zone_word = zone_word;
  sound = sound;
  some_file = λ all. some_file_named name rows r files named some names (sym is ∙ all);
  names_files = rw is names;
}

-- ---- the answers to words

tally_is_simple : is_simple tally_app ≡ true
unfolding tally_app
tally_is_simple = refl

tally_is_free : is_simple_and_free tally_app ≡ true
unfolding tally_app
tally_is_free = refl

module _ (words : List Text) (command : Command) (is : app_of command ≡ tally_app) where
  -- what a parse found is what `clap` finds in the words
  met_in_words : (m : ArgMatches) → HasMatchesOf (app_of command) words m → subcommand_rows_of m ≡ met_in words
  met_in_words m has = (has (ap is_simple is ∙ tally_is_simple)).1 ∙ ap (λ (a : App). subcommand_of a words) is

  -- the word at a place among the files
  pub word_in : (m : ArgMatches) (i : ℕ) (word : Text) → HasMatchesOf (app_of command) words m
      → word ≡ slice_index_or (file_words (subcommand_rows_of m)) i [] → word ≡ slice_index_or (file_words (met_in words)) i []
  word_in m i word has at = at ∙ ap (λ met. slice_index_or (file_words met) i []) (met_in_words m has)

  accepted : (is_simple_and_free (app_of command) ≡ true → fault_of (app_of command) words ≡ []) → AreAccepted words
  accepted taken = ap (λ (a : App). fault_of a words) (sym is) ∙ taken (ap is_simple_and_free is ∙ tally_is_free)

  -- what a parse found names a report or `check`, and a file where one is wanted
  pub complete_matches : (m : ArgMatches) → HasMatchesOf (app_of command) words m
      → (is_simple_and_free (app_of command) ≡ true → fault_of (app_of command) words ≡ []) → IsComplete (subcommand_rows_of m)
  complete_matches m has taken = subst IsComplete (sym (met_in_words m has)) (accepted_are_complete words (accepted taken))

  pub answers : (m : ArgMatches) (l : Line) → HasMatchesOf (app_of command) words m
      → (is_simple_and_free (app_of command) ≡ true → fault_of (app_of command) words ≡ [])
      → IsLineOf (subcommand_rows_of m) l → Answers words l
  answers m (line.Run job times usage apart zone files) has taken found = (accepted taken, subst (λ met. IsRunOf met job times usage apart zone files.items) (met_in_words m has) found)
  answers m (line.Check check) has taken found = (accepted taken, subst (λ met. IsCheckOf met check) (met_in_words m has) found)
  answers m (line.Help text) has taken found = absurd found

  pub refuses : (m : ArgMatches) (f : LineFault) → HasMatchesOf (app_of command) words m
      → (is_simple_and_free (app_of command) ≡ true → fault_of (app_of command) words ≡ [])
      → IsFaultOf (subcommand_rows_of m) f → Refuses words f
  refuses m fault.Memory has taken found = tt
  refuses m (fault.Usage text) has taken found = inr (accepted taken, subst (λ met. ¬ AreSound (rows_met met)) (met_in_words m has) found)
  refuses m (fault.Prefix index) has taken found =
      let all = subst (λ met. AsksFor report.All met × IsFirstBare (file_words met) index) (met_in_words m has) found in (accepted taken, all.0, all.1)

  -- the error is one that the words may end with, if memory did not run out
  among : (e : Error) → (is_simple_and_free (app_of command) ≡ true → HasKind (fault_of (app_of command) words) e)
      → (kind_of e ≡ OutOfMemory) ⊎ IsAmong (kind_of e) (fault_of tally_app words)
  among e kinds = elim (kinds (ap is_simple_and_free is ∙ tally_is_free)) [
    | inl out ↦ inl out
    | inr one ↦ inr (subst (IsAmong (kind_of e)) (ap (λ (a : App). fault_of a words) is) one)
  ]

  as_help : (e : Error) (l : Line) → IsAmong (kind_of e) (fault_of tally_app words) → IsHelpFor (kind_of e) l → Answers words l
  as_help e (line.Run job times usage apart _ files) one h = absurd h
  as_help e (line.Check check) one h = absurd h
  as_help e (line.Help text) one h = (kind_of e, one, h)

  as_fault : (e : Error) (f : LineFault) → IsAmong (kind_of e) (fault_of tally_app words) → IsFaultFor (kind_of e) f → Refuses words f
  as_fault e fault.Memory one h = tt
  as_fault e (fault.Usage text) one h = inl (kind_of e, one, h)
  as_fault e (fault.Prefix index) one h = absurd h

  -- what holds where memory ran out, and where the words end with the error, holds of the answer to the error
  of_error : {A : Type 0} (P : A → Type 0) (e : Error) (out answer : A) → (is_simple_and_free (app_of command) ≡ true → HasKind (fault_of (app_of command) words) e)
      → (kind_of e ≡ OutOfMemory → answer ≡ out) → P out → (IsAmong (kind_of e) (fault_of tally_app words) → P answer) → P answer
  of_error P e out answer kinds memory at_out at_end = elim (among e kinds) [
    | inl ran ↦ subst P (sym (memory ran)) at_out
    | inr one ↦ at_end one
  ]

  pub refused_answers : (e : Error) (r : Result Line LineFault)
      → (is_simple_and_free (app_of command) ≡ true → HasKind (fault_of (app_of command) words) e)
      → (kind_of e ≡ OutOfMemory → r ≡ Err fault.Memory) → IfOk r (IsHelpFor (kind_of e)) → IfOk r (Answers words)
  refused_answers e r kinds memory help = of_error (λ (x : Result Line LineFault). IfOk x (Answers words)) e (Err fault.Memory) r kinds memory tt
      (λ one. IfOk-weaker r (IsHelpFor (kind_of e)) (Answers words) (λ l. as_help e l one) help)

  pub refused_refuses : (e : Error) (r : Result Line LineFault)
      → (is_simple_and_free (app_of command) ≡ true → HasKind (fault_of (app_of command) words) e)
      → (kind_of e ≡ OutOfMemory → r ≡ Err fault.Memory) → IfErr r (IsFaultFor (kind_of e)) → IfErr r (Refuses words)
  refused_refuses e r kinds memory caused = of_error (λ (x : Result Line LineFault). IfErr x (Refuses words)) e (Err fault.Memory) r kinds memory tt
      (λ one. IfErr-weaker r (IsFaultFor (kind_of e)) (Refuses words) (λ f. as_fault e f one) caused)

  -- the fault of words that `clap` does not accept, where one of their words is asked for
  pub no_word_here : (e : Error) (f : LineFault) → (is_simple_and_free (app_of command) ≡ true → HasKind (fault_of (app_of command) words) e)
      → (kind_of e ≡ OutOfMemory → f ≡ fault.Memory) → IsMemoryOrUsage f → HasNoWord words f
  no_word_here e fault.Memory kinds memory h = tt
  no_word_here e (fault.Usage text) kinds memory h = of_error (HasNoWord words) e fault.Memory (fault.Usage text) kinds memory tt (λ one. (kind_of e, one, tt))
  no_word_here e (fault.Prefix index) kinds memory h = absurd h
