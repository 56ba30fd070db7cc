-- Words that `clap` accepts name a report or `check`, and a file where one is wanted.
use Rattle.std.proofs.Common.{◌≡◌, ◌∙◌, ◌<◌, ◌&&◌, ◌||◌, ◌⊎◌, inl, inr, ⊎_elim, Bool, cond, codes, true, false, not, ap, refl, sym, subst, true≢false, List, [], ◌∷◌, length, Option, Some, None, IfSome, is_some, find, option_map, unwrap_or}
use Rattle.std.specs.Option.{option_map_or}
use Rattle.std.specs.List.{list_all, list_any}
use Rattle.std.specs.Str.{bytes_eq}
use Rattle.std.proofs.lemmas.Option.{same_Some}
use Rattle.std.proofs.lemmas.Slice.Eq.{bytes_eq-Decides}
use Rattle.clap.specs.Facts.{explicit_source}
use Rattle.clap.specs.Kinds.{check_kinds}
use Rattle.clap.specs.Simple.{App, Shape, argument_words, built, entered, label_of, names_of, rows_at}
use Rattle.clap.specs.Takes.{is_given}
use Rattle.clap.specs.Faults.{built_fault, defaults_fault, entered_fault, level_fault, settle_fault, walk_fault}
use Rattle.clap.specs.Walk.{Row, Rule, Text, answers_to, is_empty, nothing_held, rows_after, walk, walk_from}
use Rattle.clap.proofs.SimpleLemmas.{is_false, is_nil}
use Rattle.clap.proofs.WalkLemmas.{both}
use Rattle.tally_records.specs.Choice.{every_login}
use Rattle.tally_usage.specs.declared.order.Order.TheVariants.{Cpu}
use Rattle.tally_line.specs.CommandLine.{tally_app}
use Rattle.tally_line.specs.Lines.{AreAccepted, met_in, name_of, words_in}
use Rattle.tally_line.specs.inside.LineSteps.{IsComplete}
use Rattle.tally_line.specs.declared.job.Report.{Report}
use Rattle.tally_line.specs.declared.job.Report.TheVariants as report
use Rattle.tally_line.proofs.FilledRows.{AreFilled, IsPassed, both_pass, defaults_fill, fills, found_passes, settle_fills}
use Rattle.tally_line.proofs.WalkSteps.{walk_helps_not, walk_keeps}

-- ---- tests

either : (a b : Bool) → (a || b) ≡ true → (a ≡ true) ⊎ (b ≡ true)
either true b e = inl refl
either false b e = inr e

neither : (a b : Bool) → (a || b) ≡ false → (a ≡ false) × (b ≡ false)
neither true b e = absurd (true≢false e)
neither false b e = (refl, e)

not_first : (a b : Bool) → (a || b) ≡ true → a ≡ false → b ≡ true
not_first true b e f = absurd (true≢false f)
not_first false b e f = e

same_text : (xs ys : Text) → bytes_eq xs ys ≡ true → xs ≡ ys
same_text xs ys e = (bytes_eq-Decides xs ys).0 e

-- what a search finds meets its test
found_meets : {X : Type 0} (test : X → Bool) (xs : List X) → IfSome (find test xs) (λ x. test x ≡ true)
found_meets test [] = tt
found_meets test (x ∷ xs) = go (found_meets test xs) (test x) refl
  where
    go : IfSome (find test xs) (λ y. test y ≡ true) → (b : Bool) → test x ≡ b → IfSome (cond b (Some x) (find test xs)) (λ y. test y ≡ true)
    go rest true is = is
    go rest false is = rest

-- ---- the file words of a subcommand

found_filled : (test : Row → Bool) (rows : List Row) → AreFilled rows → IfSome (find test rows) (λ r. 0 < length r.values)
found_filled test [] filled = tt
found_filled test (r ∷ rs) filled = go (found_filled test rs filled.1) (test r)
  where
    go : IfSome (find test rs) (λ x. 0 < length x.values) → (b : Bool) → IfSome (cond b (Some r) (find test rs)) (λ x. 0 < length x.values)
    go rest true = filled.0
    go rest false = rest

some_words : (rows : List Row) → AreFilled rows → is_given (codes "file") rows ≡ true → 0 < length (words_in rows)
some_words rows filled = go (find (λ r. bytes_eq r.id (codes "file")) rows) (found_filled _ rows filled)
  where
    go : (o : Option Row) → IfSome o (λ r. 0 < length r.values) → option_map_or (λ (r : Row). explicit_source r.source) o false ≡ true
        → 0 < length (unwrap_or (option_map (λ (r : Row). r.values) o) [])
    go None some given = absurd (true≢false (sym given))
    go (Some r) some given = some

-- files are given where they are required and nothing that is required is left out
files_given : (rows : List Row) (rules : List Rule) → list_any (λ a. a.required && bytes_eq a.id (codes "file")) rules ≡ true
    → list_any (λ a. a.required && not (is_given a.id rows)) rules ≡ false → is_given (codes "file") rows ≡ true
files_given rows [] some none = absurd (true≢false (sym some))
files_given rows (a ∷ rest) some none = ⊎_elim here (λ later. files_given rows rest later (neither _ _ none).1) (either _ _ some)
  where
    given : (required is : Bool) → required ≡ true → (required && not is) ≡ false → is ≡ true
    given true true e f = refl
    given true false e f = absurd (true≢false f)
    given false is e f = absurd (true≢false (sym e))

    here : (a.required && bytes_eq a.id (codes "file")) ≡ true → is_given (codes "file") rows ≡ true
    here e = subst (λ id. is_given id rows ≡ true) (same_text a.id (codes "file") (both a.required _ e).1)
        (given a.required (is_given a.id rows) (both a.required _ e).0 (neither (a.required && not (is_given a.id rows)) _ none).0)

-- what the last checks asked for, where they pass
checked : (help subcommand argument : Bool) → IsPassed (check_kinds help subcommand argument) → (subcommand ≡ false) × (argument ≡ false)
checked true subcommand argument passed = absurd passed
checked false true argument passed = absurd passed
checked false false true passed = absurd passed
checked false false false passed = (refl, refl)

-- ---- the subcommand that is met

-- a subcommand that wants files
abbrev wants_files : Shape → Bool
wants_files s = not s.subcommand_negates_reqs && (list_all fills s.rules && list_any (λ a. a.required && bytes_eq a.id (codes "file")) s.rules)

abbrev names_report : Text → Bool
names_report name = bytes_eq name (codes "last") || (bytes_eq name (codes "lastb") || (bytes_eq name (codes "ac") || (bytes_eq name (codes "sa") || bytes_eq name (codes "all"))))

abbrev is_without_file : Text → Bool
is_without_file name = bytes_eq name (codes "all") || bytes_eq name (codes "check")

-- a subcommand without other names: that for help, or a report's or `check`, which wants files where it has none by itself
abbrev is_known : Shape → Bool
is_known s = is_empty s.aliases && (bytes_eq s.name (codes "help") || ((names_report s.name || bytes_eq s.name (codes "check")) && (not (is_without_file s.name) || wants_files s)))

named_report : (name : Text) → names_report name ≡ true → (r : Report) × (name ≡ name_of r)
named_report name e = elim (either (bytes_eq name (codes "last")) _ e) [
  | inl is ↦ (report.Last None every_login false, same_text name (codes "last") is)
  | inr later ↦ elim (either (bytes_eq name (codes "lastb")) _ later) [
    | inl is ↦ (report.Attempts None every_login, same_text name (codes "lastb") is)
    | inr others ↦ elim (either (bytes_eq name (codes "ac")) _ others) [
      | inl is ↦ (report.Connect false false every_login, same_text name (codes "ac") is)
      | inr rest ↦ elim (either (bytes_eq name (codes "sa")) _ rest) [
        | inl is ↦ (report.Users Cpu false, same_text name (codes "sa") is)
        | inr is ↦ (report.All, same_text name (codes "all") is)
      ]
    ]
  ]
]

-- files are named where the words of a subcommand that wants them pass
files_named : (s : Shape) (words : List Text) → wants_files s ≡ true → IsPassed (level_fault s [] nothing_held words false [])
    → 0 < length (words_in (rows_after s.rules [] words))
files_named s words wants passed =
    let again = s.args_override_self in
    let end = (walk s.rules [] nothing_held words).held in
    let rows = rows_after s.rules [] words in
    let two = both (not s.subcommand_negates_reqs) _ wants in
    let own = both (list_all fills s.rules) _ two.1 in
    let walked = both_pass (walk_fault s [] (walk_from nothing_held) words) _ passed in
    let settled = both_pass (settle_fault s.rules again end) _ walked.1 in
    let defaults = both_pass (defaults_fault _ s.rules) _ settled.1 in
    let filled = defaults_fill s.rules _ (settle_fills s.rules again own.0 end settled.0 (walk_keeps s [] own.0 words (walk_from nothing_held) walked.0 tt)) in
    some_words rows filled (files_given rows s.rules own.1 (plain _ _ (is_false _ two.0) (checked _ _ _ defaults.1).1))
  where
    plain : (negates missing : Bool) → negates ≡ false → (not (negates && false) && missing) ≡ false → missing ≡ false
    plain true missing e f = absurd (true≢false e)
    plain false missing e f = f

-- a report's subcommand is met, since that for help is not
complete_here : (s : Shape) (name : Text) (words : List Text) → is_known s ≡ true → answers_to name (label_of s) ≡ true → bytes_eq name (codes "help") ≡ false
    → IsPassed (level_fault s [] nothing_held words false []) → IsComplete (Some (rows_at s words))
complete_here s name words known answers other passed =
    let two = both (is_empty s.aliases) _ known in
    let bare : bytes_eq s.name name ≡ true = ⊎_elim (λ is. is) (λ alias. absurd (no_alias s.aliases (is_nil s.aliases two.0) alias)) (either (bytes_eq s.name name) _ answers) in
    let helps_not = subst (λ n. bytes_eq n (codes "help") ≡ false) (sym (same_text s.name name bare)) other in
    let own = both (names_report s.name || bytes_eq s.name (codes "check")) _ (not_first _ _ two.1 helps_not) in
    record {
      named = elim (either (names_report s.name) _ own.0) [
        | inl report ↦ let r = named_report s.name report in inl (r.0, ap Some r.1)
        | inr is ↦ inr (ap Some (same_text s.name (codes "check") is))
      ];
      file = λ wants. files_named s words (not_first _ _ own.1 (elim wants [
        | inl asks ↦ is_all s.name (same_Some _ _ asks)
        | inr asks ↦ is_check s.name (same_Some _ _ asks)
      ])) passed;
    }
  where
    is_all : (name : Text) → name ≡ codes "all" → not (is_without_file name) ≡ false
    is_all name is = rw is refl

    is_check : (name : Text) → name ≡ codes "check" → not (is_without_file name) ≡ false
    is_check name is = rw is refl

    no_alias : (aliases : List Text) → aliases ≡ [] → list_any (λ alias. bytes_eq alias name) aliases ≡ true → ⊥
    no_alias aliases none e = true≢false (sym (subst (λ (xs : List Text). list_any (λ alias. bytes_eq alias name) xs ≡ true) none e))

module _ (a : App) (required : a.top.subcommand_required ≡ true) (enabled : a.top.disable_help_subcommand ≡ false) (known : list_all is_known a.subs ≡ true) where
  absent : (not false && a.top.subcommand_required) ≡ false → ⊥
  absent e = true≢false (sym required ∙ e)

  found : (name : Text) (words : List Text) (o : Option Shape) → IfSome o (λ s. is_known s ≡ true) → IfSome o (λ s. answers_to name (label_of s) ≡ true)
      → bytes_eq name (codes "help") ≡ false → IsPassed (option_map_or (λ s. level_fault s [] nothing_held words false []) o [])
      → (not (is_some (option_map (λ s. rows_at s words) o)) && a.top.subcommand_required) ≡ false
      → IsComplete (option_map (λ s. rows_at s words) o)
  found name words None is answers other passed wanted = absurd (absent wanted)
  found name words (Some s) is answers other passed wanted = complete_here s name words is answers other passed

  stopped : (stop : Option (Text × List Text)) → IfSome stop (λ p. bytes_eq p.0 (codes "help") ≡ false) → IsPassed (entered_fault a stop)
      → (not (is_some (entered a stop)) && a.top.subcommand_required) ≡ false → IsComplete (entered a stop)
  stopped None other passed wanted = absurd (absent wanted)
  stopped (Some p) other passed wanted =
      found p.0 p.1 (find (λ s. answers_to p.0 (label_of s)) a.subs) (found_passes _ is_known a.subs known) (found_meets _ a.subs) other passed wanted

  complete : (words : List Text) → IsPassed (built_fault a nothing_held words) → IsComplete (entered a (walk a.top.rules (names_of a) nothing_held words).stopped)
  complete words passed =
      let names = names_of a in
      let stop = (walk a.top.rules names nothing_held words).stopped in
      let end = (walk a.top.rules names nothing_held words).held in
      let walked = both_pass (walk_fault a.top names (walk_from nothing_held) words) _ passed in
      let below = both_pass (entered_fault a stop) _ walked.1 in
      let settled = both_pass (settle_fault a.top.rules a.top.args_override_self end) _ below.1 in
      let defaults = both_pass (defaults_fault _ a.top.rules) _ settled.1 in
      stopped stop (walk_helps_not a.top names enabled words (walk_from nothing_held) walked.0 tt) below.0 (checked _ _ _ defaults.1).0

-- ---- the command line of the program

wants_a_report : (built tally_app).top.subcommand_required ≡ true
unfolding tally_app
wants_a_report = refl

has_help : (built tally_app).top.disable_help_subcommand ≡ false
unfolding tally_app
has_help = refl

knows_its_reports : list_all is_known (built tally_app).subs ≡ true
unfolding tally_app
knows_its_reports = refl

pub accepted_are_complete : (words : List Text) → AreAccepted words → IsComplete (met_in words)
accepted_are_complete words accepted =
    complete (built tally_app) wants_a_report has_help knows_its_reports (argument_words tally_app words) (subst IsPassed (sym accepted) tt)
