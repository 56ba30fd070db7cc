-- Words and the files that they name.
use Rattle.std.proofs.Common.{◌≡◌, ◌∙◌, ◌<◌, ◌+◌, ℕ, List, [], ◌∷◌, ◌++◌, map, take, length, ap, ap₂, sym, subst, refl, arith}
use Rattle.std.specs.Prelude.{Option, None, Some, slice_index_or, string_bytes, unwrap_or}
use Rattle.std.specs.Borrow.{Bor}
use Rattle.std.specs.List.{All}
use Rattle.std.proofs.lemmas.List.{get_or-map, length-map, map-append, take-map, take_more}
use Rattle.std.proofs.lemmas.List.Elements.{All-cons, All-head, All-nil, All-push, All-tail}
use Rattle.clap.specs.Walk.{texts}
use Rattle.clap.specs.Words.{Text}
use Rattle.tally_records.specs.declared.batch.Kind.{Kind}
use Rattle.tally_line.specs.FileWords.{HasPrefix, IsFirstBare, NamesFiles, Reads, prefix_of, word_of}
use Rattle.tally_line.specs.declared.line.FileArg.{FileArg}
use Rattle.tally_line.specs.declared.line.LineFault.{LineFault}
use Rattle.tally_line.specs.declared.line.LineFault.TheVariants as fault
use Rattle.tally_line.specs.inside.LineSteps.{IsFileFault, IsWordFault}
use Rattle.tally_line.specs.declared.job.Report.{Report}
use Rattle.tally_line.specs.declared.job.Report.TheVariants as report

-- the words of files
abbrev pub words_of : Report → List FileArg → List Text
words_of r = map (λ file. word_of r file.kind (string_bytes file.path))

-- a path after the prefix of its kind
prefixed : (kind : Kind) (path : Text) → Reads report.All kind → HasPrefix (word_of report.All kind path)
prefixed kind path reads = go (prefix_of kind) refl
  where
    go : (prefix : Option Text) → prefix_of kind ≡ prefix → HasPrefix (word_of report.All kind path)
    go None is = absurd (reads is)
    go (Some prefix) is = (kind, prefix, path, is, ap (λ p. unwrap_or p [] ++ path) is)

-- words that name files to all reports have prefixes
pub prefixes : (files : List FileArg) → All (λ file. Reads report.All file.kind) files → All HasPrefix (words_of report.All files)
prefixes [] kinds = All-nil HasPrefix
prefixes (file ∷ files) kinds = All-cons HasPrefix _ _ (prefixed file.kind (string_bytes file.path) (All-head (λ f. Reads report.All f.kind) file files kinds)) (prefixes files (All-tail (λ f. Reads report.All f.kind) file files kinds))

-- one more word and its file
pub names_more : (r : Report) (words : List (Bor Text)) (i : ℕ) (d : Bor Text) (files : List FileArg) (file : FileArg)
    → i < length words → (slice_index_or words i d).now ≡ word_of r file.kind (string_bytes file.path) → Reads r file.kind
    → NamesFiles r (texts (take i words)) files → NamesFiles r (texts (take (i + 1) words)) (files ++ file ∷ [])
names_more r words i d files file lt named kind names = record {
  each_word = ap texts (take_more words i d lt)
      ∙ map-append (λ s. s.now) (take i words) (slice_index_or words i d ∷ [])
      ∙ ap₂ (λ (xs : List Text) (y : Text). xs ++ y ∷ []) names.each_word named
      ∙ sym (map-append (λ f. word_of r f.kind (string_bytes f.path)) files (file ∷ []));
  each_kind = All-push (λ f. Reads r f.kind) files file names.each_kind kind;
}

-- the first word that names no file to all reports
pub first_bare : (r : Report) (words : List (Bor Text)) (i : ℕ) (d : Bor Text) (files : List FileArg)
    → i < length words → r ≡ report.All → ¬ HasPrefix (slice_index_or words i d).now
    → NamesFiles r (texts (take i words)) files → IsFirstBare (texts words) i
first_bare r words i d files lt all bare names =
    let at : slice_index_or (texts words) i [] ≡ (slice_index_or words i d).now = get_or-map (λ s. s.now) words i d [] lt in
    let front : take i (texts words) ≡ words_of report.All files =
    take-map (λ s. s.now) i words ∙ names.each_word ∙ ap (λ k. words_of k files) all in
    record {
      in_range = omega (arith, length-map words (λ s. s.now));
      bare = λ has. bare (subst HasPrefix at has);
      earlier = subst (All HasPrefix) (sym front) (prefixes files (subst (λ x. All (λ file. Reads x file.kind) files) all names.each_kind));
    }

-- the fault of a word is that of the words, where those before it name files
pub word_fault : (r : Report) (words : List (Bor Text)) (i : ℕ) (d : Bor Text) (files : List FileArg) (f : LineFault)
    → i < length words → NamesFiles r (texts (take i words)) files → IsWordFault r i (slice_index_or words i d).now f → IsFileFault r (texts words) f
word_fault r words i d files fault.Memory lt names is = tt
word_fault r words i d files (fault.Usage text) lt names is = absurd is
word_fault r words i d files (fault.Prefix at) lt names is = (is.1, subst (IsFirstBare (texts words)) (sym is.0) (first_bare r words i d files lt is.1 is.2 names))
