-- The words that options were given.
use Rattle.std.proofs.Common.{◌≡◌, ◌∙◌, ℕ, List, [], Option, None, Some, ap, sym, length}
use Rattle.std.specs.Prelude.{option_map, slice_get, unwrap_or}
use Rattle.std.specs.Borrow.{Bor}
use Rattle.std.proofs.lemmas.List.{length-map}
use Rattle.std.proofs.lemmas.Option.{slice_get-map}
use Rattle.clap.proofs.WalkLemmas.{raw_values-rows}
use Rattle.clap.specs.Walk.{texts}
use Rattle.clap.specs.Words.{Text, matched_of, raw_values, rows_of}
use Rattle.clap.specs.declared.parser.matches.Found.{Found}
use Rattle.tally_line.specs.Named.{words_of}

-- the words of an option are those that `get_raw` gives
pub no_words : (f : Found) (id : Text) → None ≡ option_map raw_values (matched_of f id) → words_of id (rows_of f) ≡ []
no_words f id none = ap (λ (o : Option (List Text)). unwrap_or o []) (sym (none ∙ raw_values-rows f id))

pub some_words : (f : Found) (id : Text) (words : List (Bor Text)) → Some (texts words) ≡ option_map raw_values (matched_of f id) → words_of id (rows_of f) ≡ texts words
some_words f id words some = ap (λ (o : Option (List Text)). unwrap_or o []) (sym (some ∙ raw_values-rows f id))

-- how many they are
pub count_is : (words : List Text) (borrowed : List (Bor Text)) → words ≡ texts borrowed → length borrowed ≡ length words
count_is words borrowed are = sym (ap (length {A = Text}) are ∙ length-map borrowed (λ s. s.now))

-- the word at a place
pub word_is : (words : List Text) (borrowed : List (Bor Text)) (at : ℕ) (found : Option (Bor Text)) → words ≡ texts borrowed → slice_get borrowed at ≡ found → option_map (λ (w : Bor Text). w.now) found ≡ slice_get words at
word_is words borrowed at found are is =
    ap (option_map (λ (w : Bor Text). w.now)) (sym is) ∙ sym (slice_get-map (λ w. w.now) borrowed at) ∙ ap (λ (ws : List Text). slice_get ws at) (sym are)
