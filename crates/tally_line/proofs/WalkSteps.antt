-- What the walk over words keeps where they pass: each row has a value, and no word asks for help.
use Rattle.std.proofs.Common.{◌≡◌, ◌&&◌, Bool, cond, codes, true, false, not, length, refl, sym, true≢false, List, [], ◌∷◌, Option, Some, None, IfSome, fold, is_some}
use Rattle.std.specs.Prelude.{⊤}
use Rattle.std.specs.Option.{option_map_or}
use Rattle.std.specs.List.{list_all}
use Rattle.std.specs.Str.{bytes_eq}
use Rattle.clap.specs.Kinds.{Kinds, or_else}
use Rattle.clap.specs.Lexer.{long_of, short_of}
use Rattle.clap.specs.Simple.{Shape}
use Rattle.clap.specs.Faults.{bundle_fault, flag_word_fault, long_fault, option_fault, other_fault, positional_fault, react_fault, settle_fault, step_fault, stray_fault, turn_fault, walk_fault, word_fault}
use Rattle.clap.specs.Walk.{Held, Names, Outcome, Rule, Step, Text, Waiting, Walk, after_flag, after_step, arg_by_id, arg_by_index, arg_by_long, done, flag_met, idle, is_pending, long_met, long_or_other, next, option, option_met, option_word, plain, plain_word, positional, refused, settled, short_or_plain, subcommand, subcommand_met, subcommand_or_other, takes_several, takes_values, to_positional, trailing, value, waits, walked, walked_from, word_met}
use Rattle.clap.specs.declared.error.kind.ErrorKind.TheVariants.{TooManyValues}
use Rattle.tally_line.proofs.FilledRows.{AreFilled, IsPassed, both_pass, bundle_fills, fills, found_passes, option_fills, react_fills, settle_fills}

-- the step is to no subcommand for help
abbrev pub NoHelp : Step → Type 0
NoHelp (subcommand name) = bytes_eq name (codes "help") ≡ false
NoHelp step = ⊤

-- ---- a word that is no flag, or a flag

plain_keeps : (c : List Rule) (waiting : Waiting) (word : Text) (h : Held) → AreFilled h.rows → AreFilled (plain_word c waiting word h).0.rows
plain_keeps c idle word h filled = filled
plain_keeps c positional word h filled = filled
plain_keeps c (option id) word h filled = go (arg_by_id c id)
  where
    go : (o : Option Rule) → AreFilled (option_word o id word h).0.rows
    go None = filled
    go (Some a) = filled

plain_helps_not : (c : List Rule) (waiting : Waiting) (word : Text) (h : Held) → NoHelp (plain_word c waiting word h).1
plain_helps_not c idle word h = tt
plain_helps_not c positional word h = tt
plain_helps_not c (option id) word h = tt

flag_keeps : (c : List Rule) (waiting : Waiting) (word : Text) (h : Held) (o : Outcome) → AreFilled h.rows → AreFilled (after_flag c waiting word h o).0.rows
flag_keeps c waiting word h done filled = filled
flag_keeps c waiting word h (waits id) filled = filled
flag_keeps c waiting word h plain filled = plain_keeps c waiting word h filled
flag_keeps c waiting word h refused filled = plain_keeps c waiting word h filled

flag_helps_not : (c : List Rule) (waiting : Waiting) (word : Text) (h : Held) (o : Outcome) → NoHelp (after_flag c waiting word h o).1
flag_helps_not c waiting word h done = tt
flag_helps_not c waiting word h (waits id) = tt
flag_helps_not c waiting word h plain = plain_helps_not c waiting word h
flag_helps_not c waiting word h refused = plain_helps_not c waiting word h

-- ---- one word of a command

other_helps_not : (c : List Rule) (waiting : Waiting) (word : Text) (h : Held) → NoHelp (long_or_other c waiting word (long_of word) h).1
other_helps_not c waiting word h = go (long_of word)
  where
    short : (o : Option Text) → NoHelp (short_or_plain c waiting word o h).1
    short None = plain_helps_not c waiting word h
    short (Some flags) = flag_helps_not c waiting word _ _

    go : (o : Option (Text × Option Text)) → NoHelp (long_or_other c waiting word o h).1
    go None = short (short_of word)
    go (Some p) = flag_helps_not c waiting word _ _

word_helps_not : (s : Shape) (names : Names) (is_trailing : Bool) (waiting : Waiting) (position : _) (word : Text) (h : Held) → s.disable_help_subcommand ≡ false
    → IsPassed (word_fault s names is_trailing waiting word h) → NoHelp (word_met s.rules names is_trailing waiting position word h).1
word_helps_not s names is_trailing waiting position word h enabled = go is_trailing
  where
    named : (name : Text) (b disabled : Bool) → disabled ≡ false → b ≡ bytes_eq name (codes "help") → (k : Kinds) → (IsPassed k → ⊥)
        → IsPassed (cond (b && not disabled) k []) → bytes_eq name (codes "help") ≡ false
    named name true true off is k never passed = absurd (true≢false off)
    named name true false off is k never passed = absurd (never passed)
    named name false disabled off is k never passed = sym is

    dashes : (b : Bool) → NoHelp (cond b (h, trailing position) (long_or_other s.rules waiting word (long_of word) h)).1
    dashes true = tt
    dashes false = other_helps_not s.rules waiting word h

    met : (o : Option Text) → IsPassed (other_fault s o word h) → NoHelp (subcommand_or_other s.rules o waiting position word h).1
    met None passed = dashes (bytes_eq word (45 ∷ 45 ∷ []))
    met (Some name) passed = named name (bytes_eq name (codes "help")) s.disable_help_subcommand enabled refl _ (λ never. never) passed

    go : (b : Bool) → IsPassed (cond b [] (other_fault s (subcommand_met names waiting word) word h))
        → NoHelp (cond b (h, value) (subcommand_or_other s.rules (subcommand_met names waiting word) waiting position word h)).1
    go true passed = tt
    go false passed = met (subcommand_met names waiting word) passed

module _ (s : Shape) (names : Names) (all : list_all fills s.rules ≡ true) where
  long_keeps : (o : Option Rule) (v : Option Text) (h : Held) → IfSome o (λ a. fills a ≡ true) → IsPassed (long_fault s.rules s.args_override_self o v h) → AreFilled h.rows
      → AreFilled (long_met s.rules o v h).0.rows
  long_keeps None v h e passed filled = filled
  long_keeps (Some a) v h e passed filled = go (takes_values a) v passed
    where
      go : (b : Bool) (v : Option Text)
          → IsPassed (cond b (option_fault s.rules s.args_override_self a v h) (cond (is_some v) (TooManyValues ∷ []) (react_fault s.rules s.args_override_self a [] h)))
          → AreFilled (cond b (option_met s.rules a v h) (flag_met s.rules a v h)).0.rows
      go true v passed = option_fills s.rules s.args_override_self all a v h e passed filled
      go false None passed = react_fills s.rules s.args_override_self all a [] h e passed filled
      go false (Some x) passed = filled

  other_keeps : (waiting : Waiting) (word : Text) (h : Held) → IsPassed (flag_word_fault s.rules s.args_override_self (long_of word) word h) → AreFilled h.rows
      → AreFilled (long_or_other s.rules waiting word (long_of word) h).0.rows
  other_keeps waiting word h passed filled = go (long_of word) passed
    where
      short : (o : Option Text) → IsPassed (option_map_or (λ flags. bundle_fault s.rules s.args_override_self flags h) o [])
          → AreFilled (short_or_plain s.rules waiting word o h).0.rows
      short None passed = plain_keeps s.rules waiting word h filled
      short (Some flags) passed = flag_keeps s.rules waiting word _ _ (bundle_fills s.rules s.args_override_self all (length flags) flags h.skip plain (record h { skip = 0 }) passed filled)

      go : (o : Option (Text × Option Text)) → IsPassed (flag_word_fault s.rules s.args_override_self o word h) → AreFilled (long_or_other s.rules waiting word o h).0.rows
      go None passed = short (short_of word) passed
      go (Some p) passed = flag_keeps s.rules waiting word _ _ (long_keeps (arg_by_long s.rules p.0) p.1 h (found_passes _ fills s.rules all) passed filled)

  word_keeps : (is_trailing : Bool) (waiting : Waiting) (position : _) (word : Text) (h : Held) → IsPassed (word_fault s names is_trailing waiting word h) → AreFilled h.rows
      → AreFilled (word_met s.rules names is_trailing waiting position word h).0.rows
  word_keeps is_trailing waiting position word h passed filled = go is_trailing passed
    where
      dashes : (b : Bool) → IsPassed (cond b [] (flag_word_fault s.rules s.args_override_self (long_of word) word h))
          → AreFilled (cond b (h, trailing position) (long_or_other s.rules waiting word (long_of word) h)).0.rows
      dashes true passed = filled
      dashes false passed = other_keeps waiting word h passed filled

      met : (o : Option Text) → IsPassed (other_fault s o word h) → AreFilled (subcommand_or_other s.rules o waiting position word h).0.rows
      met None passed = dashes (bytes_eq word (45 ∷ 45 ∷ [])) passed
      met (Some name) passed = filled

      go : (b : Bool) → IsPassed (cond b [] (other_fault s (subcommand_met names waiting word) word h))
          → AreFilled (cond b (h, value) (subcommand_or_other s.rules (subcommand_met names waiting word) waiting position word h)).0.rows
      go true passed = filled
      go false passed = met (subcommand_met names waiting word) passed

  -- a value of a positional
  value_keeps : (o : Option Rule) (word : Text) (w : Walk) (h : Held) → IsPassed (option_map_or (λ a. positional_fault s.rules s.args_override_self a h) o (stray_fault s))
      → AreFilled h.rows → AreFilled (to_positional s.rules o word w h).held.rows
  value_keeps None word w h passed filled = filled
  value_keeps (Some a) word w h passed filled = go (is_pending a h.pending && takes_several a) passed
    where
      go : (b : Bool) → IsPassed (cond b [] (settle_fault s.rules s.args_override_self h)) → AreFilled (cond b h (settled s.rules h)).rows
      go true passed = filled
      go false passed = settle_fills s.rules s.args_override_self all h passed filled

  step_keeps : (word : Text) (w : Walk) (h : Held) (step : Step) → IsPassed (step_fault s w.position h step) → AreFilled h.rows → AreFilled (after_step s.rules word w h step).held.rows
  step_keeps word w h (next waiting) passed filled = filled
  step_keeps word w h (trailing position) passed filled = filled
  step_keeps word w h (subcommand name) passed filled = filled
  step_keeps word w h value passed filled = value_keeps (arg_by_index s.rules w.position) word w h passed filled

  turn_keeps : (w : Walk) (word : Text) → IsPassed (turn_fault s names w word) → AreFilled w.held.rows → AreFilled (walked s.rules names w word).held.rows
  unfolding walked
  turn_keeps w word = go w.stopped
    where
      go : (o : Option (Text × List Text))
          → IsPassed (cond (is_some o) [] (or_else (word_fault s names w.is_trailing w.waiting word w.held)
          (step_fault s w.position (word_met s.rules names w.is_trailing w.waiting w.position word w.held).0 (word_met s.rules names w.is_trailing w.waiting w.position word w.held).1)))
          → AreFilled w.held.rows → AreFilled (walked_from s.rules names o w word).held.rows
      go (Some p) passed filled = filled
      go None passed filled =
          let two = both_pass (word_fault s names w.is_trailing w.waiting word w.held) _ passed in
          step_keeps word w _ _ two.1 (word_keeps w.is_trailing w.waiting w.position word w.held two.0 filled)

  -- each row has a value after the words
  pub walk_keeps : (words : List Text) (w : Walk) → IsPassed (walk_fault s names w words) → AreFilled w.held.rows → AreFilled (fold (walked s.rules names) w words).held.rows
  unfolding walk_fault
  walk_keeps [] w passed filled = filled
  walk_keeps (word ∷ rest) w passed filled =
      let two = both_pass (turn_fault s names w word) _ passed in
      walk_keeps rest (walked s.rules names w word) two.1 (turn_keeps w word two.0 filled)

module _ (s : Shape) (names : Names) (enabled : s.disable_help_subcommand ≡ false) where
  -- the subcommand is not that for help
  abbrev HelpsNot : Option (Text × List Text) → Type 0
  HelpsNot o = IfSome o (λ p. bytes_eq p.0 (codes "help") ≡ false)

  step_helps_not : (word : Text) (w : Walk) (h : Held) (step : Step) → NoHelp step → HelpsNot w.stopped → HelpsNot (after_step s.rules word w h step).stopped
  step_helps_not word w h (next waiting) is so_far = so_far
  step_helps_not word w h (trailing position) is so_far = so_far
  step_helps_not word w h (subcommand name) is so_far = is
  step_helps_not word w h value is so_far = go (arg_by_index s.rules w.position)
    where
      go : (o : Option Rule) → HelpsNot (to_positional s.rules o word w h).stopped
      go None = so_far
      go (Some a) = tt

  turn_helps_not : (w : Walk) (word : Text) → IsPassed (turn_fault s names w word) → HelpsNot w.stopped → HelpsNot (walked s.rules names w word).stopped
  unfolding walked
  turn_helps_not w word passed so_far = go w.stopped passed so_far
    where
      go : (o : Option (Text × List Text))
          → IsPassed (cond (is_some o) [] (or_else (word_fault s names w.is_trailing w.waiting word w.held)
          (step_fault s w.position (word_met s.rules names w.is_trailing w.waiting w.position word w.held).0 (word_met s.rules names w.is_trailing w.waiting w.position word w.held).1)))
          → HelpsNot o → HelpsNot (walked_from s.rules names o w word).stopped
      go (Some p) passed is = is
      go None passed is =
          step_helps_not word w _ _ (word_helps_not s names w.is_trailing w.waiting w.position word w.held enabled
          (both_pass (word_fault s names w.is_trailing w.waiting word w.held) _ passed).0) so_far

  -- no subcommand for help was met after the words
  pub walk_helps_not : (words : List Text) (w : Walk) → IsPassed (walk_fault s names w words) → HelpsNot w.stopped → HelpsNot (fold (walked s.rules names) w words).stopped
  unfolding walk_fault
  walk_helps_not [] w passed is = is
  walk_helps_not (word ∷ rest) w passed is =
      let two = both_pass (turn_fault s names w word) _ passed in
      walk_helps_not rest (walked s.rules names w word) two.1 (turn_helps_not w word two.0 is)
