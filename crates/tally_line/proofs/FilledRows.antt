-- What a use of an argument leaves in the rows: where the words pass, each row has a value.
use Rattle.std.proofs.Common.{◌≡◌, ◌<◌, ◌&&◌, ◌||◌, ◌⊎◌, inl, inr, ℕ, Bool, cond, true, false, not, zero, suc, sym, true≢false, arith, List, [], ◌∷◌, ◌++◌, length, Option, Some, None, IfSome, nat_lt, drop, encode_utf8, slice_get, chars, fold, length-append, find}
use Rattle.std.specs.Prelude.{⊤}
use Rattle.std.specs.Option.{option_map_or}
use Rattle.std.specs.List.{list_all}
use Rattle.std.specs.Str.{bytes_eq}
use Rattle.clap.specs.Facts.{unwrap_or_range}
use Rattle.clap.specs.Values.{is_request}
use Rattle.clap.specs.Kinds.{Kinds, or_else, range_kinds}
use Rattle.clap.specs.Faults.{bundle_step_fault, flags_fault, option_fault, react_fault, settle_fault, short_fault, use_fault}
use Rattle.clap.specs.Walk.{Held, Outcome, bundle_step, Row, Rule, Text, action_of, arg_by_id, arg_by_short, at_row, attached_value, bundle_met, default_rows, done, has_row, is_empty, more_values, most_values, option_met, reacted, reading_by, settled, short_met, takes_values, used, used_as, used_by_id, values_or_missing, with_default, with_values, without}
use Rattle.clap.proofs.WalkLemmas.{both}
use Rattle.clap.specs.declared.builder.action.ArgAction.{ArgAction}
use Rattle.clap.specs.declared.builder.action.ArgAction.TheVariants as action
use Rattle.clap.specs.declared.builder.value_parser.Reading.{Reading}
use Rattle.clap.specs.declared.parser.matches.ValueSource.{ValueSource}

-- no kind of fault comes
abbrev pub IsPassed : Kinds → Type 0
IsPassed [] = ⊤
IsPassed (k ∷ ks) = ⊥

-- two steps pass where both do
pub both_pass : (a b : Kinds) → IsPassed (or_else a b) → IsPassed a × IsPassed b
both_pass [] b h = (tt, h)
both_pass (k ∷ ks) b h = absurd h

-- each row has a value
abbrev pub AreFilled : List Row → Type 0
AreFilled [] = ⊤
AreFilled (r ∷ rs) = (0 < length r.values) × AreFilled rs

filled_append : (xs ys : List Row) → AreFilled xs → AreFilled ys → AreFilled (xs ++ ys)
filled_append [] ys h k = k
filled_append (x ∷ xs) ys h k = (h.0, filled_append xs ys h.1 k)

filled_at_row : (id : Text) (change : Row → List Row) (missing : List Row) → ((r : Row) → 0 < length r.values → AreFilled (change r)) → AreFilled missing
    → (rows : List Row) → AreFilled rows → AreFilled (at_row id change missing rows)
filled_at_row id change missing changed absent [] h = absent
filled_at_row id change missing changed absent (r ∷ rs) h = go (filled_at_row id change missing changed absent rs h.1) (bytes_eq r.id id)
  where
    go : AreFilled (at_row id change missing rs) → (b : Bool) → AreFilled (cond b (change r ++ rs) (r ∷ at_row id change missing rs))
    go rest true = filled_append (change r) rs (changed r h.0) h.1
    go rest false = (h.0, rest)

filled_without : (id : Text) (rows : List Row) → AreFilled rows → AreFilled (without id rows)
filled_without id rows h = filled_at_row id (λ _. []) [] (λ r some. tt) tt rows h

filled_with_values : (id : Text) (how : Reading) (s : ValueSource) (values : List Text) (rows : List Row) → 0 < length values → AreFilled rows
    → AreFilled (with_values id how s values rows)
filled_with_values id how s values rows some h =
    filled_at_row id (more_values s values) _ (λ r filled. (omega (arith, filled, length-append r.values values), tt)) (some, tt) rows h

-- ---- one use of an argument

-- a use of the argument that passes has a value, or is a request for help
abbrev pub fills : Rule → Bool
fills a = nat_lt 0 (unwrap_or_range a.range).start_inclusive || (not (is_empty a.missing) || is_request (action_of a))

filled_as : (x : ArgAction) (id : Text) (how : Reading) (values : List Text) (rows : List Row) → (0 < length values) ⊎ (is_request x ≡ true) → AreFilled rows
    → AreFilled (used_as x id how values rows)
filled_as action.Set id how values rows (inl some) h = filled_with_values id how _ values _ some (filled_without id rows h)
filled_as action.SetTrue id how values rows (inl some) h = filled_with_values id how _ values _ some (filled_without id rows h)
filled_as action.SetFalse id how values rows (inl some) h = filled_with_values id how _ values _ some (filled_without id rows h)
filled_as action.Append id how values rows (inl some) h = filled_with_values id how _ values rows some h
filled_as action.Count id how [] rows (inl some) h = absurd (omega (arith, some))
filled_as action.Count id how (v ∷ vs) rows (inl some) h = filled_with_values id how _ (v ∷ vs) _ some (filled_without id rows h)
filled_as action.Help id how values rows either h = h
filled_as action.HelpShort id how values rows either h = h
filled_as action.HelpLong id how values rows either h = h
filled_as action.Version id how values rows either h = h
filled_as action.Set id how values rows (inr is) h = absurd (true≢false (sym is))
filled_as action.SetTrue id how values rows (inr is) h = absurd (true≢false (sym is))
filled_as action.SetFalse id how values rows (inr is) h = absurd (true≢false (sym is))
filled_as action.Append id how values rows (inr is) h = absurd (true≢false (sym is))
filled_as action.Count id how values rows (inr is) h = absurd (true≢false (sym is))

-- no value is in range only where none is wanted; what stands for it is a value then
no_value : (b : Bool) (missing : List Text) (request : Bool) (fault rest : Kinds) → (b || (not (is_empty missing) || request)) ≡ true
    → IsPassed (cond (b && true) fault rest) → ((k : Kinds) → IsPassed (cond true fault k) → ⊥) → (0 < length missing) ⊎ (request ≡ true)
no_value true missing request fault rest e passed never = absurd (never rest passed)
no_value false [] request fault rest e passed never = inr e
no_value false (m ∷ ms) request fault rest e passed never = inl (omega arith)

has_value : (a : Rule) (values : List Text) → fills a ≡ true
    → IsPassed (range_kinds (unwrap_or_range a.range).start_inclusive (most_values a) (length values))
    → (0 < length (values_or_missing a values)) ⊎ (is_request (action_of a) ≡ true)
has_value a [] e passed = no_value (nat_lt 0 (unwrap_or_range a.range).start_inclusive) a.missing (is_request (action_of a)) _ _ e passed (λ k never. never)
has_value a (v ∷ vs) e passed = inl (omega arith)

pub use_fills : (again : Bool) (a : Rule) (values : List Text) (rows : List Row) → fills a ≡ true → IsPassed (use_fault again a values rows) → AreFilled rows
    → AreFilled (used a values rows)
use_fills again a values rows e passed h =
    filled_as (action_of a) a.id (reading_by a) (values_or_missing a values) rows
    (has_value a values e (both_pass (range_kinds (unwrap_or_range a.range).start_inclusive (most_values a) (length values)) _ passed).0) h

-- what a search finds passes the test that all pass
pub found_passes : {X : Type 0} (test p : X → Bool) (xs : List X) → list_all p xs ≡ true → IfSome (find test xs) (λ x. p x ≡ true)
found_passes test p [] e = tt
found_passes test p (x ∷ xs) e = go (found_passes test p xs (both (p x) _ e).1) (test x)
  where
    go : IfSome (find test xs) (λ y. p y ≡ true) → (b : Bool) → IfSome (cond b (Some x) (find test xs)) (λ y. p y ≡ true)
    go rest true = (both (p x) _ e).0
    go rest false = rest

-- ---- the arguments of a command, each of which fills its row

module _ (c : List Rule) (again : Bool) (all : list_all fills c ≡ true) where
  pub settle_fills : (h : Held) → IsPassed (settle_fault c again h) → AreFilled h.rows → AreFilled (settled c h).rows
  settle_fills h = go h.pending
    where
      found : (o : Option Rule) (values : List Text) → IfSome o (λ a. fills a ≡ true) → IsPassed (option_map_or (λ a. use_fault again a values h.rows) o [])
          → AreFilled h.rows → AreFilled (used_by_id o values h.rows)
      found None values is passed filled = filled
      found (Some a) values is passed filled = use_fills again a values h.rows is passed filled

      go : (p : Option (Text × List Text))
          → IsPassed (option_map_or (λ p. option_map_or (λ a. use_fault again a p.1 h.rows) (arg_by_id c p.0) []) p [])
          → AreFilled h.rows → AreFilled (settled c (record h { pending = p })).rows
      go None passed filled = filled
      go (Some p) passed filled = found (arg_by_id c p.0) p.1 (found_passes (λ a. bytes_eq a.id p.0) fills c all) passed filled

  pub react_fills : (a : Rule) (values : List Text) (h : Held) → fills a ≡ true → IsPassed (react_fault c again a values h) → AreFilled h.rows
      → AreFilled (reacted c a values h).rows
  react_fills a values h e passed filled =
      let two = both_pass (settle_fault c again h) _ passed in
      use_fills again a values (settled c h).rows e two.1 (settle_fills h two.0 filled)

  pub option_fills : (a : Rule) (value : Option Text) (h : Held) → fills a ≡ true → IsPassed (option_fault c again a value h) → AreFilled h.rows
      → AreFilled (option_met c a value h).0.rows
  option_fills a None h e passed filled = settle_fills h passed filled
  option_fills a (Some v) h e passed filled = react_fills a (v ∷ []) h e passed filled

  -- what at most k characters of a bundle leave
  abbrev Fills : ℕ → Type 0
  Fills k = (flags : Text) (skip : ℕ) (o : Outcome) (h : Held) → IsPassed (flags_fault c again k flags skip h) → AreFilled h.rows
      → AreFilled (bundle_met c k flags skip o h).0.rows

  pub bundle_fills : (k : ℕ) (flags : Text) (skip : ℕ) (so_far : Outcome) (h : Held) → IsPassed (flags_fault c again k flags skip h) → AreFilled h.rows
      → AreFilled (bundle_met c k flags skip so_far h).0.rows
  unfolding flags_fault bundle_met
  bundle_fills zero flags skip so_far h = λ passed filled. filled
  bundle_fills (suc k) flags skip so_far h = go (λ rest skip o held. bundle_fills k rest skip o held) (slice_get (chars flags) 0) skip
    where
      flag : Fills k → (a : Rule) (rest : Text) (b : Bool) → fills a ≡ true
          → IsPassed (cond b (option_fault c again a (attached_value rest) h) (or_else (react_fault c again a [] h) (flags_fault c again k rest 0 (reacted c a [] h))))
          → AreFilled h.rows → AreFilled (cond b (option_met c a (attached_value rest) h) (bundle_met c k rest 0 done (reacted c a [] h))).0.rows
      flag then a rest true e passed filled = option_fills a (attached_value rest) h e passed filled
      flag then a rest false e passed filled =
          let two = both_pass (react_fault c again a [] h) _ passed in
          then rest 0 done (reacted c a [] h) two.1 (react_fills a [] h e two.0 filled)

      short : Fills k → (o : Option Rule) (rest : Text) → IfSome o (λ a. fills a ≡ true) → IsPassed (short_fault c again o rest h (flags_fault c again k rest 0))
          → AreFilled h.rows → AreFilled (short_met c o rest h (bundle_met c k rest 0 done)).0.rows
      short then None rest e passed filled = filled
      short then (Some a) rest e passed filled = flag then a rest (takes_values a) e passed filled

      go : Fills k → (o : Option ℕ) (skip : ℕ) → IsPassed (bundle_step_fault c again o flags skip h (flags_fault c again k)) → AreFilled h.rows
          → AreFilled (bundle_step c o flags skip so_far h (bundle_met c k)).0.rows
      go then None skip passed filled = filled
      go then (Some x) zero passed filled =
          short then (arg_by_short c x) (drop (length (encode_utf8 x)) flags) (found_passes _ fills c all) passed filled
      go then (Some x) (suc skip) passed filled = then (drop (length (encode_utf8 x)) flags) skip so_far h passed filled

-- ---- the end of the walk

pub defaults_fill : (rules : List Rule) (rows : List Row) → AreFilled rows → AreFilled (fold with_default rows rules)
defaults_fill [] rows filled = filled
defaults_fill (a ∷ rest) rows filled = defaults_fill rest (with_default rows a) (go (has_row a.id rows))
  where
    given : (values : List Text) → AreFilled (default_rows a.id (reading_by a) values rows)
    given [] = filled
    given (v ∷ vs) = filled_with_values a.id (reading_by a) _ (v ∷ vs) rows (omega arith) filled

    go : (b : Bool) → AreFilled (cond b rows (default_rows a.id (reading_by a) a.defaults rows))
    go true = filled
    go false = given a.defaults
