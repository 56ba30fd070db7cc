-- The moments that the options of a command line say.
use Rattle.std.specs.Prelude.{◌≡◌, ◌&&◌, ◌||◌, Bool, true, false, not, List, Option, Some, None, codes, is_some, option_and_then, option_map}
use Rattle.std.specs.Option.{option_map_or, option_or}
use Rattle.clap.specs.Walk.{first_of}
use Rattle.clap.specs.Words.{Row, Text}
use Rattle.tally_moments.specs.Moments.{clear_moment_of, moment_of, period_of}
use Rattle.tally_moments.specs.declared.moment.Moment.{Moment}
use Rattle.tally_moments.specs.declared.moment.Moment.TheVariants.{Now}
use Rattle.tally_line.specs.declared.job.Report.{Report}
use Rattle.tally_line.specs.declared.job.Report.TheVariants as report
use Rattle.tally_line.specs.declared.times.Times.{Times}

-- a moment is when the words are read
abbrev pub is_now : Option Moment → Bool
is_now (Some Now) = true
is_now _ = false

-- some moment is
abbrev pub ask_now : Times → Bool
ask_now times = is_now times.until || (is_now times.from || (is_now times.to || is_now times.at))

-- an option is given
abbrev pub is_given : Text → List Row → Bool
is_given id rows = is_some (first_of id rows)

-- a period is asked for, and not a second alone
abbrev pub has_period : List Row → Bool
has_period rows = is_given (codes "from") rows || (is_given (codes "to") rows || is_given (codes "in") rows)

-- the moment that the word of an option says
abbrev pub said : (Text → Option Moment) → Text → List Row → Option Moment
said read id rows = option_and_then read (first_of id rows)

-- the moments of `--in`
abbrev pub period_in : List Row → Option (Moment × Moment)
period_in rows = option_and_then period_of (first_of (codes "in") rows)

-- the moment of `--until`: a report without stays has none
abbrev pub until_in : Report → List Row → Option Moment
until_in (report.Attempts limit choice) rows = None
until_in (report.AttemptSums limit choice) rows = None
until_in (report.Commands order reverse all) rows = None
until_in (report.Users order reverse) rows = None
until_in r rows = said moment_of (codes "until") rows

-- the moments of all options
abbrev pub times_in : Report → List Row → Times
times_in r rows = record {
  until = until_in r rows;
  from = option_or (option_map (λ p. p.0) (period_in rows)) (said clear_moment_of (codes "from") rows);
  to = option_or (option_map (λ p. p.1) (period_in rows)) (said clear_moment_of (codes "to") rows);
  at = said clear_moment_of (codes "at") rows;
}

-- the word of an option says something, where it is given
abbrev pub is_said : {X : Type 0} → (Text → Option X) → Text → List Row → Bool
is_said read id rows = option_map_or (λ word. is_some (read word)) (first_of id rows) true

-- neither `--at` nor `--in` stands beside another of the options that say a period
abbrev pub stand_alone : List Row → Bool
stand_alone rows =
    not (is_given (codes "at") rows && has_period rows)
    && not (is_given (codes "in") rows && (is_given (codes "from") rows || is_given (codes "to") rows))

-- nothing is wrong with the words of moments
pub record AreMoments (rows : List Row) : Type 0 where
  pub alone : stand_alone rows ≡ true
  pub from : is_said clear_moment_of (codes "from") rows ≡ true
  pub to : is_said clear_moment_of (codes "to") rows ≡ true
  pub period : is_said period_of (codes "in") rows ≡ true
  pub at : is_said clear_moment_of (codes "at") rows ≡ true
  pub until : is_said moment_of (codes "until") rows ≡ true
