-- A command made of its parts.
use Rattle.std.proofs.Common.{◌≡◌, ◌∙◌, ◌||◌, ap, ap₂, false}
use Rattle.clap.specs.Words.{AddsArg, AddsSubcommand, App, Rule, rule_of, with_rule, with_subcommand}
use Rattle.clap.specs.declared.builder.arg.Arg.{Arg}
use Rattle.clap.specs.declared.builder.command.Command.{Command}
use Rattle.tally_line.specs.inside.Commands.{IsCommand}

-- `.arg(..)`
pub adds_arg : (old new : Command) (a : Arg) (app : App) (rule : Rule) → IsCommand app old → AddsArg old a new
    → a.global ≡ false → rule_of a ≡ rule → IsCommand (with_rule app rule) new
adds_arg old new a app rule is added local rule_is = record {
  shape = added.shape local ∙ ap₂ with_rule is.shape rule_is;
  local = added.globals ∙ ap₂ (λ x y. x || y) is.local local;
}

-- `.subcommand(..)`
pub adds_subcommand : (old sub new : Command) (app under : App) → IsCommand app old → IsCommand under sub
    → AddsSubcommand old sub new → IsCommand (with_subcommand app under.top) new
adds_subcommand old sub new app under is sub_is added = record {
  shape = added.shape sub_is.local ∙ ap₂ with_subcommand is.shape (ap (λ (a : App). a.top) sub_is.shape);
  local = added.globals ∙ ap₂ (λ x y. x || y) is.local sub_is.local;
}
