-- What lent entries show.
use Rattle.std.specs.Map.{keys_of}
use Rattle.std.specs.Prelude.{◌≡◌, ℕ, List, drop, false, get_or, map, replicate}
use Rattle.std.proofs.Common.{refl, sym, ◌∙◌}
use Rattle.tally_records.specs.NumberedProc.{named, number_of}
use Rattle.tally_usage.specs.declared.command.Command.{Command}
use Rattle.tally_usage.specs.declared.entry.CompactProc.{CompactProc}
use Rattle.tally_usage.specs.declared.entry.KeptProc.{KeptProc}
use Rattle.tally_usage.specs.declared.usage.Usage.{Usage}
use mathlib.Core.Path.{path_j}

-- what a read of a group gives past the end
abbrev pub no_command : Command
no_command = record { name = replicate 17 0; forked = false }

-- the command of the group at a place
abbrev pub command_at : List (Command × Usage) → ℕ → Command
command_at commands place = get_or (keys_of commands) place no_command

-- compact fields with a command
abbrev pub with_command : Command → CompactProc → KeptProc
with_command command c = record { host = c.host; item = named command.name command.forked c.item }

-- compact fields with the command of the group that their number stands for
abbrev pub kept_at : List (Command × Usage) → CompactProc → KeptProc
kept_at commands c = with_command (command_at commands (number_of c.item)) c

abbrev pub kept_in : List (Command × Usage) → List CompactProc → List KeptProc
kept_in commands cs = map (kept_at commands) cs

-- the entries, which are those of compact fields
pub record Lent (commands : List (Command × Usage)) (cs : List CompactProc) : Type 0 where
  pub now : List KeptProc
  pub is : kept_in commands cs ≡ now

abbrev pub lent : (commands : List (Command × Usage)) (cs : List CompactProc) → Lent commands cs
lent commands cs = record { now = kept_in commands cs; is = refl }

abbrev to : (commands : List (Command × Usage)) (cs : List CompactProc) (m : List KeptProc) (p : kept_in commands cs ≡ m) → lent commands cs ≡ record { now = m; is = p }
to commands cs m p = path_j (λ (m : List KeptProc) (p : kept_in commands cs ≡ m). lent commands cs ≡ record { now = m; is = p }) refl p

abbrev pub Lent-prop : (commands : List (Command × Usage)) (cs : List CompactProc) → IsProp (Lent commands cs)
Lent-prop commands cs a b = sym (to commands cs a.now a.is) ∙ to commands cs b.now b.is

-- those from a place on
pub record Left (ks : List KeptProc) (n : ℕ) : Type 0 where
  pub now : List KeptProc
  pub is : drop n ks ≡ now

abbrev pub left : (ks : List KeptProc) (n : ℕ) → Left ks n
left ks n = record { now = drop n ks; is = refl }

abbrev to_left : (ks : List KeptProc) (n : ℕ) (m : List KeptProc) (p : drop n ks ≡ m) → left ks n ≡ record { now = m; is = p }
to_left ks n m p = path_j (λ (m : List KeptProc) (p : drop n ks ≡ m). left ks n ≡ record { now = m; is = p }) refl p

abbrev pub Left-prop : (ks : List KeptProc) (n : ℕ) → IsProp (Left ks n)
Left-prop ks n a b = sym (to_left ks n a.now a.is) ∙ to_left ks n b.now b.is
