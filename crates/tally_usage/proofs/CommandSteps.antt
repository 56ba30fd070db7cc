-- The turns of the loop that writes the rows of a table.
use Rattle.std.proofs.Common.{◌≡◌, ◌<◌, ◌≤◌, Bool, true, not, cond, ◌&&◌, List, [], ◌∷◌, ◌++◌, map, filter, sym, ap, ◌∙◌, arith, append_assoc}
use Rattle.std.proofs.lemmas.Bool.{le-ltb, lt-ltb}
use Rattle.std.proofs.lemmas.List.{append-nil}
use Rattle.tally_usage.specs.declared.command.Command.{Command}
use Rattle.tally_usage.specs.declared.command.CommandRow.{CommandRow}
use Rattle.tally_usage.specs.declared.usage.Usage.{Usage}
use Rattle.tally_usage.specs.inside.Rows.{is_counted, is_joined, joined_usage, others_row, own_rows, row_of_command, row_of_others}
use Rattle.tally_usage.specs.inside.Usage.{Fits}
use Rattle.tally_usage.specs.Usage.{plus}
use Rattle.tally_usage.proofs.GroupLemmas.{plus_assoc, joined_usage-cons, joined_usage-none}
use Rattle.tally_usage.proofs.TotalsLemmas.{plus-none}

-- ---- a turn of the loop over the table, at an entry that is joined

pub joined_turn : (all : Bool) (o u t : Usage) (command : Command) (it rest : List (Command × Usage)) → it ≡ (command, u) ∷ rest → is_joined all (command, u) ≡ true
    → plus o (joined_usage (filter (is_joined all) it)) ≡ t → plus (plus o u) (joined_usage (filter (is_joined all) rest)) ≡ t
joined_turn all o u t command it rest is joined h =
    plus_assoc o u (joined_usage (filter (is_joined all) rest)) ∙ ap (plus o) (sym (joined_usage-cons (command, u) (filter (is_joined all) rest)))
    ∙ ap (λ b. plus o (joined_usage (cond b ((command, u) ∷ filter (is_joined all) rest) (filter (is_joined all) rest)))) (sym joined)
    ∙ ap (λ l. plus o (joined_usage (filter (is_joined all) l))) (sym is) ∙ h

pub own_turn : (all : Bool) (u : Usage) (command : Command) (it rest : List (Command × Usage)) → it ≡ (command, u) ∷ rest → is_joined all (command, u) ≡ true → own_rows all rest ≡ own_rows all it
own_turn all u command it rest is joined =
    ap (λ b. map row_of_command (cond (not b && is_counted (command, u)) ((command, u) ∷ filter (λ e. not (is_joined all e) && is_counted e) rest) (filter (λ e. not (is_joined all e) && is_counted e) rest))) (sym joined)
    ∙ ap (own_rows all) (sym is)

-- ---- the loop's end

pub others_end : (all : Bool) (o t : Usage) (it : List (Command × Usage)) → it ≡ [] → plus o (joined_usage (filter (is_joined all) it)) ≡ t → o ≡ t
others_end all o t it end h =
    sym (plus-none o) ∙ ap (plus o) (sym (joined_usage-none (Command))) ∙ ap (λ l. plus o (joined_usage (filter (is_joined all) l))) (sym end) ∙ h

pub rows_end : (all : Bool) (rows wanted : List CommandRow) (it : List (Command × Usage)) → it ≡ [] → rows ++ own_rows all it ≡ wanted → rows ≡ wanted
rows_end all rows wanted it end h = sym (append-nil rows) ∙ ap (λ l. rows ++ own_rows all l) (sym end) ∙ h

pub with_others : (rows start own : List CommandRow) (o t : Usage) → rows ≡ start ++ own → o ≡ t → 0 < o.count → rows ++ row_of_others o ∷ [] ≡ start ++ (own ++ others_row t)
with_others rows start own o t is same some =
    ap (λ l. l ++ row_of_others o ∷ []) is ∙ append_assoc start own (row_of_others o ∷ [])
    ∙ ap (λ b. start ++ (own ++ cond b (row_of_others o ∷ []) [])) (sym (lt-ltb 0 o.count some)) ∙ ap (λ u. start ++ (own ++ others_row u)) same

pub without_others : (rows start own : List CommandRow) (o t : Usage) → rows ≡ start ++ own → o ≡ t → o.count ≤ 0 → rows ≡ start ++ (own ++ others_row t)
without_others rows start own o t is same none =
    is ∙ ap (λ l. start ++ l) (sym (append-nil own)) ∙ ap (λ b. start ++ (own ++ cond b (row_of_others o ∷ []) [])) (sym (le-ltb 0 o.count none)) ∙ ap (λ u. start ++ (own ++ others_row u)) same

-- a part of what fits
pub part-Fits : (u v w t : Usage) → plus (plus u v) w ≡ t → Fits t → Fits (plus u v)
part-Fits u v w t e fits = record {
  count = omega (arith, fits.count, ap (λ x. x.count) e);
  real = omega (arith, fits.real, ap (λ x. x.real) e);
  cpu = omega (arith, fits.cpu, ap (λ x. x.cpu) e);
  io = omega (arith, fits.io, ap (λ x. x.io) e);
  mem_cpu = omega (arith, fits.mem_cpu, ap (λ x. x.mem_cpu) e);
}
