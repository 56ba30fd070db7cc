use Rattle.std.proofs.Common.{◌≡◌, ◌⊎◌, inl, inr, [], ap, ◌∙◌, ℕ, ◌<◌, List, true, arith, length, rules}
use Rattle.std.proofs.lemmas.Result.{IfOk-weaker}
use Rattle.std.specs.Prelude.{pos, slice_index_or}
use Rattle.sqlite_value.specs.Order.{Row}
use Rattle.tally_wtmpdb.proofs.Passing.{count_small, halt_kept, halt_mark, login_kept, login_mark, logout_kept, logout_mark, marked_is, on_both}
use Rattle.tally_wtmpdb.specs.Fields.{field}
use Rattle.tally_wtmpdb.specs.Lines.{is_halt, is_logout, text_of}
use Rattle.tally_wtmpdb.specs.Rows.{tty_of}
use Rattle.tally_wtmpdb.specs.declared.moment.Moment.{Moment}
use Rattle.tally_wtmpdb.specs.declared.moment.What.{What}
use Rattle.tally_wtmpdb.specs.declared.moment.What.TheVariants.{Logout, Down, Boot, LogoutAtOnce}
use Rattle.tally_wtmpdb.proofs.lines.pass.Goals as goal

abbrev first : Moment
first = record { micros = pos 0; what = Logout; place = 0 }

text_is : (rows : List Row) (place : ℕ) (row none : Row) (tty text : List ℕ) → none ≡ [] → row ≡ slice_index_or rows place none → tty ≡ tty_of row → text ≡ field 32 tty → text ≡ text_of rows place
text_is rows place row none tty text e f g h = h ∙ ap (field 32) (g ∙ ap tty_of (f ∙ ap (slice_index_or rows place) e))

logs_out : (w : What) → (w ≡ Logout) ⊎ (w ≡ LogoutAtOnce) → is_logout w ≡ true
logs_out w (inl e) = ap is_logout e
logs_out w (inr e) = ap is_logout e

halts : (w : What) → (w ≡ Boot) ⊎ (w ≡ Down) → is_halt w ≡ true
halts w (inl e) = ap is_halt e
halts w (inr e) = ap is_halt e

pub begin-requires : goal.begin-requires
begin-requires c =
    let few : length c.args.moments.now < 18446744073709551616 = search rules in
    omega (arith, few, c.requires.within, count_small c.args.rows.now c.args.moments.now c.args.index c.args.sessions.now c.name-text.result c.requires.within c.requires.kept)

pub returns-in_ok-begin-in-Login-clause-value : goal.returns-in_ok-begin-in-Login-clause-value
returns-in_ok-begin-in-Login-clause-value c =
    login_mark c.args.rows.now c.args.moments.now c.args.index first c.in_ok-begin-in-Login.field-0 c.requires.within c.in-Login.is
    (marked_is c.args.rows.now c.args.moments.now c.args.index first c.args.sessions.now c.name-text.result c.in_ok-begin-in-Login.field-0 c.requires.ordered c.requires.within c.in-Login.is c.requires.kept
    (text_is c.args.rows.now _ _ _ _ _ c.requires.none c.row_at.ensures c.tty.ensures c.name-text.ensures) c.in_ok-begin-in-Login.ensures.marked)

pub returns-in_ok-begin-in-Login-clause-kept : goal.returns-in_ok-begin-in-Login-clause-kept
returns-in_ok-begin-in-Login-clause-kept c =
    let text = text_is c.args.rows.now _ _ _ _ _ c.requires.none c.row_at.ensures c.tty.ensures c.name-text.ensures in
    login_kept c.args.rows.now c.args.moments.now c.args.index first c.args.sessions.now c.begin.new.self c.name-text.result c.in_ok-begin-in-Login.field-0 c.requires.ordered c.requires.within c.in-Login.is
    c.requires.kept text
    (marked_is c.args.rows.now c.args.moments.now c.args.index first c.args.sessions.now c.name-text.result c.in_ok-begin-in-Login.field-0 c.requires.ordered c.requires.within c.in-Login.is c.requires.kept
    text c.in_ok-begin-in-Login.ensures.marked)
    c.in_ok-begin-in-Login.ensures.marks c.in_ok-begin-in-Login.ensures.counts

pub returns-in-Logout-clause-value : goal.returns-in-Logout-clause-value
returns-in-Logout-clause-value c =
    IfOk-weaker c.end.result _ _ (λ mark same. same ∙ logout_mark c.args.rows.now c.args.moments.now c.args.index first c.args.sessions.now c.requires.within (logs_out _ c.in-Logout.is) c.requires.kept) c.end.ensures.value

pub returns-in-Logout-clause-kept : goal.returns-in-Logout-clause-kept
returns-in-Logout-clause-kept c =
    on_both c.end.result c.end.ensures.marks c.end.ensures.counts
    (λ marks counts.
    logout_kept c.args.rows.now c.args.moments.now c.args.index first c.args.sessions.now c.end.new.self c.name-text-in-Logout.result c.requires.within (logs_out _ c.in-Logout.is) c.requires.kept
    (text_is c.args.rows.now _ _ _ _ _ c.requires.none c.row_at-in-Logout.ensures c.tty-in-Logout.ensures c.name-text-in-Logout.ensures) marks counts)

pub returns-in-Boot-clause-value : goal.returns-in-Boot-clause-value
returns-in-Boot-clause-value c = halt_mark c.args.rows.now c.args.moments.now c.args.index first c.requires.within (halts _ c.in-Boot.is)

pub returns-in-Boot-clause-kept : goal.returns-in-Boot-clause-kept
returns-in-Boot-clause-kept c =
    halt_kept c.args.rows.now c.args.moments.now c.args.index first c.end_all.new.self c.requires.within (halts _ c.in-Boot.is) c.end_all.ensures.marks c.end_all.ensures.counts
