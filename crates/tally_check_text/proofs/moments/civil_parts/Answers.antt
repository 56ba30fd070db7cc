use Rattle.std.proofs.Common.{arith, FitsSigned, w32}
use Rattle.std.proofs.lemmas.Int.{to_z-of_z, ints}
use Rattle.jiff_core.specs.Date.{epoch_day}
use Rattle.tally_check_text.proofs.CivilLemmas.{parts_of_day, shown_years}
use Rattle.tally_check_text.specs.inside.Moments.{IsShownDay}
use Rattle.tally_check_text.proofs.moments.civil_parts.Goals as goal

pub overflow_cast-year : goal.overflow_cast-year
overflow_cast-year c =
    let narrow : FitsSigned w32 c.args.day = c.ranges.day in
    let same = simp to_z-of_z at c.civil_date-date.ensures in
    let is : IsShownDay (epoch_day c.civil_date-date.result) = rw same c.requires in
    let years = shown_years c.civil_date-date.result is in
    omega (arith, ints)

pub returns-clause-year : goal.returns-clause-year
returns-clause-year c =
    let narrow : FitsSigned w32 c.args.day = c.ranges.day in
    let parts = parts_of_day c.civil_date-date.result c.args.day (simp to_z-of_z at c.civil_date-date.ensures) c.requires in
    omega (arith, ints, parts.0)

pub returns-clause-month : goal.returns-clause-month
returns-clause-month c =
    let narrow : FitsSigned w32 c.args.day = c.ranges.day in
    let parts = parts_of_day c.civil_date-date.result c.args.day (simp to_z-of_z at c.civil_date-date.ensures) c.requires in
    omega (arith, ints, parts.1)

pub returns-clause-day : goal.returns-clause-day
returns-clause-day c =
    let narrow : FitsSigned w32 c.args.day = c.ranges.day in
    let parts = parts_of_day c.civil_date-date.result c.args.day (simp to_z-of_z at c.civil_date-date.ensures) c.requires in
    omega (arith, ints, parts.2)
