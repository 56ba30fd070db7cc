-- The values of a list, wherever they are.
use Rattle.std.specs.Prelude.{List}
use Rattle.std.specs.Arc.{arc_value}
use Rattle.tally_records.specs.declared.list.Values.{Values}
use Rattle.tally_records.specs.declared.list.Values.TheVariants.{Own, Shared}

-- the values, whether its copies share them or not
abbrev pub values_in : {T : Type 0} → Values T → List T
values_in (Own own) = own.items
values_in (Shared shared) = (arc_value shared).items
