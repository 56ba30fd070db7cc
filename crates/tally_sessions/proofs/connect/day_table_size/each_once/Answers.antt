use Rattle.std.proofs.Common.{nat_eq, sym, subst}
use Rattle.std.proofs.lemmas.Cmp.{nat_list_cmp_total}
use Rattle.std.proofs.lemmas.List.Filters.{dedup_is}
use Rattle.std.proofs.lemmas.List.Kept.{IsStrictlySortedBy-dedup}
use Rattle.std.specs.Cmp.Lexicographic.{pointwise, slice_cmp, texts_ties}
use Rattle.std.specs.List.Sorted.{IsStrictlySortedBy}
use Rattle.std.specs.Ordering.{nat_cmp}
use Rattle.tally_sessions.proofs.connect.day_table_size.each_once.Goals as goal

pub returns : goal.returns
returns c =
    let sorted = c.sort_unstable.new.self.items in
    subst (IsStrictlySortedBy (slice_cmp nat_cmp)) (sym (dedup_is (pointwise nat_eq) sorted c.dedup.new.self.items c.dedup.ensures.filtered))
    (IsStrictlySortedBy-dedup nat_list_cmp_total texts_ties sorted c.sort_unstable.ensures.sorted)
