-- Batches that were posted, one after another.
use Rattle.std.proofs.Common.{◌≡◌, ◌∙◌, ◌++◌, List, [], append_assoc, append-nil, ap, sym, map}
use Rattle.std.proofs.lemmas.List.{map-append}
use Rattle.tally_book.specs.Deeds.{Deed}
use Rattle.tally_records.specs.Records.{Records}
use Rattle.tally_desk.specs.Feeds.{Posts, post_of}
use Rattle.tally_desk.specs.Passes.{PassState, deeds}

pub posts_none : (p q : PassState) → deeds q ≡ deeds p → Posts p q []
posts_none p q same = same ∙ sym (append-nil (deeds p))

pub posts_more : (p q r : PassState) (xs ys : List Records) → Posts p q xs → Posts q r ys → Posts p r (xs ++ ys)
posts_more p q r xs ys first next =
    next
    ∙ ap (λ (ds : List Deed). ds ++ map post_of ys) first
    ∙ append_assoc (deeds p) (map post_of xs) (map post_of ys)
    ∙ ap (λ (ds : List Deed). deeds p ++ ds) (sym (map-append post_of xs ys))

-- nothing more
pub posts_same : (p q r : PassState) (xs : List Records) → Posts p q xs → deeds r ≡ deeds q → Posts p r xs
posts_same p q r xs first same = same ∙ first
