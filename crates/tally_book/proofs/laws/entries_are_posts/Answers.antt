use Rattle.tally_book.proofs.Own.{entries_are_posts}
use Rattle.tally_book.proofs.laws.entries_are_posts.Goals as goal

pub returns : goal.returns
returns c = entries_are_posts
