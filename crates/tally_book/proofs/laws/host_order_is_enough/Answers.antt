use Rattle.tally_book.proofs.SameAnswers.{same_answer}
use Rattle.tally_book.proofs.laws.host_order_is_enough.Goals as goal

pub returns : goal.returns
returns c = same_answer c.record_order_is_free.ensures c.record_order_is_free-2.ensures
