use Rattle.std.proofs.Common.{◌∙◌, Ok, ap}
use Rattle.tally_desk.proofs.ReadLemmas.{batch_of-ok, never_length, never_too_many}
use Rattle.tally_desk.proofs.feeding.block.block_batch.Goals as goal

pub unreachable-requires : goal.unreachable-requires
unreachable-requires c =
    never_length c.args.kind c.args.bytes.now c.in-Err-Length.field-0 c.in-Err-Length.field-0-0 c.requires.whole c.requires.room c.in-Err-Length.field-0-is c.in-Err-Length.ensures.exact

pub unreachable-requires-in-Err-TooMany : goal.unreachable-requires-in-Err-TooMany
unreachable-requires-in-Err-TooMany c =
    never_too_many c.args.kind c.args.bytes.now c.in-Err-TooMany.field-0 c.in-Err-TooMany.field-0-0 c.requires.whole c.requires.room c.in-Err-TooMany.field-0-is c.in-Err-TooMany.ensures.exact

pub returns-in-Ok-clause-value : goal.returns-in-Ok-clause-value
returns-in-Ok-clause-value c =
    let read = batch_of-ok c.args.kind c.args.bytes.now c.in-Ok.batch c.requires.whole c.requires.room c.in-Ok.ensures.exact in
    read.is

pub returns-in-Ok-clause-good : goal.returns-in-Ok-clause-good
returns-in-Ok-clause-good c =
    let read = batch_of-ok c.args.kind c.args.bytes.now c.in-Ok.batch c.requires.whole c.requires.room c.in-Ok.ensures.exact in
    c.in-Ok.ensures.exact ∙ ap Ok read.is

pub returns-in-Ok-clause-count : goal.returns-in-Ok-clause-count
returns-in-Ok-clause-count c =
    let read = batch_of-ok c.args.kind c.args.bytes.now c.in-Ok.batch c.requires.whole c.requires.room c.in-Ok.ensures.exact in
    read.count
