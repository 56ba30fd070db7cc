use Rattle.std.proofs.Common.{rules, ◌≡◌, subst, sym, arith}
use Rattle.std.proofs.lemmas.Grind.{common_steps}
use Rattle.tally_book.specs.Books.{IsLegal, posted}
use Rattle.tally_book.specs.Contents.{Contents}
use Rattle.tally_book.specs.inside.Kept.{contents_of}
use Rattle.tally_book.proofs.Growth.{posted_legal}
use Rattle.tally_book.proofs.book.Book.post.Goals as goal

pub invariant_of-self-2 : goal.invariant_of-self-2
invariant_of-self-2 c =
    let b : Contents = contents_of c.self.inside in
    let now : Contents = contents_of (record { callers = c.self.inside.callers; clock = c.self.inside.clock; room = c.self.inside.room; logins = c.store.new.logins; summary = c.store.new.summary; calls = c.record-call.new.calls }) in
    let same : now ≡ posted b c.args.caller c.args.batch.now = grind (arith, common_steps) in
    record {
      hosts = search rules;
      legal = subst IsLegal (sym same) (posted_legal b c.args.caller c.args.batch.now c.self.invariant.legal (search rules) (search rules) (search rules) (search rules));
    }

pub returns-clause-legal : goal.returns-clause-legal
returns-clause-legal c = (invariant_of-self-2 c).legal
