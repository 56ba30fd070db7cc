use Rattle.std.proofs.Common.{◌≡◌, ◌∙◌, ◌++◌, ◌∷◌, ◌<◌, [], ap, arith, length, length-append, map, rules, sym, take}
use Rattle.std.proofs.Math.Seq.{take-length}
use Rattle.std.proofs.lemmas.List.Elements.{All-push, All-same}
use Rattle.std.proofs.lemmas.List.FromFn.{length-range_with_len}
use Rattle.std.specs.List.{range_with_len}
use Rattle.tally_cli.specs.declared.running.parts.FilePart.{FilePart}
use Rattle.tally_cli.specs.inside.Parts.{HasPart, part_alone}
use Rattle.tally_cli.proofs.PathTables.{host_at}
use Rattle.tally_cli.proofs.Texts.{map_next}
use Rattle.tally_cli.proofs.running.by_file.parts_of.Goals as goal

pub push_reserved-requires : goal.push_reserved-requires
push_reserved-requires c =
    let near : c.loop-file.file < c.args.files = search rules in
    omega (arith, near, c.loop-file.invariant.room, c.loop-file.invariant.count)

pub loop-file-preserved : goal.loop-file-preserved
loop-file-preserved c =
    let before = c.loop-file.invariant in
    let file = c.loop-file.file in
    let files = range_with_len 0 c.args.files in
    let near : c.loop-file.file < c.args.files = search rules in
    let part = part_alone c.args.book.now.clock c.args.by_day c.args.by_user c.args.choice.now c.args.job.now c.args.book.now.logins in
    let old = c.loop-file.parts.items in
    let new : FilePart = c.in_ok-part.part in
    let alone : new ≡ part c.loop-file.file = c.in_ok-part.ensures.value in
    let own = ap (λ (p : FilePart). p.file) alone in
    let items : c.push_reserved.new.self.items ≡ old ++ new ∷ [] = c.push_reserved.ensures.items in
    record {
      room = search rules;
      count = ap length items ∙ length-append old (new ∷ []) ∙ omega (arith, before.count);
      value = items
          ∙ (λ i. before.value i ++ (alone ∙ ap part (host_at c.args.files file near)) i ∷ [])
          ∙ sym (map_next part files file file (omega (arith, near, length-range_with_len 0 c.args.files)));
      parts = All-same HasPart c.push_reserved.new.self.items (old ++ new ∷ []) items
          (All-push HasPart old new before.parts (record { few = omega (arith, own, near, c.requires.few); days = c.in_ok-part.ensures.days }));
    }

pub returns-clause-value : goal.returns-clause-value
returns-clause-value c =
    let part = part_alone c.args.book.now.clock c.args.by_day c.args.by_user c.args.choice.now c.args.job.now c.args.book.now.logins in
    let files = range_with_len 0 c.args.files in
    let all : c.loop-file.file ≡ c.args.files = search rules in
    c.loop-file.invariant.value ∙ ap (λ n. map part (take n files)) (all ∙ sym (length-range_with_len 0 c.args.files)) ∙ ap (map part) (take-length files)
