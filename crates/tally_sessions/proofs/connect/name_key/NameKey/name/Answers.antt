use Rattle.std.proofs.Common.{◌∙◌, ◌++◌, replicate}
use Rattle.tally_sessions.specs.inside.Names.{word_bytes}
use borrow.Rule.Slice.PartMut.{put_mid}
use Rattle.tally_sessions.proofs.connect.name_key.NameKey.name.Goals as goal

pub returns : goal.returns
unfolding word_bytes
returns c =
    let a = c.copy_from_slice.ensures.after ∙ c.to_be_bytes.ensures in
    let b = c.copy_from_slice-2.ensures.after ∙ c.to_be_bytes-2.ensures in
    let d = c.copy_from_slice-3.ensures.after ∙ c.to_be_bytes-3.ensures in
    let e = c.copy_from_slice-4.ensures.after ∙ c.to_be_bytes-4.ensures in
    (λ i. put_mid 24 8 (put_mid 16 8 (put_mid 8 8 (a i ++ replicate 24 0) (b i)) (d i)) (e i)) ∙ c.self.view_is
