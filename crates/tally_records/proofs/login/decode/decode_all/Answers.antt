use Rattle.std.proofs.Common.{◌≡◌, ◌∙◌, ◌≤◌, ◌+◌, ◌*◌, ◌<◌, ◌++◌, ◌∷◌, [], List, ℕ, Result, Ok, Err, length, drop, get_or, append_assoc, refl, sym, ap, rules, arith}
use Rattle.std.proofs.lemmas.List.{at_drop_more}
use Rattle.tally_records.specs.declared.fault.RecordFault.{RecordFault}
use Rattle.tally_records.specs.declared.fault.BatchFault.{BatchFault}
use Rattle.tally_records.specs.declared.login.LoginRecord.{LoginRecord}
use Rattle.tally_records.specs.Decoding.{decoded, first_decoded}
use Rattle.tally_records.specs.LoginRecord.{login_result}
use Rattle.tally_records.proofs.Decoded.{behind}
use Rattle.tally_records.specs.inside.Compact.Decoded.{with}
use Rattle.tally_records.specs.inside.Compact.Layout.{records}
use Rattle.tally_records.proofs.Compact.Tiling.{Covers-few}
use Rattle.tally_records.proofs.login.decode.decode_all.Goals as goal

pub decode-requires-clause-words : goal.decode-requires-clause-words
decode-requires-clause-words c =
    let few : length c.loop-index.words.items ≤ 40 * length c.loop-index.heads.items = Covers-few c.loop-index.heads.items c.loop-index.words.items c.loop-index.invariant.covers in
    omega (arith, few)

same_records : (rs qs : List LoginRecord) (a : Result (List LoginRecord) RecordFault) → a ≡ Ok rs → a ≡ Ok qs → rs ≡ qs
same_records rs qs a e f = cc

one_told : (n : ℕ) (rs rs' : List LoginRecord) (one : Result LoginRecord RecordFault) (rest : Result (List LoginRecord) BatchFault) → with rs one ≡ Ok rs' → behind rs (first_decoded n one rest) ≡ behind rs' rest
one_told n rs rs' (Err fault) rest e = cc
one_told n rs rs' (Ok r) (Err fault) e = cc
one_told n rs rs' (Ok r) (Ok qs) e = ap (λ (ps : List LoginRecord). Ok ps) (sym (append_assoc rs (r ∷ []) qs) ∙ ap (λ (ps : List LoginRecord). ps ++ qs) (same_records (rs ++ r ∷ []) rs' (Ok (rs ++ r ∷ [])) refl e))

more_told : (blocks : List (List ℕ)) (i : ℕ) (d : List ℕ) (rs rs' : List LoginRecord) → i < length blocks → with rs (login_result (get_or blocks i d)) ≡ Ok rs'
    → behind rs' (decoded login_result (i + 1) (drop (i + 1) blocks)) ≡ behind rs (decoded login_result i (drop i blocks))
more_told blocks i d rs rs' l e =
    sym (ap (λ (o : Result (List LoginRecord) BatchFault). behind rs o) (at_drop_more (decoded login_result i) blocks i d l)
    ∙ one_told i rs rs' (login_result (get_or blocks i d)) (decoded login_result (i + 1) (drop (i + 1) blocks)) e)

pub loop-index-preserved : goal.loop-index-preserved
loop-index-preserved c = record {
  heads = search rules;
  words = search rules;
  len = search rules;
  covers = search rules;
  told = more_told c.args.blocks.now c.loop-index.index _ (records c.loop-index.heads.items c.loop-index.words.items) (records c.decode.new.heads.items c.decode.new.words.items) c.loop-index-test.true c.in_default.ensures.exact ∙ c.loop-index.invariant.told;
}
