use Rattle.std.proofs.Common.{◌≡◌, ◌∙◌, List, ℕ, get_or, sym, ap}
use Rattle.std.specs.Hash.{le_bytes}
use Rattle.tally_records.specs.inside.Compact.Keys.{words_back}
use Rattle.tally_records.specs.Text.{field_words}
use Rattle.tally_records.proofs.Compact.KeyLemmas.{four_writes, one_write}
use Rattle.tally_records.proofs.login.key.KeyHash.hash.Goals as goal

pub returns-then-self-ne0 : goal.returns-then-self-ne0
returns-then-self-ne0 g c =
    let e : c.self.inside.words ≡ field_words c.args.self.now = sym (words_back c.self.inside.words c.self.invariant.fits) ∙ ap (λ (bs : List ℕ). field_words bs) c.self.view_is in
    let first = c.write_u64.ensures ∙ (λ i. g.H.Hasher.write c.args.state.now (le_bytes 8 (get_or (e i) 0 0))) in
    let second = c.write_u64-then-self-ne0.ensures ∙ (λ i. g.H.Hasher.write (first i) (le_bytes 8 (get_or (e i) 1 0))) in
    let third = c.write_u64-then-self-ne0-2.ensures ∙ (λ i. g.H.Hasher.write (second i) (le_bytes 8 (get_or (e i) 2 0))) in
    c.write_u64-then-self-ne0-3.ensures ∙ (λ i. g.H.Hasher.write (third i) (le_bytes 8 (get_or (e i) 3 0)))
    ∙ four_writes g.H.Hasher.write c.args.state.now c.args.self.now (λ z. c.if-self-ne0.true (ap (λ (ws : List ℕ). get_or ws 1 0) e ∙ z))

pub returns-else-self-ne0 : goal.returns-else-self-ne0
returns-else-self-ne0 g c =
    let e : c.self.inside.words ≡ field_words c.args.self.now = sym (words_back c.self.inside.words c.self.invariant.fits) ∙ ap (λ (bs : List ℕ). field_words bs) c.self.view_is in
    c.write_u64.ensures ∙ (λ i. g.H.Hasher.write c.args.state.now (le_bytes 8 (get_or (e i) 0 0)))
    ∙ one_write g.H.Hasher.write c.args.state.now c.args.self.now (ap (λ (ws : List ℕ). get_or ws 1 0) (sym e) ∙ c.if-self-ne0.false)
