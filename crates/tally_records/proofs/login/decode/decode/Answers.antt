use Rattle.std.proofs.Common.{◌≡◌, ◌∙◌, ◌≤◌, ◌+◌, ◌-◌, ◌*◌, ◌++◌, ◌∷◌, [], List, ℕ, Result, take, drop, length, length-drop, refl, sym, ap, rules, arith, Ok, to_z, of_z}
use Rattle.std.specs.Int.{w32}
use Rattle.std.specs.Prelude.{FitsSigned}
use Rattle.std.proofs.lemmas.Int.{to_z-of_z}
use Rattle.std.proofs.lemmas.List.{length-take-le}
use Rattle.tally_records.specs.declared.fault.RecordFault.{RecordFault}
use Rattle.tally_records.specs.declared.login.LoginRecord.{LoginRecord}
use Rattle.tally_records.specs.LoginRecord.{login_fields}
use Rattle.tally_records.specs.Text.{text_of, field_words}
use Rattle.tally_records.specs.inside.Compact.Decoded.{with}
use Rattle.tally_records.specs.inside.Compact.Layout.{Covers, field_of, records}
use Rattle.tally_records.specs.inside.Compact.Words.{text_words}
use Rattle.tally_records.proofs.Compact.Tiling.{Covers-few}
use Rattle.tally_records.proofs.Compact.OneMore.{one_more}
use Rattle.tally_records.proofs.login.decode.decode.Goals as goal

pub overflow_cast-start : goal.overflow_cast-start
overflow_cast-start c =
    let few : length c.args.words.now.items ≤ 40 * length c.args.heads.now.items = Covers-few c.args.heads.now.items c.args.words.now.items c.requires.covers in
    omega (arith, few)

-- the words of the text of n bytes at an offset
abbrev text_words_at : ℕ → ℕ → List ℕ → List ℕ
text_words_at offset n bytes = text_words (field_words (take n (drop offset bytes)))

part_len : (bytes : List ℕ) (offset n : ℕ) → offset + n ≤ length bytes → length (take n (drop offset bytes)) ≡ n
part_len bytes offset n l = length-take-le n (drop offset bytes) (omega (arith, length-drop offset bytes))

same_ok : (x y : ℕ) (a b : Result ℕ RecordFault) → a ≡ Ok x → b ≡ Ok y → a ≡ b → x ≡ y
same_ok x y a b e f g = cc

left : goal.After-push_reserved → Type 0
left c = Covers c.push_reserved.new.self.items c.push_text-3.new.words.items
    × (records c.push_reserved.new.self.items c.push_text-3.new.words.items ≡ records c.args.heads.now.items c.args.words.now.items ++ login_fields c.args.bytes.now ∷ [])

added : (c : goal.After-push_reserved) → left c
unfolding left
added c =
    let bytes = c.args.bytes.now in
    let long : length bytes ≡ 384 = search rules in
    let line_len = part_len bytes 8 32 (omega arith) in
    let user_len = part_len bytes 44 32 (omega arith) in
    let remote_len = part_len bytes 76 256 (omega arith) in
    let fits : FitsSigned w32 c.time_at.result = search rules in
    let few_line : length (text_words_at 8 32 bytes) ≤ 4 = omega (arith, c.push_text.ensures.few) in
    let few_user : length (text_words_at 44 32 bytes) ≤ 4 = omega (arith, c.push_text-2.ensures.few) in
    let few_remote : length (text_words_at 76 256 bytes) ≤ 32 = omega (arith, c.push_text-3.ensures.few) in
    let time : to_z w32 (of_z w32 c.time_at.result) ≡ c.time_at.result = to_z-of_z w32 c.time_at.result fits in
    let start : c.len-start.result ≡ length c.args.words.now.items = omega arith in
    let line : c.len-user.result - c.len-start.result ≡ length (text_words_at 8 32 bytes) = omega (arith, c.push_text.ensures.len) in
    let user : c.len-remote.result - c.len-user.result ≡ length (text_words_at 44 32 bytes) = omega (arith, c.push_text-2.ensures.len) in
    let remote : c.len.result - c.len-remote.result ≡ length (text_words_at 76 256 bytes) = omega (arith, c.push_text-3.ensures.len) in
    one_more (text_words_at 8 32 bytes) (text_words_at 44 32 bytes) (text_words_at 76 256 bytes) c.in_ok-kind.kind c.time_at.result few_line few_user few_remote
    c.args.heads.now.items c.push_reserved.new.self.items c.args.words.now.items c.push_text-3.new.words.items _ (login_fields bytes) c.requires.covers c.push_reserved.ensures.items
    (c.push_text-3.ensures.items ∙ ap (λ (ws : List ℕ). ws ++ text_words_at 76 256 bytes) (c.push_text-2.ensures.items ∙ ap (λ (ws : List ℕ). ws ++ text_words_at 44 32 bytes) c.push_text.ensures.items))
    (λ i. record { time = time i; start = start i; kind = c.in_ok-kind.kind; line = line i; user = user i; remote = remote i })
    (sym (same_ok c.in_ok-kind.kind (login_fields bytes).kind (Ok c.in_ok-kind.kind) (Ok (login_fields bytes).kind) refl refl c.in_ok-kind.ensures.kind)) (sym c.time_at.ensures)
    (ap (λ (n : ℕ). field_of n (text_words_at 8 32 bytes)) (sym line_len) ∙ c.push_text.ensures.text ∙ ap (λ (n : ℕ). text_of n (take 32 (drop 8 bytes))) line_len)
    (ap (λ (n : ℕ). field_of n (text_words_at 44 32 bytes)) (sym user_len) ∙ c.push_text-2.ensures.text ∙ ap (λ (n : ℕ). text_of n (take 32 (drop 44 bytes))) user_len)
    (ap (λ (n : ℕ). field_of n (text_words_at 76 256 bytes)) (sym remote_len) ∙ c.push_text-3.ensures.text ∙ ap (λ (n : ℕ). text_of n (take 256 (drop 76 bytes))) remote_len)

pub returns-clause-covers : goal.returns-clause-covers
unfolding left
returns-clause-covers c = (added c).0

pub returns-clause-exact : goal.returns-clause-exact
unfolding left
returns-clause-exact c =
    ap (λ (r : Result LoginRecord RecordFault). with (records c.args.heads.now.items c.args.words.now.items) r) c.in_ok-kind.ensures.exact
    ∙ ap (λ (rs : List LoginRecord). Ok rs) (sym (added c).1)
