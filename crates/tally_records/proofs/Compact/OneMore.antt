-- One more record after those of heads and words.
use Rattle.std.proofs.Common.{◌≡◌, ℕ, ◌+◌, ◌≤◌, List, [], ◌∷◌, ◌++◌, length, map, take, length-append, append_assoc, refl, sym, ap, ◌∙◌, arith, ℤ}
use Rattle.std.proofs.lemmas.List.{append-nil, drop_at, take_at}
use Rattle.std.proofs.lemmas.List.Elements.{All-cons, All-nil}
use Rattle.tally_records.specs.declared.login.LoginRecord.{LoginRecord}
use Rattle.tally_records.specs.declared.login.head.Head.{Head}
use Rattle.tally_records.specs.inside.Compact.Layout.{Covers, IsHead, field_of, moved, part, record_at, records}
use Rattle.tally_records.proofs.Compact.Tiling.{appended}

part_at : (xs ys zs : List ℕ) (start count : ℕ) → length xs ≡ start → length ys ≡ count → part start count (xs ++ (ys ++ zs)) ≡ ys
part_at xs ys zs start count e f = ap (λ (ws : List ℕ). take count ws) (drop_at xs (ys ++ zs) start e) ∙ take_at ys zs count f

module _ (line user remote : List ℕ) (kind : ℕ) (time : ℤ) (few_line : length line ≤ 4) (few_user : length user ≤ 4) (few_remote : length remote ≤ 32) where
  -- the head of the words alone
  abbrev alone : Head
  alone = record { time = time; start = 0; kind = kind; line = length line; user = length user; remote = length remote }

  Covers-alone : Covers (alone ∷ []) (line ++ (user ++ remote))
  Covers-alone = record {
    tiles = (refl, omega (arith, length-append line (user ++ remote), length-append user remote));
    heads = All-cons IsHead alone [] (record { line = few_line; user = few_user; remote = few_remote }) (All-nil IsHead);
  }

  record-alone : (r : LoginRecord) → r.kind ≡ kind → r.time ≡ time → field_of 32 line ≡ r.line → field_of 32 user ≡ r.user → field_of 256 remote ≡ r.remote → record_at (line ++ (user ++ remote)) alone ≡ r
  unfolding record_at
  record-alone r k t l u h =
      let a : part 0 (length line) (line ++ (user ++ remote)) ≡ line = part_at [] line (user ++ remote) 0 (length line) refl refl in
      let b : part (0 + length line) (length user) (line ++ (user ++ remote)) ≡ user = part_at line user remote (0 + length line) (length user) (omega arith) refl in
      let three : line ++ (user ++ remote) ≡ (line ++ user) ++ (remote ++ []) = sym (append_assoc line user remote) ∙ ap (λ (ws : List ℕ). (line ++ user) ++ ws) (sym (append-nil remote)) in
      let d : part (0 + length line + length user) (length remote) (line ++ (user ++ remote)) ≡ remote =
      ap (λ (ws : List ℕ). part (0 + length line + length user) (length remote) ws) three ∙ part_at (line ++ user) remote [] (0 + length line + length user) (length remote) (omega (arith, length-append line user)) refl in
      λ i. record {
        kind = sym k i;
        line = (ap (λ (ws : List ℕ). field_of 32 ws) a ∙ l) i;
        user = (ap (λ (ws : List ℕ). field_of 32 ws) b ∙ u) i;
        remote = (ap (λ (ws : List ℕ). field_of 256 ws) d ∙ h) i;
        time = sym t i;
      }

  pub one_more : (hs hs' : List Head) (words words' : List ℕ) (h : Head) (r : LoginRecord) → Covers hs words → hs' ≡ hs ++ h ∷ [] → words' ≡ ((words ++ line) ++ user) ++ remote
      → h ≡ record alone { start = length words } → r.kind ≡ kind → r.time ≡ time → field_of 32 line ≡ r.line → field_of 32 user ≡ r.user → field_of 256 remote ≡ r.remote
      → Covers hs' words' × (records hs' words' ≡ records hs words ++ r ∷ [])
  one_more hs hs' words words' h r c e f is k t l u m =
      let behind : length words ≡ length words + 0 = omega arith in
      let heads : hs' ≡ hs ++ map (moved (length words)) (alone ∷ []) = e ∙ ap (λ (g : Head). hs ++ g ∷ []) (is ∙ ap (λ (n : ℕ). record alone { start = n }) behind) in
      let all : words' ≡ words ++ (line ++ (user ++ remote)) =
      f ∙ ap (λ (ws : List ℕ). ws ++ remote) (append_assoc words line user) ∙ append_assoc words (line ++ user) remote ∙ ap (λ (ws : List ℕ). words ++ ws) (append_assoc line user remote) in
      let a = appended hs (alone ∷ []) hs' words (line ++ (user ++ remote)) words' (length words) c Covers-alone refl heads all in
      (a.0, a.1 ∙ ap (λ (q : LoginRecord). records hs words ++ q ∷ []) (record-alone r k t l u m))
