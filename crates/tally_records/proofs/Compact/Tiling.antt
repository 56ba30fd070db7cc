-- What heads that tile the words say.
use Rattle.std.proofs.Common.{◌≡◌, ℕ, ◌+◌, ◌*◌, ◌<◌, ◌≤◌, zero, suc, List, [], ◌∷◌, ◌++◌, length, map, take, drop, get_or, slice_get, All, Option, Some, option_map, length-append, refl, sym, ap, subst, ◌∙◌, arith}
use Rattle.std.proofs.lemmas.List.{length-drop, drop-append-le, take-append-le, map-append}
use Rattle.std.proofs.lemmas.List.Elements.{All-append, All-map}
use Rattle.std.proofs.lemmas.Option.{get_or_from_slice_get, slice_get-map, slice_get_within}
use Rattle.std.proofs.Math.Seq.{drop-append-add}
use Rattle.tally_records.specs.declared.login.LoginRecord.{LoginRecord}
use Rattle.tally_records.specs.declared.login.head.Head.{Head}
use Rattle.tally_records.specs.inside.Compact.Layout.{IsHead, Tiles, moved, Covers, field_of, part, record_at, records, size}

pub Tiles-le : (hs : List Head) (from end : ℕ) → Tiles from hs end → from ≤ end
Tiles-le [] from end t = omega arith
Tiles-le (h ∷ hs) from end t = let next : from + size h ≤ end = Tiles-le hs (from + size h) end t.1 in omega arith

-- each head's words are within
pub Tiles-at : (hs : List Head) (from end k : ℕ) (d : Head) → Tiles from hs end → k < length hs → (get_or hs k d).start + size (get_or hs k d) ≤ end
Tiles-at [] from end k d t l = absurd (omega arith)
Tiles-at (h ∷ hs) from end zero d t l = let next : from + size h ≤ end = Tiles-le hs (from + size h) end t.1 in omega arith
Tiles-at (h ∷ hs) from end (suc k) d t l = Tiles-at hs (from + size h) end k d t.1 (omega arith)

pub Tiles-append : (hs more : List Head) (from mid end : ℕ) → Tiles from hs mid → Tiles mid more end → Tiles from (hs ++ more) end
Tiles-append [] more from mid end t u = subst (λ (n : ℕ). Tiles n more end) (sym t) u
Tiles-append (h ∷ hs) more from mid end t u = (t.0, Tiles-append hs more (from + size h) mid end t.1 u)

pub Tiles-moved : (hs : List Head) (base from end : ℕ) → Tiles from hs end → Tiles (base + from) (map (moved base) hs) (base + end)
Tiles-moved [] base from end t = ap (λ (n : ℕ). base + n) t
Tiles-moved (h ∷ hs) base from end t =
    let assoc : base + (from + size h) ≡ base + from + size h = omega arith in
    (ap (λ (n : ℕ). base + n) t.0, subst (λ (n : ℕ). Tiles n (map (moved base) hs) (base + end)) assoc (Tiles-moved hs base (from + size h) end t.1))

-- words that follow change no part
part-grown : (words more : List ℕ) (start count : ℕ) → start + count ≤ length words → part start count (words ++ more) ≡ part start count words
part-grown words more start count l =
    let fits : count ≤ length (drop start words) = omega (arith, length-drop start words) in
    ap (λ (ws : List ℕ). take count ws) (drop-append-le start words more (omega arith)) ∙ take-append-le count (drop start words) more fits

pub record_at-grown : (words more : List ℕ) (h : Head) → h.start + size h ≤ length words → record_at (words ++ more) h ≡ record_at words h
unfolding record_at
record_at-grown words more h l =
    let line = part-grown words more h.start h.line (omega arith) in
    let user = part-grown words more (h.start + h.line) h.user (omega arith) in
    let remote = part-grown words more (h.start + h.line + h.user) h.remote (omega arith) in
    λ i. record { kind = h.kind; line = field_of 32 (line i); user = field_of 32 (user i); remote = field_of 256 (remote i); time = h.time }

-- a part of what follows
part-moved : (words more : List ℕ) (start at count : ℕ) → at ≡ length words + start → part at count (words ++ more) ≡ part start count more
part-moved words more start at count e =
    ap (λ (n : ℕ). part n count (words ++ more)) e ∙ ap (λ (ws : List ℕ). take count ws) (drop-append-add words more start)

pub record_at-moved : (words more : List ℕ) (h : Head) → record_at (words ++ more) (moved (length words) h) ≡ record_at more h
unfolding record_at
record_at-moved words more h =
    let line = part-moved words more h.start (length words + h.start) h.line (omega arith) in
    let user = part-moved words more (h.start + h.line) (length words + h.start + h.line) h.user (omega arith) in
    let remote = part-moved words more (h.start + h.line + h.user) (length words + h.start + h.line + h.user) h.remote (omega arith) in
    λ i. record { kind = h.kind; line = field_of 32 (line i); user = field_of 32 (user i); remote = field_of 256 (remote i); time = h.time }

records-grown : (words more : List ℕ) (hs : List Head) (from : ℕ) → Tiles from hs (length words) → records hs (words ++ more) ≡ records hs words
records-grown words more [] from t = refl
records-grown words more (h ∷ hs) from t =
    let next : from + size h ≤ length words = Tiles-le hs (from + size h) (length words) t.1 in
    λ i. record_at-grown words more h (omega arith) i ∷ records-grown words more hs (from + size h) t.1 i

records-moved : (words more : List ℕ) (hs : List Head) → records (map (moved (length words)) hs) (words ++ more) ≡ records hs more
records-moved words more [] = refl
records-moved words more (h ∷ hs) = λ i. record_at-moved words more h i ∷ records-moved words more hs i

-- no record has more than 40 words
few_words : (hs : List Head) (from end : ℕ) → Tiles from hs end → All IsHead hs → end ≤ from + 40 * length hs
few_words [] from end t all = omega arith
few_words (h ∷ hs) from end t all =
    let small : IsHead h = all 0 h (omega arith) in
    let a : h.line ≤ 4 = small.line in let b : h.user ≤ 4 = small.user in let d : h.remote ≤ 32 = small.remote in
    let next : end ≤ from + size h + 40 * length hs = few_words hs (from + size h) end t.1 (λ k d l. all (suc k) d (omega arith)) in
    omega arith

pub Covers-few : (hs : List Head) (words : List ℕ) → Covers hs words → length words ≤ 40 * length hs
Covers-few hs words c = omega (arith, few_words hs 0 (length words) c.tiles c.heads)

-- the words of the head at a place
pub Covers-get : (hs : List Head) (words : List ℕ) (k : ℕ) (h : Head) → Covers hs words → slice_get hs k ≡ Some h → h.start + size h ≤ length words
Covers-get hs words k h c e =
    subst (λ (g : Head). g.start + size g ≤ length words) (get_or_from_slice_get hs k h h e) (Tiles-at hs 0 (length words) k h c.tiles (slice_get_within hs k h e))

pub Covers-append : (hs more : List Head) (words others : List ℕ) → Covers hs words → Covers more others → Covers (hs ++ map (moved (length words)) more) (words ++ others)
Covers-append hs more words others c d = record {
  tiles = Tiles-append hs (map (moved (length words)) more) 0 (length words) (length (words ++ others)) c.tiles
      (rw length-append (subst (λ (n : ℕ). Tiles n (map (moved (length words)) more) (length words + length others)) (omega arith) (Tiles-moved more (length words) 0 (length others) d.tiles)));
  heads = All-append IsHead hs (map (moved (length words)) more) c.heads
      (All-map IsHead (moved (length words)) more (λ k e l. let s = d.heads k e l in record { line = s.line; user = s.user; remote = s.remote }));
}

pub records-append : (hs more : List Head) (words others : List ℕ) → Covers hs words → records (hs ++ map (moved (length words)) more) (words ++ others) ≡ records hs words ++ records more others
records-append hs more words others c =
    map-append (record_at (words ++ others)) hs (map (moved (length words)) more)
    ∙ (λ i. records-grown words others hs 0 c.tiles i ++ records-moved words others more i)

pub records-get : (hs : List Head) (words : List ℕ) (k : ℕ) → slice_get (records hs words) k ≡ option_map (record_at words) (slice_get hs k)
records-get hs words k = slice_get-map (record_at words) hs k

-- what an append leaves
pub appended : (hs more hs' : List Head) (words others words' : List ℕ) (base : ℕ) → Covers hs words → Covers more others → base ≡ length words
    → hs' ≡ hs ++ map (moved base) more → words' ≡ words ++ others → Covers hs' words' × (records hs' words' ≡ records hs words ++ records more others)
appended hs more hs' words others words' base c d b e f =
    let g : hs' ≡ hs ++ map (moved (length words)) more = e ∙ ap (λ (n : ℕ). hs ++ map (moved n) more) b in (
      subst (λ (gs : List Head). Covers gs words') (sym g) (subst (λ (ws : List ℕ). Covers (hs ++ map (moved (length words)) more) ws) (sym f) (Covers-append hs more words others c d)),
      (λ i. records (g i) (f i)) ∙ records-append hs more words others c,
    )

-- the head at a place is within its limits
pub Covers-small : (hs : List Head) (words : List ℕ) (k : ℕ) (h : Head) → Covers hs words → slice_get hs k ≡ Some h → IsHead h
Covers-small hs words k h c e = subst IsHead (get_or_from_slice_get hs k h h e) (c.heads k h (slice_get_within hs k h e))

-- the record at a place, by its head
pub found : (hs gs : List Head) (words : List ℕ) (rs : List LoginRecord) (k : ℕ) (h : Head) → records hs words ≡ rs → gs ≡ hs → slice_get gs k ≡ Some h → slice_get rs k ≡ Some (record_at words h)
found hs gs words rs k h view e at =
    ap (λ (qs : List LoginRecord). slice_get qs k) (sym view) ∙ records-get hs words k
    ∙ ap (λ (o : Option Head). option_map (record_at words) o) (ap (λ (fs : List Head). slice_get fs k) (sym e) ∙ at)

-- its head keeps what a call for its texts asks
pub readable : (hs gs : List Head) (words ws : List ℕ) (k : ℕ) (h : Head) → Covers hs words → gs ≡ hs → slice_get gs k ≡ Some h → ws ≡ words → (h.start + size h ≤ length ws) × IsHead h
readable hs gs words ws k h c e at f =
    let there : slice_get hs k ≡ Some h = ap (λ (fs : List Head). slice_get fs k) (sym e) ∙ at in
    (subst (λ (us : List ℕ). h.start + size h ≤ length us) (sym f) (Covers-get hs words k h c there), Covers-small hs words k h c there)
