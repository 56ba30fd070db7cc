-- How texts are cut to fields, and how the bytes of records follow each other.
use Rattle.std.proofs.Common.{◌≡◌, OnOk, Result, Ok, Err, is_ok, if◌then◌else◌, ℕ, ◌-◌, ◌≤◌, min, List, [], ◌∷◌, ◌++◌, length, take, drop, replicate, sym, ap, ap₂, ◌∙◌, arith, append_assoc}
use Rattle.std.proofs.lemmas.List.{drop-replicate, length-take, take-take, take_min}
use Rattle.tally_records.specs.Text.{padded}
use Rattle.tally_wtmpdb.specs.Made.{zeros}

-- the fewer of two counts, from the front, where the text has so many bytes
pub cut_twice : (a n : ℕ) (xs : List ℕ) → a ≤ length xs → take (min a n) xs ≡ take n (take a xs)
cut_twice a n xs within =
    let len : length (take a xs) ≡ a = length-take a xs ∙ omega arith in
    let fewer : min n (length (take a xs)) ≡ min a n = omega (arith, len) in
    sym (ap (λ (k : ℕ). take k (take a xs)) fewer ∙ take-take (min a n) a xs (omega arith)) ∙ take_min n (take a xs)

-- what an appending gives where it was done
pub appended : {E : Type 0} (r : Result (Unit {0}) E) (new old more : List ℕ) → new ≡ (if is_ok r then old ++ more else old) → OnOk r (new ≡ old ++ more)
appended (Ok done) new old more same = same
appended (Err error) new old more same = tt

-- a text and the zeros after it, in a name
pub name_is : (text copied : List ℕ) → copied ≡ text → copied ++ drop (length text) (replicate 32 0) ≡ padded 32 text
name_is text copied is = ap₂ (λ xs ys. xs ++ ys) is (drop-replicate (length text) 32 0)

-- bytes that come after others
pub grow : (out so_far x more y : List ℕ) → x ≡ out ++ so_far → y ≡ x ++ more → y ≡ out ++ (so_far ++ more)
grow out so_far x more y e f = f ∙ ap (λ (l : List ℕ). l ++ more) e ∙ append_assoc out so_far more

-- a text and the zeros after it
pub filled : (n k : ℕ) (out x y text kept : List ℕ) → x ≡ out ++ text → y ≡ x ++ zeros k → k ≡ n - length text → text ≡ kept → y ≡ out ++ padded n kept
filled n k out x y text kept e f g h =
    grow out text x (zeros k) y e f ∙ ap (λ (j : ℕ). out ++ (text ++ zeros j)) g ∙ ap (λ (t : List ℕ). out ++ padded n t) h

-- the parts of a record, one after the other
pub laid : (out : List ℕ) (kind : ℕ) (line user remote time a b c d e f g h y : List ℕ) → a ≡ out ++ kind ∷ [] → b ≡ a ++ zeros 7 → c ≡ b ++ line → d ≡ c ++ zeros 4
    → e ≡ d ++ user → f ≡ e ++ remote → g ≡ f ++ zeros 8 → h ≡ g ++ time → y ≡ h ++ zeros 40
    → y ≡ out ++ (kind ∷ zeros 7 ++ line ++ zeros 4 ++ user ++ remote ++ zeros 8 ++ time ++ zeros 40)
laid out kind line user remote time a b c d e f g h y e1 e2 e3 e4 e5 e6 e7 e8 e9 =
    let head = kind ∷ zeros 7 in
    let r2 : b ≡ out ++ head = grow out (kind ∷ []) a (zeros 7) b e1 e2 in
    let r3 : c ≡ out ++ (head ++ line) = grow out head b line c r2 e3 in
    let r4 : d ≡ out ++ (head ++ line ++ zeros 4) = grow out (head ++ line) c (zeros 4) d r3 e4 in
    let r5 : e ≡ out ++ (head ++ line ++ zeros 4 ++ user) = grow out (head ++ line ++ zeros 4) d user e r4 e5 in
    let r6 : f ≡ out ++ (head ++ line ++ zeros 4 ++ user ++ remote) = grow out (head ++ line ++ zeros 4 ++ user) e remote f r5 e6 in
    let r7 : g ≡ out ++ (head ++ line ++ zeros 4 ++ user ++ remote ++ zeros 8) = grow out (head ++ line ++ zeros 4 ++ user ++ remote) f (zeros 8) g r6 e7 in
    let r8 : h ≡ out ++ (head ++ line ++ zeros 4 ++ user ++ remote ++ zeros 8 ++ time) = grow out (head ++ line ++ zeros 4 ++ user ++ remote ++ zeros 8) g time h r7 e8 in
    grow out (head ++ line ++ zeros 4 ++ user ++ remote ++ zeros 8 ++ time) h (zeros 40) y r8 e9
