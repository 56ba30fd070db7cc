-- How users and remote hosts are compared and hashed.
use Rattle.std.proofs.Common.{◌≡◌, ◌∷◌, [], Bool, true, false, ◌&&◌, refl, sym}
use Rattle.std.proofs.lemmas.Bool.{false≢true}
use Rattle.std.specs.Cmp.Lexicographic.{same_text}
use Rattle.std.specs.Hash as fed
use Rattle.std.specs.Str.{bytes_eq}
use Rattle.tally_attempts.specs.declared.source.Source.{Source}
use Rattle.tally_records.specs.Text.{whole_words}

-- the same user and the same remote host
abbrev pub is_same : Source → Source → Bool
is_same a b = bytes_eq a.user b.user && bytes_eq a.remote b.remote

both : (a b : Bool) → (a && b) ≡ true → (a ≡ true) × (b ≡ true)
both true b h = (refl, h)
both false b h = absurd (false≢true h)

-- the test is equality
pub same_source : (a b : Source) → is_same a b ≡ true → a ≡ b
same_source a b h =
    let p = both (bytes_eq a.user b.user) (bytes_eq a.remote b.remote) h in
    let user = same_text a.user b.user (sym p.0) in
    let remote = same_text a.remote b.remote (sym p.1) in
    λ i. record { user = user i; remote = remote i }

-- what hashes a source: the words of its user, and then those of its remote host
abbrev pub writes_of : Source → fed.HashWrites
writes_of s = whole_words s.user ∷ whole_words s.remote ∷ []

-- the same source is hashed by the same writes
pub same_writes : (a b : Source) → is_same a b ≡ true → writes_of a ≡ writes_of b
same_writes a b h = λ i. writes_of (same_source a b h i)
