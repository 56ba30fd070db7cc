-- What was counted of a file's bytes is what is found of them.
use Rattle.std.proofs.Common.{◌≡◌, ◌∙◌, ℕ, ◌%◌, ◌<◌, ◌≤◌, true, cond, List, ◌++◌, inl, inr, Option, Some, None, Result, Ok, Err, IfErr, IfSome, length, take, ap, sym, refl, subst, arith, append-nil, length-take-le}
use Rattle.std.proofs.Math.Seq.{take-append_seam}
use Rattle.std.proofs.lemmas.Bool.{cases_lt}
use Rattle.std.proofs.lemmas.List.{take_all}
use Rattle.std.specs.Io.KnownBytes.{Consumes, IsAtEnd, prepend_known}
use Rattle.std.specs.Fmt.{option_append}
use Rattle.std.specs.Prelude.{nat_lt}
use Rattle.tally_check.specs.Findings.{content_of, findings_of, logins_found, procs_found}
use Rattle.tally_check.specs.Kinds.{IsCheckFault, damaged_kind, guess_of, has_logins, has_procs, kind_by, login_kind}
use Rattle.tally_check.specs.Stays.{stays_among, weighed}
use Rattle.tally_check.specs.declared.fault.CheckFault.{CheckFault}
use Rattle.tally_check.specs.declared.fault.CheckFault.TheVariants.{Memory, Read, TooManyBytes, TooManyRecords}
use Rattle.tally_check.specs.declared.findings.Content.TheVariants as content
use Rattle.tally_check.specs.declared.findings.LoginFindings.{LoginFindings}
use Rattle.tally_check.specs.declared.findings.ProcFindings.{ProcFindings}
use Rattle.tally_check.specs.declared.kind.FileKind.{FileKind}
use Rattle.tally_check.specs.declared.kind.FileKind.TheVariants as kind
use Rattle.tally_check.specs.declared.kind.Guess.{Guess}
use Rattle.tally_check.specs.declared.kind.Guess.TheVariants as guess
use Rattle.tally_check.specs.declared.notes.LoginNotes.{LoginNotes}
use Rattle.tally_check.specs.declared.notes.ProcNotes.{ProcNotes}
use Rattle.tally_check.specs.declared.tally.Tally.{Tally}
use Rattle.tally_check.specs.inside.Endings.{content_counted, damaged_counted, found, kind_counted_by, logins_counted, procs_counted}
use Rattle.tally_check.specs.inside.Reading.{IsWhole}
use Rattle.tally_check.specs.inside.Tallies.{IsTallyOf}
use Rattle.tally_kinds.specs.Kinds.{looks_of}
use Rattle.tally_kinds.specs.declared.kinds.Looks.{Looks}
use Rattle.tally_kinds.specs.declared.kinds.Looks.TheVariants as looks
use Rattle.tally_sessions.specs.State.{State}

module _ (bytes : List ℕ) (tally : Tally) (kept : State) (all : IsTallyOf bytes tally kept) where
  logins-found : has_logins tally.guess ≡ true → logins_counted tally kept ≡ logins_found bytes
  logins-found has =
      let are = all.logins has in
      let counts = ap (λ (n : LoginNotes). n.counts) are.noted in
      let types = ap (λ (n : LoginNotes). n.types) are.noted in
      let steps = ap (λ (n : LoginNotes). n.walk.steps) are.noted in
      let sessions = ap (λ (s : State). weighed (stays_among s.entries)) are.posted in
      let rest = ap (λ (n : ℕ). n % 384) all.size in
      λ i. record { counts = counts i; types = types i; steps = steps i; sessions = sessions i; rest = rest i }

  procs-found : has_procs tally.guess ≡ true → procs_counted tally ≡ procs_found bytes
  procs-found has =
      let noted = all.procs has in
      let counts = ap (λ (n : ProcNotes). n.counts) noted in
      let two = ap (λ (n : ProcNotes). n.version_2) noted in
      let three = ap (λ (n : ProcNotes). n.version_3) noted in
      let rest = ap (λ (n : ℕ). n % 64) all.size in
      λ i. record { counts = counts i; version_2 = two i; version_3 = three i; rest = rest i }

  content-found : (k : FileKind) → (k ≡ kind.Logins → has_logins tally.guess ≡ true) → (k ≡ kind.Processes → has_procs tally.guess ≡ true)
      → content_counted k tally kept ≡ content_of k bytes
  content-found kind.Logins logins procs = ap (λ (f : LoginFindings). content.Logins f) (logins-found (logins refl))
  content-found kind.Processes logins procs = ap (λ (f : ProcFindings). content.Processes f) (procs-found (procs refl))
  content-found (kind.Other other) logins procs = refl

  damaged-found : has_logins tally.guess ≡ true → has_procs tally.guess ≡ true → damaged_counted tally ≡ damaged_kind bytes
  damaged-found logins procs =
      let mostly_logins = ap (λ (n : LoginNotes). nat_lt n.counts.unknown.count n.typed) (all.logins logins).noted in
      let mostly_procs = ap (λ (n : ProcNotes). nat_lt n.counts.unknown.count n.typed) (all.procs procs) in
      λ i. cond (mostly_logins i) kind.Logins (cond (mostly_procs i) kind.Processes (kind.Other looks.Unknown))

  module _ (front : List ℕ) (begins : front ≡ take 4096 bytes) where
    kind-found : (g : Guess) → tally.guess ≡ g → kind_counted_by g front tally ≡ kind_by g bytes
    kind-found guess.Logins is = ap (λ (f : List ℕ). login_kind (looks_of f tally.size)) begins ∙ ap (λ (n : ℕ). login_kind (looks_of (take 4096 bytes) n)) all.size
    kind-found guess.Processes is = refl
    kind-found guess.Damaged is = damaged-found (ap has_logins is) (ap has_procs is)
    kind-found (guess.Other other) is = refl

    by : (g : Guess) → tally.guess ≡ g → content_counted (kind_counted_by g front tally) tally kept ≡ content_of (kind_by g bytes) bytes
    by guess.Logins is =
        ap (λ (k : FileKind). content_counted k tally kept) (kind-found guess.Logins is)
        ∙ content-found (kind_by guess.Logins bytes) (λ k. ap has_logins is) (λ k. absurd (no_procs (looks_of (take 4096 bytes) (length bytes)) k))
      where
        no_procs : (l : Looks) → login_kind l ≡ kind.Processes → ⊥
        no_procs looks.Logins400 k = cc
        no_procs other k = cc
    by guess.Processes is = content-found kind.Processes (λ k. cc) (λ k. ap has_procs is)
    by guess.Damaged is =
        ap (λ (k : FileKind). content_counted k tally kept) (kind-found guess.Damaged is)
        ∙ content-found (kind_by guess.Damaged bytes) (λ k. ap has_logins is) (λ k. ap has_procs is)
    by (guess.Other other) is = refl

    pub found-is : tally.guess ≡ guess_of front → found front tally kept ≡ findings_of bytes
    found-is is =
        let content : content_counted (kind_counted_by tally.guess front tally) tally kept ≡ content_of (kind_by (guess_of (take 4096 bytes)) bytes) bytes =
        ap (λ (g : Guess). content_counted (kind_counted_by g front tally) tally kept) (is ∙ ap guess_of begins) ∙ by (guess_of (take 4096 bytes)) (is ∙ ap guess_of begins) in
        let size = all.size in
        λ i. record { size = size i; content = content i }

-- ---- a front and what follows

-- what is known of a front and then of what follows it
pub known-front : (front : List ℕ) (b : Option (List ℕ)) → option_append (Some front) b ≡ prepend_known front b
known-front front None = refl
known-front front (Some ys) = refl

pub found-whole : (known : Option (List ℕ)) (front : List ℕ) (tally : Tally) (kept : State) → IfSome known (λ bytes. front ≡ take 4096 bytes) → tally.guess ≡ guess_of front → IsWhole known tally kept
    → IfSome known (λ bytes. found front tally kept ≡ findings_of bytes)
found-whole None front tally kept begins guess whole = tt
found-whole (Some bytes) front tally kept begins guess whole =
    found-is bytes tally kept (subst (λ (xs : List ℕ). IsTallyOf xs tally kept) (sym whole.all) whole.counted) front begins guess

pub front-is : (b : Option (List ℕ)) (block : List ℕ) (n : ℕ) → length block ≡ 4096 → n ≤ length block → (n < length block → IsAtEnd b)
    → IfSome (prepend_known (take n block) b) (λ bytes. take n block ≡ take 4096 bytes)
front-is None block n size within end = tt
front-is (Some ys) block n size within end = elim (cases_lt n 4096) [
  | inl short ↦
      sym (ap (λ (l : List ℕ). take 4096 (take n block ++ l)) (end (omega (arith, size, short))) ∙ ap (take 4096) (append-nil (take n block))
      ∙ take_all 4096 (take n block) (omega (arith, short, length-take-le n block within)))
  | inr full ↦
      (let long : length (take n block) ≡ 4096 = omega (arith, full, size, within, length-take-le n block within) in
      sym (ap (λ (m : ℕ). take m (take n block ++ ys)) (sym long) ∙ take-append_seam (take n block) ys))
]

pub full-is : (b : Option (List ℕ)) (block : List ℕ) → length block ≡ 4096 → IfSome (prepend_known block b) (λ bytes. block ≡ take 4096 bytes)
full-is None block size = tt
full-is (Some ys) block size = sym (ap (λ (m : ℕ). take m (block ++ ys)) (sym size) ∙ take-append_seam block ys)

-- the fault of what is left after a front is that of the whole
pub fault-whole : (a b : Option (List ℕ)) (front : List ℕ) (fault : CheckFault) → Consumes a b front → IsCheckFault (prepend_known front b) fault → IsCheckFault a fault
fault-whole None b front Memory taken is = tt
fault-whole None b front Read taken is = tt
fault-whole None b front (TooManyRecords most) taken is = tt
fault-whole None b front (TooManyBytes most) taken is = tt
fault-whole (Some bytes) None front fault taken is = absurd taken
fault-whole (Some bytes) (Some ys) front fault taken is = subst (λ (xs : List ℕ). IsCheckFault (Some xs) fault) (sym taken) is

pub if_err : {T E : Type 0} {P Q : E → Type 0} (r : Result T E) → ((fault : E) → P fault → Q fault) → IfErr r P → IfErr r Q
if_err (Ok value) f is = tt
if_err (Err fault) f is = f fault is
