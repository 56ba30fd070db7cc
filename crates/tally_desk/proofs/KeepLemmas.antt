-- Passes that know no less.
use Rattle.std.proofs.Common.{◌≡◌, ◌≤◌, ◌⊎◌, ◌∙◌, ℕ, inl, inr, refl, subst, sym, arith}
use Rattle.tally_desk.specs.Passes.{IsCurrent, Keeps, PassState, told_pass}
use Rattle.tally_desk.proofs.Histories.{follows_self, follows_trans}

pub keeps_same : (p : PassState) → Keeps p p
keeps_same p = record {
  desk = refl;
  number = refl;
  seen = follows_self p.seen;
  legal = λ legal. legal;
  told = omega arith;
}

pub keeps_trans : (p q r : PassState) → Keeps p q → Keeps q r → Keeps p r
keeps_trans p q r first next = record {
  desk = next.desk ∙ first.desk;
  number = next.number ∙ first.number;
  seen = follows_trans p.seen q.seen r.seen first.seen next.seen;
  legal = λ legal. next.legal (first.legal legal);
  told = omega (arith, first.told, next.told);
}

-- a pass that then learned how many calls there are
pub keeps_told : (p q : PassState) (calls : ℕ) → Keeps p q → q.told ≤ calls → Keeps p (told_pass calls q)
keeps_told p q calls kept more = record {
  desk = kept.desk;
  number = kept.number;
  seen = kept.seen;
  legal = kept.legal;
  told = omega (arith, kept.told, more);
}

-- a pass that is as it was, or current, after two steps that leave it so
pub still_current : (p q r : PassState) → (q ≡ p) ⊎ IsCurrent q → (r ≡ q) ⊎ IsCurrent r → (r ≡ p) ⊎ IsCurrent r
still_current p q r (inl same) (inl still) = inl (still ∙ same)
still_current p q r (inr current) (inl still) = inr (subst IsCurrent (sym still) current)
still_current p q r first (inr current) = inr current
