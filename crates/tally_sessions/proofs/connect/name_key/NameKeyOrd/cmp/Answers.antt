use Rattle.std.proofs.Common.{◌∙◌, sym}
use Rattle.tally_sessions.proofs.connect.NameBytes.{by_words, decided, level}
use Rattle.tally_sessions.proofs.connect.name_key.NameKeyOrd.cmp.Goals as goal

pub returns-then-self-other : goal.returns-then-self-other
returns-then-self-other c = c.cmp.ensures ∙ sym (by_words c.self.invariant c.other.invariant c.self.view_is c.other.view_is ∙ decided _ _ _ c.if-self-other.true)

pub returns-then-self-other-2 : goal.returns-then-self-other-2
returns-then-self-other-2 c =
    c.cmp-then-self-other-2.ensures
    ∙ sym (by_words c.self.invariant c.other.invariant c.self.view_is c.other.view_is ∙ level _ _ _ c.if-self-other.false ∙ decided _ _ _ c.if-self-other-2.true)

pub returns-then-self-other-3 : goal.returns-then-self-other-3
returns-then-self-other-3 c =
    c.cmp-then-self-other-3.ensures
    ∙ sym (by_words c.self.invariant c.other.invariant c.self.view_is c.other.view_is
    ∙ level _ _ _ c.if-self-other.false ∙ level _ _ _ c.if-self-other-2.false ∙ decided _ _ _ c.if-self-other-3.true)

pub returns-else-self-other-3 : goal.returns-else-self-other-3
returns-else-self-other-3 c =
    c.cmp-else-self-other-3.ensures
    ∙ sym (by_words c.self.invariant c.other.invariant c.self.view_is c.other.view_is
    ∙ level _ _ _ c.if-self-other.false ∙ level _ _ _ c.if-self-other-2.false ∙ level _ _ _ c.if-self-other-3.false)
